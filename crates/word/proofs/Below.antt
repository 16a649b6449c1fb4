-- Lists whose elements are all below a bound, as lists of words and of bytes are: their parts, and lists put together from them. Assumes nothing.
use Rattle.std.proofs.Common.{ℕ, zero, suc, ◌+◌, ◌%◌, ◌<◌, List, [], ◌∷◌, ◌++◌, map, take, drop, replicate, sym, subst, mod-lt, arith, get_or-drop}
use Rattle.word.specs.Lists.{AllBelow, list_of}

module _ {b : ℕ} where
  pub none_below : 0 < b → AllBelow b []
  none_below h i = h

  -- one element more, in front
  pub more-below : (x : ℕ) (xs : List ℕ) → x < b → AllBelow b xs → AllBelow b (x ∷ xs)
  more-below x xs l h zero = l
  more-below x xs l h (suc i) = h i

  pub append-below : (xs ys : List ℕ) → AllBelow b xs → AllBelow b ys → AllBelow b (xs ++ ys)
  append-below [] ys h k = k
  append-below (x ∷ xs) ys h k = more-below x (xs ++ ys) (h 0) (append-below xs ys (λ i. h (suc i)) k)

  -- one element more, at the end
  pub last-below : (xs : List ℕ) (x : ℕ) → AllBelow b xs → x < b → AllBelow b (xs ++ (x ∷ []))
  last-below xs x h l = append-below xs (x ∷ []) h (more-below x [] l (none_below (omega arith)))

  pub replicate-below : (n x : ℕ) → x < b → AllBelow b (replicate n x)
  replicate-below zero x l = none_below (omega arith)
  replicate-below (suc n) x l = more-below x (replicate n x) l (replicate-below n x l)

  pub take_below : (n : ℕ) (xs : List ℕ) → AllBelow b xs → AllBelow b (take n xs)
  take_below zero xs h = none_below (omega (arith, h 0))
  take_below (suc n) [] h = h
  take_below (suc n) (x ∷ xs) h = more-below x (take n xs) (h 0) (take_below n xs (λ i. h (suc i)))

  pub drop-below : (n : ℕ) (xs : List ℕ) → AllBelow b xs → AllBelow b (drop n xs)
  drop-below n xs h i = subst (λ (x : ℕ). x < b) (sym (get_or-drop n xs i 0)) (h (n + i))

  -- the values of a function
  pub list-below : 0 < b → (f : ℕ → ℕ) (n : ℕ) → ((i : ℕ) → f i < b) → AllBelow b (list_of f n)
  unfolding list_of
  list-below p f zero h = none_below p
  list-below p f (suc n) h = last-below (list_of f n) (f n) (list-below p f n h) (h n)

  -- remainders
  pub remainders-below : 0 < b → (xs : List ℕ) → AllBelow b (map (λ x. x % b) xs)
  remainders-below p [] = none_below p
  remainders-below p (x ∷ xs) = more-below (x % b) (map (λ y. y % b) xs) (mod-lt x p) (remainders-below p xs)
