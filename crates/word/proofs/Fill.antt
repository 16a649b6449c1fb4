-- Lists of the values of a function: their elements, and an array that is filled with them from the front. Assumes nothing.
use Rattle.std.proofs.Common.{◌≡◌, ℕ, zero, suc, ◌+◌, ◌<◌, ◌≤◌, List, [], ◌∷◌, ◌++◌, length, get_or, take, set, sym, refl, ap, ◌∙◌, subst, ap₂, ⊎_elim, not-suc-le-zero, eq-or-lt_of_le, add-one, arith, length-append, length-set, take_all, take-suc-set, below_more}
use lib.ListN.{get_or-append}
use lib.Seq.{get_or_at, take-append-le}
use Rattle.word.specs.Lists.{list_of}

pub list_length : (f : ℕ → ℕ) (n : ℕ) → length (list_of f n) ≡ n
unfolding list_of
list_length f zero = refl
list_length f (suc n) = length-append (list_of f n) (f n ∷ []) ∙ ap (λ (k : ℕ). k + 1) (list_length f n) ∙ add-one n

pub list_at : (f : ℕ → ℕ) (n i : ℕ) → i < n → get_or (list_of f n) i 0 ≡ f i
unfolding list_of
list_at f zero i h = absurd (not-suc-le-zero h)
list_at f (suc n) i h =
    below_more (λ (k : ℕ). get_or (list_of f n ++ (f n ∷ [])) k 0 ≡ f k) n
    (λ k l. get_or-append (list_of f n) (f n ∷ []) 0 k (rw (list_length f n) l) ∙ list_at f n k l)
    (get_or_at (list_of f n) (f n) [] 0 n (list_length f n)) i (omega arith)

pub list-take : (f : ℕ → ℕ) (n k : ℕ) → k ≤ n → take k (list_of f n) ≡ list_of f k
unfolding list_of
list-take f zero k h =
    let e : k ≡ 0 = omega arith in
    rw e
list-take f (suc n) k h =
    ⊎_elim (λ e. rw e (take_all (suc n) (list_of f (suc n)) (omega (arith, list_length f (suc n)))))
    (λ l. take-append-le k (list_of f n) (f n ∷ []) (omega (arith, list_length f n)) ∙ list-take f n k (omega arith)) (eq-or-lt_of_le h)

-- lists of the values of equal functions are equal
pub list_same : (f g : ℕ → ℕ) (n : ℕ) → ((i : ℕ) → i < n → f i ≡ g i) → list_of f n ≡ list_of g n
unfolding list_of
list_same f g zero h = refl
list_same f g (suc n) h =
    ap₂ (λ (xs : List ℕ) (x : ℕ). xs ++ (x ∷ [])) (list_same f g n (λ i l. h i (omega arith))) (h n (omega arith))

-- the first i of n places have the values of f
pub record Filled (f : ℕ → ℕ) (n : ℕ) (v : List ℕ) (i : ℕ) : Type 0 where
  pub bound : i ≤ n
  pub size : length v ≡ n
  pub so_far : take i v ≡ list_of f i

pub fill_none : (f : ℕ → ℕ) (n : ℕ) (v : List ℕ) → length v ≡ n → Filled f n v 0
unfolding list_of
fill_none f n v h = record { bound = omega arith; size = h; so_far = refl }

pub fill_more : (f : ℕ → ℕ) (n : ℕ) (v : List ℕ) (i x : ℕ) → Filled f n v i → i < n → x ≡ f i → Filled f n (set v i x) (i + 1)
unfolding list_of
fill_more f n v i x h l e =
    let g : i < length v = omega arith in
    record { bound = omega arith; size = length-set v i x ∙ h.size; so_far = rw (add-one i, take-suc-set v i x g, h.so_far, e) }

pub fill-all : (f : ℕ → ℕ) (n : ℕ) (v : List ℕ) (i : ℕ) → Filled f n v i → n ≤ i → v ≡ list_of f n
fill-all f n v i h l =
    let e : i ≡ n = omega arith in
    sym (take_all n v (omega arith)) ∙ subst (λ (k : ℕ). take k v ≡ list_of f k) e h.so_far
