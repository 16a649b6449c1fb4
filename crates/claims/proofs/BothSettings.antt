-- Both settings agree: with conditions every call, and a message under every cut, gives what lent masks that are each block's surviving bits
-- give. Assumes nothing.
use mathlib.Core.Path.{◌≡◌, refl, sym, ap, ◌∙◌}
use mathlib.Core.Bool.{Bool, true, false, not, ◌&&◌}
use mathlib.Core.List.{List, [], ◌++◌}
use Prim.Native.Nat.{ℕ, zero, suc, ◌+◌, ◌-◌, ◌*◌, ◌/◌, ◌≤◌}
use native.Mathlib.Nat.{mod-eq_of_lt}
use native.Mathlib.Omega.{arith}
use borrow.Author.Tests.{eq-eqb, leb-true}
use lib.Bits.{and_comm, and_mask}
use lib.Dec.{eqb, leb}
use lib.ListN.{length, take, drop, length-append}
use Rattle.std.specs.Prelude.{Err, Ok}
use Rattle.word.specs.Choice.{pick}
use Rattle.refusal.specs.Refusal.{first_of, Checked}
use Rattle.refusal.specs.declared.Refusal.TheVariants.{MaskCount}
use Rattle.octets.specs.Octets.{bytes64}
use Rattle.block.specs.Schedule.{words_of, schedule_of}
use Rattle.table.specs.Limits.{mask_bits}
use Rattle.conditions.specs.Conditions.{surviving_of, condition_fault}
use Rattle.conditions.proofs.Survive.{surviving-lt}
use Rattle.conditions.proofs.Faults.{accepted}
use Rattle.detect.specs.Detect.{selection_of}
use Rattle.detect.specs.declared.Mode.{Mode}
use Rattle.detect.proofs.Selection.{select-all}
use Rattle.fips.specs.Fips.{padded}
use Rattle.fips.specs.Tail.{padding_bytes, tail_blocks, pad_len, tail_of}
use Rattle.fips.proofs.Tails.{bytes64-length}
use Rattle.flags.specs.Flags.{uses_masks, with_masks}
use Rattle.flags.specs.declared.Flags.{Flags}
use Rattle.flags.specs.declared.Masks.TheVariants.{Lent, Conditions}
use Rattle.loan.specs.Loan.{Tables, Loan, lend, vectors_refusal, loan_refusal, ConditionsPass}
use Rattle.loan.proofs.Loans.{tables-good}
use Rattle.stream.specs.Fold.{all_bits, mode_of, first_chain, checked_of, plain_of, chained, folded}
use Rattle.stream.specs.declared.Chain.{Chain}
use Rattle.hasher.specs.Hasher.{taken, chain_of}
use Rattle.hasher.specs.declared.Hasher.{Hasher}
use Rattle.absorb.specs.Absorb.{stream_of}
use Rattle.update.specs.Update.{blocks_filled, updated}
use Rattle.finish.specs.Finish.{finished, finished_reset, written_out}
use Rattle.one_shot.specs.Whole.{blocks_of, whole_refusal, whole_of, WholeAccount}
use Rattle.claims.specs.Pieces.{Piece, bytes_of, piece_masks, hashed, loan_of_all, NoneRefused, InTurn}
use Rattle.claims.specs.Marked.{blocks_in}
use Rattle.claims.specs.Settings.{masks_on, conditions_on, surviving_masks, surviving_bits, surviving_blocks, surviving_last, message_masks}
use Rattle.claims.proofs.Settings.{Alike, update_alike, finish-alike, finish-reset-alike, output-alike, whole-refusal-alike, whole-alike}
use Rattle.claims.proofs.Padding.{blocks-counted}
use Rattle.claims.proofs.Looked.{taken-most, stream-few}
use Rattle.claims.proofs.Whole.{tables-pass}
use Rattle.claims.proofs.OneShot.{whole-taken, whole-agrees, whole-cut}

-- one mask for each of the n blocks
surviving-length : (conditions : List ℕ) (n : ℕ) (xs : List ℕ) → length (surviving_masks conditions n xs) ≡ n
unfolding surviving_masks
surviving-length conditions zero xs = refl
surviving-length conditions (suc n) xs = ap suc (surviving-length conditions n (drop 64 xs))

module _ (mode : Mode) (table conditions : List ℕ) where
  -- of all vectors the conditions leave those that survive
  all-survive : (block : List ℕ) → selection_of conditions block all_bits ≡ surviving_of (schedule_of (words_of block)) conditions
  unfolding selection_of
  all-survive block =
      let w = schedule_of (words_of block) in
      and_comm all_bits (surviving_of w conditions) ∙ and_mask (surviving_of w conditions) mask_bits ∙ mod-eq_of_lt (surviving-lt w conditions)

  -- so a block goes with the conditions as with a lent mask that has the bits that survive
  block_agrees_lem : (c : Chain) (block : List ℕ)
      → checked_of mode table conditions c block all_bits ≡ checked_of mode table [] c block (surviving_of (schedule_of (words_of block)) conditions)
  unfolding checked_of
  block_agrees_lem c block =
      let w = schedule_of (words_of block) in
      rw (all-survive block, select-all block (surviving_of w conditions) (surviving-lt w conditions))

  -- and so do the first m blocks
  blocks-agree : (m n : ℕ) (c : Chain) (xs : List ℕ) → m ≤ n
      → chained (checked_of mode table conditions) m c xs [] ≡ chained (checked_of mode table []) m c xs (surviving_masks conditions n xs)
  unfolding chained surviving_masks
  blocks-agree zero n c xs h = refl
  blocks-agree (suc m) zero c xs h = absurd (omega arith)
  blocks-agree (suc m) (suc n) c xs h =
      rw (block_agrees_lem c (take 64 xs)) (blocks-agree m n _ (drop 64 xs) (omega arith))

-- with detection on that is the fold in the two settings, and with it off the plain one is
by-detection : (on : Bool) (mode : Mode) (table conditions masks : List ℕ) (m n : ℕ) (c : Chain) (xs : List ℕ) → m ≤ n
    → chained (pick on (checked_of mode table (pick (on && true) conditions [])) plain_of) m c xs (pick (on && false) masks [])
    ≡ chained (pick on (checked_of mode table (pick (on && false) conditions [])) plain_of) m c xs (pick (on && true) (surviving_masks conditions n xs) [])
by-detection true mode table conditions masks m n c xs h = blocks-agree mode table conditions m n c xs h
by-detection false mode table conditions masks m n c xs h = refl

-- what is refused: neither a number of masks, nor conditions that pass
refused-alike : (on : Bool) (fault vectors : Checked) (j k n : ℕ) → k ≡ n → ((on && true) ≡ true → fault ≡ (Ok tt))
    → pick ((on && false) && not (eqb j n)) (Err MaskCount) (pick (eqb n 0) (Ok tt) (first_of (pick (on && true) fault (Ok tt)) vectors))
    ≡ pick ((on && true) && not (eqb k n)) (Err MaskCount) (pick (eqb n 0) (Ok tt) (first_of (pick (on && false) fault (Ok tt)) vectors))
refused-alike true fault vectors j k n e g = rw (eq-eqb k n e, g refl)
refused-alike false fault vectors j k n e g = refl

-- the loan with conditions that pass, and the one with the surviving bits for n blocks
survivors-alike : (l : Loan) (f : Flags) (n : ℕ) (c : Chain) (xs : List ℕ) → length xs / 64 ≤ n → ConditionsPass (with_masks f Conditions) l.tables.conditions
    → Alike Conditions Lent l (surviving_bits n xs l) f n c xs
unfolding loan_refusal folded
survivors-alike l f n c xs few pass =
    let conditions = l.tables.conditions in
    record {
      loans =
          refused-alike f.detect (condition_fault conditions) (vectors_refusal f l.tables.vectors) (length l.masks) (length (surviving_masks conditions n xs)) n
          (surviving-length conditions n xs) (λ u. (accepted conditions).1 (pass u));
      folds = by-detection f.detect (mode_of f) l.tables.vectors conditions l.masks (length xs / 64) n c xs few;
    }

-- the pending bytes x, the padding y and the length are no more blocks than a finish counts
tail-room : (b : Bool) (fill x y : ℕ) → leb fill 55 ≡ b → x ≤ fill → x ≤ 64 → y ≤ 64 * pick b 1 2 - 8 - fill → (x + y + 8) / 64 ≤ pick b 1 2
tail-room true fill x y e hx h64 hy = let below = leb-true fill 55 e in omega arith
tail-room false fill x y e hx h64 hy = omega arith

tail-few : (p : List ℕ) (fill n : ℕ) → length p ≡ 64 → length (tail_of p fill n) / 64 ≤ tail_blocks fill
unfolding tail_of
tail-few p fill n long =
    let pads = take (pad_len fill) padding_bytes in
    let a = taken-most fill p in
    let e : length (take fill p ++ pads ++ bytes64 (8 * n)) ≡ length (take fill p) + length pads + 8 =
    omega (arith, length-append (take fill p ++ pads) (bytes64 (8 * n)), length-append (take fill p) pads, bytes64-length (8 * n))
    in
    rw e (tail-room (leb fill 55) fill (length (take fill p)) (length pads) refl a.0 (omega (arith, a.1)) (taken-most (pad_len fill) padding_bytes).0)

module _ (h : Hasher) (l : Loan) (pass : ConditionsPass (conditions_on h).flags l.tables.conditions) where
  -- An update with conditions answers as one with lent masks that are the surviving bits of the blocks that it fills, refused or not, and its
  -- hasher is the same up to the setting.
  pub update-surviving : (bytes : List ℕ) → updated (conditions_on h) bytes l
      ≡ record { refusal = (updated (masks_on h) bytes (surviving_blocks h bytes l)).refusal; hasher = conditions_on (updated (masks_on h) bytes (surviving_blocks h bytes l)).hasher }
  update-surviving bytes =
      update_alike Conditions Lent l (surviving_blocks h bytes l) h bytes
      (survivors-alike l h.flags (blocks_filled h (length bytes)) (chain_of h) (stream_of h bytes) (stream-few h bytes) pass)

  module _ (long : length h.pending ≡ 64) where
    last-alike : Alike Conditions Lent l (surviving_last h l) h.flags (tail_blocks h.fill) (chain_of h) (tail_of h.pending h.fill (taken h))
    last-alike =
        survivors-alike l h.flags (tail_blocks h.fill) (chain_of h) (tail_of h.pending h.fill (taken h)) (tail-few h.pending h.fill (taken h) long) pass

    -- So does a finish, with those of the last blocks.
    pub finish-surviving : finished (conditions_on h) l
        ≡ record { outcome = (finished (masks_on h) (surviving_last h l)).outcome; digest = (finished (masks_on h) (surviving_last h l)).digest; first = (finished (masks_on h) (surviving_last h l)).first; hasher = conditions_on h }
    finish-surviving = finish-alike Conditions Lent l (surviving_last h l) h last-alike

    -- So does a finish-and-reset, with the bytes that it leaves in the lent output.
    pub finish-reset-surviving : (size : ℕ) → finished_reset (conditions_on h) size l
        ≡ record { outcome = (finished_reset (masks_on h) size (surviving_last h l)).outcome; first = (finished_reset (masks_on h) size (surviving_last h l)).first; hasher = conditions_on (finished_reset (masks_on h) size (surviving_last h l)).hasher }
    finish-reset-surviving = finish-reset-alike Conditions Lent l (surviving_last h l) h last-alike

    pub output-surviving : (out : List ℕ) → written_out (conditions_on h) out l ≡ written_out (masks_on h) out (surviving_last h l)
    output-surviving = output-alike Conditions Lent l (surviving_last h l) h last-alike

module _ (f : Flags) (bytes : List ℕ) (l : Loan) (pass : ConditionsPass (with_masks f Conditions) l.tables.conditions) where
  -- the loan with the surviving bits of every block of the message
  abbrev surviving : Loan
  surviving = lend l.tables (message_masks l.tables bytes)

  message-alike : Alike Conditions Lent l surviving f (blocks_of (length bytes)) first_chain (padded bytes)
  message-alike =
      rw (← blocks-counted bytes) (survivors-alike l f (blocks_in bytes) first_chain (padded bytes) (omega arith) pass)

  -- So does a whole message in one call, with those of all its blocks, padding included.
  pub whole-surviving : whole_of (with_masks f Conditions) bytes l ≡ whole_of (with_masks f Lent) bytes surviving
  whole-surviving = whole-alike Conditions Lent l surviving f bytes message-alike

  surviving-refusal : whole_refusal (with_masks f Conditions) (length bytes) l ≡ whole_refusal (with_masks f Lent) (length bytes) surviving
  surviving-refusal = whole-refusal-alike Conditions Lent l surviving f bytes message-alike

-- A message with conditions under any cut, none of its calls refused, and the same message under any cut with the surviving bits of its blocks lent.
module _ (f : Flags) (t : Tables) (ps qs : List Piece) (last rest : List ℕ) (ok : NoneRefused (with_masks f Conditions) t ps last)
    (same : bytes_of qs ≡ bytes_of ps) (lent : piece_masks qs ++ rest ≡ message_masks t (bytes_of ps)) where
  passes : ConditionsPass (with_masks f Conditions) t.conditions
  passes = (tables-good (with_masks f Conditions) t (tables-pass (with_masks f Conditions) t ps last ok)).0

  -- With each mask in its turn, if they are looked at, none of those calls is refused.
  pub surviving-taken : (uses_masks (with_masks f Lent) ≡ true → InTurn qs rest) → NoneRefused (with_masks f Lent) t qs rest
  surviving-taken turn =
      whole-cut (with_masks f Lent) t qs rest turn
      (rw (same, lent) (sym (surviving-refusal f (bytes_of ps) (loan_of_all t ps last) passes) ∙ whole-taken (with_masks f Conditions) t ps last ok))

  module _ (taken-too : NoneRefused (with_masks f Lent) t qs rest) where
    answers : ◌≡◌ {A = WholeAccount}
        (record { outcome = (hashed (with_masks f Conditions) t ps last).outcome; digest = (hashed (with_masks f Conditions) t ps last).digest; first = (hashed (with_masks f Conditions) t ps last).first })
        (record { outcome = (hashed (with_masks f Lent) t qs rest).outcome; digest = (hashed (with_masks f Lent) t qs rest).digest; first = (hashed (with_masks f Lent) t qs rest).first })
    answers =
        sym (whole-agrees (with_masks f Conditions) t ps last ok) ∙ whole-surviving f (bytes_of ps) (loan_of_all t ps last) passes
        ∙ (rw (same, lent) at (whole-agrees (with_masks f Lent) t qs rest taken-too))

    -- Then the outcome, the digest and the first mark are the same.
    pub message-surviving : ((hashed (with_masks f Conditions) t ps last).outcome ≡ (hashed (with_masks f Lent) t qs rest).outcome)
        × ((hashed (with_masks f Conditions) t ps last).digest ≡ (hashed (with_masks f Lent) t qs rest).digest)
        × ((hashed (with_masks f Conditions) t ps last).first ≡ (hashed (with_masks f Lent) t qs rest).first)
    message-surviving = (ap (λ (d : WholeAccount). d.outcome) answers, ap (λ (d : WholeAccount). d.digest) answers, ap (λ (d : WholeAccount). d.first) answers)
