-- A message given to a hasher in pieces or whole, each call lent the masks of its own blocks, and the ways to end it.
use Rattle.std.specs.Prelude.{List, [], ℕ, zero, suc, ◌+◌, ◌-◌, ◌*◌, ◌/◌, ◌%◌, min, max, ltb, leb, length, take, drop, replicate, Result}
use Rattle.std.specs.Result.{result_map_both, result_unwrap_or}
use Rattle.word.specs.Choice.{pick}
use Rattle.refusal.specs.declared.Refusal.{Refusal}
use Rattle.verdict.specs.Verdict.{digest_size}
use Rattle.loan.specs.Loan.{Loan, lend, loan_of}
use Rattle.hasher.specs.Hasher.{hasher_handed, reset_of}
use Rattle.hasher.specs.declared.Hasher.{Hasher}
use Rattle.update.specs.Update.{updated}
use Rattle.finish.specs.Finish.{finished, finish_handed, finished_reset, reset_handed, written_out}
use Rattle.finish.specs.declared.Finished.{Finished}
use Rattle.one_shot.specs.Whole.{blocks_of, digested, whole_handed}
use Rattle.cases.specs.Numbers.{number_at}
use Rattle.hasher_run.specs.declared.ended.Sizes.{Sizes}
use Rattle.hasher_run.specs.declared.ended.Way.{Way}
use Rattle.hasher_run.specs.declared.ended.Way.TheVariants.{Finish, FinishReset, OneShot}

-- the masks of the blocks from `from` to `to`, or all of them where there are not so many
abbrev pub masks_between : List ℕ → ℕ → ℕ → List ℕ
masks_between masks from to = pick (ltb to from) masks (pick (leb to (length masks)) (take (to - from) (drop from masks)) masks)

-- of the loan for a whole message, what is lent for those blocks
abbrev pub loan_between : Loan → ℕ → ℕ → Loan
loan_between l from to = lend l.tables (masks_between l.masks from to)

-- the hasher after a piece; a refused one is as it was
abbrev pub after_piece : Hasher → List ℕ → Loan → Hasher
after_piece h bytes l = result_unwrap_or (hasher_handed (updated h bytes l)) h

-- the hasher after a reset; a refused one is as it was
abbrev pub after_reset : Hasher → Hasher
after_reset h = result_unwrap_or (hasher_handed (reset_of h)) h

-- where a piece of n bytes ends, at least one byte on and never past the end
abbrev pub piece_end : ℕ → ℕ → ℕ → ℕ
piece_end at end n = at + min (max n 1) (end - at)

-- the hasher after at most k pieces, from the byte `at` on, of two sizes in turn
unfoldable pub pieces_from : ℕ → Hasher → List ℕ → Loan → ℕ → ℕ → ℕ → Hasher
pieces_from zero g m l at size other = g
pieces_from (suc k) g m l at size other =
    let to = piece_end at (length m) size in
    pick (ltb at (length m))
    (pieces_from k (after_piece g (take (to - at) (drop at m)) (loan_between l (at / 64) (to / 64))) m l to other size)
    g

-- the hasher after a message in pieces: each has a byte or more, so there are no more pieces than bytes
abbrev pub in_pieces : Hasher → List ℕ → ℕ → ℕ → Loan → Hasher
in_pieces h m first second l = pieces_from (length m) h m l 0 first second

-- the hasher after a message in one piece
abbrev pub in_one_piece : Hasher → List ℕ → Loan → Hasher
in_one_piece h m l = after_piece h m (loan_between l 0 (length m / 64))

-- what is lent for the last blocks of a message of n bytes
abbrev pub last_loan : Loan → ℕ → Loan
last_loan l n = loan_between l (n / 64) (blocks_of n)

-- the finish of a message of n bytes
abbrev pub finish_after : Hasher → ℕ → Loan → Result Finished Refusal
finish_after h n l = finish_handed (finished h (last_loan l n))

-- a message in pieces, a finish, and a reset
unfoldable pub by_finish : Hasher → List ℕ → ℕ → ℕ → Loan → Result Finished Refusal
by_finish h m first second l =
    result_map_both (λ f. record { verdict = f.verdict; digest = f.digest; first = f.first; hasher = after_reset f.hasher }) (λ r. r)
    (finish_after (in_pieces h m first second l) (length m) l)

-- a message in one piece, and a finish-and-reset
unfoldable pub by_finish_reset : Hasher → List ℕ → Loan → Result Finished Refusal
by_finish_reset h m l =
    let g = in_one_piece h m l in
    let last = last_loan l (length m) in
    result_map_both (λ f. record { verdict = f.verdict; digest = written_out g (replicate digest_size 0) last; first = f.first; hasher = f.hasher }) (λ r. r)
    (reset_handed (finished_reset g digest_size last))

-- a message by the one-shot form, which knows no conditions, and leaves the hasher alone
unfoldable pub at_once : Hasher → List ℕ → Loan → Result Finished Refusal
at_once h m l =
    result_map_both (λ d. record { verdict = d.verdict; digest = d.digest; first = d.first; hasher = h }) (λ r. r)
    (whole_handed (digested m (loan_of l.tables.vectors [] (masks_between l.masks 0 (blocks_of (length m))))))

-- the sizes of a case's pieces
abbrev pub sizes_of : List ℕ → Sizes
sizes_of line = record { first = number_at line 6; second = number_at line 7 }

-- the way of a number
abbrev pub way_of : ℕ → Way
way_of zero = Finish
way_of (suc zero) = FinishReset
way_of (suc (suc n)) = OneShot

-- a message by a way
abbrev pub end_by : Way → Hasher → List ℕ → ℕ → ℕ → Loan → Result Finished Refusal
end_by Finish h m first second l = by_finish h m first second l
end_by FinishReset h m first second l = by_finish_reset h m l
end_by OneShot h m first second l = at_once h m l

-- four bits in the other order
abbrev pub turned_bits : ℕ → ℕ
turned_bits bits = bits / 8 % 2 + bits / 4 % 2 * 2 + bits / 2 % 2 * 4 + bits % 2 * 8
