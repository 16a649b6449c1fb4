-- An update: what it refuses, and what it makes of a hasher.
use Rattle.std.specs.Prelude.{not, List, ℕ, ◌+◌, ◌/◌, ltb, length, Err, is_ok}
use Rattle.word.specs.Choice.{pick}
use Rattle.refusal.specs.Refusal.{Checked}
use Rattle.refusal.specs.declared.Refusal.TheVariants.{HasherForm, MessageLength}
use Rattle.fips.specs.Fips.{most_bytes}
use Rattle.loan.specs.Loan.{Loan, loan_refusal}
use Rattle.hasher.specs.Hasher.{UpdateAccount, well_formed, taken}
use Rattle.hasher.specs.declared.Hasher.{Hasher}
use Rattle.absorb.specs.Absorb.{absorbed}

-- the blocks that n more bytes fill
abbrev pub blocks_filled : Hasher → ℕ → ℕ
blocks_filled h n = (h.fill + n) / 64

-- what an update refuses: 1, 7, then what is lent for the blocks that it fills
unfoldable pub update_refusal : Hasher → List ℕ → Loan → Checked
update_refusal h bytes l =
    pick (not (well_formed h)) (Err HasherForm)
    (pick (ltb most_bytes (taken h + length bytes)) (Err MessageLength)
    (loan_refusal h.flags l (blocks_filled h (length bytes))))

-- what an update gives: a refused hasher comes back unchanged
unfoldable pub updated : Hasher → List ℕ → Loan → UpdateAccount
updated h bytes l =
    let r = update_refusal h bytes l in
    record { refusal = r; hasher = pick (is_ok r) (absorbed h bytes l) h }
