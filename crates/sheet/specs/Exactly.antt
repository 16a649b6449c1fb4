-- What a sheet says of a barcode, as facts. 01, "The barcode sheet and the program".
use Rattle.std.specs.Prelude.{◌≡◌, List, ℕ, ◌%◌, ◌<◌, length}
use Rattle.sheet.specs.Sheet.{barcode_size, record_size, records_on, barcode_at}

-- nothing is refused: the barcode has its size, and the sheet is a whole number of records
abbrev pub Accepted : List ℕ → List ℕ → Type 0
Accepted sheet code = (length code ≡ barcode_size) × (length sheet % record_size ≡ 0)

-- record k is the first of the sheet that has the barcode
pub record FirstRecord (sheet code : List ℕ) (k : ℕ) : Type 0 where
  pub inside : k < records_on sheet
  pub has : barcode_at sheet k ≡ code
  pub earlier : (j : ℕ) → j < k → barcode_at sheet j ≡ code → ⊥

-- no record of the sheet has the barcode
abbrev pub NoRecord : List ℕ → List ℕ → Type 0
NoRecord sheet code = (j : ℕ) → j < records_on sheet → barcode_at sheet j ≡ code → ⊥
