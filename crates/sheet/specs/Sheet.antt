-- A sheet of barcodes: records of a barcode and a digest, with no header. 01, "The barcode sheet and the program".
use Rattle.std.specs.Prelude.{Bool, not, ◌&&◌, List, ℕ, zero, suc, ◌+◌, ◌*◌, ◌/◌, ◌%◌, eqb, ltb, length, take, drop, Option, None, Some, Err, Ok, is_ok}
use Rattle.std.specs.Borrow.{Bor}
use Rattle.word.specs.Choice.{pick}
use Rattle.octets.specs.Octets.{same_bytes}
use Rattle.verdict.specs.Verdict.{digest_size}
use Rattle.refusal.specs.Refusal.{Checked}
use Rattle.refusal.specs.declared.Refusal.TheVariants.{Size, SheetLength}

-- bytes in a barcode
abbrev pub barcode_size : ℕ
barcode_size = 12

-- bytes in a record: its barcode, then its digest
abbrev pub record_size : ℕ
record_size = barcode_size + digest_size

-- how many whole records a sheet has
abbrev pub records_on : List ℕ → ℕ
records_on sheet = length sheet / record_size

-- record k's barcode
abbrev pub barcode_at : List ℕ → ℕ → List ℕ
barcode_at sheet k = take barcode_size (drop (record_size * k) sheet)

-- record k's digest
abbrev pub digest_at : List ℕ → ℕ → List ℕ
digest_at sheet k = take digest_size (drop (record_size * k + barcode_size) sheet)

-- the first of the n records from place k on that has the barcode, else the place past them
unfoldable pub first_from : List ℕ → List ℕ → ℕ → ℕ → ℕ
first_from sheet code k zero = k
first_from sheet code k (suc n) = pick (same_bytes (barcode_at sheet k) code) k (first_from sheet code (suc k) n)

-- the first record of the sheet that has the barcode, else the number of records
abbrev pub record_for : List ℕ → List ℕ → ℕ
record_for sheet code = first_from sheet code 0 (records_on sheet)

-- whether a record of the sheet has the barcode
abbrev pub on_sheet : List ℕ → List ℕ → Bool
on_sheet sheet code = ltb (record_for sheet code) (records_on sheet)

-- that record, where the sheet has one
abbrev pub record_found : List ℕ → List ℕ → Option ℕ
record_found sheet code = pick (on_sheet sheet code) (Some (record_for sheet code)) None

-- what a lookup refuses: a barcode of another size, else a sheet that is no whole number of records
unfoldable pub lookup_refusal : List ℕ → List ℕ → Checked
lookup_refusal sheet code =
    pick (not (eqb (length code) barcode_size)) (Err Size)
    (pick (not (eqb (length sheet % record_size) 0)) (Err SheetLength)
    (Ok tt))

-- where the digest of the record found begins, where nothing is refused and there is one
unfoldable pub digest_from : List ℕ → List ℕ → Option ℕ
digest_from sheet code =
    pick (is_ok (lookup_refusal sheet code) && on_sheet sheet code) (Some (record_size * record_for sheet code + barcode_size)) None

-- where the part handed back begins: at the digest of the record found, else at the sheet's end
unfoldable pub part_from : List ℕ → List ℕ → ℕ
part_from sheet code =
    pick (is_ok (lookup_refusal sheet code) && on_sheet sheet code) (record_size * record_for sheet code + barcode_size) (length sheet)

-- the part handed back: that digest, else nothing
abbrev pub part_of : List ℕ → List ℕ → List ℕ
part_of sheet code = take digest_size (drop (part_from sheet code) sheet)

-- where byte k of a lent sheet lies in memory: its block and its place in it
abbrev pub place_in : Bor (List ℕ) → ℕ → ℕ × ℕ
place_in sheet k = (sheet.ref_ptr.0, k + sheet.ref_ptr.1)
