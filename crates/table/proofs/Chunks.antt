-- The records of a table, as the parts of it that a loop goes over. Assumes nothing.
use mathlib.Core.Path.{◌≡◌, ap, ◌∙◌}
use mathlib.Core.List.{List, []}
use Prim.Native.Nat.{ℕ, zero, suc, ◌+◌, ◌*◌, ◌<◌}
use native.Mathlib.Omega.{arith}
use lib.ListN.{length, get_or, take, drop}
use Rattle.std.specs.Simd.{first_chunks}
use Rattle.table.specs.Limits.{dm_words, record_words}
use Rattle.table.specs.Table.{records_in, record_at, mask_number_at, fault_of, record_fault}
use Rattle.table.proofs.Record.{number_taken, fault_taken}
use Rattle.std.proofs.lemmas.List.{drop-drop}

-- chunk i of the first k
pub chunk_is : {X : Type 0} (n k i : ℕ) (xs d : List X) → i < k → get_or (first_chunks n k xs) i d ≡ take n (drop (n * i) xs)
chunk_is n zero i xs d h = absurd (omega arith)
chunk_is n (suc k) zero xs d h =
    let e : n * 0 ≡ 0 = omega arith in
    rw e
chunk_is n (suc k) (suc i) xs d h =
    let e : n + n * i ≡ n * suc i = omega arith in
    chunk_is n k i (drop n xs) d (omega arith) ∙ ap (take n) (drop-drop (n * i) n xs ∙ ap (λ (m : ℕ). drop m xs) e)

-- so what a loop goes over are the records
pub record_is : (table : List ℕ) (chunks : List (List ℕ)) (i : ℕ) → chunks ≡ first_chunks record_words (records_in (length table)) table → i < records_in (length table)
    → get_or chunks i [] ≡ record_at table i
record_is table chunks i e h = ap (λ (x : List (List ℕ)). get_or x i []) e ∙ chunk_is record_words (records_in (length table)) i table [] h

-- with the mask number and the fault of each
pub number_is : (table : List ℕ) (chunks : List (List ℕ)) (i : ℕ) → chunks ≡ first_chunks record_words (records_in (length table)) table → i < records_in (length table)
    → get_or (get_or chunks i []) 0 0 ≡ mask_number_at table i
number_is table chunks i e h = ap (λ (x : List ℕ). get_or x 0 0) (record_is table chunks i e h) ∙ number_taken table i

pub fault_is : (table : List ℕ) (chunks : List (List ℕ)) (i : ℕ) → chunks ≡ first_chunks record_words (records_in (length table)) table → i < records_in (length table)
    → fault_of (get_or (get_or chunks i []) 0 0) (get_or (get_or chunks i []) 1 0) (take dm_words (drop 2 (get_or chunks i []))) i ≡ record_fault table i
fault_is table chunks i e h = ap (λ (x : List ℕ). fault_of (get_or x 0 0) (get_or x 1 0) (take dm_words (drop 2 x)) i) (record_is table chunks i e h) ∙ fault_taken table i
