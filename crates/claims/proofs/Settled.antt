-- 01, "Nothing vague in a contract": any two results that the contract of an entry point allows on the same arguments agree, lent bytes included. Assumes nothing.
use mathlib.Core.Path.{◌≡◌, refl, sym, ◌∙◌}
use mathlib.Core.List.{List}
use Prim.Native.Nat.{ℕ, ◌*◌}
use lib.ListN.{take}
use seplogic.Ra.Ura.{Ura}
use base.Logic.{SProp}
use prog.Memory.{Memory}
use prog.Routine.{Routine}
use types.Logic.{Logic}
use borrow.Fn.Kinds.{ParamKind, ResultKind, Dens, res_t}
use contract.Lifetimes.{Lfts}
use contract.Monad.{Fun, fact}
use denote.Triple.Entry.{Args, Res}
use denote.Triple.Clauses.{AtExit}
use Rattle.refusal.specs.Refusal.{Checked}
use Rattle.fips.specs.Tail.{tail_blocks}
use Rattle.loan.specs.Loan.{Loan, loan_in}
use Rattle.hasher.specs.declared.Hasher.{Hasher}
use Rattle.in_place.specs.InPlace.{InPlace}
use Rattle.octets.proofs.store.Kinds as store-kinds
use Rattle.octets.proofs.store.Reads as store-contract
use Rattle.block.proofs.compression_states.Kinds as compression-states-kinds
use Rattle.block.proofs.compression_states.Reads as compression-states-contract
use Rattle.refusal.proofs.Refusal.number.Kinds as number-kinds
use Rattle.refusal.proofs.Refusal.number.Reads as number-contract
use Rattle.refusal.proofs.Refusal.place.Kinds as place-kinds
use Rattle.refusal.proofs.Refusal.place.Reads as place-contract
use Rattle.refusal.proofs.number_of.Kinds as number-of-kinds
use Rattle.refusal.proofs.number_of.Reads as number-of-contract
use Rattle.refusal.proofs.place_of.Kinds as place-of-kinds
use Rattle.refusal.proofs.place_of.Reads as place-of-contract
use Rattle.table.proofs.table_fault.Kinds as table-fault-kinds
use Rattle.table.proofs.table_fault.Reads as table-fault-contract
use Rattle.conditions.proofs.condition_fault.Kinds as condition-fault-kinds
use Rattle.conditions.proofs.condition_fault.Reads as condition-fault-contract
use Rattle.conditions.proofs.surviving.Kinds as surviving-kinds
use Rattle.conditions.proofs.surviving.Reads as surviving-contract
use Rattle.detect.proofs.compress.Kinds as compress-kinds
use Rattle.detect.proofs.compress.Reads as compress-contract
use Rattle.detect.proofs.one_block.Kinds as one-block-kinds
use Rattle.detect.proofs.one_block.Reads as one-block-contract
use Rattle.flags.proofs.Flags.new.Kinds as defaults-kinds
use Rattle.flags.proofs.Flags.new.Reads as defaults-contract
use Rattle.flags.proofs.Flags.detect_collision.Kinds as detect-collision-kinds
use Rattle.flags.proofs.Flags.detect_collision.Reads as detect-collision-contract
use Rattle.flags.proofs.Flags.safe_hash.Kinds as safe-hash-kinds
use Rattle.flags.proofs.Flags.safe_hash.Reads as safe-hash-contract
use Rattle.flags.proofs.Flags.use_ubc.Kinds as use-ubc-kinds
use Rattle.flags.proofs.Flags.use_ubc.Reads as use-ubc-contract
use Rattle.flags.proofs.Flags.use_conditions.Kinds as use-conditions-kinds
use Rattle.flags.proofs.Flags.use_conditions.Reads as use-conditions-contract
use Rattle.flags.proofs.Flags.reduced_round_collision.Kinds as reduced-round-collision-kinds
use Rattle.flags.proofs.Flags.reduced_round_collision.Reads as reduced-round-collision-contract
use Rattle.flags.proofs.uses_masks.Kinds as uses-masks-kinds
use Rattle.flags.proofs.uses_masks.Reads as uses-masks-contract
use Rattle.flags.proofs.uses_conditions.Kinds as uses-conditions-kinds
use Rattle.flags.proofs.uses_conditions.Reads as uses-conditions-contract
use Rattle.fips.proofs.hash_blocks.Kinds as hash-blocks-kinds
use Rattle.fips.proofs.hash_blocks.Reads as hash-blocks-contract
use Rattle.fips.proofs.tail_blocks.Kinds as tail-blocks-kinds
use Rattle.fips.proofs.tail_blocks.Reads as tail-blocks-contract
use Rattle.fips.proofs.digest.Kinds as digest-kinds
use Rattle.fips.proofs.digest.Reads as digest-contract
use Rattle.fips.proofs.tail.Kinds as tail-kinds
use Rattle.fips.proofs.tail.Reads as tail-contract
use Rattle.stream.proofs.fold_blocks.Kinds as fold-blocks-kinds
use Rattle.stream.proofs.fold_blocks.Reads as fold-blocks-contract
use Rattle.loan.proofs.Lent.check.Kinds as loan-refusal-kinds
use Rattle.loan.proofs.Lent.check.Reads as loan-refusal-contract
use Rattle.loan.proofs.Lent.looked_at.Kinds as looked-at-kinds
use Rattle.loan.proofs.Lent.conditions_for.Kinds as conditions-for-kinds
use Rattle.loan.proofs.Lent.looked_at.Reads as looked-at-contract
use Rattle.loan.proofs.Lent.conditions_for.Reads as conditions-for-contract
use Rattle.loan.proofs.Lent.of_table.Kinds as of-table-kinds
use Rattle.loan.proofs.Lent.of_table.Reads as of-table-contract
use Rattle.loan.proofs.Lent.nothing.Kinds as nothing-kinds
use Rattle.loan.proofs.Lent.nothing.Reads as nothing-contract
use Rattle.loan.proofs.Lent.later.Kinds as later-kinds
use Rattle.loan.proofs.Lent.later.Reads as later-contract
use Rattle.hasher.proofs.reset.Kinds as reset-kinds
use Rattle.hasher.proofs.reset.Reads as reset-contract
use Rattle.hasher.proofs.Hasher.new.Kinds as new-kinds
use Rattle.hasher.proofs.Hasher.new.Reads as new-contract
use Rattle.hasher.proofs.Hasher.at.Kinds as at-kinds
use Rattle.hasher.proofs.Hasher.at.Reads as at-contract
use Rattle.hasher.proofs.Hasher.chain.Kinds as chain-kinds
use Rattle.hasher.proofs.Hasher.chain.Reads as chain-contract
use Rattle.hasher.proofs.well_formed.Kinds as well-formed-kinds
use Rattle.hasher.proofs.well_formed.Reads as well-formed-contract
use Rattle.update.proofs.update.Kinds as update-kinds
use Rattle.update.proofs.update.Reads as update-contract
use Rattle.absorb.proofs.absorb.Kinds as absorb-kinds
use Rattle.absorb.proofs.absorb.Reads as absorb-contract
use Rattle.finish.proofs.finish.Kinds as finish-kinds
use Rattle.finish.proofs.finish.Reads as finish-contract
use Rattle.finish.proofs.last_chain.Kinds as last-chain-kinds
use Rattle.finish.proofs.last_chain.Reads as last-chain-contract
use Rattle.finish.proofs.finish_and_reset.Kinds as finish-reset-kinds
use Rattle.finish.proofs.finish_and_reset.Reads as finish-reset-contract
use Rattle.one_shot.proofs.one_shot.Kinds as one-shot-kinds
use Rattle.one_shot.proofs.one_shot.Reads as one-shot-contract
use Rattle.one_shot.proofs.whole.Kinds as whole_Kinds
use Rattle.one_shot.proofs.whole.Reads as whole-contract
use Rattle.in_place.proofs.through.Kinds as through-kinds
use Rattle.in_place.proofs.through.Reads as through-contract
use Rattle.sheet.proofs.lookup_refusal.Kinds as lookup-refusal-kinds
use Rattle.sheet.proofs.lookup_refusal.Reads as lookup-refusal-contract
use Rattle.sheet.proofs.part_from.Kinds as part-from-kinds
use Rattle.sheet.proofs.part_from.Reads as part-from-contract
use Rattle.comparison.proofs.compare.Kinds as compare-kinds
use Rattle.comparison.proofs.compare.Reads as compare-contract
use Rattle.comparison.proofs.comparison_word.Kinds as comparison-word-kinds
use Rattle.comparison.proofs.comparison_word.Reads as comparison-word-contract
use Rattle.sheet.proofs.lookup.Kinds as lookup-kinds
use Rattle.sheet.proofs.lookup.Reads as lookup-contract
use Rattle.table_file.proofs.file_words.Kinds as file-words-kinds
use Rattle.table_file.proofs.file_words.Reads as file-words-contract
use Rattle.table_file.proofs.file_fault.Kinds as file-fault-kinds
use Rattle.table_file.proofs.file_fault.Reads as file-fault-contract
use Rattle.in_place.specs.contracts.update_in_place as in_place
use Rattle.claims.specs.Settled.{TwoResults, Settled, Equation}

-- what is equal to one meaning is equal
pub same : {A : Type 0} {m x y : A} → x ≡ m → y ≡ m → x ≡ y
same p q = p ∙ sym q

-- A contract that is one equation of the result with a meaning of the arguments settles it, whatever the function.
pub equation-settled : (n : ℕ) (ps : List (ParamKind n)) (r : ResultKind n) (meaning : (κs : Lfts n) → Dens κs ps → (res_t r κs).Denot) → Settled n ps r (Equation n ps r meaning)
equation-settled n ps r meaning t = same t.first t.second

-- A refusal's number and place, and those of what a check answers.
pub number-settled : Settled 0 number-kinds.ps number-kinds.r number-contract.Post
number-settled t = same t.first t.second

pub place-settled : Settled 0 place-kinds.ps place-kinds.r place-contract.Post
place-settled t = same t.first t.second

pub number-of-settled : Settled 0 number-of-kinds.ps number-of-kinds.r number-of-contract.Post
number-of-settled t = same t.first t.second

pub place-of-settled : Settled 0 place-of-kinds.ps place-of-kinds.r place-of-contract.Post
place-of-settled t = same t.first t.second

-- What is wrong with a table.
pub table-fault-settled : Settled 1 table-fault-kinds.ps table-fault-kinds.r table-fault-contract.Post
table-fault-settled t = same t.first t.second

-- What is wrong with a table of conditions, and the vectors that survive it.
pub condition-fault-settled : Settled 1 condition-fault-kinds.ps condition-fault-kinds.r condition-fault-contract.Post
condition-fault-settled t = same t.first t.second

pub surviving-settled : Settled 2 surviving-kinds.ps surviving-kinds.r surviving-contract.Post
surviving-settled t = same t.first t.second

-- One block with detection, and the one-block entry.
pub compress-settled : Settled 3 compress-kinds.ps compress-kinds.r compress-contract.Post
compress-settled t = same t.first t.second

pub one-block-settled : Settled 2 one-block-kinds.ps one-block-kinds.r one-block-contract.Post
one-block-settled t = same t.first t.second

-- An update, and its work where nothing is refused.
pub update-settled : Settled 2 update-kinds.ps update-kinds.r update-contract.Post
update-settled t = same t.first t.second

pub absorb-settled : Settled 2 absorb-kinds.ps absorb-kinds.r absorb-contract.Post
absorb-settled t = same t.first t.second

-- A reset.
pub reset-settled : Settled 0 reset-kinds.ps reset-kinds.r reset-contract.Post
reset-settled t = same t.first t.second

-- A finish, and the chain after the last blocks.
pub finish-settled : Settled 1 finish-kinds.ps finish-kinds.r finish-contract.Post
finish-settled t = same t.first t.second

pub last-chain-settled : Settled 1 last-chain-kinds.ps last-chain-kinds.r last-chain-contract.Post
last-chain-settled t = same t.first t.second

-- The one-shot form, and a whole message with any flags.
pub one-shot-settled : Settled 3 one-shot-kinds.ps one-shot-kinds.r one-shot-contract.Post
one-shot-settled t = same t.first t.second

pub whole-settled : Settled 2 whole_Kinds.ps whole_Kinds.r whole-contract.Post
whole-settled t = same t.first t.second

-- A new hasher, one at a chain, its chain, and the test of its form.
pub new-settled : Settled 0 new-kinds.ps new-kinds.r new-contract.Post
new-settled t = same t.first t.second

pub at-settled : Settled 0 at-kinds.ps at-kinds.r at-contract.Post
at-settled t = same t.first t.second

pub chain-settled : Settled 0 chain-kinds.ps chain-kinds.r chain-contract.Post
chain-settled t = same t.first t.second

pub well-formed-settled : Settled 0 well-formed-kinds.ps well-formed-kinds.r well-formed-contract.Post
well-formed-settled t = same t.first t.second

-- The default flags, the flags with one of them set, and whether they ask for masks or conditions.
pub defaults-settled : Settled 0 defaults-kinds.ps defaults-kinds.r defaults-contract.Post
defaults-settled t = same t.first t.second

pub detect-collision-settled : Settled 0 detect-collision-kinds.ps detect-collision-kinds.r detect-collision-contract.Post
detect-collision-settled t = same t.first t.second

pub safe-hash-settled : Settled 0 safe-hash-kinds.ps safe-hash-kinds.r safe-hash-contract.Post
safe-hash-settled t = same t.first t.second

pub use-ubc-settled : Settled 0 use-ubc-kinds.ps use-ubc-kinds.r use-ubc-contract.Post
use-ubc-settled t = same t.first t.second

pub use-conditions-settled : Settled 0 use-conditions-kinds.ps use-conditions-kinds.r use-conditions-contract.Post
use-conditions-settled t = same t.first t.second

pub reduced-round-collision-settled : Settled 0 reduced-round-collision-kinds.ps reduced-round-collision-kinds.r reduced-round-collision-contract.Post
reduced-round-collision-settled t = same t.first t.second

pub uses-masks-settled : Settled 0 uses-masks-kinds.ps uses-masks-kinds.r uses-masks-contract.Post
uses-masks-settled t = same t.first t.second

pub uses-conditions-settled : Settled 0 uses-conditions-kinds.ps uses-conditions-kinds.r uses-conditions-contract.Post
uses-conditions-settled t = same t.first t.second

-- The blocks of a stream, and what is refused of a loan.
pub fold-blocks-settled : Settled 2 fold-blocks-kinds.ps fold-blocks-kinds.r fold-blocks-contract.Post
fold-blocks-settled t = same t.first t.second

pub loan-refusal-settled : Settled 1 loan-refusal-kinds.ps loan-refusal-kinds.r loan-refusal-contract.Post
loan-refusal-settled t = same t.first t.second

-- The standard: its blocks, the number of the last ones, and the digest.
pub hash-blocks-settled : Settled 1 hash-blocks-kinds.ps hash-blocks-kinds.r hash-blocks-contract.Post
hash-blocks-settled t = same t.first t.second

pub tail-blocks-settled : Settled 0 tail-blocks-kinds.ps tail-blocks-kinds.r tail-blocks-contract.Post
tail-blocks-settled t = same t.first t.second

pub digest-settled : Settled 0 digest-kinds.ps digest-kinds.r digest-contract.Post
digest-settled t = same t.first t.second

-- The words of a table file, and its check.
pub file-words-settled : Settled 1 file-words-kinds.ps file-words-kinds.r file-words-contract.Post
file-words-settled t = same t.first t.second

pub file-fault-settled : Settled 1 file-fault-kinds.ps file-fault-kinds.r file-fault-contract.Post
file-fault-settled t = same t.first t.second

-- What a lookup on the sheet refuses, and where the part begins.
pub lookup-refusal-settled : Settled 2 lookup-refusal-kinds.ps lookup-refusal-kinds.r lookup-refusal-contract.Post
lookup-refusal-settled t = same t.first t.second

pub part-from-settled : Settled 2 part-from-kinds.ps part-from-kinds.r part-from-contract.Post
part-from-settled t = same t.first t.second

-- A comparison with the sheet, and its word.
pub compare-settled : Settled 2 compare-kinds.ps compare-kinds.r compare-contract.Post
compare-settled t = same t.first t.second

pub comparison-word-settled : (t : TwoResults 1 comparison-word-kinds.ps comparison-word-kinds.r comparison-word-contract.Post) → t.x.now ≡ t.y.now
comparison-word-settled t = same t.first t.second

-- An update in place of a local.
pub through-settled : Settled 2 through-kinds.ps through-kinds.r through-contract.Post
through-settled t = same t.first t.second

-- A finish-and-reset, with the bytes that it leaves in the lent output.
pub finish-and-reset-settled : (t : TwoResults 2 finish-reset-kinds.ps finish-reset-kinds.r finish-reset-contract.Post)
    → (t.x ≡ t.y) × (t.d.1.0.now ≡ t.e.1.0.now)
finish-and-reset-settled t = (same t.first.0 t.second.0, same t.first.1 t.second.1)

-- The compression that keeps its states, with the schedule that it leaves in lent words; and a copy into lent bytes.
pub compression-states-settled : (t : TwoResults 2 compression-states-kinds.ps compression-states-kinds.r compression-states-contract.Post)
    → (t.x ≡ t.y) × (t.d.1.1.0.now ≡ t.e.1.1.0.now)
compression-states-settled t = (same t.first.1 t.second.1, same t.first.0 t.second.0)

pub store-settled : (t : TwoResults 2 store-kinds.ps store-kinds.r store-contract.Post) → t.d.0.now ≡ t.e.0.now
store-settled t = same t.first t.second

-- A lookup on the sheet: the bytes handed back, and the place in memory where they lie.
pub lookup-settled : (t : TwoResults 2 lookup-kinds.ps lookup-kinds.r lookup-contract.Post) → (t.x.now ≡ t.y.now) × (t.x.ref_ptr ≡ t.y.ref_ptr)
lookup-settled t = (same t.first.0 t.second.0, same t.first.1 t.second.1)

-- What is left of a loan for the blocks after the first n: what it holds; where that lies is left open.
pub later-settled : (t : TwoResults 1 later-kinds.ps later-kinds.r later-contract.Post) → loan_in t.x ≡ loan_in t.y
later-settled t = same t.first t.second

-- A table alone, and nothing, as what is lent: likewise.
pub of-table-settled : (t : TwoResults 1 of-table-kinds.ps of-table-kinds.r of-table-contract.Post) → loan_in t.x ≡ loan_in t.y
of-table-settled t = same t.first t.second

pub nothing-settled : (t : TwoResults 1 nothing-kinds.ps nothing-kinds.r nothing-contract.Post) → loan_in t.x ≡ loan_in t.y
nothing-settled t = same t.first t.second

-- The masks that the flags ask for: likewise.
pub looked-at-settled : (t : TwoResults 1 looked-at-kinds.ps looked-at-kinds.r looked-at-contract.Post) → t.x.now ≡ t.y.now
looked-at-settled t = same t.first t.second

-- The conditions that the flags ask for: likewise.
pub conditions-for-settled : (t : TwoResults 1 conditions-for-kinds.ps conditions-for-kinds.r conditions-for-contract.Post) → t.x.now ≡ t.y.now
conditions-for-settled t = same t.first t.second

-- The last blocks of a message: as many bytes as they have; those after them are left open.
pub tail-settled : (t : TwoResults 0 tail-kinds.ps tail-kinds.r tail-contract.Post)
    → take (64 * tail_blocks t.args.1.0) t.x ≡ take (64 * tail_blocks t.args.1.0) t.y
tail-settled t = same t.first t.second

-- What the contract of an update in place, which is proved by hand, says of its result and of the hasher at exit is `InPlace`.
pub in-place-says : {M : Type 1} {𝓤 : Ura M} (𝓛 : Logic 𝓤) (mem : Memory → SProp 𝓤) (run : Routine → Fun 𝓤)
    (κs : Lfts (in_place.signature).lifetimes) (a : Args in_place.signature κs) (r : Res in_place.signature κs) (e : AtExit in_place.ended κs)
    → (in_place.clauses 𝓛 mem run κs a).ensures tt r e
    ≡ fact 𝓤 (InPlace a.0.now a.1.0.now (loan_in a.1.1.0) r e.0.now)
in-place-says 𝓛 mem run κs a r e = refl

-- An update in place: its refusal, and the hasher that it leaves in lent memory.
pub update-in-place-settled : (h : Hasher) (bytes : List ℕ) (l : Loan) (r s : Checked) (g k : Hasher)
    → InPlace h bytes l r g → InPlace h bytes l s k → (r ≡ s) × (g ≡ k)
update-in-place-settled h bytes l r s g k p q = (same p.1 q.1, same p.0 q.0)
