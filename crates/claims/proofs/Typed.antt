-- Every hasher that a call hands back holds words and bytes, as its type says. Assumes nothing.
use mathlib.Core.Path.{sym, subst}
use mathlib.Core.List.{List}
use Prim.Native.Nat.{ℕ, zero, suc, ◌-◌, ◌*◌, ◌/◌}
use lib.Dec.{lit<}
use lib.ListN.{length, take, replicate}
use Rattle.std.specs.Prelude.{is_ok}
use Rattle.word.specs.Lists.{AllWords, AllBytes}
use Rattle.word.proofs.Tests.{of_either}
use Rattle.word.proofs.Below.{append-below, replicate-below, take_below, drop-below}
use Rattle.step.specs.Step.{Words, regs_of, five_of}
use Rattle.step.specs.declared.Regs.{Regs}
use Rattle.fips.specs.Fips.{initial}
use Rattle.flags.specs.declared.Flags.{Flags}
use Rattle.loan.specs.Loan.{Loan, looked_at}
use Rattle.hasher.specs.Hasher.{well_formed, chain_of, fresh_of, reset_of, UpdateAccount}
use Rattle.hasher.specs.declared.Hasher.{Hasher}
use Rattle.absorb.specs.Absorb.{stream_of, rest_of}
use Rattle.update.specs.Update.{updated}
use Rattle.absorb.proofs.Moves.{chain_after, absorbed-is}
use Rattle.finish.specs.Finish.{finish_refusal, finished_reset}
use Rattle.claims.specs.Sound.{Typed}
use Rattle.claims.specs.Marked.{again_by, whole_blocks}
use Rattle.claims.proofs.After.{words-then, of-updated}
use Rattle.claims.proofs.Along.{hash-words, initial-words}

five-words : (r : Regs) → Words r → AllWords (five_of r)
five-words r w zero = w.a_lt
five-words r w (suc zero) = w.b_lt
five-words r w (suc (suc zero)) = w.c_lt
five-words r w (suc (suc (suc zero))) = w.d_lt
five-words r w (suc (suc (suc (suc zero)))) = w.e_lt
five-words r w (suc (suc (suc (suc (suc i))))) = lit< tt

-- A new hasher does.
pub fresh-typed : (f : Flags) → Typed (fresh_of f)
fresh-typed f = record { words_are = five-words initial initial-words; bytes-are = replicate-below 64 0 (lit< tt) }

module _ (h : Hasher) (typed : Typed h) where
  pub own-words : Words (regs_of h.words)
  own-words =
      let w = typed.words_are in
      record { a_lt = w 0; b_lt = w 1; c_lt = w 2; d_lt = w 3; e_lt = w 4 }

  pub stream-bytes : (bytes : List ℕ) → AllBytes bytes → AllBytes (stream_of h bytes)
  stream-bytes bytes b = append-below (take h.fill h.pending) bytes (take_below h.fill h.pending typed.bytes-are) b

  -- So does what an update with bytes hands back, refused or not, if the hasher handed in did.
  pub update-typed : (bytes : List ℕ) (l : Loan) → AllBytes bytes → Typed (updated h bytes l).hasher
  update-typed bytes l b =
      let s = stream_of h bytes in
      let rest = rest_of s in
      let words : Words (chain_after h bytes l).words =
      subst Words (sym (words-then h.flags l (chain_of h) s))
      (hash-words (again_by h.flags l.tables) (whole_blocks s) (regs_of h.words) s (looked_at h.flags l.masks) own-words)
      in
      of-updated Typed h bytes l typed
      (λ a.
      rw (absorbed-is h bytes l)
      (record {
        words_are = five-words (chain_after h bytes l).words words;
        bytes-are = append-below rest (replicate (64 - length rest) 0) (drop-below (64 * (length s / 64)) s (stream-bytes bytes b)) (replicate-below (64 - length rest) 0 (lit< tt));
      }))

  -- So does what a reset hands back.
  pub reset-typed : Typed (reset_of h).hasher
  unfolding reset_of
  reset-typed = of_either (λ (u : UpdateAccount). Typed u.hasher) (well_formed h) _ _ (fresh-typed h.flags) typed

  -- So does what a finish-and-reset hands back.
  pub finish-reset-typed : (size : ℕ) (l : Loan) → Typed (finished_reset h size l).hasher
  unfolding finished_reset
  finish-reset-typed size l = of_either Typed (is_ok (finish_refusal h size l)) _ h (fresh-typed h.flags) typed
