-- The hasher of one message, once for each way to update it: by value, in place, and on lane 1 of a bench of three.
use Rattle.std.specs.Prelude.{List, ℕ, eqb, replicate}
use Rattle.word.specs.Choice.{pick}
use Rattle.flags.specs.declared.Flags.{Flags}
use Rattle.loan.specs.Loan.{Loan}
use Rattle.hasher.specs.Hasher.{fresh_of}
use Rattle.hasher.specs.declared.Hasher.{Hasher}
use Rattle.update.specs.Update.{updated}
use Rattle.verdict.specs.Verdict.{digest_size}
use Rattle.finish.specs.Finish.{finished_reset}
use Rattle.bench_by_value.specs.ByValue.{updated_through, finished_through}
use Rattle.short_run.specs.declared.calls.Call.{Call}
use Rattle.short_run.specs.declared.calls.Call.TheVariants.{Update, Finish}
use Rattle.short_run.specs.declared.ways.Ways.{Ways}

-- new hashers
abbrev pub ways_new : Flags → Ways
ways_new f = record { value = fresh_of f; place = fresh_of f; lanes = replicate 17 (fresh_of f) }

-- the lanes after an update of lane 1
abbrev pub lanes_updated : List Hasher → List ℕ → Loan → List Hasher
lanes_updated lanes bytes l = (updated_through lanes 3 1 bytes l).bench

-- the hashers after an update of each
abbrev pub ways_updated : Ways → List ℕ → Loan → Ways
ways_updated w bytes l =
    record { value = (updated w.value bytes l).hasher; place = (updated w.place bytes l).hasher; lanes = lanes_updated w.lanes bytes l }

-- the lanes after a finish-and-reset of lane 1 into bytes that were A5
abbrev pub lanes_finished : List Hasher → Loan → List Hasher
lanes_finished lanes l = (finished_through lanes 3 1 (replicate digest_size 0xA5) l).bench

-- the hashers after a finish of the first, which comes back as it was, and a finish-and-reset of the others
abbrev pub ways_finished : Ways → Loan → Ways
ways_finished w l =
    record { value = w.value; place = (finished_reset w.place digest_size l).hasher; lanes = lanes_finished w.lanes l }

-- the call that a letter names: `u` an update, any other a finish
abbrev pub call_named : ℕ → Call
call_named letter = pick (eqb letter 0x75) Update Finish

-- the hashers after a call: an update with some bytes, or a finish
abbrev pub after_call : Call → Ways → List ℕ → Loan → Ways
after_call Update w bytes l = ways_updated w bytes l
after_call Finish w bytes l = ways_finished w l
