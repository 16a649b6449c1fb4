-- The counts of lines, one for each kind and one for refusals.
use Rattle.std.specs.Prelude.{ℕ, ◌+◌, ◌%◌, ◌^◌, List, slice_index, slice_set}
use Rattle.word.specs.Choice.{pick}
use Rattle.replay_line.specs.declared.kind.Kind.{Kind}
use Rattle.replay_line.specs.declared.kind.Kind.TheVariants.{Comment, Table, Block, Fresh, Update, Finish, FinishReset, OneShot, Reset}
use Rattle.replay_line.specs.Kinds.{is_refused}
use Rattle.replay_run.specs.declared.counts.Counted.{Counted}
use Rattle.replay_run.specs.declared.counts.Counted.TheVariants.{Comments, Tables, Blocks, Hashers, Updates, Finishes, Closings, OneShots, Resets, Refusals, Differences}

-- the place of a count
abbrev pub place : Counted → ℕ
place Comments = 0
place Tables = 1
place Blocks = 2
place Hashers = 3
place Updates = 4
place Finishes = 5
place Closings = 6
place OneShots = 7
place Resets = 8
place Refusals = 9
place Differences = 10

-- what a kind counts as
abbrev pub kind_counted : Kind → Counted
kind_counted Comment = Comments
kind_counted Table = Tables
kind_counted Block = Blocks
kind_counted Fresh = Hashers
kind_counted Update = Updates
kind_counted Finish = Finishes
kind_counted FinishReset = Closings
kind_counted OneShot = OneShots
kind_counted Reset = Resets

-- what a line that is right counts as: refusals of every kind have one count
abbrev pub counted : Kind → List ℕ → Counted
counted k line = pick (is_refused line) Refusals (kind_counted k)

-- the counts with one more at a place
abbrev pub more_at : List ℕ → ℕ → List ℕ
more_at c i = slice_set c i ((slice_index c i + 1) % 2 ^ 64)
