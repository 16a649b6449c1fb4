-- `program_io::load` meets its contract. Assumes nothing.
use mathlib.Core.Path.{refl}
use mathlib.Core.List.{[]}
use Prim.Native.Nat.{zero-le}
use lib.IntN.{pos, negsuc}
use Rattle.line.proofs.Passed.{passed_on}
use Rattle.program_io.proofs.load.Goals as goal

-- the file was opened
pub returns : goal.returns
returns g c =
    let f = c.read_file.ensures.fills in
    record { fits = f.fits; file = record { fd = pos 0; reads = f.reads }; loaded = f.filled }

-- it was not
pub returns-in_err-file : goal.returns-in_err-file
returns-in_err-file g c =
    rw (passed_on c.from_residual.result _ c.from_residual.ensures.1)
    (record { fits = zero-le; file = record { fd = negsuc 0; reads = [] }; loaded = refl })
