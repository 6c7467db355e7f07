use Rattle.std.proofs.Common.{List, drop}
use Rattle.and_program.specs.Loaded.{program_of}
use Rattle.and_cells.specs.Parts.{named}
use Rattle.and_proof.specs.Proofs.{Replaced}
use Rattle.and_proof.specs.Written.{AreCallsRead}
use Rattle.and_proof.proofs.NamedAlong.{LinesLeft}
use Rattle.and_proof.proofs.explaining.write_calls.Given as goal

abbrev pub invariant-loop-place : goal.invariant-loop-place
invariant-loop-place g l = (rs : List Replaced) → AreCallsRead (named l.loaded) l.cells l.taken rs
    → LinesLeft (program_of l.loaded) rs (drop l.place rs) l.initial.names l.names l.initial.out l.out
