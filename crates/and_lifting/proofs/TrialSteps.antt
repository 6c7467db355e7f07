-- Unfoldings of the small texts.
use Rattle.std.proofs.Common.{List, Option, Some, None, ℕ}
use Rattle.and_source.specs.Source.{SourceProgram}
use Rattle.and_source.specs.Unfolding.{Unfolding, source_unfold, source_start}

abbrev or_else : Unfolding → Option Unfolding → Unfolding
or_else u None = u
or_else u (Some v) = v

-- the unfolding of a code that has one
abbrev pub at : SourceProgram → List ℕ → Unfolding
at P cs = or_else (source_start P) (source_unfold P cs)
