-- The program that runs, and the program of the text (this project's own).
use Rattle.std.specs.Prelude.{◌≡◌}
use Rattle.and_model.specs.Programs.{Program}
use Rattle.and_source.specs.Source.{SourceProgram, IsNumbered}
use Rattle.and_source.specs.Lifted.{lift}

-- What runs is the program without disjunctions to which a numbered program is lifted.
pub record IsLifted (source : SourceProgram) (program : Program) : Type 0 where
  pub numbered : IsNumbered source
  pub is : program ≡ lift source
