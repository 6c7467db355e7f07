-- What a visitor was told of a program's query (this project's own).
use Rattle.std.specs.Prelude.{ℕ, ◌≡◌, Bool, false, List, [], ◌++◌}
use Rattle.and_model.specs.Programs.{Program}
use Rattle.and_traces.specs.Traces.{Report, TracesQuery, CutsMeet}

-- It was told all that there is to tell of the query; or where it has enough, the beginning of that. In each cut that
-- it was told the limit was met.
pub record IsSearched (P : Program) (limit : ℕ) (HasSeen : List Report → Type 0) (has_enough : Bool) : Type 0 where
  pub seen : List Report
  pub has : HasSeen seen
  pub cuts : CutsMeet P limit seen
  pub rest : List Report
  pub traces : TracesQuery P limit (seen ++ rest)
  pub whole : has_enough ≡ false → rest ≡ []
