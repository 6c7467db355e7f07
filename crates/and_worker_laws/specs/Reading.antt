-- Acts as entries of a phase's journal (this project's own).
use Rattle.std.specs.Prelude.{◌≡◌, List, [], ◌∷◌, ◌++◌}
use Rattle.and_model.specs.Terms.{Path, apply, framed}
use Rattle.and_model.specs.Programs.{Program, arithmetic_in}
use Rattle.and_model.specs.Reductions.{Reduction, PlaceHas}
use Rattle.and_model.specs.Stands.{term_of}
use Rattle.and_worker_laws.specs.PhaseCells.{put_apart}
use Rattle.and_phase_laws.specs.Journals.{Entry, frame, setting, failing, Journal}
use Rattle.and_phase_laws.specs.Weaving.{Run}
use Rattle.and_worker_laws.specs.Acts.{Act, takes, sets, fails, RunInCells}

-- The entry is the act, where places have the paths that these reductions give them: a reduction's call stands in the
-- frame of its place, and a setting's equation speaks of the cells as variables of the frame apart.
abbrev pub IsReadAs : Program → List Reduction → (apart : Path) → Act → Entry → Type 0
IsReadAs P rs apart (takes w g r) e = (p : Path) × PlaceHas rs g.node p
    × (e ≡ frame w (p ++ g.item ∷ []) (framed p (term_of P g)) r.clause)
IsReadAs P rs apart (sets w d) e = e ≡ setting w (apply (put_apart apart) d.0, apply (put_apart apart) d.1)
IsReadAs P rs apart (fails w) e = e ≡ failing w

-- one by one
abbrev pub AreReadAs : Program → List Reduction → (apart : Path) → List Act → Journal → Type 0
AreReadAs P rs apart [] [] = Unit {0}
AreReadAs P rs apart [] (e ∷ j) = ⊥
AreReadAs P rs apart (a ∷ acts) [] = ⊥
AreReadAs P rs apart (a ∷ acts) (e ∷ j) = IsReadAs P rs apart a e × AreReadAs P rs apart acts j

-- The run is that of the tree.
pub record IsRunReadAs (rs : List Reduction) (r : RunInCells) (run : Run) : Type 0 where
  pub path : Path
  pub place : PlaceHas rs r.goal.node path
  pub at : run.at ≡ r.at
  pub worker : run.worker ≡ r.worker
  pub goal : run.goal ≡ arithmetic_in path r.what
  pub terms : run.terms ≡ r.terms

-- one by one
abbrev pub AreRunsReadAs : List Reduction → List RunInCells → List Run → Type 0
AreRunsReadAs rs [] [] = Unit {0}
AreRunsReadAs rs [] (s ∷ runs) = ⊥
AreRunsReadAs rs (r ∷ cells) [] = ⊥
AreRunsReadAs rs (r ∷ cells) (s ∷ runs) = IsRunReadAs rs r s × AreRunsReadAs rs cells runs
