-- A goal that stands in the tree of a phase (this project's own).
use Rattle.std.specs.Prelude.{◌≡◌, ◌⊎◌, List, [], ◌∷◌, ◌++◌}
use Rattle.and_model.specs.Terms.{Path, Term, framed}
use Rattle.and_model.specs.Programs.{Program, call, arithmetic, Arithmetic, arithmetic_in}
use Rattle.and_model.specs.Candidates.{In}
use Rattle.and_model.specs.Trees.{query_agenda, arithmetics}
use Rattle.and_model.specs.Reductions.{Reduction, PlaceHas}
use Rattle.and_model.specs.Stands.{ClauseHas, term_of}
use Rattle.and_model.specs.declared.goal.Goal.{Goal}
use Rattle.and_branch_laws.specs.Kept.{item_at}
use Rattle.and_phase_laws.specs.Journals.{Journal, goals, Opening, IsCall}

-- Stands op rs j g: the goal stands at a place that these reductions give a path. If it is a call, or arithmetic, it
-- is one of the opening's tree or of a body of the journal.
pub record Stands {P : Program} (op : Opening P (query_agenda P)) (rs : List Reduction) (j : Journal)
    (g : Goal) : Type 0 where
  pub path : Path
  pub place : PlaceHas rs g.node path
  pub clause : ClauseHas rs g.node g.clause.0
  pub based : g.base ≡ g.node
  pub call : (term : Term) → item_at P g ≡ call term → IsCall op j (path ++ g.item ∷ []) (framed path (term_of P g))
  pub arithmetic : (a : Arithmetic) → item_at P g ≡ arithmetic a
      → In (arithmetic_in path a) (arithmetics op.tree) ⊎ In (arithmetic_in path a) (goals P j)
