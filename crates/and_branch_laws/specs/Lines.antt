-- What the line of a branch is written of.
use Rattle.std.specs.Prelude.{ℕ, ◌+◌, ◌<◌, ◌≡◌, List, [], map, All, Contains}
use Rattle.and_model.specs.Terms.{Path, Substitution, variables_of}
use Rattle.and_model.specs.Programs.{Arithmetic}
use Rattle.and_model.specs.Lines.{goal_term}
use Rattle.and_model.specs.Stands.{Framed, term_of, in_tree}
use Rattle.and_model.specs.declared.goal.Goal.{Goal}
use Rattle.and_model.specs.declared.reference.Ref.{Ref}
use Rattle.and_model.specs.declared.reference.Ref.TheVariants.{Cell}
use Rattle.and_cells.specs.Ranges.{NamedProgram}
use Rattle.and_cells.specs.Meaning.{StandsFor}
use Rattle.and_branch_laws.specs.Kept.{goal_of}

-- Terms for the query's variables, whose frame is at base 0, and for those of the goals that wait, in the frames of
-- their paths: those that the cells of the frames stand for. (So printing takes them: from these it writes `line` of
-- the terms and the goals.)
pub record LineIsRead (P : NamedProgram) (row : List Ref) (waiting : List Goal) : Type 0 where
  pub terms : Substitution
  pub framed : List Framed
  pub waits : List Arithmetic
  pub goals_are : map goal_of framed ≡ waiting
  pub waits_are : map (in_tree P.program) framed ≡ map goal_term waits
  pub query : (k : ℕ) → k < P.program.query.variables → StandsFor P row (Cell (0 + 1 + k)) (terms [] k)
  pub goals : All (λ (f : Framed). (v : Path × ℕ) → Contains (variables_of (term_of P.program f.goal)) v
      → StandsFor P row (Cell (f.goal.base + 1 + v.1)) (terms f.frame v.1)) framed
