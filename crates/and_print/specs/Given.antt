-- What a line is written of.
use Rattle.std.specs.Prelude.{ℕ, ◌+◌, ◌<◌, ◌≡◌, List, [], map, All, Contains}
use Rattle.and_model.specs.Terms.{Path, Substitution, variables_of}
use Rattle.and_model.specs.Programs.{Arithmetic}
use Rattle.and_model.specs.Lines.{goal_term}
use Rattle.and_model.specs.Stands.{Framed, term_of, in_tree}
use Rattle.and_model.specs.declared.goal.Goal.{Goal}
use Rattle.and_model.specs.declared.reference.Ref.{Ref}
use Rattle.and_model.specs.declared.reference.Ref.TheVariants.{Cell}
use Rattle.and_cells.specs.Ranges.{NamedProgram}
use Rattle.and_cells.specs.Meaning.{StandsFor}

-- The substitution gives the variables of the query, whose frame is at base 0, the terms that their cells stand for.
abbrev pub GivesQuery : NamedProgram → List Ref → Substitution → Type 0
GivesQuery P row s = (k : ℕ) → k < P.program.query.variables → StandsFor P row (Cell (0 + 1 + k)) (s [] k)

-- It gives the variables of a goal, in the frame of its path, the terms that the cells of the goal's frame stand for.
abbrev pub GivesGoal : NamedProgram → List Ref → Substitution → Framed → Type 0
GivesGoal P row s f =
    (v : Path × ℕ) → Contains (variables_of (term_of P.program f.goal)) v
    → StandsFor P row (Cell (f.goal.base + 1 + v.1)) (s f.frame v.1)

-- What a line is written of: terms for the query's variables, and goals of arithmetic that wait, each with the path
-- of its frame.
pub record Given (P : NamedProgram) (row : List Ref) (waiting : List Goal) : Type 0 where
  pub terms : Substitution
  pub framed : List Framed
  pub waits : List Arithmetic
  pub goals_are : map (λ (f : Framed). f.goal) framed ≡ waiting
  pub waits_are : map (in_tree P.program) framed ≡ map goal_term waits
  pub query : GivesQuery P row terms
  pub goals : All (GivesGoal P row terms) framed
