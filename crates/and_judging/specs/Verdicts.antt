-- What is known of a body that is to be judged, and of what was judged.
use Rattle.std.specs.Prelude.{ℕ, ◌+◌, ◌≤◌, ◌≡◌, List, [], length, All, Some}
use Rattle.and_model.specs.Lines.{Bytes}
use Rattle.and_model.specs.OwnVariables.{IsOwn}
use Rattle.and_source.specs.Source.{variables_of_items}
use Rattle.and_syntax.specs.Written.{Written, met_after}
use Rattle.and_syntax.specs.Clauses.{Parts, alternatives_of, disjunctions_of, numbered}
use Rattle.and_syntax.specs.Tables.{Table, names_with, nodes_with}
use Rattle.and_drafts.specs.Parts.{part_shapes}
use Rattle.and_drafts.specs.Numbered.{met_by}
use Rattle.and_judging.specs.Marks.{marks_in}
use Rattle.and_judging.specs.Bodies.{bare, marks_at, IsBody}
use Rattle.and_judging.specs.Sorts.{shapes_under, TokensThere, AreOutlinesThere, IsSorted}
use Rattle.and_drafts.specs.declared.draft.DraftPart.{DraftPart}
use Rattle.and_judging.specs.declared.body.Body.{Body}
use Rattle.and_judging.specs.declared.judging.Used.{Used}
use Rattle.and_judging.specs.declared.judging.Judged.{Judged}
use Rattle.and_model.specs.declared.limits.TheConstants.{MAX_CLAUSES, MAX_NODES, MAX_VARIABLES}

-- The tokens are those of a body of these parts, which has few alternatives and no variables but theirs.
pub record IsBodyOf (parts : List DraftPart) (b : Body) : Type 0 where
  pub names : List Bytes
  pub clause : ℕ
  pub disjunction : ℕ
  pub body : Parts
  pub is : IsBody (shapes_under names parts) clause disjunction body (Some b)
  pub there : TokensThere (length parts) b.tokens.items
  pub few : alternatives_of body ≤ length parts
  pub own : All (IsOwn (length (met_by [] (part_shapes parts)))) (variables_of_items (bare clause disjunction body))

-- so much is used, and a table that has so much has these names with those of the term
pub record IsUnder (T : Table) (w : Written) (names : List Bytes) (used : Used) : Type 0 where
  pub names_are : names ≡ names_with T w
  pub nodes : used.nodes ≡ T.nodes
  pub numbers : used.numbers ≡ T.numbers
  pub disjunctions : used.disjunctions ≡ T.disjunctions

-- What is judged of a term with that body, whose alternatives are numbered from c on: the tokens, what they fall into,
-- and what the table has with it, which takes n numbers.
pub record IsJudged (T : Table) (w : Written) (parts : List DraftPart) (ps : Parts) (c n : ℕ) (j : Judged)
    : Type 0 where
  pub marks : marks_in (shapes_under (names_with T w) parts) j.tokens.items ≡ marks_at c T.disjunctions ps
  pub there : TokensThere (length parts) j.tokens.items
  pub sorted : (name : ℕ → ℕ)
      → IsSorted (shapes_under (names_with T w) parts) (numbered name c T.disjunctions ps) j.sorted
  pub placed : AreOutlinesThere (length parts) j.sorted.outlines.items
  pub nodes : j.used.nodes ≡ T.nodes + nodes_with T w ps
  pub numbers : j.used.numbers ≡ T.numbers + n
  pub disjunctions : j.used.disjunctions ≡ T.disjunctions + disjunctions_of ps
  pub few_variables : length (met_after [] w) ≤ MAX_VARIABLES
  pub few_nodes : j.used.nodes ≤ MAX_NODES
  pub few_clauses : j.used.numbers ≤ MAX_CLAUSES
