-- What the making of clauses says of the lists of a table.
use Rattle.std.specs.Prelude.{ℕ, ◌+◌, ◌≤◌, ◌<◌, ◌≡◌, true, List, [], ◌∷◌, length, take, Option, Some, None}
use Rattle.and_model.specs.Lines.{Bytes}
use Rattle.and_model.specs.Programs.{builtin_names}
use Rattle.and_source.specs.Source.{SourceClause}
use Rattle.and_source.specs.Lifted.{lifted_clause, clauses_of_items}
use Rattle.and_syntax.specs.Written.{Written, nodes_of}
use Rattle.and_syntax.specs.Clauses.{Parts, head_of, body_of, asked_of}
use Rattle.and_syntax.specs.Tables.{Table, names_with, term_with, all_names_with, items_with, nodes_with, clause_of}
use Rattle.and_program.specs.Skeletons.{Shape, node_term, AllFall}
use Rattle.and_program.specs.Kept.{begins_with_true, AllWithin}
use Rattle.and_program.specs.Nodes.{shapes_of, names_of}
use Rattle.and_program.specs.declared.entry.ClauseEntry.{ClauseEntry}
use Rattle.and_drafts.specs.Drafts.{draft_of}
use Rattle.and_drafts.specs.Numbered.{Extends}
use Rattle.and_judging.specs.Sorts.{shapes_under}
use Rattle.and_judging.specs.Verdicts.{IsJudged}
use Rattle.and_clauses.specs.Copied.{Grown}
use Rattle.and_clauses.specs.Copies.{Begins}
use Rattle.and_clauses.specs.Lifts.{head_term, AreLifted}
use Rattle.and_clauses.specs.Kept.{IsKept}
use Rattle.and_drafts.specs.declared.draft.ClauseDraft.{ClauseDraft}
use Rattle.and_drafts.specs.declared.draft.DraftPart.{DraftPart}
use Rattle.and_clauses.specs.declared.making.Lists.{Lists}
use Rattle.and_clauses.specs.declared.making.Made.{Made}
use Rattle.and_judging.specs.declared.judging.Used.{Used}
use Rattle.and_judging.specs.declared.judging.Judged.{Judged}
use Rattle.and_model.specs.declared.limits.TheConstants.{MAX_CLAUSES, MAX_NODES}

-- The lists are those of that table, which has so much.
abbrev pub Keeps : Lists → Option ClauseEntry → Used → Table → Type 0
Keeps l query used T =
    IsKept (shapes_of l.nodes.items) l.clauses.items query l.calls.items (names_of l.names.keys) used T

-- The nodes name what is there, and what is used is within the limits.
pub record HasRoom (ss : List Shape) (names : List Bytes) (used : Used) : Type 0 where
  pub begins : begins_with_true ss ≡ true
  pub falls : AllFall 0 ss
  pub within : AllWithin (length names) ss
  pub few_nodes : length ss ≤ used.nodes + 1
  pub few_used : used.nodes ≤ MAX_NODES
  pub few_clauses : used.numbers ≤ MAX_CLAUSES
  pub few_names : length names ≤ length builtin_names + used.nodes
  pub few_disjunctions : used.disjunctions ≤ used.nodes

-- The one lists are the others, and what was put at their ends.
pub record Grows (old new : Lists) : Type 0 where
  pub nodes : Begins (shapes_of old.nodes.items) (shapes_of new.nodes.items)
  pub names : Extends (names_of old.names.keys) (names_of new.names.keys)
  pub clauses : take (length old.clauses.items) new.clauses.items ≡ old.clauses.items
  pub calls : take (length old.calls.items) new.calls.items ≡ old.calls.items

-- The term's head and that body are those of a clause, where the head is a part, and else the body is that of a query.
abbrev pub AreSides : Table → Written → List DraftPart → Option ℕ → Parts → Type 0
AreSides T w parts None ps = ps ≡ asked_of (term_with T w)
AreSides T w parts (Some n) ps = (n < length parts)
    × (node_term (shapes_under (names_with T w) parts) n ≡ head_of (term_with T w)) × (ps ≡ body_of (term_with T w))

-- What was judged of a draft's term, and room for its nodes.
pub record IsReady (T : Table) (w : Written) (ps : Parts) (c n : ℕ) (names : List Bytes) (us : List Shape)
    (d : ClauseDraft) (j : Judged) (head : Option ℕ) (first : ℕ) : Type 0 where
  pub one : (draft_of d).finished ≡ w ∷ []
  pub names_are : names ≡ names_with T w
  pub judged : IsJudged T w d.parts.items ps c n j
  pub sides : AreSides T w d.parts.items head ps
  pub begins : begins_with_true us ≡ true
  pub falls : AllFall 0 us
  pub within : AllWithin (length names) us
  pub first_is : first ≡ T.disjunctions
  pub few_nodes : length us ≤ T.nodes + 1
  pub few_names : length names ≤ length builtin_names + (T.nodes + nodes_of w)
  pub few_disjunctions : T.disjunctions ≤ T.nodes

-- the source clause of what was judged
abbrev pub clause_judged : Table → Written → Parts → ℕ → Option ℕ → List DraftPart → ℕ → SourceClause
clause_judged T w ps c head parts line =
    clause_of 0 w line (head_term (shapes_under (names_with T w) parts) head) (items_with T w c ps)

-- What was made of it: its clause and those of its alternatives.
pub record IsMade (T : Table) (w : Written) (ps : Parts) (c : ℕ) (names : List Bytes) (us vs : List Shape)
    (d : ClauseDraft) (j : Judged) (head : Option ℕ) (m : Made) : Type 0 where
  pub names_are : names ≡ all_names_with T w ps
  pub grown : Grown (length names) us vs (length us + nodes_with T w ps)
  pub lifted : (number : ℕ) → let k = record (clause_judged T w ps c head d.parts.items d.line) { number = number } in
      AreLifted vs (m.entry ∷ m.alternatives.items) (lifted_clause k ∷ clauses_of_items k k.body)
  pub asked : head ≡ None → m.entry.head.0 ≡ 0
  pub tokens : m.tokens.items ≡ j.tokens.items
  pub used : m.used ≡ j.used
