-- What holds of every table: its lists are the lifted clauses of what was added to it.
use Rattle.std.specs.Prelude.{ℕ, ◌+◌, ◌≤◌, ◌≡◌, true, List, [], ◌++◌, map, length, Option, Some, None}
use Rattle.std.proofs.Props.{props}
use Rattle.and_model.specs.Lines.{Bytes}
use Rattle.and_model.specs.Programs.{Clause, builtin_names}
use Rattle.and_source.specs.Source.{SourceClause, calls_in_items}
use Rattle.and_source.specs.Lifted.{lifted_clause, clauses_of, clauses_of_items}
use Rattle.and_syntax.specs.Tables.{Table}
use Rattle.and_program.specs.Skeletons.{Shape, AllFall}
use Rattle.and_program.specs.Kept.{begins_with_true, AllWithin, IsEntry, AllEntries}
use Rattle.and_program.specs.Once.{AllFall-prop, AllWithin-prop, IsEntry-prop, AllEntries-prop}
use Rattle.and_program.specs.Nodes.{entry_clause}
use Rattle.and_program.specs.declared.entry.ClauseEntry.{ClauseEntry}
use Rattle.and_clauses.specs.Same.{same_clause, same_clauses}
use Rattle.and_judging.specs.Unknown.{call_at, calls_of}
use Rattle.and_judging.specs.declared.data.Called.{Called}
use Rattle.and_judging.specs.declared.judging.Used.{Used}
use Rattle.and_model.specs.declared.limits.TheConstants.{MAX_CLAUSES, MAX_NODES}

-- the clauses of the query's alternatives, if it was set
abbrev pub asked_clauses : Option SourceClause → List Clause
asked_clauses None = []
asked_clauses (Some q) = clauses_of_items q q.body

-- the clauses to which those of a table are lifted
abbrev pub lifted_of : Table → List Clause
lifted_of T = clauses_of T.earlier ++ asked_clauses T.asked ++ clauses_of T.later

-- what the query calls, if it was set
abbrev pub asked_calls : Option SourceClause → List Called
asked_calls None = []
asked_calls (Some q) = map (call_at q.line) (calls_in_items q.body)

-- what the clauses and the query of a table call, in the order of the text
abbrev pub called_of : Table → List Called
called_of T = calls_of T.earlier ++ asked_calls T.asked ++ calls_of T.later

-- The entry is that of the query, whose head is the atom `true`; without a query no clause stands behind it.
abbrev pub IsAsked : List Shape → Option ClauseEntry → Option SourceClause → ℕ → Type 0
IsAsked ss None None later = later ≡ 0
IsAsked ss None (Some q) later = ⊥
IsAsked ss (Some e) None later = ⊥
IsAsked ss (Some e) (Some q) later = (e.head.0 ≡ 0) × IsEntry ss e
    × (same_clause (entry_clause ss e) (lifted_clause q) ≡ true)

-- What holds of a table.
pub record IsKept (ss : List Shape) (es : List ClauseEntry) (query : Option ClauseEntry) (calls : List Called)
    (names : List Bytes) (used : Used) (T : Table) : Type 0 where
  pub begins : begins_with_true ss ≡ true
  pub falls : AllFall 0 ss
  pub within : AllWithin (length names) ss
  pub entries : AllEntries ss es
  pub clauses : same_clauses (map (entry_clause ss) es) (lifted_of T) ≡ true
  pub asked : IsAsked ss query T.asked (length T.later)
  pub called : calls ≡ called_of T
  pub all_names : names ≡ T.names
  pub all_nodes : used.nodes ≡ T.nodes
  pub all_numbers : used.numbers ≡ T.numbers
  pub all_disjunctions : used.disjunctions ≡ T.disjunctions
  pub numbered : length es ≡ used.numbers
  pub few_nodes : length ss ≤ used.nodes + 1
  pub few_used : used.nodes ≤ MAX_NODES
  pub few_clauses : used.numbers ≤ MAX_CLAUSES
  pub few_names : length names ≤ length builtin_names + used.nodes
  pub few_disjunctions : used.disjunctions ≤ used.nodes

pub IsAsked-prop : (ss : List Shape) (e : Option ClauseEntry) (q : Option SourceClause) (later : ℕ)
    → IsProp (IsAsked ss e q later)
IsAsked-prop ss None None later = hlevel props
IsAsked-prop ss None (Some q) later = hlevel props
IsAsked-prop ss (Some e) None later = hlevel props
IsAsked-prop ss (Some e) (Some q) later = hlevel (IsEntry-prop ss e, props)

pub IsKept-prop : (ss : List Shape) (es : List ClauseEntry) (query : Option ClauseEntry) (calls : List Called)
    (names : List Bytes) (used : Used) (T : Table)
    → IsProp (IsKept ss es query calls names used T)
IsKept-prop ss es query calls names used T =
    hlevel (
      AllFall-prop 0 ss,
      AllWithin-prop (length names) ss,
      AllEntries-prop ss es,
      IsAsked-prop ss query T.asked (length T.later),
      props,
    )
