-- What holds of the nodes and entries of a program: each names what is there, and its own variables.
use Rattle.std.specs.Prelude.{ℕ, ◌+◌, ◌<◌, ◌≤◌, ◌≡◌, Bool, true, false, nat_eq, List, [], ◌∷◌, map, length}
use Rattle.and_model.specs.Lines.{Bytes}
use Rattle.and_model.specs.OwnVariables.{HasOwnVariables}
use Rattle.and_program.specs.Skeletons.{Shape, variable, number, compound, AllFall, AllThere}
use Rattle.and_program.specs.Items.{node_item}
use Rattle.and_program.specs.Nodes.{entry_clause}
use Rattle.and_program.specs.declared.entry.ClauseEntry.{ClauseEntry}
use Rattle.and_model.specs.declared.limits.TheConstants.{MAX_ARGUMENTS, MAX_CLAUSES, MAX_NODES, MAX_VARIABLES}
use Rattle.and_model.specs.declared.builtins.TheConstants.{TRUE}

-- the first node is the atom `true`
abbrev pub begins_with_true : List Shape → Bool
begins_with_true [] = false
begins_with_true (variable k ∷ ss) = false
begins_with_true (number z ∷ ss) = false
begins_with_true (compound c [] ∷ ss) = nat_eq c TRUE
begins_with_true (compound c (n ∷ ns) ∷ ss) = false

-- a variable has one of so many numbers, and a name one of m
abbrev pub IsWithin : ℕ → Shape → Type 0
IsWithin m (variable k) = k < MAX_VARIABLES
IsWithin m (number z) = Unit {0}
IsWithin m (compound c ns) = (c < m) × (length ns ≤ MAX_ARGUMENTS)

-- so it is of each node
abbrev pub AllWithin : ℕ → List Shape → Type 0
AllWithin m [] = Unit {0}
AllWithin m (s ∷ ss) = IsWithin m s × AllWithin m ss

-- the nodes of an entry are there, its `is` goals are numbered, and its terms name its own variables alone
abbrev pub IsEntry : List Shape → ClauseEntry → Type 0
IsEntry ss e = (e.head.0 < length ss) × AllThere ss 0 (map node_item e.items.items)
    × HasOwnVariables (entry_clause ss e)

-- so it is of each entry
abbrev pub AllEntries : List Shape → List ClauseEntry → Type 0
AllEntries ss [] = Unit {0}
AllEntries ss (e ∷ es) = IsEntry ss e × AllEntries ss es

-- What holds of the nodes, the query and the clauses of a program: each names what is there, and its own variables
-- alone. The query's head is the atom `true`.
pub record IsProgram (ss : List Shape) (query : ClauseEntry) (es : List ClauseEntry) (names : List Bytes) : Type 0 where
  pub begins : begins_with_true ss ≡ true
  pub falls : AllFall 0 ss
  pub within : AllWithin (length names) ss
  pub entries : AllEntries ss es
  pub query_there : IsEntry ss query
  pub query_true : query.head.0 ≡ 0
  pub few_nodes : length ss ≤ MAX_NODES + 1
  pub few_clauses : length es ≤ MAX_CLAUSES
