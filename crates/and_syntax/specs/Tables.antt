-- Tables of clauses: what a clause or query adds, what is refused, and the program of a whole table (this project's own
-- limits).
use Rattle.std.specs.Prelude.{ℕ, zero, suc, ◌+◌, ◌*◌, Bool, true, false, not, cond, ltb, ◌||◌, List, [], ◌∷◌}
use Rattle.std.specs.Prelude.{◌++◌, length}
use Rattle.std.specs.Prelude.{get_or, Option, Some, None}
use Rattle.std.specs.List.{list_any}
use Rattle.std.specs.Fmt.{decimal}
use Rattle.and_model.specs.Terms.{Term, compound, none}
use Rattle.and_model.specs.Programs.{Clause, same_predicate, builtin_names}
use Rattle.and_model.specs.Lines.{Bytes}
use Rattle.and_source.specs.Source.{SourceItems, Alternatives, no_alternatives, alternative, SourceClause}
use Rattle.and_source.specs.Source.{SourceProgram}
use Rattle.and_source.specs.Source.{distinct_variables, disjunctions_in_items, calls_in_items}
use Rattle.and_source.specs.Lifted.{lift}
use Rattle.and_syntax.specs.Written.{Written, nodes_of, named, place, including, met_after, term_in}
use Rattle.and_syntax.specs.Clauses.{Parts, is_refused, alternatives_of, disjunctions_of, numbered}
use Rattle.and_syntax.specs.Clauses.{head_of, body_of, asked_of, is_named, name_of, arity_of, is_built_in}
use Rattle.and_model.specs.declared.limits.TheConstants.{MAX_CLAUSES, MAX_NODES, MAX_VARIABLES}
use Rattle.and_model.specs.declared.builtins.TheConstants.{TRUE}

-- what there is too much of
pub data What : Type 0 where
  source : What
  clauses : What
  arguments : What
  variables : What
  nodes : What
  nesting : What

-- Why a clause or query is refused. A name that is redefined has its number of arguments.
pub data Fault : Type 0 where
  second_query : Fault
  not_pure : Fault
  redefines : Bytes → ℕ → Fault
  too_big : What → Fault

-- The clauses before the query and those behind it, and the query; the names; how many nodes there are, how many
-- clauses and alternatives, and how many disjunctions.
pub record Table : Type 0 where
  pub earlier : List SourceClause
  pub asked : Option SourceClause
  pub later : List SourceClause
  pub names : List Bytes
  pub nodes : ℕ
  pub numbers : ℕ
  pub disjunctions : ℕ

-- the table that each text begins with
abbrev pub empty : Table
empty =
    record { earlier = []; asked = None; later = []; names = builtin_names; nodes = 0; numbers = 0; disjunctions = 0 }

-- the names of a table with those of a term, and the term under them
abbrev pub names_with : Table → Written → List Bytes
names_with T w = named T.names w

abbrev pub term_with : Table → Written → Term
term_with T w = term_in (names_with T w) [] w

-- the name of the predicate to which disjunction d is lifted: the byte FF, which no text can write, and d
abbrev pub disjunction_name : ℕ → Bytes
disjunction_name d = 255 ∷ decimal d

-- the names with those of n disjunctions from d on
abbrev pub with_disjunctions : (d n : ℕ) → List Bytes → List Bytes
with_disjunctions d zero names = names
with_disjunctions d (suc n) names = with_disjunctions (suc d) n (including names (disjunction_name d))

-- the names of a table with those of a term and those of the disjunctions in its body
abbrev pub all_names_with : Table → Written → Parts → List Bytes
all_names_with T w ps = with_disjunctions T.disjunctions (disjunctions_of ps) (names_with T w)

-- the items of a term's body, whose alternatives are numbered from c on
abbrev pub items_with : Table → Written → ℕ → Parts → SourceItems
items_with T w c ps = numbered (λ d. place (disjunction_name d) (all_names_with T w ps)) c T.disjunctions ps

-- how many alternatives a disjunction has
abbrev pub count_of : Alternatives → ℕ
count_of no_alternatives = 0
count_of (alternative c items alts) = suc (count_of alts)

-- The nodes of the call and the heads to which each disjunction is lifted, with its distinct variables.
abbrev pub lifted_nodes : List (ℕ × Alternatives) → ℕ
lifted_nodes [] = 0
lifted_nodes (d ∷ ds) = suc (count_of d.1) * suc (length (distinct_variables d.1)) + lifted_nodes ds

-- the nodes of a term with that body
abbrev pub nodes_with : Table → Written → Parts → ℕ
nodes_with T w ps = nodes_of w + lifted_nodes (disjunctions_in_items (items_with T w 0 ps))

abbrev pub is_asked : Option SourceClause → Bool
is_asked None = false
is_asked (Some q) = true

-- the first whose condition holds
abbrev pub first_of : List (Bool × Fault) → Option Fault
first_of [] = None
first_of (f ∷ fs) = cond f.0 (Some f.1) (first_of fs)

-- Too many variables; too many nodes with those before; and too many clauses, where n numbers are taken.
abbrev pub sizes : Table → Written → Parts → ℕ → List (Bool × Fault)
sizes T w ps n =
    (ltb MAX_VARIABLES (length (met_after [] w)), too_big variables)
    ∷ (ltb MAX_NODES (T.nodes + nodes_with T w ps), too_big nodes)
    ∷ (ltb MAX_CLAUSES (T.numbers + n), too_big clauses) ∷ []

-- what may be wrong with a clause, in the order in which it is judged
abbrev pub clause_faults : Table → Written → List (Bool × Fault)
clause_faults T w =
    let t = term_with T w in
    let h = head_of t in
    (not (is_named h) || is_refused (body_of t), not_pure)
    ∷ (is_built_in (name_of h) (arity_of h), redefines (get_or (names_with T w) (name_of h) []) (arity_of h))
    ∷ sizes T w (body_of t) (suc (alternatives_of (body_of t)))

-- and with a query
abbrev pub query_faults : Table → Written → List (Bool × Fault)
query_faults T w =
    let ps = asked_of (term_with T w) in
    (is_asked T.asked, second_query) ∷ (is_refused ps, not_pure) ∷ sizes T w ps (alternatives_of ps)

abbrev pub clause_fault : Table → Written → Option Fault
clause_fault T w = first_of (clause_faults T w)

abbrev pub query_fault : Table → Written → Option Fault
query_fault T w = first_of (query_faults T w)

-- a clause of that number, head and body, whose first token is on that line
abbrev pub clause_of : (number : ℕ) → Written → (line : ℕ) → Term → SourceItems → SourceClause
clause_of number w line head items = record {
  number = number;
  head = head;
  body = items;
  variables = length (met_after [] w);
  written = met_after [] w;
  line = line;
}

-- The clause of a term: it takes the next number, and its alternatives the following ones.
abbrev pub next_clause : Table → Written → ℕ → SourceClause
next_clause T w line =
    let t = term_with T w in
    clause_of (suc T.numbers) w line (head_of t) (items_with T w (suc (suc T.numbers)) (body_of t))

-- The query of a term, whose head is the atom `true`: it is number 0, and its alternatives take the next numbers.
abbrev pub next_query : Table → Written → ℕ → SourceClause
next_query T w line =
    clause_of 0 w line (compound TRUE none) (items_with T w (suc T.numbers) (asked_of (term_with T w)))

-- the table with the names, nodes and disjunctions of a term with that body, and n numbers more
abbrev pub taken : Table → Written → Parts → ℕ → Table
taken T w ps n = record T {
  names = all_names_with T w ps;
  nodes = T.nodes + nodes_with T w ps;
  numbers = T.numbers + n;
  disjunctions = T.disjunctions + disjunctions_of ps;
}

-- a clause stands before the query as long as there is none
abbrev pub placed : Table → SourceClause → Table
placed T k = elim T.asked [
  | None ↦ record T { earlier = T.earlier ++ k ∷ [] }
  | Some q ↦ record T { later = T.later ++ k ∷ [] }
]

-- the table with one more clause
abbrev pub with_clause : Table → Written → ℕ → Table
with_clause T w line =
    let ps = body_of (term_with T w) in
    placed (taken T w ps (suc (alternatives_of ps))) (next_clause T w line)

-- the table with the query
abbrev pub with_query : Table → Written → ℕ → Table
with_query T w line =
    let ps = asked_of (term_with T w) in
    record (taken T w ps (alternatives_of ps)) { asked = Some (next_query T w line) }

-- the program of a table that has that query
abbrev pub program_of : Table → SourceClause → SourceProgram
program_of T q = record { earlier = T.earlier; query = q; later = T.later; names = T.names }

-- A called name and number of arguments without a clause, and the line of the clause that calls it.
pub record Unknown : Type 0 where
  pub name : Bytes
  pub arity : ℕ
  pub line : ℕ

-- the first of these calls that is of no clause's predicate
abbrev pub first_unknown : List Clause → List Term → Option Term
first_unknown cs [] = None
first_unknown cs (g ∷ gs) = cond (list_any (λ c. same_predicate g c.head) cs) (first_unknown cs gs) (Some g)

abbrev pub unknown_or : List Bytes → ℕ → Option Term → Option Unknown → Option Unknown
unknown_or names line None rest = rest
unknown_or names line (Some g) rest =
    Some (record { name = get_or names (name_of g) []; arity = arity_of g; line = line })

-- the first of these clauses' calls that is unknown, alternatives where they stand
abbrev pub unknown_in : List Bytes → List Clause → List SourceClause → Option Unknown
unknown_in names cs [] = None
unknown_in names cs (k ∷ ks) =
    unknown_or names k.line (first_unknown cs (calls_in_items k.body)) (unknown_in names cs ks)

-- The first call in the order of the text, the query where it stands, whose predicate has no clause. (Disjunctions have
-- predicates with clauses too, which no text can call.)
abbrev pub unknown_of : Table → SourceClause → Option Unknown
unknown_of T q = unknown_in T.names (lift (program_of T q)).clauses (T.earlier ++ q ∷ T.later)
