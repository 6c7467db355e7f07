-- What is compiled of a program.
use Rattle.std.specs.Prelude.{ℕ, ◌≡◌, ◌≢◌, ◌<◌, ◌≤◌, ◌⊎◌, List, [], map, length, get_or, slice_get, Option, Some, None}
use Rattle.and_model.specs.Terms.{Term, variable, number, compound, none, more, width}
use Rattle.and_model.specs.Programs.{Program, clause_at}
use Rattle.and_model.specs.declared.numbers.ClauseNo.{ClauseNo}
use Rattle.and_program.specs.Loaded.{nodes_at}
use Rattle.and_program.specs.Shown.{clauses_with, shown_term}
use Rattle.and_program.specs.Skeletons.{call, node_term}
use Rattle.and_program.specs.declared.node.NodeKind.{NodeKind}
use Rattle.and_program.specs.declared.node.NodeKind.TheVariants.{Variable, Number, Compound}
use Rattle.and_cells.specs.Ranges.{NamedProgram}
use Rattle.and_first_argument.specs.Additions.{picked}
use Rattle.and_first_argument.specs.FirstArguments.{clauses_under}
use Rattle.and_first_argument.specs.declared.key.Key.{Key}
use Rattle.and_first_argument.specs.declared.key.Key.TheVariants as keys
use Rattle.and_first_argument.specs.declared.first_arguments.FirstArguments.{FirstArguments}
use Rattle.and_first_argument.specs.declared.first_arguments.Addition.{Addition}
use Rattle.and_first_argument.specs.declared.first_arguments.Addition.TheVariants.{Under, Any}
use Rattle.and_clause_index.specs.Prints.{ArePrints, print_of, no_print}
use Rattle.and_clause_index.specs.Sieves.{IsSieveOf, IsShorter}
use Rattle.and_clause_index.specs.declared.prints.Print.{Print}
use Rattle.and_clause_index.specs.declared.sieve.Sieve.{Sieve}
use Rattle.and_clause_index.specs.declared.table.Predicate.{Predicate}
use Rattle.and_clause_index.specs.declared.table.Determinacy.{Determinacy}

-- the clauses of a goal's predicate, in textual order
abbrev pub clauses_for : Program → Term → List ClauseNo
clauses_for P (variable q k) = []
clauses_for P (number z) = []
clauses_for P (compound c ts) = clauses_with c (width ts) 1 P.clauses

-- those of an entry, if there is one
abbrev pub clauses_in : Option Predicate → List ClauseNo
clauses_in None = []
clauses_in (Some predicate) = predicate.clauses.items

-- those that a table has under a key, or all where there is no table
abbrev pub picked_by : Option FirstArguments → (all : List ClauseNo) → Key → List ClauseNo
picked_by None all key = all
picked_by (Some table) all key = clauses_under table key

-- The table, if there is one, has of these clauses those that serve a key.
abbrev pub IsTableFor : List Addition → Option FirstArguments → Type 0
IsTableFor additions None = Unit {0}
IsTableFor additions (Some table) = (key : Key) → clauses_under table key ≡ picked key additions

-- those of an entry that serve a key
abbrev pub under_key : Option Predicate → Key → List ClauseNo
under_key None key = []
under_key (Some predicate) key = picked_by predicate.by_first predicate.clauses.items key

-- what a term's first argument is; a variable stands for none
abbrev pub first_of : Term → NodeKind
first_of (variable q k) = Variable 0
first_of (number z) = Variable 0
first_of (compound c none) = Variable 0
first_of (compound c (more t ts)) = shown_term t

-- a clause by what the first argument of its head is
abbrev pub added : NodeKind → ClauseNo → Addition
added (Variable k) clause = Any clause
added (Number z) clause = Under (keys.Number z) clause
added (Compound c n) clause = Under (keys.Name c n) clause

abbrev pub additions_of : Program → List ClauseNo → List Addition
additions_of P clauses = map (λ (c : ClauseNo). added (first_of (clause_at P c.0).head) c) clauses

-- the sieve of an entry, if it has one
abbrev pub sieve_in : Option Predicate → Option Sieve
sieve_in None = None
sieve_in (Some predicate) = predicate.sieve

-- the print of a clause's head
abbrev pub head_print : Program → ClauseNo → Print
head_print P c = print_of (clause_at P c.0).head

-- They are the clauses, or those that the sieve of an entry has for the mark of a print.
abbrev pub IsSiftedBy : Option Sieve → Print → (old new : List ClauseNo) → Type 0
IsSiftedBy None print old new = new ≡ old
IsSiftedBy (Some sieve) print old new = IsShorter sieve print old new

abbrev pub IsSifted : Option Predicate → Print → (old new : List ClauseNo) → Type 0
IsSifted entry print old new = IsSiftedBy (sieve_in entry) print old new

-- The entry is that of a predicate with these clauses.
pub record IsEntryFor (P : Program) (clauses : List ClauseNo) (entry : Option Predicate) : Type 0 where
  pub all : clauses_in entry ≡ clauses
  pub under : (key : Key) → (under_key entry key ≡ picked key (additions_of P clauses))
      ⊎ (under_key entry key ≡ clauses)
  pub sieve : IsSieveOf (head_print P) clauses (sieve_in entry)

-- the clauses of an entry that serve a first argument of which this is known
abbrev pub tried : Option Predicate → NodeKind → List ClauseNo
tried entry (Variable k) = clauses_in entry
tried entry (Number z) = under_key entry (keys.Number z)
tried entry (Compound c n) = under_key entry (keys.Name c n)

-- the entry that a table has for a node
abbrev pub entry_at : Determinacy → (node : ℕ) → Option Predicate
entry_at table node = slice_get table.predicates.items (get_or table.numbers.items node 0)

-- It is that of the node's predicate.
abbrev pub IsKnown : NamedProgram → Determinacy → (node : ℕ) → Type 0
IsKnown P table node = IsEntryFor P.program (clauses_for P.program (node_term P.skeleton.nodes node))
    (entry_at table node)

-- the print that a table has for a clause
abbrev pub print_at : Determinacy → (clause : ℕ) → Print
print_at table c = get_or table.prints.items c no_print

-- The table is that of the program: for the node of each call of a body it has the entry of the call's predicate, and
-- for each clause the print of its head.
pub record IsTableOf (P : NamedProgram) (table : Determinacy) : Type 0 where
  pub calls : (c i node : ℕ) → slice_get (nodes_at P.skeleton c).items i ≡ Some (call node) → IsKnown P table node
  pub prints : ArePrints P.program table.prints.items

-- ---- While it is made

-- Entry 0 has no clauses, and others are found by their first clauses.
pub record AreFirsts (P : Program) (predicates : List Predicate) (firsts : List ℕ) : Type 0 where
  pub some : 0 < length predicates
  pub empty : IsEntryFor P [] (slice_get predicates 0)
  pub found : (k : ℕ) → get_or firsts k 0 ≢ 0 → get_or firsts k 0 < length predicates
  pub entries : (k : ℕ) → get_or firsts k 0 ≢ 0
      → IsEntryFor P (clauses_for P (clause_at P k).head) (slice_get predicates (get_or firsts k 0))

-- what was there stays
pub record IsLonger (old new : List Predicate) : Type 0 where
  pub longer : length old ≤ length new
  pub same : (n : ℕ) → n < length old → slice_get new n ≡ slice_get old n

-- Each number is that of an entry, and the entries and prints are as they are to be.
pub record IsMade (P : Program) (table : Determinacy) (firsts : List ℕ) : Type 0 where
  pub numbered : (node : ℕ) → get_or table.numbers.items node 0 < length table.predicates.items
  pub entries : AreFirsts P table.predicates.items firsts
  pub prints : ArePrints P table.prints.items

-- What is known of the one table is known of the other.
abbrev pub StaysKnown : NamedProgram → (old new : Determinacy) → Type 0
StaysKnown P old new = (node : ℕ) → IsKnown P old node → IsKnown P new node

-- the calls of a clause are known
abbrev pub KnowsCalls : NamedProgram → Determinacy → (clause : ℕ) → Type 0
KnowsCalls P table c = (i node : ℕ) → slice_get (nodes_at P.skeleton c).items i ≡ Some (call node)
    → IsKnown P table node
