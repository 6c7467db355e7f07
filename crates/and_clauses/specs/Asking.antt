-- Queries that are put to the clauses of a table.
use Rattle.std.specs.Prelude.{ℕ, ◌≡◌, List, [], ◌∷◌, length, take, Some, None}
use Rattle.and_model.specs.Programs.{Program}
use Rattle.and_syntax.specs.Written.{Written}
use Rattle.and_syntax.specs.Tables.{Table, empty, query_fault, with_query}
use Rattle.and_program.specs.Kept.{AllEntries}
use Rattle.and_program.specs.Loaded.{program_of, nodes_in, entries_in}
use Rattle.and_program.specs.Nodes.{shapes_of}
use Rattle.and_program.specs.Skeletons.{Shape}
use Rattle.and_program.specs.declared.entry.ClauseEntry.{ClauseEntry}
use Rattle.and_program.specs.declared.loaded.Loaded.{Loaded}
use Rattle.and_clauses.specs.Adds.{with_all}
use Rattle.and_drafts.specs.Drafts.{Draft}
use Rattle.and_clauses.specs.Makes.{Keeps}
use Rattle.and_judging.specs.Sealing.{Seals}
use Rattle.and_clauses.specs.declared.asked.Clauses.{Clauses}
use Rattle.and_clauses.specs.declared.asked.Asked.{Asked}
use Rattle.and_clauses.specs.declared.asked.Asking.{Asking}
use Rattle.and_clauses.specs.declared.asked.Asking.TheVariants.{Put, Left}
use Rattle.and_judging.specs.declared.judging.Used.{Used}
use Rattle.and_clauses.specs.declared.making.Lists.{Lists}

-- the table of the clauses
abbrev pub clauses_table : Clauses → Table
clauses_table c = with_all empty c.added.items

-- the table of the clauses to which a query is put
abbrev pub asked_table : Asked → Table
asked_table a = with_all empty a.added.items

-- The term has no fault as a query, and the lists are those of the table with it.
abbrev pub IsSetSo : Lists → Table → Written → (line : ℕ) → ClauseEntry → Type 0
IsSetSo lists T w line query = (query_fault T w ≡ None) × (now : Used)
    × Keeps lists (Some query) now (with_query T w line)

-- The draft's term has no fault as a query of the table, and the program is that of the table with it.
abbrev pub IsPutTo : Table → Draft → Program → Type 0
IsPutTo T d P = (w : Written) → d.finished ≡ w ∷ [] → (query_fault T w ≡ None) × Seals (with_query T w d.line) P

-- the query is put to the clauses of the table, or these are left
abbrev pub IsAsking : Table → Draft → Asking → Type 0
IsAsking T d (Put a) = (asked_table a ≡ T) × IsPutTo T d (program_of a.loaded)
IsAsking T d (Left c) = clauses_table c ≡ T

-- the nodes of clauses, and their entries
pub record Ground : Type 0 where
  pub nodes : List Shape
  pub entries : List ClauseEntry

abbrev pub ground_by : List Shape → List ClauseEntry → Ground
ground_by nodes entries = record { nodes = nodes; entries = entries }

-- The program has these clauses, and its nodes begin with theirs.
pub record StandsOn (g : Ground) (l : Loaded) : Type 0 where
  pub begins : take (length g.nodes) (nodes_in l) ≡ g.nodes
  pub entries : entries_in l ≡ g.entries
  pub there : AllEntries g.nodes g.entries

-- those of the clauses
abbrev pub ground_of : Clauses → Ground
ground_of c = ground_by (shapes_of c.lists.nodes.items) c.lists.clauses.items

-- those of the clauses to which a query is put; its own nodes stand behind them
abbrev pub asked_ground : Asked → Ground
asked_ground a = ground_by (take a.lengths.nodes (nodes_in a.loaded)) (entries_in a.loaded)

-- the clauses are these still
abbrev pub IsOnGround : Ground → Asking → Type 0
IsOnGround g (Put a) = asked_ground a ≡ g
IsOnGround g (Left c) = ground_of c ≡ g
