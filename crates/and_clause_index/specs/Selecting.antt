-- The clauses of a goal that are left over any cells: what is left out is no candidate under what is known.
use Rattle.std.specs.Prelude.{ℕ, ◌+◌, ◌<◌, ◌≡◌, false, List, map, length, slice_get, Some, All, AllPairs, Contains}
use Rattle.and_model.specs.Terms.{Path, Term, variables_of}
use Rattle.and_model.specs.Programs.{call, Of}
use Rattle.and_model.specs.Stands.{term_of}
use Rattle.and_model.specs.Store.{is_half}
use Rattle.and_model.specs.declared.goal.Goal.{Goal}
use Rattle.and_model.specs.declared.numbers.ClauseNo.{ClauseNo}
use Rattle.and_model.specs.declared.numbers.NodeNo.{NodeNo}
use Rattle.and_model.specs.declared.reference.Ref.{Ref}
use Rattle.and_model.specs.declared.reference.Ref.TheVariants.{Free, Cell, Node, Number, Half}
use Rattle.and_program.specs.Skeletons
use Rattle.and_program.specs.Skeletons.{node_term}
use Rattle.and_program.specs.Loaded.{nodes_at}
use Rattle.and_cells.specs.Ranges.{NamedProgram, IsGoalInRange, IsNodeInRange}
use Rattle.and_cells.specs.Seen.{Seen, Knows, IsSetTo, word_at, LeadsTo, FoundFree}
use Rattle.and_cells.specs.Parts.{parts_of}
use Rattle.and_branch_laws.specs.Kept.{item_at}
use Rattle.and_branch_laws.specs.Judging.{CandidateInCells}
use Rattle.and_clause_index.specs.Served.{NodeHas}

-- The goal can be tried over a row of so many words: it is in range, and is a call.
pub record CanBeTried (P : NamedProgram) (words : ℕ) (g : Goal) : Type 0 where
  pub in_range : IsGoalInRange P words g
  pub term : Term
  pub is_call : item_at P.program g ≡ call term

-- The node is that of the goal: it stands there in the body, has the goal's term, and is in range.
pub record IsNodeOver (P : NamedProgram) (words : ℕ) (g : Goal) (node : ℕ) : Type 0 where
  pub there : slice_get (nodes_at P.skeleton g.clause.0).items g.item ≡ Some (Skeletons.call node)
  pub term : term_of P.program g ≡ node_term P.skeleton.nodes node
  pub in_range : IsNodeInRange P words node g.base

-- The row has as many words as are seen, and what is known of them is set in it.
pub record HasSeen (s : Seen) (row : List Ref) : Type 0 where
  pub long : length row ≡ s.words
  pub set : (place : ℕ) (r : Ref) → Knows s place r → IsSetTo row place r

-- In the row no cell of the term's variables, in the frame at the base, is a word of a pair.
abbrev pub IsWholeAt : List Ref → (base : ℕ) → Term → Type 0
IsWholeAt row base t = (v : Path × ℕ) → Contains (variables_of t) v → is_half (word_at row (base + 1 + v.1)) ≡ false

-- In no row that has what is known is the clause a candidate of the node in the frame at the base.
abbrev pub IsNoCandidate : NamedProgram → Seen → (node base : ℕ) → ClauseNo → Type 0
IsNoCandidate P s node base c =
    (row : List Ref) → HasSeen s row → IsWholeAt row base (node_term P.skeleton.nodes node)
    → NodeHas P row node base c → ⊥

-- The clauses are of the goal's predicate, in textual order; and whatever the row is that has what is known, all
-- candidates of the goal are among them.
pub record AreLeft (P : NamedProgram) (s : Seen) (g : Goal) (cs : List ClauseNo) : Type 0 where
  pub of : All (λ (c : ClauseNo). Of P.program (term_of P.program g) c.0) cs
  pub rise : AllPairs (λ (c d : ClauseNo). c.0 < d.0) cs
  pub all : (row : List Ref) → HasSeen s row → IsWholeAt row g.base (term_of P.program g) → (c : ℕ)
      → CandidateInCells P row g c
      → Contains (map (λ (no : ClauseNo). no.0) cs) c

-- ---- What a goal waits for

-- it is no cell
abbrev pub IsNoCell : Ref → Type 0
IsNoCell Free = ⊥
IsNoCell (Cell cell) = ⊥
IsNoCell (Node node base) = Unit {0}
IsNoCell (Number pair) = Unit {0}
IsNoCell (Half bits) = Unit {0}

-- what is known leads from the reference to a node, a number or a half
abbrev pub EndsElsewhere : Seen → Ref → Type 0
EndsElsewhere s r = (end : Ref) × LeadsTo s r end × IsNoCell end

-- So it is with the first arguments of the node, so many, in the frame at the base.
abbrev pub NoneWaits : NamedProgram → Seen → NodeNo → (base count : ℕ) → Type 0
NoneWaits P s node base count = (k : ℕ) (r : Ref) → k < count
    → slice_get (parts_of P (Node node base)) k ≡ Some r → EndsElsewhere s r

-- An argument leads to the cell, which was found free, and those before it lead elsewhere.
pub record WaitsOn (P : NamedProgram) (shared : ℕ) (node : NodeNo) (base : ℕ) (old new : Seen) (cell : ℕ) : Type 0 where
  pub place : ℕ
  pub argument : Ref
  pub there : slice_get (parts_of P (Node node base)) place ≡ Some argument
  pub leads : LeadsTo new argument (Cell cell)
  pub free : FoundFree shared cell old new
  pub before : NoneWaits P new node base place

-- the same of a goal
abbrev pub GoalWaitsOn : NamedProgram → (shared : ℕ) → Goal → (old new : Seen) → (cell : ℕ) → Type 0
GoalWaitsOn P shared g old new cell = (node : NodeNo) × IsNodeOver P old.words g node.0
    × WaitsOn P shared node g.base old new cell

-- no argument of the goal waits
abbrev pub NoneOfGoalWaits : NamedProgram → Goal → (old new : Seen) → Type 0
NoneOfGoalWaits P g old new =
    (node : NodeNo) × IsNodeOver P old.words g node.0
    × NoneWaits P new node g.base (length (parts_of P (Node node g.base)))
