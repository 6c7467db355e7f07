-- What a branch that is not failed keeps between its steps.
use Rattle.std.specs.Prelude.{ℕ, suc, ◌+◌, ◌≡◌, ◌≢◌, Bool, true, false, not, List, [], ◌∷◌, ◌++◌, map, filter, length}
use Rattle.std.specs.Prelude.{get_or, All}
use Rattle.std.specs.Prelude.{AllPairs}
use Rattle.and_model.specs.Terms.{Path, Substitution}
use Rattle.and_model.specs.Solutions.{Equation, Entails}
use Rattle.and_model.specs.Programs.{Program, Item, call, equal, arithmetic, fail, clause_at, arithmetic_in}
use Rattle.and_model.specs.Trees.{QueryTree, equations, weight}
use Rattle.and_model.specs.Reductions.{Reduction, Makes}
use Rattle.and_model.specs.Stands.{Framed, IsFramed, in_tree}
use Rattle.and_model.specs.Store.{is_half}
use Rattle.and_model.specs.declared.goal.Goal.{Goal}
use Rattle.and_model.specs.declared.reference.Ref.{Ref}
use Rattle.and_model.specs.declared.reference.Ref.TheVariants.{Free}
use Rattle.and_program.specs.Skeletons
use Rattle.and_program.specs.Skeletons.{NodeItem}
use Rattle.and_program.specs.Loaded.{nodes_at}
use Rattle.and_cells.specs.Ranges.{NamedProgram, IsGoalInRange, pair_of}
use Rattle.and_cells.specs.Rows.{IsSound}
use Rattle.and_cells.specs.Seen.{word_at}
use Rattle.and_cells.specs.Meaning.{IsSettled, equations_of}
use Rattle.and_laws.specs.Naming.{under}
use Rattle.and_branch_laws.specs.Variables.{EquationsSpeakOf, IsVariable, AreNames, IsWholeCell}
use Rattle.and_branch_laws.specs.Tasks.{Task, take, run, tasks, RanAmong}
use Rattle.and_branch_laws.specs.Views.{View}

-- the item of its clause that a goal is
abbrev pub item_at : Program → Goal → Item
item_at P g = get_or (clause_at P g.clause.0).body g.item fail

-- A goal that is kept as the tree has it: a call, or arithmetic. (Other items are kept by no branch.)
abbrev pub task_in : Program → Framed → Item → Task
task_in P f (call g) = take (f.frame ++ f.goal.item ∷ []) (in_tree P f)
task_in P f (equal a b) = take (f.frame ++ f.goal.item ∷ []) (in_tree P f)
task_in P f (arithmetic a) = run (arithmetic_in f.frame a)
task_in P f fail = take (f.frame ++ f.goal.item ∷ []) (in_tree P f)

-- the task that a kept goal is
abbrev pub task_of : Program → Framed → Task
task_of P f = task_in P f (item_at P f.goal)

-- the task is a call
abbrev pub is_call : Task → Bool
is_call (take q g) = true
is_call (run a) = false

-- the goal is a call
abbrev pub IsCall : Program → Framed → Type 0
IsCall P f = is_call (task_of P f) ≡ true

-- the goal, without the path of its frame
abbrev pub goal_of : Framed → Goal
goal_of f = f.goal

-- of the goals that a branch keeps, in preorder, those that are calls,
abbrev pub calls_kept : Program → List Framed → List Framed
calls_kept P kept = filter (λ (f : Framed). is_call (task_of P f)) kept

-- and those that are arithmetic
abbrev pub arithmetic_kept : Program → List Framed → List Framed
arithmetic_kept P kept = filter (λ (f : Framed). not (is_call (task_of P f))) kept

-- the item of its clause that a goal is, by its nodes
abbrev pub node_item_at : NamedProgram → Goal → NodeItem
node_item_at P g = get_or (nodes_at P.skeleton g.clause.0).items g.item Skeletons.fail

-- the pair of words of an `is` goal is free
abbrev pub HasFreePair : NamedProgram → List Ref → Goal → NodeItem → Type 0
HasFreePair P row g (Skeletons.call n) = Unit {0}
HasFreePair P row g (Skeletons.equal n m) = Unit {0}
HasFreePair P row g (Skeletons.is n m number) =
    (word_at row (pair_of P g.clause.0 g.base number) ≡ Free)
    × (word_at row (suc (pair_of P g.clause.0 g.base number)) ≡ Free)
HasFreePair P row g (Skeletons.compare r n m) = Unit {0}
HasFreePair P row g Skeletons.fail = Unit {0}

-- Holds P rs row kept tree: what holds of the reductions, of the row, and of the goals that are left, calls and
-- arithmetic among each other in preorder.
pub record Holds (P : NamedProgram) (rs : List Reduction) (row : List Ref) (kept : List Framed)
    (tree : QueryTree P.program) : Type 0 where
  -- The reductions make the tree, and the row has a frame for each of its clauses: it begins at the number of the
  -- clause's place.
  pub made : Makes P.program rs tree
  pub long : length row ≡ weight tree
  pub sound : IsSound P row
  -- The goals stand at places of the tree, each once.
  pub framed : All (IsFramed rs) kept
  pub based : All (λ (f : Framed). f.goal.base ≡ f.goal.node) kept
  pub in_range : All (λ (f : Framed). IsGoalInRange P (length row) f.goal) kept
  pub once : AllPairs (λ (f g : Framed). f.goal ≢ g.goal) kept
  -- They are the tree's open goals, and its arithmetic that was not run.
  pub solved : List Equation
  pub ran : RanAmong (equations tree) (tasks tree) solved (map (task_of P.program) kept)
  -- The tree's variables are named by their cells.
  pub names : Substitution
  pub named : AreNames rs names
  -- No variable's cell is a word of a pair, and the pairs of the arithmetic that waits are free.
  pub whole : (v : Path × ℕ) (i : IsVariable P rs v) → is_half (word_at row (i.node + 1 + v.1)) ≡ false
  pub free : All (λ (f : Framed). HasFreePair P row f.goal (node_item_at P f.goal)) kept

-- Kept P rs row kept tree: this holds, and the row is settled. With the tree's variables named, it states the tree's
-- equations with those of the arithmetic that was run, and nothing else.
pub record Kept (P : NamedProgram) (rs : List Reduction) (row : List Ref) (kept : List Framed)
    (tree : QueryTree P.program) : Type 0 where
  pub has : Holds P rs row kept tree
  pub open has use *
  pub settled : IsSettled P row
  pub states : Entails (equations_of P row) (under names solved)
  pub stated : Entails (under names solved) (equations_of P row)

-- Unsettled P rs row es kept tree: the same of a row that is still to be settled with further equations, which speak
-- of its cells.
pub record Unsettled (P : NamedProgram) (rs : List Reduction) (row : List Ref) (es : List Equation) (kept : List Framed)
    (tree : QueryTree P.program) : Type 0 where
  pub has : Holds P rs row kept tree
  pub open has use *
  pub speaks : EquationsSpeakOf (IsWholeCell row) es
  pub states : Entails (equations_of P row ++ es) (under names solved)
  pub stated : Entails (under names solved) (equations_of P row ++ es)

-- A view of a branch that keeps this.
pub record KeptIn (P : NamedProgram) (v : View) (tree : QueryTree P.program) : Type 0 where
  pub kept : List Framed
  pub keeps : Kept P v.reductions v.row kept tree
  pub goals : map goal_of (calls_kept P.program kept) ≡ v.goals
  pub waiting : map goal_of (arithmetic_kept P.program kept) ≡ v.waiting
  pub used : length v.row ≡ v.used
  pub live : v.is_failed ≡ false
