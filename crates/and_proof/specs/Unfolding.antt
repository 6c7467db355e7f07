-- What the unfolding of a code keeps in a row of cells.
use Rattle.std.specs.Prelude.{ℕ, suc, ◌+◌, ◌≡◌, ◌⊎◌, ◌≤◌, Bool, true, false, List, [], ◌∷◌, ◌++◌, map, length}
use Rattle.std.specs.Prelude.{reverse, Some, All}
use Rattle.std.specs.Prelude.{Contains}
use Rattle.and_model.specs.Terms.{Term}
use Rattle.and_model.specs.Programs.{call, arithmetic, Arithmetic, clause_at, clause_weight, is_of}
use Rattle.and_model.specs.Trees.{QueryTree, unfold_code}
use Rattle.and_model.specs.Reductions.{Reduction}
use Rattle.and_model.specs.Stands.{Framed, IsFramed, in_tree, term_of}
use Rattle.and_model.specs.declared.goal.Goal.{Goal}
use Rattle.and_model.specs.declared.limits.TheConstants.{MAX_LIMIT}
use Rattle.and_model.specs.declared.reference.Ref.{Ref}
use Rattle.and_cells.specs.Ranges.{NamedProgram, IsGoalInRange}
use Rattle.and_branch_laws.specs.Judging.{NoCall}
use Rattle.and_branch_laws.specs.Kept.{Kept, item_at, goal_of}
use Rattle.and_proof.specs.Proofs.{Replaced, all_replaced, HasProof}
use Rattle.and_step_laws.specs.Runs.{IsWaiting}
use Rattle.and_proof.specs.declared.goals.Ahead.{Ahead}
use Rattle.and_proof.specs.declared.goals.Goals.{Goals}
use Rattle.and_proof.specs.declared.goals.Taken.{Taken}

-- a kept goal, with the length of the path that a clause for it has
abbrev pub ahead_of : Framed → Ahead
ahead_of f = record { goal = f.goal; depth = suc (length f.frame) }

-- the goal is a call or arithmetic
abbrev pub IsGoal : NamedProgram → Framed → Type 0
IsGoal P f = ((t : Term) × (item_at P.program f.goal ≡ call t))
    ⊎ ((a : Arithmetic) × (item_at P.program f.goal ≡ arithmetic a))

-- The call was replaced in the tree that is written down: it stands in the frame of a place, in a row of so many words.
pub record IsTaken (P : NamedProgram) (rs : List Reduction) (words : ℕ) (e : Taken) (r : Replaced) : Type 0 where
  pub framed : Framed
  pub goal : framed.goal ≡ e.call
  pub there : IsFramed rs framed
  pub based : e.call.base ≡ e.call.node
  pub in_range : IsGoalInRange P words e.call
  pub term : Term
  pub is_call : item_at P.program e.call ≡ call term
  pub depth : r.depth ≡ e.depth
  pub clause : r.clause ≡ e.clause.0
  pub numbered : e.clause.0 ≤ length P.program.clauses
  pub call_is : r.call ≡ in_tree P.program framed

-- so were these, one after another
abbrev pub AreTaken : NamedProgram → List Reduction → (words : ℕ) → List Taken → List Replaced → Type 0
AreTaken P rs words [] [] = Unit {0}
AreTaken P rs words [] (r ∷ rest) = ⊥
AreTaken P rs words (e ∷ es) [] = ⊥
AreTaken P rs words (e ∷ es) (r ∷ rest) = IsTaken P rs words e r × AreTaken P rs words es rest

-- The code was unfolded: its tree is kept in the row, with the goals that are left. Those that were passed are
-- arithmetic; the others, calls and arithmetic, lie ahead, the first of them last.
pub record IsUnfolding (P : NamedProgram) (row : List Ref) (goals : Goals) (cs : List ℕ) : Type 0 where
  pub tree : QueryTree P.program
  pub unfolds : unfold_code P.program cs ≡ Some tree
  pub reductions : List Reduction
  pub front : List Framed
  pub back : List Framed
  pub keeps : Kept P reductions row (front ++ back) tree
  pub passed : map goal_of front ≡ goals.passed.items
  pub no_call : NoCall P front
  pub kinds : All (IsGoal P) back
  pub ahead : map ahead_of back ≡ reverse goals.ahead.items
  pub taken : AreTaken P reductions (length row) goals.taken.items (all_replaced tree)
  pub short : length row ≤ MAX_LIMIT

-- Nothing lies ahead, or the next goal is a call.
abbrev pub IsAtCall : NamedProgram → Goals → Type 0
IsAtCall P goals =
    (goals.ahead.items ≡ [])
    ⊎ ((rest : List Ahead) × (next : Ahead) × (term : Term) × (goals.ahead.items ≡ rest ++ next ∷ [])
    × (item_at P.program next.goal ≡ call term))

-- The whole tree that these reductions make is kept in the row, with this arithmetic left.
pub record IsWholeIn (P : NamedProgram) (rs : List Reduction) (row : List Ref) (waiting : List Goal)
    (tree : QueryTree P.program) : Type 0 where
  pub kept : List Framed
  pub keeps : Kept P rs row kept tree
  pub goals : map goal_of kept ≡ waiting
  pub no_call : NoCall P kept
  pub short : length row ≤ MAX_LIMIT

-- all of these goals wait
abbrev pub AllWait : NamedProgram → List Ref → List Goal → Type 0
AllWait P row gs = (g : Goal) → Contains gs g → IsWaiting P row g

-- The proof of the code is kept in the row, with the arithmetic that waits and the calls that were replaced.
pub record IsProved (P : NamedProgram) (row : List Ref) (waiting : List Goal) (taken : List Taken)
    (cs : List ℕ) : Type 0 where
  pub tree : QueryTree P.program
  pub unfolds : unfold_code P.program cs ≡ Some tree
  pub reductions : List Reduction
  pub whole : IsWholeIn P reductions row waiting tree
  pub waits : AllWait P row waiting
  pub replaced : AreTaken P reductions (length row) taken (all_replaced tree)

-- The code was unfolded up to this call, which was taken off.
pub record IsCalled (P : NamedProgram) (row : List Ref) (goals : Goals) (next : Ahead) (cs : List ℕ) : Type 0 where
  pub before : Goals
  pub unfolded : IsUnfolding P row before cs
  pub ahead : before.ahead.items ≡ goals.ahead.items ++ next ∷ []
  pub passed : before.passed.items ≡ goals.passed.items
  pub taken : before.taken.items ≡ goals.taken.items
  pub term : Term
  pub is_call : item_at P.program next.goal ≡ call term

-- It was, and the clause is of the call's predicate and fits.
pub record Enters (P : NamedProgram) (row : List Ref) (goals : Goals) (next : Ahead) (clause : ℕ)
    (cs : List ℕ) : Type 0 where
  pub called : IsCalled P row goals next cs
  pub of_it : is_of P.program (term_of P.program next.goal) clause ≡ true
  pub fits : length row + clause_weight (clause_at P.program clause) ≤ MAX_LIMIT

-- This is what replacing the next call of an unfolded code by the clause comes to: the code with the clause behind it
-- is unfolded, or no code that begins with it has a proof.
abbrev pub ReplacesTo : NamedProgram → (new : List Ref) → Goals → (clause : ℕ) → (cs : List ℕ) → Bool → Type 0
ReplacesTo P new goals clause cs true = IsUnfolding P new goals (cs ++ clause ∷ [])
ReplacesTo P new goals clause cs false = (rest : List ℕ) → HasProof P.program (cs ++ clause ∷ rest) → ⊥
