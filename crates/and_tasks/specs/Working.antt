-- What a team keeps while it works, and when it is done (this project's own).
use Rattle.std.specs.Prelude.{ℕ, ◌≡◌, ◌≢◌, ◌≤◌, ◌^◌, Bool, List, [], ◌∷◌, length, take, flat_map, Option, None, Some}
use Rattle.and_model.specs.Prefixes.{IsPrefix}
use Rattle.and_model.specs.Programs.{Program}
use Rattle.and_model.specs.Trees.{QueryTree}
use Rattle.and_cells.specs.Ranges.{NamedProgram}
use Rattle.and_branch.specs.Branches.{Held}
use Rattle.and_branch.specs.Children.{AreChildren, Fork, IsChild}
use Rattle.and_branch.specs.Origins.{GoesBack}
use Rattle.and_code.specs.Telling.{IsTold}
use Rattle.and_code.specs.Telling as telling
use Rattle.and_histories.specs.PlainTree.{Key, State, opening, children, left_of}
use Rattle.and_histories.specs.Histories.{Carries, calls}
use Rattle.and_tree.specs.Passes.{TreeId, PassSeen, tally_of}
use Rattle.and_answers.specs.Kept.{last_code_or, listed}
use Rattle.and_answers.specs.Tails.{BeginAlike}
use Rattle.and_answers.specs.declared.found.Found.{Found}
use Rattle.and_search_laws.specs.Found.{kept_count}
use Rattle.and_search_laws.specs.Ended.{IsEndSoFar}
use Rattle.and_team_laws.specs.Owed.{SameItems}
use Rattle.and_team_laws.specs.Done.{DidAll}
use Rattle.and_tasks.specs.Placed.{StandsWithin}
use Rattle.and_tasks.specs.declared.stack.Hand.{Hand}
use Rattle.and_tasks.specs.declared.stack.Level.{Level}
use Rattle.and_tasks.specs.declared.stack.Task.{Task}
use Rattle.and_tasks.specs.declared.stack.Task.TheVariants.{One, Children, Left}

-- What a team found and counted is what its calls did, and any cut of it is over the limit. It counts the forks that
-- it made and the branches that failed.
pub record Tells (P : Program) (limit : ℕ) (pass : PassSeen) (found : Found) : Type 0 where
  pub forks : ℕ
  pub failed : ℕ
  pub is_cut : Bool
  pub did : DidAll P limit (calls pass.seen pass.team) (listed found) forks failed is_cut
  pub counted : found.forks ≡ (tally_of (calls pass.seen pass.team)).forks
  pub failed_are : found.failed ≡ kept_count failed
  pub end : IsEndSoFar P limit found forks failed is_cut found.cut

-- the keys of a task, the next one first
abbrev pub keys_of : {N : Type 0} → Task N → List Key
keys_of (One b) = b.key ∷ []
keys_of (Children l) = children l.point.longer l.point.clauses
keys_of (Left b) = []

-- Children of a fork of a tree are still to come, no more of them than there are clause numbers. Their keys are told as
-- far as was decided in the branch that was forked.
pub record AreToCome {N : Type 0} (P : NamedProgram) (limit : ℕ) (l : Level N) : Type 0 where
  pub tree : QueryTree P.program
  pub children : AreChildren P l.point tree
  pub limited : l.point.parent.limit ≡ limit
  pub some : l.point.clauses ≢ []
  pub few : length l.point.clauses ≤ 2 ^ 16
  pub told : IsTold P.program l.point.parent.reductions l.told l.point.longer
  pub long : l.told.length ≡ length l.point.longer
  pub longer : l.longer.value ≡ l.point.longer

-- A task stands for trees of its keys; and what is left of a branch for none.
abbrev pub IsTask : {N : Type 0} (P : NamedProgram) (limit : ℕ) → Task N → Type 0
IsTask P limit (One b) = StandsWithin P limit b
IsTask P limit (Children l) = AreToCome P limit l
IsTask P limit (Left b) = Unit {0}

abbrev pub AreTasks : {N : Type 0} (P : NamedProgram) (limit : ℕ) → List (Task N) → Type 0
AreTasks P limit [] = Unit {0}
AreTasks P limit (x ∷ xs) = IsTask P limit x × AreTasks P limit xs

-- The keys in the team's hand are those of its tasks, whatever their order. So each may be given up.
pub record Has {N : Type 0} (P : NamedProgram) (tree : TreeId) (pass : PassSeen) (tasks : List (Task N)) : Type 0 where
  pub of_tree : pass.tree ≡ tree
  pub hand : SameItems pass.hand (flat_map (λ (x : Task N). keys_of x) tasks)
  pub tasks_are : AreTasks P tree.about.limit tasks

-- A team at work has told, too, what it did.
pub record Works {N : Type 0} (P : NamedProgram) (tree : TreeId) (pass : PassSeen) (found : Found)
    (tasks : List (Task N)) : Type 0 where
  pub has : Has P tree pass tasks
  pub tells : Tells P.program tree.about.limit pass found

-- ---- the row of a stack

-- The next child of the fork can be made of the branch: the one that was forked can be had again of it, and its key
-- begins with what was decided there.
pub record Serves {N : Type 0} (l : Level N) (b : Held) : Type 0 where
  pub back : GoesBack l.point.parent b
  pub begins : IsPrefix l.point.longer b.key

abbrev pub IsServed : {N : Type 0} → Level N → Option Held → Type 0
IsServed l None = ⊥
IsServed l (Some b) = Serves l b

-- the branch that was forked, told as far as it was decided
abbrev pub at_fork : Fork → Held
at_fork f = record f.parent { key = f.longer }

abbrev pub forked : {N : Type 0} → Level N → Held
forked l = at_fork l.point

-- what stands above a fork that has these tasks above it, and on top of them all perhaps what is left of a branch
abbrev pub above : {N : Type 0} → (left : Option Held) → List (Task N) → Option Held
above left [] = left
above left (One b ∷ xs) = None
above left (Children l ∷ xs) = Some (forked l)
above left (Left b ∷ xs) = Some b

-- Each fork of a stack, the oldest first, is served by what stands above it.
abbrev pub AreServed : {N : Type 0} → (left : Option Held) → List (Task N) → Type 0
AreServed left [] = Unit {0}
AreServed left (One b ∷ xs) = AreServed left xs
AreServed left (Children l ∷ xs) = IsServed l (above left xs) × AreServed left xs
AreServed left (Left b ∷ xs) = AreServed left xs

-- ---- what the next answer has from the last one

-- So many first clauses of a key are those of the code of the last entry.
abbrev pub Shares : Found → ℕ → List ℕ → Type 0
Shares found common key = BeginAlike (last_code_or [] (listed found)) key common

-- So it is with the key of what is left of a branch, if anything is.
abbrev pub LeftShares : Found → ℕ → Option Held → Type 0
LeftShares found common None = Unit {0}
LeftShares found common (Some b) = Shares found common b.key

-- ---- a team at work

-- The forks of the stack are served, on top of which stands what is left of a branch, if anything is.
pub record IsAtWork {N : Type 0} (P : NamedProgram) (tree : TreeId) (pass : PassSeen) (found : Found)
    (stack : List (Task N)) (left : Option Held)
    : Type 0 where
  pub works : Works P tree pass found stack
  pub served : AreServed left stack

-- the branch in hand, with as much of its key as is told
abbrev pub as_told : {N : Type 0} → Hand N → Held
as_told h = record h.branch { key = take h.told.length h.branch.key }

-- The branch in hand is to be explored next, and what is left of it will serve the stack. As much of its key as is told
-- begins as the code of the last entry does.
pub record IsReady {N : Type 0} (P : NamedProgram) (tree : TreeId) (pass : PassSeen) (found : Found)
    (stack : List (Task N)) (h : Hand N)
    : Type 0 where
  pub works : Works P tree pass found (One h.branch ∷ stack)
  pub told : IsTold P.program h.branch.reductions h.told h.branch.key
  pub served : AreServed (Some (as_told h)) stack
  pub shares : Shares found h.common (as_told h).key

-- The next child of a fork is in hand: of the level that it was the other is left. It is told as far as the branch was
-- that was forked, and it shares no more than what was in hand did.
pub record HasNext {N : Type 0} (P : NamedProgram) (was now : Level N) (common : ℕ) (h : Hand N) : Type 0 where
  pub child : IsChild P was.point now.point h.branch
  pub back : GoesBack was.point.parent h.branch
  pub long : h.told.length ≡ was.told.length
  pub told : telling.left_of h.told ≡ telling.left_of was.told
  pub less : h.common ≤ common
  pub inside : h.common ≤ was.told.length
  pub same : now ≡ record was { point = now.point }

-- What is left of the branch in hand serves the stack, and its key begins with so many first clauses of the code of the
-- last entry.
pub record IsLeftInHand {N : Type 0} (P : NamedProgram) (tree : TreeId) (pass : PassSeen) (found : Found)
    (stack : List (Task N)) (h : Hand N)
    : Type 0 where
  pub at_work : IsAtWork P tree pass found stack (Some h.branch)
  pub shares : Shares found h.common h.branch.key

-- At the end of what the pass has seen no key is left.
pub record SeesNone (pass : PassSeen) : Type 0 where
  pub state : State
  pub carried : Carries (opening pass.tree.about.teams) pass.seen state
  pub none : left_of state ≡ 0

-- A team that is done has told what it did, and no key was left.
pub record IsDone (P : Program) (tree : TreeId) (pass : PassSeen) (found : Found) : Type 0 where
  pub of_tree : pass.tree ≡ tree
  pub tells : Tells P tree.about.limit pass found
  pub none_left : SeesNone pass
