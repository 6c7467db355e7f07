-- How a term is copied with new numbers for its variables.
use Rattle.std.specs.Prelude.{ℕ, suc, ◌+◌, ◌*◌, ◌-◌, ◌≡◌, ◌≤◌, ◌<◌, List, [], ◌∷◌, ◌++◌, length, take, drop}
use Rattle.and_model.specs.Terms.{Path, Term, compound, variables_of}
use Rattle.and_source.specs.Lifted.{Numbering, renumbered}
use Rattle.and_program.specs.Skeletons.{Shape, node_term, term_list, AllFall}
use Rattle.and_program.specs.Kept.{AllWithin}
use Rattle.and_judging.specs.Outlined.{size_of}

-- What comes next: the term of a node, or a name with the last terms that were copied, so many, as its arguments.
pub data Task : Type 0 where
  term : ℕ → Task
  name : ℕ → ℕ → Task

-- the terms that there are once all is done, where these were copied
abbrev pub finish : List Shape → Numbering → List Task → List Term → List Term
finish ss new [] ts = ts
finish ss new (term n ∷ tasks) ts = finish ss new tasks (ts ++ renumbered new (node_term ss n) ∷ [])
finish ss new (name c k ∷ tasks) ts =
    finish ss new tasks (take (length ts - k) ts ++ compound c (term_list (drop (length ts - k) ts)) ∷ [])

-- each name finds its arguments, where n terms were copied, and one term is there in the end
abbrev pub Fits : List Task → ℕ → Type 0
Fits [] n = n ≡ 1
Fits (term m ∷ tasks) n = Fits tasks (suc n)
Fits (name c k ∷ tasks) n = (k ≤ n) × Fits tasks (suc (n - k))

-- how many nodes are still to be added
abbrev pub tasks_size : List Shape → List Task → ℕ
tasks_size ss [] = 0
tasks_size ss (term n ∷ tasks) = size_of (node_term ss n) + tasks_size ss tasks
tasks_size ss (name c k ∷ tasks) = suc (tasks_size ss tasks)

-- how much there is to do
abbrev pub tasks_work : List Shape → List Task → ℕ
tasks_work ss [] = 0
tasks_work ss (term n ∷ tasks) = 2 * size_of (node_term ss n) + tasks_work ss tasks
tasks_work ss (name c k ∷ tasks) = suc (tasks_work ss tasks)

-- the variables of the terms that are still to be copied
abbrev pub tasks_variables : List Shape → List Task → List (Path × ℕ)
tasks_variables ss [] = []
tasks_variables ss (term n ∷ tasks) = variables_of (node_term ss n) ++ tasks_variables ss tasks
tasks_variables ss (name c k ∷ tasks) = tasks_variables ss tasks

-- the nodes are some of n, and the names some of m with at most 255 arguments
abbrev pub AreTasks : (n m : ℕ) → List Task → Type 0
AreTasks n m [] = Unit {0}
AreTasks n m (term k ∷ tasks) = (k < n) × AreTasks n m tasks
AreTasks n m (name c k ∷ tasks) = (c < m) × (k ≤ 255) × AreTasks n m tasks

-- Nodes of a table with others behind them, at most n; m names are there.
pub record Grown (m : ℕ) (old new : List Shape) (n : ℕ) : Type 0 where
  pub kept : take (length old) new ≡ old
  pub falls : AllFall 0 new
  pub within : AllWithin m new
  pub few : length new ≤ n
