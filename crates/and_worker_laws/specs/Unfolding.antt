-- The goals that a phase leaves, in preorder (this project's own).
use Rattle.std.specs.Prelude.{ℕ, ◌≡◌, ◌≢◌, List, [], ◌∷◌, ◌++◌, map, AllPairs, Contains, IsPermutation}
use Rattle.and_model.specs.Programs.{Program}
use Rattle.and_model.specs.Reductions.{Reduction}
use Rattle.and_model.specs.declared.goal.Goal.{Goal}
use Rattle.and_worker_laws.specs.Acts.{Act, takes, RunInCells, goals_of_body}

-- Unfolds P goals left ran taken: of these goals, in order, some are left, some arithmetic was run, and in the place
-- of each call that was reduced stand the goals of the body.
pub data Unfolds (P : Program) : (goals left ran : List Goal) → (taken : List (Goal × Reduction)) → Type 0 where
  over : Unfolds P [] [] [] []
  stays : (g : Goal) (gs left ran : List Goal) (taken : List (Goal × Reduction)) → Unfolds P gs left ran taken
      → Unfolds P (g ∷ gs) (g ∷ left) ran taken
  runs : (g : Goal) (gs left ran : List Goal) (taken : List (Goal × Reduction)) → Unfolds P gs left ran taken
      → Unfolds P (g ∷ gs) left (g ∷ ran) taken
  reduces : (g : Goal) (r : Reduction) (gs left ran : List Goal) (taken : List (Goal × Reduction))
      → Unfolds P (goals_of_body P r ++ gs) left ran taken
      → Unfolds P (g ∷ gs) left ran ((g, r) ∷ taken)

-- Of the goals with which a phase opened these are left: those that were neither reduced nor run, and each once.
pub record AreLeftOf (P : Program) (opening : List Goal) (acts : List Act) (runs : List RunInCells)
    (left : List Goal) : Type 0 where
  pub ran : List Goal
  pub taken : List (Goal × Reduction)
  pub unfolds : Unfolds P opening left ran taken
  pub was_taken : (g : Goal) (r : Reduction) → Contains taken (g, r) → (w : ℕ) × Contains acts (takes w g r)
  pub not_taken : (g : Goal) → Contains left g → (w : ℕ) (h : Goal) (r : Reduction) → Contains acts (takes w h r)
      → r.parent ≡ g.node → r.item ≡ g.item → ⊥
  pub ran_are : IsPermutation ran (map (λ (r : RunInCells). r.goal) runs)
  pub once : AllPairs (λ (g h : Goal). g ≢ h) left
