-- The goals that are left when a store is closed (this project's own).
use Rattle.std.specs.Prelude.{ℕ, ◌+◌, ◌-◌, ◌*◌, ◌/◌, ◌%◌, ◌^◌, ◌≡◌, Bool, true, false, not, cond, List, [], ◌∷◌, map}
use Rattle.std.specs.Prelude.{filter, flat_map, length, take, nat_eq, slice_index, slice_index_or, All}
use Rattle.and_model.specs.Store.{HungGoal, all_hung}
use Rattle.and_model.specs.declared.goal.Goal.{Goal}
use Rattle.and_cells.specs.Ranges.{NamedProgram, IsGoalInRange}
use Rattle.and_store.specs.Ended.{passes_of}
use Rattle.and_store.specs.Passes.{PassSeen, numbers_from}
use Rattle.and_store.specs.Sight.{About}
use Rattle.and_store.specs.Told.{waiters_of}

abbrev pub is_among : ℕ → List ℕ → Bool
is_among n [] = false
is_among n (x ∷ xs) = cond (nat_eq x n) true (is_among n xs)

abbrev pub either_one : Bool → Bool → Bool
either_one a b = cond a true b

-- the waiters that a pass took and does not keep any more: it handed out their goals
abbrev pub handed_by : PassSeen → List ℕ
handed_by p = take (length (waiters_of p.pass.took) - length p.kept) (waiters_of p.pass.took)

abbrev pub handed_out : List PassSeen → List ℕ
handed_out passes = flat_map handed_by passes

-- those that are not marked
abbrev pub left_numbers : List Bool → List ℕ → List ℕ
left_numbers marks ns = filter (λ n. not (slice_index_or marks n false)) ns

-- the waiters of the goals that these passes hung
abbrev pub waiters_hung : List PassSeen → List ℕ
waiters_hung passes = map (λ (g : HungGoal). g.waiter) (all_hung (passes_of passes))

-- the passes of this number
abbrev pub numbered : (number : ℕ) → List PassSeen → List PassSeen
numbered number passes = filter (λ (p : PassSeen). nat_eq p.pass.number number) passes

-- the passes in the order of their numbers, which are below that of the seats
abbrev pub in_order : (seats : ℕ) → List PassSeen → List PassSeen
in_order seats passes = flat_map (λ n. numbered n passes) (numbers_from 0 seats)

-- the goals that were hung and handed to nobody, in the order of their waiters: a pass of a larger number has later
-- waiters, and each pass used its waiters one after another
abbrev pub left_hung : (seats : ℕ) → List PassSeen → List HungGoal
left_hung seats passes =
    filter (λ (g : HungGoal). not (is_among g.waiter (handed_out passes)))
    (all_hung (passes_of (in_order seats passes)))

abbrev pub left_waiters : (seats : ℕ) → List PassSeen → List ℕ
left_waiters seats passes = filter (λ n. not (is_among n (handed_out passes))) (waiters_hung (in_order seats passes))

-- the goal that two words hold, of which the upper one has this place
abbrev pub goal_in : (upper lower : ℕ) → Goal
goal_in upper lower = record {
  node = upper / 2 ^ 32;
  item = upper % 2 ^ 32;
  clause = record { 0 = lower / 2 ^ 32 % 2 ^ 16 };
  base = lower % 2 ^ 32;
}

abbrev pub goal_at : List ℕ → (place waiter : ℕ) → Goal
goal_at words place waiter =
    goal_in (slice_index words (place + 2 * waiter)) (slice_index words (place + (2 * waiter + 1)))

-- What a store leaves to be run: the goals that were hung and handed to nobody, each in range of its words.
pub record LeavesGoals (P : NamedProgram) (a : About) (passes : List PassSeen) (waiting : List Goal) : Type 0 where
  pub are : waiting ≡ map (λ (g : HungGoal). g.goal) (left_hung a.seats passes)
  pub in_range : All (IsGoalInRange P a.words) waiting
