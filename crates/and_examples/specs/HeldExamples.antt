-- Branches as they are held, tried on two small programs.
use Rattle.std.proofs.Common.{inl}
use Rattle.std.specs.Prelude.{ℕ, Bool, false, List, [], ◌∷◌, refl}
use Rattle.and_model.specs.Trees.{QueryTree, reduce}
use Rattle.and_model.specs.declared.goal.Goal.{Goal}
use Rattle.and_model.specs.declared.reference.Ref.{Ref}
use Rattle.and_branch_parts.specs.Branches.{Held}
use Rattle.and_branch_parts.specs.Making.{nothing_noted}
use Rattle.and_examples.specs.BasesExamples.{by_first}
use Rattle.and_examples.specs.BranchExamples.{item_of_query, taken_by}
use Rattle.and_examples.specs.KeptExamples.{row, item_of_first, summed}
use Rattle.and_examples.specs.NumbersExamples.{fails, fails_start}

-- ---- p(X) :- q(X), X < 3. q(1). q(2). ?- p(Y). After the first reduction, at work before the comparison.
abbrev pub reduced : Held
reduced = record {
  key = [];
  reductions = by_first ∷ [];
  row = row;
  left = item_of_first 0 ∷ [];
  right = item_of_first 1 ∷ [];
  used = 4;
  limit = 10;
  is_failed = false;
  watches = [];
  trail = nothing_noted;
}

-- ---- p(1). p(2). q(2). q(3). ?- p(X), q(X). The query's first call was taken by that clause.
abbrev pub split_held : (clause : ℕ) (row : List Ref) (goals : List Goal) (is_failed : Bool) → Held
split_held clause row goals is_failed = record {
  key = clause ∷ [];
  reductions = taken_by clause ∷ [];
  row = row;
  left = [];
  right = goals;
  used = 3;
  limit = 10;
  is_failed = is_failed;
  watches = [];
  trail = nothing_noted;
}

abbrev pub split_tree_1 : QueryTree fails
split_tree_1 = reduce fails_start (inl tt) 1 refl

abbrev pub split_tree_2 : QueryTree fails
split_tree_2 = reduce fails_start (inl tt) 2 refl

-- ---- p(1). p(2). ?- Y is 1 + 2, p(X). The sum has run.
abbrev pub sum_held : Held
sum_held = record {
  key = [];
  reductions = [];
  row = summed;
  left = [];
  right = item_of_query 1 ∷ [];
  used = 5;
  limit = 10;
  is_failed = false;
  watches = [];
  trail = nothing_noted;
}
