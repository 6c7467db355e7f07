-- Branches as they are read in their cells, tried on two small programs.
use Rattle.std.specs.Prelude.{ℕ, Bool, false, pos, List, [], ◌∷◌}
use Rattle.and_model.specs.Programs.{own_name}
use Rattle.and_model.specs.declared.builtins.TheConstants.{TRUE}
use Rattle.and_model.specs.declared.goal.Goal.{Goal}
use Rattle.and_model.specs.declared.reference.Ref.{Ref}
use Rattle.and_model.specs.declared.reference.Ref.TheVariants.{Free, Node}
use Rattle.and_program.specs.Skeletons.{Skeleton, variable, number, compound, call}
use Rattle.and_cells.specs.Ranges.{NamedProgram}
use Rattle.and_branch_laws.specs.Views.{View}
use Rattle.and_examples.specs.BranchExamples.{item_of_query, taken_by}
use Rattle.and_examples.specs.KeptExamples.{node_of, by_nodes, summed}
use Rattle.and_examples.specs.NumbersExamples.{fails}

-- ---- p(1). p(2). q(2). q(3). ?- p(X), q(X).
abbrev pub fails_skeleton : Skeleton
fails_skeleton = record {
  nodes = number (pos 1) ∷ compound (own_name 0) (0 ∷ []) ∷ number (pos 2) ∷ compound (own_name 0) (2 ∷ [])
      ∷ number (pos 2) ∷ compound (own_name 1) (4 ∷ []) ∷ number (pos 3) ∷ compound (own_name 1) (6 ∷ [])
      ∷ compound TRUE [] ∷ variable 0 ∷ compound (own_name 0) (9 ∷ []) ∷ variable 0
      ∷ compound (own_name 1) (11 ∷ []) ∷ [];
  clauses = by_nodes 8 (call 10 ∷ call 12 ∷ []) ∷ by_nodes 1 [] ∷ by_nodes 3 [] ∷ by_nodes 5 [] ∷ by_nodes 7 [] ∷ [];
}

abbrev pub failing : NamedProgram
failing = record { program = fails; skeleton = fails_skeleton }

-- the query's first call was taken by that clause
abbrev pub split_view : (clause : ℕ) (row : List Ref) (goals : List Goal) (is_failed : Bool) → View
split_view clause row goals is_failed = record {
  key = clause ∷ [];
  reductions = taken_by clause ∷ [];
  row = row;
  goals = goals;
  waiting = [];
  used = 3;
  limit = 10;
  is_failed = is_failed;
}

-- By clause 2, X is bound to the 2 of its head; or it is free.
abbrev pub bound_row : List Ref
bound_row = Free ∷ Node (node_of 2) 2 ∷ Free ∷ []

abbrev pub free_row : List Ref
free_row = Free ∷ Free ∷ Free ∷ []

-- ---- p(1). p(2). ?- Y is 1 + 2, p(X). The sum has run.
abbrev pub sum_view : View
sum_view = record {
  key = [];
  reductions = [];
  row = summed;
  goals = item_of_query 1 ∷ [];
  waiting = [];
  used = 5;
  limit = 10;
  is_failed = false;
}
