-- What branches keep in their cells, tried on two small programs.
use Rattle.std.specs.Prelude.{ℕ, false, pos, List, [], ◌∷◌}
use Rattle.and_model.specs.Programs.{own_name}
use Rattle.and_model.specs.Arithmetic.{less}
use Rattle.and_model.specs.Trees.{QueryTree, query_agenda, blank}
use Rattle.and_model.specs.Stands.{Framed}
use Rattle.and_model.specs.declared.builtins.TheConstants.{PLUS, TRUE}
use Rattle.and_model.specs.declared.goal.Goal.{Goal}
use Rattle.and_model.specs.declared.numbers.NodeNo.{NodeNo}
use Rattle.and_model.specs.declared.reference.Ref.{Ref}
use Rattle.and_model.specs.declared.reference.Ref.TheVariants.{Free, Cell, Node, Number, Half}
use Rattle.and_program.specs.Skeletons.{Skeleton, NodeClause, NodeItem, variable, number, compound, call, is, compare}
use Rattle.and_cells.specs.Ranges.{NamedProgram}
use Rattle.and_branch_laws.specs.Views.{View}
use Rattle.and_examples.specs.BasesExamples.{P, by_first}
use Rattle.and_examples.specs.BranchExamples.{item_of_query, sum_text}

abbrev pub node_of : ℕ → NodeNo
node_of n = record { 0 = n }

-- a clause with the head at this node
abbrev pub by_nodes : ℕ → List NodeItem → NodeClause
by_nodes head items = record { head = head; items = items }

-- item number `item` of the query, which has the empty path
abbrev pub of_query : ℕ → Framed
of_query item = record { goal = item_of_query item; frame = [] }

-- ---- p(X) :- q(X), X < 3. q(1). q(2). ?- p(Y). The nodes of each clause come one after another, those of an
-- argument first.
abbrev pub skeleton : Skeleton
skeleton = record {
  nodes = variable 0 ∷ compound (own_name 0) (0 ∷ []) ∷ variable 0 ∷ compound (own_name 1) (2 ∷ []) ∷ variable 0
      ∷ number (pos 3) ∷ number (pos 1) ∷ compound (own_name 1) (6 ∷ []) ∷ number (pos 2)
      ∷ compound (own_name 1) (8 ∷ []) ∷ compound TRUE [] ∷ variable 0 ∷ compound (own_name 0) (11 ∷ []) ∷ [];
  clauses = by_nodes 10 (call 12 ∷ []) ∷ by_nodes 1 (call 3 ∷ compare less 4 5 ∷ []) ∷ by_nodes 7 []
      ∷ by_nodes 9 [] ∷ [];
}

abbrev pub text : NamedProgram
text = record { program = P; skeleton = skeleton }

-- The query's call was taken by clause 1, whose frame begins at its place, 2. Its variable, cell 3, is bound to the
-- query's, which is cell 1.
abbrev pub row : List Ref
row = Free ∷ Free ∷ Free ∷ Cell 1 ∷ []

abbrev pub item_of_first : ℕ → Goal
item_of_first item = record { node = 2; item = item; clause = record { 0 = 1 }; base = 2 }

abbrev pub in_first : ℕ → Framed
in_first item = record { goal = item_of_first item; frame = 0 ∷ [] }

abbrev pub goals : List Framed
goals = in_first 0 ∷ in_first 1 ∷ []

abbrev pub turned : List Framed
turned = in_first 1 ∷ in_first 0 ∷ []

-- The query's variable is bound to 1, too; or nothing is bound.
abbrev pub more_bound : List Ref
more_bound = Free ∷ Node (node_of 6) 2 ∷ Free ∷ Cell 1 ∷ []

abbrev pub less_bound : List Ref
less_bound = Free ∷ Free ∷ Free ∷ Free ∷ []

abbrev pub view : View
view = record {
  key = [];
  reductions = by_first ∷ [];
  row = row;
  goals = item_of_first 0 ∷ [];
  waiting = item_of_first 1 ∷ [];
  used = 4;
  limit = 10;
  is_failed = false;
}

-- ---- p(1). p(2). ?- Y is 1 + 2, p(X). The query's frame has cell 1 for Y, cell 2 for X, and the pair of the sum at 3.
abbrev pub sum_skeleton : Skeleton
sum_skeleton = record {
  nodes = number (pos 1) ∷ compound (own_name 0) (0 ∷ []) ∷ number (pos 2) ∷ compound (own_name 0) (2 ∷ [])
      ∷ compound TRUE [] ∷ variable 0 ∷ number (pos 1) ∷ number (pos 2) ∷ compound PLUS (6 ∷ 7 ∷ []) ∷ variable 1
      ∷ compound (own_name 0) (9 ∷ []) ∷ [];
  clauses = by_nodes 4 (is 5 8 0 ∷ call 10 ∷ []) ∷ by_nodes 1 [] ∷ by_nodes 3 [] ∷ [];
}

abbrev pub summing : NamedProgram
summing = record { program = sum_text; skeleton = sum_skeleton }

-- The sum has run: Y is the number that the pair holds. Or it has not.
abbrev pub summed : List Ref
summed = Free ∷ Number 3 ∷ Free ∷ Half 0 ∷ Half 3 ∷ []

abbrev pub not_summed : List Ref
not_summed = Free ∷ Free ∷ Free ∷ Free ∷ Free ∷ []

-- Its pair is written, though it has not.
abbrev pub written : List Ref
written = Free ∷ Free ∷ Free ∷ Half 0 ∷ Half 3 ∷ []

abbrev pub sum_start : QueryTree sum_text
sum_start = blank (query_agenda sum_text)
