-- Where the premises of some laws hold, tried on small programs.
use Rattle.std.specs.Prelude.{ℕ, ◌+◌, ◌++◌, false, List, [], ◌∷◌, nat_eq, codes}
use Rattle.and_model.specs.Terms.{Term, variable, Substitution}
use Rattle.and_model.specs.Solutions.{Equation}
use Rattle.and_model.specs.Arithmetic.{less}
use Rattle.and_model.specs.Programs.{Program, Arithmetic, call, arithmetic, compare, builtin_names}
use Rattle.and_model.specs.Trees.{QueryTree, query_agenda, blank}
use Rattle.and_model.specs.declared.builtins.TheConstants.{LESS}
use Rattle.and_laws.specs.Naming.{Variables}
use Rattle.and_examples.specs.Texts.{own, whole, binary, p, q, asks}
use Rattle.and_examples.specs.GuardExamples.{rule}
use Rattle.and_examples.specs.BranchExamples.{sum}

-- ---- p(X) :- X < 5. ?- Y is 1 + 2, p(Y).
abbrev pub guarded_sum : Program
guarded_sum = record {
  clauses = rule (p (own 0)) (arithmetic (compare less (own 0) (whole 5)) ∷ []) (codes "X" ∷ []) ∷ [];
  query = asks (arithmetic sum ∷ call (p (own 0)) ∷ []) (codes "Y" ∷ []);
  names = builtin_names ++ codes "p" ∷ [];
}

abbrev pub sum_first : QueryTree guarded_sum
sum_first = blank (query_agenda guarded_sum)

-- what the sum adds
abbrev pub added : List Equation
added = (own 0, whole 3) ∷ []

-- the goal of the clause that takes the call, which is item 1 of the query
abbrev pub below_five : Arithmetic
below_five = compare less (variable (1 ∷ []) 0) (whole 5)

-- ---- p(1). p(2). q(2). ?- p(X), q(X). where q(X) was taken by clause 3
abbrev pub filtered : List Equation
filtered = (q (own 0), q (whole 2)) ∷ []

-- the variables of the frames whose paths begin with that number
abbrev pub beginning : ℕ → Variables
beginning n [] k = false
beginning n (i ∷ path) k = nat_eq i n

-- The query's variables are moved to the frame [7], and back.
abbrev pub to_seven : Substitution
to_seven path k = variable (7 ∷ []) k

abbrev pub from_seven : Substitution
from_seven path k = own k

abbrev pub filtered_in_seven : List Equation
filtered_in_seven = (q (to_seven [] 0), q (whole 2)) ∷ []

-- ---- two variables X and Y of a query, and X < Y
abbrev pub named : Substitution
named path k = variable path k

-- the same in other cells
abbrev pub moved : Substitution
moved path k = variable (3 ∷ []) (k + 4)

abbrev pub below : Substitution → List Term
below s = binary LESS (s [] 0) (s [] 1) ∷ []
