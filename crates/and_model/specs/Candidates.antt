-- The clauses that a goal of a tree can still be taken by (determinacy of the basic Andorra model: Santos Costa,
-- Warren and Yang, 1991).
use Rattle.std.specs.Prelude.{ℕ, ◌≡◌, true, List, [], ◌∷◌, ◌⊎◌}
use Rattle.and_model.specs.Terms.{Path, Term, Terms}
use Rattle.and_model.specs.Solutions.{Equation, Solvable}
use Rattle.and_model.specs.Programs.{Program, Item, call, equal, arithmetic, fail, Arithmetic, is, compare, clause_at}
use Rattle.and_model.specs.Programs.{Of, head_in, arithmetic_in}
use Rattle.and_model.specs.Closure.{Known, refutes}

-- the comparisons with which a body begins, in the frame q
abbrev pub guard : Path → List Item → List Arithmetic
guard q [] = []
guard q (arithmetic (compare r a b) ∷ items) = arithmetic_in q (compare r a b) ∷ guard q items
guard q (arithmetic (is l r) ∷ items) = []
guard q (call g ∷ items) = []
guard q (equal a b ∷ items) = []
guard q (fail ∷ items) = []

abbrev pub In : Arithmetic → List Arithmetic → Type 0
In g [] = ⊥
In g (a ∷ gs) = (g ≡ a) ⊎ In g gs

-- a comparison whose terms are known, and that does not hold of them
abbrev pub Refuted : List Equation → Arithmetic → Type 0
Refuted es a = (ts : Terms) × Known es a ts × (refutes a ts ≡ true)

-- The clause is of the goal's predicate, its head and the goal have a solution beside the equations, and no
-- comparison of its guard is refuted under these.
abbrev pub Candidate : Program → List Equation → Path → Term → ℕ → Type 0
Candidate P es q g c =
    Of P g c × Solvable ((g, head_in P q c) ∷ es)
    × ((a : Arithmetic) → In a (guard q (clause_at P c).body) → Refuted ((g, head_in P q c) ∷ es) a → ⊥)
