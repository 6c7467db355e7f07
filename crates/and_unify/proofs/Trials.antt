-- The definitions of pairs and places, tried on small rows.
use Rattle.std.proofs.Common.{pos, ◌≡◌, ◌<◌, refl, List, [], ◌∷◌, lit<, inl, inr, arith, sym}
use Rattle.and_model.specs.Terms.{Term, variable, Substitution}
use Rattle.and_model.specs.Terms as terms
use Rattle.and_model.specs.Solutions.{falsehood}
use Rattle.and_program.specs.Skeletons.{Shape, compound}
use Rattle.and_program.specs.Skeletons as skeletons
use Rattle.and_model.specs.declared.numbers.NodeNo.{NodeNo}
use Rattle.and_model.specs.declared.reference.Ref.{Ref}
use Rattle.and_model.specs.declared.reference.Ref.TheVariants.{Free, Cell, Node, Half}
use Rattle.and_cells.specs.Ranges.{NamedProgram, no_program}
use Rattle.and_cells.specs.Seen.{Seen}
use Rattle.and_cells.specs.Rows.{plain}
use Rattle.and_unify.specs.declared.pairs.Pair.{Pair}
use Rattle.and_unify.specs.Pairs.{equations_of_pairs, AreApart}
use Rattle.and_unify.specs.Places.{left_sides, IsPlace}
use Rattle.and_unify.specs.Places as places
use Rattle.and_unify.specs.Settling.{KeepsBelow}

-- the clause f(X, 3) with the number 4 beside it: node 0 is its variable 0, nodes 1 and 3 the numbers, and node 2 is f
P : NamedProgram
P = record {
  program = no_program.program;
  skeleton = record { nodes = skeletons.variable 0 ∷ skeletons.number (pos 3) ∷ compound 30 (0 ∷ 1 ∷ []) ∷ skeletons.number (pos 4) ∷ []; clauses = [] };
}

three : NodeNo
three = record { 0 = 1 }

node : NodeNo
node = record { 0 = 2 }

four : NodeNo
four = record { 0 = 3 }

-- a pair asks for the equation of its sides, in which the variable is the cell of its frame
equations : equations_of_pairs P (λ cell. Free) (record { left = Cell 4; right = Node node 1 } ∷ [])
    ≡ (variable [] 4, terms.compound 30 (terms.more (variable [] 2) (terms.more (terms.number (pos 3)) terms.none))) ∷ []
unfolding P node
equations = refl

-- and for the false one where a side names a word of a pair
no_solution : equations_of_pairs P (λ cell. Half 0) (record { left = Cell 4; right = Cell 4 } ∷ [])
    ≡ (variable [] 4, variable [] 4) ∷ falsehood ∷ falsehood ∷ []
no_solution = refl

-- two numbers that differ are apart, whatever else is known
apart : (s : Seen) → AreApart P s (Node three 1) (Node four 9)
unfolding P three four
apart s = inr (inr (λ w has e. absurd (cc)))

-- a free cell and a structure are not
not_apart : AreApart P (plain []) (Cell 4) (Node node 1) → ⊥
unfolding P node
not_apart (inl e) = absurd (cc)
not_apart (inr (inl e)) = absurd (cc)
not_apart (inr (inr differ)) = differ (λ cell. Free) (λ place r knows. absurd (knows.1 (sym knows.0)))

-- The part of a left side is a place, and what its cell is known to be set to.
row : List Ref
row = Free ∷ Free ∷ Cell 0 ∷ []

sides : List Pair
sides = record { left = Node node 1; right = Cell 1 } ∷ []

behind : IsPlace P (plain row) (left_sides sides) (Cell 0)
unfolding row sides P node
behind = places.set 2 (Cell 0) (places.part node 1 (Cell 2) (places.root (Node node 1) (0, lit< tt, refl)) (0, lit< tt, refl)) (refl, λ e. cc)

-- A structure whose frame goes across the floor does not keep below it.
across : KeepsBelow P 2 (Node node 1) → ⊥
unfolding P node
across keeps = let below : 2 < 2 = keeps (lit< tt) 0 0 (lit< tt) in absurd (omega arith)
