-- The definitions of what rows say, tried on small rows.
use Rattle.std.proofs.Common.{zero, suc, pos, ◌<◌, ◌≡◌, refl, List, [], ◌∷◌, false, None, sym, subst, arith}
use Rattle.std.specs.Prelude.{Contains}
use Rattle.and_model.specs.Terms.{Substitution}
use Rattle.and_program.specs.Skeletons.{Shape, compound}
use Rattle.and_program.specs.Skeletons as skeletons
use Rattle.and_model.specs.declared.numbers.NodeNo.{NodeNo}
use Rattle.and_model.specs.declared.reference.Ref.{Ref}
use Rattle.and_model.specs.declared.reference.Ref.TheVariants.{Free, Cell, Node, Number, Half}
use Rattle.and_cells.specs.Ranges.{NamedProgram, no_program}
use Rattle.and_cells.specs.Rows.{plain}
use Rattle.and_cells.specs.Parts.{parts_of, IsStructure}
use Rattle.and_cells.specs.Known.{HasKnown}
use Rattle.and_cells.specs.Ends.{Ends, IsBelow}
use Rattle.and_cells.specs.Ends as ends
use Rattle.and_cells.specs.Joined.{Joined, value}
use Rattle.and_cells.specs.Joined as joined

-- the clause f(X, 3): node 0 is its variable 0, node 1 the number 3, and node 2 is f of both
P : NamedProgram
P = record {
  program = no_program.program;
  skeleton = record { nodes = skeletons.variable 0 ∷ skeletons.number (pos 3) ∷ compound 30 (0 ∷ 1 ∷ []) ∷ []; clauses = [] };
}

three : NodeNo
three = record { 0 = 1 }

node : NodeNo
node = record { 0 = 2 }

-- the parts of the structure in the frame at 1: a variable is found in its cell, a number at its own node
parts : parts_of P (Node node 1) ≡ Cell 2 ∷ Node three 1 ∷ []
unfolding P node three
parts = refl

-- it has two arguments
two : IsStructure P (Node node 1) 30 2
unfolding P node
two = record { node = node; base = 1; arguments = 0 ∷ 1 ∷ []; reference = refl; shape = refl; counted = refl }

-- cell 3 is set to it, and cell 2, its variable, to the free cell 0
row : List Ref
row = Free ∷ Free ∷ Cell 0 ∷ Node node 1 ∷ []

-- so each path from cell 3 ends
paths_end : Ends P row 0 false (Cell 3)
unfolding row P node three
paths_end =
    ends.set 3 (Node node 1) (refl, λ e. cc) (ends.parts node 1 (λ r among. within r among))
  where
    within : (r : Ref) → Contains (Cell 2 ∷ Node three 1 ∷ []) r → Ends P row 0 false r
    within r (zero, below, is) = subst (λ (x : Ref). Ends P row 0 false x) is (ends.set 2 (Cell 0) (refl, λ e. cc) (ends.free 0 refl))
    within r (suc zero, below, is) =
        subst (λ (x : Ref). Ends P row 0 false x) is (ends.parts three 1 (λ q none. let below : none.0 < 0 = none.1 in absurd (omega arith)))
    within r (suc (suc k), below, is) = absurd (omega arith)

-- what lies below a floor is a cell or a frame, and never a number
numbers_are_not_below : IsBelow 9 (Number 1) → ⊥
numbers_are_not_below h = h

-- what is joined may be joined by way of a third
by_way : (Link : Ref → Ref → Type 0) → Link (Cell 0) (Cell 1) → Link (Cell 2) (Cell 1) → Joined Link (Cell 0) (Cell 2)
by_way Link a b = joined.then (Cell 0) (Cell 1) (Cell 2) (joined.link (Cell 0) (Cell 1) a) (joined.back (Cell 2) (Cell 1) (joined.link (Cell 2) (Cell 1) b))

-- a half has no value
no_value : (t : Substitution) → value P (λ cell. Free) t (Half 5) ≡ None
no_value t = refl

-- words may have more than is known of a row that is told
more_words : HasKnown (plain (Free ∷ Cell 0 ∷ [])) (λ cell. Cell 0)
more_words zero r knows = absurd (knows.1 (sym knows.0))
more_words (suc zero) r knows = knows.0
more_words (suc (suc place)) r knows = absurd (knows.1 (sym knows.0))
