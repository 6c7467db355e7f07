-- The definitions of what rows mean, tried on small rows.
use Rattle.std.proofs.Common.{◌≡◌, refl, List, [], ◌∷◌, lit<}
use Rattle.and_model.specs.Terms.{Term, variable}
use Rattle.and_model.specs.Terms as terms
use Rattle.and_model.specs.Solutions.{falsehood}
use Rattle.and_program.specs.Skeletons.{Shape, number, compound}
use Rattle.and_program.specs.Skeletons as skeletons
use Rattle.and_model.specs.declared.numbers.NodeNo.{NodeNo}
use Rattle.and_model.specs.declared.reference.Ref.{Ref}
use Rattle.and_model.specs.declared.reference.Ref.TheVariants.{Free, Cell, Node, Half}
use Rattle.and_cells.specs.Ranges.{NamedProgram, no_program}
use Rattle.and_cells.specs.Seen.{here, onward}
use Rattle.and_cells.specs.Meaning.{StandsFor, unbound, bound, structure, Holds, inside, IsCircle, equations_of}
use Rattle.and_cells.specs.Meaning as meaning

-- the clause f(X): node 0 is its variable 0, and node 1 is f of it
P : NamedProgram
P = record { program = no_program.program; skeleton = record { nodes = skeletons.variable 0 ∷ compound 30 (0 ∷ []) ∷ []; clauses = [] } }

node : NodeNo
node = record { 0 = 1 }

row : List Ref
row = Free ∷ Free ∷ Cell 0 ∷ Node node 1 ∷ []

-- a cell that is set to a cell, and one that is set to a structure, whose variable is a cell of its frame
equations : equations_of P row ≡ (variable [] 2, variable [] 0) ∷ (variable [] 3, terms.compound 30 (terms.more (variable [] 2) terms.none)) ∷ []
unfolding P node row
equations = refl

-- cell 2 is set to a word of a pair, and so the row has no solution
half_row : List Ref
half_row = Half 0 ∷ Half 5 ∷ Cell 1 ∷ []

halves : equations_of P half_row ≡ (variable [] 2, variable [] 1) ∷ falsehood ∷ []
unfolding P half_row
halves = refl

-- cell 2 stands for the free cell 0
stands : StandsFor P row (Cell 2) (variable [] 0)
unfolding row
stands = bound 2 (Cell 0) (variable [] 0) (refl, λ e. cc) (unbound 0 (lit< tt) refl)

-- cell 2 is f of itself
ring : List Ref
ring = Free ∷ Free ∷ Node node 1 ∷ []

circle : IsCircle P ring 2
unfolding P node ring
circle = record {
  node = node;
  base = 1;
  leads = onward 2 (Node node 1) (Node node 1) (refl, λ e. cc) (here (Node node 1));
  holds = inside node 1 ([], 0) 2 (0, lit< tt, refl) (meaning.here 2);
}
