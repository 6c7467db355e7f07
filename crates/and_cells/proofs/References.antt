-- What a reference may lead to: how many cells are behind it, and what no floor cuts off.
use Rattle.std.proofs.Common.{ℕ, suc, ◌<◌, arith}
use Rattle.and_model.specs.declared.reference.Ref.{Ref}
use Rattle.and_model.specs.declared.reference.Ref.TheVariants.{Free, Cell, Node, Number, Half}
use Rattle.and_cells.specs.Ranges.{NamedProgram, CanHold}
use Rattle.and_cells.specs.Ends.{IsBelow}

-- how many cells may follow in a chain from here
abbrev pub cells_behind : Ref → ℕ
cells_behind Free = 0
cells_behind (Cell cell) = suc cell
cells_behind (Node node base) = 0
cells_behind (Number pair) = 0
cells_behind (Half bits) = 0

-- fewer follow what a cell may hold
pub held_behind : (P : NamedProgram) (words cell : ℕ) (r : Ref) → CanHold P words cell r → cells_behind r < suc cell
held_behind P words cell Free fits = omega arith
held_behind P words cell (Cell other) fits = omega arith
held_behind P words cell (Node node base) fits = omega arith
held_behind P words cell (Number pair) fits = omega arith
held_behind P words cell (Half bits) fits = omega arith

-- nothing is below the floor 0
pub nothing_below : (r : Ref) → IsBelow 0 r → ⊥
nothing_below Free below = below
nothing_below (Cell cell) below = omega arith
nothing_below (Node node base) below = omega arith
nothing_below (Number pair) below = below
nothing_below (Half bits) below = below
