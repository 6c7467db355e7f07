-- Pairs of references that are to be made the same term.
use Rattle.std.specs.Prelude.{ℕ, ◌≡◌, ◌≢◌, ◌⊎◌, ◌++◌, false, true, List, flat_map, Option, Some, None, All}
use Rattle.and_model.specs.Terms.{Term, variable, number, compound}
use Rattle.and_model.specs.Solutions.{Equation}
use Rattle.and_model.specs.Store.{is_half}
use Rattle.and_model.specs.declared.reference.Ref.{Ref}
use Rattle.and_model.specs.Terms.{width}
use Rattle.and_cells.specs.Ranges.{NamedProgram, IsInRange}
use Rattle.and_cells.specs.Seen.{Seen, IsWrittenIfNumber}
use Rattle.and_cells.specs.Meaning.{Words, shallow_term, shallow_cells, equations_between}
use Rattle.and_cells.specs.Known.{HasKnown}
use Rattle.and_unify.specs.declared.pairs.Pair.{Pair}

-- the equations that the pairs ask for
abbrev pub equations_of_pairs : NamedProgram → Words → List Pair → List Equation
equations_of_pairs P w pairs = flat_map (λ (p : Pair). equations_between P w p.left p.right) pairs

abbrev pub AreInRange : NamedProgram → (words : ℕ) → List Pair → Type 0
AreInRange P words pairs = All (λ (p : Pair). IsInRange P words p.left × IsInRange P words p.right) pairs

-- the numbers among the sides are known to be written
abbrev pub AreWritten : Seen → List Pair → Type 0
AreWritten s pairs = All (λ (p : Pair). IsWrittenIfNumber s p.left × IsWrittenIfNumber s p.right) pairs

-- none of the cells that the sides name is a word of a pair of words
abbrev pub NameNoHalf : NamedProgram → Words → List Pair → Type 0
NameNoHalf P w pairs = All
    (λ (p : Pair). All (λ (cell : ℕ). is_half (w cell) ≡ false) (shallow_cells P p.left ++ shallow_cells P p.right))
    pairs

-- Terms that differ at their heads: two numbers, two names or numbers of arguments, or a number and a name.
abbrev pub DifferAtHeads : Option Term → Option Term → Type 0
DifferAtHeads None u = ⊥
DifferAtHeads (Some t) None = ⊥
DifferAtHeads (Some (variable q k)) (Some u) = ⊥
DifferAtHeads (Some (number z)) (Some (variable q k)) = ⊥
DifferAtHeads (Some (number z)) (Some (number y)) = z ≢ y
DifferAtHeads (Some (number z)) (Some (compound c ts)) = Unit {0}
DifferAtHeads (Some (compound c ts)) (Some (variable q k)) = ⊥
DifferAtHeads (Some (compound c ts)) (Some (number z)) = Unit {0}
DifferAtHeads (Some (compound c ts)) (Some (compound d us)) = (c ≢ d) ⊎ (width ts ≢ width us)

-- The two are never the same term: one is a word of a pair, or they differ at their heads in all words that have what
-- is known.
abbrev pub AreApart : NamedProgram → Seen → Ref → Ref → Type 0
AreApart P s left right =
    (is_half left ≡ true) ⊎ (is_half right ≡ true)
    ⊎ ((w : Words) → HasKnown s w → DifferAtHeads (shallow_term P w left) (shallow_term P w right))
