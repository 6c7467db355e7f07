-- What was explored of a row.
use Rattle.std.specs.Prelude.{ℕ, suc, Bool, List, [], ◌∷◌, ◌++◌, All, None, Some}
use Rattle.and_model.specs.declared.reference.Ref.{Ref}
use Rattle.and_model.specs.declared.reference.Ref.TheVariants.{Cell}
use Rattle.and_cells.specs.Ranges.{NamedProgram}
use Rattle.and_cells.specs.Ends.{Ends}
use Rattle.and_circles.specs.Marked.{Listed}
use Rattle.and_circles.specs.declared.marks.Mark.TheVariants.{Open, Done}

-- The places of which it is known that each path from them ends, and what counts as an end.
pub record Finished : Type 0 where
  pub places : List Ref
  pub floor : ℕ
  pub halves : Bool

-- the cells that are done, where the list begins with the mark of this cell
abbrev pub done_from : (cell : ℕ) → Listed → List Ref
done_from cell [] = []
done_from cell (None ∷ marks) = done_from (suc cell) marks
done_from cell (Some Open ∷ marks) = done_from (suc cell) marks
done_from cell (Some Done ∷ marks) = Cell cell ∷ done_from (suc cell) marks

-- and these structures
abbrev pub finished : Listed → (structures : List Ref) → ℕ → Bool → Finished
finished marks structures floor halves =
    record { places = done_from 0 marks ++ structures; floor = floor; halves = halves }

-- Each path from these places ends.
abbrev pub AreFinished : NamedProgram → List Ref → Finished → Type 0
AreFinished P row f = All (Ends P row f.floor f.halves) f.places
