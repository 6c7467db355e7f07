-- What drafts stand for.
use Rattle.std.specs.Prelude.{ℕ, ℤ, List, map, length}
use Rattle.and_model.specs.Lines.{Bytes}
use Rattle.and_syntax.specs.Written.{Written, variable_number}
use Rattle.and_drafts.specs.Parts
use Rattle.and_drafts.specs.Parts.{PartShape, part_shapes, written_at}
use Rattle.and_drafts.specs.declared.draft.ClauseDraft.{ClauseDraft}
use Rattle.and_drafts.specs.declared.draft.Part.{Part}
use Rattle.and_drafts.specs.declared.draft.Part.TheVariants.{Variable, Integer, Compound}

-- A draft: its line, its finished terms in the order in which they were finished, and how many parts it has.
pub record Draft : Type 0 where
  pub line : ℕ
  pub finished : List Written
  pub parts : ℕ

-- what a draft stands for
abbrev pub draft_of : ClauseDraft → Draft
draft_of d = record {
  line = d.line;
  finished = map (written_at (part_shapes d.parts.items)) d.finished.items;
  parts = length d.parts.items;
}

-- the parts of a draft, which are those of its finished terms in postfix order
abbrev pub shapes_of : ClauseDraft → List PartShape
shapes_of d = part_shapes d.parts.items

-- What is read of a part: a variable with its number, an integer, or a name and how many arguments it has.
pub data Reading : Type 0 where
  variable : ℕ → Bytes → Reading
  integer : ℤ → Reading
  compound : Bytes → ℕ → Reading

-- what a part of the code tells
abbrev pub read_part : Part → Reading
read_part (Variable n x) = variable n x.now
read_part (Integer z) = integer z
read_part (Compound c n) = compound c.now n

-- what is to be read of a part, where these variables were met before it
abbrev pub read_shape : List Bytes → PartShape → Reading
read_shape met (Parts.variable x) = variable (variable_number x met) x
read_shape met (Parts.integer z) = integer z
read_shape met (Parts.compound c ns) = compound c (length ns)
