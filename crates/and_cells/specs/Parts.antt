-- The program of what was loaded, under which rows are kept, and where the parts of a structure are found (structure
-- sharing: Boyer and Moore, 1972).
use Rattle.std.specs.Prelude.{ℕ, ◌≡◌, List, [], map, length, slice_get, Some}
use Rattle.and_program.specs.Skeletons.{compound}
use Rattle.and_model.specs.declared.numbers.NodeNo.{NodeNo}
use Rattle.and_model.specs.declared.reference.Ref.{Ref}
use Rattle.and_model.specs.declared.reference.Ref.TheVariants.{Free, Cell, Node, Number, Half}
use Rattle.and_program.specs.declared.loaded.Loaded.{Loaded}
use Rattle.and_program.specs.Loaded.{program_of, skeleton_of, shape_at, arguments_at}
use Rattle.and_program.specs.Shown.{resolved}
use Rattle.and_cells.specs.Ranges.{NamedProgram}

abbrev pub named : Loaded → NamedProgram
named l = record { program = program_of l; skeleton = skeleton_of l }

-- where the term of a node is found in the frame at that base
abbrev pub part_at : NamedProgram → (base node : ℕ) → Ref
part_at P base node = resolved (shape_at P.skeleton node) (record { 0 = node }) base

-- where the arguments of a structure are found
abbrev pub parts_of : NamedProgram → Ref → List Ref
parts_of P Free = []
parts_of P (Cell cell) = []
parts_of P (Node node base) = map (part_at P base) (arguments_at P.skeleton node.0)
parts_of P (Number pair) = []
parts_of P (Half bits) = []

-- The reference is a name with so many arguments.
pub record IsStructure (P : NamedProgram) (r : Ref) (name count : ℕ) : Type 0 where
  pub node : NodeNo
  pub base : ℕ
  pub arguments : List ℕ
  pub reference : r ≡ Node node base
  pub shape : slice_get P.skeleton.nodes node.0 ≡ Some (compound name arguments)
  pub counted : length arguments ≡ count
