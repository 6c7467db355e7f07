-- What terms that are no variables begin with.
use Rattle.std.specs.Prelude.{ℕ, suc, ℤ, ◌≡◌}
use Rattle.and_model.specs.Terms.{number}
use Rattle.and_model.specs.declared.numbers.NodeNo.{NodeNo}
use Rattle.and_model.specs.declared.reference.Ref.{Ref}
use Rattle.and_model.specs.declared.reference.Ref.TheVariants as reference
use Rattle.and_program.specs.Skeletons.{node_term}
use Rattle.and_cells.specs.Ranges.{NamedProgram}
use Rattle.and_cells.specs.Numbers.{number_of}
use Rattle.and_cells.specs.Seen.{Seen, Knows}
use Rattle.and_cells.specs.Parts.{IsStructure}
use Rattle.and_unify.specs.declared.heads.Head.{Head}
use Rattle.and_unify.specs.declared.heads.Head.TheVariants.{Number, Name}

-- a node, or the number in a pair of words
abbrev pub IsEnd : Ref → Type 0
IsEnd reference.Free = ⊥
IsEnd (reference.Cell cell) = ⊥
IsEnd (reference.Node node base) = Unit {0}
IsEnd (reference.Number pair) = Unit {0}
IsEnd (reference.Half bits) = ⊥

-- The reference is this number: its node is, or its pair of words is known to hold it.
pub data IsNumber (P : NamedProgram) (s : Seen) (z : ℤ) : Ref → Type 0 where
  at_node : (node : NodeNo) (base : ℕ) → node_term P.skeleton.nodes node.0 ≡ number z
      → IsNumber P s z (reference.Node node base)
  in_pair : (pair : ℕ) (high low : Ref) → Knows s pair high → Knows s (suc pair) low → z ≡ number_of high low
      → IsNumber P s z (reference.Number pair)

-- The reference is that number, or a structure of that name and number of arguments.
abbrev pub HasHead : NamedProgram → Seen → Ref → Head → Type 0
HasHead P s r (Number z) = IsNumber P s z r
HasHead P s r (Name name count) = IsStructure P r name.0 count
