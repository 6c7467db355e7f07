-- The predicate of a term, by the kind of its node.
use Rattle.std.specs.Prelude.{ℕ, Bool, false, nat_eq, ◌&&◌}
use Rattle.and_model.specs.declared.numbers.NameNo.{NameNo}
use Rattle.and_program.specs.declared.node.NodeKind.{NodeKind}
use Rattle.and_program.specs.declared.node.NodeKind.TheVariants.{Variable, Number, Compound}

-- The kind has that name, with so many arguments.
abbrev pub has_name : NodeKind → NameNo → (arguments : ℕ) → Bool
has_name (Variable k) wanted arguments = false
has_name (Number z) wanted arguments = false
has_name (Compound name count) wanted arguments = nat_eq wanted.0 name.0 && nat_eq arguments count

-- Both kinds have the same name, and as many arguments.
abbrev pub named_alike : (call head : NodeKind) → Bool
named_alike (Variable k) head = false
named_alike (Number z) head = false
named_alike (Compound name count) head = has_name head name count
