-- What an overlay keeps has one proof at most.
use Rattle.std.specs.Prelude.{ℕ, List, [], ◌∷◌}
use Rattle.std.proofs.Props.{props}
use Rattle.and_model.specs.Store.{Known}
use Rattle.and_model.specs.declared.reference.Ref.{Ref}
use Rattle.and_model.specs.declared.reference.Ref.TheVariants.{Free, Cell, Node, Number, Half}
use Rattle.and_cells.specs.Ranges.{NamedProgram, CanHold}
use Rattle.and_cells.specs.Seen.{Seen}
use Rattle.and_overlay.specs.Overlaid.{Own, AreLate, IsOver}

can_hold_prop : (P : NamedProgram) (words place : ℕ) (r : Ref) → IsProp (CanHold P words place r)
can_hold_prop P words place Free = hlevel props
can_hold_prop P words place (Cell cell) = hlevel props
can_hold_prop P words place (Node node base) = hlevel props
can_hold_prop P words place (Number pair) = hlevel props
can_hold_prop P words place (Half bits) = hlevel props

known_set : IsSet (List Known)
known_set = hlevel props

late_prop : (own : List Own) (known : List Known) → IsProp (AreLate own known)
late_prop [] known = hlevel props
late_prop (o ∷ own) known = let rest = late_prop own o.before in hlevel (props, known_set, rest)

pub over_prop : (P : NamedProgram) (s : Seen) (frame : ℕ) (own : List Own) (looked : List ℕ)
    → IsProp (IsOver P s frame own looked)
over_prop P s frame own looked = hlevel (props, can_hold_prop, late_prop)
