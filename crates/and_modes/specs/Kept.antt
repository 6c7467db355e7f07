-- The assignment that a value of the code stands for.
use Rattle.std.specs.Prelude.{ℕ, ◌<◌, ◌^◌, Bool, ◌&&◌, nat_eq, Option, Some, None}
use Rattle.std.specs.HashMap.{HashMap, get}
use Rattle.and_modes.specs.Modes.{Assignment}
use Rattle.and_modes.specs.declared.level.Level.{Level}
use Rattle.and_modes.specs.declared.level.Level.TheVariants.{Integer}
use Rattle.and_modes.specs.declared.level.Side.TheVariants.{Called, Succeeded}
use Rattle.and_modes.specs.declared.assignment.Place.{Place}
use Rattle.and_modes.specs.declared.assignment.Modes.{Modes}

-- the same argument place of the same predicate
abbrev pub same_place : Place → Place → Bool
same_place p q = nat_eq p.name.0 q.name.0 && (nat_eq p.arity q.arity && nat_eq p.number q.number)

-- the numbers of a place are those that values of the code can have
abbrev pub IsNamed : Place → Type 0
IsNamed p = (p.name.0 < 2 ^ 32) × (p.arity < 256) × (p.number < 256)

-- a level that was noted, and else the highest
abbrev pub noted : Option Level → Level
noted None = Integer
noted (Some l) = l

-- the level that a map has for a place
abbrev pub level_at : {S : Type 0} → HashMap Place Level S → (name count place : ℕ) → Level
level_at fallen name count place =
    noted (get same_place fallen (record { name = record { 0 = name }; arity = count; number = place }))

abbrev pub assignment_of : Modes → Assignment
assignment_of modes name count place Called = level_at modes.called name count place
assignment_of modes name count place Succeeded = level_at modes.succeeded name count place
