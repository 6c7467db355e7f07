-- Terms that have levels, and the calls of a tree.
use Rattle.std.specs.Prelude.{ℕ, ℤ, suc, ◌≡◌, ◌⊎◌, true}
use Rattle.and_model.specs.Terms.{Term, Terms, number, none, more, is_ground, Substitution, apply_all}
use Rattle.and_model.specs.Programs.{Program}
use Rattle.and_model.specs.Trees.{Agenda, Tree, done, left, by, equate, reckon}
use Rattle.and_modes.specs.Modes.{Assignment, levels_of, arguments_of}
use Rattle.and_modes.specs.declared.level.Level.{Level}
use Rattle.and_modes.specs.declared.level.Level.TheVariants.{Any, Ground, Integer}
use Rattle.and_modes.specs.declared.level.Side.{Side}

-- Each term has the lowest level; a term without variables is ground, and a number an integer.
abbrev pub HasLevel : Level → Term → Type 0
HasLevel Any t = Unit {0}
HasLevel Ground t = is_ground t ≡ true
HasLevel Integer t = (z : ℤ) × (t ≡ number z)

-- each of the terms has the level of its place, where the first has place i
abbrev pub AllHaveLevels : (ℕ → Level) → (i : ℕ) → Terms → Type 0
AllHaveLevels levels i none = Unit {0}
AllHaveLevels levels i (more t ts) = HasLevel (levels i) t × AllHaveLevels levels (suc i) ts

-- The arguments of the goal have, under the substitution, the levels of their places on that side.
abbrev pub HasItsLevels : Assignment → Side → Substitution → Term → Type 0
HasItsLevels m side s goal = AllHaveLevels (levels_of m goal side) 0 (apply_all s (arguments_of goal))

-- The goal is a call of the tree that was taken by a clause.
abbrev pub IsTaken : {P : Program} {ag : Agenda} → Tree P ag → Term → Type 0
IsTaken done goal = ⊥
IsTaken (left t) goal = IsTaken t goal
IsTaken (by {g = g} c h t) goal = (g ≡ goal) ⊎ IsTaken t goal
IsTaken (equate t) goal = IsTaken t goal
IsTaken (reckon t) goal = IsTaken t goal
