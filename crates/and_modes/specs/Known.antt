-- What is known of a clause's variables, as a row of levels.
use Rattle.std.specs.Prelude.{ℕ, Bool, true, ◌&&◌, leb, cond, nat_eq, List, [], ◌∷◌, get_or}
use Rattle.and_model.specs.Terms.{Term}
use Rattle.and_modes.specs.Modes.{Environment, rank, higher, is_ground_in, level_in, raised}
use Rattle.and_modes.specs.declared.level.Level.{Level}
use Rattle.and_modes.specs.declared.level.Level.TheVariants.{Any, Integer}

abbrev pub environment : List Level → Environment
environment ls = λ k. get_or ls k Any

-- the environment in which one variable was raised to a level
abbrev pub raised_at : Environment → ℕ → Level → Environment
raised_at e k l = λ j. cond (nat_eq j k) (higher (e j) l) (e j)

-- the environment in which each of these variables was raised to a level
abbrev pub all_raised_at : Environment → List ℕ → Level → Environment
all_raised_at e [] l = e
all_raised_at e (k ∷ ks) l = all_raised_at (raised_at e k l) ks l

-- each of these variables is at least ground
abbrev pub are_ground_at : Environment → List ℕ → Bool
are_ground_at e [] = true
are_ground_at e (k ∷ ks) = leb 1 (rank (e k)) && are_ground_at e ks

-- after an equation each side has the level of the other too
abbrev pub after_equal : Environment → (left right : Term) → Environment
after_equal e left right = raised (raised e left (level_in e right)) right (level_in e left)

-- after an `is` goal whose right side is ground the left side is an integer
abbrev pub after_is : Environment → (left right : Term) → Environment
after_is e left right = cond (is_ground_in e right) (raised e left Integer) e
