-- What a draft is as a clause or a query, and what is wrong with it.
use Rattle.std.specs.Prelude.{ℕ, cond, nat_eq, List, [], ◌∷◌, length, get_or, Option, Some, None}
use Rattle.and_model.specs.Lines.{Bytes}
use Rattle.and_syntax.specs.Written.{place}
use Rattle.and_drafts.specs.Parts.{PartShape, variable, integer, compound}
use Rattle.and_judging.specs.declared.judging.Sides.{Sides}
use Rattle.and_judging.specs.declared.judging.Functor.{Functor}
use Rattle.and_model.specs.declared.builtins.TheConstants.{NECK}

-- a head alone
abbrev pub alone : ℕ → Sides
alone n = record { head = n; body = None }

-- the head and the body of a name with these arguments
abbrev pub sides_in : ℕ → List ℕ → ℕ → Sides
sides_in c [] n = alone n
sides_in c (a ∷ []) n = alone n
sides_in c (a ∷ b ∷ []) n = cond (nat_eq c NECK) (record { head = a; body = Some b }) (alone n)
sides_in c (a ∷ b ∷ d ∷ ns) n = alone n

-- the head and the body of a part
abbrev pub sides_of_shape : List Bytes → PartShape → ℕ → Sides
sides_of_shape names (variable x) n = alone n
sides_of_shape names (integer z) n = alone n
sides_of_shape names (compound c ns) n = sides_in (place c names) ns n

-- the head and the body of the part of that number
abbrev pub sides_at : List Bytes → List PartShape → ℕ → Sides
sides_at names ps n = sides_of_shape names (get_or ps n (variable [])) n

-- the one number, where there is exactly one
abbrev pub one_in : List ℕ → Option ℕ
one_in [] = None
one_in (a ∷ []) = Some a
one_in (a ∷ b ∷ ns) = None

-- the body of a query, the one argument of a part
abbrev pub asked_in : PartShape → Option ℕ
asked_in (variable x) = None
asked_in (integer z) = None
asked_in (compound c ns) = one_in ns

-- the body of the part of that number, as a query
abbrev pub asked_at : List PartShape → ℕ → Option ℕ
asked_at ps n = asked_in (get_or ps n (variable []))

-- the name of a part, and how many arguments it has
abbrev pub functor_of : List Bytes → PartShape → Option Functor
functor_of names (variable x) = None
functor_of names (integer z) = None
functor_of names (compound c ns) = Some (record { name = place c names; arity = length ns })

-- the name of the part of that number, and how many arguments it has
abbrev pub functor_at : List Bytes → List PartShape → ℕ → Option Functor
functor_at names ps n = functor_of names (get_or ps n (variable []))
