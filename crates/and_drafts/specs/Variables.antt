-- The variables of a draft, by their numbers.
use Rattle.std.specs.Prelude.{ℕ, suc, ◌≡◌, cond, List, [], ◌∷◌, map, length, codes, Vec, Option, Some, None, take, drop}
use Rattle.std.specs.Str.{bytes_eq}
use Rattle.std.specs.Coded.{×_prop, Unit-prop}
use Rattle.std.specs.declared.alloc.Global.{Global}
use Rattle.std.proofs.Props.{props}
use Rattle.and_model.specs.Lines.{Bytes}
use Rattle.and_syntax.specs.Written.{variable_number}
use Rattle.and_drafts.specs.Numbered.{met_with}
use Rattle.and_drafts.specs.Parts.{part_shape}
use Rattle.and_drafts.specs.declared.draft.DraftPart.{DraftPart}
use Rattle.and_drafts.specs.declared.draft.DraftPart.TheVariants.{Variable, Integer, Compound}
use Rattle.and_drafts.specs.declared.variables.Variables.{Variables}
use Rattle.and_drafts.specs.declared.variables.TheConstants.{FIRST}

-- the variables that have a name, with their numbers, where the first has number n
abbrev pub entries_of : ℕ → List Bytes → List (Bytes × ℕ)
entries_of n [] = []
entries_of n (x ∷ met) = cond (bytes_eq x (codes "_")) (entries_of (suc n) met) ((x, n) ∷ entries_of (suc n) met)

-- entries of the code as the bytes and the number that they are
abbrev pub bytes_in : List (Vec ℕ Global × ℕ) → List (Bytes × ℕ)
bytes_in es = map (λ e. (e.0.items, e.1)) es

-- the number of a name among these
abbrev pub number_among : Bytes → List (Bytes × ℕ) → Option ℕ
number_among x [] = None
number_among x (e ∷ es) = cond (bytes_eq x e.0) (Some e.1) (number_among x es)

-- These variables were met: the first of those that have a name are in the one list, the others in the map.
abbrev pub HasMet : Variables → List Bytes → Type 0
HasMet v met =
    (v.count ≡ length met) × (v.first.items ≡ take FIRST (entries_of 0 met))
    × (bytes_in v.named.entries ≡ drop FIRST (entries_of 0 met))

-- a variable has its number, where these were met before it
abbrev pub IsNumbered : List Bytes → DraftPart → Type 0
IsNumbered met (Variable x n) = n ≡ variable_number x met
IsNumbered met (Integer z) = Unit {0}
IsNumbered met (Compound c ns) = Unit {0}

-- so it is of each part
abbrev pub AllNumbered : List Bytes → List DraftPart → Type 0
AllNumbered met [] = Unit {0}
AllNumbered met (p ∷ ps) = IsNumbered met p × AllNumbered (met_with met (part_shape p)) ps

pub IsNumbered-prop : (met : List Bytes) (p : DraftPart) → IsProp (IsNumbered met p)
IsNumbered-prop met (Variable x n) = hlevel props
IsNumbered-prop met (Integer z) = Unit-prop
IsNumbered-prop met (Compound c ns) = Unit-prop

pub AllNumbered-prop : (met : List Bytes) (ps : List DraftPart) → IsProp (AllNumbered met ps)
AllNumbered-prop met [] = Unit-prop
AllNumbered-prop met (p ∷ ps) = ×_prop (IsNumbered-prop met p) (AllNumbered-prop (met_with met (part_shape p)) ps)
