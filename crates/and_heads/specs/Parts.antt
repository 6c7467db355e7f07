-- Parts of a call and of a head.
use Rattle.std.specs.Prelude.{ℕ, ◌≡◌, ◌⊎◌, List, [], ◌∷◌, ◌++◌, flat_map, false}
use Rattle.and_model.specs.Store.{is_half}
use Rattle.and_model.specs.declared.reference.Ref.{Ref}
use Rattle.and_model.specs.declared.reference.Ref.TheVariants.{Node}
use Rattle.and_cells.specs.Ranges.{NamedProgram}
use Rattle.and_unify.specs.declared.pairs.Pair.{Pair}
use Rattle.and_unify.specs.declared.heads.Head.{Head}
use Rattle.and_unify.specs.declared.heads.Head.TheVariants.{Number, Name}
use Rattle.and_unify.specs.declared.structures.Structure.{Structure}
use Rattle.and_unify.specs.Meeting.{AreOfOneShape}
use Rattle.and_unify.specs.Running.{arguments_of_both}
use Rattle.and_heads.specs.declared.parts.Part.{Part}

-- how many arguments there are
abbrev pub arguments_in : Head → ℕ
arguments_in (Number z) = 0
arguments_in (Name name count) = count

-- the structure as a reference
abbrev pub named_by : Structure → Ref
named_by s = Node s.node s.base

-- the two structures of a part
abbrev pub both_of : Part → Pair
both_of part = record { left = named_by part.left; right = named_by part.right }

-- the pairs of the arguments of the parts
abbrev pub arguments_of_parts : NamedProgram → List Part → List Pair
arguments_of_parts P parts = flat_map (λ (part : Part). arguments_of_both P (both_of part)) parts

-- the structures of the part have one name and number of arguments
abbrev pub HasShape : NamedProgram → (words : ℕ) → Part → Type 0
HasShape P words part = AreOfOneShape P words (named_by part.left) (named_by part.right)

-- The two references are one, or they are put at the end of a list of parts.
abbrev pub Puts : (one other : Ref) → (old new : List Part) → Type 0
Puts one other old new = ((one ≡ other) × (is_half one ≡ false) × (new ≡ old))
    ⊎ ((part : Part) × (one ≡ named_by part.left) × (other ≡ named_by part.right) × (new ≡ old ++ part ∷ []))
