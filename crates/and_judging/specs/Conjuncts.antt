-- What the parts of a draft are as conjuncts of its body.
use Rattle.std.specs.Prelude.{ℕ, ◌+◌, cond, nat_eq, List, [], ◌∷◌, get_or, Option, Some, None}
use Rattle.and_model.specs.Lines.{Bytes}
use Rattle.and_syntax.specs.Written.{place}
use Rattle.and_drafts.specs.Parts.{PartShape, variable, integer, compound}
use Rattle.and_program.specs.declared.item.ItemNode.TheVariants.{Call, Equal, Is, Compare, Fail}
use Rattle.and_judging.specs.declared.items.Conjunct.{Conjunct}
use Rattle.and_judging.specs.declared.items.Conjunct.TheVariants.{Both, Either, Nothing, Item, Refused}
use Rattle.and_model.specs.declared.relation.Relation.{Relation}
use Rattle.and_model.specs.declared.relation.Relation.TheVariants.{Less, Greater, AtMost, AtLeast, Same, Differs}
use Rattle.and_model.specs.declared.builtins.TheConstants.{AT_LEAST, AT_MOST, CONJUNCTION, CUT, DIFFERS, DISJUNCTION}
use Rattle.and_model.specs.declared.builtins.TheConstants.{EQUAL, FAIL, GREATER, IF_THEN, IS, LESS, NOT_PROVABLE}
use Rattle.and_model.specs.declared.builtins.TheConstants.{SAME, TRUE}

-- a call of the term of a node
abbrev pub call_of : ℕ → Conjunct
call_of n = Item (Call (record { 0 = n }))

-- an atom as a conjunct
abbrev pub atom_conjunct : ℕ → ℕ → Conjunct
atom_conjunct c n = cond (nat_eq c TRUE) Nothing
    (cond (nat_eq c FAIL) (Item Fail) (cond (nat_eq c CUT) Refused (call_of n)))

-- a name with one argument as a conjunct
abbrev pub unary_conjunct : ℕ → ℕ → Conjunct
unary_conjunct c n = cond (nat_eq c NOT_PROVABLE) Refused (call_of n)

-- the relation of a comparison's name
abbrev pub relation_named : ℕ → Option Relation
relation_named c =
    cond (nat_eq c LESS) (Some Less)
    (cond (nat_eq c GREATER) (Some Greater)
    (cond (nat_eq c AT_MOST) (Some AtMost)
    (cond (nat_eq c AT_LEAST) (Some AtLeast)
    (cond (nat_eq c SAME) (Some Same)
    (cond (nat_eq c DIFFERS) (Some Differs) None)))))

-- a comparison of the terms of two nodes, where there is a relation
abbrev pub compared_or : Option Relation → ℕ → ℕ → Conjunct → Conjunct
compared_or None l r other = other
compared_or (Some o) l r other = Item (Compare o (record { 0 = l }) (record { 0 = r }))

-- a name with two arguments that is neither `,` nor `;` nor a built-in goal
abbrev pub other_conjunct : ℕ → ℕ → Conjunct
other_conjunct c n = cond (nat_eq c IF_THEN) Refused (call_of n)

-- a name with two arguments, whose nodes have n others before them
abbrev pub binary_conjunct : ℕ → ℕ → ℕ → ℕ → ℕ → Conjunct
binary_conjunct c l r n base =
    cond (nat_eq c CONJUNCTION) (Both l r)
    (cond (nat_eq c DISJUNCTION) (Either l r)
    (cond (nat_eq c EQUAL) (Item (Equal (record { 0 = base + l }) (record { 0 = base + r })))
    (cond (nat_eq c IS) (Item (Is (record { 0 = base + l }) (record { 0 = base + r }) 0))
    (compared_or (relation_named c) (base + l) (base + r) (other_conjunct c n)))))

-- a name with arguments as a conjunct, whose node is n
abbrev pub conjunct_of : ℕ → List ℕ → ℕ → ℕ → Conjunct
conjunct_of c [] n base = atom_conjunct c n
conjunct_of c (a ∷ []) n base = unary_conjunct c n
conjunct_of c (a ∷ b ∷ []) n base = binary_conjunct c a b n base
conjunct_of c (a ∷ b ∷ d ∷ ns) n base = call_of n

-- a part as a conjunct, whose node is n
abbrev pub shape_conjunct : List Bytes → PartShape → ℕ → ℕ → Conjunct
shape_conjunct names (variable x) n base = Refused
shape_conjunct names (integer z) n base = Refused
shape_conjunct names (compound c ns) n base = conjunct_of (place c names) ns n base

-- the part of that number as a conjunct, where the nodes of parts have `base` others before them
abbrev pub conjunct_at : List Bytes → List PartShape → ℕ → ℕ → Conjunct
conjunct_at names ps base n = shape_conjunct names (get_or ps n (variable [])) (base + n) base
