-- From a term to a clause: its head and its body, and which terms are none (Lloyd, sections 2 and 18, for pure clauses
-- and for bodies with disjunctions; ISO 13211-1, section 7.6, for what is left out).
use Rattle.std.specs.Prelude.{ℕ, suc, ◌+◌, Bool, true, false, ◌||◌, cond, Option, Some, None, nat_eq}
use Rattle.and_model.specs.Terms.{Term, variable, number, compound, none, more, width}
use Rattle.and_model.specs.Arithmetic.{Relation, less, greater, at_most, at_least, same, differs}
use Rattle.and_model.specs.Programs.{Item, call, equal, arithmetic, fail, is, compare}
use Rattle.and_source.specs.Source
use Rattle.and_source.specs.Source.{SourceItems, no_items, plain, Alternatives, no_alternatives, alternative}
use Rattle.and_model.specs.declared.builtins.TheConstants.{AT_LEAST, AT_MOST, CONJUNCTION, CUT, DIFFERS, DISJUNCTION}
use Rattle.and_model.specs.declared.builtins.TheConstants.{EQUAL, FAIL}
use Rattle.and_model.specs.declared.builtins.TheConstants.{GREATER, IF_THEN, IS, LESS, NECK, NOT_PROVABLE, SAME, TRUE}

mutual
  -- The parts of a body, in order: an item, something that a pure program does not have, or a disjunction.
  pub data Parts : Type 0 where
    no_parts : Parts
    item : Item → Parts → Parts
    impure : Parts → Parts
    either : Choices → Parts → Parts

  -- the alternatives of a disjunction, in order
  pub data Choices : Type 0 where
    no_choices : Choices
    choice : Parts → Choices → Choices

-- the parts of the one, and then those of the other
abbrev pub joined : Parts → Parts → Parts
joined no_parts qs = qs
joined (item i ps) qs = item i (joined ps qs)
joined (impure ps) qs = impure (joined ps qs)
joined (either cs ps) qs = either cs (joined ps qs)

-- What a term is: its parts as a body, and the alternatives that it is as the last operand of `;`.
pub record Reading : Type 0 where
  pub body : Parts
  pub last : Choices

-- what is no disjunction is one alternative
abbrev pub alone : Parts → Reading
alone ps = record { body = ps; last = choice ps no_choices }

-- a disjunction is one part, and goes on with these alternatives
abbrev pub disjoined : Choices → Reading
disjoined cs = record { body = either cs no_parts; last = cs }

-- an atom as a body
abbrev pub atom_parts : ℕ → Parts
atom_parts c =
    cond (nat_eq c TRUE) no_parts
    (cond (nat_eq c FAIL) (item fail no_parts)
    (cond (nat_eq c CUT) (impure no_parts) (item (call (compound c none)) no_parts)))

-- a name with one argument as a body
abbrev pub unary_part : ℕ → Term → Parts
unary_part c a = cond (nat_eq c NOT_PROVABLE) (impure no_parts) (item (call (compound c (more a none))) no_parts)

-- the relation of a comparison's name
abbrev pub relation_of : ℕ → Option Relation
relation_of c =
    cond (nat_eq c LESS) (Some less)
    (cond (nat_eq c GREATER) (Some greater)
    (cond (nat_eq c AT_MOST) (Some at_most)
    (cond (nat_eq c AT_LEAST) (Some at_least)
    (cond (nat_eq c SAME) (Some same)
    (cond (nat_eq c DIFFERS) (Some differs) None)))))

abbrev pub compare_or : Option Relation → Term → Term → Parts → Parts
compare_or None a b ps = ps
compare_or (Some r) a b ps = item (arithmetic (compare r a b)) no_parts

-- a name with two arguments, other than `,` and `;`, as a body
abbrev pub binary_part : ℕ → Term → Term → Parts
binary_part c a b =
    cond (nat_eq c EQUAL) (item (equal a b) no_parts)
    (cond (nat_eq c IS) (item (arithmetic (is a b)) no_parts)
    (compare_or (relation_of c) a b
    (cond (nat_eq c IF_THEN) (impure no_parts) (item (call (compound c (more a (more b none)))) no_parts))))

-- two arguments, read as x and y: `,` joins the parts of both, and `;` has the alternative x before those of y
abbrev pub binary_reading : ℕ → Term → Term → Reading → Reading → Reading
binary_reading c a b x y =
    cond (nat_eq c CONJUNCTION) (alone (joined x.body y.body))
    (cond (nat_eq c DISJUNCTION) (disjoined (choice x.body y.last)) (alone (binary_part c a b)))

abbrev pub reading_of : Term → Reading
reading_of (variable q k) = alone (impure no_parts)
reading_of (number z) = alone (impure no_parts)
reading_of (compound c none) = alone (atom_parts c)
reading_of (compound c (more a none)) = alone (unary_part c a)
reading_of (compound c (more a (more b none))) = binary_reading c a b (reading_of a) (reading_of b)
reading_of (compound c (more a (more b (more d ts)))) =
    alone (item (call (compound c (more a (more b (more d ts))))) no_parts)

-- the parts of a body
abbrev pub parts_of : Term → Parts
parts_of t = (reading_of t).body

abbrev mutual
  -- something in it is refused as not pure, at any depth
  pub is_refused : Parts → Bool
  is_refused no_parts = false
  is_refused (item i ps) = is_refused ps
  is_refused (impure ps) = true
  is_refused (either cs ps) = is_refused_in cs || is_refused ps

  pub is_refused_in : Choices → Bool
  is_refused_in no_choices = false
  is_refused_in (choice ps cs) = is_refused ps || is_refused_in cs

abbrev mutual
  -- how many alternatives there are, at any depth
  pub alternatives_of : Parts → ℕ
  alternatives_of no_parts = 0
  alternatives_of (item i ps) = alternatives_of ps
  alternatives_of (impure ps) = alternatives_of ps
  alternatives_of (either cs ps) = alternatives_in cs + alternatives_of ps

  pub alternatives_in : Choices → ℕ
  alternatives_in no_choices = 0
  alternatives_in (choice ps cs) = suc (alternatives_of ps + alternatives_in cs)

abbrev mutual
  -- how many disjunctions there are, at any depth
  pub disjunctions_of : Parts → ℕ
  disjunctions_of no_parts = 0
  disjunctions_of (item i ps) = disjunctions_of ps
  disjunctions_of (impure ps) = disjunctions_of ps
  disjunctions_of (either cs ps) = suc (disjunctions_within cs + disjunctions_of ps)

  pub disjunctions_within : Choices → ℕ
  disjunctions_within no_choices = 0
  disjunctions_within (choice ps cs) = disjunctions_of ps + disjunctions_within cs

-- Disjunction d has the name of that number.
module _ (name : ℕ → ℕ) where
  abbrev mutual
    -- The items of a body, where c is the next number of an alternative and d that of a disjunction. Numbers go in
    -- preorder: an outer one before those inside it. (What is not pure is left out: a body with it is refused.)
    pub numbered : (c d : ℕ) → Parts → SourceItems
    numbered c d no_parts = no_items
    numbered c d (item i ps) = plain i (numbered c d ps)
    numbered c d (impure ps) = numbered c d ps
    numbered c d (either cs ps) =
        Source.either (name d) (numbered_in c (suc d) cs)
        (numbered (c + alternatives_in cs) (suc (d + disjunctions_within cs)) ps)

    pub numbered_in : (c d : ℕ) → Choices → Alternatives
    numbered_in c d no_choices = no_alternatives
    numbered_in c d (choice ps cs) =
        alternative c (numbered (suc c) d ps) (numbered_in (suc (c + alternatives_of ps)) (d + disjunctions_of ps) cs)

-- A term is a head with a body where it is `:-` with two arguments, and else a head alone.
abbrev pub head_of : Term → Term
head_of (variable q k) = variable q k
head_of (number z) = number z
head_of (compound c none) = compound c none
head_of (compound c (more a none)) = compound c (more a none)
head_of (compound c (more a (more b none))) = cond (nat_eq c NECK) a (compound c (more a (more b none)))
head_of (compound c (more a (more b (more d ts)))) = compound c (more a (more b (more d ts)))

abbrev pub body_of : Term → Parts
body_of (variable q k) = no_parts
body_of (number z) = no_parts
body_of (compound c none) = no_parts
body_of (compound c (more a none)) = no_parts
body_of (compound c (more a (more b none))) = cond (nat_eq c NECK) (parts_of b) no_parts
body_of (compound c (more a (more b (more d ts)))) = no_parts

-- the one argument of a query, `?-`
abbrev pub asked_of : Term → Parts
asked_of (variable q k) = no_parts
asked_of (number z) = no_parts
asked_of (compound c none) = no_parts
asked_of (compound c (more b none)) = parts_of b
asked_of (compound c (more a (more b ts))) = no_parts

-- a head has a name
abbrev pub is_named : Term → Bool
is_named (variable q k) = false
is_named (number z) = false
is_named (compound c ts) = true

-- the name and number of arguments of a head
abbrev pub name_of : Term → ℕ
name_of (variable q k) = 0
name_of (number z) = 0
name_of (compound c ts) = c

abbrev pub arity_of : Term → ℕ
arity_of (variable q k) = 0
arity_of (number z) = 0
arity_of (compound c ts) = width ts

-- what already means something else, by name and number of arguments
abbrev pub is_built_in : ℕ → ℕ → Bool
is_built_in c n =
    cond (nat_eq n 0) (nat_eq c TRUE || nat_eq c FAIL || nat_eq c CUT)
    (cond (nat_eq n 1) (nat_eq c NOT_PROVABLE)
    (cond (nat_eq n 2) (nat_eq c CONJUNCTION || nat_eq c EQUAL || nat_eq c IS || nat_eq c LESS || nat_eq c GREATER
    || nat_eq c AT_MOST || nat_eq c AT_LEAST || nat_eq c SAME || nat_eq c DIFFERS || nat_eq c DISJUNCTION
    || nat_eq c IF_THEN) false))
