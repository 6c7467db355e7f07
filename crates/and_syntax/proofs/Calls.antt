-- The heads and calls of a clause have the names that its term has.
use Rattle.std.proofs.Common.{ℕ, suc, ◌+◌, Bool, true, false, cond, List, Option, Some, None}
use Rattle.std.specs.Prelude.{All, nat_eq}
use Rattle.std.proofs.lemmas.List.Elements.{All-nil, All-cons, All-append}
use Rattle.and_model.specs.Lines.{Bytes}
use Rattle.and_model.specs.Terms
use Rattle.and_model.specs.Terms.{Term, Terms}
use Rattle.and_model.specs.Arithmetic.{Relation}
use Rattle.and_model.specs.Programs.{Item, call, equal, arithmetic, fail}
use Rattle.and_model.specs.declared.builtins.TheConstants.{CONJUNCTION, CUT, DISJUNCTION, EQUAL, FAIL, IF_THEN, IS, NECK, NOT_PROVABLE, TRUE}
use Rattle.and_source.specs.Source.{calls_in_items, calls_in_alternatives}
use Rattle.and_syntax.specs.Clauses
use Rattle.and_syntax.specs.Clauses.{Parts, no_parts, item, impure, Choices, no_choices, choice, Reading, joined, alone}
use Rattle.and_syntax.specs.Clauses.{atom_parts, unary_part, binary_part, binary_reading, compare_or, relation_of, reading_of, parts_of}
use Rattle.and_syntax.specs.Clauses.{alternatives_of, alternatives_in, disjunctions_of, disjunctions_within, numbered, numbered_in}
use Rattle.and_syntax.specs.Clauses.{head_of, body_of, asked_of}
use Rattle.and_syntax.proofs.Names.{HasWritten}

-- a call has names of these
abbrev IsWrittenItem : List Bytes → Item → Type 0
IsWrittenItem names (call g) = HasWritten names g
IsWrittenItem names (equal a b) = Unit {0}
IsWrittenItem names (arithmetic a) = Unit {0}
IsWrittenItem names fail = Unit {0}

abbrev mutual
  WrittenParts : List Bytes → Parts → Type 0
  WrittenParts names no_parts = Unit {0}
  WrittenParts names (item i ps) = IsWrittenItem names i × WrittenParts names ps
  WrittenParts names (impure ps) = WrittenParts names ps
  WrittenParts names (Clauses.either cs ps) = WrittenChoices names cs × WrittenParts names ps

  WrittenChoices : List Bytes → Choices → Type 0
  WrittenChoices names no_choices = Unit {0}
  WrittenChoices names (choice ps cs) = WrittenParts names ps × WrittenChoices names cs

abbrev WrittenReading : List Bytes → Reading → Type 0
WrittenReading names r = WrittenParts names r.body × WrittenChoices names r.last

joined_written : (names : List Bytes) (ps qs : Parts) → WrittenParts names ps → WrittenParts names qs → WrittenParts names (joined ps qs)
joined_written names no_parts qs a b = b
joined_written names (item i ps) qs a b = (a.0, joined_written names ps qs a.1 b)
joined_written names (impure ps) qs a b = joined_written names ps qs a b
joined_written names (Clauses.either cs ps) qs a b = (a.0, joined_written names ps qs a.1 b)

alone_written : (names : List Bytes) (ps : Parts) → WrittenParts names ps → WrittenReading names (alone ps)
alone_written names ps a = (a, (a, tt))

-- a choice of two
chosen : {X : Type 0} (P : X → Type 0) (b : Bool) (x y : X) → P x → P y → P (cond b x y)
chosen P true x y a b = a
chosen P false x y a b = b

compared : (names : List Bytes) (r : Option Relation) (a b : Term) (ps : Parts) → WrittenParts names ps → WrittenParts names (compare_or r a b ps)
compared names None a b ps h = h
compared names (Some r) a b ps h = (tt, tt)

binary_written : (names : List Bytes) (c : ℕ) (a b : Term) → HasWritten names (Terms.compound c (Terms.more a (Terms.more b Terms.none)))
    → WrittenParts names (binary_part c a b)
binary_written names c a b whole =
    let P : Parts → Type 0 = WrittenParts names in
    let called : Parts = item (call (Terms.compound c (Terms.more a (Terms.more b Terms.none)))) no_parts in
    let other : Parts = cond (nat_eq c IF_THEN) (impure no_parts) called in
    chosen P (nat_eq c EQUAL) _ _ (tt, tt)
    (chosen P (nat_eq c IS) _ _ (tt, tt)
    (compared names (relation_of c) a b other (chosen P (nat_eq c IF_THEN) (impure no_parts) called tt (whole, tt))))

atom_written : (names : List Bytes) (c : ℕ) → HasWritten names (Terms.compound c Terms.none) → WrittenParts names (atom_parts c)
atom_written names c whole =
    let P : Parts → Type 0 = WrittenParts names in
    chosen P (nat_eq c TRUE) _ _ tt (chosen P (nat_eq c FAIL) _ _ (tt, tt) (chosen P (nat_eq c CUT) _ _ tt (whole, tt)))

binary_reading_written : (names : List Bytes) (c : ℕ) (a b : Term) (x y : Reading)
    → HasWritten names (Terms.compound c (Terms.more a (Terms.more b Terms.none)))
    → WrittenReading names x → WrittenReading names y → WrittenReading names (binary_reading c a b x y)
binary_reading_written names c a b x y whole left right =
    let P : Reading → Type 0 = WrittenReading names in
    let joint = joined_written names x.body y.body left.0 right.0 in
    let single = binary_written names c a b whole in
    chosen P (nat_eq c CONJUNCTION) _ _ (joint, (joint, tt))
    (chosen P (nat_eq c DISJUNCTION) _ _ (((left.0, right.1), tt), (left.0, right.1)) (single, (single, tt)))

reading_written : (names : List Bytes) (t : Term) → HasWritten names t → WrittenReading names (reading_of t)
reading_written names (Terms.variable q k) h = (tt, (tt, tt))
reading_written names (Terms.number z) h = (tt, (tt, tt))
reading_written names (Terms.compound c Terms.none) h = alone_written names (atom_parts c) (atom_written names c h)
reading_written names (Terms.compound c (Terms.more a Terms.none)) h =
    alone_written names (unary_part c a) (chosen (WrittenParts names) (nat_eq c NOT_PROVABLE) _ _ tt (h, tt))
reading_written names (Terms.compound c (Terms.more a (Terms.more b Terms.none))) h =
    binary_reading_written names c a b (reading_of a) (reading_of b) h (reading_written names a h.1.0) (reading_written names b h.1.1.0)
reading_written names (Terms.compound c (Terms.more a (Terms.more b (Terms.more d ts)))) h = ((h, tt), ((h, tt), tt))

-- a head and a body
pub head_written : (names : List Bytes) (t : Term) → HasWritten names t → HasWritten names (head_of t)
head_written names (Terms.variable q k) h = h
head_written names (Terms.number z) h = h
head_written names (Terms.compound c Terms.none) h = h
head_written names (Terms.compound c (Terms.more a Terms.none)) h = h
head_written names (Terms.compound c (Terms.more a (Terms.more b Terms.none))) h = chosen (HasWritten names) (nat_eq c NECK) _ _ h.1.0 h
head_written names (Terms.compound c (Terms.more a (Terms.more b (Terms.more d ts)))) h = h

body_written : (names : List Bytes) (t : Term) → HasWritten names t → WrittenParts names (body_of t)
body_written names (Terms.variable q k) h = tt
body_written names (Terms.number z) h = tt
body_written names (Terms.compound c Terms.none) h = tt
body_written names (Terms.compound c (Terms.more a Terms.none)) h = tt
body_written names (Terms.compound c (Terms.more a (Terms.more b Terms.none))) h =
    chosen (WrittenParts names) (nat_eq c NECK) (parts_of b) no_parts (reading_written names b h.1.1.0).0 tt
body_written names (Terms.compound c (Terms.more a (Terms.more b (Terms.more d ts)))) h = tt

-- the body of a query
asked_written : (names : List Bytes) (t : Term) → HasWritten names t → WrittenParts names (asked_of t)
asked_written names (Terms.variable q k) h = tt
asked_written names (Terms.number z) h = tt
asked_written names (Terms.compound c Terms.none) h = tt
asked_written names (Terms.compound c (Terms.more b Terms.none)) h = (reading_written names b h.1.0).0
asked_written names (Terms.compound c (Terms.more a (Terms.more b ts))) h = tt

mutual
  -- the calls of the items
  calls_written : (names : List Bytes) (name : ℕ → ℕ) (c d : ℕ) (ps : Parts) → WrittenParts names ps
      → All (HasWritten names) (calls_in_items (numbered name c d ps))
  calls_written names name c d no_parts h = All-nil (HasWritten names)
  calls_written names name c d (item (call g) ps) h =
      All-cons (HasWritten names) g (calls_in_items (numbered name c d ps)) h.0 (calls_written names name c d ps h.1)
  calls_written names name c d (item (equal a b) ps) h = calls_written names name c d ps h.1
  calls_written names name c d (item (arithmetic a) ps) h = calls_written names name c d ps h.1
  calls_written names name c d (item fail ps) h = calls_written names name c d ps h.1
  calls_written names name c d (impure ps) h = calls_written names name c d ps h
  calls_written names name c d (Clauses.either cs ps) h =
      let m : ℕ = c + alternatives_in cs in
      let e : ℕ = suc (d + disjunctions_within cs) in
      All-append (HasWritten names) (calls_in_alternatives (numbered_in name c (suc d) cs)) (calls_in_items (numbered name m e ps))
      (choices_written names name c (suc d) cs h.0) (calls_written names name m e ps h.1)

  choices_written : (names : List Bytes) (name : ℕ → ℕ) (c d : ℕ) (cs : Choices) → WrittenChoices names cs
      → All (HasWritten names) (calls_in_alternatives (numbered_in name c d cs))
  choices_written names name c d no_choices h = All-nil (HasWritten names)
  choices_written names name c d (choice ps cs) h =
      let m : ℕ = suc (c + alternatives_of ps) in
      let e : ℕ = d + disjunctions_of ps in
      All-append (HasWritten names) (calls_in_items (numbered name (suc c) d ps)) (calls_in_alternatives (numbered_in name m e cs))
      (calls_written names name (suc c) d ps h.0) (choices_written names name m e cs h.1)

pub body_calls : (names : List Bytes) (name : ℕ → ℕ) (c d : ℕ) (t : Term) → HasWritten names t
    → All (HasWritten names) (calls_in_items (numbered name c d (body_of t)))
body_calls names name c d t h = calls_written names name c d (body_of t) (body_written names t h)

pub asked_calls : (names : List Bytes) (name : ℕ → ℕ) (c d : ℕ) (t : Term) → HasWritten names t
    → All (HasWritten names) (calls_in_items (numbered name c d (asked_of t)))
asked_calls names name c d t h = calls_written names name c d (asked_of t) (asked_written names t h)
