-- The clause of a written term names its own variables alone.
use Rattle.std.proofs.Common.{ℕ, suc, ◌+◌, ◌≡◌, ◌<◌, ◌≤◌, ◌||◌, Bool, true, false, not, cond, List, [], ◌∷◌, ◌++◌, length}
use Rattle.std.proofs.Common.{refl, arith, Option, Some, None}
use Rattle.std.specs.Prelude.{All, codes, flat_map, nat_eq}
use Rattle.std.specs.Str.{bytes_eq}
use Rattle.std.proofs.lemmas.List.{length-append}
use Rattle.std.proofs.lemmas.List.Elements.{All-nil, All-cons, All-append}
use Rattle.and_model.specs.Terms
use Rattle.and_model.specs.Terms.{Path, Term, Terms, variables_of, variables_in}
use Rattle.and_model.specs.Arithmetic.{Relation}
use Rattle.and_model.specs.Lines.{Bytes}
use Rattle.and_model.specs.Programs.{Item, call, equal, arithmetic, fail}
use Rattle.and_model.specs.Stands.{item_term}
use Rattle.and_model.specs.OwnVariables.{IsOwn, AreOwn}
use Rattle.and_model.specs.declared.builtins.TheConstants.{CONJUNCTION, CUT, DISJUNCTION, EQUAL, FAIL}
use Rattle.and_model.specs.declared.builtins.TheConstants.{IF_THEN, IS, NECK, NOT_PROVABLE, TRUE}
use Rattle.and_model.proofs.OwnVariables.{more_own, first_own, others_own}
use Rattle.and_syntax.specs.Written
use Rattle.and_syntax.specs.Written.{Written, Many, has, place, is_new, met_after, met_after_all, variable_number, term_in, terms_in}
use Rattle.and_syntax.specs.Clauses
use Rattle.and_syntax.specs.Clauses.{Parts, no_parts, item, impure, Choices, no_choices, choice, Reading, joined, alone, disjoined}
use Rattle.and_syntax.specs.Clauses.{atom_parts, unary_part, binary_part, binary_reading, compare_or, relation_of, reading_of, parts_of}
use Rattle.and_syntax.specs.Clauses.{alternatives_of, alternatives_in, disjunctions_of, disjunctions_within, numbered, numbered_in}
use Rattle.and_syntax.specs.Clauses.{head_of, body_of, asked_of}
use Rattle.and_syntax.specs.Tables.{clause_of}
use Rattle.and_source.specs.Source.{variables_of_items, variables_of_alternatives, HasOwnSourceVariables}

-- The number of a name that is there is below how many there are,
pub place-below : (x : Bytes) (xs : List Bytes) → has x xs ≡ true → place x xs < length xs
place-below x [] e = absurd cc
place-below x (y ∷ xs) e =
    let P : Bool → Type 0 = λ b. b || has x xs ≡ true → cond (not b) (1 + place x xs) 0 < suc (length xs) in
    elim (bytes_eq x y) as P [ true ↦ λ h. omega arith | false ↦ λ h. omega (arith, place-below x xs h) ] e

known : (a b : Bool) → a || not b ≡ false → b ≡ true
known true b e = absurd cc
known false true e = refl
known false false e = absurd cc

-- and that of a variable where it occurs is below how many were met, it among them.
pub variable_number-below : (x : Bytes) (met : List Bytes) → variable_number x met < length (met_after met (Written.variable x))
variable_number-below x met =
    let P : Bool → Type 0 = λ b. is_new x met ≡ b → cond b (length met) (place x met) < length (cond b (met ++ x ∷ []) met) in
    elim (is_new x met) as P [
      | true ↦ λ e. omega (arith, length-append met (x ∷ []))
      | false ↦ λ e. place-below x met (known (bytes_eq x (codes "_")) (has x met) e)
    ] refl

-- no fewer are met than were before
met-longer : (b : Bool) (x : Bytes) (met : List Bytes) → length met ≤ length (cond b (met ++ x ∷ []) met)
met-longer true x met = omega (arith, length-append met (x ∷ []))
met-longer false x met = omega arith

mutual
  met_after-longer : (met : List Bytes) (w : Written) → length met ≤ length (met_after met w)
  met_after-longer met (Written.variable x) = met-longer (is_new x met) x met
  met_after-longer met (Written.integer z) = omega arith
  met_after-longer met (Written.compound c ts) = met_after_all-longer met ts

  met_after_all-longer : (met : List Bytes) (ts : Many) → length met ≤ length (met_after_all met ts)
  met_after_all-longer met Written.none = omega arith
  met_after_all-longer met (Written.more t ts) = omega (arith, met_after-longer met t, met_after_all-longer (met_after met t) ts)

mutual
  -- a term's variables are among those that were met after it
  term_own : (names met : List Bytes) (w : Written) → AreOwn (length (met_after met w)) (term_in names met w)
  term_own names met (Written.variable x) =
      let n : ℕ = length (met_after met (Written.variable x)) in
      All-cons (IsOwn n) ([], variable_number x met) [] (refl, variable_number-below x met) (All-nil (IsOwn n))
  term_own names met (Written.integer z) = All-nil (IsOwn (length met))
  term_own names met (Written.compound c ts) = terms_own names met ts

  terms_own : (names met : List Bytes) (ts : Many) → All (IsOwn (length (met_after_all met ts))) (variables_in (terms_in names met ts))
  terms_own names met Written.none = All-nil (IsOwn (length met))
  terms_own names met (Written.more t ts) =
      let now : List Bytes = met_after met t in
      let n : ℕ = length (met_after_all now ts) in
      let first : Term = term_in names met t in
      All-append (IsOwn n) (variables_of first) (variables_in (terms_in names now ts))
      (more_own (length now) n first (met_after_all-longer now ts) (term_own names met t)) (terms_own names now ts)

abbrev mutual
  -- the parts of a body name no variables but the first n
  OwnParts : ℕ → Parts → Type 0
  OwnParts n no_parts = Unit {0}
  OwnParts n (item i ps) = AreOwn n (item_term i) × OwnParts n ps
  OwnParts n (impure ps) = OwnParts n ps
  OwnParts n (Clauses.either cs ps) = OwnChoices n cs × OwnParts n ps

  OwnChoices : ℕ → Choices → Type 0
  OwnChoices n no_choices = Unit {0}
  OwnChoices n (choice ps cs) = OwnParts n ps × OwnChoices n cs

abbrev OwnReading : ℕ → Reading → Type 0
OwnReading n r = OwnParts n r.body × OwnChoices n r.last

joined_own : (n : ℕ) (ps qs : Parts) → OwnParts n ps → OwnParts n qs → OwnParts n (joined ps qs)
joined_own n no_parts qs a b = b
joined_own n (item i ps) qs a b = (a.0, joined_own n ps qs a.1 b)
joined_own n (impure ps) qs a b = joined_own n ps qs a b
joined_own n (Clauses.either cs ps) qs a b = (a.0, joined_own n ps qs a.1 b)

alone_own : (n : ℕ) (ps : Parts) → OwnParts n ps → OwnReading n (alone ps)
alone_own n ps a = (a, (a, tt))

-- a choice of two
chosen : {X : Type 0} (P : X → Type 0) (b : Bool) (x y : X) → P x → P y → P (cond b x y)
chosen P true x y a b = a
chosen P false x y a b = b

compared : (n : ℕ) (r : Option Relation) (a b : Term) (ps : Parts) → All (IsOwn n) (variables_in (Terms.more a (Terms.more b Terms.none))) → OwnParts n ps
    → OwnParts n (compare_or r a b ps)
compared n None a b ps both h = h
compared n (Some r) a b ps both h = (both, tt)

binary_own : (n c : ℕ) (a b : Term) → All (IsOwn n) (variables_in (Terms.more a (Terms.more b Terms.none))) → OwnParts n (binary_part c a b)
binary_own n c a b both =
    let called : Parts = item (call (Terms.compound c (Terms.more a (Terms.more b Terms.none)))) no_parts in
    let other : Parts = cond (nat_eq c IF_THEN) (impure no_parts) called in
    chosen (OwnParts n) (nat_eq c EQUAL) _ _ (both, tt)
    (chosen (OwnParts n) (nat_eq c IS) _ _ (both, tt)
    (compared n (relation_of c) a b other both
    (chosen (OwnParts n) (nat_eq c IF_THEN) (impure no_parts) called tt (both, tt))))

atom_own : (n c : ℕ) → OwnParts n (atom_parts c)
atom_own n c =
    let none = All-nil (IsOwn n) in
    chosen (OwnParts n) (nat_eq c TRUE) _ _ tt
    (chosen (OwnParts n) (nat_eq c FAIL) _ _ (none, tt)
    (chosen (OwnParts n) (nat_eq c CUT) _ _ tt (none, tt)))

binary_reading_own : (n c : ℕ) (a b : Term) (x y : Reading) → All (IsOwn n) (variables_in (Terms.more a (Terms.more b Terms.none)))
    → OwnReading n x → OwnReading n y → OwnReading n (binary_reading c a b x y)
binary_reading_own n c a b x y both left right =
    let P : Reading → Type 0 = λ r. OwnReading n r in
    let joint = joined_own n x.body y.body left.0 right.0 in
    let single = binary_own n c a b both in
    chosen P (nat_eq c CONJUNCTION) _ _ (joint, (joint, tt))
    (chosen P (nat_eq c DISJUNCTION) _ _ (((left.0, right.1), tt), (left.0, right.1)) (single, (single, tt)))

-- the parts of a body
reading_own : (n : ℕ) (t : Term) → AreOwn n t → OwnReading n (reading_of t)
reading_own n (Terms.variable q k) own = (tt, (tt, tt))
reading_own n (Terms.number z) own = (tt, (tt, tt))
reading_own n (Terms.compound c Terms.none) own = alone_own n (atom_parts c) (atom_own n c)
reading_own n (Terms.compound c (Terms.more a Terms.none)) own =
    alone_own n (unary_part c a) (chosen (OwnParts n) (nat_eq c NOT_PROVABLE) _ _ tt (own, tt))
reading_own n (Terms.compound c (Terms.more a (Terms.more b Terms.none))) own =
    let left : AreOwn n a = first_own n a (Terms.more b Terms.none) own in
    let right : AreOwn n b = first_own n b Terms.none (others_own n a (Terms.more b Terms.none) own) in
    binary_reading_own n c a b (reading_of a) (reading_of b) own (reading_own n a left) (reading_own n b right)
reading_own n (Terms.compound c (Terms.more a (Terms.more b (Terms.more d ts)))) own = ((own, tt), ((own, tt), tt))

parts_own : (n : ℕ) (t : Term) → AreOwn n t → OwnParts n (parts_of t)
parts_own n t own = (reading_own n t own).0

-- a head and a body
head_own : (n : ℕ) (t : Term) → AreOwn n t → AreOwn n (head_of t)
head_own n (Terms.variable q k) own = own
head_own n (Terms.number z) own = own
head_own n (Terms.compound c Terms.none) own = own
head_own n (Terms.compound c (Terms.more a Terms.none)) own = own
head_own n (Terms.compound c (Terms.more a (Terms.more b Terms.none))) own =
    chosen (AreOwn n) (nat_eq c NECK) _ _ (first_own n a (Terms.more b Terms.none) own) own
head_own n (Terms.compound c (Terms.more a (Terms.more b (Terms.more d ts)))) own = own

body_own : (n : ℕ) (t : Term) → AreOwn n t → OwnParts n (body_of t)
body_own n (Terms.variable q k) own = tt
body_own n (Terms.number z) own = tt
body_own n (Terms.compound c Terms.none) own = tt
body_own n (Terms.compound c (Terms.more a Terms.none)) own = tt
body_own n (Terms.compound c (Terms.more a (Terms.more b Terms.none))) own =
    let right : AreOwn n b = first_own n b Terms.none (others_own n a (Terms.more b Terms.none) own) in
    chosen (OwnParts n) (nat_eq c NECK) (parts_of b) no_parts (parts_own n b right) tt
body_own n (Terms.compound c (Terms.more a (Terms.more b (Terms.more d ts)))) own = tt

-- the body of a query
asked_own : (n : ℕ) (t : Term) → AreOwn n t → OwnParts n (asked_of t)
asked_own n (Terms.variable q k) own = tt
asked_own n (Terms.number z) own = tt
asked_own n (Terms.compound c Terms.none) own = tt
asked_own n (Terms.compound c (Terms.more b Terms.none)) own = parts_own n b (first_own n b Terms.none own)
asked_own n (Terms.compound c (Terms.more a (Terms.more b ts))) own = tt

mutual
  -- the terms of the items
  items_own : (name : ℕ → ℕ) (n c d : ℕ) (ps : Parts) → OwnParts n ps → All (IsOwn n) (variables_of_items (numbered name c d ps))
  items_own name n c d no_parts own = All-nil (IsOwn n)
  items_own name n c d (item i ps) own =
      All-append (IsOwn n) (variables_of (item_term i)) (variables_of_items (numbered name c d ps)) own.0 (items_own name n c d ps own.1)
  items_own name n c d (impure ps) own = items_own name n c d ps own
  items_own name n c d (Clauses.either cs ps) own =
      let m : ℕ = c + alternatives_in cs in
      let e : ℕ = suc (d + disjunctions_within cs) in
      All-append (IsOwn n) (variables_of_alternatives (numbered_in name c (suc d) cs)) (variables_of_items (numbered name m e ps))
      (alternatives_own name n c (suc d) cs own.0) (items_own name n m e ps own.1)

  alternatives_own : (name : ℕ → ℕ) (n c d : ℕ) (cs : Choices) → OwnChoices n cs → All (IsOwn n) (variables_of_alternatives (numbered_in name c d cs))
  alternatives_own name n c d no_choices own = All-nil (IsOwn n)
  alternatives_own name n c d (choice ps cs) own =
      let m : ℕ = suc (c + alternatives_of ps) in
      let e : ℕ = d + disjunctions_of ps in
      All-append (IsOwn n) (variables_of_items (numbered name (suc c) d ps)) (variables_of_alternatives (numbered_in name m e cs))
      (items_own name n (suc c) d ps own.0) (alternatives_own name n m e cs own.1)

-- The clause of a term, under any names and with any numbers,
pub clause_own : (names : List Bytes) (name : ℕ → ℕ) (w : Written) (number line c d : ℕ)
    → let t = term_in names [] w in HasOwnSourceVariables (clause_of number w line (head_of t) (numbered name c d (body_of t)))
clause_own names name w number line c d =
    let n : ℕ = length (met_after [] w) in
    let t : Term = term_in names [] w in
    let own : AreOwn n t = term_own names [] w in
    (head_own n t own, items_own name n c d (body_of t) (body_own n t own))

-- and the query.
pub query_own : (names : List Bytes) (name : ℕ → ℕ) (w : Written) (number line c d : ℕ)
    → HasOwnSourceVariables (clause_of number w line (Terms.compound TRUE Terms.none) (numbered name c d (asked_of (term_in names [] w))))
query_own names name w number line c d =
    let n : ℕ = length (met_after [] w) in
    let t : Term = term_in names [] w in
    (All-nil (IsOwn n), items_own name n c d (asked_of t) (asked_own n t (term_own names [] w)))
