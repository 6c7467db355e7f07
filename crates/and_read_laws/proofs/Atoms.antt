-- The clauses of a text's program, lifted too: their heads and calls are atoms, and each variable has a name.
use Rattle.std.proofs.Common.{ℕ, zero, suc, ◌≡◌, ◌+◌, ◌||◌, Bool, true, false, not, cond, List, [], ◌∷◌, ◌++◌, length, drop, get_or, refl, sym, subst, Option}
use Rattle.std.proofs.Common.{Some, None}
use Rattle.std.specs.Prelude.{nat_eq}
use Rattle.and_model.specs.Terms.{Term, variable, number, compound, none, more}
use Rattle.and_model.specs.Arithmetic.{Relation}
use Rattle.and_model.specs.Programs.{Program, Clause, Item, call, equal, arithmetic, fail, clause_at}
use Rattle.and_model.specs.Lines.{Bytes}
use Rattle.and_model.specs.declared.builtins.TheConstants.{CONJUNCTION, CUT, DISJUNCTION, EQUAL, FAIL}
use Rattle.and_model.specs.declared.builtins.TheConstants.{IF_THEN, IS, NECK, NOT_PROVABLE, TRUE}
use Rattle.and_source.specs.Source
use Rattle.and_source.specs.Source.{SourceItems, no_items, plain, Alternatives, no_alternatives, alternative, SourceClause, SourceProgram}
use Rattle.and_source.specs.Lifted.{Numbering, renumbered, lifted_items, lifted_clause, lifted_alternative, numbering_of}
use Rattle.and_source.specs.Lifted.{clauses_of_items, clauses_of_alternatives, clauses_of, lift}
use Rattle.and_syntax.specs.Written.{Written}
use Rattle.and_syntax.specs.Clauses
use Rattle.and_syntax.specs.Clauses.{Parts, no_parts, item, impure, Choices, no_choices, choice, Reading, joined, alone}
use Rattle.and_syntax.specs.Clauses.{atom_parts, unary_part, binary_part, binary_reading, compare_or, relation_of, reading_of, parts_of}
use Rattle.and_syntax.specs.Clauses.{alternatives_of, alternatives_in, disjunctions_of, disjunctions_within, numbered, numbered_in}
use Rattle.and_syntax.specs.Clauses.{is_refused, head_of, body_of, asked_of, is_named}
use Rattle.and_syntax.specs.Tables.{Fault, not_pure, first_of, Table, clause_faults, clause_fault, query_fault, next_clause, next_query, term_with}
use Rattle.and_language.specs.Refusals.{Reads, IsLiftedFrom}
use Rattle.and_language.proofs.EachClause.{OfEach, of_program}
use Rattle.and_sld.specs.Atoms.{IsAtom, AreAtoms, HasAtoms}

abbrev IsAtomItem : Item → Type 0
IsAtomItem (call g) = IsAtom g
IsAtomItem (equal a b) = Unit {0}
IsAtomItem (arithmetic a) = Unit {0}
IsAtomItem fail = Unit {0}

abbrev mutual
  -- the calls among the parts of a body are atoms
  AtomParts : Parts → Type 0
  AtomParts no_parts = Unit {0}
  AtomParts (item i ps) = IsAtomItem i × AtomParts ps
  AtomParts (impure ps) = AtomParts ps
  AtomParts (Clauses.either cs ps) = AtomChoices cs × AtomParts ps

  AtomChoices : Choices → Type 0
  AtomChoices no_choices = Unit {0}
  AtomChoices (choice ps cs) = AtomParts ps × AtomChoices cs

abbrev AtomReading : Reading → Type 0
AtomReading r = AtomParts r.body × AtomChoices r.last

joined_atoms : (ps qs : Parts) → AtomParts ps → AtomParts qs → AtomParts (joined ps qs)
joined_atoms no_parts qs a b = b
joined_atoms (item i ps) qs a b = (a.0, joined_atoms ps qs a.1 b)
joined_atoms (impure ps) qs a b = joined_atoms ps qs a b
joined_atoms (Clauses.either cs ps) qs a b = (a.0, joined_atoms ps qs a.1 b)

alone_atoms : (ps : Parts) → AtomParts ps → AtomReading (alone ps)
alone_atoms ps a = (a, (a, tt))

-- a choice of two
chosen : {X : Type 0} (P : X → Type 0) (b : Bool) (x y : X) → P x → P y → P (cond b x y)
chosen P true x y a b = a
chosen P false x y a b = b

compared : (r : Option Relation) (a b : Term) (ps : Parts) → AtomParts ps → AtomParts (compare_or r a b ps)
compared None a b ps h = h
compared (Some r) a b ps h = (tt, tt)

binary_atoms : (c : ℕ) (a b : Term) → AtomParts (binary_part c a b)
binary_atoms c a b =
    let called : Parts = item (call (compound c (more a (more b none)))) no_parts in
    let other : Parts = cond (nat_eq c IF_THEN) (impure no_parts) called in
    chosen AtomParts (nat_eq c EQUAL) _ _ (tt, tt)
    (chosen AtomParts (nat_eq c IS) _ _ (tt, tt)
    (compared (relation_of c) a b other (chosen AtomParts (nat_eq c IF_THEN) (impure no_parts) called tt (tt, tt))))

atom_atoms : (c : ℕ) → AtomParts (atom_parts c)
atom_atoms c =
    chosen AtomParts (nat_eq c TRUE) _ _ tt
    (chosen AtomParts (nat_eq c FAIL) _ _ (tt, tt) (chosen AtomParts (nat_eq c CUT) _ _ tt (tt, tt)))

reading_atoms : (t : Term) → AtomReading (reading_of t)
reading_atoms (variable q k) = (tt, (tt, tt))
reading_atoms (number z) = (tt, (tt, tt))
reading_atoms (compound c none) = alone_atoms (atom_parts c) (atom_atoms c)
reading_atoms (compound c (more a none)) = alone_atoms (unary_part c a) (chosen AtomParts (nat_eq c NOT_PROVABLE) _ _ tt (tt, tt))
reading_atoms (compound c (more a (more b none))) =
    let left = reading_atoms a in
    let right = reading_atoms b in
    let joint = joined_atoms (reading_of a).body (reading_of b).body left.0 right.0 in
    let single = binary_atoms c a b in
    chosen AtomReading (nat_eq c CONJUNCTION) _ _ (joint, (joint, tt))
    (chosen AtomReading (nat_eq c DISJUNCTION) _ _ (((left.0, right.1), tt), (left.0, right.1)) (single, (single, tt)))
reading_atoms (compound c (more a (more b (more d ts)))) = ((tt, tt), ((tt, tt), tt))

body_atoms : (t : Term) → AtomParts (body_of t)
body_atoms (variable q k) = tt
body_atoms (number z) = tt
body_atoms (compound c none) = tt
body_atoms (compound c (more a none)) = tt
body_atoms (compound c (more a (more b none))) = chosen AtomParts (nat_eq c NECK) (parts_of b) no_parts (reading_atoms b).0 tt
body_atoms (compound c (more a (more b (more d ts)))) = tt

asked_atoms : (t : Term) → AtomParts (asked_of t)
asked_atoms (variable q k) = tt
asked_atoms (number z) = tt
asked_atoms (compound c none) = tt
asked_atoms (compound c (more b none)) = (reading_atoms b).0
asked_atoms (compound c (more a (more b ts))) = tt

abbrev mutual
  -- and those among items
  AtomItems : SourceItems → Type 0
  AtomItems no_items = Unit {0}
  AtomItems (plain i items) = IsAtomItem i × AtomItems items
  AtomItems (Source.either name alts items) = AtomAlternatives alts × AtomItems items

  AtomAlternatives : Alternatives → Type 0
  AtomAlternatives no_alternatives = Unit {0}
  AtomAlternatives (alternative c items alts) = AtomItems items × AtomAlternatives alts

mutual
  items_atoms : (name : ℕ → ℕ) (c d : ℕ) (ps : Parts) → AtomParts ps → AtomItems (numbered name c d ps)
  items_atoms name c d no_parts a = tt
  items_atoms name c d (item i ps) a = (a.0, items_atoms name c d ps a.1)
  items_atoms name c d (impure ps) a = items_atoms name c d ps a
  items_atoms name c d (Clauses.either cs ps) a =
      (choices_atoms name c (suc d) cs a.0, items_atoms name (c + alternatives_in cs) (suc (d + disjunctions_within cs)) ps a.1)

  choices_atoms : (name : ℕ → ℕ) (c d : ℕ) (cs : Choices) → AtomChoices cs → AtomAlternatives (numbered_in name c d cs)
  choices_atoms name c d no_choices a = tt
  choices_atoms name c d (choice ps cs) a =
      (items_atoms name (suc c) d ps a.0, choices_atoms name (suc (c + alternatives_of ps)) (d + disjunctions_of ps) cs a.1)

-- A head that is not refused has a name.
named_atom : (h : Term) (b : Bool) (fs : List (Bool × Fault)) → first_of ((not (is_named h) || b, not_pure) ∷ fs) ≡ None → IsAtom h
named_atom (variable q k) b fs e = absurd (cc)
named_atom (number z) b fs e = absurd (cc)
named_atom (compound c ts) b fs e = tt

abbrev OfAtoms : SourceClause → Type 0
OfAtoms k = IsAtom k.head × AtomItems k.body

clause_atoms : (T : Table) (w : Written) (line : ℕ) → clause_fault T w ≡ None → OfAtoms (next_clause T w line)
clause_atoms T w line e = (
  named_atom (head_of (term_with T w)) (is_refused (body_of (term_with T w))) (drop 1 (clause_faults T w)) e,
  items_atoms _ _ _ (body_of (term_with T w)) (body_atoms (term_with T w)),
)

query_atoms : (T : Table) (w : Written) (line : ℕ) → query_fault T w ≡ None → OfAtoms (next_query T w line)
query_atoms T w line e = (tt, items_atoms _ _ _ (asked_of (term_with T w)) (asked_atoms (term_with T w)))

-- Lifted clauses have atoms.
abbrev IsOfAtoms : Clause → Type 0
IsOfAtoms k = IsAtom k.head × AreAtoms k.body

renumbered_atom : (new : Numbering) (t : Term) → IsAtom t → IsAtom (renumbered new t)
renumbered_atom new (variable q k) a = absurd a
renumbered_atom new (number z) a = absurd a
renumbered_atom new (compound c ts) a = tt

lifted_atoms : (new : Numbering) (items : SourceItems) → AtomItems items → AreAtoms (lifted_items new items)
lifted_atoms new no_items a = tt
lifted_atoms new (plain (call g) items) a = (renumbered_atom new g a.0, lifted_atoms new items a.1)
lifted_atoms new (plain (equal x y) items) a = lifted_atoms new items a.1
lifted_atoms new (plain (arithmetic x) items) a = lifted_atoms new items a.1
lifted_atoms new (plain fail items) a = lifted_atoms new items a.1
lifted_atoms new (Source.either name alts items) a = (tt, lifted_atoms new items a.1)

abbrev All : List Clause → Type 0
All [] = Unit {0}
All (k ∷ ks) = IsOfAtoms k × All ks

both : (ks js : List Clause) → All ks → All js → All (ks ++ js)
both [] js a b = b
both (k ∷ ks) js a b = (a.0, both ks js a.1 b)

mutual
  of_items : (k : SourceClause) (items : SourceItems) → AtomItems items → All (clauses_of_items k items)
  of_items k no_items a = tt
  of_items k (plain i items) a = of_items k items a.1
  of_items k (Source.either name alts items) a =
      both (clauses_of_alternatives k name alts alts) (clauses_of_items k items) (of_alternatives k name alts alts a.0) (of_items k items a.1)

  of_alternatives : (k : SourceClause) (name : ℕ) (alts others : Alternatives) → AtomAlternatives others → All (clauses_of_alternatives k name alts others)
  of_alternatives k name alts no_alternatives a = tt
  of_alternatives k name alts (alternative c items others) a = (
    (tt, lifted_atoms (numbering_of alts) items a.0),
    both (clauses_of_items k items) (clauses_of_alternatives k name alts others) (of_items k items a.0) (of_alternatives k name alts others a.1),
  )

clause_is : (k : SourceClause) → OfAtoms k → IsOfAtoms (lifted_clause k)
clause_is k a = (a.0, lifted_atoms (λ q n. n) k.body a.1)

of_clauses : (ks : List SourceClause) → OfEach OfAtoms ks → All (clauses_of ks)
of_clauses [] a = tt
of_clauses (k ∷ ks) a = (clause_is k a.0, both (clauses_of_items k k.body) (clauses_of ks) (of_items k k.body a.0.1) (of_clauses ks a.1))

of_nth : (ks : List Clause) (q : Clause) (c : ℕ) → All ks → IsOfAtoms q → IsOfAtoms (get_or ks c q)
of_nth [] q c a h = h
of_nth (k ∷ ks) q zero a h = a.0
of_nth (k ∷ ks) q (suc c) a h = of_nth ks q c a.1 h

lifted : (bytes : Bytes) (S : SourceProgram) → Reads bytes S → HasAtoms (lift S)
lifted bytes S r c =
    let a = of_program OfAtoms clause_atoms query_atoms bytes S r in
    let q : IsOfAtoms (lifted_clause S.query) = clause_is S.query a.1 in
    let first = of_clauses S.earlier a.0 in
    let asked = of_items S.query S.query.body a.1.1 in
    let last = of_clauses S.later a.2 in
    let all : All (lift S).clauses =
    both (clauses_of S.earlier ++ clauses_of_items S.query S.query.body) (clauses_of S.later)
    (both (clauses_of S.earlier) (clauses_of_items S.query S.query.body) first asked) last in
    of_nth (lifted_clause S.query ∷ (lift S).clauses) (lifted_clause S.query) c (q, all) q

pub of_atoms : (bytes : Bytes) (P : Program) → IsLiftedFrom bytes P → HasAtoms P
of_atoms bytes P r = subst HasAtoms (sym r.2) (lifted bytes r.0 r.1)

-- each variable has a name
abbrev HasNames : SourceClause → Type 0
HasNames k = length k.written ≡ k.variables

pub has_names : (bytes : Bytes) (P : Program) → IsLiftedFrom bytes P → length P.query.written ≡ P.query.variables
has_names bytes P r =
    let Q : Program → Type 0 = λ p. length p.query.written ≡ p.query.variables in
    subst Q (sym r.2) (of_program HasNames (λ T w line e. refl) (λ T w line e. refl) bytes r.0 r.1).1
