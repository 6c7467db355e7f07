-- The lifted program's clauses with their numbers.
use Rattle.std.proofs.Common.{ℕ, zero, suc, ◌≡◌, ◌+◌, ◌≤◌, ◌<◌, Bool, true, ◌&&◌, ltb, leb, length, get_or, map, List, [], ◌∷◌, ◌++◌, refl, ap, sym, ◌∙◌}
use Rattle.std.proofs.Common.{subst, inl, inr, ◌⊎◌, arith}
use Rattle.std.specs.Prelude.{Contains}
use Rattle.std.proofs.lemmas.Bool.{ltb-true, leb-true, lt-ltb, le-leb, cases_lt}
use Rattle.std.proofs.lemmas.List.{map-append, length-map}
use Rattle.std.proofs.lemmas.List.Elements.{Contains-append_left, Contains-append_right, Contains-append_cases}
use Rattle.and_model.specs.Programs.{Clause, clause_at}
use Rattle.and_laws.proofs.Substitutions.{and_left, and_right}
use Rattle.and_laws.proofs.Ordered.{contains_first, contains_more, contains_cases, contains_none}
use Rattle.and_source.specs.Source.{SourceItems, no_items, plain, either, Alternatives, no_alternatives, alternative, SourceClause, SourceProgram}
use Rattle.and_source.specs.Source.{source_clauses, numbers_in_items, numbers_in_alternatives, numbers_in_clauses, numbers_in, numbers_from}
use Rattle.and_source.specs.Source.{disjunctions_in_items, disjunctions_in_alternatives, disjunctions_in_clauses, disjunctions_in, IsNumbered}
use Rattle.and_source.specs.Lifted.{lifted_clause, lifted_alternative, clauses_of_items, clauses_of_alternatives, clauses_of, lift}

abbrev pub Numbered : Type 0
Numbered = ℕ × Clause

abbrev mutual
  pub pairs_of_items : SourceClause → SourceItems → List Numbered
  pairs_of_items k no_items = []
  pairs_of_items k (plain i items) = pairs_of_items k items
  pairs_of_items k (either name alts items) = pairs_of_alternatives k name alts alts ++ pairs_of_items k items

  pub pairs_of_alternatives : SourceClause → ℕ → Alternatives → Alternatives → List Numbered
  pairs_of_alternatives k name alts no_alternatives = []
  pairs_of_alternatives k name alts (alternative c items others) =
      (c, lifted_alternative k name alts items) ∷ pairs_of_items k items ++ pairs_of_alternatives k name alts others

abbrev pub pairs_of_clauses : List SourceClause → List Numbered
pairs_of_clauses [] = []
pairs_of_clauses (k ∷ ks) = (k.number, lifted_clause k) ∷ pairs_of_items k k.body ++ pairs_of_clauses ks

abbrev pub pairs : SourceProgram → List Numbered
pairs P = pairs_of_clauses P.earlier ++ pairs_of_items P.query P.query.body ++ pairs_of_clauses P.later

abbrev number_of : Numbered → ℕ
number_of x = x.0

abbrev clause_of : Numbered → Clause
clause_of x = x.1

-- They are the clauses and the numbers.
mutual
  items_are : (k : SourceClause) (items : SourceItems) → (map clause_of (pairs_of_items k items) ≡ clauses_of_items k items)
      × (map number_of (pairs_of_items k items) ≡ numbers_in_items items)
  items_are k no_items = (refl, refl)
  items_are k (plain i items) = items_are k items
  items_are k (either name alts items) =
      let a = alternatives_are k name alts alts in
      let b = items_are k items in
      let inner : List Numbered = pairs_of_alternatives k name alts alts in
      let outer : List Numbered = pairs_of_items k items in (
        map-append clause_of inner outer ∙ ap (λ l. l ++ map clause_of outer) a.0 ∙ ap (λ l. clauses_of_alternatives k name alts alts ++ l) b.0,
        map-append number_of inner outer ∙ ap (λ l. l ++ map number_of outer) a.1 ∙ ap (λ l. numbers_in_alternatives alts ++ l) b.1,
      )

  alternatives_are : (k : SourceClause) (name : ℕ) (alts others : Alternatives)
      → (map clause_of (pairs_of_alternatives k name alts others) ≡ clauses_of_alternatives k name alts others)
      × (map number_of (pairs_of_alternatives k name alts others) ≡ numbers_in_alternatives others)
  alternatives_are k name alts no_alternatives = (refl, refl)
  alternatives_are k name alts (alternative c items others) =
      let a = items_are k items in
      let b = alternatives_are k name alts others in
      let inner : List Numbered = pairs_of_items k items in
      let outer : List Numbered = pairs_of_alternatives k name alts others in (
        ap (λ l. lifted_alternative k name alts items ∷ l) (map-append clause_of inner outer ∙ ap (λ l. l ++ map clause_of outer) a.0
            ∙ ap (λ l. clauses_of_items k items ++ l) b.0),
        ap (λ l. c ∷ l) (map-append number_of inner outer ∙ ap (λ l. l ++ map number_of outer) a.1 ∙ ap (λ l. numbers_in_items items ++ l) b.1),
      )

clauses_are : (ks : List SourceClause) → (map clause_of (pairs_of_clauses ks) ≡ clauses_of ks) × (map number_of (pairs_of_clauses ks) ≡ numbers_in_clauses ks)
clauses_are [] = (refl, refl)
clauses_are (k ∷ ks) =
    let a = items_are k k.body in
    let b = clauses_are ks in
    let inner : List Numbered = pairs_of_items k k.body in
    let outer : List Numbered = pairs_of_clauses ks in (
      ap (λ l. lifted_clause k ∷ l) (map-append clause_of inner outer ∙ ap (λ l. l ++ map clause_of outer) a.0
          ∙ ap (λ l. clauses_of_items k k.body ++ l) b.0),
      ap (λ l. k.number ∷ l) (map-append number_of inner outer ∙ ap (λ l. l ++ map number_of outer) a.1 ∙ ap (λ l. numbers_in_items k.body ++ l) b.1),
    )

pub pairs_are : (P : SourceProgram) → (map clause_of (pairs P) ≡ (lift P).clauses) × (map number_of (pairs P) ≡ numbers_in P)
pairs_are P =
    let a = clauses_are P.earlier in
    let q = items_are P.query P.query.body in
    let b = clauses_are P.later in
    let first : List Numbered = pairs_of_clauses P.earlier in
    let asked : List Numbered = pairs_of_items P.query P.query.body in
    let last : List Numbered = pairs_of_clauses P.later in (
      map-append clause_of (first ++ asked) last ∙ ap (λ l. l ++ map clause_of last) (map-append clause_of first asked)
          ∙ ap (λ l. l ++ map clause_of asked ++ map clause_of last) a.0 ∙ ap (λ l. clauses_of P.earlier ++ l ++ map clause_of last) q.0
          ∙ ap (λ l. clauses_of P.earlier ++ clauses_of_items P.query P.query.body ++ l) b.0,
      map-append number_of (first ++ asked) last ∙ ap (λ l. l ++ map number_of last) (map-append number_of first asked)
          ∙ ap (λ l. l ++ map number_of asked ++ map number_of last) a.1 ∙ ap (λ l. numbers_in_clauses P.earlier ++ l ++ map number_of last) q.1
          ∙ ap (λ l. numbers_in_clauses P.earlier ++ numbers_in_items P.query.body ++ l) b.1,
    )

abbrev head_number : ℕ → List ℕ → ℕ
head_number d [] = d
head_number d (c ∷ cs) = c

abbrev rest_numbers : List ℕ → List ℕ
rest_numbers [] = []
rest_numbers (c ∷ cs) = cs

-- Where the numbers rise one by one, each pair stands at its number,
at_number : (xs : List Numbered) (b n : ℕ) → map number_of xs ≡ numbers_from b n → (x : Numbered) → Contains xs x
    → (b ≤ x.0) × (x.0 < b + length xs) × ((i : ℕ) → x.0 ≡ b + i → (d : Clause) → get_or (map clause_of xs) i d ≡ x.1)
at_number [] b n e x i = absurd (contains_none x i)
at_number (y ∷ xs) b zero e x i = absurd (cc)
at_number (y ∷ xs) b (suc n) e x i =
    let begins : y.0 ≡ b = ap (head_number b) e in
    let rest : map number_of xs ≡ numbers_from (suc b) n = ap rest_numbers e in
    elim (contains_cases y x xs i) [
      | inl f ↦ (let number : x.0 ≡ b = ap number_of f ∙ begins in (omega arith, omega arith, λ j g d. here y xs x j d f (omega arith)))
      | inr k ↦ (let r = at_number xs (suc b) n rest x k in let low = r.0 in let high = r.1 in
          (omega arith, omega arith, λ j g d. later y xs x b j d r.2 g low))
    ]
  where
    here : (y : Numbered) (xs : List Numbered) (x : Numbered) (j : ℕ) (d : Clause) → x ≡ y → j ≡ 0 → get_or (map clause_of (y ∷ xs)) j d ≡ x.1
    here y xs x j d f e = ap (λ i. get_or (map clause_of (y ∷ xs)) i d) e ∙ ap clause_of (sym f)

    later : (y : Numbered) (xs : List Numbered) (x : Numbered) (b j : ℕ) (d : Clause)
        → ((i : ℕ) → x.0 ≡ suc b + i → (d : Clause) → get_or (map clause_of xs) i d ≡ x.1)
        → x.0 ≡ b + j → suc b ≤ x.0 → get_or (map clause_of (y ∷ xs)) j d ≡ x.1
    later y xs x b zero d h g low = absurd (omega arith)
    later y xs x b (suc j) d h g low = h j (omega arith) d

-- and each number in the range has one.
number_there : (xs : List Numbered) (b n : ℕ) → map number_of xs ≡ numbers_from b n → (c : ℕ) → b ≤ c → c < b + length xs → (k : Clause) × Contains xs (c, k)
number_there [] b n e c low high = absurd (omega arith)
number_there (y ∷ xs) b zero e c low high = absurd (cc)
number_there (y ∷ xs) b (suc n) e c low high =
    let begins : y.0 ≡ b = ap (head_number b) e in
    let rest : map number_of xs ≡ numbers_from (suc b) n = ap rest_numbers e in
    elim (cases_lt b c) [
      | inl more ↦ (let r = number_there xs (suc b) n rest c (omega arith) (omega arith) in (r.0, contains_more y (c, r.0) xs r.1))
      | inr least ↦ (let same : y.0 ≡ c = omega arith in (y.1, subst (λ (z : ℕ). Contains (y ∷ xs) (z, y.1)) same (contains_first y xs)))
    ]

-- the number is one of the program's clauses
abbrev pub in_range : SourceProgram → ℕ → Bool
in_range P c = ltb 0 c && leb c (length (lift P).clauses)

numbers_rise : (P : SourceProgram) → IsNumbered P → map number_of (pairs P) ≡ numbers_from 1 (length (numbers_in P))
numbers_rise P n = (pairs_are P).1 ∙ n.numbers

pub as_many : (P : SourceProgram) → (length (pairs P) ≡ length (lift P).clauses) × (length (lift P).clauses ≡ length (numbers_in P))
as_many P =
    let a : length (pairs P) ≡ length (lift P).clauses = sym (length-map (pairs P) clause_of) ∙ ap length (pairs_are P).0 in
    let b : length (pairs P) ≡ length (numbers_in P) = sym (length-map (pairs P) number_of) ∙ ap length (pairs_are P).1 in
    (a, sym a ∙ b)

both_true : (a b : Bool) → a ≡ true → b ≡ true → a && b ≡ true
both_true a b e f = rw (e, f) refl

-- So a clause of the lifted program is found by its number,
pub found_at : (P : SourceProgram) → IsNumbered P → (x : Numbered) → Contains (pairs P) x → (in_range P x.0 ≡ true) × (clause_at (lift P) x.0 ≡ x.1)
found_at P n x i =
    let r = at_number (pairs P) 1 (length (numbers_in P)) (numbers_rise P n) x i in
    let low : 1 ≤ x.0 = r.0 in
    let high : x.0 < 1 + length (pairs P) = r.1 in
    let many : length (pairs P) ≡ length (lift P).clauses = (as_many P).0 in (
      both_true (ltb 0 x.0) (leb x.0 (length (lift P).clauses)) (lt-ltb 0 x.0 (omega arith)) (le-leb x.0 (length (lift P).clauses) (omega arith)),
      place x.0 r.2 low,
    )
  where
    place : (c : ℕ) → ((j : ℕ) → c ≡ 1 + j → (d : Clause) → get_or (map clause_of (pairs P)) j d ≡ x.1) → 1 ≤ c
        → get_or ((lift P).query ∷ (lift P).clauses) c (lift P).query ≡ x.1
    place zero h low = absurd (omega arith)
    place (suc j) h low = ap (λ l. get_or l j (lift P).query) (sym (pairs_are P).0) ∙ h j (omega arith) (lift P).query

-- and each number in the range finds one.
pub found_by : (P : SourceProgram) → IsNumbered P → (c : ℕ) → in_range P c ≡ true → (k : Clause) × Contains (pairs P) (c, k)
found_by P n c e =
    let low : 0 < c = ltb-true 0 c (and_left (ltb 0 c) (leb c (length (lift P).clauses)) e) in
    let high : c ≤ length (lift P).clauses = leb-true c (length (lift P).clauses) (and_right (ltb 0 c) (leb c (length (lift P).clauses)) e) in
    let many : length (pairs P) ≡ length (lift P).clauses = (as_many P).0 in
    number_there (pairs P) 1 (length (numbers_in P)) (numbers_rise P n) c (omega arith) (omega arith)

-- one of these alternatives has this number and these items
abbrev pub HasAlternative : Alternatives → ℕ → SourceItems → Type 0
HasAlternative no_alternatives c items = ⊥
HasAlternative (alternative d its alts) c items = ((c ≡ d) × (items ≡ its)) ⊎ HasAlternative alts c items

-- A numbered clause is lifted from a clause, or from an alternative of a disjunction.
pub record FromClause (ks : List SourceClause) (x : Numbered) : Type 0 where
  pub clause : SourceClause
  pub there : Contains ks clause
  pub is : x ≡ (clause.number, lifted_clause clause)

pub record FromAlternative (ds : List (ℕ × Alternatives)) (x : Numbered) : Type 0 where
  pub clause : SourceClause
  pub disjunction : ℕ × Alternatives
  pub items : SourceItems
  pub there : Contains ds disjunction
  pub has : HasAlternative disjunction.1 x.0 items
  pub is : x.1 ≡ lifted_alternative clause disjunction.0 disjunction.1 items

wider : (ds es : List (ℕ × Alternatives)) (x : Numbered) → ((d : ℕ × Alternatives) → Contains ds d → Contains es d) → FromAlternative ds x
    → FromAlternative es x
wider ds es x h f = record { clause = f.clause; disjunction = f.disjunction; items = f.items; there = h f.disjunction f.there; has = f.has; is = f.is }

mutual
  from_items : (k : SourceClause) (items : SourceItems) (x : Numbered) → Contains (pairs_of_items k items) x → FromAlternative (disjunctions_in_items items) x
  from_items k no_items x i = absurd (contains_none x i)
  from_items k (plain j items) x i = from_items k items x i
  from_items k (either name alts items) x i =
      let inner : List (ℕ × Alternatives) = disjunctions_in_alternatives alts in
      let outer : List (ℕ × Alternatives) = disjunctions_in_items items in
      elim (Contains-append_cases (pairs_of_alternatives k name alts alts) (pairs_of_items k items) x i) [
        | inl j ↦ from_alternatives k name alts alts x ((name, alts) ∷ inner ++ outer) (contains_first (name, alts) (inner ++ outer)) (λ c its h. h)
            (λ d l. contains_more (name, alts) d (inner ++ outer) (Contains-append_left inner outer d l)) j
        | inr j ↦ wider outer ((name, alts) ∷ inner ++ outer) x
            (λ d l. contains_more (name, alts) d (inner ++ outer) (Contains-append_right inner outer d l)) (from_items k items x j)
      ]

  from_alternatives : (k : SourceClause) (name : ℕ) (alts others : Alternatives) (x : Numbered) (ds : List (ℕ × Alternatives)) → Contains ds (name, alts)
      → ((c : ℕ) (its : SourceItems) → HasAlternative others c its → HasAlternative alts c its)
      → ((d : ℕ × Alternatives) → Contains (disjunctions_in_alternatives others) d → Contains ds d) → Contains (pairs_of_alternatives k name alts others) x
      → FromAlternative ds x
  from_alternatives k name alts no_alternatives x ds own last within i = absurd (contains_none x i)
  from_alternatives k name alts (alternative c items others) x ds own last within i =
      elim (contains_cases (c, lifted_alternative k name alts items) x (pairs_of_items k items ++ pairs_of_alternatives k name alts others) i) [
        | inl e ↦ record {
          clause = k;
          disjunction = (name, alts);
          items = items;
          there = own;
          has = last x.0 items
              (inl (ap number_of e, refl));
          is = ap clause_of e;
        }
        | inr j ↦ elim (Contains-append_cases (pairs_of_items k items) (pairs_of_alternatives k name alts others) x j) [
          | inl l ↦ wider (disjunctions_in_items items) ds x
              (λ d m. within d (Contains-append_left (disjunctions_in_items items) (disjunctions_in_alternatives others) d m)) (from_items k items x l)
          | inr l ↦ from_alternatives k name alts others x ds own (λ b its h. last b its (inr h))
              (λ d m. within d (Contains-append_right (disjunctions_in_items items) (disjunctions_in_alternatives others) d m)) l
        ]
      ]

from_clauses : (ks : List SourceClause) (x : Numbered) → Contains (pairs_of_clauses ks) x → FromClause ks x ⊎ FromAlternative (disjunctions_in_clauses ks) x
from_clauses [] x i = absurd (contains_none x i)
from_clauses (k ∷ ks) x i =
    let own : List (ℕ × Alternatives) = disjunctions_in_items k.body in
    let others : List (ℕ × Alternatives) = disjunctions_in_clauses ks in
    elim (contains_cases (k.number, lifted_clause k) x (pairs_of_items k k.body ++ pairs_of_clauses ks) i) [
      | inl e ↦ inl (record { clause = k; there = contains_first k ks; is = e })
      | inr j ↦ elim (Contains-append_cases (pairs_of_items k k.body) (pairs_of_clauses ks) x j) [
        | inl l ↦ inr (wider own (own ++ others) x (λ d m. Contains-append_left own others d m) (from_items k k.body x l))
        | inr l ↦ elim (from_clauses ks x l) [
          | inl f ↦ inl (record { clause = f.clause; there = contains_more k f.clause ks f.there; is = f.is })
          | inr f ↦ inr (wider others (own ++ others) x (λ d m. Contains-append_right own others d m) f)
        ]
      ]
    ]

clauses_wider : (ks js : List SourceClause) (x : Numbered) → ((k : SourceClause) → Contains ks k → Contains js k) → FromClause ks x → FromClause js x
clauses_wider ks js x h f = record { clause = f.clause; there = h f.clause f.there; is = f.is }

pub from_program : (P : SourceProgram) (x : Numbered) → Contains (pairs P) x → FromClause (source_clauses P) x ⊎ FromAlternative (disjunctions_in P) x
from_program P x i =
    let first : List (ℕ × Alternatives) = disjunctions_in_clauses P.earlier in
    let asked : List (ℕ × Alternatives) = disjunctions_in_items P.query.body in
    let last : List (ℕ × Alternatives) = disjunctions_in_clauses P.later in
    elim (Contains-append_cases (pairs_of_clauses P.earlier ++ pairs_of_items P.query P.query.body) (pairs_of_clauses P.later) x i) [
      | inl j ↦ elim (Contains-append_cases (pairs_of_clauses P.earlier) (pairs_of_items P.query P.query.body) x j) [
        | inl l ↦ elim (from_clauses P.earlier x l) [
          | inl f ↦ inl (clauses_wider P.earlier (source_clauses P) x (λ k m. Contains-append_left P.earlier P.later k m) f)
          | inr f ↦ inr (wider first (disjunctions_in P) x (λ d m. Contains-append_left (first ++ asked) last d (Contains-append_left first asked d m)) f)
        ]
        | inr l ↦ inr (wider asked (disjunctions_in P) x (λ d m. Contains-append_left (first ++ asked) last d (Contains-append_right first asked d m))
            (from_items P.query P.query.body x l))
      ]
      | inr j ↦ elim (from_clauses P.later x j) [
        | inl f ↦ inl (clauses_wider P.later (source_clauses P) x (λ k m. Contains-append_right P.earlier P.later k m) f)
        | inr f ↦ inr (wider last (disjunctions_in P) x (λ d m. Contains-append_right (first ++ asked) last d m) f)
      ]
    ]

-- And each clause and each alternative is lifted.
clause_lifted : (ks : List SourceClause) (k : SourceClause) → Contains ks k → Contains (pairs_of_clauses ks) (k.number, lifted_clause k)
clause_lifted [] k i = absurd (contains_none k i)
clause_lifted (j ∷ ks) k i = elim (contains_cases j k ks i) [
  | inl e ↦ subst (λ (z : SourceClause). Contains (pairs_of_clauses (j ∷ ks)) (z.number, lifted_clause z)) (sym e)
      (contains_first (j.number, lifted_clause j) (pairs_of_items j j.body ++ pairs_of_clauses ks))
  | inr l ↦ contains_more (j.number, lifted_clause j) (k.number, lifted_clause k) (pairs_of_items j j.body ++ pairs_of_clauses ks)
      (Contains-append_right (pairs_of_items j j.body) (pairs_of_clauses ks) (k.number, lifted_clause k) (clause_lifted ks k l))
]

pub clause_paired : (P : SourceProgram) (k : SourceClause) → Contains (source_clauses P) k → Contains (pairs P) (k.number, lifted_clause k)
clause_paired P k i =
    let x : Numbered = (k.number, lifted_clause k) in
    elim (Contains-append_cases P.earlier P.later k i) [
      | inl j ↦ Contains-append_left (pairs_of_clauses P.earlier ++ pairs_of_items P.query P.query.body) (pairs_of_clauses P.later) x
          (Contains-append_left (pairs_of_clauses P.earlier) (pairs_of_items P.query P.query.body) x (clause_lifted P.earlier k j))
      | inr j ↦ Contains-append_right (pairs_of_clauses P.earlier ++ pairs_of_items P.query P.query.body) (pairs_of_clauses P.later) x
          (clause_lifted P.later k j)
    ]

-- an alternative is lifted, in some clause
abbrev pub IsLifted : List Numbered → ℕ → Alternatives → ℕ → SourceItems → Type 0
IsLifted xs name alts c items = (k : SourceClause) × Contains xs (c, lifted_alternative k name alts items)

lifted_wider : (xs ys : List Numbered) (name : ℕ) (alts : Alternatives) (c : ℕ) (items : SourceItems) → ((x : Numbered) → Contains xs x → Contains ys x)
    → IsLifted xs name alts c items → IsLifted ys name alts c items
lifted_wider xs ys name alts c items h f = (f.0, h (c, lifted_alternative f.0 name alts items) f.1)

mutual
  lifted_in_items : (k : SourceClause) (items : SourceItems) (name : ℕ) (alts : Alternatives) → Contains (disjunctions_in_items items) (name, alts)
      → (c : ℕ) (its : SourceItems) → HasAlternative alts c its
      → IsLifted (pairs_of_items k items) name alts c its
  lifted_in_items k no_items name alts i c its h = absurd (contains_none (name, alts) i)
  lifted_in_items k (plain j items) name alts i c its h = lifted_in_items k items name alts i c its h
  lifted_in_items k (either n as1 items) name alts i c its h =
      let inner : List Numbered = pairs_of_alternatives k n as1 as1 in
      let outer : List Numbered = pairs_of_items k items in
      elim (contains_cases (n, as1) (name, alts) (disjunctions_in_alternatives as1 ++ disjunctions_in_items items) i) [
        | inl e ↦ subst (λ (z : ℕ × Alternatives). HasAlternative z.1 c its → IsLifted (inner ++ outer) z.0 z.1 c its) (sym e)
            (λ own. (k, Contains-append_left inner outer (c, lifted_alternative k n as1 its) (lifted_own k n as1 as1 c its own))) h
        | inr j ↦ elim (Contains-append_cases (disjunctions_in_alternatives as1) (disjunctions_in_items items) (name, alts) j) [
          | inl l ↦ lifted_wider inner (inner ++ outer) name alts c its (λ x m. Contains-append_left inner outer x m)
              (lifted_in_alternatives k n as1 as1 name alts l c its h)
          | inr l ↦ lifted_wider outer (inner ++ outer) name alts c its (λ x m. Contains-append_right inner outer x m)
              (lifted_in_items k items name alts l c its h)
        ]
      ]

  lifted_in_alternatives : (k : SourceClause) (n : ℕ) (as1 others : Alternatives) (name : ℕ) (alts : Alternatives)
      → Contains (disjunctions_in_alternatives others) (name, alts)
      → (c : ℕ) (its : SourceItems) → HasAlternative alts c its → IsLifted (pairs_of_alternatives k n as1 others) name alts c its
  lifted_in_alternatives k n as1 no_alternatives name alts i c its h = absurd (contains_none (name, alts) i)
  lifted_in_alternatives k n as1 (alternative d items others) name alts i c its h =
      let inner : List Numbered = pairs_of_items k items in
      let outer : List Numbered = pairs_of_alternatives k n as1 others in
      let x : Numbered = (d, lifted_alternative k n as1 items) in
      elim (Contains-append_cases (disjunctions_in_items items) (disjunctions_in_alternatives others) (name, alts) i) [
        | inl l ↦ lifted_wider inner (x ∷ inner ++ outer) name alts c its (λ y m. contains_more x y (inner ++ outer) (Contains-append_left inner outer y m))
            (lifted_in_items k items name alts l c its h)
        | inr l ↦ lifted_wider outer (x ∷ inner ++ outer) name alts c its (λ y m. contains_more x y (inner ++ outer) (Contains-append_right inner outer y m))
            (lifted_in_alternatives k n as1 others name alts l c its h)
      ]

  lifted_own : (k : SourceClause) (n : ℕ) (as1 others : Alternatives) (c : ℕ) (its : SourceItems) → HasAlternative others c its
      → Contains (pairs_of_alternatives k n as1 others) (c, lifted_alternative k n as1 its)
  lifted_own k n as1 no_alternatives c its h = elim h [ ]
  lifted_own k n as1 (alternative d items others) c its (inl e) =
      subst (λ (z : ℕ × SourceItems). Contains (pairs_of_alternatives k n as1 (alternative d items others)) (z.0, lifted_alternative k n as1 z.1))
      (ap (λ (z : ℕ). (z, items)) (sym e.0) ∙ ap (λ (z : SourceItems). (c, z)) (sym e.1))
      (contains_first (d, lifted_alternative k n as1 items) (pairs_of_items k items ++ pairs_of_alternatives k n as1 others))
  lifted_own k n as1 (alternative d items others) c its (inr h) =
      contains_more (d, lifted_alternative k n as1 items) (c, lifted_alternative k n as1 its) (pairs_of_items k items ++ pairs_of_alternatives k n as1 others)
      (Contains-append_right (pairs_of_items k items) (pairs_of_alternatives k n as1 others) (c, lifted_alternative k n as1 its)
      (lifted_own k n as1 others c its h))

lifted_in_clauses : (ks : List SourceClause) (name : ℕ) (alts : Alternatives) → Contains (disjunctions_in_clauses ks) (name, alts)
    → (c : ℕ) (its : SourceItems) → HasAlternative alts c its → IsLifted (pairs_of_clauses ks) name alts c its
lifted_in_clauses [] name alts i c its h = absurd (contains_none (name, alts) i)
lifted_in_clauses (k ∷ ks) name alts i c its h =
    let inner : List Numbered = pairs_of_items k k.body in
    let outer : List Numbered = pairs_of_clauses ks in
    let x : Numbered = (k.number, lifted_clause k) in
    elim (Contains-append_cases (disjunctions_in_items k.body) (disjunctions_in_clauses ks) (name, alts) i) [
      | inl l ↦ lifted_wider inner (x ∷ inner ++ outer) name alts c its (λ y m. contains_more x y (inner ++ outer) (Contains-append_left inner outer y m))
          (lifted_in_items k k.body name alts l c its h)
      | inr l ↦ lifted_wider outer (x ∷ inner ++ outer) name alts c its (λ y m. contains_more x y (inner ++ outer) (Contains-append_right inner outer y m))
          (lifted_in_clauses ks name alts l c its h)
    ]

pub alternative_paired : (P : SourceProgram) (name : ℕ) (alts : Alternatives) → Contains (disjunctions_in P) (name, alts) → (c : ℕ) (its : SourceItems)
    → HasAlternative alts c its → IsLifted (pairs P) name alts c its
alternative_paired P name alts i c its h =
    let first : List Numbered = pairs_of_clauses P.earlier in
    let asked : List Numbered = pairs_of_items P.query P.query.body in
    let last : List Numbered = pairs_of_clauses P.later in
    elim (Contains-append_cases (disjunctions_in_clauses P.earlier ++ disjunctions_in_items P.query.body) (disjunctions_in_clauses P.later) (name, alts) i) [
      | inl j ↦ elim (Contains-append_cases (disjunctions_in_clauses P.earlier) (disjunctions_in_items P.query.body) (name, alts) j) [
        | inl l ↦ lifted_wider first (pairs P) name alts c its (λ x m. Contains-append_left (first ++ asked) last x (Contains-append_left first asked x m))
            (lifted_in_clauses P.earlier name alts l c its h)
        | inr l ↦ lifted_wider asked (pairs P) name alts c its (λ x m. Contains-append_left (first ++ asked) last x (Contains-append_right first asked x m))
            (lifted_in_items P.query P.query.body name alts l c its h)
      ]
      | inr j ↦ lifted_wider last (pairs P) name alts c its (λ x m. Contains-append_right (first ++ asked) last x m)
          (lifted_in_clauses P.later name alts j c its h)
    ]
