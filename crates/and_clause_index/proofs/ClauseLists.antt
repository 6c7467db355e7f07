-- The clauses of a predicate: they rise, and are those that a goal of it can be taken by.
use Rattle.std.proofs.Common.{ℕ, suc, ◌≡◌, ◌<◌, ◌≤◌, Bool, true, false, true≢false, cond, ◌&&◌, ◌||◌, leb, ltb, length, List, [], ◌∷◌, eqb, refl, sym, ap}
use Rattle.std.proofs.Common.{◌∙◌, subst, inl, inr, arith}
use Rattle.std.specs.Prelude.{All, AllPairs, Contains}
use Rattle.std.specs.List.{list_any}
use Rattle.std.proofs.lemmas.Bool.{eqb-true, eq-eqb}
use Rattle.std.proofs.lemmas.Bool.Decides.{nat_tests}
use Rattle.std.proofs.lemmas.List.Elements.{All-nil, All-cons, All-weaker}
use Rattle.std.proofs.lemmas.List.Kept.{AllPairs-cons}
use Rattle.and_model.specs.Terms.{Term, variable, number, compound, width}
use Rattle.and_model.specs.Programs.{Program, Clause, Of, same_predicate, clause_at}
use Rattle.and_model.specs.declared.numbers.ClauseNo.{ClauseNo}
use Rattle.and_program.specs.Shown.{has_functor, clauses_with}
use Rattle.and_program.proofs.MemberLemmas.{members}
use Rattle.and_laws.proofs.Equality.{bool_cases}
use Rattle.and_laws.proofs.Ordered.{contains_first, contains_more, contains_cases, contains_none}
use Rattle.and_laws.proofs.Pairwise.{all_pairs_none}
use Rattle.and_laws.proofs.Substitutions.{and_right, and_left}
use Rattle.and_clause_index.specs.Tables.{clauses_for}

-- A clause of a predicate is there.
pub clause_there : (P : Program) (g : Term) (c : ℕ) → Of P g c → c ≤ length P.clauses
clause_there P g c of =
    let there : Bool = ltb 0 c && leb c (length P.clauses) in
    let both : there ≡ true = and_left there (same_predicate g (clause_at P c).head) of in
    let low : leb c (length P.clauses) ≡ true = and_right (ltb 0 c) (leb c (length P.clauses)) both in
    grind (arith, nat_tests)

-- the one clause has the smaller number
abbrev pub IsEarlier : ClauseNo → ClauseNo → Type 0
IsEarlier c d = c.0 < d.0

-- ---- Order

all_from : (c n s : ℕ) (cs : List Clause) → All (λ (k : ClauseNo). s ≤ k.0) (clauses_with c n s cs)
all_from c n s [] = All-nil (λ (k : ClauseNo). s ≤ k.0)
all_from c n s (x ∷ cs) =
    let one : ClauseNo = record { 0 = s } in
    let rest : List ClauseNo = clauses_with c n (suc s) cs in
    let later : All (λ (k : ClauseNo). s ≤ k.0) rest =
    All-weaker (λ (k : ClauseNo). suc s ≤ k.0) (λ (k : ClauseNo). s ≤ k.0) (λ k h. omega arith) rest (all_from c n (suc s) cs) in
    let P : Bool → Type 0 = λ b. All (λ (k : ClauseNo). s ≤ k.0) (cond b (one ∷ rest) rest) in
    elim (has_functor c n x.head) as P [ true ↦ All-cons (λ (k : ClauseNo). s ≤ k.0) one rest (omega arith) later | false ↦ later ]

with_rise : (c n s : ℕ) (cs : List Clause) → AllPairs IsEarlier (clauses_with c n s cs)
with_rise c n s [] = all_pairs_none IsEarlier
with_rise c n s (x ∷ cs) =
    let one : ClauseNo = record { 0 = s } in
    let rest : List ClauseNo = clauses_with c n (suc s) cs in
    let later : All (IsEarlier one) rest =
    All-weaker (λ (k : ClauseNo). suc s ≤ k.0) (IsEarlier one) (λ k h. omega arith) rest (all_from c n (suc s) cs) in
    let P : Bool → Type 0 = λ b. AllPairs IsEarlier (cond b (one ∷ rest) rest) in
    elim (has_functor c n x.head) as P [
      | true ↦ AllPairs-cons IsEarlier one rest later (with_rise c n (suc s) cs)
      | false ↦ with_rise c n (suc s) cs
    ]

pub clauses_rise : (P : Program) (g : Term) → AllPairs IsEarlier (clauses_for P g)
clauses_rise P (variable q k) = all_pairs_none IsEarlier
clauses_rise P (number z) = all_pairs_none IsEarlier
clauses_rise P (compound c ts) = with_rise c (width ts) 1 P.clauses

-- ---- Members

abbrev has : ℕ → List ClauseNo → Bool
has k xs = list_any (λ (m : ClauseNo). eqb m.0 k) xs

or_left : (a b : Bool) → a ≡ true → a || b ≡ true
or_left true b e = refl
or_left false b e = absurd (true≢false (sym e))

or_right : (a b : Bool) → b ≡ true → a || b ≡ true
or_right true b e = refl
or_right false b e = e

or_false : (a b : Bool) → a || b ≡ true → a ≡ false → b ≡ true
or_false true b e f = absurd (true≢false f)
or_false false b e f = e

found_contained : (xs : List ClauseNo) (k : ℕ) → has k xs ≡ true → Contains xs (record { 0 = k })
found_contained [] k e = absurd (true≢false (sym e))
found_contained (x ∷ xs) k e = elim (bool_cases (eqb x.0 k)) [
  | inl same ↦
      let is : x.0 ≡ k = eqb-true x.0 k same in
      let P : ℕ → Type 0 = λ m. Contains (x ∷ xs) (record { 0 = m }) in
      subst P is (contains_first x xs)
  | inr other ↦ contains_more x (record { 0 = k }) xs (found_contained xs k (or_false (eqb x.0 k) (has k xs) e other))
]

contained_found : (xs : List ClauseNo) (m : ClauseNo) → Contains xs m → has m.0 xs ≡ true
contained_found [] m c = absurd (contains_none m c)
contained_found (x ∷ xs) m c = elim (contains_cases x m xs c) [
  | inl e ↦ or_left (eqb x.0 m.0) (has m.0 xs) (eq-eqb x.0 m.0 (ap (λ (y : ClauseNo). y.0) (sym e)))
  | inr i ↦ or_right (eqb x.0 m.0) (has m.0 xs) (contained_found xs m i)
]

-- The clauses that a goal can be taken by are listed,
pub of_listed : (P : Program) (g : Term) (c : ℕ) → Of P g c → Contains (clauses_for P g) (record { 0 = c })
of_listed P (variable q k) c of =
    absurd (true≢false (sym (and_right (ltb 0 c && leb c (length P.clauses)) (same_predicate (variable q k) (clause_at P c).head) of)))
of_listed P (number z) c of =
    absurd (true≢false (sym (and_right (ltb 0 c && leb c (length P.clauses)) (same_predicate (number z) (clause_at P c).head) of)))
of_listed P (compound n ts) c of =
    found_contained (clauses_with n (width ts) 1 P.clauses) c (members P n (width ts) c ts refl ∙ of)

-- and no others.
pub listed_of : (P : Program) (g : Term) (k : ClauseNo) → Contains (clauses_for P g) k → Of P g k.0
listed_of P (variable q n) k c = absurd (contains_none k c)
listed_of P (number z) k c = absurd (contains_none k c)
listed_of P (compound n ts) k c =
    sym (members P n (width ts) k.0 ts refl) ∙ contained_found (clauses_with n (width ts) 1 P.clauses) k c
