-- Calls and clauses of one predicate.
use Rattle.std.proofs.Common.{ℕ, ◌≡◌, ◌<◌, ◌≤◌, Bool, true, ◌&&◌, length, nat_eq, leb, ltb, refl, ap, ◌∙◌, inl, inr, arith}
use Rattle.std.proofs.Math.Dec.{eqb-suc-zero, eqb-zero-suc, eqb-suc-suc}
use Rattle.std.proofs.lemmas.Bool.{leb-false, ltb-false}
use Rattle.and_model.specs.Terms.{Term, Terms, variable, number, compound, none, more, width}
use Rattle.and_model.specs.Programs.{Program, is_of, clause_at, same_count, same_predicate}
use Rattle.and_laws.proofs.Equality.{bool_cases}
use Rattle.and_program.specs.Shown.{shown_term}
use Rattle.and_proof.specs.Predicates.{named_alike}

count_is : (ts us : Terms) → nat_eq (width ts) (width us) ≡ same_count ts us
count_is none none = refl
count_is none (more u us) = eqb-zero-suc (width us)
count_is (more t ts) none = eqb-suc-zero (width ts)
count_is (more t ts) (more u us) = eqb-suc-suc (width ts) (width us) ∙ count_is ts us

-- what the kinds of terms tell
pub alike_is : (t u : Term) → named_alike (shown_term t) (shown_term u) ≡ same_predicate t u
alike_is (variable q k) u = refl
alike_is (number z) u = refl
alike_is (compound c ts) (variable q k) = refl
alike_is (compound c ts) (number z) = refl
alike_is (compound c ts) (compound d us) = ap (λ b. nat_eq c d && b) (count_is ts us)

both_true : (a b r : Bool) → a ≡ true → b ≡ true → (a && b && r) ≡ r
both_true a b r e f = ap (λ x. x && b && r) e ∙ ap (λ x. true && x && r) f

-- A number of a clause is of the predicate where its head is,
pub of_head : (P : Program) (t : Term) (c : ℕ) → 0 < c → c ≤ length P.clauses → is_of P t c ≡ same_predicate t (clause_at P c).head
of_head P t c some low = both_true (ltb 0 c) (leb c (length P.clauses)) (same_predicate t (clause_at P c).head) first second
  where
    first : ltb 0 c ≡ true
    first = elim (bool_cases (ltb 0 c)) [ inl e ↦ e | inr e ↦ absurd (let past = ltb-false 0 c e in omega (arith, past, some)) ]

    second : leb c (length P.clauses) ≡ true
    second = elim (bool_cases (leb c (length P.clauses))) [
      | inl e ↦ e
      | inr e ↦ absurd (let past = leb-false c (length P.clauses) e in omega (arith, past, low))
    ]
