-- Equations that count where a test holds.
use Rattle.std.proofs.Common.{ℕ, ◌≡◌, ◌≤◌, Bool, true, false, cond, nat_eq, leb, ◌&&◌, List, [], refl, sym, subst, inl, inr}
use Rattle.std.proofs.lemmas.Bool.Decides.{eqb_tells, leb_tells}
use Rattle.and_model.specs.Terms.{Substitution}
use Rattle.and_model.specs.Solutions.{Equation, Solves}

holds_if : (s : Substitution) (es : List Equation) (b : Bool) → b ≡ true → Solves s (cond b es []) → Solves s es
holds_if s es b is p = subst (λ x. Solves s (cond x es [])) is p

if_holds : (s : Substitution) (es : List Equation) (b : Bool) → (b ≡ true → Solves s es) → Solves s (cond b es [])
if_holds s es true h = h refl
if_holds s es false h = tt

number_itself : (n : ℕ) → nat_eq n n ≡ true
number_itself n = elim (eqb_tells n n) [ inl same ↦ same.0 | inr other ↦ absurd (other.1 refl) ]

test_equal : (a b : ℕ) → nat_eq a b ≡ true → a ≡ b
test_equal a b is = elim (eqb_tells a b) [ inl same ↦ same.1 | inr other ↦ absurd (cc) ]

-- a number's own
pub own_holds : (s : Substitution) (es : List Equation) (n : ℕ) → Solves s (cond (nat_eq n n) es []) → Solves s es
own_holds s es n p = holds_if s es (nat_eq n n) (number_itself n) p

pub equal_holds : (s : Substitution) (es : List Equation) (a b : ℕ) → (a ≡ b → Solves s es) → Solves s (cond (nat_eq a b) es [])
equal_holds s es a b h = if_holds s es (nat_eq a b) (λ is. h (test_equal a b is))

-- one that is equal, and another that is not above a bound
pub equal_within_holds : (s : Substitution) (es : List Equation) (a b m n : ℕ) → (a ≡ b → m ≤ n → Solves s es)
    → Solves s (cond (nat_eq a b && leb m n) es [])
equal_within_holds s es a b m n h = elim (eqb_tells a b) [
  | inl same ↦
      subst (λ x. Solves s (cond (x && leb m n) es [])) (sym same.0)
      (elim (leb_tells m n) [
        | inl low ↦ subst (λ x. Solves s (cond x es [])) (sym low.0) (h same.1 low.1)
        | inr high ↦ subst (λ x. Solves s (cond x es [])) (sym high.0) tt
      ])
  | inr other ↦ subst (λ x. Solves s (cond (x && leb m n) es [])) (sym other.0) tt
]
