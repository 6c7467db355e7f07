-- A name or a structure that is no operator's, and a division by the numeral 0, have no value.
use Rattle.std.proofs.Common.{ℕ, ℤ, suc, ◌≡◌, ◌&&◌, ◌||◌, not, true, false, eqb, List, [], ◌∷◌, length, Option, Some, None, pos, negsuc, arith}
use Rattle.std.proofs.Common.{refl, sym, ap, ◌∙◌, ⊎_elim}
use Rattle.std.proofs.lemmas.Bool.{and_parts, or_cases, not-true, eqb-true, true≢false}
use Rattle.and_model.specs.Terms.{Term, Terms, variable, number, compound, none, more, width, Substitution, apply, apply_all}
use Rattle.and_model.specs.Arithmetic.{is_operation, is_zero, of_two, operated, value, values, in_range}
use Rattle.and_model.specs.declared.builtins.TheConstants.{DIVIDE, MODULO, REMAINDER}
use Rattle.and_model.proofs.Operations.{none_of_values}
use Rattle.and_program.specs.Shown.{term_at}
use Rattle.and_lint.specs.Subterms.{has_no_value, is_division, is_numeral_zero}

by_zero : (c : ℕ) (a b : ℤ) → is_division c ≡ true → is_zero b ≡ true → of_two c a b ≡ None
unfolding of_two
by_zero c a b d z = ⊎_elim
    (λ two. ⊎_elim
    (λ one. let is : c ≡ DIVIDE = eqb-true c DIVIDE one in rw (is, z) refl)
    (λ one. let is : c ≡ MODULO = eqb-true c MODULO one in rw (is, z) refl)
    (or_cases (eqb c DIVIDE) (eqb c MODULO) two))
    (λ one. let is : c ≡ REMAINDER = eqb-true c REMAINDER one in rw (is, z) refl)
    (or_cases (eqb c DIVIDE || eqb c MODULO) (eqb c REMAINDER) d)

length-values : (s : Substitution) (ts : Terms) → length (values (apply_all s ts)) ≡ width ts
length-values s none = refl
length-values s (more t ts) = ap (λ (n : ℕ). suc n) (length-values s ts)

-- the numeral 0 in range is itself
divided_by_zero : (c : ℕ) (v : Option ℤ) (z : ℤ) → is_division c ≡ true → is_zero z ≡ true → operated c (v ∷ in_range z ∷ []) ≡ None
divided_by_zero c v (negsuc n) d e = absurd (true≢false (sym e))
divided_by_zero c None (pos n) d e = elim (in_range (pos n)) as (λ u. operated c (None ∷ u ∷ []) ≡ None) [ None ↦ refl | Some b ↦ refl ]
divided_by_zero c (Some a) (pos n) d e = let is : n ≡ 0 = eqb-true n 0 e in rw is (by_zero c a (pos 0) d refl)

division : (c : ℕ) (s : Substitution) (ts : Terms) → width ts ≡ 2 → is_division c ≡ true → is_numeral_zero (term_at ts 1) ≡ true
    → operated c (values (apply_all s ts)) ≡ None
division c s none w d e = absurd (omega arith)
division c s (more t none) w d e = absurd (omega arith)
division c s (more t (more (variable q k) none)) w d e = absurd (true≢false (sym e))
division c s (more t (more (number z) none)) w d e = divided_by_zero c (value (apply s t)) z d e
division c s (more t (more (compound b us) none)) w d e = absurd (true≢false (sym e))
division c s (more t (more u (more x ts))) w d e = absurd (omega arith)

pub no_value : (t : Term) (s : Substitution) → has_no_value t ≡ true → value (apply s t) ≡ None
no_value (variable q k) s e = absurd (true≢false (sym e))
no_value (number z) s e = absurd (true≢false (sym e))
no_value (compound c ts) s e = ⊎_elim
    (λ other. none_of_values c (values (apply_all s ts)) (ap (λ (n : ℕ). is_operation c n) (length-values s ts) ∙ not-true (is_operation c (width ts)) other))
    (λ all. let last = and_parts (eqb (width ts) 2 && is_division c) (is_numeral_zero (term_at ts 1)) all in
    let first = and_parts (eqb (width ts) 2) (is_division c) last.0 in
    division c s ts (eqb-true (width ts) 2 first.0) first.1 last.1)
    (or_cases (not (is_operation c (width ts))) (eqb (width ts) 2 && is_division c && is_numeral_zero (term_at ts 1)) e)
