-- What is seen of a node's kind is so of its term.
use Rattle.std.proofs.Common.{ℕ, ℤ, ◌≡◌, ◌&&◌, ◌||◌, not, Bool, true, false, eqb, refl, sym, ap, ◌∙◌}
use Rattle.and_model.specs.Terms.{Term, variable, number, compound}
use Rattle.and_model.specs.Arithmetic.{is_operation, is_zero}
use Rattle.and_model.specs.declared.numbers.NameNo.{NameNo}
use Rattle.and_model.specs.Programs.{Program}
use Rattle.and_program.specs.Shown.{argument_of, clauses_with, count_of, shown_term, term_at}
use Rattle.and_lint.specs.Findings.{arity_of, begins_with, is_first}
use Rattle.and_program.specs.declared.node.NodeKind.{NodeKind}
use Rattle.and_program.specs.declared.node.NodeKind.TheVariants.{Variable, Number, Compound}
use Rattle.and_lint.specs.Subterms.{has_no_value, is_division, is_leaf, is_numeral_zero, is_operators}
use Rattle.and_lint.proofs.Tasks.{term_of_compound}

abbrev pub leaf_kind : NodeKind → Bool
leaf_kind (Variable k) = true
leaf_kind (Number z) = true
leaf_kind (Compound c n) = false

pub leaf_shown : (t : Term) → leaf_kind (shown_term t) ≡ is_leaf t
leaf_shown (variable q k) = refl
leaf_shown (number z) = refl
leaf_shown (compound c ts) = refl

abbrev pub operators_kind : NodeKind → Bool
operators_kind (Variable k) = false
operators_kind (Number z) = false
operators_kind (Compound c n) = is_operation c.0 n

pub operators_shown : (t : Term) → operators_kind (shown_term t) ≡ is_operators t
operators_shown (variable q k) = refl
operators_shown (number z) = refl
operators_shown (compound c ts) = refl

abbrev pub zero_kind : NodeKind → Bool
zero_kind (Variable k) = false
zero_kind (Number z) = is_zero z
zero_kind (Compound c n) = false

pub zero_shown : (t : Term) → zero_kind (shown_term t) ≡ is_numeral_zero t
zero_shown (variable q k) = refl
zero_shown (number z) = refl
zero_shown (compound c ts) = refl

pub variable_has_value : (t : Term) (k : ℕ) → Variable k ≡ shown_term t → false ≡ has_no_value t
variable_has_value (variable q j) k e = refl
variable_has_value (number z) k e = refl
variable_has_value (compound c ts) k e = absurd (cc)

pub number_has_value : (t : Term) (z : ℤ) → Number z ≡ shown_term t → false ≡ has_no_value t
number_has_value (variable q j) z e = refl
number_has_value (number y) z e = refl
number_has_value (compound c ts) z e = absurd (cc)

pub structure_has_no_value : (t : Term) (c : NameNo) (n : ℕ) → Compound c n ≡ shown_term t
    → has_no_value t ≡ not (is_operation c.0 n) || (eqb n 2 && is_division c.0 && is_numeral_zero (argument_of t 1))
structure_has_no_value t c n e =
    let s = term_of_compound t c n e in
    ap has_no_value s.term_is
    ∙ ap (λ (m : ℕ). not (is_operation c.0 m) || (eqb m 2 && is_division c.0 && is_numeral_zero (term_at s.terms 1))) s.width_is
    ∙ ap (λ (u : Term). not (is_operation c.0 n) || (eqb n 2 && is_division c.0 && is_numeral_zero (argument_of u 1))) (sym s.term_is)

pub variable_not_first : (P : Program) (c : ℕ) (t : Term) (k : ℕ) → Variable k ≡ shown_term t → false ≡ is_first P c t
variable_not_first P c (variable q j) k e = refl
variable_not_first P c (number z) k e = refl
variable_not_first P c (compound d ts) k e = absurd (cc)

pub number_not_first : (P : Program) (c : ℕ) (t : Term) (z : ℤ) → Number z ≡ shown_term t → false ≡ is_first P c t
number_not_first P c (variable q j) z e = refl
number_not_first P c (number y) z e = refl
number_not_first P c (compound d ts) z e = absurd (cc)

pub structure_is_first : (P : Program) (c : ℕ) (t : Term) (name : NameNo) (n : ℕ) → Compound name n ≡ shown_term t
    → begins_with c (clauses_with name.0 n 1 P.clauses) ≡ is_first P c t
structure_is_first P c t name n e =
    let s = term_of_compound t name n e in
    ap (λ (m : ℕ). begins_with c (clauses_with name.0 m 1 P.clauses)) (sym s.width_is) ∙ ap (λ (u : Term). is_first P c u) (sym s.term_is)

pub arity_shown : (t : Term) → count_of (shown_term t) ≡ arity_of t
arity_shown (variable q k) = refl
arity_shown (number z) = refl
arity_shown (compound c ts) = refl
