-- Terms whose prints differ have no instance in common.
use Rattle.std.proofs.Common.{ℕ, zero, suc, ◌+◌, ◌*◌, ◌%◌, ◌≡◌, ◌≢◌, ◌<◌, ◌≤◌, Bool, false, true≢false, nat_eq, ◌||◌, refl, sym, ap, ◌∙◌, subst, inl, inr}
use Rattle.std.proofs.Common.{arith}
use Rattle.std.proofs.lemmas.Bool.{eq-eqb}
use Rattle.and_model.specs.Terms.{Term, Terms, variable, number, compound, none, more, width, Substitution, apply, apply_all}
use Rattle.and_program.specs.Shown.{shown_term, count_of, term_at, argument_of}
use Rattle.and_program.specs.declared.node.NodeKind.{NodeKind}
use Rattle.and_program.specs.declared.node.NodeKind.TheVariants.{Variable}
use Rattle.and_laws.proofs.Equality.{bool_cases}
use Rattle.and_clause_index.specs.Prints.{kind_in, argument_kind, mark, marks_at, print_of, no_marks, differ, marks_differ, are_apart, Tells, MarksTell}
use Rattle.and_clause_index.specs.Prints.{PrintTells}
use Rattle.and_clause_index.specs.declared.prints.Marks.{Marks}
use Rattle.and_clause_index.specs.declared.prints.Print.{Print}
use Rattle.and_clause_index.proofs.Differing.{width_applied, term_at_applied}

-- ---- What stands at a place

kind_there : (ts : Terms) (j : ℕ) → j < width ts → kind_in ts j ≡ shown_term (term_at ts j)
kind_there none j low = absurd (omega arith)
kind_there (more t ts) zero low = refl
kind_there (more t ts) (suc j) low = kind_there ts j (omega arith)

pub argument_there : (t : Term) (j : ℕ) → j < count_of (shown_term t) → argument_kind t j ≡ shown_term (argument_of t j)
argument_there (variable q k) j low = absurd (omega arith)
argument_there (number z) j low = absurd (omega arith)
argument_there (compound c ts) j low = kind_there ts j low

kind_past : (ts : Terms) (j : ℕ) → width ts ≤ j → kind_in ts j ≡ Variable 0
kind_past none j past = refl
kind_past (more t ts) zero past = absurd (omega arith)
kind_past (more t ts) (suc j) past = kind_past ts j (omega arith)

pub argument_past : (t : Term) (j : ℕ) → count_of (shown_term t) ≤ j → argument_kind t j ≡ Variable 0
argument_past (variable q k) j past = refl
argument_past (number z) j past = refl
argument_past (compound c ts) j past = kind_past ts j past

term_past : (ts : Terms) (j i : ℕ) → width ts ≤ j → argument_kind (term_at ts j) i ≡ Variable 0
term_past none j i past = refl
term_past (more t ts) zero i past = absurd (omega arith)
term_past (more t ts) (suc j) i past = term_past ts j i (omega arith)

part_past : (t : Term) (j i : ℕ) → count_of (shown_term t) ≤ j → argument_kind (argument_of t j) i ≡ Variable 0
part_past (variable q k) j i past = refl
part_past (number z) j i past = refl
part_past (compound c ts) j i past = term_past ts j i past

abbrev made : (own first second : ℕ) → Marks
made own first second = record { own = own; first = first; second = second }

-- The marks of an argument that is there,
pub marks_there : (own first second : ℕ) (t : Term) (j : ℕ) → j < count_of (shown_term t) → own ≡ mark (shown_term (argument_of t j))
    → first ≡ mark (argument_kind (argument_of t j) 0) → second ≡ mark (argument_kind (argument_of t j) 1)
    → record { own = own; first = first; second = second } ≡ marks_at t j
marks_there own first second t j low one two three =
    ap (λ (m : ℕ). made m first second) (one ∙ ap mark (sym (argument_there t j low)))
    ∙ ap (λ (m : ℕ). made (mark (argument_kind t j)) m second) two
    ∙ ap (λ (m : ℕ). made (mark (argument_kind t j)) (mark (argument_kind (argument_of t j) 0)) m) three

-- and of one that is not.
pub marks_past : (t : Term) (j : ℕ) → count_of (shown_term t) ≤ j → no_marks ≡ marks_at t j
marks_past t j past =
    ap (λ (k : NodeKind). made (mark k) 0 0) (sym (argument_past t j past))
    ∙ ap (λ (k : NodeKind). made (mark (argument_kind t j)) (mark k) 0) (sym (part_past t j 0 past))
    ∙ ap (λ (k : NodeKind). made (mark (argument_kind t j)) (mark (argument_kind (argument_of t j) 0)) (mark k)) (sym (part_past t j 1 past))

-- ---- Instances have the marks of the term

shown_tells : (s : Substitution) (t : Term) → Tells (mark (shown_term t)) (mark (shown_term (apply s t)))
shown_tells s (variable q k) = λ some. absurd (some refl)
shown_tells s (number z) = λ some. refl
shown_tells s (compound c ts) = λ some. ap (λ (n : ℕ). 1 + (c + 64 * n) % 255) (sym (width_applied s ts))

kind_tells : (s : Substitution) (ts : Terms) (j : ℕ) → Tells (mark (kind_in ts j)) (mark (kind_in (apply_all s ts) j))
kind_tells s none j = λ some. refl
kind_tells s (more t ts) zero = shown_tells s t
kind_tells s (more t ts) (suc j) = kind_tells s ts j

argument_tells : (s : Substitution) (t : Term) (j : ℕ) → Tells (mark (argument_kind t j)) (mark (argument_kind (apply s t) j))
argument_tells s (variable q k) j = λ some. absurd (some refl)
argument_tells s (number z) j = λ some. refl
argument_tells s (compound c ts) j = kind_tells s ts j

part_tells : (s : Substitution) (t : Term) (j i : ℕ)
    → Tells (mark (argument_kind (argument_of t j) i)) (mark (argument_kind (argument_of (apply s t) j) i))
part_tells s (variable q k) j i = λ some. absurd (some refl)
part_tells s (number z) j i = λ some. refl
part_tells s (compound c ts) j i =
    subst (λ (u : Term). Tells (mark (argument_kind (term_at ts j) i)) (mark (argument_kind u i))) (sym (term_at_applied s ts j))
    (argument_tells s (term_at ts j) i)

marks_tell : (s : Substitution) (t : Term) (j : ℕ) → MarksTell (marks_at t j) (marks_at (apply s t) j)
marks_tell s t j = record { own = argument_tells s t j; first = part_tells s t j 0; second = part_tells s t j 1 }

pub instance_tells : (s : Substitution) (t : Term) → PrintTells (print_of t) (print_of (apply s t))
instance_tells s t = record {
  first = marks_tell s t 0;
  second = marks_tell s t 1;
  third = argument_tells s t 2;
  fourth = argument_tells s t 3;
}

-- ---- Marks of one print do not differ

is_some : (a : ℕ) → nat_eq a 0 ≡ false → a ≢ 0
is_some a e is = true≢false (sym (eq-eqb a 0 is) ∙ e)

pub marks_meet : (a b r : ℕ) → Tells a r → Tells b r → differ a b ≡ false
marks_meet a b r one other = elim (bool_cases (nat_eq a 0)) [
  | inl a_none ↦ rw a_none refl
  | inr a_is ↦ elim (bool_cases (nat_eq b 0)) [
    | inl b_none ↦ rw (a_is, b_none) refl
    | inr b_is ↦ rw (a_is, b_is, eq-eqb a b (one (is_some a a_is) ∙ sym (other (is_some b b_is)))) refl
  ]
]

neither : (x y : Bool) → x ≡ false → y ≡ false → x || y ≡ false
neither x y a b = rw (a, b) refl

pub all_meet : (a b r : Marks) → MarksTell a r → MarksTell b r → marks_differ a b ≡ false
all_meet a b r one other =
    neither (differ a.own b.own || differ a.first b.first) (differ a.second b.second)
    (neither (differ a.own b.own) (differ a.first b.first) (marks_meet a.own b.own r.own one.own other.own)
    (marks_meet a.first b.first r.first one.first other.first))
    (marks_meet a.second b.second r.second one.second other.second)

-- Two prints that tell of one are not apart.
pub prints_meet : (p q r : Print) → PrintTells p r → PrintTells q r → are_apart p q ≡ false
prints_meet p q r one other =
    let first = all_meet p.first q.first r.first one.first other.first in
    let second = all_meet p.second q.second r.second one.second other.second in
    let third = marks_meet p.third q.third r.third one.third other.third in
    let fourth = marks_meet p.fourth q.fourth r.fourth one.fourth other.fourth in
    let firsts = neither (marks_differ p.first q.first) (marks_differ p.second q.second) first second in
    let three = neither (marks_differ p.first q.first || marks_differ p.second q.second) (differ p.third q.third) firsts third in
    neither (marks_differ p.first q.first || marks_differ p.second q.second || differ p.third q.third) (differ p.fourth q.fourth) three fourth
