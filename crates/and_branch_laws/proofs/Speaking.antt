-- Of which variables terms and equations speak, and what substitutions make of these.
use Rattle.std.proofs.Common.{ℕ, ℤ, ◌≡◌, ◌<◌, Bool, true, false, cond, List, [], ◌∷◌, ◌++◌, Option, Some, None, refl, sym, ap, ◌∙◌, subst}
use Rattle.std.proofs.Common.{inl, inr}
use Rattle.std.specs.Prelude.{Contains}
use Rattle.std.proofs.lemmas.List.Elements.{All-contains, Contains-append_left, Contains-append_right, Contains-append_cases}
use Rattle.and_model.specs.Terms.{Path, Term, Terms, variable, number, compound, none, more, variables_of, variables_in, Substitution}
use Rattle.and_model.specs.Terms.{apply, apply_all, framed}
use Rattle.and_model.specs.Solutions.{Equation, Solves, falsehood}
use Rattle.and_model.specs.Arithmetic.{value, holds}
use Rattle.and_model.specs.Programs.{Arithmetic, is, compare}
use Rattle.and_model.specs.Closure.{equals, added}
use Rattle.and_model.specs.OwnVariables.{IsOwn, AreOwn}
use Rattle.and_laws.specs.Naming.{Variables, IsOver, AreOver, EquationsOver, under}
use Rattle.and_laws.proofs.Ordered.{contains_first, contains_cases, contains_none}
use Rattle.and_laws.proofs.Substitutions.{then, apply_then, same, apply_same}
use Rattle.and_cells.proofs.OneTerm.{apply_agree}
use Rattle.and_branch_laws.specs.Variables.{SpeaksOf, EquationsSpeakOf, ArithmeticSpeaksOf}

-- a variable speaks of itself
pub speaks_variable : (V : Path × ℕ → Type 0) (q : Path) (k : ℕ) → V (q, k) → SpeaksOf V (variable q k)
speaks_variable V q k h v c = elim (contains_cases (q, k) v [] c) [ inl e ↦ subst V (sym e) h | inr i ↦ absurd (contains_none v i) ]

-- What speaks of the one speaks of the other.
pub speaks_more : (V W : Path × ℕ → Type 0) → ((v : Path × ℕ) → V v → W v) → (t : Term) → SpeaksOf V t → SpeaksOf W t
speaks_more V W f t s v c = f v (s v c)

pub equations_speak_more : (V W : Path × ℕ → Type 0) → ((v : Path × ℕ) → V v → W v) → (es : List Equation) → EquationsSpeakOf V es
    → EquationsSpeakOf W es
equations_speak_more V W f [] s = tt
equations_speak_more V W f (e ∷ es) s = (speaks_more V W f e.0 s.0, speaks_more V W f e.1 s.1, equations_speak_more V W f es s.2)

pub arithmetic_speaks_more : (V W : Path × ℕ → Type 0) → ((v : Path × ℕ) → V v → W v) → (a : Arithmetic) → ArithmeticSpeaksOf V a
    → ArithmeticSpeaksOf W a
arithmetic_speaks_more V W f (is l r) s = (speaks_more V W f l s.0, speaks_more V W f r s.1)
arithmetic_speaks_more V W f (compare o a b) s = (speaks_more V W f a s.0, speaks_more V W f b s.1)

pub equations_speak_join : (V : Path × ℕ → Type 0) (es ds : List Equation) → EquationsSpeakOf V es → EquationsSpeakOf V ds
    → EquationsSpeakOf V (es ++ ds)
equations_speak_join V [] ds s r = r
equations_speak_join V (e ∷ es) ds s r = (s.0, s.1, equations_speak_join V es ds s.2 r)

-- Each variable of an image is one of what was put for a variable.
mutual
  pub variables_applied : (s : Substitution) (t : Term) (v : Path × ℕ) → Contains (variables_of (apply s t)) v → (w : Path × ℕ)
      × Contains (variables_of t) w × Contains (variables_of (s w.0 w.1)) v
  variables_applied s (variable q k) v c = ((q, k), contains_first (q, k) [], c)
  variables_applied s (number z) v c = absurd (contains_none v c)
  variables_applied s (compound n ts) v c = all_variables_applied s ts v c

  pub all_variables_applied : (s : Substitution) (ts : Terms) (v : Path × ℕ) → Contains (variables_in (apply_all s ts)) v → (w : Path × ℕ)
      × Contains (variables_in ts) w × Contains (variables_of (s w.0 w.1)) v
  all_variables_applied s none v c = absurd (contains_none v c)
  all_variables_applied s (more t ts) v c = elim (Contains-append_cases (variables_of (apply s t)) (variables_in (apply_all s ts)) v c) [
    | inl i ↦ let f = variables_applied s t v i in (f.0, Contains-append_left (variables_of t) (variables_in ts) f.0 f.1, f.2)
    | inr i ↦ let f = all_variables_applied s ts v i in (f.0, Contains-append_right (variables_of t) (variables_in ts) f.0 f.1, f.2)
  ]

-- So an image speaks of what was put for the term's variables.
pub speaks_applied : (V W : Path × ℕ → Type 0) (s : Substitution) (t : Term) → ((v : Path × ℕ) → V v → SpeaksOf W (s v.0 v.1))
    → SpeaksOf V t → SpeaksOf W (apply s t)
speaks_applied V W s t f h v c = let g = variables_applied s t v c in f g.0 (h g.0 g.1) v g.2

pub equations_speak_under : (V W : Path × ℕ → Type 0) (s : Substitution) (es : List Equation)
    → ((v : Path × ℕ) → V v → SpeaksOf W (s v.0 v.1)) → EquationsSpeakOf V es → EquationsSpeakOf W (under s es)
equations_speak_under V W s [] f h = tt
equations_speak_under V W s (e ∷ es) f h =
    (speaks_applied V W s e.0 f h.0, speaks_applied V W s e.1 f h.1, equations_speak_under V W s es f h.2)

-- A term with a clause's own variables, in a frame.
pub own_framed : (V : Path × ℕ → Type 0) (q : Path) (n : ℕ) (t : Term) → ((k : ℕ) → k < n → V (q, k)) → AreOwn n t → SpeaksOf V (framed q t)
own_framed V q n t f own = speaks_applied (IsOwn n) V (λ r k. variable q k) t (λ v o. speaks_variable V q v.1 (f v.1 o.1))
    (λ v c. All-contains (IsOwn n) (variables_of t) v own c)

-- The terms that speak of variables that a test tells are over these.
mutual
  pub speaks_over : (V : Path × ℕ → Type 0) (f : Variables) → ((v : Path × ℕ) → V v → f v.0 v.1 ≡ true) → (t : Term) → SpeaksOf V t
      → IsOver f t
  speaks_over V f h (variable q k) s = h (q, k) (s (q, k) (contains_first (q, k) []))
  speaks_over V f h (number z) s = tt
  speaks_over V f h (compound c ts) s = all_speak_over V f h ts s

  all_speak_over : (V : Path × ℕ → Type 0) (f : Variables) → ((v : Path × ℕ) → V v → f v.0 v.1 ≡ true) → (ts : Terms)
      → ((v : Path × ℕ) → Contains (variables_in ts) v → V v) → AreOver f ts
  all_speak_over V f h none s = tt
  all_speak_over V f h (more t ts) s = (
    speaks_over V f h t (λ v c. s v (Contains-append_left (variables_of t) (variables_in ts) v c)),
    all_speak_over V f h ts (λ v c. s v (Contains-append_right (variables_of t) (variables_in ts) v c)),
  )

pub equations_speak_over : (V : Path × ℕ → Type 0) (f : Variables) → ((v : Path × ℕ) → V v → f v.0 v.1 ≡ true) → (es : List Equation)
    → EquationsSpeakOf V es → EquationsOver f es
equations_speak_over V f h [] s = tt
equations_speak_over V f h (e ∷ es) s = (speaks_over V f h e.0 s.0, speaks_over V f h e.1 s.1, equations_speak_over V f h es s.2)

-- Substitutions that agree on these variables make the same of a term that speaks of them, and solve the same of its equations.
pub speaks_agree : (V : Path × ℕ → Type 0) (s z : Substitution) (t : Term) → ((v : Path × ℕ) → V v → s v.0 v.1 ≡ z v.0 v.1) → SpeaksOf V t
    → apply s t ≡ apply z t
speaks_agree V s z t f h = apply_agree s z t (λ v c. f v (h v c))

pub speaks_solves : (V : Path × ℕ → Type 0) (s z : Substitution) (es : List Equation) → ((v : Path × ℕ) → V v → s v.0 v.1 ≡ z v.0 v.1)
    → EquationsSpeakOf V es → Solves s es → Solves z es
speaks_solves V s z [] f h p = tt
speaks_solves V s z (e ∷ es) f h p =
    (sym (speaks_agree V s z e.0 f h.0) ∙ p.0 ∙ speaks_agree V s z e.1 f h.1, speaks_solves V s z es f h.2 p.1)

-- Names that lead back give back the terms, and the equations.
pub back_again : (V : Path × ℕ → Type 0) (names back : Substitution) (t : Term)
    → ((v : Path × ℕ) → V v → apply back (names v.0 v.1) ≡ variable v.0 v.1) → SpeaksOf V t → apply back (apply names t) ≡ t
back_again V names back t f h = apply_then names back t ∙ speaks_agree V (then names back) same t f h ∙ apply_same t

pub equations_back_again : (V : Path × ℕ → Type 0) (names back : Substitution) (es : List Equation)
    → ((v : Path × ℕ) → V v → apply back (names v.0 v.1) ≡ variable v.0 v.1) → EquationsSpeakOf V es
    → under back (under names es) ≡ es
equations_back_again V names back [] f h = refl
equations_back_again V names back (e ∷ es) f h =
    let l : apply back (apply names e.0) ≡ e.0 = back_again V names back e.0 f h.0 in
    let r : apply back (apply names e.1) ≡ e.1 = back_again V names back e.1 f h.1 in
    let rest : under back (under names es) ≡ es = equations_back_again V names back es f h.2 in
    ap (λ (x : Term). (x, apply back (apply names e.1)) ∷ under back (under names es)) l
    ∙ ap (λ (y : Term). (e.0, y) ∷ under back (under names es)) r
    ∙ ap (λ (ds : List Equation). e ∷ ds) rest

-- What solves equations under a substitution solves them after it, and the other way round.
pub under_then : (r s : Substitution) (es : List Equation) → Solves s (under r es) → Solves (then r s) es
under_then r s [] p = tt
under_then r s (e ∷ es) p = (sym (apply_then r s e.0) ∙ p.0 ∙ apply_then r s e.1, under_then r s es p.1)

pub then_under : (r s : Substitution) (es : List Equation) → Solves (then r s) es → Solves s (under r es)
then_under r s [] p = tt
then_under r s (e ∷ es) p = (apply_then r s e.0 ∙ p.0 ∙ sym (apply_then r s e.1), then_under r s es p.1)

-- What solves equations solves them under the names, after the way back.
pub back_under : (V : Path × ℕ → Type 0) (names back s : Substitution) (es : List Equation)
    → ((v : Path × ℕ) → V v → apply back (names v.0 v.1) ≡ variable v.0 v.1) → EquationsSpeakOf V es
    → Solves s es → Solves (then back s) (under names es)
back_under V names back s [] f h p = tt
back_under V names back s (e ∷ es) f h p = (
  sym (apply_then back s (apply names e.0)) ∙ ap (apply s) (back_again V names back e.0 f h.0) ∙ p.0
      ∙ sym (ap (apply s) (back_again V names back e.1 f h.1)) ∙ apply_then back s (apply names e.1),
  back_under V names back s es f h.2 p.1,
)

-- ---- Arithmetic

equals_speak : (V : Path × ℕ → Type 0) (l : Term) → SpeaksOf V l → (z : Option ℤ) → EquationsSpeakOf V (equals l z)
equals_speak V l h None = ((λ v c. absurd (contains_none v c)), (λ v c. absurd (contains_none v c)), tt)
equals_speak V l h (Some z) = (h, (λ v c. absurd (contains_none v c)), tt)

if_speak : (V : Path × ℕ → Type 0) (b : Bool) → EquationsSpeakOf V (cond b [] (falsehood ∷ []))
if_speak V true = tt
if_speak V false = ((λ v c. absurd (contains_none v c)), (λ v c. absurd (contains_none v c)), tt)

-- what a goal adds speaks of its variables alone
pub added_speak : (V : Path × ℕ → Type 0) (a : Arithmetic) (ts : Terms) → ArithmeticSpeaksOf V a → EquationsSpeakOf V (added a ts)
added_speak V (is l r) none h = tt
added_speak V (is l r) (more t ts) h = equals_speak V l h.0 (value t)
added_speak V (compare o a b) none h = tt
added_speak V (compare o a b) (more x none) h = tt
added_speak V (compare o a b) (more x (more y ts)) h = if_speak V (holds o x y)
