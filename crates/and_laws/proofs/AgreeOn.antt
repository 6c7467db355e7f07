-- Substitutions that agree on some variables, and terms over these.
use Rattle.std.proofs.Common.{ℕ, ◌≡◌, Bool, true, false, true≢false, not, cond, List, [], ◌∷◌, refl, ap, sym, ◌∙◌}
use Rattle.and_model.specs.Terms.{Path, Term, Terms, variable, number, compound, none, more, Substitution, apply, apply_all, framed}
use Rattle.and_model.specs.Solutions.{Equation, Solves}
use Rattle.and_laws.specs.Naming.{Variables, IsOver, AreOver, EquationsOver, others, Agree}

mutual
  -- Where two substitutions agree on some variables, they make the same of a term over these.
  pub agree_term : (v : Variables) (s r : Substitution) → Agree v s r → (t : Term) → IsOver v t → apply r t ≡ apply s t
  agree_term v s r h (variable q k) o = h q k o
  agree_term v s r h (number z) o = refl
  agree_term v s r h (compound c ts) o = ap (compound c) (agree_terms v s r h ts o)

  pub agree_terms : (v : Variables) (s r : Substitution) → Agree v s r → (ts : Terms) → AreOver v ts → apply_all r ts ≡ apply_all s ts
  agree_terms v s r h none o = refl
  agree_terms v s r h (more t ts) o = ap (λ x. more x (apply_all r ts)) (agree_term v s r h t o.0) ∙ ap (λ xs. more (apply s t) xs) (agree_terms v s r h ts o.1)

-- So one solves what the other does.
pub agree_solves : (v : Variables) (s r : Substitution) → Agree v s r → (es : List Equation) → EquationsOver v es → Solves s es → Solves r es
agree_solves v s r h [] o p = tt
agree_solves v s r h (e ∷ es) o p = (agree_term v s r h e.0 o.0 ∙ p.0 ∙ sym (agree_term v s r h e.1 o.1), agree_solves v s r h es o.2 p.1)

-- the first substitution on some variables, and the second on the others
abbrev pub patched : Variables → Substitution → Substitution → Substitution
patched f s r q k = cond (f q k) (s q k) (r q k)

cond_true : (b : Bool) (x y : Term) → b ≡ true → cond b x y ≡ x
cond_true true x y e = refl
cond_true false x y e = absurd (true≢false (sym e))

cond_not : (b : Bool) (x y : Term) → not b ≡ true → cond b x y ≡ y
cond_not true x y e = absurd (true≢false (sym e))
cond_not false x y e = refl

pub patched_agrees : (f : Variables) (s r : Substitution) → Agree f s (patched f s r)
patched_agrees f s r q k e = cond_true (f q k) (s q k) (r q k) e

pub patched_others : (f : Variables) (s r : Substitution) → Agree (others f) r (patched f s r)
patched_others f s r q k e = cond_not (f q k) (s q k) (r q k) e

mutual
  -- A term in a frame all of whose variables are among these is over them.
  pub over_framed : (v : Variables) (q : Path) → ((k : ℕ) → v q k ≡ true) → (t : Term) → IsOver v (framed q t)
  over_framed v q h (variable p k) = h k
  over_framed v q h (number z) = tt
  over_framed v q h (compound c ts) = all_over_framed v q h ts

  pub all_over_framed : (v : Variables) (q : Path) → ((k : ℕ) → v q k ≡ true) → (ts : Terms) → AreOver v (apply_all (λ r k. variable q k) ts)
  all_over_framed v q h none = tt
  all_over_framed v q h (more t ts) = (over_framed v q h t, all_over_framed v q h ts)
