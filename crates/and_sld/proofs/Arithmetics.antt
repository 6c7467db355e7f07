-- Arithmetic goals under substitutions: as their terms are.
use Rattle.std.proofs.Common.{◌≡◌, List, [], ◌∷◌, map, refl, ap, sym, ◌∙◌}
use Rattle.and_model.specs.Terms.{Path, Term, Substitution, apply}
use Rattle.and_model.specs.Programs.{Arithmetic, is, compare, arithmetic_in}
use Rattle.and_model.specs.Lines.{goal_term}
use Rattle.and_laws.proofs.Substitutions.{apply_same, same, then, apply_then}
use Rattle.and_sld.specs.Resolution.{apply_arithmetic, moved}

pub term_under : (s : Substitution) (a : Arithmetic) → goal_term (apply_arithmetic s a) ≡ apply s (goal_term a)
term_under s (is l r) = refl
term_under s (compare m a b) = refl

pub terms_under : (s : Substitution) (gs : List Arithmetic) → map goal_term (map (apply_arithmetic s) gs) ≡ map (apply s) (map goal_term gs)
terms_under s [] = refl
terms_under s (g ∷ gs) = ap (λ x. x ∷ map goal_term (map (apply_arithmetic s) gs)) (term_under s g) ∙ ap (λ l. apply s (goal_term g) ∷ l) (terms_under s gs)

-- what makes the same of its term makes the same of a goal
pub alike : (s t : Substitution) (a : Arithmetic) → apply s (goal_term a) ≡ apply t (goal_term a) → apply_arithmetic s a ≡ apply_arithmetic t a
alike s t (is l r) e = cc
alike s t (compare m a b) e = cc

pub arithmetic_then : (r s : Substitution) (a : Arithmetic) → apply_arithmetic s (apply_arithmetic r a) ≡ apply_arithmetic (then r s) a
arithmetic_then r s (is a b) = ap (λ x. is x (apply s (apply r b))) (apply_then r s a) ∙ ap (λ y. is (apply (then r s) a) y) (apply_then r s b)
arithmetic_then r s (compare m a b) =
    ap (λ x. compare m x (apply s (apply r b))) (apply_then r s a) ∙ ap (λ y. compare m (apply (then r s) a) y) (apply_then r s b)

pub arithmetic_same : (a : Arithmetic) → apply_arithmetic same a ≡ a
arithmetic_same (is a b) = ap (λ x. is x (apply same b)) (apply_same a) ∙ ap (λ y. is a y) (apply_same b)
arithmetic_same (compare m a b) = ap (λ x. compare m x (apply same b)) (apply_same a) ∙ ap (λ y. compare m a y) (apply_same b)

pub goals_same : (gs : List Arithmetic) → map (apply_arithmetic same) gs ≡ gs
goals_same [] = refl
goals_same (g ∷ gs) = ap (λ x. x ∷ map (apply_arithmetic same) gs) (arithmetic_same g) ∙ ap (λ l. g ∷ l) (goals_same gs)

-- in a frame
pub arithmetic_framed : (q : Path) (a : Arithmetic) → arithmetic_in q a ≡ apply_arithmetic (moved q) a
arithmetic_framed q (is l r) = refl
arithmetic_framed q (compare m a b) = refl

-- A goal that is another under r, and goes on by s, is that under t where its term is.
pub goes_on : (r s t : Substitution) (a x : Arithmetic) → x ≡ apply_arithmetic r a → apply s (apply r (goal_term a)) ≡ apply t (goal_term a)
    → apply_arithmetic s x ≡ apply_arithmetic t a
goes_on r s t a x e h = ap (apply_arithmetic s) e ∙ arithmetic_then r s a ∙ alike (then r s) t a (sym (apply_then r s (goal_term a)) ∙ h)

-- one substitution is another after a third
pub goals_via : (s r t : Substitution) → ((x : Term) → apply t x ≡ apply r (apply s x))
    → (gs : List Arithmetic) → map (apply_arithmetic t) gs ≡ map (apply_arithmetic r) (map (apply_arithmetic s) gs)
goals_via s r t h [] = refl
goals_via s r t h (g ∷ gs) =
    ap (λ x. x ∷ map (apply_arithmetic t) gs) (alike t (then s r) g (h (goal_term g) ∙ apply_then s r (goal_term g)) ∙ sym (arithmetic_then s r g))
    ∙ ap (λ l. apply_arithmetic r (apply_arithmetic s g) ∷ l) (goals_via s r t h gs)

-- the same for a goal's two terms
pub goals_alike : (s t : Substitution) → (gs : List Arithmetic) → map (apply s) (map goal_term gs) ≡ map (apply t) (map goal_term gs)
    → map (apply_arithmetic s) gs ≡ map (apply_arithmetic t) gs
goals_alike s t [] e = refl
goals_alike s t (g ∷ gs) e =
    ap (λ x. x ∷ map (apply_arithmetic s) gs) (alike s t g (cc)) ∙ ap (λ l. apply_arithmetic t g ∷ l) (goals_alike s t gs (cc))
