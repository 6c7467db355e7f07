-- Equations of a program with disjunctions and of the lifted one, and what they close to.
use Rattle.std.proofs.Common.{ℤ, ◌≡◌, Bool, true, false, cond, List, [], ◌∷◌, ◌++◌, map, Option, Some, None, refl, ap, sym, ◌∙◌, subst}
use Rattle.and_model.specs.Terms.{Term, Terms, number, none, more, Substitution, apply, apply_all}
use Rattle.and_model.specs.Solutions.{Equation, Solves, MostGeneral, falsehood}
use Rattle.and_model.specs.Arithmetic.{value, holds}
use Rattle.and_model.specs.Programs.{Arithmetic, is, compare}
use Rattle.and_model.specs.Closure.{needs, added, equals, Known, First, first, after, NoneReady, Closes}
use Rattle.and_laws.proofs.Substitutions.{Through, apply_through, apply_all_through, then, apply_then, apply_all_then}
use Rattle.and_lifting.proofs.Renaming.{applied}

-- The lifted equations have more variables, each of which stands for one of the others, as `up` says.
pub record Extends (up : Substitution) (es ds : List Equation) : Type 0 where
  -- What solves the lifted ones solves the others,
  pub entails : (s : Substitution) → Solves s ds → Solves s es
  -- what solves these solves the lifted ones, where each variable is what it stands for,
  pub solved : (s : Substitution) → Solves s es → Solves (then up s) ds
  -- and gives each variable what it gives that for which it stands.
  pub through : (s : Substitution) → Solves s ds → Through up s

-- A pair of equations more.
pub extends_more : (up : Substitution) (es ds : List Equation) (a b c d : Term) → Extends up es ds → apply up c ≡ a → apply up d ≡ b
    → Extends up ((a, b) ∷ es) ((c, d) ∷ ds)
extends_more up es ds a b c d x e f = record {
  entails = λ s p. (
      let t : Through up s = x.through s p.1 in
      (ap (apply s) (sym e) ∙ sym (apply_through up s t c) ∙ p.0 ∙ apply_through up s t d ∙ ap (apply s) f, x.entails s p.1));
  solved = λ s p. (sym (apply_then up s c) ∙ ap (apply s) e ∙ p.0 ∙ ap (apply s) (sym f) ∙ apply_then up s d, x.solved s p.1);
  through = λ s p. x.through s p.1;
}

-- goals stand for those of the other list
abbrev pub GoalsStand : Substitution → List Arithmetic → List Arithmetic → Type 0
GoalsStand up gs hs = gs ≡ map (applied up) hs

needs_stand : (up s : Substitution) (h : Arithmetic) → apply_all s (needs (applied up h)) ≡ apply_all s (apply_all up (needs h))
needs_stand up s (is l r) = refl
needs_stand up s (compare m a b) = refl

-- What is known under the ones is known under the others.
known_down : (up : Substitution) (es ds : List Equation) (h : Arithmetic) (ts : Terms) → Extends up es ds → Known es (applied up h) ts → Known ds h ts
known_down up es ds h ts x k = (
  k.0,
  λ s p. apply_all_through up s (x.through s p) (needs h) ∙ sym (needs_stand up s h) ∙ k.1 s (x.entails s p),
)

known_up : (up : Substitution) (es ds : List Equation) (h : Arithmetic) (ts : Terms) → Extends up es ds → Known ds h ts → Known es (applied up h) ts
known_up up es ds h ts x k = (k.0, λ s p. needs_stand up s h ∙ apply_all_then up s (needs h) ∙ k.1 (then up s) (x.solved s p))

-- A goal that is run adds the same.
extends_falsehood : (up : Substitution) (es ds : List Equation) → Extends up es ds → Extends up (falsehood ∷ es) (falsehood ∷ ds)
extends_falsehood up es ds x = extends_more up es ds falsehood.0 falsehood.1 falsehood.0 falsehood.1 x refl refl

extends_equals : (up : Substitution) (es ds : List Equation) (l : Term) (z : Option ℤ) → Extends up es ds
    → Extends up (equals (apply up l) z ++ es) (equals l z ++ ds)
extends_equals up es ds l None x = extends_falsehood up es ds x
extends_equals up es ds l (Some z) x = extends_more up es ds (apply up l) (number z) l (number z) x refl refl

extends_test : (up : Substitution) (es ds : List Equation) (b : Bool) → Extends up es ds
    → Extends up (cond b [] (falsehood ∷ []) ++ es) (cond b [] (falsehood ∷ []) ++ ds)
extends_test up es ds true x = x
extends_test up es ds false x = extends_falsehood up es ds x

extends_added : (up : Substitution) (es ds : List Equation) (h : Arithmetic) (ts : Terms) → Extends up es ds
    → Extends up (added (applied up h) ts ++ es) (added h ts ++ ds)
extends_added up es ds (is l r) none x = x
extends_added up es ds (is l r) (more t ts) x = extends_equals up es ds l (value t) x
extends_added up es ds (compare m a b) none x = x
extends_added up es ds (compare m a b) (more t none) x = x
extends_added up es ds (compare m a b) (more t (more u ts)) x = extends_test up es ds (holds m t u) x

-- none is ready where none of those is for which they stand
none_down : (up : Substitution) (es ds : List Equation) (hs : List Arithmetic) → Extends up es ds → NoneReady es (map (applied up) hs) → NoneReady ds hs
none_down up es ds [] x n = tt
none_down up es ds (h ∷ hs) x n = ((λ r. n.0 (r.0, known_up up es ds h r.0 x r.1)), none_down up es ds hs x n.1)

abbrev pub head_or : Arithmetic → List Arithmetic → Arithmetic
head_or d [] = d
head_or d (a ∷ gs) = a

abbrev tail_of : List Arithmetic → List Arithmetic
tail_of [] = []
tail_of (a ∷ gs) = gs

-- the first goal that is known stands in the same place
record FirstDown (up : Substitution) (ds : List Equation) (hs : List Arithmetic) (g : Arithmetic) (bs : List Arithmetic) : Type 0 where
  pub goal : Arithmetic
  pub others : List Arithmetic
  pub goal_is : g ≡ applied up goal
  pub others_are : GoalsStand up bs others
  pub is_first : First ds hs goal others

first_down : (up : Substitution) (es ds : List Equation) (gs hs : List Arithmetic) (g : Arithmetic) (bs : List Arithmetic) → Extends up es ds
    → GoalsStand up gs hs → First es gs g bs → FirstDown up ds hs g bs
first_down up es ds gs [] g bs x e (first g' gs') = absurd (cc)
first_down up es ds gs (h ∷ hs) g bs x e (first g' gs') =
    record { goal = h; others = hs; goal_is = ap (head_or g') e; others_are = ap tail_of e; is_first = first h hs }
first_down up es ds gs [] g bs x e (after a gs' g' bs' unready f) = absurd (cc)
first_down up es ds gs (h ∷ hs) g bs x e (after a gs' g' bs' unready f) =
    let same : a ≡ applied up h = ap (head_or a) e in
    let r : FirstDown up ds hs g' bs' = first_down up es ds gs' hs g' bs' x (ap tail_of e) f in
    record {
      goal = r.goal;
      others = h ∷ r.others;
      goal_is = r.goal_is;
      others_are = ap (λ y. y ∷ bs') same ∙ ap (λ ys. applied up h ∷ ys) r.others_are;
      is_first = after h hs r.goal r.others (λ k. unready (k.0, subst (λ y. Known es y k.0) (sym same) (known_up up es ds h k.0 x k.1))) r.is_first;
    }

-- the lifted equations and goals close alike
pub record ClosesDown (up : Substitution) (cs : List Equation) (ws : List Arithmetic) (ds : List Equation) (hs : List Arithmetic) : Type 0 where
  pub closed : List Equation
  pub waits : List Arithmetic
  pub closes : Closes ds hs closed waits
  pub extends : Extends up cs closed
  pub waits_stand : GoalsStand up ws waits

pub closes_down : (up : Substitution) (es : List Equation) (gs : List Arithmetic) (cs : List Equation) (ws : List Arithmetic) → Closes es gs cs ws
    → (ds : List Equation) (hs : List Arithmetic) → Extends up es ds → GoalsStand up gs hs → ClosesDown up cs ws ds hs
closes_down up es gs cs ws (Closes.unsolved es' gs' unsolvable) ds hs x e =
    record { closed = ds; waits = hs; closes = Closes.unsolved ds hs (λ s. unsolvable (s.0, x.entails s.0 s.1)); extends = x; waits_stand = e }
closes_down up es gs cs ws (Closes.waiting es' gs' unready) ds hs x e =
    record {
      closed = ds;
      waits = hs;
      closes = Closes.waiting ds hs
          (none_down up es' ds hs x (subst (λ l. NoneReady es' l) e unready));
      extends = x;
      waits_stand = e;
    }
closes_down up es gs cs ws (Closes.run es' gs' g bs ts cs' ws' so f k c) ds hs x e =
    let r : FirstDown up ds hs g bs = first_down up es' ds gs' hs g bs x e f in
    let known : Known ds r.goal ts = known_down up es' ds r.goal ts x (subst (λ y. Known es' y ts) r.goal_is k) in
    let more_of : Extends up (added g ts ++ es') (added r.goal ts ++ ds) = subst (λ y. Extends up (added y ts ++ es') (added r.goal ts ++ ds))
    (sym r.goal_is) (extends_added up es' ds r.goal ts x) in
    let rest = closes_down up (added g ts ++ es') bs cs' ws' c (added r.goal ts ++ ds) r.others more_of r.others_are in
    record {
      closed = rest.closed;
      waits = rest.waits;
      closes = Closes.run ds hs r.goal r.others ts rest.closed rest.waits (then up so.0, x.solved so.0 so.1) r.is_first known rest.closes;
      extends = rest.extends;
      waits_stand = rest.waits_stand;
    }

-- A most general solution of the others, after what each variable stands for, is one of the lifted equations.
pub general_down : (up : Substitution) (es ds : List Equation) (s : Substitution) → Extends up es ds → MostGeneral s es → MostGeneral (then up s) ds
general_down up es ds s x m = (
  x.solved s m.0,
  λ t p q k. (
      let through : Through s t = m.1 t (x.entails t p) in
      x.through t p q k ∙ apply_through s t through (up q k)),
)
