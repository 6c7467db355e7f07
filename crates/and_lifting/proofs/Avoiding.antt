-- Terms that have no variable of some frames: they are the same under substitutions that agree on the other frames.
use Rattle.std.proofs.Common.{ℕ, ◌≡◌, List, [], ◌∷◌, ◌++◌, map, refl, ap, sym, ◌∙◌}
use Rattle.and_model.specs.Terms.{Path, Term, Terms, variable, framed, Substitution, apply, apply_all}
use Rattle.and_model.specs.Solutions.{Equation, Solves}
use Rattle.and_model.specs.Programs.{Arithmetic, is, compare, arithmetic_in}
use Rattle.and_laws.proofs.Solving.{solves_join, solves_front, solves_back}
use Rattle.and_lifting.proofs.Renaming.{applied, framed_term, framed_terms}

-- some frames
abbrev pub Frames : Type 1
Frames = Path → Type 0

-- the two give the variables of all other frames the same terms
abbrev pub AgreeOutside : Frames → Substitution → Substitution → Type 0
AgreeOutside U s r = (q : Path) → (U q → ⊥) → (k : ℕ) → s q k ≡ r q k

abbrev pub Avoids : Frames → Term → Type 0
Avoids U t = (s r : Substitution) → AgreeOutside U s r → apply s t ≡ apply r t

abbrev pub AllAvoid : Frames → Terms → Type 0
AllAvoid U ts = (s r : Substitution) → AgreeOutside U s r → apply_all s ts ≡ apply_all r ts

abbrev pub GoalAvoids : Frames → Arithmetic → Type 0
GoalAvoids U a = (s r : Substitution) → AgreeOutside U s r → applied s a ≡ applied r a

abbrev pub GoalsAvoid : Frames → List Arithmetic → Type 0
GoalsAvoid U gs = (s r : Substitution) → AgreeOutside U s r → map (applied s) gs ≡ map (applied r) gs

abbrev pub EquationsAvoid : Frames → List Equation → Type 0
EquationsAvoid U es = (s r : Substitution) → AgreeOutside U s r → Solves s es → Solves r es

-- fewer frames
abbrev pub Narrower : Frames → Frames → Type 0
Narrower V U = (q : Path) → V q → U q

pub agree_wider : (V U : Frames) (s r : Substitution) → Narrower V U → AgreeOutside V s r → AgreeOutside U s r
agree_wider V U s r n a q h k = a q (λ v. h (n q v)) k

-- A term in a frame has no variable of others,
pub framed_avoids : (V : Frames) (p : Path) (t : Term) → (V p → ⊥) → Avoids V (framed p t)
framed_avoids V p t h s r a = framed_term s r p p (λ k. a p h k) t

pub framed_all_avoid : (V : Frames) (p : Path) (ts : Terms) → (V p → ⊥) → AllAvoid V (apply_all (λ f k. variable p k) ts)
framed_all_avoid V p ts h s r a = framed_terms s r p p (λ k. a p h k) ts

pub goal_avoids : (V : Frames) (p : Path) (a : Arithmetic) → (V p → ⊥) → GoalAvoids V (arithmetic_in p a)
goal_avoids V p (is l x) h s r a = ap (λ z. is z (apply s (framed p x))) (framed_avoids V p l h s r a)
    ∙ ap (λ z. is (apply r (framed p l)) z) (framed_avoids V p x h s r a)
goal_avoids V p (compare m x y) h s r a =
    ap (λ z. compare m z (apply s (framed p y))) (framed_avoids V p x h s r a) ∙ ap (λ z. compare m (apply r (framed p x)) z) (framed_avoids V p y h s r a)

-- one more goal at the end
pub goals_avoid_more : (U : Frames) (gs : List Arithmetic) (a : Arithmetic) → GoalsAvoid U gs → GoalAvoids U a → GoalsAvoid U (gs ++ a ∷ [])
goals_avoid_more U gs a h g s r e = maps s gs ∙ ap (λ xs. xs ++ applied s a ∷ []) (h s r e) ∙ ap (λ x. map (applied r) gs ++ x ∷ []) (g s r e)
    ∙ sym (maps r gs)
  where
    maps : (u : Substitution) (xs : List Arithmetic) → map (applied u) (xs ++ a ∷ []) ≡ map (applied u) xs ++ applied u a ∷ []
    maps u [] = refl
    maps u (x ∷ xs) = ap (λ ys. applied u x ∷ ys) (maps u xs)

-- one more equation at the end
pub equations_avoid_more : (U : Frames) (es : List Equation) (a b : Term) → EquationsAvoid U es → Avoids U a → Avoids U b
    → EquationsAvoid U (es ++ (a, b) ∷ [])
equations_avoid_more U es a b h x y s r e p =
    let last : Solves s ((a, b) ∷ []) = solves_back s es ((a, b) ∷ []) p in
    solves_join r es ((a, b) ∷ []) (h s r e (solves_front s es ((a, b) ∷ []) p)) (sym (x s r e) ∙ last.0 ∙ y s r e, tt)
