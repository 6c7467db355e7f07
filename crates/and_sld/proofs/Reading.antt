-- How the goal of a derivation is read in the agenda of a tree: as an instance of it.
use Rattle.std.proofs.Common.{ℕ, suc, ◌≡◌, List, [], ◌∷◌, ◌++◌, refl, ap, sym, ◌∙◌, subst}
use Rattle.and_model.specs.Terms.{Path, Term, variable, number, compound, Substitution, apply, framed}
use Rattle.and_model.specs.Solutions.{falsehood}
use Rattle.and_model.specs.Programs.{Item, call, equal, arithmetic, fail, Arithmetic, arithmetic_in}
use Rattle.and_model.specs.Lines.{goal_term}
use Rattle.and_model.specs.Trees.{Agenda, end, goal, equation, reckoning, agenda}
use Rattle.and_laws.proofs.Substitutions.{apply_same, same, then, apply_then}
use Rattle.and_sld.specs.Resolution.{apply_arithmetic, apply_goal, moved, Lacks, GoalLacks}
use Rattle.and_sld.specs.Atoms.{IsAtom, AreAtoms}
use Rattle.and_sld.proofs.Arithmetics.{term_under, arithmetic_then, arithmetic_framed, goes_on}
use Rattle.and_sld.proofs.Fronts.{Over, IsFresh, goal_framed}

-- The goal is the agenda under the substitution, whose calls are atoms.
pub data Reads (τ : Substitution) : Agenda → List Item → Type 0 where
  reads_end : Reads τ end []
  reads_call : (q : Path) (g : Term) (rest : Agenda) (x : Term) (items : List Item) → IsAtom g → x ≡ apply τ g → Reads τ rest items
      → Reads τ (goal q g rest) (call x ∷ items)
  reads_equal : (a b : Term) (rest : Agenda) (x y : Term) (items : List Item) → x ≡ apply τ a → y ≡ apply τ b → Reads τ rest items
      → Reads τ (equation a b rest) (equal x y ∷ items)
  reads_fail : (rest : Agenda) (items : List Item) → Reads τ rest items → Reads τ (equation falsehood.0 falsehood.1 rest) (fail ∷ items)
  reads_reckoning : (a : Arithmetic) (rest : Agenda) (x : Arithmetic) (items : List Item)
      → x ≡ apply_arithmetic τ a → Reads τ rest items → Reads τ (reckoning a rest) (arithmetic x ∷ items)

-- A goal under one more substitution is read by what comes of both,
pub reads_on : (us : List Path) (s τ next : Substitution) → ((x : Term) → Over us x → apply next x ≡ apply s (apply τ x)) → (ag : Agenda) (items : List Item)
    → IsFresh us ag → Reads τ ag items → Reads next ag (apply_goal s items)
reads_on us s τ next h ag items f (reads_end) = reads_end
reads_on us s τ next h ag items f (reads_call q g rest x js a e r) =
    reads_call q g rest (apply s x) (apply_goal s js) a (ap (apply s) e ∙ sym (h g f.1)) (reads_on us s τ next h rest js f.3 r)
reads_on us s τ next h ag items f (reads_equal a b rest x y js d e r) =
    reads_equal a b rest (apply s x) (apply s y) (apply_goal s js) (ap (apply s) d ∙ sym (h a f.0)) (ap (apply s) e ∙ sym (h b f.1))
    (reads_on us s τ next h rest js f.2 r)
reads_on us s τ next h ag items f (reads_fail rest js r) = reads_fail rest (apply_goal s js) (reads_on us s τ next h rest js f.2 r)
reads_on us s τ next h ag items f (reads_reckoning a rest x js e r) =
    reads_reckoning a rest (apply_arithmetic s x) (apply_goal s js) (goes_on τ s next a x e (sym (h (goal_term a) f.0)))
    (reads_on us s τ next h rest js f.1 r)

-- and so is a body before it.
pub reads_body : (s next : Substitution) (q new : Path) → ((x : Term) → apply s (framed new x) ≡ apply next (framed q x))
    → (i : ℕ) (body : List Item) (rest : Agenda) (items : List Item)
    → AreAtoms body → Reads next rest (apply_goal s items) → Reads next (agenda q i body rest) (apply_goal s (apply_goal (moved new) body ++ items))
reads_body s next q new h i [] rest items a r = r
reads_body s next q new h i (call g ∷ body) rest items a r =
    reads_call (q ++ i ∷ []) (framed q g) (agenda q (suc i) body rest) (apply s (framed new g)) (apply_goal s (apply_goal (moved new) body ++ items))
    (atom_framed g a.0) (h g)
    (reads_body s next q new h (suc i) body rest items a.1 r)
  where
    atom_framed : (g : Term) → IsAtom g → IsAtom (framed q g)
    atom_framed (variable p k) a = a
    atom_framed (number z) a = a
    atom_framed (compound c ts) a = a
reads_body s next q new h i (equal b c ∷ body) rest items a r =
    reads_equal (framed q b) (framed q c) (agenda q (suc i) body rest) (apply s (framed new b)) (apply s (framed new c))
    (apply_goal s (apply_goal (moved new) body ++ items)) (h b) (h c)
    (reads_body s next q new h (suc i) body rest items a r)
reads_body s next q new h i (arithmetic b ∷ body) rest items a r =
    reads_reckoning (arithmetic_in q b) (agenda q (suc i) body rest) (apply_arithmetic s (apply_arithmetic (moved new) b))
    (apply_goal s (apply_goal (moved new) body ++ items))
    (
    goes_on (moved new) s (then (moved q) next) b (apply_arithmetic (moved new) b) refl (h (goal_term b) ∙ apply_then (moved q) next (goal_term b))
    ∙ sym (arithmetic_then (moved q) next b) ∙ ap (apply_arithmetic next) (sym (arithmetic_framed q b))
    )
    (reads_body s next q new h (suc i) body rest items a r)
reads_body s next q new h i (fail ∷ body) rest items a r =
    reads_fail (agenda q (suc i) body rest) (apply_goal s (apply_goal (moved new) body ++ items))
    (reads_body s next q new h (suc i) body rest items a r)

-- What the goal becomes by γ is what the agenda becomes by u.
abbrev pub Agrees : Substitution → Substitution → Substitution → Agenda → Type 0
Agrees γ τ u end = Unit {0}
Agrees γ τ u (goal q g rest) = (apply γ (apply τ g) ≡ apply u g) × Agrees γ τ u rest
Agrees γ τ u (equation a b rest) = (apply γ (apply τ a) ≡ apply u a) × (apply γ (apply τ b) ≡ apply u b) × Agrees γ τ u rest
Agrees γ τ u (reckoning a rest) = (apply γ (apply τ (goal_term a)) ≡ apply u (goal_term a)) × Agrees γ τ u rest

pub agrees_same : (u : Substitution) (ag : Agenda) → Agrees u same u ag
agrees_same u end = tt
agrees_same u (goal q g rest) = (ap (apply u) (apply_same g), agrees_same u rest)
agrees_same u (equation a b rest) = (ap (apply u) (apply_same a), ap (apply u) (apply_same b), agrees_same u rest)
agrees_same u (reckoning a rest) = (ap (apply u) (apply_same (goal_term a)), agrees_same u rest)

-- It stays so for the rest of a goal that lacks the new frame,
pub agrees_on : (us : List Path) (new : Path) (γ τ δ next u : Substitution)
    → ((x : Term) → Over us x → Lacks new (apply τ x) → apply δ (apply next x) ≡ apply γ (apply τ x))
    → (ag : Agenda) (items : List Item) → IsFresh us ag → Reads τ ag items → GoalLacks new items → Agrees γ τ u ag → Agrees δ next u ag
agrees_on us new γ τ δ next u h ag items f (reads_end) l a = tt
agrees_on us new γ τ δ next u h ag items f (reads_call q g rest x js at e r) l a =
    (h g f.1 (subst (λ y. Lacks new y) e l.0) ∙ a.0, agrees_on us new γ τ δ next u h rest js f.3 r l.1 a.1)
agrees_on us new γ τ δ next u h ag items f (reads_equal b c rest x y js d e r) l a = (
  h b f.0 (subst (λ z. Lacks new z) d l.0) ∙ a.0,
  h c f.1 (subst (λ z. Lacks new z) e l.1) ∙ a.1,
  agrees_on us new γ τ δ next u h rest js f.2 r l.2 a.2,
)
agrees_on us new γ τ δ next u h ag items f (reads_fail rest js r) l a = (refl, refl, agrees_on us new γ τ δ next u h rest js f.2 r l a.2)
agrees_on us new γ τ δ next u h ag items f (reads_reckoning b rest x js e r) l a =
    (h (goal_term b) f.0 (subst (λ y. Lacks new y) (ap goal_term e ∙ term_under τ b) l.0) ∙ a.0, agrees_on us new γ τ δ next u h rest js f.1 r l.1 a.1)

-- for all terms alike,
pub agrees_all : (γ τ δ next u : Substitution) → ((x : Term) → apply δ (apply next x) ≡ apply γ (apply τ x)) → (ag : Agenda) → Agrees γ τ u ag
    → Agrees δ next u ag
agrees_all γ τ δ next u h end a = tt
agrees_all γ τ δ next u h (goal q g rest) a = (h g ∙ a.0, agrees_all γ τ δ next u h rest a.1)
agrees_all γ τ δ next u h (equation b c rest) a = (h b ∙ a.0, h c ∙ a.1, agrees_all γ τ δ next u h rest a.2)
agrees_all γ τ δ next u h (reckoning b rest) a = (h (goal_term b) ∙ a.0, agrees_all γ τ δ next u h rest a.1)

-- and for a body before it.
pub agrees_body : (δ next u : Substitution) (q : Path) → ((x : Term) → apply δ (apply next (framed q x)) ≡ apply u (framed q x))
    → (i : ℕ) (body : List Item) (rest : Agenda)
    → Agrees δ next u rest → Agrees δ next u (agenda q i body rest)
agrees_body δ next u q h i [] rest a = a
agrees_body δ next u q h i (call g ∷ body) rest a = (h g, agrees_body δ next u q h (suc i) body rest a)
agrees_body δ next u q h i (equal b c ∷ body) rest a = (h b, h c, agrees_body δ next u q h (suc i) body rest a)
agrees_body δ next u q h i (arithmetic b ∷ body) rest a =
    (subst (λ t. apply δ (apply next t) ≡ apply u t) (sym (goal_framed q b)) (h (goal_term b)), agrees_body δ next u q h (suc i) body rest a)
agrees_body δ next u q h i (fail ∷ body) rest a = (refl, refl, agrees_body δ next u q h (suc i) body rest a)
