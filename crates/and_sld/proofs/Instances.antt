-- Substitutions at one step: what the goal is an instance of by, and what it is solved by.
use Rattle.std.proofs.Common.{ℕ, zero, suc, ◌≡◌, ◌+◌, ◌<◌, ◌≤◌, length, List, [], ◌∷◌, map, refl}
use Rattle.std.proofs.Common.{ap, ◌∙◌, subst, inl, inr, arith, nat_eq, Bool, true, ◌&&◌, ltb, leb, eq-eqb}
use Rattle.std.proofs.lemmas.Bool.{lt-ltb, le-leb}
use Rattle.and_model.specs.Terms.{Path, Term, Terms, variable, number, compound, none, more, Substitution, apply, apply_all, framed}
use Rattle.and_model.specs.Programs.{Program, Item, call, equal, arithmetic, fail, Arithmetic, clause_at, same_count, same_predicate, Of}
use Rattle.and_model.specs.Lines.{goal_term}
use Rattle.and_laws.proofs.Equality.{path_or}
use Rattle.and_sld.specs.Resolution.{apply_arithmetic, Lacks, LackAll, ListLacks, GoalLacks, IsNew, In}
use Rattle.and_sld.specs.Atoms.{IsAtom}
use Rattle.and_sld.proofs.Arithmetics.{goals_alike}
use Rattle.and_sld.proofs.Fronts.{Over, OverAll}

-- one substitution is another after a third, where these make the same of the variables of frames in the list
mutual
  pub over_via : (us : List Path) (s r t : Substitution) → ((p : Path) (k : ℕ) → In p us → t p k ≡ apply r (s p k)) → (x : Term) → Over us x
      → apply t x ≡ apply r (apply s x)
  over_via us s r t h (variable p k) o = h p k o
  over_via us s r t h (number z) o = refl
  over_via us s r t h (compound c ts) o = ap (compound c) (over_all_via us s r t h ts o)

  over_all_via : (us : List Path) (s r t : Substitution) → ((p : Path) (k : ℕ) → In p us → t p k ≡ apply r (s p k)) → (xs : Terms) → OverAll us xs
      → apply_all t xs ≡ apply_all r (apply_all s xs)
  over_all_via us s r t h none o = refl
  over_all_via us s r t h (more x xs) o =
      ap (λ y. more y (apply_all t xs)) (over_via us s r t h x o.0)
      ∙ ap (λ ys. more (apply r (apply s x)) ys) (over_all_via us s r t h xs o.1)

-- the same of all variables
mutual
  pub via : (s r t : Substitution) → ((p : Path) (k : ℕ) → t p k ≡ apply r (s p k)) → (x : Term) → apply t x ≡ apply r (apply s x)
  via s r t h (variable p k) = h p k
  via s r t h (number z) = refl
  via s r t h (compound c ts) = ap (compound c) (all_via s r t h ts)

  all_via : (s r t : Substitution) → ((p : Path) (k : ℕ) → t p k ≡ apply r (s p k)) → (xs : Terms) → apply_all t xs ≡ apply_all r (apply_all s xs)
  all_via s r t h none = refl
  all_via s r t h (more x xs) = ap (λ y. more y (apply_all t xs)) (via s r t h x) ∙ ap (λ ys. more (apply r (apply s x)) ys) (all_via s r t h xs)

pub list_via : (s r t : Substitution) → ((p : Path) (k : ℕ) → t p k ≡ apply r (s p k)) → (xs : List Term)
    → map (apply t) xs ≡ map (apply r) (map (apply s) xs)
list_via s r t h [] = refl
list_via s r t h (x ∷ xs) = ap (λ y. y ∷ map (apply t) xs) (via s r t h x) ∙ ap (λ ys. apply r (apply s x) ∷ ys) (list_via s r t h xs)

-- a term of a clause in two frames
mutual
  pub in_frames : (s t : Substitution) (q p : Path) → ((k : ℕ) → s q k ≡ t p k) → (x : Term) → apply s (framed q x) ≡ apply t (framed p x)
  in_frames s t q p h (variable r k) = h k
  in_frames s t q p h (number z) = refl
  in_frames s t q p h (compound c ts) = ap (compound c) (all_in_frames s t q p h ts)

  all_in_frames : (s t : Substitution) (q p : Path) → ((k : ℕ) → s q k ≡ t p k) → (xs : Terms)
      → apply_all s (apply_all (λ r k. variable q k) xs) ≡ apply_all t (apply_all (λ r k. variable p k) xs)
  all_in_frames s t q p h none = refl
  all_in_frames s t q p h (more x xs) =
      ap (λ y. more y (apply_all s (apply_all (λ r k. variable q k) xs))) (in_frames s t q p h x) ∙ ap (λ ys. more (apply t (framed p x)) ys)
      (all_in_frames s t q p h xs)

-- The tree's variables after a step by s: those of the clause's frame q are what s gives those of the new frame, and all others go on.
pub stepped : Path → Path → Substitution → Substitution → Substitution
stepped q new s τ = λ p k. elim (path_or p q) [ inl e ↦ s new k | inr n ↦ apply s (τ p k) ]

pub stepped_own : (q new : Path) (s τ : Substitution) (k : ℕ) → stepped q new s τ q k ≡ s new k
unfolding stepped
stepped_own q new s τ k = elim (path_or q q) as (λ d. elim d [ inl e ↦ s new k | inr n ↦ apply s (τ q k) ] ≡ s new k) [
  | inl e ↦ refl
  | inr n ↦ absurd (n refl)
]

pub stepped_other : (q new : Path) (s τ : Substitution) (p : Path) (k : ℕ) → (p ≡ q → ⊥) → stepped q new s τ p k ≡ apply s (τ p k)
unfolding stepped
stepped_other q new s τ p k h = elim (path_or p q) as (λ d. elim d [ inl e ↦ s new k | inr n ↦ apply s (τ p k) ] ≡ apply s (τ p k)) [
  | inl e ↦ absurd (h e)
  | inr n ↦ refl
]

-- What solves the tree, for the variables of the goal: those of the new frame are given what u gives those of q.
pub patched : Path → Path → Substitution → Substitution → Substitution
patched q new u γ = λ p k. elim (path_or p new) [ inl e ↦ u q k | inr n ↦ γ p k ]

pub patched_own : (q new : Path) (u γ : Substitution) (k : ℕ) → patched q new u γ new k ≡ u q k
unfolding patched
patched_own q new u γ k = elim (path_or new new) as (λ d. elim d [ inl e ↦ u q k | inr n ↦ γ new k ] ≡ u q k) [ inl e ↦ refl | inr n ↦ absurd (n refl) ]

pub patched_other : (q new : Path) (u γ : Substitution) (p : Path) (k : ℕ) → (p ≡ new → ⊥) → patched q new u γ p k ≡ γ p k
unfolding patched
patched_other q new u γ p k h = elim (path_or p new) as (λ d. elim d [ inl e ↦ u q k | inr n ↦ γ p k ] ≡ γ p k) [ inl e ↦ absurd (h e) | inr n ↦ refl ]

mutual
  pub patched_lacks : (q new : Path) (u γ : Substitution) (x : Term) → Lacks new x → apply (patched q new u γ) x ≡ apply γ x
  patched_lacks q new u γ (variable p k) h = patched_other q new u γ p k h
  patched_lacks q new u γ (number z) h = refl
  patched_lacks q new u γ (compound c ts) h = ap (compound c) (patched_all q new u γ ts h)

  patched_all : (q new : Path) (u γ : Substitution) (xs : Terms) → LackAll new xs → apply_all (patched q new u γ) xs ≡ apply_all γ xs
  patched_all q new u γ none h = refl
  patched_all q new u γ (more x xs) h =
      ap (λ y. more y (apply_all (patched q new u γ) xs)) (patched_lacks q new u γ x h.0)
      ∙ ap (λ ys. more (apply γ x) ys) (patched_all q new u γ xs h.1)

pub patched_list : (q new : Path) (u γ : Substitution) (xs : List Term) → ListLacks new xs → map (apply (patched q new u γ)) xs ≡ map (apply γ) xs
patched_list q new u γ [] h = refl
patched_list q new u γ (x ∷ xs) h =
    ap (λ y. y ∷ map (apply (patched q new u γ)) xs) (patched_lacks q new u γ x h.0)
    ∙ ap (λ ys. apply γ x ∷ ys) (patched_list q new u γ xs h.1)

pub patched_goals : (q new : Path) (u γ : Substitution) (gs : List Arithmetic) → ListLacks new (map goal_term gs)
    → map (apply_arithmetic (patched q new u γ)) gs ≡ map (apply_arithmetic γ) gs
patched_goals q new u γ gs h = goals_alike (patched q new u γ) γ gs (patched_list q new u γ (map goal_term gs) h)

-- how long the paths of a term are
abbrev mutual
  spread : Term → ℕ
  spread (variable p k) = length p
  spread (number z) = 0
  spread (compound c ts) = spread_all ts

  spread_all : Terms → ℕ
  spread_all none = 0
  spread_all (more t ts) = spread t + spread_all ts

abbrev spread_list : List Term → ℕ
spread_list [] = 0
spread_list (t ∷ ts) = spread t + spread_list ts

abbrev spread_goal : List Item → ℕ
spread_goal [] = 0
spread_goal (call g ∷ items) = spread g + spread_goal items
spread_goal (equal a b ∷ items) = spread a + spread b + spread_goal items
spread_goal (arithmetic a ∷ items) = spread (goal_term a) + spread_goal items
spread_goal (fail ∷ items) = spread_goal items

-- a path that is longer stands in none
mutual
  lacks_long : (q : Path) (t : Term) → spread t < length q → Lacks q t
  lacks_long q (variable p k) h = λ e. omega (arith, h, ap length e)
  lacks_long q (number z) h = tt
  lacks_long q (compound c ts) h = all_lack_long q ts h

  all_lack_long : (q : Path) (ts : Terms) → spread_all ts < length q → LackAll q ts
  all_lack_long q none h = tt
  all_lack_long q (more t ts) h = (lacks_long q t (omega (arith, h)), all_lack_long q ts (omega (arith, h)))

list_lacks_long : (q : Path) (ts : List Term) → spread_list ts < length q → ListLacks q ts
list_lacks_long q [] h = tt
list_lacks_long q (t ∷ ts) h = (lacks_long q t (omega (arith, h)), list_lacks_long q ts (omega (arith, h)))

goal_lacks_long : (q : Path) (items : List Item) → spread_goal items < length q → GoalLacks q items
goal_lacks_long q [] h = tt
goal_lacks_long q (call g ∷ items) h = (lacks_long q g (omega (arith, h)), goal_lacks_long q items (omega (arith, h)))
goal_lacks_long q (equal a b ∷ items) h = (lacks_long q a (omega (arith, h)), lacks_long q b (omega (arith, h)), goal_lacks_long q items (omega (arith, h)))
goal_lacks_long q (arithmetic a ∷ items) h = (lacks_long q (goal_term a) (omega (arith, h)), goal_lacks_long q items (omega (arith, h)))
goal_lacks_long q (fail ∷ items) h = goal_lacks_long q items h

long : ℕ → Path
long zero = []
long (suc n) = 0 ∷ long n

length_long : (n : ℕ) → length (long n) ≡ n
unfolding long
length_long zero = refl
length_long (suc n) = ap suc (length_long n)

abbrev spread_paths : List Path → ℕ
spread_paths [] = 0
spread_paths (p ∷ ps) = length p + spread_paths ps

none_of_long : (q : Path) (ps : List Path) → spread_paths ps < length q → In q ps → ⊥
none_of_long q [] h i = i
none_of_long q (p ∷ ps) h i = elim i [ inl e ↦ omega (arith, h, ap length e) | inr j ↦ none_of_long q ps (omega (arith, h)) j ]

-- There is always a new frame.
pub new_frame : (frames : List Path) (passed : List Arithmetic) (goal : List Item) (values : List Term) → (q : Path) × IsNew q frames passed goal values
new_frame frames passed goal values =
    let n : ℕ = suc (spread_paths frames + spread_list (map goal_term passed) + spread_goal goal + spread_list values) in
    let l : length (long n) ≡ n = length_long n in (
      long n,
      (
        none_of_long (long n) frames (omega (arith, l)),
        list_lacks_long (long n) (map goal_term passed) (omega (arith, l)),
        goal_lacks_long (long n) goal (omega (arith, l)),
        list_lacks_long (long n) values (omega (arith, l)),
      ),
    )

-- Arguments that have a unifier are as many.
same_counts : (s t : Substitution) (xs ys : Terms) → apply_all s xs ≡ apply_all t ys → same_count xs ys ≡ true
same_counts s t none none e = refl
same_counts s t none (more y ys) e = absurd (cc)
same_counts s t (more x xs) none e = absurd (cc)
same_counts s t (more x xs) (more y ys) e = same_counts s t xs ys (cc)

all_true : (a b c d : Bool) → a ≡ true → b ≡ true → c ≡ true → d ≡ true → a && b && (c && d) ≡ true
all_true a b c d e f g h = rw (e, f, g, h) refl

-- So a clause whose head unifies with an atom is of its predicate.
of_unified : (P : Program) (s t : Substitution) (g head : Term) (c : ℕ) → head ≡ (clause_at P c).head → IsAtom g → IsAtom head → 0 < c → c ≤ length P.clauses
    → apply s g ≡ apply t head → Of P g c
of_unified P s t (variable q k) head c w a b low high e = elim a [ ]
of_unified P s t (number z) head c w a b low high e = elim a [ ]
of_unified P s t (compound n xs) (variable q k) c w a b low high e = elim b [ ]
of_unified P s t (compound n xs) (number z) c w a b low high e = elim b [ ]
of_unified P s t (compound n xs) (compound m ys) c w a b low high e =
    subst (λ h. ltb 0 c && leb c (length P.clauses) && same_predicate (compound n xs) h ≡ true) w
    (all_true (ltb 0 c) (leb c (length P.clauses)) (nat_eq n m) (same_count xs ys)
    (lt-ltb 0 c low) (le-leb c (length P.clauses) high) (eq-eqb n m (cc)) (same_counts s t xs ys (cc)))

pub of_unifiable : (P : Program) (s t : Substitution) (g : Term) (c : ℕ) → IsAtom g → IsAtom (clause_at P c).head → 0 < c → c ≤ length P.clauses
    → apply s g ≡ apply t (clause_at P c).head → Of P g c
of_unifiable P s t g c a b low high e = of_unified P s t g (clause_at P c).head c refl a b low high e
