-- Unification: each list of equations has a most general solution, or no solution (Robinson, 1965; Lloyd, section 4).
-- By induction on the number of variables, and within this on the size of the equations.
use Rattle.std.proofs.Common.{ℕ, ◌≡◌, ◌+◌, ◌≤◌, List, [], ◌∷◌, ◌++◌, refl, ap, sym, ◌∙◌, subst, inl, inr, ◌⊎◌, arith, zero, suc, length}
use Rattle.and_model.specs.Terms.{Path, Term, Terms, variable, number, compound, none, more, variables_of, Substitution, apply, apply_all}
use Rattle.and_model.specs.Solutions.{Equation, Solves, Solvable, Entails, MostGeneral}
use Rattle.and_laws.proofs.Substitutions.{apply_through, then, apply_then}
use Rattle.and_laws.proofs.Solving.{solves_join, solves_front, solves_back}
use Rattle.and_laws.proofs.Equality.{number_or, variable_or, integer_or}
use Rattle.and_laws.proofs.Occurrences.{Variables, Has, Within, AllWithin, Absent, AllAbsent, all_absent_or, Lacks, take_out, has_still, within_absent}
use Rattle.and_laws.proofs.Occurrences.{within_more, has_left, has_right, variables_within}
use Rattle.and_laws.specs.Sizes.{size, sizes}

-- (In this file f and g are the paths of frames, and n and m the numbers of variables.)

-- what is to be shown of each list
pub Decision : List Equation → Type 0
Decision es = ((s : Substitution) × MostGeneral s es) ⊎ (Solvable es → ⊥)

-- lists that entail each other are decided alike
pub same_decision : (es ds : List Equation) → Entails es ds → Entails ds es → Decision es → Decision ds
unfolding Decision
same_decision es ds f b (inl m) = inl (m.0, (f m.0 m.1.0, λ t p. m.1.1 t (b t p)))
same_decision es ds f b (inr n) = inr (λ so. n (so.0, b so.0 so.1))

-- the substitution that gives the variable this term, and leaves all others
pub single : Path → ℕ → Term → Substitution
single f n t = λ g m. elim (variable_or f n g m) [ inl e ↦ t | inr k ↦ variable g m ]

-- the variable's image
pub single_same : (f : Path) (n : ℕ) (t : Term) → single f n t f n ≡ t
unfolding single
single_same f n t = elim (variable_or f n f n) as (λ d. elim d [ inl e ↦ t | inr k ↦ variable f n ] ≡ t) [ inl e ↦ refl | inr k ↦ absurd (k refl refl) ]

-- and that of another
pub single_other : (f : Path) (n : ℕ) (t : Term) (g : Path) (m : ℕ) → (f ≡ g → n ≡ m → ⊥) → single f n t g m ≡ variable g m
unfolding single
single_other f n t g m h =
    elim (variable_or f n g m) as (λ d. elim d [ inl e ↦ t | inr k ↦ variable g m ] ≡ variable g m) [ inl e ↦ absurd (h e.0 e.1) | inr k ↦ refl ]

-- a substitution that gives the variable what it gives the term goes through it
pub single_under : (s : Substitution) (f : Path) (n : ℕ) (t : Term) → s f n ≡ apply s t → (g : Path) (m : ℕ) → s g m ≡ apply s (single f n t g m)
unfolding single
single_under s f n t h g m = elim (variable_or f n g m) as (λ d. s g m ≡ apply s (elim d [ inl e ↦ t | inr k ↦ variable g m ]))
    [ inl e ↦ (let same : s g m ≡ s f n = cc in same ∙ h) | inr k ↦ refl ]

-- a term without the variable stays as it is
mutual
  pub absent_stays : (f : Path) (n : ℕ) (t u : Term) → Absent f n u → apply (single f n t) u ≡ u
  absent_stays f n t (variable g m) a = single_other f n t g m a
  absent_stays f n t (number z) a = refl
  absent_stays f n t (compound c ts) a = ap (compound c) (all_absent_stay f n t ts a)

  pub all_absent_stay : (f : Path) (n : ℕ) (t : Term) (us : Terms) → AllAbsent f n us → apply_all (single f n t) us ≡ us
  all_absent_stay f n t none a = refl
  all_absent_stay f n t (more u us) a = ap (λ y. more y (apply_all (single f n t) us)) (absent_stays f n t u a.0)
      ∙ ap (λ ys. more u ys) (all_absent_stay f n t us a.1)

-- a term within a list is afterwards within the list without the variable
mutual
  pub within_single : (f : Path) (n : ℕ) (t : Term) (vs ws : Variables) → Lacks f n vs ws → Within ws t → (u : Term) → Within vs u
      → Within ws (apply (single f n t) u)
  within_single f n t vs ws l w (variable g m) h =
      elim (variable_or f n g m) [
        | inl e ↦ (let same : single f n t g m ≡ t = ap (λ x. single f n t x m) (sym e.0) ∙ ap (λ x. single f n t f x) (sym e.1)
            ∙ single_same f n t in subst (λ x. Within ws x) (sym same) w)
        | inr k ↦ subst (λ x. Within ws x) (sym (single_other f n t g m k)) (has_still f n vs ws g m l k h)
      ]
  within_single f n t vs ws l w (number z) h = tt
  within_single f n t vs ws l w (compound c ts) h = all_within_single f n t vs ws l w ts h

  pub all_within_single : (f : Path) (n : ℕ) (t : Term) (vs ws : Variables) → Lacks f n vs ws → Within ws t → (us : Terms) → AllWithin vs us
      → AllWithin ws (apply_all (single f n t) us)
  all_within_single f n t vs ws l w none h = tt
  all_within_single f n t vs ws l w (more u us) h = (within_single f n t vs ws l w u h.0, all_within_single f n t vs ws l w us h.1)

-- all variables of the equations are in the list
abbrev pub EquationsWithin : Variables → List Equation → Type 0
EquationsWithin vs [] = Unit {0}
EquationsWithin vs (e ∷ es) = Within vs e.0 × Within vs e.1 × EquationsWithin vs es

-- how large equations are
abbrev pub equations_size : List Equation → ℕ
equations_size [] = 0
equations_size (e ∷ es) = size e.0 + size e.1 + equations_size es

-- the equations with the variable replaced
abbrev pub replaced : Path → ℕ → Term → List Equation → List Equation
replaced f n t [] = []
replaced f n t (e ∷ es) = (apply (single f n t) e.0, apply (single f n t) e.1) ∷ replaced f n t es

-- they are within the list without the variable,
pub replaced_within : (f : Path) (n : ℕ) (t : Term) (vs ws : Variables) → Lacks f n vs ws → Within ws t → (es : List Equation) → EquationsWithin vs es
    → EquationsWithin ws (replaced f n t es)
replaced_within f n t vs ws l w [] h = tt
replaced_within f n t vs ws l w (e ∷ es) h =
    (within_single f n t vs ws l w e.0 h.0, within_single f n t vs ws l w e.1 h.1, replaced_within f n t vs ws l w es h.2)

-- what gives the variable what it gives the term solves them where it solves the equations,
pub replaced_solved : (s : Substitution) (f : Path) (n : ℕ) (t : Term) → s f n ≡ apply s t → (es : List Equation) → Solves s es → Solves s (replaced f n t es)
replaced_solved s f n t h [] p = tt
replaced_solved s f n t h (e ∷ es) p =
    let k = single_under s f n t h in
    (sym (apply_through (single f n t) s k e.0) ∙ p.0 ∙ apply_through (single f n t) s k e.1, replaced_solved s f n t h es p.1)

-- and a solution of them, after the replacement, solves the equations
pub replaced_then : (s : Substitution) (f : Path) (n : ℕ) (t : Term) (es : List Equation) → Solves s (replaced f n t es) → Solves (then (single f n t) s) es
replaced_then s f n t [] p = tt
replaced_then s f n t (e ∷ es) p = (sym (apply_then (single f n t) s e.0) ∙ p.0 ∙ apply_then (single f n t) s e.1, replaced_then s f n t es p.1)

-- An equation between a variable and a term that lacks it is decided by the others with the variable replaced.
pub eliminated : (f : Path) (n : ℕ) (t : Term) (es : List Equation) → Absent f n t → Decision (replaced f n t es) → Decision ((variable f n, t) ∷ es)
unfolding Decision
eliminated f n t es a (inr none_is) = inr (λ so. none_is (so.0, replaced_solved so.0 f n t so.1.0 es so.1.1))
eliminated f n t es a (inl m) =
    let s : Substitution = m.0 in
    let r : Substitution = then (single f n t) s in
    inl (
      r,
      (
        (ap (apply s) (single_same f n t ∙ sym (absent_stays f n t t a)) ∙ apply_then (single f n t) s t, replaced_then s f n t es m.1.0),
        λ u p g k.
            single_under u f n t p.0 g k ∙ apply_through s u (m.1.1 u (replaced_solved u f n t p.0 es p.1)) (single f n t g k),
      ),
    )

-- The sides of an equation can be exchanged.
pub flipped : (l r : Term) (es : List Equation) → Decision ((l, r) ∷ es) → Decision ((r, l) ∷ es)
flipped l r es = same_decision ((l, r) ∷ es) ((r, l) ∷ es) (λ s p. (sym p.0, p.1)) (λ s p. (sym p.0, p.1))

-- Arguments are equal where each is; lists of two lengths never are.
pub zip_or : (ts us : Terms)
    → ((ds : List Equation) × ((s : Substitution) → apply_all s ts ≡ apply_all s us → Solves s ds)
    × ((s : Substitution) → Solves s ds → apply_all s ts ≡ apply_all s us)
    × (equations_size ds ≡ sizes ts + sizes us) × ((vs : Variables) → AllWithin vs ts → AllWithin vs us → EquationsWithin vs ds))
    ⊎ ((s : Substitution) → apply_all s ts ≡ apply_all s us → ⊥)
zip_or none none = inl ([], λ s e. tt, λ s p. refl, omega arith, λ vs a b. tt)
zip_or none (more u us) = inr (λ s e. cc)
zip_or (more t ts) none = inr (λ s e. cc)
zip_or (more t ts) (more u us) =
    elim (zip_or ts us) [
      | inr n ↦ inr (λ s e. n s (cc))
      | inl z ↦ inl (
        (t, u) ∷ z.0,
        λ s e. (cc, z.1 s (cc)),
        λ s p. (let a = p.0 in let b = z.2 s p.1 in cc),
        omega (arith, z.3),
        λ vs a b. (a.0, b.0, z.4 vs a.1 b.1),
      )
    ]

-- a term has a size of at least 1
pub size_positive : (t : Term) → 1 ≤ size t
size_positive (variable f n) = omega arith
size_positive (number z) = omega arith
size_positive (compound c ts) = omega arith

-- Below, the variables of the equations are in vs, and equations with fewer variables are decided.
module _ (vs : Variables) (smaller : (ws : Variables) (ds : List Equation) → suc (length ws) ≤ length vs → EquationsWithin ws ds → Decision ds) where
  -- a variable against a term without it
  variable_absent : (f : Path) (n : ℕ) (t : Term) (es : List Equation) → Has f n vs → Within vs t → EquationsWithin vs es → Absent f n t
      → Decision ((variable f n, t) ∷ es)
  variable_absent f n t es h w ws a =
      let o = take_out f n vs h in
      eliminated f n t es a (smaller o.0 (replaced f n t es) (omega (arith, o.2)) (replaced_within f n t vs o.0 o.1 (within_absent f n vs o.0 o.1 t a w) es ws))

  -- a variable against any term: with the variable inside, the two sides never have one size
  variable_step : (f : Path) (n : ℕ) (t : Term) (es : List Equation) → Has f n vs → Within vs t → EquationsWithin vs es → Decision es
      → Decision ((variable f n, t) ∷ es)
  unfolding Decision
  variable_step f n (variable g m) es h w ws rest =
      elim (variable_or f n g m) [
        | inr k ↦ variable_absent f n (variable g m) es h w ws k
        | inl e ↦ same_decision es ((variable f n, variable g m) ∷ es) (λ s p. ((let a = e.0 in let b = e.1 in cc), p)) (λ s p. p.1) rest
      ]
  variable_step f n (number z) es h w ws rest = variable_absent f n (number z) es h w ws tt
  variable_step f n (compound c ts) es h w ws rest =
      elim (all_absent_or f n ts) [
        | inl a ↦ variable_absent f n (compound c ts) es h w ws a
        | inr b ↦ inr (λ so. absurd (omega (arith, ap size so.1.0, b so.0)))
      ]

  -- an equation before others, where all smaller lists with variables in vs are decided
  pair_step : (l r : Term) (es : List Equation) (m : ℕ) → Within vs l → Within vs r → EquationsWithin vs es → size l + size r + equations_size es ≤ suc m
      → ((ds : List Equation) → equations_size ds ≤ m → EquationsWithin vs ds → Decision ds) → Decision ((l, r) ∷ es)
  unfolding Decision
  pair_step (variable f n) r es m a b ws h all = variable_step f n r es a b ws (all es (omega (arith, size_positive r)) ws)
  pair_step (number z) (variable f n) es m a b ws h all =
      flipped (variable f n) (number z) es (variable_step f n (number z) es b a ws (all es (omega arith) ws))
  pair_step (compound c ts) (variable f n) es m a b ws h all =
      flipped (variable f n) (compound c ts) es (variable_step f n (compound c ts) es b a ws (all es (omega arith) ws))
  pair_step (number y) (number z) es m a b ws h all =
      elim (integer_or y z) [
        | inl e ↦ same_decision es ((number y, number z) ∷ es) (λ s p. (ap number e, p)) (λ s p. p.1) (all es (omega arith) ws)
        | inr n ↦ inr (λ so. n (let e = so.1.0 in cc))
      ]
  pair_step (number y) (compound c ts) es m a b ws h all = inr (λ so. let e = so.1.0 in cc)
  pair_step (compound c ts) (number y) es m a b ws h all = inr (λ so. let e = so.1.0 in cc)
  pair_step (compound c ts) (compound d us) es m a b ws h all =
      elim (number_or c d) [
        | inr n ↦ inr (λ so. n (let e = so.1.0 in cc))
        | inl e ↦ elim (zip_or ts us) [
          | inr n ↦ inr (λ so. n so.0 (let e = so.1.0 in cc))
          | inl z ↦ same_decision (z.0 ++ es) ((compound c ts, compound d us) ∷ es)
              (λ s p. ((let k = z.2 s (solves_front s z.0 es p) in cc), solves_back s z.0 es p))
              (λ s p. solves_join s z.0 es (z.1 s (let k = p.0 in cc)) p.1)
              (all (z.0 ++ es) (omega (arith, z.3, size_join z.0 es)) (within_join z.0 es (z.4 vs a b) ws))
        ]
      ]
    where
      size_join : (xs ys : List Equation) → equations_size (xs ++ ys) ≡ equations_size xs + equations_size ys
      size_join [] ys = omega arith
      size_join (x ∷ xs) ys = omega (arith, size_join xs ys)

      within_join : (xs ys : List Equation) → EquationsWithin vs xs → EquationsWithin vs ys → EquationsWithin vs (xs ++ ys)
      within_join [] ys p q = q
      within_join (x ∷ xs) ys p q = (p.0, p.1, within_join xs ys p.2 q)

  -- the induction on the size of the equations
  inner : (m : ℕ) (es : List Equation) → equations_size es ≤ m → EquationsWithin vs es → Decision es
  unfolding Decision
  inner m [] h w = inl (λ g k. variable g k, (tt, λ t p f n. refl))
  inner zero (e ∷ es) h w = absurd (omega (arith, size_positive e.0))
  inner (suc m) (e ∷ es) h w = pair_step e.0 e.1 es m w.0 w.1 w.2 h (λ ds k x. inner m ds k x)

-- the induction on the number of variables
outer : (n : ℕ) (vs : Variables) (es : List Equation) → length vs ≤ n → EquationsWithin vs es → Decision es
outer zero vs es h w = inner vs (λ ws ds k x. absurd (omega arith)) (equations_size es) es (omega arith) w
outer (suc n) vs es h w = inner vs (λ ws ds k x. outer n ws ds (omega arith) x) (equations_size es) es (omega arith) w

-- the variables of equations
abbrev pub equation_variables : List Equation → Variables
equation_variables [] = []
equation_variables (e ∷ es) = variables_of e.0 ++ (variables_of e.1 ++ equation_variables es)

-- equations within a list are within a larger one,
pub equations_within_more : (vs ws : Variables) → ((f : Path) (n : ℕ) → Has f n vs → Has f n ws) → (es : List Equation) → EquationsWithin vs es
    → EquationsWithin ws es
equations_within_more vs ws k [] h = tt
equations_within_more vs ws k (e ∷ es) h = (within_more vs ws k e.0 h.0, within_more vs ws k e.1 h.1, equations_within_more vs ws k es h.2)

-- so they are within the list of their variables
pub equation_variables_within : (es : List Equation) → EquationsWithin (equation_variables es) es
equation_variables_within [] = tt
equation_variables_within (e ∷ es) =
    let a : Variables = variables_of e.0 in
    let b : Variables = variables_of e.1 in
    let c : Variables = equation_variables es in (
      within_more a (a ++ (b ++ c)) (has_left a (b ++ c)) e.0 (variables_within e.0),
      within_more b (a ++ (b ++ c)) (λ f n h. has_right a (b ++ c) f n (has_left b c f n h)) e.1 (variables_within e.1),
      equations_within_more c (a ++ (b ++ c)) (λ f n h. has_right a (b ++ c) f n (has_right b c f n h)) es (equation_variables_within es),
    )

-- The unification theorem.
pub unify : (es : List Equation) → ((s : Substitution) × MostGeneral s es) ⊎ (Solvable es → ⊥)
unfolding Decision
unify es = outer (length (equation_variables es)) (equation_variables es) es (omega arith) (equation_variables_within es)
