-- Which variables stand in a term, and how large terms are.
use Rattle.std.proofs.Common.{ℕ, ◌≡◌, ◌≤◌, List, [], ◌∷◌, ◌++◌, refl, ap, sym, ◌∙◌, subst, inl, inr, ◌⊎◌, arith, suc, length}
use Rattle.and_laws.specs.Sizes.{size, sizes}
use Rattle.and_model.specs.Terms.{Path, Term, Terms, variable, number, compound, none, more, variables_of, variables_in, Substitution, apply, apply_all}
use Rattle.and_laws.proofs.Equality.{variable_or}

-- (In this file f and g are the paths of frames, and n and m the numbers of variables.)

-- lists of variables
abbrev pub Variables : Type 0
Variables = List (Path × ℕ)

-- the variable is in the list
abbrev pub Has : Path → ℕ → Variables → Type 0
Has f n [] = ⊥
Has f n (v ∷ vs) = ((f ≡ v.0) × (n ≡ v.1)) ⊎ Has f n vs

-- all variables of a term are in the list
abbrev mutual
  pub Within : Variables → Term → Type 0
  Within vs (variable f n) = Has f n vs
  Within vs (number z) = Unit {0}
  Within vs (compound c ts) = AllWithin vs ts

  pub AllWithin : Variables → Terms → Type 0
  AllWithin vs none = Unit {0}
  AllWithin vs (more t ts) = Within vs t × AllWithin vs ts

-- the variable is not in the term
abbrev mutual
  pub Absent : Path → ℕ → Term → Type 0
  Absent f n (variable g m) = f ≡ g → n ≡ m → ⊥
  Absent f n (number z) = Unit {0}
  Absent f n (compound c ts) = AllAbsent f n ts

  pub AllAbsent : Path → ℕ → Terms → Type 0
  AllAbsent f n none = Unit {0}
  AllAbsent f n (more t ts) = Absent f n t × AllAbsent f n ts

-- Either a variable is not in a term, or its image under a substitution is no larger than the image of the term.
mutual
  pub absent_or : (f : Path) (n : ℕ) (t : Term) → Absent f n t ⊎ ((s : Substitution) → size (s f n) ≤ size (apply s t))
  absent_or f n (variable g m) = elim (variable_or f n g m) [ inr k ↦ inl k | inl e ↦ inr (λ s. let same : s f n ≡ s g m = cc in omega (arith, ap size same)) ]
  absent_or f n (number z) = inl tt
  absent_or f n (compound c ts) = elim (all_absent_or f n ts) [ inl a ↦ inl a | inr b ↦ inr (λ s. omega (arith, b s)) ]

  pub all_absent_or : (f : Path) (n : ℕ) (ts : Terms) → AllAbsent f n ts ⊎ ((s : Substitution) → size (s f n) ≤ sizes (apply_all s ts))
  all_absent_or f n none = inl tt
  all_absent_or f n (more t ts) =
      elim (absent_or f n t) [
        | inr b ↦ inr (λ s. omega (arith, b s))
        | inl a ↦ elim (all_absent_or f n ts) [ inr b ↦ inr (λ s. omega (arith, b s)) | inl as' ↦ inl (a, as') ]
      ]

-- the second list is the first without one entry of the variable
pub data Lacks (f : Path) (n : ℕ) : Variables → Variables → Type 0 where
  here : (vs : Variables) → Lacks f n ((f, n) ∷ vs) vs
  there : (v : Path × ℕ) (vs ws : Variables) → Lacks f n vs ws → Lacks f n (v ∷ vs) (v ∷ ws)

-- a variable that is in a list can be taken out
pub take_out : (f : Path) (n : ℕ) (vs : Variables) → Has f n vs → (ws : Variables) × Lacks f n vs ws × (suc (length ws) ≡ length vs)
take_out f n [] h = elim h [ ]
take_out f n (v ∷ vs) (inl e) = (
  vs,
  subst (λ w. Lacks f n (w ∷ vs) vs) (let a : (f, n) ≡ (v.0, n) = ap (λ (x : Path). (x, n)) e.0 in
      let b : (v.0, n) ≡ (v.0, v.1) = ap (λ (y : ℕ). (v.0, y)) e.1 in a ∙ b) (here vs),
  refl,
)
take_out f n (v ∷ vs) (inr h) = let r = take_out f n vs h in (v ∷ r.0, there v vs r.0 r.1, ap suc r.2)

-- what is in the list, and is another variable, is still there then
pub has_still : (f : Path) (n : ℕ) (vs ws : Variables) (g : Path) (m : ℕ) → Lacks f n vs ws → (f ≡ g → n ≡ m → ⊥) → Has g m vs → Has g m ws
has_still f n vs ws g m (here xs) k (inl e) = absurd (k (sym e.0) (sym e.1))
has_still f n vs ws g m (here xs) k (inr h) = h
has_still f n vs ws g m (there v xs ys l) k (inl e) = inl e
has_still f n vs ws g m (there v xs ys l) k (inr h) = inr (has_still f n xs ys g m l k h)

-- So a term without the variable stays within the list.
mutual
  pub within_absent : (f : Path) (n : ℕ) (vs ws : Variables) → Lacks f n vs ws → (u : Term) → Absent f n u → Within vs u → Within ws u
  within_absent f n vs ws l (variable g m) a h = has_still f n vs ws g m l a h
  within_absent f n vs ws l (number z) a h = tt
  within_absent f n vs ws l (compound c ts) a h = all_within_absent f n vs ws l ts a h

  pub all_within_absent : (f : Path) (n : ℕ) (vs ws : Variables) → Lacks f n vs ws → (us : Terms) → AllAbsent f n us → AllWithin vs us → AllWithin ws us
  all_within_absent f n vs ws l none a h = tt
  all_within_absent f n vs ws l (more u us) a h = (within_absent f n vs ws l u a.0 h.0, all_within_absent f n vs ws l us a.1 h.1)

-- A term within a list is within a larger one.
mutual
  pub within_more : (vs ws : Variables) → ((f : Path) (n : ℕ) → Has f n vs → Has f n ws) → (t : Term) → Within vs t → Within ws t
  within_more vs ws k (variable f n) h = k f n h
  within_more vs ws k (number z) h = tt
  within_more vs ws k (compound c ts) h = all_within_more vs ws k ts h

  pub all_within_more : (vs ws : Variables) → ((f : Path) (n : ℕ) → Has f n vs → Has f n ws) → (ts : Terms) → AllWithin vs ts → AllWithin ws ts
  all_within_more vs ws k none h = tt
  all_within_more vs ws k (more t ts) h = (within_more vs ws k t h.0, all_within_more vs ws k ts h.1)

-- A list that is joined to another is within both,
pub has_left : (vs ws : Variables) (f : Path) (n : ℕ) → Has f n vs → Has f n (vs ++ ws)
has_left [] ws f n h = elim h [ ]
has_left (v ∷ vs) ws f n (inl e) = inl e
has_left (v ∷ vs) ws f n (inr h) = inr (has_left vs ws f n h)

-- on either side;
pub has_right : (vs ws : Variables) (f : Path) (n : ℕ) → Has f n ws → Has f n (vs ++ ws)
has_right [] ws f n h = h
has_right (v ∷ vs) ws f n h = inr (has_right vs ws f n h)

-- so a term is within the list of its variables.
mutual
  pub variables_within : (t : Term) → Within (variables_of t) t
  variables_within (variable f n) = inl (refl, refl)
  variables_within (number z) = tt
  variables_within (compound c ts) = all_variables_within ts

  pub all_variables_within : (ts : Terms) → AllWithin (variables_in ts) ts
  all_variables_within none = tt
  all_variables_within (more t ts) = (
    within_more (variables_of t) (variables_of t ++ variables_in ts) (has_left (variables_of t) (variables_in ts)) t (variables_within t),
    all_within_more (variables_in ts) (variables_of t ++ variables_in ts) (has_right (variables_of t) (variables_in ts)) ts (all_variables_within ts),
  )
