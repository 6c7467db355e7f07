-- Substitutions: ground terms stay, and one substitution after another is one.
use Rattle.std.proofs.Common.{ℕ, ◌≡◌, refl, ap, sym, ◌∙◌, Bool, true, false, true≢false, ◌&&◌}
use Rattle.and_model.specs.Terms.{Path, Term, Terms, variable, number, compound, none, more, is_ground, are_ground, Substitution, apply, apply_all}

pub and_left : (a b : Bool) → a && b ≡ true → a ≡ true
and_left true b e = refl
and_left false b e = absurd (true≢false (sym e))

pub and_right : (a b : Bool) → a && b ≡ true → b ≡ true
and_right true b e = e
and_right false b e = absurd (true≢false (sym e))

-- a ground term stays as it is
mutual
  pub apply_ground : (s : Substitution) (t : Term) → is_ground t ≡ true → apply s t ≡ t
  apply_ground s (variable q k) e = absurd (true≢false (sym e))
  apply_ground s (number z) e = refl
  apply_ground s (compound c ts) e = ap (compound c) (apply_all_ground s ts e)

  pub apply_all_ground : (s : Substitution) (ts : Terms) → are_ground ts ≡ true → apply_all s ts ≡ ts
  apply_all_ground s none e = refl
  apply_all_ground s (more t ts) e =
      let head : apply s t ≡ t = apply_ground s t (and_left (is_ground t) (are_ground ts) e) in
      let rest : apply_all s ts ≡ ts = apply_all_ground s ts (and_right (is_ground t) (are_ground ts) e) in
      ap (λ x. more x (apply_all s ts)) head ∙ ap (λ xs. more t xs) rest

-- the second goes through the first: what the first leaves, the second makes what it makes of the whole
abbrev pub Through : Substitution → Substitution → Type 0
Through s t = (q : Path) (k : ℕ) → t q k ≡ apply t (s q k)

mutual
  pub apply_through : (s t : Substitution) → Through s t → (x : Term) → apply t x ≡ apply t (apply s x)
  apply_through s t h (variable q k) = h q k
  apply_through s t h (number z) = refl
  apply_through s t h (compound c ts) = ap (compound c) (apply_all_through s t h ts)

  pub apply_all_through : (s t : Substitution) → Through s t → (xs : Terms) → apply_all t xs ≡ apply_all t (apply_all s xs)
  apply_all_through s t h none = refl
  apply_all_through s t h (more x xs) = ap (λ y. more y (apply_all t xs)) (apply_through s t h x)
      ∙ ap (λ ys. more (apply t (apply s x)) ys) (apply_all_through s t h xs)

-- first r, and then s
abbrev pub then : Substitution → Substitution → Substitution
then r s = λ q k. apply s (r q k)

mutual
  pub apply_then : (r s : Substitution) (u : Term) → apply s (apply r u) ≡ apply (then r s) u
  apply_then r s (variable q k) = refl
  apply_then r s (number z) = refl
  apply_then r s (compound c ts) = ap (compound c) (apply_all_then r s ts)

  pub apply_all_then : (r s : Substitution) (us : Terms) → apply_all s (apply_all r us) ≡ apply_all (then r s) us
  apply_all_then r s none = refl
  apply_all_then r s (more u us) = ap (λ y. more y (apply_all s (apply_all r us))) (apply_then r s u)
      ∙ ap (λ ys. more (apply (then r s) u) ys) (apply_all_then r s us)

-- the substitution that leaves each variable
abbrev pub same : Substitution
same = λ q k. variable q k

mutual
  pub apply_same : (u : Term) → apply same u ≡ u
  apply_same (variable q k) = refl
  apply_same (number z) = refl
  apply_same (compound c ts) = ap (compound c) (apply_all_same ts)

  pub apply_all_same : (us : Terms) → apply_all same us ≡ us
  apply_all_same none = refl
  apply_all_same (more u us) = ap (λ y. more y (apply_all same us)) (apply_same u) ∙ ap (λ ys. more u ys) (apply_all_same us)
