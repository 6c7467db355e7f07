-- Two terms with a unifier have a most general one that speaks of their variables alone.
use Rattle.std.proofs.Common.{ℕ, ◌≡◌, [], ◌∷◌, refl, ap, sym, ◌∙◌, subst, inl, inr, ◌⊎◌, pos}
use Rattle.and_model.specs.Terms.{Path, Term, Terms, variable, number, compound, none, more, Substitution, apply, apply_all}
use Rattle.and_laws.proofs.Equality.{variable_or}
use Rattle.and_laws.proofs.Unifying.{unify}
use Rattle.and_sld.specs.Resolution.{IsMgu}
use Rattle.and_sld.specs.Relevant.{Has, OneHas, IsRelevant}

mutual
  has_or : (q : Path) (k : ℕ) (t : Term) → Has q k t ⊎ (Has q k t → ⊥)
  has_or q k (variable p j) = elim (variable_or q k p j) [ inl e ↦ inl e | inr n ↦ inr (λ h. n h.0 h.1) ]
  has_or q k (number z) = inr (λ h. h)
  has_or q k (compound c ts) = one_or q k ts

  one_or : (q : Path) (k : ℕ) (ts : Terms) → OneHas q k ts ⊎ (OneHas q k ts → ⊥)
  one_or q k none = inr (λ h. h)
  one_or q k (more t ts) =
      elim (has_or q k t) [
        | inl h ↦ inl (inl h)
        | inr n ↦ elim (one_or q k ts) [ inl h ↦ inl (inr h) | inr m ↦ inr (λ h. elim h [ inl a ↦ n a | inr b ↦ m b ]) ]
      ]

-- substitutions that give the same for the variables of a term
mutual
  agree : (s t : Substitution) (x : Term) → ((q : Path) (k : ℕ) → Has q k x → s q k ≡ t q k) → apply s x ≡ apply t x
  agree s t (variable q k) h = h q k (refl, refl)
  agree s t (number z) h = refl
  agree s t (compound c ts) h = ap (compound c) (all_agree s t ts h)

  all_agree : (s t : Substitution) (xs : Terms) → ((q : Path) (k : ℕ) → OneHas q k xs → s q k ≡ t q k) → apply_all s xs ≡ apply_all t xs
  all_agree s t none h = refl
  all_agree s t (more x xs) h =
      ap (λ y. more y (apply_all s xs)) (agree s t x (λ q k i. h q k (inl i))) ∙ ap (more (apply t x)) (all_agree s t xs (λ q k i. h q k (inr i)))

-- what leaves a term leaves its variables
mutual
  left_alone : (s : Substitution) (x : Term) → apply s x ≡ x → (q : Path) (k : ℕ) → Has q k x → s q k ≡ variable q k
  left_alone s (variable p j) e q k h = cc
  left_alone s (number z) e q k h = elim h [ ]
  left_alone s (compound c ts) e q k h = all_left_alone s ts (cc) q k h

  all_left_alone : (s : Substitution) (xs : Terms) → apply_all s xs ≡ xs → (q : Path) (k : ℕ) → OneHas q k xs → s q k ≡ variable q k
  all_left_alone s none e q k h = elim h [ ]
  all_left_alone s (more x xs) e q k h = elim h [ inl i ↦ left_alone s x (cc) q k i | inr i ↦ all_left_alone s xs (cc) q k i ]

module _ (a b : Term) where
  either : (q : Path) (k : ℕ) → (Has q k a ⊎ Has q k b) ⊎ (Has q k a ⊎ Has q k b → ⊥)
  either q k = elim (has_or q k a) [
    | inl h ↦ inl (inl h)
    | inr n ↦ elim (has_or q k b) [ inl h ↦ inl (inr h) | inr m ↦ inr (λ h. elim h [ inl i ↦ n i | inr j ↦ m j ]) ]
  ]

  -- the substitution on variables of the two terms, and another on all others
  on_both : Substitution → Substitution → Substitution
  on_both s t = λ q k. elim (either q k) [ inl h ↦ s q k | inr n ↦ t q k ]

  on_own : (s t : Substitution) (q : Path) (k : ℕ) → Has q k a ⊎ Has q k b → on_both s t q k ≡ s q k
  unfolding on_both
  on_own s t q k h = elim (either q k) as (λ d. elim d [ inl i ↦ s q k | inr n ↦ t q k ] ≡ s q k) [ inl i ↦ refl | inr n ↦ absurd (n h) ]

  on_other : (s t : Substitution) (q : Path) (k : ℕ) → (Has q k a ⊎ Has q k b → ⊥) → on_both s t q k ≡ t q k
  unfolding on_both
  on_other s t q k m = elim (either q k) as (λ d. elim d [ inl i ↦ s q k | inr n ↦ t q k ] ≡ t q k) [ inl i ↦ absurd (m i) | inr n ↦ refl ]

  unifies : (s t : Substitution) → apply s a ≡ apply s b → apply (on_both s t) a ≡ apply (on_both s t) b
  unifies s t e =
      agree (on_both s t) s a (λ q k h. on_own s t q k (inl h)) ∙ e ∙ sym (agree (on_both s t) s b (λ q k h. on_own s t q k (inr h)))

pub relevant_mgu : (a b : Term) (t : Substitution) → apply t a ≡ apply t b → (s : Substitution) × IsMgu s a b × IsRelevant s a b
relevant_mgu a b t e =
    elim (unify ((a, b) ∷ [])) [
      | inr n ↦ absurd (n (t, (e, tt)))
      | inl m ↦
          let s : Substitution = m.0 in
          let own : Substitution = on_both a b s (λ q k. variable q k) in
          let zero : Substitution = on_both a b s (λ q k. number (pos 0)) in (
            own,
            (
              unifies a b s (λ q k. variable q k) m.1.0.0,
              λ u h. (
                u,
                λ q k.
                    elim (either a b q k) [
                      | inl i ↦ m.1.1 u (h, tt) q k ∙ ap (apply u) (sym (on_own a b s (λ q k. variable q k) q k i))
                      | inr n ↦ ap (apply u) (sym (on_other a b s (λ q k. variable q k) q k n))
                    ],
              ),
            ),
            λ q k.
                elim (either a b q k) [
                  | inr n ↦ inl (on_other a b s (λ q k. variable q k) q k n)
                  | inl i ↦ inr (
                    i,
                    λ p j h.
                        let in_value : Has p j (s q k) = subst (λ x. Has p j x) (on_own a b s (λ q k. variable q k) q k i) h in
                        let stays : apply zero (s q k) ≡ s q k =
                        sym (m.1.1 zero (unifies a b s (λ q k. number (pos 0)) m.1.0.0, tt) q k) ∙ on_own a b s (λ q k. number (pos 0)) q k i in
                        let kept : zero p j ≡ variable p j = left_alone zero (s q k) stays p j in_value in
                        elim (either a b p j) [
                          | inl here ↦ here
                          | inr n ↦ absurd (let is_zero : zero p j ≡ number (pos 0) = on_other a b s (λ q k. number (pos 0)) p j n in cc)
                        ],
                  )
                ],
          )
    ]
