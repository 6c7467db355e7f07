-- What the entries of a journal make, one by one.
use Rattle.std.proofs.Common.{ℕ, ◌≡◌, nat_eq, cond, List, [], ◌∷◌, sym, subst, inl, inr, Contains}
use Rattle.and_model.specs.Terms.{Substitution}
use Rattle.and_model.specs.Solutions.{Equation, Solves}
use Rattle.and_model.specs.Programs.{Program}
use Rattle.and_model.specs.Closure.{added}
use Rattle.and_laws.proofs.Solving.{solves_join, solves_front, solves_back}
use Rattle.and_laws.proofs.Ordered.{contains_first, contains_more, contains_cases, contains_none}
use Rattle.and_phase_laws.specs.Journals.{Entry, frame, run, setting, failing, Journal, reduction_equations, made, made_by}
use Rattle.and_worker_laws.proofs.Testing.{own_holds}

module _ (P : Program) (s : Substitution) where
  -- What the entry makes holds.
  abbrev pub Made : Entry → Type 0
  Made (frame w q g c) = Solves s (reduction_equations P q g c)
  Made (run w a ts) = Solves s (added a ts)
  Made (setting w e) = Unit {0}
  Made (failing w) = Unit {0}

  pub made_of : (j : Journal) → Solves s (made P j) → (e : Entry) → Contains j e → Made e
  made_of [] p e c = absurd (contains_none e c)
  made_of (frame w q g c ∷ before) p e h =
      let last : List Equation = reduction_equations P q g c in elim (contains_cases (frame w q g c) e before h) [
        | inl is ↦ subst (λ x. Made x) (sym is) (solves_front s last (made P before) p)
        | inr earlier ↦ made_of before (solves_back s last (made P before) p) e earlier
      ]
  made_of (run w a ts ∷ before) p e h = elim (contains_cases (run w a ts) e before h) [
    | inl is ↦ subst (λ x. Made x) (sym is) (solves_front s (added a ts) (made P before) p)
    | inr earlier ↦ made_of before (solves_back s (added a ts) (made P before) p) e earlier
  ]
  made_of (setting w d ∷ before) p e h = elim (contains_cases (setting w d) e before h) [
    | inl is ↦ subst (λ x. Made x) (sym is) tt
    | inr earlier ↦ made_of before p e earlier
  ]
  made_of (failing w ∷ before) p e h = elim (contains_cases (failing w) e before h) [
    | inl is ↦ subst (λ x. Made x) (sym is) tt
    | inr earlier ↦ made_of before p e earlier
  ]

  pub made_all : (j : Journal) → ((e : Entry) → Contains j e → Made e) → Solves s (made P j)
  made_all [] h = tt
  made_all (frame w q g c ∷ before) h =
      solves_join s (reduction_equations P q g c) (made P before) (h (frame w q g c) (contains_first (frame w q g c) before))
      (made_all before (λ e i. h e (contains_more (frame w q g c) e before i)))
  made_all (run w a ts ∷ before) h =
      solves_join s (added a ts) (made P before) (h (run w a ts) (contains_first (run w a ts) before))
      (made_all before (λ e i. h e (contains_more (run w a ts) e before i)))
  made_all (setting w d ∷ before) h = made_all before (λ e i. h e (contains_more (setting w d) e before i))
  made_all (failing w ∷ before) h = made_all before (λ e i. h e (contains_more (failing w) e before i))

  -- If it is the worker's, what it makes holds.
  abbrev pub MadeBy : ℕ → Entry → Type 0
  MadeBy n (frame w q g c) = w ≡ n → Solves s (reduction_equations P q g c)
  MadeBy n (run w a ts) = w ≡ n → Solves s (added a ts)
  MadeBy n (setting w e) = Unit {0}
  MadeBy n (failing w) = Unit {0}

  -- The last one's equations, where they are the worker's.
  own : (es : List Equation) (w n : ℕ) → Solves s (cond (nat_eq w n) es []) → w ≡ n → Solves s es
  own es w n p is = own_holds s es n (subst (λ m. Solves s (cond (nat_eq m n) es [])) is p)

  pub made_by_of : (n : ℕ) (j : Journal) → Solves s (made_by P n j) → (e : Entry) → Contains j e → MadeBy n e
  made_by_of n [] p e c = absurd (contains_none e c)
  made_by_of n (frame w q g c ∷ before) p e h =
      let last : List Equation = cond (nat_eq w n) (reduction_equations P q g c) [] in elim (contains_cases (frame w q g c) e before h) [
        | inl is ↦ subst (λ x. MadeBy n x) (sym is) (own (reduction_equations P q g c) w n (solves_front s last (made_by P n before) p))
        | inr earlier ↦ made_by_of n before (solves_back s last (made_by P n before) p) e earlier
      ]
  made_by_of n (run w a ts ∷ before) p e h =
      let last : List Equation = cond (nat_eq w n) (added a ts) [] in elim (contains_cases (run w a ts) e before h) [
        | inl is ↦ subst (λ x. MadeBy n x) (sym is) (own (added a ts) w n (solves_front s last (made_by P n before) p))
        | inr earlier ↦ made_by_of n before (solves_back s last (made_by P n before) p) e earlier
      ]
  made_by_of n (setting w d ∷ before) p e h = elim (contains_cases (setting w d) e before h) [
    | inl is ↦ subst (λ x. MadeBy n x) (sym is) tt
    | inr earlier ↦ made_by_of n before p e earlier
  ]
  made_by_of n (failing w ∷ before) p e h = elim (contains_cases (failing w) e before h) [
    | inl is ↦ subst (λ x. MadeBy n x) (sym is) tt
    | inr earlier ↦ made_by_of n before p e earlier
  ]
