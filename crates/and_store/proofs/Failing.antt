-- Who failed, said of the journal and of the passes.
use Rattle.std.proofs.Common.{ℕ, ◌≡◌, ◌≢◌, ◌↔◌, true, false, cond, List, [], ◌∷◌, ◌++◌, map, refl, sym, ap, subst, ◌∙◌, All, Contains}
use Rattle.std.specs.Prelude.{nat_eq}
use Rattle.std.proofs.lemmas.List.Elements.{All-contains}
use Rattle.and_model.specs.Store.{JournalEntry, Pass, Fits, fails_of, entries_by}
use Rattle.and_model.specs.declared.reference.Ref.{Ref}
use Rattle.and_store_laws.proofs.Going.{made_fails}
use Rattle.and_store_laws.proofs.Journal.{made_by}
use Rattle.and_store_laws.proofs.Lists.{contains_first, contains_none, map_contains, flat_contains}

nothing_of : {X : Type 0} (xs ys : List X) → xs ++ ys ≡ [] → (xs ≡ []) × (ys ≡ [])
nothing_of [] ys e = (refl, e)
nothing_of (x ∷ xs) ys e = absurd (cc)

-- where nobody failed, this pass did not
pub no_fails : (p : Pass) (journal : List JournalEntry) → fails_of journal ≡ [] → fails_of (entries_by p journal) ≡ []
no_fails p [] e = refl
no_fails p (x ∷ journal) e =
    let both = nothing_of (made_fails x) (fails_of journal) e in
    elim (nat_eq x.pass p.number) as (λ b. fails_of (cond {A = List JournalEntry} b (x ∷ entries_by p journal) (entries_by p journal)) ≡ []) [
      | true ↦ ap (λ l. l ++ fails_of (entries_by p journal)) both.0 ∙ no_fails p journal both.1
      | false ↦ no_fails p journal both.1
    ]

some_in : {X : Type 0} (xs : List X) → xs ≢ [] → (x : X) × Contains xs x
some_in [] ne = absurd (ne refl)
some_in (x ∷ xs) ne = (x, contains_first x xs)

module _ (first : List Ref) (mark : ℕ) (passes : List Pass) (journal : List JournalEntry) (fit : All (Fits first mark journal) passes)
    (by_a_pass : All (λ (e : JournalEntry). Contains (map (λ (p : Pass). p.number) passes) e.pass) journal) where
  who_failed : fails_of journal ≢ [] → (p : Pass) × Contains passes p × (p.fails ≢ [])
  who_failed ne =
      let one = some_in (fails_of journal) ne in
      let e = flat_contains made_fails one.0 journal one.1 in
      let of = All-contains (λ (e : JournalEntry). Contains (map (λ (p : Pass). p.number) passes) e.pass) journal e.0 by_a_pass e.1 in
      let p = map_contains (λ (p : Pass). p.number) e.0.pass passes of in
      let is = (All-contains (Fits first mark journal) passes p.0 fit p.1).fails in
      let own = subst (λ (n : ℕ). Contains (fails_of (entries_by (record p.0 { number = n }) journal)) one.0) (sym p.2)
      (made_by made_fails journal e.0 one.0 e.1 e.2) in
      (p.0, p.1, λ none. contains_none one.0 (subst (λ l. Contains l one.0) (sym is ∙ none) own))

  some_failed : (p : Pass) → Contains passes p → p.fails ≢ [] → fails_of journal ≢ []
  some_failed p there ne none = ne ((All-contains (Fits first mark journal) passes p fit there).fails ∙ no_fails p journal none)

  -- the journal has a call of `fail` where some pass has made one
  pub failing : (fails_of journal ≢ []) ↔ ((p : Pass) × Contains passes p × (p.fails ≢ []))
  failing = (who_failed, λ some. some_failed some.0 some.1 some.2)
