-- Laws of a journal: what its entries made, and which pass made it.
use Rattle.std.proofs.Common.{ℕ, ◌≡◌, ◌≢◌, inl, inr, cond, List, [], ◌∷◌, ◌++◌, map, refl, sym, ap, subst, ◌∙◌, append-nil, All, Contains, eq-eqb, ne_eqb}
use Rattle.std.specs.Prelude.{flat_map, filter, nat_eq}
use Rattle.std.proofs.lemmas.Bool.{cases_eq}
use Rattle.std.proofs.lemmas.List.Elements.{filter-append, Contains-append_left, Contains-append_right, Contains-append_cases}
use Rattle.std.proofs.lemmas.List.Concat.{flat_map-append}
use Rattle.and_model.specs.Store.{Setting, HungGoal, sets, gives, fails, hangs, JournalEntry, Pass, AreDistinct, entries_by}
use Rattle.and_laws.proofs.Pairwise.{all_first, all_rest}
use Rattle.and_store_laws.proofs.Lists.{contains_first, contains_more, contains_cases, contains_none, contains_map, map_contains, contains_flat}
use Rattle.and_store_laws.proofs.Lists.{distinct_apart, distinct_front, distinct_back, distinct_join, map_append}

-- what one entry made
abbrev pub made_settings : JournalEntry → List Setting
made_settings e = elim e.made [ sets s ↦ s ∷ [] | gives f ↦ [] | fails ↦ [] | hangs g ↦ [] ]

abbrev pub made_hung : JournalEntry → List HungGoal
made_hung e = elim e.made [ sets s ↦ [] | gives f ↦ [] | fails ↦ [] | hangs g ↦ g ∷ [] ]

-- these entries are all of one pass
abbrev pub AreBy : (number : ℕ) → List JournalEntry → Type 0
AreBy number new = All (λ (e : JournalEntry). e.pass ≡ number) new

-- its own
pub own_entries : (p : Pass) (new : List JournalEntry) → AreBy p.number new → entries_by p new ≡ new
own_entries p [] h = refl
own_entries p (e ∷ new) h =
    ap (λ b. cond b (e ∷ entries_by p new) (entries_by p new)) (eq-eqb e.pass p.number (all_first (λ (e : JournalEntry). e.pass ≡ p.number) e new h))
    ∙ ap (λ l. e ∷ l) (own_entries p new (all_rest (λ (e : JournalEntry). e.pass ≡ p.number) e new h))

-- another's
pub no_entries : (p : Pass) (number : ℕ) (new : List JournalEntry) → AreBy number new → p.number ≢ number → entries_by p new ≡ []
no_entries p number [] h ne = refl
no_entries p number (e ∷ new) h ne =
    ap (λ b. cond b (e ∷ entries_by p new) (entries_by p new))
    (ne_eqb e.pass p.number (λ same. ne (sym same ∙ all_first (λ (e : JournalEntry). e.pass ≡ number) e new h)))
    ∙ no_entries p number new (all_rest (λ (e : JournalEntry). e.pass ≡ number) e new h) ne

pub entries_more : (p : Pass) (journal new : List JournalEntry) → entries_by p (journal ++ new) ≡ entries_by p journal ++ entries_by p new
entries_more p journal new = filter-append (λ (e : JournalEntry). nat_eq e.pass p.number) journal new

-- the entries of a pass by its number alone
abbrev pub entries_of : (number : ℕ) → List JournalEntry → List JournalEntry
entries_of number journal = filter (λ (e : JournalEntry). nat_eq e.pass number) journal

module _ {X : Type 0} (f : JournalEntry → List X) where
  pub own_more : (p : Pass) (journal new : List JournalEntry) (xs : List X) → AreBy p.number new → xs ≡ flat_map f (entries_by p journal)
      → xs ++ flat_map f new ≡ flat_map f (entries_by p (journal ++ new))
  own_more p journal new xs by e =
      ap (λ l. l ++ flat_map f new) e ∙ sym (flat_map-append f (entries_by p journal) new)
      ∙ ap (λ l. flat_map f (entries_by p journal ++ l)) (sym (own_entries p new by)) ∙ ap (flat_map f) (sym (entries_more p journal new))

  pub others_more : (p : Pass) (number : ℕ) (journal new : List JournalEntry) (xs : List X) → AreBy number new → p.number ≢ number
      → xs ≡ flat_map f (entries_by p journal) → xs ≡ flat_map f (entries_by p (journal ++ new))
  others_more p number journal new xs by ne e =
      e ∙ ap (flat_map f) (sym (append-nil (entries_by p journal))) ∙ ap (λ l. flat_map f (entries_by p journal ++ l)) (sym (no_entries p number new by ne))
      ∙ ap (flat_map f) (sym (entries_more p journal new))

  -- what a pass made is in the journal
  pub made_in : (number : ℕ) (journal : List JournalEntry) (x : X) → Contains (flat_map f (entries_of number journal)) x
      → (e : JournalEntry) × Contains journal e × (e.pass ≡ number) × Contains (f e) x
  made_in number [] x h = absurd (contains_none x h)
  made_in number (e ∷ journal) x h =
      elim (cases_eq e.pass number) [
        | inl same ↦
            let k : Contains (f e ++ flat_map f (entries_of number journal)) x =
            subst (λ b. Contains (flat_map f (cond b (e ∷ entries_of number journal) (entries_of number journal))) x) (eq-eqb e.pass number same) h in
            elim (Contains-append_cases (f e) (flat_map f (entries_of number journal)) x k) [
              | inl i ↦ (e, contains_first e journal, same, i)
              | inr i ↦ (let r = made_in number journal x i in (r.0, contains_more e r.0 journal r.1, r.2, r.3))
            ]
        | inr ne ↦
            let r = made_in number journal x
            (subst (λ b. Contains (flat_map f (cond b (e ∷ entries_of number journal) (entries_of number journal))) x) (ne_eqb e.pass number ne) h) in
            (r.0, contains_more e r.0 journal r.1, r.2, r.3)
      ]

  -- and what an entry of a pass made is among what the pass made
  pub made_by : (journal : List JournalEntry) (e : JournalEntry) (x : X) → Contains journal e → Contains (f e) x
      → Contains (flat_map f (entries_of e.pass journal)) x
  made_by [] e x h k = absurd (contains_none e h)
  made_by (d ∷ journal) e x h k =
      elim (contains_cases d e journal h) [
        | inl same ↦
            subst (λ b. Contains (flat_map f (cond b (d ∷ entries_of e.pass journal) (entries_of e.pass journal))) x)
            (sym (eq-eqb d.pass e.pass (ap (λ (e : JournalEntry). e.pass) (sym same))))
            (Contains-append_left (f d) (flat_map f (entries_of e.pass journal)) x (subst (λ z. Contains (f z) x) same k))
        | inr i ↦ elim (cases_eq d.pass e.pass) [
          | inl same ↦
              subst (λ b. Contains (flat_map f (cond b (d ∷ entries_of e.pass journal) (entries_of e.pass journal))) x) (sym (eq-eqb d.pass e.pass same))
              (Contains-append_right (f d) (flat_map f (entries_of e.pass journal)) x (made_by journal e x i k))
          | inr ne ↦
              subst (λ b. Contains (flat_map f (cond b (d ∷ entries_of e.pass journal) (entries_of e.pass journal))) x) (sym (ne_eqb d.pass e.pass ne))
              (made_by journal e x i k)
        ]
      ]

  -- Where what was made has distinct numbers, no two passes made one with the same.
  pub one_maker : (n : X → ℕ) (journal : List JournalEntry) → AreDistinct (map n (flat_map f journal)) → (d e : JournalEntry) (x y : X) → Contains journal d
      → Contains journal e → Contains (f d) x → Contains (f e) y → n x ≡ n y → d ≡ e
  one_maker n [] dis d e x y h k a b same = absurd (contains_none d h)
  one_maker n (z ∷ journal) dis d e x y h k a b same =
      let apart : AreDistinct (map n (f z) ++ map n (flat_map f journal)) = subst AreDistinct (map_append n (f z) (flat_map f journal)) dis in
      elim (contains_cases z d journal h) [
        | inl i ↦ elim (contains_cases z e journal k) [
          | inl j ↦ i ∙ sym j
          | inr j ↦ absurd (distinct_apart (map n (f z)) (map n (flat_map f journal)) (n x) apart
              (subst (λ w. Contains (map n (f w)) (n x)) i (contains_map n x (f d) a))
              (subst (Contains (map n (flat_map f journal))) (sym same) (contains_map n y (flat_map f journal) (contains_flat f e y journal j b))))
        ]
        | inr i ↦ elim (contains_cases z e journal k) [
          | inl j ↦ absurd (distinct_apart (map n (f z)) (map n (flat_map f journal)) (n y) apart
              (subst (λ w. Contains (map n (f w)) (n y)) j (contains_map n y (f e) b))
              (subst (Contains (map n (flat_map f journal))) same (contains_map n x (flat_map f journal) (contains_flat f d x journal i a))))
          | inr j ↦ one_maker n journal (distinct_back (map n (f z)) (map n (flat_map f journal)) apart) d e x y i j a b same
        ]
      ]

  -- what one pass made has distinct numbers too
  pub own_distinct : (n : X → ℕ) (number : ℕ) (journal : List JournalEntry) → AreDistinct (map n (flat_map f journal))
      → AreDistinct (map n (flat_map f (entries_of number journal)))
  own_distinct n number [] dis = dis
  own_distinct n number (e ∷ journal) dis =
      let apart : AreDistinct (map n (f e) ++ map n (flat_map f journal)) = subst AreDistinct (map_append n (f e) (flat_map f journal)) dis in
      let rest : AreDistinct (map n (flat_map f (entries_of number journal))) =
      own_distinct n number journal (distinct_back (map n (f e)) (map n (flat_map f journal)) apart) in
      elim (cases_eq e.pass number) [
        | inl same ↦
            subst (λ b. AreDistinct (map n (flat_map f (cond b (e ∷ entries_of number journal) (entries_of number journal))))) (sym (eq-eqb e.pass number same))
            (subst AreDistinct (sym (map_append n (f e) (flat_map f (entries_of number journal))))
            (distinct_join (map n (f e)) (map n (flat_map f (entries_of number journal))) (distinct_front (map n (f e)) (map n (flat_map f journal)) apart) rest
            (λ k i j. let r = map_contains n k (flat_map f (entries_of number journal)) j in let made = made_in number journal r.0 r.1 in
            distinct_apart (map n (f e)) (map n (flat_map f journal)) k apart i
            (subst (Contains (map n (flat_map f journal))) r.2 (contains_map n r.0 (flat_map f journal) (contains_flat f made.0 r.0 journal made.1 made.3))))))
        | inr ne ↦ subst (λ b. AreDistinct (map n (flat_map f (cond b (e ∷ entries_of number journal) (entries_of number journal)))))
            (sym (ne_eqb e.pass number ne)) rest
      ]
