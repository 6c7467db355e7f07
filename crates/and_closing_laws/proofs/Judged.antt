-- The row by which a call was judged: it has the settings that were made by then, and no others.
use Rattle.std.proofs.Common.{ℕ, suc, ◌+◌, ◌≡◌, ◌≢◌, ◌<◌, ◌⊎◌, inl, inr, false, List, map, sym, ap, subst, ◌∙◌, arith}
use Rattle.std.proofs.Common.{All, Contains}
use Rattle.std.proofs.lemmas.Bool.{cases_lt}
use Rattle.std.proofs.lemmas.List.Elements.{All-contains}
use Rattle.and_model.specs.Terms.{Path, Substitution, variables_of}
use Rattle.and_model.specs.Solutions.{Equation, Solves}
use Rattle.and_model.specs.Stands.{term_of}
use Rattle.and_model.specs.Store.{Setting, Known, Pass, set_in, is_half, IsWritten}
use Rattle.and_model.specs.declared.goal.Goal.{Goal}
use Rattle.and_model.specs.declared.numbers.ClauseNo.{ClauseNo}
use Rattle.and_model.specs.declared.reference.Ref.{Ref}
use Rattle.and_model.specs.declared.reference.Ref.TheVariants.{Free, Number}
use Rattle.and_cells.specs.Ranges.{NamedProgram}
use Rattle.and_cells.specs.Seen.{word_at, IsSetTo}
use Rattle.and_cells.specs.Meaning.{Words, equations_of}
use Rattle.and_cells.proofs.SetWords.{set_in_is}
use Rattle.and_clause_index.specs.Selecting.{AreLeft, HasSeen}
use Rattle.and_store.specs.Worked.{shown}
use Rattle.and_store_laws.proofs.Lists.{map_contains}
use Rattle.and_store_laws.specs.Steps.{setting}
use Rattle.and_worker_laws.specs.Facts.{AreAmong}
use Rattle.and_closing_laws.proofs.Speaking.{row_speaks_of_cells}
use Rattle.and_closing_laws.proofs.Words.{SolvesSet, IsClean, SameNumber, said_alike, says_row}
use Rattle.and_closing_laws.proofs.Words.{row_by, word_in, row_long, row_at, row_past, word_is, word_was_set}

module _ (P : NamedProgram) (w : Words) (ss : List Setting) (count : ℕ) (has : (s : Setting) → Contains ss s → w s.place ≡ s.value)
    (set : (s : Setting) → Contains ss s → s.value ≢ Free) (low : (s : Setting) → Contains ss s → s.place < count)
    (clean : (s : Setting) → Contains ss s → is_half s.value ≡ false → IsClean P w s)
    (written : (s : Setting) → Contains ss s → (pair : ℕ) → s.value ≡ Number pair → IsWritten ss pair) where
  by_word : (s : Setting) → Contains ss s → IsSetTo (row_by ss count) s.place s.value
  by_word s among = (
    row_at (word_in ss) 0 count s.place (low s among) ∙ (let at : 0 + s.place ≡ s.place = omega arith in ap (word_in ss) at) ∙ word_is w ss has s among,
    set s among,
  )

  by_cases : (place : ℕ) → (word_at (row_by ss count) place ≡ Free)
      ⊎ ((s : Setting) × Contains ss s × (s.place ≡ place) × (s.value ≡ word_at (row_by ss count) place))
  by_cases place = elim (cases_lt place count) [
    | inr high ↦ inl (row_past (word_in ss) 0 count place (λ low. omega arith))
    | inl low ↦
        let is : word_at (row_by ss count) place ≡ word_in ss place =
        row_at (word_in ss) 0 count place low ∙ (let at : 0 + place ≡ place = omega arith in ap (word_in ss) at) in
        elim (word_was_set ss place) [
          | inl free ↦ inl (is ∙ free)
          | inr r ↦ inr (r.0, r.1, r.2, r.3 ∙ sym is)
        ]
  ]

  by_whole : (cell : ℕ) → is_half (w cell) ≡ false → is_half (word_at (row_by ss count) cell) ≡ false
  by_whole cell whole = elim (by_cases cell) [
    | inl free ↦ ap is_half free
    | inr r ↦ ap is_half (sym r.3 ∙ sym (has r.0 r.1) ∙ ap w r.2) ∙ whole
  ]

  by_among : (s : Setting) → Contains (set_in (row_by ss count)) s → Contains ss s
  by_among s among =
      let is = set_in_is (row_by ss count) s among in
      elim (by_cases s.place) [
        | inl free ↦ absurd (is.1 (sym is.0 ∙ free))
        | inr r ↦
            let value : r.0.value ≡ s.value = r.3 ∙ is.0 in
            let same : r.0 ≡ s = ap (λ (p : ℕ). setting p r.0.value) r.2 ∙ ap (λ (v : Ref). setting s.place v) value in
            subst (Contains ss) same r.1
      ]

  by_place : (place : ℕ) → Contains (map (λ (s : Setting). s.place) ss) place → w place ≡ word_at (row_by ss count) place
  by_place place among =
      let (s, there, is) = map_contains (λ (s : Setting). s.place) place ss among in
      ap w (sym is) ∙ has s there ∙ sym (by_word s there).0 ∙ ap (word_at (row_by ss count)) is

  -- What the settings say the row says.
  by_says : (t : Substitution) → SolvesSet P w ss t → Solves t (equations_of P (row_by ss count))
  by_says t solves = says_row P (row_by ss count) t (λ s among whole.
      let one : Contains ss s = by_among s among in
      let same : SameNumber w (word_at (row_by ss count)) s.value = λ pair is.
      (let both = written s one pair is in (by_place pair both.0, by_place (suc pair) both.1)) in
      said_alike P w (word_at (row_by ss count)) s t same (λ cell c. by_whole cell (clean s one whole cell c)) (solves s one whole))

  by_seen : (pass : Pass) → All (λ (k : Known). Contains ss k.setting) pass.known → HasSeen (shown count pass) (row_by ss count)
  by_seen pass known = record {
    long = row_long (word_in ss) 0 count;
    set = λ place r knows.
        let (k, there, is) = map_contains (λ (k : Known). k.setting) (setting place r) pass.known knows in
        let one : Contains ss (setting place r) = subst (Contains ss) is (All-contains (λ (k : Known). Contains ss k.setting) pass.known k known there) in
        by_word (setting place r) one;
  }

  -- Where all that a pass knew is among the settings, what was left of a goal is all that can be left under what follows from these.
  pub judged : (pass : Pass) → All (λ (k : Known). Contains ss k.setting) pass.known → (g : Goal) (cs : List ClauseNo)
      → ((v : Path × ℕ) → Contains (variables_of (term_of P.program g)) v → is_half (w (g.base + 1 + v.1)) ≡ false)
      → AreLeft P (shown count pass) g cs → (es : List Equation) → ((t : Substitution) → Solves t es → SolvesSet P w ss t)
      → AreAmong P es g (map (λ (no : ClauseNo). no.0) cs)
  judged pass known g cs whole left es solves = record {
    cells = equations_of P (row_by ss count);
    speak = row_speaks_of_cells P (row_by ss count);
    follow = λ t s. by_says t (solves t s);
    all = λ c candidate. left.all (row_by ss count) (by_seen pass known) (λ v c. by_whole (g.base + 1 + v.1) (whole v c)) c candidate;
  }
