-- What is known of the cells: the settings of the row, as the opening's cells and the acts state them.
use Rattle.std.proofs.Common.{ℕ, suc, ◌≡◌, ◌≢◌, inl, inr, false, true≢false, List, [], ◌++◌, map, reverse, refl, sym, ap, ◌∙◌, append-nil, Contains}
use Rattle.std.proofs.lemmas.List.Elements.{Contains-append_left, Contains-append_right, Contains-append_cases}
use Rattle.and_laws.proofs.Equality.{bool_cases}
use Rattle.and_laws.proofs.Solving.{solves_front, solves_back, solves_join}
use Rattle.and_model.specs.Terms.{Substitution}
use Rattle.and_model.specs.Solutions.{Solves}
use Rattle.and_model.specs.Store.{JournalEntry, Setting, set_in, settings_of, is_half}
use Rattle.and_model.specs.declared.goal.Goal.{Goal}
use Rattle.and_model.specs.declared.reference.Ref.{Ref}
use Rattle.and_model.specs.declared.reference.Ref.TheVariants.{Free}
use Rattle.and_cells.specs.Ranges.{NamedProgram}
use Rattle.and_cells.specs.Seen.{word_at}
use Rattle.and_cells.specs.Meaning.{equations_of}
use Rattle.and_cells.proofs.SetWords.{set_in_is, set_in_has}
use Rattle.and_store_laws.proofs.Lists.{map_contains}
use Rattle.and_worker_laws.specs.Acts.{Act, RunInCells, stated}
use Rattle.and_worker_laws.specs.Facts.{known_by}
use Rattle.and_handed.specs.Handed.{settings_from}
use Rattle.and_closing_laws.specs.Acting.{Ended, AreActsOf}
use Rattle.and_closing_laws.proofs.Entries.{setting_entry, entry_setting, stated_says, says_stated}
use Rattle.and_closing_laws.proofs.Lists.{in_reverse, of_reverse}
use Rattle.and_closing_laws.proofs.Phase.{Phase}
use Rattle.and_closing_laws.proofs.Words.{SolvesSet, SameNumber, said_alike, row_says, says_row}

module _ (P : NamedProgram) (opening : List Goal) (first row : List Ref) (journal : List JournalEntry) (words : ℕ) (ended : List Ended)
    (acts : List Act) (runs : List RunInCells) (phase : Phase P opening first row journal words ended acts runs) where
  -- ---- The first row

  first_in_row : (s : Setting) → Contains (set_in first) s → Contains (set_in row) s
  first_in_row s among = phase.set s (Contains-append_left (set_in first) (settings_of journal) s among)

  first_same : (place : ℕ) → Contains (map (λ (s : Setting). s.place) (set_in first)) place → word_at first place ≡ word_at row place
  first_same place among =
      let (s, there, is) = map_contains (λ (s : Setting). s.place) place (set_in first) among in
      ap (word_at first) (sym is) ∙ (set_in_is first s there).0 ∙ sym (set_in_is row s (first_in_row s there)).0 ∙ ap (word_at row) is

  first_number : (s : Setting) → Contains (set_in first) s → SameNumber (word_at first) (word_at row) s.value
  first_number s among pair is = let both = phase.written_first s among pair is in (first_same pair both.0, first_same (suc pair) both.1)

  -- What the first row says its settings say in the row,
  first_says : (t : Substitution) → Solves t (equations_of P first) → SolvesSet P (word_at row) (set_in first) t
  first_says t solves s among whole =
      said_alike P (word_at first) (word_at row) s t (first_number s among) (phase.clean s (first_in_row s among) whole)
      (row_says P first t solves s among whole)

  first_whole : (cell : ℕ) → is_half (word_at row cell) ≡ false → is_half (word_at first cell) ≡ false
  first_whole cell whole = elim (bool_cases (is_half (word_at first cell))) [
    | inl half ↦
        let not_free : word_at first cell ≢ Free = λ free. true≢false (sym half ∙ ap is_half free) in
        let stays = set_in_is row _ (first_in_row _ (set_in_has first cell (word_at first cell) (refl, not_free))) in
        absurd (true≢false (sym half ∙ sym (ap is_half stays.0) ∙ whole))
    | inr not ↦ not
  ]

  -- and the other way round.
  says_first : (t : Substitution) → SolvesSet P (word_at row) (set_in first) t → Solves t (equations_of P first)
  says_first t solves = says_row P first t (λ s among whole.
      said_alike P (word_at row) (word_at first) s t
      (λ pair is. let both = first_number s among pair is in (sym both.0, sym both.1))
      (λ cell c. first_whole cell (phase.clean s (first_in_row s among) whole cell c)) (solves s among whole))

  -- ---- By some time

  -- What is known where some acts have been done is all that was set by then.
  pub known_solves : (early late : List JournalEntry) → journal ≡ early ++ late → (before : List Act)
      → AreActsOf P (word_at row) ended (reverse early) before → (t : Substitution) → Solves t (known_by (equations_of P first) before)
      → SolvesSet P (word_at row) (settings_from first early) t
  known_solves early late cut before are t solves s among whole = elim (Contains-append_cases (set_in first) (settings_of early) s among) [
    | inl one ↦ first_says t (solves_back t (stated before) (equations_of P first) solves) s one whole
    | inr other ↦
        let (e, there, made) = setting_entry early s other in
        stated_says P (word_at row) ended t (reverse early) before are (solves_front t (stated before) (equations_of P first) solves) e s
        (in_reverse early e there) made whole
  ]

  -- ---- At the end

  -- So the row states what is known in the end, and nothing else.
  pub row_knows : (t : Substitution) → Solves t (equations_of P row) → Solves t (known_by (equations_of P first) acts)
  row_knows t solves =
      let all : SolvesSet P (word_at row) (set_in row) t = row_says P row t solves in
      solves_join t (stated acts) (equations_of P first)
      (says_stated P (word_at row) ended t (reverse journal) acts phase.are_acts
      (λ e s among made whole. all s (phase.set s (Contains-append_right (set_in first) (settings_of journal) s
      (entry_setting journal e s (of_reverse journal e among) made))) whole))
      (says_first t (λ s among whole. all s (first_in_row s among) whole))

  pub knows_row : (t : Substitution) → Solves t (known_by (equations_of P first) acts) → Solves t (equations_of P row)
  knows_row t solves = says_row P row t (λ s among whole.
      known_solves journal [] (sym (append-nil journal)) acts phase.are_acts t solves s (phase.all_set s among) whole)
