-- What is used of a phase to tell what its workers knew.
use Rattle.std.proofs.Common.{ℕ, suc, ◌≡◌, ◌<◌, ◌≤◌, inl, inr, false, List, ◌∷◌, ◌++◌, map, reverse, length, Some}
use Rattle.std.proofs.Common.{sym, ap, subst, ◌∙◌, ◌≢◌, append_assoc, arith, Contains}
use Rattle.std.proofs.lemmas.List.Concat.{flat_map-append}
use Rattle.std.proofs.lemmas.List.Elements.{Contains-append_left, Contains-append_right, Contains-append_cases}
use Rattle.and_model.specs.Store.{JournalEntry, Setting, Frame, Fits, sets, set_in, settings_of, frames_of, is_half, IsWritten, AreDistinct}
use Rattle.and_model.specs.declared.goal.Goal.{Goal}
use Rattle.and_model.specs.declared.reference.Ref.{Ref}
use Rattle.and_model.specs.declared.reference.Ref.TheVariants.{Free, Number}
use Rattle.and_cells.specs.Ranges.{NamedProgram}
use Rattle.and_cells.specs.Seen.{word_at}
use Rattle.and_cells.proofs.SetWords.{set_in_is}
use Rattle.and_store.specs.Passes.{PassSeen}
use Rattle.and_store_laws.proofs.Journal.{made_settings}
use Rattle.and_store_laws.proofs.Lists.{contains_map, map_contains, contains_split}
use Rattle.and_worker_laws.specs.Acts.{Act, RunInCells, IsThere}
use Rattle.and_handed.specs.Handed.{settings_from, FitsSeen, IsWholeFrame, EndsBy}
use Rattle.and_handed.specs.declared.told.Cause.TheVariants.{NoCandidate}
use Rattle.and_handed.specs.declared.told.Reduced.{Reduced}
use Rattle.and_closing_laws.specs.Acting.{Ended, AreActsOf, AreAllRuns}
use Rattle.and_closing_laws.proofs.Entries.{setting_entry}
use Rattle.and_closing_laws.proofs.Words.{IsClean, set_is_low}

-- the pass, of a store that began with this row and has so many words
abbrev pub seated : (first : List Ref) → (words : ℕ) → PassSeen → PassSeen
seated first words p = record p { store = record p.store { about = record p.store.about { first = first; words = words } } }

-- A worker has ended as it may, and its pass fits into the journal.
pub record Worker (P : NamedProgram) (first row : List Ref) (journal : List JournalEntry) (words : ℕ) (who : Ended) : Type 0 where
  pub mark : ℕ
  pub fits : Fits first mark journal who.1.pass
  pub ends : EndsBy P who.0 (seated first words who.1) who.0.cause
  pub whole : FitsSeen P who.0 (seated first words who.1) (word_at row)

-- Phase P opening first row journal words ended acts runs: these workers have ended over a store of so many words that began with the first row,
-- and left this row and this journal. These are their acts and runs.
pub record Phase (P : NamedProgram) (opening : List Goal) (first row : List Ref) (journal : List JournalEntry) (words : ℕ) (ended : List Ended)
    (acts : List Act) (runs : List RunInCells) : Type 0 where
  pub are_acts : AreActsOf P (word_at row) ended (reverse journal) acts
  pub are_runs : AreAllRuns P first ended runs
  pub workers : (who : Ended) → Contains ended who → Worker P first row journal words who
  -- Each entry is one of theirs.
  pub by_one : (e : JournalEntry) → Contains journal e → (who : Ended) × Contains ended who × (who.1.pass.number ≡ e.pass)
  -- What was set is in the row, and nothing else, at one place each.
  pub set : (s : Setting) → Contains (settings_from first journal) s → Contains (set_in row) s
  pub all_set : (s : Setting) → Contains (set_in row) s → Contains (settings_from first journal) s
  pub once : AreDistinct (map (λ (s : Setting). s.place) (settings_from first journal))
  pub low : length row ≤ words
  pub clean : (s : Setting) → Contains (set_in row) s → is_half s.value ≡ false → IsClean P (word_at row) s
  pub written_first : (s : Setting) → Contains (set_in first) s → (pair : ℕ) → s.value ≡ Number pair → IsWritten (set_in first) pair
  pub written : (before after : List JournalEntry) (e : JournalEntry) → journal ≡ before ++ e ∷ after
      → (s : Setting) → e.made ≡ sets s → (pair : ℕ) → s.value ≡ Number pair → IsWritten (settings_from first before) pair
  -- No two frames begin at one place, and none was taken for two goals.
  pub frames : AreDistinct (map (λ (f : Frame). f.base) (frames_of journal))
  pub one : (who other : Ended) (m n : Reduced) → Contains ended who → Contains ended other → Contains who.0.made.items m → Contains other.0.made.items n
      → m.reduction.node ≡ n.reduction.node → (m.goal ≡ n.goal) × (m.reduction ≡ n.reduction)
  pub stuck : (who : Ended) (goal : Goal) → Contains ended who → who.0.cause ≡ Some (NoCandidate goal)
      → IsThere P.program opening acts goal × IsWholeFrame P (word_at row) goal.clause.0 goal.base

-- ---- Settings by some time

-- What was set early was set.
pub settings_more : (first : List Ref) (early late : List JournalEntry) (s : Setting) → Contains (settings_from first early) s
    → Contains (settings_from first (early ++ late)) s
settings_more first early late s among = elim (Contains-append_cases (set_in first) (settings_of early) s among) [
  | inl one ↦ Contains-append_left (set_in first) (settings_of (early ++ late)) s one
  | inr other ↦ Contains-append_right (set_in first) (settings_of (early ++ late)) s
      (subst (λ l. Contains l s) (sym (flat_map-append made_settings early late)) (Contains-append_left (settings_of early) (settings_of late) s other))
]

pub settings_in : (first : List Ref) (early late journal : List JournalEntry) → journal ≡ early ++ late → (s : Setting)
    → Contains (settings_from first early) s → Contains (settings_from first journal) s
settings_in first early late journal is s among = subst (λ l. Contains (settings_from first l) s) (sym is) (settings_more first early late s among)

pub written_more : (ss all : List Setting) → ((s : Setting) → Contains ss s → Contains all s) → (pair : ℕ) → IsWritten ss pair → IsWritten all pair
written_more ss all more pair both = (place_more ss all more pair both.0, place_more ss all more (suc pair) both.1)
  where
    place_more : (ss all : List Setting) → ((s : Setting) → Contains ss s → Contains all s) → (place : ℕ)
        → Contains (map (λ (s : Setting). s.place) ss) place → Contains (map (λ (s : Setting). s.place) all) place
    place_more ss all more place among =
        let (s, there, is) = map_contains (λ (s : Setting). s.place) place ss among in
        subst (Contains (map (λ (s : Setting). s.place) all)) is (contains_map (λ (s : Setting). s.place) s all (more s there))

module _ (P : NamedProgram) (opening : List Goal) (first row : List Ref) (journal : List JournalEntry) (words : ℕ) (ended : List Ended)
    (acts : List Act) (runs : List RunInCells) (phase : Phase P opening first row journal words ended acts runs)
    (early late : List JournalEntry) (cut : journal ≡ early ++ late) where
  pub early_set : (s : Setting) → Contains (settings_from first early) s → Contains (set_in row) s
  early_set s among = phase.set s (settings_in first early late journal cut s among)

  pub early_has : (s : Setting) → Contains (settings_from first early) s → word_at row s.place ≡ s.value
  early_has s among = (set_in_is row s (early_set s among)).0

  pub early_not_free : (s : Setting) → Contains (settings_from first early) s → s.value ≢ Free
  early_not_free s among = (set_in_is row s (early_set s among)).1

  pub early_low : (s : Setting) → Contains (settings_from first early) s → s.place < words
  early_low s among = let short = set_is_low row s (early_set s among) in let low = phase.low in omega arith

  pub early_clean : (s : Setting) → Contains (settings_from first early) s → is_half s.value ≡ false → IsClean P (word_at row) s
  early_clean s among whole = phase.clean s (early_set s among) whole

  -- Numbers are written by then.
  pub early_written : (s : Setting) → Contains (settings_from first early) s → (pair : ℕ) → s.value ≡ Number pair → IsWritten (settings_from first early) pair
  early_written s among pair is = elim (Contains-append_cases (set_in first) (settings_of early) s among) [
    | inl one ↦ written_more (set_in first) (settings_from first early) (λ x c. Contains-append_left (set_in first) (settings_of early) x c) pair
        (phase.written_first s one pair is)
    | inr other ↦
        let (e, there, made) = setting_entry early s other in
        let (before, after, stands) = contains_split e early there in
        written_more (settings_from first before) (settings_from first early) (λ x c. settings_in first before (e ∷ after) early stands x c) pair
        (phase.written before (after ++ late) e (cut ∙ ap (λ l. l ++ late) stands ∙ append_assoc before (e ∷ after) late) s made pair is)
  ]
