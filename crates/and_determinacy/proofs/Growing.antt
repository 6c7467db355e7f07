-- Rows that grow: while the free cells of a term are free, it stays the term.
use Rattle.std.proofs.Common.{ℕ, suc, ◌+◌, ◌≡◌, ◌≢◌, List, length, refl, ap, ◌∙◌, subst, arith}
use Rattle.std.proofs.lemmas.List.Elements.{All-contains}
use Rattle.and_model.specs.Terms.{Term, number}
use Rattle.and_model.specs.declared.reference.Ref.{Ref}
use Rattle.and_model.specs.declared.reference.Ref.TheVariants.{Free, Cell, Number}
use Rattle.and_cells.specs.Ranges.{NamedProgram}
use Rattle.and_cells.specs.Rows.{IsSound}
use Rattle.and_cells.specs.Seen.{word_at, Grows, AreFree}
use Rattle.and_cells.specs.Numbers.{number_of}
use Rattle.and_cells.specs.Meaning
use Rattle.and_cells.specs.Meaning.{StandsFor, number_in}
use Rattle.and_determinacy.specs.Watching.{IsWatched}

-- the number that the reference is, if it is one, is written
abbrev pub IsNumberSet : List Ref → Ref → Type 0
IsNumberSet row r = (pair : ℕ) → r ≡ Number pair → (word_at row pair ≢ Free) × (word_at row (suc pair) ≢ Free)

module _ (P : NamedProgram) (row later : List Ref) (sound : IsSound P row) (grows : Grows row later) (cells : List ℕ) (free : AreFree later cells) where
  stays : (r : Ref) (t : Term) → StandsFor P row r t → IsWatched P row (length row) cells r → IsNumberSet row r → StandsFor P later r t
  stays r t (Meaning.unbound cell below is) watched written =
      let longer = grows.longer in
      Meaning.unbound cell (omega arith) (All-contains (λ (c : ℕ). word_at later c ≡ Free) cells cell free (watched cell (Meaning.here cell) is below))
  stays r t (Meaning.bound cell q u set rest) watched written =
      Meaning.bound cell q u (grows.set cell q set)
      (stays q u rest (λ c h f. watched c (Meaning.onward cell q c set h) f) (λ pair e. sound.written cell pair (set.0 ∙ e)))
  stays r t (Meaning.structure node base s all) watched written =
      Meaning.structure node base s (λ v c.
      stays (Cell (base + 1 + v.1)) (s v.0 v.1) (all v c) (λ cell h f. watched cell (Meaning.inside node base v cell c h) f)
      (λ pair e. absurd (cc)))
  stays r t (Meaning.integer pair) watched written =
      let both = written pair refl in
      let high : word_at later pair ≡ word_at row pair = (grows.set pair (word_at row pair) (refl, both.0)).0 in
      let low : word_at later (suc pair) ≡ word_at row (suc pair) = (grows.set (suc pair) (word_at row (suc pair)) (refl, both.1)).0 in
      let same : number_in (word_at later) pair ≡ number_in (word_at row) pair =
      ap (λ (x : Ref). number (number_of x (word_at later (suc pair)))) high ∙ ap (λ (x : Ref). number (number_of (word_at row pair) x)) low in
      subst (StandsFor P later (Number pair)) same (Meaning.integer pair)

  -- While the cells are free of which a cell is watched, it stands for what it stood for.
  pub cell_stays : (cell : ℕ) (t : Term) → StandsFor P row (Cell cell) t → IsWatched P row (length row) cells (Cell cell) → StandsFor P later (Cell cell) t
  cell_stays cell t stands watched = stays (Cell cell) t stands watched (λ pair e. absurd (cc))
