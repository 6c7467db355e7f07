-- Rows whose cells are made free again, and which are cut off.
use Rattle.std.proofs.Common.{ℕ, zero, suc, ◌≡◌, ◌≢◌, ◌<◌, ◌≤◌, ◌⊎◌, inl, inr, List, [], ◌∷◌, length, get_or, set, ◌++◌, take, refl, sym, ap, subst, ◌∙◌, arith}
use Rattle.std.specs.Prelude.{All, Contains}
use Rattle.std.proofs.lemmas.Bool.{cases_eq, cases_lt}
use Rattle.std.proofs.lemmas.List.{map-set, take-map, get_or-take, get_or_append_left, get_or_default, same_lists, length-append, length-take-le, take_all}
use Rattle.std.proofs.lemmas.List.Elements.{All-take, All-contains, Contains-append_left, Contains-append_right, Contains-append_cases}
use Rattle.std.proofs.Math.ListN.{length-set}
use Rattle.and_model.specs.Words.{HasWord, word_of}
use Rattle.and_model.specs.declared.reference.Ref.{Ref}
use Rattle.and_model.specs.declared.reference.Ref.TheVariants.{Free, Cell}
use Rattle.and_cells.specs.Ranges.{NamedProgram}
use Rattle.and_cells.specs.Seen.{word_at, IsSetTo}
use Rattle.and_cells.specs.Rows.{IsSound, ref_of, row_of, AreWords, all_set, taken_back, OnlySet}
use Rattle.and_cells.proofs.Keeping.{free_or_set, word_set_here, word_set_other, nothing_there}
use Rattle.and_cells.specs.Ground.{AreFounded}
use Rattle.and_cells.proofs.Grounding.{founded_kept}
use Rattle.and_cells.proofs.PlainRows.{words_set}

row_all_set : (cells : List ℕ) (ws : List ℕ) → row_of (all_set 0 cells ws) ≡ all_set Free cells (row_of ws)
row_all_set [] ws = refl
row_all_set (c ∷ cs) ws = row_all_set cs (set ws c 0) ∙ ap (all_set Free cs) (map-set ref_of ws c 0)

words_all_set : (cells : List ℕ) (ws : List ℕ) → AreWords ws → AreWords (all_set 0 cells ws)
words_all_set [] ws are = are
words_all_set (c ∷ cs) ws are = words_all_set cs (set ws c 0) (words_set ws c Free tt are)

length_all_set : {X : Type 0} (x : X) (cells : List ℕ) (xs : List X) → length (all_set x cells xs) ≡ length xs
length_all_set x [] xs = refl
length_all_set x (c ∷ cs) xs = length_all_set x cs (set xs c x) ∙ length-set xs c x

-- each word is free where its cell is one of the list, and else is as it was
all_set_at : (cells : List ℕ) (row : List Ref) (p : ℕ) → p < length row
    → ((word_at (all_set Free cells row) p ≡ Free) × Contains cells p) ⊎ ((word_at (all_set Free cells row) p ≡ word_at row p) × (Contains cells p → ⊥))
all_set_at [] row p below = inr (refl, λ has. let low = has.1 in absurd (omega arith))
all_set_at (c ∷ cs) row p below =
    by_place (cases_eq p c) (all_set_at cs (set row c Free) p (let long = length-set row c Free in omega arith))
  where
    then : ℕ → Ref
    then p = word_at (all_set Free cs (set row c Free)) p

    by_place : (p ≡ c) ⊎ (p ≢ c) → ((then p ≡ Free) × Contains cs p) ⊎ ((then p ≡ word_at (set row c Free) p) × (Contains cs p → ⊥))
        → ((then p ≡ Free) × Contains (c ∷ cs) p) ⊎ ((then p ≡ word_at row p) × (Contains (c ∷ cs) p → ⊥))
    by_place e (inl free) = inl (free.0, (suc free.1.0, let low = free.1.1 in omega arith, free.1.2))
    by_place (inl same) (inr old) = inl (old.0 ∙ word_set_here row c p Free (subst (λ q. q < length row) same below) same, (0, omega arith, sym same))
    by_place (inr other) (inr old) = inr (old.0 ∙ word_set_other row c p Free other, apart)
      where
        apart : Contains (c ∷ cs) p → ⊥
        apart (zero, low, is) = other (sym is)
        apart (suc k, low, is) = old.1 (k, omega arith, is)

-- Where cells were only set, and words put behind, taking these back gives the row that there was.
pub took_back : (before after : List Ref) (cells : List ℕ) → OnlySet cells before after → taken_back after cells (length before) ≡ before
took_back before after cells only = same_lists _ _ long (λ k d low. at k d (subst (λ n. k < n) long low))
  where
    cut : length (take (length before) after) ≡ length before
    cut = length-take-le (length before) after only.longer

    long : length (taken_back after cells (length before)) ≡ length before
    long = length_all_set Free cells (take (length before) after) ∙ cut

    is_before : (k : ℕ) → k < length before → ((word_at (taken_back after cells (length before)) k ≡ Free) × Contains cells k)
        ⊎ ((word_at (taken_back after cells (length before)) k ≡ word_at (take (length before) after) k) × (Contains cells k → ⊥))
        → word_at (taken_back after cells (length before)) k ≡ word_at before k
    is_before k low (inl free) = free.0 ∙ sym (only.free k free.1 low)
    is_before k low (inr old) = old.0 ∙ get_or-take (length before) after k Free low
        ∙ elim (only.others k low) [ inl same ↦ same | inr among ↦ absurd (old.1 among) ]

    at : (k : ℕ) (d : Ref) → k < length before → get_or (taken_back after cells (length before)) k d ≡ get_or before k d
    at k d low =
        get_or_default (taken_back after cells (length before)) k d Free (subst (λ m. k < m) (sym long) low)
        ∙ is_before k low (all_set_at cells (take (length before) after) k (subst (λ m. k < m) (sym cut) low))
        ∙ get_or_default before k Free d low

-- Words were put behind.
pub set_behind : (row behind : List Ref) → OnlySet [] row (row ++ behind)
set_behind row behind = record {
  longer = let long = length-append row behind in omega arith;
  free = λ cell has. let low = has.1 in absurd (omega arith);
  others = λ place below. inl (get_or_append_left row behind Free place below);
}

-- What was set stays, and what is set now was set before or is one of these cells, which were free.
pub only_set_by : (cells : List ℕ) (before after : List Ref) → length before ≤ length after → ((p : ℕ) (r : Ref) → IsSetTo before p r → IsSetTo after p r)
    → ((p : ℕ) (r : Ref) → IsSetTo after p r → IsSetTo before p r ⊎ Contains cells p)
    → ((cell : ℕ) → Contains cells cell → cell < length before → word_at before cell ≡ Free) → OnlySet cells before after
only_set_by cells before after longer stays was free = record {
  longer = longer;
  free = free;
  others = λ place below. elim (free_or_set (word_at after place)) [
    | inl is_free ↦ (elim (free_or_set (word_at before place)) [
      | inl was_free ↦ inl (is_free ∙ sym was_free)
      | inr set ↦ inl (absurd (set (sym (stays place (word_at before place) (refl, set)).0 ∙ is_free)))
    ])
    | inr set ↦ (elim (was place (word_at after place) (refl, set)) [ inl old ↦ inl (sym old.0) | inr among ↦ inr among ])
  ];
}

-- More cells were set after some had been.
pub set_more : (cells more : List ℕ) (before between after : List Ref) → OnlySet cells before between → OnlySet more between after
    → OnlySet (cells ++ more) before after
set_more cells more before between after one two = record {
  longer = let a = one.longer in let b = two.longer in omega arith;
  free = λ cell has below. elim (Contains-append_cases cells more cell has) [
    | inl first ↦ one.free cell first below
    | inr second ↦ (let free = two.free cell second (let a = one.longer in omega arith) in
        elim (one.others cell below) [ inl same ↦ sym same ∙ free | inr among ↦ one.free cell among below ])
  ];
  others = λ place below. elim (two.others place (let a = one.longer in omega arith)) [
    | inl same ↦ (elim (one.others place below) [ inl old ↦ inl (same ∙ old) | inr among ↦ inr (Contains-append_left cells more place among) ])
    | inr among ↦ inr (Contains-append_right cells more place among)
  ];
}

-- what the words become is what the row becomes
pub words_taken_back : (P : NamedProgram) (ws after cut : List ℕ) (cells : List ℕ) (words : ℕ) (row : List Ref) → row_of ws ≡ row → AreWords ws
    → cut ≡ take words ws → after ≡ all_set 0 cells cut → IsSound P (taken_back row cells words)
    → (AreWords after × IsSound P (row_of after)) × (row_of after ≡ taken_back row cells words)
words_taken_back P ws after cut cells words row is are is_cut is_after sound =
    let same : row_of after ≡ taken_back row cells words =
    ap row_of is_after ∙ row_all_set cells cut ∙ ap (λ ws. all_set Free cells (row_of ws)) is_cut
    ∙ ap (all_set Free cells) (sym (take-map ref_of words ws) ∙ ap (take words) is) in
    let IsWord : ℕ → Type 0 = λ w. HasWord (ref_of w) × (word_of (ref_of w) ≡ w) in (
      (
        subst AreWords (sym is_after) (words_all_set cells cut (subst AreWords (sym is_cut) (All-take IsWord words ws are))),
        subst (IsSound P) (sym same) sound,
      ),
      same,
    )

-- What is known to be ground stays so where none of its cells is made free or cut off.
pub founded_taken_back : (P : NamedProgram) (row known : List Ref) (cells : List ℕ) (words : ℕ)
    → All (λ (cell : ℕ). Contains known (Cell cell) → ⊥) cells
    → ((cell : ℕ) → words ≤ cell → cell < length row → Contains known (Cell cell) → ⊥)
    → AreFounded P row known → AreFounded P (taken_back row cells words) known
founded_taken_back P row known cells words none past = founded_kept P row (taken_back row cells words) known same
  where
    within : (cell : ℕ) → cell < length row → cell < words → cell < length (take words row)
    within cell there before = by_length (cases_lt words (length row))
      where
        by_length : (words < length row) ⊎ (length row ≤ words) → cell < length (take words row)
        by_length (inl longer) = let cut = length-take-le words row (omega arith) in omega arith
        by_length (inr whole) = let cut = ap length (take_all words row whole) in omega arith

    by_word : (cell : ℕ) → Contains known (Cell cell) → cell < words → ((word_at (taken_back row cells words) cell ≡ Free) × Contains cells cell)
        ⊎ ((word_at (taken_back row cells words) cell ≡ word_at (take words row) cell) × (Contains cells cell → ⊥))
        → word_at (taken_back row cells words) cell ≡ word_at row cell
    by_word cell has before (inl free) = absurd (All-contains (λ (cell : ℕ). Contains known (Cell cell) → ⊥) cells cell none free.1 has)
    by_word cell has before (inr old) = old.0 ∙ get_or-take words row cell Free before

    same : (cell : ℕ) → Contains known (Cell cell) → word_at row cell ≢ Free → word_at (taken_back row cells words) cell ≡ word_at row cell
    same cell has set = elim (cases_lt cell (length row)) [
      | inl there ↦ (elim (cases_lt cell words) [
        | inl before ↦ by_word cell has before (all_set_at cells (take words row) cell (within cell there before))
        | inr behind ↦ absurd (past cell behind there has)
      ])
      | inr beyond ↦ absurd (set (nothing_there row cell beyond))
    ]
