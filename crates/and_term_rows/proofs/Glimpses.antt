-- Steps of cells that keep a list of what they know.
use Rattle.std.proofs.Common.{ℕ, suc, ◌≡◌, ◌≢◌, ◌<◌, true, false, List, [], ◌∷◌, ◌++◌, map, length, get_or, set, refl, sym, ap, subst, ◌∙◌, ◌⊎◌, inl, inr}
use Rattle.std.proofs.Common.{arith}
use Rattle.std.specs.Prelude.{All, Contains}
use Rattle.std.proofs.lemmas.Bool.{cases_eq, cases_lt}
use Rattle.std.proofs.lemmas.List.{map-append, get_or-map, length-append, length-map, get_or_past}
use Rattle.std.proofs.lemmas.List.Elements.{Contains-push, Contains-push_cases, Contains-append_left, All-weaker, All-push, All-map}
use Rattle.std.proofs.Math.ListN.{length-set}
use Rattle.and_model.specs.Store.{Setting, Known, AreDistinct, word}
use Rattle.and_model.specs.declared.reference.Ref.{Ref}
use Rattle.and_model.specs.declared.reference.Ref.TheVariants.{Free, Cell, Number}
use Rattle.and_cells.specs.Ranges.{NamedProgram, CanHold}
use Rattle.and_cells.specs.Seen.{IsSetTo, Knows, IsKnownWritten, Finds, Sets, Misses, word_at}
use Rattle.and_cells.specs.Rows.{IsSound}
use Rattle.and_term_rows.specs.Late.{Learnt, setting_of, known_of, glimpse}
use Rattle.and_cells.proofs.Keeping.{word_set_other}
use Rattle.and_cells.proofs.Distinct.{distinct_push, few_distinct}

abbrev pub nothing : Learnt
nothing = (0, Free, false)

abbrev pub settings : List Learnt → List Setting
settings known = map (λ (k : Known). k.setting) (map known_of known)

abbrev pub places : List Learnt → List ℕ
places known = map (λ (k : Known). k.setting.place) (map known_of known)

abbrev pub AreSo : List Ref → List Learnt → Type 0
AreSo row known = All (λ (k : Learnt). IsSetTo row k.0 k.1) known

setting_at : (known : List Learnt) (i : ℕ) (s : Setting) → i < length known → get_or (settings known) i s ≡ setting_of (get_or known i nothing)
setting_at known i s below =
    get_or-map (λ (k : Known). k.setting) (map known_of known) i (known_of nothing) s (rw length-map below)
    ∙ ap (λ (k : Known). k.setting) (get_or-map known_of known i nothing (known_of nothing) below)

length_settings : (known : List Learnt) → length (settings known) ≡ length known
length_settings known = length-map (map known_of known) (λ (k : Known). k.setting) ∙ length-map known known_of

-- what is known stands somewhere in the list
pub place_of : (known : List Learnt) (s : Setting) → Contains (settings known) s → (i : ℕ) × (i < length known) × (setting_of (get_or known i nothing) ≡ s)
place_of known s (i, below, is) =
    let low : i < length known = subst (λ n. i < n) (length_settings known) below in (i, low, sym (setting_at known i s low) ∙ is)

-- and what stands there is known
pub known_at : (known : List Learnt) (i : ℕ) (s : Setting) → i < length known → setting_of (get_or known i nothing) ≡ s → Contains (settings known) s
known_at known i s below is = (i, subst (λ n. i < n) (sym (length_settings known)) below, setting_at known i s below ∙ is)

-- what is known is so
pub known_is_so : (row : List Ref) (known : List Learnt) (missed : List ℕ) (p : ℕ) (r : Ref) → AreSo row known
    → Knows (glimpse row known missed) p r → IsSetTo row p r
known_is_so row known missed p r so knows =
    let at = place_of known (record { place = p; value = r }) knows in
    let here : IsSetTo row (get_or known at.0 nothing).0 (get_or known at.0 nothing).1 = so at.0 nothing at.1 in
    subst (λ (s : Setting). IsSetTo row s.place s.value) at.2 here

settings_push : (known : List Learnt) (k : Learnt) → settings (known ++ k ∷ []) ≡ settings known ++ setting_of k ∷ []
settings_push known k = ap (map (λ (k : Known). k.setting)) (map-append known_of known (k ∷ []))
    ∙ map-append (λ (k : Known). k.setting) (map known_of known) (known_of k ∷ [])

places_push : (known : List Learnt) (k : Learnt) → places (known ++ k ∷ []) ≡ places known ++ k.0 ∷ []
places_push known k = ap (map (λ (k : Known). k.setting.place)) (map-append known_of known (k ∷ []))
    ∙ map-append (λ (k : Known). k.setting.place) (map known_of known) (known_of k ∷ [])

forth : (known : List Learnt) (k : Learnt) (p : ℕ) (q : Ref) → Contains (settings (known ++ k ∷ [])) (record { place = p; value = q })
    → Contains (settings known) (record { place = p; value = q }) ⊎ ((p ≡ k.0) × (q ≡ k.1))
forth known k p q c =
    elim (Contains-push_cases (settings known) (setting_of k) (record { place = p; value = q })
    (subst (λ xs. Contains xs (record { place = p; value = q })) (settings_push known k) c)) [
      | inl before ↦ inl before
      | inr is ↦ inr (sym (ap (λ (s : Setting). s.place) is), sym (ap (λ (s : Setting). s.value) is))
    ]

back : (known : List Learnt) (k : Learnt) (p : ℕ) (q : Ref) → Contains (settings known) (record { place = p; value = q }) ⊎ ((p ≡ k.0) × (q ≡ k.1))
    → Contains (settings (known ++ k ∷ [])) (record { place = p; value = q })
back known k p q (inl before) = subst (λ xs. Contains xs (record { place = p; value = q })) (sym (settings_push known k))
    (Contains-append_left (settings known) (setting_of k ∷ []) (record { place = p; value = q }) before)
back known k p q (inr is) =
    let same : setting_of k ≡ record { place = p; value = q } = cc in
    subst (λ xs. Contains xs (record { place = p; value = q })) (sym (settings_push known k))
    (subst (Contains (settings known ++ setting_of k ∷ [])) same (Contains-push (settings known) (setting_of k)))

known_push : (known : List Learnt) (k : Learnt) → map known_of (known ++ k ∷ []) ≡ map known_of known ++ known_of k ∷ []
known_push known k = map-append known_of known (k ∷ [])

-- a set word that is known was found
pub finds_known : (P : NamedProgram) (row : List Ref) (known : List Learnt) (missed : List ℕ) (place : ℕ) (r : Ref) → AreSo row known
    → ((q : Ref) → q ≡ word_at row place → CanHold P (length row) place q)
    → Knows (glimpse row known missed) place r → Finds P place r (glimpse row known missed) (glimpse row known missed)
finds_known P row known missed place r so fits knows =
    let is = known_is_so row known missed place r so knows in record {
      is_set = is.1;
      fits = fits r (sym is.0);
      as_known = λ q known_so. sym is.0 ∙ (known_is_so row known missed place q so known_so).0;
      adds = λ p q. (inl, again p q);
      gains = inl refl;
      words = refl;
      told = refl;
      missed = refl;
    }
  where
    again : (p : ℕ) (q : Ref) → Knows (glimpse row known missed) p q ⊎ ((p ≡ place) × (q ≡ r)) → Knows (glimpse row known missed) p q
    again p q (inl before) = before
    again p q (inr same) = subst (λ w. Knows (glimpse row known missed) p w) (sym same.1) (subst (λ n. Knows (glimpse row known missed) n r) (sym same.0) knows)

-- one that is not known is learnt
pub finds_learnt : (P : NamedProgram) (row : List Ref) (known : List Learnt) (missed : List ℕ) (place : ℕ) (r : Ref) → r ≢ Free → CanHold P (length row) place r
    → ((q : Ref) → Knows (glimpse row known missed) place q → ⊥)
    → Finds P place r (glimpse row known missed) (glimpse row (known ++ (place, r, false) ∷ []) missed)
finds_learnt P row known missed place r is_set fits unknown = record {
  is_set = is_set;
  fits = fits;
  as_known = λ q known_so. absurd (unknown q known_so);
  adds = λ p q. (forth known (place, r, false) p q, back known (place, r, false) p q);
  gains = inr (known_push known (place, r, false));
  words = refl;
  told = refl;
  missed = refl;
}

pub sets_learnt : (row : List Ref) (known : List Learnt) (missed : List ℕ) (place : ℕ) (r : Ref)
    → ((q : Ref) → Knows (glimpse row known missed) place q → ⊥)
    → Sets place r (glimpse row known missed) (glimpse (set row place r) (known ++ (place, r, true) ∷ []) missed)
sets_learnt row known missed place r unknown = record {
  not_known = unknown;
  free = tt;
  adds = λ p q. (forth known (place, r, true) p q, back known (place, r, true) p q);
  gains = inr (known_push known (place, r, true));
  words = length-set row place r;
  told = refl;
  missed = inl refl;
}

pub misses_place : (row : List Ref) (known : List Learnt) (missed : List ℕ) (place : ℕ) → ((q : Ref) → Knows (glimpse row known missed) place q → ⊥)
    → Misses (length row) place (glimpse row known missed) (glimpse row known (missed ++ place ∷ []))
misses_place row known missed place unknown =
    let more : map word (missed ++ place ∷ []) ≡ map word missed ++ word place ∷ [] = map-append word missed (place ∷ []) in record {
      not_known = unknown;
      free = tt;
      known = refl;
      words = refl;
      told = refl;
      missed = inr more;
      noted = λ _. subst (λ ms. Contains ms (word place)) (sym more) (Contains-push (map word missed) (word place));
    }

-- what is known is so still where a free word was set
pub so_set : (row : List Ref) (known : List Learnt) (place : ℕ) (r : Ref) → word_at row place ≡ Free → AreSo row known → AreSo (set row place r) known
so_set row known place r free so =
    All-weaker (λ (k : Learnt). IsSetTo row k.0 k.1) (λ (k : Learnt). IsSetTo (set row place r) k.0 k.1) (λ k is. kept k is (cases_eq k.0 place)) known so
  where
    kept : (k : Learnt) → IsSetTo row k.0 k.1 → (k.0 ≡ place) ⊎ (k.0 ≢ place) → IsSetTo (set row place r) k.0 k.1
    kept k is (inl same) = absurd (is.1 (sym is.0 ∙ ap (word_at row) same ∙ free))
    kept k is (inr other) = (word_set_other row place k.0 r other ∙ is.0, is.1)

-- a place that is not known is apart from those that are
pub once_push : (known : List Learnt) (k : Learnt) → AreDistinct (places known)
    → ((r : Ref) → Contains (settings known) (record { place = k.0; value = r }) → ⊥) → AreDistinct (places (known ++ k ∷ []))
once_push known k once unknown = subst AreDistinct (sym (places_push known k)) (distinct_push (places known) k.0 once apart)
  where
    many : length (places known) ≡ length known
    many = length-map (map known_of known) (λ (k : Known). k.setting.place) ∙ length-map known known_of

    apart : (i : ℕ) → i < length (places known) → get_or (places known) i 0 ≢ k.0
    apart i below e =
        let low : i < length known = subst (λ n. i < n) many below in
        let at : get_or (places known) i 0 ≡ (get_or known i nothing).0 =
        get_or-map (λ (k : Known). k.setting.place) (map known_of known) i (known_of nothing) 0 (rw length-map low)
        ∙ ap (λ (k : Known). k.setting.place) (get_or-map known_of known i nothing (known_of nothing) low) in
        let same : (get_or known i nothing).0 ≡ k.0 = sym at ∙ e in
        unknown (get_or known i nothing).1
        (known_at known i _ low (let is : setting_of (get_or known i nothing) ≡ record { place = k.0; value = (get_or known i nothing).1 } = cc in is))

-- what stands at a place of the list is known
pub known_here : (known items : List Learnt) (i p : ℕ) → items ≡ known → i < length items → (get_or items i nothing).0 ≡ p
    → Contains (settings known) (record { place = p; value = (get_or items i nothing).1 })
known_here known items i p same below is =
    subst (λ xs. Contains (settings xs) (record { place = p; value = (get_or items i nothing).1 })) same
    (known_at items i _ below (let eq : setting_of (get_or items i nothing) ≡ record { place = p; value = (get_or items i nothing).1 } = cc in eq))

pub so_push : (row : List Ref) (known : List Learnt) (k : Learnt) → AreSo row known → IsSetTo row k.0 k.1 → AreSo row (known ++ k ∷ [])
so_push row known k so is = All-push (λ (k : Learnt). IsSetTo row k.0 k.1) known k so is

-- with one more the list is kept as it should be
pub push_kept : (row : List Ref) (known after : List Learnt) (k : Learnt) → after ≡ known ++ k ∷ [] → AreDistinct (places known) → AreSo row known
    → IsSetTo row k.0 k.1
    → ((r : Ref) → Contains (settings known) (record { place = k.0; value = r }) → ⊥) → AreDistinct (places after) × AreSo row after
push_kept row known after k is once so set unknown =
    subst (λ xs. AreDistinct (places xs) × AreSo row xs) (sym is) (once_push known k once unknown, so_push row known k so set)

-- the place of a set word is one of the row
set_below : (row : List Ref) (p : ℕ) (r : Ref) → IsSetTo row p r → p < length row
set_below row p r is = elim (cases_lt p (length row)) [
  | inl below ↦ below
  | inr past ↦ absurd (is.1 (sym is.0 ∙ get_or_past row p Free past))
]

-- while a word is not known, fewer are known than the row has
pub few_known : (row : List Ref) (known : List Learnt) (missed : List ℕ) (place : ℕ) → AreDistinct (places known) → AreSo row known → place < length row
    → ((q : Ref) → Knows (glimpse row known missed) place q → ⊥) → length known < length row
few_known row known missed place once so below unknown =
    let one : Learnt = (place, Cell place, true) in
    let apart = once_push known one once (λ r knows. unknown r knows) in
    let IsLow : ℕ → Type 0 = λ p. p < length row in
    let low : All (λ (k : Learnt). IsLow k.0) known =
    All-weaker (λ (k : Learnt). IsSetTo row k.0 k.1) (λ (k : Learnt). IsLow k.0) (λ k is. set_below row k.0 k.1 is) known so in
    let lows : All IsLow (places known) =
    All-map IsLow (λ (k : Known). k.setting.place) (map known_of known) (All-map (λ (k : Known). IsLow k.setting.place) known_of known low) in
    let all : All IsLow (places (known ++ one ∷ [])) = subst (All IsLow) (sym (places_push known one)) (All-push IsLow (places known) place lows below) in
    let few = few_distinct (places (known ++ one ∷ [])) (length row) apart all in
    omega (
      arith,
      few,
      ap length (places_push known one),
      length-append (places known) (place ∷ []),
      length-map (map known_of known) (λ (k : Known). k.setting.place),
      length-map known known_of,
    )

pub finds_then : (P : NamedProgram) (row after : List Ref) (known later : List Learnt) (missed still : List ℕ) (place : ℕ) (r : Ref)
    → length after ≡ length row → later ≡ known ++ (place, r, false) ∷ [] → still ≡ missed → r ≢ Free → CanHold P (length row) place r
    → ((q : Ref) → Knows (glimpse row known missed) place q → ⊥) → Finds P place r (glimpse row known missed) (glimpse after later still)
finds_then P row after known later missed still place r same_length is_known same_missed is_set fits unknown =
    let from = glimpse row known missed in
    subst (λ k. Finds P place r from (glimpse after k still)) (sym is_known)
    (subst (λ m. Finds P place r from (glimpse after (known ++ (place, r, false) ∷ []) m)) (sym same_missed)
    (let finds = finds_learnt P row known missed place r is_set fits unknown in record {
      is_set = finds.is_set;
      fits = finds.fits;
      as_known = finds.as_known;
      adds = finds.adds;
      gains = finds.gains;
      words = same_length;
      told = refl;
      missed = refl;
    }))

pub sets_then : (row after : List Ref) (known later : List Learnt) (missed still : List ℕ) (place : ℕ) (r : Ref)
    → after ≡ set row place r → later ≡ known ++ (place, r, true) ∷ [] → still ≡ missed
    → ((q : Ref) → Knows (glimpse row known missed) place q → ⊥) → Sets place r (glimpse row known missed) (glimpse after later still)
sets_then row after known later missed still place r same_row is_known same_missed unknown =
    let from = glimpse row known missed in
    subst (λ a. Sets place r from (glimpse a later still)) (sym same_row)
    (subst (λ k. Sets place r from (glimpse (set row place r) k still)) (sym is_known)
    (subst (λ m. Sets place r from (glimpse (set row place r) (known ++ (place, r, true) ∷ []) m)) (sym same_missed)
    (sets_learnt row known missed place r unknown)))

-- a free word is not known
pub free_unknown : (row : List Ref) (known : List Learnt) (missed : List ℕ) (place : ℕ) (r : Ref) → AreSo row known → word_at row place ≡ Free
    → Knows (glimpse row known missed) place r → ⊥
free_unknown row known missed place r so free knows = let is = known_is_so row known missed place r so knows in is.1 (sym is.0 ∙ free)

pub written_so : (P : NamedProgram) (row : List Ref) (known : List Learnt) (missed : List ℕ) (pair : ℕ) → IsSound P row → AreSo row known
    → IsKnownWritten (glimpse row known missed) pair
    → (word_at row pair ≢ Free) × (word_at row (suc pair) ≢ Free)
written_so P row known missed pair sound so (inl both) =
    let high = known_is_so row known missed pair both.0.0 so both.0.1 in
    let low = known_is_so row known missed (suc pair) both.1.0 so both.1.1 in
    ((λ e. high.1 (sym high.0 ∙ e)), (λ e. low.1 (sym low.0 ∙ e)))
written_so P row known missed pair sound so (inr cell) = sound.written cell.0 pair (known_is_so row known missed cell.0 (Number pair) so cell.1).0
