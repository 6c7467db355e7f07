-- The words of a store's table, found and set part by part.
use Rattle.std.proofs.Common.{ℕ, zero, suc, ◌+◌, ◌<◌, ◌≡◌, true, List, [], ◌∷◌, ◌++◌, map, length, set, get_or, refl, sym, ap, ◌∙◌, arith}
use Rattle.std.proofs.lemmas.List.{get_or-append-add, set-append_left, map-set, length-map}
use Rattle.and_model.specs.Store.{Waiting, empty}
use Rattle.and_model.specs.Words.{word_of}
use Rattle.and_model.specs.declared.reference.Ref.{Ref}
use Rattle.and_model.specs.declared.reference.Ref.TheVariants.{Free}
use Rattle.and_store_laws.specs.AtWork.{Held, word_at, place_at}
use Rattle.and_store.specs.Kept.{place_word, flag, words_of}

pub set-append-add : {X : Type 0} (xs ys : List X) (n : ℕ) (y : X) → set (xs ++ ys) (length xs + n) y ≡ xs ++ set ys n y
set-append-add [] ys n y = let e : 0 + n ≡ n = omega arith in ap (λ k. set ys k y) e
set-append-add (x ∷ xs) ys n y =
    let e : length (x ∷ xs) + n ≡ suc (length xs + n) = omega arith in ap (λ k. set (x ∷ (xs ++ ys)) k y) e ∙ ap (λ l. x ∷ l) (set-append-add xs ys n y)

get_or-mapped : {X : Type 0} (f : X → ℕ) (d : X) (xs : List X) (rest : List ℕ) (i : ℕ) → i < length xs → get_or (map f xs ++ rest) i 0 ≡ f (get_or xs i d)
get_or-mapped f d [] rest i h = absurd (omega arith)
get_or-mapped f d (x ∷ xs) rest zero h = refl
get_or-mapped f d (x ∷ xs) rest (suc i) h = get_or-mapped f d xs rest i (omega arith)

module _ (h : Held) (goals : List ℕ) (words : ℕ) (row_long : length h.row ≡ words) (places_long : length h.places ≡ words) where
  abbrev rest : List ℕ
  rest = goals ++ h.mark ∷ flag h.is_failed ∷ []

  abbrev behind : List ℕ
  behind = map place_word h.places ++ rest

  row_is : length (map word_of h.row) ≡ words
  row_is = length-map h.row word_of ∙ row_long

  places_are : length (map place_word h.places) ≡ words
  places_are = length-map h.places place_word ∙ places_long

  pub row_at : (cell : ℕ) → cell < words → get_or (words_of h goals) cell 0 ≡ word_of (word_at h.row cell)
  row_at cell within = get_or-mapped word_of Free h.row behind cell (omega (arith, row_long))

  pub row_set : (cell : ℕ) (to : Ref) → cell < words → set (words_of h goals) cell (word_of to) ≡ words_of (record h { row = set h.row cell to }) goals
  row_set cell to within =
      set-append_left (map word_of h.row) behind cell (word_of to) (omega (arith, row_is)) ∙ ap (λ l. l ++ behind) (sym (map-set word_of h.row cell to))

  past_row : (n : ℕ) → get_or (words_of h goals) (words + n) 0 ≡ get_or behind n 0
  past_row n = ap (λ k. get_or (words_of h goals) (k + n) 0) (sym row_is) ∙ get_or-append-add (map word_of h.row) behind n 0

  past_row_set : (n x : ℕ) → set (words_of h goals) (words + n) x ≡ map word_of h.row ++ set behind n x
  past_row_set n x = ap (λ k. set (words_of h goals) (k + n) x) (sym row_is) ∙ set-append-add (map word_of h.row) behind n x

  pub place_found : (cell : ℕ) → cell < words → get_or (words_of h goals) (words + cell) 0 ≡ place_word (place_at h.places cell)
  place_found cell within = past_row cell ∙ get_or-mapped place_word empty h.places rest cell (omega (arith, places_long))

  pub place_set : (cell : ℕ) (w : Waiting) → cell < words
      → set (words_of h goals) (words + cell) (place_word w) ≡ words_of (record h { places = set h.places cell w }) goals
  place_set cell w within =
      past_row_set cell (place_word w)
      ∙ ap (λ l. map word_of h.row ++ l) (set-append_left (map place_word h.places) rest cell (place_word w) (omega (arith, places_are))
      ∙ ap (λ l. l ++ rest) (sym (map-set place_word h.places cell w)))

  past_places : (n : ℕ) → get_or (words_of h goals) (words + (words + n)) 0 ≡ get_or rest n 0
  past_places n = past_row (words + n) ∙ ap (λ k. get_or behind (k + n) 0) (sym places_are) ∙ get_or-append-add (map place_word h.places) rest n 0

  past_places_set : (n x : ℕ) → set (words_of h goals) (words + (words + n)) x ≡ map word_of h.row ++ (map place_word h.places ++ set rest n x)
  past_places_set n x =
      past_row_set (words + n) x
      ∙ ap (λ l. map word_of h.row ++ l) (ap (λ k. set behind (k + n) x) (sym places_are) ∙ set-append-add (map place_word h.places) rest n x)

  pub goal_found : (index : ℕ) → index < length goals → get_or (words_of h goals) (words + (words + index)) 0 ≡ get_or goals index 0
  goal_found index within = past_places index ∙ here goals index within
    where
      here : (gs : List ℕ) (i : ℕ) → i < length gs → get_or (gs ++ h.mark ∷ flag h.is_failed ∷ []) i 0 ≡ get_or gs i 0
      here [] i l = absurd (omega arith)
      here (g ∷ gs) zero l = refl
      here (g ∷ gs) (suc i) l = here gs i (omega arith)

  pub goal_set : (index x : ℕ) → index < length goals → set (words_of h goals) (words + (words + index)) x ≡ words_of h (set goals index x)
  goal_set index x within =
      past_places_set index x
      ∙ ap (λ l. map word_of h.row ++ (map place_word h.places ++ l)) (set-append_left goals (h.mark ∷ flag h.is_failed ∷ []) index x within)

  pub mark_found : get_or (words_of h goals) (words + (words + (length goals + 0))) 0 ≡ h.mark
  mark_found = past_places (length goals + 0) ∙ get_or-append-add goals (h.mark ∷ flag h.is_failed ∷ []) 0 0

  pub mark_set : (x : ℕ) → set (words_of h goals) (words + (words + (length goals + 0))) x ≡ words_of (record h { mark = x }) goals
  mark_set x = past_places_set (length goals + 0) x
      ∙ ap (λ l. map word_of h.row ++ (map place_word h.places ++ l)) (set-append-add goals (h.mark ∷ flag h.is_failed ∷ []) 0 x)

  pub fail_found : get_or (words_of h goals) (words + (words + (length goals + 1))) 0 ≡ flag h.is_failed
  fail_found = past_places (length goals + 1) ∙ get_or-append-add goals (h.mark ∷ flag h.is_failed ∷ []) 1 0

  pub fail_set : set (words_of h goals) (words + (words + (length goals + 1))) 1 ≡ words_of (record h { is_failed = true }) goals
  fail_set = past_places_set (length goals + 1) 1
      ∙ ap (λ l. map word_of h.row ++ (map place_word h.places ++ l)) (set-append-add goals (h.mark ∷ flag h.is_failed ∷ []) 1 1)
