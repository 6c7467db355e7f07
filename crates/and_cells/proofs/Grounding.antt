-- References that are known to be ground, and what keeps them so.
use Rattle.std.proofs.Common.{ℕ, zero, suc, ◌≡◌, ◌≢◌, ◌+◌, ◌-◌, ◌<◌, ◌≤◌, ◌⊎◌, inl, inr, List, [], ◌∷◌, ◌++◌, length, get_or, take, set, replicate, refl, sym}
use Rattle.std.proofs.Common.{ap, subst, ◌∙◌, arith}
use Rattle.std.specs.Prelude.{Contains}
use Rattle.std.proofs.lemmas.Bool.{cases_lt}
use Rattle.std.proofs.lemmas.List.{take-take, take-append-le, take_all, get_or-take, get_or_append_left, get_or_default, get_or-append_right, length-append}
use Rattle.std.proofs.lemmas.List.{length-take-le}
use Rattle.std.proofs.lemmas.List.Elements.{All-contains, Contains-get_or}
use Rattle.and_model.specs.declared.reference.Ref.{Ref}
use Rattle.and_model.specs.declared.reference.Ref.TheVariants.{Free, Cell, Node, Number, Half}
use Rattle.and_cells.specs.Ranges.{NamedProgram}
use Rattle.and_cells.specs.Seen.{word_at}
use Rattle.and_cells.specs.Parts.{parts_of}
use Rattle.and_cells.proofs.Keeping.{word_set_other, word_in_front}
use Rattle.and_cells.specs.Ground.{EndsGround, IsEndOrAmong, LeadsToKnown, AreFounded, AreNoted, IsCut}

-- what is among some references, is among more
among_more : (P : NamedProgram) (known more : List Ref) → ((r : Ref) → Contains known r → Contains more r) → (r : Ref) → IsEndOrAmong P known r
    → IsEndOrAmong P more r
among_more P known more grows Free is = is
among_more P known more grows (Cell cell) is = grows (Cell cell) is
among_more P known more grows (Node node base) (inl none) = inl none
among_more P known more grows (Node node base) (inr among) = inr (grows (Node node base) among)
among_more P known more grows (Number pair) is = is
among_more P known more grows (Half bits) is = is

-- what holds of a reference, and of references that are known, makes it ground
end_is_ground : (P : NamedProgram) (row known : List Ref) → ((r : Ref) → Contains known r → EndsGround P row r) → (r : Ref) → IsEndOrAmong P known r
    → EndsGround P row r
end_is_ground P row known each Free is = elim is [ ]
end_is_ground P row known each (Cell cell) is = each (Cell cell) is
end_is_ground P row known each (Node node base) (inl none) = EndsGround.parts node base (λ r has.
    let low : has.0 < length (parts_of P (Node node base)) = has.1 in
    let empty : length (parts_of P (Node node base)) ≡ 0 = ap length none in absurd (omega (arith, low, empty)))
end_is_ground P row known each (Node node base) (inr among) = each (Node node base) among
end_is_ground P row known each (Number pair) is = EndsGround.number pair
end_is_ground P row known each (Half bits) is = elim is [ ]

-- what leads to references that are ground is ground
leads_is_ground : (P : NamedProgram) (row known : List Ref) → ((r : Ref) → Contains known r → EndsGround P row r) → (r : Ref) → LeadsToKnown P row known r
    → EndsGround P row r
leads_is_ground P row known each Free is = elim is [ ]
leads_is_ground P row known each (Cell cell) is = EndsGround.set cell (word_at row cell) (refl, set) (end_is_ground P row known each (word_at row cell) is)
  where
    set : word_at row cell ≢ Free
    set free = subst (IsEndOrAmong P known) free is
leads_is_ground P row known each (Node node base) is = EndsGround.parts node base (λ r has.
    end_is_ground P row known each r (All-contains (IsEndOrAmong P known) (parts_of P (Node node base)) r is has))
leads_is_ground P row known each (Number pair) is = elim is [ ]
leads_is_ground P row known each (Half bits) is = elim is [ ]

-- what stands before a place is ground, where what stands at each such place is
earlier : (P : NamedProgram) (row known : List Ref) (k : ℕ) → k < length known
    → ((j : ℕ) → j < k → j < length known → EndsGround P row (get_or known j Free)) → (r : Ref) → Contains (take k known) r → EndsGround P row r
earlier P row known k there each r has =
    let cut : length (take k known) ≡ k = length-take-le k known (omega arith) in
    let before : has.0 < k = subst (λ m. has.0 < m) cut has.1 in
    let within : has.0 < length known = omega arith in
    let is : get_or known has.0 Free ≡ r =
    get_or_default known has.0 Free r within ∙ sym (get_or-take k known has.0 r before) ∙ has.2 in
    subst (EndsGround P row) is (each has.0 before within)

module _ (P : NamedProgram) (row known : List Ref) (founded : AreFounded P row known) where
  below : (bound k : ℕ) → k < bound → k < length known → EndsGround P row (get_or known k Free)
  below zero k low there = absurd (omega arith)
  below (suc n) k low there =
      leads_is_ground P row (take k known) (earlier P row known k there (λ j before within. below n j (omega arith) within)) (get_or known k Free)
      (founded k there)

  -- Each of these references is ground.
  pub founded_is_ground : (r : Ref) → Contains known r → EndsGround P row r
  founded_is_ground r has = subst (EndsGround P row) (get_or_default known has.0 Free r has.1 ∙ has.2) (below (suc has.0) has.0 (omega arith) has.1)

-- no reference is known
pub founded_nothing : (P : NamedProgram) (row : List Ref) → AreFounded P row []
founded_nothing P row k low = absurd (omega arith)

-- what was put behind stands last
last_of : (known : List Ref) (r : Ref) → get_or (known ++ r ∷ []) (length known) Free ≡ r
last_of known r =
    let none : length known - length known ≡ 0 = omega arith in
    get_or-append_right known (r ∷ []) (length known) (length known) Free refl (omega arith) ∙ ap (λ n. get_or (r ∷ []) n Free) none

-- one more is known
pub founded_push : (P : NamedProgram) (row known : List Ref) (r : Ref) → AreFounded P row known → LeadsToKnown P row known r
    → AreFounded P row (known ++ r ∷ [])
founded_push P row known r founded leads k low = by_place (cases_lt k (length known))
  where
    long : length (known ++ r ∷ []) ≡ length known + 1
    long = length-append known (r ∷ [])

    by_place : (k < length known) ⊎ (length known ≤ k) → LeadsToKnown P row (take k (known ++ r ∷ [])) (get_or (known ++ r ∷ []) k Free)
    by_place (inl earlier) =
        subst (λ q. LeadsToKnown P row (take k (known ++ r ∷ [])) q) (sym (get_or_append_left known (r ∷ []) Free k earlier))
        (subst (λ xs. LeadsToKnown P row xs (get_or known k Free)) (sym (take-append-le k known (r ∷ []) (omega arith))) (founded k earlier))
    by_place (inr last) =
        let here : k ≡ length known = omega (arith, long, low, last) in
        subst (λ m. LeadsToKnown P row (take m (known ++ r ∷ [])) (get_or (known ++ r ∷ []) m Free)) (sym here)
        (subst (λ xs. LeadsToKnown P row xs (get_or (known ++ r ∷ []) (length known) Free))
        (sym (take-append-le (length known) known (r ∷ []) (omega arith) ∙ take_all (length known) known (omega arith)))
        (subst (LeadsToKnown P row known) (sym (last_of known r)) leads))

-- a place of what is left of a list is one of the list
pub place_in_cut : (n : ℕ) (xs : List Ref) (k : ℕ) → k < length (take n xs) → (k < n) × (k < length xs)
place_in_cut n xs k low = by_length (cases_lt n (length xs))
  where
    by_length : (n < length xs) ⊎ (length xs ≤ n) → (k < n) × (k < length xs)
    by_length (inl longer) = let cut = length-take-le n xs (omega arith) in (omega arith, omega arith)
    by_length (inr whole) = let same = ap length (take_all n xs whole) in (omega arith, omega arith)

-- the last are forgotten
pub founded_cut : (P : NamedProgram) (row known : List Ref) (n : ℕ) → AreFounded P row known → AreFounded P row (take n known)
founded_cut P row known n founded k low =
    let there = place_in_cut n known k low in
    subst (λ xs. LeadsToKnown P row xs (get_or (take n known) k Free)) (sym (take-take k n known (let below = there.0 in omega arith)))
    (subst (LeadsToKnown P row (take k known)) (sym (get_or-take n known k Free there.0)) (founded k there.1))

pub founded_after : (P : NamedProgram) (row old new : List Ref) → IsCut old new → AreFounded P row old → AreFounded P row new
founded_after P row old new cut founded = subst (AreFounded P row) (sym cut.1) (founded_cut P row old cut.0 founded)

-- what is left of a list is of the list
pub contains_cut : (old new : List Ref) (r : Ref) → IsCut old new → Contains new r → Contains old r
contains_cut old new r cut has = of_cut (subst (λ xs. Contains xs r) cut.1 has)
  where
    of_cut : Contains (take cut.0 old) r → Contains old r
    of_cut has =
        let there = place_in_cut cut.0 old has.0 has.1 in
        (has.0, there.1, sym (get_or-take cut.0 old has.0 r there.0) ∙ has.2)

-- a list that is as it was
pub cut_nothing : (xs : List Ref) → IsCut xs xs
cut_nothing xs = (length xs, sym (take_all (length xs) xs (omega arith)))

-- a list is cut off twice
pub cut_twice : (old mid new : List Ref) → IsCut old mid → IsCut mid new → IsCut old new
cut_twice old mid new one two = by_counts (cases_lt one.0 two.0)
  where
    by_counts : (one.0 < two.0) ⊎ (two.0 ≤ one.0) → IsCut old new
    by_counts (inr shorter) = (two.0, two.1 ∙ ap (take two.0) one.1 ∙ take-take two.0 one.0 old shorter)
    by_counts (inl longer) = (one.0, two.1 ∙ take_all two.0 mid short ∙ one.1)
      where
        cut : length (take one.0 old) ≤ one.0
        cut = by_length (cases_lt one.0 (length old))
          where
            by_length : (one.0 < length old) ⊎ (length old ≤ one.0) → length (take one.0 old) ≤ one.0
            by_length (inl more) = let same = length-take-le one.0 old (omega arith) in omega arith
            by_length (inr whole) = let same = ap length (take_all one.0 old whole) in omega arith

        short : length mid ≤ two.0
        short = let same = ap length one.1 in let few = cut in omega arith

-- a row in which the cells among these have the same words, if they are set
pub founded_kept : (P : NamedProgram) (row after known : List Ref)
    → ((cell : ℕ) → Contains known (Cell cell) → word_at row cell ≢ Free → word_at after cell ≡ word_at row cell)
    → AreFounded P row known → AreFounded P after known
founded_kept P row after known same founded k low = by_shape (get_or known k Free) (Contains-get_or known k Free low) (founded k low)
  where
    by_shape : (r : Ref) → Contains known r → LeadsToKnown P row (take k known) r → LeadsToKnown P after (take k known) r
    by_shape Free has leads = leads
    by_shape (Cell cell) has leads =
        subst (IsEndOrAmong P (take k known)) (sym (same cell has (λ free. subst (IsEndOrAmong P (take k known)) free leads))) leads
    by_shape (Node node base) has leads = leads
    by_shape (Number pair) has leads = leads
    by_shape (Half bits) has leads = leads

-- a free word is set
pub founded_set : (P : NamedProgram) (row known : List Ref) (place : ℕ) (r : Ref) → word_at row place ≡ Free → AreFounded P row known
    → AreFounded P (set row place r) known
founded_set P row known place r free = founded_kept P row (set row place r) known (λ cell has set. word_set_other row place cell r
    (λ same. set (ap (word_at row) same ∙ free)))

-- free words are put behind
pub founded_extend : (P : NamedProgram) (row known : List Ref) (by : ℕ) → AreFounded P row known → AreFounded P (row ++ replicate by Free) known
founded_extend P row known by = founded_kept P row (row ++ replicate by Free) known (λ cell has set. word_in_front row by cell)

-- The places that are noted of cells.
module _ (known : List Ref) (places : List ℕ) (noted : AreNoted known places) where
  -- a cell stands nowhere but at its place
  pub only_there : (cell : ℕ) → Contains known (Cell cell) → (get_or places cell 0 < length known) × (get_or known (get_or places cell 0) Free ≡ Cell cell)
  only_there cell has =
      let is : get_or known has.0 Free ≡ Cell cell = get_or_default known has.0 Free (Cell cell) has.1 ∙ has.2 in
      let here : get_or places cell 0 ≡ has.0 = noted has.0 cell has.1 is in
      (subst (λ k. k < length known) (sym here) has.1, ap (λ k. get_or known k Free) here ∙ is)

  -- a list that is cut off
  pub noted_cut : (n : ℕ) → AreNoted (take n known) places
  noted_cut n k cell low is =
      let there = place_in_cut n known k low in noted k cell there.1 (sym (get_or-take n known k Free there.0) ∙ is)

  -- one that is cut off where a cell stands
  pub cut_there : (cell : ℕ) → Contains (take (get_or places cell 0) known) (Cell cell) → ⊥
  cut_there cell has =
      let there = place_in_cut (get_or places cell 0) known has.0 has.1 in
      let is : get_or known has.0 Free ≡ Cell cell =
      get_or_default known has.0 Free (Cell cell) there.1 ∙ sym (get_or-take (get_or places cell 0) known has.0 (Cell cell) there.0) ∙ has.2 in
      let here : get_or places cell 0 ≡ has.0 = noted has.0 cell there.1 is in
      let low = there.0 in absurd (omega arith)

-- A reference is put behind others.
noted_push : (known : List Ref) (places : List ℕ) (r : Ref) → AreNoted known places → ((cell : ℕ) → r ≡ Cell cell → get_or places cell 0 ≡ length known)
    → AreNoted (known ++ r ∷ []) places
noted_push known places r noted here k cell low is = by_place (cases_lt k (length known))
  where
    long : length (known ++ r ∷ []) ≡ length known + 1
    long = length-append known (r ∷ [])

    by_place : (k < length known) ⊎ (length known ≤ k) → get_or places cell 0 ≡ k
    by_place (inl earlier) = noted k cell earlier (sym (get_or_append_left known (r ∷ []) Free k earlier) ∙ is)
    by_place (inr last) =
        let same : k ≡ length known = let much = long in omega arith in
        here cell (sym (last_of known r) ∙ ap (λ n. get_or (known ++ r ∷ []) n Free) (sym same) ∙ is) ∙ sym same

-- Where the place of a cell is noted that is not among them, the others' places stay.
pub noted_with : (known : List Ref) (places after : List ℕ) (number : ℕ) → AreNoted known places → (Contains known (Cell number) → ⊥)
    → ((n : ℕ) → n ≢ number → get_or after n 0 ≡ get_or places n 0) → AreNoted known after
noted_with known places after number noted new others k cell low is =
    others cell (λ same. new (k, low, sym (get_or_default known k Free (Cell number) low) ∙ is ∙ ap Cell same)) ∙ noted k cell low is

pub noted_cell : (known : List Ref) (places after : List ℕ) (number : ℕ) → AreNoted known places → (Contains known (Cell number) → ⊥)
    → get_or after number 0 ≡ length known → ((n : ℕ) → n ≢ number → get_or after n 0 ≡ get_or places n 0) → AreNoted (known ++ Cell number ∷ []) after
noted_cell known places after number noted new here others =
    noted_push known after (Cell number) (noted_with known places after number noted new others)
    (λ cell e. let same : number ≡ cell = cc in ap (λ n. get_or after n 0) (sym same) ∙ here)

pub noted_other : (known : List Ref) (places : List ℕ) (r : Ref) → AreNoted known places → ((cell : ℕ) → r ≢ Cell cell) → AreNoted (known ++ r ∷ []) places
noted_other known places r noted other = noted_push known places r noted (λ cell e. absurd (other cell e))

-- No cell is noted.
pub noted_nothing : (places : List ℕ) → AreNoted [] places
noted_nothing places k cell low is = absurd (omega arith)
