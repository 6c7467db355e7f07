-- Each row has one list of kept frames.
use Rattle.std.proofs.Common.{ℕ, zero, suc, ◌+◌, ◌-◌, ◌≡◌, ◌<◌, ◌≤◌, ◌⊎◌, List, [], ◌∷◌, length, refl, sym, ap, ◌∙◌, subst, inl, inr, arith, Contains}
use Rattle.std.specs.Prelude.{AllPairs}
use Rattle.std.proofs.lemmas.Bool.{cases_lt, cases_eq}
use Rattle.std.proofs.lemmas.List.Elements.{All-contains}
use Rattle.std.proofs.lemmas.List.Kept.{AllPairs-cons}
use Rattle.and_model.specs.Store.{Frame}
use Rattle.and_model.specs.declared.goal.Goal.{Goal}
use Rattle.and_model.specs.declared.reference.Ref.{Ref}
use Rattle.and_model.specs.declared.reference.Ref.TheVariants.{Free, Cell, Node, Number, Half}
use Rattle.and_laws.proofs.Ordered.{same_elements, contains_first, contains_more, contains_cases, contains_none}
use Rattle.and_laws.proofs.Pairwise.{all_pairs_none, all_pairs_first, all_pairs_rest}
use Rattle.and_cells.specs.Seen.{word_at}
use Rattle.and_branch_laws.proofs.Lists.{all_of}
use Rattle.and_moved_laws.specs.KeptFrames.{IsInFrame, Names, IsKept, of_query, of_goal, of_word, AreKept}
use Rattle.and_moved_laws.proofs.KeptFrames.{kept_is_frame}

-- ---- What can be told

abbrev Told : Type 0 → Type 0
Told A = A ⊎ (A → ⊥)

-- whether some element of a list is so,
search : {X : Type 0} (A : X → Type 0) → ((x : X) → Told (A x)) → (xs : List X) → ((x : X) × Contains xs x × A x) ⊎ ((x : X) → Contains xs x → A x → ⊥)
search A tell [] = inr (λ x h a. contains_none x h)
search A tell (y ∷ xs) = elim (tell y) [
  | inl a ↦ inl (y, contains_first y xs, a)
  | inr never ↦ elim (search A tell xs) [
    | inl some ↦ inl (some.0, contains_more y some.0 xs some.1, some.2)
    | inr others ↦ inr (λ x h a. elim (contains_cases y x xs h) [ inl e ↦ never (subst A e a) | inr i ↦ others x i a ])
  ]
]

-- and some number below a bound
search_below : (A : ℕ → Type 0) → ((n : ℕ) → Told (A n)) → (bound : ℕ) → ((n : ℕ) × (n < bound) × A n) ⊎ ((n : ℕ) → n < bound → A n → ⊥)
search_below A tell zero = inr (λ n low a. absurd (omega arith))
search_below A tell (suc b) = elim (tell b) [
  | inl a ↦ inl (b, omega arith, a)
  | inr never ↦ elim (search_below A tell b) [
    | inl some ↦ inl (some.0, (let l = some.1 in omega arith), some.2)
    | inr others ↦ inr (λ n low a. elim (cases_eq n b) [ inl e ↦ never (subst A e a) | inr less ↦ others n (omega (arith, low, less)) a ])
  ]
]

in_frame : (p : ℕ) (f : Frame) → Told (IsInFrame p f)
in_frame p f = elim (cases_lt p f.base) [
  | inl low ↦ inr (λ i. let l = i.0 in absurd (omega arith))
  | inr high ↦ elim (cases_lt p (f.base + f.weight)) [ inl less ↦ inl (high, less) | inr past ↦ inr (λ i. let l = i.1 in absurd (omega arith)) ]
]

-- The word names a place in the frame.
abbrev NamesIn : Ref → Frame → Type 0
NamesIn r f = (to : ℕ) × Names r to × IsInFrame to f

place_named : (p : ℕ) (f : Frame) → Told ((to : ℕ) × (p ≡ to) × IsInFrame to f)
place_named p f = elim (in_frame p f) [
  | inl i ↦ inl (p, refl, i)
  | inr never ↦ inr (λ x. never (subst (λ (q : ℕ). IsInFrame q f) (sym x.1) x.2))
]

names_in : (r : Ref) (f : Frame) → Told (NamesIn r f)
names_in Free f = inr (λ x. x.1)
names_in (Cell cell) f = place_named cell f
names_in (Node node base) f = place_named base f
names_in (Number pair) f = place_named pair f
names_in (Half bits) f = inr (λ x. x.1)

same_frame : (f g : Frame) → Told (f ≡ g)
same_frame f g = elim (cases_eq f.base g.base) [
  | inl bases ↦ elim (cases_eq f.weight g.weight) [
    | inl weights ↦ inl (λ i. record { base = bases i; weight = weights i })
    | inr other ↦ inr (λ e. other (ap (λ (x : Frame). x.weight) e))
  ]
  | inr other ↦ inr (λ e. other (ap (λ (x : Frame). x.base) e))
]

-- What is in a list can be taken out, and all others stay.
taken : (f : Frame) (fs : List Frame) → Contains fs f
    → (rest : List Frame) × (suc (length rest) ≡ length fs) × ((g : Frame) → Contains fs g → (g ≡ f) ⊎ Contains rest g)
    × ((g : Frame) → Contains rest g → Contains fs g)
taken f [] h = absurd (contains_none f h)
taken f (d ∷ fs) h = elim (contains_cases d f fs h) [
  | inl e ↦ (
    fs,
    refl,
    λ g i. elim (contains_cases d g fs i) [ inl o ↦ inl (o ∙ sym e) | inr j ↦ inr j ],
    λ g i. contains_more d g fs i,
  )
  | inr i ↦
      let (rest, less, split, back) = taken f fs i in (
        d ∷ rest,
        ap suc less,
        λ g j. elim (contains_cases d g fs j) [
          | inl o ↦ inr (subst (λ (x : Frame). Contains (d ∷ rest) x) (sym o) (contains_first d rest))
          | inr l ↦ elim (split g l) [ inl o ↦ inl o | inr n ↦ inr (contains_more d g rest n) ]
        ],
        λ g j. elim (contains_cases d g rest j) [
          | inl o ↦ subst (λ (x : Frame). Contains (d ∷ fs) x) (sym o) (contains_first d fs)
          | inr l ↦ contains_more d g fs (back g l)
        ],
      )
]

-- ---- The closure

module _ (frames : List Frame) (row : List Ref) (goals : List Goal) where
  abbrev K : Frame → Type 0
  K f = IsKept frames row goals f

  -- A word of the one frame names a place in the other.
  abbrev Leads : Frame → Frame → Type 0
  Leads f h = (n : ℕ) × (n < f.weight) × NamesIn (word_at row (f.base + n)) h

  -- It is the query's frame, or a goal's, or one that is named in a frame that was found.
  abbrev Wanted : List Frame → Frame → Type 0
  Wanted found h = (h.base ≡ 0) ⊎ (((g : Goal) × Contains goals g × (h.base ≡ g.base)) ⊎ ((f : Frame) × Contains found f × Leads f h))

  leads : (f h : Frame) → Told (Leads f h)
  leads f h = elim (search_below (λ (n : ℕ). NamesIn (word_at row (f.base + n)) h) (λ n. names_in (word_at row (f.base + n)) h) f.weight) [
    | inl x ↦ inl x
    | inr never ↦ inr (λ x. never x.0 x.1 x.2)
  ]

  wanted : (found : List Frame) (h : Frame) → Told (Wanted found h)
  wanted found h = elim (cases_eq h.base 0) [
    | inl e ↦ inl (inl e)
    | inr never ↦ elim (search (λ (g : Goal). h.base ≡ g.base) (λ g. elim (cases_eq h.base g.base) [ inl e ↦ inl e | inr n ↦ inr n ]) goals) [
      | inl x ↦ inl (inr (inl x))
      | inr none_goal ↦ elim (search (λ (f : Frame). Leads f h) (λ f. leads f h) found) [
        | inl x ↦ inl (inr (inr x))
        | inr none_leads ↦ inr (λ w. elim w [
          | inl e ↦ never e
          | inr rest ↦ elim rest [ inl x ↦ none_goal x.0 x.1 x.2 | inr x ↦ none_leads x.0 x.1 x.2 ]
        ])
      ]
    ]
  ]

  wanted_kept : (found : List Frame) → ((f : Frame) → Contains found f → K f) → (h : Frame) → Contains frames h → Wanted found h → K h
  wanted_kept found kept h there (inl e) = of_query h there e
  wanted_kept found kept h there (inr (inl x)) = of_goal h x.0 there x.1 x.2
  wanted_kept found kept h there (inr (inr x)) =
      let n = x.2 in
      let low = n.1 in
      let to = n.2 in
      of_word x.0 h (x.0.base + n.0) to.0 (kept x.0 x.1) (omega arith, omega arith) to.1 there to.2

  -- Where no frame is left that is wanted, all that are kept were found.
  all_found : (found left : List Frame) → ((f : Frame) → Contains frames f → Contains found f ⊎ Contains left f)
      → ((h : Frame) → Contains left h → Wanted found h → ⊥) → (f : Frame) → K f → Contains found f
  all_found found left split never f (of_query g there e) = elim (split f there) [ inl i ↦ i | inr i ↦ absurd (never f i (inl e)) ]
  all_found found left split never f (of_goal g goal there among e) =
      elim (split f there) [ inl i ↦ i | inr i ↦ absurd (never f i (inr (inl (goal, among, e)))) ]
  all_found found left split never f (of_word from g place to kept i names there j) = elim (split f there) [
    | inl h ↦ h
    | inr h ↦
        let was : Contains found from = all_found found left split never from kept in
        let low = i.0 in
        let less = i.1 in
        let is : from.base + (place - from.base) ≡ place = omega arith in
        absurd (never f h (inr (inr (
          from,
          was,
          (
            place - from.base,
            omega arith,
            (to, subst (λ (p : ℕ). Names (word_at row p) to) (sym is) names, j),
          ),
        ))))
  ]

  abbrev Found : Type 0
  Found = (found : List Frame) × ((f : Frame) → Contains found f → K f) × ((f : Frame) → K f → Contains found f)

  close : (fuel : ℕ) (found left : List Frame) → length left ≤ fuel → ((f : Frame) → Contains found f → K f)
      → ((f : Frame) → Contains left f → Contains frames f) → ((f : Frame) → Contains frames f → Contains found f ⊎ Contains left f) → Found
  close zero found left few kept inside split = elim (search (Wanted found) (wanted found) left) [
    | inr never ↦ (found, kept, all_found found left split never)
    | inl x ↦ let t = taken x.0 left x.1 in let l = t.1 in absurd (omega arith)
  ]
  close (suc fuel) found left few kept inside split = elim (search (Wanted found) (wanted found) left) [
    | inr never ↦ (found, kept, all_found found left split never)
    | inl x ↦
        let (rest, less, parts, back) = taken x.0 left x.1 in
        let h : Frame = x.0 in
        close fuel (h ∷ found) rest (omega arith)
        (λ f i. elim (contains_cases h f found i) [
          | inl e ↦ subst K (sym e) (wanted_kept found kept h (inside h x.1) x.2)
          | inr j ↦ kept f j
        ])
        (λ f i. inside f (back f i))
        (λ f i. elim (split f i) [
          | inl j ↦ inl (contains_more h f found j)
          | inr j ↦ elim (parts f j) [ inl e ↦ inl (subst (λ (y : Frame). Contains (h ∷ found) y) (sym e) (contains_first h found)) | inr m ↦ inr m ]
        ])
  ]

  -- ---- In the order of the row

  abbrev Ordered : List Frame → List Frame → Type 0
  Ordered found fs = (kept : List Frame) × AllPairs (λ (f g : Frame). f.base < g.base) kept
      × ((f : Frame) → Contains kept f → Contains fs f × Contains found f) × ((f : Frame) → Contains fs f → Contains found f → Contains kept f)

  ordered : (found fs : List Frame) → AllPairs (λ (f g : Frame). f.base < g.base) fs → Ordered found fs
  ordered found [] rising = ([], all_pairs_none (λ (f g : Frame). f.base < g.base), (λ f h. absurd (contains_none f h)), (λ f h i. h))
  ordered found (d ∷ fs) rising =
      let R : Frame → Frame → Type 0 = λ f g. f.base < g.base in
      let (kept, in_order, from, to) = ordered found fs (all_pairs_rest R d fs rising) in
      elim (search (λ (f : Frame). f ≡ d) (λ f. same_frame f d) found) [
        | inl x ↦
            let there : Contains found d = subst (λ (y : Frame). Contains found y) x.2 x.1 in (
              d ∷ kept,
              AllPairs-cons R d kept (all_of (R d) kept (λ g h. All-contains (R d) fs g (all_pairs_first R d fs rising) (from g h).0)) in_order,
              λ f h. elim (contains_cases d f kept h) [
                | inl e ↦ (subst (λ (y : Frame). Contains (d ∷ fs) y) (sym e) (contains_first d fs), subst (λ (y : Frame). Contains found y) (sym e) there)
                | inr i ↦ (contains_more d f fs (from f i).0, (from f i).1)
              ],
              λ f h i. elim (contains_cases d f fs h) [
                | inl e ↦ subst (λ (y : Frame). Contains (d ∷ kept) y) (sym e) (contains_first d kept)
                | inr j ↦ contains_more d f kept (to f j i)
              ],
            )
        | inr never ↦ (
          kept,
          in_order,
          λ f h. (contains_more d f fs (from f h).0, (from f h).1),
          λ f h i. elim (contains_cases d f fs h) [ inl e ↦ absurd (never f i e) | inr j ↦ to f j i ],
        )
      ]

  -- The kept frames.
  pub some_list : AllPairs (λ (f g : Frame). f.base < g.base) frames → (kept : List Frame) × AreKept frames row goals kept
  some_list rising =
      let (found, are, all) = close (length frames) [] frames (omega arith) (λ f h. absurd (contains_none f h)) (λ f h. h) (λ f h. inr h) in
      let (kept, in_order, from, to) = ordered found frames rising in (
        kept,
        record {
          rising = in_order;
          each = λ f. ((λ h. are f (from f h).1), (λ k. to f (kept_is_frame frames row goals f k) (all f k)));
        },
      )

-- Two lists of the kept frames are the same.
pub one_list : (frames : List Frame) (row : List Ref) (goals : List Goal) (kept others : List Frame) → AreKept frames row goals kept
    → AreKept frames row goals others → kept ≡ others
one_list frames row goals kept others x y =
    same_elements (λ (f g : Frame). f.base < g.base) (λ f g l m. omega (arith, l, m)) kept others x.rising y.rising
    (λ f h. (y.each f).1 ((x.each f).0 h)) (λ f h. (x.each f).1 ((y.each f).0 h))
