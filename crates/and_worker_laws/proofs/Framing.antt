-- The cells of the variables of a tree that is written down.
use Rattle.std.proofs.Common.{ℕ, zero, suc, ◌+◌, ◌<◌, ◌≤◌, ◌≡◌, ◌≢◌, List, [], ◌∷◌, ◌++◌, length, replicate, refl, ap, sym, subst, ◌∙◌, inl, inr, arith}
use Rattle.std.proofs.Common.{Contains}
use Rattle.std.proofs.lemmas.Bool.{cases_lt}
use Rattle.std.proofs.lemmas.List.{length-append, length-replicate}
use Rattle.std.proofs.lemmas.List.Elements.{Contains-append_cases, Contains-append_left, Contains-append_right}
use Rattle.and_model.specs.Terms.{Path, Substitution}
use Rattle.and_model.specs.Programs.{clause_at}
use Rattle.and_model.specs.Trees.{QueryTree, weight}
use Rattle.and_model.specs.Reductions.{Reduction, PlaceHas, query, reduced, Makes}
use Rattle.and_model.specs.Stands.{ClauseHas}
use Rattle.and_laws.proofs.Ordered.{contains_first, contains_more, contains_cases, contains_none}
use Rattle.and_laws.proofs.Placing.{place_more, place_once, parent_below}
use Rattle.and_laws.proofs.Order.{clause_weighs}
use Rattle.and_cells.specs.Ranges.{NamedProgram}
use Rattle.and_cells.specs.Meaning.{cell_variable}
use Rattle.and_phase_laws.proofs.Places.{made_once, paths_own}
use Rattle.and_branch_laws.specs.Variables.{IsVariable, AreNames}
use Rattle.and_branch_laws.proofs.Naming.{variables_fit}
use Rattle.and_branch_laws.proofs.Places.{place_clause, clause_place, clause_more, frame_within, frames_apart}
use Rattle.and_worker_laws.specs.PhaseCells.{Cells, AreCells}

-- the first variables of the frame q, so many, with the cells of the frame that begins at n
cells_up : (q : Path) (n count : ℕ) → Cells
cells_up q n zero = []
cells_up q n (suc k) = ((q, k), n + 1 + k) ∷ cells_up q n k

up_told : (q : Path) (n count : ℕ) (v : Path × ℕ) (j : ℕ) → Contains (cells_up q n count) (v, j) → (v.0 ≡ q) × (v.1 < count) × (j ≡ n + 1 + v.1)
unfolding cells_up
up_told q n zero v j c = absurd (contains_none (v, j) c)
up_told q n (suc k) v j c = elim (contains_cases ((q, k), n + 1 + k) (v, j) (cells_up q n k) c) [
  | inl is ↦
      let number : v.1 ≡ k = ap (λ (d : (Path × ℕ) × ℕ). d.0.1) is in
      let cell : j ≡ n + 1 + k = ap (λ (d : (Path × ℕ) × ℕ). d.1) is in
      (ap (λ (d : (Path × ℕ) × ℕ). d.0.0) is, omega arith, omega arith)
  | inr later ↦ let r = up_told q n k v j later in (r.0, (let low = r.1 in omega arith), r.2)
]

up_has : (q : Path) (n count k : ℕ) → k < count → Contains (cells_up q n count) ((q, k), n + 1 + k)
unfolding cells_up
up_has q n zero k low = absurd (omega arith)
up_has q n (suc m) k low = elim (cases_lt k m) [
  | inl lower ↦ contains_more ((q, m), n + 1 + m) ((q, k), n + 1 + k) (cells_up q n m) (up_has q n m k lower)
  | inr last ↦
      let same : m ≡ k = omega arith in
      subst (λ i. Contains (((q, m), n + 1 + m) ∷ cells_up q n m) ((q, i), n + 1 + i)) same (contains_first ((q, m), n + 1 + m) (cells_up q n m))
]

module _ (P : NamedProgram) (rs : List Reduction) (t : QueryTree P.program) (made : Makes P.program rs t) where
  -- A place's path is no longer than its number, and shorter than the tree weighs.
  place_short : (n : ℕ) (q : Path) → PlaceHas rs n q → length q ≤ n
  place_short n q query = omega arith
  place_short n q (reduced r p h place) =
      let short = place_short r.parent p place in
      let rises = parent_below P.program rs t made r h in
      let long = length-append p (r.item ∷ []) in omega arith

  place_within : (n : ℕ) (q : Path) → PlaceHas rs n q → length q < weight t
  place_within n q place =
      let short = place_short n q place in
      let (c, has) = place_clause rs n q place in
      let within = frame_within P.program rs t made n c has in
      let some = clause_weighs (clause_at P.program c) in omega arith

  -- A path that no place has and no call: it is longer than all.
  frame_apart : Path
  frame_apart = replicate (weight t + 1) 0

  apart_long : length frame_apart ≡ weight t + 1
  unfolding frame_apart
  apart_long = length-replicate (weight t + 1) 0

  place_apart : (n : ℕ) (q : Path) → PlaceHas rs n q → q ≢ frame_apart
  place_apart n q place same =
      let long = ap (λ (p : Path). length p) same ∙ apart_long in
      let short = place_within n q place in omega arith

  call_apart : (n : ℕ) (q : Path) (i : ℕ) → PlaceHas rs n q → q ++ i ∷ [] ≢ frame_apart
  call_apart n q i place same =
      let long = ap (λ (p : Path). length p) same ∙ apart_long in
      let one_more = length-append q (i ∷ []) in
      let short = place_within n q place in omega arith

  -- the cells of the frame of a clause at its place
  in_frame : (n c : ℕ) → ClauseHas rs n c → Cells
  in_frame n c h = cells_up (clause_place P.program rs t made n c h).0 n (clause_at P.program c).variables

  -- those of the query's, and of some reductions
  cells_of : (xs : List Reduction) → ((x : Reduction) → Contains xs x → Contains rs x) → Cells
  cells_of [] sub = in_frame 0 0 (inl (refl, refl))
  cells_of (x ∷ xs) sub =
      in_frame x.node x.clause (inr (x, sub x (contains_first x xs), refl, refl)) ++ cells_of xs (λ y c. sub y (contains_more x y xs c))

  -- A variable with a cell is one of the tree, and the cell is that of its frame.
  IsOwnCell : Path × ℕ → ℕ → Type 0
  IsOwnCell v j = (i : IsVariable P rs v) × (j ≡ i.node + 1 + v.1)

  frame_told : (n c : ℕ) (h : ClauseHas rs n c) (v : Path × ℕ) (j : ℕ) → Contains (in_frame n c h) (v, j) → IsOwnCell v j
  unfolding in_frame IsOwnCell
  frame_told n c h v j x =
      let place = clause_place P.program rs t made n c h in
      let r = up_told place.0 n (clause_at P.program c).variables v j x in
      (record { node = n; clause = c; place = subst (λ q. PlaceHas rs n q) (sym r.0) place.1; clause_is = h; own = r.1 }, r.2)

  cells_told : (xs : List Reduction) (sub : (x : Reduction) → Contains xs x → Contains rs x) (v : Path × ℕ) (j : ℕ)
      → Contains (cells_of xs sub) (v, j) → IsOwnCell v j
  unfolding cells_of
  cells_told [] sub v j c = frame_told 0 0 (inl (refl, refl)) v j c
  cells_told (x ∷ xs) sub v j c =
      let first : Cells = in_frame x.node x.clause (inr (x, sub x (contains_first x xs), refl, refl)) in
      let later : Cells = cells_of xs (λ y d. sub y (contains_more x y xs d)) in elim (Contains-append_cases first later (v, j) c) [
        | inl here ↦ frame_told x.node x.clause (inr (x, sub x (contains_first x xs), refl, refl)) v j here
        | inr there ↦ cells_told xs (λ y d. sub y (contains_more x y xs d)) v j there
      ]

  -- The frames that have their cells there: the query's, and that of each of the reductions.
  query_in : (xs : List Reduction) (sub : (x : Reduction) → Contains xs x → Contains rs x) (e : (Path × ℕ) × ℕ) → Contains (in_frame 0 0 (inl (refl, refl))) e
      → Contains (cells_of xs sub) e
  unfolding cells_of
  query_in [] sub e c = c
  query_in (x ∷ xs) sub e c =
      Contains-append_right (in_frame x.node x.clause (inr (x, sub x (contains_first x xs), refl, refl)))
      (cells_of xs (λ y d. sub y (contains_more x y xs d))) e
      (query_in xs (λ y d. sub y (contains_more x y xs d)) e c)

  frame_in : (xs : List Reduction) (sub : (x : Reduction) → Contains xs x → Contains rs x) (r : Reduction) → Contains xs r
      → (h : ClauseHas rs r.node r.clause) × ((e : (Path × ℕ) × ℕ) → Contains (in_frame r.node r.clause h) e → Contains (cells_of xs sub) e)
  unfolding cells_of
  frame_in [] sub r c = absurd (contains_none r c)
  frame_in (x ∷ xs) sub r c =
      let first : Cells = in_frame x.node x.clause (inr (x, sub x (contains_first x xs), refl, refl)) in
      let later : Cells = cells_of xs (λ y d. sub y (contains_more x y xs d)) in elim (contains_cases x r xs c) [
        | inl is ↦ subst (λ (z : Reduction). (h : ClauseHas rs z.node z.clause)
            × ((e : (Path × ℕ) × ℕ) → Contains (in_frame z.node z.clause h) e → Contains (first ++ later) e)) (sym is)
            (inr (x, sub x (contains_first x xs), refl, refl), λ e d. Contains-append_left first later e d)
        | inr there ↦
            let found = frame_in xs (λ y d. sub y (contains_more x y xs d)) r there in
            (found.0, λ e d. Contains-append_right first later e (found.1 e d))
      ]

  -- A variable of a frame that has its cells there has one.
  has_cell : (n c : ℕ) (h : ClauseHas rs n c) (v : Path × ℕ) (i : IsVariable P rs v) → i.node ≡ n → i.clause ≡ c
      → Contains (in_frame n c h) (v, i.node + 1 + v.1)
  unfolding in_frame
  has_cell n c h v i node clause =
      let place = clause_place P.program rs t made n c h in
      let path : place.0 ≡ v.0 = place_once P.program rs t made n i.node (sym node) place.0 v.0 place.1 i.place in
      let low : v.1 < (clause_at P.program c).variables = subst (λ d. v.1 < (clause_at P.program d).variables) clause i.own in
      let cells : Cells = cells_up place.0 n (clause_at P.program c).variables in
      subst (λ m. Contains cells (v, m + 1 + v.1)) (sym node)
      (subst (λ q. Contains cells ((q, v.1), n + 1 + v.1)) path (up_has place.0 n (clause_at P.program c).variables v.1 low))

  abbrev all_cells : Cells
  all_cells = cells_of rs (λ x c. c)

  all_have : (v : Path × ℕ) (i : IsVariable P rs v) → Contains all_cells (v, i.node + 1 + v.1)
  all_have v i = elim i.clause_is [
    | inl of_query ↦ query_in rs (λ x c. c) (v, i.node + 1 + v.1) (has_cell 0 0 (inl (refl, refl)) v i of_query.0 of_query.1)
    | inr of_reduction ↦
        let (r, h, node, clause) = of_reduction in
        let found = frame_in rs (λ x c. c) r h in
        found.1 (v, i.node + 1 + v.1) (has_cell r.node r.clause found.0 v i (sym node) (sym clause))
  ]

  -- Two variables with one cell are of one frame, since frames lie side by side.
  in_order : (u v : Path × ℕ) (i : IsVariable P rs u) (j : IsVariable P rs v) → i.node < j.node → i.node + 1 + u.1 ≡ j.node + 1 + v.1 → ⊥
  in_order u v i j low same =
      let apart = frames_apart P.program rs t made i.node i.clause j.node j.clause i.clause_is j.clause_is low in
      let fits = variables_fit (clause_at P.program i.clause) in
      let own = i.own in omega arith

  one_cell : (u v : Path × ℕ) (n : ℕ) → Contains all_cells (u, n) → Contains all_cells (v, n) → u ≡ v
  unfolding IsOwnCell
  one_cell u v n c d =
      let (i, a) = cells_told rs (λ x e. e) u n c in
      let (j, b) = cells_told rs (λ x e. e) v n d in
      let same : i.node + 1 + u.1 ≡ j.node + 1 + v.1 = sym a ∙ b in elim (cases_lt i.node j.node) [
        | inl low ↦ absurd (in_order u v i j low same)
        | inr high ↦ elim (cases_lt j.node i.node) [
          | inl low ↦ absurd (in_order v u j i low (sym same))
          | inr higher ↦
              let node : i.node ≡ j.node = omega arith in
              let path : u.0 ≡ v.0 = place_once P.program rs t made i.node j.node node u.0 v.0 i.place j.place in
              let number : u.1 ≡ v.1 = omega arith in
              ap (λ (q : Path). (q, u.1)) path ∙ ap (λ (k : ℕ). (v.0, k)) number
        ]
      ]

  are_cells : (old : List Reduction) (names : Substitution) → ((x : Reduction) → Contains old x → Contains rs x) → AreNames old names
      → AreCells (IsVariable P old) names frame_apart all_cells
  unfolding IsOwnCell
  are_cells old names sub named = record {
    named = λ v n c x.
        let (i, a) = cells_told rs (λ y e. e) v n c in
        let place : PlaceHas rs x.node v.0 = place_more old rs sub x.node v.0 x.place in
        let node : x.node ≡ i.node = paths_own rs (made_once P.program rs t made) x.node i.node v.0 v.0 place i.place refl in
        named x.node v.0 x.place v.1 ∙ ap (λ m. cell_variable (m + 1 + v.1)) node ∙ ap (λ m. cell_variable m) (sym a);
    all = λ v x. let i : IsVariable P rs v = more v x in (i.node + 1 + v.1, all_have v i);
    one = one_cell;
    elsewhere = λ v n c e. let (i, a) = cells_told rs (λ y f. f) v n c in place_apart i.node v.0 i.place e;
  } where
    more : (v : Path × ℕ) → IsVariable P old v → IsVariable P rs v
    more v x = record {
      node = x.node;
      clause = x.clause;
      place = place_more old rs sub x.node v.0 x.place;
      clause_is = clause_more old rs sub x.node x.clause x.clause_is;
      own = x.own;
    }

  pub variables_have_cells : (apart : Path) × (cells : Cells)
      × ((old : List Reduction) (names : Substitution) → ((x : Reduction) → Contains old x → Contains rs x) → AreNames old names
      → AreCells (IsVariable P old) names apart cells)
      × ((v : Path × ℕ) (n : ℕ) → Contains cells (v, n) → IsVariable P rs v)
      × ((node : ℕ) (q : Path) (i : ℕ) → PlaceHas rs node q → (q ≢ apart) × (q ++ i ∷ [] ≢ apart))
  unfolding IsOwnCell
  variables_have_cells = (
    frame_apart,
    all_cells,
    are_cells,
    λ v n c. (cells_told rs (λ y e. e) v n c).0,
    λ n q i place. (place_apart n q place, call_apart n q i place),
  )
