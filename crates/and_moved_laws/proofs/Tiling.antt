-- The frames of a branch fill its row.
use Rattle.std.proofs.Common.{ℕ, ◌+◌, ◌≡◌, ◌<◌, ◌≤◌, List, [], ◌∷◌, ◌++◌, refl, sym, ap, ◌∙◌, subst, inl, inr, arith}
use Rattle.std.proofs.Common.{Contains}
use Rattle.std.specs.Prelude.{AllPairs, All, ◌↔◌}
use Rattle.std.proofs.lemmas.Bool.{cases_lt}
use Rattle.std.proofs.lemmas.List.Elements.{All-contains, Contains-append_left, Contains-append_right, Contains-append_cases}
use Rattle.std.proofs.lemmas.List.Kept.{AllPairs-cons}
use Rattle.and_model.specs.Programs.{Program, clause_at, clause_weight}
use Rattle.and_model.specs.Trees.{QueryTree, query_agenda, weight, reduce}
use Rattle.and_model.specs.Reductions.{Reduction, Makes, none, one_more}
use Rattle.and_model.specs.Stands.{ClauseHas, Framed}
use Rattle.and_model.specs.Store.{Frame}
use Rattle.and_model.specs.declared.reference.Ref.{Ref}
use Rattle.and_laws.proofs.Order.{blank_weighs, reduce_weight, clause_weighs}
use Rattle.and_laws.proofs.Ordered.{contains_first, contains_more, contains_cases, contains_none, middle_has, middle_more}
use Rattle.and_laws.proofs.Pairwise.{all_pairs_none, all_pairs_first, all_pairs_rest, all_pairs_join}
use Rattle.and_cells.specs.Ranges.{NamedProgram}
use Rattle.and_branch_laws.specs.OwnVariables.{OwnVariables}
use Rattle.and_branch_laws.specs.Kept.{Kept}
use Rattle.and_branch_laws.proofs.Keeping
use Rattle.and_branch_laws.proofs.Lists.{all_of}
use Rattle.and_branch_laws.proofs.Places.{frame_within, frames_apart, clause_more, clause_cases}
use Rattle.and_moved_laws.specs.KeptFrames.{AreFrames, Fill, frame_of_goal, IsInFrame}

-- ---- Frames that fill a row

-- They begin at the place or behind it,
pub fill_behind : (from : ℕ) (fs : List Frame) (words : ℕ) → Fill from fs words → (f : Frame) → Contains fs f → from ≤ f.base
fill_behind from [] words x f h = absurd (contains_none f h)
fill_behind from (g ∷ fs) words x f h = elim (contains_cases g f fs h) [
  | inl e ↦ let same : f.base ≡ g.base = ap (λ (y : Frame). y.base) e in let b = x.0 in omega arith
  | inr i ↦ let l = fill_behind (from + g.weight) fs words x.2 f i in omega arith
]

-- and it is within the row.
fill_within : (from : ℕ) (fs : List Frame) (words : ℕ) → Fill from fs words → from ≤ words
fill_within from [] words x = let e = x in omega arith
fill_within from (f ∷ fs) words x = let l = fill_within (from + f.weight) fs words x.2 in omega arith

-- None is empty,
pub fill_some : (from : ℕ) (fs : List Frame) (words : ℕ) → Fill from fs words → (f : Frame) → Contains fs f → 0 < f.weight
fill_some from [] words x f h = absurd (contains_none f h)
fill_some from (g ∷ fs) words x f h = elim (contains_cases g f fs h) [
  | inl e ↦ let same : f.weight ≡ g.weight = ap (λ (y : Frame). y.weight) e in let b = x.1 in omega arith
  | inr i ↦ fill_some (from + g.weight) fs words x.2 f i
]

-- each ends within the row,
pub fill_fits : (from : ℕ) (fs : List Frame) (words : ℕ) → Fill from fs words → (f : Frame) → Contains fs f → f.base + f.weight ≤ words
fill_fits from [] words x f h = absurd (contains_none f h)
fill_fits from (g ∷ fs) words x f h = elim (contains_cases g f fs h) [
  | inl e ↦
      let same : f.base + f.weight ≡ g.base + g.weight = ap (λ (y : Frame). y.base + y.weight) e in
      let b = x.0 in
      let l = fill_within (from + g.weight) fs words x.2 in
      omega arith
  | inr i ↦ fill_fits (from + g.weight) fs words x.2 f i
]

-- before the next one begins,
pub fill_apart : (from : ℕ) (fs : List Frame) (words : ℕ) → Fill from fs words → (f g : Frame) → Contains fs f → Contains fs g
    → f.base < g.base → f.base + f.weight ≤ g.base
fill_apart from [] words x f g h i less = absurd (contains_none f h)
fill_apart from (d ∷ fs) words x f g h i less = elim (contains_cases d f fs h) [
  | inl e ↦
      let base : f.base ≡ d.base = ap (λ (y : Frame). y.base) e in
      let weighs : f.weight ≡ d.weight = ap (λ (y : Frame). y.weight) e in
      elim (contains_cases d g fs i) [
        | inl o ↦ let same : g.base ≡ d.base = ap (λ (y : Frame). y.base) o in absurd (omega arith)
        | inr j ↦ let l = fill_behind (from + d.weight) fs words x.2 g j in let b = x.0 in omega arith
      ]
  | inr j ↦ elim (contains_cases d g fs i) [
    | inl o ↦
        let same : g.base ≡ d.base = ap (λ (y : Frame). y.base) o in
        let l = fill_behind (from + d.weight) fs words x.2 f j in
        let b = x.0 in
        absurd (omega arith)
    | inr k ↦ fill_apart (from + d.weight) fs words x.2 f g j k less
  ]
]

-- and each place is in one.
pub fill_tiles : (from : ℕ) (fs : List Frame) (words : ℕ) → Fill from fs words → (p : ℕ) → from ≤ p → p < words
    → (f : Frame) × Contains fs f × IsInFrame p f
fill_tiles from [] words x p low less = let e = x in absurd (omega arith)
fill_tiles from (f ∷ fs) words x p low less = elim (cases_lt p (from + f.weight)) [
  | inl here ↦ let b = x.0 in (f, contains_first f fs, (omega arith, omega arith))
  | inr past ↦
      let (g, there, inside) = fill_tiles (from + f.weight) fs words x.2 p past less in
      (g, contains_more f g fs there, inside)
]

-- One more is put behind.
pub fill_more : (from : ℕ) (fs : List Frame) (words weight : ℕ) → Fill from fs words → 0 < weight
    → Fill from (fs ++ record { base = words; weight = weight } ∷ []) (words + weight)
fill_more from [] words weight x some = (sym x, some, ap (λ (n : ℕ). n + weight) x)
fill_more from (f ∷ fs) words weight x some = (x.0, x.1, fill_more (from + f.weight) fs words weight x.2 some)

-- ---- The frames of a tree

-- Each place below a tree's weight is in the frame of some clause.
pub place_in_frame : (P : Program) (rs : List Reduction) (t : QueryTree P) → Makes P rs t → (p : ℕ) → p < weight t
    → (n : ℕ) × (c : ℕ) × ClauseHas rs n c × (n ≤ p) × (p < n + clause_weight (clause_at P c))
place_in_frame P rs t none p low = (0, 0, inl (refl, refl), omega arith, omega (arith, low, blank_weighs P (query_agenda P)))
place_in_frame P rs t (one_more front back all u r o k old taken_call number is_all) p low =
    let grows : weight (reduce u o r.clause k) ≡ weight u + clause_weight (clause_at P r.clause) =
    omega (arith, reduce_weight u o r.clause k) in
    elim (cases_lt p (weight u)) [
      | inl before ↦
          let (n, c, has, from, to) = place_in_frame P (front ++ back) u old p before in
          let more : (y : Reduction) → Contains (front ++ back) y → Contains all y =
          λ y i. subst (λ l. Contains l y) (sym is_all) (middle_more front back r y i) in
          (n, c, clause_more (front ++ back) all more n c has, from, to)
      | inr past ↦ (
        r.node,
        r.clause,
        inr (r, subst (λ l. Contains l r) (sym is_all) (middle_has front back r), refl, refl),
        omega (arith, past, number),
        omega (arith, low, number, grows),
      )
    ]

-- These are the frames of such a tree.
abbrev AreOf : (P : Program) (rs : List Reduction) → List Frame → Type 0
AreOf P rs frames = (f : Frame) → Contains frames f ↔ ((c : ℕ) × ClauseHas rs f.base c × (f.weight ≡ clause_weight (clause_at P c)))

frame_is : (f g : Frame) → f.base ≡ g.base → f.weight ≡ g.weight → f ≡ g
frame_is f g bases weights = λ i. record { base = bases i; weight = weights i }

-- The tree has them, in the order of its row.
frames_of_tree : (P : Program) (rs : List Reduction) (t : QueryTree P) → Makes P rs t
    → (frames : List Frame) × AllPairs (λ (f g : Frame). f.base < g.base) frames × AreOf P rs frames
frames_of_tree P rs t none =
    let q : Frame = record { base = 0; weight = clause_weight P.query } in
    let R : Frame → Frame → Type 0 = λ f g. f.base < g.base in (
      q ∷ [],
      AllPairs-cons R q [] (all_of (R q) [] (λ f h. absurd (contains_none f h))) (all_pairs_none R),
      λ f. (
        λ h. elim (contains_cases q f [] h) [
          | inl e ↦ (0, inl (ap (λ (x : Frame). x.base) e, refl), ap (λ (x : Frame). x.weight) e)
          | inr i ↦ absurd (contains_none f i)
        ],
        λ x. elim x.1 [
          | inl a ↦
              let e : f ≡ q = frame_is f q a.0 (x.2 ∙ ap (λ (c : ℕ). clause_weight (clause_at P c)) a.1) in
              subst (λ (y : Frame). Contains (q ∷ []) y) (sym e) (contains_first q [])
          | inr y ↦ absurd (contains_none y.0 y.1)
        ],
      ),
    )
frames_of_tree P rs t (one_more front back all u r o k old taken_call number is_all) =
    let (frames, rising, are) = frames_of_tree P (front ++ back) u old in
    let R : Frame → Frame → Type 0 = λ f g. f.base < g.base in
    let last : Frame = record { base = r.node; weight = clause_weight (clause_at P r.clause) } in
    let below : (f : Frame) → Contains frames f → f.base < r.node = λ f h.
    let (c, has, weighs) = (are f).0 h in
    let w = frame_within P (front ++ back) u old f.base c has in
    let some = clause_weighs (clause_at P c) in
    let e = number in
    omega arith in
    let more : (y : Reduction) → Contains (front ++ back) y → Contains all y =
    λ y i. subst (λ l. Contains l y) (sym is_all) (middle_more front back r y i) in (
      frames ++ last ∷ [],
      all_pairs_join R frames (last ∷ []) rising
          (AllPairs-cons R last [] (all_of (R last) [] (λ f h. absurd (contains_none f h))) (all_pairs_none R))
          (all_of (λ (f : Frame). All (R f) (last ∷ [])) frames (λ f h. all_of (R f) (last ∷ []) (λ g i. elim (contains_cases last g [] i) [
            | inl e ↦ (let same : g.base ≡ r.node = ap (λ (x : Frame). x.base) e in let l = below f h in omega arith)
            | inr j ↦ absurd (contains_none g j)
          ]))),
      λ f. (
        λ h. elim (Contains-append_cases frames (last ∷ []) f h) [
          | inl i ↦ let (c, has, weighs) = (are f).0 i in (c, clause_more (front ++ back) all more f.base c has, weighs)
          | inr i ↦ elim (contains_cases last f [] i) [
            | inl e ↦ (
              r.clause,
              inr (r, subst (λ l. Contains l r) (sym is_all) (middle_has front back r), sym (ap (λ (x : Frame). x.base) e), refl),
              ap (λ (x : Frame). x.weight) e,
            )
            | inr j ↦ absurd (contains_none f j)
          ]
        ],
        λ x. elim (clause_cases front back r f.base x.0 (subst (λ l. ClauseHas l f.base x.0) is_all x.1)) [
          | inl e ↦
              let same : f ≡ last = frame_is f last e.0 (x.2 ∙ ap (λ (c : ℕ). clause_weight (clause_at P c)) e.1) in
              subst (λ (y : Frame). Contains (frames ++ last ∷ []) y) (sym same)
              (Contains-append_right frames (last ∷ []) last (contains_first last []))
          | inr i ↦ Contains-append_left frames (last ∷ []) f ((are f).1 (x.0, i, x.2))
        ],
      ),
    )

pub some_frames : (P : NamedProgram) (rs : List Reduction) (tree : QueryTree P.program) → Makes P.program rs tree
    → (frames : List Frame) × AreFrames P rs frames
some_frames P rs tree made =
    let (frames, rising, each) = frames_of_tree P.program rs tree made in
    (frames, record { rising = rising; each = each })

-- Frames that rise, lie apart and cover the row fill it.
covers_fill : (from : ℕ) (fs : List Frame) (words : ℕ) → AllPairs (λ (f g : Frame). f.base < g.base) fs
    → ((f : Frame) → Contains fs f → from ≤ f.base) → from ≤ words
    → ((f g : Frame) → Contains fs f → Contains fs g → f.base < g.base → f.base + f.weight ≤ g.base)
    → ((f : Frame) → Contains fs f → f.base + f.weight ≤ words) → ((f : Frame) → Contains fs f → 0 < f.weight)
    → ((p : ℕ) → from ≤ p → p < words → (f : Frame) × Contains fs f × IsInFrame p f) → Fill from fs words
covers_fill from [] words rising behind short apart within some covers = elim (cases_lt from words) [
  | inl less ↦ let g = covers from (omega arith) less in absurd (contains_none g.0 g.1)
  | inr more ↦ omega arith
]
covers_fill from (f ∷ fs) words rising behind short apart within some covers =
    let first : Contains (f ∷ fs) f = contains_first f fs in
    let later : (g : Frame) → Contains fs g → f.base < g.base = λ g h.
    All-contains (λ (x : Frame). f.base < x.base) fs g (all_pairs_first (λ (x y : Frame). x.base < y.base) f fs rising) h in
    let low = behind f first in
    let ends = within f first in
    let weighs = some f first in
    let (g, there, inside) = covers from (omega arith) (omega arith) in
    let upto = inside.0 in
    let begins : f.base ≡ from = elim (contains_cases f g fs there) [
      | inl e ↦ let same : g.base ≡ f.base = ap (λ (x : Frame). x.base) e in omega arith
      | inr i ↦ let l = later g i in omega arith
    ] in (
      begins,
      weighs,
      covers_fill (from + f.weight) fs words (all_pairs_rest (λ (x y : Frame). x.base < y.base) f fs rising)
          (λ h i. (let l = apart f h first (contains_more f h fs i) (later h i) in omega arith))
          (omega arith)
          (λ h d i j. apart h d (contains_more f h fs i) (contains_more f d fs j))
          (λ h i. within h (contains_more f h fs i))
          (λ h i. some h (contains_more f h fs i))
          (λ p past less. (
          let (h, i, j) = covers p (omega arith) less in
          elim (contains_cases f h fs i) [
            | inl e ↦
                let same : h.base + h.weight ≡ f.base + f.weight = ap (λ (x : Frame). x.base + x.weight) e in
                let l = j.1 in
                absurd (omega arith)
            | inr k ↦ (h, k, j)
          ])),
    )

-- So those of a tree do.
pub tree_filled : (P : NamedProgram) (rs : List Reduction) (tree : QueryTree P.program) → Makes P.program rs tree → (frames : List Frame)
    → AreFrames P rs frames → Fill 0 frames (weight tree)
tree_filled P rs tree made frames all =
    covers_fill 0 frames (weight tree) all.rising (λ f h. omega arith) (omega arith)
    (λ f g h i less.
    let (c, one, weighs) = (all.each f).0 h in
    let (d, other, also) = (all.each g).0 i in
    let a = frames_apart P.program rs tree made f.base c g.base d one other less in
    omega arith)
    (λ f h.
    let (c, has, weighs) = (all.each f).0 h in
    let w = frame_within P.program rs tree made f.base c has in
    omega arith)
    (λ f h.
    let (c, has, weighs) = (all.each f).0 h in
    let w = clause_weighs (clause_at P.program c) in
    omega arith)
    (λ p low less.
    let (n, c, has, from, to) = place_in_frame P.program rs tree made p less in
    let f : Frame = record { base = n; weight = clause_weight (clause_at P.program c) } in
    (f, (all.each f).1 (c, has, refl), (from, to)))

-- Each goal that is kept has its frame among them.
pub goal_framed : (P : NamedProgram) → OwnVariables P → (rs : List Reduction) (row : List Ref) (kept : List Framed) (tree : QueryTree P.program)
    (k : Kept P rs row kept tree) (frames : List Frame) → AreFrames P rs frames → (f : Framed) → Contains kept f
    → Contains frames (frame_of_goal P f.goal)
goal_framed P own rs row kept tree k frames all f h =
    let has : ClauseHas rs f.goal.base f.goal.clause.0 =
    subst (λ (n : ℕ). ClauseHas rs n f.goal.clause.0) (sym (Keeping.base_of P own rs row kept tree k f h))
    (Keeping.clause_of P own rs row kept tree k f h) in
    (all.each (frame_of_goal P f.goal)).1 (f.goal.clause.0, has, refl)
