-- A branch whose row is part of its whole one reduces a goal.
use Rattle.std.proofs.Common.{ℕ, suc, ◌+◌, ◌^◌, ◌≡◌, ◌≤◌, List, [], ◌∷◌, ◌++◌, length, map, refl, sym, ap, ◌∙◌, subst, inl, inr, arith}
use Rattle.std.proofs.Common.{Contains}
use Rattle.std.proofs.lemmas.List.{map-append}
use Rattle.std.proofs.lemmas.List.Elements.{Contains-append_left, Contains-append_right, Contains-append_cases}
use Rattle.and_model.specs.Terms.{Path, Term, apply, variables_of}
use Rattle.and_model.specs.Solutions.{Equation, falsehood}
use Rattle.and_model.specs.Programs.{Item, call, equal, arithmetic, fail, clause_at, clause_weight, Of}
use Rattle.and_model.specs.OwnVariables.{IsOwn, AreOwn}
use Rattle.and_model.specs.Trees.{QueryTree, weight, Open, path, call_of, reduce}
use Rattle.and_model.specs.Reductions.{Reduction}
use Rattle.and_model.specs.Stands.{Framed, term_of}
use Rattle.and_model.specs.Store.{Frame, is_half}
use Rattle.and_model.specs.declared.goal.Goal.{Goal}
use Rattle.and_model.specs.declared.reference.Ref.{Ref}
use Rattle.and_laws.specs.Naming.{under}
use Rattle.and_laws.proofs.Order.{clause_weighs}
use Rattle.and_laws.proofs.Ordered.{contains_first, contains_more, contains_cases, contains_none, middle_has}
use Rattle.and_laws.proofs.Substitutions.{then, apply_then}
use Rattle.and_cells.specs.Ranges.{NamedProgram}
use Rattle.and_cells.specs.Seen.{word_at}
use Rattle.and_cells.specs.Meaning.{cell_variable}
use Rattle.and_cells.proofs.OneTerm.{apply_agree}
use Rattle.and_branch_laws.specs.OwnVariables.{IsLoaded}
use Rattle.and_branch_laws.specs.Variables.{SpeaksOf, EquationsSpeakOf, IsWholeCell, cells_from, placed}
use Rattle.and_branch_laws.specs.Settling.{widened, Settled}
use Rattle.and_branch_laws.specs.Reducing.{body_equations, reduction_in_cells, reduction_by, goal_at, body_goals}
use Rattle.and_branch_laws.specs.Kept.{Kept, IsCall}
use Rattle.and_branch_laws.proofs.Growing.{head_is_own, body_is_own}
use Rattle.and_branch_laws.proofs.Naming.{variables_fit}
use Rattle.and_branch_laws.proofs.Owning.{own_speaks, body_equations_speak}
use Rattle.and_branch_laws.proofs.Rows.{widened_words}
use Rattle.and_branch_laws.proofs.Speaking.{speaks_variable, speaks_applied}
use Rattle.and_branch_laws.proofs.Stepping
use Rattle.and_branch_laws.proofs.Widening.{widened_length, free_behind}
use Rattle.and_moved_laws.specs.Parts.{moving, IsPartOf, NamesTogether, IsGoalOfPart, goal_moved, framed_moved}
use Rattle.and_moved_laws.specs.KeptFrames.{Fill, frame_of_goal, NamesFrames, MovesWhole}
use Rattle.and_moved_laws.specs.KeptParts.{PartKept, GrewBeside, framed_at}
use Rattle.and_moved_laws.proofs.Frames.{names_together, behind_whole}
use Rattle.and_moved_laws.proofs.Judging.{call_moved}
use Rattle.and_moved_laws.proofs.KeptParts.{kept_goal}
use Rattle.and_moved_laws.proofs.MovedGoals.{call_there}
use Rattle.and_moved_laws.proofs.Settling.{settling_behind}
use Rattle.and_moved_laws.proofs.Tiling.{fill_fits, fill_more}

-- ---- What a reduction asks of the cells

module _ (P : NamedProgram) (at : ℕ → ℕ) (part whole : List Ref) (m : IsPartOf P at part whole) where
  -- A term in a frame behind the part is that in the frame behind the whole row, with the cells named anew.
  placed_behind : (t : Term) → apply (moving at) (placed (length part) t) ≡ placed (length whole) t
  placed_behind t =
      apply_then (cells_from (length part)) (moving at) t
      ∙ apply_agree (then (cells_from (length part)) (moving at)) (cells_from (length whole)) t (λ v c.
      let there = m.beyond (1 + v.1) in
      let one : at (length part + 1 + v.1) ≡ at (length part + (1 + v.1)) = ap at (omega arith) in
      ap cell_variable (omega arith))

  body_behind : (items : List Item) → under (moving at) (body_equations (placed (length part)) items)
      ≡ body_equations (placed (length whole)) items
  body_behind [] = refl
  body_behind (call g ∷ items) = body_behind items
  body_behind (equal a b ∷ items) =
      ap (λ (x : Term). (x, apply (moving at) (placed (length part) b)) ∷ under (moving at) (body_equations (placed (length part)) items))
      (placed_behind a)
      ∙ ap (λ (y : Term). (placed (length whole) a, y) ∷ under (moving at) (body_equations (placed (length part)) items)) (placed_behind b)
      ∙ ap (λ (l : List Equation). (placed (length whole) a, placed (length whole) b) ∷ l) (body_behind items)
  body_behind (arithmetic a ∷ items) = body_behind items
  body_behind (fail ∷ items) = ap (λ (l : List Equation). falsehood ∷ l) (body_behind items)

  -- So it is with what a reduction asks.
  pub reduction_behind : (g : Goal) → IsGoalOfPart P at part g → (c : ℕ)
      → under (moving at) (reduction_in_cells P.program g c (length part)) ≡ reduction_in_cells P.program (goal_moved at g) c (length whole)
  reduction_behind g o c =
      let t : Term = term_of P.program g in
      let k = clause_at P.program c in
      ap (λ (x : Term). (x, apply (moving at) (placed (length part) k.head)) ∷ under (moving at) (body_equations (placed (length part)) k.body))
      (sym (call_moved P at part whole m g o))
      ∙ ap (λ (y : Term). (placed (at g.base) t, y) ∷ under (moving at) (body_equations (placed (length part)) k.body)) (placed_behind k.head)
      ∙ ap (λ (l : List Equation). (placed (at g.base) t, placed (length whole) k.head) ∷ l) (body_behind k.body)

-- It speaks of cells of the row with a frame more.
reduction_speaks : (P : NamedProgram) → IsLoaded P → (at : ℕ → ℕ) (part : List Ref) (g : Goal) → IsGoalOfPart P at part g → (c : ℕ)
    → EquationsSpeakOf (IsWholeCell (widened part (clause_weight (clause_at P.program c)))) (reduction_in_cells P.program g c (length part))
reduction_speaks P loaded at part g o c =
    let w : ℕ = clause_weight (clause_at P.program c) in
    let V : Path × ℕ → Type 0 = IsWholeCell (widened part w) in
    let long : length (widened part w) ≡ length part + w = widened_length part w in
    let t : Term = term_of P.program g in
    let mine : SpeaksOf V (placed g.base t) =
    speaks_applied (λ v. Contains (variables_of (term_of P.program g)) v) V (cells_from g.base) t
    (λ v i. speaks_variable V [] (g.base + 1 + v.1) (
      refl,
      (let l = o.within v i in omega arith),
      ap is_half (widened_words part w (g.base + 1 + v.1)) ∙ o.whole v i,
    )) (λ v i. i) in
    let new : (u : Term) → AreOwn (clause_at P.program c).variables u → SpeaksOf V (placed (length part) u) = λ u own.
    speaks_applied (IsOwn (clause_at P.program c).variables) V (cells_from (length part)) u
    (λ v i. speaks_variable V [] (length part + 1 + v.1) (
      refl,
      (let fit = variables_fit (clause_at P.program c) in let l = i.1 in omega arith),
      ap is_half (free_behind part w (length part + 1 + v.1) (omega arith)),
    )) (own_speaks (clause_at P.program c).variables u own) in (
      mine,
      new (clause_at P.program c).head (head_is_own P loaded.own c),
      body_equations_speak V (placed (length part)) (clause_at P.program c).variables (clause_at P.program c).body new (body_is_own P loaded.own c),
    )

-- ---- The goals of the body

-- In a frame behind the part they are those in the frame behind the whole row, moved.
bodies_moved : (at : ℕ → ℕ) (c n base : ℕ) → at base ≡ n → (q : Path) (i : ℕ) (items : List Item)
    → map (framed_moved at) (map (framed_at base) (body_goals c n q i items)) ≡ body_goals c n q i items
bodies_moved at c n base e q i [] = refl
bodies_moved at c n base e q i (call g ∷ items) =
    ap (λ (b : ℕ). framed_at b (goal_at c n q i) ∷ map (framed_moved at) (map (framed_at base) (body_goals c n q (suc i) items))) e
    ∙ ap (λ (l : List Framed). goal_at c n q i ∷ l) (bodies_moved at c n base e q (suc i) items)
bodies_moved at c n base e q i (equal a b ∷ items) = bodies_moved at c n base e q (suc i) items
bodies_moved at c n base e q i (arithmetic a ∷ items) =
    ap (λ (b : ℕ). framed_at b (goal_at c n q i) ∷ map (framed_moved at) (map (framed_at base) (body_goals c n q (suc i) items))) e
    ∙ ap (λ (l : List Framed). goal_at c n q i ∷ l) (bodies_moved at c n base e q (suc i) items)
bodies_moved at c n base e q i (fail ∷ items) = bodies_moved at c n base e q (suc i) items

-- Each has the clause's frame.
bodies_framed : (P : NamedProgram) (c n base : ℕ) (q : Path) (i : ℕ) (items : List Item) (f : Framed)
    → Contains (map (framed_at base) (body_goals c n q i items)) f
    → frame_of_goal P f.goal ≡ record { base = base; weight = clause_weight (clause_at P.program c) }
bodies_framed P c n base q i [] f h = absurd (contains_none f h)
bodies_framed P c n base q i (call g ∷ items) f h =
    elim (contains_cases (framed_at base (goal_at c n q i)) f (map (framed_at base) (body_goals c n q (suc i) items)) h) [
      | inl e ↦ ap (λ (x : Framed). frame_of_goal P x.goal) e
      | inr j ↦ bodies_framed P c n base q (suc i) items f j
    ]
bodies_framed P c n base q i (equal a b ∷ items) f h = bodies_framed P c n base q (suc i) items f h
bodies_framed P c n base q i (arithmetic a ∷ items) f h =
    elim (contains_cases (framed_at base (goal_at c n q i)) f (map (framed_at base) (body_goals c n q (suc i) items)) h) [
      | inl e ↦ ap (λ (x : Framed). frame_of_goal P x.goal) e
      | inr j ↦ bodies_framed P c n base q (suc i) items f j
    ]
bodies_framed P c n base q i (fail ∷ items) f h = bodies_framed P c n base q (suc i) items f h

-- ---- The step

module _ (P : NamedProgram) (loaded : IsLoaded P) (rs : List Reduction) (frames : List Frame) (part : List Ref) (front : List Framed)
    (f : Framed) (back : List Framed) (tree : QueryTree P.program) (k : PartKept P rs frames part (front ++ f ∷ back) tree)
    (called : IsCall P.program f) (o : Open tree) (path_is : path tree o ≡ f.frame ++ f.goal.item ∷ []) (c : ℕ)
    (of_it : Of P.program (call_of tree o) c) (short : weight tree + clause_weight (clause_at P.program c) ≤ 2 ^ 22 + 256) (new : List Ref)
    (x : Settled P (widened part (clause_weight (clause_at P.program c))) new (reduction_in_cells P.program f.goal c (length part)))
    (names : NamesFrames P (frames ++ record { base = length part; weight = clause_weight (clause_at P.program c) } ∷ []) new) where
  abbrev w : ℕ
  w = clause_weight (clause_at P.program c)

  abbrev last : Frame
  last = record { base = length part; weight = clause_weight (clause_at P.program c) }

  abbrev body : List Framed
  body = body_goals c (weight tree) (f.frame ++ f.goal.item ∷ []) 0 (clause_at P.program c).body

  this : IsGoalOfPart P k.at part f.goal
  this = kept_goal P loaded.own rs frames part (front ++ f ∷ back) tree k f (middle_has front back f)

  new_length : length new ≡ length part + w
  new_length = (let y = x.keeps in y.words) ∙ widened_length part w

  long : length k.whole ≡ weight tree
  long = let y = k.keeps in y.long

  filled_now : Fill 0 (frames ++ record { base = length part; weight = clause_weight (clause_at P.program c) } ∷ []) (length new)
  filled_now = subst (λ (n : ℕ). Fill 0 (frames ++ last ∷ []) n) (sym new_length)
      (fill_more 0 frames (length part) w k.fill (clause_weighs (clause_at P.program c)))

  moves_now : (g : Frame) → Contains (frames ++ record { base = length part; weight = clause_weight (clause_at P.program c) } ∷ []) g → MovesWhole k.at g
  moves_now g h = elim (Contains-append_cases frames (last ∷ []) g h) [
    | inl i ↦ k.moves g i
    | inr i ↦ elim (contains_cases last g [] i) [
      | inl e ↦ subst (λ (y : Frame). MovesWhole k.at y) (sym e) (behind_whole P k.at part k.whole w k.is_part)
      | inr j ↦ absurd (contains_none g j)
    ]
  ]

  together_now : NamesTogether P k.at new
  together_now = names_together P k.at (frames ++ last ∷ []) moves_now new
      (λ g h. (let l = fill_fits 0 (frames ++ last ∷ []) (length new) filled_now g h in omega arith)) names

  abbrev later : Type 0
  later = (row : List Ref) × IsPartOf P k.at new row × Settled P (widened k.whole w) row
      (under (moving k.at) (reduction_in_cells P.program f.goal c (length part)))
      × ((p : ℕ) → ((d : ℕ) → k.at d ≡ p → ⊥) → word_at row p ≡ word_at (widened k.whole w) p)

  settled_there : (row : List Ref) × IsPartOf P k.at new row × Settled P (widened k.whole w) row
      (under (moving k.at) (reduction_in_cells P.program f.goal c (length part)))
      × ((p : ℕ) → ((d : ℕ) → k.at d ≡ p → ⊥) → word_at row p ≡ word_at (widened k.whole w) p)
  settled_there =
      let y = k.keeps in
      settling_behind P k.at part k.whole new w (reduction_in_cells P.program f.goal c (length part)) k.is_part y.sound y.settled
      (let l = long in omega arith) (reduction_speaks P loaded k.at part f.goal this c) x together_now

  -- The whole row's branch keeps what a branch keeps,
  whole_reduced : (s : later) → Kept P (rs ++ reduction_by f.goal c (weight tree) ∷ []) s.0
      (map (framed_moved k.at) (front ++ (map (framed_at (length part)) body ++ back))) (reduce tree o c of_it)
  whole_reduced s =
      let M : List Framed → List Framed = map (framed_moved k.at) in
      let split : Kept P rs k.whole (M front ++ framed_moved k.at f ∷ M back) tree =
      subst (λ (l : List Framed). Kept P rs k.whole l tree) (map-append (framed_moved k.at) front (f ∷ back)) k.keeps in
      let asked : Settled P (widened k.whole w) s.0 (reduction_in_cells P.program (goal_moved k.at f.goal) c (length k.whole)) =
      subst (λ (l : List Equation). Settled P (widened k.whole w) s.0 l) (reduction_behind P k.at part k.whole k.is_part f.goal this c) s.2 in
      let next : Kept P (rs ++ reduction_by f.goal c (length k.whole) ∷ []) s.0
      (M front ++ (body_goals c (length k.whole) (f.frame ++ f.goal.item ∷ []) 0 (clause_at P.program c).body ++ M back)) (reduce tree o c of_it) =
      Stepping.reductions_keep P loaded rs k.whole (M front) (framed_moved k.at f) (M back) tree split (call_there P.program k.at f called) o path_is c
      of_it s.0 asked in
      let at_end : k.at (length part) ≡ weight tree = (
      let e = let z = k.is_part in z.beyond 0 in
      let same : k.at (length part + 0) ≡ k.at (length part) = ap k.at (omega arith) in
      let l = long in
      omega arith) in
      let goals : M (front ++ (map (framed_at (length part)) body ++ back)) ≡ M front ++ (body ++ M back) =
      map-append (framed_moved k.at) front (map (framed_at (length part)) body ++ back)
      ∙ ap (λ (l : List Framed). M front ++ l) (map-append (framed_moved k.at) (map (framed_at (length part)) body) back)
      ∙ ap (λ (l : List Framed). M front ++ (l ++ M back))
      (bodies_moved k.at c (weight tree) (length part) at_end (f.frame ++ f.goal.item ∷ []) 0 (clause_at P.program c).body) in
      subst (λ (l : List Framed). Kept P (rs ++ reduction_by f.goal c (weight tree) ∷ []) s.0 l (reduce tree o c of_it)) (sym goals)
      (subst (λ (n : ℕ). Kept P (rs ++ reduction_by f.goal c n ∷ []) s.0
      (M front ++ (body_goals c n (f.frame ++ f.goal.item ∷ []) 0 (clause_at P.program c).body ++ M back)) (reduce tree o c of_it)) long next)

  goal_framed_now : (g : Framed) → Contains (front ++ (map (framed_at (length part)) body ++ back)) g
      → Contains (frames ++ record { base = length part; weight = clause_weight (clause_at P.program c) } ∷ []) (frame_of_goal P g.goal)
  goal_framed_now g h = elim (Contains-append_cases front (map (framed_at (length part)) body ++ back) g h) [
    | inl i ↦ Contains-append_left frames (last ∷ []) (frame_of_goal P g.goal) (k.framed g (Contains-append_left front (f ∷ back) g i))
    | inr i ↦ elim (Contains-append_cases (map (framed_at (length part)) body) back g i) [
      | inl j ↦
          let is : frame_of_goal P g.goal ≡ last =
          bodies_framed P c (weight tree) (length part) (f.frame ++ f.goal.item ∷ []) 0 (clause_at P.program c).body g j in
          subst (λ (y : Frame). Contains (frames ++ last ∷ []) y) (sym is) (Contains-append_right frames (last ∷ []) last (contains_first last []))
      | inr j ↦ Contains-append_left frames (last ∷ []) (frame_of_goal P g.goal)
          (k.framed g (Contains-append_right front (f ∷ back) g (contains_more f g back j)))
    ]
  ]

  -- which grew beside the part,
  grew : (s : later) → GrewBeside k.at k.at k.whole s.0
  grew s =
      let settled : Settled P (widened k.whole w) s.0 (under (moving k.at) (reduction_in_cells P.program f.goal c (length part))) = s.2 in
      let keeps = settled.keeps in record {
        stays = refl;
        grows = record {
          longer = let words = keeps.words in let l = widened_length k.whole w in omega arith;
          set = λ p r set. keeps.knows p r (widened_words k.whole w p ∙ set.0, set.1);
        };
        others = λ p nowhere. s.3 p nowhere ∙ widened_words k.whole w p;
      }

  -- and so does the part's.
  pub reduced_kept : (l : PartKept P (rs ++ reduction_by f.goal c (weight tree) ∷ [])
      (frames ++ record { base = length part; weight = clause_weight (clause_at P.program c) } ∷ []) new
      (front ++ (map (framed_at (length part)) (body_goals c (weight tree) (f.frame ++ f.goal.item ∷ []) 0 (clause_at P.program c).body) ++ back))
      (reduce tree o c of_it)) × GrewBeside k.at l.at k.whole l.whole
  reduced_kept = (
    record {
      at = k.at;
      whole = settled_there.0;
      is_part = settled_there.1;
      keeps = whole_reduced settled_there;
      fill = filled_now;
      names = names;
      moves = moves_now;
      stays = k.stays;
      query = Contains-append_left frames (last ∷ []) (record { base = 0; weight = clause_weight P.program.query }) k.query;
      framed = goal_framed_now;
    },
    grew settled_there,
  )
