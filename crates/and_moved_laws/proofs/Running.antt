-- A branch whose row is part of its whole one runs arithmetic.
use Rattle.std.proofs.Common.{ℕ, ℤ, suc, ◌+◌, ◌*◌, ◌≡◌, ◌≢◌, ◌<◌, ◌⊎◌, true, false, List, [], ◌∷◌, ◌++◌, length, map, Some, None, refl, sym, ap, ◌∙◌}
use Rattle.std.proofs.Common.{subst, inl, inr, arith, Contains}
use Rattle.std.proofs.lemmas.Bool.{cases_eq}
use Rattle.std.proofs.lemmas.List.{map-append}
use Rattle.std.proofs.lemmas.List.Elements.{Contains-append_left, Contains-append_right}
use Rattle.and_model.specs.Terms.{Path, Term, number, none, more, variables_of, is_ground, are_ground, framed}
use Rattle.and_model.specs.Solutions.{Equation, Solves, Solvable}
use Rattle.and_model.specs.Arithmetic.{Relation, value, holds}
use Rattle.and_model.specs.Programs.{Item, arithmetic, Arithmetic, is, compare, clause_at, clause_weight}
use Rattle.and_model.specs.Closure.{Known}
use Rattle.and_model.specs.Trees.{QueryTree}
use Rattle.and_model.specs.Reached.{Dead}
use Rattle.and_model.specs.Reductions.{Reduction}
use Rattle.and_model.specs.Lines.{goal_term}
use Rattle.and_model.specs.Stands.{ClauseHas, Framed, item_term, term_of}
use Rattle.and_model.specs.Store.{Frame, is_half}
use Rattle.and_model.specs.declared.reference.Ref.{Ref}
use Rattle.and_model.specs.declared.reference.Ref.TheVariants.{Free, Number, Half}
use Rattle.and_program.specs.Skeletons
use Rattle.and_program.specs.Skeletons.{node_term, item_of}
use Rattle.and_laws.specs.Naming.{under}
use Rattle.and_laws.proofs.Equality.{bool_cases}
use Rattle.and_laws.proofs.Ordered.{middle_has, middle_more}
use Rattle.and_laws.proofs.Substitutions.{apply_ground}
use Rattle.and_cells.specs.Ranges.{NamedProgram, CanHold, IsGoalInRange, pair_of}
use Rattle.and_cells.specs.Parts.{part_at}
use Rattle.and_cells.specs.Rows.{IsSound}
use Rattle.and_cells.specs.Seen.{word_at, Grows}
use Rattle.and_cells.specs.Meaning.{IsSettled, equations_of}
use Rattle.and_cells.specs.Solved.{IsMostGeneral}
use Rattle.and_cell_laws.proofs.Circles.{circles_have_no_solution, halves_have_no_term}
use Rattle.and_cell_laws.proofs.Images.{contains_image}
use Rattle.and_cell_laws.proofs.Settling.{settled_rows_have_terms}
use Rattle.and_cell_laws.proofs.TermsOfRows.{rows_with_terms_are_solutions}
use Rattle.and_branch_laws.specs.OwnVariables.{IsLoaded}
use Rattle.and_branch_laws.specs.Variables.{EquationsSpeakOf, IsWholeCell, cells_from, placed}
use Rattle.and_branch_laws.specs.Running.{IsRead}
use Rattle.and_branch_laws.specs.Settling.{Settled, IsWritten}
use Rattle.and_branch_laws.specs.Kept.{item_at, node_item_at, Kept}
use Rattle.and_branch_laws.proofs.Asking
use Rattle.and_branch_laws.proofs.Assigning
use Rattle.and_branch_laws.proofs.Growing.{nothing_said}
use Rattle.and_branch_laws.proofs.Keeping
use Rattle.and_branch_laws.proofs.Nodes.{item_here}
use Rattle.and_branch_laws.proofs.Owning.{term_speaks}
use Rattle.and_branch_laws.proofs.Pairs.{pair_within}
use Rattle.and_branch_laws.proofs.Running
use Rattle.and_branch_laws.proofs.Speaking.{speaks_variable, speaks_applied}
use Rattle.and_moved_laws.specs.Parts.{moved, moving, MovesTogether, IsTogether, IsPartOf, NamesTogether, framed_moved}
use Rattle.and_moved_laws.specs.KeptFrames.{Fill, frame_of_goal, NamesFrame, NamesFrames}
use Rattle.and_moved_laws.specs.KeptParts.{PartKept, GrewBeside}
use Rattle.and_moved_laws.proofs.Frames.{names_together}
use Rattle.and_moved_laws.proofs.Filling.{Origin, origin, filled, filled_length, filled_here, filled_elsewhere, part_filled}
use Rattle.and_moved_laws.proofs.Moving.{free_in_part}
use Rattle.and_moved_laws.proofs.Naming.{own_named}
use Rattle.and_moved_laws.proofs.KeptParts.{kept_goal}
use Rattle.and_moved_laws.proofs.Judging.{placed_moved}
use Rattle.and_moved_laws.proofs.Reading.{read_there}
use Rattle.and_moved_laws.proofs.Settling.{settling_of_parts}
use Rattle.and_moved_laws.proofs.Solving.{unsolved_there}
use Rattle.and_moved_laws.proofs.Tiling.{fill_fits}

one_ground : (u : Term) → is_ground u ≡ true → are_ground (more u none) ≡ true
one_ground u ground = rw ground refl

-- ---- Terms that read as ground ones

module _ (P : NamedProgram) (loaded : IsLoaded P) (rs : List Reduction) (frames : List Frame) (part : List Ref) (kept : List Framed)
    (tree : QueryTree P.program) (k : PartKept P rs frames part kept tree) (f : Framed) (h : Contains kept f) where
  h_there : Contains (map (framed_moved k.at) kept) (framed_moved k.at f)
  h_there = contains_image (framed_moved k.at) kept f h

  -- the variables of a goal of arithmetic
  near : (a : Arithmetic) → item_at P.program f.goal ≡ arithmetic a → (t : Term)
      → ((v : Path × ℕ) → Contains (variables_of t) v → Contains (variables_of (goal_term a)) v) → MovesTogether k.at f.goal.base t
  near a item t of_goal = λ v c.
      let o = kept_goal P loaded.own rs frames part kept tree k f h in
      o.together v (subst (λ (i : Item). Contains (variables_of (item_term i)) v) (sym item) (of_goal v c))

  reads_there : (t u : Term) → MovesTogether k.at f.goal.base t → IsRead P part f.goal.base t u → is_ground u ≡ true
      → IsRead P k.whole (k.at f.goal.base) t u
  reads_there t u by read ground =
      subst (λ (x : Term). IsRead P k.whole (k.at f.goal.base) t x) (apply_ground (moving k.at) u ground)
      (read_there P k.at part k.whole k.is_part f.goal.base t u by read)

  left_near : (r : Relation) (a b : Term) → item_at P.program f.goal ≡ arithmetic (compare r a b) → MovesTogether k.at f.goal.base a
  left_near r a b item = near (compare r a b) item a (λ v c. Contains-append_left (variables_of a) (variables_of b ++ []) v c)

  right_near : (r : Relation) (a b : Term) → item_at P.program f.goal ≡ arithmetic (compare r a b) → MovesTogether k.at f.goal.base b
  right_near r a b item = near (compare r a b) item b
      (λ v c. Contains-append_right (variables_of a) (variables_of b ++ []) v (Contains-append_left (variables_of b) [] v c))

  assigned_near : (l r : Term) → item_at P.program f.goal ≡ arithmetic (is l r) → MovesTogether k.at f.goal.base l
  assigned_near l r item = near (is l r) item l (λ v c. Contains-append_left (variables_of l) (variables_of r ++ []) v c)

  value_near : (l r : Term) → item_at P.program f.goal ≡ arithmetic (is l r) → MovesTogether k.at f.goal.base r
  value_near l r item = near (is l r) item r
      (λ v c. Contains-append_right (variables_of l) (variables_of r ++ []) v (Contains-append_left (variables_of r) [] v c))

  -- The tree is dead where a comparison does not hold of them,
  pub comparison_fails : (r : Relation) (a b u v : Term) → item_at P.program f.goal ≡ arithmetic (compare r a b)
      → IsRead P part f.goal.base a u → IsRead P part f.goal.base b v → is_ground u ≡ true → is_ground v ≡ true
      → holds r u v ≡ false → Dead tree
  comparison_fails r a b u v item one other first second is_false =
      Asking.comparison_fails P loaded rs k.whole (map (framed_moved k.at) kept) tree k.keeps (framed_moved k.at f) h_there r a b u v item
      (reads_there a u (left_near r a b item) one first) (reads_there b v (right_near r a b item) other second) first second is_false

  -- or they have no value.
  pub no_value_fails : (l r u : Term) → item_at P.program f.goal ≡ arithmetic (is l r) → IsRead P part f.goal.base r u → is_ground u ≡ true
      → value u ≡ None → Dead tree
  no_value_fails l r u item read ground no_value =
      Asking.no_value_fails P loaded rs k.whole (map (framed_moved k.at) kept) tree k.keeps (framed_moved k.at f) h_there l r u item
      (reads_there r u (value_near l r item) read ground) ground no_value

  -- ---- The pair of an `is` goal

  pair_inside : (nl nr num : ℕ) → node_item_at P f.goal ≡ Skeletons.is nl nr num
      → 1 + (clause_at P.program f.goal.clause.0).variables + 2 * num + 1 < clause_weight (clause_at P.program f.goal.clause.0)
  pair_inside nl nr num node =
      let g : Framed = framed_moved k.at f in
      let s = k.keeps in
      let has : ClauseHas rs g.goal.node f.goal.clause.0 =
      Keeping.clause_of P loaded.own rs k.whole (map (framed_moved k.at) kept) tree k.keeps g h_there in
      let w = (pair_within P loaded rs tree s.made g.goal.node f.goal.clause.0 g.goal.item nl nr num has node).1 in
      omega arith

  -- Its words are moved with the frame.
  pub first_moves : (nl nr num : ℕ) → node_item_at P f.goal ≡ Skeletons.is nl nr num
      → k.at (pair_of P f.goal.clause.0 f.goal.base num) ≡ pair_of P f.goal.clause.0 (k.at f.goal.base) num
  first_moves nl nr num node =
      let w = pair_inside nl nr num node in
      let n : ℕ = 1 + (clause_at P.program f.goal.clause.0).variables + 2 * num in
      let e = k.moves (frame_of_goal P f.goal) (k.framed f h) n (omega arith) in
      let same : k.at (pair_of P f.goal.clause.0 f.goal.base num) ≡ k.at (f.goal.base + n) = ap k.at (omega arith) in
      omega arith

  pub second_moves : (nl nr num : ℕ) → node_item_at P f.goal ≡ Skeletons.is nl nr num
      → k.at (suc (pair_of P f.goal.clause.0 f.goal.base num)) ≡ suc (pair_of P f.goal.clause.0 (k.at f.goal.base) num)
  second_moves nl nr num node =
      let w = pair_inside nl nr num node in
      let n : ℕ = 1 + (clause_at P.program f.goal.clause.0).variables + 2 * num + 1 in
      let e = k.moves (frame_of_goal P f.goal) (k.framed f h) n (omega arith) in
      let same : k.at (suc (pair_of P f.goal.clause.0 f.goal.base num)) ≡ k.at (f.goal.base + n) = ap k.at (omega arith) in
      omega arith

  -- They are of the goal's frame, which its left node names too.
  pub pair_named : (nl nr num : ℕ) → node_item_at P f.goal ≡ Skeletons.is nl nr num
      → NamesFrame P frames (Number (pair_of P f.goal.clause.0 f.goal.base num))
  pair_named nl nr num node =
      let w = pair_inside nl nr num node in
      (frame_of_goal P f.goal, k.framed f h, (omega arith, omega arith), (omega arith, omega arith))

  pub left_named : (words nl nr num : ℕ) → IsGoalInRange P words f.goal → node_item_at P f.goal ≡ Skeletons.is nl nr num
      → NamesFrame P frames (part_at P f.goal.base nl)
  left_named words nl nr num range node =
      let a : Term = node_term P.skeleton.nodes nl in
      let b : Term = node_term P.skeleton.nodes nr in
      let here : item_at P.program f.goal ≡ arithmetic (is a b) = item_here P loaded words f.goal range ∙ ap (item_of P.skeleton.nodes) node in
      own_named P frames f.goal nl loaded.own (k.framed f h) (λ v c.
      subst (λ (i : Item). Contains (variables_of (item_term i)) v) (sym here) (Contains-append_left (variables_of a) (variables_of b ++ []) v c))

  -- They are free.
  pub pair_is_free : (nl nr num : ℕ) → node_item_at P f.goal ≡ Skeletons.is nl nr num
      → (word_at part (pair_of P f.goal.clause.0 f.goal.base num) ≡ Free) × (word_at part (suc (pair_of P f.goal.clause.0 f.goal.base num)) ≡ Free)
  pair_is_free nl nr num node =
      let was = Asking.pair_is_free P rs k.whole (map (framed_moved k.at) kept) tree k.keeps (framed_moved k.at f) h_there nl nr num node in (
        free_in_part P k.at part k.whole k.is_part (pair_of P f.goal.clause.0 f.goal.base num)
            (ap (word_at k.whole) (first_moves nl nr num node) ∙ was.0),
        free_in_part P k.at part k.whole k.is_part (suc (pair_of P f.goal.clause.0 f.goal.base num))
            (ap (word_at k.whole) (second_moves nl nr num node) ∙ was.1),
      )

-- ---- Goals that are run

module _ (P : NamedProgram) (loaded : IsLoaded P) (rs : List Reduction) (frames : List Frame) (part : List Ref) (front : List Framed)
    (f : Framed) (back : List Framed) (tree : QueryTree P.program) (k : PartKept P rs frames part (front ++ f ∷ back) tree) where
  abbrev all : List Framed
  all = front ++ f ∷ back

  abbrev M : List Framed → List Framed
  M fs = map (framed_moved k.at) fs

  f_kept : Contains (front ++ f ∷ back) f
  f_kept = middle_has front back f

  split : Kept P rs k.whole (map (framed_moved k.at) front ++ framed_moved k.at f ∷ map (framed_moved k.at) back) tree
  split = subst (λ (l : List Framed). Kept P rs k.whole l tree) (map-append (framed_moved k.at) front (f ∷ back)) k.keeps

  still_framed : (g : Framed) → Contains (front ++ back) g → Contains frames (frame_of_goal P g.goal)
  still_framed g h = k.framed g (middle_more front back f g h)

  -- A comparison that holds is dropped.
  pub comparison_keeps : (r : Relation) (a b u v : Term) → item_at P.program f.goal ≡ arithmetic (compare r a b)
      → IsRead P part f.goal.base a u → IsRead P part f.goal.base b v → is_ground u ≡ true → is_ground v ≡ true
      → holds r u v ≡ true → (l : PartKept P rs frames part (front ++ back) tree) × GrewBeside k.at l.at k.whole l.whole
  comparison_keeps r a b u v item one other first second is_true = (
    record {
      at = k.at;
      whole = k.whole;
      is_part = k.is_part;
      keeps = subst (λ (l : List Framed). Kept P rs k.whole l tree) (sym (map-append (framed_moved k.at) front back))
          (Asking.comparison_keeps P loaded rs k.whole (M front) (framed_moved k.at f) (M back) tree split r a b u v item
          (reads_there P loaded rs frames part all tree k f f_kept a u (left_near P loaded rs frames part all tree k f f_kept r a b item) one first)
          (reads_there P loaded rs frames part all tree k f f_kept b v (right_near P loaded rs frames part all tree k f f_kept r a b item) other second)
          first second is_true);
      fill = k.fill;
      names = k.names;
      moves = k.moves;
      stays = k.stays;
      query = k.query;
      framed = still_framed;
    },
    record { stays = refl; grows = record { longer = omega arith; set = λ p q set. set }; others = λ p nowhere. refl },
  )

  module _ (l r u : Term) (z : ℤ) (nl nr num : ℕ) (item : item_at P.program f.goal ≡ arithmetic (is l r))
      (node : node_item_at P f.goal ≡ Skeletons.is nl nr num) (read : IsRead P part f.goal.base r u) (ground : is_ground u ≡ true)
      (valued : value u ≡ Some z) (written : List Ref)
      (is_written : IsWritten part written (pair_of P f.goal.clause.0 f.goal.base num) z) where
    abbrev clause : ℕ
    clause = f.goal.clause.0

    abbrev pair : ℕ
    pair = pair_of P f.goal.clause.0 f.goal.base num

    abbrev pair_there : ℕ
    pair_there = pair_of P f.goal.clause.0 (k.at f.goal.base) num

    read_whole : IsRead P k.whole (k.at f.goal.base) r u
    read_whole = reads_there P loaded rs frames part all tree k f f_kept r u (value_near P loaded rs frames part all tree k f f_kept l r item) read ground

    whole_kept : Contains (map (framed_moved k.at) front ++ framed_moved k.at f ∷ map (framed_moved k.at) back) (framed_moved k.at f)
    whole_kept = middle_has (M front) (M back) (framed_moved k.at f)

    known : Known (let s = split in s.solved) (is (framed f.frame l) (framed f.frame r)) (more u none)
    known = Running.known_in_tree P loaded.own rs k.whole (M front ++ framed_moved k.at f ∷ M back) tree split (framed_moved k.at f) whole_kept
        (is l r) item (more u none) (read_whole, tt) (one_ground u ground)

    first_there : k.at pair ≡ pair_there
    first_there = first_moves P loaded rs frames part all tree k f f_kept nl nr num node

    second_there : k.at (suc pair) ≡ suc pair_there
    second_there = second_moves P loaded rs frames part all tree k f f_kept nl nr num node

    -- ---- The whole row with the number

    abbrev mid : List Ref
    mid = filled P k.at part k.whole k.is_part written is_written.long

    -- a word of the part is a half now, or as it was
    word_here : (c : ℕ) → ((bits : ℕ) × (word_at written c ≡ Half bits)) ⊎ (word_at written c ≡ word_at part c)
    word_here c = elim (cases_eq c pair) [
      | inl e ↦ inl (_, ap (word_at written) e ∙ is_written.high)
      | inr one ↦ elim (cases_eq c (suc pair)) [
        | inl e ↦ inl (_, ap (word_at written) e ∙ is_written.low)
        | inr other ↦ inr (is_written.others c one other)
      ]
    ]

    together_here : (c : ℕ) → IsTogether P k.at (word_at written c)
    together_here c = elim (word_here c) [
      | inl half ↦ subst (λ (x : Ref). IsTogether P k.at x) (sym half.1) tt
      | inr same ↦ subst (λ (x : Ref). IsTogether P k.at x) (sym same) (let m = k.is_part in m.together c)
    ]

    part_mid : IsPartOf P k.at written (filled P k.at part k.whole k.is_part written is_written.long)
    part_mid = part_filled P k.at part k.whole k.is_part written is_written.long together_here

    mid_length : length mid ≡ length k.whole
    mid_length = filled_length P k.at part k.whole k.is_part written is_written.long

    here : (c : ℕ) → word_at mid (k.at c) ≡ moved k.at (word_at written c)
    here = filled_here P k.at part k.whole k.is_part written is_written.long

    elsewhere : (p : ℕ) → ((c : ℕ) → k.at c ≡ p → ⊥) → word_at mid p ≡ word_at k.whole p
    elsewhere = filled_elsewhere P k.at part k.whole k.is_part written is_written.long

    from : (p : ℕ) → Origin k.at p
    from p = let m = k.is_part in origin k.at m.rises p

    -- a word of the whole row too
    word_there : (p : ℕ) → ((bits : ℕ) × (word_at mid p ≡ Half bits)) ⊎ (word_at mid p ≡ word_at k.whole p)
    word_there p = elim (from p) [
      | inl found ↦ elim (word_here found.0) [
        | inl half ↦ inl (half.0, ap (word_at mid) (sym found.1) ∙ here found.0 ∙ ap (moved k.at) half.1)
        | inr same ↦ inr (ap (word_at mid) (sym found.1) ∙ here found.0 ∙ ap (moved k.at) same
            ∙ sym (let m = k.is_part in m.words found.0) ∙ ap (word_at k.whole) found.1)
      ]
      | inr nowhere ↦ inr (elsewhere p nowhere)
    ]

    set_there : (p : ℕ) → word_at k.whole p ≢ Free → word_at mid p ≢ Free
    set_there p set free = elim (word_there p) [
      | inl half ↦ let e : Half half.0 ≡ Free = sym half.1 ∙ free in cc
      | inr same ↦ set (sym same ∙ free)
    ]

    pub mid_sound : IsSound P (filled P k.at part k.whole k.is_part written is_written.long)
    mid_sound =
        let s = split in
        let sound : IsSound P k.whole = s.sound in
        record {
          fits = λ p. elim (word_there p) [
            | inl half ↦ subst (λ (r : Ref). CanHold P (length mid) p r) (sym half.1) tt
            | inr same ↦ subst (λ (r : Ref). CanHold P (length mid) p r) (sym same)
                (subst (λ (n : ℕ). CanHold P n p (word_at k.whole p)) (sym mid_length) (sound.fits p))
          ];
          written = λ place of_it e. elim (word_there place) [
            | inl half ↦ let d : Half half.0 ≡ Number of_it = sym half.1 ∙ e in absurd (cc)
            | inr same ↦
                let both = sound.written place of_it (sym same ∙ e) in
                (set_there of_it both.0, set_there (suc of_it) both.1)
          ];
          short = let n = mid_length in let m = sound.short in omega arith;
        }

    pub mid_written : IsWritten k.whole (filled P k.at part k.whole k.is_part written is_written.long)
        (pair_of P f.goal.clause.0 (k.at f.goal.base) num) z
    mid_written = record {
      long = mid_length;
      high = ap (word_at mid) (sym first_there) ∙ here pair ∙ ap (moved k.at) is_written.high;
      low = ap (word_at mid) (sym second_there) ∙ here (suc pair) ∙ ap (moved k.at) is_written.low;
      others = λ p one other. elim (from p) [
        | inl found ↦
            let c : ℕ = found.0 in
            let same : word_at written c ≡ word_at part c =
            is_written.others c (λ e. one (sym found.1 ∙ ap k.at e ∙ first_there)) (λ e. other (sym found.1 ∙ ap k.at e ∙ second_there)) in
            ap (word_at mid) (sym found.1) ∙ here c ∙ ap (moved k.at) same ∙ sym (let m = k.is_part in m.words c) ∙ ap (word_at k.whole) found.1
        | inr nowhere ↦ elsewhere p nowhere
      ];
      holds = is_written.holds;
    }

    -- It has a solution, so that it is settled.
    mid_settled : IsSettled P mid
    mid_settled =
        let s = split in
        let g : IsMostGeneral P k.whole (equations_of P k.whole) =
        rows_with_terms_are_solutions P k.whole s.sound ((settled_rows_have_terms P k.whole s.sound).0 s.settled) in
        let solves : Solves g.solution (equations_of P mid) =
        Assigning.to_mid P loaded rs k.whole (M front) (framed_moved k.at f) (M back) tree split l r item u z known valued nl nr num node mid mid_sound
        mid_written g.solution g.most_general.0 in
        record {
          no_circle = λ cell circle. circles_have_no_solution P mid cell g.solution mid_sound circle solves;
          no_half = λ place q cell set no_half holds. elim (bool_cases (is_half (word_at mid cell))) [
            | inl half ↦ absurd (halves_have_no_term P mid place cell q g.solution mid_sound set no_half holds half solves)
            | inr e ↦ e
          ];
        }

    -- ---- The left side

    abbrev asked : List Equation
    asked = (placed f.goal.base l, number z) ∷ []

    asked_there : under (moving k.at) ((placed f.goal.base l, number z) ∷ []) ≡ (placed (k.at f.goal.base) l, number z) ∷ []
    asked_there = ap (λ (x : Term). (x, number z) ∷ [])
        (placed_moved k.at f.goal.base l (assigned_near P loaded rs frames part all tree k f f_kept l r item))

    -- Where the number has no solution with it, the tree is dead,
    pub assignment_fails : (Solvable (equations_of P written ++ (placed f.goal.base l, number z) ∷ []) → ⊥) → Dead tree
    assignment_fails no_solution =
        Asking.assignment_fails P loaded rs k.whole (M front) (framed_moved k.at f) (M back) tree split l r u z nl nr num item node read_whole ground valued
        mid mid_sound mid_written
        (subst (λ (es : List Equation). Solvable (equations_of P mid ++ es) → ⊥) asked_there
        (unsolved_there P k.at written mid asked part_mid no_solution))

    asked_speaks : EquationsSpeakOf (IsWholeCell written) ((placed f.goal.base l, number z) ∷ [])
    asked_speaks =
        let V : Path × ℕ → Type 0 = IsWholeCell written in
        let o = kept_goal P loaded.own rs frames part all tree k f f_kept in
        let of_goal : (v : Path × ℕ) → Contains (variables_of l) v → Contains (variables_of (term_of P.program f.goal)) v = λ v c.
        subst (λ (i : Item). Contains (variables_of (item_term i)) v) (sym item)
        (Contains-append_left (variables_of l) (variables_of r ++ []) v c) in (
          speaks_applied (λ v. Contains (variables_of l) v) V (cells_from f.goal.base) l
              (λ v i. speaks_variable V [] (f.goal.base + 1 + v.1) (
                refl,
                (let w = o.within v (of_goal v i) in let n = is_written.long in omega arith),
                (let below = (term_speaks P loaded.own f.goal v (of_goal v i)).1 in
                    ap is_half (is_written.others (f.goal.base + 1 + v.1) (λ e. omega arith) (λ e. omega arith)) ∙ o.whole v (of_goal v i)),
              )) (λ v i. i),
          nothing_said V,
          tt,
        )

    -- and where they were settled, the branch goes on.
    module _ (new : List Ref) (x : Settled P written new ((placed f.goal.base l, number z) ∷ [])) (names : NamesFrames P frames new) where
      new_length : length new ≡ length part
      new_length = (let y = x.keeps in y.words) ∙ is_written.long

      filled_now : Fill 0 frames (length new)
      filled_now = subst (λ (n : ℕ). Fill 0 frames n) (sym new_length) k.fill

      together_now : NamesTogether P k.at new
      together_now = names_together P k.at frames k.moves new (λ g h. (let w = fill_fits 0 frames (length new) filled_now g h in omega arith)) names

      settled_there : (row : List Ref) × IsPartOf P k.at new row × Settled P mid row (under (moving k.at) ((placed f.goal.base l, number z) ∷ []))
          × ((p : ℕ) → ((c : ℕ) → k.at c ≡ p → ⊥) → word_at row p ≡ word_at mid p)
      settled_there = settling_of_parts P k.at written mid new asked part_mid mid_sound mid_settled asked_speaks x together_now

      -- (the pair was free, so that what was set stays)
      grows_there : Grows k.whole settled_there.0
      grows_there =
          let keeps = settled_there.2.keeps in
          let free = Asking.pair_is_free P rs k.whole (M front ++ framed_moved k.at f ∷ M back) tree split (framed_moved k.at f) whole_kept nl nr num node in
          record {
            longer = let words = keeps.words in let l = mid_length in omega arith;
            set = λ p q set.
                let other : (m : ℕ) → word_at k.whole m ≡ Free → p ≢ m = λ m empty e. set.1 (sym set.0 ∙ ap (word_at k.whole) e ∙ empty) in
                keeps.knows p q (mid_written.others p (other pair_there free.0) (other (suc pair_there) free.1) ∙ set.0, set.1);
          }

      pub assignment_keeps : (l : PartKept P rs frames new (front ++ back) tree) × GrewBeside k.at l.at k.whole l.whole
      assignment_keeps = (
        record {
          at = k.at;
          whole = settled_there.0;
          is_part = settled_there.1;
          keeps = subst (λ (fs : List Framed). Kept P rs settled_there.0 fs tree) (sym (map-append (framed_moved k.at) front back))
              (Asking.assignment_keeps P loaded rs k.whole (M front) (framed_moved k.at f) (M back) tree split l r u z nl nr num item node read_whole ground
              valued mid mid_sound mid_written settled_there.0
              (subst (λ (es : List Equation). Settled P mid settled_there.0 es) asked_there settled_there.2));
          fill = filled_now;
          names = names;
          moves = k.moves;
          stays = k.stays;
          query = k.query;
          framed = still_framed;
        },
        record { stays = refl; grows = grows_there; others = λ p nowhere. settled_there.3 p nowhere ∙ elsewhere p nowhere },
      )
