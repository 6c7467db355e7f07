-- What a branch keeps whose row is part of its whole one.
use Rattle.std.proofs.Common.{ℕ, ◌+◌, ◌≡◌, ◌<◌, List, [], ◌∷◌, length, map, refl, sym, ap, ◌∙◌, subst, inl, arith}
use Rattle.std.proofs.Common.{Contains}
use Rattle.and_model.specs.Terms.{Path, variables_of}
use Rattle.and_model.specs.Programs.{clause_at, clause_weight}
use Rattle.and_model.specs.Trees.{QueryTree}
use Rattle.and_model.specs.Reductions.{Reduction}
use Rattle.and_model.specs.Stands.{Framed, term_of}
use Rattle.and_model.specs.Store.{Frame, is_half}
use Rattle.and_model.specs.declared.goal.Goal.{Goal}
use Rattle.and_model.specs.declared.reference.Ref.{Ref}
use Rattle.and_cells.specs.Ranges.{NamedProgram}
use Rattle.and_cells.specs.Rows.{IsSound}
use Rattle.and_cells.specs.Seen.{word_at}
use Rattle.and_cell_laws.proofs.Images.{contains_image, contains_origin}
use Rattle.and_laws.proofs.Ordered.{contains_first, contains_more}
use Rattle.and_branch_laws.specs.OwnVariables.{OwnVariables}
use Rattle.and_branch_laws.specs.Kept.{Kept, goal_of}
use Rattle.and_branch_laws.proofs.Asking
use Rattle.and_branch_laws.proofs.Naming.{variables_fit}
use Rattle.and_branch_laws.proofs.Owning.{term_speaks}
use Rattle.and_moved_laws.specs.Parts.{IsGoalOfPart, goal_moved, framed_moved}
use Rattle.and_moved_laws.specs.KeptFrames.{AreFrames, Fill, frame_of_goal, NamesFrames, AreEnough, raised, lowered, frame_lowered, side_by_side}
use Rattle.and_moved_laws.specs.KeptParts.{PartKept}
use Rattle.and_moved_laws.proofs.Moving.{no_lower, same_half}
use Rattle.and_moved_laws.proofs.Composing.{staying, part_of_itself, part_of_part}
use Rattle.and_moved_laws.proofs.Standing.{sound_part}
use Rattle.and_moved_laws.proofs.Tiling.{fill_some, fill_fits, tree_filled, goal_framed}
use Rattle.and_moved_laws.proofs.KeptFrames.{kept_are_part, kept_frame_moves, kept_fill, kept_names, query_stays, goal_back, goal_frame_there}

-- ---- A branch with all its frames

pub stays_framed : (kept : List Framed) → map (framed_moved staying) kept ≡ kept
stays_framed [] = refl
stays_framed (f ∷ kept) = ap (λ (l : List Framed). f ∷ l) (stays_framed kept)

-- Its row is part of itself.
pub whole_kept : (P : NamedProgram) → OwnVariables P → (rs : List Reduction) (row : List Ref) (kept : List Framed) (tree : QueryTree P.program)
    → Kept P rs row kept tree → (frames : List Frame) → AreFrames P rs frames → NamesFrames P frames row → PartKept P rs frames row kept tree
whole_kept P own rs row kept tree k frames all names = record {
  at = staying;
  whole = row;
  is_part = part_of_itself P row;
  keeps = subst (λ (l : List Framed). Kept P rs row l tree) (sym (stays_framed kept)) k;
  fill = subst (λ (n : ℕ). Fill 0 frames n) (sym k.long) (tree_filled P rs tree k.made frames all);
  names = names;
  moves = λ f h n less. refl;
  stays = refl;
  query = (all.each (record { base = 0; weight = clause_weight P.program.query })).1 (0, inl (refl, refl), refl);
  framed = λ f h. goal_framed P own rs row kept tree k frames all f h;
}

module _ (P : NamedProgram) (own : OwnVariables P) (rs : List Reduction) (frames : List Frame) (part : List Ref) (kept : List Framed)
    (tree : QueryTree P.program) (k : PartKept P rs frames part kept tree) where
  -- ---- Its goals

  pub whole_sound : IsSound P k.whole
  whole_sound = let w = k.keeps in w.sound

  pub part_sound : IsSound P part
  part_sound = sound_part P k.at part k.whole k.is_part whole_sound

  -- the cell of a goal's variable
  cell_moved : (f : Framed) → Contains kept f → (v : Path × ℕ) → Contains (variables_of (term_of P.program f.goal)) v
      → (f.goal.base + 1 + v.1 < length part) × (k.at (f.goal.base + 1 + v.1) ≡ k.at f.goal.base + 1 + v.1)
  cell_moved f h v c =
      let there : Contains frames (frame_of_goal P f.goal) = k.framed f h in
      let below = (term_speaks P own f.goal v c).1 in
      let fit = variables_fit (clause_at P.program f.goal.clause.0) in
      let within = fill_fits 0 frames (length part) k.fill (frame_of_goal P f.goal) there in
      let moves = k.moves (frame_of_goal P f.goal) there (1 + v.1) (omega arith) in
      let same : k.at (f.goal.base + 1 + v.1) ≡ k.at (f.goal.base + (1 + v.1)) = ap k.at (omega arith) in
      (omega arith, omega arith)

  -- Each can be moved with the part.
  pub kept_goal : (f : Framed) → Contains kept f → IsGoalOfPart P k.at part f.goal
  kept_goal f h = record {
    within = λ v c. (cell_moved f h v c).0;
    whole = λ v c.
        sym (same_half P k.at part k.whole k.is_part (f.goal.base + 1 + v.1))
        ∙ ap (λ (p : ℕ). is_half (word_at k.whole p)) (cell_moved f h v c).1
        ∙ Asking.goal_cells_whole P own rs k.whole (map (framed_moved k.at) kept) tree k.keeps (framed_moved k.at f)
        (contains_image (framed_moved k.at) kept f h) v c;
    together = λ v c. (cell_moved f h v c).1;
  }

  -- The query's frame stays where it is.
  pub query_there : (n : ℕ) → n < P.program.query.variables → k.at (0 + 1 + n) ≡ 0 + 1 + n
  query_there n low =
      let fit = variables_fit P.program.query in
      let moves = k.moves (record { base = 0; weight = clause_weight P.program.query }) k.query (1 + n) (omega arith) in
      let start = k.stays in
      let same : k.at (0 + 1 + n) ≡ k.at (0 + (1 + n)) = ap k.at (omega arith) in
      omega arith

  -- ---- Frames are dropped

  module _ (chosen : List Frame) (are : AreEnough frames part (map goal_of kept) chosen) where
    abbrev up : ℕ → ℕ
    up p = raised chosen (length part) p

    there : (f : Framed) → Contains kept f → (goal_moved (raised chosen (length part)) (goal_moved (lowered chosen) f.goal) ≡ f.goal)
        × Contains (map (frame_lowered chosen) chosen) (frame_of_goal P (goal_moved (lowered chosen) f.goal))
    there f h =
        let among : Contains (map goal_of kept) f.goal = contains_image goal_of kept f h in
        let g : IsGoalOfPart P k.at part f.goal = kept_goal f h in (
          goal_back P part part_sound (map goal_of kept) frames k.fill k.names chosen are own f.goal among (k.framed f h) g.whole,
          goal_frame_there P part part_sound (map goal_of kept) frames k.fill k.names chosen are own f.goal among (k.framed f h) g.whole,
        )

    again : (fs : List Framed) → ((f : Framed) → Contains fs f → Contains kept f)
        → map (framed_moved (λ p. k.at (up p))) (map (framed_moved (lowered chosen)) fs) ≡ map (framed_moved k.at) fs
    again [] h = refl
    again (f ∷ fs) h =
        let first : framed_moved (λ p. k.at (up p)) (framed_moved (lowered chosen) f) ≡ framed_moved k.at f =
        ap (λ (g : Goal). record { goal = goal_moved k.at g; frame = f.frame }) (there f (h f (contains_first f fs))).0 in
        ap (λ (g : Framed). g ∷ map (framed_moved (λ p. k.at (up p))) (map (framed_moved (lowered chosen)) fs)) first
        ∙ ap (λ (l : List Framed). framed_moved k.at f ∷ l) (again fs (λ g i. h g (contains_more f g fs i)))

    query_chosen : Contains chosen (record { base = 0; weight = clause_weight P.program.query })
    query_chosen =
        let q : Frame = record { base = 0; weight = clause_weight P.program.query } in
        are.of_query q k.query refl

    chosen_frame : (f : Frame) → Contains chosen f → Contains frames f
    chosen_frame f h = are.among f h

    query_lowered : lowered chosen 0 ≡ 0
    query_lowered =
        let q : Frame = record { base = 0; weight = clause_weight P.program.query } in
        let back = (kept_frame_moves P part part_sound (map goal_of kept) frames k.fill k.names chosen are q query_chosen).1 in
        let start : up (lowered chosen 0) ≡ 0 = ap (λ (f : Frame). f.base) back in
        let m = kept_are_part P part part_sound (map goal_of kept) frames k.fill k.names chosen are in
        let low = no_lower (raised chosen (length part)) m.rises (lowered chosen 0) in
        omega arith

    -- The branch keeps what it kept, of fewer frames of the same whole row.
    abbrev dropped : PartKept P rs (map (frame_lowered chosen) chosen) (side_by_side chosen part) (map (framed_moved (lowered chosen)) kept) tree
    dropped = record {
      at = λ p. k.at (up p);
      whole = k.whole;
      is_part = part_of_part P (raised chosen (length part)) k.at (side_by_side chosen part) part k.whole
          (kept_are_part P part part_sound (map goal_of kept) frames k.fill k.names chosen are) k.is_part;
      keeps = subst (λ (l : List Framed). Kept P rs k.whole l tree) (sym (again kept (λ f h. h))) k.keeps;
      fill = kept_fill P part part_sound (map goal_of kept) frames k.fill k.names chosen are;
      names = kept_names P part part_sound (map goal_of kept) frames k.fill k.names chosen are;
      moves = λ f h n less.
          let (g, in_chosen, is) = contains_origin (frame_lowered chosen) chosen f h in
          let both = kept_frame_moves P part part_sound (map goal_of kept) frames k.fill k.names chosen are g in_chosen in
          let begins : up (lowered chosen g.base) ≡ g.base = ap (λ (x : Frame). x.base) both.1 in
          let base : f.base ≡ lowered chosen g.base = ap (λ (x : Frame). x.base) is in
          let weighs : f.weight ≡ g.weight = ap (λ (x : Frame). x.weight) is in
          let inside = both.0 n (omega arith) in
          let was = k.moves g (chosen_frame g in_chosen) n (omega arith) in
          let one : k.at (up (f.base + n)) ≡ k.at (g.base + n) =
          ap k.at (ap (λ (b : ℕ). up (b + n)) base ∙ inside ∙ ap (λ (b : ℕ). b + n) begins) in
          let other : k.at (up f.base) ≡ k.at g.base = ap k.at (ap up base ∙ begins) in
          omega arith;
      stays = ap k.at (query_stays P part part_sound (map goal_of kept) frames k.fill k.names chosen are
          (record { base = 0; weight = clause_weight P.program.query }) k.query refl 0
          (fill_some 0 frames (length part) k.fill (record { base = 0; weight = clause_weight P.program.query }) k.query)) ∙ k.stays;
      query = subst (λ (b : ℕ). Contains (map (frame_lowered chosen) chosen) (record { base = b; weight = clause_weight P.program.query })) query_lowered
          (contains_image (frame_lowered chosen) chosen (record { base = 0; weight = clause_weight P.program.query }) query_chosen);
      framed = λ f h.
          let (g, in_kept, is) = contains_origin (framed_moved (lowered chosen)) kept f h in
          subst (λ (x : Framed). Contains (map (frame_lowered chosen) chosen) (frame_of_goal P x.goal)) (sym is) (there g in_kept).1;
    }

    pub dropped_kept : (l : PartKept P rs (map (frame_lowered chosen) chosen) (side_by_side chosen part) (map (framed_moved (lowered chosen)) kept) tree)
        × (l.whole ≡ k.whole) × ((p : ℕ) → l.at p ≡ k.at (raised chosen (length part) p))
    dropped_kept = (dropped, refl, λ p. refl)
