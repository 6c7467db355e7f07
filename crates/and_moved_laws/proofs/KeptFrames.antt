-- The kept frames of a row, moved down side by side, are part of it.
use Rattle.std.proofs.Common.{ℕ, ◌+◌, ◌≡◌, ◌<◌, ◌≤◌, false, List, [], ◌∷◌, length, map, refl, sym, ap, ◌∙◌, subst, arith}
use Rattle.std.proofs.Common.{Contains}
use Rattle.std.specs.Prelude.{AllPairs}
use Rattle.std.proofs.lemmas.List.Elements.{All-contains}
use Rattle.and_model.specs.Terms.{Path, variables_of}
use Rattle.and_model.specs.Programs.{clause_at}
use Rattle.and_model.specs.Stands.{term_of}
use Rattle.and_model.specs.Store.{Frame, is_half}
use Rattle.and_model.specs.declared.goal.Goal.{Goal}
use Rattle.and_model.specs.declared.reference.Ref.{Ref}
use Rattle.and_model.specs.declared.reference.Ref.TheVariants.{Free, Cell, Node, Number, Half}
use Rattle.and_laws.proofs.Ordered.{contains_first, contains_more}
use Rattle.and_laws.proofs.Pairwise.{all_pairs_first, all_pairs_rest}
use Rattle.and_cells.specs.Ranges.{NamedProgram, CanHold}
use Rattle.and_cells.specs.Rows.{IsSound}
use Rattle.and_cells.specs.Seen.{word_at}
use Rattle.and_cell_laws.proofs.Images.{contains_image}
use Rattle.and_branch_laws.specs.OwnVariables.{OwnVariables}
use Rattle.and_branch_laws.proofs.Naming.{variables_fit}
use Rattle.and_branch_laws.proofs.Owning.{term_speaks}
use Rattle.and_moved_laws.specs.Parts.{IsPartOf, IsGoalOfPart, goal_moved}
use Rattle.and_moved_laws.specs.KeptFrames.{Fill, frame_of_goal, IsInFrame, NamesFrame, NamesFrames, Names}
use Rattle.and_moved_laws.specs.KeptFrames.{IsKept, of_query, of_goal, of_word, AreKept, AreEnough}
use Rattle.and_moved_laws.specs.KeptFrames.{raised, lowered, frame_lowered, side_by_side, MovesWhole, frame_moved}
use Rattle.and_moved_laws.proofs.Moving.{no_lower, within_part, same_half}
use Rattle.and_moved_laws.proofs.Lowering.{LieFrom, LiesInside, IsFound, found, lower_is_part, lower_fill, frame_whole, frame_back, lower_names}
use Rattle.and_moved_laws.proofs.Tiling.{fill_some, fill_fits, fill_apart, fill_tiles}

-- Frames that rise and lie apart lie one behind the other.
lie_from : (low : ℕ) (fs : List Frame) (words : ℕ) → AllPairs (λ (f g : Frame). f.base < g.base) fs
    → ((f : Frame) → Contains fs f → low ≤ f.base) → low ≤ words
    → ((f g : Frame) → Contains fs f → Contains fs g → f.base < g.base → f.base + f.weight ≤ g.base)
    → ((f : Frame) → Contains fs f → f.base + f.weight ≤ words) → LieFrom low fs words
lie_from low [] words rising from short apart within = short
lie_from low (f ∷ fs) words rising from short apart within = (
  from f (contains_first f fs),
  lie_from (f.base + f.weight) fs words (all_pairs_rest (λ (g h : Frame). g.base < h.base) f fs rising)
      (λ g h. apart f g (contains_first f fs) (contains_more f g fs h)
      (All-contains (λ (x : Frame). f.base < x.base) fs g (all_pairs_first (λ (x y : Frame). x.base < y.base) f fs rising) h))
      (within f (contains_first f fs))
      (λ g h i j. apart g h (contains_more f g fs i) (contains_more f h fs j))
      (λ g h. within g (contains_more f g fs h)),
)

-- a kept frame is one of the branch's
pub kept_is_frame : (frames : List Frame) (row : List Ref) (goals : List Goal) (f : Frame) → IsKept frames row goals f → Contains frames f
kept_is_frame frames row goals f (of_query g there e) = there
kept_is_frame frames row goals f (of_goal g goal there among e) = there
kept_is_frame frames row goals f (of_word from g place to kept i names there j) = there

-- The kept frames are enough.
pub kept_are_enough : (frames : List Frame) (row : List Ref) (goals : List Goal) (kept : List Frame) → AreKept frames row goals kept
    → AreEnough frames row goals kept
kept_are_enough frames row goals kept are = record {
  rising = are.rising;
  among = λ f h. kept_is_frame frames row goals f ((are.each f).0 h);
  of_query = λ f there e. (are.each f).1 (of_query f there e);
  of_goals = λ f g there i e. (are.each f).1 (of_goal f g there i e);
  of_words = λ from f place to h i n there j. (are.each f).1 (of_word from f place to ((are.each from).0 h) i n there j);
}

module _ (P : NamedProgram) (row : List Ref) (sound : IsSound P row) (goals : List Goal) (frames : List Frame)
    (fill : Fill 0 frames (length row)) (names : NamesFrames P frames row) (fs : List Frame) (chosen : AreEnough frames row goals fs) where
  is_frame : (f : Frame) → Contains fs f → Contains frames f
  is_frame f h = chosen.among f h

  pub lie : LieFrom 0 fs (length row)
  lie = lie_from 0 fs (length row) chosen.rising (λ f h. omega arith) (omega arith)
      (λ f g h i less. fill_apart 0 frames (length row) fill f g (is_frame f h) (is_frame g i) less)
      (λ f h. fill_fits 0 frames (length row) fill f (is_frame f h))

  -- ---- What is named in a kept frame is kept

  word_kept : (f : Frame) (place to : ℕ) → Contains fs f → IsInFrame place f → Names (word_at row place) to → (g : Frame)
      → Contains frames g → IsInFrame to g → Contains fs g
  word_kept f place to h i n g there j = chosen.of_words f g place to h i n there j

  word_inside : (f : Frame) (place : ℕ) → Contains fs f → IsInFrame place f → (r : Ref) → word_at row place ≡ r
      → NamesFrame P frames r → LiesInside P fs r
  word_inside f place h i Free e n = tt
  word_inside f place h i (Cell cell) e n =
      let fits : cell < place = subst (λ (x : Ref). CanHold P (length row) place x) e (sound.fits place) in
      let low : cell < length row =
      (let w = fill_fits 0 frames (length row) fill f (is_frame f h) in let j = i.1 in omega arith) in
      let (g, there, inside_it) = fill_tiles 0 frames (length row) fill cell (omega arith) low in
      (g, word_kept f place cell h i (subst (λ (x : Ref). Names x cell) (sym e) refl) g there inside_it, inside_it)
  word_inside f place h i (Node node base) e n = (
    n.0,
    word_kept f place base h i (subst (λ (x : Ref). Names x base) (sym e) refl) n.0 n.1 n.3,
    n.2,
    n.3,
    n.4,
  )
  word_inside f place h i (Number pair) e n =
      (n.0, word_kept f place pair h i (subst (λ (x : Ref). Names x pair) (sym e) refl) n.0 n.1 n.2, n.2, n.3)
  word_inside f place h i (Half bits) e n = tt

  pub inside : (f : Frame) (place : ℕ) → Contains fs f → IsInFrame place f → LiesInside P fs (word_at row place)
  inside f place h i = word_inside f place h i (word_at row place) refl (names place)

  -- ---- So these frames, side by side, are part of the row

  pub kept_are_part : IsPartOf P (raised fs (length row)) (side_by_side fs row) row
  kept_are_part = lower_is_part P fs row lie inside

  pub kept_frame_moves : (f : Frame) → Contains fs f → MovesWhole (raised fs (length row)) (frame_lowered fs f)
      × (frame_moved (raised fs (length row)) (frame_lowered fs f) ≡ f)
  kept_frame_moves f h = (
    frame_whole P fs row lie inside f h,
    ap (λ (b : ℕ). record { base = b; weight = f.weight }) (frame_back P fs row lie inside f h (fill_some 0 frames (length row) fill f (is_frame f h))),
  )

  pub kept_names : NamesFrames P (map (frame_lowered fs) fs) (side_by_side fs row)
  kept_names = lower_names P fs row lie inside

  pub kept_fill : Fill 0 (map (frame_lowered fs) fs) (length (side_by_side fs row))
  kept_fill = lower_fill P fs row lie inside (λ f h. fill_some 0 frames (length row) fill f (is_frame f h))

  -- The query's frame stays where it is,
  pub query_stays : (f : Frame) → Contains frames f → f.base ≡ 0 → (n : ℕ) → n < f.weight → raised fs (length row) n ≡ n
  query_stays f there begins n low =
      let h : Contains fs f = chosen.of_query f there begins in
      let one : IsFound fs (length row) f 0 = found 0 fs (length row) lie f h 0 (omega (arith, low)) in
      let other : IsFound fs (length row) f n = found 0 fs (length row) lie f h n low in
      let m = kept_are_part in
      let l = no_lower (raised fs (length row)) m.rises (lowered fs f.base + 0) in
      let at_start = one.1 in
      let there_is = other.1 in
      let same : raised fs (length row) n ≡ raised fs (length row) (lowered fs f.base + n) = ap (raised fs (length row)) (omega arith) in
      omega arith

  -- and each goal can be moved down with its frame.
  module _ (own : OwnVariables P) (g : Goal) (h : Contains goals g) (framed : Contains frames (frame_of_goal P g))
      (whole : (v : Path × ℕ) → Contains (variables_of (term_of P.program g)) v → is_half (word_at row (g.base + 1 + v.1)) ≡ false) where
    frame_kept : Contains fs (frame_of_goal P g)
    frame_kept = chosen.of_goals (frame_of_goal P g) g framed h refl

    base_there : raised fs (length row) (lowered fs g.base) ≡ g.base
    base_there = frame_back P fs row lie inside (frame_of_goal P g) frame_kept (fill_some 0 frames (length row) fill (frame_of_goal P g) framed)

    cell_there : (v : Path × ℕ) → Contains (variables_of (term_of P.program g)) v
        → raised fs (length row) (lowered fs g.base + 1 + v.1) ≡ g.base + 1 + v.1
    cell_there v c =
        let below = (term_speaks P own g v c).1 in
        let fit = variables_fit (clause_at P.program g.clause.0) in
        let one : IsFound fs (length row) (frame_of_goal P g) (1 + v.1) =
        found 0 fs (length row) lie (frame_of_goal P g) frame_kept (1 + v.1) (omega arith) in
        let same : raised fs (length row) (lowered fs g.base + 1 + v.1) ≡ raised fs (length row) (lowered fs g.base + (1 + v.1)) =
        ap (raised fs (length row)) (omega arith) in
        let e = one.1 in
        omega arith

    pub goal_of_part : IsGoalOfPart P (raised fs (length row)) (side_by_side fs row) (goal_moved (lowered fs) g)
    goal_of_part = record {
      within = λ v c. within_part P (raised fs (length row)) (side_by_side fs row) row kept_are_part (lowered fs g.base + 1 + v.1) (
          let e = cell_there v c in
          let below = (term_speaks P own g v c).1 in
          let fit = variables_fit (clause_at P.program g.clause.0) in
          let w = fill_fits 0 frames (length row) fill (frame_of_goal P g) framed in
          omega arith);
      whole = λ v c.
          sym (same_half P (raised fs (length row)) (side_by_side fs row) row kept_are_part (lowered fs g.base + 1 + v.1))
          ∙ ap (λ (p : ℕ). is_half (word_at row p)) (cell_there v c) ∙ whole v c;
      together = λ v c. (let e = cell_there v c in let b = base_there in omega arith);
    }

    pub goal_back : goal_moved (raised fs (length row)) (goal_moved (lowered fs) g) ≡ g
    goal_back = ap (λ (b : ℕ). record { node = g.node; item = g.item; clause = g.clause; base = b }) base_there

    pub goal_frame_there : Contains (map (frame_lowered fs) fs) (frame_of_goal P (goal_moved (lowered fs) g))
    goal_frame_there = contains_image (frame_lowered fs) fs (frame_of_goal P g) frame_kept
