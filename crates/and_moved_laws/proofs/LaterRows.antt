-- What a row from which frames were dropped grows to is part of what the row before grows to.
use Rattle.std.proofs.Common.{ℕ, ◌+◌, ◌-◌, ◌≡◌, List, [], ◌∷◌, ◌++◌, length, map, refl, sym, ap, ◌∙◌, subst, inl, inr, arith}
use Rattle.std.proofs.Common.{Contains}
use Rattle.std.proofs.lemmas.List.Elements.{Contains-append_left, Contains-append_right, Contains-append_cases}
use Rattle.and_model.specs.Trees.{QueryTree}
use Rattle.and_model.specs.Reductions.{Reduction}
use Rattle.and_model.specs.Stands.{Framed}
use Rattle.and_model.specs.Store.{Frame}
use Rattle.and_model.specs.declared.reference.Ref.{Ref}
use Rattle.and_model.specs.declared.reference.Ref.TheVariants.{Free, Cell, Node, Number, Half}
use Rattle.and_cells.specs.Ranges.{NamedProgram}
use Rattle.and_cells.specs.Rows.{IsSound}
use Rattle.and_cells.specs.Seen.{word_at, Grows}
use Rattle.and_cell_laws.proofs.Images.{contains_image, contains_origin}
use Rattle.and_branch_laws.specs.OwnVariables.{OwnVariables}
use Rattle.and_branch_laws.specs.Kept.{goal_of}
use Rattle.and_branch_laws.specs.Settling.{widened}
use Rattle.and_branch_laws.proofs.Rows.{widened_words}
use Rattle.and_branch_laws.proofs.Widening.{widened_length}
use Rattle.and_moved_laws.specs.Parts.{moved, IsTogether, IsPartOf}
use Rattle.and_moved_laws.specs.KeptFrames.{Fill, NamesFrames, AreEnough, raised, frame_lowered, side_by_side, MovesWhole, frame_moved}
use Rattle.and_moved_laws.specs.KeptParts.{PartKept, GrewBeside}
use Rattle.and_moved_laws.proofs.Composing.{moved_twice, part_widened}
use Rattle.and_moved_laws.proofs.Filling.{Origin, origin, filled, filled_length, filled_here, filled_elsewhere, part_filled}
use Rattle.and_moved_laws.proofs.Frames.{names_together, names_later}
use Rattle.and_moved_laws.proofs.KeptFrames.{kept_are_part, kept_frame_moves, kept_fill}
use Rattle.and_moved_laws.proofs.KeptParts.{part_sound}
use Rattle.and_moved_laws.proofs.Moving.{one_origin}
use Rattle.and_moved_laws.proofs.Naming.{more_frames, widened_names}
use Rattle.and_moved_laws.proofs.Tiling.{fill_behind, fill_fits}

-- ---- Frames behind others

fill_rest : (from : ℕ) (fs more : List Frame) (seam words : ℕ) → Fill from fs seam → Fill from (fs ++ more) words → Fill seam more words
fill_rest from [] more seam words x y = subst (λ (n : ℕ). Fill n more words) x y
fill_rest from (f ∷ fs) more seam words x y = fill_rest (from + f.weight) fs more seam words x.2 y.2

fill_join : (from : ℕ) (fs more : List Frame) (seam words : ℕ) → Fill from fs seam → Fill seam more words → Fill from (fs ++ more) words
fill_join from [] more seam words x y = subst (λ (n : ℕ). Fill n more words) (sym x) y
fill_join from (f ∷ fs) more seam words x y = (x.0, x.1, fill_join (from + f.weight) fs more seam words x.2 y)

-- Frames that fill what is behind one row, moved behind another one.
fill_moved : (at : ℕ → ℕ) (here there : ℕ) → ((k : ℕ) → at (here + k) ≡ there + k) → (past : ℕ) (fs : List Frame) (words : ℕ)
    → Fill (here + past) fs (here + words) → Fill (there + past) (map (frame_moved at) fs) (there + words)
fill_moved at here there beyond past [] words x = let e : here + past ≡ here + words = x in omega arith
fill_moved at here there beyond past (f ∷ fs) words x =
    let e = x.0 in
    let begins : at f.base ≡ there + past = ap at e ∙ beyond past in (
      begins,
      x.1,
      subst (λ (n : ℕ). Fill n (map (frame_moved at) fs) (there + words)) (omega arith)
          (fill_moved at here there beyond (past + f.weight) fs words (subst (λ (n : ℕ). Fill n fs (here + words)) (omega arith) x.2)),
    )

-- What was moved together by two maps, one behind the other, was so by the second.
together_apart : (P : NamedProgram) (inner outer : ℕ → ℕ) (r : Ref) → IsTogether P inner r → IsTogether P (λ (p : ℕ). outer (inner p)) r
    → IsTogether P outer (moved inner r)
together_apart P inner outer Free i b = tt
together_apart P inner outer (Cell cell) i b = tt
together_apart P inner outer (Node node base) i b = λ v c. ap outer (sym (i v c)) ∙ b v c
together_apart P inner outer (Number pair) i b = ap outer (sym i) ∙ b
together_apart P inner outer (Half bits) i b = tt

-- ---- Rows

module _ (P : NamedProgram) (own : OwnVariables P) (rs : List Reduction) (frames : List Frame) (part : List Ref) (kept : List Framed)
    (tree : QueryTree P.program) (k : PartKept P rs frames part kept tree) (chosen : List Frame)
    (enough : AreEnough frames part (map goal_of kept) chosen) (later whole : List Ref) (more : List Frame)
    (inside : IsPartOf P (λ (p : ℕ). k.at (raised chosen (length part) p)) later whole)
    (grew : GrewBeside (λ (p : ℕ). k.at (raised chosen (length part) p)) (λ (p : ℕ). k.at (raised chosen (length part) p)) k.whole whole)
    (grows : Grows (side_by_side chosen part) later) (fill : Fill 0 (map (frame_lowered chosen) chosen ++ more) (length later))
    (names : NamesFrames P (map (frame_lowered chosen) chosen ++ more) later) where
  abbrev up : ℕ → ℕ
  up p = raised chosen (length part) p

  abbrev small : List Ref
  small = side_by_side chosen part

  abbrev low : List Frame
  low = map (frame_lowered chosen) chosen

  abbrev by : ℕ
  by = length later - length small

  sound : IsSound P part
  sound = part_sound P own rs frames part kept tree k

  small_part : IsPartOf P (raised chosen (length part)) (side_by_side chosen part) part
  small_part = kept_are_part P part sound (map goal_of kept) frames k.fill k.names chosen enough

  later_length : length later ≡ length small + by
  later_length = let l = grows.longer in omega arith

  -- The row before, with as many words more,
  wide_part : IsPartOf P (raised chosen (length part)) (widened (side_by_side chosen part) by) (widened part by)
  wide_part = part_widened P (raised chosen (length part)) small part by small_part

  long : length later ≡ length (widened (side_by_side chosen part) by)
  long = later_length ∙ sym (widened_length small by)

  -- and the words of the later row where they come from.
  abbrev larger : List Ref
  larger = filled P (raised chosen (length part)) (widened (side_by_side chosen part) by) (widened part by) wide_part later long

  larger_length : length larger ≡ length part + by
  larger_length = filled_length P up (widened small by) (widened part by) wide_part later long ∙ widened_length part by

  low_fill : Fill 0 (map (frame_lowered chosen) chosen) (length small)
  low_fill = kept_fill P part sound (map goal_of kept) frames k.fill k.names chosen enough

  more_fill : Fill (length small) more (length later)
  more_fill = fill_rest 0 low more (length small) (length later) low_fill fill

  -- ---- Each frame was moved whole

  moves_up : (f : Frame) → Contains (map (frame_lowered chosen) chosen ++ more) f → MovesWhole (raised chosen (length part)) f
  moves_up f h = elim (Contains-append_cases low more f h) [
    | inl i ↦
        let (g, there, is) = contains_origin (frame_lowered chosen) chosen f i in
        subst (λ (x : Frame). MovesWhole up x) (sym is)
        (kept_frame_moves P part sound (map goal_of kept) frames k.fill k.names chosen enough g there).0
    | inr i ↦ λ n less.
        let behind = fill_behind (length small) more (length later) more_fill f i in
        let one = let m = small_part in m.beyond (f.base - length small) in
        let other = let m = small_part in m.beyond (f.base - length small + n) in
        let base : up f.base ≡ up (length small + (f.base - length small)) = ap up (omega arith) in
        let place : up (f.base + n) ≡ up (length small + (f.base - length small + n)) = ap up (omega arith) in
        omega arith
  ]

  together_up : (p : ℕ) → IsTogether P (raised chosen (length part)) (word_at later p)
  together_up =
      let t = names_together P up (low ++ more) moves_up later
      (λ f h. (let l = fill_fits 0 (low ++ more) (length later) fill f h in omega arith)) names in
      t.together

  later_part : IsPartOf P (raised chosen (length part)) later larger
  later_part = part_filled P up (widened small by) (widened part by) wide_part later long together_up

  here : (c : ℕ) → word_at larger (up c) ≡ moved up (word_at later c)
  here = filled_here P up (widened small by) (widened part by) wide_part later long

  elsewhere : (p : ℕ) → ((c : ℕ) → up c ≡ p → ⊥) → word_at larger p ≡ word_at part p
  elsewhere p nowhere = filled_elsewhere P up (widened small by) (widened part by) wide_part later long p nowhere ∙ widened_words part by p

  from : (p : ℕ) → Origin up p
  from p = let m = small_part in origin up m.rises p

  -- ---- It is part of the whole row

  whole_length : length whole ≡ length k.whole + by
  whole_length =
      let m = k.is_part in
      let s = small_part in
      let ends = inside.beyond 0 in
      let there = s.beyond by in
      let last = m.beyond by in
      let one : k.at (up (length later + 0)) ≡ k.at (up (length small + by)) = ap (λ (n : ℕ). k.at (up n)) (omega (arith, later_length)) in
      let other : k.at (up (length small + by)) ≡ k.at (length part + by) = ap k.at there in
      omega arith

  larger_part : IsPartOf P k.at larger whole
  larger_part =
      let m = k.is_part in record {
        rises = m.rises;
        beyond = λ n.
            let there = m.beyond (by + n) in
            let l = larger_length in
            let w = whole_length in
            let same : k.at (length larger + n) ≡ k.at (length part + (by + n)) = ap k.at (omega arith) in
            omega arith;
        words = λ p. elim (from p) [
          | inl found ↦
              subst (λ (x : ℕ). word_at whole (k.at x) ≡ moved k.at (word_at larger x)) found.1
              (inside.words found.0 ∙ sym (moved_twice P up k.at (word_at later found.0)) ∙ ap (moved k.at) (sym (here found.0)))
          | inr nowhere ↦
              grew.others (k.at p) (λ c e. nowhere c (one_origin k.at m.rises (up c) p e))
              ∙ m.words p ∙ ap (moved k.at) (sym (elsewhere p nowhere))
        ];
        together = λ p. elim (from p) [
          | inl found ↦
              subst (λ (x : ℕ). IsTogether P k.at (word_at larger x)) found.1
              (subst (λ (r : Ref). IsTogether P k.at r) (sym (here found.0))
              (together_apart P up k.at (word_at later found.0) (together_up found.0) (inside.together found.0)))
          | inr nowhere ↦ subst (λ (r : Ref). IsTogether P k.at r) (sym (elsewhere p nowhere)) (m.together p)
        ];
      }

  larger_grew : GrewBeside k.at k.at k.whole whole
  larger_grew = record { stays = refl; grows = grew.grows; others = λ p nowhere. grew.others p (λ c e. nowhere (up c) e) }

  -- ---- It grew from the row before

  larger_grows : Grows part larger
  larger_grows = record {
    longer = let l = larger_length in omega arith;
    set = λ p r set. elim (from p) [
      | inl found ↦
          let c : ℕ = found.0 in
          let m = small_part in
          let was : moved up (word_at small c) ≡ r = sym (m.words c) ∙ ap (word_at part) found.1 ∙ set.0 in
          let still = grows.set c (word_at small c) (refl, λ free. set.1 (sym was ∙ ap (moved up) free)) in
          (ap (word_at larger) (sym found.1) ∙ here c ∙ ap (moved up) still.0 ∙ was, set.1)
      | inr nowhere ↦ (elsewhere p nowhere ∙ set.0, set.1)
    ];
  }

  -- ---- Its frames

  abbrev others : List Frame
  others = map (frame_moved (raised chosen (length part))) more

  larger_fill : Fill 0 (frames ++ map (frame_moved (raised chosen (length part))) more) (length larger)
  larger_fill =
      let m = small_part in
      let behind : Fill (length small + 0) more (length small + by) =
      subst (λ (n : ℕ). Fill n more (length small + by)) (omega arith) (subst (λ (n : ℕ). Fill (length small) more n) later_length more_fill) in
      let there : Fill (length part + 0) others (length part + by) = fill_moved up (length small) (length part) m.beyond 0 more by behind in
      fill_join 0 frames others (length part) (length larger) k.fill
      (subst (λ (n : ℕ). Fill n others (length larger)) (omega arith) (subst (λ (n : ℕ). Fill (length part + 0) others n) (sym larger_length) there))

  larger_names : NamesFrames P (frames ++ map (frame_moved (raised chosen (length part))) more) larger
  larger_names =
      let all : List Frame = frames ++ others in
      names_later P up (low ++ more) moves_up all later (widened part by) larger
      (λ f h. elim (Contains-append_cases low more f h) [
        | inl i ↦
            let (g, there, is) = contains_origin (frame_lowered chosen) chosen f i in
            let back = (kept_frame_moves P part sound (map goal_of kept) frames k.fill k.names chosen enough g there).1 in
            subst (λ (x : Frame). Contains all (frame_moved up x)) (sym is)
            (subst (λ (x : Frame). Contains all x) (sym back) (Contains-append_left frames others g (enough.among g there)))
        | inr i ↦ Contains-append_right frames others (frame_moved up f) (contains_image (frame_moved up) more f i)
      ])
      later_part (filled_elsewhere P up (widened small by) (widened part by) wide_part later long) names
      (more_frames P frames all (widened part by) (λ f h. Contains-append_left frames others f h) (widened_names P frames part by k.names))

  -- ---- So there is such a row

  pub larger_row : (row : List Ref) × (behind : List Frame) × IsPartOf P (raised chosen (length part)) later row × IsPartOf P k.at row whole
      × GrewBeside k.at k.at k.whole whole × Grows part row × Fill 0 (frames ++ behind) (length row) × NamesFrames P (frames ++ behind) row
  larger_row = (larger, others, later_part, larger_part, larger_grew, larger_grows, larger_fill, larger_names)
