-- Paths through cells and parts: what they hold, where they close, and that none closes where all ends.
use Rattle.std.proofs.Common.{ℕ, zero, suc, ◌≡◌, ◌≢◌, ◌<◌, ◌≤◌, ◌+◌, pos, ◌⊎◌, inl, inr, Bool, List, [], ◌∷◌, length, Some, refl, ap, sym, subst, ◌∙◌, arith}
use Rattle.std.proofs.Common.{true, false}
use Rattle.std.specs.Prelude.{Contains}
use Rattle.std.proofs.lemmas.Bool.{cases_lt}
use Rattle.std.proofs.lemmas.Option.{slice_get-get_or}
use Rattle.std.proofs.lemmas.List.Elements.{All-contains}
use Rattle.and_model.specs.Store.{is_half}
use Rattle.and_model.specs.declared.numbers.NodeNo.{NodeNo}
use Rattle.and_model.specs.declared.reference.Ref.{Ref}
use Rattle.and_model.specs.declared.reference.Ref.TheVariants.{Free, Cell, Node, Number, Half}
use Rattle.and_program.specs.Skeletons
use Rattle.and_program.specs.Skeletons.{AllFall}
use Rattle.and_program.specs.Loaded.{shape_at, arguments_at}
use Rattle.and_cells.specs.Ranges.{NamedProgram, IsNoVariable, IsInRange, CanHold}
use Rattle.and_cells.specs.Seen.{word_at, IsSetTo, LeadsTo, here, onward}
use Rattle.and_cells.specs.Rows.{plain, IsSound}
use Rattle.and_cells.specs.Meaning
use Rattle.and_cells.specs.Meaning.{Holds, IsCircle}
use Rattle.and_cells.specs.Parts.{part_at, parts_of}
use Rattle.and_cells.specs.Ends.{Ends}
use Rattle.and_cells.proofs.References.{nothing_below}
use Rattle.and_cells.proofs.Among.{among_none, among_cases, among_map}
use Rattle.and_circles.specs.Walks.{IsStep}
use Rattle.and_circles.proofs.Parts.{Variable, variables_at, falls, gives_variables, own_variable, resolved_cases, no_variable, step_holds, step_in_range}

-- From one reference another is reached, by steps.
pub data Path (P : NamedProgram) (row : List Ref) : Ref → Ref → Type 0 where
  arrived : (r : Ref) → Path P row r r
  goes : (from next to : Ref) → IsStep P row from next → Path P row next to → Path P row from to

-- behind the row all words count as free
word_past : (row : List Ref) (cell : ℕ) → length row ≤ cell → word_at row cell ≡ Free
word_past [] cell above = refl
word_past (w ∷ row) zero above = absurd (omega arith)
word_past (w ∷ row) (suc cell) above = word_past row cell (omega arith)

-- a reference is a half, or none
pub half_or_whole : (r : Ref) → (is_half r ≡ true) ⊎ (is_half r ≡ false)
half_or_whole Free = inr refl
half_or_whole (Cell cell) = inr refl
half_or_whole (Node node base) = inr refl
half_or_whole (Number pair) = inr refl
half_or_whole (Half bits) = inl refl

module _ (P : NamedProgram) (row : List Ref) where
  -- two paths, one behind the other
  pub joined : (from mid to : Ref) → Path P row from mid → Path P row mid to → Path P row from to
  joined from mid to (arrived r) second = second
  joined from mid to (goes a next b step first) second = goes a next to step (joined next b to first second)

  -- a path and one step more
  pub and_step : (from mid to : Ref) → Path P row from mid → IsStep P row mid to → Path P row from to
  and_step from mid to path step = joined from mid to path (goes mid to to step (arrived to))

  -- a path has a first step, or stays where it is
  pub first_step : (from to : Ref) → Path P row from to → (from ≡ to) ⊎ ((next : Ref) × IsStep P row from next × Path P row next to)
  first_step from to (arrived r) = inl refl
  first_step from to (goes a next b step rest) = inr (next, step, rest)

  -- no step leads from a half
  no_step_from_half : (r to : Ref) → is_half r ≡ true → IsStep P row r to → ⊥
  no_step_from_half Free to half step = step
  no_step_from_half (Cell cell) to half step = absurd (cc)
  no_step_from_half (Node node base) to half step = absurd (cc)
  no_step_from_half (Number pair) to half step = step
  no_step_from_half (Half bits) to half step = step

  -- a half leads nowhere
  pub half_stays : (r to : Ref) → is_half r ≡ true → Path P row r to → is_half to ≡ true
  half_stays r to half (arrived a) = half
  half_stays r to half (goes a next b step rest) = absurd (no_step_from_half a next half step)

  -- a ring may be entered one step later
  pub turned : (from next : Ref) → IsStep P row from next → Path P row next from → (after : Ref) × IsStep P row next after × Path P row after next
  turned from next step (arrived r) = (r, step, arrived r)
  turned from next step (goes a after b first rest) = (after, first, and_step after b a rest step)

  -- what ends is on no ring
  pub on_no_ring : (halves : Bool) (r : Ref) → Ends P row 0 halves r → (next : Ref) → IsStep P row r next → Path P row next r → ⊥
  on_no_ring halves r (Ends.low a below) next step path = nothing_below a below
  on_no_ring halves r (Ends.free cell free) next step path = step.1 (sym step.0 ∙ free)
  on_no_ring halves r (Ends.half cell may is) next step path =
      let whole : false ≡ true = half_stays next (Cell cell) (ap is_half (sym step.0) ∙ is) path in absurd (cc)
  on_no_ring halves r (Ends.set cell to is_set ends) next step path =
      let same : next ≡ to = sym step.0 ∙ is_set.0 in
      let w : (after : Ref) × IsStep P row to after × Path P row after to =
      turned (Cell cell) to is_set (subst (λ (q : Ref). Path P row q (Cell cell)) same path) in
      on_no_ring halves to ends w.0 w.1 w.2
  on_no_ring halves r (Ends.parts node base all) next step path =
      let w : (after : Ref) × IsStep P row next after × Path P row after next = turned (Node node base) next step path in
      on_no_ring halves next (all next step) w.0 w.1 w.2
  on_no_ring halves r (Ends.number pair) next step path = step

  -- a chain is a path
  pub of_leads : (r to : Ref) → LeadsTo (plain row) r to → Path P row r to
  of_leads r to (here a) = arrived a
  of_leads r to (onward cell next b known rest) = goes (Cell cell) next b known (of_leads next b rest)

  -- what holds a cell is no half
  pub holds_whole : (r : Ref) (c : ℕ) → Holds P row r c → is_half r ≡ false
  holds_whole r c (Meaning.here cell) = refl
  holds_whole r c (Meaning.onward start next cell is_set rest) = refl
  holds_whole r c (Meaning.inside node base v cell in_term rest) = refl

module _ (P : NamedProgram) (fall : AllFall 0 P.skeleton.nodes) (row : List Ref) (sound : IsSound P row) where
  -- a path from what is in range leads to what is in range, unless to a half
  pub path_in_range : (r to : Ref) → Path P row r to → IsInRange P (length row) r → is_half to ≡ false → IsInRange P (length row) to
  path_in_range r to (arrived a) fits whole = fits
  path_in_range r to (goes a next b step rest) fits whole = by_kind (path_in_range next b rest) (half_or_whole next)
    where
      by_kind : (IsInRange P (length row) next → is_half to ≡ false → IsInRange P (length row) to) → (is_half next ≡ true) ⊎ (is_half next ≡ false)
          → IsInRange P (length row) to
      by_kind again (inl half) = let both : true ≡ false = sym (half_stays P row next to half rest) ∙ whole in absurd (cc)
      by_kind again (inr next_whole) = again (step_in_range P fall row sound a next fits step next_whole) whole

  -- what leads to a cell holds it
  pub path_holds : (r to : Ref) (c : ℕ) → Path P row r to → IsInRange P (length row) r → to ≡ Cell c → Holds P row r c
  path_holds r to c (arrived a) fits e = subst (λ (q : Ref). Holds P row q c) (sym e) (Meaning.here c)
  path_holds r to c (goes a next b step rest) fits e = by_kind (path_holds next b c rest) (half_or_whole next)
    where
      by_kind : (IsInRange P (length row) next → to ≡ Cell c → Holds P row next c) → (is_half next ≡ true) ⊎ (is_half next ≡ false) → Holds P row r c
      by_kind again (inl half) = let both : true ≡ false = sym (half_stays P row next to half rest) ∙ ap is_half e in absurd (cc)
      by_kind again (inr whole) = step_holds P fall row a next c fits step (again (step_in_range P fall row sound a next fits step whole) e)

  -- a path to a cell goes through a structure, or leads down to the cell from one that is no smaller
  abbrev Climbs : Ref → ℕ → Type 0
  Climbs r c = ((node : NodeNo) × (base : ℕ) × LeadsTo (plain row) r (Node node base) × Holds P row (Node node base) c) ⊎ ((d : ℕ) × (r ≡ Cell d) × (c ≤ d))

  -- so it is one step before
  after_step : (r next : Ref) (c : ℕ) → IsInRange P (length row) r → IsStep P row r next → Holds P row next c → Climbs next c → Climbs r c
  after_step Free next c fits step holds climbs = absurd step
  after_step (Cell cell) next c fits step holds (inl through) =
      inl (through.0, through.1, onward cell next (Node through.0 through.1) step through.2, through.3)
  after_step (Cell cell) next c fits step holds (inr down) =
      let lower : down.0 < cell = subst (CanHold P (length row) cell) (step.0 ∙ down.1) (sound.fits cell) in
      inr (cell, refl, omega (arith, down.2))
  after_step (Node node base) next c fits step holds climbs =
      inl (node, base, here (Node node base), step_holds P fall row (Node node base) next c fits step holds)
  after_step (Number pair) next c fits step holds climbs = absurd step
  after_step (Half bits) next c fits step holds climbs = absurd step

  -- so it is of each path to a cell
  climbs : (r to : Ref) (c : ℕ) → Path P row r to → IsInRange P (length row) r → to ≡ Cell c → Climbs r c
  climbs r to c (arrived a) fits e = inr (c, e, omega arith)
  climbs r to c (goes a next b step rest) fits e = by_kind (climbs next b c rest) (half_or_whole next)
    where
      by_kind : (IsInRange P (length row) next → to ≡ Cell c → Climbs next c) → (is_half next ≡ true) ⊎ (is_half next ≡ false) → Climbs r c
      by_kind again (inl half) = let both : true ≡ false = sym (half_stays P row next to half rest) ∙ ap is_half e in absurd (cc)
      by_kind again (inr whole) =
          let next_fits : IsInRange P (length row) next = step_in_range P fall row sound a next fits step whole in
          after_step a next c fits step (path_holds next to c rest next_fits e) (again next_fits e)

  -- a ring through a cell is a circle
  pub ring_is_circle : (c : ℕ) (next : Ref) → c < length row → IsStep P row (Cell c) next → Path P row next (Cell c) → IsCircle P row c
  ring_is_circle c next below step path = by_kind (half_or_whole next)
    where
      by_climb : Climbs next c → IsCircle P row c
      by_climb (inl through) = record { node = through.0; base = through.1; leads = onward c next (Node through.0 through.1) step through.2; holds = through.3 }
      by_climb (inr down) =
          let lower : down.0 < c = subst (CanHold P (length row) c) (step.0 ∙ down.1) (sound.fits c) in absurd (omega (arith, down.2))

      by_kind : (is_half next ≡ true) ⊎ (is_half next ≡ false) → IsCircle P row c
      by_kind (inl half) = let both : false ≡ true = half_stays P row next (Cell c) half path in absurd (cc)
      by_kind (inr whole) = by_climb (climbs next (Cell c) c path (step_in_range P fall row sound (Cell c) next below step whole) refl)

  -- a structure in range has no shape of a variable
  shape_apart : (m : ℕ) → m < length P.skeleton.nodes → IsNoVariable P m → (k : ℕ) → shape_at P.skeleton m ≢ Skeletons.variable k
  shape_apart m there none k e = none k (slice_get-get_or P.skeleton.nodes m (Skeletons.number (pos 0)) there ∙ ap (λ (s : Skeletons.Shape). Some s) e)

  -- From each structure with a smaller number a path leads to each of its variables.
  abbrev Reach : ℕ → Type 0
  Reach bound = (m : NodeNo) (base : ℕ) (v : Variable) → m.0 < bound → m.0 < length P.skeleton.nodes → IsNoVariable P m.0
      → Contains (variables_at P.skeleton.nodes m.0) v → Path P row (Node m base) (Cell (base + 1 + v.1))

  -- so it is for one number more
  reach_more : (bound : ℕ) → Reach bound → Reach (suc bound)
  reach_more bound again node base v below there none in_term =
      by_argument (gives_variables P.skeleton.nodes fall node.0 v there (shape_apart node.0 there none) in_term)
    where
      by_shape : (m : ℕ) → m < node.0 → Contains (parts_of P (Node node base)) (part_at P base m) → Contains (variables_at P.skeleton.nodes m) v
          → ((k : ℕ) × (shape_at P.skeleton m ≡ Skeletons.variable k) × (part_at P base m ≡ Cell (base + 1 + k)))
          ⊎ (((k : ℕ) → shape_at P.skeleton m ≢ Skeletons.variable k) × (part_at P base m ≡ Node (record { 0 = m }) base))
          → Path P row (Node node base) (Cell (base + 1 + v.1))
      by_shape m lower step of_part (inl variable) =
          let only : Contains (([], variable.0) ∷ []) v =
          subst (λ (vs : List Variable). Contains vs v) (own_variable P.skeleton.nodes fall m variable.0 (omega arith) variable.1) of_part in
          let same : variable.0 ≡ v.1 =
          elim (among_cases ([], variable.0) v [] only) [ inl e ↦ ap (λ (u : Variable). u.1) (sym e) | inr later ↦ absurd (among_none v later) ] in
          goes (Node node base) (part_at P base m) (Cell (base + 1 + v.1)) step
          (subst (λ (r : Ref). Path P row r (Cell (base + 1 + v.1))) (sym (variable.2 ∙ ap (λ (k : ℕ). Cell (base + 1 + k)) same))
          (arrived (Cell (base + 1 + v.1))))
      by_shape m lower step of_part (inr other) =
          goes (Node node base) (part_at P base m) (Cell (base + 1 + v.1)) step
          (subst (λ (r : Ref). Path P row r (Cell (base + 1 + v.1))) (sym other.1)
          (again (record { 0 = m }) base v (omega arith) (omega arith) (no_variable P fall m (omega arith) other.0) of_part))

      by_argument : (m : ℕ) × Contains (arguments_at P.skeleton node.0) m × Contains (variables_at P.skeleton.nodes m) v
          → Path P row (Node node base) (Cell (base + 1 + v.1))
      by_argument w = by_shape w.0 (falls P.skeleton.nodes fall node.0 w.0 there w.1) (among_map (part_at P base) w.0 (arguments_at P.skeleton node.0) w.1) w.2
          (resolved_cases (shape_at P.skeleton w.0) (record { 0 = w.0 }) base)

  -- and for all
  reach : (bound : ℕ) → Reach bound
  reach zero = λ node base v below there none in_term. absurd (omega arith)
  reach (suc bound) = reach_more bound (reach bound)

  -- what is held is led to
  pub holds_path : (r : Ref) (c : ℕ) → Holds P row r c → IsInRange P (length row) r → Path P row r (Cell c)
  holds_path r c (Meaning.here cell) fits = arrived (Cell cell)
  holds_path r c (Meaning.onward start next cell is_set rest) fits =
      goes (Cell start) next (Cell cell) is_set
      (holds_path next cell rest (step_in_range P fall row sound (Cell start) next fits is_set (holds_whole P row next cell rest)))
  holds_path r c (Meaning.inside node base v cell in_term rest) fits =
      let variable_fits : base + 1 + v.1 < length row =
      All-contains (λ (u : Variable). base + 1 + u.1 < length row) (variables_at P.skeleton.nodes node.0) v fits.0.cells in_term in
      joined P row (Node node base) (Cell (base + 1 + v.1)) (Cell cell)
      (reach (suc node.0) node base v (omega arith) fits.0.there fits.1 in_term)
      (holds_path (Cell (base + 1 + v.1)) cell rest variable_fits)

  -- a cell that is set is in the row
  set_is_below : (cell : ℕ) (r : Ref) → IsSetTo row cell r → cell < length row
  set_is_below cell r is_set = elim (cases_lt cell (length row)) [ inl below ↦ below | inr above ↦ absurd (is_set.1 (sym is_set.0 ∙ word_past row cell above)) ]

  -- where each cell ends there is no circle
  pub no_circle : (halves : Bool) → ((cell : ℕ) → cell < length row → Ends P row 0 halves (Cell cell)) → (cell : ℕ) → IsCircle P row cell → ⊥
  no_circle halves all c circle = by_step (first_step P row (Cell c) (Node circle.node circle.base) path)
    where
      path : Path P row (Cell c) (Node circle.node circle.base)
      path = of_leads P row (Cell c) (Node circle.node circle.base) circle.leads

      by_step : (Cell c ≡ Node circle.node circle.base) ⊎ ((next : Ref) × IsStep P row (Cell c) next × Path P row next (Node circle.node circle.base)) → ⊥
      by_step (inl same) = absurd (cc)
      by_step (inr w) =
          let below : c < length row = set_is_below c w.0 w.1 in
          let fits : IsInRange P (length row) (Node circle.node circle.base) = path_in_range (Cell c) (Node circle.node circle.base) path below refl in
          on_no_ring P row halves (Cell c) (all c below) w.0 w.1
          (joined P row w.0 (Node circle.node circle.base) (Cell c) w.2 (holds_path (Node circle.node circle.base) c circle.holds fits))
