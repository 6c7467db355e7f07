-- What is known of a term, in each solution of what is known.
use Rattle.std.proofs.Common.{ℕ, ℤ, pos, zero, suc, ◌≡◌, ◌≢◌, ◌≤◌, ◌+◌, List, [], ◌∷◌, map, length, false, Some, refl, ap, sym, ◌∙◌, subst, arith, inl, inr}
use Rattle.std.specs.Prelude.{Contains}
use Rattle.std.proofs.lemmas.Bool.{cases_lt}
use Rattle.std.proofs.lemmas.List.{get_or_past}
use Rattle.std.proofs.lemmas.List.Elements.{Contains-append_right}
use Rattle.std.proofs.lemmas.Option.{same_Some, none-some, slice_get-get_or}
use Rattle.and_laws.specs.Sizes.{size, sizes}
use Rattle.and_model.specs.Terms as terms
use Rattle.and_model.specs.Terms.{Path, Term, Terms, Substitution, apply, apply_all, is_ground, are_ground, variables_of, variables_in}
use Rattle.and_model.specs.Store.{is_half}
use Rattle.and_model.specs.declared.numbers.NodeNo.{NodeNo}
use Rattle.and_model.specs.declared.reference.Ref.{Ref}
use Rattle.and_model.specs.declared.reference.Ref.TheVariants.{Free, Cell, Node, Number, Half}
use Rattle.and_program.specs.Skeletons as shapes
use Rattle.and_program.specs.Skeletons.{Shape, term_list, nth, shape_term, terms_behind, node_term, AllFall}
use Rattle.and_program.specs.Loaded.{shape_at, arguments_at}
use Rattle.and_program.specs.Shown.{resolved, arguments_in}
use Rattle.and_cells.specs.Ranges.{NamedProgram, IsInRange, IsInRangeOrHalf, CanHold}
use Rattle.and_cells.specs.Seen.{Seen, Knows, LeadsTo, here, onward}
use Rattle.and_cells.specs.Numbers.{number_of}
use Rattle.and_cells.specs.Known.{HasKnown, SolvesKnown}
use Rattle.and_cells.specs.Meaning.{Words, shallow_cells}
use Rattle.and_cells.specs.Joined.{value}
use Rattle.and_cells.specs.Parts.{IsStructure, part_at, parts_of}
use Rattle.and_cells.proofs.Chains.{held_in_range}
use Rattle.and_cells.proofs.Among.{among_first, among_more, among_map, map_among}
use Rattle.and_cell_laws.proofs.Between.{one_value, names_no_half}
use Rattle.and_cell_laws.proofs.Structures.{node_term_shape, in_frame, value_of_node, HaveValues, value_of_structure}
use Rattle.and_value_laws.specs.Values.{Reaches, whole, set, part, KnownAs, AllKnownAs, unbound, bound, integer, literal, structure, no_parts, more_parts, IsGround}
use Rattle.and_arith.proofs.Covering.{reaches_on}
use Rattle.and_arith.proofs.Counting.{size_some}
use Rattle.and_arith.proofs.Ranging.{among_node, part_in_range}

-- a node with this shape is there, since only names of no node count as numbers
pub structure_there : (P : NamedProgram) (node : NodeNo) (base name : ℕ) (arguments : List ℕ) → shape_at P.skeleton node.0 ≡ shapes.compound name arguments
    → IsStructure P (Node node base) name (length arguments)
structure_there P node base name arguments at = record {
  node = node;
  base = base;
  arguments = arguments;
  reference = refl;
  shape = elim (cases_lt node.0 (length P.skeleton.nodes)) [
    | inl below ↦ slice_get-get_or P.skeleton.nodes node.0 (shapes.number (pos 0)) below ∙ ap (λ (s : Shape). Some s) at
    | inr past ↦ let both = sym (get_or_past P.skeleton.nodes node.0 (shapes.number (pos 0)) past) ∙ at in absurd (cc)
  ];
  counted = refl;
}

-- references have these values in one way
pub one_list : (P : NamedProgram) (w : Words) (u : Substitution) (rs : List Ref) (us vs : Terms) → HaveValues P w u rs us → HaveValues P w u rs vs → us ≡ vs
one_list P w u [] terms.none terms.none a b = refl
one_list P w u [] terms.none (terms.more v vs) a b = absurd b
one_list P w u [] (terms.more t us) vs a b = absurd a
one_list P w u (r ∷ rs) terms.none vs a b = absurd a
one_list P w u (r ∷ rs) (terms.more t us) terms.none a b = absurd b
one_list P w u (r ∷ rs) (terms.more t us) (terms.more v vs) a b =
    ap (λ x. terms.more x us) (same_Some t v (sym a.0 ∙ b.0)) ∙ ap (λ xs. terms.more v xs) (one_list P w u rs us vs a.1 b.1)

-- what a reference is known as is no half
known_no_half : (P : NamedProgram) (s : Seen) (r : Ref) (t : Term) → KnownAs P s r t → is_half r ≡ false
known_no_half P s r t (unbound cell none) = refl
known_no_half P s r t (bound cell q v knows rest) = refl
known_no_half P s r t (integer pair high low a b) = refl
known_no_half P s r t (literal node base z at) = refl
known_no_half P s r t (structure node base name arguments ts at parts) = refl

module _ (P : NamedProgram) (fall : AllFall 0 P.skeleton.nodes) (s : Seen) (w : Words) (u : Substitution) (has : HasKnown s w)
    (solves : SolvesKnown P w s u) where
  literal_value : (node : NodeNo) (base : ℕ) (z : ℤ) → shape_at P.skeleton node.0 ≡ shapes.number z → value P w u (Node node base) ≡ Some (terms.number z)
  literal_value node base z at =
      value_of_node P w u node base
      ∙ ap (λ (t : Term). Some (apply (in_frame u base) t)) (node_term_shape P.skeleton.nodes node.0 fall
      ∙ ap (shape_term (terms_behind [] P.skeleton.nodes)) at)

  pair_value : (pair : ℕ) (high low : Ref) → Knows s pair high → Knows s (suc pair) low → value P w u (Number pair) ≡ Some (terms.number (number_of high low))
  pair_value pair high low a b =
      ap (λ (x : Ref). Some (terms.number (number_of x (w (suc pair))))) (has pair high a)
      ∙ ap (λ (x : Ref). Some (terms.number (number_of high x))) (has (suc pair) low b)

  mutual
    -- In each solution of what is known, a reference has the value that the solution makes of its term.
    pub known_solves : (r : Ref) (t : Term) → KnownAs P s r t → value P w u r ≡ Some (apply u t)
    known_solves r t (unbound cell none) = refl
    known_solves r t (bound cell q v knows rest) =
        one_value P w u (Cell cell) q (solves cell q knows (known_no_half P s q t rest)) ∙ known_solves q t rest
    known_solves r t (integer pair high low a b) = pair_value pair high low a b
    known_solves r t (literal node base z at) = literal_value node base z at
    known_solves r t (structure node base name arguments ts at parts) =
        let v = value_of_structure P w u (Node node base) name (length arguments) fall (structure_there P node base name arguments at) in
        let have : HaveValues P w u (map (part_at P base) arguments) v.0 =
        subst (λ (x : Shape). HaveValues P w u (map (part_at P base) (arguments_in x)) v.0) at v.2 in
        let same : v.0 ≡ apply_all u ts =
        one_list P w u (map (part_at P base) arguments) v.0 (apply_all u ts) have (all_solve (map (part_at P base) arguments) ts parts) in
        v.1 ∙ ap (λ xs. Some (terms.compound name xs)) same

    all_solve : (rs : List Ref) (ts : Terms) → AllKnownAs P s rs ts → HaveValues P w u rs (apply_all u ts)
    all_solve rs ts no_parts = tt
    all_solve rs ts (more_parts r t rest others first more) = (known_solves r t first, all_solve rest others more)

  -- None of the cells that it names is a half.
  abbrev pub NamesNoHalf : Ref → Type 0
  NamesNoHalf r = (cell : ℕ) → Contains (shallow_cells P r) cell → is_half (w cell) ≡ false

  -- a chain that ends in what is no half has one value, and its end names no half
  leads_value : (r end : Ref) → LeadsTo s r end → NamesNoHalf r → (value P w u r ≡ value P w u end) × NamesNoHalf end
  leads_value r end (here x) no_half = (refl, no_half)
  leads_value r end (onward cell x to knows leads) no_half =
      let own : is_half x ≡ false = ap is_half (sym (has cell x knows)) ∙ no_half cell (among_first cell []) in
      let solved = solves cell x knows own in
      let rest = leads_value x to leads
      (λ c among. names_no_half P w u (Cell cell) x solved c (Contains-append_right (cell ∷ []) (shallow_cells P x) c among)) in
      (one_value P w u (Cell cell) x solved ∙ rest.0, rest.1)

  leads_known : (r end : Ref) (t : Term) → LeadsTo s r end → KnownAs P s end t → KnownAs P s r t
  leads_known r end t (here x) known = known
  leads_known r end t (onward cell x to knows leads) known = bound cell x t knows (leads_known x to t leads known)

-- what leads on from what does not name anything is that
leads_from_free : (s : Seen) (r q : Ref) → r ≡ Free → LeadsTo s r q → q ≡ Free
leads_from_free s r q is (here x) = is
leads_from_free s r q is (onward cell x y knows leads) = absurd (cc)

-- what is led to by way of another is led to
reaches_through : (P : NamedProgram) (s : Seen) (root mid q : Ref) → Reaches P s root mid → Reaches P s mid q → Reaches P s root q
reaches_through P s root mid q first (whole r e) = subst (Reaches P s root) (sym e) first
reaches_through P s root mid q first (set cell r at knows) = set cell r (reaches_through P s root mid (Cell cell) first at) knows
reaches_through P s root mid q first (part node base r at among) = part node base r (reaches_through P s root mid (Node node base) first at) among

-- so what is led to by what is ground is ground
pub ground_below : (P : NamedProgram) (s : Seen) (root mid : Ref) → Reaches P s root mid → IsGround P s root → IsGround P s mid
ground_below P s root mid first ground = record {
  cells = λ cell at. ground.cells cell (reaches_through P s root mid (Cell cell) first at);
  pairs = λ pair at. ground.pairs pair (reaches_through P s root mid (Number pair) first at);
}

-- the cells of a node where it is found
cells_of_resolved : (P : NamedProgram) (ts : List Term) (s : Shape) (node : NodeNo) (base : ℕ) → node_term P.skeleton.nodes node.0 ≡ shape_term ts s
    → shallow_cells P (resolved s node base) ≡ map (λ (v : Path × ℕ). base + 1 + v.1) (variables_of (node_term P.skeleton.nodes node.0))
cells_of_resolved P ts (shapes.variable k) node base e = ap (λ (t : Term). map (λ (v : Path × ℕ). base + 1 + v.1) (variables_of t)) (sym e)
cells_of_resolved P ts (shapes.number z) node base e = refl
cells_of_resolved P ts (shapes.compound c ns) node base e = refl

-- The cells that a part names are among those of the structure.
part_cells : (P : NamedProgram) → AllFall 0 P.skeleton.nodes → (node : NodeNo) (base : ℕ) (q : Ref) (cell : ℕ) → Contains (parts_of P (Node node base)) q
    → Contains (shallow_cells P q) cell
    → Contains (shallow_cells P (Node node base)) cell
part_cells P fall node base q cell among at =
    let f : Path × ℕ → ℕ = λ v. base + 1 + v.1 in
    let m = map_among (part_at P base) q (arguments_at P.skeleton node.0) among in
    let found = cells_of_resolved P (terms_behind [] P.skeleton.nodes) (shape_at P.skeleton m.0) (record { 0 = m.0 }) base
    (node_term_shape P.skeleton.nodes m.0 fall) in
    let own : Contains (map f (variables_of (node_term P.skeleton.nodes m.0))) cell =
    subst (λ xs. Contains xs cell) found (subst (λ x. Contains (shallow_cells P x) cell) (sym m.2) at) in
    let v = map_among f cell (variables_of (node_term P.skeleton.nodes m.0)) own in
    subst (Contains (shallow_cells P (Node node base))) v.2
    (among_map f v.0 (variables_of (node_term P.skeleton.nodes node.0)) (among_node P fall node.0 m.0 v.0 m.1 v.1))

module _ (P : NamedProgram) (fall : AllFall 0 P.skeleton.nodes) (s : Seen) (w : Words) (u : Substitution) (has : HasKnown s w) (solves : SolvesKnown P w s u)
    (holds : (place : ℕ) (r : Ref) → Knows s place r → CanHold P s.words place r) where
  -- what a chain ends at is in range
  leads_fits : (r end : Ref) → LeadsTo s r end → end ≢ Free → IsInRangeOrHalf P s.words r → IsInRangeOrHalf P s.words end
  leads_fits r end (here x) there fits = fits
  leads_fits r end (onward cell x to knows leads) there fits =
      leads_fits x to leads there (held_in_range P s.words cell x fits (λ e. there (leads_from_free s x to e leads)) (holds cell x knows))

  -- what is ground, and so large, is known as its value
  abbrev Claim : ℕ → Type 0
  Claim n = (r : Ref) (t : Term) → size t ≤ n → value P w u r ≡ Some t → IsGround P s r → IsInRange P s.words r
      → NamesNoHalf P fall s w u has solves r → KnownAs P s r t

  all_ground : (n : ℕ) → Claim n → (rs : List Ref) (us : Terms) → HaveValues P w u rs us → sizes us ≤ n
      → ((q : Ref) → Contains rs q → IsGround P s q × IsInRange P s.words q × NamesNoHalf P fall s w u has solves q) → AllKnownAs P s rs us
  all_ground n below [] terms.none have few each = no_parts
  all_ground n below [] (terms.more t us) have few each = absurd have
  all_ground n below (r ∷ rs) terms.none have few each = absurd have
  all_ground n below (r ∷ rs) (terms.more t us) have few each =
      let own = each r (among_first r rs) in
      more_parts r t rs us (below r t (omega (arith, few)) have.0 own.0 own.1 own.2)
      (all_ground n below rs us have.1 (omega (arith, few)) (λ q c. each q (among_more r q rs c)))

  node_known : (n : ℕ) → Claim n → (node : NodeNo) (base : ℕ) (t : Term) (shape : Shape) → shape_at P.skeleton node.0 ≡ shape → size t ≤ suc n
      → value P w u (Node node base) ≡ Some t
      → IsGround P s (Node node base) → IsInRange P s.words (Node node base) → NamesNoHalf P fall s w u has solves (Node node base)
      → KnownAs P s (Node node base) t
  node_known n below node base t (shapes.variable k) at few is ground fits no_half =
      absurd (fits.1 k (slice_get-get_or P.skeleton.nodes node.0 (shapes.number (pos 0)) fits.0.there ∙ ap (λ (x : Shape). Some x) at))
  node_known n below node base t (shapes.number z) at few is ground fits no_half =
      subst (KnownAs P s (Node node base)) (same_Some (terms.number z) t (sym (literal_value P fall s w u has solves node base z at) ∙ is))
      (literal node base z at)
  node_known n below node base t (shapes.compound name arguments) at few is ground fits no_half =
      let v = value_of_structure P w u (Node node base) name (length arguments) fall (structure_there P node base name arguments at) in
      let same : terms.compound name v.0 ≡ t = same_Some (terms.compound name v.0) t (sym v.1 ∙ is) in
      let parts : List Ref = parts_of P (Node node base) in
      let known = all_ground n below parts v.0 v.2 (omega (arith, few, ap size same)) (λ q c. (
        ground_below P s (Node node base) q (part node base q (whole (Node node base) refl) c) ground,
        part_in_range P fall s.words node base q fits c,
        (λ cell among. no_half cell (part_cells P fall node base q cell c among)),
      )) in
      subst (KnownAs P s (Node node base)) same
      (structure node base name arguments v.0 at (subst (λ (x : Shape). AllKnownAs P s (map (part_at P base) (arguments_in x)) v.0) at known))

  end_known : (n : ℕ) → Claim n → (r : Ref) (t : Term) → ((c : ℕ) → r ≢ Cell c) → size t ≤ suc n → value P w u r ≡ Some t → IsGround P s r
      → IsInRangeOrHalf P s.words r → NamesNoHalf P fall s w u has solves r
      → KnownAs P s r t
  end_known n below Free t other few is ground fits no_half = absurd fits
  end_known n below (Cell cell) t other few is ground fits no_half = absurd (other cell refl)
  end_known n below (Node node base) t other few is ground fits no_half =
      node_known n below node base t (shape_at P.skeleton node.0) refl few is ground fits no_half
  end_known n below (Number pair) t other few is ground fits no_half =
      let both = ground.pairs pair (whole (Number pair) refl) in
      subst (KnownAs P s (Number pair))
      (same_Some (terms.number (number_of both.0.0 both.1.0)) t (sym (pair_value P fall s w u has solves pair both.0.0 both.1.0 both.0.1 both.1.1) ∙ is))
      (integer pair both.0.0 both.1.0 both.0.1 both.1.1)
  end_known n below (Half bits) t other few is ground fits no_half = absurd (none-some t is)

  claim_on : (n : ℕ) → Claim n → Claim (suc n)
  claim_on n below Free t few is ground fits no_half = absurd fits
  claim_on n below (Cell cell) t few is ground fits no_half =
      let w' = ground.cells cell (whole (Cell cell) refl) in
      let same = leads_value P fall s w u has solves (Cell cell) w'.0 w'.1 no_half in
      let not_free : w'.0 ≢ Free = λ e. none-some t (sym (ap (value P w u) e) ∙ sym same.0 ∙ is) in
      leads_known P fall s w u has solves (Cell cell) w'.0 t w'.1
      (end_known n below w'.0 t w'.2 few (sym same.0 ∙ is)
      (ground_below P s (Cell cell) w'.0 (reaches_on P s (Cell cell) (Cell cell) w'.0 w'.1 (whole (Cell cell) refl)) ground)
      (leads_fits (Cell cell) w'.0 w'.1 not_free fits) same.1)
  claim_on n below (Node node base) t few is ground fits no_half = node_known n below node base t (shape_at P.skeleton node.0) refl few is ground fits no_half
  claim_on n below (Number pair) t few is ground fits no_half = end_known n below (Number pair) t (λ c e. cc) few is ground fits no_half
  claim_on n below (Half bits) t few is ground fits no_half = absurd fits

  claim : (n : ℕ) → Claim n
  claim zero r t few is ground fits no_half = absurd (let some = size_some t in omega arith)
  claim (suc n) r t few is ground fits no_half = claim_on n (claim n) r t few is ground fits no_half

  -- What is ground is known as the value that each solution gives it.
  pub ground_known : (r : Ref) (t : Term) → value P w u r ≡ Some t → IsGround P s r → IsInRange P s.words r
      → NamesNoHalf P fall s w u has solves r → KnownAs P s r t
  ground_known r t is ground fits no_half = claim (size t) r t (omega arith) is ground fits no_half
