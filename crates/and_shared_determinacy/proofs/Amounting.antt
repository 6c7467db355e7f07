-- What the value of an expression says wherever what is known is true.
use Rattle.std.proofs.Common.{ℕ, ℤ, pos, zero, suc, ◌≡◌, ◌≢◌, ◌≤◌, true, inl, inr, List, [], ◌∷◌, map, length, Some, None, refl, ap, sym, ◌∙◌, subst, arith}
use Rattle.std.specs.Prelude.{Contains}
use Rattle.std.proofs.lemmas.Option.{same_Some, none-some, slice_get-get_or}
use Rattle.std.proofs.lemmas.Bool.{cases_lt}
use Rattle.std.proofs.lemmas.List.{get_or_past}
use Rattle.and_laws.specs.Sizes.{size, sizes}
use Rattle.and_laws.proofs.Ordered.{contains_first, contains_more}
use Rattle.and_laws.proofs.Substitutions.{apply_ground}
use Rattle.and_model.specs.Terms as terms
use Rattle.and_model.specs.Terms.{Term, Terms, Substitution, apply, apply_all, is_ground}
use Rattle.and_model.specs.declared.numbers.NodeNo.{NodeNo}
use Rattle.and_model.specs.declared.reference.Ref.{Ref}
use Rattle.and_model.specs.declared.reference.Ref.TheVariants.{Free, Cell, Node, Number, Half}
use Rattle.and_program.specs.Skeletons as shapes
use Rattle.and_program.specs.Skeletons.{Shape, term_list, nth, shape_term, terms_behind, node_term, AllFall}
use Rattle.and_program.specs.Loaded.{shape_at, arguments_at}
use Rattle.and_program.specs.Shown.{resolved, arguments_in}
use Rattle.and_cells.specs.Ranges.{NamedProgram, IsNoVariable}
use Rattle.and_cells.specs.Seen.{Seen, Knows, LeadsTo, here, onward}
use Rattle.and_cells.specs.Numbers.{number_of}
use Rattle.and_cells.specs.Meaning.{Words}
use Rattle.and_cells.specs.Joined.{value}
use Rattle.and_cells.specs.Parts.{part_at, parts_of}
use Rattle.and_cells.proofs.Frames.{no_variable}
use Rattle.and_cell_laws.proofs.Images.{contains_origin}
use Rattle.and_cell_laws.proofs.Structures.{node_term_shape, in_frame, value_of_node, value_of_part, HaveValues, value_of_structure}
use Rattle.and_value_laws.specs.Values.{whole, part, KnownAs, AllKnownAs, unbound, bound, integer, literal, structure, no_parts, more_parts, IsGround, HasValue}
use Rattle.and_value_laws.specs.Values.{LacksValue}
use Rattle.and_arith.specs.Sizes.{Spends}
use Rattle.and_arith.specs.declared.values.Valued.{Valued}
use Rattle.and_arith.specs.declared.values.Valued.TheVariants as valued
use Rattle.and_arith.proofs.Covering.{reaches_on}
use Rattle.and_arith.proofs.Counting.{size_some}
use Rattle.and_arith.proofs.Grounding.{value_ground, ground_known_ground}
use Rattle.and_arith.proofs.Solving.{structure_there, one_list, ground_below}
use Rattle.and_unify.proofs.TurnParts.{cells_of_parts}
use Rattle.and_shared_determinacy.specs.Truths.{Denotes, IsNamed, AreTrue}
use Rattle.and_shared_determinacy.specs.Weighing.{NamesNoHalf, Amounts}
use Rattle.and_shared_determinacy.proofs.Truths.{number_is, leads_true}

-- an argument is no node that is a variable
resolved_named : (P : NamedProgram) (n base : ℕ) (s : Shape) → shape_at P.skeleton n ≡ s → IsNamed P (resolved s (record { 0 = n }) base)
resolved_named P n base (shapes.variable k) at node b e = absurd (cc)
resolved_named P n base (shapes.number z) at node b e =
    let same : n ≡ node.0 = cc in
    subst (IsNoVariable P) same (no_variable P n (λ k is. let both = sym at ∙ is in absurd (cc)))
resolved_named P n base (shapes.compound c ns) at node b e =
    let same : n ≡ node.0 = cc in
    subst (IsNoVariable P) same (no_variable P n (λ k is. let both = sym at ∙ is in absurd (cc)))

pub part_named : (P : NamedProgram) (base n : ℕ) → IsNamed P (part_at P base n)
part_named P base n = resolved_named P n base (shape_at P.skeleton n) refl

parts_named : (P : NamedProgram) (node : NodeNo) (base : ℕ) (q : Ref) → Contains (parts_of P (Node node base)) q → IsNamed P q
parts_named P node base q c =
    let (n, among, is) = contains_origin (part_at P base) (arguments_at P.skeleton node.0) q c in
    subst (IsNamed P) (sym is) (part_named P base n)

module _ (P : NamedProgram) (fall : AllFall 0 P.skeleton.nodes) (s : Seen) (w : Words) (t : Substitution) (are : AreTrue P w t s) where
  literal_value : (node : NodeNo) (base : ℕ) (z : ℤ) → shape_at P.skeleton node.0 ≡ shapes.number z → value P w t (Node node base) ≡ Some (terms.number z)
  literal_value node base z at =
      value_of_node P w t node base
      ∙ ap (λ (x : Term). Some (apply (in_frame t base) x)) (node_term_shape P.skeleton.nodes node.0 fall
      ∙ ap (shape_term (terms_behind [] P.skeleton.nodes)) at)

  pair_value : (pair : ℕ) (high low : Ref) → Knows s pair high → Knows s (suc pair) low → value P w t (Number pair) ≡ Some (terms.number (number_of high low))
  pair_value pair high low a b = ap (λ (x : Term). Some (apply t x)) (number_is P w t s pair high low are a b)

  mutual
    -- A reference has the value that the substitution makes of what it is known as.
    pub known_true : (r : Ref) (u : Term) → KnownAs P s r u → NamesNoHalf P w r → value P w t r ≡ Some (apply t u)
    known_true r u (unbound cell none) no_half = refl
    known_true r u (bound cell q v knows rest) no_half =
        let (x, left, right) = (are cell q knows).one (no_half cell (contains_first cell [])) in
        left.is ∙ sym right.is ∙ known_true q v rest right.whole
    known_true r u (integer pair high low a b) no_half = pair_value pair high low a b
    known_true r u (literal node base z at) no_half = literal_value node base z at
    known_true r u (structure node base name arguments ts at parts) no_half =
        let v = value_of_structure P w t (Node node base) name (length arguments) fall (structure_there P node base name arguments at) in
        let have : HaveValues P w t (map (part_at P base) arguments) v.0 =
        subst (λ (x : Shape). HaveValues P w t (map (part_at P base) (arguments_in x)) v.0) at v.2 in
        let each = all_true (map (part_at P base) arguments) ts parts (λ q c.
        λ cell among. no_half cell
        (cells_of_parts P (Node node base) q cell fall (subst (λ (x : Shape). Contains (map (part_at P base) (arguments_in x)) q) (sym at) c) among)) in
        let same : v.0 ≡ apply_all t ts = one_list P w t (map (part_at P base) arguments) v.0 (apply_all t ts) have each in
        v.1 ∙ ap (λ xs. Some (terms.compound name xs)) same

    all_true : (rs : List Ref) (ts : Terms) → AllKnownAs P s rs ts → ((q : Ref) → Contains rs q → NamesNoHalf P w q) → HaveValues P w t rs (apply_all t ts)
    all_true rs ts no_parts no_half = tt
    all_true rs ts (more_parts r u rest others first more) no_half =
        (known_true r u first (no_half r (contains_first r rest)), all_true rest others more (λ q c. no_half q (contains_more r q rest c)))

  -- what a chain ends at is no node that is a variable
  leads_named : (r end : Ref) → LeadsTo s r end → IsNamed P r → IsNamed P end
  leads_named r end (here x) named = named
  leads_named r end (onward cell x to knows leads) named = leads_named x to leads (are cell x knows).named

  leads_known : (r end : Ref) (u : Term) → LeadsTo s r end → KnownAs P s end u → KnownAs P s r u
  leads_known r end u (here x) known = known
  leads_known r end u (onward cell x to knows leads) known = bound cell x u knows (leads_known x to u leads known)

  -- what is ground, and so large, is known as its value
  abbrev Claim : ℕ → Type 0
  Claim n = (r : Ref) (u : Term) → size u ≤ n → Denotes P w t r u → IsGround P s r → IsNamed P r → KnownAs P s r u

  all_ground : (n : ℕ) → Claim n → (rs : List Ref) (us : Terms) → HaveValues P w t rs us → sizes us ≤ n
      → ((q : Ref) → Contains rs q → IsGround P s q × IsNamed P q × NamesNoHalf P w q) → AllKnownAs P s rs us
  all_ground n below [] terms.none have few each = no_parts
  all_ground n below [] (terms.more u us) have few each = absurd have
  all_ground n below (r ∷ rs) terms.none have few each = absurd have
  all_ground n below (r ∷ rs) (terms.more u us) have few each =
      let own = each r (contains_first r rs) in
      more_parts r u rs us (below r u (omega (arith, few)) (record { is = have.0; whole = own.2 }) own.0 own.1)
      (all_ground n below rs us have.1 (omega (arith, few)) (λ q c. each q (contains_more r q rs c)))

  node_known : (n : ℕ) → Claim n → (node : NodeNo) (base : ℕ) (u : Term) (shape : Shape) → shape_at P.skeleton node.0 ≡ shape → size u ≤ suc n
      → Denotes P w t (Node node base) u
      → IsGround P s (Node node base) → IsNamed P (Node node base) → KnownAs P s (Node node base) u
  node_known n below node base u (shapes.variable k) at few has ground named = elim (cases_lt node.0 (length P.skeleton.nodes)) [
    | inl low ↦ absurd (named node base refl k (slice_get-get_or P.skeleton.nodes node.0 (shapes.number (pos 0)) low ∙ ap (λ (x : Shape). Some x) at))
    | inr past ↦ let both = sym (get_or_past P.skeleton.nodes node.0 (shapes.number (pos 0)) past) ∙ at in absurd (cc)
  ]
  node_known n below node base u (shapes.number z) at few has ground named =
      subst (KnownAs P s (Node node base)) (same_Some (terms.number z) u (sym (literal_value node base z at) ∙ has.is)) (literal node base z at)
  node_known n below node base u (shapes.compound name arguments) at few has ground named =
      let v = value_of_structure P w t (Node node base) name (length arguments) fall (structure_there P node base name arguments at) in
      let same : terms.compound name v.0 ≡ u = same_Some (terms.compound name v.0) u (sym v.1 ∙ has.is) in
      let parts : List Ref = parts_of P (Node node base) in
      let known = all_ground n below parts v.0 v.2 (omega (arith, few, ap size same)) (λ q c. (
        ground_below P s (Node node base) q (part node base q (whole (Node node base) refl) c) ground,
        parts_named P node base q c,
        (λ cell among. has.whole cell (cells_of_parts P (Node node base) q cell fall c among)),
      )) in
      subst (KnownAs P s (Node node base)) same
      (structure node base name arguments v.0 at (subst (λ (x : Shape). AllKnownAs P s (map (part_at P base) (arguments_in x)) v.0) at known))

  end_known : (n : ℕ) → Claim n → (r : Ref) (u : Term) → ((c : ℕ) → r ≢ Cell c) → size u ≤ suc n → Denotes P w t r u → IsGround P s r
      → IsNamed P r → KnownAs P s r u
  end_known n below Free u other few has ground named = absurd (none-some u has.is)
  end_known n below (Cell cell) u other few has ground named = absurd (other cell refl)
  end_known n below (Node node base) u other few has ground named = node_known n below node base u (shape_at P.skeleton node.0) refl few has ground named
  end_known n below (Number pair) u other few has ground named =
      let both = ground.pairs pair (whole (Number pair) refl) in
      subst (KnownAs P s (Number pair))
      (same_Some (terms.number (number_of both.0.0 both.1.0)) u (sym (pair_value pair both.0.0 both.1.0 both.0.1 both.1.1) ∙ has.is))
      (integer pair both.0.0 both.1.0 both.0.1 both.1.1)
  end_known n below (Half bits) u other few has ground named = absurd (none-some u has.is)

  claim_on : (n : ℕ) → Claim n → Claim (suc n)
  claim_on n below Free u few has ground named = absurd (none-some u has.is)
  claim_on n below (Cell cell) u few has ground named =
      let (end, leads, other) = ground.cells cell (whole (Cell cell) refl) in
      let on : Denotes P w t end u = leads_true P w t s (Cell cell) end u are leads has in
      leads_known (Cell cell) end u leads
      (end_known n below end u other few on
      (ground_below P s (Cell cell) end (reaches_on P s (Cell cell) (Cell cell) end leads (whole (Cell cell) refl)) ground)
      (leads_named (Cell cell) end leads named))
  claim_on n below (Node node base) u few has ground named = node_known n below node base u (shape_at P.skeleton node.0) refl few has ground named
  claim_on n below (Number pair) u few has ground named = end_known n below (Number pair) u (λ c e. cc) few has ground named
  claim_on n below (Half bits) u few has ground named = absurd (none-some u has.is)

  claim : (n : ℕ) → Claim n
  claim zero r u few has ground named = absurd (let some = size_some u in omega arith)
  claim (suc n) r u few has ground named = claim_on n (claim n) r u few has ground named

-- ---- What `value` says

-- a reference of a ground term has that term
ground_value : (P : NamedProgram) (fall : AllFall 0 P.skeleton.nodes) (s : Seen) (w : Words) (r : Ref) (u : Term) → KnownAs P s r u
    → is_ground u ≡ true → NamesNoHalf P w r
    → (t : Substitution) → AreTrue P w t s → value P w t r ≡ Some u
ground_value P fall s w r u known ground no_half t are =
    known_true P fall s w t are r u known no_half ∙ ap (λ (x : Term). Some x) (apply_ground t u ground)

pub number_amounts : (P : NamedProgram) (fall : AllFall 0 P.skeleton.nodes) (s : Seen) (r : Ref) (z : ℤ) → HasValue P s r z → Amounts P s r (Some z)
number_amounts P fall s r z (u, known, valued) w no_half t are =
    let ground = value_ground u z valued in
    (u, ground, valued, λ other too. ground_value P fall s w r u known ground no_half other too)

-- what has no value has a term where the reference is an argument or a node
pub none_amounts : (P : NamedProgram) (fall : AllFall 0 P.skeleton.nodes) (s : Seen) (base n : ℕ) → LacksValue P s (part_at P base n)
    → Amounts P s (part_at P base n) None
none_amounts P fall s base n (ground, lacks) w no_half t are =
    let r = part_at P base n in
    let u = apply (in_frame t base) (node_term P.skeleton.nodes n) in
    let has : Denotes P w t r u = record { is = value_of_part P w t base n fall; whole = no_half } in
    let known : KnownAs P s r u = claim P fall s w t are (size u) r u (omega arith) has ground (part_named P base n) in
    let is_ground_so = ground_known_ground P s r u known ground in
    (u, is_ground_so, lacks u known, λ other too. ground_value P fall s w r u known is_ground_so no_half other too)

-- What an answer took of the fuel is no more than there was.
pub spends_less : (P : NamedProgram) (now : Seen) (r : Ref) (fuel rest : ℕ) (a : Valued) → Spends P now r fuel rest a → a ≢ valued.Memory → rest ≤ fuel
spends_less P now r fuel rest (valued.Number z) s some = let (settings, opened, all, spent) = s.whole tt in omega (arith, spent)
spends_less P now r fuel rest valued.NoValue s some = let (settings, opened, all, spent) = s.whole tt in omega (arith, spent)
spends_less P now r fuel rest (valued.Waits cell) s some = let w = s.waits cell refl in omega (arith, w.0)
spends_less P now r fuel rest valued.PutOff s some = let w = s.put_off refl in omega (arith, w.0)
spends_less P now r fuel rest valued.Memory s some = absurd (some refl)
