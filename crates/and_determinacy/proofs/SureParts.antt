-- What references lead to, and structures whose arguments are met.
use Rattle.std.proofs.Common.{ℕ, ℤ, ◌≡◌, ◌≢◌, ◌<◌, true, false, List, [], ◌∷◌, ◌++◌, length, map, get_or, zero, suc, take}
use Rattle.std.proofs.Common.{refl, sym, ap, ◌∙◌, subst, arith}
use Rattle.std.specs.Prelude.{Contains}
use Rattle.std.proofs.lemmas.List.{get_or_default}
use Rattle.std.proofs.lemmas.Option.{same_Some}
use Rattle.and_model.specs.Terms.{Term, Terms, variable, number, compound, more, is_ground, are_ground, Substitution, apply, apply_all, framed}
use Rattle.and_model.specs.Solutions.{Equation, Solves}
use Rattle.and_model.specs.Store.{is_half}
use Rattle.and_model.specs.declared.numbers.NameNo.{NameNo}
use Rattle.and_model.specs.declared.numbers.NodeNo.{NodeNo}
use Rattle.and_model.specs.declared.reference.Ref.{Ref}
use Rattle.and_model.specs.declared.reference.Ref.TheVariants as reference
use Rattle.and_model.specs.declared.reference.Ref.TheVariants.{Free, Cell, Node}
use Rattle.and_program.specs.Skeletons
use Rattle.and_program.specs.Skeletons.{Shape, term_list, nth, shape_term, terms_behind, node_term, AllFall}
use Rattle.and_program.specs.Loaded.{shape_at, arguments_at}
use Rattle.and_program.specs.Shown.{arguments_in, resolved, shown, count_of}
use Rattle.and_program.specs.declared.node.NodeKind.{NodeKind}
use Rattle.and_program.specs.declared.node.NodeKind.TheVariants.{Variable, Number, Compound}
use Rattle.and_laws.proofs.Substitutions.{apply_ground}
use Rattle.and_cells.specs.Ranges.{NamedProgram, IsInRange}
use Rattle.and_cells.specs.Rows.{plain}
use Rattle.and_cells.specs.Seen.{word_at, Grows, LeadsTo, here, onward}
use Rattle.and_cells.specs.Meaning.{cell_variable, equations_of}
use Rattle.and_cells.specs.Joined.{value}
use Rattle.and_cells.specs.Parts.{part_at, parts_of}
use Rattle.and_cell_laws.proofs.Between.{set_agrees}
use Rattle.and_cell_laws.proofs.Images.{contains_image}
use Rattle.and_cell_laws.proofs.Structures.{node_term_shape}
use Rattle.and_branch_laws.specs.Variables.{cells_from, placed}
use Rattle.and_branch_laws.specs.Judging.{outside}
use Rattle.and_unify.proofs.TurnParts.{part_in_range}
use Rattle.and_determinacy.specs.Seeing.{AgreeUpTo, ref_term, argument_pairs, IsPart, Meets, AreLacking, SpeaksOf, SpeakOf}
use Rattle.and_determinacy.proofs.SureHeads.{ref_early, value_of_ref}
use Rattle.and_determinacy.proofs.SureSteps.{frame, meets_so, cell_filled, whole_lacks, all_lack, all_early}

-- the name that is shown
abbrev named_in : NodeKind → ℕ
named_in (Variable k) = 0
named_in (Number z) = 0
named_in (Compound name count) = name.0

-- the number of the variable that is shown
abbrev variable_in : NodeKind → ℕ
variable_in (Variable k) = k
variable_in (Number z) = 0
variable_in (Compound name count) = 0

-- ---- Chains

no_half_behind : (row : List Ref) (from to : Ref) → LeadsTo (plain row) from to → is_half to ≡ false → is_half from ≡ false
no_half_behind row from to (here r) whole = whole
no_half_behind row from to (onward cell r end set rest) whole = refl

-- In whatever solves a row that this one grows to, a reference has the value of that to which it leads.
pub led_value : (P : NamedProgram) (row later : List Ref) (s : Substitution) → Grows row later → Solves s (equations_of P later) → (from to : Ref)
    → LeadsTo (plain row) from to → is_half to ≡ false → value P (word_at later) s from ≡ value P (word_at later) s to
led_value P row later s grows solves from to (here r) whole = refl
led_value P row later s grows solves from to (onward cell r end set rest) whole =
    set_agrees P later s cell r solves (grows.set cell r set) (no_half_behind row r end rest whole)
    ∙ led_value P row later s grows solves r end rest whole

pub part_whole : (P : NamedProgram) (words : ℕ) (r : Ref) → IsPart P words r → is_half r ≡ false
part_whole P words Free fits = absurd fits
part_whole P words (Cell cell) fits = refl
part_whole P words (Node node base) fits = refl
part_whole P words (reference.Number pair) fits = absurd fits
part_whole P words (reference.Half bits) fits = absurd fits

-- an argument that is in range is a part
resolved_part : (P : NamedProgram) (words : ℕ) (s : Shape) (node : NodeNo) (base : ℕ) → IsInRange P words (resolved s node base)
    → IsPart P words (resolved s node base)
resolved_part P words (Skeletons.variable k) node base fits = fits
resolved_part P words (Skeletons.number z) node base fits = fits
resolved_part P words (Skeletons.compound name ns) node base fits = fits

pub is_part : (P : NamedProgram) (words base n : ℕ) → IsInRange P words (part_at P base n) → IsPart P words (part_at P base n)
is_part P words base n fits = resolved_part P words (shape_at P.skeleton n) (record { 0 = n }) base fits

-- So is an argument of a structure that is in range, by whichever of two equal programs it is found.
pub argument_part : (P Q : NamedProgram) → P ≡ Q → AllFall 0 P.skeleton.nodes → (words : ℕ) (node : NodeNo) (base i : ℕ)
    → IsInRange P words (Node node base) → i < length (arguments_at Q.skeleton node.0)
    → IsPart P words (part_at Q base (get_or (arguments_at Q.skeleton node.0) i 0))
argument_part P Q same fall words node base i fits low =
    let args = arguments_at Q.skeleton node.0 in
    let m : ℕ = get_or args i 0 in
    let here = contains_image (part_at Q base) args m (i, low, sym (get_or_default args i 0 m low)) in
    let in_range = part_in_range P words (Node node base) (part_at P base m) fall fits
    (subst (λ (R : NamedProgram). Contains (parts_of R (Node node base)) (part_at R base m)) (sym same) here) in
    subst (λ (R : NamedProgram). IsPart P words (part_at R base m)) same (is_part P words base m in_range)

module _ (P : NamedProgram) (row : List Ref) where
  -- So it has its term,
  led_term : (later : List Ref) (s : Substitution) → Grows row later → Solves s (equations_of P later) → (from to : Ref) → IsPart P (length row) from
      → IsPart P (length row) to → LeadsTo (plain row) from to → apply s (ref_term P from) ≡ apply s (ref_term P to)
  led_term later s grows solves from to begins ends leads =
      same_Some (apply s (ref_term P from)) (apply s (ref_term P to))
      (sym (value_of_ref P (word_at later) s (length row) from begins)
      ∙ led_value P row later s grows solves from to leads (part_whole P (length row) to ends)
      ∙ value_of_ref P (word_at later) s (length row) to ends)

  grows_itself : Grows row row
  grows_itself = record { longer = omega arith; set = λ place r is. is }

  pub led_now : (s : Substitution) → Solves s (equations_of P row) → (from to : Ref) → IsPart P (length row) from → IsPart P (length row) to
      → LeadsTo (plain row) from to → apply s (ref_term P from) ≡ apply s (ref_term P to)
  led_now s solves from to begins ends leads = led_term row s grows_itself solves from to begins ends leads

  -- and what meets that meets the reference.
  pub led_meets : (held has : List ℕ) (given gives : List Ref) (from to : Ref) (x : Term) → IsPart P (length row) from → IsPart P (length row) to
      → LeadsTo (plain row) from to → Meets P row held has given gives ((ref_term P to, x) ∷ [])
      → Meets P row held has given gives ((ref_term P from, x) ∷ [])
  led_meets held has given gives from to x begins ends leads meets =
      meets_so P row held has given gives ((ref_term P to, x) ∷ []) ((ref_term P from, x) ∷ []) meets
      (λ early. (ref_early P (length gives) from, early.1, tt))
      (λ later grows sound s is met. (led_term later s grows is.solves from to begins ends leads ∙ met.0, tt))
      (λ s solves noted met. (sym (led_term row s grows_itself solves from to begins ends leads) ∙ met.0, tt))

module _ (P : NamedProgram) (fall : AllFall 0 P.skeleton.nodes) where
  abbrev ts : List Term
  ts = terms_behind [] P.skeleton.nodes

  -- the term of a structure's node
  pub compound_is : (node name : ℕ) (ns : List ℕ) → shape_at P.skeleton node ≡ Skeletons.compound name ns
      → node_term P.skeleton.nodes node ≡ compound name (term_list (map (nth ts) ns))
  compound_is node name ns shape = node_term_shape P.skeleton.nodes node fall ∙ ap (shape_term ts) shape

  pub number_is : (node : ℕ) (s : Shape) → shape_at P.skeleton node ≡ s → node_term P.skeleton.nodes node ≡ shape_term ts s
  number_is node s shape = node_term_shape P.skeleton.nodes node fall ∙ ap (shape_term ts) shape

  ref_of_shape : (base n : ℕ) (s : Shape) → node_term P.skeleton.nodes n ≡ shape_term ts s
      → ref_term P (resolved s (record { 0 = n }) base) ≡ placed base (node_term P.skeleton.nodes n)
  ref_of_shape base n (Skeletons.variable k) shape = sym (ap (placed base) shape)
  ref_of_shape base n (Skeletons.number z) shape = refl
  ref_of_shape base n (Skeletons.compound name ns) shape = refl

  -- where an argument is found it has its term
  pub ref_of_part : (base n : ℕ) → ref_term P (part_at P base n) ≡ placed base (node_term P.skeleton.nodes n)
  ref_of_part base n = ref_of_shape base n (shape_at P.skeleton n) (node_term_shape P.skeleton.nodes n fall)

  -- ---- Pairs of arguments

  pub pairs_more : (base : ℕ) (ns hs : List ℕ) (n h : ℕ) → length ns ≡ length hs
      → argument_pairs P base (ns ++ n ∷ []) (hs ++ h ∷ [])
      ≡ argument_pairs P base ns hs ++ (ref_term P (part_at P base n), framed outside (node_term P.skeleton.nodes h)) ∷ []
  pairs_more base [] [] n h e =
      ap (λ (t : Term). (t, framed outside (node_term P.skeleton.nodes h)) ∷ []) (sym (ref_of_part base n))
  pairs_more base [] (g ∷ hs) n h e = absurd (omega arith)
  pairs_more base (m ∷ ns) [] n h e = absurd (omega arith)
  pairs_more base (m ∷ ns) (g ∷ hs) n h e =
      ap (λ (es : List Equation). (placed base (node_term P.skeleton.nodes m), framed outside (node_term P.skeleton.nodes g)) ∷ es)
      (pairs_more base ns hs n h (omega arith))

  pub pairs_solve : (base : ℕ) (s : Substitution) (ns hs : List ℕ) → length ns ≡ length hs → Solves s (argument_pairs P base ns hs)
      → apply_all s (apply_all (cells_from base) (term_list (map (nth ts) ns))) ≡ apply_all s (apply_all frame (term_list (map (nth ts) hs)))
  pairs_solve base s [] [] e solves = refl
  pairs_solve base s [] (h ∷ hs) e solves = absurd (omega arith)
  pairs_solve base s (n ∷ ns) [] e solves = absurd (omega arith)
  pairs_solve base s (n ∷ ns) (h ∷ hs) e solves =
      ap (λ (t : Term). more t (apply_all s (apply_all (cells_from base) (term_list (map (nth ts) ns))))) solves.0
      ∙ ap (λ (us : Terms). more (apply s (framed outside (node_term P.skeleton.nodes h))) us)
      (pairs_solve base s ns hs (omega arith) solves.1)

  pub solved_pairs : (base : ℕ) (s : Substitution) (ns hs : List ℕ) → length ns ≡ length hs
      → apply_all s (apply_all (cells_from base) (term_list (map (nth ts) ns))) ≡ apply_all s (apply_all frame (term_list (map (nth ts) hs)))
      → Solves s (argument_pairs P base ns hs)
  solved_pairs base s [] hs e same = tt
  solved_pairs base s (n ∷ ns) [] e same = absurd (omega arith)
  solved_pairs base s (n ∷ ns) (h ∷ hs) e same =
      let t : Term = apply s (placed base (node_term P.skeleton.nodes n)) in
      let u : Term = apply s (framed outside (node_term P.skeleton.nodes h)) in
      let us : Terms = apply_all s (apply_all (cells_from base) (term_list (map (nth ts) ns))) in
      let vs : Terms = apply_all s (apply_all frame (term_list (map (nth ts) hs))) in
      let both : more t us ≡ more u vs = same in
      (cc, solved_pairs base s ns hs (omega arith) (cc))

  pub pairs_front : (base : ℕ) (s : Substitution) (i : ℕ) (ns hs : List ℕ) → Solves s (argument_pairs P base ns hs)
      → Solves s (argument_pairs P base (take i ns) (take i hs))
  pairs_front base s zero ns hs solves = tt
  pairs_front base s (suc i) [] hs solves = tt
  pairs_front base s (suc i) (n ∷ ns) [] solves = tt
  pairs_front base s (suc i) (n ∷ ns) (h ∷ hs) solves = (solves.0, pairs_front base s i ns hs solves.1)

  pairs_early : (n base : ℕ) (s z : Substitution) → AgreeUpTo n s z → (ns hs : List ℕ) → length ns ≡ length hs
      → SpeakOf n (argument_pairs P base ns hs)
      → apply_all s (apply_all frame (term_list (map (nth ts) hs))) ≡ apply_all z (apply_all frame (term_list (map (nth ts) hs)))
  pairs_early n base s z agree [] [] e early = refl
  pairs_early n base s z agree [] (h ∷ hs) e early = absurd (omega arith)
  pairs_early n base s z agree (m ∷ ns) [] e early = absurd (omega arith)
  pairs_early n base s z agree (m ∷ ns) (h ∷ hs) e early =
      ap (λ (t : Term). more t (apply_all s (apply_all frame (term_list (map (nth ts) hs))))) (early.1.same s z agree)
      ∙ ap (λ (us : Terms). more (apply z (framed outside (node_term P.skeleton.nodes h))) us)
      (pairs_early n base s z agree ns hs (omega arith) early.2)

  -- ---- Structures of one kind

  module _ (row : List Ref) (held has : List ℕ) (given gives : List Ref) (node : NodeNo) (base : ℕ) (asked : ℕ) where
    abbrev two : List Equation
    two = (placed base (node_term P.skeleton.nodes node.0), framed outside (node_term P.skeleton.nodes asked)) ∷ []

    -- the same constant
    same_meets : (t : Term) → is_ground t ≡ true → node_term P.skeleton.nodes node.0 ≡ t → node_term P.skeleton.nodes asked ≡ t
        → Meets P row held has given gives [] → Meets P row held has given gives two
    same_meets t ground one other meets =
        let fixed : (s : Substitution) → apply s (framed outside (node_term P.skeleton.nodes asked)) ≡ t =
        λ s. ap (λ (u : Term). apply s (framed outside u)) other ∙ ap (apply s) (apply_ground frame t ground) ∙ apply_ground s t ground in
        meets_so P row held has given gives [] two meets
        (λ early. (ref_early P (length gives) (Node node base), record { same = λ s z agree. fixed s ∙ sym (fixed z) }, tt))
        (λ later grows sound s solves met. (
          ap (λ (u : Term). apply s (placed base u)) one ∙ ap (apply s) (apply_ground (cells_from base) t ground) ∙ apply_ground s t ground
              ∙ sym (fixed s),
          tt,
        )) (λ s solves noted met. tt)

    -- Structures of one name are one where their arguments are.
    arguments_solved : (name : ℕ) (ns hs : List ℕ) → shape_at P.skeleton node.0 ≡ Skeletons.compound name ns
        → shape_at P.skeleton asked ≡ Skeletons.compound name hs → length ns ≡ length hs → (s : Substitution) → Solves s two
        → Solves s (argument_pairs P base ns hs)
    arguments_solved name ns hs one other e s met =
        let us : Terms = apply_all s (apply_all (cells_from base) (term_list (map (nth ts) ns))) in
        let vs : Terms = apply_all s (apply_all frame (term_list (map (nth ts) hs))) in
        let both : compound name us ≡ compound name vs =
        sym (ap (λ (t : Term). apply s (placed base t)) (compound_is node.0 name ns one)) ∙ met.0
        ∙ ap (λ (t : Term). apply s (framed outside t)) (compound_is asked name hs other) in
        solved_pairs base s ns hs e (cc)

    -- one name, and arguments that are met
    compounds_meet : (name : ℕ) (ns hs : List ℕ) → shape_at P.skeleton node.0 ≡ Skeletons.compound name ns
        → shape_at P.skeleton asked ≡ Skeletons.compound name hs → length ns ≡ length hs
        → Meets P row held has given gives (argument_pairs P base ns hs) → Meets P row held has given gives two
    compounds_meet name ns hs one other e meets =
        let left : node_term P.skeleton.nodes node.0 ≡ compound name (term_list (map (nth ts) ns)) = compound_is node.0 name ns one in
        let right : node_term P.skeleton.nodes asked ≡ compound name (term_list (map (nth ts) hs)) = compound_is asked name hs other in
        meets_so P row held has given gives (argument_pairs P base ns hs) two meets
        (λ early. (
          ref_early P (length gives) (Node node base),
          subst (λ (t : Term). SpeaksOf (length gives) (framed outside t)) (sym right)
              (record { same = λ s z agree. ap (compound name) (pairs_early (length gives) base s z agree ns hs e early) }),
          tt,
        ))
        (λ later grows sound s solves met. (
          ap (λ (t : Term). apply s (placed base t)) left ∙ ap (compound name) (pairs_solve base s ns hs e met)
              ∙ sym (ap (λ (t : Term). apply s (framed outside t)) right),
          tt,
        )) (λ s solves noted met. arguments_solved name ns hs one other e s met)

    by_shapes : (a b : Shape) → shape_at P.skeleton node.0 ≡ a → shape_at P.skeleton asked ≡ b → shown a ≡ shown b
        → ((k : ℕ) → shape_at P.skeleton asked ≢ Skeletons.variable k)
        → Meets P row held has given gives (argument_pairs P base (arguments_in a) (arguments_in b)) → Meets P row held has given gives two
    by_shapes a (Skeletons.variable k) one other kinds solid meets = absurd (solid k other)
    by_shapes (Skeletons.variable j) (Skeletons.number z) one other kinds solid meets = absurd (cc)
    by_shapes (Skeletons.variable j) (Skeletons.compound d hs) one other kinds solid meets = absurd (cc)
    by_shapes (Skeletons.number y) (Skeletons.number z) one other kinds solid meets =
        let same : y ≡ z = cc in
        same_meets (number z) refl (number_is node.0 (Skeletons.number y) one ∙ ap number same) (number_is asked (Skeletons.number z) other) meets
    by_shapes (Skeletons.number y) (Skeletons.compound d hs) one other kinds solid meets = absurd (cc)
    by_shapes (Skeletons.compound c ns) (Skeletons.number z) one other kinds solid meets = absurd (cc)
    by_shapes (Skeletons.compound c ns) (Skeletons.compound d hs) one other kinds solid meets =
        let name : c ≡ d = ap named_in kinds in
        let counts : length ns ≡ length hs = ap count_of kinds in
        compounds_meet d ns hs (one ∙ ap (λ (x : ℕ). Skeletons.compound x ns) name) other counts meets

    parts_by_shapes : (a b : Shape) → shape_at P.skeleton node.0 ≡ a → shape_at P.skeleton asked ≡ b → shown a ≡ shown b
        → (s : Substitution) → Solves s two → Solves s (argument_pairs P base (arguments_in a) (arguments_in b))
    parts_by_shapes (Skeletons.variable j) b one other kinds s met = tt
    parts_by_shapes (Skeletons.number y) b one other kinds s met = tt
    parts_by_shapes (Skeletons.compound c ns) (Skeletons.variable k) one other kinds s met = absurd (cc)
    parts_by_shapes (Skeletons.compound c ns) (Skeletons.number z) one other kinds s met = absurd (cc)
    parts_by_shapes (Skeletons.compound c ns) (Skeletons.compound d hs) one other kinds s met =
        let name : c ≡ d = ap named_in kinds in
        arguments_solved d ns hs (one ∙ ap (λ (x : ℕ). Skeletons.compound x ns) name) other (ap count_of kinds) s met

    -- What makes structures of one kind one makes their arguments one.
    pub structures_one : shown (shape_at P.skeleton node.0) ≡ shown (shape_at P.skeleton asked) → (s : Substitution) → Solves s two
        → Solves s (argument_pairs P base (arguments_at P.skeleton node.0) (arguments_at P.skeleton asked))
    structures_one kinds s met = parts_by_shapes (shape_at P.skeleton node.0) (shape_at P.skeleton asked) refl refl kinds s met

    -- So a structure meets one of its kind where the arguments do.
    pub structure_meets : shown (shape_at P.skeleton node.0) ≡ shown (shape_at P.skeleton asked)
        → ((k : ℕ) → shape_at P.skeleton asked ≢ Skeletons.variable k)
        → Meets P row held has given gives (argument_pairs P base (arguments_at P.skeleton node.0) (arguments_at P.skeleton asked))
        → Meets P row held has given gives two
    structure_meets kinds solid meets = by_shapes (shape_at P.skeleton node.0) (shape_at P.skeleton asked) refl refl kinds solid meets

  -- ---- A cell that is filled

  module _ (row : List Ref) (held has : List ℕ) (given gives : List Ref) (cell asked : ℕ) where
    filled_by : (b : Shape) → shape_at P.skeleton asked ≡ b → ((k : ℕ) → shape_at P.skeleton asked ≢ Skeletons.variable k) → cell < length row
        → word_at row cell ≡ Free → (Contains held cell → ⊥) → AreLacking P row (held ++ cell ∷ []) has given gives (arguments_in b)
        → Meets P row held has given gives ((cell_variable cell, framed outside (node_term P.skeleton.nodes asked)) ∷ [])
    filled_by (Skeletons.variable k) other solid low was_free new are = absurd (solid k other)
    filled_by (Skeletons.number z) other solid low was_free new are =
        let is : framed outside (node_term P.skeleton.nodes asked) ≡ number z = ap (framed outside) (number_is asked (Skeletons.number z) other) in
        subst (λ (x : Term). Meets P row held has given gives ((cell_variable cell, x) ∷ [])) (sym is)
        (cell_filled P row (number z) held has given gives cell low was_free new
        (whole_lacks P row (number z) [] (held ++ cell ∷ []) has given gives (λ s each. record { stays = λ c i u. refl })
        (λ each. record { same = λ s z agree. refl }) are))
    filled_by (Skeletons.compound name hs) other solid low was_free new are =
        let x : Term = framed outside (compound name (term_list (map (nth ts) hs))) in
        let is : framed outside (node_term P.skeleton.nodes asked) ≡ x = ap (framed outside) (compound_is asked name hs other) in
        subst (λ (x : Term). Meets P row held has given gives ((cell_variable cell, x) ∷ [])) (sym is)
        (cell_filled P row x held has given gives cell low was_free new
        (whole_lacks P row x hs (held ++ cell ∷ []) has given gives
        (λ s each. record { stays = λ c i u. ap (compound name) (all_lack P row (held ++ cell ∷ []) s c u i hs each) })
        (λ each. record { same = λ s z agree. ap (compound name) (all_early P row (length gives) s z agree hs each) }) are))

    pub filled : ((k : ℕ) → shape_at P.skeleton asked ≢ Skeletons.variable k) → cell < length row → word_at row cell ≡ Free → (Contains held cell → ⊥)
        → AreLacking P row (held ++ cell ∷ []) has given gives (arguments_at P.skeleton asked)
        → Meets P row held has given gives ((cell_variable cell, framed outside (node_term P.skeleton.nodes asked)) ∷ [])
    filled solid low was_free new are = filled_by (shape_at P.skeleton asked) refl solid low was_free new are

-- ---- Kinds of nodes

module _ (P : NamedProgram) (fall : AllFall 0 P.skeleton.nodes) (n : ℕ) where
  shape_of_variable : (s : Shape) (k : ℕ) → shown s ≡ Variable k → s ≡ Skeletons.variable k
  shape_of_variable (Skeletons.variable j) k e = ap Skeletons.variable (ap variable_in e)
  shape_of_variable (Skeletons.number z) k e = absurd (cc)
  shape_of_variable (Skeletons.compound d hs) k e = absurd (cc)

  -- a node that is shown as a variable is that variable
  pub kind_variable : (k : ℕ) → shown (shape_at P.skeleton n) ≡ Variable k → node_term P.skeleton.nodes n ≡ variable [] k
  kind_variable k e = number_is P fall n (Skeletons.variable k) (shape_of_variable (shape_at P.skeleton n) k e)

  -- one that is shown as something else is none,
  pub number_solid : (z : ℤ) → shown (shape_at P.skeleton n) ≡ Number z → (k : ℕ) → shape_at P.skeleton n ≢ Skeletons.variable k
  number_solid z e k is = let both : Variable k ≡ Number z = sym (ap shown is) ∙ e in cc

  pub compound_solid : (name : NameNo) (count : ℕ) → shown (shape_at P.skeleton n) ≡ Compound name count
      → (k : ℕ) → shape_at P.skeleton n ≢ Skeletons.variable k
  compound_solid name count e k is = let both : Variable k ≡ Compound name count = sym (ap shown is) ∙ e in cc

  ground_shape : (s : Shape) → shape_at P.skeleton n ≡ s → arguments_in s ≡ [] → ((k : ℕ) → s ≢ Skeletons.variable k)
      → is_ground (node_term P.skeleton.nodes n) ≡ true
  ground_shape (Skeletons.variable k) is empty solid = absurd (solid k refl)
  ground_shape (Skeletons.number z) is empty solid = ap is_ground (number_is P fall n (Skeletons.number z) is)
  ground_shape (Skeletons.compound name hs) is empty solid =
      ap is_ground (compound_is P fall n name hs is) ∙ ap (λ (ms : List ℕ). are_ground (term_list (map (nth (terms_behind [] P.skeleton.nodes)) ms))) empty

  -- and without arguments it is ground.
  pub constant_ground : arguments_at P.skeleton n ≡ [] → ((k : ℕ) → shape_at P.skeleton n ≢ Skeletons.variable k)
      → is_ground (node_term P.skeleton.nodes n) ≡ true
  constant_ground empty solid = ground_shape (shape_at P.skeleton n) refl empty solid

-- none where there are none
pub no_arguments : (ns : List ℕ) (n : ℕ) → n ≡ length ns → n ≡ 0 → ns ≡ []
no_arguments [] n counted nothing = refl
no_arguments (m ∷ ns) n counted nothing = absurd (omega arith)
