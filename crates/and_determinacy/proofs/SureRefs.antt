-- References whose terms lack the cells that are held, and variables of the head that are met again.
use Rattle.std.proofs.Common.{ℕ, ◌≡◌, ◌≢◌, ◌<◌, ◌+◌, true, List, [], ◌∷◌, ◌++◌, append-nil, length, map, take, get_or, Some}
use Rattle.std.proofs.Common.{refl, sym, ap, ◌∙◌, subst, inl, inr, arith}
use Rattle.std.specs.Prelude.{All, Contains, pos}
use Rattle.std.proofs.lemmas.List.{get_or_default, map-append, take_more, take_all}
use Rattle.std.proofs.lemmas.Option.{same_Some, slice_get-get_or}
use Rattle.std.proofs.lemmas.List.Elements.{All-contains, All-push, Contains-append_cases, Contains-append_right}
use Rattle.and_model.specs.Terms.{Term, Terms, variable, compound, more, is_ground, Substitution, apply, apply_all, framed}
use Rattle.and_model.specs.Solutions.{Solves}
use Rattle.and_model.specs.declared.numbers.NodeNo.{NodeNo}
use Rattle.and_model.specs.declared.reference.Ref.{Ref}
use Rattle.and_model.specs.declared.reference.Ref.TheVariants.{Free, Cell, Node}
use Rattle.and_model.specs.declared.reference.Ref.TheVariants as reference
use Rattle.and_program.specs.Skeletons
use Rattle.and_program.specs.Skeletons.{Shape, term_list, nth, terms_behind, node_term, AllFall}
use Rattle.and_program.specs.Loaded.{shape_at, arguments_at}
use Rattle.and_program.specs.Shown.{arguments_in}
use Rattle.and_laws.proofs.Ordered.{contains_first, contains_more, contains_cases, contains_none}
use Rattle.and_laws.proofs.Substitutions.{apply_ground}
use Rattle.and_cells.specs.Ranges.{NamedProgram, IsInRange}
use Rattle.and_cells.specs.Rows.{plain}
use Rattle.and_cells.specs.Seen.{word_at, Grows, LeadsTo}
use Rattle.and_cells.specs.Meaning.{cell_variable, equations_of, number_in}
use Rattle.and_cells.specs.Parts.{part_at}
use Rattle.and_branch_laws.specs.Variables.{cells_from, placed}
use Rattle.and_branch_laws.specs.Judging.{outside}
use Rattle.and_determinacy.specs.Seeing.{SpeaksOf, only, LacksEach, ref_term, IsNoted, MayBeNoted, IsPart, IsUsable, Meets, AreLacking, HoldNone}
use Rattle.and_determinacy.proofs.SureHeads.{ref_early, variable_early, value_of_ref, only_other}
use Rattle.and_determinacy.proofs.SureParts.{led_value, part_whole, compound_is, number_is, ref_of_part, constant_ground, no_arguments}
use Rattle.and_determinacy.proofs.SureSteps.{free_front, longer_twice, leaves_more, lacks_fewer, meets_so, cell_filled}

-- what holds of the only one holds of each
each_of_one : (r : Ref) (Q : Ref → Type 0) → Q r → (q : Ref) → Contains (r ∷ []) q → Q q
each_of_one r Q holds q c = elim (contains_cases r q [] c) [ inl e ↦ subst Q (sym e) holds | inr i ↦ absurd (contains_none q i) ]

module _ (P : NamedProgram) (row : List Ref) where
  pub nothing_holds : (held : List ℕ) → HoldNone P row held held []
  nothing_holds held = record {
    gained = [];
    longer = sym (append-nil held);
    free = λ all. all;
    lacks = λ later grows sound settled free s solves leaves r c. absurd (contains_none r c);
  }

  pub both_hold : (held mid has : List ℕ) (rs : List Ref) (r : Ref) → HoldNone P row held mid rs → HoldNone P row mid has (r ∷ [])
      → HoldNone P row held has (rs ++ r ∷ [])
  both_hold held mid has rs r one other = record {
    gained = one.gained ++ other.gained;
    longer = longer_twice held mid has one.gained other.gained one.longer other.longer;
    free = λ all. other.free (one.free all);
    lacks = λ later grows sound settled free s solves leaves q c. elim (Contains-append_cases rs (r ∷ []) q c) [
      | inl before ↦ one.lacks later grows sound settled (free_front later mid has other.gained other.longer free) s solves leaves q before
      | inr last ↦ lacks_fewer P row held mid one.gained one.longer (apply s (ref_term P q))
          (other.lacks later grows sound settled free s solves (leaves_more later held mid one.gained one.longer s leaves) q last)
    ];
  }

  -- A free cell that is none of them does,
  pub cell_holds : (held : List ℕ) (cell : ℕ) → cell < length row → word_at row cell ≡ Free → (Contains held cell → ⊥)
      → HoldNone P row held (held ++ cell ∷ []) (Cell cell ∷ [])
  cell_holds held cell low was new = record {
    gained = cell ∷ [];
    longer = refl;
    free = λ all. All-push (λ (c : ℕ). word_at row c ≡ Free) held cell all was;
    lacks = λ later grows sound settled free s solves leaves.
        let long = grows.longer in
        let there : Contains (held ++ cell ∷ []) cell = Contains-append_right held (cell ∷ []) cell (contains_first cell []) in
        let still : word_at later cell ≡ Free = All-contains (λ (c : ℕ). word_at later c ≡ Free) (held ++ cell ∷ []) cell free there in
        let itself : s [] cell ≡ cell_variable cell = leaves cell (omega arith) still new in
        each_of_one (Cell cell) (λ (r : Ref). LacksEach held (apply s (ref_term P r))) (record {
          stays = λ c i u. ap (apply (only c u)) itself ∙ only_other c u cell (λ e. new (subst (Contains held) (sym e) i)) ∙ sym itself;
        });
  }

  -- what is always the same ground term,
  ground_holds : (held : List ℕ) (r : Ref) → ((later : List Ref) (s : Substitution) → (grows : Grows row later) → Solves s (equations_of P later)
      → (t : Term) × (apply s (ref_term P r) ≡ t) × (is_ground t ≡ true)) → HoldNone P row held held (r ∷ [])
  ground_holds held r always = record {
    gained = [];
    longer = sym (append-nil held);
    free = λ all. all;
    lacks = λ later grows sound settled free s solves leaves.
        let (t, is, ground) = always later s grows solves in
        each_of_one r (λ (q : Ref). LacksEach held (apply s (ref_term P q))) (record {
          stays = λ c i u. ap (apply (only c u)) is ∙ apply_ground (only c u) t ground ∙ sym is;
        });
  }

  constant_holds : (held : List ℕ) (node : NodeNo) (base : ℕ) → is_ground (node_term P.skeleton.nodes node.0) ≡ true
      → HoldNone P row held held (Node node base ∷ [])
  constant_holds held node base ground = ground_holds held (Node node base) (λ later s grows solves.
      let t : Term = node_term P.skeleton.nodes node.0 in
      (t, ap (apply s) (apply_ground (cells_from base) t ground) ∙ apply_ground s t ground, ground))

  pub number_holds : (held : List ℕ) (part : Ref) (pair : ℕ) → IsPart P (length row) part → LeadsTo (plain row) part (reference.Number pair)
      → HoldNone P row held held (part ∷ [])
  number_holds held part pair fits leads = ground_holds held part (λ later s grows solves. (
    number_in (word_at later) pair,
    same_Some (apply s (ref_term P part)) (number_in (word_at later) pair)
        (sym (value_of_ref P (word_at later) s (length row) part fits) ∙ led_value P row later s grows solves part (reference.Number pair) leads refl),
    refl,
  ))

  -- and what leads to what does.
  pub led_holds : (held has : List ℕ) (from to : Ref) → IsPart P (length row) from → IsPart P (length row) to → LeadsTo (plain row) from to
      → HoldNone P row held has (to ∷ []) → HoldNone P row held has (from ∷ [])
  led_holds held has from to begins ends leads holds = record {
    gained = holds.gained;
    longer = holds.longer;
    free = holds.free;
    lacks = λ later grows sound settled free s solves leaves.
        let words : ℕ = length row in
        let one : apply s (ref_term P from) ≡ apply s (ref_term P to) =
        same_Some (apply s (ref_term P from)) (apply s (ref_term P to))
        (sym (value_of_ref P (word_at later) s words from begins)
        ∙ led_value P row later s grows solves from to leads (part_whole P words to ends)
        ∙ value_of_ref P (word_at later) s words to ends) in
        each_of_one from (λ (q : Ref). LacksEach held (apply s (ref_term P q))) (subst (LacksEach held) (sym one)
        (holds.lacks later grows sound settled free s solves leaves to (contains_first to [])));
  }

  -- ---- Structures

  module _ (fall : AllFall 0 P.skeleton.nodes) where
    abbrev ts : List Term
    ts = terms_behind [] P.skeleton.nodes

    parts_lack : (held : List ℕ) (s : Substitution) (base c : ℕ) (u : Term) → Contains held c → (ns : List ℕ)
        → ((r : Ref) → Contains (map (part_at P base) ns) r → LacksEach held (apply s (ref_term P r)))
        → apply_all (only c u) (apply_all s (apply_all (cells_from base) (term_list (map (nth ts) ns))))
        ≡ apply_all s (apply_all (cells_from base) (term_list (map (nth ts) ns)))
    parts_lack held s base c u i [] each = refl
    parts_lack held s base c u i (n ∷ ns) each =
        let us : Terms = apply_all s (apply_all (cells_from base) (term_list (map (nth ts) ns))) in
        let first : LacksEach held (apply s (placed base (node_term P.skeleton.nodes n))) =
        subst (λ (t : Term). LacksEach held (apply s t)) (ref_of_part P fall base n)
        (each (part_at P base n) (contains_first (part_at P base n) (map (part_at P base) ns))) in
        ap (λ (t : Term). more t (apply_all (only c u) us)) (first.stays c i u)
        ∙ ap (λ (vs : Terms). more (apply s (placed base (node_term P.skeleton.nodes n))) vs)
        (parts_lack held s base c u i ns (λ r k. each r (contains_more (part_at P base n) r (map (part_at P base) ns) k)))

    whole_lacks : (held : List ℕ) (s : Substitution) (node : NodeNo) (base : ℕ) (a : Shape) → shape_at P.skeleton node.0 ≡ a
        → ((k : ℕ) → shape_at P.skeleton node.0 ≢ Skeletons.variable k)
        → ((r : Ref) → Contains (map (part_at P base) (arguments_in a)) r → LacksEach held (apply s (ref_term P r)))
        → LacksEach held (apply s (ref_term P (Node node base)))
    whole_lacks held s node base (Skeletons.variable k) is solid each = absurd (solid k is)
    whole_lacks held s node base (Skeletons.number z) is solid each =
        subst (λ (t : Term). LacksEach held (apply s (placed base t))) (sym (number_is P fall node.0 (Skeletons.number z) is))
        (record { stays = λ c i u. refl })
    whole_lacks held s node base (Skeletons.compound name ns) is solid each =
        subst (λ (t : Term). LacksEach held (apply s (placed base t))) (sym (compound_is P fall node.0 name ns is))
        (record { stays = λ c i u. ap (compound name) (parts_lack held s base c u i ns each) })

    -- A structure holds none where its parts do.
    structure_holds : (held has : List ℕ) (node : NodeNo) (base : ℕ) → ((k : ℕ) → shape_at P.skeleton node.0 ≢ Skeletons.variable k)
        → HoldNone P row held has (map (part_at P base) (arguments_at P.skeleton node.0)) → HoldNone P row held has (Node node base ∷ [])
    structure_holds held has node base solid holds = record {
      gained = holds.gained;
      longer = holds.longer;
      free = holds.free;
      lacks = λ later grows sound settled free s solves leaves.
          each_of_one (Node node base) (λ (q : Ref). LacksEach held (apply s (ref_term P q)))
          (whole_lacks held s node base (shape_at P.skeleton node.0) refl solid (holds.lacks later grows sound settled free s solves leaves));
    }

    -- So it does where those before its last part do, and then that part.
    pub last_holds : (held mid has : List ℕ) (node : NodeNo) (base last : ℕ) → ((k : ℕ) → shape_at P.skeleton node.0 ≢ Skeletons.variable k)
        → last + 1 ≡ length (arguments_at P.skeleton node.0)
        → HoldNone P row held mid (map (part_at P base) (take last (arguments_at P.skeleton node.0)))
        → HoldNone P row mid has (part_at P base (get_or (arguments_at P.skeleton node.0) last 0) ∷ []) → HoldNone P row held has (Node node base ∷ [])
    last_holds held mid has node base last solid counted before at_last =
        let args = arguments_at P.skeleton node.0 in
        let m : ℕ = get_or args last 0 in
        let whole : map (part_at P base) (take last args) ++ part_at P base m ∷ [] ≡ map (part_at P base) args =
        sym (map-append (part_at P base) (take last args) (m ∷ [])) ∙ ap (map (part_at P base)) (sym (take_more args last 0 (omega arith)))
        ∙ ap (map (part_at P base)) (take_all (last + 1) args (omega arith)) in
        structure_holds held has node base solid (subst (HoldNone P row held has) whole
        (both_hold held mid has (map (part_at P base) (take last args)) (part_at P base m) before at_last))

  -- a node in range that is no variable
  pub solid_node : (words : ℕ) (node : NodeNo) (base : ℕ) → IsInRange P words (Node node base) → (k : ℕ)
      → shape_at P.skeleton node.0 ≢ Skeletons.variable k
  solid_node words node base fits k is =
      fits.1 k (slice_get-get_or P.skeleton.nodes node.0 (Skeletons.number (pos 0)) fits.0.there ∙ ap (λ (s : Shape). Some s) is)

  -- A node without arguments holds none.
  pub bare_holds : AllFall 0 P.skeleton.nodes → (held : List ℕ) (node : NodeNo) (base : ℕ) → IsInRange P (length row) (Node node base)
      → length (arguments_at P.skeleton node.0) ≡ 0 → HoldNone P row held held (Node node base ∷ [])
  bare_holds fall held node base fits nothing =
      let empty = no_arguments (arguments_at P.skeleton node.0) 0 (sym nothing) refl in
      constant_holds held node base (constant_ground P fall node.0 empty (solid_node (length row) node base fits))

  -- ---- What is met again

  -- A free cell of the call is given what a reference is.
  pub cell_joined : (held has : List ℕ) (given : List Ref) (cell : ℕ) (other : Ref) → cell < length row → word_at row cell ≡ Free
      → (Contains held cell → ⊥) → HoldNone P row (held ++ cell ∷ []) has (other ∷ [])
      → Meets P row held has given given ((cell_variable cell, ref_term P other) ∷ [])
  cell_joined held has given cell other low was new holds =
      let mid : List ℕ = held ++ cell ∷ [] in
      cell_filled P row (ref_term P other) held has given given cell low was new (record {
        gained = holds.gained;
        longer = holds.longer;
        taller = omega arith;
        free = holds.free;
        usable = λ all. all;
        early = ref_early P (length given) other;
        noted = λ s noted. noted;
        lacks = λ later grows sound settled free s is. (
          record {
            solves = is.solves;
            others = leaves_more later mid has holds.gained holds.longer s is.others;
            unseen = is.unseen;
            seen = is.seen;
          },
          holds.lacks later grows sound settled free s is.solves is.others other (contains_first other []),
        );
      })

  pub meets_back : (held has : List ℕ) (given gives : List Ref) (x y : Term) → Meets P row held has given gives ((x, y) ∷ [])
      → Meets P row held has given gives ((y, x) ∷ [])
  meets_back held has given gives x y meets =
      meets_so P row held has given gives ((x, y) ∷ []) ((y, x) ∷ []) meets (λ early. (early.1, early.0, tt))
      (λ later grows sound s is met. (sym met.0, tt)) (λ s solves noted met. (sym met.0, tt))

  -- what was noted of a variable it is
  noted_value : (later : List Ref) (s : Substitution) (k : ℕ) (r : Ref) → IsPart P (length row) r → IsNoted P later s k r
      → apply s (ref_term P r) ≡ s outside k
  noted_value later s k r fits (inl fresh) = absurd (subst (IsPart P (length row)) fresh.0 fits)
  noted_value later s k r fits (inr told) =
      same_Some (apply s (ref_term P r)) (s outside k) (sym (value_of_ref P (word_at later) s (length row) r fits) ∙ told)

  pub noted_term : (s : Substitution) (k : ℕ) (r : Ref) → IsPart P (length row) r → MayBeNoted P s k r → apply s (ref_term P r) ≡ s outside k
  noted_term s k r fits (inl unset) = absurd (subst (IsPart P (length row)) unset fits)
  noted_term s k r fits (inr is) = is

  -- A variable is met again where what was noted of it is,
  pub noted_meets : (held has : List ℕ) (given : List Ref) (part : Ref) (k : ℕ) → k < length given → IsPart P (length row) (get_or given k Free)
      → Meets P row held has given given ((ref_term P part, ref_term P (get_or given k Free)) ∷ [])
      → Meets P row held has given given ((ref_term P part, variable outside k) ∷ [])
  noted_meets held has given part k low fits meets =
      meets_so P row held has given given ((ref_term P part, ref_term P (get_or given k Free)) ∷ []) ((ref_term P part, variable outside k) ∷ []) meets
      (λ early. (early.0, variable_early (length given) k low, tt))
      (λ later grows sound s is met. (met.0 ∙ noted_value later s k (get_or given k Free) fits (is.seen k low), tt))
      (λ s solves noted met. (met.0 ∙ sym (noted_term s k (get_or given k Free) fits (noted k low)), tt))

  -- and lacks what that lacks.
  pub noted_lacks : (held has : List ℕ) (given : List Ref) (h k : ℕ) → node_term P.skeleton.nodes h ≡ variable [] k → k < length given
      → IsPart P (length row) (get_or given k Free) → HoldNone P row held has (get_or given k Free ∷ [])
      → AreLacking P row held has given given (h ∷ [])
  noted_lacks held has given h k shape low fits holds =
      let r : Ref = get_or given k Free in
      let x : Term = framed outside (node_term P.skeleton.nodes h) in
      let is_variable : x ≡ variable outside k = ap (framed outside) shape in
      let one : (j : ℕ) → Contains (h ∷ []) j → j ≡ h =
      λ j c. elim (contains_cases h j [] c) [ inl e ↦ e | inr i ↦ absurd (contains_none j i) ] in
      record {
        gained = holds.gained;
        longer = holds.longer;
        taller = omega arith;
        free = holds.free;
        usable = λ all. all;
        early = λ j c. subst (λ (i : ℕ). SpeaksOf (length given) (framed outside (node_term P.skeleton.nodes i))) (sym (one j c))
            (subst (SpeaksOf (length given)) (sym is_variable) (variable_early (length given) k low));
        noted = λ s noted. noted;
        lacks = λ later grows sound settled free s is. (
          record {
            solves = is.solves;
            others = leaves_more later held has holds.gained holds.longer s is.others;
            unseen = is.unseen;
            seen = is.seen;
          },
          λ j c. subst (λ (i : ℕ). LacksEach held (apply s (framed outside (node_term P.skeleton.nodes i)))) (sym (one j c))
              (subst (λ (t : Term). LacksEach held (apply s t)) (sym is_variable)
              (subst (LacksEach held) (noted_value later s k r fits (is.seen k low))
              (holds.lacks later grows sound settled free s is.solves is.others r (contains_first r [])))),
        );
      }

  -- What was noted of a variable is a part, unless it is itself.
  pub usable_at : (given : List Ref) (k : ℕ) → k < length given → All (IsUsable P (length row)) given → get_or given k Free ≢ Free
      → IsPart P (length row) (get_or given k Free)
  usable_at given k low all set =
      go (All-contains (IsUsable P (length row)) given (get_or given k Free) all
      (k, low, sym (get_or_default given k Free (get_or given k Free) low)))
    where
      go : IsUsable P (length row) (get_or given k Free) → IsPart P (length row) (get_or given k Free)
      go (inl unset) = absurd (set unset)
      go (inr fits) = fits
