-- A clause that fell in a trial over cells is no candidate in any row that has what is known below.
use Rattle.std.proofs.Common.{ℕ, ◌+◌, ◌≡◌, ◌<◌, ◌≤◌, Bool, true, false, true≢false, not, cond, List, [], ◌∷◌, ◌++◌, map, length, take, drop, Some, refl, sym}
use Rattle.std.proofs.Common.{ap, subst, ◌∙◌, inl, inr, arith}
use Rattle.std.specs.Prelude.{Contains, filter}
use Rattle.std.proofs.lemmas.List.{take-append-drop}
use Rattle.std.proofs.lemmas.List.Elements.{All-contains, Contains-append_left, Contains-append_right, Contains-append_cases}
use Rattle.std.proofs.lemmas.Option.{same_Some}
use Rattle.and_model.specs.Terms.{Path, Term, none, more, variables_of, Substitution, apply, framed}
use Rattle.and_model.specs.Solutions.{Equation, Solves}
use Rattle.and_model.specs.Programs
use Rattle.and_model.specs.Programs.{Item, Arithmetic, Of, clause_at}
use Rattle.and_model.specs.Candidates.{In, guard, Refuted}
use Rattle.and_model.specs.Store.{Known, is_half}
use Rattle.and_model.specs.declared.numbers.ClauseNo.{ClauseNo}
use Rattle.and_model.specs.declared.reference.Ref.{Ref}
use Rattle.and_model.specs.declared.reference.Ref.TheVariants.{Free, Cell, Node, Number, Half}
use Rattle.and_program.specs.Skeletons.{NodeItem, call, equal, is, compare, fail, node_term, item_of, AllFall}
use Rattle.and_laws.proofs.Ordered.{contains_first, contains_cases, contains_none, contains_more}
use Rattle.and_laws.proofs.Substitutions.{apply_then}
use Rattle.std.proofs.lemmas.List.{get_or_past}
use Rattle.and_cells.specs.Ranges.{NamedProgram, IsNodeInRange, CanHold, IsInRange}
use Rattle.and_cells.specs.Seen.{Seen, Knows, IsSetTo, IsCoherent, word_at}
use Rattle.and_cells.specs.Meaning.{Words, shallow_cells, equations_of}
use Rattle.and_cells.specs.Joined.{value}
use Rattle.and_cells.specs.Parts.{part_at}
use Rattle.and_cells.proofs.Among.{among_none, among_map}
use Rattle.and_cell_laws.proofs.Images.{contains_origin}
use Rattle.and_cell_laws.proofs.Structures.{in_frame, value_of_part}
use Rattle.and_overlay.specs.Overlaid.{Own, is_own, own_known, not_own, known_over, seen_over, IsKnownFit, AreLate, IsOver}
use Rattle.and_overlay.proofs.Knowing.{settings_of, knows_from, listed_knows}
use Rattle.and_branch_laws.specs.Variables.{SpeaksOf, placed, cells_from}
use Rattle.and_branch_laws.specs.Judging.{outside}
use Rattle.and_branch_laws.proofs.PairEquations.{part_cells}
use Rattle.and_branch_laws.proofs.Rows.{words_solved}
use Rattle.and_branch_laws.proofs.Speaking.{variables_applied}
use Rattle.and_unify.specs.declared.pairs.Pair.{Pair}
use Rattle.and_unify.proofs.TurnAgree.{agree_from_solves}
use Rattle.and_shared_determinacy.specs.Truths.{Denotes, AreOne, AreTrue, ArePairsTrue}
use Rattle.and_shared_determinacy.specs.Weighing.{NamesNoHalf, FailsOver, GuardFailsOver}
use Rattle.and_clause_index.specs.Selecting.{HasSeen, IsWholeAt, IsNoCandidate}
use Rattle.and_guards.proofs.Moving.{IsLow, low_same, moved_same, inward, inward_agrees, inward_moved}
use Rattle.and_guards.proofs.Widening.{same_value}
use Rattle.and_guards.proofs.Refuting.{both_ground}

-- ---- What an overlay learnt

-- what stands in front of a list or not
one_there : (b : Bool) (x : Known) (few ks : List Known) (k : Known) → (Contains few k → Contains ks k) → Contains (cond b (x ∷ few) few) k
    → Contains (x ∷ ks) k
one_there true x few ks k rest c = elim (contains_cases x k few c) [
  | inl e ↦ subst (λ (y : Known). Contains (x ∷ ks) y) (sym e) (contains_first x ks)
  | inr later ↦ contains_more x k ks (rest later)
]
one_there false x few ks k rest c = contains_more x k ks (rest c)

-- what is left of a list was there
filter_there : (p : Known → Bool) (ks : List Known) (k : Known) → Contains (filter p ks) k → Contains ks k
filter_there p [] k i = i
filter_there p (x ∷ ks) k i = one_there (p x) x (filter p ks) ks k (filter_there p ks k) i

-- what was learnt is known below
learnt_below : (own : List Own) (known : List Known) (k : Known) → AreLate own known → Contains (known_over own known) k → k.is_own ≡ false → Contains known k
learnt_below [] known k late i other = i
learnt_below (o ∷ own) known k late i other =
    let whole : take (length o.before) known ++ drop (length o.before) known ≡ known = take-append-drop (length o.before) known in
    elim (Contains-append_cases (known_over own o.before) (own_known o ∷ not_own (o ∷ own) (drop (length o.before) known)) k i) [
      | inl old ↦ subst (λ (ks : List Known). Contains ks k) whole
          (Contains-append_left (take (length o.before) known) (drop (length o.before) known) k
          (subst (λ (ks : List Known). Contains ks k) late.0 (learnt_below own o.before k late.2 old other)))
      | inr later ↦ elim (contains_cases (own_known o) k (not_own (o ∷ own) (drop (length o.before) known)) later) [
        | inl e ↦ absurd (true≢false (sym (ap (λ (x : Known). x.is_own) e) ∙ other))
        | inr since ↦ subst (λ (ks : List Known). Contains ks k) whole
            (Contains-append_right (take (length o.before) known) (drop (length o.before) known) k
            (filter_there (λ (x : Known). not (is_own (o ∷ own) x.setting.place)) (drop (length o.before) known) k since))
      ]
    ]

module _ (T : ℕ → Ref → Type 0) (P : NamedProgram) (s : Seen) (are : (place : ℕ) (r : Ref) → Knows s place r → T place r) where
  -- What holds of all that is known below holds of all that an overlay knows before something is set in it,
  pub begun_hold : (old : Seen) (frame : ℕ) (looked : List ℕ) → IsOver P old frame [] looked → IsCoherent old
      → ((place : ℕ) (r : Ref) → Knows old place r → Knows s place r)
      → (place : ℕ) (r : Ref) → Knows (seen_over old frame [] looked) place r → T place r
  begun_hold old frame looked over coherent keeps place r knows =
      elim (knows_from old frame [] looked (settings_of P old frame [] looked over coherent) place r knows) [
        | inl own ↦ absurd (among_none (record { place = place; value = r }) own)
        | inr below ↦ are place r (keeps place r below.1)
      ]

  -- and of all that it learns.
  pub learnt_hold : (frame : ℕ) (own : List Own) (looked : List ℕ) → IsOver P s frame own looked → IsCoherent s
      → (k : Known) → Contains (known_over own s.known) k → k.is_own ≡ false → T k.setting.place k.setting.value
  learnt_hold frame own looked over coherent k among other =
      are k.setting.place k.setting.value (listed_knows s coherent k.setting.place k.setting.value
      (among_map (λ (x : Known). x.setting) k s.known (learnt_below own s.known k over.late among other)))

-- ---- A row that has what is known

-- what a word of a row that fits may name lies within it
held_low : (P : NamedProgram) (words place : ℕ) (r : Ref) → place < words → CanHold P words place r → (cell : ℕ)
    → Contains (shallow_cells P r) cell → cell < words
held_low P words place Free below fits cell c = absurd (contains_none cell c)
held_low P words place (Cell other) below fits cell c =
    elim (contains_cases other cell [] c) [ inl e ↦ omega (arith, fits, e) | inr i ↦ absurd (contains_none cell i) ]
held_low P words place (Node node base) below fits cell c =
    let (v, at, same) = contains_origin (λ (v : Path × ℕ). base + 1 + v.1) (variables_of (node_term P.skeleton.nodes node.0)) cell c in
    let low : base + 1 + v.1 < words =
    All-contains (λ (v : Path × ℕ). base + 1 + v.1 < words) (variables_of (node_term P.skeleton.nodes node.0)) v fits.0.cells at in
    omega (arith, low, same)
held_low P words place (Number pair) below fits cell c = absurd (contains_none cell c)
held_low P words place (Half bits) below fits cell c = absurd (contains_none cell c)

module _ (P : NamedProgram) (fall : AllFall 0 P.skeleton.nodes) (s : Seen) (fit : IsKnownFit P s) (row : List Ref) (has : HasSeen s row) where
  abbrev floor : ℕ
  floor = s.words

  abbrev cells : Words
  cells = word_at row

  -- What is known is true in each solution of the row, carried over to a frame behind it.
  pub row_true : (z : Substitution) → Solves z (equations_of P row) → AreTrue P (word_at row) (inward s.words z) s
  row_true z solves place r knows =
      let set : IsSetTo row place r = has.set place r knows in
      let fits = fit place r knows in record {
        named = λ node base e. let there : IsInRange P floor (Node node base) = subst (CanHold P floor place) e fits.1 in there.1;
        alike = inl (sym set.0);
        one = λ no_half.
            let whole : is_half r ≡ false = ap is_half (sym set.0) ∙ no_half in
            let a = agree_from_solves P cells z (Cell place) r (words_solved P row z solves place r set whole) in
            let left : value P cells z (Cell place) ≡ value P cells (inward floor z) (Cell place) =
            ap (λ (x : Term). Some x) (inward_agrees floor z place fits.0) in
            let right : value P cells z r ≡ value P cells (inward floor z) r =
            same_value P cells floor z (inward floor z) (inward_agrees floor z) r (held_low P floor place r fits.0 fits.1) in
            (a.term, record { is = sym left ∙ a.left; whole = a.left_whole }, record { is = sym right ∙ a.right; whole = a.right_whole });
      }

  -- words behind the row are free
  behind_free : (cell : ℕ) → floor ≤ cell → is_half (word_at row cell) ≡ false
  behind_free cell past = ap is_half (get_or_past row cell Free (let long = has.long in omega arith))

  -- so a node names no half there
  pub frame_whole : (n : ℕ) → NamesNoHalf P (word_at row) (part_at P s.words n)
  frame_whole n cell c =
      let (v, at, same) = part_cells P floor n fall cell c in
      behind_free cell (omega (arith, same))

  -- what a term of the frame is
  pub frame_term : (z : Substitution) (n : ℕ) → apply (in_frame (inward s.words z) s.words) (node_term P.skeleton.nodes n)
      ≡ apply z (framed outside (node_term P.skeleton.nodes n))
  frame_term z n =
      let t : Substitution = inward floor z in
      sym (apply_then (cells_from floor) t (node_term P.skeleton.nodes n)) ∙ moved_same floor z t (inward_moved floor z) (node_term P.skeleton.nodes n)

  module _ (node base : ℕ) (range : IsNodeInRange P s.words node base) (whole : IsWholeAt row base (node_term P.skeleton.nodes node)) where
    abbrev call_term : Term
    call_term = placed base (node_term P.skeleton.nodes node)

    -- the call's cells are of the row
    call_low : SpeaksOf (IsLow s.words) (placed base (node_term P.skeleton.nodes node))
    call_low v c =
        let (x, at, same) = variables_applied (cells_from base) (node_term P.skeleton.nodes node) v c in
        let low : base + 1 + x.1 < floor =
        All-contains (λ (v : Path × ℕ). base + 1 + v.1 < floor) (variables_of (node_term P.skeleton.nodes node)) x range.cells at in
        elim (contains_cases ([], base + 1 + x.1) v [] same) [
          | inl e ↦ subst (IsLow floor) (sym e) (refl, low)
          | inr i ↦ absurd (contains_none v i)
        ]

    -- The call and the head have one term where some solution makes them one.
    pub call_is_head : (z : Substitution) (head : ℕ) → apply z (placed base (node_term P.skeleton.nodes node))
        ≡ apply z (framed outside (node_term P.skeleton.nodes head))
        → ArePairsTrue P (word_at row) (inward s.words z) (record { left = part_at P base node; right = part_at P s.words head } ∷ [])
    call_is_head z head asked p among =
        let t : Substitution = inward floor z in
        let u : Term = apply (in_frame t base) (node_term P.skeleton.nodes node) in
        let to_call : apply t call_term ≡ u = apply_then (cells_from base) t (node_term P.skeleton.nodes node) in
        let same : apply (in_frame t floor) (node_term P.skeleton.nodes head) ≡ u =
        frame_term z head ∙ sym asked ∙ low_same floor z t (inward_agrees floor z) call_term call_low ∙ to_call in
        let left : Denotes P cells t (part_at P base node) u = record {
          is = value_of_part P cells t base node fall;
          whole = λ cell c. let (v, at, same) = part_cells P base node fall cell c in ap (λ (m : ℕ). is_half (word_at row m)) same ∙ whole v at;
        } in
        let right : Denotes P cells t (part_at P floor head) u = record {
          is = value_of_part P cells t floor head fall ∙ ap (λ (x : Term). Some x) same;
          whole = frame_whole head;
        } in
        let pair : Pair = record { left = part_at P base node; right = part_at P floor head } in
        elim (contains_cases pair p [] among) [
          | inl e ↦ subst (λ (x : Pair). AreOne P cells t x.left x.right) (sym e) (u, left, right)
          | inr i ↦ absurd (contains_none p i)
        ]

  -- ---- A guard that fails

  module _ (es : List Equation) (last : Seen) (all : (z : Substitution) → Solves z es
      → AreTrue P (word_at row) (inward s.words z) last) (z : Substitution) (solves : Solves z es) where
    refuted_one : (o : _) (n m : ℕ) → FailsOver P last o (part_at P s.words n) (part_at P s.words m)
        → Refuted es (Programs.compare o (framed outside (node_term P.skeleton.nodes n)) (framed outside (node_term P.skeleton.nodes m)))
    refuted_one o n m f =
        let (x, y, one, two, fails, each) = f.terms cells (frame_whole n) (frame_whole m) (inward floor z) (all z solves) in (
          more x (more y none),
          (
            both_ground x y one two,
            λ other h.
                let t : Substitution = inward floor other in
                let both = each t (all other h) in
                let first : apply other (framed outside (node_term P.skeleton.nodes n)) ≡ x =
                sym (frame_term other n)
                ∙ same_Some (apply (in_frame t floor) (node_term P.skeleton.nodes n)) x (sym (value_of_part P cells t floor n fall) ∙ both.0) in
                let second : apply other (framed outside (node_term P.skeleton.nodes m)) ≡ y =
                sym (frame_term other m)
                ∙ same_Some (apply (in_frame t floor) (node_term P.skeleton.nodes m)) y (sym (value_of_part P cells t floor m fall) ∙ both.1) in
                ap (λ (a : Term). more a (more (apply other (framed outside (node_term P.skeleton.nodes m))) none)) first
                ∙ ap (λ (b : Term). more x (more b none)) second,
          ),
          ap not fails,
        )

    pub refuted_some : (items : List NodeItem) → GuardFailsOver P last s.words items
        → (a : Arithmetic) × In a (guard outside (map (item_of P.skeleton.nodes) items)) × Refuted es a
    refuted_some [] f = elim f [ ]
    refuted_some (call n ∷ items) f = elim f [ ]
    refuted_some (equal n m ∷ items) f = elim f [ ]
    refuted_some (is n m pair ∷ items) f = elim f [ ]
    refuted_some (fail ∷ items) f = elim f [ ]
    refuted_some (compare o n m ∷ items) (inl f) =
        (Programs.compare o (framed outside (node_term P.skeleton.nodes n)) (framed outside (node_term P.skeleton.nodes m)), inl refl, refuted_one o n m f)
    refuted_some (compare o n m ∷ items) (inr f) = let found = refuted_some items f in (found.0, inr found.1, found.2)

-- ---- A clause that fell

module _ (P : NamedProgram) (fall : AllFall 0 P.skeleton.nodes) (s : Seen) (fit : IsKnownFit P s) (node base : ℕ) (range : IsNodeInRange P s.words node base)
    (c : ClauseNo) (head : ℕ) (head_is : node_term P.skeleton.nodes head ≡ (clause_at P.program c.0).head) where
  abbrev pub trial_pair : Pair
  trial_pair = record { left = part_at P base node; right = part_at P s.words head }

  -- what is known below is true, and so are the two sides
  abbrev pub IsTrialOf : Words → Substitution → Type 0
  IsTrialOf w t = AreTrue P w t s × ArePairsTrue P w t (record { left = part_at P base node; right = part_at P s.words head } ∷ [])

  abbrev equations : List Ref → List Equation
  equations row = (placed base (node_term P.skeleton.nodes node), framed outside (clause_at P.program c.0).head) ∷ equations_of P row

  trial_of : (row : List Ref) → HasSeen s row → IsWholeAt row base (node_term P.skeleton.nodes node) → (z : Substitution) → Solves z (equations row)
      → IsTrialOf (word_at row) (inward s.words z)
  trial_of row has whole z solves = (
    row_true P fall s fit row has z solves.1,
    call_is_head P fall s fit row has node base range whole z head (solves.0 ∙ ap (λ (x : Term). apply z (framed outside x)) (sym head_is)),
  )

  -- It falls where there is no trial of it,
  pub falls_apart : ((w : Words) (t : Substitution) → IsTrialOf w t → ⊥) → IsNoCandidate P s node base c
  falls_apart never row has whole k = never (word_at row) (inward s.words k.1.0) (trial_of row has whole k.1.0 k.1.1)

  -- and where its guard fails in each.
  pub falls_guarded : (last : Seen) (items : List NodeItem) → map (item_of P.skeleton.nodes) items ≡ (clause_at P.program c.0).body
      → ((w : Words) (t : Substitution) → IsTrialOf w t → AreTrue P w t last) → GuardFailsOver P last s.words items → IsNoCandidate P s node base c
  falls_guarded last items body_is all fails row has whole k =
      let (a, there, refuted) = refuted_some P fall s fit row has (equations row) last
      (λ z h. all (word_at row) (inward s.words z) (trial_of row has whole z h)) k.1.0 k.1.1 items fails in
      k.2 a (subst (λ (body : List Item). In a (guard outside body)) body_is there) refuted
