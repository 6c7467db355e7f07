-- Frames that were put behind a row: what of a clause can be read there, and what its body asks.
use Rattle.std.proofs.Common.{ℕ, ◌+◌, ◌≡◌, ◌<◌, ◌≤◌, List, [], ◌∷◌, ◌++◌, length, get_or, refl, sym, ap, ◌∙◌, subst, inl, inr, arith, pos}
use Rattle.std.specs.Prelude.{Contains}
use Rattle.std.proofs.lemmas.List.Elements.{All-contains}
use Rattle.and_model.specs.Terms.{Path, Term, number, variables_of}
use Rattle.and_model.specs.Solutions.{Equation, Solves, Solvable, falsehood}
use Rattle.and_model.specs.Programs
use Rattle.and_model.specs.Programs.{Item, clause_at, clause_weight}
use Rattle.and_model.specs.Stands.{term_of}
use Rattle.and_model.specs.Store.{is_half}
use Rattle.and_model.specs.OwnVariables.{IsOwn, AreOwn}
use Rattle.and_model.specs.declared.goal.Goal.{Goal}
use Rattle.and_model.specs.declared.limits.TheConstants.{MAX_LIMIT}
use Rattle.and_model.specs.declared.reference.Ref.{Ref}
use Rattle.and_program.specs.Skeletons
use Rattle.and_program.specs.Skeletons.{NodeItem, node_term}
use Rattle.and_program.specs.Loaded.{nodes_at, shape_at}
use Rattle.and_laws.proofs.Ordered.{contains_cases, contains_none}
use Rattle.and_laws.proofs.Solving.{solves_back}
use Rattle.and_cells.specs.Ranges.{NamedProgram, IsNodeInRange, IsItemInRange}
use Rattle.and_cells.specs.Rows.{IsSound}
use Rattle.and_cells.specs.Seen.{word_at}
use Rattle.and_cells.specs.Meaning.{IsSettled, shallow_cells}
use Rattle.and_cells.specs.Parts.{part_at}
use Rattle.and_branch_laws.specs.OwnVariables.{IsLoaded}
use Rattle.and_branch_laws.specs.Reducing.{body_equations}
use Rattle.and_branch_laws.specs.Settling.{widened}
use Rattle.and_branch_laws.proofs.Clauses.{clause_nodes, item_in_range, clause_weighs_more, goal_range_more}
use Rattle.and_branch_laws.proofs.Growing.{head_is_own}
use Rattle.and_branch_laws.proofs.Lists.{all_of}
use Rattle.and_unify.specs.Settling.{KeepsBelow}
use Rattle.and_branch_laws.specs.Goals.{CanBeJudged}
use Rattle.and_branch_laws.specs.Goals.{CanBeRead}
use Rattle.and_step_laws.specs.Asking.{CanBeAsked}
use Rattle.and_step_laws.specs.Frames.{IsFrame, IsCallBelow}
use Rattle.and_branch_laws.proofs.Resolved.{resolved_not_below}
use Rattle.and_branch_laws.proofs.Widening.{widened_length, free_behind, names_within, settled_still}
use Rattle.and_branch_laws.proofs.Rows.{widened_words}

-- A frame that was put behind a settled row.
pub frame_opened : (P : NamedProgram) (row wide : List Ref) (clause : ℕ) → IsSound P row → IsSound P wide → IsSettled P row
    → wide ≡ widened row (clause_weight (clause_at P.program clause))
    → length row + clause_weight (clause_at P.program clause) ≤ MAX_LIMIT → IsFrame P wide clause (length row)
frame_opened P row wide clause sound wide_sound settled is short =
    let by : ℕ = clause_weight (clause_at P.program clause) in
    let long : length wide ≡ length row + by = ap length is ∙ widened_length row by in
    let word : (place : ℕ) → word_at wide place ≡ word_at row place =
    λ place. ap (λ (r : List Ref). word_at r place) is ∙ widened_words row by place in
    record {
      long = long;
      free = λ cell past. ap (λ (r : List Ref). word_at r cell) is ∙ free_behind row by cell past;
      named_below = λ cell r set.
          all_of (λ (x : ℕ). x < length row) (shallow_cells P r) (names_within P row cell r sound (sym (word cell) ∙ set.0, set.1));
      settled = subst (IsSettled P) (sym is) (settled_still P row by sound (subst (IsSound P) is wide_sound) settled);
      short = omega arith;
    }

-- A call that could be judged before still can, and its cells lie below the frame.
pub call_below : (P : NamedProgram) (row wide : List Ref) (by : ℕ) (g : Goal) → wide ≡ widened row by → CanBeJudged P row g
    → ((v : Path × ℕ) → Contains (variables_of (term_of P.program g)) v → g.base + 1 + v.1 < length row)
    → IsCallBelow P wide (length row) g
call_below P row wide by g is can low = record {
  judged = record {
    in_range = let long : length wide ≡ length row + by = ap length is ∙ widened_length row by in
        goal_range_more P (length row) (length wide) g (omega arith) can.in_range;
    term = can.term;
    is_call = can.is_call;
    whole = λ v c.
        ap is_half (ap (λ (r : List Ref). word_at r (g.base + 1 + v.1)) is ∙ widened_words row by (g.base + 1 + v.1)) ∙ can.whole v c;
  };
  below = low;
}

module _ (P : NamedProgram) (loaded : IsLoaded P) (row : List Ref) (c floor : ℕ) (there : c ≤ length P.program.clauses)
    (frame : IsFrame P row c floor) where
  -- what is in range in the frame can be read there
  own_reads : (n : ℕ) → IsNodeInRange P (length row) n floor → CanBeRead P row floor n
  own_reads n range = record {
    in_range = range;
    whole = λ v i. ap is_half (frame.free (floor + 1 + v.1) (omega arith));
  }

  -- and goes across no floor
  pub own_keeps : (n : ℕ) → KeepsBelow P floor (part_at P floor n)
  own_keeps n below = absurd (resolved_not_below floor (shape_at P.skeleton n) (record { 0 = n }) below)

  pub head_reads : CanBeRead P row floor (nodes_at P.skeleton c).head
  head_reads =
      let k = clause_nodes P loaded c there in
      let few = loaded.few in
      let long = frame.long in
      let short = frame.short in
      let weighs = clause_weighs_more (clause_at P.program c) in
      let head : ℕ = (nodes_at P.skeleton c).head in
      let own : AreOwn (clause_at P.program c).variables (node_term P.skeleton.nodes head) =
      subst (AreOwn (clause_at P.program c).variables) (sym k.head) (head_is_own P loaded.own c) in
      own_reads head (record {
        there = k.head_there;
        nameable = let low = k.head_there in omega arith;
        base_below = omega arith;
        cells = all_of (λ (v : Path × ℕ). floor + 1 + v.1 < length row) (variables_of (node_term P.skeleton.nodes head))
            (λ v i. let o = All-contains (IsOwn (clause_at P.program c).variables)
            (variables_of (node_term P.skeleton.nodes head)) v own i in
            let less = o.1 in omega arith);
      })

  can_be_asked : (x : NodeItem) → IsItemInRange P (length row) c floor x → CanBeAsked P row floor x
  can_be_asked (Skeletons.call n) range = tt
  can_be_asked (Skeletons.equal n m) range = (own_reads n range.0, own_reads m range.1)
  can_be_asked (Skeletons.is n m pair) range = tt
  can_be_asked (Skeletons.compare o n m) range = tt
  can_be_asked Skeletons.fail range = tt

  -- Each item of the body can be asked for.
  pub item_can_be_asked : (i : ℕ) → CanBeAsked P row floor (get_or (nodes_at P.skeleton c).items i Skeletons.fail)
  item_can_be_asked i =
      let long = frame.long in
      let short = frame.short in
      can_be_asked (get_or (nodes_at P.skeleton c).items i Skeletons.fail)
      (item_in_range P loaded c there (length row) floor (omega arith) (omega arith) i)

-- ---- What a body asks

-- what a body asks is what its first item asks, and what the others ask
pub first_asked : (put : Term → Term) (x : Item) (items : List Item)
    → body_equations put (x ∷ items) ≡ body_equations put (x ∷ []) ++ body_equations put items
first_asked put (Programs.call g) items = refl
first_asked put (Programs.equal a b) items = refl
first_asked put (Programs.arithmetic a) items = refl
first_asked put Programs.fail items = refl

-- A body with `fail` asks for what has no solution.
false_is_unsolved : (s : _) → Solves s (falsehood ∷ []) → ⊥
false_is_unsolved s p = let e : number (pos 0) ≡ number (pos 1) = p.0 in absurd (cc)

failing_body : (put : Term → Term) (items : List Item) → Contains items Programs.fail → (s : _) → Solves s (body_equations put items) → ⊥
failing_body put [] c s p = contains_none Programs.fail c
failing_body put (x ∷ items) c s p = elim (contains_cases x Programs.fail items c) [
  | inl e ↦
      let q : Solves s (body_equations put (Programs.fail ∷ items)) =
      subst (λ (y : Item). Solves s (body_equations put (y ∷ items))) (sym e) p in
      false_is_unsolved s (q.0, tt)
  | inr i ↦
      failing_body put items i s (solves_back s (body_equations put (x ∷ [])) (body_equations put items)
      (subst (λ (es : List Equation). Solves s es) (first_asked put x items) p))
]

pub failing_unsolved : (front asked : List Equation) (put : Term → Term) (items : List Item) → Contains items Programs.fail
    → Solvable (front ++ (asked ++ body_equations put items)) → ⊥
failing_unsolved front asked put items c so =
    failing_body put items c so.0 (solves_back so.0 asked (body_equations put items)
    (solves_back so.0 front (asked ++ body_equations put items) so.1))
