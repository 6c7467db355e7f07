-- What is prepared for a trial meets what unification asks, and what its answers say of the clause.
use Rattle.std.proofs.Common.{ℕ, ◌+◌, ◌≡◌, ◌<◌, ◌≤◌, Bool, true, false, true≢false, not, List, [], ◌∷◌, length, map, refl, sym, ap}
use Rattle.std.proofs.Common.{◌∙◌, subst, inl, inr, arith}
use Rattle.std.specs.Prelude.{◌↔◌}
use Rattle.std.proofs.lemmas.List.Elements.{All-weaker}
use Rattle.and_model.specs.Terms.{Path, variables_of}
use Rattle.and_model.specs.Solutions.{Solvable}
use Rattle.and_model.specs.Programs.{Of, clause_at}
use Rattle.and_model.specs.Candidates.{Candidate}
use Rattle.and_model.specs.Store.{is_half}
use Rattle.and_model.specs.OwnVariables.{IsOwn, AreOwn}
use Rattle.and_model.specs.declared.limits.TheConstants.{MAX_LIMIT}
use Rattle.and_model.specs.declared.reference.Ref.{Ref}
use Rattle.and_model.specs.declared.reference.Ref.TheVariants.{Free}
use Rattle.and_program.specs.Skeletons.{NodeItem, call, equal, is, compare, fail, node_term, item_of, AllThere}
use Rattle.and_program.specs.Loaded.{nodes_at}
use Rattle.and_laws.proofs.ClausesOf.{of_applied}
use Rattle.and_laws.proofs.Equality.{bool_cases}
use Rattle.and_cells.specs.Ranges.{NamedProgram, IsNodeInRange}
use Rattle.and_cells.specs.Rows.{IsSound, OnlySet, plain}
use Rattle.and_cells.specs.Seen.{word_at, Keeps}
use Rattle.and_cells.specs.Meaning.{IsSettled, equations_of}
use Rattle.and_cells.specs.Parts.{part_at}
use Rattle.and_cells.specs.Solved.{IsMostGeneral}
use Rattle.and_branch_laws.specs.OwnVariables.{IsLoaded}
use Rattle.and_branch_laws.specs.Variables.{placed, cells_from}
use Rattle.and_branch_laws.specs.Settling.{widened}
use Rattle.and_branch_laws.specs.Judging.{outside}
use Rattle.and_branch_laws.proofs.Clauses.{clause_nodes}
use Rattle.and_branch_laws.proofs.Growing.{BodyIsOwn, head_is_own, body_is_own}
use Rattle.and_unify.specs.Pairs.{AreInRange, NameNoHalf}
use Rattle.and_unify.specs.Setting.{HaveBeenSet}
use Rattle.and_unify.specs.Settling.{AreNewFrom, Settles, equations_with}
use Rattle.and_unify.specs.declared.settling.Settled.TheVariants.{Solved}
use Rattle.and_unify.specs.declared.pairs.Pair.{Pair}
use Rattle.and_clause_index.proofs.ClauseLists.{clause_there}
use Rattle.and_guards.specs.Guards.{CanBeRead, GuardCanBeRead, IsGuardFalse}
use Rattle.and_heads.specs.Calls.{call_and_head}
use Rattle.and_determinacy.specs.Trials.{IsPrepared}
use Rattle.and_guards.proofs.Widening.{widened_length, free_behind, settled_still}
use Rattle.and_determinacy.proofs.TakenBack.{only_these}
use Rattle.and_determinacy.proofs.TriedClauses.{node_wide, head_wide, asked_in_range, asked_whole, asked_new, unsolved, solved, refuted}

module _ (P : NamedProgram) (loaded : IsLoaded P) (row : List Ref) (short : length row ≤ MAX_LIMIT) (n b c : ℕ)
    (reads : CanBeRead P row b n) (of : Of P.program (node_term P.skeleton.nodes n) c) (wide : List Ref) (asked floor : ℕ)
    (made : IsPrepared P row wide asked c floor) where
  abbrev variables : ℕ
  variables = (clause_at P.program c).variables

  abbrev head : ℕ
  head = (nodes_at P.skeleton c).head

  abbrev pairs : List Pair
  pairs = call_and_head P b n floor asked

  pair_is : pairs ≡ call_and_head P b n floor head
  pair_is = ap (call_and_head P b n floor) made.head_is

  there : c ≤ length P.program.clauses
  there = clause_there P.program (node_term P.skeleton.nodes n) c of

  -- a node of the clause is in range in the frame
  own_in_range : (m words : ℕ) → m < length P.skeleton.nodes → AreOwn variables (node_term P.skeleton.nodes m)
      → words ≡ length row + (1 + variables) → IsNodeInRange P words m (length row)
  own_in_range m words low own long =
      let few = loaded.few in record {
        there = low;
        nameable = omega arith;
        base_below = omega arith;
        cells = All-weaker (IsOwn variables) (λ (v : Path × ℕ). length row + 1 + v.1 < words) (λ v o. omega (arith, o.1))
            (variables_of (node_term P.skeleton.nodes m)) own;
      }

  head_in_range : IsNodeInRange P (length row + (1 + variables)) head (length row)
  head_in_range =
      let k = clause_nodes P loaded c there in
      own_in_range head (length row + (1 + variables)) k.head_there
      (subst (AreOwn variables) (sym k.head) (head_is_own P loaded.own c)) refl

  -- what holds with the row and the pair as they are made holds of these
  as_made : (Q : List Ref → List Pair → ℕ → Type 0)
      → Q (widened row (1 + variables)) (record { left = part_at P b n; right = part_at P (length row) head } ∷ []) (length row)
      → Q wide pairs floor
  as_made Q q =
      let one : Q (widened row (1 + variables)) (record { left = part_at P b n; right = part_at P floor head } ∷ []) floor =
      subst (λ (m : ℕ). Q (widened row (1 + variables)) (record { left = part_at P b n; right = part_at P m head } ∷ []) m)
      (sym made.behind) q in
      let two : Q (widened row (1 + variables)) pairs floor =
      subst (λ (ps : List Pair). Q (widened row (1 + variables)) ps floor) (sym pair_is) one in
      subst (λ (r : List Ref). Q r pairs floor) (sym made.wide_is) two

  abbrev by : ℕ
  by = 1 + variables

  -- The call and the head are in range,
  pub made_call : IsNodeInRange P (length wide) n b
  made_call = as_made (λ r ps m. IsNodeInRange P (length r) n b) (node_wide P loaded.skeleton.0 row by made.sound n b reads head head_in_range)

  pub made_head : IsNodeInRange P (length wide) asked floor
  made_head =
      subst (λ (h : ℕ). IsNodeInRange P (length wide) h floor) (sym made.head_is)
      (as_made (λ r ps m. IsNodeInRange P (length r) head m) (head_wide P loaded.skeleton.0 row by made.sound n b reads head head_in_range))

  -- and the pair is as unification asks.
  pub made_in_range : AreInRange P (length wide) (call_and_head P b n floor asked)
  made_in_range =
      as_made (λ r ps m. AreInRange P (length r) ps) (asked_in_range P loaded.skeleton.0 row by made.sound n b reads head head_in_range)

  pub made_whole : NameNoHalf P (word_at wide) (call_and_head P b n floor asked)
  made_whole =
      as_made (λ r ps m. NameNoHalf P (word_at r) ps) (asked_whole P loaded.skeleton.0 row by made.sound n b reads head head_in_range)

  pub made_new : AreNewFrom P wide (call_and_head P b n floor asked) floor
  made_new = as_made (λ r ps m. AreNewFrom P r ps m) (asked_new P loaded.skeleton.0 row by made.sound n b reads head head_in_range)

  pub made_settled : IsSettled P row → IsSettled P wide
  made_settled settled =
      let sound : IsSound P (widened row by) = subst (IsSound P) made.wide_is made.wide_sound in
      subst (IsSettled P) (sym made.wide_is) (settled_still P row by made.sound sound settled)

  -- ---- After it was settled

  module _ (new : List Ref) (keeps : Keeps (plain wide) (plain new))
      (halves : (cell : ℕ) → is_half (word_at new cell) ≡ true → is_half (word_at wide cell) ≡ true) where
    new_long : length new ≡ length row + by
    new_long = keeps.words ∙ ap length made.wide_is ∙ widened_length row by

    -- a node of the clause can be read
    own_reads : (m : ℕ) → m < length P.skeleton.nodes → AreOwn variables (node_term P.skeleton.nodes m) → CanBeRead P new (length row) m
    own_reads m low own = record {
      in_range = own_in_range m (length new) low own new_long;
      whole = λ v i. whole (length row + 1 + v.1) (omega arith);
    }
      where
        whole : (cell : ℕ) → length row ≤ cell → is_half (word_at new cell) ≡ false
        whole cell past = elim (bool_cases (is_half (word_at new cell))) [
          | inl e ↦
              let was : is_half (word_at wide cell) ≡ true = halves cell e in
              let free : word_at wide cell ≡ Free = ap (λ (r : List Ref). word_at r cell) made.wide_is ∙ free_behind row by cell past in
              absurd (true≢false (sym was ∙ ap is_half free))
          | inr e ↦ e
        ]

    guard_reads : (items : List NodeItem) (k : ℕ) → AllThere P.skeleton.nodes k items
        → BodyIsOwn variables (map (item_of P.skeleton.nodes) items) → GuardCanBeRead P new (length row) items
    guard_reads [] k low own = tt
    guard_reads (compare o m l ∷ items) k low own =
        (own_reads m low.0.0 own.0, own_reads l low.0.1 own.1, guard_reads items k low.1 own.2)
    guard_reads (call m ∷ items) k low own = tt
    guard_reads (equal m l ∷ items) k low own = tt
    guard_reads (is m l pair ∷ items) k low own = tt
    guard_reads (fail ∷ items) k low own = tt

    items_read : GuardCanBeRead P new (length row) (nodes_at P.skeleton c).items
    items_read =
        let k = clause_nodes P loaded c there in
        guard_reads (nodes_at P.skeleton c).items 0 k.body_there
        (subst (BodyIsOwn variables) (sym k.body) (body_is_own P loaded.own c))

    pub made_reads : GuardCanBeRead P new floor (nodes_at P.skeleton c).items
    made_reads = subst (λ (m : ℕ). GuardCanBeRead P new m (nodes_at P.skeleton c).items) (sym made.behind) items_read

  -- ---- What the answers say

  from_made : (Q : List Ref → List Pair → Type 0) → Q wide pairs
      → Q (widened row (1 + variables)) (record { left = part_at P b n; right = part_at P (length row) head } ∷ [])
  from_made Q q =
      let one : Q (widened row (1 + variables)) pairs = subst (λ (r : List Ref). Q r pairs) made.wide_is q in
      let two : Q (widened row (1 + variables)) (record { left = part_at P b n; right = part_at P floor head } ∷ []) =
      subst (λ (ps : List Pair). Q (widened row (1 + variables)) ps) pair_is one in
      subst (λ (m : ℕ). Q (widened row (1 + variables)) (record { left = part_at P b n; right = part_at P m head } ∷ [])) made.behind two

  pub no_candidate : (Solvable (equations_with P wide (call_and_head P b n floor asked)) → ⊥)
      → Candidate P.program (equations_of P row) outside (placed b (node_term P.skeleton.nodes n)) c → ⊥
  no_candidate none_is =
      unsolved P loaded.skeleton.0 row by made.sound n b reads head head_in_range c (clause_nodes P loaded c there).head
      (from_made (λ r ps. Solvable (equations_with P r ps) → ⊥) none_is)

  -- A clause whose head was made one with the call is a candidate exactly where its guard is not false.
  pub guard_tells : (new : List Ref) → IsMostGeneral P new (equations_with P wide (call_and_head P b n floor asked))
      → GuardCanBeRead P new floor (nodes_at P.skeleton c).items
      → (false_in : Bool) → (false_in ≡ true) ↔ IsGuardFalse P new floor (nodes_at P.skeleton c).items
      → (not false_in ≡ true) ↔ Candidate P.program (equations_of P row) outside (placed b (node_term P.skeleton.nodes n)) c
  guard_tells new general reads_all false_in told =
      let k = clause_nodes P loaded c there in
      let items : List NodeItem = (nodes_at P.skeleton c).items in
      let solution = from_made (λ r ps. IsMostGeneral P new (equations_with P r ps)) general in
      let can : GuardCanBeRead P new (length row) items = subst (λ (m : ℕ). GuardCanBeRead P new m items) made.behind reads_all in
      let tells : (false_in ≡ true) ↔ IsGuardFalse P new (length row) items =
      subst (λ (m : ℕ). (false_in ≡ true) ↔ IsGuardFalse P new m items) made.behind told in (
        λ e. solved P loaded.skeleton.0 row by made.sound n b reads head head_in_range c k.head new solution items k.body can
            (of_applied P.program (cells_from b) (node_term P.skeleton.nodes n) c of)
            (λ f. not_both false_in (tells.1 f) e),
        λ candidate. elim (bool_cases false_in) [
          | inl e ↦ absurd (refuted P loaded.skeleton.0 row by made.sound n b reads head head_in_range c k.head new solution items k.body
              can (tells.0 e) candidate)
          | inr e ↦ ap not e
        ],
      )
    where
      not_both : (x : Bool) → x ≡ true → not x ≡ true → ⊥
      not_both true e f = true≢false (sym f)
      not_both false e f = true≢false (sym e)

  -- So it is one exactly where nothing was found that refutes it.
  pub tried : (new : List Ref) → Settles P wide new (call_and_head P b n floor asked) Solved
      → (items : List NodeItem) → items ≡ (nodes_at P.skeleton c).items → (found : Bool)
      → (found ≡ true) ↔ IsGuardFalse P new floor items → (answer : Bool) → not found ≡ answer
      → (answer ≡ true) ↔ Candidate P.program (equations_of P row) outside (placed b (node_term P.skeleton.nodes n)) c
  tried new settles items own found told answer same =
      subst (λ (x : Bool). (x ≡ true) ↔ Candidate P.program (equations_of P row) outside (placed b (node_term P.skeleton.nodes n)) c) same
      (guard_tells new (settles.solved refl) (made_reads new settles.keeps settles.halves) found
      (subst (λ (ns : List NodeItem). (found ≡ true) ↔ IsGuardFalse P new floor ns) own told))

-- What was set there is told, and nothing else of the row was.
pub only_tried : (P : NamedProgram) (row wide new now : List Ref) (asked c floor : ℕ) (set : List ℕ) → IsPrepared P row wide asked c floor
    → HaveBeenSet wide new set → now ≡ new → OnlySet set row now
only_tried P row wide new now asked c floor set made was same =
    subst (OnlySet set row) (sym same) (only_these row wide new (1 + (clause_at P.program c).variables) set made.wide_is was)
