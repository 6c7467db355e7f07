-- A clause that is tried in a frame behind the row: what is asked of unification, and what its answer says.
use Rattle.std.proofs.Common.{ℕ, ◌+◌, ◌≡◌, ◌<◌, false, List, [], ◌∷◌, ◌++◌, append-nil, length, map, refl, sym, ap, ◌∙◌, subst, inl, inr, arith}
use Rattle.std.specs.Prelude.{All}
use Rattle.std.proofs.lemmas.List.Elements.{All-nil, All-cons, All-weaker, All-contains, Contains-append_cases}
use Rattle.and_model.specs.Terms.{Path, Term, variables_of, framed}
use Rattle.and_model.specs.Solutions.{Equation, Solves, Solvable, Entails}
use Rattle.and_model.specs.Programs.{Item, Of, clause_at}
use Rattle.and_model.specs.Candidates.{In, guard, Refuted, Candidate}
use Rattle.and_model.specs.Store.{is_half}
use Rattle.and_model.specs.declared.reference.Ref.{Ref}
use Rattle.and_program.specs.Skeletons.{NodeItem, node_term, item_of, AllFall}
use Rattle.and_program.specs.Loaded.{shape_at}
use Rattle.and_laws.proofs.Ordered.{contains_cases, contains_none}
use Rattle.and_laws.proofs.Solving.{solves_join, solves_front, solves_back}
use Rattle.and_cells.specs.Ranges.{NamedProgram, IsNodeInRange, IsInRange}
use Rattle.and_cells.specs.Rows.{IsSound}
use Rattle.and_cells.specs.Seen.{word_at}
use Rattle.and_cells.specs.Meaning.{shallow_cells, equations_of, equations_between}
use Rattle.and_cells.specs.Parts.{part_at}
use Rattle.and_cells.specs.Solved.{IsMostGeneral}
use Rattle.and_branch_laws.specs.Variables.{SpeaksOf, placed, cells_from}
use Rattle.and_branch_laws.specs.Settling.{widened}
use Rattle.and_branch_laws.specs.Judging.{outside}
use Rattle.and_branch_laws.proofs.Lists.{all_of}
use Rattle.and_branch_laws.proofs.PairEquations.{part_cells, nodes_ask, IsWholeIn}
use Rattle.and_branch_laws.proofs.Rows.{widened_words, widened_states, widened_stated}
use Rattle.and_branch_laws.proofs.Speaking.{variables_applied}
use Rattle.and_unify.specs.Pairs.{AreInRange, NameNoHalf, equations_of_pairs}
use Rattle.and_unify.specs.Settling.{equations_with, KeepsBelow, AreNewFrom}
use Rattle.and_unify.specs.declared.pairs.Pair.{Pair}
use Rattle.and_guards.specs.Guards.{CanBeRead, GuardCanBeRead, IsGuardFalse}
use Rattle.and_guards.proofs.Widening.{widened_length, free_behind, names_within}
use Rattle.and_guards.proofs.Moving.{IsLow, Outside, Inside, solvable_inside, solvable_outside}
use Rattle.and_guards.proofs.Reading.{general_alike}
use Rattle.and_guards.proofs.Refuting.{guard_is_false, guard_is_refuted}
use Rattle.and_guards.proofs.Resolved.{part_in_range, part_names_below, resolved_not_below}

-- ---- The pair of a trial

module _ (P : NamedProgram) (fall : AllFall 0 P.skeleton.nodes) (row : List Ref) (by : ℕ) (sound : IsSound P row) (n b : ℕ)
    (reads : CanBeRead P row b n) (h : ℕ) (head : IsNodeInRange P (length row + by) h (length row)) where
  abbrev floor : ℕ
  floor = length row

  abbrev wide : List Ref
  wide = widened row by

  abbrev pub pair : Pair
  pair = record { left = part_at P b n; right = part_at P (length row) h }

  one_pair : (Q : Pair → Type 0) → Q pair → All Q (pair ∷ [])
  one_pair Q q = All-cons Q pair [] q (All-nil Q)

  pub node_wide : IsNodeInRange P (length (widened row by)) n b
  node_wide =
      let long = widened_length row by in
      let r = reads.in_range in
      record {
        there = r.there;
        nameable = r.nameable;
        base_below = r.base_below;
        cells = All-weaker (λ (v : Path × ℕ). b + 1 + v.1 < length row) (λ (v : Path × ℕ). b + 1 + v.1 < length wide)
            (λ v low. omega arith) (variables_of (node_term P.skeleton.nodes n)) r.cells;
      }

  pub head_wide : IsNodeInRange P (length (widened row by)) h (length row)
  head_wide = subst (λ (words : ℕ). IsNodeInRange P words h floor) (sym (widened_length row by)) head

  pub asked_in_range : AreInRange P (length (widened row by)) (pair ∷ [])
  asked_in_range = one_pair (λ (p : Pair). IsInRange P (length wide) p.left × IsInRange P (length wide) p.right)
      (part_in_range P (length wide) n b fall node_wide, part_in_range P (length wide) h floor fall head_wide)

  whole_left : IsWholeIn P (word_at wide) b n
  whole_left v c = ap is_half (widened_words row by (b + 1 + v.1)) ∙ reads.whole v c

  whole_right : IsWholeIn P (word_at wide) floor h
  whole_right v c = ap is_half (free_behind row by (floor + 1 + v.1) (omega arith))

  pub asked_whole : NameNoHalf P (word_at (widened row by)) (pair ∷ [])
  asked_whole = one_pair
      (λ (p : Pair). All (λ (cell : ℕ). is_half (word_at wide cell) ≡ false) (shallow_cells P p.left ++ shallow_cells P p.right))
      (all_of (λ (cell : ℕ). is_half (word_at wide cell) ≡ false) (shallow_cells P pair.left ++ shallow_cells P pair.right)
      (λ cell c. elim (Contains-append_cases (shallow_cells P pair.left) (shallow_cells P pair.right) cell c) [
        | inl i ↦
            let (v, at, is) = part_cells P b n fall cell i in
            ap (λ (x : ℕ). is_half (word_at wide x)) is ∙ whole_left v at
        | inr i ↦
            let (v, at, is) = part_cells P floor h fall cell i in
            ap (λ (x : ℕ). is_half (word_at wide x)) is ∙ whole_right v at
      ]))

  pub asked_new : AreNewFrom P (widened row by) (pair ∷ []) (length row)
  asked_new = record {
    within = let long = widened_length row by in omega arith;
    free = λ cell past. free_behind row by cell past;
    named_below = λ cell r set.
        all_of (λ (x : ℕ). x < floor) (shallow_cells P r)
        (names_within P row cell r sound (sym (widened_words row by cell) ∙ set.0, set.1));
    sides = one_pair (λ (p : Pair). KeepsBelow P floor p.left × KeepsBelow P floor p.right) (
      (λ below. all_of (λ (x : ℕ). x < floor) (shallow_cells P pair.left) (part_names_below P floor n b fall reads.in_range)),
      (λ below. absurd (resolved_not_below floor (shape_at P.skeleton h) (record { 0 = h }) below)),
    );
  }

  -- ---- What it asks for

  abbrev call : Term
  call = placed b (node_term P.skeleton.nodes n)

  abbrev head_term : Term
  head_term = node_term P.skeleton.nodes h

  -- the call's cells are of the row
  pub call_low : SpeaksOf (IsLow (length row)) (placed b (node_term P.skeleton.nodes n))
  call_low v c =
      let (w, at, is) = variables_applied (cells_from b) (node_term P.skeleton.nodes n) v c in
      let low = All-contains (λ (v : Path × ℕ). b + 1 + v.1 < floor) (variables_of (node_term P.skeleton.nodes n)) w
      reads.in_range.cells at in
      elim (contains_cases ([], b + 1 + w.1) v [] is) [
        | inl e ↦ subst (IsLow floor) (sym e) (refl, low)
        | inr i ↦ absurd (contains_none v i)
      ]

  abbrev pub inside : List Equation
  inside = Inside P row sound (placed b (node_term P.skeleton.nodes n)) call_low (node_term P.skeleton.nodes h)

  pairs_are : equations_of_pairs P (word_at wide) (pair ∷ []) ≡ (call, placed floor head_term) ∷ []
  pairs_are = append-nil (equations_between P (word_at wide) pair.left pair.right)
      ∙ nodes_ask P (word_at wide) b n floor h fall whole_left whole_right

  to_inside : Entails (equations_with P wide (pair ∷ [])) inside
  to_inside s p =
      solves_join s (equations_of P row) ((call, placed floor head_term) ∷ [])
      (widened_states P row by s (solves_front s (equations_of P wide) (equations_of_pairs P (word_at wide) (pair ∷ [])) p))
      (subst (λ (es : List Equation). Solves s es) pairs_are
      (solves_back s (equations_of P wide) (equations_of_pairs P (word_at wide) (pair ∷ [])) p))

  from_inside : Entails inside (equations_with P wide (pair ∷ []))
  from_inside s p =
      solves_join s (equations_of P wide) (equations_of_pairs P (word_at wide) (pair ∷ []))
      (widened_stated P row by s (solves_front s (equations_of P row) ((call, placed floor head_term) ∷ []) p))
      (subst (λ (es : List Equation). Solves s es) (sym pairs_are)
      (solves_back s (equations_of P row) ((call, placed floor head_term) ∷ []) p))

  -- ---- What its answers say

  module _ (c : ℕ) (head_is : node_term P.skeleton.nodes h ≡ (clause_at P.program c).head) where
    abbrev out : List Equation
    out = Outside P row sound (placed b (node_term P.skeleton.nodes n)) call_low (node_term P.skeleton.nodes h)

    head_out : (call, framed outside (clause_at P.program c).head) ∷ equations_of P row ≡ out
    head_out = ap (λ (t : Term). (call, framed outside t) ∷ equations_of P row) (sym head_is)

    -- Where there is no solution, the clause is no candidate.
    pub unsolved : (Solvable (equations_with P (widened row by) (pair ∷ [])) → ⊥)
        → Candidate P.program (equations_of P row) outside (placed b (node_term P.skeleton.nodes n)) c → ⊥
    unsolved none_is k =
        let so : Solvable out = subst Solvable head_out k.1 in
        let found : Solvable inside = solvable_inside P row sound call call_low head_term so in
        none_is (found.0, from_inside found.0 found.1)

    -- Where there is one, it is a candidate exactly where no comparison of its guard is false.
    module _ (new : List Ref) (general : IsMostGeneral P new (equations_with P (widened row by) (pair ∷ []))) (items : List NodeItem)
        (body_is : map (item_of P.skeleton.nodes) items ≡ (clause_at P.program c).body)
        (can : GuardCanBeRead P new (length row) items) where
      general_inside : IsMostGeneral P new inside
      general_inside = general_alike P new (equations_with P wide (pair ∷ [])) inside to_inside from_inside general

      pub solved : Of P.program (placed b (node_term P.skeleton.nodes n)) c → (IsGuardFalse P new (length row) items → ⊥)
          → Candidate P.program (equations_of P row) outside (placed b (node_term P.skeleton.nodes n)) c
      solved of none_false =
          let so : Solvable out =
          solvable_outside P row sound call call_low head_term (general_inside.solution, general_inside.most_general.0) in (
            of,
            subst Solvable (sym head_out) so,
            λ a i r.
                none_false (guard_is_false P row sound call call_low head_term new general_inside items can a
                (subst (λ (body : List Item). In a (guard outside body)) (sym body_is) i)
                (subst (λ (es : List Equation). Refuted es a) head_out r)),
          )

      pub refuted : IsGuardFalse P new (length row) items
          → Candidate P.program (equations_of P row) outside (placed b (node_term P.skeleton.nodes n)) c → ⊥
      refuted is_false k =
          let (a, i, r) = guard_is_refuted P row sound call call_low head_term new general_inside items is_false in
          k.2 a (subst (λ (body : List Item). In a (guard outside body)) body_is i)
          (subst (λ (es : List Equation). Refuted es a) (sym head_out) r)
