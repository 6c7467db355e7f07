-- What workers made of a branch is a branch's, by the law of a phase's end.
use Rattle.std.proofs.Common.{ℕ, ◌≡◌, ◌≤◌, ◌++◌, false, true, List, append-nil, map, length, Option, Some, None, Result, Ok, Err, sym, ◌∙◌, subst, inl, inr}
use Rattle.std.specs.Prelude.{IfOk, IfSome}
use Rattle.std.proofs.lemmas.Bool.{true≢false}
use Rattle.std.proofs.lemmas.List.Elements.{All-weaker}
use Rattle.and_model.specs.Trees.{QueryTree, weight}
use Rattle.and_model.specs.Reached.{Dead, Steps}
use Rattle.and_model.specs.Reductions.{Makes}
use Rattle.and_model.specs.Stands.{Framed}
use Rattle.and_model.specs.declared.goal as declared
use Rattle.and_model.specs.declared.goal.Goal.{Goal}
use Rattle.and_model.specs.declared.reference.Ref.{Ref}
use Rattle.and_cells.specs.Ranges.{NamedProgram, IsInRange}
use Rattle.and_cells.specs.Rows.{plain}
use Rattle.and_cells.specs.Seen.{word_at, IsWrittenIfNumber}
use Rattle.and_unify.specs.Pairs.{AreInRange, AreWritten, equations_of_pairs}
use Rattle.and_unify.specs.declared.pairs.Pair.{Pair}
use Rattle.and_code.specs.Written.{all_written}
use Rattle.and_branch_laws.specs.OwnVariables.{OwnVariables}
use Rattle.and_branch_laws.specs.Kept.{Kept, Unsettled, goal_of}
use Rattle.and_worker_laws.specs.Leavings.{AreReady}
use Rattle.and_handed.specs.declared.told.HandedOn.{HandedOn}
use Rattle.and_gathering.specs.Gathering.{IsGathered}
use Rattle.and_gathering.specs.declared.gathering.Gathered.{Gathered}
use Rattle.and_row_check.specs.Places.{all_frames, ArePairsWhole, IsSideWhole, IsWhole}
use Rattle.and_closing_laws.specs.Phases.{HasPhased}
use Rattle.and_branch.specs.Branches.{Held, Lives, IsBranchOf}
use Rattle.and_branch.specs.Parts.{held_of}
use Rattle.and_branch.specs.Rebuilding.{IsLeft, IsWorked}
use Rattle.and_model.specs.declared.goal.Frame.{Frame}
use Rattle.and_branch.specs.declared.parts.Parts.{Parts}
use Rattle.and_branch.specs.declared.rebuilding.Worked.{Worked}
use Rattle.and_phase.specs.Leading.{LeadsOn}
use Rattle.and_phase.specs.Joined.{IsJoined, IsWorkOf, LooksWhole}
use Rattle.and_phase.specs.declared.joining.Joined.{Joined}

-- What the law says of a phase.
abbrev Left : (P : NamedProgram) (old made : List declared.Reduction.Reduction) (row : List Ref) (pairs : List Pair) (goals : List Goal)
    → QueryTree P.program → Type 0
Left P old made row pairs goals u =
    (rest : List Framed) × (map goal_of rest ≡ goals)
    × Unsettled P (all_written old ++ all_written made) row (equations_of_pairs P (word_at row) pairs) rest u

abbrev Leaves : (P : NamedProgram) (old : List declared.Reduction.Reduction) (row : List Ref) (t : QueryTree P.program) (limit : ℕ) → Gathered → Type 0
Leaves P old row t limit g =
    (u : QueryTree P.program) × Makes P.program (all_written old ++ all_written g.made) u × Steps t u × (weight u ≤ limit)
    × (g.failed ≡ true → Dead u)
    × (g.failed ≡ false → ArePairsWhole P (all_frames (old ++ g.made)) row g.pairs → AreReady P row g.goals.items
    → Left P old g.made row g.pairs g.goals.items u)

abbrev pub PhasesLeave : Type 0
PhasesLeave =
    (P : NamedProgram) → OwnVariables P → (old : List declared.Reduction.Reduction) (first row : List Ref) (kept : List Framed)
    (t : QueryTree P.program) (tolds : List HandedOn) (limit : ℕ) (g : Gathered)
    → Kept P (all_written old) first kept t
    → HasPhased P first row tolds → IsGathered P.program (map goal_of kept) (weight t) limit tolds g
    → length row ≡ g.end → IsWhole P (all_frames (old ++ g.made)) row
    → Leaves P old row t limit g

-- ---- Pairs

sides_in_range : (P : NamedProgram) (frames : List Frame) (row : List Ref) (pairs : List Pair) → ArePairsWhole P frames row pairs
    → AreInRange P (length row) pairs
sides_in_range P frames row pairs =
    All-weaker (λ (p : Pair). IsSideWhole P frames row p.left × IsSideWhole P frames row p.right)
    (λ (p : Pair). IsInRange P (length row) p.left × IsInRange P (length row) p.right) (λ p x. (x.0.in_range, x.1.in_range)) pairs

sides_written : (P : NamedProgram) (frames : List Frame) (row : List Ref) (pairs : List Pair) → ArePairsWhole P frames row pairs
    → AreWritten (plain row) pairs
sides_written P frames row pairs =
    All-weaker (λ (p : Pair). IsSideWhole P frames row p.left × IsSideWhole P frames row p.right)
    (λ (p : Pair). IsWrittenIfNumber (plain row) p.left × IsWrittenIfNumber (plain row) p.right) (λ p x. (x.0.written, x.1.written)) pairs

-- ---- The branch

module _ {N : Type 0} (P : NamedProgram) (own : OwnVariables P) (law : PhasesLeave) (parts : Parts N) (live : parts.is_failed ≡ false) (j : Joined)
    (x : IsJoined P parts j) where
  lives : (t : QueryTree P.program) → IsBranchOf P (held_of parts) t → Lives P (held_of parts) t
  lives t b = elim b.state [ inl dead ↦ absurd (true≢false (sym dead.0 ∙ live)) | inr kept ↦ kept ]

  leaves : (t : QueryTree P.program) → IsBranchOf P (held_of parts) t → Leaves P parts.reductions j.cells t parts.limit j.done
  leaves t b =
      let l = lives t b in
      let goals : parts.goals.items ≡ map goal_of l.kept = sym (l.goals ∙ append-nil parts.goals.items) in
      law P own parts.reductions parts.cells j.cells l.kept t x.tolds parts.limit j.done l.keeps x.phased
      (subst (λ (used : ℕ). IsGathered P.program (map goal_of l.kept) used parts.limit x.tolds j.done) (sym b.used)
      (subst (λ (gs : List Goal). IsGathered P.program gs parts.used parts.limit x.tolds j.done) goals x.gathered))
      x.whole.long x.whole.whole

  module _ (w : Worked N) (same : IsWorkOf j w) (t : QueryTree P.program) (b : IsBranchOf P (held_of parts) t) where
    left : (u : QueryTree P.program) → Left P parts.reductions j.done.made j.cells j.done.pairs j.done.goals.items u
        → ArePairsWhole P (all_frames (parts.reductions ++ j.done.made)) j.cells j.done.pairs → IsLeft P parts w u
    left u l whole =
        let frames : List Frame = all_frames (parts.reductions ++ j.done.made) in
        let pairs : ArePairsWhole P frames w.cells w.pairs =
        subst (λ (row : List Ref). ArePairsWhole P frames row w.pairs) (sym same.cells)
        (subst (λ (ps : List Pair). ArePairsWhole P frames j.cells ps) (sym same.pairs) whole) in
        record {
          kept = l.0;
          goals = l.1 ∙ sym same.goals;
          unsettled =
              subst (λ (rs : List declared.Reduction.Reduction). Unsettled P (all_written parts.reductions ++ all_written rs) w.cells
              (equations_of_pairs P (word_at w.cells) w.pairs) l.0 u) (sym same.made)
              (subst (λ (row : List Ref). Unsettled P (all_written parts.reductions ++ all_written j.done.made) row
              (equations_of_pairs P (word_at row) w.pairs) l.0 u) (sym same.cells)
              (subst (λ (ps : List Pair). Unsettled P (all_written parts.reductions ++ all_written j.done.made) j.cells
              (equations_of_pairs P (word_at j.cells) ps) l.0 u) (sym same.pairs) l.2));
          in_range = sides_in_range P frames w.cells w.pairs pairs;
          written = sides_written P frames w.cells w.pairs pairs;
        }

    pub is_worked : (u : QueryTree P.program) × IsWorked P parts w t u
    is_worked =
        let l = leaves t b in (
          l.0,
          record {
            branch = b;
            made =
                subst (λ (rs : List declared.Reduction.Reduction). Makes P.program (all_written parts.reductions ++ all_written rs) l.0)
                (sym same.made) l.1;
            steps = l.2;
            fits = l.3;
            dead = λ e. l.4 (sym same.failed ∙ e);
            left = λ e.
                let lived = sym same.failed ∙ e in
                left l.0 (l.5 lived (x.whole.pairs lived) (x.whole.ready lived)) (x.whole.pairs lived);
          },
        )

-- A branch that is made of all that was worked stands for what Steps lead to. Nothing is noted of its row.
pub steps_on : {E : Type 0} {N : Type 0} (P : NamedProgram) (old : Held) (parts : Parts N) (w : Worked N) (r : Result Held E)
    → IfOk r (λ b. b.trail.mark ≡ None) → IfOk r (λ b. (t u : QueryTree P.program) → IsWorked P parts w t u → IsBranchOf P b u)
    → ((t : QueryTree P.program) → IsBranchOf P old t → (u : QueryTree P.program) × IsWorked P parts w t u) → IfOk r (λ b. LeadsOn P old b)
steps_on P old parts w (Ok b) nothing stands worked = record {
  each = λ t x. (let y = worked t x in (y.0, stands t y.0 y.1, y.1.steps));
  back = inl nothing;
}
steps_on P old parts w (Err e) nothing stands worked = tt

-- What was joined, as the parts have it.
pub joined : {N : Type 0} (P Q : NamedProgram) → P ≡ Q → (parts : Parts N) (cells : List Ref) (tolds : List HandedOn) (goals : List Goal)
    → HasPhased P parts.cells cells tolds → goals ≡ parts.goals.items → (o : Option Joined) → IfSome o (λ j. j.cells ≡ cells)
    → IfSome o (λ j. IsGathered Q.program goals parts.used parts.limit tolds j.done)
    → IfSome o (λ j. LooksWhole Q parts.reductions cells j.done) → IfSome o (IsJoined P parts)
joined P Q same parts cells tolds goals phased are None row gathered whole = tt
joined P Q same parts cells tolds goals phased are (Some j) row gathered whole = record {
  tolds = tolds;
  phased = subst (λ (l : List Ref). HasPhased P parts.cells l tolds) (sym row) phased;
  gathered = subst (λ (R : NamedProgram). IsGathered R.program parts.goals.items parts.used parts.limit tolds j.done) (sym same)
      (subst (λ (gs : List Goal). IsGathered Q.program gs parts.used parts.limit tolds j.done) are gathered);
  whole = subst (λ (R : NamedProgram). LooksWhole R parts.reductions j.cells j.done) (sym same)
      (subst (λ (l : List Ref). LooksWhole Q parts.reductions l j.done) (sym row) whole);
}
