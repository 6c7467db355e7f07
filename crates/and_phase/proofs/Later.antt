-- Branches that stand for later trees.
use Rattle.std.proofs.Common.{◌≡◌, ◌≤◌, ◌++◌, None, false, List, length, Result, Ok, Err, refl, sym, ◌∙◌, subst, inl, inr, arith}
use Rattle.std.specs.Prelude.{All, IfOk}
use Rattle.std.proofs.lemmas.Bool.{true≢false}
use Rattle.and_model.specs.declared.limits.TheConstants.{MAX_LIMIT}
use Rattle.and_model.specs.declared.goal.Goal.{Goal}
use Rattle.and_cells.specs.Meaning.{IsSettled}
use Rattle.and_cells.specs.Ranges.{NamedProgram}
use Rattle.and_branch_laws.specs.OwnVariables.{IsLoaded}
use Rattle.and_branch.specs.Branches.{Held, Lives, IsBranch, SameKey}
use Rattle.and_branch.specs.Finding.{IsSeen}
use Rattle.and_branch.specs.Making.{nothing_noted}
use Rattle.and_branch.specs.Next.{IsMoved}
use Rattle.and_branch.specs.Parts.{held_of, unnoted}
use Rattle.and_branch.specs.Rounds.{StepsOn}
use Rattle.and_branch.specs.Origins.{KeepsWhatIsNoted}
use Rattle.and_branch.proofs.GoalsRun.{branch_fits}
use Rattle.and_branch.proofs.KeptOrigins.{kept_then}
use Rattle.and_branch.proofs.LookedGoals.{no_steps, steps_join, moved_steps}
use Rattle.and_branch.proofs.MovedBranches.{unnoted_branch}
use Rattle.and_branch.proofs.RoundsKept.{same_then}
use Rattle.and_branch.proofs.SeenGoals.{kept_seen}
use Rattle.and_phase.specs.Leading.{LeadsOn}
use Rattle.and_phase.specs.Advanced.{HasAdvanced}
use Rattle.and_phase.specs.Sighting.{IsLater, IsSighted}
use Rattle.and_phase.specs.declared.advanced.Advanced.{Advanced}
use Rattle.and_phase.specs.declared.sighting.Sighted.{Sighted}
use Rattle.and_phase.specs.declared.sighting.Sighted.TheVariants.{Two, NotTwo}

-- ---- Branches that come of others

kept_on : (one two three : Held) → KeepsWhatIsNoted one two → KeepsWhatIsNoted two three → KeepsWhatIsNoted one three
kept_on one two three x (inl e) = inl e
kept_on one two three (inl e) (inr y) = inl (y.mark ∙ e)
kept_on one two three (inr x) (inr y) = inr (kept_then one two three x y)

-- So it is where nothing is lost,
pub leads : (P : NamedProgram) (old new : Held) → StepsOn P old new → LeadsOn P old new
leads P old new x = record { each = x.each; back = inr x.back }

-- and one behind the other.
leads_then : (P : NamedProgram) (one two three : Held) → LeadsOn P one two → LeadsOn P two three → LeadsOn P one three
leads_then P one two three x y = record {
  each = λ t b.
      let (u, c, steps) = x.each t b in
      let (v, d, more) = y.each u c in
      (v, d, steps_join P t u v steps more);
  back = kept_on one two three x.back y.back;
}

pub led_branch : (P : NamedProgram) (old new : Held) → LeadsOn P old new → IsBranch P old → IsBranch P new
led_branch P old new x b = let (u, branch, steps) = x.each b.0 b.1 in (u, branch)

pub later_same : (P : NamedProgram) (b : Held) → IsLater P b b
later_same P b = record { same = record { key = refl; limit = refl }; steps = leads P b b (no_steps P b) }

pub later_then : (P : NamedProgram) (one two three : Held) → IsLater P one two → IsLater P two three → IsLater P one three
later_then P one two three x y =
    record { same = same_then one two three x.same y.same; steps = leads_then P one two three x.steps y.steps }

pub later_branch : (P : NamedProgram) (old new : Held) → IsLater P old new → IsBranch P old → IsBranch P new
later_branch P old new x b = led_branch P old new x.steps b

-- A branch of which nothing is noted any longer is a later one.
pub later_moved : (P : NamedProgram) (old new : Held) → new.trail.mark ≡ None → IsMoved (unnoted old) new → IsLater P old new
later_moved P old new none m = record {
  same = record { key = m.key; limit = m.limit };
  steps = let x = moved_steps P (unnoted old) new m in record {
    each = λ t b. x.each t (unnoted_branch P old nothing_noted t b);
    back = inl none;
  };
}

pub later_equal : (P : NamedProgram) (old new : Held) → new ≡ old → IsLater P old new
later_equal P old new e = subst (IsLater P old) (sym e) (later_same P old)

pub sighted_then : {N : Type 0} (P : NamedProgram) (one two : Held) → IsLater P one two → (s : Sighted N) → IsSighted P two s → IsSighted P one s
sighted_then P one two x (Two parts) y = (later_then P one two (held_of parts) x y.0, y.1)
sighted_then P one two x (NotTwo b) y = later_then P one two b x y

-- So does what is told of the state to which it was brought.
pub advanced_then : {N : Type 0} (P : NamedProgram) (one two : Held) → IsLater P one two → (a : Advanced N) → HasAdvanced P two a → HasAdvanced P one a
advanced_then P one two x a h = record {
  same = same_then one two a.branch x.same h.same;
  steps = leads_then P one two a.branch x.steps h.steps;
  judged = h.judged;
  at_rest = h.at_rest;
  done = h.done;
}

pub advanced_after : {N E : Type 0} (P : NamedProgram) (one two : Held) → IsLater P one two → (r : Result (Advanced N) E)
    → IfOk r (HasAdvanced P two) → IfOk r (HasAdvanced P one)
advanced_after P one two x (Ok a) h = advanced_then P one two x a h
advanced_after P one two x (Err e) h = tt

-- ---- A branch that is not failed

module _ (P : NamedProgram) (h : Held) (b : IsBranch P h) (live : h.is_failed ≡ false) where
  lives : Lives P h b.0
  lives = elim b.1.state [ inl dead ↦ absurd (true≢false (sym dead.0 ∙ live)) | inr kept ↦ kept ]

  pub row_settled : IsSettled P h.row
  row_settled = lives.keeps.settled

  pub used_fits : (h.used ≤ h.limit) × (h.limit ≤ MAX_LIMIT)
  used_fits = (branch_fits P h b.0 b.1, b.1.bounded)

  pub row_long : length h.row ≡ h.used
  row_long = lives.long

  pub row_short : length h.row ≤ MAX_LIMIT
  row_short = let fits = used_fits in let long = row_long in omega arith

  pub are_seen : IsLoaded P → (gs : List Goal) → gs ≡ h.left ++ h.right → All (IsSeen P h.row) gs
  are_seen loaded gs is = kept_seen P loaded h.reductions h.row lives.kept b.0 lives.keeps gs (lives.goals ∙ sym is)
