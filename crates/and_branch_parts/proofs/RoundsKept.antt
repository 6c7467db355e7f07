-- What a round over the goals of a branch keeps.
use Rattle.std.proofs.Common.{ℕ, ◌≡◌, ◌+◌, ◌-◌, ◌*◌, ◌^◌, ◌<◌, ◌≤◌, Bool, true, false, List, [], Option, None}
use Rattle.std.proofs.Common.{◌∷◌, ◌++◌, length, append-nil, refl, ap, sym, ◌∙◌, subst, inl, inr, arith, Contains}
use Rattle.std.specs.Prelude.{All}
use Rattle.std.proofs.lemmas.Bool.{true≢false}
use Rattle.std.proofs.lemmas.List.{length-append}
use Rattle.std.proofs.lemmas.List.Elements.{All-contains, Contains-append_cases, Contains-append_left, Contains-append_right}
use Rattle.and_model.specs.declared.goal.Goal.{Goal}
use Rattle.and_model.specs.declared.reference.Ref.{Ref}
use Rattle.and_laws.proofs.Equality.{bool_cases}
use Rattle.and_laws.proofs.Ordered.{contains_cases, contains_none}
use Rattle.and_cells.specs.Ranges.{NamedProgram, IsGoalInRange}
use Rattle.and_branch_laws.proofs.Lists.{all_of}
use Rattle.and_branch_laws.specs.OwnVariables.{IsLoaded}
use Rattle.and_branch_parts.specs.Branches.{Held, IsBranch, SameKey}
use Rattle.and_branch_parts.specs.Finding.{HasFound, HasHeavy, IsSeen, with_passed}
use Rattle.and_branch_parts.specs.Next.{IsMoved}
use Rattle.and_branch_parts.specs.Rounds.{IsIdle, StepsOn, goal_count, HasProgressed, IsAlike, LeftIsIdle, HasPassed, HasPassedSleepers, IsStillWith, RoundIs}
use Rattle.and_branch_parts.specs.Watching.{Sleeps}
use Rattle.and_branch_parts.specs.declared.rounds.Round.{Round}
use Rattle.and_branch_parts.specs.declared.rounds.Round.TheVariants as round
use Rattle.and_branch_parts.specs.declared.finding.RoundSoFar.{RoundSoFar}
use Rattle.and_branch_parts.specs.declared.finding.HeavyCall.{HeavyCall}
use Rattle.and_branch_parts.specs.declared.finding.Seen.{Seen}
use Rattle.and_branch_parts.proofs.ArithmeticRuns.{all_seen}
use Rattle.and_branch_parts.proofs.HeavyCalls.{heavy_seen, heavy_behind, idle_sleeping, two_sleeping}
use Rattle.and_branch_parts.proofs.LookedGoals.{no_steps, steps_then, still_branch}

-- What a round has come to: as long as it has changed nothing, and the branch is not marked failed, nothing is to be done for any goal that it
-- has passed.
pub record RoundStands (P : NamedProgram) (start now : Held) (changed : Bool) (budget : ℕ) (heavy : Option HeavyCall) : Type 0 where
  pub same : SameKey start now
  pub steps : StepsOn P start now
  pub branch : IsBranch P now
  pub alike : changed ≡ false → IsAlike start now
  pub idle : changed ≡ false → start.is_failed ≡ false → LeftIsIdle P now × HasHeavy P now.limit now.row now.left heavy
  pub progress : changed ≡ true → HasProgressed start now
  pub spent : budget ≡ 0 → changed ≡ true

-- ---- Progress

pub same_count : (old new : Held) → IsAlike old new → goal_count new ≡ goal_count old
same_count old new m =
    let e = ap (λ (l : List Goal). length l) m.goals in
    let one = length-append new.left new.right in
    let other = length-append old.left old.right in
    omega arith

pub then_alike : (one two three : Held) → HasProgressed one two → IsAlike two three → HasProgressed one three
then_alike one two three (few, how) m =
    let e = same_count two three m in
    let used = m.used in
    (omega arith, elim how [ inl grew ↦ inl (omega arith) | inr less ↦ let a = less.0 in let b = less.1 in inr (used ∙ a, omega arith) ])

pub alike_then : (one two three : Held) → IsAlike one two → HasProgressed two three → HasProgressed one three
alike_then one two three m (few, how) =
    let e = same_count one two m in
    let used = m.used in
    (few, elim how [ inl grew ↦ inl (omega arith) | inr less ↦ let a = less.0 in let b = less.1 in inr (a ∙ used, omega arith) ])

progress_then : (one two three : Held) → HasProgressed one two → HasProgressed two three → HasProgressed one three
progress_then one two three (few, how) (fewer, more) = (
  fewer,
  elim how [
    | inl grew ↦ elim more [ inl grows ↦ inl (omega arith) | inr less ↦ let a = less.0 in inl (omega arith) ]
    | inr less ↦ elim more [
      | inl grows ↦ let a = less.0 in inl (omega arith)
      | inr lesser ↦ let a = less.0 in let b = less.1 in let c = lesser.0 in let d = lesser.1 in inr (c ∙ a, omega arith)
    ]
  ],
)

alike_twice : (one two three : Held) → IsAlike one two → IsAlike two three → IsAlike one three
alike_twice one two three m n = record {
  limit = n.limit ∙ m.limit;
  row = n.row ∙ m.row;
  used = n.used ∙ m.used;
  failed = n.failed ∙ m.failed;
  goals = n.goals ∙ m.goals;
}

pub moved_alike : (old new : Held) → IsMoved old new → IsAlike old new
moved_alike old new m = record { limit = m.limit; row = m.row; used = m.used; failed = m.is_failed; goals = m.goals }

-- ---- A round

pub round_begun : (P : NamedProgram) (start : Held) (budget : ℕ) → IsBranch P start → start.left ≡ [] → 1 ≤ budget
    → RoundStands P start start false budget None
round_begun P start budget branch first some = record {
  same = record { key = refl; limit = refl };
  steps = no_steps P start;
  branch = branch;
  alike = λ e. record { limit = refl; row = refl; used = refl; failed = refl; goals = refl };
  idle = λ e live. (
    λ g h. absurd (contains_none g (subst (λ (l : List Goal). Contains l g) first h)),
    λ g h called. absurd (contains_none g (subst (λ (l : List Goal). Contains l g) first h)),
  );
  progress = λ e. absurd (true≢false (sym e));
  spent = λ e. absurd (omega arith);
}

pub same_then : (one two three : Held) → SameKey one two → SameKey two three → SameKey one three
same_then one two three x y = record { key = y.key ∙ x.key; limit = y.limit ∙ x.limit }

idle_on : (P : NamedProgram) (old new : Held) (g : Goal) → IsAlike old new → IsIdle P old.limit old.row g → IsIdle P new.limit new.row g
idle_on P old new g m x =
    subst (λ (n : ℕ). IsIdle P n new.row g) (sym m.limit) (subst (λ (l : List Ref). IsIdle P old.limit l g) (sym m.row) x)

heavy_on : (P : NamedProgram) (old new : Held) (gs : List Goal) (h : Option HeavyCall) → IsAlike old new → new.left ≡ gs
    → HasHeavy P old.limit old.row gs h → HasHeavy P new.limit new.row new.left h
heavy_on P old new gs h m left x =
    subst (λ (hs : List Goal). HasHeavy P new.limit new.row hs h) (sym left)
    (subst (λ (n : ℕ). HasHeavy P n new.row gs h) (sym m.limit)
    (subst (λ (l : List Ref). HasHeavy P old.limit l gs h) (sym m.row) x))

-- Goals more were passed over, for none of which anything is to be done.
left_on : (P : NamedProgram) (old new : Held) (more : List Goal) → IsAlike old new → new.left ≡ old.left ++ more → LeftIsIdle P old
    → ((g : Goal) → Contains more g → IsIdle P old.limit old.row g) → LeftIsIdle P new
left_on P old new more m left before here = λ g i.
    elim (Contains-append_cases old.left more g (subst (λ (l : List Goal). Contains l g) left i)) [
      | inl j ↦ idle_on P old new g m (before g j)
      | inr j ↦ idle_on P old new g m (here g j)
    ]

-- A goal was passed over.
pub round_passed : (P : NamedProgram) (start old new : Held) (changed may : Bool) (budget : ℕ) (heavy more : Option HeavyCall) (goal : Goal)
    (seen : Seen) → more ≡ with_passed heavy goal seen → ((budget ≡ 0 → ⊥) → may ≡ true)
    → RoundStands P start old changed budget heavy → SameKey old new → StepsOn P old new → HasPassed P may old new goal seen
    → RoundStands P start new changed budget more
round_passed P start old new changed may budget heavy more goal seen is_more may_is x same steps h = record {
  same = same_then start old new x.same same;
  steps = steps_then P start old new x.steps steps;
  branch = still_branch P old new steps x.branch;
  alike = λ e. alike_twice start old new (x.alike e) h.alike;
  idle = λ e live.
      (
      let before = x.idle e live in
      let some : budget ≡ 0 → ⊥ = λ z. true≢false (sym (x.spent z) ∙ e) in
      let here = h.idle (may_is some) in (
        left_on P old new (goal ∷ []) h.alike h.passed before.0 (λ g j.
            elim (contains_cases goal g [] j) [
              | inl is ↦ subst (λ (k : Goal). IsIdle P old.limit old.row k) (sym is) here.0
              | inr n ↦ absurd (contains_none g n)
            ]),
        heavy_on P old new (old.left ++ goal ∷ []) more h.alike h.passed
            (subst (λ (k : Option HeavyCall). HasHeavy P old.limit old.row (old.left ++ goal ∷ []) k) (sym is_more)
            (heavy_seen P old.limit old.row old.left goal heavy seen before.1 here.1)),
      ));
  progress = λ e. then_alike start old new (x.progress e) h.alike;
  spent = x.spent;
}

-- Goals were passed over that sleep.
pub round_slept : (P : NamedProgram) → IsLoaded P → (start old new : Held) (changed : Bool) (budget : ℕ) (heavy : Option HeavyCall)
    → RoundStands P start old changed budget heavy → SameKey old new → StepsOn P old new → HasPassedSleepers P old new
    → RoundStands P start new changed budget heavy
round_slept P loaded start old new changed budget heavy x same steps h = record {
  same = same_then start old new x.same same;
  steps = steps_then P start old new x.steps steps;
  branch = still_branch P old new steps x.branch;
  alike = λ e. alike_twice start old new (x.alike e) h.alike;
  idle = λ e live.
      (
      let before = x.idle e live in
      let since = x.alike e in
      let alive : old.is_failed ≡ false = since.failed ∙ live in
      let sleep = h.sleep alive in
      let seen = all_seen P loaded old x.branch.0 x.branch.1 alive in
      let there : (g : Goal) → Contains h.passed g → IsSeen P old.row g = λ g i.
      All-contains (IsSeen P old.row) (old.left ++ old.right) g seen (Contains-append_right old.left old.right g
      (subst (λ (l : List Goal). Contains l g) (sym h.next) (Contains-append_left h.passed new.right g i))) in (
        left_on P old new h.passed h.alike h.left before.0 (λ g i. idle_sleeping P old.limit old.row g (sleep g i)),
        heavy_on P old new (old.left ++ h.passed) heavy h.alike h.left
            (heavy_behind P old.limit old.row old.left h.passed heavy
            (λ g i called. (let is = there g i in two_sleeping P old.row g is.kind (sleep g i) called)) before.1),
      ));
  progress = λ e. then_alike start old new (x.progress e) h.alike;
  spent = x.spent;
}

-- One was run or reduced.
pub round_changed : (P : NamedProgram) (start old new : Held) (changed : Bool) (budget fewer : ℕ) (heavy : Option HeavyCall)
    → RoundStands P start old changed budget heavy → SameKey old new → StepsOn P old new → HasProgressed old new
    → RoundStands P start new true fewer heavy
round_changed P start old new changed budget fewer heavy x same steps more = record {
  same = same_then start old new x.same same;
  steps = steps_then P start old new x.steps steps;
  branch = still_branch P old new steps x.branch;
  alike = λ e. absurd (true≢false e);
  idle = λ e live. absurd (true≢false e);
  progress = λ e. elim (bool_cases changed) [
    | inl was ↦ progress_then start old new (x.progress was) more
    | inr unchanged ↦ alike_then start old new (x.alike unchanged) more
  ];
  spent = λ e. refl;
}

-- No goal is left to look at.
pub past_idle : (P : NamedProgram) (start now : Held) (changed : Bool) (budget : ℕ) (heavy : Option HeavyCall)
    → RoundStands P start now changed budget heavy → now.is_failed ≡ false → changed ≡ false
    → LeftIsIdle P now × HasHeavy P now.limit now.row now.left heavy
past_idle P start now changed budget heavy x live unchanged =
    let since = x.alike unchanged in x.idle unchanged (sym since.failed ∙ live)

pub still_found : (P : NamedProgram) (b : Held) (f : RoundSoFar) → b.right ≡ [] → b.is_failed ≡ false → LeftIsIdle P b
    → HasFound P b.limit b.row b.left f → IsStillWith P b f
still_found P b f over live idle has = record {
  still = λ g h. idle g (subst (λ (l : List Goal). Contains l g) (ap (λ (l : List Goal). b.left ++ l) over ∙ append-nil b.left) h);
  rests = record { past = over; waits = λ g h a. (let here = idle g h in here.waits) };
  has = has;
  live = live;
}

pub same_still : (P : NamedProgram) (b : Held) (f h : RoundSoFar) → round.Still f ≡ round.Still h → IsStillWith P b f → IsStillWith P b h
same_still P b f h e x = let same : f ≡ h = cc in subst (λ (k : RoundSoFar). IsStillWith P b k) same x

-- Where all goals sleep, nothing is to be done for any, and each call has two candidates.
pub idle_asleep : (P : NamedProgram) → IsLoaded P → (b : Held) → IsBranch P b → b.is_failed ≡ false
    → ((g : Goal) → Contains b.left g → Sleeps P b.row g) → LeftIsIdle P b × HasHeavy P b.limit b.row b.left None
idle_asleep P loaded b branch live sleep =
    let seen = all_seen P loaded b branch.0 branch.1 live in (
      λ g i. idle_sleeping P b.limit b.row g (sleep g i),
      λ g i called. (let is = All-contains (IsSeen P b.row) (b.left ++ b.right) g seen (Contains-append_left b.left b.right g i) in
          two_sleeping P b.row g is.kind (sleep g i) called),
    )

-- Goals of a branch are in range.
pub left_in_range : (P : NamedProgram) → IsLoaded P → (b : Held) → IsBranch P b → b.is_failed ≡ false
    → All (IsGoalInRange P (length b.row)) b.left
left_in_range P loaded b branch live =
    let seen = all_seen P loaded b branch.0 branch.1 live in
    all_of (IsGoalInRange P (length b.row)) b.left (λ g i.
    let is = All-contains (IsSeen P b.row) (b.left ++ b.right) g seen (Contains-append_left b.left b.right g i) in
    is.in_range)

pub round_ended : (P : NamedProgram) (old start now : Held) (changed : Bool) (budget : ℕ) (heavy : Option HeavyCall) (r : Round)
    → IsMoved old start → RoundStands P start now changed budget heavy → (r ≡ round.Changed → changed ≡ true)
    → ((f : RoundSoFar) → r ≡ round.Still f → IsStillWith P now f) → (r ≡ round.Failed → ⊥) → RoundIs P old now r
round_ended P old start now changed budget heavy round.Changed moved x was still never =
    alike_then old start now (moved_alike old start moved) (x.progress (was refl))
round_ended P old start now changed budget heavy (round.Still f) moved x was still never = still f refl
round_ended P old start now changed budget heavy round.Failed moved x was still never = absurd (never refl)

-- ---- Measures

-- the rounds end, since the tree grows to its limit, or fewer goals are left
pub fewer_rounds : (old new : Held) → new.used ≤ new.limit → new.limit ≡ old.limit → HasProgressed old new
    → (new.limit - new.used) * 2 ^ 64 + goal_count new < (old.limit - old.used) * 2 ^ 64 + goal_count old
fewer_rounds old new fits same (few, how) = elim how [ inl grew ↦ omega arith | inr less ↦ let a = less.0 in let b = less.1 in omega arith ]
