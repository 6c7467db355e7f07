-- What a look at the next goal of a branch comes to.
use Rattle.std.proofs.Common.{ℕ, ◌≡◌, ◌+◌, ◌<◌, ◌≤◌, Bool, true, List, []}
use Rattle.std.proofs.Common.{◌∷◌, ◌++◌, length, refl, ap, sym, ◌∙◌, subst, inr, ◌⊎◌, arith, Contains}
use Rattle.and_model.specs.Terms.{Term}
use Rattle.and_model.specs.Programs.{call, arithmetic, Arithmetic, clause_at, clause_weight, Of}
use Rattle.and_model.specs.Reached.{Steps, none, more}
use Rattle.and_model.specs.Stands.{term_of}
use Rattle.and_model.specs.Trees.{QueryTree}
use Rattle.and_model.specs.declared.goal.Goal.{Goal}
use Rattle.and_model.specs.declared.limits.TheConstants.{MAX_LIMIT}
use Rattle.and_model.specs.declared.numbers.ClauseNo.{ClauseNo}
use Rattle.and_model.specs.declared.reference.Ref.{Ref}
use Rattle.and_laws.proofs.Deciding.{of_bounds}
use Rattle.and_cells.specs.Ranges.{NamedProgram, IsGoalInRange}
use Rattle.and_cells.specs.Meaning.{IsSettled}
use Rattle.and_branch_laws.specs.OwnVariables.{IsLoaded}
use Rattle.and_branch_laws.specs.Judging.{CandidateInCells, SoleInCells}
use Rattle.and_branch_laws.specs.Kept.{item_at}
use Rattle.and_branch_laws.specs.Goals.{CanBeJudged}
use Rattle.and_reduction.specs.Runs.{CanBeRun, IsWaiting, HasRun, CannotHold}
use Rattle.and_reduction.specs.Trails.{Noted}
use Rattle.and_branch_parts.specs.Branches.{Held, Lives, IsBranch, IsBranchOf, SameKey, is_arithmetic, IsArithmeticGoal}
use Rattle.and_branch_parts.specs.Finding.{HasSeen}
use Rattle.and_branch_parts.specs.Next.{HasNextCall, IsReduced, IsMoved}
use Rattle.and_branch_parts.specs.Origins.{KeepsBack}
use Rattle.and_branch_parts.specs.Rounds.{IsAtMost, IsIdle, StepsOn, AreFew, HasProgressed, WatchesOn, IsDropped, HasPassed, IsAt}
use Rattle.and_branch_parts.specs.Watching.{Watched, HasTwo}
use Rattle.and_branch_parts.specs.declared.finding.Seen.{Seen}
use Rattle.and_branch_parts.specs.declared.finding.Seen.TheVariants as seen
use Rattle.and_branch_parts.proofs.KeptOrigins.{kept_then, kept_nowhere, kept_same}
use Rattle.and_branch_parts.proofs.LivingGoals.{Found, found, is_kept, goal_in_range, can_be_judged, can_be_run}
use Rattle.and_branch_parts.proofs.MovedBranches.{moved_branch}
use Rattle.and_branch_parts.proofs.WatchedGoals.{watching_steps}
use Rattle.and_branch_parts.proofs.GoalsRun.{kind_of_kept, live_of, run_branch, false_branch, idle_branch, last_branch, branch_fits}

-- ---- What holds at a goal

module _ (P : NamedProgram) (b : Held) (g : Goal) (x : IsAt P b g) where
  abbrev tree : QueryTree P.program
  tree = x.branch.0

  abbrev branch : IsBranchOf P b x.branch.0
  branch = x.branch.1

  lives : Lives P b x.branch.0
  lives = live_of P b x.branch.0 x.live x.branch.1

  the_goal : Found P b x.branch.0 b.left g x.rest
  the_goal = found P b x.branch.0 b.left g x.rest lives (ap (λ (l : List Goal). b.left ++ l) x.next)

  pub is_settled : IsSettled P b.row
  is_settled = let k = lives.keeps in k.settled

  pub is_short : length b.row ≤ MAX_LIMIT
  is_short =
      let y = lives in
      let long = y.long in
      let low = branch_fits P b x.branch.0 x.branch.1 in
      let z = x.branch.1 in
      let bound = z.bounded in
      omega arith

  pub judge_ready : IsLoaded P → (term : Term) → item_at P.program g ≡ call term → CanBeJudged P b.row g
  judge_ready loaded term e = can_be_judged P b x.branch.0 b.left g x.rest the_goal loaded term e

  pub run_ready : IsLoaded P → (a : Arithmetic) → item_at P.program g ≡ arithmetic a → CanBeRun P b.row g
  run_ready loaded a e = can_be_run P b x.branch.0 b.left g x.rest the_goal loaded a e

  pub in_range : IsGoalInRange P (length b.row) g
  in_range = goal_in_range P b x.branch.0 b.left g x.rest the_goal

  pub kind : IsLoaded P → ((term : Term) × (item_at P.program g ≡ call term)) ⊎ ((a : Arithmetic) × (item_at P.program g ≡ arithmetic a))
  kind loaded =
      let y = the_goal in
      subst (λ (h : Goal). ((term : Term) × (item_at P.program h ≡ call term)) ⊎ ((a : Arithmetic) × (item_at P.program h ≡ arithmetic a)))
      y.goal_is
      (kind_of_kept P loaded.own b.reductions b.row _ x.branch.0 y.keeps y.f (is_kept P b x.branch.0 b.left g x.rest y))

  pub next_ready : (c : ℕ) (term : Term) → item_at P.program g ≡ call term → Of P.program (term_of P.program g) c
      → b.used + clause_weight (clause_at P.program c) ≤ b.limit → HasNextCall P b c
  next_ready c term e of_it room = record {
    tree = x.branch.0;
    lives = lives;
    goal = g;
    rest = x.rest;
    next = x.next;
    term = term;
    is_call = e;
    there = (of_bounds P.program (term_of P.program g) c of_it).1;
    fits = let z = x.branch.1 in let bound = z.bounded in omega arith;
  }

-- ---- Steps

pub no_steps : (P : NamedProgram) (b : Held) → StepsOn P b b
no_steps P b = record { each = λ t x. (t, x, none t); back = kept_nowhere b }

pub steps_join : (P : NamedProgram) (t u v : QueryTree P.program) → Steps t u → Steps u v → Steps t v
steps_join P t u v x (none w) = x
steps_join P t u v x (more y w next steps step) = more t w next (steps_join P t y w x steps) step

pub steps_then : (P : NamedProgram) (one two three : Held) → StepsOn P one two → StepsOn P two three → StepsOn P one three
steps_then P one two three x y = record {
  each = λ t z.
      (
      let (u, branch, steps) = x.each t z in
      let (v, more_branch, more_steps) = y.each u branch in
      (v, more_branch, steps_join P t u v steps more_steps));
  back = kept_then one two three x.back y.back;
}

pub still_branch : (P : NamedProgram) (old new : Held) → StepsOn P old new → IsBranch P old → IsBranch P new
still_branch P old new x b = let (u, branch, steps) = x.each b.0 b.1 in (u, branch)

pub moved_steps : (P : NamedProgram) (old new : Held) → IsMoved old new → StepsOn P old new
moved_steps P old new m = record { each = λ t x. (t, moved_branch P old new t m x, none t); back = m.back }

-- ---- Passing over

-- where the cells are as before too, all is but what is noted,
pub unmoved : (old mid : Held) → mid ≡ record old { row = mid.row; trail = mid.trail } → mid.row ≡ old.row
    → mid ≡ record old { trail = mid.trail }
unmoved old mid others row = others ∙ ap (λ (l : List Ref). record old { row = l; trail = mid.trail }) row

unmoved_is_moved : (old : Held) (n : Noted) → KeepsBack old (record old { trail = n }) → IsMoved old (record old { trail = n })
unmoved_is_moved old n back = record {
  key = refl;
  limit = refl;
  reductions = refl;
  row = refl;
  used = refl;
  is_failed = refl;
  goals = refl;
  watches = λ w h. h;
  back = back;
}

module _ (P : NamedProgram) (old mid : Held) (is : mid ≡ record old { trail = mid.trail }) (back : KeepsBack old mid) where
  is_moved : IsMoved old mid
  is_moved =
      subst (λ (b : Held). IsMoved old b) (sym is)
      (unmoved_is_moved old mid.trail (subst (λ (b : Held). KeepsBack old b) is back))

  -- so that it is at the same goal,
  pub at_unmoved : (g : Goal) → IsAt P old g → IsAt P mid g
  at_unmoved g x =
      let m = is_moved in
      let branch = moved_branch P old mid x.branch.0 m x.branch.1 in record {
        branch = (x.branch.0, branch);
        live = m.is_failed ∙ x.live;
        rest = x.rest;
        next = ap (λ (b : Held). b.right) is ∙ x.next;
      }

  -- and what is passed over then is passed over.
  pub passed_unmoved : (may : Bool) (new : Held) (g : Goal) (saw : Seen) → HasPassed P may mid new g saw × StepsOn P mid new
      → HasPassed P may old new g saw × StepsOn P old new
  passed_unmoved may new g saw (passed, steps) =
      let h : HasPassed P may (record old { trail = mid.trail }) new g saw = subst (λ (b : Held). HasPassed P may b new g saw) is passed in
      let alike = h.alike in (
        record {
          alike = record { limit = alike.limit; row = alike.row; used = alike.used; failed = alike.failed; goals = alike.goals };
          next = h.next;
          passed = h.passed;
          idle = h.idle;
        },
        steps_then P old mid new (moved_steps P old mid is_moved) steps,
      )

-- what is passed over is idle,
pub passed : (P : NamedProgram) (may : Bool) (old mid new : Held) (g : Goal) (saw : Seen) (x : IsAt P old g) → WatchesOn P old mid → IsMoved mid new
    → ((h : Goal) (rest : List Goal) → mid.right ≡ h ∷ rest → (new.right ≡ rest) × (new.left ≡ mid.left ++ h ∷ []))
    → (may ≡ true → IsIdle P old.limit old.row g × HasSeen P old.limit old.row g saw) → HasPassed P may old new g saw × StepsOn P old new
passed P may old mid new g saw x watches moved passes idle =
    let same : mid ≡ record old { watches = mid.watches } = watches.others in
    let ends = passes g x.rest (ap (λ (b : Held). b.right) same ∙ x.next) in (
      record {
        alike = record {
          limit = moved.limit ∙ ap (λ (b : Held). b.limit) same;
          row = moved.row ∙ ap (λ (b : Held). b.row) same;
          used = moved.used ∙ ap (λ (b : Held). b.used) same;
          failed = moved.is_failed ∙ ap (λ (b : Held). b.is_failed) same;
          goals = moved.goals ∙ ap (λ (b : Held). b.left ++ b.right) same;
        };
        next = x.next ∙ ap (λ (l : List Goal). g ∷ l) (sym ends.0);
        passed = ends.1 ∙ ap (λ (b : Held). b.left ++ g ∷ []) same;
        idle = idle;
      },
      steps_then P old mid new (watching_steps P old mid watches) (moved_steps P mid new moved),
    )

-- as arithmetic that waits is,
pub idle_waiting : (P : NamedProgram) (limit : ℕ) (row : List Ref) (g : Goal) (a : Arithmetic) → item_at P.program g ≡ arithmetic a
    → IsWaiting P row g → IsIdle P limit row g × IsArithmeticGoal P g
idle_waiting P limit row g a e waits = (
  record { waits = waits; several = λ term f c sole room. let both : arithmetic a ≡ call term = sym e ∙ f in absurd (cc) },
  ap is_arithmetic e,
)

-- and a call with two candidates,
pub idle_several : (P : NamedProgram) (limit : ℕ) (row : List Ref) (g : Goal) (term : Term) → item_at P.program g ≡ call term
    → HasTwo P row g → IsIdle P limit row g × HasSeen P limit row g seen.Several
idle_several P limit row g term e (c, d, other, one, two) = (
  record {
    waits = λ a us f read ground. let both : call term ≡ arithmetic a = sym e ∙ f in absurd (cc);
    several = λ t f k sole room. other (sole.1 c one ∙ sym (sole.1 d two));
  },
  (ap is_arithmetic e, (c, d, other, one, two)),
)

-- or for whose only one there is no room.
heavy_is_idle : (P : NamedProgram) (b : Held) (g : Goal) (x : IsAt P b g) (term : Term) → item_at P.program g ≡ call term
    → (k : ℕ) → ((d : ℕ) → CandidateInCells P b.row g d → d ≡ k) → (b.used + clause_weight (clause_at P.program k) ≤ b.limit → ⊥)
    → IsIdle P b.limit b.row g
heavy_is_idle P b g x term e k only no_room =
    let y = lives P b g x in
    let long = y.long in record {
      waits = λ a us f read ground. let both : call term ≡ arithmetic a = sym e ∙ f in absurd (cc);
      several = λ t f c sole room.
          let same : c ≡ k = only c sole.0 in
          let weighs : clause_weight (clause_at P.program c) ≡ clause_weight (clause_at P.program k) =
          ap (λ (n : ℕ). clause_weight (clause_at P.program n)) same in
          no_room (omega arith);
    }

pub idle_heavy : (P : NamedProgram) (b : Held) (g : Goal) (x : IsAt P b g) (term : Term) → item_at P.program g ≡ call term
    → (k : ℕ) → ((d : ℕ) → CandidateInCells P b.row g d → d ≡ k) → (b.used + clause_weight (clause_at P.program k) ≤ b.limit → ⊥)
    → (sole : ClauseNo) → SoleInCells P b.row g sole.0 → IsIdle P b.limit b.row g × HasSeen P b.limit b.row g (seen.Heavy sole)
idle_heavy P b g x term e k only no_room sole is =
    let idle = heavy_is_idle P b g x term e k only no_room in (idle, (ap is_arithmetic e, is, idle.several term e sole.0 is))

-- the next goal is still there where other goals are watched
pub next_still : (P : NamedProgram) (old mid : Held) (g : Goal) → WatchesOn P old mid → IsAt P old g
    → (h : Goal) × (rest : List Goal) × (mid.right ≡ h ∷ rest)
next_still P old mid g watches x = (g, x.rest, ap (λ (b : Held). b.right) watches.others ∙ x.next)

-- ---- Running, reducing and failing

pub ran : (P : NamedProgram) → IsLoaded P → (old mid new : Held) (g : Goal) (x : IsAt P old g)
    → mid ≡ record old { row = mid.row; trail = mid.trail } → KeepsBack old mid → HasRun P old.row mid.row g
    → ((h : Goal) (rest : List Goal) → mid.right ≡ h ∷ rest → IsDropped mid new rest) → AreFew new
    → HasProgressed old new × (new.used ≡ old.used) × (length new.right < length old.right) × StepsOn P old new
ran P loaded old mid new g x mid_is back run dropped few =
    let end : Held = record old { row = mid.row; trail = mid.trail; right = x.rest; watches = new.watches } in
    let mid_next : mid.right ≡ g ∷ x.rest = ap (λ (h : Held). h.right) mid_is ∙ x.next in
    let drops = dropped g x.rest mid_next in
    let new_is : new ≡ end = drops.others ∙ ap (λ (h : Held). record h { right = x.rest; watches = new.watches }) mid_is in
    let used : new.used ≡ old.used = ap (λ (h : Held). h.used) new_is in
    let left : new.left ≡ old.left = ap (λ (h : Held). h.left) new_is in
    let right : new.right ≡ x.rest = ap (λ (h : Held). h.right) new_is in
    let shorter : length new.right < length old.right =
    let one = ap (λ (l : List Goal). length l) right in let other = ap (λ (l : List Goal). length l) x.next in omega arith in
    let fewer : length new.left + length new.right < length old.left + length old.right =
    let same = ap (λ (l : List Goal). length l) left in omega arith in (
      (few, inr (used, fewer)),
      used,
      shorter,
      record {
        each = λ t branch. (
          t,
          run_branch P loaded old new t branch x.live
              (record { key = ap (λ (h : Held). h.key) new_is; limit = ap (λ (h : Held). h.limit) new_is })
              (ap (λ (h : Held). h.reductions) new_is) used g x.rest x.next
              (subst (λ (l : List Ref). HasRun P old.row l g) (sym (ap (λ (h : Held). h.row) new_is)) run)
              left right (ap (λ (h : Held). h.is_failed) new_is ∙ x.live)
              (λ w h. subst (λ (ws : List Watched). Contains ws w) (ap (λ (b : Held). b.watches) mid_is) (drops.watches w h)),
          none t,
        );
        back = kept_then old mid new back
            (kept_same mid new (ap (λ (h : Held). h.row) drops.others) (ap (λ (h : Held). h.reductions) drops.others)
            (ap (λ (h : Held). h.trail) drops.others));
      },
    )

-- a branch that only was marked failed
marked_kept : (old new : Held) → new ≡ record old { is_failed = true } → KeepsBack old new
marked_kept old new marked =
    subst (λ (h : Held). KeepsBack old h) (sym marked) (kept_same old (record old { is_failed = true }) refl refl refl)

pub cannot_hold : (P : NamedProgram) → IsLoaded P → (old mid new : Held) (g : Goal) (x : IsAt P old g)
    → mid ≡ record old { row = mid.row; trail = mid.trail } → KeepsBack old mid
    → CannotHold P old.row g → new ≡ record mid { is_failed = true } → StepsOn P old new
cannot_hold P loaded old mid new g x mid_is back cannot marked =
    let end : Held = record old { row = mid.row; trail = mid.trail; is_failed = true } in
    let new_is : new ≡ end = marked ∙ ap (λ (h : Held). record h { is_failed = true }) mid_is in record {
      each = λ t branch. (
        t,
        false_branch P loaded old new t branch x.live
            (record { key = ap (λ (h : Held). h.key) new_is; limit = ap (λ (h : Held). h.limit) new_is })
            (ap (λ (h : Held). h.reductions) new_is) (ap (λ (h : Held). h.used) new_is) g x.rest x.next cannot
            (ap (λ (h : Held). h.is_failed) new_is),
        none t,
      );
      back = kept_then old mid new back (marked_kept mid new marked);
    }

pub no_candidate : (P : NamedProgram) → IsLoaded P → (old mid new : Held) (g : Goal) (x : IsAt P old g) → mid ≡ old
    → (term : Term) → item_at P.program g ≡ call term → ((c : ℕ) → CandidateInCells P old.row g c → ⊥)
    → new ≡ record mid { is_failed = true } → StepsOn P old new
no_candidate P loaded old mid new g x mid_is term e none_is marked =
    let end : Held = record old { is_failed = true } in
    let new_is : new ≡ end = marked ∙ ap (λ (h : Held). record h { is_failed = true }) mid_is in record {
      each = λ t branch. (
        t,
        idle_branch P loaded old new t branch x.live
            (record { key = ap (λ (h : Held). h.key) new_is; limit = ap (λ (h : Held). h.limit) new_is })
            (ap (λ (h : Held). h.reductions) new_is) (ap (λ (h : Held). h.used) new_is) g x.rest x.next term e none_is
            (ap (λ (h : Held). h.is_failed) new_is),
        none t,
      );
      back = marked_kept old new new_is;
    }

pub reduced_steps : (P : NamedProgram) → IsLoaded P → (old new : Held) (g : Goal) (x : IsAt P old g) → SameKey old new → (term : Term)
    → item_at P.program g ≡ call term → (c : ℕ) → IsAtMost P old.row g c
    → old.used + clause_weight (clause_at P.program c) ≤ old.limit → IsReduced P old new c → KeepsBack old new → StepsOn P old new
reduced_steps P loaded old new g x same term e c last room reduced back = record {
  each = λ t branch. last_branch P loaded old new t branch x.live same g x.rest x.next term e c last room reduced;
  back = back;
}
