-- The state of a branch at rest, by what was found of its goals.
use Rattle.std.proofs.Common.{ℕ, ◌≡◌, ◌≢◌, ◌≤◌, false, length, List, [], ◌∷◌, ◌++◌, map, append-nil, refl, ap, sym, ◌∙◌, subst, inl, inr}
use Rattle.std.proofs.Common.{Contains, Option, Some, None}
use Rattle.std.specs.Prelude.{All, filter, ◌↔◌}
use Rattle.std.specs.Option.{option_map}
use Rattle.std.proofs.lemmas.List.Elements.{All-contains, Contains-append_left, Contains-append_right}
use Rattle.and_model.specs.Trees.{QueryTree, Open, path}
use Rattle.and_model.specs.Stands.{Framed}
use Rattle.and_model.specs.Limits.{at_goal}
use Rattle.and_model.specs.declared.goal.Cut.{Cut}
use Rattle.and_model.specs.declared.goal.Goal.{Goal}
use Rattle.and_model.specs.declared.numbers.ClauseNo.{ClauseNo}
use Rattle.and_model.specs.declared.reference.Ref.{Ref}
use Rattle.and_laws.proofs.Deciding.{of_bounds}
use Rattle.and_laws.proofs.Ordered.{contains_first, contains_none}
use Rattle.and_branch_laws.proofs.Lists.{all_of}
use Rattle.and_cells.specs.Ranges.{NamedProgram}
use Rattle.and_branch_parts.proofs.SeenGoals.{contains_image}
use Rattle.and_determinacy.specs.Candidates.{AreCandidates}
use Rattle.and_guards.specs.Goals.{CanBeJudged}
use Rattle.and_branch_laws.specs.OwnVariables.{IsLoaded}
use Rattle.and_branch_laws.specs.Judging.{CandidateInCells, SoleInCells, FitsBehind, NoneIsGround, EachHasTwo, NoCall}
use Rattle.and_branch_laws.specs.Kept.{IsCall, goal_of, Kept}
use Rattle.and_branch_laws.specs.States.{StateOf, IsFirst, IsCut}
use Rattle.and_branch_laws.specs.States as laws
use Rattle.and_branch_laws.proofs.Judging
use Rattle.and_branch_laws.proofs.Keeping
use Rattle.and_branch_laws.proofs.Lists.{Parts, parted}
use Rattle.and_code.specs.Written.{all_written}
use Rattle.and_branch_parts.specs.Branches.{Held, is_arithmetic, Lives, IsBranchOf, IsOpenGoal}
use Rattle.and_branch_parts.specs.Forking.{numbers}
use Rattle.and_branch.specs.States.{IsCutAt, IsCutOf, IsState}
use Rattle.and_branch.specs.declared.state.BranchState.{BranchState}
use Rattle.and_branch.specs.declared.state.BranchState.TheVariants.{Fork, OverLimit}
use Rattle.and_branch_parts.specs.Watching.{HasTwo}
use Rattle.and_branch_parts.specs.Finding.{IsCallGoal, AllCalls, HasOne, HasNoSole, HasNoFitting, IsCallAmong, IsSeveral, IsHeavy, IsSeen}
use Rattle.and_branch_parts.specs.Forking.{fits_in, first_other, HasCutBy}
use Rattle.and_branch_parts.specs.Resting.{IsResting}
use Rattle.and_branch_parts.proofs.ArithmeticRuns.{called, calls, lives, all_seen, can_be_judged}
use Rattle.and_branch_parts.proofs.CandidatesParted.{fitting_are, fitting_rising, first_is, number_in}

-- what holds of the calls of a list of goals holds of kept goals that are these
lifted : (P : NamedProgram) (Q : Goal → Type 0) (fs : List Framed) (gs : List Goal) → map goal_of fs ≡ gs → AllCalls P Q gs → (f : Framed)
    → Contains fs f → IsCall P.program f → Q f.goal
lifted P Q fs gs e h f i is_call =
    h f.goal (subst (λ (l : List Goal). Contains l f.goal) e (contains_image goal_of fs f i)) (calls P f is_call)

-- The cut is that of the tree.
pub cut_of : (P : NamedProgram) (b : Held) (t : QueryTree P.program) → IsBranchOf P b t → (o : Open t) (goal : Goal)
    → IsOpenGoal P b.reductions t o goal
    → (cut : Cut) → all_written cut.partial ≡ b.reductions → cut.goal ≡ goal → IsCutAt P t o cut.clause.0 cut
cut_of P b t x o goal at cut partial same =
    subst (λ rs. IsCut rs cut.goal cut.clause.0 (at_goal t o cut.clause.0)) (sym partial)
    (subst (λ (g : Goal). IsCut b.reductions g cut.clause.0 (at_goal t o cut.clause.0)) (sym same)
    (x.made, refl, at.frame, at.place, at.clause, at.path_is))

module _ (P : NamedProgram) (loaded : IsLoaded P) (b : Held) (t : QueryTree P.program) (x : IsBranchOf P b t)
    (live : b.is_failed ≡ false) (rests : IsResting P b) where
  abbrev l : Lives P b t
  l = lives P loaded b t x live

  all_left : map goal_of l.kept ≡ b.left
  all_left = l.goals ∙ ap (λ (r : List Goal). b.left ++ r) rests.past ∙ append-nil b.left

  none_ground : NoneIsGround P b.row l.kept
  none_ground f a us i e read ground =
      rests.waits f.goal (subst (λ (gs : List Goal). Contains gs f.goal) all_left (contains_image goal_of l.kept f i))
      (ap is_arithmetic e) a us e read ground

  -- ---- No call is left

  module _ (no_call : AllCalls P (λ g. ⊥) b.left) where
    no_call_kept : NoCall P l.kept
    no_call_kept f i is_call = lifted P (λ g. ⊥) l.kept b.left all_left no_call f i is_call

    none_kept : (fs : List Framed) → map goal_of fs ≡ [] → fs ≡ []
    none_kept [] e = refl
    none_kept (f ∷ fs) e = absurd (cc)

    pub answer_is : b.left ≡ [] → StateOf P.program b.limit t laws.answer
    answer_is none = Judging.state_answer P loaded b.reductions b.row l.kept t l.keeps b.limit (none_kept l.kept (all_left ∙ none))

    pub floundered_is : b.left ≢ [] → StateOf P.program b.limit t laws.floundered
    floundered_is some = Judging.state_floundered P loaded b.reductions b.row l.kept t l.keeps b.limit none_ground no_call_kept
        (λ e. some (sym all_left ∙ ap (map goal_of) e))

  -- ---- A call decides

  module _ (goal : Goal) (among : IsCallAmong P b.left goal) where
    pub place : Parts goal_of l.kept among.front goal among.back
    place = parted goal_of l.kept among.front goal among.back (all_left ∙ among.all)

    abbrev kept : List Framed
    kept = place.front ++ place.middle ∷ place.back

    there : Contains (place.front ++ place.middle ∷ place.back) place.middle
    there = Contains-append_right place.front (place.middle ∷ place.back) place.middle (contains_first place.middle place.back)

    keeps : Kept P b.reductions b.row (place.front ++ place.middle ∷ place.back) t
    keeps = subst (λ (fs : List Framed). Kept P b.reductions b.row fs t) place.is l.keeps

    none_there : NoneIsGround P b.row (place.front ++ place.middle ∷ place.back)
    none_there = subst (NoneIsGround P b.row) place.is none_ground

    is_call : IsCall P.program place.middle
    is_call = called P place.middle (subst (IsCallGoal P) (sym place.middle_is) among.called)

    pub opened : (o : Open t) × (path t o ≡ place.middle.frame ++ place.middle.goal.item ∷ [])
    opened = let found = Keeping.kept_open P loaded.own b.reductions b.row kept t keeps place.middle there is_call in (found.0, found.1)

    pub open_goal : IsOpenGoal P b.reductions t opened.0 goal
    open_goal = subst (λ (g : Goal). IsOpenGoal P b.reductions t opened.0 g) place.middle_is (record {
      frame = place.middle.frame;
      place = Keeping.place_of P loaded.own b.reductions b.row kept t keeps place.middle there;
      clause = Keeping.clause_of P loaded.own b.reductions b.row kept t keeps place.middle there;
      path_is = opened.1;
    })

    in_all : (Q : Goal → Type 0) → AllCalls P Q b.left → (f : Framed) → Contains (place.front ++ place.middle ∷ place.back) f
        → IsCall P.program f → Q f.goal
    in_all Q h f i c = lifted P Q l.kept b.left all_left h f (subst (λ (fs : List Framed). Contains fs f) (sym place.is) i) c

    in_front : (Q : Goal → Type 0) → AllCalls P Q among.front → (f : Framed) → Contains place.front f → IsCall P.program f → Q f.goal
    in_front Q h f i c = lifted P Q place.front among.front place.front_is h f i c

    of_goal : (Q : Goal → Type 0) → Q goal → Q place.middle.goal
    of_goal Q h = subst Q (sym place.middle_is) h

    -- or that does not
    pub over_one_is : (c : ℕ) → SoleInCells P b.row goal c → AllCalls P (HasNoSole P b.row) among.front → AllCalls P (HasOne P b.row) b.left
        → AllCalls P (HasNoFitting P b.limit b.row) b.left → StateOf P.program b.limit t (laws.over_one opened.0 c)
    over_one_is c sole first each none =
        Judging.state_over_one P loaded b.reductions b.row place.front place.middle place.back t keeps none_there is_call b.limit opened.0
        opened.1 (λ f i k. in_all (HasOne P b.row) each f i k) c (of_goal (λ (g : Goal). SoleInCells P b.row g c) sole)
        (λ f d i k s z. in_all (HasNoFitting P b.limit b.row) none f i k d s z)
        (λ f d i k s. in_front (HasNoSole P b.row) first f i k d s)

    -- ---- The leftmost call is to be forked

    module _ (first : AllCalls P (λ g. ⊥) among.front) (each : AllCalls P (HasTwo P b.row) b.left) (cs : List ClauseNo)
        (are : AreCandidates P b.row goal cs) where
      abbrev fitting : List ClauseNo
      fitting = filter (fits_in P b.limit b.row) cs

      abbrev heavy : Option ℕ
      heavy = option_map (λ (c : ClauseNo). c.0) (first_other (fits_in P b.limit b.row) cs)

      candidate : (c : ℕ) → Contains (numbers cs) c ↔ CandidateInCells P b.row place.middle.goal c
      candidate c = (
        λ i. of_goal (λ (g : Goal). CandidateInCells P b.row g c) ((are.1 c).0 i),
        λ k. (are.1 c).1 (subst (λ (g : Goal). CandidateInCells P b.row g c) place.middle_is k),
      )

      each_two : EachHasTwo P b.row (place.front ++ place.middle ∷ place.back)
      each_two f i k = in_all (HasTwo P b.row) each f i k

      no_call_before : NoCall P place.front
      no_call_before f i k = in_front (λ g. ⊥) first f i k

      moved : (A B : ℕ → Type 0) (o : Option ℕ) → ((d : ℕ) → A d → B d) → ((d : ℕ) → B d → A d) → IsFirst A o → IsFirst B o
      moved A B None f g h = λ d y. h d (g d y)
      moved A B (Some c) f g h = (f c h.0, λ d y. h.1 d (g d y))

      heavy_first : IsFirst (λ d. CandidateInCells P b.row place.middle.goal d × (FitsBehind P b.limit b.row d → ⊥)) heavy
      heavy_first =
          moved (λ d. Contains (numbers cs) d × (FitsBehind P b.limit b.row d → ⊥))
          (λ d. CandidateInCells P b.row place.middle.goal d × (FitsBehind P b.limit b.row d → ⊥)) heavy
          (λ d y. ((candidate d).0 y.0, y.1)) (λ d y. ((candidate d).1 y.0, y.1)) (first_is P b.limit b.row cs are.0)

      pub fork_is : fitting ≢ [] → StateOf P.program b.limit t (laws.fork opened.0 (numbers fitting) heavy)
      fork_is some =
          Judging.state_fork P loaded b.reductions b.row place.front place.middle place.back t keeps none_there is_call b.limit opened.0
          opened.1 each_two no_call_before (numbers fitting) (λ e. some (no_numbers fitting e)) (fitting_rising P b.limit b.row cs are.0)
          (λ c. (
            λ i. let r = (fitting_are P b.limit b.row cs c).0 i in ((candidate c).0 r.0, r.1),
            λ y. (fitting_are P b.limit b.row cs c).1 ((candidate c).1 y.0, y.1),
          )) heavy heavy_first
        where
          no_numbers : (ds : List ClauseNo) → numbers ds ≡ [] → ds ≡ []
          no_numbers [] e = refl
          no_numbers (d ∷ ds) e = absurd (cc)

      -- or all its candidates are too heavy, of which this is the first
      over_first : (o : Option ClauseNo) → IsFirst (λ d. CandidateInCells P b.row place.middle.goal d × (FitsBehind P b.limit b.row d → ⊥))
          (option_map (λ (c : ClauseNo). c.0) o)
          → ((d : ℕ) → CandidateInCells P b.row place.middle.goal d → FitsBehind P b.limit b.row d → ⊥)
          → (c : ClauseNo) × (o ≡ Some c) × StateOf P.program b.limit t (laws.over_all opened.0 c.0)
      over_first None h none =
          let two = each_two place.middle there is_call in absurd (h two.0 (two.3, λ z. none two.0 two.3 z))
      over_first (Some c) h none = (
        c,
        refl,
        Judging.state_over_all P loaded b.reductions b.row place.front place.middle place.back t keeps none_there is_call b.limit opened.0
            opened.1 each_two no_call_before none c.0 (h.0.0, λ d y. h.1 d (y, λ z. none d y z)),
      )

      pub over_all_is : fitting ≡ [] → (c : ClauseNo) × (first_other (fits_in P b.limit b.row) cs ≡ Some c)
          × StateOf P.program b.limit t (laws.over_all opened.0 c.0)
      over_all_is none = over_first (first_other (fits_in P b.limit b.row) cs) heavy_first (λ d k z.
          let i = (fitting_are P b.limit b.row cs d).1 ((candidate d).1 k, z) in
          contains_none d (subst (λ (ds : List ClauseNo). Contains (numbers ds) d) none i))

-- ---- What is told of it

pub two_there : (P : NamedProgram) (row : List Ref) (gs : List Goal) (goal : Goal) → IsSeveral P row gs goal → HasTwo P row goal
two_there P row gs goal several =
    several.each goal (subst (λ (xs : List Goal). Contains xs goal) (sym several.among.all)
    (Contains-append_right several.among.front (goal ∷ several.among.back) goal (contains_first goal several.among.back))) several.among.called

pub there_judged : (P : NamedProgram) (loaded : IsLoaded P) (b : Held) (t : QueryTree P.program) → IsBranchOf P b t → b.is_failed ≡ false
    → (goal : Goal) → IsCallAmong P b.left goal → CanBeJudged P b.row goal
there_judged P loaded b t x live goal among =
    let at : Contains b.left goal = subst (λ (gs : List Goal). Contains gs goal) (sym among.all)
    (Contains-append_right among.front (goal ∷ among.back) goal (contains_first goal among.back)) in
    can_be_judged P b.row goal (All-contains (IsSeen P b.row) (b.left ++ b.right) goal (all_seen P loaded b t x live)
    (Contains-append_left b.left b.right goal at)) among.called

pub candidates_there : (P : NamedProgram) (row : List Ref) (goal : Goal) (cs : List ClauseNo) → AreCandidates P row goal cs
    → All (λ (c : ClauseNo). c.0 ≤ length P.program.clauses) cs
candidates_there P row goal cs are =
    all_of (λ (c : ClauseNo). c.0 ≤ length P.program.clauses) cs
    (λ c i. (of_bounds P.program _ c.0 ((are.1 c.0).0 (number_in cs c i)).0).1)

module _ (P : NamedProgram) (loaded : IsLoaded P) (b : Held) (t : QueryTree P.program) (x : IsBranchOf P b t)
    (live : b.is_failed ≡ false) (rests : IsResting P b) where
  pub told_heavy : (goal : Goal) (clause : ClauseNo) → IsHeavy P b.limit b.row b.left goal clause.0 → (cut : Cut)
      → all_written cut.partial ≡ b.reductions → cut.goal ≡ goal → cut.clause ≡ clause → IsState P b t (OverLimit cut)
  told_heavy goal clause f cut partial same_goal same = (
    (opened P loaded b t x live rests goal f.among).0,
    cut.clause.0,
    cut_of P b t x (opened P loaded b t x live rests goal f.among).0 goal (open_goal P loaded b t x live rests goal f.among) cut partial
        same_goal,
    inl (subst (λ (c : ClauseNo). StateOf P.program b.limit t (laws.over_one (opened P loaded b t x live rests goal f.among).0 c.0))
        (sym same)
        (over_one_is P loaded b t x live rests goal f.among clause.0 f.sole f.first f.each f.none)),
  )

  -- ---- The fork

  module _ (goal : Goal) (s : IsSeveral P b.row b.left goal) (cs : List ClauseNo) (are : AreCandidates P b.row goal cs)
      (fitting : List ClauseNo) (kept : fitting ≡ filter (fits_in P b.limit b.row) cs)
      (heavy : Option ClauseNo) (left : heavy ≡ first_other (fits_in P b.limit b.row) cs) where
    -- the cut, by its clause
    cut_at : (clause : ClauseNo) (cut : Cut) → HasCutBy b goal (Some clause) (Some cut)
        → IsCutAt P t (opened P loaded b t x live rests goal s.among).0 clause.0 cut
    cut_at clause cut has =
        subst (λ (c : ClauseNo). IsCutAt P t (opened P loaded b t x live rests goal s.among).0 c.0 cut) has.2
        (cut_of P b t x (opened P loaded b t x live rests goal s.among).0 goal (open_goal P loaded b t x live rests goal s.among) cut has.0
        has.1)

    cut_if : (o : Option ClauseNo) (cut : Option Cut) → HasCutBy b goal o cut
        → IsCutOf P t (opened P loaded b t x live rests goal s.among).0 (option_map (λ (c : ClauseNo). c.0) o) cut
    cut_if None None has = tt
    cut_if None (Some cut) has = has
    cut_if (Some clause) None has = has
    cut_if (Some clause) (Some cut) has = cut_at clause cut has

    forked_heavy : fitting ≡ [] → (c : ClauseNo) × (heavy ≡ Some c)
        × StateOf P.program b.limit t (laws.over_all (opened P loaded b t x live rests goal s.among).0 c.0)
    forked_heavy none =
        let r = over_all_is P loaded b t x live rests goal s.among s.first s.each cs are (sym kept ∙ none) in (r.0, left ∙ r.1, r.2)

    is_some : (o : Option ClauseNo) (c : ClauseNo) (cut : Option Cut) → o ≡ Some c → HasCutBy b goal o cut → (d : Cut) × (cut ≡ Some d)
        × HasCutBy b goal (Some c) (Some d)
    is_some o c None e has = absurd (subst (λ (y : Option ClauseNo). HasCutBy b goal y None) e has)
    is_some o c (Some d) e has = (d, refl, subst (λ (y : Option ClauseNo). HasCutBy b goal y (Some d)) e has)

    pub some_cut : (cut : Option Cut) → HasCutBy b goal heavy cut → fitting ≡ [] → (d : Cut) × (cut ≡ Some d)
    some_cut cut has none = let r = forked_heavy none in let i = is_some heavy r.0 cut r.1 has in (i.0, i.1)

    fork_state : fitting ≢ [] → StateOf P.program b.limit t
        (laws.fork (opened P loaded b t x live rests goal s.among).0 (numbers fitting) (option_map (λ (c : ClauseNo). c.0) heavy))
    fork_state some =
        subst (λ (o : Option ClauseNo). StateOf P.program b.limit t
        (laws.fork (opened P loaded b t x live rests goal s.among).0 (numbers fitting) (option_map (λ (c : ClauseNo). c.0) o)))
        (sym left)
        (subst (λ (ds : List ClauseNo). StateOf P.program b.limit t
        (laws.fork (opened P loaded b t x live rests goal s.among).0 (numbers ds)
        (option_map (λ (c : ClauseNo). c.0) (first_other (fits_in P b.limit b.row) cs)))) (sym kept)
        (fork_is P loaded b t x live rests goal s.among s.first s.each cs are (λ e. some (kept ∙ e))))

    told_by : (ds : List ClauseNo) → fitting ≡ ds → (cut : Option Cut) → HasCutBy b goal heavy cut → (r : BranchState)
        → (fitting ≢ [] → r ≡ Fork goal fitting cut) → ((over : Cut) → fitting ≡ [] → cut ≡ Some over → r ≡ OverLimit over)
        → IsState P b t r
    told_by [] e cut has r fork over =
        let h = forked_heavy e in
        let i = is_some heavy h.0 cut h.1 has in
        subst (IsState P b t) (sym (over i.0 e i.1))
        ((opened P loaded b t x live rests goal s.among).0, h.0.0, cut_at h.0 i.0 i.2, inr h.2)
    told_by (d ∷ ds) e cut has r fork over =
        let some : fitting ≢ [] = λ none. let bad : d ∷ ds ≡ [] = sym e ∙ none in absurd (cc) in
        subst (IsState P b t) (sym (fork some)) (
          (opened P loaded b t x live rests goal s.among).0,
          option_map (λ (c : ClauseNo). c.0) heavy,
          open_goal P loaded b t x live rests goal s.among,
          cut_if heavy cut has,
          fork_state some,
        )

    pub told_fork : (cut : Option Cut) → HasCutBy b goal heavy cut → (r : BranchState) → (fitting ≢ [] → r ≡ Fork goal fitting cut)
        → ((over : Cut) → fitting ≡ [] → cut ≡ Some over → r ≡ OverLimit over) → IsState P b t r
    told_fork cut has r fork over = told_by fitting refl cut has r fork over
