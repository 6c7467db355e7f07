-- How a walk goes on, as its functions tell it.
use Rattle.std.proofs.Common.{ℕ, suc, ◌+◌, ◌^◌, ◌≡◌, ◌≢◌, ◌<◌, ◌≤◌, Bool, true, false, true≢false, List, [], ◌∷◌, ◌++◌, length, take, refl, sym, ap}
use Rattle.std.proofs.Common.{◌∙◌, subst, arith, inl, inr, append-nil}
use Rattle.std.specs.Prelude.{Option, Some, None}
use Rattle.and_model.specs.Limits.{at_goal, query_alone}
use Rattle.and_model.specs.Prefixes.{IsPrefix}
use Rattle.and_model.specs.Programs.{clause_weight}
use Rattle.and_model.specs.Trees.{QueryTree, Open, blank, query_agenda, weight}
use Rattle.and_model.specs.Reached.{Steps, ReachedBy}
use Rattle.and_model.specs.declared.limits.TheConstants.{MAX_LIMIT}
use Rattle.and_model.specs.declared.goal.Cut.{Cut}
use Rattle.and_model.specs.declared.goal.Goal.{Goal}
use Rattle.and_model.specs.declared.numbers.ClauseNo.{ClauseNo}
use Rattle.and_laws.proofs.Order.{blank_weighs}
use Rattle.and_laws.proofs.Ordered.{contains_none, contains_cases}
use Rattle.and_cells.specs.Ranges.{NamedProgram}
use Rattle.and_code.specs.Telling.{IsTold, left_of}
use Rattle.and_code.specs.Written.{all_written}
use Rattle.and_code.specs.declared.telling.CodeSoFar.{CodeSoFar}
use Rattle.and_branch_laws.specs.States.{IsCut, StateOf, over_one, over_all, fork}
use Rattle.and_branch_laws.proofs.Going.{over_one_cut, over_all_cut, fork_cut}
use Rattle.and_branch.specs.Branches.{Held, IsBranchOf, IsOpenGoal, SameKey}
use Rattle.and_branch.specs.States.{numbers, IsState, IsCutOf}
use Rattle.and_branch.specs.declared.state.BranchState.TheVariants as told
use Rattle.and_branch.specs.Children.{Fork, AreChildren, IsChild, IsForkOf}
use Rattle.and_branch.specs.Origins.{GoesBack, KeepsBack}
use Rattle.and_branch.proofs.KeptOrigins.{go_back_on}
use Rattle.and_branch.proofs.StatesTold.{state_within}
use Rattle.and_traces.specs.Traces
use Rattle.and_traces.specs.Traces.{Event, Report, TracesQuery, CutsMeet, MeetsLimit, is_cut, cut_report}
use Rattle.and_traces.proofs.Forked.{one_kept, all_kept}
use Rattle.and_visit.specs.Searched.{IsSearched}
use Rattle.and_visit.specs.Walking.{One, Telling, parents_of, places_of, turns, IsReady, IsLeft, IsAfter}
use Rattle.and_visit.specs.declared.stack.Hand.{Hand}
use Rattle.and_visit.specs.declared.stack.Level.{Level}
use Rattle.and_visit.proofs.Owing.{cuts_both, light, owed_root, owed_steps, owed_told, owed_begins, shallow}
use Rattle.and_visit.proofs.Splitting.{owed_fork, fork_there, owed_next, owed_last, children_there, some_there}
use Rattle.and_visit.proofs.Told.{forked_back, child_back, last_back, told_forked, told_advanced, child_told, below_told}
use Rattle.and_visit.proofs.Told.{levels_left, levels_advanced, levels_told}
use Rattle.and_visit.proofs.Turns.{fewer_gone, grown_turns, fewer_forked, fewer_next, fewer_last}

length_numbers : (cs : List ClauseNo) → length (numbers cs) ≡ length cs
length_numbers [] = refl
length_numbers (c ∷ cs) = ap suc (length_numbers cs)

-- the report of a cut
abbrev told_cut : ℕ → Cut → Report
told_cut depth x = record { depth = depth; event = Traces.cut x }

abbrev cut_of : Cut → Event → Cut
cut_of other (Traces.forked cs) = other
cut_of other (Traces.cut x) = x
cut_of other Traces.failed = other
cut_of other (Traces.ended cs o) = other

same_cut : (x y : Cut) (n m : ℕ) → told_cut n x ≡ told_cut m y → x ≡ y
same_cut x y n m e = ap (λ (s : Report). cut_of y s.event) e

module _ (P : NamedProgram) (limit : ℕ) where
  -- Where no cut is told,
  pub none_cut : CutsMeet P.program limit []
  none_cut depth x i = absurd (contains_none (record { depth = depth; event = Traces.cut x }) i)

  pub not_cut : (r : Report) → is_cut r.event ≡ false → CutsMeet P.program limit (r ∷ [])
  not_cut r e depth x i = elim (contains_cases r (record { depth = depth; event = Traces.cut x }) [] i) [
    | inl same ↦ absurd (true≢false (ap (λ (s : Report). is_cut s.event) same ∙ e))
    | inr behind ↦ none_cut depth x behind
  ]

  -- or one is that is true.
  pub one_cut : (d : ℕ) (cut : Cut) → MeetsLimit P.program limit cut → CutsMeet P.program limit (told_cut d cut ∷ [])
  one_cut d cut meets depth x i = elim (contains_cases (told_cut d cut) (told_cut depth x) [] i) [
    | inl same ↦ subst (λ y. MeetsLimit P.program limit y) (sym (same_cut x cut depth d same)) meets
    | inr behind ↦ none_cut depth x behind
  ]

  -- A branch is over the limit,
  over_of : (b : Held) (t : QueryTree P.program) (cut : Cut) → IsBranchOf P b t → b.limit ≡ limit → IsState P b t (told.OverLimit cut)
      → MeetsLimit P.program limit cut
  over_of b t cut branch limited (o, c, is, inl one) =
      let reached : ReachedBy P.program limit b.key t = subst (λ n. ReachedBy P.program n b.key t) limited branch.reached in
      (at_goal t o c, is, over_one_cut P.program limit b.key t reached o c (state_within P limit b t (over_one o c) limited one))
  over_of b t cut branch limited (o, c, is, inr all) =
      let reached : ReachedBy P.program limit b.key t = subst (λ n. ReachedBy P.program n b.key t) limited branch.reached in
      (at_goal t o c, is, over_all_cut P.program limit b.key t reached o c (state_within P limit b t (over_all o c) limited all))

  -- (what there is to tell of it)
  over_trace : (b : Held) (d : ℕ) (t : QueryTree P.program) (cut : Cut) → IsBranchOf P b t → b.limit ≡ limit
      → IsState P b t (told.OverLimit cut)
      → Traces.Traces P.program limit t d (record { depth = d; event = Traces.cut cut } ∷ [])
  over_trace b d t cut branch limited (o, c, is, inl one) =
      Traces.over t t d cut (Steps.none t, light P limit b t branch limited)
      (one_kept P.program limit t o c (state_within P limit b t (over_one o c) limited one))
  over_trace b d t cut branch limited (o, c, is, inr all) =
      Traces.over t t d cut (Steps.none t, light P limit b t branch limited)
      (all_kept P.program limit t o c (state_within P limit b t (over_all o c) limited all))

  -- and so it is where some clause of its fork is.
  heavy_of : (b : Held) (d : ℕ) (t : QueryTree P.program) (cs : List ℕ) (o : Open t) (first : Option ℕ) (cut : Option Cut)
      → IsBranchOf P b t → b.limit ≡ limit → IsCutOf P t o first cut
      → StateOf P.program b.limit t (fork o cs first) → CutsMeet P.program limit (cut_report d cut)
  heavy_of b d t cs o first None branch limited is s = none_cut
  heavy_of b d t cs o None (Some cut) branch limited is s = absurd is
  heavy_of b d t cs o (Some c) (Some cut) branch limited is s =
      let reached : ReachedBy P.program limit b.key t = subst (λ n. ReachedBy P.program n b.key t) limited branch.reached in
      one_cut d cut (
        at_goal t o c,
        is,
        fork_cut P.program limit b.key t reached o cs c (state_within P limit b t (fork o cs (Some c)) limited s),
      )

module _ {N : Type 0} (P : NamedProgram) (limit : ℕ) where
  -- At first the query's branch is in hand.
  pub ready_begun : (Seen : List Report → Type 0) (stack : List (Level N)) (b : Held) (t : CodeSoFar) → stack ≡ [] → Seen []
      → IsBranchOf P b (blank (query_agenda P.program)) → b.limit ≡ limit → IsTold P.program b.reductions t b.key
      → IsReady P limit Seen stack (record { branch = b; told = t; depth = 0 })
  ready_begun Seen stack b t empty has branch limited told =
      subst (λ (ls : List (Level N)). IsReady P limit Seen ls (record { branch = b; told = t; depth = 0 })) (sym empty) (record {
        telling = record { seen = []; has = has; cuts = none_cut P limit; owes = owed_root P limit b branch limited };
        back = tt;
        told = told;
        levels = tt;
      })

  -- (the tree of the branch in hand)
  pub tree_there : (Seen : List Report → Type 0) (stack : List (Level N)) (h : Hand N) → IsReady P limit Seen stack h
      → (t : QueryTree P.program) × IsBranchOf P h.branch t
  tree_there Seen stack h ready = (ready.telling.owes.tree, ready.telling.owes.branch)

  -- The branch in hand goes on by Steps,
  pub ready_advanced : (Seen : List Report → Type 0) (stack : List (Level N)) (h : Hand N) (b : Held) → IsReady P limit Seen stack h
      → SameKey h.branch b
      → ((t : QueryTree P.program) → IsBranchOf P h.branch t → (u : QueryTree P.program) × IsBranchOf P b u × Steps t u)
      → KeepsBack h.branch b → IsReady P limit Seen stack (record { branch = b; told = h.told; depth = h.depth })
  ready_advanced Seen stack h b ready same steps keeps =
      let w = ready.telling in
      record {
        telling = record {
          seen = w.seen;
          has = w.has;
          cuts = w.cuts;
          owes = (owed_steps P limit h.depth h.branch b (places_of stack) w.seen w.owes same steps).0;
        };
        back = go_back_on h.branch b (parents_of stack) keeps ready.back;
        told = told_advanced P h.branch b h.told same keeps ready.told;
        levels = levels_advanced P h.branch b h.told.length stack same ready.levels;
      }

  -- and has no more turns then.
  pub turns_advanced : (Seen : List Report → Type 0) (stack : List (Level N)) (h : Hand N) (b : Held) → IsReady P limit Seen stack h
      → SameKey h.branch b
      → ((t : QueryTree P.program) → IsBranchOf P h.branch t → (u : QueryTree P.program) × IsBranchOf P b u × Steps t u)
      → turns limit (One h.depth b ∷ places_of stack) ≤ turns limit (One h.depth h.branch ∷ places_of stack)
  turns_advanced Seen stack h b ready same steps =
      grown_turns limit h.depth h.branch b (places_of stack)
      (owed_steps P limit h.depth h.branch b (places_of stack) ready.telling.seen ready.telling.owes same steps).1

  -- What is so within fewer turns is so within more.
  pub after_within : (low high : ℕ) (Seen : List Report → Type 0) (stack : List (Level N)) (left : Held) → low ≤ high
      → IsAfter P limit low Seen stack left → IsAfter P limit high Seen stack left
  after_within low high Seen stack left h x = (x.0, omega (arith, h, x.1))

  -- Something is told of the branch in hand, which is left then.
  pub after_told : (Old New : List Report → Type 0) (stack : List (Level N)) (h : Hand N) (more : List Report) → IsReady P limit Old stack h
      → ((t : QueryTree P.program) → IsBranchOf P h.branch t → h.branch.limit ≡ limit → Traces.Traces P.program limit t h.depth more)
      → CutsMeet P.program limit more → ((seen : List Report) → Old seen → New (seen ++ more))
      → IsAfter P limit (turns limit (One h.depth h.branch ∷ places_of stack)) New stack h.branch
  after_told Old New stack h more ready trace cuts tell =
      let w = ready.telling in (
        record {
          telling = record {
            seen = w.seen ++ more;
            has = tell w.seen w.has;
            cuts = cuts_both P.program limit w.seen more w.cuts cuts;
            owes = owed_told P limit h.depth h.branch (places_of stack) w.seen more w.owes trace;
          };
          back = ready.back;
          levels = levels_left P h.told.length h.branch.key stack ready.levels;
        },
        fewer_gone limit (One h.depth h.branch) (places_of stack),
      )

  -- The branch in hand is over the limit.
  pub after_over : (Old New : List Report → Type 0) (stack : List (Level N)) (h : Hand N) (cut : Cut) → IsReady P limit Old stack h
      → ((t : QueryTree P.program) → IsBranchOf P h.branch t → IsState P h.branch t (told.OverLimit cut))
      → ((seen : List Report) → Old seen → New (seen ++ record { depth = h.depth; event = Traces.cut cut } ∷ []))
      → IsAfter P limit (turns limit (One h.depth h.branch ∷ places_of stack)) New stack h.branch
  after_over Old New stack h cut ready state tell =
      let x = ready.telling.owes in
      after_told Old New stack h (record { depth = h.depth; event = Traces.cut cut } ∷ []) ready
      (λ t branch limited. over_trace P limit h.branch h.depth t cut branch limited (state t branch))
      (one_cut P limit h.depth cut (over_of P limit h.branch x.tree cut x.branch x.limited (state x.tree x.branch))) tell

  -- (what a fork of the branch in hand is asked)
  pub fork_asked : (Seen : List Report → Type 0) (stack : List (Level N)) (h : Hand N) (g : Goal) (clauses : List ClauseNo) (cut : Option Cut)
      → IsReady P limit Seen stack h
      → ((t : QueryTree P.program) → IsBranchOf P h.branch t → IsState P h.branch t (told.Fork g clauses cut))
      → (t : QueryTree P.program) × (o : Open t) × (first : Option ℕ) × IsBranchOf P h.branch t × IsOpenGoal P h.branch.reductions t o g
      × StateOf P.program h.branch.limit t (fork o (numbers clauses) first)
  fork_asked Seen stack h g clauses cut ready state =
      fork_there P limit h.depth h.branch (places_of stack) ready.telling.seen g clauses cut ready.telling.owes state

  pub depth_below : (Seen : List Report → Type 0) (stack : List (Level N)) (h : Hand N) → IsReady P limit Seen stack h → h.depth ≤ MAX_LIMIT
  depth_below Seen stack h ready =
      shallow P limit h.depth h.branch (places_of stack) ready.telling.seen ready.telling.owes

  -- The branch in hand is forked: that is told, and its children are on top.
  pub after_fork : (Old New : List Report → Type 0) (stack after : List (Level N)) (h : Hand N) (g : Goal) (clauses : List ClauseNo)
      (cut : Option Cut) (f : Fork) (t : CodeSoFar) (left : Held) → IsReady P limit Old stack h
      → ((t : QueryTree P.program) → IsBranchOf P h.branch t → IsState P h.branch t (told.Fork g clauses cut))
      → IsForkOf h.branch g (numbers clauses) f → ((t : QueryTree P.program) → IsBranchOf P h.branch t → AreChildren P f t)
      → GoesBack h.branch left → IsTold P.program h.branch.reductions t f.longer → t.length ≡ length f.longer → left.key ≡ f.longer
      → IsPrefix (take h.told.length h.branch.key) f.longer
      → ((seen : List Report) → Old seen
      → New (seen ++ record { depth = h.depth; event = Traces.forked (numbers clauses) } ∷ cut_report h.depth cut))
      → length clauses ≤ 2 ^ 64 → after ≡ record { point = f; told = t; depth = h.depth + 1 } ∷ stack
      → IsAfter P limit (turns limit (One h.depth h.branch ∷ places_of stack)) New after left
  after_fork Old New stack after h g clauses cut f t left ready state is children back told long key begins tell few top =
      let bound : ℕ = turns limit (One h.depth h.branch ∷ places_of stack) in
      let w = ready.telling in
      let x = w.owes in
      let (o, first, goal_is, cut_is, s) = state x.tree x.branch in
      let l : Level N = record { point = f; told = t; depth = h.depth + 1 } in
      let r : Report = record { depth = h.depth; event = Traces.forked (numbers clauses) } in
      let cuts : CutsMeet P.program limit (r ∷ cut_report h.depth cut) =
      cuts_both P.program limit (r ∷ []) (cut_report h.depth cut) (not_cut P limit r refl)
      (heavy_of P limit h.branch h.depth x.tree (numbers clauses) o first cut x.branch x.limited cut_is s) in
      let forked = owed_fork P limit h.depth h.branch (places_of stack) w.seen g clauses cut f w.owes state is children in
      let as_many : length f.clauses ≡ length clauses = ap (λ (cs : List ℕ). length cs) is.clauses_are ∙ length_numbers clauses in
      subst (λ (ls : List (Level N)). IsAfter P limit bound New ls left) (sym top) (
        record {
          telling = record {
            seen = w.seen ++ r ∷ cut_report h.depth cut;
            has = tell w.seen w.has;
            cuts = cuts_both P.program limit w.seen (r ∷ cut_report h.depth cut) w.cuts cuts;
            owes = forked.0;
          };
          back = forked_back h.branch left g (numbers clauses) l stack (l ∷ stack) is back ready.back refl;
          levels = told_forked P h.branch left (take h.told.length h.branch.key) g (numbers clauses) l stack (l ∷ stack)
              is told long key begins ready.levels refl;
        },
        fewer_forked limit h.depth (h.depth + 1) h.branch f (places_of stack) (ap (λ (b : Held). b.used) is.parent) forked.1
            (omega (arith, as_many, few)),
      )

  -- (what is asked of a fork on top)
  module _ (Seen : List Report → Type 0) (stack : List (Level N)) (level : Level N) (left : Held)
      (x : IsLeft P limit Seen (level ∷ stack) left) where
    pub children_asked : (t : QueryTree P.program) × AreChildren P level.point t
    children_asked = children_there P limit level.depth level.point (places_of stack) x.telling.seen x.telling.owes

    pub some_asked : level.point.clauses ≢ []
    some_asked = some_there P limit level.depth level.point (places_of stack) x.telling.seen x.telling.owes

    pub key_asked : IsPrefix level.point.longer left.key
    key_asked = x.levels.1

    pub back_asked : GoesBack level.point.parent left
    back_asked = x.back.0

    -- The next child is in hand, and below it those that are still to come;
    pub next_ready : (after : List (Level N)) (g : Fork) (b : Held) (own : CodeSoFar) → IsChild P level.point g b
        → 1 < length level.point.clauses → GoesBack level.point.parent b → own.length ≡ level.told.length
        → left_of own ≡ left_of level.told
        → after ≡ record { point = g; told = level.told; depth = level.depth } ∷ stack
        → IsReady P limit Seen after (record { branch = b; told = own; depth = level.depth })
        × (turns limit (One level.depth b ∷ places_of after) < turns limit (places_of (level ∷ stack)))
    next_ready after g b own is many back long same top =
        let f : Fork = level.point in
        let m : Level N = record { point = g; told = level.told; depth = level.depth } in
        let w = x.telling in
        let (here, begins, below) = x.levels in
        let taken = owed_next P limit level.depth f g b (places_of stack) w.seen w.owes is many in
        subst (λ (ls : List (Level N)). IsReady P limit Seen ls (record { branch = b; told = own; depth = level.depth })
        × (turns limit (One level.depth b ∷ places_of ls) < turns limit (places_of (level ∷ stack)))) (sym top) (
          record {
            telling = record { seen = w.seen; has = w.has; cuts = w.cuts; owes = taken.0 };
            back = child_back P left b f m stack (m ∷ stack) is back x.back refl;
            told = child_told P level g b own here is long same back.made back.reductions;
            levels = levels_told P level g b own here is long same m stack (m ∷ stack) refl refl below refl;
          },
          fewer_next limit level.depth f g b (places_of stack) (ap (λ (cs : List ℕ). length cs) is.next)
              (ap (λ (h : Held). h.used) is.parent) taken.1,
        )

    -- or the last.
    pub last_ready : (g : Fork) (b : Held) → IsChild P level.point g b → length level.point.clauses ≤ 1
        → KeepsBack level.point.parent b
        → IsReady P limit Seen stack (record { branch = b; told = level.told; depth = level.depth })
        × (turns limit (One level.depth b ∷ places_of stack) < turns limit (places_of (level ∷ stack)))
    last_ready g b is few keeps =
        let f : Fork = level.point in
        let w = x.telling in
        let (here, begins, below) = x.levels in
        let taken = owed_last P limit level.depth f g b (places_of stack) w.seen w.owes is few in (
          record {
            telling = record { seen = w.seen; has = w.has; cuts = w.cuts; owes = taken.0 };
            back = last_back left b f stack keeps x.back;
            told = child_told P level g b level.told here is refl refl keeps.made keeps.grows;
            levels = below_told P level g b level.told here is refl refl stack below;
          },
          fewer_last limit level.depth f (length g.clauses) b (places_of stack) (ap (λ (cs : List ℕ). length cs) is.next) taken.1,
        )

  -- The visitor has enough,
  pub searched_so_far : (Seen : List Report → Type 0) (stack : List (Level N)) (h : Hand N) (n : ℕ) (enough : Bool)
      → IsReady P limit Seen stack h → enough ≡ true → limit ≡ n → IsSearched P.program n Seen enough
  searched_so_far Seen stack h n enough ready is same =
      let w = ready.telling in
      let (rest, all) = owed_begins P limit (One h.depth h.branch ∷ places_of stack) w.seen w.owes in
      subst (λ m. IsSearched P.program m Seen enough) same (record {
        seen = w.seen;
        has = w.has;
        cuts = w.cuts;
        rest = rest;
        traces = all;
        whole = λ no. absurd (true≢false (sym is ∙ no));
      })

-- or nothing is left to be walked.
pub searched_all : (P : NamedProgram) (limit : ℕ) (Seen : List Report → Type 0) (n : ℕ) (enough : Bool) → Telling P limit Seen []
    → limit ≡ n → IsSearched P.program n Seen enough
searched_all P limit Seen n enough w same =
    let all : TracesQuery P.program limit (w.seen ++ []) =
    subst (λ rs. TracesQuery P.program limit rs) (sym (append-nil w.seen)) w.owes in
    subst (λ m. IsSearched P.program m Seen enough) same (record {
      seen = w.seen;
      has = w.has;
      cuts = w.cuts;
      rest = [];
      traces = all;
      whole = λ no. refl;
    })

-- The query by itself was too heavy, and a visitor with enough was told nothing,
pub searched_none : (P : NamedProgram) (limit : ℕ) (Seen : List Report → Type 0) (enough : Bool) (cut : Cut) → Seen []
    → limit < clause_weight P.program.query → enough ≡ true → IsSearched P.program limit Seen enough
searched_none P limit Seen enough cut has heavy is =
    let weighs : weight (blank {P = P.program} (query_agenda P.program)) ≡ clause_weight P.program.query =
    omega (arith, blank_weighs P.program (query_agenda P.program)) in
    record {
      seen = [];
      has = has;
      cuts = none_cut P limit;
      rest = record { depth = 0; event = Traces.cut cut } ∷ [];
      traces = TracesQuery.alone cut (omega (arith, weighs, heavy));
      whole = λ no. absurd (true≢false (sym is ∙ no));
    }

-- or else of the cut.
pub searched_alone : (P : NamedProgram) (limit : ℕ) (Old New : List Report → Type 0) (enough : Bool) (cut : Cut) → Old []
    → limit < clause_weight P.program.query → IsCut {P = P.program} (all_written cut.partial) cut.goal cut.clause.0 query_alone
    → ((seen : List Report) → Old seen → New (seen ++ record { depth = 0; event = Traces.cut cut } ∷ []))
    → IsSearched P.program limit New enough
searched_alone P limit Old New enough cut has heavy is tell =
    let weighs : weight (blank {P = P.program} (query_agenda P.program)) ≡ clause_weight P.program.query =
    omega (arith, blank_weighs P.program (query_agenda P.program)) in
    record {
      seen = record { depth = 0; event = Traces.cut cut } ∷ [];
      has = tell [] has;
      cuts = one_cut P limit 0 cut (query_alone, is, heavy);
      rest = [];
      traces = TracesQuery.alone cut (omega (arith, weighs, heavy));
      whole = λ no. refl;
    }
