-- What the state of a branch says that its event did.
use Rattle.std.proofs.Common.{ℕ, suc, ◌+◌, ◌≡◌, ◌<◌, ◌≤◌, ◌↔◌, Bool, true, false, ◌||◌, true≢false, List, [], ◌∷◌, ◌++◌, length, Contains, AllPairs}
use Rattle.std.proofs.Common.{refl, sym, ap, ◌∙◌, subst, arith, inl, inr}
use Rattle.std.specs.Prelude.{Option, Some, None}
use Rattle.std.specs.Option.{option_or}
use Rattle.std.proofs.Math.Bool.{or-false, or-true}
use Rattle.std.proofs.lemmas.List.Elements.{All-contains}
use Rattle.and_model.specs.Limits.{at_goal}
use Rattle.and_model.specs.Lines.{Bytes}
use Rattle.and_model.specs.Listing
use Rattle.and_model.specs.Listing.{Outcome, Ends}
use Rattle.and_model.specs.Trees.{QueryTree, Open, call_of, code, IsWhole, decided, reduce, weight}
use Rattle.and_model.specs.Reached.{Step, Split, Dead, CandidateOf, ReachedBy}
use Rattle.and_model.specs.declared.goal
use Rattle.and_laws.proofs.Deciding.{of_bounds}
use Rattle.and_laws.proofs.Order.{reduce_weight}
use Rattle.and_laws.proofs.Ordered.{contains_first, contains_more, contains_none}
use Rattle.and_laws.proofs.Pairwise.{all_pairs_first, all_pairs_rest}
use Rattle.and_laws.proofs.Reaching.{reached_within}
use Rattle.and_cells.specs.Ranges.{NamedProgram}
use Rattle.and_histories.specs.PlainTree.{Key, fork, end, answered, retired}
use Rattle.and_branch_laws.specs.States as states
use Rattle.and_branch_laws.specs.States.{StateOf, Fits, IsFirst, over_one, over_all}
use Rattle.and_branch_laws.proofs.Going.{over_one_cut, over_all_cut, fork_cut}
use Rattle.and_branch.specs.Branches.{Held, IsBranchOf}
use Rattle.and_branch.specs.Ended.{IsLineOf}
use Rattle.and_branch.specs.States.{IsState, IsCutOf}
use Rattle.and_branch.specs.declared.state.BranchState.TheVariants as told
use Rattle.and_answers.specs.Kept.{total, outcome_with}
use Rattle.and_answers.specs.declared.found.Found.{Found}
use Rattle.and_walk_laws.specs.Walks.{Walks, WalksSplits}
use Rattle.and_walk_laws.proofs.Forking.{some_clauses}
use Rattle.and_branch.specs.Ended.{EndsSo}
use Rattle.and_search_laws.specs.Ended.{IsEndSoFar}
use Rattle.and_search_laws.proofs.Ending.{one_counted, MeetsLimit, end_counted, end_cut}
use Rattle.and_branch.proofs.StatesTold.{state_within}
use Rattle.and_search_laws.proofs.Splitting.{too_heavy, split_weighs, candidate_splits, split_candidate}
use Rattle.and_team_laws.specs.Done.{IsForkedBy, Did}

-- whether there is one
abbrev pub is_there : Option ℕ → Bool
is_there None = false
is_there (Some c) = true

-- Numbers that rise from one on and stay below another are no more than lie between.
pub rising_few : (cs : List ℕ) (low n : ℕ) → AllPairs (λ (c d : ℕ). c < d) cs → ((c : ℕ) → Contains cs c → (low ≤ c) × (c < n))
    → low ≤ n → length cs + low ≤ n
rising_few [] low n rising within below = omega arith
rising_few (c ∷ cs) low n rising within below =
    let R : ℕ → ℕ → Type 0 = λ c d. c < d in
    let first : (low ≤ c) × (c < n) = within c (contains_first c cs) in
    let rest : length cs + suc c ≤ n = rising_few cs (suc c) n (all_pairs_rest R c cs rising)
    (λ d i. (All-contains (R c) cs d (all_pairs_first R c cs rising) i, (within d (contains_more c d cs i)).1)) first.1 in
    let low_is = first.0 in
    omega arith

module _ (P : NamedProgram) where
  -- The line and the code of a branch are those with which its tree ends.
  told_one : (b : Held) (is_floundered : Bool) (cs : List ℕ) (text : Bytes) (t : QueryTree P.program) → (IsWhole t → cs ≡ code t)
      → IsLineOf P b t text → EndsSo P b t is_floundered → (cs ≡ code t) × Ends t (outcome_with is_floundered text)
  told_one b true cs text t codes line state = (codes state.4, line.flounders state)
  told_one b false cs text t codes line state = (codes state.4, line.answers state)

  pub told_entry : (b : Held) (is_floundered : Bool) (cs : List ℕ) (text : Bytes) (old new : List Listing.Entry)
      → ((t : QueryTree P.program) → IsBranchOf P b t → IsWhole t → cs ≡ code t)
      → ((t : QueryTree P.program) → IsBranchOf P b t → IsLineOf P b t text)
      → new ≡ old ++ record { code = cs; outcome = outcome_with is_floundered text } ∷ []
      → (t : QueryTree P.program) → IsBranchOf P b t → EndsSo P b t is_floundered
      → (o : Outcome) × Ends t o × (new ≡ old ++ record { code = code t; outcome = o } ∷ [])
  told_entry b is_floundered cs text old new codes line added t branch state =
      let o : Outcome = outcome_with is_floundered text in
      let (same, ends) = told_one b is_floundered cs text t (codes t branch) (line t branch) state in
      (o, ends, added ∙ ap (λ (k : List ℕ). old ++ record { code = k; outcome = o } ∷ []) same)

module _ (P : NamedProgram) (limit : ℕ) where
  -- The tree of a branch is reached by the branch's key.
  pub reached_at : (b : Held) (t : QueryTree P.program) → IsBranchOf P b t → b.limit ≡ limit → ReachedBy P.program limit b.key t
  reached_at b t branch same = subst (λ n. ReachedBy P.program n b.key t) same branch.reached

  -- The branch has ended so.
  pub did_tell : (team : ℕ) (b : Held) (t : QueryTree P.program) (o : Outcome) → IsBranchOf P b t → b.limit ≡ limit → Ends t o
      → Did P.program limit (end team b.key answered) (record { code = code t; outcome = o } ∷ []) 0 0 false
  did_tell team b t o branch same ends =
      let reached = reached_at b t branch same in
      Did.told team b.key t (record { code = code t; outcome = o }) reached
      (Walks.ended t o (reached_within P.program limit b.key t reached) ends)

  -- It has failed.
  pub did_fail : (team : ℕ) (b : Held) (t : QueryTree P.program) → IsBranchOf P b t → b.limit ≡ limit → Dead t
      → Did P.program limit (end team b.key retired) [] 0 1 false
  did_fail team b t branch same dead =
      Did.ended team b.key t 0 1 false (reached_at b t branch same) (Walks.dead t dead) (λ e. refl)

  -- It is over the limit, and this was cut off.
  pub record WasOver (team : ℕ) (b : Held) (cut : goal.Cut.Cut) : Type 0 where
    pub forks : ℕ
    pub did : Did P.program limit (end team b.key retired) [] forks 0 true
    pub meets : MeetsLimit P.program limit cut

  -- the splits of a tree all of which are too heavy
  all_heavy : (t : QueryTree P.program) (cs : List ℕ)
      → ((c : ℕ) → Contains cs c → (next : QueryTree P.program) × Split t c next × (limit < weight next))
      → (c : ℕ) → Contains cs c → WalksSplits P.program limit t cs [] 0 0 true
  all_heavy t [] each c i = absurd (contains_none c i)
  all_heavy t (c ∷ []) each d i =
      let first = each c (contains_first c []) in
      WalksSplits.too_heavy t first.0 c [] [] 0 0 false first.1 first.2 (WalksSplits.no_more t)
  all_heavy t (c ∷ (d ∷ cs)) each e i =
      let first = each c (contains_first c (d ∷ cs)) in
      WalksSplits.too_heavy t first.0 c (d ∷ cs) [] 0 0 true first.1 first.2
      (all_heavy t (d ∷ cs) (λ k j. each k (contains_more c k (d ∷ cs) j)) d (contains_first d cs))

  -- All candidates of the leftmost goal are too heavy: a fork with no split that fits.
  over_all_walks : (t : QueryTree P.program) (o : Open t) (c : ℕ) → StateOf P.program limit t (over_all o c)
      → Walks P.program limit t [] 1 0 true
  over_all_walks t o c x =
      let shut = x.2 in
      let (cs, v) = some_clauses t shut.0 o in
      let first = candidate_splits t o x.0 x.1 shut c x.4.0 in
      Walks.forked t cs [] 0 0 true shut.0 o v (all_heavy t cs
      (λ d i.
      let s = (v.1 d).0 i in
      let heavy = too_heavy limit t d (λ fits. x.3 d (split_candidate t o x.0 x.1 shut d s.0 s.1) fits) in
      (s.0, s.1, omega (arith, heavy, split_weighs t s.0 d s.1)))
      c ((v.1 c).1 first))

  -- The goal's one candidate is too heavy: a Step that is over the limit.
  over_one_walks : (t : QueryTree P.program) (o : Open t) (c : ℕ) → StateOf P.program limit t (over_one o c)
      → Walks P.program limit t [] 0 0 true
  over_one_walks t o c x =
      let k : CandidateOf t x.0 o c = x.4.0 in
      let heavy = too_heavy limit t c (λ fits. x.3 o c x.4 fits) in
      let next : QueryTree P.program = reduce t o c k.0 in
      let step : Step t next = (x.0, x.1, x.2.0, o, c, k.0, refl, x.4.1) in
      Walks.over t next step (omega (arith, heavy, reduce_weight t o c k.0))

  pub was_over : (team : ℕ) (b : Held) (t : QueryTree P.program) (cut : goal.Cut.Cut) → IsBranchOf P b t → b.limit ≡ limit
      → IsState P b t (told.OverLimit cut) → WasOver team b cut
  was_over team b t cut branch same state = go (reached_at b t branch same) state
    where
      go : ReachedBy P.program limit b.key t → IsState P b t (told.OverLimit cut) → WasOver team b cut
      go reached (o, c, is, inl one) =
          let s = state_within P limit b t (over_one o c) same one in
          record {
            forks = 0;
            did = Did.ended team b.key t 0 0 true reached (over_one_walks t o c s) (λ e. refl);
            meets = (at_goal t o c, is, over_one_cut P.program limit b.key t reached o c s);
          }
      go reached (o, c, is, inr all) =
          let s = state_within P limit b t (over_all o c) same all in
          record {
            forks = 1;
            did = Did.ended team b.key t 1 0 true reached (over_all_walks t o c s) (λ e. absurd (true≢false e));
            meets = (at_goal t o c, is, over_all_cut P.program limit b.key t reached o c s);
          }

  -- A fork.
  module _ (t : QueryTree P.program) (o : Open t) (cs : List ℕ) (first : Option ℕ) (x : StateOf P.program limit t (states.fork o cs first)) where
    -- Its clauses are those of the splits that fit,
    fitting : (c : ℕ) → Contains cs c ↔ ((next : QueryTree P.program) × Split t c next × (weight next ≤ limit))
    fitting c = (
      λ i.
          let k = (x.5 c).0 i in
          let s = candidate_splits t o x.0 x.1 x.2 c k.0 in
          (s.0, s.1, omega (arith, split_weighs t s.0 c s.1, k.1)),
      λ s. (x.5 c).1 (split_candidate t o x.0 x.1 x.2 c s.0 s.1, omega (arith, split_weighs t s.0 c s.1, s.2)),
    )

    -- and some split does not fit where a clause is named that does not.
    heavy : (is_there first ≡ true) ↔ ((c : ℕ) × (next : QueryTree P.program) × Split t c next × (limit < weight next))
    heavy = go first x.6
      where
        go : (f : Option ℕ) → IsFirst (λ d. CandidateOf t x.0 o d × (Fits limit t d → ⊥)) f
            → (is_there f ≡ true) ↔ ((c : ℕ) × (next : QueryTree P.program) × Split t c next × (limit < weight next))
        go None none = (
          λ e. absurd (true≢false (sym e)),
          λ s. absurd (none s.0 (
            split_candidate t o x.0 x.1 x.2 s.0 s.1 s.2,
            λ fits. absurd (omega (arith, fits, split_weighs t s.1 s.0 s.2, s.3)),
          )),
        )
        go (Some c) is = (
          λ e.
              let s = candidate_splits t o x.0 x.1 x.2 c is.0.0 in
              (c, s.0, s.1, (let above = too_heavy limit t c is.0.1 in omega (arith, above, split_weighs t s.0 c s.1))),
          λ s. refl,
        )

    pub forked_by : IsForkedBy P.program limit t cs (is_there first)
    forked_by = record { shut = x.2.0; open_goal = o; rising = x.4; fitting = fitting; heavy = heavy }

    -- They are no more than the program has.
    pub few_forked : length cs ≤ length P.program.clauses
    few_forked =
        let few : length cs + 1 ≤ suc (length P.program.clauses) = rising_few cs 1 (suc (length P.program.clauses)) x.4
        (λ c i. let b = of_bounds P.program (call_of t o) c ((x.5 c).0 i).0.0 in (omega (arith, b.0), omega (arith, b.1)))
        (omega arith) in
        omega arith

  pub did_fork : (team : ℕ) (b : Held) (t : QueryTree P.program) (o : Open t) (cs : List ℕ) (first : Option ℕ) → IsBranchOf P b t
      → b.limit ≡ limit → StateOf P.program b.limit t (states.fork o cs first)
      → Did P.program limit (fork team b.key (decided t) cs) [] 1 0 (is_there first)
  did_fork team b t o cs first branch same state =
      Did.forked team b.key cs t (is_there first) (reached_at b t branch same)
      (forked_by t o cs first (state_within P limit b t (states.fork o cs first) same state))

  -- The cut of a fork is kept if none is, and the fork is counted.
  pub forked_end : (old new : Found) (f m : ℕ) (b : Bool) (t : QueryTree P.program) (o : Open t) (key : Key) (cs : List ℕ) (first : Option ℕ)
      (cut : Option goal.Cut.Cut)
      → ReachedBy P.program limit key t → StateOf P.program limit t (states.fork o cs first) → IsCutOf P t o first cut
      → new.forks ≡ total old.forks 1 → new.failed ≡ old.failed → new.cut ≡ option_or old.cut cut
      → IsEndSoFar P.program limit old f m b old.cut
      → IsEndSoFar P.program limit new (f + 1) m (b || is_there first) new.cut
  forked_end old new f m b t o key cs None None reached x is forks failed kept e =
      let same : new.cut ≡ old.cut = kept ∙ none_kept old.cut in
      end_counted P.program limit old new f m (f + 1) m b (b || false) same (or-false b) (λ h. forks ∙ one_counted old.forks f h)
      (λ h. failed ∙ h) e
    where
      none_kept : (c : Option goal.Cut.Cut) → option_or c None ≡ c
      none_kept None = refl
      none_kept (Some c) = refl
  forked_end old new f m b t o key cs None (Some cut) reached x is forks failed kept e = absurd is
  forked_end old new f m b t o key cs (Some c) None reached x is forks failed kept e = absurd is
  forked_end old new f m b t o key cs (Some c) (Some cut) reached x is forks failed kept e =
      end_cut P.program limit old new f m (f + 1) m b (b || true) cut kept (or-true b)
      (at_goal t o c, is, fork_cut P.program limit key t reached o cs c x) e
