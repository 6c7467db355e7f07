-- How a team goes on with one of its branches, by what the state of the branch is.
use Rattle.std.proofs.Common.{ℕ, ◌+◌, ◌^◌, ◌≡◌, ◌<◌, ◌≤◌, Bool, true, false, ◌||◌, List, [], ◌∷◌, ◌++◌, length, Vec}
use Rattle.std.proofs.Common.{append-nil, refl, sym, ap, ◌∙◌, subst, arith}
use Rattle.std.specs.declared.alloc.Global.{Global}
use Rattle.std.specs.Prelude.{flat_map, Option, Some, Result, Ok, Err, OnOk, OnErr}
use Rattle.std.specs.Option.{option_or}
use Rattle.std.proofs.Math.Bool.{or-false, or-true}
use Rattle.std.proofs.lemmas.Result.{on_ok_weaker}
use Rattle.std.proofs.lemmas.List.{length-map}
use Rattle.std.proofs.lemmas.List.Sums.{sum_by-cons}
use Rattle.and_model.specs.Listing
use Rattle.and_model.specs.Listing.{Outcome, Ends}
use Rattle.and_model.specs.Prefixes.{IsPrefix}
use Rattle.and_model.specs.Trees.{QueryTree, Open, code}
use Rattle.and_model.specs.Reached.{Dead}
use Rattle.and_model.specs.declared.goal
use Rattle.and_model.specs.declared.goal.Goal.{Goal}
use Rattle.and_model.specs.declared.numbers.ClauseNo.{ClauseNo}
use Rattle.and_model.specs.declared.limits.TheConstants.{MAX_CLAUSES}
use Rattle.and_laws.proofs.Keys.{reached_decided}
use Rattle.and_program.specs.Nodes.{shapes_of, entry_clause}
use Rattle.and_program.specs.declared.loaded.Loaded.{Loaded}
use Rattle.and_cells.specs.Parts.{named}
use Rattle.and_cells.specs.Ranges.{NamedProgram}
use Rattle.and_histories.specs.PlainTree as plain
use Rattle.and_histories.specs.PlainTree.{Key, Ending, answered, retired, given_up, end, last, forked}
use Rattle.and_tree.specs.Few.{most_in_hand}
use Rattle.and_tree.specs.Passes.{TreeId, PassSeen, Makes}
use Rattle.and_tree.specs.Plain.{Tally, ended_so}
use Rattle.and_code.specs.Telling.{IsTold}
use Rattle.and_branch_laws.specs.States.{StateOf, fork}
use Rattle.and_branch.specs.Branches.{Held, IsBranchOf, IsOpenGoal, SameKey}
use Rattle.and_branch.specs.Children.{Fork, AreChildren, IsForkOf}
use Rattle.and_branch.specs.States.{numbers, IsState, IsCutOf}
use Rattle.and_branch.specs.declared.state.BranchState.TheVariants as told
use Rattle.and_answers.specs.Kept.{listed, total, SameEnd}
use Rattle.and_answers.specs.declared.found.Found.{Found}
use Rattle.and_search_laws.specs.Found.{kept_count}
use Rattle.and_search_laws.specs.Ended.{IsEndSoFar, SameButCut}
use Rattle.and_search_laws.proofs.Ending.{one_counted, end_counted, end_cut}
use Rattle.and_branch.proofs.StatesTold.{state_within}
use Rattle.and_team_laws.specs.Done.{Did}
use Rattle.and_tasks.specs.Placed.{StandsWithin, IsForkWithin, fork_of}
use Rattle.and_tasks.specs.Working.{keys_of, AreToCome, Has, Works, Tells}
use Rattle.and_tasks.specs.declared.stack.Level.{Level}
use Rattle.and_tasks.specs.declared.stack.Task.{Task}
use Rattle.and_tasks.specs.declared.stack.Task.TheVariants.{One, Children}
use Rattle.and_tasks.specs.declared.team.TheConstants.{MOST_TASKS}
use Rattle.and_tasks.proofs.Having.{has_popped, has_pushed, has_swapped, hand_bounded, has_ended_under, has_forked}
use Rattle.and_tasks.proofs.Judging.{is_there, reached_at, did_tell, did_fail, WasOver, was_over, forked_by, few_forked, did_fork, forked_end}
use Rattle.and_tasks.proofs.Telling.{tells_more}

-- An end counts no fork.
ended_counts : (how : Ending) (y : Tally) → (ended_so how y).forks ≡ y.forks
ended_counts answered y = refl
ended_counts retired y = refl
ended_counts given_up y = refl

-- A program that is loaded has few clauses.
pub few_clauses : (P : NamedProgram) (l : Loaded) → P ≡ named l → length P.program.clauses ≤ MAX_CLAUSES
few_clauses P l same =
    let whole = ap (λ (Q : NamedProgram). length Q.program.clauses) same in
    let mapped = length-map l.clauses.items (entry_clause (shapes_of l.nodes.items)) in
    let few = l.kept.few_clauses in
    omega (arith, whole, mapped, few)

module _ (P : NamedProgram) where
  -- The key of a branch that is split begins those of its children.
  pub begins_longer : (f : Fork) (t : QueryTree P.program) → IsBranchOf P f.parent t → AreChildren P f t → IsPrefix f.parent.key f.longer
  begins_longer f t branch are =
      subst (λ (k : Key). IsPrefix f.parent.key k) (sym are.longer) (reached_decided P.program f.parent.limit f.parent.key t branch.reached)

  -- They are few.
  pub few_children : (l : Loaded) (f : Fork) (t : QueryTree P.program) (o : Open t) (first : Option ℕ) → P ≡ named l
      → StateOf P.program f.parent.limit t (fork o f.clauses first) → length f.clauses ≤ 2 ^ 16
  few_children l f t o first same state =
      omega (arith, few_clauses P l same, few_forked P f.parent.limit t o f.clauses first state)

module _ {N : Type 0} (P : NamedProgram) (tree : TreeId) where
  -- ---- the order of tasks

  -- A task in front may as well stand on top, at the end, and one on top in front.
  pub works_put : (p : PassSeen) (found : Found) (x : Task N) (tasks after : List (Task N)) → Works P tree p found (x ∷ tasks)
      → after ≡ tasks ++ x ∷ [] → Works P tree p found after
  works_put p found x tasks after w is =
      subst (λ ts. Works P tree p found ts) (sym is) (record { has = has_pushed P tree p tasks x w.has; tells = w.tells })

  pub works_popped : (p : PassSeen) (found : Found) (x : Task N) (tasks before : List (Task N)) → Works P tree p found before
      → before ≡ tasks ++ x ∷ [] → Works P tree p found (x ∷ tasks)
  works_popped p found x tasks before w is =
      let now : Works P tree p found (tasks ++ x ∷ []) = subst (λ ts. Works P tree p found ts) is w in
      record { has = has_popped P tree p tasks x now.has; tells = now.tells }

  -- What a team has and told is the same where its pass, what it found and its stack are.
  pub has_kept : (p q : PassSeen) (xs : List (Task N)) (u v : Vec (Task N) Global) → q ≡ p → v ≡ u → Has P tree p (xs ++ u.items)
      → Has P tree q (xs ++ v.items)
  has_kept p q xs u v same stack h =
      subst (λ (r : PassSeen). Has P tree r (xs ++ v.items)) (sym same)
      (subst (λ (w : Vec (Task N) Global). Has P tree p (xs ++ w.items)) (sym stack) h)

  pub works_kept : (p q : PassSeen) (old new : Found) (xs ys : List (Task N)) → q ≡ p → new ≡ old → Works P tree p old xs → Has P tree q ys
      → Works P tree q new ys
  works_kept p q old new xs ys same found w h = record {
    has = h;
    tells = subst (λ (r : PassSeen). Tells P.program tree.about.limit r new) (sym same)
        (subst (λ (f : Found). Tells P.program tree.about.limit p f) (sym found) w.tells);
  }

  -- The second of two tasks in front may stand on top.
  pub has_second_on_top : (p : PassSeen) (x y : Task N) (tasks after : List (Task N)) → Has P tree p (x ∷ y ∷ tasks) → after ≡ tasks ++ y ∷ []
      → Has P tree p (x ∷ after)
  has_second_on_top p x y tasks after h is =
      subst (λ ts. Has P tree p (x ∷ ts)) (sym is) (has_pushed P tree p (x ∷ tasks) y (has_swapped P tree p x y tasks h))

  -- A task was put on top; or it was given up, for want of memory.
  pub has_put : {T E : Type 0} (r : Result T E) (p q : PassSeen) (x : Task N) (before after : List (Task N)) → Has P tree p (x ∷ before)
      → OnOk r ((q ≡ p) × (after ≡ before ++ x ∷ []))
      → OnErr r ((after ≡ before) × ((others : List (Task N)) → Has P tree p (x ∷ others) → Has P tree q others)) → Has P tree q after
  has_put (Ok t) p q x before after h well ill =
      subst (λ (ts : List (Task N)). Has P tree q ts) (sym well.1)
      (subst (λ (r : PassSeen). Has P tree r (before ++ x ∷ [])) (sym well.0) (has_pushed P tree p before x h))
  has_put (Err e) p q x before after h well ill = subst (λ (ts : List (Task N)). Has P tree q ts) (sym ill.0) (ill.1 before h)

  pub works_on : {T E : Type 0} (r : Result T E) (p q : PassSeen) (old new : Found) (x : Task N) (before after : List (Task N))
      → Works P tree p old (x ∷ before) → new ≡ old → OnOk r ((q ≡ p) × (after ≡ before ++ x ∷ [])) → OnOk r (Works P tree q new after)
  works_on r p q old new x before after w same well = on_ok_weaker r
      (λ k. works_put q new x before after
      (works_kept p q old new (x ∷ before) (x ∷ before) k.0 same w (subst (λ (s : PassSeen). Has P tree s (x ∷ before)) (sym k.0) w.has)) k.1) well

  -- ---- a branch in front

  -- Another branch may stand in its place that has its key, and stands for a tree.
  pub works_stepped : (p : PassSeen) (found : Found) (b d : Held) (tasks : List (Task N)) → Works P tree p found (One b ∷ tasks) → SameKey b d
      → ((t : QueryTree P.program) → IsBranchOf P b t → (u : QueryTree P.program) × IsBranchOf P d u) → Works P tree p found (One d ∷ tasks)
  works_stepped p found b d tasks w same steps =
      let stands = w.has.tasks_are.0 in
      let next = steps stands.tree stands.branch in
      record {
        has = record {
          of_tree = w.has.of_tree;
          hand = λ f.
              let whole = w.has.hand f in
              let parts = sum_by-cons f b.key (flat_map (λ (x : Task N). keys_of x) tasks) in
              let now = sum_by-cons f d.key (flat_map (λ (x : Task N). keys_of x) tasks) in
              let one = ap f same.key in
              omega (arith, whole, parts, now, one);
          tasks_are = (record { tree = next.0; branch = next.1; limited = same.limit ∙ stands.limited }, w.has.tasks_are.1);
        };
        tells = w.tells;
      }

  -- ---- a branch that ends

  -- It ended so, and this was found and counted.
  ended_works : (how : Ending) (is_last : Bool) (p q : PassSeen) (old new : Found) (b : Held) (key : Key) (tasks : List (Task N))
      (es : List Listing.Entry) (f m : ℕ) (d : Bool) → (w : Works P tree p old (One b ∷ tasks)) → key ≡ b.key
      → Makes (end p.team key how) (last is_last) p q → Did P.program tree.about.limit (end p.team b.key how) es f m d
      → listed new ≡ listed old ++ es → new.forks ≡ old.forks
      → IsEndSoFar P.program tree.about.limit new (w.tells.forks + f) (w.tells.failed + m) (w.tells.is_cut || d) new.cut
      → new.failed ≡ kept_count (w.tells.failed + m) → Works P tree q new tasks
  ended_works how is_last p q old new b key tasks es f m d w same makes did listed_is forks so_far failed =
      let now : Makes (end p.team b.key how) (last is_last) p q = subst (λ (k : Key). Makes (end p.team k how) (last is_last) p q) same makes in
      record {
        has = has_ended_under P tree key b tasks how is_last p q same makes w.has;
        tells = tells_more P.program tree.about.limit (end p.team b.key how) (last is_last) p q old new es f m d w.tells now refl did
            listed_is so_far (λ y e. forks ∙ sym e ∙ sym (ended_counts how y)) failed;
      }

  -- It has failed.
  pub failed_works : (is_last : Bool) (p q : PassSeen) (old new : Found) (b : Held) (key : Key) (tasks : List (Task N))
      → Works P tree p old (One b ∷ tasks) → ((t : QueryTree P.program) → IsBranchOf P b t → Dead t)
      → new.failed ≡ total old.failed 1 → new.forks ≡ old.forks → (new.cut ≡ old.cut) × (listed new ≡ listed old)
      → key ≡ b.key → Makes (end p.team key retired) (last is_last) p q → Works P tree q new tasks
  failed_works is_last p q old new b key tasks w dead failed forks rest same makes =
      let limit : ℕ = tree.about.limit in
      let stands : StandsWithin P limit b = w.has.tasks_are.0 in
      let t : Tells P.program limit p old = w.tells in
      let did = did_fail P limit p.team b stands.tree stands.branch stands.limited (dead stands.tree stands.branch) in
      ended_works retired is_last p q old new b key tasks [] 0 1 false w same makes did (rest.1 ∙ sym (append-nil (listed old))) forks
      (end_counted P.program limit old new t.forks t.failed (t.forks + 0) (t.failed + 1) t.is_cut (t.is_cut || false) rest.0
      (or-false t.is_cut)
      (λ e. forks ∙ subst (λ n. old.forks ≡ kept_count n) (omega arith) e)
      (λ e. failed ∙ one_counted old.failed t.failed e) t.end)
      (failed ∙ one_counted old.failed t.failed t.failed_are)

  -- It is over the limit, and the cut is kept if none is.
  pub cut_works : (is_last : Bool) (p q : PassSeen) (old new : Found) (b : Held) (key : Key) (tasks : List (Task N)) (cut : goal.Cut.Cut)
      → Works P tree p old (One b ∷ tasks) → ((t : QueryTree P.program) → IsBranchOf P b t → IsState P b t (told.OverLimit cut))
      → SameButCut old new → new.cut ≡ option_or old.cut (Some cut)
      → key ≡ b.key → Makes (end p.team key retired) (last is_last) p q → Works P tree q new tasks
  cut_works is_last p q old new b key tasks cut w state rest kept same makes =
      let limit : ℕ = tree.about.limit in
      let stands : StandsWithin P limit b = w.has.tasks_are.0 in
      let t : Tells P.program limit p old = w.tells in
      let over : WasOver P limit p.team b cut =
      was_over P limit p.team b stands.tree cut stands.branch stands.limited (state stands.tree stands.branch) in
      ended_works retired is_last p q old new b key tasks [] over.forks 0 true w same makes over.did
      (rest.entries ∙ sym (append-nil (listed old))) rest.forks
      (end_cut P.program limit old new t.forks t.failed (t.forks + over.forks) (t.failed + 0) t.is_cut (t.is_cut || true) cut kept
      (or-true t.is_cut) over.meets t.end)
      (rest.failed ∙ subst (λ n. old.failed ≡ kept_count n) (omega arith) t.failed_are)

  -- It has ended with this outcome, and was told.
  pub told_works : (is_last : Bool) (p q : PassSeen) (old new : Found) (b : Held) (key : Key) (tasks : List (Task N))
      → Works P tree p old (One b ∷ tasks)
      → ((t : QueryTree P.program) → IsBranchOf P b t → (o : Outcome) × Ends t o × (listed new ≡ listed old ++ record { code = code t; outcome = o } ∷ []))
      → SameEnd old new → key ≡ b.key → Makes (end p.team key answered) (last is_last) p q → Works P tree q new tasks
  told_works is_last p q old new b key tasks w ends rest same makes =
      let limit : ℕ = tree.about.limit in
      let stands : StandsWithin P limit b = w.has.tasks_are.0 in
      let t : Tells P.program limit p old = w.tells in
      let (o, has_ended, listed_is) = ends stands.tree stands.branch in
      let did = did_tell P limit p.team b stands.tree o stands.branch stands.limited has_ended in
      ended_works answered is_last p q old new b key tasks (record { code = code stands.tree; outcome = o } ∷ []) 0 0 false w same makes did
      listed_is rest.forks
      (end_counted P.program limit old new t.forks t.failed (t.forks + 0) (t.failed + 0) t.is_cut (t.is_cut || false) rest.cut
      (or-false t.is_cut)
      (λ e. rest.forks ∙ subst (λ n. old.forks ≡ kept_count n) (omega arith) e)
      (λ e. rest.failed ∙ subst (λ n. old.failed ≡ kept_count n) (omega arith) e) t.end)
      (rest.failed ∙ subst (λ n. old.failed ≡ kept_count n) (omega arith) t.failed_are)

  -- ---- a branch that is forked

  -- A team with fewer than the most tasks has room for the children of a fork.
  pub few_in_hand : (p : PassSeen) (b : Held) (tasks : List (Task N)) (clauses : List ℕ) → Has P tree p (One b ∷ tasks)
      → length tasks < MOST_TASKS → length clauses ≤ 2 ^ 16 → length p.hand + length clauses ≤ most_in_hand
  few_in_hand p b tasks clauses h few short = omega (arith, hand_bounded P tree p (One b ∷ tasks) h, few, short)

  -- The fork is of the leftmost goal of a Shut tree.
  pub justified_fork : (p : PassSeen) (found : Found) (f : Fork) (tasks : List (Task N)) (t : QueryTree P.program) (o : Open t) (first : Option ℕ)
      → Works P tree p found (One f.parent ∷ tasks) → IsBranchOf P f.parent t → AreChildren P f t
      → StateOf P.program f.parent.limit t (fork o f.clauses first) → IsForkWithin P tree.about.limit (fork_of f)
  justified_fork p found f tasks t o first w branch are state =
      let limit : ℕ = tree.about.limit in
      let limited : f.parent.limit ≡ limit = w.has.tasks_are.0.limited in
      record {
        tree = t;
        is_cut = is_there first;
        reached = reached_at P limit f.parent t branch limited;
        longer = are.longer;
        splits = forked_by P limit t o f.clauses first (state_within P limit f.parent t (fork o f.clauses first) limited state);
      }

  -- The children are a task in the place of the branch.
  pub forked_works : (p q : PassSeen) (old new : Found) (l : Level N) (tasks : List (Task N))
      (t : QueryTree P.program) (o : Open t) (first : Option ℕ) (cut : Option goal.Cut.Cut)
      → Works P tree p old (One l.point.parent ∷ tasks) → IsBranchOf P l.point.parent t → AreChildren P l.point t → IsCutOf P t o first cut
      → StateOf P.program l.point.parent.limit t (fork o l.point.clauses first) → length l.point.clauses ≤ 2 ^ 16
      → IsTold P.program l.point.parent.reductions l.told l.point.longer → l.told.length ≡ length l.point.longer
      → l.longer.value ≡ l.point.longer
      → listed new ≡ listed old → new.forks ≡ total old.forks 1 → new.failed ≡ old.failed → new.cut ≡ option_or old.cut cut
      → Makes (plain.fork p.team l.point.parent.key l.point.longer l.point.clauses) forked p q → Works P tree q new (Children l ∷ tasks)
  forked_works p q old new l tasks t o first cut w branch are is_cut state few is_told long longer entries forks failed kept makes =
      let limit : ℕ = tree.about.limit in
      let f : Fork = l.point in
      let b : Held = f.parent in
      let limited : b.limit ≡ limit = w.has.tasks_are.0.limited in
      let tells : Tells P.program limit p old = w.tells in
      let did : Did P.program limit (plain.fork p.team b.key f.longer f.clauses) [] 1 0 (is_there first) =
      subst (λ (k : Key). Did P.program limit (plain.fork p.team b.key k f.clauses) [] 1 0 (is_there first)) (sym are.longer)
      (did_fork P limit p.team b t o f.clauses first branch limited state) in
      let so_far = forked_end P limit old new tells.forks tells.failed tells.is_cut t o b.key f.clauses first cut
      (reached_at P limit b t branch limited) (state_within P limit b t (fork o f.clauses first) limited state) is_cut forks failed kept tells.end in
      let come : AreToCome P limit l = record {
        tree = t;
        children = are;
        limited = limited;
        some = state.3;
        few = few;
        told = is_told;
        long = long;
        longer = longer;
      } in
      record {
        has = has_forked P tree l tasks p q makes come w.has;
        tells = tells_more P.program limit (plain.fork p.team b.key f.longer f.clauses) forked p q old new [] 1 0 (is_there first) tells makes refl did
            (entries ∙ sym (append-nil (listed old)))
            (subst (λ n. IsEndSoFar P.program limit new (tells.forks + 1) n (tells.is_cut || is_there first) new.cut) (omega arith) so_far)
            (λ y e. forks ∙ ap (λ n. total n 1) (sym e)) (failed ∙ subst (λ n. old.failed ≡ kept_count n) (omega arith) tells.failed_are);
      }

  -- What is asked where a branch is split,
  pub fork_there : (p : PassSeen) (found : Found) (b : Held) (tasks : List (Task N)) (g : Goal) (clauses : List ClauseNo)
      (cut : Option goal.Cut.Cut) → Works P tree p found (One b ∷ tasks)
      → ((t : QueryTree P.program) → IsBranchOf P b t → IsState P b t (told.Fork g clauses cut))
      → (t : QueryTree P.program) × (o : Open t) × (first : Option ℕ) × IsBranchOf P b t × IsOpenGoal P b.reductions t o g
      × StateOf P.program b.limit t (fork o (numbers clauses) first)
  fork_there p found b tasks g clauses cut w state =
      let stands : StandsWithin P tree.about.limit b = w.has.tasks_are.0 in
      let (o, first, goal_is, is_cut, s) = state stands.tree stands.branch in
      (stands.tree, o, first, stands.branch, goal_is, s)

  -- and where its children take its place.
  pub split_there : (p : PassSeen) (found : Found) (b : Held) (tasks : List (Task N)) (g : Goal) (clauses : List ClauseNo)
      (cut : Option goal.Cut.Cut) (split : Fork) → Works P tree p found (One b ∷ tasks)
      → ((t : QueryTree P.program) → IsBranchOf P b t → IsState P b t (told.Fork g clauses cut))
      → IsForkOf b g (numbers clauses) split → ((t : QueryTree P.program) → IsBranchOf P b t → AreChildren P split t)
      → (t : QueryTree P.program) × (o : Open t) × (first : Option ℕ) × IsBranchOf P split.parent t × AreChildren P split t
      × IsCutOf P t o first cut × StateOf P.program split.parent.limit t (fork o split.clauses first)
  split_there p found b tasks g clauses cut split w state is made =
      let stands : StandsWithin P tree.about.limit b = w.has.tasks_are.0 in
      let t : QueryTree P.program = stands.tree in
      let (o, first, goal_is, is_cut, s) = state t stands.branch in (
        t,
        o,
        first,
        subst (λ (d : Held). IsBranchOf P d t) (sym is.parent) stands.branch,
        made t stands.branch,
        is_cut,
        subst (λ (d : Held). StateOf P.program d.limit t (fork o split.clauses first)) (sym is.parent)
            (subst (λ (cs : List ℕ). StateOf P.program b.limit t (fork o cs first)) (sym is.clauses_are) s),
      )

  pub works_split : (p : PassSeen) (found : Found) (b : Held) (tasks : List (Task N)) (g : Goal) (clauses : List ℕ) (split : Fork)
      → Works P tree p found (One b ∷ tasks) → IsForkOf b g clauses split → Works P tree p found (One split.parent ∷ tasks)
  works_split p found b tasks g clauses split w is = subst (λ (d : Held). Works P tree p found (One d ∷ tasks)) (sym is.parent) w
