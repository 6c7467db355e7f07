-- What the workers of a phase leave of a branch's goals is what is left to do in the tree.
use Rattle.std.proofs.Common.{ℕ, ◌+◌, ◌≡◌, ◌≤◌, List, [], ◌∷◌, ◌++◌, map, length, get_or, refl, ap, sym, subst, arith, Contains}
use Rattle.std.specs.Prelude.{All}
use Rattle.std.proofs.lemmas.List.Elements.{Contains-get_or, Contains-append_left, Contains-append_right}
use Rattle.and_model.specs.Terms.{Path}
use Rattle.and_model.specs.Solutions.{Equation}
use Rattle.and_model.specs.Programs.{Program, arithmetic, Arithmetic}
use Rattle.and_model.specs.Closure.{Ran}
use Rattle.and_model.specs.Trees.{QueryTree, query_agenda, equations, arithmetics, weight}
use Rattle.and_model.specs.Reductions.{Reduction, PlaceHas, Makes}
use Rattle.and_model.specs.Stands.{Framed, IsFramed}
use Rattle.and_model.specs.declared.goal.Goal.{Goal}
use Rattle.and_model.specs.declared.reference.Ref.{Ref}
use Rattle.and_laws.specs.Paths.{At}
use Rattle.and_laws.proofs.Agreement.{query_apart}
use Rattle.and_laws.proofs.Placing.{Writes, writes_made, place_more}
use Rattle.and_laws.proofs.OpenPaths.{open_free}
use Rattle.and_cells.specs.Ranges.{NamedProgram}
use Rattle.and_phase_laws.specs.Journals.{Journal, Opening, Builds, TakenOut, goals_run, goals_of_runs, StillWait}
use Rattle.and_phase_laws.specs.Weaving.{Run, woven}
use Rattle.and_phase_laws.proofs.Reducing.{builds_above}
use Rattle.and_branch_laws.specs.OwnVariables.{OwnVariables}
use Rattle.and_branch_laws.specs.Tasks.{Task, tasks, arithmetic_among, RanAmong}
use Rattle.and_branch_laws.specs.Kept.{item_at, task_of, goal_of, is_call, Kept}
use Rattle.and_branch_laws.proofs.Keeping
use Rattle.and_branch_laws.proofs.Places.{clause_more}
use Rattle.and_branch_laws.proofs.Tasks.{tasks_arithmetic}
use Rattle.and_worker_laws.specs.Leaving.{Leaves}
use Rattle.and_worker_laws.proofs.Leaving.{ran_among}
use Rattle.and_worker_laws.specs.Acts.{Act, takes, RunInCells, reductions, weight_taken, AreTaken}
use Rattle.and_worker_laws.specs.Reading.{AreReadAs, AreRunsReadAs}
use Rattle.and_worker_laws.specs.Unfolding.{AreLeftOf}
use Rattle.and_worker_laws.proofs.Taking.{taken_reduction, reduction_taken, taken_at}
use Rattle.and_worker_laws.proofs.Mixing.{mixed_out, out_joined, out_parted, run_out, leaves_less, leaves_mix}
use Rattle.and_worker_laws.proofs.Expanding.{Expands, below_expands, leaves_expanded}
use Rattle.and_worker_laws.proofs.Running.{ran_arithmetic, runs_out}
use Rattle.and_worker_laws.proofs.Unfolding.{Takes, Lies, Resolved, resolve}

-- ---- The acts

-- A reduction that was done takes its call.
act_takes : (P : Program) (opening : List Goal) (used : ℕ) (rs : List Reduction) (acts : List Act) → AreTaken P opening used acts
    → (w : ℕ) (g : Goal) (r : Reduction) → Contains acts (takes w g r) → Takes P (rs ++ reductions acts) used g r
act_takes P opening used rs acts t w g r i =
    let (before, among, k) = taken_at P opening used acts t w g r i in
    let number : r.node ≡ used + weight_taken P before = k.node in
    record {
      made = Contains-append_right rs (reductions acts) r (taken_reduction acts w g r i);
      parent = k.parent;
      item = k.item;
      term = k.term;
      is_call = k.is_call;
      node = omega (arith, number);
    }

-- ---- The tasks

-- What is left of a tree's tasks when the opening's runs are gone, and then the journal's, is left to do.
left_to_do : {P : Program} (op : Opening P (query_agenda P)) (j : Journal) (u : QueryTree P) (gone : List Arithmetic) (us : List Task) (later : List Arithmetic)
    (vs : List Task) → TakenOut gone (goals_run op.ran) [] → Leaves (tasks u) gone us → TakenOut later (goals_of_runs j) [] → Leaves us later vs
    → StillWait op j u (arithmetic_among vs)
    × ((solved : List Equation) (waits : List Arithmetic) (ran : Ran (equations u) (arithmetics u) solved waits)
    → goals_run ran ≡ goals_run op.ran ++ goals_of_runs j → RanAmong (equations u) (tasks u) solved vs)
left_to_do op j u gone us later vs out leaves out_later leaves_later =
    let first : List Arithmetic = goals_run op.ran in
    let second : List Arithmetic = goals_of_runs j in
    let waits : List Arithmetic = arithmetic_among vs in
    let (both, at_last, mix) = leaves_less (tasks u) gone us later vs leaves leaves_later in
    let both_out : TakenOut both (first ++ second) [] = out_joined first second both later [] (mixed_out first gone later both mix out) out_later in
    let tree_out : TakenOut (arithmetics u) (first ++ second) waits =
    subst (λ l. TakenOut l (first ++ second) waits) (tasks_arithmetic u)
    (mixed_out (first ++ second) both waits (arithmetic_among (tasks u)) (leaves_mix (tasks u) both vs at_last) both_out) in
    let (gs, before, after) = out_parted first second (arithmetics u) waits tree_out in (
      (gs, before, run_out j gs waits after),
      λ solved ws ran e. ran_among (equations u) (arithmetics u) solved ws both (tasks u) vs ran (subst (λ l. TakenOut both l []) (sym e) both_out) at_last,
    )

-- ---- The goals

module _ (P : NamedProgram) (own : OwnVariables P) (rs : List Reduction) (first : List Ref) (kept : List Framed)
    (op : Opening P.program (query_agenda P.program)) (k : Kept P rs first kept op.tree) where
  -- The goals of the opening stand in the tree,
  kept_lies : (news : List Reduction) (f : Framed) → Contains kept f → Lies P.program rs (rs ++ news) f
  kept_lies news f h =
      let more : (r : Reduction) → Contains rs r → Contains (rs ++ news) r = λ r i. Contains-append_left rs news r i in
      let place : PlaceHas rs f.goal.node f.frame = Keeping.place_of P own rs first kept op.tree k f h in
      record {
        framed = (
          place_more rs (rs ++ news) more f.goal.node f.frame place,
          clause_more rs (rs ++ news) more f.goal.node f.goal.clause.0 (Keeping.clause_of P own rs first kept op.tree k f h),
        );
        based = Keeping.base_of P own rs first kept op.tree k f h;
        open_then = λ q g e x i p j.
            let (o, path_is, call_is) = Keeping.kept_open P own rs first kept op.tree k f h (ap is_call e) in
            let above : PlaceHas rs x.parent f.frame = subst (λ n. PlaceHas rs n f.frame) (sym p) place in
            let writes : Writes rs (f.frame ++ f.goal.item ∷ []) x.clause = (x, i, refl, (f.frame, above, ap (λ n. f.frame ++ n ∷ []) (sym j))) in
            let at : At op.tree (f.frame ++ f.goal.item ∷ []) x.clause =
            writes_made P.program rs op.tree k.made (f.frame ++ f.goal.item ∷ []) x.clause writes in
            open_free op.tree o x.clause (query_apart P.program) (subst (λ z. At op.tree z x.clause) (sym path_is) at);
      }

  all_lie : (news : List Reduction) → All (Lies P.program rs (rs ++ news)) kept
  all_lie news n d l = kept_lies news (get_or kept n d) (Contains-get_or kept n d l)

  -- and what is left of them is left to do in the tree that the journal builds.
  pub remaining : (apart : Path) (acts : List Act) (runs : List RunInCells) (j : Journal) (read : List Run) (u : QueryTree P.program) (left : List Goal)
      → AreTaken P.program (map goal_of kept) (weight op.tree) acts → AreReadAs P.program (rs ++ reductions acts) apart acts j
      → AreRunsReadAs (rs ++ reductions acts) runs read → All (λ (r : RunInCells). r.at ≤ length acts) runs
      → ((r : RunInCells) → Contains runs r → item_at P.program r.goal ≡ arithmetic r.what)
      → Builds op (woven read j) u → Makes P.program (rs ++ reductions acts) u
      → (gone : List Arithmetic) → TakenOut gone (goals_run op.ran) [] → Leaves (tasks op.tree) gone (map (task_of P.program) kept)
      → AreLeftOf P.program (map goal_of kept) acts runs left
      → (rest : List Framed) × (map goal_of rest ≡ left) × All (IsFramed (rs ++ reductions acts)) rest × All (λ (f : Framed). f.goal.base ≡ f.goal.node) rest
      × StillWait op (woven read j) u (arithmetic_among (map (task_of P.program) rest))
      × ((solved : List Equation) (waits : List Arithmetic) (ran : Ran (equations u) (arithmetics u) solved waits)
      → goals_run ran ≡ goals_run op.ran ++ goals_of_runs (woven read j) → RanAmong (equations u) (tasks u) solved (map (task_of P.program) rest))
  remaining apart acts runs j read u left taken are runs_are early item builds made gone out leaves l =
      let news : List Reduction = reductions acts in
      let all : List Reduction = rs ++ news in
      let whole : Journal = woven read j in
      let expands : Expands P.program (At u) (tasks op.tree) (tasks u) =
      below_expands op.tree u (builds_above op whole u builds) (At u) (λ p d a. a) (λ o d a. open_free u o d (query_apart P.program) a) in
      let (us, then_expands, then_leaves) = leaves_expanded P.program (At u) (tasks op.tree) (tasks u) expands gone (map (task_of P.program) kept) leaves in
      let r : Resolved P.program rs all left l.ran us =
      resolve P.program rs news op.tree u k.made made kept (map goal_of kept) left l.ran l.taken l.unfolds refl us then_expands (all_lie news)
      (λ g i x h p m. let (w, s, at) = reduction_taken acts x h in l.not_taken g i w s x at p m)
      (λ g i. ran_arithmetic P.program runs item l.ran l.ran_are g i)
      (λ g x i. let (w, at) = l.was_taken g x i in act_takes P.program (map goal_of kept) (weight op.tree) rs acts taken w g x at) in
      let later : TakenOut r.gone (goals_of_runs whole) [] =
      runs_out P.program all u made apart acts j are runs read runs_are early item l.ran l.ran_are r.gone r.were_run in
      let (still, among) = left_to_do op whole u gone us r.gone (map (task_of P.program) r.rest) out then_leaves later r.leaves in (
        r.rest,
        r.goals,
        (λ n d low. (r.lie n d low).framed),
        (λ n d low. (r.lie n d low).based),
        still,
        among,
      )
