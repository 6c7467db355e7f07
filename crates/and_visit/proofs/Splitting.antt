-- What is owed where a branch is forked, and with the children of a fork.
use Rattle.std.proofs.Common.{ℕ, ◌+◌, ◌≡◌, ◌≢◌, ◌<◌, ◌≤◌, List, [], ◌∷◌, ◌++◌, length, refl, sym, ap, ◌∙◌, subst, arith, Contains}
use Rattle.std.proofs.Common.{append_assoc, append-nil}
use Rattle.std.specs.Prelude.{Option, Some, None}
use Rattle.std.proofs.lemmas.List.Elements.{Contains-append_right}
use Rattle.and_model.specs.Programs.{clause_at}
use Rattle.and_model.specs.Trees.{QueryTree, Open, weight}
use Rattle.and_model.specs.Reached.{Split, Steps}
use Rattle.and_model.specs.declared.goal.Cut.{Cut}
use Rattle.and_model.specs.declared.goal.Goal.{Goal}
use Rattle.and_model.specs.declared.numbers.ClauseNo.{ClauseNo}
use Rattle.and_laws.proofs.Order.{clause_weighs}
use Rattle.and_laws.proofs.Ordered.{contains_first}
use Rattle.and_cells.specs.Ranges.{NamedProgram}
use Rattle.and_branch_laws.specs.States.{StateOf, fork}
use Rattle.and_branch.specs.Branches.{Held, IsBranchOf, IsOpenGoal}
use Rattle.and_branch.specs.States.{numbers, IsState, IsCutOf}
use Rattle.and_branch.specs.declared.state.BranchState.TheVariants as told
use Rattle.and_branch.specs.Children.{Fork, AreChildren, IsChild, IsForkOf}
use Rattle.and_search_laws.proofs.Splitting.{split_grows, candidate_splits}
use Rattle.and_branch.proofs.OtherChildren.{others_stand}
use Rattle.and_branch.proofs.StatesTold.{state_within}
use Rattle.and_traces.specs.Traces
use Rattle.and_traces.specs.Traces.{Report, CutOff, TracesSplits, cut_report}
use Rattle.and_traces.proofs.Forked.{fork_fits, fork_whole, fork_heavy}
use Rattle.and_visit.specs.Walking.{Place, One, Children, Owes}
use Rattle.and_visit.proofs.Owing.{light}

-- a list that is not empty has a first item
some_first : (cs : List ℕ) → cs ≢ [] → (c : ℕ) × Contains cs c
some_first [] some = absurd (some refl)
some_first (c ∷ cs) some = (c, contains_first c cs)

module _ (P : NamedProgram) (limit : ℕ) where
  -- There is room for a child.
  room : (t : QueryTree P.program) (o : Open t) (cs : List ℕ) (first : Option ℕ) → StateOf P.program limit t (fork o cs first) → weight t < limit
  room t o cs first x =
      let c = some_first cs x.3 in
      let k = (x.5 c.0).0 c.1 in
      omega (arith, k.1, clause_weighs (clause_at P.program c.0))

  -- What is cut off at a fork is told.
  cut_off : (t : QueryTree P.program) (o : Open t) (cs : List ℕ) (depth : ℕ) (first : Option ℕ) (cut : Option Cut) → IsCutOf P t o first cut
      → StateOf P.program limit t (fork o cs first) → CutOff P.program limit t depth (cut_report depth cut)
  cut_off t o cs depth None None is x = CutOff.all_fit (fork_whole P.program limit t o cs x)
  cut_off t o cs depth None (Some cut) is x = absurd is
  cut_off t o cs depth (Some c) None is x = absurd is
  cut_off t o cs depth (Some c) (Some cut) is x =
      let (next, split, heavy) = fork_heavy P.program limit t o cs c x in
      CutOff.some_heavy c next cut split heavy

  -- The branch on top is forked: that is told, and its children are on top.
  pub owed_fork : (d : ℕ) (b : Held) (xs : List Place) (ls : List Report) (g : Goal) (clauses : List ClauseNo) (cut : Option Cut) (f : Fork)
      → Owes P limit (One d b ∷ xs) ls
      → ((t : QueryTree P.program) → IsBranchOf P b t → IsState P b t (told.Fork g clauses cut))
      → IsForkOf b g (numbers clauses) f → ((t : QueryTree P.program) → IsBranchOf P b t → AreChildren P f t)
      → Owes P limit (Children (d + 1) f ∷ xs) (ls ++ record { depth = d; event = Traces.forked (numbers clauses) } ∷ cut_report d cut)
      × (b.used < limit)
  owed_fork d b xs ls g clauses cut f x state is children =
      let (o, first, goal_is, is_cut, s) = state x.tree x.branch in
      let cs : List ℕ = numbers clauses in
      let now : StateOf P.program limit x.tree (fork o cs first) = state_within P limit b x.tree (fork o cs first) x.limited s in
      let r : Report = record { depth = d; event = Traces.forked cs } in
      let cuts : List Report = cut_report d cut in
      let small : weight x.tree ≤ limit = light P limit b x.tree x.branch x.limited in (
        record {
          tree = x.tree;
          children = children x.tree x.branch;
          limited = ap (λ (h : Held). h.limit) is.parent ∙ x.limited;
          deep = omega (arith, x.deep, ap (λ (h : Held). h.used) is.parent);
          some = subst (λ (ds : List ℕ). ds ≢ []) (sym is.clauses_are) now.3;
          rest = λ more traces.
              subst (λ ks. Owes P limit xs ks) (sym (append_assoc ls (r ∷ cuts) more))
              (x.rest (r ∷ (cuts ++ more)) (Traces.divided x.tree x.tree d cs cuts more (Steps.none x.tree, small) now.2.0 o
              (fork_fits P.program limit x.tree o cs first now) (cut_off x.tree o cs d first cut is_cut now)
              (subst (λ ds. TracesSplits P.program limit x.tree ds (d + 1) more) is.clauses_are traces)));
        },
        omega (arith, room x.tree o cs first now, x.branch.used),
      )

  -- (what a fork of the branch is asked)
  pub fork_there : (d : ℕ) (b : Held) (xs : List Place) (ls : List Report) (g : Goal) (clauses : List ClauseNo) (cut : Option Cut)
      → Owes P limit (One d b ∷ xs) ls
      → ((t : QueryTree P.program) → IsBranchOf P b t → IsState P b t (told.Fork g clauses cut))
      → (t : QueryTree P.program) × (o : Open t) × (first : Option ℕ) × IsBranchOf P b t × IsOpenGoal P b.reductions t o g
      × StateOf P.program b.limit t (fork o (numbers clauses) first)
  fork_there d b xs ls g clauses cut x state =
      let (o, first, goal_is, is_cut, s) = state x.tree x.branch in
      (x.tree, o, first, x.branch, goal_is, s)

  -- A child is taken: the split that it stands for.
  record Child (d : ℕ) (f g : Fork) (b : Held) (t : QueryTree P.program) : Type 0 where
    pub next : QueryTree P.program
    pub clause : ℕ
    pub clauses : f.clauses ≡ clause ∷ g.clauses
    pub split : Split t clause next
    pub branch : IsBranchOf P b next
    pub limited : b.limit ≡ limit
    pub grows : f.parent.used < b.used
    pub deep : d ≤ b.used

  child_is : (d : ℕ) (f g : Fork) (b : Held) (t : QueryTree P.program) → AreChildren P f t → f.parent.limit ≡ limit
      → d ≤ f.parent.used + 1 → IsChild P f g b → Child d f g b t
  child_is d f g b t x limited deep is =
      let here : Contains f.clauses is.clause =
      subst (λ cs. Contains cs is.clause) (sym is.next) (contains_first is.clause g.clauses) in
      let k = (x.state.5 is.clause).0 (Contains-append_right x.made f.clauses is.clause here) in
      let (next, split) = candidate_splits t x.open_goal x.state.0 x.state.1 x.state.2 is.clause k.0 in
      let branch : IsBranchOf P b next = is.stands t next x split in
      let grows : f.parent.used < b.used = omega (arith, split_grows t next is.clause split, branch.used, x.branch.used) in
      record {
        next = next;
        clause = is.clause;
        clauses = is.next;
        split = split;
        branch = branch;
        limited = is.limit ∙ limited;
        grows = grows;
        deep = omega (arith, deep, grows);
      }

  -- The next child is on top, and below it those that are still to come;
  pub owed_next : (d : ℕ) (f g : Fork) (b : Held) (xs : List Place) (ls : List Report) → Owes P limit (Children d f ∷ xs) ls
      → IsChild P f g b → 1 < length f.clauses → Owes P limit (One d b ∷ Children d g ∷ xs) ls × (f.parent.used < b.used)
  owed_next d f g b xs ls x is many =
      let y = child_is d f g b x.tree x.children x.limited x.deep is in
      let as_many : length f.clauses ≡ length (y.clause ∷ g.clauses) = ap (λ (cs : List ℕ). length cs) y.clauses in (
        record {
          tree = y.next;
          branch = y.branch;
          limited = y.limited;
          deep = y.deep;
          rest = λ more text. record {
            tree = x.tree;
            children = others_stand P f g b x.tree is x.children;
            limited = ap (λ (h : Held). h.limit) is.parent ∙ x.limited;
            deep = omega (arith, x.deep, ap (λ (h : Held). h.used) is.parent);
            some = λ none. absurd (omega (arith, as_many, many, ap (λ (cs : List ℕ). length cs) none));
            rest = λ others texts.
                subst (λ ks. Owes P limit xs ks) (sym (append_assoc ls more others))
                (x.rest (more ++ others) (subst (λ cs. TracesSplits P.program limit x.tree cs d (more ++ others)) (sym y.clauses)
                (TracesSplits.more x.tree y.next y.clause g.clauses d more others y.split text texts)));
          };
        },
        y.grows,
      )

  -- the last child is on top.
  pub owed_last : (d : ℕ) (f g : Fork) (b : Held) (xs : List Place) (ls : List Report) → Owes P limit (Children d f ∷ xs) ls
      → IsChild P f g b → length f.clauses ≤ 1 → Owes P limit (One d b ∷ xs) ls × (f.parent.used < b.used)
  owed_last d f g b xs ls x is few =
      let y = child_is d f g b x.tree x.children x.limited x.deep is in
      let as_many : length f.clauses ≡ length (y.clause ∷ g.clauses) = ap (λ (cs : List ℕ). length cs) y.clauses in
      let none : g.clauses ≡ [] = no_length g.clauses (omega (arith, as_many, few)) in (
        record {
          tree = y.next;
          branch = y.branch;
          limited = y.limited;
          deep = y.deep;
          rest = λ more text.
              x.rest more (subst (λ cs. TracesSplits P.program limit x.tree cs d more) (sym (y.clauses ∙ ap (λ (cs : List ℕ). y.clause ∷ cs) none))
              (subst (λ ks. TracesSplits P.program limit x.tree (y.clause ∷ []) d ks) (append-nil more)
              (TracesSplits.more x.tree y.next y.clause [] d more [] y.split text (TracesSplits.no_more x.tree d))));
        },
        y.grows,
      )
    where
      no_length : (cs : List ℕ) → length cs ≡ 0 → cs ≡ []
      no_length [] e = refl
      no_length (c ∷ cs) e = absurd (omega arith)

  -- (what is asked of a fork with children on top)
  pub children_there : (d : ℕ) (f : Fork) (xs : List Place) (ls : List Report) → Owes P limit (Children d f ∷ xs) ls
      → (t : QueryTree P.program) × AreChildren P f t
  children_there d f xs ls x = (x.tree, x.children)

  pub some_there : (d : ℕ) (f : Fork) (xs : List Place) (ls : List Report) → Owes P limit (Children d f ∷ xs) ls → f.clauses ≢ []
  some_there d f xs ls x = x.some
