-- What is owed where a branch is on top: it goes on by Steps, or something is told of it.
use Rattle.std.proofs.Common.{ℕ, ◌≡◌, ◌≤◌, List, [], ◌∷◌, ◌++◌, sym, ◌∙◌, subst, arith, append_assoc, append-nil, inl, inr}
use Rattle.std.proofs.lemmas.List.Elements.{Contains-append_right, Contains-append_cases}
use Rattle.and_model.specs.Listing.{Outcome, Ends}
use Rattle.and_model.specs.Programs.{Program}
use Rattle.and_model.specs.Trees.{QueryTree, blank, query_agenda, code, weight}
use Rattle.and_model.specs.Reached.{Steps, Dead, ReachedBy}
use Rattle.and_model.specs.declared.limits.TheConstants.{MAX_LIMIT}
use Rattle.and_laws.proofs.Agreeing.{steps_above}
use Rattle.and_laws.proofs.Order.{below_weight}
use Rattle.and_laws.proofs.Reaching.{reached_within}
use Rattle.and_cells.specs.Ranges.{NamedProgram}
use Rattle.and_branch.specs.Branches.{Held, IsBranchOf, SameKey}
use Rattle.and_search_laws.proofs.Splitting.{split_weighs, candidate_splits}
use Rattle.and_traces.specs.Traces
use Rattle.and_traces.specs.Traces.{Report, TracesQuery, CutsMeet}
use Rattle.and_traces.proofs.Existing.{traces_before, some_trace, splits_traced}
use Rattle.and_visit.specs.Walking.{Place, One, Children, Owes}

-- Cuts that were told, and those that are told then.
pub cuts_both : (P : Program) (limit : ℕ) (rs qs : List Report) → CutsMeet P limit rs → CutsMeet P limit qs → CutsMeet P limit (rs ++ qs)
cuts_both P limit rs qs one other depth x i = elim (Contains-append_cases rs qs (record { depth = depth; event = Traces.cut x }) i) [
  | inl first ↦ one depth x first
  | inr behind ↦ other depth x behind
]

module _ (P : NamedProgram) (limit : ℕ) where
  pub light : (b : Held) (t : QueryTree P.program) → IsBranchOf P b t → b.limit ≡ limit → weight t ≤ limit
  light b t branch limited =
      let reached : ReachedBy P.program limit b.key t = subst (λ n. ReachedBy P.program n b.key t) limited branch.reached in
      reached_within P.program limit b.key t reached

  -- What there is to tell of a branch that failed,
  pub dead_trace : (b : Held) (d : ℕ) (t : QueryTree P.program) → IsBranchOf P b t → b.limit ≡ limit → Dead t
      → Traces.Traces P.program limit t d (record { depth = d; event = Traces.failed } ∷ [])
  dead_trace b d t branch limited dead = Traces.dead t t d (Steps.none t, light b t branch limited) dead

  -- and of one that ended with this code.
  pub end_trace : (b : Held) (d : ℕ) (cs : List ℕ) (o : Outcome) (t : QueryTree P.program) → IsBranchOf P b t → b.limit ≡ limit
      → code t ≡ cs → Ends t o → Traces.Traces P.program limit t d (record { depth = d; event = Traces.ended cs o } ∷ [])
  end_trace b d cs o t branch limited same ends =
      subst (λ ds. Traces.Traces P.program limit t d (record { depth = d; event = Traces.ended ds o } ∷ [])) same
      (Traces.whole t t d o (Steps.none t, light b t branch limited) ends)

  -- At first all that there is to tell of the query's tree is owed.
  pub owed_root : (b : Held) → IsBranchOf P b (blank (query_agenda P.program)) → b.limit ≡ limit → Owes P limit (One 0 b ∷ []) []
  owed_root b branch limited = record {
    tree = blank (query_agenda P.program);
    branch = branch;
    limited = limited;
    deep = omega arith;
    rest = λ more trace. TracesQuery.walked more trace;
  }

  -- The branch on top goes on by Steps.
  pub owed_steps : (d : ℕ) (b c : Held) (xs : List Place) (rs : List Report) → Owes P limit (One d b ∷ xs) rs → SameKey b c
      → ((t : QueryTree P.program) → IsBranchOf P b t → (u : QueryTree P.program) × IsBranchOf P c u × Steps t u)
      → Owes P limit (One d c ∷ xs) rs × (b.used ≤ c.used)
  owed_steps d b c xs rs x same steps =
      let (u, branch, goes) = steps x.tree x.branch in
      let grows : b.used ≤ c.used = omega (arith, below_weight (steps_above x.tree u goes), x.branch.used, branch.used) in (
        record {
          tree = u;
          branch = branch;
          limited = same.limit ∙ x.limited;
          deep = omega (arith, x.deep, grows);
          rest = λ more trace. x.rest more (traces_before P.program limit x.tree u d more goes trace);
        },
        grows,
      )

  -- Something is told of the branch on top.
  pub owed_told : (d : ℕ) (b : Held) (xs : List Place) (rs more : List Report) → Owes P limit (One d b ∷ xs) rs
      → ((t : QueryTree P.program) → IsBranchOf P b t → b.limit ≡ limit → Traces.Traces P.program limit t d more)
      → Owes P limit xs (rs ++ more)
  owed_told d b xs rs more x trace = x.rest more (trace x.tree x.branch x.limited)

  -- No branch is deeper than the greatest limit.
  pub shallow : (d : ℕ) (b : Held) (xs : List Place) (rs : List Report) → Owes P limit (One d b ∷ xs) rs → d ≤ MAX_LIMIT
  shallow d b xs rs x =
      let small : weight x.tree ≤ limit = light b x.tree x.branch x.limited in
      omega (arith, x.deep, x.branch.used, small, x.limited, x.branch.bounded)

  -- (with the reports as they stand together)
  joined : (rs more rest : List Report) → TracesQuery P.program limit ((rs ++ more) ++ rest) → TracesQuery P.program limit (rs ++ (more ++ rest))
  joined rs more rest x = subst (λ qs. TracesQuery P.program limit qs) (append_assoc rs more rest) x

  -- What was told begins what there is to tell, whatever is still to be walked.
  pub owed_begins : (xs : List Place) (rs : List Report) → Owes P limit xs rs → (rest : List Report) × TracesQuery P.program limit (rs ++ rest)
  owed_begins [] rs x = ([], subst (λ qs. TracesQuery P.program limit qs) (sym (append-nil rs)) x)
  owed_begins (One d b ∷ xs) rs x =
      let (more, trace) = some_trace P.program limit x.tree d (light b x.tree x.branch x.limited) in
      let (rest, all) = owed_begins xs (rs ++ more) (x.rest more trace) in
      (more ++ rest, joined rs more rest all)
  owed_begins (Children d f ∷ xs) rs x =
      let (more, traces) = splits_traced P.program limit x.tree f.clauses d (λ c i.
      let k = (x.children.state.5 c).0 (Contains-append_right x.children.made f.clauses c i) in
      let (next, split) = candidate_splits x.tree x.children.open_goal x.children.state.0 x.children.state.1 x.children.state.2 c k.0 in
      let weighs = split_weighs x.tree next c split in
      let fits = k.1 in
      let limited = x.limited in
      (next, split, omega (arith, weighs, fits, limited))) in
      let (rest, all) = owed_begins xs (rs ++ more) (x.rest more traces) in
      (more ++ rest, joined rs more rest all)
