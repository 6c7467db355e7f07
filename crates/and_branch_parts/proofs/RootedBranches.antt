-- The branch of a query.
use Rattle.std.proofs.Common.{ℕ, ◌≡◌, ◌≤◌, true, false, List, [], ◌++◌, map, replicate, ap, sym, ◌∙◌, subst, inl, inr, arith, Contains}
use Rattle.and_model.specs.Solutions.{Solvable}
use Rattle.and_model.specs.Programs.{clause_weight}
use Rattle.and_model.specs.Trees.{QueryTree, query_agenda, blank, weight}
use Rattle.and_model.specs.Reached.{ReachedBy, start}
use Rattle.and_model.specs.Reductions.{Reduction, Makes, none}
use Rattle.and_model.specs.Stands.{Framed}
use Rattle.and_model.specs.declared.goal.Goal.{Goal}
use Rattle.and_model.specs.declared.limits.TheConstants.{MAX_LIMIT}
use Rattle.and_model.specs.declared.reference.Ref.TheVariants.{Free}
use Rattle.and_laws.proofs.Equality.{bool_cases}
use Rattle.and_laws.proofs.Order.{blank_weighs}
use Rattle.and_laws.proofs.Ordered.{contains_none}
use Rattle.and_cells.specs.Ranges.{NamedProgram}
use Rattle.and_cells.specs.Meaning.{equations_of}
use Rattle.and_branch_laws.specs.OwnVariables.{IsLoaded}
use Rattle.and_branch_laws.specs.Variables.{placed}
use Rattle.and_branch_laws.specs.Reducing.{body_equations, body_goals}
use Rattle.and_branch_laws.specs.Settling.{Settled}
use Rattle.and_branch_laws.specs.Kept.{goal_of, Kept}
use Rattle.and_branch_laws.proofs.Rooting
use Rattle.and_branch_parts.specs.Branches.{Held, IsBranchOf}
use Rattle.and_branch_parts.specs.Watching.{Watched}

module _ (P : NamedProgram) (loaded : IsLoaded P) (b : Held) (fits : clause_weight P.program.query ≤ b.limit) (limit : b.limit ≤ MAX_LIMIT)
    (key : b.key ≡ []) (reductions : b.reductions ≡ []) (used : b.used ≡ clause_weight P.program.query) where
  abbrev root : QueryTree P.program
  root = blank (query_agenda P.program)

  weighs : weight root ≡ clause_weight P.program.query
  weighs = let none_taken = blank_weighs P.program (query_agenda P.program) in omega arith

  reached : ReachedBy P.program b.limit b.key root
  reached =
      let low : weight root ≤ b.limit = let w = weighs in omega arith in
      subst (λ (k : List ℕ). ReachedBy P.program b.limit k root) (sym key) (start low)

  pub root_dies :
      (Solvable (equations_of P (replicate (clause_weight P.program.query) Free) ++ body_equations (placed 0) P.program.query.body) → ⊥)
      → b.is_failed ≡ true → IsBranchOf P b root
  root_dies none_is failed = record {
    made = subst (λ (l : List Reduction). Makes P.program l root) (sym reductions) none;
    reached = reached;
    bounded = limit;
    used = weighs ∙ sym used;
    state = inl (failed, Rooting.unsolved_root_is_dead P loaded none_is);
  }

  pub root_lives : Settled P (replicate (clause_weight P.program.query) Free) b.row (body_equations (placed 0) P.program.query.body)
      → b.is_failed ≡ false → b.left ≡ [] → b.right ≡ map goal_of (body_goals 0 0 [] 0 P.program.query.body) → b.watches ≡ []
      → IsBranchOf P b root
  root_lives settled live left_is right_is watches_are =
      let goals : List Framed = body_goals 0 0 [] 0 P.program.query.body in
      let keeps : Kept P b.reductions b.row goals root =
      subst (λ (l : List Reduction). Kept P l b.row goals root) (sym reductions) (Rooting.root_kept P loaded b.row settled) in
      record {
        made = subst (λ (l : List Reduction). Makes P.program l root) (sym reductions) none;
        reached = reached;
        bounded = limit;
        used = weighs ∙ sym used;
        state = inr (record {
          kept = goals;
          keeps = keeps;
          goals = sym right_is ∙ ap (λ (l : List Goal). l ++ b.right) (sym left_is);
          long = keeps.long ∙ weighs ∙ sym used;
          live = live;
          asleep = λ w h. absurd (contains_none w (subst (λ (ws : List Watched). Contains ws w) watches_are h));
        });
      }

  -- Whatever came of the query's items.
  pub rooted : (b.is_failed ≡ true
      → Solvable (equations_of P (replicate (clause_weight P.program.query) Free) ++ body_equations (placed 0) P.program.query.body) → ⊥)
      → (b.is_failed ≡ false
      → Settled P (replicate (clause_weight P.program.query) Free) b.row (body_equations (placed 0) P.program.query.body))
      → b.left ≡ [] → b.right ≡ map goal_of (body_goals 0 0 [] 0 P.program.query.body) → b.watches ≡ [] → IsBranchOf P b root
  rooted dies lives left_is right_is watches_are = elim (bool_cases b.is_failed) [
    | inl failed ↦ root_dies (dies failed) failed
    | inr live ↦ root_lives (lives live) live left_is right_is watches_are
  ]
