-- Branches that are made again of what a phase left.
use Rattle.std.proofs.Common.{ℕ, ◌≡◌, ◌+◌, ◌≤◌, true, false, List, [], ◌∷◌, ◌++◌}
use Rattle.std.proofs.Common.{ap, sym, ◌∙◌, subst, inl, inr, arith, append-nil, length, Contains}
use Rattle.std.proofs.lemmas.List.{map-append}
use Rattle.and_model.proofs.OwnVariables.{All-back}
use Rattle.and_model.specs.Solutions.{Solvable}
use Rattle.and_model.specs.Programs.{Program, clause_weight}
use Rattle.and_model.specs.Trees.{QueryTree, query_agenda, weight}
use Rattle.and_model.specs.Reached.{ReachedBy}
use Rattle.and_model.specs.Reductions.{Reduction, Makes, none, one_more}
use Rattle.and_model.specs.declared.goal
use Rattle.and_model.specs.declared.goal.Goal.{Goal}
use Rattle.and_model.specs.declared.limits.TheConstants.{MAX_LIMIT}
use Rattle.and_laws.proofs.Equality.{bool_cases}
use Rattle.and_laws.proofs.Order.{blank_weighs, reduce_weight}
use Rattle.and_laws.proofs.Ordered.{contains_none}
use Rattle.and_phase_laws.proofs.Building.{steps_reach}
use Rattle.and_cells.specs.Ranges.{NamedProgram}
use Rattle.and_cells.specs.Seen.{word_at}
use Rattle.and_code.specs.Visiting.{HaveClauses}
use Rattle.and_code.specs.Written.{written, all_written}
use Rattle.and_code.proofs.Trees.{clauses_named}
use Rattle.and_unify.specs.Pairs.{equations_of_pairs}
use Rattle.and_unify.specs.Settling.{equations_with}
use Rattle.and_branch_laws.specs.OwnVariables.{IsLoaded}
use Rattle.and_branch_laws.specs.Kept.{Kept}
use Rattle.and_branch_laws.specs.Settling.{Settled}
use Rattle.and_branch_laws.proofs.Settling as settling
use Rattle.and_branch_parts.specs.Branches.{Held, Lives, IsBranchOf}
use Rattle.and_branch_parts.specs.Watching.{Watched}
use Rattle.and_branch_parts.specs.Weights.{weights_of}
use Rattle.and_branch_parts.proofs.AddedReductions.{weights_join}
use Rattle.and_branch.specs.Rebuilding.{IsLeft, IsWorked, reductions_of}
use Rattle.and_branch.specs.declared.parts.Parts.{Parts}
use Rattle.and_branch.specs.declared.rebuilding.Worked.{Worked}

-- ---- Weights

-- A tree weighs what the query and the clauses of its reductions do.
made_weighs : (P : Program) (rs : List Reduction) (t : QueryTree P) → Makes P rs t → weight t ≡ clause_weight P.query + weights_of P rs
made_weighs P rs t none = let e = blank_weighs P (query_agenda P) in omega arith
made_weighs P rs t (one_more front back all u r o h made call number is_all) =
    let before = made_weighs P (front ++ back) u made in
    let grows = reduce_weight u o r.clause h in
    let apart = weights_join P front back in
    let together = weights_join P front (r ∷ back) in
    let first = weights_join P (r ∷ []) back in
    let same = ap (weights_of P) is_all in
    omega arith

-- ---- The branch

module _ {N : Type 0} (P : NamedProgram) (parts : Parts N) (w : Worked N) (t u : QueryTree P.program) (x : IsWorked P parts w t u) where
  -- The new tree weighs what the old one did, and the clauses of the reductions that were made.
  pub grown_weighs : weight u ≡ parts.used + weights_of P.program (all_written w.made)
  grown_weighs =
      let before = made_weighs P.program (all_written parts.reductions) t x.branch.made in
      let after = made_weighs P.program (reductions_of parts w) u x.made in
      let apart = weights_join P.program (all_written parts.reductions) (all_written w.made) in
      let used = x.branch.used in
      omega arith

  pub grown_fits : parts.used + weights_of P.program (all_written w.made) ≤ MAX_LIMIT
  grown_fits = let e = grown_weighs in let fits = x.fits in let bounded = x.branch.bounded in omega arith

  -- The clauses of the reductions that were made are the program's.
  pub made_named : HaveClauses P.program w.made
  made_named =
      All-back (λ (r : goal.Reduction.Reduction). r.clause.0 ≤ length P.program.clauses) parts.reductions w.made
      (clauses_named P.program (parts.reductions ++ w.made) u
      (subst (λ (l : List Reduction). Makes P.program l u) (sym (map-append written parts.reductions w.made)) x.made))

  module _ (loaded : IsLoaded P) (b : Held) (key : b.key ≡ parts.key) (limit : b.limit ≡ parts.limit)
      (reductions : b.reductions ≡ reductions_of parts w) (used : b.used ≡ parts.used + weights_of P.program (all_written w.made))
      (left_is : b.left ≡ w.goals.items) (right_is : b.right ≡ []) (watches_are : b.watches ≡ []) where
    made : Makes P.program b.reductions u
    made = subst (λ (l : List Reduction). Makes P.program l u) (sym reductions) x.made

    reached : ReachedBy P.program b.limit b.key u
    reached =
        subst (λ (k : List ℕ). ReachedBy P.program b.limit k u) (sym key)
        (subst (λ (n : ℕ). ReachedBy P.program n parts.key u) (sym limit)
        (steps_reach P.program parts.limit parts.key t u x.steps x.branch.reached x.fits))

    bounded : b.limit ≤ MAX_LIMIT
    bounded = let e = limit in let l = x.branch.bounded in omega arith

    weighs : weight u ≡ b.used
    weighs = grown_weighs ∙ sym used

    lives : (l : IsLeft P parts w u) → b.is_failed ≡ false → Settled P w.cells b.row (equations_of_pairs P (word_at w.cells) w.pairs) → Lives P b u
    lives l live settled =
        let keeps : Kept P b.reductions b.row l.kept u =
        subst (λ (rs : List Reduction). Kept P rs b.row l.kept u) (sym reductions)
        (settling.settled_kept P loaded (reductions_of parts w) w.cells (equations_of_pairs P (word_at w.cells) w.pairs) l.kept u l.unsettled
        b.row settled) in
        record {
          kept = l.kept;
          keeps = keeps;
          goals = l.goals ∙ sym left_is ∙ sym (append-nil b.left) ∙ ap (λ (gs : List Goal). b.left ++ gs) (sym right_is);
          long = keeps.long ∙ weighs;
          live = live;
          asleep = λ v h. absurd (contains_none v (subst (λ (ws : List Watched). Contains ws v) watches_are h));
        }

    pub rebuilt : (b.is_failed ≡ true → w.failed ≡ false → Solvable (equations_with P w.cells w.pairs) → ⊥)
        → (b.is_failed ≡ false
        → (w.failed ≡ false) × Settled P w.cells b.row (equations_of_pairs P (word_at w.cells) w.pairs))
        → IsBranchOf P b u
    rebuilt dies lives_on = record {
      made = made;
      reached = reached;
      bounded = bounded;
      used = weighs;
      state = elim (bool_cases b.is_failed) [
        | inl failed ↦ inl (
          failed,
          elim (bool_cases w.failed) [
            | inl found ↦ x.dead found
            | inr not_found ↦
                settling.unsettled_is_dead P loaded (reductions_of parts w) w.cells (equations_of_pairs P (word_at w.cells) w.pairs)
                (x.left not_found).kept u (x.left not_found).unsettled (dies failed not_found)
          ],
        )
        | inr live ↦ inr (lives (x.left (lives_on live).0) live (lives_on live).1)
      ];
    }
