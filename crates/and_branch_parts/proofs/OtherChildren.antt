-- The other children of a fork, where one is taken.
use Rattle.std.proofs.Common.{ℕ, ◌≡◌, List, [], ◌∷◌, ◌++◌, sym, ap, ◌∙◌, subst, append_assoc}
use Rattle.and_model.specs.Trees.{QueryTree}
use Rattle.and_model.specs.declared.goal.Goal.{Goal}
use Rattle.and_cells.specs.Ranges.{NamedProgram}
use Rattle.and_branch_laws.specs.States.{StateOf, fork}
use Rattle.and_branch_parts.specs.Branches.{Held, IsBranchOf, IsOpenGoal}
use Rattle.and_branch_parts.specs.Children.{Fork, AreChildren, IsChild}

-- They are children of the fork that is left.
pub others_stand : (P : NamedProgram) (f g : Fork) (b : Held) (t : QueryTree P.program) → IsChild P f g b → AreChildren P f t → AreChildren P g t
others_stand P f g b t is x =
    let made : List ℕ = x.made ++ is.clause ∷ [] in
    let clauses : x.made ++ f.clauses ≡ made ++ g.clauses =
    ap (λ cs. x.made ++ cs) is.next ∙ sym (append_assoc x.made (is.clause ∷ []) g.clauses) in
    let here : StateOf P.program f.parent.limit t (fork x.open_goal (made ++ g.clauses) x.cut) =
    subst (λ cs. StateOf P.program f.parent.limit t (fork x.open_goal cs x.cut)) clauses x.state in
    record {
      branch = subst (λ (d : Held). IsBranchOf P d t) (sym is.parent) x.branch;
      open_goal = x.open_goal;
      made = made;
      cut = x.cut;
      goal_is = subst (λ (h : Goal). IsOpenGoal P g.parent.reductions t x.open_goal h) (sym is.goal)
          (subst (λ (d : Held). IsOpenGoal P d.reductions t x.open_goal f.goal) (sym is.parent) x.goal_is);
      state = subst (λ (d : Held). StateOf P.program d.limit t (fork x.open_goal (made ++ g.clauses) x.cut)) (sym is.parent) here;
      longer = is.longer ∙ x.longer;
    }
