use Rattle.std.proofs.Common.{◌≡◌, ◌++◌, List, sym, subst, ◌∙◌, All, length}
use Rattle.std.specs.Prelude.{IfOk}
use Rattle.and_cells.specs.Ranges.{IsGoalInRange}
use Rattle.and_model.specs.Trees.{QueryTree}
use Rattle.and_model.specs.declared.goal.Goal.{Goal}
use Rattle.and_pending.specs.Pending.{goals_of}
use Rattle.and_print.specs.Given.{Given}
use Rattle.and_branch_parts.specs.Branches.{Held, IsBranchOf}
use Rattle.and_branch_parts.specs.Ended.{HasEnded, IsLineOf}
use Rattle.and_branch_parts.proofs.LoadedPrograms.{is_loaded}
use Rattle.and_branch.proofs.LinesTold.{ended_given, ended_in_range, line_told}
use Rattle.and_branch_parts.proofs.WatchedLists.{goals_append}
use Rattle.and_branch.proofs.branch.Branch.line.Goals as goal

pub show_line-requires-clause-in_range : goal.show_line-requires-clause-in_range
show_line-requires-clause-in_range g c =
    let P = g.N.Naming.program in
    let says = c.skeleton_is_of_the_program.ensures in
    let loaded = is_loaded P c.args.loaded.now c.requires.program says.skeleton says.own_variables says.few in
    let ended = subst (λ (b : Held). HasEnded P b) (sym c.self.view_is) c.requires.ended in
    let all : c.in_ok-waiting.waiting ≡ goals_of c.self.inside.goals.left ++ goals_of c.self.inside.goals.right =
    c.in_ok-waiting.ensures ∙ c.deref.ensures.value ∙ c.in_ok-goals.ensures ∙ goals_append c.self.inside.goals.left c.self.inside.goals.right in
    subst (λ (gs : List Goal). All (IsGoalInRange P (length c.self.inside.cells)) gs) (sym all) (ended_in_range P loaded _ ended)

pub show_line-requires-clause-given : goal.show_line-requires-clause-given
show_line-requires-clause-given g c =
    let P = g.N.Naming.program in
    let says = c.skeleton_is_of_the_program.ensures in
    let loaded = is_loaded P c.args.loaded.now c.requires.program says.skeleton says.own_variables says.few in
    let ended = subst (λ (b : Held). HasEnded P b) (sym c.self.view_is) c.requires.ended in
    let all : c.in_ok-waiting.waiting ≡ goals_of c.self.inside.goals.left ++ goals_of c.self.inside.goals.right =
    c.in_ok-waiting.ensures ∙ c.deref.ensures.value ∙ c.in_ok-goals.ensures ∙ goals_append c.self.inside.goals.left c.self.inside.goals.right in
    subst (λ (gs : List Goal). Given P c.self.inside.cells gs) (sym all) (ended_given P loaded _ ended)

pub returns : goal.returns
returns g c =
    let P = g.N.Naming.program in
    let says = c.skeleton_is_of_the_program.ensures in
    let loaded = is_loaded P c.args.loaded.now c.requires.program says.skeleton says.own_variables says.few in
    let ended = subst (λ (b : Held). HasEnded P b) (sym c.self.view_is) c.requires.ended in
    let all : c.in_ok-waiting.waiting ≡ goals_of c.self.inside.goals.left ++ goals_of c.self.inside.goals.right =
    c.in_ok-waiting.ensures ∙ c.deref.ensures.value ∙ c.in_ok-goals.ensures ∙ goals_append c.self.inside.goals.left c.self.inside.goals.right in
    subst (λ (b : Held). IfOk c.show_line.result (λ text. (t : QueryTree P.program) → IsBranchOf P b t → IsLineOf P b t text))
    c.self.view_is
    (line_told P loaded _ ended c.in_ok-waiting.waiting all c.show_line.result c.show_line.ensures)
