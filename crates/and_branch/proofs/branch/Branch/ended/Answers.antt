use Rattle.std.proofs.Common.{◌≡◌, ◌≢◌, false, List, [], sym, ◌∙◌, subst, ap, length}
use Rattle.std.proofs.lemmas.List.{nil_from_length, length-map}
use Rattle.and_model.specs.declared.goal.Goal.{Goal}
use Rattle.and_pending.specs.Pending.{Watched, goals_of}
use Rattle.and_branch_parts.specs.Branches.{Held, IsBranchOf}
use Rattle.and_branch_parts.specs.Finding.{AllCalls}
use Rattle.and_branch_parts.specs.Resting.{IsResting}
use Rattle.and_branch.specs.States.{IsState}
use Rattle.and_branch.specs.declared.state.BranchState.TheVariants.{Answer, Floundered}
use Rattle.and_branch_parts.proofs.LoadedPrograms.{is_loaded}
use Rattle.and_branch.proofs.StatesFound.{answer_is, floundered_is}
use Rattle.and_branch.proofs.branch.Branch.ended.Goals as goal

pub returns-then-count_before-eq0 : goal.returns-then-count_before-eq0
returns-then-count_before-eq0 g c = λ t x.
    let P = g.N.Naming.program in
    let says = c.skeleton_is_of_the_program.ensures in
    let loaded = is_loaded P c.args.loaded.now c.requires.program says.skeleton says.own_variables says.few in
    let branch = subst (λ (b : Held). IsBranchOf P b t) (sym c.self.view_is) x in
    let live = subst (λ (b : Held). b.is_failed ≡ false) (sym c.self.view_is) c.requires.live in
    let rests = subst (λ (b : Held). IsResting P b) (sym c.self.view_is) c.requires.rests in
    let none = subst (λ (b : Held). AllCalls P (λ g. ⊥) b.left) (sym c.self.view_is) c.requires.none in
    let empty : goals_of c.self.inside.goals.left ≡ [] = nil_from_length (goals_of c.self.inside.goals.left)
    (length-map c.self.inside.goals.left (λ (w : Watched). w.goal) ∙ sym c.count_before.ensures ∙ c.if-count_before-eq0.true) in
    subst (λ (b : Held). IsState P b t Answer) c.self.view_is (answer_is P loaded _ t branch live rests none empty)

pub returns-else-count_before-eq0 : goal.returns-else-count_before-eq0
returns-else-count_before-eq0 g c = λ t x.
    let P = g.N.Naming.program in
    let says = c.skeleton_is_of_the_program.ensures in
    let loaded = is_loaded P c.args.loaded.now c.requires.program says.skeleton says.own_variables says.few in
    let branch = subst (λ (b : Held). IsBranchOf P b t) (sym c.self.view_is) x in
    let live = subst (λ (b : Held). b.is_failed ≡ false) (sym c.self.view_is) c.requires.live in
    let rests = subst (λ (b : Held). IsResting P b) (sym c.self.view_is) c.requires.rests in
    let none = subst (λ (b : Held). AllCalls P (λ g. ⊥) b.left) (sym c.self.view_is) c.requires.none in
    let some : goals_of c.self.inside.goals.left ≢ [] = λ e. c.if-count_before-eq0.false
    (c.count_before.ensures ∙ sym (length-map c.self.inside.goals.left (λ (w : Watched). w.goal)) ∙ ap (λ (gs : List Goal). length gs) e) in
    subst (λ (b : Held). IsState P b t Floundered) c.self.view_is (floundered_is P loaded _ t branch live rests none some)
