use Rattle.std.proofs.Common.{[], length, sym, subst, ap, ◌∙◌}
use Rattle.and_program.specs.Items.{relation as relation_of}
use Rattle.and_store.specs.Passes.{PassSeen}
use Rattle.and_workers.specs.AtWork.{IsAtWork}
use Rattle.and_handed.specs.Handed.{HasActed, Kills}
use Rattle.and_workers.specs.Running.{MayRun, NotesRun}
use Rattle.and_handed.specs.declared.told.Cause.TheVariants.{NoSolution}
use Rattle.and_workers.proofs.Comparing.{of_no_error, work_compared, acted_compared, kills_compared}
use Rattle.and_workers.proofs.running.Reducer+StoreCells+N.compared.Goals as goal

pub give_up-requires-clause-done : goal.give_up-requires-clause-done
give_up-requires-clause-done g c =
    let P = g.N.Naming.program in
    let p = c.args.cells.pass in
    let told = c.args.self.now.told in
    let new = c.note_run-cells.new.self.told in
    let n = of_no_error c.note_run-cells.result.1 (NotesRun c.args.goal p told new) c.note_run-cells.ensures.noted (sym c.if-is_err.ensures.value) in
    let may : MayRun (length p.store.about.first) told.made.items c.args.goal =
    subst (λ m. MayRun m told.made.items c.args.goal) (c.args.shared.now.opening_is ∙ ap (λ s. length s.about.first) (sym c.requires.store)) c.requires.may in
    subst (λ (q : PassSeen). HasActed P new q) (sym c.note_run-cells.ensures.same)
    (acted_compared P c.args.shared.now.words p c.args.goal
    (relation_of c.args.relation) c.args.left.0 c.args.right.0 c.args.holds c.requires.goal c.requires.decided told new n may
    c.args.self.now.suspended c.requires.at_work)

pub give_up-requires-clause-kills : goal.give_up-requires-clause-kills
give_up-requires-clause-kills g c =
    let P = g.N.Naming.program in
    let p = c.args.cells.pass in
    let told = c.args.self.now.told in
    let new = c.note_run-cells.new.self.told in
    let n = of_no_error c.note_run-cells.result.1 (NotesRun c.args.goal p told new) c.note_run-cells.ensures.noted (sym c.if-is_err.ensures.value) in
    let may : MayRun (length p.store.about.first) told.made.items c.args.goal =
    subst (λ m. MayRun m told.made.items c.args.goal) (c.args.shared.now.opening_is ∙ ap (λ s. length s.about.first) (sym c.requires.store)) c.requires.may in
    subst (λ (q : PassSeen). Kills P new q NoSolution) (sym c.note_run-cells.ensures.same)
    (kills_compared P c.args.shared.now.words p c.args.goal
    (relation_of c.args.relation) c.args.left.0 c.args.right.0 c.args.holds c.requires.goal c.requires.decided told new n may
    c.if-not-holds.true)

pub returns-clause-turned : goal.returns-clause-turned
returns-clause-turned g c =
    let P = g.N.Naming.program in
    let p = c.args.cells.pass in
    let told = c.args.self.now.told in
    let new = c.note_run-cells.new.self.told in
    let n = of_no_error c.note_run-cells.result.1 (NotesRun c.args.goal p told new) c.note_run-cells.ensures.noted (sym c.if-is_err.ensures.value) in
    let may : MayRun (length p.store.about.first) told.made.items c.args.goal =
    subst (λ m. MayRun m told.made.items c.args.goal) (c.args.shared.now.opening_is ∙ ap (λ s. length s.about.first) (sym c.requires.store)) c.requires.may in
    let work = work_compared P c.args.shared.now.words p c.args.goal
    (relation_of c.args.relation) c.args.left.0 c.args.right.0 c.args.holds c.requires.goal c.requires.decided told new n may
    c.args.self.now.suspended c.if-not-holds.false c.requires.at_work in
    subst (λ (w : _). IsAtWork P new [] w c.note_run-cells.result.0.pass) (sym c.note_run-cells.ensures.kept)
    (subst (λ (q : PassSeen). IsAtWork P new [] c.args.self.now.suspended q) (sym c.note_run-cells.ensures.same) work)
