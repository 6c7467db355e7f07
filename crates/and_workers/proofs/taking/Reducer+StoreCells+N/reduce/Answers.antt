use Rattle.std.proofs.Common.{◌≡◌, ◌≤◌, [], List, length, sym, ap, ◌∙◌, subst}
use Rattle.std.specs.Prelude.{IfSome, IfNone}
use Rattle.and_workers.specs.Waiting.{Waiting}
use Rattle.and_cells.specs.Ranges.{NamedProgram}
use Rattle.and_store.specs.Calls.{TakesFrame, GetsNone}
use Rattle.and_store.specs.Passes.{StoreId}
use Rattle.and_store.specs.Worked.{seen_by}
use Rattle.and_branch_laws.proofs.Loading.{loaded_is}
use Rattle.and_workers.specs.AtWork.{IsNoted}
use Rattle.and_workers.proofs.Learning.{refused_learns, fits_same}
use Rattle.and_workers.proofs.Quiet.{stays_at_work}
use Rattle.and_workers.proofs.Reducing.{sole_is_there, refused_known, noted_so}
use Rattle.and_workers.proofs.taking.Reducer+StoreCells+N.reduce.Goals as goal

pub weight-weight-requires : goal.weight-weight-requires
weight-weight-requires g c =
    subst (λ (Q : NamedProgram). c.args.clause.0 ≤ length Q.program.clauses) c.requires.program
    (sole_is_there g.N.Naming.program (seen_by c.args.cells.pass) c.args.goal c.args.clause c.requires.sole)

pub note-noted-requires-clause-clause : goal.note-noted-requires-clause-clause
note-noted-requires-clause-clause g c =
    subst (λ (Q : NamedProgram). c.args.clause.0 ≤ length Q.program.clauses) c.requires.program
    (sole_is_there g.N.Naming.program (seen_by c.args.cells.pass) c.args.goal c.args.clause c.requires.sole)

pub returns-in_default-clause-turned : goal.returns-in_default-clause-turned
returns-in_default-clause-turned g c =
    let P = g.N.Naming.program in
    let p = c.args.cells.pass in
    let q = c.take_frame-cells.result.0.pass in
    let words = c.args.shared.now.store.now.about.words in
    let store = c.take_frame-cells.ensures.same.0 ∙ sym c.requires.store in
    let none : GetsNone words c.weight-weight.result p.pass q.pass =
    subst (λ o. IfNone o (GetsNone words c.weight-weight.result p.pass q.pass)) c.in_default.is c.take_frame-cells.ensures.none in
    stays_at_work P c.args.self.now.told [] c.args.self.now.suspended p q
    (record { store = store; learns = refused_learns p.store.about.first words c.weight-weight.result p.pass q.pass none })
    (fits_same P p q store (refused_known words c.weight-weight.result p.pass q.pass none) c.requires.at_work.fit) c.requires.at_work

pub go_on-requires-clause-noted : goal.go_on-requires-clause-noted
go_on-requires-clause-noted g c κs within =
    let P = g.N.Naming.program in
    let h = c.args.shared.now in
    let p = c.args.cells.pass in
    let frame = c.take_frame-cells in
    let q = frame.result.0.pass in
    let s = c.args.self.now in
    let t = c.note-noted.new.self in
    let e = c.note-noted.ensures in
    let loaded = c.skeleton_is_of_the_program.ensures in
    let words = h.store.now.about.words in
    let weight = c.weight-weight.result in
    let taken = subst (λ o. IfSome o (λ f. (f.1.value ≡ p) × TakesFrame words f.0 weight p.pass q.pass)) c.in-Some.is frame.ensures.some in
    subst (λ (ws : List Waiting). IsNoted P t.told t.pairs ws q c.note-noted.result) (sym e.suspended)
    (noted_so P h.loaded.now c.requires.program (loaded_is P h.loaded.now c.requires.program loaded.skeleton loaded.own_variables loaded.few)
    s.told t.told c.args.goal c.args.node.0 c.args.clause h.words words c.in-Some.floor weight p q c.in-Some.judged.value s.suspended t.pairs
    h.words_are taken (frame.ensures.same.0 ∙ sym c.requires.store) (ap (λ (i : StoreId). i.about.words) c.requires.store)
    c.weight-weight.ensures h.short c.requires.call c.requires.sole c.requires.at_work c.note-noted.result e.noted e.asked e.none e.failing)

pub go_on-requires-clause-clause : goal.go_on-requires-clause-clause
go_on-requires-clause-clause g c κs within =
    subst (λ (Q : NamedProgram). c.args.clause.0 ≤ length Q.program.clauses) c.requires.program
    (sole_is_there g.N.Naming.program (seen_by c.args.cells.pass) c.args.goal c.args.clause c.requires.sole)
