use Rattle.std.proofs.Common.{◌≡◌, [], sym, subst}
use Rattle.and_model.specs.declared.reference.Ref.{Ref}
use Rattle.and_model.specs.declared.reference.Ref.TheVariants.{Cell}
use Rattle.and_program.specs.Skeletons.{AllFall}
use Rattle.and_cells.specs.Parts.{part_at}
use Rattle.and_cells.specs.Ranges.{IsInRange}
use Rattle.and_value_laws.specs.Values.{HasValue, Reaches}
use Rattle.and_guards.proofs.Resolved as tried
use Rattle.and_branch_laws.proofs.Loading.{falls_in, resolved_is}
use Rattle.and_store.specs.Worked.{seen_by}
use Rattle.and_workers.proofs.Learning.{reads_learnt}
use Rattle.and_workers.proofs.Values.{number_is_known, reached_in_range}
use Rattle.and_workers.proofs.Working.{reads_at_work}
use Rattle.and_workers.proofs.running.Reducer+StoreCells+N.value_of.Goals as goal

pub value-requires-clause-in_range : goal.value-requires-clause-in_range
value-requires-clause-in_range g c =
    let P = g.N.Naming.program in
    let fall : AllFall 0 P.skeleton.nodes = falls_in P c.args.shared.now.loaded.now c.requires.program c.skeleton_is_of_the_program.ensures.skeleton.0 in
    let is : c.resolve-expression.result ≡ part_at P c.args.base c.args.node.0 = resolved_is P c.args.shared.now.loaded.now c.args.node c.args.base
    c.resolve-expression.result c.requires.program c.resolve-expression.ensures in
    subst (IsInRange P c.args.cells.now.pass.store.about.words) (sym is)
    (tried.part_in_range P c.args.cells.now.pass.store.about.words c.args.node.0 c.args.base fall c.requires.node)

pub returns-clause-since : goal.returns-clause-since
returns-clause-since g c =
    let l = reads_learnt g.N.Naming.program c.args.cells.now.pass c.value.new.cells.pass c.value.ensures.grew c.value.ensures.reads in
    (l.learns.since, l.learns.seen)

pub returns-clause-at_work : goal.returns-clause-at_work
returns-clause-at_work g c =
    reads_at_work g.N.Naming.program c.args.self.now.told [] c.args.self.now.suspended c.args.cells.now.pass c.value.new.cells.pass
    c.value.ensures.grew c.value.ensures.reads
    c.requires.at_work

pub returns-clause-number : goal.returns-clause-number
returns-clause-number g c z is =
    let P = g.N.Naming.program in
    let fall : AllFall 0 P.skeleton.nodes = falls_in P c.args.shared.now.loaded.now c.requires.program c.skeleton_is_of_the_program.ensures.skeleton.0 in
    let found : c.resolve-expression.result ≡ part_at P c.args.base c.args.node.0 = resolved_is P c.args.shared.now.loaded.now c.args.node
    c.args.base c.resolve-expression.result c.requires.program c.resolve-expression.ensures in
    let work = reads_at_work P c.args.self.now.told [] c.args.self.now.suspended c.args.cells.now.pass c.value.new.cells.pass c.value.ensures.grew
    c.value.ensures.reads
    c.requires.at_work in
    number_is_known P c.value.new.cells.pass c.args.base c.args.node.0 z fall work.known
    (subst (λ (r : Ref). HasValue P (seen_by c.value.new.cells.pass) r z) found (c.value.ensures.number z is))

pub returns-clause-waits : goal.returns-clause-waits
returns-clause-waits g c cell is =
    let P = g.N.Naming.program in
    let q = c.value.new.cells.pass in
    let fall : AllFall 0 P.skeleton.nodes = falls_in P c.args.shared.now.loaded.now c.requires.program c.skeleton_is_of_the_program.ensures.skeleton.0 in
    let found : c.resolve-expression.result ≡ part_at P c.args.base c.args.node.0 = resolved_is P c.args.shared.now.loaded.now c.args.node
    c.args.base c.resolve-expression.result c.requires.program c.resolve-expression.ensures in
    let work = reads_at_work P c.args.self.now.told [] c.args.self.now.suspended c.args.cells.now.pass q c.value.ensures.grew c.value.ensures.reads
    c.requires.at_work in
    let range = tried.part_in_range P c.args.cells.now.pass.store.about.words c.args.node.0 c.args.base fall c.requires.node in
    let store = c.value.ensures.over in
    reached_in_range P (seen_by q) (part_at P c.args.base c.args.node.0) (Cell cell) fall work.fit
    (subst (λ s. IsInRange P s.about.words (part_at P c.args.base c.args.node.0)) (sym store) range)
    (subst (λ (r : Ref). Reaches P (seen_by q) r (Cell cell)) found (c.value.ensures.waits cell is).1) (λ e. cc)
