use Rattle.std.proofs.Common.{subst, sym, w64, FitsSigned, rules}
use Rattle.std.proofs.lemmas.Int.{ints, to_z-of_z}
use Rattle.and_cells.specs.Parts.{named}
use Rattle.and_unify.specs.Heads.{HasHead}
use Rattle.and_unify.proofs.MeetingHeads.{number_head}
use Rattle.and_unify.proofs.heads.head_of.Goals as goal

pub returns-in-Node-clause-head : goal.returns-in-Node-clause-head
returns-in-Node-clause-head g c =
    let s = g.C.Cells.seen c.args.cells.now in
    let head = c.node_head.result in
    subst (λ P. HasHead P s c.args.reference head) (sym c.requires.program)
    (subst (λ r. HasHead (named c.args.loaded.now) s r head) (sym c.in-Node.is) (c.node_head.ensures.head s c.in-Node.base))

pub returns-in-Number-clause-head : goal.returns-in-Number-clause-head
returns-in-Number-clause-head g c =
    let fits : FitsSigned w64 c.number.result = search (rules, ints) in
    number_head g.C.Cells.program c.in-Number.pair c.args.reference _ c.number.result (g.C.Cells.seen c.args.cells.now)
    (g.C.Cells.seen c.number.new.self) c.in-Number.is
    (to_z-of_z w64 c.number.result fits) c.number.ensures.read
