use Rattle.std.proofs.Common.{reverse}
use Rattle.and_visit.proofs.Going.{after_over}
use Rattle.and_visit.proofs.walker.Walker.over.Goals as goal

pub returns-clause-after : goal.returns-clause-after
returns-clause-after g c =
    let s = c.args.self.now in
    after_over g.N.Naming.program s.limit (g.V.Visitor.has_seen s.visitor) (g.V.Visitor.has_seen c.see_cut.new.self)
    (reverse s.stack.items) c.args.hand.now c.args.cut c.requires.ready c.requires.state c.in_ok-see_cut.ensures.told
