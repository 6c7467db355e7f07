use Rattle.std.proofs.Common.{subst}
use Rattle.std.proofs.lemmas.Option.{same_Some}
use Rattle.and_clause_index.specs.Looks.{IsLook}
use Rattle.and_determinacy.proofs.trying.Trials.look_at_asked.Goals as goal

pub returns-clause-look : goal.returns-clause-look
returns-clause-look g c =
    let same = same_Some c.at_asked-self.new.cells c.args.cells.now c.at_asked-self.ensures.reads.told in
    subst (λ row. IsLook g.N.Naming.program row c.args.node.0 c.args.base c.at_asked-self.result) same
    (c.at_asked-self.ensures.look c.at_asked-self.new.cells (λ place r knows. knows))
