use Rattle.std.proofs.Common.{◌≡◌, false, true≢false, sym, ◌∙◌, arith}
use Rattle.and_clause_index.proofs.ClauseLists.{clause_there}
use Rattle.and_clause_index.proofs.Left.{candidate_left}
use Rattle.and_program.specs.Skeletons.{node_term}
use Rattle.and_determinacy.proofs.trying.Trials.fits.Goals as goal

pub returns-then-is_apart-clause-fits : goal.returns-then-is_apart-clause-fits
returns-then-is_apart-clause-fits g c = λ b e.
    let P = g.N.Naming.program in
    let left = candidate_left P c.args.table.now c.requires.table c.args.cells.now c.args.node.0 c.args.base c.args.self.now.look
    c.requires.look c.args.clause in
    let same : false ≡ b = cc in (
      (λ is. absurd (true≢false (sym is ∙ sym same))),
      (λ has. absurd (true≢false (sym c.if-is_apart.true ∙ c.is_apart.ensures ∙ left has))),
    )

pub is_apart-requires : goal.is_apart-requires
is_apart-requires g c =
    let P = g.N.Naming.program in
    let there = clause_there P.program (node_term P.skeleton.nodes c.args.node.0) c.args.clause.0 c.requires.of in
    let many = c.requires.table.prints.many in
    omega arith
