use Rattle.std.proofs.Common.{sym, subst}
use Rattle.and_model.specs.Terms.{apply}
use Rattle.and_program.specs.Skeletons.{node_term}
use Rattle.and_cells.specs.Ranges.{IsInRange, IsInRangeOrHalf}
use Rattle.and_cells.specs.Seen.{LeadsTo}
use Rattle.and_cells.proofs.Chains.{reads_more}
use Rattle.and_branch_laws.specs.Variables.{placed}
use Rattle.and_clause_index.proofs.Glimpses.{node_leads, seen_before}
use Rattle.and_guards.proofs.Resolved.{resolved_is, falls_in, part_in_range}
use Rattle.and_clause_index.proofs.looking.kind_in.Goals as goal

pub deref-at-requires-clause-in_range : goal.deref-at-requires-clause-in_range
deref-at-requires-clause-in_range g c =
    let P = g.C.Cells.program in
    let words = (g.C.Cells.seen c.args.cells.now).words in
    let fall = falls_in P c.args.loaded.now c.requires.program c.skeleton_is_of_the_program.ensures.skeleton.0 in
    let is = resolved_is P c.args.loaded.now c.args.node c.args.base c.resolve.result c.requires.program c.resolve.ensures in
    subst (IsInRange P words) (sym is) (part_in_range P words c.args.node.0 c.args.base fall c.requires.node)

pub kind_of-requires-clause-in_range : goal.kind_of-requires-clause-in_range
kind_of-requires-clause-in_range g c =
    subst (λ n. IsInRangeOrHalf g.C.Cells.program n c.deref-at.result) (sym c.deref-at.ensures.reads.words) c.deref-at.ensures.in_range

pub returns-clause-grew : goal.returns-clause-grew
returns-clause-grew g c =
    g.met.C.Cells.grew_on c.args.cells.now c.deref-at.new.cells c.kind_of.new.cells c.deref-at.ensures.grew c.kind_of.ensures.grew

pub returns-clause-reads : goal.returns-clause-reads
returns-clause-reads g c =
    reads_more (g.C.Cells.seen c.args.cells.now) (g.C.Cells.seen c.deref-at.new.cells) (g.C.Cells.seen c.kind_of.new.cells)
    c.deref-at.ensures.reads c.kind_of.ensures.reads

pub returns-clause-fits : goal.returns-clause-fits
returns-clause-fits g c = λ row has s solves.
    let P = g.C.Cells.program in
    let mid = g.C.Cells.seen c.deref-at.new.cells in
    let at = c.deref-at.result in
    let fall = falls_in P c.args.loaded.now c.requires.program c.skeleton_is_of_the_program.ensures.skeleton.0 in
    let is = resolved_is P c.args.loaded.now c.args.node c.args.base c.resolve.result c.requires.program c.resolve.ensures in
    let leads = subst (λ r. LeadsTo mid r at) is c.deref-at.ensures.leads in
    let before = seen_before mid (g.C.Cells.seen c.kind_of.new.cells) row c.kind_of.ensures.reads has in
    let t = apply s (placed c.args.base (node_term P.skeleton.nodes c.args.node.0)) in
    c.kind_of.ensures.fits row has s t (node_leads P fall row s solves c.args.base c.args.node.0 at mid before leads)
