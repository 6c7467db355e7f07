use Rattle.std.proofs.Common.{◌≡◌, ◌≤◌, Ok, false, true, true≢false, length, sym, ap, subst, ◌∙◌, rules}
use Rattle.and_cells.specs.Ranges.{NamedProgram}
use Rattle.and_clause_index.proofs.ClauseLists.{clause_there}
use Rattle.and_program.specs.Skeletons.{node_term}
use Rattle.and_determinacy.specs.declared.seeing.Sight.TheVariants.{Fits, Apart}
use Rattle.and_determinacy.proofs.trying.Trials.fits_left.Goals as goal

pub is_doubled_apart-requires : goal.is_doubled_apart-requires
is_doubled_apart-requires g c =
    let P = g.N.Naming.program in
    let there = clause_there P.program (node_term P.skeleton.nodes c.args.node.0) c.args.clause.0 c.requires.of in
    subst (λ (Q : NamedProgram). c.args.clause.0 ≤ length Q.program.clauses) c.requires.program there

pub returns-then-is_doubled_apart-clause-fits : goal.returns-then-is_doubled_apart-clause-fits
returns-then-is_doubled_apart-clause-fits g c = λ b e.
    let same : false ≡ b = cc in (
      (λ is. absurd (true≢false (sym is ∙ sym same))),
      (λ has. absurd (c.is_doubled_apart.ensures c.if-is_doubled_apart.true g.N.Naming.program c.args.cells.now c.args.node.0 c.args.base
          c.requires.program c.requires.look has)),
    )

pub returns-in-Fits-clause-fits : goal.returns-in-Fits-clause-fits
returns-in-Fits-clause-fits g c = λ b e.
    let same : true ≡ b = cc in
    let seen : c.in_ok-seen.seen ≡ Fits = search rules in
    ((λ is. c.in_ok-seen.ensures.fits (ap (λ x. Ok x) seen)), (λ has. sym same))

pub returns-in-Apart-clause-fits : goal.returns-in-Apart-clause-fits
returns-in-Apart-clause-fits g c = λ b e.
    let same : false ≡ b = cc in
    let seen : c.in_ok-seen.seen ≡ Apart = search rules in (
      (λ is. absurd (true≢false (sym is ∙ sym same))),
      (λ has. absurd (c.in_ok-seen.ensures.apart (ap (λ x. Ok x) seen) has)),
    )
