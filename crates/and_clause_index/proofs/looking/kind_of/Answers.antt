use Rattle.std.proofs.Common.{◌≡◌, sym, ap, subst, ◌∙◌, w64, FitsSigned, rules}
use Rattle.std.proofs.lemmas.Int.{ints, to_z-of_z}
use Rattle.and_program.specs.Shown.{shown_term}
use Rattle.and_program.specs.Skeletons.{node_term}
use Rattle.and_cells.specs.Ranges.{NamedProgram}
use Rattle.and_clause_index.specs.Looks.{Fits, MayBe}
use Rattle.and_clause_index.proofs.Glimpses.{node_kind, number_kind}
use Rattle.and_clause_index.proofs.looking.kind_of.Goals as goal

pub returns-in-Node-clause-fits : goal.returns-in-Node-clause-fits
returns-in-Node-clause-fits g c = λ row has s t may.
    let P = g.C.Cells.program in
    let node = c.in-Node.node in
    let fits : Fits (shown_term (node_term P.skeleton.nodes node.0)) t =
    node_kind P row s node c.in-Node.base t (subst (λ r. MayBe P row s r t) c.in-Node.is may) in
    let is : c.kind.result ≡ shown_term (node_term P.skeleton.nodes node.0) =
    c.kind.ensures.term ∙ ap (λ (Q : NamedProgram). shown_term (node_term Q.skeleton.nodes node.0)) (sym c.requires.program) in
    subst (λ k. Fits k t) (sym is) fits

pub returns-in-Number-clause-fits : goal.returns-in-Number-clause-fits
returns-in-Number-clause-fits g c = λ row has s t may.
    let fits : FitsSigned w64 c.number.result = search (rules, ints) in
    number_kind g.C.Cells.program c.in-Number.pair c.number.result _ (g.C.Cells.seen c.args.cells.now) (g.C.Cells.seen c.number.new.self)
    c.number.ensures.read (to_z-of_z w64 c.number.result fits) row has s c.args.at t c.in-Number.is may
