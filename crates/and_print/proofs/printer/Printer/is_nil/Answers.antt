use Rattle.std.proofs.Common.{◌∙◌, ap, sym, subst}
use Rattle.and_cells.specs.Parts.{named}
use Rattle.and_print.specs.Roots.{RootMeans, is_empty_list}
use Rattle.and_print.specs.declared.roots.Root.{Root}
use Rattle.and_print.proofs.Parting.{empty_if_none}
use Rattle.and_print.proofs.printer.Printer.is_nil.Goals as goal

pub returns-then-name-eq-NIL : goal.returns-then-name-eq-NIL
returns-then-name-eq-NIL g c = λ t m.
    let P = named c.args.self.now.loaded.now in
    let row = c.args.self.now.cells.now in
    let (ts, is, means) = subst (λ (r : Root). RootMeans P row r t) c.in-Compound.is m in
    empty_if_none P row c.split_first.result c.is_none.result c.in-Compound.name.0 ts c.if-name-eq-NIL.true c.is_none.ensures (c.split_first.ensures ts means)
    ∙ ap is_empty_list (sym is)
