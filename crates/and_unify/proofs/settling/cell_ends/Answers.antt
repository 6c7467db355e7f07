use Rattle.std.proofs.Common.{sym, ap, ◌∙◌}
use Rattle.std.proofs.lemmas.Bool.{false≢true}
use Rattle.and_model.specs.Store.{is_half}
use Rattle.and_unify.proofs.SettlingEnds.{cell_names_itself}
use Rattle.and_unify.proofs.settling.cell_ends.Goals as goal

pub returns-clause-no_solution : goal.returns-clause-no_solution
returns-clause-no_solution g c = λ is solvable.
    let half = cell_names_itself g.N.Naming.program c.args.cells.now c.args.cell (c.ends.ensures.names_half is solvable.0 solvable.1) in
    false≢true (sym c.if-is_half.false ∙ c.is_half.ensures ∙ ap is_half c.word.ensures.value ∙ half)
