use Rattle.std.proofs.Common.{◌++◌, ◌∷◌, [], ap, subst, ◌∙◌, append_assoc, map}
use Rattle.and_print.specs.Writing.{Writes, shown_cell}
use Rattle.and_print.proofs.Placing.{cell_variable, cell_written}
use Rattle.and_print.proofs.variables.VariableNames.write.Goals as goal

pub returns : goal.returns
returns c =
    let text = c.in_ok-append-2.ensures ∙ ap (λ bs. bs ++ c.as_bytes.result.now) c.in_ok-append.ensures
    ∙ append_assoc c.args.out.now (95 ∷ []) c.as_bytes.result.now
    ∙ ap (λ bs. c.args.out.now ++ 95 ∷ bs) (c.as_bytes.ensures.value ∙ c.format.ensures.text) in
    subst (λ (seen : _). Writes (([], c.args.cell) ∷ []) (shown_cell c.args.cell) seen (map cell_variable c.insert_full.new.self.keys) c.args.out.now
    c.append-2.new.self) c.self.view_is
    (cell_written c.args.cell c.in_ok-place.place c.self.inside.cells.keys c.insert_full.new.self.keys c.args.out.now c.append-2.new.self
    c.in_ok-place.ensures.keys c.in_ok-place.ensures.index text)
