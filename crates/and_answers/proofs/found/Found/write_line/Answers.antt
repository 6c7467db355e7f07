use Rattle.std.proofs.Common.{[], ◌∷◌, ◌++◌, List, get_or, ap, sym, ◌∙◌}
use Rattle.and_model.specs.Lines.{Bytes}
use Rattle.and_answers.proofs.KeptLemmas.{lines_listed}
use Rattle.and_answers.proofs.found.Found.write_line.Goals as goal

pub returns : goal.returns
returns c =
    c.in_ok-write_line.ensures
    ∙ ap (λ (ls : List Bytes). c.args.text.now ++ get_or ls c.args.place [] ++ 10 ∷ []) (sym (lines_listed c.args.self.now.entries))
