use Rattle.std.proofs.Common.{◌≡◌, Some, ◌∙◌}
use Rattle.std.specs.Option.{option_copied}
use Rattle.and_reader.specs.Standing.{terms}
use Rattle.and_reader.proofs.TermLemmas.{infix_done}
use Rattle.and_reader.proofs.emitting.finish_infix.Goals as goal

pub returns-in-Some-clause-ok : goal.returns-in-Some-clause-ok
returns-in-Some-clause-ok c o w rest named has =
    let is : Some c.in-Some.name.now ≡ option_copied c.args.operator = cc in
    infix_done c.finish.result (terms c.args.draft.now) (terms c.finish.new.draft) c.in-Some.name.now o w rest (is ∙ named) has c.finish.ensures.ok
