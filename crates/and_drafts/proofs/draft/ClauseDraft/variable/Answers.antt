use Rattle.std.proofs.Common.{[], sym, ◌∙◌}
use Rattle.and_syntax.specs.Written.{is_new, place}
use Rattle.and_drafts.specs.Numbered.{met_by}
use Rattle.and_drafts.specs.Parts.{part_shapes}
use Rattle.and_drafts.proofs.Meeting.{found_some, found_none}
use Rattle.and_drafts.proofs.draft.ClauseDraft.variable.Goals as goal

pub variable_again-requires-clause-known : goal.variable_again-requires-clause-known
variable_again-requires-clause-known c =
    let met = met_by [] (part_shapes c.args.self.now.parts.items) in
    found_some (is_new c.args.name.now met) c.in-Some.number (place c.args.name.now met) (sym c.in-Some.is ∙ c.find.ensures met c.args.self.now.met)

pub new_variable-requires-clause-new : goal.new_variable-requires-clause-new
new_variable-requires-clause-new c =
    let met = met_by [] (part_shapes c.args.self.now.parts.items) in
    found_none (is_new c.args.name.now met) (place c.args.name.now met) (sym c.in-None.is ∙ c.find.ensures met c.args.self.now.met)
