use Rattle.std.proofs.Common.{rules, ap, subst, ◌∙◌, sym, [], ◌∷◌, ◌++◌}
use Rattle.and_drafts.specs.Numbered.{met_with}
use Rattle.and_drafts.specs.Parts.{part_shape}
use Rattle.and_drafts.specs.Variables.{IsNumbered}
use Rattle.and_judging.proofs.WrittenNames.{next_met}
use Rattle.and_judging.proofs.numbering.note_variable.Goals as goal

pub returns-in_ok-push-in-Variable : goal.returns-in_ok-push-in-Variable
returns-in_ok-push-in-Variable c =
    next_met c.in-Variable.name c.args.names.now.items c.push.new.self.items c.in-Variable.number
    (subst (IsNumbered c.args.names.now.items) c.in-Variable.is c.requires) (search rules)
    (c.in_ok-push-in-Variable.ensures.items ∙ ap (λ x. c.args.names.now.items ++ x ∷ []) (search rules))
    ∙ sym (ap (λ p. met_with c.args.names.now.items (part_shape p)) c.in-Variable.is)
