use Rattle.std.proofs.Common.{◌∙◌, rules}
use Rattle.and_model.specs.declared.numbers.ClauseNo.{ClauseNo}
use Rattle.and_model.proofs.code.Code.order.Goals as goal
use Rattle.and_model.proofs.CodeOrder.{slice_cmp-map, answers_less, answers_equal, answers_greater}

pub returns-clause-value : goal.returns-clause-value
returns-clause-value c =
    rw (← c.self.view_is, ← c.other.view_is)
    (c.cmp.ensures ∙ slice_cmp-map (λ (clause : ClauseNo). clause.0) _ (λ x y. search rules) c.self.inside.clauses.items c.other.inside.clauses.items)

pub returns-clause-less : goal.returns-clause-less
returns-clause-less c = answers_less c.args.self.now c.args.other.now _ (returns-clause-value c)

pub returns-clause-equal : goal.returns-clause-equal
returns-clause-equal c = answers_equal c.args.self.now c.args.other.now _ (returns-clause-value c)

pub returns-clause-greater : goal.returns-clause-greater
returns-clause-greater c = answers_greater c.args.self.now c.args.other.now _ (returns-clause-value c)
