use Rattle.std.proofs.Common.{Result, Ok, Err, IfErr, sym, ◌∙◌}
use Rattle.and_command.proofs.CheckLemmas.{gives_something, has_command, answer_is, answer_each, none_each}
use Rattle.and_command.proofs.RangeLemmas.{in_ranges}
use Rattle.and_command.proofs.reading.command_of.Goals as goal

pub values_of-requires : goal.values_of-requires
values_of-requires c = gives_something _ c.in-Some.kind (sym c.kind_of.ensures ∙ c.in-Some.is)

err_says : {X E : Type 0} (r : Result X E) (P : Type 0) → P → IfErr r (λ _. P)
err_says (Ok x) P p = tt
err_says (Err e) P p = p

pub returns-in_err-given-in-Some-clause-memory : goal.returns-in_err-given-in-Some-clause-memory
returns-in_err-given-in-Some-clause-memory c =
    err_says c.from_residual.result _ (has_command _ c.in-Some.kind (sym c.kind_of.ensures ∙ c.in-Some.is))

pub returns-in_ok-given-in-Some-clause-is : goal.returns-in_ok-given-in-Some-clause-is
returns-in_ok-given-in-Some-clause-is c =
    answer_is _ c.in-Some.kind c.in_ok-given-in-Some.given c.command_with.result (sym c.kind_of.ensures ∙ c.in-Some.is)
    c.in_ok-given-in-Some.ensures c.command_with.ensures

pub returns-in_ok-given-in-Some-clause-in_range : goal.returns-in_ok-given-in-Some-clause-in_range
returns-in_ok-given-in-Some-clause-in_range c = in_ranges c.command_with.result _ (returns-in_ok-given-in-Some-clause-is c)

pub returns-in_ok-given-in-Some-clause-each : goal.returns-in_ok-given-in-Some-clause-each
returns-in_ok-given-in-Some-clause-each c =
    answer_each _ c.in-Some.kind c.in_ok-given-in-Some.given c.command_with.result (sym c.kind_of.ensures ∙ c.in-Some.is)
    c.in_ok-given-in-Some.ensures c.command_with.ensures

pub returns-in-None-clause-each : goal.returns-in-None-clause-each
returns-in-None-clause-each c = λ command is. none_each _ command (sym c.kind_of.ensures ∙ c.in-None.is) is
