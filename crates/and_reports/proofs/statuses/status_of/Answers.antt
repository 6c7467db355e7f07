use Rattle.std.proofs.Common.{Bool, if◌then◌else◌, sym, ap, ◌∙◌, arith}
use Rattle.std.proofs.lemmas.Bool.Decides.{nat_tests}
use Rattle.and_status.specs.declared.status.Status.TheVariants.{Answers, Floundered}
use Rattle.and_reports.proofs.StatusLemmas.{status_is}
use Rattle.and_reports.proofs.statuses.status_of.Goals as goal

pub returns-then-are_floundered : goal.returns-then-are_floundered
returns-then-are_floundered c =
    ap (λ (b : Bool). if b then Floundered else Answers) (sym c.if-are_floundered.true)
    ∙ status_is c.args.found.now.cut c.entries-entries.result.now _ c.are_floundered.result (sym c.is_some.ensures ∙ c.if-is_some.false)
    (grind (arith, nat_tests)) c.entries-entries.ensures c.are_floundered.ensures

pub returns-else-are_floundered : goal.returns-else-are_floundered
returns-else-are_floundered c =
    ap (λ (b : Bool). if b then Floundered else Answers) (sym c.if-are_floundered.false)
    ∙ status_is c.args.found.now.cut c.entries-entries.result.now _ c.are_floundered.result (sym c.is_some.ensures ∙ c.if-is_some.false)
    (grind (arith, nat_tests)) c.entries-entries.ensures c.are_floundered.ensures
