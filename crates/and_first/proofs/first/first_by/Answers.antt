use Rattle.std.proofs.Common.{Ok, arith}
use Rattle.std.proofs.lemmas.Result.{IfOk-weaker}
use Rattle.and_program.specs.Loaded.{program_of}
use Rattle.and_first.specs.First.{IsFirstOf}
use Rattle.and_first.specs.Steps.{first_entries}
use Rattle.and_first.specs.Telling.{Tells}
use Rattle.and_first.proofs.StepLemmas.{step_within}
use Rattle.and_first.proofs.FoundLemmas.{begun, goes_on, finished}
use Rattle.and_first.proofs.first.first_by.Goals as goal

pub steps-init : goal.steps-init
steps-init g c =
    let step = c.first_step-step in
    begun (program_of c.args.program.value) c.args.limit c.args.count step.result step.ensures.is_step step.ensures.least

pub returns-in-Some : goal.returns-in-Some
returns-in-Some g c =
    let P = program_of c.args.program.value in
    let found = c.in_ok-found.found in
    let within = step_within c.args.limit c.steps.step c.steps.invariant.is_step in
    let finds = c.requires.finds c.steps.step (Ok found) (omega (arith, within, c.requires.limit)) c.in_ok-found.ensures in
    IfOk-weaker c.told.result (Tells (first_entries found c.args.count) c.args.count c.in-Some.end) (IsFirstOf P c.args.limit c.args.count)
    (λ first tells. finished P c.args.limit c.args.count c.steps.step found c.steps.invariant finds c.in-Some.end first c.in-Some.ensures tells)
    c.told.ensures

pub steps-preserved : goal.steps-preserved
steps-preserved g c =
    let P = program_of c.args.program.value in
    let found = c.in_ok-found.found in
    let within = step_within c.args.limit c.steps.step c.steps.invariant.is_step in
    let finds = c.requires.finds c.steps.step (Ok found) (omega (arith, within, c.requires.limit)) c.in_ok-found.ensures in
    goes_on P c.args.limit c.args.count c.steps.step found c.steps.invariant finds c.step_after-step.result c.in_default.ensures.0
    c.step_after-step.ensures
