use Rattle.std.proofs.Common.{◌+◌, ◌<◌, ◌≤◌, ◌∷◌, [], length, sym, ◌∙◌, arith}
use Rattle.std.proofs.lemmas.List.Elements.{All-nil, All-cons}
use Rattle.and_model.specs.Programs.{clause_at}
use Rattle.and_program.specs.Loaded.{program_of, skeleton_of}
use Rattle.and_program.specs.declared.item.ItemNode.TheVariants.{Call}
use Rattle.and_code.specs.Visiting.{IsAtCall, visit_of}
use Rattle.and_code.proofs.Turns.{at_item, body_long, call_here, no_call_here, leads_nowhere, leads_on, body_ended, item_passed}
use Rattle.and_code.proofs.visiting.at_call.Goals as goal

pub loop-item-init : goal.loop-item-init
loop-item-init c = λ vs. leads_nowhere (program_of c.args._loaded.now) (visit_of c.args.visit ∷ vs)

pub loop-item-preserved : goal.loop-item-preserved
loop-item-preserved c = λ vs.
    let P = program_of c.args._loaded.now in
    let ss = (skeleton_of c.args._loaded.now).nodes in
    let items = c.args.items.now in
    let v = c.args.visit in
    let i = c.loop-item.item in
    let d = Call (record { 0 = 0 }) in
    let body = c.requires.body in
    let long = body_long P ss items (at_item v i) d body in
    let low : i < length (clause_at P v.clause.0).body = omega arith in
    let none = no_call_here P ss items (at_item v i) d body (let l : i < length items = omega arith in l)
    (sym c.is_call.ensures ∙ c.if-is_call.false) in
    leads_on P (visit_of v ∷ vs) (at_item v i ∷ vs) (at_item v (i + 1) ∷ vs) (c.loop-item.invariant vs) (item_passed P v i vs low none)

pub returns-then-is_call-clause-calls : goal.returns-then-is_call-clause-calls
returns-then-is_call-clause-calls c =
    let P = program_of c.args._loaded.now in
    let ss = (skeleton_of c.args._loaded.now).nodes in
    let items = c.args.items.now in
    let v = at_item c.args.visit c.loop-item.item in
    let low : c.loop-item.item < length items = omega arith in
    All-cons (IsAtCall P) v []
    (call_here P ss items v (Call (record { 0 = 0 })) c.requires.body c.requires.named low (sym c.is_call.ensures ∙ c.if-is_call.true))
    (All-nil (IsAtCall P))

pub returns-then-is_call-clause-leads : goal.returns-then-is_call-clause-leads
returns-then-is_call-clause-leads c = c.loop-item.invariant

pub returns-clause-leads : goal.returns-clause-leads
returns-clause-leads c = λ vs.
    let P = program_of c.args._loaded.now in
    let ss = (skeleton_of c.args._loaded.now).nodes in
    let items = c.args.items.now in
    let v = c.args.visit in
    let i = c.loop-item.item in
    let long = body_long P ss items (at_item v i) (Call (record { 0 = 0 })) c.requires.body in
    let high : length (clause_at P v.clause.0).body ≤ i = omega arith in
    leads_on P (visit_of v ∷ vs) (at_item v i ∷ vs) vs (c.loop-item.invariant vs) (body_ended P (at_item v i) vs high)
