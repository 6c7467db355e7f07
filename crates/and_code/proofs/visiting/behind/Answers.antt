use Rattle.std.proofs.Common.{ℕ, suc, ◌+◌, ◌≡◌, ◌++◌, ◌∷◌, subst, arith}
use Rattle.and_program.specs.Loaded.{program_of, skeleton_of}
use Rattle.and_program.specs.declared.item.ItemNode.TheVariants.{Call}
use Rattle.and_code.specs.Visiting.{LeadsTo, visit_of, visited}
use Rattle.and_code.proofs.Turns.{at_item, body_long}
use Rattle.and_code.proofs.visiting.behind.Goals as goal

pub prove-unreachable-requires : goal.prove-unreachable-requires
prove-unreachable-requires c =
    let long = body_long (program_of c.args.loaded.now) (skeleton_of c.args.loaded.now).nodes c.items-items.result.now (visit_of c.args.visit)
    (Call (record { 0 = 0 })) c.items-items.ensures.body in
    let low = c.requires.low in
    omega arith

pub returns-clause-leads : goal.returns-clause-leads
returns-clause-leads c = λ vs.
    let next : c.args.visit.item + 1 ≡ suc c.args.visit.item = omega arith in
    subst (λ (i : ℕ). LeadsTo (program_of c.args.loaded.now) (at_item c.args.visit i ∷ vs) (visited c.at_call.result ++ vs)) next
    (c.at_call.ensures.leads vs)
