use Rattle.std.proofs.Common.{◌≡◌, ◌+◌, ◌-◌, ◌<◌, ◌≤◌, List, ℕ, Bool, false, length, sym, ◌∙◌, subst, arith}
use Rattle.std.proofs.lemmas.Result.{IfOk-weaker}
use Rattle.and_model.specs.Programs.{call, is_of, clause_at, clause_weight}
use Rattle.and_model.specs.Stands.{term_of}
use Rattle.and_model.specs.declared.limits.TheConstants.{MAX_LIMIT}
use Rattle.and_cells.specs.Ranges.{NamedProgram, IsGoalInRange}
use Rattle.and_branch_laws.specs.Kept.{item_at}
use Rattle.and_branch_laws.proofs.Loading.{loaded_is}
use Rattle.and_proof.specs.Unfolding.{IsCalled, Enters, ReplacesTo}
use Rattle.and_proof.proofs.Replacing.{next_can, other_predicate, too_heavy}
use Rattle.and_proof.proofs.NextCalls.{enters}
use Rattle.and_proof.proofs.unfolding.replace.Goals as goal

pub can_replace-requires-clause-in_range : goal.can_replace-requires-clause-in_range
can_replace-requires-clause-in_range g c =
    let P = g.N.Naming.program in
    let k = c.skeleton_is_of_the_program.ensures in
    let facts = loaded_is P c.args.loaded.now c.requires.program k.skeleton k.own_variables k.few in
    let row = c.args.cells.now in
    let rest = c.args.goals.now.ahead.items in
    let next = c.args.next in
    let (cs, x) = c.requires.called in
    let can = next_can P facts row x.before cs rest next x.term x.unfolded x.ahead x.is_call in
    (length row, subst (λ (Q : NamedProgram). IsGoalInRange Q (length row) next.goal) c.requires.program can.in_range)

pub can_replace-requires-clause-call : goal.can_replace-requires-clause-call
can_replace-requires-clause-call g c =
    let x = c.requires.called.1 in
    (x.term, subst (λ (Q : NamedProgram). item_at Q.program c.args.next.goal ≡ call x.term) c.requires.program x.is_call)

pub returns-then-not-can_replace : goal.returns-then-not-can_replace
returns-then-not-can_replace g c = λ cs x others has.
    let P = g.N.Naming.program in
    let k = c.skeleton_is_of_the_program.ensures in
    let facts = loaded_is P c.args.loaded.now c.requires.program k.skeleton k.own_variables k.few in
    let row = c.args.cells.now in
    let rest = c.args.goals.now.ahead.items in
    let next = c.args.next in
    let other : is_of P.program (term_of P.program next.goal) c.args.clause.0 ≡ false =
    subst (λ (Q : NamedProgram). is_of Q.program (term_of Q.program next.goal) c.args.clause.0 ≡ false) (sym c.requires.program)
    (sym c.can_replace.ensures ∙ c.if-not-can_replace.true) in
    other_predicate P facts row x.before cs rest next x.term x.unfolded x.ahead x.is_call c.args.clause.0 others other has

pub returns-then-weight-len : goal.returns-then-weight-len
returns-then-weight-len g c = λ cs x others has.
    let P = g.N.Naming.program in
    let k = c.skeleton_is_of_the_program.ensures in
    let facts = loaded_is P c.args.loaded.now c.requires.program k.skeleton k.own_variables k.few in
    let row = c.args.cells.now in
    let rest = c.args.goals.now.ahead.items in
    let next = c.args.next in
    let weighs : c.weight.result ≡ clause_weight (clause_at P.program c.args.clause.0) =
    subst (λ (Q : NamedProgram). c.weight.result ≡ clause_weight (clause_at Q.program c.args.clause.0)) (sym c.requires.program) c.weight.ensures in
    let long = c.len.ensures.value in
    let heavy : MAX_LIMIT < length row + clause_weight (clause_at P.program c.args.clause.0) = omega (arith, c.if-weight-len.true, weighs, long) in
    too_heavy P facts row x.before cs rest next x.term x.unfolded x.ahead x.is_call c.args.clause.0 others heavy has

pub enter-requires-clause-enters : goal.enter-requires-clause-enters
enter-requires-clause-enters g c =
    let (cs, x) = c.requires.called in
    let long = c.len.ensures.value in
    let low : c.weight.result ≤ MAX_LIMIT - length c.args.cells.now = omega (arith, c.if-weight-len.false, long) in (
      cs,
      enters c.args.loaded.now g.N.Naming.program c.args.cells.now c.args.goals.now c.args.next c.args.clause.0 cs c.requires.program
          (sym c.can_replace.ensures ∙ c.if-not-can_replace.false) c.weight.result c.weight.ensures low x,
    )

pub returns : goal.returns
returns g c =
    let P = g.N.Naming.program in
    let row = c.args.cells.now in
    let old = c.args.goals.now in
    let next = c.args.next in
    let clause = c.args.clause.0 in
    let long = c.len.ensures.value in
    let low : c.weight.result ≤ MAX_LIMIT - length row = omega (arith, c.if-weight-len.false, long) in
    IfOk-weaker c.enter.result
    (λ (done : Bool). (cs : List ℕ) → Enters P row old next clause cs → ReplacesTo P c.enter.new.cells c.enter.new.goals clause cs done)
    (λ (done : Bool). (cs : List ℕ) → IsCalled P row old next cs → ReplacesTo P c.enter.new.cells c.enter.new.goals clause cs done)
    (λ done f cs x. f cs
    (enters c.args.loaded.now P row old next clause cs c.requires.program
    (sym c.can_replace.ensures ∙ c.if-not-can_replace.false) c.weight.result c.weight.ensures low x))
    c.enter.ensures
