use Rattle.std.proofs.Common.{List, ℕ, Bool, refl, sym, ◌∙◌}
use Rattle.std.proofs.lemmas.Result.{IfOk-weaker}
use Rattle.and_proof.specs.Unfolding.{IsUnfolding, IsCalled, ReplacesTo}
use Rattle.and_proof.proofs.Replacing.{none_goes_on}
use Rattle.and_proof.proofs.NextCalls.{is_called}
use Rattle.and_proof.proofs.Stepped.{none_there}
use Rattle.and_proof.proofs.unfolding.replace_next.Goals as goal

pub returns-in_default : goal.returns-in_default
returns-in_default g c = λ cs x rest has.
    none_goes_on g.N.Naming.program c.args.cells.now c.pass_arithmetic.new.goals cs rest c.args.clause.0 (c.in_ok-pass_arithmetic.ensures.unfolding cs x)
    (none_there c.pass_arithmetic.new.goals.ahead.items (sym c.pass_arithmetic.new.goals.ahead.ok.0 ∙ c.in_default.ensures.cases.0)) has

pub replace-requires-clause-called : goal.replace-requires-clause-called
replace-requires-clause-called g c =
    let (cs, x) = c.requires.unfolding in (
      cs,
      is_called g.N.Naming.program c.args.cells.now c.pass_arithmetic.new.goals _ c.in-Some.next cs
          c.in_ok-pass_arithmetic.ensures.at_call c.in-Some.ensures.items refl refl (c.in_ok-pass_arithmetic.ensures.unfolding cs x),
    )

pub returns : goal.returns
returns g c =
    let P = g.N.Naming.program in
    let row = c.args.cells.now in
    let after = c.replace.new.goals in
    IfOk-weaker c.replace.result
    (λ (done : Bool). (cs : List ℕ) → IsCalled P row _ c.in-Some.next cs → ReplacesTo P c.replace.new.cells after c.args.clause.0 cs done)
    (λ (done : Bool). (cs : List ℕ) → IsUnfolding P row c.args.goals.now cs → ReplacesTo P c.replace.new.cells after c.args.clause.0 cs done)
    (λ done f cs x. f cs
    (is_called P row c.pass_arithmetic.new.goals _ c.in-Some.next cs c.in_ok-pass_arithmetic.ensures.at_call c.in-Some.ensures.items refl refl
    (c.in_ok-pass_arithmetic.ensures.unfolding cs x)))
    c.replace.ensures
