use Rattle.std.proofs.Common.{ℕ, Option, IfSome, arith, subst, true}
use Rattle.and_grammar.specs.declared.bodies.BodyPart.{BodyPart}
use Rattle.and_grammar.specs.declared.bodies.BodyPart.TheVariants.{Both}
use Rattle.and_grammar.specs.Views.{body_at, IsBody}
use Rattle.and_grammar.specs.Plain.{Advances}
use Rattle.and_grammar.proofs.PlainLemmas.{both_advance, if_some}
use Rattle.and_grammar.proofs.plain.plain_state.Goals as goal

pub spine-init : goal.spine-init
spine-init c = record { there = c.requires; rest = λ k h. h }

pub spine-preserved : goal.spine-preserved
spine-preserved c =
    let d = c.args.rule.now in
    let p : IsBody d c.spine.place (Both c.in-Both.left c.in-Both.right) (body_at d c.spine.place) =
    subst (λ (x : BodyPart). IsBody d c.spine.place x (body_at d c.spine.place)) c.in-Both.is c.body_part-part.ensures in
    let one : Advances (body_at d c.in-Both.left) c.spine.first c.spine.state c.in-Some.next =
    subst (λ (o : Option ℕ). IfSome o (Advances (body_at d c.in-Both.left) c.spine.first c.spine.state)) c.in-Some.is c.state_after-in-spine.ensures in
    record {
      there = omega (arith, c.spine.invariant.there, p.1.right);
      rest = λ k h. c.spine.invariant.rest k
          (both_advance (body_at d c.spine.place) (body_at d c.in-Both.left) (body_at d c.in-Both.right) c.spine.first c.spine.state
          c.in-Some.next k p.0 one h);
    }

pub spine-smaller : goal.spine-smaller
spine-smaller c =
    let d = c.args.rule.now in
    let p : IsBody d c.spine.place (Both c.in-Both.left c.in-Both.right) (body_at d c.spine.place) =
    subst (λ (x : BodyPart). IsBody d c.spine.place x (body_at d c.spine.place)) c.in-Both.is c.body_part-part.ensures in
    omega (arith, p.1.smaller)

pub returns-in_default : goal.returns-in_default
returns-in_default c =
    let b = body_at c.args.rule.now c.args.body in
    if_some c.state_after.result (Advances (body_at c.args.rule.now c.spine.place) c.spine.first c.spine.state) (Advances b true 0) c.spine.invariant.rest
    c.state_after.ensures
