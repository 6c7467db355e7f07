use Rattle.std.proofs.Common.{ℕ, ◌≡◌, ◌<◌, ◌≤◌, ◌+◌, true, false, Option, length, sym, subst, arith, rules, IfSome}
use Rattle.std.proofs.lemmas.List.{length-map}
use Rattle.and_syntax.specs.Written.{nodes_of}
use Rattle.and_syntax.specs.Clauses.{is_refused, alternatives_of, disjunctions_of}
use Rattle.and_program.specs.Nodes.{names_of}
use Rattle.and_drafts.specs.Parts.{part_shape, part_shapes, written_at}
use Rattle.and_judging.specs.Bodies.{Made, made_of, marks_at, body_parts, IsPart}
use Rattle.and_judging.specs.Sorts.{TokensThere}
use Rattle.and_judging.proofs.BodySteps.{Owed, owed_step, refused_step}
use Rattle.and_judging.proofs.BodyLoop.{first_owed, first_there, first_work, last_is_part, step_left, says_of}
use Rattle.and_judging.proofs.MadeTokens.{step_there}
use Rattle.and_judging.proofs.body.body_of.Goals as goal

pub loop-next-init : goal.loop-next-init
loop-next-init c =
    let ps = part_shapes c.args.parts.now in
    let m : Made = record { tokens = c.new.result.items; clause = c.args.clause; disjunction = c.args.disjunction } in
    let lt : c.in-Some.part < length c.args.parts.now = subst (λ (o : Option ℕ). IfSome o (λ n. n < length c.args.parts.now)) c.in-Some.is c.requires.there in
    let few : nodes_of (written_at ps c.in-Some.part) ≤ length c.args.parts.now =
    subst (λ (o : Option ℕ). IfSome o (λ n. nodes_of (written_at ps n) ≤ length c.args.parts.now)) c.in-Some.is c.requires.small in
    let work = first_work ps c.in-Some.part (length c.args.parts.now) c.new-pending.result.items c.push.new.self.items c.new-pending.ensures.items
    c.in_ok-push.ensures.items few in
    record {
      owed = λ ss r. subst (λ (o : Option ℕ). Owed ss 0 m c.push.new.self.items (marks_at c.args.clause c.args.disjunction (body_parts ss o))
          (is_refused (body_parts ss o))
          (c.args.clause + alternatives_of (body_parts ss o)) (c.args.disjunction + disjunctions_of (body_parts ss o))) (sym c.in-Some.is)
          (first_owed ss c.in-Some.part c.args.clause c.args.disjunction c.new.result.items c.new-pending.result.items c.push.new.self.items
          c.new.ensures.items c.new-pending.ensures.items
          c.in_ok-push.ensures.items);
      there = first_there (length ps) c.in-Some.part c.new-pending.result.items c.push.new.self.items c.new-pending.ensures.items c.in_ok-push.ensures.items
          (omega (arith, lt, length-map c.args.parts.now part_shape));
      tokens = subst (TokensThere (length c.args.parts.now)) (sym c.new.ensures.items) tt;
      clauses = omega (arith, work);
      disjunctions = omega (arith, work);
    }

pub take_pending-requires-clause-there : goal.take_pending-requires-clause-there
take_pending-requires-clause-there c =
    subst (λ (k : ℕ). IsPart k c.in-Some-pop.next) (length-map c.args.parts.now part_shape)
    (last_is_part (length (part_shapes c.args.parts.now)) c.loop-next.pending.items c.pop.new.self.items c.in-Some-pop.next c.in-Some-pop.ensures.items
    c.loop-next.invariant.there)

pub returns-then-not-branch-clause-body : goal.returns-then-not-branch-clause-body
returns-then-not-branch-clause-body c = λ ss r.
    let ps = part_shapes c.args.parts.now in
    let names = names_of c.args.names.now.keys in
    let qs = body_parts ss c.args.part in
    let no : c.in_ok-take_pending.field-0 ≡ false = search rules in
    let at = last_is_part (length ps) c.loop-next.pending.items c.pop.new.self.items c.in-Some-pop.next c.in-Some-pop.ensures.items
    c.loop-next.invariant.there in
    refused_step ss 0 (marks_at c.args.clause c.args.disjunction qs) (is_refused qs) (c.args.clause + alternatives_of qs)
    (c.args.disjunction + disjunctions_of qs)
    names ps (made_of c.loop-next.body) (made_of c.take_pending.new.body) c.in-Some-pop.next c.in_ok-take_pending.field-0 c.loop-next.pending.items
    c.pop.new.self.items
    c.take_pending.new.pending.items (says_of ss names c.args.parts.now c.in-Some-pop.next r c.requires.falls at) c.in-Some-pop.ensures.items
    c.in_ok-take_pending.ensures no
    (c.loop-next.invariant.owed ss r)

pub loop-next-smaller : goal.loop-next-smaller
loop-next-smaller c =
    let yes : c.in_ok-take_pending.field-0 ≡ true = search rules in
    (step_left (names_of c.args.names.now.keys) c.args.parts.now 0 c.requires.falls (made_of c.loop-next.body) (made_of c.take_pending.new.body)
    c.loop-next.pending.items c.pop.new.self.items
    c.take_pending.new.pending.items c.in-Some-pop.next c.in_ok-take_pending.field-0 c.in-Some-pop.ensures.items c.loop-next.invariant.there
    c.in_ok-take_pending.ensures yes).less

pub loop-next-preserved : goal.loop-next-preserved
loop-next-preserved c =
    let ps = part_shapes c.args.parts.now in
    let names = names_of c.args.names.now.keys in
    let yes : c.in_ok-take_pending.field-0 ≡ true = search rules in
    let at = last_is_part (length ps) c.loop-next.pending.items c.pop.new.self.items c.in-Some-pop.next c.in-Some-pop.ensures.items
    c.loop-next.invariant.there in
    let left = step_left names c.args.parts.now 0 c.requires.falls (made_of c.loop-next.body) (made_of c.take_pending.new.body) c.loop-next.pending.items
    c.pop.new.self.items
    c.take_pending.new.pending.items c.in-Some-pop.next c.in_ok-take_pending.field-0 c.in-Some-pop.ensures.items c.loop-next.invariant.there
    c.in_ok-take_pending.ensures yes in
    record {
      owed = λ ss r. let qs = body_parts ss c.args.part in
          owed_step ss 0 (marks_at c.args.clause c.args.disjunction qs) (is_refused qs) (c.args.clause + alternatives_of qs)
          (c.args.disjunction + disjunctions_of qs)
          names ps (made_of c.loop-next.body) (made_of c.take_pending.new.body) c.in-Some-pop.next c.in_ok-take_pending.field-0 c.loop-next.pending.items
          c.pop.new.self.items
          c.take_pending.new.pending.items (says_of ss names c.args.parts.now c.in-Some-pop.next r c.requires.falls at) c.in-Some-pop.ensures.items
          c.in_ok-take_pending.ensures yes
          (c.loop-next.invariant.owed ss r);
      there = left.there;
      tokens = step_there names c.args.parts.now c.requires.falls (made_of c.loop-next.body) (made_of c.take_pending.new.body) c.pop.new.self.items
          c.take_pending.new.pending.items
          c.in-Some-pop.next c.in_ok-take_pending.field-0 (subst (λ (k : ℕ). IsPart k c.in-Some-pop.next) (length-map c.args.parts.now part_shape) at)
          c.in_ok-take_pending.ensures yes
          c.loop-next.invariant.tokens;
      clauses = omega (arith, left.clauses, c.loop-next.invariant.clauses);
      disjunctions = omega (arith, left.disjunctions, c.loop-next.invariant.disjunctions);
    }
