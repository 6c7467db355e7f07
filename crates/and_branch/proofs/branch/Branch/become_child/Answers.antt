use Rattle.std.proofs.Common.{ap}
use Rattle.and_branch_parts.specs.Branches.{Held}
use Rattle.and_branch_parts.proofs.ForkReduced.{begun_again, begun_has, begun_next, begun_made}
use Rattle.and_branch_parts.proofs.KeptOrigins.{kept_same, kept_then}
use Rattle.and_branch.proofs.branch.Branch.become_child.Goals as goal

pub seek-requires : goal.seek-requires
seek-requires g c =
    let P = g.N.Naming.program in
    let (f, again) = c.requires.again in
    let keyed = c.end_key.new.self in
    let begun = begun_again P f c.args.clause.0 c.args.goal c.args.decided c.args.self.now again keyed c.in_ok-end_key.ensures in
    record { there = begun_has P f c.args.clause.0 c.args.goal keyed begun }

pub reduce_next-requires-clause-next : goal.reduce_next-requires-clause-next
reduce_next-requires-clause-next g c =
    let P = g.N.Naming.program in
    let (f, again) = c.requires.again in
    let keyed = c.end_key.new.self in
    let begun = begun_again P f c.args.clause.0 c.args.goal c.args.decided c.args.self.now again keyed c.in_ok-end_key.ensures in
    begun_next P f c.args.clause.0 c.args.goal keyed begun c.seek.new.self c.in_ok-seek.ensures.moved c.in_ok-seek.ensures.found

pub returns-clause-made : goal.returns-clause-made
returns-clause-made g c = λ f again.
    let P = g.N.Naming.program in
    let keyed = c.end_key.new.self in
    let begun = begun_again P f c.args.clause.0 c.args.goal c.args.decided c.args.self.now again keyed c.in_ok-end_key.ensures in
    begun_made P f c.args.clause.0 c.args.goal keyed begun c.seek.new.self c.in_ok-seek.ensures.moved c.in_ok-seek.ensures.found
    c.reduce_next.new.self c.in_ok-reduce_next.ensures.same c.in_ok-reduce_next.ensures.reduced

pub returns-clause-back : goal.returns-clause-back
returns-clause-back g c =
    let old = c.args.self.now in
    let keyed = c.end_key.new.self in
    let is = c.in_ok-end_key.ensures in
    let same = kept_same old keyed (ap (λ (h : Held). h.row) is) (ap (λ (h : Held). h.reductions) is) (ap (λ (h : Held). h.trail) is) in
    kept_then old keyed c.reduce_next.new.self same
    (kept_then keyed c.seek.new.self c.reduce_next.new.self c.in_ok-seek.ensures.moved.back c.in_ok-reduce_next.ensures.back)
