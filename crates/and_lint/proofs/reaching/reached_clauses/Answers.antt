use Rattle.std.proofs.Common.{◌≡◌, ◌∙◌, ◌+◌, suc, ℕ, List, [], false, ap, subst, replicate, length, arith}
use Rattle.std.proofs.lemmas.List.{nil_from_length, length_push}
use Rattle.and_model.specs.Programs.{Program}
use Rattle.and_model.specs.declared.numbers.ClauseNo.{ClauseNo}
use Rattle.and_program.specs.Loaded.{program_of}
use Rattle.and_lint.specs.Marked.{AreBelow}
use Rattle.and_lint.proofs.Marking.{below_popped, marks_first, marks_on, marks_tell}
use Rattle.and_lint.proofs.reaching.reached_clauses.Goals as goal

pub loop-no-init : goal.loop-no-init
loop-no-init c =
    let P : Program = program_of c.args.loaded.now in
    let counted = c.clause_count.ensures.count in
    let long : c.clause_count.result + 1 ≡ suc (length P.clauses) = omega arith in
    marks_first P c.in_ok-marks.marks.items c.reach.new.self.marks.items c.new-work.result.items c.reach.new.self.work.items
    (c.in_ok-marks.ensures ∙ ap (λ (n : ℕ). replicate n false) long) c.new-work.ensures.items c.in_ok-reach.ensures.marked c.in_ok-reach.ensures.grows

pub reach_from-requires : goal.reach_from-requires
reach_from-requires c =
    let m = c.loop-no.invariant in
    let both = below_popped (length c.loop-no.reached.marks.items) c.pop.new.self.items c.in-Some.no
    (subst (λ (ws : List ClauseNo). AreBelow (length c.loop-no.reached.marks.items) ws) c.in-Some.ensures.items m.below) in
    let long = m.long in
    let lt = both.1 in
    record { there = omega arith; long = m.long; even = m.even }

pub loop-no-smaller : goal.loop-no-smaller
loop-no-smaller c =
    let more : length c.loop-no.reached.work.items ≡ length c.pop.new.self.items + 1 =
    ap (λ (ws : List ClauseNo). length ws) c.in-Some.ensures.items ∙ length_push c.pop.new.self.items c.in-Some.no in
    let same = c.in_ok-reach_from.ensures.grows.measure in
    omega arith

pub loop-no-preserved : goal.loop-no-preserved
loop-no-preserved c =
    marks_on (program_of c.args.loaded.now) c.loop-no.reached.marks.items c.reach_from.new.self.marks.items c.loop-no.reached.work.items c.pop.new.self.items
    c.reach_from.new.self.work.items c.in-Some.no c.loop-no.invariant c.in-Some.ensures.items c.in_ok-reach_from.ensures.marked
    c.in_ok-reach_from.ensures.grows c.in_ok-reach_from.ensures.even

pub returns : goal.returns
returns c =
    let empty : c.loop-no.reached.work.items ≡ [] =
    nil_from_length c.loop-no.reached.work.items (let e = c.in_default.ensures.cases.0 in let f = c.loop-no.reached.work.ok.0 in omega arith) in
    marks_tell (program_of c.args.loaded.now) c.loop-no.reached.marks.items c.loop-no.reached.work.items empty c.loop-no.invariant
