use Rattle.std.proofs.Common.{[], arith}
use Rattle.std.proofs.lemmas.List.{nil_from_length}
use Rattle.and_answers.specs.Pieces.{last_from}
use Rattle.and_answers.proofs.CutLemmas.{last_taken, one_cut, last_rises, all_cut}
use Rattle.and_answers.proofs.cutting.runs_of.Goals as goal

pub put_before-requires : goal.put_before-requires
put_before-requires c =
    let taken = last_taken c.args.entries.now.items c.cutting.entries.items c.pop.new.self.items c.cutting.pieces.items c.pop-in-Some.new.self.items
    c.cutting.tails.items c.cutting.runs.items c.in-Some.entry c.in-Some-pop.piece c.tail_of.result c.in-Some.ensures.items
    c.in-Some-pop.ensures.items c.tail_of.ensures.entry c.tail_of.ensures.common c.tail_of.ensures.rest c.cutting.invariant in
    (last_from [] c.pop-in-Some.new.self.items, taken.put, taken.rises)

pub cutting-preserved : goal.cutting-preserved
cutting-preserved c =
    let taken = last_taken c.args.entries.now.items c.cutting.entries.items c.pop.new.self.items c.cutting.pieces.items c.pop-in-Some.new.self.items
    c.cutting.tails.items c.cutting.runs.items c.in-Some.entry c.in-Some-pop.piece c.tail_of.result c.in-Some.ensures.items
    c.in-Some-pop.ensures.items c.tail_of.ensures.entry c.tail_of.ensures.common c.tail_of.ensures.rest c.cutting.invariant in
    one_cut c.args.entries.now.items c.pop.new.self.items c.pop-in-Some.new.self.items c.cutting.tails.items c.in_ok-tails.tails.items
    c.cutting.runs.items c.put_before.new.runs.items c.in-Some.entry c.tail_of.result taken c.in_ok-tails.ensures.rises c.in_ok-tails.ensures.same

pub invariant_of-push : goal.invariant_of-push
invariant_of-push c =
    let none = nil_from_length c.cutting.entries.items (omega (arith, c.cutting.entries.ok.0, c.in_default.ensures.cases.0)) in
    last_rises c.args.entries.now.items c.cutting.entries.items c.cutting.pieces.items c.cutting.tails.items c.cutting.runs.items none
    c.cutting.invariant

pub returns-clause-same : goal.returns-clause-same
returns-clause-same c =
    let none = nil_from_length c.cutting.entries.items (omega (arith, c.cutting.entries.ok.0, c.in_default.ensures.cases.0)) in
    all_cut c.args.entries.now.items c.cutting.entries.items c.cutting.pieces.items c.cutting.tails.items c.cutting.runs.items
    c.push.new.self.items none c.in_ok-push.ensures.items c.cutting.invariant
