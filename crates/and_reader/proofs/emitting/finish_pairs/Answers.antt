use Rattle.std.proofs.Common.{length, ap, ◌∙◌, arith}
use Rattle.std.proofs.lemmas.List.{length-append}
use Rattle.and_reader.specs.Standing.{terms}
use Rattle.and_reader.proofs.TermLemmas.{some_first, pairs_step, pairs_end}
use Rattle.and_reader.proofs.emitting.finish_pairs.Goals as goal

pub finish-requires : goal.finish-requires
finish-requires c =
    let p = some_first c.args.times (terms c.args.draft.now) c.requires in
    let q = c.loop-time.invariant.finished p.0 p.1 p.2 p.3 p.4 in
    omega (arith, ap length q.2, length-append q.1 p.2, q.3)

pub loop-time-preserved : goal.loop-time-preserved
loop-time-preserved c = record {
  finished = λ w ws rest e n.
      let q = c.loop-time.invariant.finished w ws rest e n in
      pairs_step c.args.name.now c.args.times c.loop-time._time (terms c.loop-time.draft) (terms c.finish.new.draft) ws rest q.1 w q.0 (omega arith) q.2 q.3
      q.4 c.in_ok-finish.ensures.ok;
  line = c.in_ok-finish.ensures.line ∙ c.loop-time.invariant.line;
}

pub returns-clause-ok : goal.returns-clause-ok
returns-clause-ok c w ws rest e n =
    let q = c.loop-time.invariant.finished w ws rest e n in
    pairs_end c.args.name.now c.args.times c.loop-time._time (terms c.loop-time.draft) ws rest q.1 w q.0 (omega arith) q.2 q.3 q.4
