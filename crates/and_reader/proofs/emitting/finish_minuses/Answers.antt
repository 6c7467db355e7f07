use Rattle.std.proofs.Common.{[], ◌∷◌, length, refl, ap, ◌∙◌, arith}
use Rattle.and_syntax.specs.Written.{Written}
use Rattle.and_automaton.specs.Machine.{negated}
use Rattle.and_reader.specs.Standing.{terms}
use Rattle.and_reader.proofs.TermLemmas.{one_first, negated_out}
use Rattle.and_reader.proofs.emitting.finish_minuses.Goals as goal

pub finish-requires : goal.finish-requires
finish-requires c =
    let p = one_first (terms c.args.draft.now) c.requires in
    let t = c.loop-time.invariant.finished p.0 p.1 p.2 in
    omega (arith, ap length t)

pub loop-time-preserved : goal.loop-time-preserved
loop-time-preserved c = record {
  finished = λ w rest e.
      c.in_ok-finish.ensures.ok (negated c.loop-time._time w ∷ []) rest (c.loop-time.invariant.finished w rest e) refl
      ∙ ap (λ (v : Written). v ∷ rest) (negated_out c.loop-time._time w);
  line = c.in_ok-finish.ensures.line ∙ c.loop-time.invariant.line;
}
