use Rattle.std.proofs.Common.{arith}
use Rattle.and_reader.specs.Standing.{waiting}
use Rattle.and_reader.proofs.TermLemmas.{on_ok}
use Rattle.and_reader.proofs.parser.Parser.finish_pending.Goals as goal

pub returns-clause-ok : goal.returns-clause-ok
returns-clause-ok c l fs p w s =
    on_ok c.finish_relation.result
    (λ t. record {
      part = s.part;
      alternatives = s.alternatives;
      before = s.before;
      frames = s.frames;
      opened = s.opened;
      nesting = omega (arith, s.nesting);
      finished = t;
    })
    (c.finish_relation.ensures.ok p w (waiting l fs) s.pending s.finished)
