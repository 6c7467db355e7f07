use Rattle.std.proofs.Common.{[], refl}
use Rattle.and_reader.specs.Standing.{waiting, with_lefts}
use Rattle.and_reader.proofs.parser.Parser.put_atom.Goals as goal

pub returns-clause-ok : goal.returns-clause-ok
returns-clause-ok c l fs p s = (
  refl,
  record {
    part = s.part;
    alternatives = s.alternatives;
    before = s.before;
    frames = s.frames;
    pending = s.pending;
    opened = s.opened;
    nesting = s.nesting;
    finished = c.in_ok-finish.ensures.ok [] (with_lefts p (waiting l fs)) s.finished refl;
  },
)
