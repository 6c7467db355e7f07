use Rattle.std.specs.Prelude.{IfSome}
use Rattle.and_model.specs.Prefixes.{IsPrefix}
use Rattle.and_program.specs.Loaded.{program_of}
use Rattle.and_code.specs.Places.{AreLinks}
use Rattle.and_code.specs.Telling.{IsToldTo}
use Rattle.and_code.specs.Visiting.{waiting, turns_left}
use Rattle.and_code.specs.Written.{all_written}
use Rattle.and_code.proofs.telling.tell.Given as goal

abbrev pub invariant-loop-next : goal.invariant-loop-next
invariant-loop-next l = record {
  links : IfSome l.links (AreLinks l.reductions);
  told : IsToldTo (program_of l.loaded) (all_written l.reductions) (waiting l.visits.items l.next) l.code;
  begins : IsPrefix l.initial.code l.code;
}

abbrev pub decreases-loop-next : goal.decreases-loop-next
decreases-loop-next l = turns_left (all_written l.reductions) (waiting l.visits.items l.next)
