use Rattle.std.proofs.Common.{◌≡◌, List, ◌∷◌}
use Rattle.and_syntax.specs.Written.{Written}
use Rattle.and_automaton.specs.Machine.{negated}
use Rattle.and_drafts.specs.Drafts.{draft_of}
use Rattle.and_reader.specs.Standing.{terms}
use Rattle.and_reader.proofs.emitting.finish_minuses.Given as goal

abbrev pub invariant-loop-time : goal.invariant-loop-time
invariant-loop-time l = record {
  finished : (w : Written) (rest : List Written) → terms l.initial.draft ≡ w ∷ rest → terms l.draft ≡ negated l._time w ∷ rest;
  line : (draft_of l.draft).line ≡ (draft_of l.initial.draft).line;
}
