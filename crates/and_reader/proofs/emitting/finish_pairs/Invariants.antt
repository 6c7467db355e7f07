use Rattle.std.proofs.Common.{◌≡◌, ◌+◌, List, ◌∷◌, ◌++◌, length}
use Rattle.and_syntax.specs.Written.{Written}
use Rattle.and_drafts.specs.Drafts.{draft_of}
use Rattle.and_reader.specs.Standing.{terms}
use Rattle.and_reader.specs.Answered.{paired}
use Rattle.and_reader.proofs.emitting.finish_pairs.Given as goal

abbrev pub invariant-loop-time : goal.invariant-loop-time
invariant-loop-time l = record {
  finished : (w : Written) (ws rest : List Written) → terms l.initial.draft ≡ w ∷ (ws ++ rest) → length ws ≡ l.times
      → (v : Written) × (us : List Written) × (terms l.draft ≡ v ∷ (us ++ rest)) × (length us + l._time ≡ l.times) × (paired l.name us v ≡ paired l.name ws w);
  line : (draft_of l.draft).line ≡ (draft_of l.initial.draft).line;
}
