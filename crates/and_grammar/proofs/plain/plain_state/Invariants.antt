use Rattle.std.proofs.Common.{ℕ, ◌<◌, true}
use Rattle.and_drafts.specs.Drafts.{draft_of}
use Rattle.and_syntax.specs.Written.{nodes_of}
use Rattle.and_grammar.specs.Views.{term_at, body_at}
use Rattle.and_grammar.specs.Plain.{Advances}
use Rattle.and_grammar.proofs.plain.plain_state.Given as goal

abbrev pub invariant-spine : goal.invariant-spine
invariant-spine l = record {
  there : l.place < (draft_of l.rule).parts;
  rest : (k : ℕ) → Advances (body_at l.rule l.place) l.first l.state k → Advances (body_at l.rule l.body) true 0 k;
}

abbrev pub decreases-spine : goal.decreases-spine
decreases-spine l = nodes_of (term_at l.rule l.place)
