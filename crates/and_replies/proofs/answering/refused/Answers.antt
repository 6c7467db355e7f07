use Rattle.std.proofs.Common.{sym, ◌∙◌}
use Rattle.and_reader.specs.Causes.{refusal_of}
use Rattle.and_replies.proofs.TopLemmas.{has_line}
use Rattle.and_replies.proofs.answering.refused.Goals as goal

pub returns-clause-text : goal.returns-clause-text
returns-clause-text c =
    has_line (refusal_of c.args.refusal) c.in_ok-refusal_text.field-0 c.in_ok-refusal_text.ensures (sym c.is_memory.ensures ∙ c.if-is_memory.false)
