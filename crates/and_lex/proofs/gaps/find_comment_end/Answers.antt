use Rattle.std.proofs.Common.{sym, ap, ◌∙◌}
use Rattle.std.proofs.lemmas.List.{take_rest}
use Rattle.and_lex.specs.Scanning.{ends_comment}
use Rattle.and_lex.proofs.Separators.{comment_more}
use Rattle.and_lex.proofs.gaps.find_comment_end.Goals as goal

pub loop-index-preserved : goal.loop-index-preserved
loop-index-preserved c =
    let rest = take_rest c.args.bytes.now c.loop-index.index in
    sym (comment_more c.args.bytes.now c.loop-index.index c.loop-index-test.true (ap ends_comment (sym rest) ∙ sym c.is_comment_end.ensures.end
    ∙ c.if-is_comment_end.false)) ∙ c.loop-index.invariant
