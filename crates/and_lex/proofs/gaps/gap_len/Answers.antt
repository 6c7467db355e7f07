use Rattle.std.proofs.Common.{arith, drop, sym, ap, ◌∙◌}
use Rattle.std.proofs.lemmas.List.{take_rest}
use Rattle.and_language.specs.Tokens.{nothing}
use Rattle.and_lex.specs.Scanning.{piece_len}
use Rattle.and_lex.proofs.Separators.{gap_more, separated_where_none}
use Rattle.and_lex.proofs.gaps.gap_len.Goals as goal

pub loop-gap-init : goal.loop-gap-init
loop-gap-init c = (omega arith, nothing c.args.bytes.now)

pub returns-then-step-eq0-clause-behind : goal.returns-then-step-eq0-clause-behind
returns-then-step-eq0-clause-behind c =
    let rest = take_rest c.args.bytes.now c.loop-gap.gap in
    separated_where_none (drop c.loop-gap.gap c.args.bytes.now) (ap piece_len (sym rest) ∙ sym c.separator_len-step.ensures.len ∙ c.if-step-eq0.true)

pub loop-gap-preserved : goal.loop-gap-preserved
loop-gap-preserved c =
    let rest = take_rest c.args.bytes.now c.loop-gap.gap in (
      grind arith,
      gap_more c.args.bytes.now c.loop-gap.gap c.separator_len-step.result c.loop-gap.invariant.0 (c.separator_len-step.ensures.len
          ∙ ap piece_len rest) c.loop-gap.invariant.1,
    )
