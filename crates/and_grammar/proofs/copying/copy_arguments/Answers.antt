use Rattle.std.proofs.Common.{◌∙◌, List, ap, ◌++◌, ◌∷◌, [], get_or, arith}
use Rattle.and_syntax.specs.Written.{Written}
use Rattle.and_drafts.specs.Drafts.{draft_of}
use Rattle.and_drafts.proofs.Telling.{arguments_fall}
use Rattle.and_grammar.specs.Views.{term_at, arguments_at}
use Rattle.and_grammar.proofs.Viewing.{below_all, same_arguments}
use Rattle.and_grammar.proofs.CopyLemmas.{argument_copied, all_copied}
use Rattle.and_grammar.proofs.copying.copy_arguments.Goals as goal

pub copy_term-requires : goal.copy_term-requires
copy_term-requires c =
    below_all c.args.place (draft_of c.args.rule.now).parts c.arguments-argument-items.result.now
    (same_arguments c.args.place c.arguments-argument-items.result.now (arguments_at c.args.rule.now c.args.place) c.arguments-argument-items.ensures
    (arguments_fall c.args.rule.now c.args.place c.requires))
    (omega arith) c.loop-argument.argument-index 0 c.loop-argument-test.true

pub loop-argument-preserved : goal.loop-argument-preserved
loop-argument-preserved c = record {
  line = c.in_ok-copy_term.ensures.line ∙ c.loop-argument.invariant.line;
  same = c.in_ok-copy_term.ensures.finished
      ∙ ap (λ (ws : List Written). ws ++ term_at c.args.rule.now (get_or c.arguments-argument-items.result.now c.loop-argument.argument-index 0) ∷ [])
      c.loop-argument.invariant.same
      ∙ argument_copied (term_at c.args.rule.now) (arguments_at c.args.rule.now c.args.place) c.arguments-argument-items.result.now
      (draft_of c.args.out.now).finished
      c.loop-argument.argument-index c.arguments-argument-items.ensures c.loop-argument-test.true;
}

pub returns : goal.returns
returns c = record {
  line = c.loop-argument.invariant.line;
  finished = c.loop-argument.invariant.same
      ∙ all_copied (term_at c.args.rule.now) (arguments_at c.args.rule.now c.args.place) c.arguments-argument-items.result.now
      (draft_of c.args.out.now).finished
      c.loop-argument.argument-index c.arguments-argument-items.ensures (omega arith);
}
