use Rattle.std.proofs.Common.{◌≡◌, ◌++◌, map, take}
use Rattle.and_drafts.specs.Drafts.{draft_of}
use Rattle.and_grammar.specs.Views.{term_at, arguments_at}
use Rattle.and_grammar.proofs.copying.copy_arguments.Given as goal

abbrev pub invariant-loop-argument : goal.invariant-loop-argument
invariant-loop-argument l = record {
  line : (draft_of l.out).line ≡ (draft_of l.fn.out).line;
  same : (draft_of l.out).finished ≡ (draft_of l.fn.out).finished ++ map (term_at l.rule) (take l.argument-index (arguments_at l.rule l.place));
}
