use Rattle.std.proofs.Common.{length, map, ap, sym, ◌∙◌}
use Rattle.std.proofs.lemmas.List.{length-map}
use Rattle.and_syntax.specs.Written.{compound}
use Rattle.and_translation.specs.Translation.{state}
use Rattle.and_grammar.specs.Views.{term_at, arguments_at}
use Rattle.and_grammar.proofs.CopyLemmas.{wider_put, three_there}
use Rattle.and_grammar.proofs.Viewing.{arguments_are}
use Rattle.and_grammar.proofs.threading.put_name_between.Goals as goal

pub put_wider-requires-clause-enough : goal.put_wider-requires-clause-enough
put_wider-requires-clause-enough c =
    three_there c.args.out.now c.copy_arguments.new.out c.put_state.new.out c.put_state-2.new.out
    (map (term_at c.args.rule.now) (arguments_at c.args.rule.now c.args.place)) (state c.args.before) (state c.args.behind)
    (length (arguments_at c.args.rule.now c.args.place)) (length-map (arguments_at c.args.rule.now c.args.place) (term_at c.args.rule.now))
    c.in_ok-copy_arguments.ensures c.in_ok-put_state.ensures c.in_ok-put_state-2.ensures

pub returns : goal.returns
returns c = λ name arguments is.
    wider_put c.put_wider.result c.args.out.now c.copy_arguments.new.out c.put_state.new.out c.put_state-2.new.out c.put_wider.new.out name arguments
    (map (term_at c.args.rule.now) (arguments_at c.args.rule.now c.args.place)) (state c.args.before) (state c.args.behind)
    (arguments_are c.args.rule.now c.args.place c.requires name arguments is)
    c.in_ok-copy_arguments.ensures c.in_ok-put_state.ensures c.in_ok-put_state-2.ensures
    (λ ws vs split few. c.put_wider.ensures name (map (term_at c.args.rule.now) (arguments_at c.args.rule.now c.args.place)) ws vs
    (is ∙ ap (compound name) (sym (arguments_are c.args.rule.now c.args.place c.requires name arguments is))) split few)
