use Rattle.std.proofs.Common.{[], ◌∷◌, length, map, ap, sym, ◌∙◌, subst, OnOk}
use Rattle.std.proofs.lemmas.List.{length-map}
use Rattle.and_syntax.specs.Written.{Written, compound}
use Rattle.and_translation.specs.Bodies.{first_terminals}
use Rattle.and_translation.specs.Translation.{state, list_before, head_between}
use Rattle.and_grammar.specs.Views.{term_at, body_at, arguments_at, Adds}
use Rattle.and_grammar.proofs.CopyLemmas.{wider_put, three_there}
use Rattle.and_grammar.proofs.Viewing.{arguments_are}
use Rattle.and_grammar.proofs.TranslateLemmas.{head_named}
use Rattle.and_grammar.proofs.translating.put_head.Goals as goal

pub put_wider-requires-clause-enough : goal.put_wider-requires-clause-enough
put_wider-requires-clause-enough c =
    let ns = arguments_at c.args.rule.now c.args.head in
    three_there c.args.out.now c.copy_arguments.new.out c.put_first_state.new.out c.put_state.new.out (map (term_at c.args.rule.now) ns)
    (list_before (first_terminals (body_at c.args.rule.now c.args.body)) (state 0)) (state c.args.behind) (length ns) (length-map ns (term_at c.args.rule.now))
    c.in_ok-copy_arguments.ensures c.in_ok-put_first_state.ensures c.in_ok-put_state.ensures

pub returns : goal.returns
returns c =
    let h = head_named (term_at c.args.rule.now c.args.head) c.requires.named in
    let first = list_before (first_terminals (body_at c.args.rule.now c.args.body)) (state 0) in
    let us = map (term_at c.args.rule.now) (arguments_at c.args.rule.now c.args.head) in
    let are = arguments_are c.args.rule.now c.args.head c.requires.head h.name h.arguments h.same in
    subst (λ (w : Written). OnOk c.put_wider.result (Adds c.args.out.now c.put_wider.new.out (head_between w first (state c.args.behind) ∷ []))) (sym h.same)
    (wider_put c.put_wider.result c.args.out.now c.copy_arguments.new.out c.put_first_state.new.out c.put_state.new.out c.put_wider.new.out h.name h.arguments
    us first (state c.args.behind) are c.in_ok-copy_arguments.ensures c.in_ok-put_first_state.ensures c.in_ok-put_state.ensures
    (λ ws vs split few. c.put_wider.ensures h.name us ws vs (h.same ∙ ap (compound h.name) (sym are)) split few))
