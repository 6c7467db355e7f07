use Rattle.std.proofs.Common.{List, [], ◌∷◌, sym, subst, OnOk}
use Rattle.and_syntax.specs.Written.{Written}
use Rattle.and_translation.specs.Translation.{state, list_before}
use Rattle.and_grammar.specs.Views.{Adds}
use Rattle.and_grammar.proofs.translating.put_first_state.Goals as goal

pub returns-in-Some : goal.returns-in-Some
returns-in-Some c = c.put_list_before.ensures _ c.in-Some.ensures.1

pub returns-in-None : goal.returns-in-None
returns-in-None c =
    subst (λ (ts : List Written). OnOk c.put_state.result (Adds c.args.out.now c.put_state.new.out (list_before ts (state 0) ∷ []))) (sym c.in-None.ensures)
    c.put_state.ensures
