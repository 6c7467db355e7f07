use Rattle.std.proofs.Common.{◌-◌, ◌≡◌, List, [], ◌∷◌, ◌++◌, refl, sym, ap, ◌∙◌, arith, subst, OnOk}
use Rattle.and_syntax.specs.Written.{Written}
use Rattle.and_translation.specs.Translation.{joined}
use Rattle.and_grammar.specs.Views.{Becomes}
use Rattle.and_grammar.proofs.CopyLemmas.{whole_joined, no_more}
use Rattle.and_grammar.proofs.threading.join_goals.Goals as goal

pub put_chain-requires : goal.put_chain-requires
put_chain-requires c = omega arith

pub returns : goal.returns
returns c = λ ws items e few. whole_joined c.put_chain.result c.args.out.now c.put_chain.new.out ws items (c.args.goals - 1) e
    (omega (arith, few)) c.put_chain.ensures

pub returns-then-goals-eq0 : goal.returns-then-goals-eq0
returns-then-goals-eq0 c = λ ws items e few.
    let none : items ≡ [] = no_more items (few ∙ c.if-goals-eq0.true) in
    subst (λ (gs : List Written). OnOk c.put_compound.result (Becomes c.args.out.now c.put_compound.new.out (ws ++ joined gs ∷ []))) (sym none)
    (c.put_compound.ensures ws [] (e ∙ ap (λ (gs : List Written). ws ++ gs) none) refl)
