use Rattle.std.proofs.Common.{[], ◌∷◌, ◌++◌, List, length, refl, sym, ap, ◌∙◌, arith, codes}
use Rattle.std.proofs.lemmas.List.{append_assoc, length-append}
use Rattle.and_syntax.specs.Written.{Written}
use Rattle.and_translation.specs.Translation.{state, equation}
use Rattle.and_drafts.specs.Drafts.{draft_of}
use Rattle.and_grammar.specs.Views.{Adds}
use Rattle.and_grammar.specs.Acts.{stand_of}
use Rattle.and_grammar.proofs.CopyLemmas.{two_taken, two_there, chained_goals}
use Rattle.and_grammar.proofs.ThreadLemmas.{all_below, stand_whole, goals_counted}
use Rattle.and_grammar.proofs.threading.Threaded.end_alternative.Goals as goal

pub put_compound-requires : goal.put_compound-requires
put_compound-requires c =
    two_there c.args.self.now.out c.put_state.new.out c.put_state-2.new.out (state c.args.into) (state c.args.self.now.state) c.in_ok-put_state.ensures
    c.in_ok-put_state-2.ensures

pub put_chain-requires : goal.put_chain-requires
put_chain-requires c =
    let e = equation (state c.args.into) (state c.args.self.now.state) in
    let two : Adds c.args.self.now.out c.put_compound.new.out (e ∷ []) =
    two_taken c.args.self.now.out c.put_state.new.out c.put_state-2.new.out c.put_compound.new.out (codes "=") (state c.args.into)
    (state c.args.self.now.state) c.in_ok-put_state.ensures c.in_ok-put_state-2.ensures c.in_ok-put_compound.ensures in
    omega (arith, ap length two.finished, length-append (draft_of c.args.self.now.out).finished (e ∷ []), c.requires)

pub returns : goal.returns
returns c =
    let e : Written = equation (state c.args.into) (state c.args.self.now.state) in
    let old = stand_of c.args.self.now in
    let two : Adds c.args.self.now.out c.put_compound.new.out (e ∷ []) =
    two_taken c.args.self.now.out c.put_state.new.out c.put_state-2.new.out c.put_compound.new.out (codes "=") (state c.args.into)
    (state c.args.self.now.state) c.in_ok-put_state.ensures c.in_ok-put_state-2.ensures c.in_ok-put_compound.ensures in
    let b = c.in_ok-put_chain.ensures old.below old.goals e
    (two.finished ∙ ap (λ (ws : List Written). ws ++ e ∷ []) (sym (stand_whole c.args.self.now)) ∙ append_assoc old.below old.goals (e ∷ []))
    (goals_counted c.args.self.now c.requires) in
    all_below c.args.self.now _ c.requires (b.line ∙ two.line) _ c.args.into c.args.self.now.next
    (b.finished ∙ ap (λ (w : Written). old.below ++ w ∷ []) (chained_goals old.goals e)) refl refl refl
