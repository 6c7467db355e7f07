use Rattle.std.proofs.Common.{refl, [], ◌∷◌, codes}
use Rattle.and_syntax.specs.Written.{Written}
use Rattle.and_translation.specs.Translation.{state, equation, list_before}
use Rattle.and_grammar.specs.Views.{Adds}
use Rattle.and_grammar.proofs.CopyLemmas.{two_taken, two_there}
use Rattle.and_grammar.proofs.ThreadLemmas.{terminals_made, terminals_left_out}
use Rattle.and_grammar.proofs.threading.Threaded.take_terminals.Goals as goal

pub put_compound-requires : goal.put_compound-requires
put_compound-requires c =
    let l = c.requires.listed in
    two_there c.args.self.now.out c.put_state.new.out c.put_list_before.new.out (state c.args.self.now.state)
    (list_before l.items (state c.args.self.now.next)) c.in_ok-put_state.ensures (c.in_ok-put_list_before.ensures l.items l.listed)

pub returns-then-first : goal.returns-then-first
returns-then-first c = λ items e. terminals_left_out c.args.self.now c.args.first items c.if-first.true c.requires.counted

pub returns : goal.returns
returns c = λ items e.
    let s = state c.args.self.now.state in
    let rest : Written = list_before items (state c.args.self.now.next) in
    let two : Adds c.args.self.now.out c.put_compound.new.out (equation s rest ∷ []) =
    two_taken c.args.self.now.out c.put_state.new.out c.put_list_before.new.out c.put_compound.new.out (codes "=") s rest
    c.in_ok-put_state.ensures (c.in_ok-put_list_before.ensures items e) c.in_ok-put_compound.ensures in
    terminals_made c.args.self.now _ c.args.first items c.if-first.false c.requires.counted two.line two.finished c.in_ok-self.ensures refl
    c.in_ok-self-2.ensures
