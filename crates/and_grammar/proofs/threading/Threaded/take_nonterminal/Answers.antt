use Rattle.std.proofs.Common.{refl}
use Rattle.and_syntax.specs.Written.{compound}
use Rattle.and_translation.specs.Translation.{state, with_states}
use Rattle.and_grammar.proofs.ThreadLemmas.{next_made}
use Rattle.and_grammar.proofs.threading.Threaded.take_nonterminal.Goals as goal

pub returns : goal.returns
returns c = λ name arguments is.
    let put = c.in_ok-put_name_between.ensures name arguments is in
    next_made c.args.self.now _ c.requires.counted put.line (compound name (with_states arguments (state c.args.self.now.state) (state c.args.self.now.next)))
    put.finished c.in_ok-self.ensures refl c.in_ok-self-2.ensures
