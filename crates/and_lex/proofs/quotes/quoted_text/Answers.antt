use Rattle.std.proofs.Common.{ap, sym, subst, ◌∙◌, ◌≡◌}
use Rattle.and_language.specs.Tokens.{Names}
use Rattle.and_lex.specs.Quoting.{text_between}
use Rattle.and_lex.proofs.Quoted.{names_text, text_done, inner_bytes}
use Rattle.and_lex.proofs.quotes.quoted_text.Goals as goal

pub returns : goal.returns
returns c =
    let q = c.requires.1 in
    let inner = inner_bytes c.args.token.now q.0 q.1 in
    let done = text_done c.loop-byte.text _ c.loop-byte.is_escaped c.loop-byte.byte-index c.loop-byte-test.false c.loop-byte.invariant in
    let named : c.loop-byte.text ≡ c.requires.0 = done ∙ ap text_between inner ∙ names_text q.2 in
    (q.0, q.1, subst (Names q.0) (sym named) q.2)
