use Rattle.std.proofs.Common.{subst, Ok}
use Rattle.std.proofs.lemmas.Result.{err_from_is_err_and}
use Rattle.and_language.specs.Tokens.{Comes, none_for}
use Rattle.and_lex.specs.Reading.{Reading}
use Rattle.and_lex.specs.Views.{answer_of, fault_of}
use Rattle.and_lex.proofs.Soundness.{comes_next}
use Rattle.and_lex.proofs.lexing.Lexer.next.Goals as goal

pub returns-in_err-token-clause-next : goal.returns-in_err-token-clause-next
returns-in_err-token-clause-next c =
    let p = err_from_is_err_and c.from_residual.result c.from_residual.ensures.1 in
    let i = c.self.inside in
    let answer = none_for (fault_of c.in_err-token.field-0.0) in
    rw (p.1, p.2) (subst (λ (r : Reading). Comes r.text r.place answer) c.self.view_is
    (comes_next i.text.now i.valid i.place answer c.self.invariant.0 c.self.invariant.1 c.in_err-token.ensures.next))

pub returns-in-Some-clause-next : goal.returns-in-Some-clause-next
returns-in-Some-clause-next c =
    let i = c.self.inside in
    let answer = answer_of (Ok c.in_ok-token.token) in
    subst (λ (r : Reading). Comes r.text r.place answer) c.self.view_is
    (comes_next i.text.now i.valid i.place answer c.self.invariant.0 c.self.invariant.1 c.in_ok-token.ensures.next)

pub returns-in_default-clause-next : goal.returns-in_default-clause-next
returns-in_default-clause-next c =
    let i = c.self.inside in
    let answer = answer_of (Ok c.in_ok-token.token) in
    subst (λ (r : Reading). Comes r.text r.place answer) c.self.view_is
    (comes_next i.text.now i.valid i.place answer c.self.invariant.0 c.self.invariant.1 c.in_ok-token.ensures.next)
