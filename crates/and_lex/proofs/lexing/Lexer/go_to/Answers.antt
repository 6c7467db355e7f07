use Rattle.std.proofs.Common.{ℕ, ◌≤◌, arith, subst}
use Rattle.and_language.specs.Tokens.{IsFront}
use Rattle.and_lex.specs.Reading.{Reading}
use Rattle.and_lex.proofs.lexing.Lexer.go_to.Goals as goal

pub returns-clause-valid : goal.returns-clause-valid
returns-clause-valid c = λ reached.
    let small : c.args.place ≤ c.self.inside.valid = omega (arith, c.if-place-self.false) in
    subst (λ (r : Reading). (n : ℕ) × IsFront r.text n × (c.args.place ≤ n)) c.self.view_is (c.self.inside.valid, c.self.invariant.0, small)
