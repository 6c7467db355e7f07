use Rattle.std.proofs.Common.{ℕ, ◌≡◌, ◌∙◌, ap, refl, subst, arith, length, Option, Ok}
use Rattle.std.specs.Option.{IfSome}
use Rattle.and_model.specs.Lines.{Bytes}
use Rattle.and_language.specs.Tokens.{one, Comes}
use Rattle.and_beginnings.specs.Beginnings.{IsValidTo}
use Rattle.and_lex.specs.declared.tokens.Token.{Token}
use Rattle.and_lex.specs.Views.{answer_of, token_of, LiesBetween}
use Rattle.and_reader.proofs.Alone.{with_valid}
use Rattle.and_reader.proofs.Going.{comes_at}
use Rattle.and_reader.proofs.reading.beginning.read_query.Goals as goal

pub go_to-line-requires-clause-within : goal.go_to-line-requires-clause-within
go_to-line-requires-clause-within c =
    let text = c.go_to-2.ensures.text ∙ (c.go_to.ensures.text ∙ c.new-lexer.ensures.text) in
    let L : Option Token → Type 0 = λ o. IfSome o (LiesBetween c.go_to-2.new.self.place (length c.go_to-2.new.self.text)) in
    let lies = subst L c.in-Ok-Some.field-0-is c.in-Ok-Some.ensures.within in
    omega (arith, lies, ap length text)

pub read_clause-requires-clause-text : goal.read_clause-requires-clause-text
read_clause-requires-clause-text c = c.next.ensures.text ∙ (c.go_to-2.ensures.text ∙ (c.go_to.ensures.text ∙ c.new-lexer.ensures.text))

pub read_clause-requires-clause-comes : goal.read_clause-requires-clause-comes
read_clause-requires-clause-comes c =
    let bytes : Bytes = c.args.bytes.now in
    let lexer = c.go_to-2.new.self in
    let text = c.go_to-2.ensures.text ∙ (c.go_to.ensures.text ∙ c.new-lexer.ensures.text) in
    let C : Option Token → Type 0 = λ o. Comes bytes lexer.place (answer_of (Ok o)) in
    let comes = comes_at lexer.text bytes lexer.place lexer.place (answer_of (Ok c.in-Ok-Some.field-0)) text refl c.in-Ok-Some.ensures.next in
    (lexer.place, subst C c.in-Ok-Some.field-0-is comes)

pub read_clause-requires-clause-place : goal.read_clause-requires-clause-place
read_clause-requires-clause-place c =
    let P : Option Token → Type 0 = λ o. IfSome o (λ t. c.next.new.self.place ≡ t.end) in
    subst P c.in-Ok-Some.field-0-is c.in-Ok-Some.ensures.read

pub read_clause-requires-clause-within : goal.read_clause-requires-clause-within
read_clause-requires-clause-within c =
    let text = c.go_to-2.ensures.text ∙ (c.go_to.ensures.text ∙ c.new-lexer.ensures.text) in
    let L : Option Token → Type 0 = λ o. IfSome o (LiesBetween c.go_to-2.new.self.place (length c.go_to-2.new.self.text)) in
    let lies = subst L c.in-Ok-Some.field-0-is c.in-Ok-Some.ensures.within in
    (omega (arith, lies), omega (arith, lies, ap length text))

pub read_clause-requires-clause-line : goal.read_clause-requires-clause-line
read_clause-requires-clause-line c = c.go_to-line.ensures.line

pub returns-clause-asks : goal.returns-clause-asks
returns-clause-asks c = c.read_clause.ensures.asks

pub returns-clause-query : goal.returns-clause-query
returns-clause-query c = λ ws spelled.
    let bytes : Bytes = c.args.bytes.now in
    let place : ℕ = c.args.cursor.place in
    let lexer = c.go_to-2.new.self in
    let text = c.go_to-2.ensures.text ∙ (c.go_to.ensures.text ∙ c.new-lexer.ensures.text) in
    let V : Bytes → Type 0 = λ xs. IsValidTo xs place in
    let valid = subst V c.new-lexer.ensures.text (c.go_to.ensures.valid c.if-not-go_to.false) in
    let C : Option Token → Type 0 = λ o. Comes bytes c.args.end (answer_of (Ok o)) in
    let reached = c.go_to-2.ensures.reached c.if-not-go_to-2.false in
    let comes = comes_at lexer.text bytes lexer.place c.args.end (answer_of (Ok c.in-Ok-Some.field-0)) text reached c.in-Ok-Some.ensures.next in
    let spelled_so = spelled valid (one (token_of c.in-Ok-Some.first)) (subst C c.in-Ok-Some.field-0-is comes) in
    with_valid bytes place ws c.read_clause.result valid (c.read_clause.ensures.query ws spelled_so)
