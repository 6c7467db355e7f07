use Rattle.std.proofs.Common.{◌≡◌, ◌∙◌, ap, sym, arith, length, subst, [], Option, Some, Result, Ok, IsTrue}
use Rattle.std.specs.Option.{IfSome}
use Rattle.std.specs.Result.{IfOk}
use Rattle.and_model.specs.Lines.{Bytes}
use Rattle.and_language.specs.Tokens.{Comes}
use Rattle.and_language.specs.Words.{before, IsWord}
use Rattle.and_lex.specs.declared.tokens.Token.{Token}
use Rattle.and_lex.specs.declared.tokens.LexFault.{LexFault}
use Rattle.and_lex.specs.Views.{answer_of, token_of, kind_of, LiesBetween}
use Rattle.and_clauses.specs.Views.{is_query}
use Rattle.and_reader.specs.Views.{word_of, sort_of}
use Rattle.and_reader.specs.declared.state.Next.{Next}
use Rattle.and_reader.specs.declared.state.Next.TheVariants.{Inside, Over}
use Rattle.and_reader.specs.declared.state.Sort.TheVariants.{Query}
use Rattle.and_automaton.specs.Machine.{over}
use Rattle.and_drafts.specs.Drafts.{draft_of}
use Rattle.and_reader.specs.Beginning.{IsQueryOf}
use Rattle.and_reader.proofs.Alone.{alone_so, first_within, further_within, query_alone}
use Rattle.and_reader.proofs.Going.{comes_at}
use Rattle.and_reader.proofs.Told.{answer_told}
use Rattle.and_reader.proofs.reading.beginning.read_clause.Goals as goal

pub reading-init : goal.reading-init
reading-init c =
    first_within c.args.bytes.now _ _ c.args.first c.requires.text c.requires.comes c.requires.place c.requires.within.0 c.requires.within.1
    c.new.ensures.state c.requires.line c.new.ensures.line

pub word_of-requires-clause-comes : goal.word_of-requires-clause-comes
word_of-requires-clause-comes c = c.reading.invariant.comes

pub take-requires-clause-stands : goal.take-requires-clause-stands
take-requires-clause-stands c = let g = c.reading.invariant in (g.begun.state, g.begun.stands)

pub reading-preserved : goal.reading-preserved
reading-preserved c =
    let bytes : Bytes = c.args.bytes.now in
    let g = c.reading.invariant in
    let t = c.reading.token in
    let u = c.in-Ok-Some.next in
    let lexer = c.reading.lexer in
    let w = word_of c.in_ok-word.word in
    let a = answer_told g.begun.state w c.take.new.self.parser c.in-Ok-Inside.field-0 Inside c.in-Ok-Inside.field-0-is
    (c.in-Ok-Inside.ensures.answer g.begun.state g.begun.stands) in
    let is : c.next-following.result ≡ Ok (Some u) = c.in-Ok-Some.is ∙ ap (λ o. Ok o) (rw c.in-Ok-Some.is at c.in-Ok-Some.field-0-is) in
    let C : Result (Option Token) LexFault → Type 0 = λ r. Comes bytes t.end (answer_of r) in
    let W : Result (Option Token) LexFault → Type 0 = λ r. IsWord bytes (token_of t) (before bytes [] (answer_of r)) (kind_of t.kind) w in
    let L : Result (Option Token) LexFault → Type 0 = λ r. IfOk r (λ o. IfSome o (LiesBetween lexer.place (length lexer.text))) in
    let P : Result (Option Token) LexFault → Type 0 = λ r. IfOk r (λ o. IfSome o (λ v. c.next-following.new.self.place ≡ v.end)) in
    let comes = comes_at lexer.text bytes lexer.place t.end (answer_of c.next-following.result) g.text g.behind c.next-following.ensures.next in
    let lies = subst L is c.next-following.ensures.within in
    further_within bytes (token_of c.args.first) c.reading.begun c.take.new.self lexer c.next-following.new.self t u w a.0 g (subst C is comes)
    (subst W is c.in_ok-word.ensures.word) a.1 a.2 a.3 c.in-Ok-Inside.ensures.line c.in-Ok-Inside.ensures.drafted c.next-following.ensures.text
    (subst P is c.next-following.ensures.read) (omega (arith, lies)) (omega (arith, lies, ap length g.text))

pub reading-smaller : goal.reading-smaller
reading-smaller c =
    let g = c.reading.invariant in
    let lexer = c.reading.lexer in
    let is : c.next-following.result ≡ Ok (Some c.in-Ok-Some.next) = c.in-Ok-Some.is ∙ ap (λ o. Ok o) (rw c.in-Ok-Some.is at c.in-Ok-Some.field-0-is) in
    let L : Result (Option Token) LexFault → Type 0 = λ r. IfOk r (λ o. IfSome o (LiesBetween lexer.place (length lexer.text))) in
    let lies = subst L is c.next-following.ensures.within in
    omega (arith, lies, g.behind, ap length g.text)

pub returns-in-Ok-Over-clause-asks : goal.returns-in-Ok-Over-clause-asks
returns-in-Ok-Over-clause-asks c =
    let g = c.reading.invariant in
    let n : Next = Over c.in-Ok-Over.sort in
    let draft = c.take.new.self.parser.draft in
    let a = answer_told g.begun.state (word_of c.in_ok-word.word) c.take.new.self.parser c.in-Ok-Over.field-0 n c.in-Ok-Over.field-0-is
    (c.in-Ok-Over.ensures.answer g.begun.state g.begun.stands) in
    alone_so c.alone.result draft c.in-Ok-Over.sort Query (answer_of c.next-following.result) (λ d. IsTrue (is_query (draft_of d).finished)) c.alone.ensures
    (λ asks last. subst (λ ws. IsTrue (is_query ws)) (sym a.2) (a.3 (ap sort_of asks)))

pub returns-in-Ok-Over-clause-query : goal.returns-in-Ok-Over-clause-query
returns-in-Ok-Over-clause-query c = λ ws spelled.
    let bytes : Bytes = c.args.bytes.now in
    let g = c.reading.invariant in
    let t = c.reading.token in
    let lexer = c.reading.lexer in
    let w = word_of c.in_ok-word.word in
    let n : Next = Over c.in-Ok-Over.sort in
    let draft = c.take.new.self.parser.draft in
    let a = answer_told g.begun.state w c.take.new.self.parser c.in-Ok-Over.field-0 n c.in-Ok-Over.field-0-is
    (c.in-Ok-Over.ensures.answer g.begun.state g.begun.stands) in
    let next = answer_of c.next-following.result in
    let comes = comes_at lexer.text bytes lexer.place t.end next g.text g.behind c.next-following.ensures.next in
    alone_so c.alone.result draft c.in-Ok-Over.sort Query next (IsQueryOf bytes ws) c.alone.ensures
    (λ asks last. query_alone bytes (token_of c.args.first) c.reading.begun lexer t next w a.0 draft g comes c.in_ok-word.ensures.word
    (a.1 ∙ ap (λ s. Some (over (sort_of s) a.0)) asks) a.2 c.in-Ok-Over.ensures.drafted last ws spelled)
