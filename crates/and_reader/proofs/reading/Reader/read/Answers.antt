use Rattle.std.proofs.Common.{◌≡◌, ◌∙◌, ap, sym, arith, subst, [], Option, Some, Result, Ok}
use Rattle.std.specs.Option.{IfSome}
use Rattle.std.proofs.lemmas.Result.{err_from_is_err_and}
use Rattle.and_language.specs.Refusals.{Refusal, IsRefused}
use Rattle.and_lex.specs.declared.tokens.Token.{Token}
use Rattle.and_lex.specs.declared.tokens.LexFault.{LexFault}
use Rattle.and_reader.specs.Views.{word_of}
use Rattle.and_model.specs.Lines.{Bytes}
use Rattle.and_lex.specs.Views.{answer_of, token_of, fault_of}
use Rattle.and_reader.specs.Reading.{IsRead}
use Rattle.and_reader.proofs.Spelling.{no_words, more_words, comes_behind}
use Rattle.and_reader.proofs.ReadingLemmas.{fault_refused}
use Rattle.and_reader.proofs.Going.{IsGoing, comes_at, next_is, going_more}
use Rattle.and_reader.proofs.reading.Reader.read.Goals as goal

pub reading-init : goal.reading-init
reading-init c =
    let bytes : Bytes = c.args.self.now.bytes.now in
    let P : Bytes → Type 0 = λ x. IsRead x c.args.self.now [] in
    record {
      words = [];
      spelled = no_words bytes (answer_of c.next-next.result)
          (comes_at _ bytes _ 0 _ c.new-lexer.ensures.text c.new-lexer.ensures.place c.next-next.ensures.next);
      read = subst P (sym c.requires.read.1.text) c.requires.read.1;
      text = c.next-next.ensures.text ∙ c.new-lexer.ensures.text;
      next_there = next_is bytes c.new-lexer.result.text c.args.self.now.cursor.place c.new-lexer.result.place c.next-next.new.self.place c.next-next.result
          c.new-lexer.ensures.text (omega (arith, c.requires.first)) c.next-next.ensures.within c.next-next.ensures.read;
    }

pub word_of-requires-clause-comes : goal.word_of-requires-clause-comes
word_of-requires-clause-comes c =
    let bytes : Bytes = c.args.self.now.bytes.now in
    let is : c.reading.next ≡ Ok (Some c.in-Ok-Some.token) = c.in-Ok-Some.is ∙ ap (λ o. Ok o) (rw c.in-Ok-Some.is at c.in-Ok-Some.field-0-is) in
    let G : Result (Option Token) LexFault → Type 0 = λ n. IsGoing bytes c.reading.self c.reading.lexer n in
    comes_behind bytes (subst G is c.reading.invariant).spelled.1

pub returns-in_err-take-in-Ok-Some-clause-refused : goal.returns-in_err-take-in-Ok-Some-clause-refused
returns-in_err-take-in-Ok-Some-clause-refused c =
    let bytes : Bytes = c.args.self.now.bytes.now in
    let t = c.in-Ok-Some.token in
    let is : c.reading.next ≡ Ok (Some t) = c.in-Ok-Some.is ∙ ap (λ o. Ok o) (rw c.in-Ok-Some.is at c.in-Ok-Some.field-0-is) in
    let G : Result (Option Token) LexFault → Type 0 = λ n. IsGoing bytes c.reading.self c.reading.lexer n in
    let g = subst G is c.reading.invariant in
    let comes = comes_at c.reading.lexer.text bytes c.reading.lexer.place t.end _ g.text g.next_there.3 c.next-following.ensures.next in
    let words = more_words bytes g.words (token_of t) (answer_of c.next-following.result) (word_of c.in-Ok.word) g.spelled comes c.in-Ok.ensures.word in
    let told = c.in_err-take-in-Ok-Some.ensures.refused bytes g.words (answer_of c.next-following.result) g.read words in
    let p = err_from_is_err_and c.from_residual.result c.from_residual.ensures.1 in
    rw (p.1, p.2) told

pub reading-preserved : goal.reading-preserved
reading-preserved c =
    let bytes : Bytes = c.args.self.now.bytes.now in
    let t = c.in-Ok-Some.token in
    let is : c.reading.next ≡ Ok (Some t) = c.in-Ok-Some.is ∙ ap (λ o. Ok o) (rw c.in-Ok-Some.is at c.in-Ok-Some.field-0-is) in
    let G : Result (Option Token) LexFault → Type 0 = λ n. IsGoing bytes c.reading.self c.reading.lexer n in
    let g = subst G is c.reading.invariant in
    going_more bytes c.reading.self c.take.new.self c.reading.lexer c.next-following.new.self t c.next-following.result (word_of c.in-Ok.word) g
    c.next-following.ensures.next c.in-Ok.ensures.word (c.in_ok-take-in-Ok-Some.ensures.taken bytes g.words g.read) c.in_ok-take-in-Ok-Some.ensures.cursor
    c.next-following.ensures.text c.next-following.ensures.within c.next-following.ensures.read

pub returns-in-Err-clause-refused : goal.returns-in-Err-clause-refused
returns-in-Err-clause-refused c =
    let bytes : Bytes = c.args.self.now.bytes.now in
    let G : Result (Option Token) LexFault → Type 0 = λ n. IsGoing bytes c.reading.self c.reading.lexer n in
    let g = subst G c.in-Err.is c.reading.invariant in
    let P : Option Refusal → Type 0 = λ o. IfSome o (IsRefused bytes) in
    subst P (sym c.fault_refusal.ensures) (fault_refused bytes c.reading.self g.words (fault_of c.in-Err.fault) g.read c.requires.few g.spelled)
