use Rattle.std.proofs.Common.{◌≡◌, ◌∙◌, ap, refl, sym, arith, subst, [], Option, Some, Result, Ok}
use Rattle.and_model.specs.Lines.{Bytes}
use Rattle.and_language.specs.Tokens.{no_token}
use Rattle.and_language.specs.Words as words
use Rattle.and_lex.specs.declared.tokens.Token.{Token}
use Rattle.and_lex.specs.declared.tokens.LexFault.{LexFault}
use Rattle.and_lex.specs.Views.{answer_of}
use Rattle.and_reader.specs.Reading.{IsRead}
use Rattle.and_reader.specs.Views.{word_of}
use Rattle.and_reader.proofs.Going.{comes_at, next_is}
use Rattle.and_reader.proofs.Onward.{IsGoingTo, going_further}
use Rattle.and_reader.proofs.Spelling.{comes_behind}
use Rattle.and_reader.proofs.reading.Reader.read_to.Goals as goal

pub reading-init : goal.reading-init
reading-init c =
    let bytes : Bytes = c.args.self.now.bytes.now in
    let P : Bytes → Type 0 = λ x. IsRead x c.args.self.now [] in
    record {
      tokens = [];
      words = [];
      placed = no_token 0 (comes_at _ bytes _ 0 _ c.new-lexer.ensures.text c.new-lexer.ensures.place c.next-next.ensures.next);
      spelled = words.nothing;
      ended = refl;
      read = subst P (sym c.requires.read.1.text) c.requires.read.1;
      text = c.next-next.ensures.text ∙ c.new-lexer.ensures.text;
      next_there = next_is bytes c.new-lexer.result.text c.args.self.now.cursor.place c.new-lexer.result.place c.next-next.new.self.place c.next-next.result
          c.new-lexer.ensures.text (omega (arith, c.requires.first)) c.next-next.ensures.within c.next-next.ensures.read;
    }

pub word_of-requires-clause-comes : goal.word_of-requires-clause-comes
word_of-requires-clause-comes c =
    let bytes : Bytes = c.args.self.now.bytes.now in
    let is : c.reading.next ≡ Ok (Some c.in-Ok-Some.token) = c.in-Ok-Some.is ∙ ap (λ o. Ok o) (rw c.in-Ok-Some.is at c.in-Ok-Some.field-0-is) in
    let G : Result (Option Token) LexFault → Type 0 = λ n. IsGoingTo bytes c.reading.self c.reading.lexer n c.reading.end in
    comes_behind bytes (subst G is c.reading.invariant).placed

pub returns-then-token-place : goal.returns-then-token-place
returns-then-token-place c =
    let bytes : Bytes = c.args.self.now.bytes.now in
    let g : IsGoingTo bytes c.reading.self c.reading.lexer c.reading.next c.reading.end = c.reading.invariant in
    record {
      next = answer_of c.reading.next;
      tokens = g.tokens;
      words = g.words;
      placed = g.placed;
      spelled = g.spelled;
      ended = g.ended;
      read = g.read;
    }

pub reading-preserved : goal.reading-preserved
reading-preserved c =
    let bytes : Bytes = c.args.self.now.bytes.now in
    let t = c.in-Ok-Some.token in
    let is : c.reading.next ≡ Ok (Some t) = c.in-Ok-Some.is ∙ ap (λ o. Ok o) (rw c.in-Ok-Some.is at c.in-Ok-Some.field-0-is) in
    let G : Result (Option Token) LexFault → Type 0 = λ n. IsGoingTo bytes c.reading.self c.reading.lexer n c.reading.end in
    let g = subst G is c.reading.invariant in
    going_further bytes c.reading.self c.take.new.self c.reading.lexer c.next-following.new.self t c.next-following.result
    (word_of c.in-Ok.word) c.reading.end g
    c.next-following.ensures.next c.in-Ok.ensures.word (c.in_ok-take-in-Ok-Some.ensures.taken bytes g.words g.read) c.in_ok-take-in-Ok-Some.ensures.cursor
    c.next-following.ensures.text c.next-following.ensures.within c.next-following.ensures.read
