-- A text is read up to a token.
use Rattle.std.proofs.Common.{ℕ, suc, ◌-◌, ◌≤◌, ◌<◌, ◌≡◌, List, [], ◌∷◌, ◌++◌, length, Option, Some, None, Result, Ok, Err, ap, ◌∙◌, subst, arith}
use Rattle.std.specs.Option.{IfSome}
use Rattle.std.specs.Result.{IfOk}
use Rattle.and_model.specs.Lines.{Bytes}
use Rattle.and_language.specs.Tokens.{Answer, Comes}
use Rattle.and_language.specs.Words.{Placed, Word, before, IsWord}
use Rattle.and_language.specs.Refusals.{HasWords}
use Rattle.and_lex.specs.declared.tokens.Token.{Token}
use Rattle.and_lex.specs.declared.tokens.LexFault.{LexFault}
use Rattle.and_lex.specs.Views.{answer_of, token_of, kind_of}
use Rattle.and_lex.specs.Reading
use Rattle.and_reader.specs.declared.reading.Reader.{Reader}
use Rattle.and_reader.specs.Reading.{IsRead}
use Rattle.and_reader.proofs.Spelling.{more_words}

-- the token that comes next, if one does, stands behind the cursor and up to the lexer's place
abbrev pub IsNext : Bytes → ℕ → ℕ → Result (Option Token) LexFault → Type 0
IsNext bytes cursor place (Ok None) = Unit {0}
IsNext bytes cursor place (Ok (Some t)) = (cursor ≤ t.start) × (t.start < t.end) × (t.end ≤ length bytes) × (place ≡ t.end)
IsNext bytes cursor place (Err fault) = Unit {0}

-- The reader has read the words before the token, fault or end that comes next.
pub record IsGoing (bytes : Bytes) (r : Reader) (lexer : Reading.Reading) (next : Result (Option Token) LexFault) : Type 0 where
  pub words : List Placed
  pub spelled : HasWords bytes words (answer_of next)
  pub read : IsRead bytes r words
  pub text : lexer.text ≡ bytes
  pub next_there : IsNext bytes r.cursor.place lexer.place next

-- how much is left
abbrev pub left : ℕ → ℕ → Result (Option Token) LexFault → ℕ
left all place (Ok None) = all - place
left all place (Ok (Some t)) = suc (all - place)
left all place (Err fault) = all - place

pub comes_at : (xs ys : Bytes) (p q : ℕ) (a : Answer) → xs ≡ ys → p ≡ q → Comes xs p a → Comes ys q a
comes_at xs ys p q a e f h =
    let P : Bytes → Type 0 = λ x. Comes x p a in
    let Q : ℕ → Type 0 = λ n. Comes ys n a in
    subst Q f (subst P e h)

pub next_is : (bytes xs : Bytes) (cursor old new : ℕ) (r : Result (Option Token) LexFault) → xs ≡ bytes → cursor ≤ old
    → IfOk r (λ o. IfSome o (λ t. (old ≤ t.start) × (t.start < t.end) × (t.end ≤ length xs))) → IfOk r (λ o. IfSome o (λ t. new ≡ t.end))
    → IsNext bytes cursor new r
next_is bytes xs cursor old new (Ok None) e c w n = tt
next_is bytes xs cursor old new (Ok (Some t)) e c w n = (omega arith, w.1, omega (arith, ap length e), n)
next_is bytes xs cursor old new (Err f) e c w n = tt

-- one word more is read
pub going_more : (bytes : Bytes) (r z : Reader) (lexer later : Reading.Reading) (t : Token) (next : Result (Option Token) LexFault) (w : Word)
    (g : IsGoing bytes r lexer (Ok (Some t)))
    → Comes lexer.text lexer.place (answer_of next) → IsWord bytes (token_of t) (before bytes [] (answer_of next)) (kind_of t.kind) w
    → IsRead bytes z (g.words ++ record { word = w; place = t.start } ∷ []) → z.cursor.place ≤ t.start → later.text ≡ lexer.text
    → IfOk next (λ o. IfSome o (λ u. (lexer.place ≤ u.start) × (u.start < u.end) × (u.end ≤ length lexer.text)))
    → IfOk next (λ o. IfSome o (λ u. later.place ≡ u.end))
    → IsGoing bytes z later next
going_more bytes r z lexer later t next w g c i read cursor text within place = record {
  words = g.words ++ record { word = w; place = t.start } ∷ [];
  spelled = more_words bytes g.words (token_of t) (answer_of next) w g.spelled
      (comes_at lexer.text bytes lexer.place t.end (answer_of next) g.text g.next_there.3 c) i;
  read = read;
  text = text ∙ g.text;
  next_there = next_is bytes lexer.text z.cursor.place lexer.place later.place next g.text (omega (arith, cursor, g.next_there)) within place;
}
