-- A text is read up to a place, and gone on with in other texts that begin so.
use Rattle.std.proofs.Common.{ℕ, ◌-◌, ◌≤◌, ◌<◌, ◌≡◌, false, List, [], ◌∷◌, ◌++◌, length, take, drop, get_or, nat_eq, Option, Some, Result, Ok, refl, sym, ap}
use Rattle.std.proofs.Common.{◌∙◌, subst, arith}
use Rattle.std.specs.Option.{IfSome}
use Rattle.std.specs.Result.{IfOk}
use Rattle.std.proofs.lemmas.List.{drop_more, length-take}
use Rattle.and_model.specs.Lines.{Bytes}
use Rattle.and_syntax.specs.Tables.{Table, empty}
use Rattle.and_language.specs.Tokens.{Token as Placing, Comes, HasTokens, begins}
use Rattle.and_language.specs.Tokens as tokens
use Rattle.and_language.specs.Words.{Placed, Word, before, IsWord, AreWords}
use Rattle.and_language.specs.Words as words
use Rattle.and_language.specs.Refusals.{Takes}
use Rattle.and_beginnings.specs.Beginnings.{behind, is_point, IsValidTo, AreAlike}
use Rattle.and_beginnings.proofs.Words.{beginning_words, beginning_taken}
use Rattle.and_clauses.specs.Views.{table_of}
use Rattle.and_lex.specs.declared.tokens.Token.{Token}
use Rattle.and_lex.specs.declared.tokens.LexFault.{LexFault}
use Rattle.and_lex.specs.Views.{answer_of, token_of, kind_of}
use Rattle.and_lex.specs.Reading
use Rattle.and_reader.specs.declared.reading.Reader.{Reader}
use Rattle.and_reader.specs.Reading.{IsRead}
use Rattle.and_reader.specs.Beginning.{IsReadTo, BeginsWith, IsBegunSo}
use Rattle.and_reader.proofs.Going.{IsNext, comes_at, next_is}
use Rattle.and_reader.proofs.ReadingLemmas.{read_whole}
use Rattle.and_reader.proofs.Spelling.{tokens_more, words_more}

-- The reader has read the words before the token, fault or end that comes next, behind that place.
pub record IsGoingTo (bytes : Bytes) (r : Reader) (lexer : Reading.Reading) (next : Result (Option Token) LexFault) (end : ℕ) : Type 0 where
  pub tokens : List Placing
  pub words : List Placed
  pub placed : HasTokens bytes (answer_of next) 0 tokens
  pub spelled : AreWords bytes (answer_of next) tokens words
  pub ended : behind 0 tokens ≡ end
  pub read : IsRead bytes r words
  pub text : lexer.text ≡ bytes
  pub next_there : IsNext bytes r.cursor.place lexer.place next

behind_last : (p : ℕ) (ts : List Placing) (t : Placing) → behind p (ts ++ t ∷ []) ≡ t.end
behind_last p [] t = refl
behind_last p (u ∷ ts) t = behind_last u.end ts t

-- one word more is read
pub going_further : (bytes : Bytes) (r z : Reader) (lexer later : Reading.Reading) (t : Token) (next : Result (Option Token) LexFault) (w : Word) (end : ℕ)
    (g : IsGoingTo bytes r lexer (Ok (Some t)) end) → Comes lexer.text lexer.place (answer_of next)
    → IsWord bytes (token_of t) (before bytes [] (answer_of next)) (kind_of t.kind) w → IsRead bytes z (g.words ++ record { word = w; place = t.start } ∷ [])
    → z.cursor.place ≤ t.start → later.text ≡ lexer.text
    → IfOk next (λ o. IfSome o (λ u. (lexer.place ≤ u.start) × (u.start < u.end) × (u.end ≤ length lexer.text)))
    → IfOk next (λ o. IfSome o (λ u. later.place ≡ u.end)) → IsGoingTo bytes z later next t.end
going_further bytes r z lexer later t next w end g c i read cursor text within place = record {
  tokens = g.tokens ++ token_of t ∷ [];
  words = g.words ++ record { word = w; place = t.start } ∷ [];
  placed = tokens_more bytes (token_of t) (answer_of next) g.placed (comes_at lexer.text bytes lexer.place t.end (answer_of next) g.text g.next_there.3 c);
  spelled = words_more bytes (token_of t) (answer_of next) w g.spelled i;
  ended = behind_last 0 g.tokens (token_of t);
  read = read;
  text = text ∙ g.text;
  next_there = next_is bytes lexer.text z.cursor.place lexer.place later.place next g.text (omega (arith, cursor, g.next_there)) within place;
}

-- ---- a beginning

-- no point stands where the byte is another
no_point_at : (bytes : Bytes) (place : ℕ) → place < length bytes → nat_eq (get_or bytes place 0) 46 ≡ false → begins is_point (drop place bytes) ≡ false
no_point_at bytes place l e = ap (begins is_point) (drop_more bytes place 0 l) ∙ e

alike : (bytes text : Bytes) (end place : ℕ) → place ≤ length bytes → end < place → nat_eq (get_or bytes end 0) 46 ≡ false → IsValidTo bytes place
    → BeginsWith (take place bytes) text → AreAlike bytes text place end
alike bytes text end place within less point valid b =
    let long : length (take place bytes) ≡ place = omega (arith, within, length-take place bytes) in
    record {
      same = sym b.0 ∙ ap (λ n. take n text) long;
      valid = valid;
      valid_too = (b.1.0, b.1.1, omega (arith, b.1.2, long));
      before = less;
      no_point = no_point_at bytes end (omega (arith, within, less)) point;
    }

-- what a reader has read is the beginning of each text that begins so
pub begins_so : (bytes : Bytes) (r : Reader) (end place : ℕ) (front : Bytes) (T : Table) → IsReadTo bytes r end → r.is_begun ≡ false → place ≤ length bytes
    → end < place → nat_eq (get_or bytes end 0) 46 ≡ false → IsValidTo bytes place → front ≡ take place bytes → T ≡ table_of r.table → IsBegunSo front end T
begins_so bytes r end place front T w none within less point valid is table =
    let taken = read_whole bytes r w.words w.read none in
    let there : (text : Bytes) → BeginsWith front text → AreAlike bytes text place (behind 0 w.tokens) = λ text b.
    subst (AreAlike bytes text place) (sym w.ended) (alike bytes text end place within less point valid (subst (λ f. BeginsWith f text) is b)) in
    record {
      whole = w.words;
      statements = taken.statements;
      read = taken.spelled;
      spelled = λ text b a c. beginning_words bytes text place w.tokens w.words taken.statements w.next a (there text b) w.placed w.spelled taken.spelled
          (subst (λ n. Comes text n a) (sym w.ended) c);
      taken = λ text b. subst (λ U. Takes text empty taken.statements U) (sym table)
          (beginning_taken bytes text place w.tokens w.words taken.statements w.next empty (table_of r.table) (there text b) w.placed w.spelled taken.spelled
          taken.taken);
    }
