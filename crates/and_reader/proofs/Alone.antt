-- The query that is read by itself behind a beginning.
use Rattle.std.proofs.Common.{ℕ, ◌-◌, ◌≤◌, ◌≡◌, true, false, List, [], ◌∷◌, ◌++◌, length, Option, Some, None, Result, Ok, Err, refl, sym, ap, ◌∙◌, subst}
use Rattle.std.proofs.Common.{append-nil, append_assoc}
use Rattle.std.specs.Option.{IfSome}
use Rattle.std.specs.Result.{IfOk}
use Rattle.and_model.specs.Lines.{Bytes}
use Rattle.and_syntax.specs.Written.{Written}
use Rattle.and_language.specs.Tokens.{Token as Placing, Answer, one, no_more, Comes, line_at}
use Rattle.and_language.specs.Words.{Placed, Word, before, IsWord}
use Rattle.and_language.specs.Grammar.{Sort}
use Rattle.and_language.specs.Refusals.{HasWords}
use Rattle.and_automaton.specs.Machine.{State, start, over, is_over, step}
use Rattle.and_beginnings.specs.Beginnings.{IsValidTo}
use Rattle.and_drafts.specs.Drafts.{draft_of}
use Rattle.and_drafts.specs.declared.draft.ClauseDraft.{ClauseDraft}
use Rattle.and_lex.specs.declared.tokens.Token.{Token}
use Rattle.and_lex.specs.Views.{token_of, kind_of}
use Rattle.and_lex.specs.Reading
use Rattle.and_reader.specs.declared.reading.Begun.{Begun}
use Rattle.and_reader.specs.Reading.{first_place, IsBegun, IsClause}
use Rattle.and_reader.specs.Standing.{IsState}
use Rattle.and_reader.specs.Beginning.{IsQueryOf}
use Rattle.and_reader.proofs.ReadingLemmas.{begun_more, over_text}
use Rattle.and_reader.proofs.Spelling.{more_words}

-- Words of a query are read behind some others, from its first token on; the next is that token.
pub record IsWithin (bytes : Bytes) (first : Placing) (b : Begun) (lexer : Reading.Reading) (t : Token) : Type 0 where
  pub words : List Placed
  pub spelled : (ws : List Placed) → HasWords bytes ws (one first) → HasWords bytes (ws ++ words) (one (token_of t))
  pub begun : IsBegun bytes t.start b words
  pub text : lexer.text ≡ bytes
  pub comes : (p : ℕ) × Comes bytes p (one (token_of t))
  pub behind : lexer.place ≡ t.end
  pub ordered : t.start ≤ t.end
  pub within : t.end ≤ length bytes

-- where nothing of it is read yet
pub first_within : (bytes : Bytes) (b : Begun) (lexer : Reading.Reading) (t : Token) → lexer.text ≡ bytes → (p : ℕ) × Comes bytes p (one (token_of t))
    → lexer.place ≡ t.end → t.start ≤ t.end → t.end ≤ length bytes → IsState b.parser start → b.line ≡ line_at bytes t.start
    → (draft_of b.parser.draft).line ≡ b.line
    → IsWithin bytes (token_of t) b lexer t
first_within bytes b lexer t text comes place ordered within state line drafted = record {
  words = [];
  spelled = λ ws h. subst (λ vs. HasWords bytes vs (one (token_of t))) (sym (append-nil ws)) h;
  begun = record { state = start; ran = refl; unended = refl; stands = state; first = λ s. refl; line = line; drafted = drafted };
  text = text;
  comes = comes;
  behind = place;
  ordered = ordered;
  within = within;
}

first_same : (ps : List Placed) (m n : ℕ) → (ps ≡ [] → ⊥) → first_place ps m ≡ first_place ps n
first_same [] m n some = absurd (some refl)
first_same (p ∷ ps) m n some = refl

-- a clause of some words is begun, whatever stands behind them
begun_at : (bytes : Bytes) (place : ℕ) (b : Begun) (ps : List Placed) → IsClause bytes true b ps → IsBegun bytes place b ps
begun_at bytes place b ps h = record {
  state = h.1.state;
  ran = h.1.ran;
  unended = h.1.unended;
  stands = h.1.stands;
  first = h.1.first;
  line = h.1.line ∙ ap (line_at bytes) (first_same ps 0 place h.0);
  drafted = h.1.drafted;
}

more_spelled : (bytes : Bytes) (ws ps : List Placed) (t : Placing) (a : Answer) (x : Word) → HasWords bytes (ws ++ ps) (one t) → Comes bytes t.end a
    → IsWord bytes t (before bytes [] a) t.kind x → HasWords bytes (ws ++ (ps ++ record { word = x; place = t.start } ∷ [])) a
more_spelled bytes ws ps t a x h c i =
    let last : Placed = record { word = x; place = t.start } in
    subst (λ vs. HasWords bytes vs a) (append_assoc ws ps (last ∷ [])) (more_words bytes (ws ++ ps) t a x h c i)

-- one word more
pub further_within : (bytes : Bytes) (first : Placing) (b c : Begun) (lexer later : Reading.Reading) (t u : Token) (x : Word) (s : State)
    (g : IsWithin bytes first b lexer t) → Comes bytes t.end (one (token_of u))
    → IsWord bytes (token_of t) (before bytes [] (one (token_of u))) (kind_of t.kind) x
    → step true g.begun.state x ≡ Some s → is_over s ≡ false → IsState c.parser s → c.line ≡ b.line
    → (draft_of c.parser.draft).line ≡ (draft_of b.parser.draft).line
    → later.text ≡ lexer.text → later.place ≡ u.end → u.start ≤ u.end → u.end ≤ length bytes → IsWithin bytes first c later u
further_within bytes first b c lexer later t u x s g comes is took open_still state line drafted text place ordered within =
    let last : Placed = record { word = x; place = t.start } in
    record {
      words = g.words ++ last ∷ [];
      spelled = λ ws h. more_spelled bytes ws g.words (token_of t) (one (token_of u)) x (g.spelled ws h) comes is;
      begun = begun_at bytes u.start c (g.words ++ last ∷ []) (begun_more bytes t.start b c g.words x g.begun s took open_still state line drafted);
      text = text ∙ g.text;
      comes = (t.end, comes);
      behind = place;
      ordered = ordered;
      within = within;
    }

-- the query is over, and nothing comes behind it
pub query_alone : (bytes : Bytes) (first : Placing) (b : Begun) (lexer : Reading.Reading) (t : Token) (a : Answer) (x : Word) (w : Written) (d : ClauseDraft)
    (g : IsWithin bytes first b lexer t) → Comes bytes t.end a → IsWord bytes (token_of t) (before bytes [] a) (kind_of t.kind) x
    → step true g.begun.state x ≡ Some (over Sort.query w) → (draft_of d).finished ≡ w ∷ [] → (draft_of d).line ≡ (draft_of b.parser.draft).line → a ≡ no_more
    → (ws : List Placed) → HasWords bytes ws (one first) → IsQueryOf bytes ws d
query_alone bytes first b lexer t a x w d g comes is took finished line last ws h =
    let here : Placed = record { word = x; place = t.start } in
    record {
      words = g.words ++ here ∷ [];
      spelled = subst (HasWords bytes (ws ++ (g.words ++ here ∷ []))) last (more_spelled bytes ws g.words (token_of t) a x (g.spelled ws h) comes is);
      term = w;
      place = first_place g.words t.start;
      read = over_text g.words x t.start g.begun.state Sort.query w g.begun.ran took;
      finished = finished;
      line = line ∙ (g.begun.drafted ∙ g.begun.line);
    }

-- the text is UTF-8 up to the place, too
pub with_valid : {E : Type 0} (bytes : Bytes) (place : ℕ) (ws : List Placed) (r : Result (Option ClauseDraft) E) → IsValidTo bytes place
    → IfOk r (λ o. IfSome o (IsQueryOf bytes ws)) → IfOk r (λ o. IfSome o (λ d. IsValidTo bytes place × IsQueryOf bytes ws d))
with_valid bytes place ws (Ok (Some d)) valid q = (valid, q)
with_valid bytes place ws (Ok None) valid q = tt
with_valid bytes place ws (Err e) valid q = tt

-- what is true of a draft behind which nothing comes, is true of what is answered
pub alone_so : {S : Type 0} (o : Option ClauseDraft) (draft : ClauseDraft) (sort query : S) (a : Answer) (P : ClauseDraft → Type 0)
    → IfSome o (λ d. (sort ≡ query) × (d ≡ draft) × (a ≡ no_more)) → (sort ≡ query → a ≡ no_more → P draft) → IfSome o P
alone_so None draft sort query a P told f = tt
alone_so (Some d) draft sort query a P (asks, same, last) f = subst P (sym same) (f asks last)
