-- How far a text is read, word by word.
use Rattle.std.proofs.Common.{◌≡◌, ℕ, ◌≤◌, Bool, true, false, List, [], ◌∷◌, ◌++◌, length, Option, Some, None, sym, refl, ap, ◌∙◌, subst, append_assoc}
use Rattle.std.specs.Option.{IfSome}
use Rattle.std.proofs.lemmas.List.{append-nil}
use Rattle.and_model.specs.Lines.{Bytes}
use Rattle.and_syntax.specs.Written.{Written}
use Rattle.and_syntax.specs.Tables
use Rattle.and_syntax.specs.Tables.{Table, empty}
use Rattle.and_language.specs.Tokens
use Rattle.and_language.specs.Tokens.{Token, Answer, no_more, one, none_for, line_at, Comes}
use Rattle.and_language.specs.Words.{Word, Placed}
use Rattle.and_language.specs.Grammar.{Sort, Statement, IsText, CanGoOn}
use Rattle.and_language.specs.Refusals
use Rattle.and_language.specs.Refusals.{Refusal, at, cause_of, limit_of, fault_at, Takes, HasWords, NoneEnds, IsPassed, IsRefusedWord, directive, no_grammar}
use Rattle.and_language.specs.Refusals.{over_limit, IsTaken, IsRefused, at_word, at_clause, at_token, unended, without_query, with_unknown, statement_fault}
use Rattle.and_language.specs.Refusals.{with_statement, IsTextOf}
use Rattle.and_automaton.specs.Machine.{State, start, over, is_over, go, step, run, words_of}
use Rattle.and_automaton.proofs.Steps.{step_tells, run_more}
use Rattle.and_automaton.proofs.Texts.{joined, one_clause, none_ends, begun_goes_on}
use Rattle.and_automaton.proofs.Begun.{refused_word, word_over_limit}
use Rattle.and_drafts.specs.Drafts.{draft_of}
use Rattle.and_clauses.specs.Views.{table_of}
use Rattle.and_judging.specs.Faults.{what_of}
use Rattle.and_reader.specs.declared.reading.Begun.{Begun}
use Rattle.and_reader.specs.declared.reading.Reader.{Reader}
use Rattle.and_reader.specs.declared.refusal.Cause.{Cause}
use Rattle.and_reader.specs.declared.refusal.Cause.TheVariants as causes
use Rattle.and_reader.specs.Causes.{refusal_with}
use Rattle.and_reader.specs.Causes as views
use Rattle.and_reader.specs.Standing
use Rattle.and_reader.specs.Standing.{IsState, Refuses, IsOver}
use Rattle.and_reader.specs.Reading.{first_place, IsBegun, IsClause, IsRead, IsReadBefore}
use Rattle.and_reader.proofs.Started.{started}
use Rattle.and_model.specs.declared.limits.TheConstants.{MAX_BYTES}

not_empty : (ps : List Placed) (p : Placed) → ps ++ p ∷ [] ≡ [] → ⊥
not_empty [] p e = cc
not_empty (q ∷ ps) p e = cc

first_more : (ps : List Placed) (x : Word) (n m : ℕ) → first_place (ps ++ record { word = x; place = n } ∷ []) m ≡ first_place ps n
first_more [] x n m = refl
first_more (q ∷ ps) x n m = refl

-- A clause is begun.

first_same : (ps : List Placed) (n m : ℕ) → (ps ≡ [] → ⊥) → first_place ps n ≡ first_place ps m
first_same [] n m some = absurd (some refl)
first_same (q ∷ ps) n m some = refl

pub begun_there : (bytes : Bytes) (place : ℕ) (r : Reader) (ws : List Placed) → IsRead bytes r ws → r.is_begun ≡ true → IsReadBefore bytes place r r.clause ws
begun_there bytes place r ws h e =
    let C : Bool → Type 0 = λ o. IsClause bytes o r.clause h.begun in
    let there = subst C e h.rest in
    record {
      text = h.text;
      line = h.line;
      whole = h.whole;
      begun = h.begun;
      joined = h.joined;
      statements = h.statements;
      spelled = h.spelled;
      taken = h.taken;
      rest = record {
        state = there.1.state;
        ran = there.1.ran;
        unended = there.1.unended;
        stands = there.1.stands;
        first = there.1.first;
        line = there.1.line ∙ ap (line_at bytes) (first_same h.begun 0 place there.0);
        drafted = there.1.drafted;
      };
    }

pub begun_here : (bytes : Bytes) (place : ℕ) (r z : Reader) (ws : List Placed) → IsRead bytes r ws → r.is_begun ≡ false → z.bytes ≡ r.bytes
    → z.table ≡ r.table → z.cursor.line ≡ line_at bytes z.cursor.place → IsState z.clause.parser start → z.clause.line ≡ line_at bytes place
    → (draft_of z.clause.parser.draft).line ≡ z.clause.line → IsReadBefore bytes place z z.clause ws
begun_here bytes place r z ws h e text table at stands line drafted =
    let C : Bool → Type 0 = λ o. IsClause bytes o r.clause h.begun in
    let none : h.begun ≡ [] = subst C e h.rest in
    record {
      text = ap (λ y. y.now) text ∙ h.text;
      line = at;
      whole = h.whole;
      begun = h.begun;
      joined = h.joined;
      statements = h.statements;
      spelled = h.spelled;
      taken = subst (λ T. Takes bytes empty h.statements (table_of T)) (sym table) h.taken;
      rest = record {
        state = start;
        ran = ap (λ xs. run true start (words_of xs)) none;
        unended = refl;
        stands = stands;
        first = λ s. none;
        line = line ∙ sym (ap (λ xs. line_at bytes (first_place xs place)) none);
        drafted = drafted;
      };
    }

-- The clause goes on.

pub begun_more : (bytes : Bytes) (place : ℕ) (b c : Begun) (ps : List Placed) (x : Word) (h : IsBegun bytes place b ps) (t : State)
    → step true h.state x ≡ Some t → is_over t ≡ false → IsState c.parser t → c.line ≡ b.line → (draft_of c.parser.draft).line ≡ (draft_of b.parser.draft).line
    → IsClause bytes true c (ps ++ record { word = x; place = place } ∷ [])
begun_more bytes place b c ps x h t e o i l d = (
  not_empty ps (record { word = x; place = place }),
  record {
    state = t;
    ran = run_more true start ps (record { word = x; place = place }) h.state t h.ran e;
    unended = o;
    stands = i;
    first = λ s. absurd (started h.state t x (step_tells true h.state x t e).1 s);
    line = l ∙ (h.line ∙ ap (line_at bytes) (sym (first_more ps x place 0)));
    drafted = d ∙ (h.drafted ∙ sym l);
  },
)

pub read_more : (bytes : Bytes) (place : ℕ) (r : Reader) (b c : Begun) (ws : List Placed) (x : Word) (h : IsReadBefore bytes place r b ws) (t : State)
    → step true h.rest.state x ≡ Some t → is_over t ≡ false → IsState c.parser t → c.line ≡ b.line
    → (draft_of c.parser.draft).line ≡ (draft_of b.parser.draft).line
    → IsRead bytes (record r { is_begun = true; clause = c }) (ws ++ record { word = x; place = place } ∷ [])
read_more bytes place r b c ws x h t e o i l d =
    let p : Placed = record { word = x; place = place } in
    record {
      text = h.text;
      line = h.line;
      whole = h.whole;
      begun = h.begun ++ p ∷ [];
      joined = ap (λ vs. vs ++ p ∷ []) h.joined ∙ append_assoc h.whole h.begun (p ∷ []);
      statements = h.statements;
      spelled = h.spelled;
      taken = h.taken;
      rest = begun_more bytes place b c h.begun x h.rest t e o i l d;
    }

-- Passed words.

pub passed : (bytes : Bytes) (ws whole begun : List Placed) (ss : List Statement) (T : Table) (s : State) → ws ≡ whole ++ begun → IsText true whole ss
    → Takes bytes empty ss T
    → run true start (words_of begun) ≡ Some s → is_over s ≡ false → IsPassed bytes ws
passed bytes ws whole begun ss T s e text taken ran o =
    let P : List Placed → Type 0 = CanGoOn true in
    record {
      whole = whole;
      begun = begun;
      joined = e;
      unended = none_ends true start s begun ran o;
      statements = ss;
      spelled = text;
      table = T;
      taken = taken;
      goes_on = subst P (sym e) (begun_goes_on true whole begun ss s text ran);
    }

pub passed_before : (bytes : Bytes) (place : ℕ) (r : Reader) (b : Begun) (ws : List Placed) → IsReadBefore bytes place r b ws → IsPassed bytes ws
passed_before bytes place r b ws h =
    passed bytes ws h.whole h.begun h.statements (table_of r.table) h.rest.state h.joined h.spelled h.taken h.rest.ran h.rest.unended

clause_state : (bytes : Bytes) (is_begun : Bool) (b : Begun) (ps : List Placed) → IsClause bytes is_begun b ps
    → (s : State) × (run true start (words_of ps) ≡ Some s) × (is_over s ≡ false)
clause_state bytes false b ps e = (start, ap (λ xs. run true start (words_of xs)) e, refl)
clause_state bytes true b ps h = (h.1.state, h.1.ran, h.1.unended)

pub passed_words : (bytes : Bytes) (r : Reader) (ws : List Placed) → IsRead bytes r ws → IsPassed bytes ws
passed_words bytes r ws h =
    let s = clause_state bytes r.is_begun r.clause h.begun h.rest in
    passed bytes ws h.whole h.begun h.statements (table_of r.table) s.0 h.joined h.spelled h.taken s.1 s.2

-- A word is refused.

over_word : (bytes : Bytes) (place : ℕ) (r : Reader) (b : Begun) (ws : List Placed) (p : Placed) (h : IsReadBefore bytes place r b ws) (c : Refusals.Cause)
    → IsOver h.rest.state p.word c → IsRefusedWord ws h.begun p c
over_word bytes place r b ws p h c o =
    let P : Refusals.Cause → Type 0 = λ d. IsRefusedWord ws h.begun p d in
    let G : List Placed → Type 0 = λ vs. CanGoOn false (vs ++ p ∷ []) × (CanGoOn true (vs ++ p ∷ []) → ⊥) in
    let both = subst G (sym h.joined) (word_over_limit h.whole h.begun p h.statements h.rest.state h.spelled h.rest.ran h.rest.unended o.0 o.1 o.2) in
    subst P (sym o.3) (over_limit both.0 both.1)

begins_here : (bytes : Bytes) (place : ℕ) (b : Begun) (ps : List Placed) (h : IsBegun bytes place b ps) → ps ≡ [] → h.state ≡ start
begins_here bytes place b ps h e =
    let f : ◌≡◌ {A = Option State} (Some h.state) (Some start) = sym h.ran ∙ ap (λ xs. run true start (words_of xs)) e in
    cc

syntax_word : (bytes : Bytes) (place : ℕ) (r : Reader) (b : Begun) (ws : List Placed) (p : Placed) (h : IsReadBefore bytes place r b ws)
    → (Standing.IsDirective h.rest.state p.word → ⊥) → go h.rest.state p.word ≡ None → IsRefusedWord ws h.begun p Refusals.syntax
syntax_word bytes place r b ws p h n e =
    let G : List Placed → Type 0 = λ vs. CanGoOn false (vs ++ p ∷ []) → ⊥ in
    no_grammar (λ d. n (begins_here bytes place b h.begun h.rest d.1, d.0))
    (subst G (sym h.joined) (refused_word h.whole h.begun p h.statements h.rest.state h.spelled h.rest.ran h.rest.unended e))

refused_for : (bytes : Bytes) (place : ℕ) (r : Reader) (b : Begun) (ws : List Placed) (p : Placed) (h : IsReadBefore bytes place r b ws) (c : Cause)
    → Refuses h.rest.state p.word c
    → IfSome (views.cause_of c) (IsRefusedWord ws h.begun p)
refused_for bytes place r b ws p h causes.Syntax x = syntax_word bytes place r b ws p h x.0 x.1
refused_for bytes place r b ws p h causes.NotText x = absurd x
refused_for bytes place r b ws p h causes.TooWide x = over_word bytes place r b ws p h Refusals.too_wide x
refused_for bytes place r b ws p h (causes.TooBig what) x = over_word bytes place r b ws p h (Refusals.too_big (what_of what)) x
refused_for bytes place r b ws p h causes.NotPure x = directive (x.1, h.rest.first x.0)
refused_for bytes place r b ws p h (causes.Redefines c n) x = absurd x
refused_for bytes place r b ws p h (causes.Unknown c n) x = absurd x
refused_for bytes place r b ws p h causes.NoQuery x = absurd x
refused_for bytes place r b ws p h causes.SecondQuery x = absurd x
refused_for bytes place r b ws p h causes.Memory x = tt

-- the refusal of a word that the parser refuses
pub word_refused : (bytes : Bytes) (place : ℕ) (r : Reader) (b : Begun) (ws : List Placed) (x : Word) (a : Answer) (h : IsReadBefore bytes place r b ws)
    (c : Cause) → Refuses h.rest.state x c
    → length bytes ≤ MAX_BYTES → HasWords bytes (ws ++ record { word = x; place = place } ∷ []) a
    → IfSome (refusal_with (line_at bytes place) (views.cause_of c)) (IsRefused bytes)
unfolding passed_before passed
word_refused bytes place r b ws x a h c y small w = by (views.cause_of c) (refused_for bytes place r b ws (record { word = x; place = place }) h c y)
  where
    by : (o : Option Refusals.Cause) → IfSome o (IsRefusedWord ws h.begun (record { word = x; place = place }))
        → IfSome (refusal_with (line_at bytes place) o) (IsRefused bytes)
    by None i = tt
    by (Some d) i = at_word ws (record { word = x; place = place }) a d small w (passed_before bytes place r b ws h) i

-- A clause or query is over.

pub over_text : (ps : List Placed) (x : Word) (place : ℕ) (s : State) (q : Sort) (w : Written) → run true start (words_of ps) ≡ Some s
    → step true s x ≡ Some (over q w)
    → IsText true (ps ++ record { word = x; place = place } ∷ []) (record { sort = q; term = w; place = first_place ps place } ∷ [])
over_text [] x place s q w r e =
    one_clause true (record { word = x; place = place }) [] q w (run_more true start [] (record { word = x; place = place }) s (over q w) r e)
over_text (p ∷ ps) x place s q w r e =
    one_clause true p (ps ++ record { word = x; place = place } ∷ []) q w (run_more true start (p ∷ ps) (record { word = x; place = place }) s (over q w) r e)

pub takes_more : (bytes : Bytes) (V : Table) (s : Statement) {T U : Table} {ss : List Statement} → Takes bytes T ss U → statement_fault U s ≡ None
    → V ≡ with_statement bytes U s → Takes bytes T (ss ++ s ∷ []) V
takes_more bytes V s (Refusals.nothing T) f e =
    let P : Table → Type 0 = λ X. Takes bytes T (s ∷ []) X in
    subst P (sym e) (Refusals.more T (with_statement bytes T s) s [] f (Refusals.nothing (with_statement bytes T s)))
takes_more bytes V s (Refusals.more T U u us f h) g e = Refusals.more T V u (us ++ s ∷ []) f (takes_more bytes V s h g e)

-- its clause or query is in the table
pub read_over : (bytes : Bytes) (place : ℕ) (r z : Reader) (b : Begun) (ws : List Placed) (x : Word) (q : Sort) (w : Written)
    (h : IsReadBefore bytes place r b ws) → step true h.rest.state x ≡ Some (over q w)
    → z.bytes ≡ r.bytes → z.cursor ≡ r.cursor → z.is_begun ≡ false
    → statement_fault (table_of r.table) (record { sort = q; term = w; place = first_place h.begun place }) ≡ None
    → table_of z.table ≡ with_statement bytes (table_of r.table) (record { sort = q; term = w; place = first_place h.begun place })
    → IsRead bytes z (ws ++ record { word = x; place = place } ∷ [])
read_over bytes place r z b ws x q w h e sb sc sn f t =
    let p : Placed = record { word = x; place = place } in
    let s : Statement = record { sort = q; term = w; place = first_place h.begun place } in
    let C : Bool → Type 0 = λ o. IsClause bytes o z.clause [] in
    record {
      text = ap (λ y. y.now) sb ∙ h.text;
      line = ap (λ y. y.line) sc ∙ (h.line ∙ ap (λ y. line_at bytes y.place) (sym sc));
      whole = h.whole ++ (h.begun ++ p ∷ []);
      begun = [];
      joined = ap (λ vs. vs ++ p ∷ []) h.joined ∙ (append_assoc h.whole h.begun (p ∷ []) ∙ sym (append-nil (h.whole ++ (h.begun ++ p ∷ []))));
      statements = h.statements ++ s ∷ [];
      spelled = joined true h.whole (h.begun ++ p ∷ []) h.statements (s ∷ []) h.spelled (over_text h.begun x place h.rest.state q w h.rest.ran e);
      taken = takes_more bytes (table_of z.table) s h.taken f t;
      rest = subst C (sym sn) refl;
    }

-- it is refused
pub clause_refused : (bytes : Bytes) (place : ℕ) (r : Reader) (b : Begun) (ws : List Placed) (x : Word) (a : Answer) (q : Sort) (w : Written)
    (h : IsReadBefore bytes place r b ws) → step true h.rest.state x ≡ Some (over q w)
    → length bytes ≤ MAX_BYTES → HasWords bytes (ws ++ record { word = x; place = place } ∷ []) a → (f : Tables.Fault)
    → statement_fault (table_of r.table) (record { sort = q; term = w; place = first_place h.begun place }) ≡ Some f
    → IsRefused bytes (at bytes (first_place h.begun place) (cause_of f))
clause_refused bytes place r b ws x a q w h e small hw f g =
    let p : Placed = record { word = x; place = place } in
    let s : Statement = record { sort = q; term = w; place = first_place h.begun place } in
    let P : List Placed → Type 0 = λ vs. HasWords bytes vs a in
    at_clause h.whole (h.begun ++ p ∷ []) a (table_of r.table) s f small
    (subst P (ap (λ vs. vs ++ p ∷ []) h.joined ∙ append_assoc h.whole h.begun (p ∷ [])) hw)
    (record { statements = h.statements; spelled = h.spelled; taken = h.taken })
    (over_text h.begun x place h.rest.state q w h.rest.ran e) g

-- The text ends.

pub fault_refused : (bytes : Bytes) (r : Reader) (ws : List Placed) (f : Tokens.Fault) → IsRead bytes r ws → length bytes ≤ MAX_BYTES
    → HasWords bytes ws (none_for f) → IsRefused bytes (fault_at bytes f)
fault_refused bytes r ws f h small hw = at_token ws f small hw (passed_words bytes r ws h)

pub end_refused : (bytes : Bytes) (r : Reader) (ws : List Placed) → IsRead bytes r ws → r.is_begun ≡ true → length bytes ≤ MAX_BYTES
    → HasWords bytes ws no_more
    → IsRefused bytes (at bytes (length bytes) Refusals.syntax)
unfolding passed_words passed
end_refused bytes r ws h e small hw =
    let C : Bool → Type 0 = λ o. IsClause bytes o r.clause h.begun in
    unended ws small hw (passed_words bytes r ws h) (subst C e h.rest).0

pub read_whole : (bytes : Bytes) (r : Reader) (ws : List Placed) → IsRead bytes r ws → r.is_begun ≡ false → IsTaken bytes ws (table_of r.table)
read_whole bytes r ws h e =
    let C : Bool → Type 0 = λ o. IsClause bytes o r.clause h.begun in
    let none : h.begun ≡ [] = subst C e h.rest in
    let T : List Placed → Type 0 = λ vs. IsText true vs h.statements in
    let same : ws ≡ h.whole = h.joined ∙ (ap (λ vs. h.whole ++ vs) none ∙ append-nil h.whole) in
    record { statements = h.statements; spelled = subst T (sym same) h.spelled; taken = h.taken }
