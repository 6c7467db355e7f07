-- The one refusal of a text: a function of its words, to which each refusal comes.
use Rattle.std.proofs.Common.{◌≡◌, ◌⊎◌, inl, inr, ℕ, ◌≤◌, ◌<◌, Bool, true, false, true≢false, cond, List, [], ◌∷◌, ◌++◌, length, Option, Some, None, sym}
use Rattle.std.proofs.Common.{refl, ap, ◌∙◌, subst, arith, codes}
use Rattle.std.specs.Str.{bytes_eq}
use Rattle.std.proofs.lemmas.Slice.Eq.{bytes_eq-Decides}
use Rattle.and_model.specs.Lines.{Bytes}
use Rattle.and_source.specs.Source.{SourceClause, SourceProgram}
use Rattle.and_syntax.specs.Written.{Written}
use Rattle.and_syntax.specs.Tables
use Rattle.and_syntax.specs.Tables.{Table, Unknown, source, empty, unknown_of, program_of}
use Rattle.and_language.specs.Tokens.{Token, Answer, no_more, one, none_for}
use Rattle.and_language.specs.Words.{Word, Placed}
use Rattle.and_language.specs.Words as words
use Rattle.and_language.specs.Grammar.{Sort, Statement, IsText, CanGoOn}
use Rattle.and_language.specs.Grammar as grammar
use Rattle.and_language.specs.Refusals
use Rattle.and_language.specs.Refusals.{Cause, Refusal, at, cause_of, limit_of, fault_at, Takes, HasWords, NoneEnds, IsPassed, IsDirective, IsRefusedWord}
use Rattle.and_language.specs.Refusals.{directive, no_grammar, over_limit, IsTaken, IsRefused, too_long, at_word, at_clause, at_token, unended, without_query}
use Rattle.and_language.specs.Refusals.{with_unknown, statement_fault, with_statement, IsTextOf}
use Rattle.and_automaton.specs.Machine.{State, start, inside, opened_list, over, is_over, go, exceeds, step, run, words_of}
use Rattle.and_automaton.proofs.Steps.{stepped, step_tells}
use Rattle.and_automaton.proofs.Accepted.{and_then_tells}
use Rattle.and_automaton.proofs.Derived.{clause_taken}
use Rattle.and_automaton.proofs.Texts.{word_goes_on, text_free, run_free}
use Rattle.and_automaton.proofs.Begun.{goes_on_begun}
use Rattle.and_reader.proofs.Started.{started}
use Rattle.and_reader.proofs.Fronts.{Fronts, same, longer, shorter, fronts}
use Rattle.and_model.specs.declared.limits.TheConstants.{MAX_BYTES}

-- What the words of a text have come to: a refusal; or a table, with the place of the first word of the clause that is begun and the state behind its words.
data Outcome : Type 0 where
  refused : Refusal → Outcome
  reached : Table → ℕ → State → Outcome

abbrev pub is_neck : Word → Bool
is_neck (words.name c) = bytes_eq c (codes ":-")
is_neck x = false

pub neck_word : (x : Word) → is_neck x ≡ true → x ≡ words.name (codes ":-")
neck_word (words.name c) e = ap (λ d. words.name d) ((bytes_eq-Decides c (codes ":-")).0 e)
neck_word x e = absurd (true≢false (sym e))

-- why a word is refused that the state does not take
abbrev cause_at : State → Word → Cause
cause_at start x = cond (is_neck x) Refusals.not_pure Refusals.syntax
cause_at (inside l fs p m) x = Refusals.syntax
cause_at (opened_list l fs p) x = Refusals.syntax
cause_at (over q w) x = Refusals.syntax

-- the place of the clause's first word
abbrev place_of : State → ℕ → ℕ → ℕ
place_of start n m = m
place_of (inside l fs p k) n m = n
place_of (opened_list l fs p) n m = n
place_of (over q w) n m = n

abbrev put : Bytes → Table → Statement → Option Tables.Fault → Outcome
put bytes T s None = reached (with_statement bytes T s) 0 start
put bytes T s (Some f) = refused (at bytes s.place (cause_of f))

abbrev statement : Sort → Written → ℕ → Statement
statement q w n = record { sort = q; term = w; place = n }

abbrev settled : Bytes → Table → ℕ → State → Outcome
settled bytes T n (over q w) = put bytes T (statement q w n) (statement_fault T (statement q w n))
settled bytes T n start = reached T n start
settled bytes T n (inside l fs p m) = reached T n (inside l fs p m)
settled bytes T n (opened_list l fs p) = reached T n (opened_list l fs p)

abbrev gone : Bytes → Table → ℕ → State → Placed → Option State → Outcome
gone bytes T n s p None = refused (at bytes p.place (cause_at s p.word))
gone bytes T n s p (Some t) = cond (exceeds s p.word) (refused (at bytes p.place (limit_of p.word))) (settled bytes T (place_of s n p.place) t)

abbrev next : Bytes → Outcome → Placed → Outcome
next bytes (refused r) p = refused r
next bytes (reached T n s) p = gone bytes T n s p (go s p.word)

abbrev outcome : Bytes → Outcome → List Placed → Outcome
outcome bytes o [] = o
outcome bytes o (p ∷ ps) = outcome bytes (next bytes o p) ps

abbrev beginning : Outcome
beginning = reached empty 0 start

stays : (bytes : Bytes) (r : Refusal) (ps : List Placed) → outcome bytes (refused r) ps ≡ refused r
stays bytes r [] = refl
stays bytes r (p ∷ ps) = stays bytes r ps

both : (bytes : Bytes) (o : Outcome) (ps qs : List Placed) → outcome bytes o (ps ++ qs) ≡ outcome bytes (outcome bytes o ps) qs
both bytes o [] qs = refl
both bytes o (p ∷ ps) qs = both bytes (next bytes o p) ps qs

step_settled : (bytes : Bytes) (T : Table) (n : ℕ) (s t : State) (p : Placed) → step true s p.word ≡ Some t
    → next bytes (reached T n s) p ≡ settled bytes T (place_of s n p.place) t
step_settled bytes T n s t p e =
    let told = step_tells true s p.word t e in
    ap (gone bytes T n s p) told.1 ∙ ap (λ b. cond b (refused (at bytes p.place (limit_of p.word))) (settled bytes T (place_of s n p.place) t)) (told.0 refl)

-- words within a clause, to its end if that is among them
run_settled : (bytes : Bytes) (T : Table) (ps : List Placed) (n : ℕ) (s t : State) (p : Placed) → run true s (words_of (p ∷ ps)) ≡ Some t
    → outcome bytes (reached T n s) (p ∷ ps) ≡ settled bytes T (place_of s n p.place) t
run_settled bytes T [] n s t p e =
    let (u, taken, more) = and_then_tells (step true s p.word) (λ z. Some z) t e in
    let is : u ≡ t = cc in
    step_settled bytes T n s u p taken ∙ ap (settled bytes T (place_of s n p.place)) is
run_settled bytes T (q ∷ ps) n s t p e =
    let (u, taken, more) = and_then_tells (step true s p.word) (λ z. run true z (words_of (q ∷ ps))) t e in
    ap (λ o. outcome bytes o (q ∷ ps)) (step_settled bytes T n s u p taken)
    ∙ by u (started s u p.word (step_tells true s p.word u taken).1) more (λ z m. run_settled bytes T ps m z t q)
  where
    by : (u : State) → (u ≡ start → ⊥) → run true u (words_of (q ∷ ps)) ≡ Some t
        → ((z : State) (m : ℕ) → run true z (words_of (q ∷ ps)) ≡ Some t → outcome bytes (reached T m z) (q ∷ ps) ≡ settled bytes T (place_of z m q.place) t)
        → outcome bytes (settled bytes T (place_of s n p.place) u) (q ∷ ps) ≡ settled bytes T (place_of s n p.place) t
    by start f g h = absurd (f refl)
    by (inside l fs k m) f g h = h (inside l fs k m) (place_of s n p.place) g
    by (opened_list l fs k) f g h = h (opened_list l fs k) (place_of s n p.place) g
    by (over k w) f g h = cc

clause_settled : (bytes : Bytes) (T : Table) (first : Placed) (others : List Placed) (q : Sort) (w : Written)
    → grammar.IsClause true (words_of (first ∷ others)) q w
    → outcome bytes (reached T 0 start) (first ∷ others) ≡ put bytes T (statement q w first.place) (statement_fault T (statement q w first.place))
clause_settled bytes T first others q w c = run_settled bytes T others 0 start (over q w) first (clause_taken true c)

-- whole clauses and queries
text_settled : (bytes : Bytes) {ws : List Placed} {ss : List Statement} → IsText true ws ss → (T U : Table) → Takes bytes T ss U
    → outcome bytes (reached T 0 start) ws ≡ reached U 0 start
text_settled bytes IsText.nothing T U (Refusals.nothing V) = refl
text_settled bytes (IsText.statement first others rest whole q w more is clause text) T U (Refusals.more V W s ss f h) =
    ap (outcome bytes (reached T 0 start)) is
    ∙ (both bytes (reached T 0 start) (first ∷ others) rest
    ∙ (ap (λ o. outcome bytes o rest) (clause_settled bytes T first others q w clause ∙ ap (put bytes T (statement q w first.place)) f)
    ∙ text_settled bytes text (with_statement bytes T (statement q w first.place)) U h))

-- Words that are passed have come to a state.
record IsReached (bytes : Bytes) (ws : List Placed) (h : IsPassed bytes ws) : Type 0 where
  state : State
  place : ℕ
  ran : run true start (words_of h.begun) ≡ Some state
  on : is_over state ≡ false
  first : state ≡ start → h.begun ≡ []
  outcome_is : outcome bytes beginning ws ≡ reached h.table place state

run_first : (ps : List Placed) (s : State) → run true start (words_of ps) ≡ Some s → s ≡ start → ps ≡ []
run_first [] s e h = refl
run_first (p ∷ ps) s e h =
    let (u, taken, more) = and_then_tells (step true start p.word) (λ z. run true z (words_of ps)) s e in
    absurd (later ps u (started start u p.word (step_tells true start p.word u taken).1) more)
  where
    later : (qs : List Placed) (u : State) → (u ≡ start → ⊥) → run true u (words_of qs) ≡ Some s → ⊥
    later [] u f g = f (let same : u ≡ s = cc in same ∙ h)
    later (q ∷ qs) u f g =
        let (v, taken, more) = and_then_tells (step true u q.word) (λ z. run true z (words_of qs)) s g in
        later qs v (started u v q.word (step_tells true u q.word v taken).1) more

begun_settled : (bytes : Bytes) (T : Table) (ps : List Placed) (s : State) → run true start (words_of ps) ≡ Some s → is_over s ≡ false
    → (n : ℕ) × (outcome bytes (reached T 0 start) ps ≡ reached T n s)
begun_settled bytes T [] s e o = (0, ap (reached T 0) (let same : start ≡ s = cc in same))
begun_settled bytes T (p ∷ ps) s e o = (p.place, run_settled bytes T ps 0 start s p e ∙ by s o)
  where
    by : (t : State) → is_over t ≡ false → settled bytes T p.place t ≡ reached T p.place t
    by start o = refl
    by (inside l fs k m) o = refl
    by (opened_list l fs k) o = refl
    by (over q w) o = cc

passed_reached : (bytes : Bytes) (ws : List Placed) (h : IsPassed bytes ws) → IsReached bytes ws h
passed_reached bytes ws h =
    let G : List Placed → Type 0 = CanGoOn true in
    let (s, ran, on) = goes_on_begun true h.whole h.begun h.statements h.spelled h.unended (subst G h.joined h.goes_on) in
    let last = begun_settled bytes h.table h.begun s ran on in
    record {
      state = s;
      place = last.0;
      ran = ran;
      on = on;
      first = run_first h.begun s ran;
      outcome_is = ap (outcome bytes beginning) h.joined ∙ (both bytes beginning h.whole h.begun
          ∙ (ap (λ o. outcome bytes o h.begun) (text_settled bytes h.spelled empty h.table h.taken) ∙ last.1));
    }

-- A refused word.

module _ (bytes : Bytes) (ws : List Placed) (h : IsPassed bytes ws) (p : Placed) where
  syntax_at : (s : State) → (s ≡ start → h.begun ≡ []) → (IsDirective h.begun p.word → ⊥) → cause_at s p.word ≡ Refusals.syntax
  syntax_at start f n = by (is_neck p.word) (λ e. n (neck_word p.word e, f refl))
    where
      by : (b : Bool) → (b ≡ true → ⊥) → cond b Refusals.not_pure Refusals.syntax ≡ Refusals.syntax
      by true k = absurd (k refl)
      by false k = refl
  syntax_at (inside l fs q m) f n = refl
  syntax_at (opened_list l fs q) f n = refl
  syntax_at (over q w) f n = refl

  goes : (r : IsReached bytes ws h) (t : State) → go r.state p.word ≡ Some t → CanGoOn false (ws ++ p ∷ [])
  goes r t e =
      let G : List Placed → Type 0 = λ vs. CanGoOn false (vs ++ p ∷ []) in
      subst G (sym h.joined) ((word_goes_on false h.whole h.begun p h.statements r.state (text_free h.whole h.statements h.spelled)
      (run_free start r.state (words_of h.begun) r.ran) r.on).1 (t, e))

  word_refused : (c : Cause) → IsRefusedWord ws h.begun p c → (r : IsReached bytes ws h)
      → next bytes (reached h.table r.place r.state) p ≡ refused (at bytes p.place c)
  word_refused c (directive d) r =
      let is : start ≡ r.state =
      let e : ◌≡◌ {A = Option State} (Some r.state) (Some start) = sym r.ran ∙ ap (λ ps. run true start (words_of ps)) d.1 in
      cc in
      let P : State → Type 0 = λ s. gone bytes h.table r.place s p (go s p.word) ≡ refused (at bytes p.place Refusals.not_pure) in
      let Q : Word → Type 0 = λ x. gone bytes h.table r.place start (record { word = x; place = p.place }) (go start x)
      ≡ refused (at bytes p.place Refusals.not_pure) in
      subst P is (subst Q (sym d.0) refl)
  word_refused c (no_grammar n g) r = by (go r.state p.word) (goes r)
    where
      by : (o : Option State) → ((t : State) → o ≡ Some t → CanGoOn false (ws ++ p ∷ []))
          → gone bytes h.table r.place r.state p o ≡ refused (at bytes p.place Refusals.syntax)
      by None k = ap (λ d. refused (at bytes p.place d)) (syntax_at r.state r.first n)
      by (Some t) k = absurd (g (k t refl))
  word_refused c (over_limit f g) r =
      let G : List Placed → Type 0 = λ vs. CanGoOn false (vs ++ p ∷ []) in
      let (t, e) = (word_goes_on false h.whole h.begun p h.statements r.state (text_free h.whole h.statements h.spelled)
      (run_free start r.state (words_of h.begun) r.ran) r.on).0 (subst G h.joined f) in
      ap (gone bytes h.table r.place r.state p) e ∙ by t (exceeds r.state p.word) (λ low. stepped true r.state p.word t (λ _. low) e)
    where
      by : (t : State) (b : Bool) → (b ≡ false → step true r.state p.word ≡ Some t)
          → cond b (refused (at bytes p.place (limit_of p.word))) (settled bytes h.table (place_of r.state r.place p.place) t)
          ≡ refused (at bytes p.place (limit_of p.word))
      by t true k = refl
      by t false k =
          let G : List Placed → Type 0 = λ vs. CanGoOn true (vs ++ p ∷ []) in
          absurd (g (subst G (sym h.joined) ((word_goes_on true h.whole h.begun p h.statements r.state h.spelled r.ran r.on).1 (t, k refl))))

  outcome_refused : (c : Cause) → IsRefusedWord ws h.begun p c → outcome bytes beginning (ws ++ p ∷ []) ≡ refused (at bytes p.place c)
  outcome_refused c i =
      let r = passed_reached bytes ws h in
      both bytes beginning ws (p ∷ []) ∙ (ap (λ o. next bytes o p) r.outcome_is ∙ word_refused c i r)

-- A refused clause.
clause_outcome : (bytes : Bytes) (T : Table) (f : Tables.Fault) (s : Statement) {us : List Placed} → IsText true us (s ∷ []) → statement_fault T s ≡ Some f
    → outcome bytes (reached T 0 start) us ≡ refused (at bytes s.place (cause_of f))
clause_outcome bytes T f s (IsText.statement first others rest whole q w more is clause text) e =
    ap (outcome bytes (reached T 0 start)) is
    ∙ (both bytes (reached T 0 start) (first ∷ others) rest
    ∙ (ap (λ o. outcome bytes o rest) (clause_settled bytes T first others q w clause ∙ ap (put bytes T (statement q w first.place)) e)
    ∙ stays bytes (at bytes first.place (cause_of f)) rest))

-- What is told of a text whose words have come to that, and behind which that answer comes.

abbrev unknown_end : Option Unknown → Option Refusal
unknown_end None = None
unknown_end (Some u) = Some (record { cause = Refusals.unknown u.name u.arity; line = u.line })

abbrev table_end : Bytes → Table → Option SourceClause → Option Refusal
table_end bytes T None = Some (at bytes (length bytes) Refusals.no_query)
table_end bytes T (Some a) = unknown_end (unknown_of T a)

abbrev at_end : Bytes → Table → State → Option Refusal
at_end bytes T start = table_end bytes T T.asked
at_end bytes T (inside l fs p m) = Some (at bytes (length bytes) Refusals.syntax)
at_end bytes T (opened_list l fs p) = Some (at bytes (length bytes) Refusals.syntax)
at_end bytes T (over q w) = Some (at bytes (length bytes) Refusals.syntax)

abbrev told : Bytes → Outcome → Answer → Option Refusal
told bytes (refused r) a = Some r
told bytes (reached T n s) (one t) = None
told bytes (reached T n s) (none_for f) = Some (fault_at bytes f)
told bytes (reached T n s) no_more = at_end bytes T s

-- The words with that answer behind them tell the refusal.
record Tells (bytes : Bytes) (o : Option Refusal) : Type 0 where
  small : length bytes ≤ MAX_BYTES
  words : List Placed
  answer : Answer
  spelled : HasWords bytes words answer
  judged : told bytes (outcome bytes beginning words) answer ≡ o

not_start : (s : State) → (s ≡ start → ⊥) → (bytes : Bytes) (T : Table) → at_end bytes T s ≡ Some (at bytes (length bytes) Refusals.syntax)
not_start start n bytes T = absurd (n refl)
not_start (inside l fs p m) n bytes T = refl
not_start (opened_list l fs p) n bytes T = refl
not_start (over q w) n bytes T = refl

taken_outcome : (bytes : Bytes) (ws : List Placed) (T : Table) → IsTaken bytes ws T → outcome bytes beginning ws ≡ reached T 0 start
taken_outcome bytes ws T h = text_settled bytes h.spelled empty T h.taken

refusal_told : (bytes : Bytes) (r : Refusal) → IsRefused bytes r
    → ((MAX_BYTES < length bytes) × (r ≡ at bytes MAX_BYTES (Refusals.too_big source))) ⊎ Tells bytes (Some r)
refusal_told bytes r (too_long l) = inl (l, refl)
refusal_told bytes r (at_word ws p a c small hw passed i) = inr (record {
  small = small;
  words = ws ++ p ∷ [];
  answer = a;
  spelled = hw;
  judged = ap (λ o. told bytes o a) (outcome_refused bytes ws passed p c i);
})
refusal_told bytes r (at_clause ws us a T s f small hw taken text e) = inr (record {
  small = small;
  words = ws ++ us;
  answer = a;
  spelled = hw;
  judged = ap (λ o. told bytes o a) (both bytes beginning ws us
      ∙ (ap (λ o. outcome bytes o us) (taken_outcome bytes ws T taken) ∙ clause_outcome bytes T f s text e));
})
refusal_told bytes r (at_token ws f small hw passed) = inr (record {
  small = small;
  words = ws;
  answer = none_for f;
  spelled = hw;
  judged = ap (λ o. told bytes o (none_for f)) (passed_reached bytes ws passed).outcome_is;
})
refusal_told bytes r (unended ws small hw passed n) =
    let h = passed_reached bytes ws passed in
    inr (record {
      small = small;
      words = ws;
      answer = no_more;
      spelled = hw;
      judged = ap (λ o. told bytes o no_more) h.outcome_is ∙ not_start h.state (λ e. n (h.first e)) bytes passed.table;
    })
refusal_told bytes r (without_query ws T small hw taken e) = inr (record {
  small = small;
  words = ws;
  answer = no_more;
  spelled = hw;
  judged = ap (λ o. told bytes o no_more) (taken_outcome bytes ws T taken) ∙ ap (table_end bytes T) e;
})
refusal_told bytes r (with_unknown ws T a u small hw taken e f) = inr (record {
  small = small;
  words = ws;
  answer = no_more;
  spelled = hw;
  judged = ap (λ o. told bytes o no_more) (taken_outcome bytes ws T taken) ∙ (ap (table_end bytes T) e ∙ ap unknown_end f);
})

read_told : (bytes : Bytes) (p : SourceProgram) (h : IsTextOf bytes p) → told bytes (outcome bytes beginning h.words) no_more ≡ None
read_told bytes p h = ap (λ o. told bytes o no_more) (taken_outcome bytes h.words h.table h.taken)
    ∙ (ap (table_end bytes h.table) h.asked ∙ ap unknown_end h.known)

-- What is told before more words is told with them.
told_longer : (bytes : Bytes) (o : Outcome) (t : Token) (es : List Placed) (b : Answer) (r : Refusal) → told bytes o (one t) ≡ Some r
    → told bytes (outcome bytes o es) b ≡ Some r
told_longer bytes (refused q) t es b r e = ap (λ x. told bytes x b) (stays bytes q es) ∙ e
told_longer bytes (reached T n s) t es b r e = cc

one_refusal_told : (bytes : Bytes) (r s : Refusal) (h : Tells bytes (Some r)) (k : Tells bytes (Some s)) → Fronts h.words k.words h.answer k.answer
    → ◌≡◌ {A = Option Refusal} (Some r) (Some s)
one_refusal_told bytes r s h k (same e f) =
    sym h.judged ∙ (ap (λ ws. told bytes (outcome bytes beginning ws) h.answer) e ∙ (ap (told bytes (outcome bytes beginning k.words)) f ∙ k.judged))
one_refusal_told bytes r s h k (longer es t e f) =
    let going = ap (told bytes (outcome bytes beginning h.words)) (sym f) ∙ h.judged in
    sym (told_longer bytes (outcome bytes beginning h.words) t es k.answer r going)
    ∙ (ap (λ o. told bytes o k.answer) (sym (both bytes beginning h.words es))
    ∙ (ap (λ ws. told bytes (outcome bytes beginning ws) k.answer) (sym e) ∙ k.judged))
one_refusal_told bytes r s h k (shorter es t e f) =
    let going = ap (told bytes (outcome bytes beginning k.words)) (sym f) ∙ k.judged in
    sym (sym (told_longer bytes (outcome bytes beginning k.words) t es h.answer s going)
    ∙ (ap (λ o. told bytes o h.answer) (sym (both bytes beginning k.words es))
    ∙ (ap (λ ws. told bytes (outcome bytes beginning ws) h.answer) (sym e) ∙ h.judged)))

-- a text has one refusal
pub refused_once : (bytes : Bytes) (r s : Refusal) → IsRefused bytes r → IsRefused bytes s → r ≡ s
refused_once bytes r s h k = by (refusal_told bytes r h) (refusal_told bytes s k)
  where
    by : ((MAX_BYTES < length bytes) × (r ≡ at bytes MAX_BYTES (Refusals.too_big source))) ⊎ Tells bytes (Some r)
        → ((MAX_BYTES < length bytes) × (s ≡ at bytes MAX_BYTES (Refusals.too_big source))) ⊎ Tells bytes (Some s) → r ≡ s
    by (inl x) (inl y) = x.1 ∙ sym y.1
    by (inl x) (inr y) = absurd (omega (arith, x.0, y.small))
    by (inr x) (inl y) = absurd (omega (arith, x.small, y.0))
    by (inr x) (inr y) = let e = one_refusal_told bytes r s x y (fronts bytes x.words y.words x.answer y.answer x.spelled y.spelled) in cc

-- a text that reads as a program has none
read_told_otherwise : (bytes : Bytes) (p : SourceProgram) (r : Refusal) (h : IsTextOf bytes p) (k : Tells bytes (Some r))
    → Fronts h.words k.words no_more k.answer → ⊥
read_told_otherwise bytes p r h k (same e f) =
    let read : told bytes (outcome bytes beginning h.words) no_more ≡ None = (read_told bytes p h) in
    let there = sym read ∙ (ap (λ ws. told bytes (outcome bytes beginning ws) no_more) e ∙ (ap (told bytes (outcome bytes beginning k.words)) f ∙ k.judged)) in
    cc
read_told_otherwise bytes p r h k (longer es t e f) = cc
read_told_otherwise bytes p r h k (shorter es t e f) =
    let read : told bytes (outcome bytes beginning h.words) no_more ≡ None = (read_told bytes p h) in
    let going = ap (told bytes (outcome bytes beginning k.words)) (sym f) ∙ k.judged in
    let there = sym (told_longer bytes (outcome bytes beginning k.words) t es no_more r going)
    ∙ (ap (λ o. told bytes o no_more) (sym (both bytes beginning k.words es)) ∙ (ap (λ ws. told bytes (outcome bytes beginning ws) no_more) (sym e) ∙ read)) in
    cc

pub read_not_refused : (bytes : Bytes) (p : SourceProgram) (r : Refusal) → IsTextOf bytes p → IsRefused bytes r → ⊥
read_not_refused bytes p r h k = by (refusal_told bytes r k)
  where
    by : ((MAX_BYTES < length bytes) × (r ≡ at bytes MAX_BYTES (Refusals.too_big source))) ⊎ Tells bytes (Some r) → ⊥
    by (inl x) = absurd (omega (arith, x.0, h.size))
    by (inr x) = read_told_otherwise bytes p r h x (fronts bytes h.words x.words no_more x.answer h.spelled x.spelled)

-- A text reads as one program.

same_words : (ws vs : List Placed) → Fronts ws vs no_more no_more → ws ≡ vs
same_words ws vs (same e f) = e
same_words ws vs (longer es t e f) = cc
same_words ws vs (shorter es t e f) = cc

pub read_once : (bytes : Bytes) (p q : SourceProgram) → IsTextOf bytes p → IsTextOf bytes q → p ≡ q
read_once bytes p q h k =
    let words : h.words ≡ k.words = same_words h.words k.words (fronts bytes h.words k.words no_more no_more h.spelled k.spelled) in
    let reached_both = sym (taken_outcome bytes h.words h.table h.taken) ∙ (ap (outcome bytes beginning) words ∙ taken_outcome bytes k.words k.table k.taken) in
    let table : h.table ≡ k.table = cc in
    let asked : ◌≡◌ {A = Option SourceClause} (Some h.query) (Some k.query) = sym h.asked ∙ (ap (λ (T : Table). T.asked) table ∙ k.asked) in
    let query : h.query ≡ k.query = cc in
    sym h.program ∙ (ap (λ T. program_of T h.query) table ∙ (ap (program_of k.table) query ∙ k.program))
