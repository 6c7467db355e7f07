-- A text is read token by token, up to a refusal or its end.
use Rattle.std.proofs.Common.{◌≡◌, ◌⊎◌, inl, inr, ℕ, zero, suc, ◌+◌, ◌≤◌, ◌<◌, Bool, true, false, List, [], ◌∷◌, ◌++◌, length, Option, Some, None, sym, refl}
use Rattle.std.proofs.Common.{ap, ◌∙◌, subst, arith, append_assoc}
use Rattle.std.proofs.lemmas.Bool.{cases_lt}
use Rattle.std.proofs.lemmas.List.{append-nil}
use Rattle.and_model.specs.Lines.{Bytes}
use Rattle.and_source.specs.Source.{SourceClause, SourceProgram}
use Rattle.and_syntax.specs.Written.{Written}
use Rattle.and_syntax.specs.Tables
use Rattle.and_syntax.specs.Tables.{Table, Unknown, source, empty, unknown_of, program_of}
use Rattle.and_language.specs.Tokens.{Answer, no_more, one, none_for, IsFront}
use Rattle.and_language.specs.Words.{Word, Placed, before}
use Rattle.and_language.specs.Grammar.{Sort, Statement, IsText, CanGoOn}
use Rattle.and_language.specs.Refusals
use Rattle.and_language.specs.Refusals.{Refusal, at, cause_of, limit_of, Takes, HasWords, IsPassed, IsDirective, directive, no_grammar, over_limit, IsTaken}
use Rattle.and_language.specs.Refusals.{IsRefused, too_long, at_word, at_clause, at_token, unended, without_query, with_unknown, statement_fault}
use Rattle.and_language.specs.Refusals.{with_statement, Reads}
use Rattle.and_automaton.specs.Machine.{State, start, inside, opened_list, over, is_over, go, exceeds, step, run, words_of}
use Rattle.and_automaton.proofs.Steps.{stepped, run_more}
use Rattle.and_automaton.proofs.Texts.{joined}
use Rattle.and_automaton.proofs.Begun.{refused_word, word_over_limit, goes_on_begun}
use Rattle.and_lex.proofs.Valid.{each_front}
use Rattle.and_lex.proofs.Coming.{EndsBetween, each_place}
use Rattle.and_reader.specs.Reading.{first_place}
use Rattle.and_reader.proofs.Spelling.{each_word, no_words, more_words}
use Rattle.and_reader.proofs.ReadingLemmas.{passed, over_text, takes_more}
use Rattle.and_reader.proofs.Judgement.{is_neck, neck_word}
use Rattle.and_model.specs.declared.limits.TheConstants.{MAX_BYTES}

abbrev Judged : Bytes → Type 0
Judged bytes = ((P : SourceProgram) × Reads bytes P) ⊎ ((r : Refusal) × IsRefused bytes r)

nothing_passed : (bytes : Bytes) → IsPassed bytes []
nothing_passed bytes = passed bytes [] [] [] [] empty start refl IsText.nothing (Refusals.nothing empty) refl refl

-- One more word.

-- it begins a directive, or does not
is_directive : (begun : List Placed) (x : Word) → IsDirective begun x ⊎ (IsDirective begun x → ⊥)
is_directive (q ∷ qs) x = inr (λ d. let e = d.1 in cc)
is_directive [] x = by (is_neck x) refl
  where
    by : (b : Bool) → is_neck x ≡ b → IsDirective [] x ⊎ (IsDirective [] x → ⊥)
    by true e = inl (neck_word x e, refl)
    by false e = inr (λ d. let f : is_neck x ≡ true = ap is_neck d.0 in cc)

-- Behind words that are passed, of which those of the clause that is begun have led to a state.
module _ (bytes : Bytes) (small : length bytes ≤ MAX_BYTES) (ws : List Placed) (p : Placed) (a : Answer) (hw : HasWords bytes (ws ++ p ∷ []) a)
    (h : IsPassed bytes ws)
    (s : State) (ran : run true start (words_of h.begun) ≡ Some s) (on : is_over s ≡ false) where
  -- the text is judged by that word, or it is passed
  abbrev Further : Type 0
  Further = Judged bytes ⊎ IsPassed bytes (ws ++ p ∷ [])

  on_joined : ws ++ p ∷ [] ≡ h.whole ++ (h.begun ++ p ∷ [])
  on_joined = ap (λ vs. vs ++ p ∷ []) h.joined ∙ append_assoc h.whole h.begun (p ∷ [])

  -- the word refused for that cause
  refuse : (c : Refusals.Cause) → Refusals.IsRefusedWord ws h.begun p c → Further
  refuse c i = inl (inr (at bytes p.place c, at_word ws p a c small hw h i))

  begins_directive : IsDirective h.begun p.word → Further
  begins_directive d = refuse Refusals.not_pure (directive d)

  not_taken : (IsDirective h.begun p.word → ⊥) → go s p.word ≡ None → Further
  not_taken n e =
      let G : List Placed → Type 0 = λ vs. CanGoOn false (vs ++ p ∷ []) → ⊥ in
      refuse Refusals.syntax (no_grammar n (subst G (sym h.joined) (refused_word h.whole h.begun p h.statements s h.spelled ran on e)))

  too_much : (t : State) → go s p.word ≡ Some t → exceeds s p.word ≡ true → Further
  too_much t e o =
      let G : List Placed → Type 0 = λ vs. CanGoOn false (vs ++ p ∷ []) × (CanGoOn true (vs ++ p ∷ []) → ⊥) in
      let both = subst G (sym h.joined) (word_over_limit h.whole h.begun p h.statements s h.spelled ran on t e o) in
      refuse (limit_of p.word) (over_limit both.0 both.1)

  goes_further : (t : State) → step true s p.word ≡ Some t → is_over t ≡ false → Further
  goes_further t e o =
      inr (passed bytes (ws ++ p ∷ []) h.whole (h.begun ++ p ∷ []) h.statements h.table t on_joined h.spelled h.taken
      (run_more true start h.begun p s t ran e) o)

  -- the clause or query that it ends
  abbrev ended : Sort → Written → Statement
  ended q w = record { sort = q; term = w; place = first_place h.begun p.place }

  ended_text : (q : Sort) (w : Written) → step true s p.word ≡ Some (over q w) → IsText true (h.begun ++ p ∷ []) (ended q w ∷ [])
  ended_text q w e = over_text h.begun p.word p.place s q w ran e

  clause_taken : (q : Sort) (w : Written) → step true s p.word ≡ Some (over q w) → statement_fault h.table (ended q w) ≡ None → Further
  clause_taken q w e f =
      let T : Table = with_statement bytes h.table (ended q w) in
      let whole : List Placed = h.whole ++ (h.begun ++ p ∷ []) in
      inr (passed bytes (ws ++ p ∷ []) whole [] (h.statements ++ ended q w ∷ []) T start
      (on_joined ∙ sym (append-nil whole))
      (joined true h.whole (h.begun ++ p ∷ []) h.statements (ended q w ∷ []) h.spelled (ended_text q w e))
      (takes_more bytes T (ended q w) h.taken f refl) refl refl)

  clause_refused : (q : Sort) (w : Written) → step true s p.word ≡ Some (over q w) → (f : Tables.Fault) → statement_fault h.table (ended q w) ≡ Some f → Further
  clause_refused q w e f g =
      let H : List Placed → Type 0 = λ vs. HasWords bytes vs a in
      let taken : IsTaken bytes h.whole h.table = record { statements = h.statements; spelled = h.spelled; taken = h.taken } in
      inl (inr (
        at bytes (first_place h.begun p.place) (cause_of f),
        at_clause h.whole (h.begun ++ p ∷ []) a h.table (ended q w) f small (subst H on_joined hw) taken (ended_text q w e) g,
      ))

  clause_over : (q : Sort) (w : Written) → step true s p.word ≡ Some (over q w) → Further
  clause_over q w e = by (statement_fault h.table (ended q w)) refl
    where
      by : (o : Option Tables.Fault) → statement_fault h.table (ended q w) ≡ o → Further
      by None f = clause_taken q w e f
      by (Some f) g = clause_refused q w e f g

  taken_to : (t : State) → step true s p.word ≡ Some t → Further
  taken_to start e = goes_further start e refl
  taken_to (inside l fs k m) e = goes_further (inside l fs k m) e refl
  taken_to (opened_list l fs k) e = goes_further (opened_list l fs k) e refl
  taken_to (over q w) e = clause_over q w e

  further : Further
  further = first (is_directive h.begun p.word)
    where
      within : (t : State) → go s p.word ≡ Some t → (b : Bool) → exceeds s p.word ≡ b → Further
      within t e true o = too_much t e o
      within t e false o = taken_to t (stepped true s p.word t (λ _. o) e)

      second : (IsDirective h.begun p.word → ⊥) → (o : Option State) → go s p.word ≡ o → Further
      second n None e = not_taken n e
      second n (Some t) e = within t e (exceeds s p.word) refl

      first : IsDirective h.begun p.word ⊎ (IsDirective h.begun p.word → ⊥) → Further
      first (inl d) = begins_directive d
      first (inr n) = second n (go s p.word) refl

word_judged : (bytes : Bytes) → length bytes ≤ MAX_BYTES → (ws : List Placed) (p : Placed) (a : Answer) → HasWords bytes (ws ++ p ∷ []) a → IsPassed bytes ws
    → Judged bytes ⊎ IsPassed bytes (ws ++ p ∷ [])
word_judged bytes small ws p a hw h =
    let G : List Placed → Type 0 = CanGoOn true in
    let (s, ran, on) = goes_on_begun true h.whole h.begun h.statements h.spelled h.unended (subst G h.joined h.goes_on) in
    further bytes small ws p a hw h s ran on

-- The text ends.

module _ (bytes : Bytes) (small : length bytes ≤ MAX_BYTES) (ws : List Placed) (hw : HasWords bytes ws no_more) where
  whole_end : (T : Table) → IsTaken bytes ws T → Judged bytes
  whole_end T taken = asked T.asked refl
    where
      known : (k : SourceClause) → T.asked ≡ Some k → (o : Option Unknown) → unknown_of T k ≡ o → Judged bytes
      known k e None f = inl (
        program_of T k,
        record { size = small; words = ws; spelled = hw; table = T; taken = taken; query = k; asked = e; known = f; program = refl },
      )
      known k e (Some u) f = inr (record { cause = Refusals.unknown u.name u.arity; line = u.line }, with_unknown ws T k u small hw taken e f)

      asked : (o : Option SourceClause) → T.asked ≡ o → Judged bytes
      asked None e = inr (at bytes (length bytes) Refusals.no_query, without_query ws T small hw taken e)
      asked (Some k) e = known k e (unknown_of T k) refl

  text_end : IsPassed bytes ws → Judged bytes
  text_end h = by h.begun refl
    where
      by : (ps : List Placed) → h.begun ≡ ps → Judged bytes
      by (q ∷ ps) e = inr (at bytes (length bytes) Refusals.syntax, unended ws small hw h (λ n. let f = sym e ∙ n in cc))
      by [] e =
          let T : List Placed → Type 0 = λ vs. IsText true vs h.statements in
          let same : h.whole ≡ ws = sym (h.joined ∙ (ap (λ vs. h.whole ++ vs) e ∙ append-nil h.whole)) in
          whole_end h.table (record { statements = h.statements; spelled = subst T same h.spelled; taken = h.taken })

-- All of the text.

module _ (bytes : Bytes) (small : length bytes ≤ MAX_BYTES) (n : ℕ) (front : IsFront bytes n) where
  judged_from : (bound low : ℕ) (ws : List Placed) (a : Answer) → n < low + bound → EndsBetween low n a → HasWords bytes ws a → IsPassed bytes ws → Judged bytes
  judged_from bound low ws no_more l e hw h = text_end bytes small ws hw h
  judged_from bound low ws (none_for f) l e hw h = inr (Refusals.fault_at bytes f, at_token ws f small hw h)
  judged_from zero low ws (one t) l e hw h = absurd (omega (arith, e.0, e.1))
  judged_from (suc bound) low ws (one t) l e hw h =
      let later = each_place bytes n front t.end e.1 in
      let word = each_word bytes ws t (before bytes [] later.0) hw in
      let p : Placed = record { word = word.0; place = t.start } in
      let more = more_words bytes ws t later.0 word.0 hw later.1 word.1 in
      elim (word_judged bytes small ws p later.0 more h) [
        | inl j ↦ j
        | inr r ↦ judged_from bound t.end (ws ++ p ∷ []) later.0 (omega (arith, e.0)) later.2 more r
      ]

pub each_judged : (bytes : Bytes) → ((P : SourceProgram) × Reads bytes P) ⊎ ((r : Refusal) × IsRefused bytes r)
each_judged bytes = elim (cases_lt MAX_BYTES (length bytes)) [
  | inl l ↦ inr (at bytes MAX_BYTES (Refusals.too_big source), too_long l)
  | inr small ↦
      let front = each_front bytes in
      let first = each_place bytes front.0 front.1 0 (omega arith) in
      judged_from bytes small front.0 front.1 (suc front.0) 0 [] first.0 (omega arith) first.2 (no_words bytes first.0 first.1) (nothing_passed bytes)
]
