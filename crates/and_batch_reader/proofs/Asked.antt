-- A text that is that of a program has a query, which is found among its tokens.
use Rattle.std.proofs.Common.{ℕ, suc, ◌≡◌, Bool, true, false, true≢false, ◌&&◌, ◌⊎◌, inl, inr, cond, List, [], ◌∷◌, ◌++◌, Option, Some, None, refl, sym}
use Rattle.std.proofs.Common.{ap, ◌∙◌, subst, append_assoc, append-nil}
use Rattle.std.specs.Prelude.{codes}
use Rattle.std.specs.Str.{bytes_eq}
use Rattle.and_model.specs.Lines.{Bytes}
use Rattle.and_source.specs.Source.{SourceClause, SourceProgram}
use Rattle.and_syntax.specs.Written.{Written}
use Rattle.and_syntax.specs.Tables.{Table, taken, placed, with_clause, next_clause, term_with}
use Rattle.and_syntax.specs.Clauses.{body_of, alternatives_of}
use Rattle.and_translation.specs.Translation.{translated}
use Rattle.and_language.specs.Tokens.{Kind, Token, Answer, no_more, one, Comes, HasTokens, no_token, token, IsToken}
use Rattle.and_language.specs.Tokens as tokens
use Rattle.and_language.specs.Words.{Before, Word, Placed, bytes_of, IsWord, AreWords}
use Rattle.and_language.specs.Words as words
use Rattle.and_language.specs.Grammar.{Sort, Neck, turnstile, arrow, sort_of, Statement, IsText, IsClause}
use Rattle.and_language.specs.Refusals.{Takes, Reads, with_statement}
use Rattle.and_language.specs.Refusals as refusals
use Rattle.and_automaton.specs.Machine.{start, inside, over, run, words_of}
use Rattle.and_automaton.proofs.Derived.{clause_taken}
use Rattle.and_beginnings.proofs.Ends.{is_end, last_of, last_ends}
use Rattle.and_lex.proofs.Completeness.{one_list}
use Rattle.and_lex.proofs.Written.{written}
use Rattle.and_batch_text.specs.Queries as queries
use Rattle.and_batch_text.specs.Queries.{Span, Place, fresh, asking, is_symbol_kind, is_end_kind, is_query_symbol, behind, before_end, at_token}
use Rattle.and_batch_text.specs.Queries.{queries_among, HasQueries}

-- ---- a table that has a query was given one

-- one of them is a query
abbrev HasQuery : List Statement → Type 0
HasQuery [] = ⊥
HasQuery (s ∷ ss) = (s.sort ≡ Sort.query) ⊎ HasQuery ss

placed_asked : (T : Table) (k : SourceClause) → (placed T k).asked ≡ T.asked
placed_asked T k = by T.asked
  where
    by : (o : Option SourceClause) → (placed (record T { asked = o }) k).asked ≡ o
    by None = refl
    by (Some q) = refl

clause_asked : (T : Table) (w : Written) (line : ℕ) → (with_clause T w line).asked ≡ T.asked
clause_asked T w line =
    let ps = body_of (term_with T w) in
    placed_asked (taken T w ps (suc (alternatives_of ps))) (next_clause T w line)

none_some : {X : Type 0} (o : Option X) (x : X) → o ≡ None → o ≡ Some x → ⊥
none_some o x e f = let g = sym e ∙ f in cc

after_one : (bytes : Bytes) (T : Table) (s : Statement) (ss : List Statement) → T.asked ≡ None → ((with_statement bytes T s).asked ≡ None → HasQuery ss)
    → HasQuery (s ∷ ss)
after_one bytes T s ss none later = by_sort s.sort refl
  where
    sorted : (r : Sort) → Statement
    sorted r = record { sort = r; term = s.term; place = s.place }

    by_sort : (r : Sort) → s.sort ≡ r → HasQuery (s ∷ ss)
    by_sort Sort.query e = inl e
    by_sort Sort.clause e =
        inr (later (ap (λ o. (with_statement bytes T (sorted o)).asked) e ∙ clause_asked T s.term (tokens.line_at bytes s.place) ∙ none))
    by_sort Sort.grammar_rule e =
        inr (later (ap (λ o. (with_statement bytes T (sorted o)).asked) e ∙ clause_asked T (translated s.term) (tokens.line_at bytes s.place) ∙ none))

asked_by : (bytes : Bytes) {T U : Table} {ss : List Statement} (q : SourceClause) → Takes bytes T ss U → T.asked ≡ None → U.asked ≡ Some q → HasQuery ss
asked_by bytes q (refusals.nothing T) none some = absurd (none_some T.asked q none some)
asked_by bytes q (refusals.more T U s ss no_fault rest) none some = after_one bytes T s ss none (λ still. asked_by bytes q rest still some)

-- ---- words and their tokens

kind_ends : {bytes : Bytes} {t : Token} {b : Before} {k : Kind} {x : Word} → IsWord bytes t b k x → is_end_kind k ≡ is_end x
kind_ends words.variable_token = refl
kind_ends (words.integer_token z) = refl
kind_ends words.name_token = refl
kind_ends (words.symbol_token e) = refl
kind_ends (words.minus_token e n) = refl
kind_ends (words.functor_token e n) = refl
kind_ends (words.quoted_token u q) = refl
kind_ends words.open_bracket_token = refl
kind_ends words.close_bracket_token = refl
kind_ends words.open_list_token = refl
kind_ends words.close_list_token = refl
kind_ends words.open_brace_token = refl
kind_ends words.close_brace_token = refl
kind_ends words.comma_token = refl
kind_ends words.semicolon_token = refl
kind_ends words.bar_token = refl
kind_ends words.end_token = refl

-- A token that has a plain name is none of the name `?-`.
no_plain : (cut : Bool) (rest bs : Bytes) → bs ≡ codes "?-" → IsToken cut tokens.name bs rest → ⊥
no_plain cut rest bs is h = let g = subst (λ x. IsToken cut tokens.name x rest) is h in true≢false (sym g.0)

name_same : (c d : Bytes) → words.name c ≡ words.name d → c ≡ d
name_same c d e = cc

question : {bytes : Bytes} {t : Token} {b : Before} {k : Kind} {x : Word} → IsWord bytes t b k x → x ≡ words.name (codes "?-")
    → (cut : Bool) (rest : Bytes) → IsToken cut k (bytes_of bytes t) rest → (is_symbol_kind k ≡ true) × (bytes_of bytes t ≡ codes "?-")
question words.variable_token is cut rest h = absurd cc
question (words.integer_token z) is cut rest h = absurd cc
question {bytes = bytes} {t = t} words.name_token is cut rest h = absurd (no_plain cut rest (bytes_of bytes t) (name_same _ _ is) h)
question (words.symbol_token e) is cut rest h = (refl, name_same _ _ is)
question (words.minus_token e n) is cut rest h = absurd cc
question (words.functor_token e n) is cut rest h = (refl, name_same _ _ is)
question (words.quoted_token u q) is cut rest h = absurd cc
question words.open_bracket_token is cut rest h = absurd cc
question words.close_bracket_token is cut rest h = absurd cc
question words.open_list_token is cut rest h = absurd cc
question words.close_list_token is cut rest h = absurd cc
question words.open_brace_token is cut rest h = absurd cc
question words.close_brace_token is cut rest h = absurd cc
question words.comma_token is cut rest h = absurd cc
question words.semicolon_token is cut rest h = absurd cc
question words.bar_token is cut rest h = absurd cc
question words.end_token is cut rest h = absurd cc

-- ---- queries among tokens

right_none : {X : Type 0} (xs ys : List X) → xs ++ ys ≡ [] → ys ≡ []
right_none [] ys e = e
right_none (x ∷ xs) ys e = absurd cc

both_same : {X : Type 0} (x y : X) (xs ys : List X) → x ∷ xs ≡ y ∷ ys → (x ≡ y) × (xs ≡ ys)
both_same x y xs ys e = (cc, cc)

not_nothing : {X : Type 0} (ps : List X) (p : X) (rest : List X) → [] ≡ ps ++ p ∷ rest → ⊥
not_nothing [] p rest e = cc
not_nothing (q ∷ ps) p rest e = cc

span_there : (s : Span) (ss : List Span) → s ∷ ss ≡ [] → ⊥
span_there s ss e = cc

module _ (bytes : Bytes) (a : Answer) where
  tokens_head : {i : ℕ} {ts : List Token} → HasTokens bytes a i ts → (t : Token) (us : List Token) → ts ≡ t ∷ us
      → Comes bytes i (one t) × HasTokens bytes a t.end us
  tokens_head (no_token i c) t us e = absurd cc
  tokens_head (token i u vs c h) t us e =
      let same = both_same u t vs us e in (
        subst (λ v. Comes bytes i (one v)) same.0 c,
        subst (λ n. HasTokens bytes a n us) (ap (λ (v : Token). v.end) same.0) (subst (HasTokens bytes a u.end) same.1 h),
      )

  -- behind an End another clause begins
  behind_end : (p : Place) (t : Token) (us : List Token) → is_end_kind t.kind ≡ true → queries_among bytes p (t ∷ us) ≡ [] → queries_among bytes fresh us ≡ []
  behind_end p t us e none =
      let rest = right_none (at_token p t) (queries_among bytes (behind bytes p t) us) none in
      subst (λ q. queries_among bytes q us ≡ []) (ap (λ b. cond b fresh (queries.goes_on bytes p t)) e) rest

  abbrev Passed : List Placed → Type 0
  Passed rest = (i : ℕ) × (us : List Token) × HasTokens bytes a i us × AreWords bytes a us rest × (queries_among bytes fresh us ≡ [])

  -- the words of a clause are passed
  pass : (ps : List Placed) (last : Placed) (rest : List Placed) → is_end last.word ≡ true → {ts : List Token} {ws : List Placed} → AreWords bytes a ts ws
      → (i : ℕ) → HasTokens bytes a i ts → ws ≡ ps ++ last ∷ rest → (p : Place) → queries_among bytes p ts ≡ [] → Passed rest
  pass ps last rest ends words.nothing i h e p none = absurd (not_nothing ps last rest e)
  pass [] last rest ends (words.more t us w ws is later) i h e p none =
      let same = both_same _ last ws rest e in
      let kind : is_end_kind t.kind ≡ true = kind_ends is ∙ ap (λ (v : Placed). is_end v.word) same.0 ∙ ends in
      let head = tokens_head h t us refl in
      (t.end, us, head.1, subst (AreWords bytes a us) same.1 later, behind_end p t us kind none)
  pass (q ∷ ps) last rest ends (words.more t us w ws is later) i h e p none =
      let same = both_same _ q ws (ps ++ last ∷ rest) e in
      pass ps last rest ends later t.end (tokens_head h t us refl).1 same.1 (behind bytes p t)
      (right_none (at_token p t) (queries_among bytes (behind bytes p t) us) none)

  -- a token of a query that is begun ends it, or stands within it
  at_word : (n : ℕ) (t : Token) (us : List Token) → queries_among bytes (asking n) (t ∷ us) ≡ [] → (queries_among bytes (asking n) us ≡ [] → ⊥) → ⊥
  at_word n t us none later = by (is_end_kind t.kind) refl
    where
      by : (b : Bool) → is_end_kind t.kind ≡ b → ⊥
      by true f = span_there (queries.span n t.end) (queries_among bytes (behind bytes (asking n) t) us)
          (ap (λ b. cond b (before_end (asking n) t.end) [] ++ queries_among bytes (behind bytes (asking n) t) us) (sym f) ∙ none)
      by false f =
          let after = right_none (at_token (asking n) t) (queries_among bytes (behind bytes (asking n) t) us) none in
          let still : behind bytes (asking n) t ≡ asking n = ap (λ b. cond b fresh (asking n)) f in
          later (subst (λ p. queries_among bytes p us ≡ []) still after)

  -- a query that is begun is found at its End
  closes : (n : ℕ) (ps : List Placed) (last : Placed) (rest : List Placed) → is_end last.word ≡ true → {ts : List Token} {ws : List Placed}
      → AreWords bytes a ts ws → ws ≡ ps ++ last ∷ rest → queries_among bytes (asking n) ts ≡ [] → ⊥
  closes n ps last rest ends words.nothing e none = not_nothing ps last rest e
  closes n [] last rest ends (words.more t us w ws is later) e none =
      let same = both_same _ last ws rest e in
      let kind : is_end_kind t.kind ≡ true = kind_ends is ∙ ap (λ (v : Placed). is_end v.word) same.0 ∙ ends in
      span_there (queries.span n t.end) (queries_among bytes (behind bytes (asking n) t) us)
      (ap (λ b. cond b (before_end (asking n) t.end) [] ++ queries_among bytes (behind bytes (asking n) t) us) (sym kind) ∙ none)
  closes n (q ∷ ps) last rest ends (words.more t us w ws is later) e none =
      at_word n t us none (λ after. closes n ps last rest ends later (both_same _ q ws (ps ++ last ∷ rest) e).1 after)

  -- a query is found
  asks : (first : Placed) (ps : List Placed) (last : Placed) (rest : List Placed) → is_end last.word ≡ true → first.word ≡ words.name (codes "?-")
      → {ts : List Token} {ws : List Placed} → AreWords bytes a ts ws → (i : ℕ) → HasTokens bytes a i ts → ws ≡ first ∷ ps ++ last ∷ rest
      → queries_among bytes fresh ts ≡ [] → ⊥
  asks first ps last rest ends named words.nothing i h e none = absurd cc
  asks first ps last rest ends named (words.more t us w ws is later) i h e none =
      let same = both_same _ first ws (ps ++ last ∷ rest) e in
      let word : w ≡ words.name (codes "?-") = ap (λ (v : Placed). v.word) same.0 ∙ named in
      let spelled = written bytes i t (tokens_head h t us refl).0 in
      let told = question is word spelled.0 spelled.1 spelled.2 in
      let open_still : is_end_kind t.kind ≡ false = kind_ends is ∙ ap is_end word in
      let symbol : is_query_symbol bytes t ≡ true = (λ k. told.0 k && bytes_eq (told.1 k) (codes "?-")) in
      let begun : behind bytes fresh t ≡ asking t.start =
      ap (λ b. cond b fresh (queries.begun bytes t)) open_still ∙ ap (λ b. cond b (asking t.start) queries.inside) symbol in
      let after = right_none (at_token fresh t) (queries_among bytes (behind bytes fresh t) us) none in
      closes t.start ps last rest ends later same.1 (subst (λ p. queries_among bytes p us ≡ []) begun after)

  query_first : {ws : List Word} {q : Sort} {w : Written} → IsClause true ws q w → q ≡ Sort.query → (us : List Word) × (ws ≡ words.name (codes "?-") ∷ us)
  query_first (IsClause.fact ws h d) e = absurd cc
  query_first (IsClause.rule ws us k h b d f) e = absurd (by k e)
    where
      by : (k : Neck) → sort_of k ≡ Sort.query → ⊥
      by turnstile e = cc
      by arrow e = cc
  query_first (IsClause.query ws b d) e = (ws, refl)

  found : {ps : List Placed} {ss : List Statement} → IsText true ps ss → HasQuery ss → {ts : List Token} → AreWords bytes a ts ps → (i : ℕ)
      → HasTokens bytes a i ts → queries_among bytes fresh ts ≡ [] → ⊥
  found IsText.nothing asked spelled i h none = asked
  found (IsText.statement first others rest whole q w ss is clause text) asked spelled i h none =
      let l = last_of first others in
      let alone : IsText true (first ∷ others) (record { sort = q; term = w; place = first.place } ∷ []) =
      IsText.statement first others [] (first ∷ others) q w [] (sym (append-nil (first ∷ others))) clause IsText.nothing in
      let ends = last_ends l.0 l.1 q w first.place (subst (λ ps. run true start (words_of ps) ≡ Some (over q w)) l.2 (clause_taken true clause))
      (subst (λ ps. IsText true ps (record { sort = q; term = w; place = first.place } ∷ [])) l.2 alone) in
      let split : whole ≡ l.0 ++ l.1 ∷ rest = is ∙ ap (λ ps. ps ++ rest) l.2 ∙ append_assoc l.0 (l.1 ∷ []) rest in
      elim asked [
        | inl here ↦
            let named : first.word ≡ words.name (codes "?-") = (both_same _ _ _ _ (query_first clause here).1).0 in
            at_query first l.0 l.1 rest ends named split whole is spelled i h none
        | inr later ↦
            let p = pass l.0 l.1 rest ends spelled i h split fresh none in
            found text later p.3 p.0 p.2 p.4
      ]
    where
      at_query : (first : Placed) (front : List Placed) (last : Placed) (rest : List Placed) → is_end last.word ≡ true → first.word ≡ words.name (codes "?-")
          → whole ≡ front ++ last ∷ rest → (ws : List Placed) → whole ≡ first ∷ others ++ rest → {ts : List Token} → AreWords bytes a ts whole → (i : ℕ)
          → HasTokens bytes a i ts → queries_among bytes fresh ts ≡ [] → ⊥
      at_query first [] last rest ends named e ws is spelled i h none =
          let same : first ≡ last = (both_same _ _ _ _ (sym is ∙ e)).0 in
          true≢false (sym ends ∙ ap (λ (p : Placed). is_end p.word) (sym same) ∙ ap is_end named)
      at_query first (f ∷ fs) last rest ends named e ws is spelled i h none =
          let same : first ≡ f = (both_same _ _ _ _ (sym is ∙ e)).0 in
          asks first fs last rest ends named spelled i h (e ∙ ap (λ x. x ∷ fs ++ last ∷ rest) (sym same)) none

-- A text without a query is that of no program.
pub unasked : (bytes : Bytes) (P : SourceProgram) → HasQueries bytes [] → Reads bytes P → ⊥
unasked bytes P (ts, a, h, last, none) reads =
    let (us, g, spelled) = reads.spelled in
    let same = one_list bytes a no_more last refl h g in
    let asked = asked_by bytes reads.query reads.taken.taken refl reads.asked in
    found bytes no_more reads.taken.spelled asked spelled 0 g (sym (none ∙ ap (queries_among bytes fresh) same.0))
