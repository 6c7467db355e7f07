-- Words and clauses of texts that begin with the same bytes.
use Rattle.std.proofs.Common.{ℕ, suc, ◌+◌, ◌-◌, ◌≡◌, ◌≤◌, ◌⊎◌, inl, inr, true, true≢false, List, [], ◌∷◌, ◌++◌, take, drop, refl, sym, ap, subst, ◌∙◌, arith}
use Rattle.std.specs.Prelude.{codes}
use Rattle.std.specs.Str.{bytes_eq}
use Rattle.std.proofs.lemmas.Bool.{cases_lt}
use Rattle.std.proofs.lemmas.List.{drop-take, take-take}
use Rattle.and_model.specs.Lines.{Bytes}
use Rattle.and_syntax.specs.Tables.{Table, with_clause, with_query}
use Rattle.and_translation.specs.Translation.{translated}
use Rattle.and_language.specs.Tokens.{Kind, Token, Answer, Comes, HasTokens, newlines, line_at}
use Rattle.and_language.specs.Tokens as tokens
use Rattle.and_language.specs.Words.{Before, Word, Placed, bytes_of, before, before_kind, IsWord, AreWords}
use Rattle.and_language.specs.Words as words
use Rattle.and_language.specs.Grammar.{Sort, Statement, IsText}
use Rattle.and_language.specs.Refusals.{Takes, HasWords, with_statement}
use Rattle.and_language.specs.Refusals as refusals
use Rattle.and_beginnings.specs.Beginnings.{behind, AreAlike}
use Rattle.and_beginnings.proofs.Alike.{tokens_alike, EndBefore, ends_before}
use Rattle.and_beginnings.proofs.Ends.{is_end, EndsSo, text_ends}

module _ (bytes text : Bytes) (m : ℕ) (same : take m bytes ≡ take m text) where
  -- a part of what is shared
  part_alike : (start end : ℕ) → end ≤ m → take (end - start) (drop start bytes) ≡ take (end - start) (drop start text)
  part_alike start end l = by_order
    where
      front : (xs : Bytes) → start ≤ end → take (end - start) (drop start xs) ≡ drop start (take end (take m xs))
      front xs less =
          let split : start + (end - start) ≡ end = omega (arith, less) in
          sym (drop-take start (end - start) xs) ∙ ap (λ k. drop start (take k xs)) split ∙ ap (drop start) (sym (take-take end m xs l))

      by_order : take (end - start) (drop start bytes) ≡ take (end - start) (drop start text)
      by_order = elim (cases_lt end start) [
        | inl more ↦
            let none : end - start ≡ 0 = omega (arith, more) in
            ap (λ k. take k (drop start bytes)) none ∙ sym (ap (λ k. take k (drop start text)) none)
        | inr less ↦ front bytes less ∙ ap (λ xs. drop start (take end xs)) same ∙ sym (front text less)
      ]

  bytes_alike : (t : Token) → t.end ≤ m → bytes_of bytes t ≡ bytes_of text t
  bytes_alike t l = part_alike t.start t.end l

  pub line_alike : (place : ℕ) → place ≤ m → line_at bytes place ≡ line_at text place
  line_alike place l =
      let front : (xs : Bytes) → take place (take m xs) ≡ take place xs = λ xs. take-take place m xs l in
      ap (λ xs. suc (newlines xs)) (sym (front bytes) ∙ ap (take place) same ∙ front text)

  -- a word, where the same stands behind it
  kind_alike : (t u : Token) (k : Kind) → bytes_of bytes t ≡ bytes_of text t → before_kind bytes t k ≡ before_kind text t k
  kind_alike t u tokens.variable e = refl
  kind_alike t u tokens.name e = ap words.if_operator e
  kind_alike t u tokens.quoted e = refl
  kind_alike t u tokens.symbol e = ap words.if_operator e
  kind_alike t u (tokens.integer z) e = refl
  kind_alike t u tokens.open_bracket e = refl
  kind_alike t u tokens.close_bracket e = refl
  kind_alike t u tokens.open_list e = refl
  kind_alike t u tokens.close_list e = refl
  kind_alike t u tokens.open_brace e = refl
  kind_alike t u tokens.close_brace e = refl
  kind_alike t u tokens.comma e = refl
  kind_alike t u tokens.semicolon e = refl
  kind_alike t u tokens.bar e = refl
  kind_alike t u tokens.end_of_clause e = refl

  -- A word of the one text is one of the other: where it is an End, whatever stands behind it.
  word_alike : (t : Token) (b c : Before) → bytes_of bytes t ≡ bytes_of text t → {k : Kind} {x : Word} → IsWord bytes t b k x → (b ≡ c) ⊎ (is_end x ≡ true)
      → IsWord text t c k x
  word_alike t b c e words.variable_token o = subst (λ y. IsWord text t c tokens.variable (words.variable y)) (sym e) words.variable_token
  word_alike t b c e (words.integer_token z) o = words.integer_token z
  word_alike t b c e words.name_token o = subst (λ y. IsWord text t c tokens.name (words.name y)) (sym e) words.name_token
  word_alike t b c e (words.symbol_token f) o =
      subst (λ y. IsWord text t c tokens.symbol (words.name y)) (sym e) (words.symbol_token (ap (λ y. bytes_eq y (codes "-")) (sym e) ∙ f))
  word_alike t b c e (words.minus_token f n) (inl g) =
      subst (λ y. IsWord text t c tokens.symbol (words.minus y)) (sym g) (words.minus_token (ap (λ y. bytes_eq y (codes "-")) (sym e) ∙ f) (λ h. n (g ∙ h)))
  word_alike t b c e (words.minus_token f n) (inr g) = absurd (true≢false (sym g))
  word_alike t b c e (words.functor_token f n) (inl g) =
      subst (λ y. IsWord text t c tokens.symbol (words.name y)) (sym e) (words.functor_token (ap (λ y. bytes_eq y (codes "-")) (sym e) ∙ f) (sym g ∙ n))
  word_alike t b c e (words.functor_token f n) (inr g) = absurd (true≢false (sym g))
  word_alike t b c e (words.quoted_token u q) o = words.quoted_token u (subst (λ y. tokens.Quotes y u) e q)
  word_alike t b c e words.open_bracket_token o = words.open_bracket_token
  word_alike t b c e words.close_bracket_token o = words.close_bracket_token
  word_alike t b c e words.open_list_token o = words.open_list_token
  word_alike t b c e words.close_list_token o = words.close_list_token
  word_alike t b c e words.open_brace_token o = words.open_brace_token
  word_alike t b c e words.close_brace_token o = words.close_brace_token
  word_alike t b c e words.comma_token o = words.comma_token
  word_alike t b c e words.semicolon_token o = words.semicolon_token
  word_alike t b c e words.bar_token o = words.bar_token
  word_alike t b c e words.end_token o = words.end_token

  some_last : (p q : Placed) (ps : List Placed) → EndsSo (p ∷ q ∷ ps) → EndsSo (q ∷ ps)
  some_last p q ps ([], last, e, f) = absurd cc
  some_last p q ps (x ∷ front, last, e, f) = (front, last, (cc), f)

  only_last : (p : Placed) → EndsSo (p ∷ []) → is_end p.word ≡ true
  only_last p ([], last, e, f) = let same : p ≡ last = cc in ap (λ (r : Placed). is_end r.word) same ∙ f
  only_last p (x ∷ [], last, e, f) = absurd cc
  only_last p (x ∷ y ∷ front, last, e, f) = absurd cc

  -- words that end with an End
  words_alike : (a b : Answer) {ts : List Token} {ps : List Placed} → AreWords bytes a ts ps → EndBefore m ts → (ps ≡ []) ⊎ EndsSo ps → AreWords text b ts ps
  words_alike a b words.nothing l ends = words.nothing
  words_alike a b (words.more t [] w [] is words.nothing) l ends =
      let last : is_end w ≡ true = elim ends [ inl none ↦ absurd cc | inr e ↦ only_last _ e ] in
      words.more t [] w [] (word_alike t (before bytes [] a) (before text [] b) (bytes_alike t l.0) is (inr last)) words.nothing
  words_alike a b (words.more t [] w (q ∷ ps) is later) l ends = elim later [ ]
  words_alike a b (words.more t (u ∷ ts) w [] is later) l ends = elim later [ ]
  words_alike a b (words.more t (u ∷ ts) w (q ∷ ps) is later) l ends =
      let follow : before bytes (u ∷ ts) a ≡ before text (u ∷ ts) b = kind_alike u u u.kind (bytes_alike u l.1.0) in
      let e : EndsSo (q ∷ ps) = elim ends [ inl none ↦ absurd cc | inr f ↦ some_last _ q ps f ] in
      words.more t (u ∷ ts) w (q ∷ ps) (word_alike t (before bytes (u ∷ ts) a) (before text (u ∷ ts) b) (bytes_alike t l.0) is (inl follow))
      (words_alike a b later l.1 (inr e))

  -- ---- clauses

  abbrev PlacedBefore : List Placed → Type 0
  PlacedBefore [] = Unit {0}
  PlacedBefore (p ∷ ps) = (p.place ≤ m) × PlacedBefore ps

  placed_before : (a : Answer) {ts : List Token} {ps : List Placed} → AreWords bytes a ts ps → EndBefore m ts → PlacedBefore ps
  placed_before a words.nothing l = tt
  placed_before a (words.more t ts w ps is later) l = (l.2, placed_before a later l.1)

  behind_front : (ps qs : List Placed) → PlacedBefore (ps ++ qs) → PlacedBefore qs
  behind_front [] qs l = l
  behind_front (p ∷ ps) qs l = behind_front ps qs l.1

  statement_alike : (T : Table) (s : Statement) → s.place ≤ m → with_statement bytes T s ≡ with_statement text T s
  statement_alike T s l = by s.sort
    where
      line : line_at bytes s.place ≡ line_at text s.place
      line = line_alike s.place l

      by : (q : Sort) → with_statement bytes T (record s { sort = q }) ≡ with_statement text T (record s { sort = q })
      by Sort.clause = ap (λ n. with_clause T s.term n) line
      by Sort.query = ap (λ n. with_query T s.term n) line
      by Sort.grammar_rule = ap (λ n. with_clause T (translated s.term) n) line

  takes_alike : {ps : List Placed} {ss : List Statement} → IsText true ps ss → PlacedBefore ps → {T U : Table} → Takes bytes T ss U → Takes text T ss U
  takes_alike IsText.nothing l (refusals.nothing T) = refusals.nothing T
  takes_alike (IsText.statement first others rest whole q w ss is clause read) l {U = U} (refusals.more T V s us none taken_more) =
      let before = subst PlacedBefore is l in
      let here = statement_alike T (record { sort = q; term = w; place = first.place }) before.0 in
      let later = takes_alike read (behind_front (first ∷ others) rest before) taken_more in
      refusals.more T U (record { sort = q; term = w; place = first.place }) ss none (subst (λ X. Takes text X ss U) here later)

pub beginning_words : (bytes text : Bytes) (m : ℕ) (ts : List Token) (ps : List Placed) (ss : List Statement) (a b : Answer)
    → AreAlike bytes text m (behind 0 ts) → HasTokens bytes a 0 ts → AreWords bytes a ts ps → IsText true ps ss → Comes text (behind 0 ts) b
    → HasWords text ps b
beginning_words bytes text m ts ps ss a b w h spelled read c =
    (ts, tokens_alike bytes text m 0 ts a b w h c, words_alike bytes text m w.same a b spelled (ends_before m h w.before) (text_ends read))

pub beginning_taken : (bytes text : Bytes) (m : ℕ) (ts : List Token) (ps : List Placed) (ss : List Statement) (a : Answer) (T U : Table)
    → AreAlike bytes text m (behind 0 ts) → HasTokens bytes a 0 ts → AreWords bytes a ts ps → IsText true ps ss → Takes bytes T ss U → Takes text T ss U
beginning_taken bytes text m ts ps ss a T U w h spelled read taken =
    takes_alike bytes text m w.same read (placed_before bytes text m w.same a spelled (ends_before m h w.before)) taken
