-- Texts are read clause by clause.
use Rattle.std.proofs.Common.{ℕ, ◌≡◌, ◌⊎◌, inl, inr, ◌↔◌, Bool, true, false, true≢false, List, [], ◌∷◌, ◌++◌, Option, Some, None, refl, ap, sym, ◌∙◌, subst}
use Rattle.std.proofs.Common.{append_assoc, append-nil}
use Rattle.std.specs.Prelude.{codes}
use Rattle.and_syntax.specs.Written.{Written}
use Rattle.and_language.specs.Words.{Word, Placed}
use Rattle.and_language.specs.Words as words
use Rattle.and_language.specs.Grammar.{binary, unary, Sort, symbol_of, sort_of, Statement, IsText, CanGoOn}
use Rattle.and_language.specs.Refusals.{NoneEnds}
use Rattle.and_automaton.specs.Machine.{ClausePart, head, body, query, wanted, numeral, operand, State, start, inside, opened_list, over, is_over, at700}
use Rattle.and_automaton.specs.Machine.{at1100, go, step, and_then, run, Reading, between, within, at_state, take_word, take_words, words_of}
use Rattle.and_automaton.proofs.Steps.{step_tells}
use Rattle.and_automaton.proofs.Derived.{clause_taken}
use Rattle.and_automaton.proofs.Accepted.{and_then_tells, clause_accepted}
use Rattle.and_automaton.proofs.Closing.{state_ends}

abbrev pub statement : Sort → Written → ℕ → Statement
statement q w n = record { sort = q; term = w; place = n }

module _ (limited : Bool) where
  nothing_behind : (q : Sort) (w : Written) (x : Word) (s : State) → step limited (over q w) x ≡ Some s → ⊥
  nothing_behind q w x s e = let told = (step_tells limited (over q w) x s e).1 in cc

  -- A word that takes a clause on takes its text on,
  pub word_read : (ss : List Statement) (n : ℕ) (s t : State) (p : Placed) → step limited s p.word ≡ Some t
      → take_word limited (at_state ss n s) p ≡ Some (at_state ss n t)
  word_read ss n start t p e = ap (λ o. and_then o (λ u. Some (at_state ss n u))) e
  word_read ss n (inside l fs q m) t p e = ap (λ o. and_then o (λ u. Some (at_state ss n u))) e
  word_read ss n (opened_list l fs q) t p e = ap (λ o. and_then o (λ u. Some (at_state ss n u))) e
  word_read ss n (over q w) t p e = absurd (nothing_behind q w p.word t e)

  pub first_read : (ss : List Statement) (t : State) (p : Placed) → step limited start p.word ≡ Some t
      → take_word limited (between ss) p ≡ Some (at_state ss p.place t)
  first_read ss t p e = ap (λ o. and_then o (λ u. Some (at_state ss p.place u))) e

  -- and so do words.
  pub words_read : (ss : List Statement) (n : ℕ) (ps : List Placed) (s t : State) → run limited s (words_of ps) ≡ Some t
      → take_words limited (at_state ss n s) ps ≡ Some (at_state ss n t)
  words_read ss n [] s t e = let same : s ≡ t = cc in ap (λ u. Some (at_state ss n u)) same
  words_read ss n (p ∷ ps) s t e =
      let (u, one, more) = and_then_tells (step limited s p.word) (λ z. run limited z (words_of ps)) t e in
      ap (λ o. and_then o (λ r. take_words limited r ps)) (word_read ss n s u p one) ∙ words_read ss n ps u t more

  pub clause_read : (ss : List Statement) (p : Placed) (ps : List Placed) (t : State) → run limited start (words_of (p ∷ ps)) ≡ Some t
      → take_words limited (between ss) (p ∷ ps) ≡ Some (at_state ss p.place t)
  clause_read ss p ps t e =
      let (u, one, more) = and_then_tells (step limited start p.word) (λ z. run limited z (words_of ps)) t e in
      ap (λ o. and_then o (λ r. take_words limited r ps)) (first_read ss u p one) ∙ words_read ss p.place ps u t more

  pub read_both : (r : Reading) (ps qs : List Placed) → take_words limited r (ps ++ qs) ≡ and_then (take_words limited r ps) (λ t. take_words limited t qs)
  read_both r [] qs = refl
  read_both r (p ∷ ps) qs = first (take_word limited r p) (λ t. read_both t ps qs)
    where
      first : (o : Option Reading) → ((t : Reading) → take_words limited t (ps ++ qs) ≡ and_then (take_words limited t ps) (λ u. take_words limited u qs))
          → and_then o (λ t. take_words limited t (ps ++ qs)) ≡ and_then (and_then o (λ t. take_words limited t ps)) (λ u. take_words limited u qs)
      first None h = refl
      first (Some t) h = h t

  pub read_through : (r t u : Reading) (ps qs : List Placed) → take_words limited r ps ≡ Some t → take_words limited t qs ≡ Some u
      → take_words limited r (ps ++ qs) ≡ Some u
  read_through r t u ps qs e f = read_both r ps qs ∙ ap (λ o. and_then o (λ v. take_words limited v qs)) e ∙ f

  -- What the grammar derives as a text, the machine accepts.
  pub text_taken : (ps : List Placed) (ss : List Statement) → IsText limited ps ss → (before : List Statement)
      → take_words limited (between before) ps ≡ Some (between (before ++ ss))
  text_taken ps ss IsText.nothing before = ap (λ l. Some (between l)) (sym (append-nil before))
  text_taken ps ss (IsText.statement first others rest whole q w more is clause text) before =
      let s : Statement = statement q w first.place in
      ap (take_words limited (between before)) is
      ∙ read_through (between before) (between (before ++ s ∷ [])) (between ((before ++ s ∷ []) ++ more)) (first ∷ others) rest
      (clause_read before first others (over q w) (clause_taken limited clause)) (text_taken rest more text (before ++ s ∷ []))
      ∙ ap (λ l. Some (between l)) (append_assoc before (s ∷ []) more)

  -- What the machine accepts as a text, the grammar derives.
  abbrev FromBetween : List Placed → Type 0
  FromBetween ps = (before all : List Statement) → take_words limited (between before) ps ≡ Some (between all)
      → (ss : List Statement) × IsText limited ps ss × (all ≡ before ++ ss)

  abbrev FromState : List Placed → Type 0
  FromState ps = (s : State) (n : ℕ) (before all : List Statement) → take_words limited (at_state before n s) ps ≡ Some (between all)
      → (others rest : List Placed) × (q : Sort) × (w : Written) × (ss : List Statement) × (ps ≡ others ++ rest)
      × (run limited s (words_of others) ≡ Some (over q w))
      × IsText limited rest ss × (all ≡ (before ++ statement q w n ∷ []) ++ ss)

  from_over : (ps : List Placed) → FromBetween ps → (q : Sort) (w : Written) (n : ℕ) (before all : List Statement)
      → take_words limited (at_state before n (over q w)) ps ≡ Some (between all)
      → (others rest : List Placed) × (v : Sort) × (u : Written) × (ss : List Statement) × (ps ≡ others ++ rest)
      × (run limited (over q w) (words_of others) ≡ Some (over v u))
      × IsText limited rest ss × (all ≡ (before ++ statement v u n ∷ []) ++ ss)
  from_over ps h q w n before all e = let (ss, text, is) = h (before ++ statement q w n ∷ []) all e in ([], ps, q, w, ss, refl, refl, text, is)

  from_word : (p : Placed) (ps : List Placed) → FromState ps → (s : State) (n : ℕ) (before all : List Statement)
      → and_then (and_then (step limited s p.word) (λ t. Some (at_state before n t))) (λ r. take_words limited r ps) ≡ Some (between all)
      → (others rest : List Placed) × (q : Sort) × (w : Written) × (ss : List Statement) × (p ∷ ps ≡ (p ∷ others) ++ rest)
      × (run limited s (p.word ∷ words_of others) ≡ Some (over q w))
      × IsText limited rest ss × (all ≡ (before ++ statement q w n ∷ []) ++ ss)
  from_word p ps h s n before all e =
      let (r, one, more) = and_then_tells (and_then (step limited s p.word) (λ t. Some (at_state before n t))) (λ r. take_words limited r ps) (between all) e in
      let (t, two, same) = and_then_tells (step limited s p.word) (λ t. Some (at_state before n t)) r one in
      let is : r ≡ at_state before n t = cc in
      let (others, rest, q, w, ss, parted, ran, text, whole) = h t n before all (subst (λ z. take_words limited z ps ≡ Some (between all)) is more) in
      (others, rest, q, w, ss, ap (λ l. p ∷ l) parted, ap (λ o. and_then o (λ z. run limited z (words_of others))) two ∙ ran, text, whole)

  parted : (ps : List Placed) → FromBetween ps × FromState ps
  parted [] = (none, state)
    where
      none : FromBetween []
      none before all e = ([], IsText.nothing, (let same : before ≡ all = cc in sym same ∙ sym (append-nil before)))

      state : FromState []
      state start n before all e = absurd (cc)
      state (inside l fs p m) n before all e = absurd (cc)
      state (opened_list l fs p) n before all e = absurd (cc)
      state (over q w) n before all e = from_over [] none q w n before all e
  parted (p ∷ ps) = step_back (parted ps).1
    where
      text : FromState ps → FromBetween (p ∷ ps)
      text h before all e =
          let (others, rest, q, w, ss, parted, ran, text, whole) = from_word p ps h start p.place before all e in (
            statement q w p.place ∷ ss,
            IsText.statement p others rest (p ∷ ps) q w ss parted (clause_accepted limited (words_of (p ∷ others)) q w ran) text,
            whole ∙ append_assoc before (statement q w p.place ∷ []) ss,
          )

      again : FromState ps → (s : State) (n : ℕ) (before all : List Statement)
          → and_then (and_then (step limited s p.word) (λ t. Some (at_state before n t))) (λ r. take_words limited r ps) ≡ Some (between all)
          → (others rest : List Placed) × (q : Sort) × (w : Written) × (ss : List Statement) × (p ∷ ps ≡ others ++ rest)
          × (run limited s (words_of others) ≡ Some (over q w))
          × IsText limited rest ss × (all ≡ (before ++ statement q w n ∷ []) ++ ss)
      again h s n before all e =
          let (others, rest, q, w, ss, parted, ran, text, whole) = from_word p ps h s n before all e in
          (p ∷ others, rest, q, w, ss, parted, ran, text, whole)

      state : FromState ps → FromState (p ∷ ps)
      state h start n before all e = again h start n before all e
      state h (inside l fs o m) n before all e = again h (inside l fs o m) n before all e
      state h (opened_list l fs o) n before all e = again h (opened_list l fs o) n before all e
      state h (over q w) n before all e = from_over (p ∷ ps) (text h) q w n before all e

      step_back : FromState ps → FromBetween (p ∷ ps) × FromState (p ∷ ps)
      step_back h = (text h, state h)

  pub text_accepted : (ps : List Placed) (ss : List Statement) → take_words limited (between []) ps ≡ Some (between ss) → IsText limited ps ss
  text_accepted ps ss e = let (tt', text, is) = (parted ps).0 [] ss e in subst (λ z. IsText limited ps z) (sym is) text

  -- Behind a word stands the state of a clause, or the end of one.
  abbrev AtState : Reading → Type 0
  AtState r = (ss : List Statement) × (n : ℕ) × (s : State) × (r ≡ at_state ss n s)

  word_state : (r u : Reading) (p : Placed) → take_word limited r p ≡ Some u → AtState u
  word_state (between ss) u p e = let (s, one, same) =
      and_then_tells (step limited start p.word) (λ z. Some (at_state ss p.place z)) u e in (ss, p.place, s, cc)
  word_state (within ss n s) u p e = let (v, one, same) = and_then_tells (step limited s p.word) (λ z. Some (at_state ss n z)) u e in (ss, n, v, cc)

  words_state : (r u : Reading) (ps : List Placed) → AtState r → take_words limited r ps ≡ Some u → AtState u
  words_state r u [] (ss, n, s, is) e = (ss, n, s, (let same : r ≡ u = cc in sym same ∙ is))
  words_state r u (p ∷ ps) h e =
      let (v, one, more) = and_then_tells (take_word limited r p) (λ z. take_words limited z ps) u e in
      words_state v u ps (word_state r v p one) more

  -- So a text that is read so far goes on with what ends its clause,
  state_goes_on : (ps : List Placed) (r : Reading) → take_words limited (between []) ps ≡ Some r → AtState r → CanGoOn limited ps
  state_goes_on ps r e (ss, n, s, is) =
      let (us, q, w, ran) = state_ends limited s in
      let placed = spread us in
      let all : List Statement = ss ++ statement q w n ∷ [] in
      let on : take_words limited r placed.0 ≡ Some (between all) =
      ap (λ z. take_words limited z placed.0) is ∙ words_read ss n placed.0 s (over q w) (ap (run limited s) placed.1 ∙ ran) in
      (placed.0, all, text_accepted (ps ++ placed.0) all (read_through (between []) r (between all) ps placed.0 e on))
    where
      spread : (us : List Word) → (qs : List Placed) × (words_of qs ≡ us)
      spread [] = ([], refl)
      spread (x ∷ xs) = let rest = spread xs in (record { word = x; place = 0 } ∷ rest.0, ap (λ l. x ∷ l) rest.1)

  pub goes_on : (ps : List Placed) (r : Reading) → take_words limited (between []) ps ≡ Some r → CanGoOn limited ps
  goes_on [] r e = ([], [], IsText.nothing)
  goes_on (p ∷ ps) r e =
      let (u, one, more) = and_then_tells (take_word limited (between []) p) (λ z. take_words limited z ps) r e in
      state_goes_on (p ∷ ps) r e (words_state u r ps (word_state (between []) u p one) more)

  -- and what goes on to a text is read so far.
  pub went_on : (ps : List Placed) → CanGoOn limited ps → (r : Reading) × (take_words limited (between []) ps ≡ Some r)
  went_on ps (us, ss, text) =
      let (r, one, more) = and_then_tells (take_words limited (between []) ps) (λ t. take_words limited t us) (between ss)
      (sym (read_both (between []) ps us) ∙ text_taken (ps ++ us) ss text []) in
      (r, one)

  -- Behind a whole text, and the beginning of a clause in the state s, the machine takes a word as s does.
  begun_reads : (whole begun : List Placed) (ss : List Statement) (s : State) → IsText limited whole ss → run limited start (words_of begun) ≡ Some s
      → (r : Reading) × (n : ℕ) × (take_words limited (between []) (whole ++ begun) ≡ Some r) × ((r ≡ at_state ss n s) ⊎ ((r ≡ between ss) × (s ≡ start)))
  begun_reads whole [] ss s text e = (
    between ss,
    0,
    ap (take_words limited (between [])) (append-nil whole) ∙ text_taken whole ss text [],
    inr (refl, (let same : start ≡ s = cc in sym same)),
  )
  begun_reads whole (p ∷ ps) ss s text e = (
    at_state ss p.place s,
    p.place,
    read_through (between []) (between ss) (at_state ss p.place s) whole (p ∷ ps) (text_taken whole ss text []) (clause_read ss p ps s e),
    inl refl,
  )

  pub begun_goes_on : (whole begun : List Placed) (ss : List Statement) (s : State) → IsText limited whole ss → run limited start (words_of begun) ≡ Some s
      → CanGoOn limited (whole ++ begun)
  begun_goes_on whole begun ss s text e = let (r, n, ran, is) = begun_reads whole begun ss s text e in goes_on (whole ++ begun) r ran

  word_taken : (ss : List Statement) (n : ℕ) (s : State) (p : Placed) (r : Reading) → is_over s ≡ false
      → (r ≡ at_state ss n s) ⊎ ((r ≡ between ss) × (s ≡ start))
      → (m : ℕ) × (take_word limited r p ≡ and_then (step limited s p.word) (λ t. Some (at_state ss m t)))
  word_taken ss n s p r unended (inr (is, same)) =
      (p.place, ap (λ z. take_word limited z p) is ∙ ap (λ z. and_then (step limited z p.word) (λ t. Some (at_state ss p.place t))) (sym same))
  word_taken ss n s p r unended (inl is) = (n, ap (λ z. take_word limited z p) is ∙ by_state s unended)
    where
      by_state : (s : State) → is_over s ≡ false → take_word limited (at_state ss n s) p ≡ and_then (step limited s p.word) (λ t. Some (at_state ss n t))
      by_state start o = refl
      by_state (inside l fs q m) o = refl
      by_state (opened_list l fs q) o = refl
      by_state (over q w) o = absurd (cc)

  pub word_goes_on : (whole begun : List Placed) (p : Placed) (ss : List Statement) (s : State) → IsText limited whole ss
      → run limited start (words_of begun) ≡ Some s → is_over s ≡ false
      → CanGoOn limited ((whole ++ begun) ++ p ∷ []) ↔ ((t : State) × (step limited s p.word ≡ Some t))
  word_goes_on whole begun p ss s text e unended =
      let (r, n, ran, is) = begun_reads whole begun ss s text e in
      let (m, took) = word_taken ss n s p r unended is in
      let there : CanGoOn limited ((whole ++ begun) ++ p ∷ []) → (t : State) × (step limited s p.word ≡ Some t) = λ c.
      let (u, all) = went_on ((whole ++ begun) ++ p ∷ []) c in
      let one : take_words limited r (p ∷ []) ≡ Some u = sym (ap (λ o. and_then o (λ z. take_words limited z (p ∷ []))) ran)
      ∙ sym (read_both (between []) (whole ++ begun) (p ∷ [])) ∙ all in
      let (v, two, rest) = and_then_tells (take_word limited r p) (λ z. Some z) u one in
      let (t, three, same) = and_then_tells (step limited s p.word) (λ t. Some (at_state ss m t)) v (sym took ∙ two) in
      (t, three) in
      let back : (t : State) × (step limited s p.word ≡ Some t) → CanGoOn limited ((whole ++ begun) ++ p ∷ []) = λ h.
      let one : take_word limited r p ≡ Some (at_state ss m h.0) = took ∙ ap (λ o. and_then o (λ t. Some (at_state ss m t))) h.1 in
      goes_on ((whole ++ begun) ++ p ∷ []) (at_state ss m h.0)
      (read_through (between []) r (at_state ss m h.0) (whole ++ begun) (p ∷ []) ran (ap (λ o. and_then o (λ z. Some z)) one)) in
      (there, back)

  -- Where no clause is over, none ends among the words.
  seen : (u t : State) → ◌≡◌ {A = Option State} (Some u) (Some t) → is_over u ≡ true → is_over t ≡ true
  seen u t e h = let same : u ≡ t = cc in ap is_over (sym same) ∙ h

  end_is_over : (s t : State) → go s words.end ≡ Some t → is_over t ≡ true
  end_is_over start t e = absurd (cc)
  end_is_over (inside l fs p wanted) t e = absurd (cc)
  end_is_over (inside l fs p numeral) t e = absurd (cc)
  end_is_over (inside l (f ∷ fs) p (operand w g)) t e = absurd (cc)
  end_is_over (inside l [] p (operand w g)) t e = by_part l.part l.alternatives l.before e
    where
      by_part : (k : ClausePart) (es b : List Written) → go (inside (record { part = k; alternatives = es; before = b }) [] p (operand w g)) words.end ≡ Some t
          → is_over t ≡ true
      by_part head es b e = seen (over Sort.clause (at1100 es b (at700 p w))) t e refl
      by_part (body n h) es b e = seen (over (sort_of n) (binary (symbol_of n) h (at1100 es b (at700 p w)))) t e refl
      by_part query es b e = seen (over Sort.query (unary (codes "?-") (at1100 es b (at700 p w)))) t e refl
  end_is_over (opened_list l fs p) t e = absurd (cc)
  end_is_over (over q w) t e = absurd (cc)

  over_stays : (s t : State) (xs : List Word) → is_over s ≡ true → run limited s xs ≡ Some t → is_over t ≡ true
  over_stays s t [] o e = seen s t e o
  over_stays (over q w) t (x ∷ xs) o e =
      let (u, one, more) = and_then_tells (step limited (over q w) x) (λ z. run limited z xs) t e in
      absurd (nothing_behind q w x u one)
  over_stays start t (x ∷ xs) o e = absurd (cc)
  over_stays (inside l fs p m) t (x ∷ xs) o e = absurd (cc)
  over_stays (opened_list l fs p) t (x ∷ xs) o e = absurd (cc)

  pub none_ends : (s t : State) (ps : List Placed) → run limited s (words_of ps) ≡ Some t → is_over t ≡ false → NoneEnds ps
  none_ends s t [] e unended = tt
  none_ends s t (p ∷ ps) e unended =
      let (u, one, more) = and_then_tells (step limited s p.word) (λ z. run limited z (words_of ps)) t e in
      let told = (step_tells limited s p.word u one).1 in (
        (λ is. let ended : is_over t ≡ true =
            over_stays u t (words_of ps) (end_is_over s u (subst (λ x. go s x ≡ Some u) is told)) more in absurd (true≢false (sym ended ∙ unended))),
        none_ends u t ps more unended,
      )

  -- Two texts are one, a clause by itself is one, and a text has one list of clauses.
  pub joined : (ps qs : List Placed) (ss ts : List Statement) → IsText limited ps ss → IsText limited qs ts → IsText limited (ps ++ qs) (ss ++ ts)
  joined ps qs ss ts a b =
      text_accepted (ps ++ qs) (ss ++ ts) (read_through (between []) (between ss) (between (ss ++ ts)) ps qs (text_taken ps ss a []) (text_taken qs ts b ss))

  pub one_clause : (p : Placed) (ps : List Placed) (q : Sort) (w : Written) → run limited start (words_of (p ∷ ps)) ≡ Some (over q w)
      → IsText limited (p ∷ ps) (statement q w p.place ∷ [])
  one_clause p ps q w e = text_accepted (p ∷ ps) (statement q w p.place ∷ []) (clause_read [] p ps (over q w) e)

  pub same_text : (ps : List Placed) (ss ts : List Statement) → IsText limited ps ss → IsText limited ps ts → ss ≡ ts
  same_text ps ss ts a b = let e : ◌≡◌ {A = Option Reading} (Some (between ss)) (Some (between ts)) = sym (text_taken ps ss a []) ∙ text_taken ps ts b [] in cc

-- What is read within the limits is read without them, to the same states.
pub step_free : (s : State) (x : Word) (t : State) → step true s x ≡ Some t → step false s x ≡ Some t
step_free s x t e = (step_tells true s x t e).1

pub run_free : (s t : State) (xs : List Word) → run true s xs ≡ Some t → run false s xs ≡ Some t
run_free s t [] e = e
run_free s t (x ∷ xs) e =
    let (u, one, more) = and_then_tells (step true s x) (λ z. run true z xs) t e in
    ap (λ o. and_then o (λ z. run false z xs)) (step_free s x u one) ∙ run_free u t xs more

word_free : (r u : Reading) (p : Placed) → take_word true r p ≡ Some u → take_word false r p ≡ Some u
word_free (between ss) u p e =
    let (s, one, same) = and_then_tells (step true start p.word) (λ z. Some (at_state ss p.place z)) u e in
    ap (λ o. and_then o (λ z. Some (at_state ss p.place z))) (step_free start p.word s one) ∙ same
word_free (within ss n s) u p e =
    let (t, one, same) = and_then_tells (step true s p.word) (λ z. Some (at_state ss n z)) u e in
    ap (λ o. and_then o (λ z. Some (at_state ss n z))) (step_free s p.word t one) ∙ same

words_free : (r u : Reading) (ps : List Placed) → take_words true r ps ≡ Some u → take_words false r ps ≡ Some u
words_free r u [] e = e
words_free r u (p ∷ ps) e =
    let (v, one, more) = and_then_tells (take_word true r p) (λ z. take_words true z ps) u e in
    ap (λ o. and_then o (λ z. take_words false z ps)) (word_free r v p one) ∙ words_free v u ps more

pub text_free : (ps : List Placed) (ss : List Statement) → IsText true ps ss → IsText false ps ss
text_free ps ss a = text_accepted false ps ss (words_free (between []) (between ss) ps (text_taken true ps ss a []))
