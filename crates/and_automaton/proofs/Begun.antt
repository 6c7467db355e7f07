-- A text as it is read: whole clauses, and then the beginning of one.
use Rattle.std.proofs.Common.{ℕ, ◌≡◌, ◌⊎◌, inl, inr, Bool, true, false, true≢false, cond, List, [], ◌∷◌, ◌++◌, Option, Some, None, refl, ap, sym, ◌∙◌}
use Rattle.std.proofs.Common.{subst, append-nil}
use Rattle.and_model.specs.Lines.{Bytes}
use Rattle.and_syntax.specs.Written
use Rattle.and_syntax.specs.Written.{Written}
use Rattle.and_language.specs.Words.{Word, Placed, is_reserved}
use Rattle.and_language.specs.Words as words
use Rattle.and_language.specs.Grammar.{nil, Statement, IsText, CanGoOn}
use Rattle.and_language.specs.Refusals.{NoneEnds}
use Rattle.and_automaton.specs.Machine.{Half, Pending, nothing_pending, at700, Bracket, plain, braces, arguments, elements, tail, Frame, ClausePart, head}
use Rattle.and_automaton.specs.Machine.{body, query, Outermost, wanted, numeral, operand, State, start, inside, opened_list, over, is_over, Role, is_product}
use Rattle.and_automaton.specs.Machine.{is_sum, is_relation, is_neck, is_none, role, take_operand, take_numeral, take_operator, take_name, take_relation}
use Rattle.and_automaton.specs.Machine.{take_neck, take_comma, take_semicolon, take_bar, take_close_bracket, take_close_brace, take_close_list, take_functor}
use Rattle.and_automaton.specs.Machine.{begins_query, closes_list, in_part, go, exceeds, step, and_then, run, Reading, between, at_state, take_word}
use Rattle.and_automaton.specs.Machine.{take_words, words_of}
use Rattle.and_automaton.proofs.Steps.{step_tells}
use Rattle.and_automaton.proofs.Accepted.{and_then_tells}
use Rattle.and_automaton.proofs.Texts.{read_both, text_taken, went_on, word_goes_on, run_free, text_free}

-- Where the state is over, the word was an end.
abbrev Ended : Word → Option State → Type 0
Ended x None = Unit {0}
Ended x (Some (over q w)) = x ≡ words.end
Ended x (Some start) = Unit {0}
Ended x (Some (inside l fs p m)) = Unit {0}
Ended x (Some (opened_list l fs p)) = Unit {0}

operand_ended : (l : Outermost) (fs : List Frame) (p : Pending) (x : Word) → Ended x (take_operand l fs p x)
operand_ended l fs p (words.name c) = by_test (is_reserved c)
  where
    by_test : (b : Bool) → Ended (words.name c) (cond b None (Some (inside l fs p (operand (Written.compound c Written.none) (Some c)))))
    by_test true = tt
    by_test false = tt
operand_ended l fs p (words.minus words.integer) = tt
operand_ended l fs p _ = tt

numeral_ended : (l : Outermost) (fs : List Frame) (p : Pending) (x : Word) → Ended x (take_numeral l fs p x)
numeral_ended l fs p (words.integer z) = tt
numeral_ended l fs p _ = tt

name_ended : (l : Outermost) (fs : List Frame) (p : Pending) (w : Written) (c : Bytes) (r : Role) → Ended (words.name c) (take_name l fs p w c r)
name_ended l fs p w c is_product = tt
name_ended l fs p w c is_sum = tt
name_ended l fs p w c is_relation = by_relation p.relation
  where
    by_relation : (r : Option Half) → Ended (words.name c) (take_relation l fs (record p { relation = r }) w c)
    by_relation None = tt
    by_relation (Some h) = tt
name_ended l (f ∷ fs) p w c (is_neck n) = tt
name_ended l [] p w c (is_neck n) = by_part l.part
  where
    by_part : (k : ClausePart) → Ended (words.name c) (take_neck (record l { part = k }) [] n (at700 p w))
    by_part head = tt
    by_part (body m h) = tt
    by_part query = tt
name_ended l fs p w c is_none = tt

-- So it is behind a term with each word that depends on the innermost bracket.
record BehindTerm (l : Outermost) (fs : List Frame) (a : Written) : Type 0 where
  comma : Ended words.comma (take_comma l fs a)
  semicolon : Ended words.semicolon (take_semicolon l fs a)
  bar : Ended words.bar (take_bar l fs a)
  close_bracket : Ended words.close_bracket (take_close_bracket l fs a)
  close_brace : Ended words.close_brace (take_close_brace l fs a)
  close_list : Ended words.close_list (take_close_list l fs a)

behind_term : (l : Outermost) (fs : List Frame) (a : Written) → BehindTerm l fs a
behind_term l [] a = record { comma = tt; semicolon = tt; bar = tt; close_bracket = tt; close_brace = tt; close_list = tt }
behind_term l (f ∷ fs) a = by_bracket f.bracket
  where
    by_bracket : (k : Bracket) → BehindTerm l (record f { bracket = k } ∷ fs) a
    by_bracket tail = record { comma = tt; semicolon = tt; bar = tt; close_bracket = tt; close_brace = tt; close_list = tt }
    by_bracket (plain es) = record { comma = tt; semicolon = tt; bar = tt; close_bracket = tt; close_brace = tt; close_list = tt }
    by_bracket (braces es) = record { comma = tt; semicolon = tt; bar = tt; close_bracket = tt; close_brace = tt; close_list = tt }
    by_bracket (arguments c) = record { comma = tt; semicolon = tt; bar = tt; close_bracket = tt; close_brace = tt; close_list = tt }
    by_bracket elements = record { comma = tt; semicolon = tt; bar = tt; close_bracket = tt; close_brace = tt; close_list = tt }

functor_ended : (l : Outermost) (fs : List Frame) (p : Pending) (f : Option Bytes) → Ended (words.open_bracket true) (take_functor l fs p f)
functor_ended l fs p None = tt
functor_ended l fs p (Some c) = tt

-- (An end is an end.)
end_ended : (o : Option State) → Ended words.end o
end_ended None = tt
end_ended (Some (over q w)) = refl
end_ended (Some start) = tt
end_ended (Some (inside l fs p m)) = tt
end_ended (Some (opened_list l fs p)) = tt

operator_ended : (l : Outermost) (fs : List Frame) (p : Pending) (w : Written) (f : Option Bytes) (x : Word) → Ended x (take_operator l fs p w f x)
operator_ended l fs p w f (words.name c) = name_ended l fs p w c (role c)
operator_ended l fs p w f (words.open_bracket true) = functor_ended l fs p f
operator_ended l fs p w f words.close_bracket = (behind_term l fs (at700 p w)).close_bracket
operator_ended l fs p w f words.close_list = (behind_term l fs (at700 p w)).close_list
operator_ended l fs p w f words.close_brace = (behind_term l fs (at700 p w)).close_brace
operator_ended l fs p w f words.comma = (behind_term l fs (at700 p w)).comma
operator_ended l fs p w f words.semicolon = (behind_term l fs (at700 p w)).semicolon
operator_ended l fs p w f words.bar = (behind_term l fs (at700 p w)).bar
operator_ended l fs p w f words.end = end_ended (take_operator l fs p w f words.end)
operator_ended l fs p w f _ = tt

either : (x : Word) (b : Bool) (o p : Option State) → Ended x o → Ended x p → Ended x (cond b o p)
either x true o p h k = h
either x false o p h k = k

ended : (s : State) (x : Word) → Ended x (go s x)
ended start x = either x (begins_query x) (Some (in_part query)) (take_operand (record { part = head; alternatives = []; before = [] }) [] nothing_pending x) tt
    (operand_ended (record { part = head; alternatives = []; before = [] }) [] nothing_pending x)
ended (inside l fs p wanted) x = operand_ended l fs p x
ended (inside l fs p numeral) x = numeral_ended l fs p x
ended (inside l fs p (operand w f)) x = operator_ended l fs p w f x
ended (opened_list l fs p) x =
    let gs : List Frame = record { bracket = elements; before = []; outside = p } ∷ fs in
    either x (closes_list x) (Some (inside l fs p (operand nil None))) (take_operand l gs nothing_pending x) tt (operand_ended l gs nothing_pending x)
ended (over q w) x = tt

still_begun : (s t : State) (x : Word) → (x ≡ words.end → ⊥) → go s x ≡ Some t → is_over t ≡ false
still_begun s t x open_still e = by_state t (subst (λ o. Ended x o) e (ended s x))
  where
    by_state : (t : State) → Ended x (Some t) → is_over t ≡ false
    by_state start h = refl
    by_state (inside l fs p m) h = refl
    by_state (opened_list l fs p) h = refl
    by_state (over q w) h = absurd (open_still h)

module _ (limited : Bool) where
  -- Words among which none ends a clause lead on in the clause that is begun,
  words_run : (ss : List Statement) (n : ℕ) (s : State) (r : Reading) (ps : List Placed) → is_over s ≡ false → NoneEnds ps
      → take_words limited (at_state ss n s) ps ≡ Some r
      → (t : State) × (run limited s (words_of ps) ≡ Some t) × (is_over t ≡ false) × (r ≡ at_state ss n t)
  words_run ss n s r [] begun none e = (s, refl, begun, (let same : at_state ss n s ≡ r = cc in sym same))
  words_run ss n s r (p ∷ ps) begun none e =
      let (u, one, more) = and_then_tells (take_word limited (at_state ss n s) p) (λ z. take_words limited z ps) r e in
      let (v, two, is) = and_then_tells (step limited s p.word) (λ z. Some (at_state ss n z)) u (sym (by_state s begun) ∙ one) in
      let told = (step_tells limited s p.word v two).1 in
      let same : u ≡ at_state ss n v = cc in
      let (t, ran, on, at) = words_run ss n v r ps (still_begun s v p.word none.0 told) none.1 (subst (λ z. take_words limited z ps ≡ Some r) same more) in
      (t, ap (λ o. and_then o (λ z. run limited z (words_of ps))) two ∙ ran, on, at)
    where
      by_state : (s : State) → is_over s ≡ false → take_word limited (at_state ss n s) p ≡ and_then (step limited s p.word) (λ z. Some (at_state ss n z))
      by_state start h = refl
      by_state (inside l fs q m) h = refl
      by_state (opened_list l fs q) h = refl
      by_state (over q w) h = absurd (true≢false h)

  -- also behind whole clauses.
  begun_run : (ss : List Statement) (r : Reading) (ps : List Placed) → NoneEnds ps → take_words limited (between ss) ps ≡ Some r
      → (t : State) × (run limited start (words_of ps) ≡ Some t) × (is_over t ≡ false) × (((n : ℕ) × (r ≡ at_state ss n t)) ⊎ (ps ≡ []))
  begun_run ss r [] none e = (start, refl, refl, inr refl)
  begun_run ss r (p ∷ ps) none e =
      let (u, one, more) = and_then_tells (take_word limited (between ss) p) (λ z. take_words limited z ps) r e in
      let (v, two, is) = and_then_tells (step limited start p.word) (λ z. Some (at_state ss p.place z)) u one in
      let told = (step_tells limited start p.word v two).1 in
      let same : u ≡ at_state ss p.place v = cc in
      let (t, ran, on, at) = words_run ss p.place v r ps (still_begun start v p.word none.0 told) none.1
      (subst (λ z. take_words limited z ps ≡ Some r) same more) in
      (t, ap (λ o. and_then o (λ z. run limited z (words_of ps))) two ∙ ran, on, inl (p.place, at))

  read_behind : (whole rest : List Placed) (ss : List Statement) → IsText limited whole ss
      → take_words limited (between []) (whole ++ rest) ≡ take_words limited (between ss) rest
  read_behind whole rest ss text = read_both limited (between []) whole rest
      ∙ ap (λ o. and_then o (λ t. take_words limited t rest)) (text_taken limited whole ss text [])

  pub goes_on_begun : (whole begun : List Placed) (ss : List Statement) → IsText limited whole ss → NoneEnds begun → CanGoOn limited (whole ++ begun)
      → (s : State) × (run limited start (words_of begun) ≡ Some s) × (is_over s ≡ false)
  goes_on_begun whole begun ss text none c =
      let (r, all) = went_on limited (whole ++ begun) c in
      let (t, ran, on, at) = begun_run ss r begun none (sym (read_behind whole begun ss text) ∙ all) in
      (t, ran, on)

  -- So words that make a text longer to a text have an end among them, if they are any.
  no_longer : (whole more : List Placed) (ss ts : List Statement) → IsText limited whole ss → IsText limited (whole ++ more) ts → NoneEnds more → more ≡ []
  no_longer whole more ss ts a b none =
      let all : take_words limited (between ss) more ≡ Some (between ts) = sym (read_behind whole more ss a) ∙ text_taken limited (whole ++ more) ts b [] in
      let (t, ran, on, at) = begun_run ss (between ts) more none all in
      by_case t on at
    where
      by_state : (t : State) (n : ℕ) → is_over t ≡ false → between ts ≡ at_state ss n t → more ≡ []
      by_state start n o e = absurd (cc)
      by_state (inside l fs p m) n o e = absurd (cc)
      by_state (opened_list l fs p) n o e = absurd (cc)
      by_state (over q w) n o e = absurd (true≢false o)

      by_case : (t : State) → is_over t ≡ false → ((n : ℕ) × (between ts ≡ at_state ss n t)) ⊎ (more ≡ []) → more ≡ []
      by_case t o (inl h) = by_state t h.0 o h.1
      by_case t o (inr h) = h

-- Of two fronts of a list, the one goes on to the other.
fronts : {A : Type 0} (xs ys zs ws : List A) → xs ++ ys ≡ zs ++ ws
    → ((es : List A) × (zs ≡ xs ++ es) × (ys ≡ es ++ ws)) ⊎ ((es : List A) × (xs ≡ zs ++ es) × (ws ≡ es ++ ys))
fronts [] ys zs ws e = inl (zs, refl, e)
fronts (x ∷ xs) ys [] ws e = inr (x ∷ xs, refl, sym e)
fronts {A} (x ∷ xs) ys (z ∷ zs) ws e =
    let first : x ≡ z = cc in
    let rest : xs ++ ys ≡ zs ++ ws = cc in
    longer first (fronts xs ys zs ws rest)
  where
    longer : x ≡ z → ((es : List A) × (zs ≡ xs ++ es) × (ys ≡ es ++ ws)) ⊎ ((es : List A) × (xs ≡ zs ++ es) × (ws ≡ es ++ ys))
        → ((es : List A) × (z ∷ zs ≡ (x ∷ xs) ++ es) × (ys ≡ es ++ ws)) ⊎ ((es : List A) × (x ∷ xs ≡ (z ∷ zs) ++ es) × (ws ≡ es ++ ys))
    longer f (inl h) = inl (h.0, (let g = h.1 in cc), h.2)
    longer f (inr h) = inr (h.0, (let g = h.1 in cc), h.2)

none_before : (ps qs : List Placed) → NoneEnds (ps ++ qs) → NoneEnds ps
none_before [] qs h = tt
none_before (p ∷ ps) qs h = (h.0, none_before ps qs h.1)

-- Words are in one way whole clauses and the beginning of one.
pub one_split : (limited : Bool) (whole begun front back : List Placed) (ss ts : List Statement) → whole ++ begun ≡ front ++ back → IsText limited whole ss
    → IsText limited front ts
    → NoneEnds begun → NoneEnds back → (whole ≡ front) × (begun ≡ back)
one_split limited whole begun front back ss ts e a b none few = by_case (fronts whole begun front back e)
  where
    by_case : ((es : List Placed) × (front ≡ whole ++ es) × (begun ≡ es ++ back)) ⊎ ((es : List Placed) × (whole ≡ front ++ es) × (back ≡ es ++ begun))
        → (whole ≡ front) × (begun ≡ back)
    by_case (inl (es, f, g)) =
        let nil' : es ≡ [] = no_longer limited whole es ss ts a (subst (λ z. IsText limited z ts) f b) (none_before es back (subst NoneEnds g none)) in
        (sym (f ∙ ap (λ z. whole ++ z) nil' ∙ append-nil whole), g ∙ ap (λ z. z ++ back) nil')
    by_case (inr (es, f, g)) =
        let nil' : es ≡ [] = no_longer limited front es ts ss b (subst (λ z. IsText limited z ss) f a) (none_before es begun (subst NoneEnds g few)) in
        (f ∙ ap (λ z. front ++ z) nil' ∙ append-nil front, sym (g ∙ ap (λ z. z ++ begun) nil'))

-- A word that the state does not take goes on to no text; one that it takes over a limit goes on to one without the limits alone.
module _ (whole begun : List Placed) (p : Placed) (ss : List Statement) (s : State) (text : IsText true whole ss)
    (ran : run true start (words_of begun) ≡ Some s) (on : is_over s ≡ false) where
  pub refused_word : go s p.word ≡ None → CanGoOn false ((whole ++ begun) ++ p ∷ []) → ⊥
  refused_word e c =
      let (t, took) = (word_goes_on false whole begun p ss s (text_free whole ss text) (run_free start s (words_of begun) ran) on).0 c in
      cc

  pub word_over_limit : (t : State) → go s p.word ≡ Some t → exceeds s p.word ≡ true
      → CanGoOn false ((whole ++ begun) ++ p ∷ []) × (CanGoOn true ((whole ++ begun) ++ p ∷ []) → ⊥)
  word_over_limit t e over' = (
    (word_goes_on false whole begun p ss s (text_free whole ss text) (run_free start s (words_of begun) ran) on).1 (t, e),
    λ c.
        let (u, took) = (word_goes_on true whole begun p ss s text ran on).0 c in
        let low : exceeds s p.word ≡ false = (step_tells true s p.word u took).0 refl in
        true≢false (sym over' ∙ low),
  )
