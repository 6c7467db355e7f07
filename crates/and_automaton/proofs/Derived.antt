-- What the grammar derives, the machine accepts.
use Rattle.std.proofs.Common.{ℕ, suc, ◌+◌, ◌≡◌, ◌<◌, Bool, true, false, cond, ◌&&◌, ◌||◌, List, [], ◌∷◌, length, Option, Some, None, refl, ap, sym, ◌∙◌}
use Rattle.std.proofs.Common.{arith, zero-add, pos}
use Rattle.std.specs.Prelude.{leb, codes, neg_ℤ}
use Rattle.std.specs.Str.{bytes_eq}
use Rattle.std.proofs.lemmas.Bool.{lt-leb}
use Rattle.and_model.specs.Lines.{Bytes}
use Rattle.and_syntax.specs.Written
use Rattle.and_syntax.specs.Written.{Written, Many}
use Rattle.and_language.specs.Words.{Word, is_reserved}
use Rattle.and_language.specs.Words as words
use Rattle.and_language.specs.Grammar.{Sort, symbol_of, sort_of, Level, term0, term200, term400, term500, term700, term1000, term1100}
use Rattle.and_language.specs.Grammar.{binary, unary, cell, nil, IsAtom, IsFunctor, IsSum, Reads, Arguments, Elements, IsClause}
use Rattle.and_automaton.specs.Machine.{Half, Pending, nothing_pending, with_half, negated, at700, Bracket, plain, braces, arguments, elements, tail, Frame}
use Rattle.and_automaton.specs.Machine.{ClausePart, head, body, query, Outermost, wanted, numeral, operand, State, start, inside, opened_list, over, depth}
use Rattle.and_automaton.specs.Machine.{conjunction, disjunction, at1100, many, list, take_name, take_sum, begins_query, closes_list, in_part, go, exceeds}
use Rattle.and_automaton.specs.Machine.{comma_exceeds, and_then, run}
use Rattle.and_automaton.proofs.Steps.{run_step, shallow, product_role, sum_role, relation_role, neck_role}
use Rattle.and_model.specs.declared.limits.TheConstants.{MAX_ARGUMENTS}

abbrev pending : Option Half → Option Half → Option Half → ℕ → Pending
pending r s c m = record { relation = r; sum = s; product = c; minuses = m }

abbrev framed : Bracket → List Written → Pending → List Frame → List Frame
framed k b p fs = record { bracket = k; before = b; outside = p } ∷ fs

-- where the first element of a list begins
abbrev in_list : Outermost → List Frame → Pending → State
in_list l fs p = inside l (framed elements [] p fs) nothing_pending wanted

-- what a term can begin with
abbrev CanBegin : List Word → Type 0
CanBegin [] = ⊥
CanBegin (x ∷ xs) = (begins_query x ≡ false) × (closes_list x ≡ false)

no_query : (c : Bytes) → is_reserved c ≡ false → bytes_eq c (codes "?-") ≡ false
no_query c e = last (bytes_eq c (codes ":-")) (bytes_eq c (codes "-->")) (bytes_eq c (codes "?-")) e
  where
    last : (x y z : Bool) → x || y || z ≡ false → z ≡ false
    last x y false e = refl
    last true y true e = absurd (cc e)
    last false true true e = absurd (cc e)
    last false false true e = absurd (cc e)

same_binary : (c : Bytes) (a b x y : Written) → a ≡ x → b ≡ y → binary c a b ≡ binary c x y
same_binary c a b x y e f = cc

-- An atom, a functor and an operator of the priority 500 are taken for what they are.
atom_begins : {x : Word} {c : Bytes} → IsAtom x c → (begins_query x ≡ false) × (closes_list x ≡ false)
atom_begins (IsAtom.name c e) = (no_query c e, refl)
atom_begins (IsAtom.quoted c) = (refl, refl)
atom_begins IsAtom.minus = (refl, refl)

functor_begins : {x : Word} {c : Bytes} → IsFunctor x c → (begins_query x ≡ false) × (closes_list x ≡ false)
functor_begins (IsFunctor.name c e) = (no_query c e, refl)
functor_begins (IsFunctor.quoted c) = (refl, refl)

atom_step : {x : Word} {c : Bytes} → IsAtom x c → (l : Outermost) (fs : List Frame) (p : Pending)
    → (f : Option Bytes) × (exceeds (inside l fs p wanted) x ≡ false)
    × (go (inside l fs p wanted) x ≡ Some (inside l fs p (operand (Written.compound c Written.none) f)))
atom_step (IsAtom.name c e) l fs p = (Some c, refl, ap (λ b. cond b None (Some (inside l fs p (operand (Written.compound c Written.none) (Some c))))) e)
atom_step (IsAtom.quoted c) l fs p = (Some c, refl, refl)
atom_step IsAtom.minus l fs p = (None, refl, refl)

functor_step : {x : Word} {c : Bytes} → IsFunctor x c → (l : Outermost) (fs : List Frame) (p : Pending)
    → (exceeds (inside l fs p wanted) x ≡ false) × (go (inside l fs p wanted) x ≡ Some (inside l fs p (operand (Written.compound c Written.none) (Some c))))
functor_step (IsFunctor.name c e) l fs p = (refl, ap (λ b. cond b None (Some (inside l fs p (operand (Written.compound c Written.none) (Some c))))) e)
functor_step (IsFunctor.quoted c) l fs p = (refl, refl)

sum_step : {x : Word} {c : Bytes} → IsSum x c → (l : Outermost) (fs : List Frame) (p : Pending) (w : Written) (f : Option Bytes)
    → (exceeds (inside l fs p (operand w f)) x ≡ false) × (go (inside l fs p (operand w f)) x ≡ Some (take_sum l fs p w c))
sum_step (IsSum.name c e) l fs p w f = (refl, ap (take_name l fs p w c) (sum_role c e))
sum_step (IsSum.minus b) l fs p w f = (refl, refl)

-- The first word of a term:
begins : {limited : Bool} {n : ℕ} {level : Level} {ws rest : List Word} {w : Written} → Reads limited n level ws rest w → CanBegin ws
begins (Reads.variable n x rest) = (refl, refl)
begins (Reads.integer n z rest low) = (refl, refl)
begins (Reads.negative n z rest) = (refl, refl)
begins (Reads.atom n a c rest i) = atom_begins i
begins (Reads.compound n a c ws rest ts i low x) = functor_begins i
begins (Reads.bracketed n b ws rest w low d) = (refl, refl)
begins (Reads.braced n ws rest w low d) = (refl, refl)
begins (Reads.empty_list n rest low) = (refl, refl)
begins (Reads.list n ws rest w low x) = (refl, refl)
begins (Reads.negated n ws rest w low d) = (refl, refl)
begins (Reads.product n ws us rest c a b d i e) = begins d
begins (Reads.sum n ws us rest o c a b d i e) = begins d
begins (Reads.relation n ws us rest c a b d i e) = begins d
begins (Reads.conjunction n ws us rest a b d e) = begins d
begins (Reads.disjunction n ws us rest a b d e) = begins d
begins (Reads.as200 n ws rest w d) = begins d
begins (Reads.as400 n ws rest w d) = begins d
begins (Reads.as500 n ws rest w d) = begins d
begins (Reads.as700 n ws rest w d) = begins d
begins (Reads.as1000 n ws rest w d) = begins d
begins (Reads.as1100 n ws rest w d) = begins d

elements_begin : {limited : Bool} {n : ℕ} {ws rest : List Word} {w : Written} → Elements limited n ws rest w → CanBegin ws
elements_begin (Elements.last_element n ws rest a d) = begins d
elements_begin (Elements.tail n ws us rest a b d e) = begins d
elements_begin (Elements.next_element n ws us rest a b d e) = begins d

-- So a list with elements, and a clause that is no query, are read as if their first operand were wanted anyway.
list_begins : (limited : Bool) (l : Outermost) (fs : List Frame) (p : Pending) (ws : List Word) → CanBegin ws
    → run limited (opened_list l fs p) ws ≡ run limited (in_list l fs p) ws
list_begins limited l fs p [] h = absurd h
list_begins limited l fs p (x ∷ xs) h =
    ap (λ b. and_then (cond (limited && exceeds (in_list l fs p) x) None (cond b (Some (inside l fs p (operand nil None))) (go (in_list l fs p) x)))
    (λ t. run limited t xs)) h.1

clause_begins : (limited : Bool) (ws : List Word) → CanBegin ws → run limited start ws ≡ run limited (in_part head) ws
clause_begins limited [] h = absurd h
clause_begins limited (x ∷ xs) h =
    ap (λ b. and_then (cond (limited && exceeds (in_part head) x) None (cond b (Some (in_part query)) (go (in_part head) x))) (λ t. run limited t xs)) h.0

module _ (limited : Bool) where
  -- where an operand is wanted, the words are taken, and the operand v stands at the rest
  abbrev Goes : Outermost → List Frame → Pending → List Word → Pending → Written → Option Bytes → List Word → Type 0
  Goes l fs p ws q v f rest = run limited (inside l fs p wanted) ws ≡ run limited (inside l fs q (operand v f)) rest

  -- where a comma joins the terms before it and the next one
  abbrev Commas : (List Written → Outermost) → (List Written → List Frame) → Type 0
  Commas l fs = (b : List Written) (p : Pending) (w : Written) (f : Option Bytes)
      → (comma_exceeds (fs b) ≡ false)
      × (go (inside (l b) (fs b) p (operand w f)) words.comma ≡ Some (inside (l (at700 p w ∷ b)) (fs (at700 p w ∷ b)) nothing_pending wanted))

  -- where a semicolon joins the alternatives before it and the next one
  abbrev Semicolons : (List Written → List Written → Outermost) → (List Written → List Written → List Frame) → Type 0
  Semicolons l fs = (es b : List Written) (p : Pending) (w : Written) (f : Option Bytes)
      → (go (inside (l es b) (fs es b) p (operand w f)) words.semicolon
      ≡ Some (inside (l (conjunction b (at700 p w) ∷ es) []) (fs (conjunction b (at700 p w) ∷ es) []) nothing_pending wanted))

  -- The words of a term of some priority are taken where nothing tighter is pending, and become that term together with what is left pending.
  abbrev Taken : Level → ℕ → List Word → List Word → Written → Type 0
  Taken term0 n ws rest w = (l : Outermost) (fs : List Frame) (p : Pending) → n ≡ p.minuses + depth fs → (f : Option Bytes) × Goes l fs p ws p w f rest
  Taken term200 n ws rest w = (l : Outermost) (fs : List Frame) (r s c : Option Half) (m : ℕ) → n ≡ m + depth fs
      → (k : ℕ) × (v : Written) × (f : Option Bytes) × (negated k v ≡ negated m w) × Goes l fs (pending r s c m) ws (pending r s c k) v f rest
  Taken term400 n ws rest w = (l : Outermost) (fs : List Frame) (r s : Option Half) → n ≡ depth fs
      → (c : Option Half) × (k : ℕ) × (v : Written) × (f : Option Bytes) × (with_half c (negated k v) ≡ w)
      × Goes l fs (pending r s None 0) ws (pending r s c k) v f rest
  Taken term500 n ws rest w = (l : Outermost) (fs : List Frame) (r : Option Half) → n ≡ depth fs
      → (s c : Option Half) × (k : ℕ) × (v : Written) × (f : Option Bytes) × (with_half s (with_half c (negated k v)) ≡ w)
      × Goes l fs (pending r None None 0) ws (pending r s c k) v f rest
  Taken term700 n ws rest w = (l : Outermost) (fs : List Frame) → n ≡ depth fs
      → (p : Pending) × (v : Written) × (f : Option Bytes) × (at700 p v ≡ w) × Goes l fs nothing_pending ws p v f rest
  Taken term1000 n ws rest w = (l : List Written → Outermost) (fs : List Written → List Frame) → ((b : List Written) → n ≡ depth (fs b)) → Commas l fs
      → (b : List Written)
      → (d : List Written) × (p : Pending) × (v : Written) × (f : Option Bytes) × (conjunction d (at700 p v) ≡ conjunction b w)
      × (run limited (inside (l b) (fs b) nothing_pending wanted) ws ≡ run limited (inside (l d) (fs d) p (operand v f)) rest)
  Taken term1100 n ws rest w = (l : List Written → List Written → Outermost) (fs : List Written → List Written → List Frame)
      → ((es b : List Written) → n ≡ depth (fs es b))
      → ((es : List Written) → Commas (l es) (fs es)) → Semicolons l fs → (es : List Written)
      → (gs d : List Written) × (p : Pending) × (v : Written) × (f : Option Bytes) × (at1100 gs d (at700 p v) ≡ disjunction es w)
      × (run limited (inside (l es []) (fs es []) nothing_pending wanted) ws ≡ run limited (inside (l gs d) (fs gs d) p (operand v f)) rest)

  abbrev TakenArguments : ℕ → ℕ → List Word → List Word → Many → Type 0
  TakenArguments n k ws rest ts = (l : Outermost) (fs : List Frame) (p : Pending) (c : Bytes) (b : List Written) → n ≡ suc (p.minuses + depth fs) → k ≡ length b
      → run limited (inside l (framed (arguments c) b p fs) nothing_pending wanted) ws
      ≡ run limited (inside l fs p (operand (Written.compound c (many b ts)) None)) rest

  abbrev TakenElements : ℕ → List Word → List Word → Written → Type 0
  TakenElements n ws rest w = (l : Outermost) (fs : List Frame) (p : Pending) (b : List Written) → n ≡ suc (p.minuses + depth fs)
      → run limited (inside l (framed elements b p fs) nothing_pending wanted) ws ≡ run limited (inside l fs p (operand (list b w) None)) rest

  mutual
    taken : {n : ℕ} {level : Level} {ws rest : List Word} {w : Written} → Reads limited n level ws rest w → Taken level n ws rest w
    taken (Reads.variable n x rest) =
        λ l fs p e. (None, run_step limited (inside l fs p wanted) (words.variable x) (inside l fs p (operand (Written.variable x) None)) rest (λ _. refl) refl)
    taken (Reads.integer n z rest low) = λ l fs p e. (
      None,
      run_step limited (inside l fs p wanted) (words.integer z) (inside l fs p (operand (Written.integer (pos z)) None)) rest
          (λ h. lt-leb 9223372036854775808 z (low h)) refl,
    )
    taken (Reads.negative n z rest) = λ l fs p e. (
      None,
      run_step limited (inside l fs p wanted) (words.minus words.integer) (inside l fs p numeral) (words.integer z ∷ rest) (λ _. refl) refl
          ∙ run_step limited (inside l fs p numeral) (words.integer z) (inside l fs p (operand (Written.integer (neg_ℤ (pos z))) None)) rest (λ _. refl) refl,
    )
    taken (Reads.atom n a c rest i) = λ l fs p e.
        let (f, low, went) = atom_step i l fs p in
        (f, run_step limited (inside l fs p wanted) a (inside l fs p (operand (Written.compound c Written.none) f)) rest (λ _. low) went)
    taken (Reads.compound n a c ws rest ts i low x) = λ l fs p e.
        let (small, went) = functor_step i l fs p in (
          None,
          run_step limited (inside l fs p wanted) a (inside l fs p (operand (Written.compound c Written.none) (Some c)))
              (words.open_bracket true ∷ ws) (λ _. small) went
              ∙ run_step limited (inside l fs p (operand (Written.compound c Written.none) (Some c))) (words.open_bracket true)
              (inside l (framed (arguments c) [] p fs) nothing_pending wanted) ws
              (shallow limited n (p.minuses + depth fs) e low) refl
              ∙ taken_arguments x l fs p c [] (ap suc e) refl,
        )
    taken (Reads.bracketed n behind ws rest w low d) = λ l fs p e.
        let (es, b, q, v, f, is, went) =
        taken d (λ _ _. l) (λ es b. framed (plain es) b p fs) (λ _ _. ap suc e) (λ es b q u g. (refl, refl)) (λ es b q u g. refl) [] in (
          None,
          run_step limited (inside l fs p wanted) (words.open_bracket behind) (inside l (framed (plain []) [] p fs) nothing_pending wanted) ws
              (shallow limited n (p.minuses + depth fs) e low) refl
              ∙ went
              ∙ run_step limited (inside l (framed (plain es) b p fs) q (operand v f)) words.close_bracket
              (inside l fs p (operand (at1100 es b (at700 q v)) None)) rest (λ _. refl) refl
              ∙ ap (λ u. run limited (inside l fs p (operand u None)) rest) is,
        )
    taken (Reads.braced n ws rest w low d) = λ l fs p e.
        let (es, b, q, v, f, is, went) =
        taken d (λ _ _. l) (λ es b. framed (braces es) b p fs) (λ _ _. ap suc e) (λ es b q u g. (refl, refl)) (λ es b q u g. refl) [] in (
          None,
          run_step limited (inside l fs p wanted) words.open_brace (inside l (framed (braces []) [] p fs) nothing_pending wanted) ws
              (shallow limited n (p.minuses + depth fs) e low) refl
              ∙ went
              ∙ run_step limited (inside l (framed (braces es) b p fs) q (operand v f)) words.close_brace
              (inside l fs p (operand (unary (codes "{}") (at1100 es b (at700 q v))) None)) rest (λ _. refl) refl
              ∙ ap (λ u. run limited (inside l fs p (operand (unary (codes "{}") u) None)) rest) is,
        )
    taken (Reads.empty_list n rest low) = λ l fs p e. (
      None,
      run_step limited (inside l fs p wanted) words.open_list (opened_list l fs p) (words.close_list ∷ rest)
          (shallow limited n (p.minuses + depth fs) e low) refl
          ∙ run_step limited (opened_list l fs p) words.close_list (inside l fs p (operand nil None)) rest (λ _. refl) refl,
    )
    taken (Reads.list n ws rest w low x) = λ l fs p e. (
      None,
      run_step limited (inside l fs p wanted) words.open_list (opened_list l fs p) ws (shallow limited n (p.minuses + depth fs) e low) refl
          ∙ list_begins limited l fs p ws (elements_begin x)
          ∙ taken_elements x l fs p [] (ap suc e),
    )
    taken (Reads.negated n ws rest w low d) = λ l fs r s c m e.
        let (k, v, f, is, went) = taken d l fs r s c (suc m) (omega arith) in (
          k,
          v,
          f,
          is,
          run_step limited (inside l fs (pending r s c m) wanted) (words.minus words.operand) (inside l fs (pending r s c (suc m)) wanted) ws
              (shallow limited n (m + depth fs) e low) refl ∙ went,
        )
    taken (Reads.product n ws us rest c a b d i t) = λ l fs r s e.
        let (o, k, v, f, is, went) = taken d l fs r s e in
        let q : Pending = pending r s (Some (record { left = with_half o (negated k v); operator = c })) 0 in
        let (m, u, g, same, on) = taken t l fs r s q.product 0 (e ∙ sym (zero-add (depth fs))) in (
          q.product,
          m,
          u,
          g,
          same_binary c (with_half o (negated k v)) (negated m u) a b is same,
          went ∙ run_step limited (inside l fs (pending r s o k) (operand v f)) (words.name c) (inside l fs q wanted) us (λ _. refl)
              (ap (take_name l fs (pending r s o k) v c) (product_role c i)) ∙ on,
        )
    taken (Reads.sum n ws us rest x c a b d i t) = λ l fs r e.
        let (o, j, k, v, f, is, went) = taken d l fs r e in
        let z : Written = with_half o (with_half j (negated k v)) in
        let q : Pending = pending r (Some (record { left = z; operator = c })) None 0 in
        let (h, m, u, g, same, on) = taken t l fs r q.sum e in
        let (low, next) = sum_step i l fs (pending r o j k) v f in (
          q.sum,
          h,
          m,
          u,
          g,
          same_binary c z (with_half h (negated m u)) a b is same,
          went ∙ run_step limited (inside l fs (pending r o j k) (operand v f)) x (inside l fs q wanted) us (λ _. low) next ∙ on,
        )
    taken (Reads.relation n ws us rest c a b d i t) = λ l fs e.
        let (o, j, k, v, f, is, went) = taken d l fs None e in
        let z : Written = with_half o (with_half j (negated k v)) in
        let half : Option Half = Some (record { left = z; operator = c }) in
        let (y, h, m, u, g, same, on) = taken t l fs half e in (
          pending half y h m,
          u,
          g,
          same_binary c z (with_half y (with_half h (negated m u))) a b is same,
          went ∙ run_step limited (inside l fs (pending None o j k) (operand v f)) (words.name c) (inside l fs (pending half None None 0) wanted) us
              (λ _. refl) (ap (take_name l fs (pending None o j k) v c) (relation_role c i)) ∙ on,
        )
    taken (Reads.conjunction n ws us rest a w d t) = λ l fs e commas b.
        let (p, v, f, is, went) = taken d (l b) (fs b) (e b) in
        let (y, q, u, g, same, on) = taken t l fs e commas (at700 p v ∷ b) in
        let (low, next) = commas b p v f in (
          y,
          q,
          u,
          g,
          same ∙ ap (λ z. conjunction b (binary (codes ",") z w)) is,
          went ∙ run_step limited (inside (l b) (fs b) p (operand v f)) words.comma (inside (l (at700 p v ∷ b)) (fs (at700 p v ∷ b)) nothing_pending wanted) us
              (λ _. low) next ∙ on,
        )
    taken (Reads.disjunction n ws us rest a w d t) = λ l fs e commas semicolons es.
        let (b, p, v, f, is, went) = taken d (l es) (fs es) (e es) (commas es) [] in
        let x : Written = conjunction b (at700 p v) in
        let (gs, y, q, u, g, same, on) = taken t l fs e commas semicolons (x ∷ es) in (
          gs,
          y,
          q,
          u,
          g,
          same ∙ ap (λ z. disjunction es (binary (codes ";") z w)) is,
          went ∙ run_step limited (inside (l es b) (fs es b) p (operand v f)) words.semicolon (inside (l (x ∷ es) []) (fs (x ∷ es) []) nothing_pending wanted)
              us (λ _. refl) (semicolons es b p v f) ∙ on,
        )
    taken (Reads.as200 n ws rest w d) = λ l fs r s c m e. let (f, went) = taken d l fs (pending r s c m) e in (m, w, f, refl, went)
    taken (Reads.as400 n ws rest w d) = λ l fs r s e. let (k, v, f, is, went) =
        taken d l fs r s None 0 (e ∙ sym (zero-add (depth fs))) in (None, k, v, f, is, went)
    taken (Reads.as500 n ws rest w d) = λ l fs r e. let (c, k, v, f, is, went) = taken d l fs r None e in (None, c, k, v, f, is, went)
    taken (Reads.as700 n ws rest w d) = λ l fs e. let (s, c, k, v, f, is, went) = taken d l fs None e in (pending None s c k, v, f, is, went)
    taken (Reads.as1000 n ws rest w d) = λ l fs e commas b. let (p, v, f, is, went) = taken d (l b) (fs b) (e b) in (b, p, v, f, ap (conjunction b) is, went)
    taken (Reads.as1100 n ws rest w d) = λ l fs e commas semicolons es.
        let (b, p, v, f, is, went) = taken d (l es) (fs es) (e es) (commas es) [] in (es, b, p, v, f, ap (disjunction es) is, went)

    taken_arguments : {n k : ℕ} {ws rest : List Word} {ts : Many} → Arguments limited n k ws rest ts → TakenArguments n k ws rest ts
    taken_arguments (Arguments.last_argument n k ws rest w d) l fs p c b e same =
        let (q, v, f, is, went) = taken d l (framed (arguments c) b p fs) e in
        went
        ∙ run_step limited (inside l (framed (arguments c) b p fs) q (operand v f)) words.close_bracket
        (inside l fs p (operand (Written.compound c (many b (Written.more (at700 q v) Written.none))) None)) rest (λ _. refl) refl
        ∙ ap (λ u. run limited (inside l fs p (operand (Written.compound c (many b (Written.more u Written.none))) None)) rest) is
    taken_arguments (Arguments.next_argument n k ws us rest w ts d low x) l fs p c b e same =
        let (q, v, f, is, went) = taken d l (framed (arguments c) b p fs) e in
        let few : limited ≡ true → leb MAX_ARGUMENTS (suc (length b)) ≡ false =
        λ h. lt-leb MAX_ARGUMENTS (suc (length b)) (let less : suc k < MAX_ARGUMENTS = low h in omega arith) in
        went
        ∙ run_step limited (inside l (framed (arguments c) b p fs) q (operand v f)) words.comma
        (inside l (framed (arguments c) (at700 q v ∷ b) p fs) nothing_pending wanted) us few refl
        ∙ taken_arguments x l fs p c (at700 q v ∷ b) e (ap suc same)
        ∙ ap (λ u. run limited (inside l fs p (operand (Written.compound c (many b (Written.more u ts))) None)) rest) is

    taken_elements : {n : ℕ} {ws rest : List Word} {w : Written} → Elements limited n ws rest w → TakenElements n ws rest w
    taken_elements (Elements.last_element n ws rest a d) l fs p b e =
        let (q, v, f, is, went) = taken d l (framed elements b p fs) e in
        went
        ∙ run_step limited (inside l (framed elements b p fs) q (operand v f)) words.close_list (inside l fs p (operand (list b (cell (at700 q v) nil)) None))
        rest (λ _. refl) refl
        ∙ ap (λ u. run limited (inside l fs p (operand (list b (cell u nil)) None)) rest) is
    taken_elements (Elements.tail n ws us rest a w d t) l fs p b e =
        let (q, v, f, is, went) = taken d l (framed elements b p fs) e in
        let (o, u, g, same, on) = taken t l (framed tail (at700 q v ∷ b) p fs) e in
        went
        ∙ run_step limited (inside l (framed elements b p fs) q (operand v f)) words.bar
        (inside l (framed tail (at700 q v ∷ b) p fs) nothing_pending wanted) us (λ _. refl) refl
        ∙ on
        ∙ run_step limited (inside l (framed tail (at700 q v ∷ b) p fs) o (operand u g)) words.close_list
        (inside l fs p (operand (list (at700 q v ∷ b) (at700 o u)) None)) rest (λ _. refl) refl
        ∙ ap (λ z. run limited (inside l fs p (operand z None)) rest) (ap (λ x. list b x) (same_binary (codes ".") (at700 q v) (at700 o u) a w is same))
    taken_elements (Elements.next_element n ws us rest a w d x) l fs p b e =
        let (q, v, f, is, went) = taken d l (framed elements b p fs) e in
        went
        ∙ run_step limited (inside l (framed elements b p fs) q (operand v f)) words.comma
        (inside l (framed elements (at700 q v ∷ b) p fs) nothing_pending wanted) us (λ _. refl) refl
        ∙ taken_elements x l fs p (at700 q v ∷ b) e
        ∙ ap (λ u. run limited (inside l fs p (operand (list b (cell u w)) None)) rest) is

  -- the terms of a part of a clause
  part_taken : (a : ClausePart) {ws rest : List Word} {w : Written} → Reads limited 0 term1100 ws rest w
      → (es d : List Written) × (p : Pending) × (v : Written) × (f : Option Bytes) × (at1100 es d (at700 p v) ≡ w)
      × (run limited (in_part a) ws ≡ run limited (inside (record { part = a; alternatives = es; before = d }) [] p (operand v f)) rest)
  part_taken a d = taken d (λ es b. record { part = a; alternatives = es; before = b }) (λ es b. []) (λ es b. refl) (λ es b p w f. (refl, refl))
      (λ es b p w f. refl) []

  -- So the machine takes the words of a clause, and ends with its term.
  pub clause_taken : {ws : List Word} {q : Sort} {w : Written} → IsClause limited ws q w → run limited start ws ≡ Some (over q w)
  clause_taken (IsClause.fact ws h d) =
      let (es, b, p, v, f, is, went) = part_taken head d in
      clause_begins limited ws (begins d) ∙ went
      ∙ run_step limited (inside (record { part = head; alternatives = es; before = b }) [] p (operand v f)) words.end
      (over Sort.clause (at1100 es b (at700 p v))) [] (λ _. refl) refl
      ∙ ap (λ u. Some (over Sort.clause u)) is
  clause_taken (IsClause.rule ws us k h w d t) =
      let (es, b, p, v, f, is, went) = part_taken head d in
      let x : Written = at1100 es b (at700 p v) in
      let (gs, c, q, u, g, same, on) = part_taken (body k x) t in
      clause_begins limited ws (begins d) ∙ went
      ∙ run_step limited (inside (record { part = head; alternatives = es; before = b }) [] p (operand v f)) (words.name (symbol_of k))
      (in_part (body k x)) us (λ _. refl)
      (ap (take_name (record { part = head; alternatives = es; before = b }) [] p v (symbol_of k)) (neck_role k))
      ∙ on
      ∙ run_step limited (inside (record { part = body k x; alternatives = gs; before = c }) [] q (operand u g)) words.end
      (over (sort_of k) (binary (symbol_of k) x (at1100 gs c (at700 q u)))) [] (λ _. refl) refl
      ∙ ap (λ z. Some (over (sort_of k) z)) (same_binary (symbol_of k) x (at1100 gs c (at700 q u)) h w is same)
  clause_taken (IsClause.query ws w d) =
      let (es, b, p, v, f, is, went) = part_taken query d in
      run_step limited start (words.name (codes "?-")) (in_part query) ws (λ _. refl) refl ∙ went
      ∙ run_step limited (inside (record { part = query; alternatives = es; before = b }) [] p (operand v f)) words.end
      (over Sort.query (unary (codes "?-") (at1100 es b (at700 p v)))) [] (λ _. refl) refl
      ∙ ap (λ u. Some (over Sort.query (unary (codes "?-") u))) is
