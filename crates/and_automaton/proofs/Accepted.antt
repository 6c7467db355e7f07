-- What the machine accepts, the grammar derives.
use Rattle.std.proofs.Common.{ℕ, suc, ◌+◌, ◌≡◌, ◌<◌, Bool, true, false, true≢false, cond, List, [], ◌∷◌, length, Option, Some, None, refl, ap, sym, ◌∙◌}
use Rattle.std.proofs.Common.{subst, zero-add, arith}
use Rattle.std.specs.Prelude.{leb, codes}
use Rattle.std.specs.Str.{bytes_eq}
use Rattle.std.proofs.lemmas.Bool.{leb-false}
use Rattle.std.proofs.lemmas.Slice.Eq.{bytes_eq-Decides}
use Rattle.and_model.specs.Lines.{Bytes}
use Rattle.and_syntax.specs.Written
use Rattle.and_syntax.specs.Written.{Written, Many}
use Rattle.and_language.specs.Words.{Word, products, relations, is_one_of, is_reserved}
use Rattle.and_language.specs.Words as words
use Rattle.and_language.specs.Grammar.{Sort, Neck, symbol_of, sort_of, term0, term200, term400, term500, term700, term1000, term1100, binary, unary, cell}
use Rattle.and_language.specs.Grammar.{nil, IsAtom, IsFunctor, IsSum, Reads, Arguments, Elements, IsClause}
use Rattle.and_automaton.specs.Machine.{Half, Pending, nothing_pending, with_half, negated, at200, at400, at500, at700, Bracket, plain, braces, arguments}
use Rattle.and_automaton.specs.Machine.{elements, tail, Frame, ClausePart, head, body, query, Outermost, wanted, numeral, operand, State, start, inside}
use Rattle.and_automaton.specs.Machine.{opened_list, over, depth, conjunction, disjunction, at1100, many, list, role, take_operand, take_numeral}
use Rattle.and_automaton.specs.Machine.{take_operator, take_name, take_sum, take_relation, take_neck, take_comma, take_semicolon, take_bar}
use Rattle.and_automaton.specs.Machine.{take_close_bracket, take_close_brace, take_close_list, take_end, take_functor, begins_query, closes_list}
use Rattle.and_automaton.specs.Machine.{operand_exceeds, operator_exceeds, comma_exceeds, go, exceeds, step, and_then, run}
use Rattle.and_automaton.proofs.Steps.{step_tells, shallow_told, by_role}
use Rattle.and_model.specs.declared.limits.TheConstants.{MAX_ARGUMENTS, MAX_NESTING}

pub and_then_tells : {A B : Type 0} (o : Option A) (f : A → Option B) (b : B) → and_then o f ≡ Some b → (a : A) × (o ≡ Some a) × (f a ≡ Some b)
and_then_tells None f b e = absurd (cc)
and_then_tells (Some a) f b e = (a, refl, e)

query_word : (x : Word) → begins_query x ≡ true → x ≡ words.name (codes "?-")
query_word (words.name c) e = ap (λ c. words.name c) ((bytes_eq-Decides c (codes "?-")).0 e)
query_word x e = absurd (true≢false (sym e))

closing_word : (x : Word) → closes_list x ≡ true → x ≡ words.close_list
closing_word words.close_list e = refl
closing_word x e = absurd (true≢false (sym e))

module _ (limited : Bool) (whole : List Word) where
  -- The relation that is pending begins at a, and its right operand at b.
  abbrev Relates : ℕ → Option Half → List Word → List Word → Type 0
  Relates n None a b = a ≡ b
  Relates n (Some h) a b = Reads limited n term500 a (words.name h.operator ∷ b) h.left × (is_one_of relations h.operator ≡ true)

  -- What is pending begins at one place, and the operand that it waits for at the other. Each priority's term begins
  -- at a place between them, and each tighter one completes it.
  record Opened (n : ℕ) (p : Pending) (from at : List Word) : Type 0 where
    at_sum : List Word
    at_product : List Word
    at_minuses : List Word
    relation : Relates n p.relation from at_sum
    sum : (rest : List Word) (w : Written) → Reads limited n term400 at_product rest w → Reads limited n term500 at_sum rest (with_half p.sum w)
    product : (rest : List Word) (w : Written) → Reads limited n term200 at_minuses rest w → Reads limited n term400 at_product rest (with_half p.product w)
    minuses : (rest : List Word) (w : Written) → Reads limited (p.minuses + n) term200 at rest w → Reads limited n term200 at_minuses rest (negated p.minuses w)

  no_minus : (n : ℕ) (at rest : List Word) (w : Written) → Reads limited (0 + n) term200 at rest w → Reads limited n term200 at rest w
  no_minus n at rest w d = subst (λ k. Reads limited k term200 at rest w) (zero-add n) d

  fresh : (n : ℕ) (at : List Word) → Opened n nothing_pending at at
  fresh n at = record {
    at_sum = at;
    at_product = at;
    at_minuses = at;
    relation = refl;
    sum = λ rest w d. Reads.as500 n at rest w d;
    product = λ rest w d. Reads.as400 n at rest w d;
    minuses = no_minus n at;
  }

  -- An operand completes what is pending, up to each priority.
  module _ (n : ℕ) (p : Pending) (from at rest : List Word) (w : Written) (o : Opened n p from at) (d : Reads limited (p.minuses + n) term0 at rest w) where
    complete400 : Reads limited n term400 o.at_product rest (at400 p w)
    complete400 = o.product rest (at200 p w) (o.minuses rest w (Reads.as200 (p.minuses + n) at rest w d))

    complete500 : Reads limited n term500 o.at_sum rest (at500 p w)
    complete500 = o.sum rest (at400 p w) complete400

    complete700 : Reads limited n term700 from rest (at700 p w)
    complete700 = by_relation p.relation o.relation
      where
        by_relation : (r : Option Half) → Relates n r from o.at_sum → Reads limited n term700 from rest (with_half r (at500 p w))
        by_relation None e = subst (λ s. Reads limited n term700 s rest (at500 p w)) (sym e) (Reads.as700 n o.at_sum rest (at500 p w) complete500)
        by_relation (Some h) g = Reads.relation n from o.at_sum rest h.operator h.left (at500 p w) g.0 g.1 complete500

  -- The terms before the last comma, and those from the one place on, are a conjunction that begins at the other.
  abbrev Conjoins : ℕ → List Written → List Word → List Word → Type 0
  Conjoins n b mid from = (rest : List Word) (w : Written) → Reads limited n term1000 from rest w → Reads limited n term1000 mid rest (conjunction b w)

  -- What stands in a bracket from one place on makes an operand that begins at the other. (Its last alternative begins between them.)
  abbrev Inside : ℕ → Bracket → List Written → List Word → List Word → Type 0
  Inside n (plain es) b at from =
      (mid : List Word) × Conjoins (suc n) b mid from
      × ((rest : List Word) (w : Written) → Reads limited (suc n) term1100 mid (words.close_bracket ∷ rest) w
      → Reads limited n term0 at rest (disjunction es w))
  Inside n (braces es) b at from =
      (mid : List Word) × Conjoins (suc n) b mid from
      × ((rest : List Word) (w : Written) → Reads limited (suc n) term1100 mid (words.close_brace ∷ rest) w
      → Reads limited n term0 at rest (unary (codes "{}") (disjunction es w)))
  Inside n (arguments c) b at from = (rest : List Word) (ts : Many) → Arguments limited (suc n) (length b) from rest ts
      → Reads limited n term0 at rest (Written.compound c (many b ts))
  Inside n elements b at from = (rest : List Word) (w : Written) → Elements limited (suc n) from rest w → Reads limited n term0 at rest (list b w)
  Inside n tail b at from = (rest : List Word) (w : Written) → Reads limited (suc n) term700 from (words.close_list ∷ rest) w
      → Reads limited n term0 at rest (list b w)

  -- What stands outside of brackets makes the clause, where its last alternative begins at the place.
  abbrev Completes : ClausePart → List Written → List Word → Type 0
  Completes head es mid = (rest : List Word) (w : Written) → Reads limited 0 term1100 mid rest w → Reads limited 0 term1100 whole rest (disjunction es w)
  Completes (body n h) es mid = (w : Written) → Reads limited 0 term1100 mid (words.end ∷ []) w
      → IsClause limited whole (sort_of n) (binary (symbol_of n) h (disjunction es w))
  Completes query es mid = (w : Written) → Reads limited 0 term1100 mid (words.end ∷ []) w
      → IsClause limited whole Sort.query (unary (codes "?-") (disjunction es w))

  abbrev Outside : ClausePart → List Written → List Written → List Word → Type 0
  Outside k es b from = (mid : List Word) × Conjoins 0 b mid from × Completes k es mid

  abbrev Within : Outermost → List Frame → List Word → Type 0
  Within l [] from = Outside l.part l.alternatives l.before from
  Within l (f ∷ fs) from = (outer at : List Word) × Within l fs outer × Opened (depth fs) f.outside outer at
      × Inside (f.outside.minuses + depth fs) f.bracket f.before at from

  -- the word of a name that can be a compound's
  abbrev Named : Option Bytes → List Word → List Word → Type 0
  Named None at here = Unit {0}
  Named (Some c) at here = (a : Word) × IsFunctor a c × (at ≡ a ∷ here)

  -- The state fits what was read of the whole, where these words are left.
  abbrev Fits : State → List Word → Type 0
  Fits start here = whole ≡ here
  Fits (inside l fs p wanted) here = (from : List Word) × Within l fs from × Opened (depth fs) p from here
  Fits (inside l fs p numeral) here = (from : List Word) × Within l fs from × Opened (depth fs) p from (words.minus words.integer ∷ here)
  Fits (inside l fs p (operand w f)) here =
      (from at : List Word) × Within l fs from × Opened (depth fs) p from at × Reads limited (p.minuses + depth fs) term0 at here w × Named f at here
  Fits (opened_list l fs p) here = (from : List Word) × Within l fs from × Opened (depth fs) p from (words.open_list ∷ here)
      × (limited ≡ true → p.minuses + depth fs < MAX_NESTING)
  Fits (over q w) here = here ≡ [] → IsClause limited whole q w

  abbrev Keeps : Option State → List Word → Type 0
  Keeps None here = Unit {0}
  Keeps (Some s) here = Fits s here

  -- a word where an operand is wanted
  operand_kept : (l : Outermost) (fs : List Frame) (p : Pending) (x : Word) (here from : List Word) → (limited ≡ true → operand_exceeds fs p x ≡ false)
      → Within l fs from → Opened (depth fs) p from (x ∷ here) → Keeps (take_operand l fs p x) here
  operand_kept l fs p (words.variable x) here from low i o = (from, words.variable x ∷ here, i, o, Reads.variable (p.minuses + depth fs) x here, tt)
  operand_kept l fs p (words.integer z) here from low i o =
      (from, words.integer z ∷ here, i, o, Reads.integer (p.minuses + depth fs) z here (λ h. leb-false 9223372036854775808 z (low h)), tt)
  operand_kept l fs p (words.name c) here from low i o = tested (is_reserved c) refl
    where
      tested : (b : Bool) → is_reserved c ≡ b
          → Keeps (cond b None (Some (inside l fs p (operand (Written.compound c Written.none) (Some c))))) here
      tested true e = tt
      tested false e =
          (from, words.name c ∷ here, i, o, Reads.atom (p.minuses + depth fs) (words.name c) c here (IsAtom.name c e), (words.name c, IsFunctor.name c e, refl))
  operand_kept l fs p (words.quoted c) here from low i o = (
    from,
    words.quoted c ∷ here,
    i,
    o,
    Reads.atom (p.minuses + depth fs) (words.quoted c) c here (IsAtom.quoted c),
    (words.quoted c, IsFunctor.quoted c, refl),
  )
  operand_kept l fs p (words.minus words.integer) here from low i o = (from, i, o)
  operand_kept l fs p (words.minus words.bracket) here from low i o = tt
  operand_kept l fs p (words.minus words.stop) here from low i o =
      (from, words.minus words.stop ∷ here, i, o, Reads.atom (p.minuses + depth fs) (words.minus words.stop) (codes "-") here IsAtom.minus, tt)
  operand_kept l fs p (words.minus words.operand) here from low i o = (
    from,
    i,
    record {
      at_sum = o.at_sum;
      at_product = o.at_product;
      at_minuses = o.at_minuses;
      relation = o.relation;
      sum = o.sum;
      product = o.product;
      minuses = λ rest w d. o.minuses rest (unary (codes "-") w)
          (Reads.negated (p.minuses + depth fs) here rest w (shallow_told limited (p.minuses + depth fs) low)
          (subst (λ k. Reads limited k term200 here rest w) (suc_plus p.minuses (depth fs)) d));
    },
  )
    where
      suc_plus : (m n : ℕ) → suc m + n ≡ suc (m + n)
      suc_plus m n = omega arith
  operand_kept l fs p (words.open_bracket behind) here from low i o =
      let n : ℕ = p.minuses + depth fs in (
        here,
        (
          from,
          words.open_bracket behind ∷ here,
          i,
          o,
          (here, (λ rest w t. t), λ rest w d. Reads.bracketed n behind here rest w (shallow_told limited n low) d),
        ),
        fresh (suc n) here,
      )
  operand_kept l fs p words.open_brace here from low i o =
      let n : ℕ = p.minuses + depth fs in (
        here,
        (from, words.open_brace ∷ here, i, o, (here, (λ rest w t. t), λ rest w d. Reads.braced n here rest w (shallow_told limited n low) d)),
        fresh (suc n) here,
      )
  operand_kept l fs p words.open_list here from low i o = (from, i, o, shallow_told limited (p.minuses + depth fs) low)
  operand_kept l fs p words.close_bracket here from low i o = tt
  operand_kept l fs p words.close_list here from low i o = tt
  operand_kept l fs p words.close_brace here from low i o = tt
  operand_kept l fs p words.comma here from low i o = tt
  operand_kept l fs p words.semicolon here from low i o = tt
  operand_kept l fs p words.bar here from low i o = tt
  operand_kept l fs p words.end here from low i o = tt

  numeral_kept : (l : Outermost) (fs : List Frame) (p : Pending) (x : Word) (here from : List Word) → Within l fs from
      → Opened (depth fs) p from (words.minus words.integer ∷ x ∷ here)
      → Keeps (take_numeral l fs p x) here
  numeral_kept l fs p (words.integer z) here from i o =
      (from, words.minus words.integer ∷ words.integer z ∷ here, i, o, Reads.negative (p.minuses + depth fs) z here, tt)
  numeral_kept l fs p (words.variable x) here from i o = tt
  numeral_kept l fs p (words.name c) here from i o = tt
  numeral_kept l fs p (words.quoted c) here from i o = tt
  numeral_kept l fs p (words.minus b) here from i o = tt
  numeral_kept l fs p (words.open_bracket b) here from i o = tt
  numeral_kept l fs p words.close_bracket here from i o = tt
  numeral_kept l fs p words.open_list here from i o = tt
  numeral_kept l fs p words.close_list here from i o = tt
  numeral_kept l fs p words.open_brace here from i o = tt
  numeral_kept l fs p words.close_brace here from i o = tt
  numeral_kept l fs p words.comma here from i o = tt
  numeral_kept l fs p words.semicolon here from i o = tt
  numeral_kept l fs p words.bar here from i o = tt
  numeral_kept l fs p words.end here from i o = tt

  -- the words behind a term of the priority 700
  neck_kept : (l : Outermost) (fs : List Frame) (n : Neck) (a : Written) (here from : List Word) → Within l fs from
      → Reads limited (depth fs) term700 from (words.name (symbol_of n) ∷ here) a
      → Keeps (take_neck l fs n a) here
  neck_kept l (f ∷ fs) n a here from i d = tt
  neck_kept l [] n a here from i d = by_part l.part l.alternatives l.before i
    where
      next : List Word
      next = words.name (symbol_of n) ∷ here

      by_part : (k : ClausePart) (es b : List Written) → Outside k es b from
          → Keeps (take_neck (record { part = k; alternatives = es; before = b }) [] n a) here
      by_part head es b (mid, joins, out) = (
        here,
        (
          here,
          (λ rest w t. t),
          λ w t. IsClause.rule whole here n (at1100 es b a) w
              (out next (conjunction b a) (Reads.as1100 0 mid next (conjunction b a) (joins next a (Reads.as1000 0 from next a d)))) t,
        ),
        fresh 0 here,
      )
      by_part (body m h) es b out = tt
      by_part query es b out = tt

  comma_kept : (l : Outermost) (fs : List Frame) (a : Written) (here from : List Word) → (limited ≡ true → comma_exceeds fs ≡ false) → Within l fs from
      → Reads limited (depth fs) term700 from (words.comma ∷ here) a → Keeps (take_comma l fs a) here
  comma_kept l [] a here from low (mid, joins, out) d =
      (here, (mid, (λ rest w t. joins rest (binary (codes ",") a w) (Reads.conjunction 0 from here rest a w d t)), out), fresh 0 here)
  comma_kept l (f ∷ fs) a here from low (outer, at, i, o, inner) d = by_bracket f.bracket f.before low inner
    where
      by_bracket : (k : Bracket) (b : List Written) → (limited ≡ true → comma_exceeds (record { bracket = k; before = b; outside = f.outside } ∷ fs) ≡ false)
          → Inside (f.outside.minuses + depth fs) k b at from → Keeps (take_comma l (record { bracket = k; before = b; outside = f.outside } ∷ fs) a) here
      by_bracket (plain es) b few (mid, joins, inner) =
          let n : ℕ = suc (f.outside.minuses + depth fs) in
          (here, (outer, at, i, o, (mid, (λ rest w t. joins rest (binary (codes ",") a w) (Reads.conjunction n from here rest a w d t)), inner)), fresh n here)
      by_bracket (braces es) b few (mid, joins, inner) =
          let n : ℕ = suc (f.outside.minuses + depth fs) in
          (here, (outer, at, i, o, (mid, (λ rest w t. joins rest (binary (codes ",") a w) (Reads.conjunction n from here rest a w d t)), inner)), fresh n here)
      by_bracket (arguments c) b few inner = (
        here,
        (
          outer,
          at,
          i,
          o,
          λ rest ts t. inner rest (Written.more a ts)
              (Arguments.next_argument (suc (f.outside.minuses + depth fs)) (length b) from here rest a ts d
              (λ h. leb-false MAX_ARGUMENTS (suc (length b)) (few h)) t),
        ),
        fresh (suc (f.outside.minuses + depth fs)) here,
      )
      by_bracket elements b few inner = (
        here,
        (outer, at, i, o, λ rest w t. inner rest (cell a w) (Elements.next_element (suc (f.outside.minuses + depth fs)) from here rest a w d t)),
        fresh (suc (f.outside.minuses + depth fs)) here,
      )
      by_bracket tail b few inner = tt

  semicolon_kept : (l : Outermost) (fs : List Frame) (a : Written) (here from : List Word) → Within l fs from
      → Reads limited (depth fs) term700 from (words.semicolon ∷ here) a
      → Keeps (take_semicolon l fs a) here
  semicolon_kept l [] a here from (mid, joins, out) d = (here, (here, (λ rest w t. t), by_part l.part l.alternatives out), fresh 0 here)
    where
      v : Written
      v = conjunction l.before a

      before : Reads limited 0 term1000 mid (words.semicolon ∷ here) v
      before = joins (words.semicolon ∷ here) a (Reads.as1000 0 from (words.semicolon ∷ here) a d)

      by_part : (k : ClausePart) (es : List Written) → Completes k es mid → Completes k (v ∷ es) here
      by_part head es out = λ rest w t. out rest (binary (codes ";") v w) (Reads.disjunction 0 mid here rest v w before t)
      by_part (body n h) es out = λ w t. out (binary (codes ";") v w) (Reads.disjunction 0 mid here (words.end ∷ []) v w before t)
      by_part query es out = λ w t. out (binary (codes ";") v w) (Reads.disjunction 0 mid here (words.end ∷ []) v w before t)
  semicolon_kept l (f ∷ fs) a here from (outer, at, i, o, inner) d = by_bracket f.bracket f.before inner
    where
      n : ℕ
      n = suc (f.outside.minuses + depth fs)

      -- what stands in the bracket so far, and what comes behind its semicolon
      goes_on : (b : List Written) (mid : List Word) → Conjoins n b mid from → (rest : List Word) (w : Written) → Reads limited n term1100 here rest w
          → Reads limited n term1100 mid rest (binary (codes ";") (conjunction b a) w)
      goes_on b mid joins rest w t =
          Reads.disjunction n mid here rest (conjunction b a) w (joins (words.semicolon ∷ here) a (Reads.as1000 n from (words.semicolon ∷ here) a d)) t

      by_bracket : (k : Bracket) (b : List Written) → Inside (f.outside.minuses + depth fs) k b at from
          → Keeps (take_semicolon l (record { bracket = k; before = b; outside = f.outside } ∷ fs) a) here
      by_bracket (plain es) b (mid, joins, inner) = (
        here,
        (
          outer,
          at,
          i,
          o,
          (
            here,
            (λ rest w t. t),
            λ rest w t. inner rest (binary (codes ";") (conjunction b a) w) (goes_on b mid joins (words.close_bracket ∷ rest) w t),
          ),
        ),
        fresh n here,
      )
      by_bracket (braces es) b (mid, joins, inner) = (
        here,
        (
          outer,
          at,
          i,
          o,
          (
            here,
            (λ rest w t. t),
            λ rest w t. inner rest (binary (codes ";") (conjunction b a) w) (goes_on b mid joins (words.close_brace ∷ rest) w t),
          ),
        ),
        fresh n here,
      )
      by_bracket (arguments c) b inner = tt
      by_bracket elements b inner = tt
      by_bracket tail b inner = tt

  bar_kept : (l : Outermost) (fs : List Frame) (a : Written) (here from : List Word) → Within l fs from
      → Reads limited (depth fs) term700 from (words.bar ∷ here) a → Keeps (take_bar l fs a) here
  bar_kept l [] a here from i d = tt
  bar_kept l (f ∷ fs) a here from (outer, at, i, o, inner) d = by_bracket f.bracket f.before inner
    where
      by_bracket : (k : Bracket) (b : List Written) → Inside (f.outside.minuses + depth fs) k b at from
          → Keeps (take_bar l (record { bracket = k; before = b; outside = f.outside } ∷ fs) a) here
      by_bracket (plain es) b inner = tt
      by_bracket (braces es) b inner = tt
      by_bracket (arguments c) b inner = tt
      by_bracket elements b inner = (
        here,
        (outer, at, i, o, λ rest w t. inner rest (cell a w) (Elements.tail (suc (f.outside.minuses + depth fs)) from here rest a w d t)),
        fresh (suc (f.outside.minuses + depth fs)) here,
      )
      by_bracket tail b inner = tt

  close_bracket_kept : (l : Outermost) (fs : List Frame) (a : Written) (here from : List Word) → Within l fs from
      → Reads limited (depth fs) term700 from (words.close_bracket ∷ here) a
      → Keeps (take_close_bracket l fs a) here
  close_bracket_kept l [] a here from i d = tt
  close_bracket_kept l (f ∷ fs) a here from (outer, at, i, o, inner) d = by_bracket f.bracket f.before inner
    where
      by_bracket : (k : Bracket) (b : List Written) → Inside (f.outside.minuses + depth fs) k b at from
          → Keeps (take_close_bracket l (record { bracket = k; before = b; outside = f.outside } ∷ fs) a) here
      by_bracket (plain es) b (mid, joins, inner) =
          let n : ℕ = suc (f.outside.minuses + depth fs) in
          let next : List Word = words.close_bracket ∷ here in
          (outer, at, i, o, inner here (conjunction b a) (Reads.as1100 n mid next (conjunction b a) (joins next a (Reads.as1000 n from next a d))), tt)
      by_bracket (braces es) b inner = tt
      by_bracket (arguments c) b inner =
          let n : ℕ = suc (f.outside.minuses + depth fs) in
          (outer, at, i, o, inner here (Written.more a Written.none) (Arguments.last_argument n (length b) from here a d), tt)
      by_bracket elements b inner = tt
      by_bracket tail b inner = tt

  close_brace_kept : (l : Outermost) (fs : List Frame) (a : Written) (here from : List Word) → Within l fs from
      → Reads limited (depth fs) term700 from (words.close_brace ∷ here) a
      → Keeps (take_close_brace l fs a) here
  close_brace_kept l [] a here from i d = tt
  close_brace_kept l (f ∷ fs) a here from (outer, at, i, o, inner) d = by_bracket f.bracket f.before inner
    where
      by_bracket : (k : Bracket) (b : List Written) → Inside (f.outside.minuses + depth fs) k b at from
          → Keeps (take_close_brace l (record { bracket = k; before = b; outside = f.outside } ∷ fs) a) here
      by_bracket (plain es) b inner = tt
      by_bracket (braces es) b (mid, joins, inner) =
          let n : ℕ = suc (f.outside.minuses + depth fs) in
          let next : List Word = words.close_brace ∷ here in
          (outer, at, i, o, inner here (conjunction b a) (Reads.as1100 n mid next (conjunction b a) (joins next a (Reads.as1000 n from next a d))), tt)
      by_bracket (arguments c) b inner = tt
      by_bracket elements b inner = tt
      by_bracket tail b inner = tt

  close_list_kept : (l : Outermost) (fs : List Frame) (a : Written) (here from : List Word) → Within l fs from
      → Reads limited (depth fs) term700 from (words.close_list ∷ here) a
      → Keeps (take_close_list l fs a) here
  close_list_kept l [] a here from i d = tt
  close_list_kept l (f ∷ fs) a here from (outer, at, i, o, inner) d = by_bracket f.bracket f.before inner
    where
      by_bracket : (k : Bracket) (b : List Written) → Inside (f.outside.minuses + depth fs) k b at from
          → Keeps (take_close_list l (record { bracket = k; before = b; outside = f.outside } ∷ fs) a) here
      by_bracket (plain es) b inner = tt
      by_bracket (braces es) b inner = tt
      by_bracket (arguments c) b inner = tt
      by_bracket elements b inner = (outer, at, i, o, inner here (cell a nil) (Elements.last_element (suc (f.outside.minuses + depth fs)) from here a d), tt)
      by_bracket tail b inner = (outer, at, i, o, inner here a d, tt)

  end_kept : (l : Outermost) (fs : List Frame) (a : Written) (here from : List Word) → Within l fs from
      → Reads limited (depth fs) term700 from (words.end ∷ here) a → Keeps (take_end l fs a) here
  end_kept l (f ∷ fs) a here from i d = tt
  end_kept l [] a here from i d = by_part l.part l.alternatives l.before i
    where
      ended : here ≡ [] → Reads limited 0 term1000 from (words.end ∷ []) a
      ended e = subst (λ r. Reads limited 0 term1000 from (words.end ∷ r) a) e (Reads.as1000 0 from (words.end ∷ here) a d)

      joined : (b : List Written) (mid : List Word) → Conjoins 0 b mid from → here ≡ [] → Reads limited 0 term1100 mid (words.end ∷ []) (conjunction b a)
      joined b mid joins e = Reads.as1100 0 mid (words.end ∷ []) (conjunction b a) (joins (words.end ∷ []) a (ended e))

      by_part : (k : ClausePart) (es b : List Written) → Outside k es b from → Keeps (take_end (record { part = k; alternatives = es; before = b }) [] a) here
      by_part head es b (mid, joins, out) = λ e. IsClause.fact whole (at1100 es b a) (out (words.end ∷ []) (conjunction b a) (joined b mid joins e))
      by_part (body n h) es b (mid, joins, out) = λ e. out (conjunction b a) (joined b mid joins e)
      by_part query es b (mid, joins, out) = λ e. out (conjunction b a) (joined b mid joins e)

  -- a word behind an operand
  module _ (l : Outermost) (fs : List Frame) (p : Pending) (w : Written) (from at : List Word) (i : Within l fs from) (o : Opened (depth fs) p from at) where
    product_kept : (c : Bytes) (here : List Word) → Reads limited (p.minuses + depth fs) term0 at (words.name c ∷ here) w → is_one_of products c ≡ true
        → Fits (inside l fs (record { relation = p.relation; sum = p.sum; product = Some (record { left = at400 p w; operator = c }); minuses = 0 }) wanted)
        here
    product_kept c here d e = (
      from,
      i,
      record {
        at_sum = o.at_sum;
        at_product = o.at_product;
        at_minuses = here;
        relation = o.relation;
        sum = o.sum;
        product = λ rest b t. Reads.product (depth fs) o.at_product here rest c (at400 p w) b
            (complete400 (depth fs) p from at (words.name c ∷ here) w o d) e t;
        minuses = no_minus (depth fs) here;
      },
    )

    sum_kept : (x : Word) (c : Bytes) (here : List Word) → IsSum x c → Reads limited (p.minuses + depth fs) term0 at (x ∷ here) w
        → Fits (take_sum l fs p w c) here
    sum_kept x c here s d = (
      from,
      i,
      record {
        at_sum = o.at_sum;
        at_product = here;
        at_minuses = here;
        relation = o.relation;
        sum = λ rest b t. Reads.sum (depth fs) o.at_sum here rest x c (at500 p w) b (complete500 (depth fs) p from at (x ∷ here) w o d) s t;
        product = λ rest b t. Reads.as400 (depth fs) here rest b t;
        minuses = no_minus (depth fs) here;
      },
    )

    relation_kept : (c : Bytes) (here : List Word) → Reads limited (p.minuses + depth fs) term0 at (words.name c ∷ here) w → is_one_of relations c ≡ true
        → Keeps (take_relation l fs p w c) here
    relation_kept c here d e = by_relation p.relation o.relation
      where
        by_relation : (r : Option Half) → Relates (depth fs) r from o.at_sum → Keeps (elim r [
          | None ↦ Some (inside l fs (record { relation = Some (record { left = at500 p w; operator = c }); sum = None; product = None; minuses = 0 }) wanted)
          | Some h ↦ None
        ]) here
        by_relation (Some h) g = tt
        by_relation None same = (
          from,
          i,
          record {
            at_sum = here;
            at_product = here;
            at_minuses = here;
            relation = (
              subst (λ z. Reads limited (depth fs) term500 z (words.name c ∷ here) (at500 p w)) (sym same)
                  (complete500 (depth fs) p from at (words.name c ∷ here) w o d),
              e,
            );
            sum = λ rest b t. Reads.as500 (depth fs) here rest b t;
            product = λ rest b t. Reads.as400 (depth fs) here rest b t;
            minuses = no_minus (depth fs) here;
          },
        )

    name_kept : (c : Bytes) (here : List Word) → Reads limited (p.minuses + depth fs) term0 at (words.name c ∷ here) w
        → Keeps (take_name l fs p w c (role c)) here
    name_kept c here d = by_role c (λ r. Keeps (take_name l fs p w c r) here) (product_kept c here d) (λ e. sum_kept (words.name c) c here (IsSum.name c e) d)
        (relation_kept c here d)
        (λ n e. neck_kept l fs n (at700 p w) here from i
        (subst (λ z. Reads limited (depth fs) term700 from (words.name z ∷ here) (at700 p w)) e
        (complete700 (depth fs) p from at (words.name c ∷ here) w o d)))
        tt

    functor_kept : (f : Option Bytes) (here : List Word) → (limited ≡ true → leb MAX_NESTING (p.minuses + depth fs) ≡ false)
        → Named f at (words.open_bracket true ∷ here) → Keeps (take_functor l fs p f) here
    functor_kept None here low named = tt
    functor_kept (Some c) here low (a, is, same) =
        let n : ℕ = p.minuses + depth fs in (
          here,
          (
            from,
            at,
            i,
            o,
            λ rest ts t. subst (λ z. Reads limited n term0 z rest (Written.compound c ts)) (sym same)
                (Reads.compound n a c here rest ts is (shallow_told limited n low) t),
          ),
          fresh (suc n) here,
        )

    operator_kept : (f : Option Bytes) (x : Word) (here : List Word) → (limited ≡ true → operator_exceeds fs p x ≡ false)
        → Reads limited (p.minuses + depth fs) term0 at (x ∷ here) w → Named f at (x ∷ here) → Keeps (take_operator l fs p w f x) here
    operator_kept f (words.name c) here low d named = name_kept c here d
    operator_kept f (words.minus b) here low d named = sum_kept (words.minus b) (codes "-") here (IsSum.minus b) d
    operator_kept f (words.open_bracket true) here low d named = functor_kept f here low named
    operator_kept f (words.open_bracket false) here low d named = tt
    operator_kept f words.close_bracket here low d named =
        close_bracket_kept l fs (at700 p w) here from i (complete700 (depth fs) p from at (words.close_bracket ∷ here) w o d)
    operator_kept f words.close_list here low d named =
        close_list_kept l fs (at700 p w) here from i (complete700 (depth fs) p from at (words.close_list ∷ here) w o d)
    operator_kept f words.close_brace here low d named =
        close_brace_kept l fs (at700 p w) here from i (complete700 (depth fs) p from at (words.close_brace ∷ here) w o d)
    operator_kept f words.semicolon here low d named =
        semicolon_kept l fs (at700 p w) here from i (complete700 (depth fs) p from at (words.semicolon ∷ here) w o d)
    operator_kept f words.comma here low d named = comma_kept l fs (at700 p w) here from low i (complete700 (depth fs) p from at (words.comma ∷ here) w o d)
    operator_kept f words.bar here low d named = bar_kept l fs (at700 p w) here from i (complete700 (depth fs) p from at (words.bar ∷ here) w o d)
    operator_kept f words.end here low d named = end_kept l fs (at700 p w) here from i (complete700 (depth fs) p from at (words.end ∷ here) w o d)
    operator_kept f (words.variable x) here low d named = tt
    operator_kept f (words.integer z) here low d named = tt
    operator_kept f (words.quoted c) here low d named = tt
    operator_kept f words.open_list here low d named = tt
    operator_kept f words.open_brace here low d named = tt

  start_kept : (x : Word) (here : List Word) → (limited ≡ true → exceeds start x ≡ false) → whole ≡ x ∷ here → Keeps (go start x) here
  start_kept x here low e = by_test (begins_query x) refl
    where
      by_test : (b : Bool) → begins_query x ≡ b
          → Keeps (cond b (Some (inside (record { part = query; alternatives = []; before = [] }) [] nothing_pending wanted))
          (take_operand (record { part = head; alternatives = []; before = [] }) [] nothing_pending x)) here
      by_test true is = (
        here,
        (
          here,
          (λ rest w t. t),
          λ w d. subst (λ z. IsClause limited z Sort.query (unary (codes "?-") w)) (sym (e ∙ ap (λ y. y ∷ here) (query_word x is)))
              (IsClause.query here w d),
        ),
        fresh 0 here,
      )
      by_test false is = operand_kept (record { part = head; alternatives = []; before = [] }) [] nothing_pending x here (x ∷ here) low
          (x ∷ here, (λ rest w t. t), λ rest w d. subst (λ z. Reads limited 0 term1100 z rest w) (sym e) d) (fresh 0 (x ∷ here))

  list_kept : (l : Outermost) (fs : List Frame) (p : Pending) (x : Word) (here from : List Word) → (limited ≡ true → exceeds (opened_list l fs p) x ≡ false)
      → Within l fs from → Opened (depth fs) p from (words.open_list ∷ x ∷ here) → (limited ≡ true → p.minuses + depth fs < MAX_NESTING)
      → Keeps (go (opened_list l fs p) x) here
  list_kept l fs p x here from low i o few = by_test (closes_list x) refl
    where
      by_test : (b : Bool) → closes_list x ≡ b
          → Keeps (cond b (Some (inside l fs p (operand nil None)))
          (take_operand l (record { bracket = elements; before = []; outside = p } ∷ fs) nothing_pending x)) here
      by_test true is = (
        from,
        words.open_list ∷ x ∷ here,
        i,
        o,
        subst (λ y. Reads limited (p.minuses + depth fs) term0 (words.open_list ∷ y ∷ here) here nil) (sym (closing_word x is))
            (Reads.empty_list (p.minuses + depth fs) here few),
        tt,
      )
      by_test false is = operand_kept l (record { bracket = elements; before = []; outside = p } ∷ fs) nothing_pending x here (x ∷ here) low
          (from, words.open_list ∷ x ∷ here, i, o, λ rest w d. Reads.list (p.minuses + depth fs) (x ∷ here) rest w few d)
          (fresh (suc (p.minuses + depth fs)) (x ∷ here))

  -- Each step keeps that the state fits,
  kept : (s : State) (x : Word) (here : List Word) → (limited ≡ true → exceeds s x ≡ false) → Fits s (x ∷ here) → Keeps (go s x) here
  kept start x here low e = start_kept x here low e
  kept (inside l fs p wanted) x here low (from, i, o) = operand_kept l fs p x here from low i o
  kept (inside l fs p numeral) x here low (from, i, o) = numeral_kept l fs p x here from i o
  kept (inside l fs p (operand w f)) x here low (from, at, i, o, d, named) = operator_kept l fs p w from at i o f x here low d named
  kept (opened_list l fs p) x here low (from, i, o, few) = list_kept l fs p x here from low i o few
  kept (over q w) x here low g = tt

  -- and so does a run.
  run_kept : (ws : List Word) (s t : State) → Fits s ws → run limited s ws ≡ Some t → Fits t []
  run_kept [] s t f e = let same : s ≡ t = cc in subst (λ z. Fits z []) same f
  run_kept (x ∷ xs) s t f e =
      let (u, one, more) = and_then_tells (step limited s x) (λ z. run limited z xs) t e in
      let told = step_tells limited s x u one in
      run_kept xs u t (subst (λ o. Keeps o xs) told.1 (kept s x xs told.0 f)) more

-- So what the machine accepts as a clause is one.
pub clause_accepted : (limited : Bool) (ws : List Word) (q : Sort) (w : Written) → run limited start ws ≡ Some (over q w) → IsClause limited ws q w
clause_accepted limited ws q w e = run_kept limited ws ws start (over q w) refl e refl
