-- The program of a text has numbers and names as tables give them.
use Rattle.std.proofs.Common.{ℕ, zero, suc, ◌≡◌, ◌+◌, ◌-◌, ◌*◌, ◌^◌, ◌<◌, ◌≤◌, Bool, true, false, cond, List, [], ◌∷◌, ◌++◌, length, get_or, map, refl}
use Rattle.std.proofs.Common.{ap, sym, ◌∙◌, arith, subst, Option, Some, None}
use Rattle.std.specs.Prelude.{All, Contains, ltb}
use Rattle.std.proofs.lemmas.Bool.Decides.{nat_tests}
use Rattle.std.proofs.lemmas.List.{map-append, append_assoc, append-nil, length-map, get_or-map}
use Rattle.std.proofs.lemmas.List.Elements.{All-nil, All-cons, All-append, All-contains, All-get_or, All-weaker}
use Rattle.and_model.specs.Lines.{Bytes}
use Rattle.and_model.specs.Terms.{Term}
use Rattle.and_model.specs.declared.limits.TheConstants.{MAX_NODES}
use Rattle.and_source.specs.Source.{Alternatives, SourceClause, SourceProgram, numbers_in_items, numbers_in_clauses, numbers_in, numbers_from}
use Rattle.and_source.specs.Source.{disjunctions_in_items, disjunctions_in_clauses, disjunctions_in, calls_in_items, heads_and_calls_in, heads_and_calls}
use Rattle.and_source.specs.Source.{distinct_variables, has_name, IsNumbered}
use Rattle.and_syntax.specs.Written.{Written, has, place}
use Rattle.and_syntax.specs.Clauses.{Parts, alternatives_of, disjunctions_of, head_of, body_of, asked_of}
use Rattle.and_syntax.specs.Tables.{Fault, not_pure, Table, empty, names_with, term_with, disjunction_name, all_names_with, items_with}
use Rattle.and_syntax.specs.Tables.{count_of}
use Rattle.and_syntax.specs.Tables.{lifted_nodes, nodes_with, first_of, clause_faults, clause_fault, query_faults, query_fault, next_clause, next_query}
use Rattle.and_syntax.specs.Tables.{taken, with_clause, with_query, program_of, is_asked}
use Rattle.and_syntax.proofs.Numbering.{from-append, length-from, items_numbers, items_names}
use Rattle.and_syntax.proofs.Names.{Grows, grows-same, grows-trans, grows-named, grows-disjunctions, disjunctions-there, one-name, one-disjunction}
use Rattle.and_syntax.proofs.Names.{AreWritable, HasWritten, term-written, written-grows, unlifted}
use Rattle.and_syntax.proofs.Calls.{head_written, body_calls, asked_calls}
use Rattle.and_translation.specs.Translation.{translated}
use Rattle.and_language.specs.Tokens.{line_at}
use Rattle.and_language.specs.Grammar.{Sort, clause, query, grammar_rule, Statement}
use Rattle.and_language.specs.Refusals.{Takes, with_statement, Reads}
use Rattle.and_language.proofs.EachClause.{sort_fault, with_sort, rule_clause_sound}
use Rattle.and_language.proofs.RuleNames.{translated-writable}
use Rattle.and_language.proofs.Bytes.{text-bytes, words-writable}
use Rattle.and_language.proofs.WrittenNames.{AllTerms, terms-writable}

-- What the clauses and the query have, in textual order.
module _ {X : Type 0} (f g : SourceClause → List X) where
  abbrev along : List SourceClause → List X
  along [] = []
  along (k ∷ ks) = f k ++ along ks

  abbrev of_query : Option SourceClause → List X
  of_query None = []
  of_query (Some q) = g q

  abbrev text : List SourceClause → Option SourceClause → List SourceClause → List X
  text ks q js = (along ks ++ of_query q) ++ along js

  along-push : (ks : List SourceClause) (k : SourceClause) → along (ks ++ k ∷ []) ≡ along ks ++ f k
  along-push [] k = append-nil (f k)
  along-push (c ∷ ks) k = ap (λ xs. f c ++ xs) (along-push ks k) ∙ sym (append_assoc (f c) (along ks) (f k))

  -- a clause before there is a query, and behind it
  text-before : (ks : List SourceClause) (k : SourceClause) → text (ks ++ k ∷ []) None [] ≡ text ks None [] ++ f k
  text-before ks k =
      append-nil (along (ks ++ k ∷ []) ++ []) ∙ append-nil (along (ks ++ k ∷ [])) ∙ along-push ks k
      ∙ ap (λ xs. xs ++ f k) (sym (append-nil (along ks)) ∙ sym (append-nil (along ks ++ [])))

  text-behind : (ks : List SourceClause) (q : Option SourceClause) (js : List SourceClause) (k : SourceClause) → text ks q (js ++ k ∷ []) ≡ text ks q js ++ f k
  text-behind ks q js k =
      ap (λ xs. (along ks ++ of_query q) ++ xs) (along-push js k) ∙ sym (append_assoc (along ks ++ of_query q) (along js) (f k))

  text-asked : (ks : List SourceClause) (q : SourceClause) → text ks (Some q) [] ≡ text ks None [] ++ g q
  text-asked ks q = append-nil (along ks ++ g q) ∙ ap (λ xs. xs ++ g q) (sym (append-nil (along ks)) ∙ sym (append-nil (along ks ++ [])))

abbrev numbers_of : SourceClause → List ℕ
numbers_of k = k.number ∷ numbers_in_items k.body

abbrev inner_numbers : SourceClause → List ℕ
inner_numbers q = numbers_in_items q.body

abbrev Disjunction : Type 0
Disjunction = ℕ × Alternatives

abbrev disjunctions : SourceClause → List Disjunction
disjunctions k = disjunctions_in_items k.body

abbrev terms_of : SourceClause → List Term
terms_of k = k.head ∷ calls_in_items k.body

abbrev calls_of : SourceClause → List Term
calls_of q = calls_in_items q.body

abbrev number_in : Disjunction → ℕ
number_in d = d.0

-- the number of the name of disjunction d
abbrev name_in : List Bytes → ℕ → ℕ
name_in names d = place (disjunction_name d) names

-- what holds of tables
record IsOrdered (T : Table) : Type 0 where
  unasked : T.asked ≡ None → T.later ≡ []
  numbers : text numbers_of inner_numbers T.earlier T.asked T.later ≡ numbers_from 1 T.numbers
  names : map number_in (text disjunctions disjunctions T.earlier T.asked T.later) ≡ map (name_in T.names) (numbers_from 0 T.disjunctions)
  there : (d : ℕ) → d < T.disjunctions → has (disjunction_name d) T.names ≡ true
  few : T.disjunctions ≤ T.nodes
  small : T.nodes ≤ MAX_NODES
  written : All (HasWritten T.names) (text terms_of calls_of T.earlier T.asked T.later)

-- the names of disjunctions that were there
same_names : (xs ys : List Bytes) (c n : ℕ) → Grows xs ys → ((d : ℕ) → c ≤ d → d < c + n → has (disjunction_name d) xs ≡ true)
    → map (name_in ys) (numbers_from c n) ≡ map (name_in xs) (numbers_from c n)
same_names xs ys c zero g h = refl
same_names xs ys c (suc n) g h =
    ap (λ k. k ∷ map (name_in ys) (numbers_from (suc c) n)) (g (disjunction_name c) (h c (omega arith) (omega arith))).1
    ∙ ap (λ ks. name_in xs c ∷ ks) (same_names xs ys (suc c) n g (λ d low high. h d (omega arith) (omega arith)))

-- A table with n more numbers and m more disjunctions, of which these are the numbers, disjunctions and terms.
more : (T U : Table) (ns : List ℕ) (ds : List Disjunction) (ts : List Term) (n m : ℕ) → IsOrdered T → Grows T.names U.names
    → (U.asked ≡ None → U.later ≡ [])
    → text numbers_of inner_numbers U.earlier U.asked U.later ≡ text numbers_of inner_numbers T.earlier T.asked T.later ++ ns
    → ns ≡ numbers_from (suc T.numbers) n → U.numbers ≡ T.numbers + n
    → text disjunctions disjunctions U.earlier U.asked U.later ≡ text disjunctions disjunctions T.earlier T.asked T.later ++ ds
    → map number_in ds ≡ map (name_in U.names) (numbers_from T.disjunctions m) → U.disjunctions ≡ T.disjunctions + m
    → ((d k : ℕ) → d ≡ T.disjunctions + k → k < m → has (disjunction_name d) U.names ≡ true) → T.nodes + m ≤ U.nodes → U.nodes ≤ MAX_NODES
    → text terms_of calls_of U.earlier U.asked U.later ≡ text terms_of calls_of T.earlier T.asked T.later ++ ts
    → All (HasWritten U.names) ts → IsOrdered U
more T U ns ds ts n m o g unasked number news count disjunct names many there room small term written = record {
  unasked = unasked;
  numbers = number ∙ ap (λ xs. xs ++ ns) o.numbers ∙ ap (λ xs. numbers_from 1 T.numbers ++ xs) news
      ∙ (let e : suc T.numbers ≡ 1 + T.numbers = omega arith in ap (λ k. numbers_from 1 T.numbers ++ numbers_from k n) e)
      ∙ from-append 1 T.numbers n ∙ ap (numbers_from 1) (sym count);
  names = ap (map number_in) disjunct ∙ map-append number_in (text disjunctions disjunctions T.earlier T.asked T.later) ds
      ∙ ap (λ xs. xs ++ map number_in ds) (o.names ∙ sym (same_names T.names U.names 0 T.disjunctions g (λ d low high. o.there d (omega arith))))
      ∙ ap (λ xs. map (name_in U.names) (numbers_from 0 T.disjunctions) ++ xs) names
      ∙ sym (map-append (name_in U.names) (numbers_from 0 T.disjunctions) (numbers_from T.disjunctions m))
      ∙ (let e : T.disjunctions ≡ 0 + T.disjunctions = omega arith in
      ap (λ k. map (name_in U.names) (numbers_from 0 T.disjunctions ++ numbers_from k m)) e)
      ∙ ap (map (name_in U.names)) (from-append 0 T.disjunctions m) ∙ ap (λ k. map (name_in U.names) (numbers_from 0 k)) (sym many);
  there = λ d lt. here d lt (ltb d T.disjunctions) refl;
  few = omega (arith, o.few);
  small = small;
  written = subst (All (HasWritten U.names)) (sym term) (All-append (HasWritten U.names) (text terms_of calls_of T.earlier T.asked T.later) ts
      (All-weaker (HasWritten T.names) (HasWritten U.names) (λ t h. written-grows T.names U.names t g h) (text terms_of calls_of T.earlier T.asked T.later)
      o.written) written);
}
  where
    here : (d : ℕ) → d < U.disjunctions → (b : Bool) → ltb d T.disjunctions ≡ b → has (disjunction_name d) U.names ≡ true
    here d lt true e = let l : d < T.disjunctions = grind (arith, nat_tests) in (g (disjunction_name d) (o.there d l)).0
    here d lt false e =
        let l : T.disjunctions ≤ d = grind (arith, nat_tests) in
        there d (d - T.disjunctions) (omega arith) (omega (arith, many))

-- each disjunction has a node at least
enough : (ds : List Disjunction) → length ds ≤ lifted_nodes ds
enough [] = omega arith
enough (d ∷ ds) =
    let a : ℕ = count_of d.1 in
    let b : ℕ = length (distinct_variables d.1) in
    let one : 1 ≤ suc a * suc b = grind arith in
    omega (arith, enough ds, one)

as_many : (T : Table) (w : Written) (ps : Parts) → disjunctions_of ps ≤ nodes_with T w ps
as_many T w ps =
    let name : ℕ → ℕ = name_in (all_names_with T w ps) in
    let ds : List Disjunction = disjunctions_in_items (items_with T w 0 ps) in
    let e : length ds ≡ disjunctions_of ps =
    sym (length-map ds number_in) ∙ ap length (items_names name 0 T.disjunctions ps) ∙ length-map (numbers_from T.disjunctions (disjunctions_of ps)) name
    ∙ length-from T.disjunctions (disjunctions_of ps) in
    omega (arith, enough ds)

-- the first of several faults, and the others
not_first : (f : Bool × Fault) (fs : List (Bool × Fault)) → first_of (f ∷ fs) ≡ None → (f.0 ≡ false) × (first_of fs ≡ None)
not_first f fs e = by f.0 e
  where
    by : (b : Bool) → cond b (Some f.1) (first_of fs) ≡ None → (b ≡ false) × (first_of fs ≡ None)
    by true h = absurd (cc)
    by false h = (refl, h)

IsUnmet : Bool × Fault → Type 0
IsUnmet f = f.0 ≡ false

all_unmet : (fs : List (Bool × Fault)) → first_of fs ≡ None → All IsUnmet fs
unfolding IsUnmet
all_unmet [] e = All-nil IsUnmet
all_unmet (f ∷ fs) e = let h = not_first f fs e in All-cons IsUnmet f fs h.0 (all_unmet fs h.1)

unmet : (fs : List (Bool × Fault)) (i : ℕ) (d : Bool × Fault) → i < length fs → first_of fs ≡ None → (get_or fs i d).0 ≡ false
unfolding IsUnmet
unmet fs i d lt e = All-get_or IsUnmet fs i d lt (all_unmet fs e)

fits : (n m : ℕ) → ltb n m ≡ false → m ≤ n
fits n m e = grind (arith, nat_tests)

all_grow : (T : Table) (w : Written) (ps : Parts) → Grows (names_with T w) (all_names_with T w ps)
all_grow T w ps = grows-disjunctions T.disjunctions (disjunctions_of ps) (names_with T w)

term_names : (T : Table) (w : Written) → AreWritable w → HasWritten (names_with T w) (term_with T w)
term_names T w a = term-written T.names (names_with T w) [] w a (grows-same (names_with T w))

-- one more clause
clause_ordered : (T : Table) (w : Written) (line : ℕ) → IsOrdered T → AreWritable w → clause_fault T w ≡ None → IsOrdered (with_clause T w line)
clause_ordered T w line o a e = by T.asked refl
  where
    t : Term
    t = term_with T w

    ps : Parts
    ps = body_of t

    k : SourceClause
    k = next_clause T w line

    n : ℕ
    n = suc (alternatives_of ps)

    names : List Bytes
    names = all_names_with T w ps

    U : Table
    U = taken T w ps n

    grow : Grows T.names names
    grow = grows-trans T.names (names_with T w) names (grows-named T.names w) (all_grow T w ps)

    small : T.nodes + nodes_with T w ps ≤ MAX_NODES
    small = fits MAX_NODES (T.nodes + nodes_with T w ps) (unmet (clause_faults T w) 3 (false, not_pure) (omega arith) e)

    new_terms : All (HasWritten names) (terms_of k)
    new_terms =
        let h = written-grows (names_with T w) names t (all_grow T w ps) (term_names T w a) in
        All-cons (HasWritten names) (head_of t) (calls_of k) (head_written names t h)
        (body_calls names (name_in names) (suc (suc T.numbers)) T.disjunctions t h)

    new_numbers : numbers_of k ≡ numbers_from (suc T.numbers) n
    new_numbers = ap (λ ns. suc T.numbers ∷ ns) (items_numbers (name_in names) (suc (suc T.numbers)) T.disjunctions ps)

    new_names : map number_in (disjunctions k) ≡ map (name_in names) (numbers_from T.disjunctions (disjunctions_of ps))
    new_names = items_names (name_in names) (suc (suc T.numbers)) T.disjunctions ps

    by : (q : Option SourceClause) → T.asked ≡ q
        → IsOrdered (elim q [ None ↦ record U { earlier = T.earlier ++ k ∷ [] } | Some q ↦ record U { later = T.later ++ k ∷ [] } ])
    by None is =
        let none : T.later ≡ [] = o.unasked is in
        more T (record U { earlier = T.earlier ++ k ∷ [] }) (numbers_of k) (disjunctions k) (terms_of k) n (disjunctions_of ps) o grow
        (λ _. none) (before numbers_of inner_numbers is none) new_numbers refl (before disjunctions disjunctions is none) new_names refl
        (λ d i e lt. disjunctions-there T.disjunctions (disjunctions_of ps) (names_with T w) d i e lt) (omega (arith, as_many T w ps)) small
        (before terms_of calls_of is none) new_terms
      where
        before : {X : Type 0} (f g : SourceClause → List X) → T.asked ≡ None → T.later ≡ []
            → text f g (T.earlier ++ k ∷ []) T.asked T.later ≡ text f g T.earlier T.asked T.later ++ f k
        before f g is none =
            ap (λ q. text f g (T.earlier ++ k ∷ []) q T.later) is ∙ ap (λ js. text f g (T.earlier ++ k ∷ []) None js) none
            ∙ text-before f g T.earlier k
            ∙ ap (λ js. text f g T.earlier None js ++ f k) (sym none) ∙ ap (λ q. text f g T.earlier q T.later ++ f k) (sym is)
    by (Some q) is =
        more T (record U { later = T.later ++ k ∷ [] }) (numbers_of k) (disjunctions k) (terms_of k) n (disjunctions_of ps) o grow
        (λ none. absurd (let f : Some q ≡ None = sym is ∙ none in cc f)) (text-behind numbers_of inner_numbers T.earlier T.asked T.later k) new_numbers refl
        (text-behind disjunctions disjunctions T.earlier T.asked T.later k) new_names refl
        (λ d i e lt. disjunctions-there T.disjunctions (disjunctions_of ps) (names_with T w) d i e lt) (omega (arith, as_many T w ps)) small
        (text-behind terms_of calls_of T.earlier T.asked T.later k) new_terms

unasked_is : (q : Option SourceClause) → is_asked q ≡ false → q ≡ None
unasked_is None e = refl
unasked_is (Some q) e = absurd (cc)

-- the query
query_ordered : (T : Table) (w : Written) (line : ℕ) → IsOrdered T → AreWritable w → query_fault T w ≡ None → IsOrdered (with_query T w line)
query_ordered T w line o a e =
    let t : Term = term_with T w in
    let ps : Parts = asked_of t in
    let q : SourceClause = next_query T w line in
    let n : ℕ = alternatives_of ps in
    let names : List Bytes = all_names_with T w ps in
    let small = fits MAX_NODES (T.nodes + nodes_with T w ps) (unmet (query_faults T w) 3 (false, not_pure) (omega arith) e) in
    let is : T.asked ≡ None = unasked_is T.asked (unmet (query_faults T w) 0 (false, not_pure) (omega arith) e) in
    let none : T.later ≡ [] = o.unasked is in
    let grow = grows-trans T.names (names_with T w) names (grows-named T.names w) (all_grow T w ps) in
    let h = written-grows (names_with T w) names t (all_grow T w ps) (term_names T w a) in
    more T (with_query T w line) (inner_numbers q) (disjunctions q) (calls_of q) n (disjunctions_of ps) o grow
    (λ f. none) (asks T q numbers_of inner_numbers is none) (items_numbers (name_in names) (suc T.numbers) T.disjunctions ps) refl
    (asks T q disjunctions disjunctions is none) (items_names (name_in names) (suc T.numbers) T.disjunctions ps) refl
    (λ d i e lt. disjunctions-there T.disjunctions (disjunctions_of ps) (names_with T w) d i e lt) (omega (arith, as_many T w ps)) small
    (asks T q terms_of calls_of is none) (asked_calls names (name_in names) (suc T.numbers) T.disjunctions t h)
  where
    asks : {X : Type 0} (T : Table) (q : SourceClause) (f g : SourceClause → List X) → T.asked ≡ None → T.later ≡ []
        → text f g T.earlier (Some q) T.later ≡ text f g T.earlier T.asked T.later ++ g q
    asks T q f g is none =
        ap (λ js. text f g T.earlier (Some q) js) none ∙ text-asked f g T.earlier q
        ∙ ap (λ js. text f g T.earlier None js ++ g q) (sym none) ∙ ap (λ p. text f g T.earlier p T.later ++ g q) (sym is)

by_sort : (T : Table) (s : Sort) (w : Written) (line : ℕ) → IsOrdered T → AreWritable w → sort_fault s T w ≡ None → IsOrdered (with_sort s T w line)
by_sort T clause w line o a e = clause_ordered T w line o a e
by_sort T query w line o a e = query_ordered T w line o a e
by_sort T grammar_rule w line o a e = clause_ordered T (translated w) line o (translated-writable w a) (rule_clause_sound T w e)

taken_ordered : (bytes : Bytes) (T U : Table) (ss : List Statement) → Takes bytes T ss U → AllTerms true ss → IsOrdered T → IsOrdered U
taken_ordered bytes T U [] (Takes.nothing _) a o = o
taken_ordered bytes T U (s ∷ ss) (Takes.more _ _ _ _ e rest) a o =
    taken_ordered bytes (with_statement bytes T s) U ss rest a.1 (by_sort T s.sort s.term (line_at bytes s.place) o a.0 e)

empty_ordered : IsOrdered empty
empty_ordered = record {
  unasked = λ _. refl;
  numbers = refl;
  names = refl;
  there = λ d lt. absurd (omega arith);
  few = omega arith;
  small = omega arith;
  written = All-nil (HasWritten empty.names);
}

-- Numbers, disjunctions and terms of a program.
numbers_are : (ks : List SourceClause) → numbers_in_clauses ks ≡ along numbers_of inner_numbers ks
numbers_are [] = refl
numbers_are (k ∷ ks) = ap (λ ns. numbers_of k ++ ns) (numbers_are ks)

disjunctions_are : (ks : List SourceClause) → disjunctions_in_clauses ks ≡ along disjunctions disjunctions ks
disjunctions_are [] = refl
disjunctions_are (k ∷ ks) = ap (λ ds. disjunctions k ++ ds) (disjunctions_are ks)

terms_are : (ks : List SourceClause) → heads_and_calls_in ks ≡ along terms_of calls_of ks
terms_are [] = refl
terms_are (k ∷ ks) = ap (λ ts. terms_of k ++ ts) (terms_are ks)

text_is : {X : Type 0} (f g : SourceClause → List X) (h : List SourceClause → List X) → ((ks : List SourceClause) → h ks ≡ along f g ks)
    → (P : SourceProgram) → (h P.earlier ++ g P.query) ++ h P.later ≡ text f g P.earlier (Some P.query) P.later
text_is f g h are P =
    ap (λ xs. (xs ++ g P.query) ++ h P.later) (are P.earlier) ∙ ap (λ xs. (along f g P.earlier ++ g P.query) ++ xs) (are P.later)

nth-from : (c n i e : ℕ) → i < n → get_or (numbers_from c n) i e ≡ c + i
nth-from c zero i e lt = absurd (omega arith)
nth-from c (suc n) zero e lt = omega arith
nth-from c (suc n) (suc i) e lt = nth-from (suc c) n i e (omega arith) ∙ omega arith

-- the number of a disjunction
nth-name : (names : List Bytes) (ds : List Disjunction) (n i : ℕ) (d : Disjunction) → map number_in ds ≡ map (name_in names) (numbers_from 0 n) → i < n
    → (get_or ds i d).0 ≡ name_in names i
nth-name names ds n i d e lt =
    let size : length ds ≡ n = sym (length-map ds number_in) ∙ ap length e ∙ length-map (numbers_from 0 n) (name_in names) ∙ length-from 0 n in
    let few : length (numbers_from 0 n) ≡ n = length-from 0 n in
    let at : get_or (numbers_from 0 n) i 0 ≡ i = nth-from 0 n i 0 lt ∙ omega arith in
    sym (get_or-map number_in ds i d d.0 (omega arith)) ∙ ap (λ ks. get_or ks i d.0) e
    ∙ get_or-map (name_in names) (numbers_from 0 n) i 0 d.0 (omega arith) ∙ ap (name_in names) at

contained-name : (names : List Bytes) (ds : List Disjunction) (c n : ℕ) (d : Disjunction)
    → map number_in ds ≡ map (name_in names) (numbers_from c n) → Contains ds d
    → (i : ℕ) × (i < c + n) × (d.0 ≡ name_in names i)
contained-name names ds c n d e i =
    All-contains (λ (x : Disjunction). (i : ℕ) × (i < c + n) × (x.0 ≡ name_in names i)) ds d (all ds c n e) i
  where
    all : (ds : List Disjunction) (c n : ℕ) → map number_in ds ≡ map (name_in names) (numbers_from c n)
        → All (λ (x : Disjunction). (i : ℕ) × (i < c + n) × (x.0 ≡ name_in names i)) ds
    all [] c n e = All-nil (λ (x : Disjunction). (i : ℕ) × (i < c + n) × (x.0 ≡ name_in names i))
    all (x ∷ ds) c zero e = absurd (cc)
    all (x ∷ ds) c (suc n) e =
        let here : x.0 ≡ name_in names c = cc in
        let rest : map number_in ds ≡ map (name_in names) (numbers_from (suc c) n) = cc in
        let m : ℕ = c + suc n in
        All-cons (λ (y : Disjunction). (i : ℕ) × (i < m) × (y.0 ≡ name_in names i)) x ds (c, omega arith, here)
        (All-weaker (λ (y : Disjunction). (i : ℕ) × (i < suc c + n) × (y.0 ≡ name_in names i)) (λ (y : Disjunction). (i : ℕ) × (i < m)
        × (y.0 ≡ name_in names i))
        (λ y h. (h.0, omega (arith, h.1), h.2)) ds (all ds (suc c) n rest))

pub numbered_text : (bytes : Bytes) (P : SourceProgram) → Reads bytes P → IsNumbered P
numbered_text bytes P r = subst IsNumbered r.program table_numbered
  where
    o : IsOrdered r.table
    o =
        let words = words-writable bytes _ r.spelled.0 r.words (text-bytes bytes r.spelled.0 r.spelled.1) r.spelled.2 in
        taken_ordered bytes empty r.table r.taken.statements r.taken.taken (terms-writable true r.words r.taken.statements r.taken.spelled words) empty_ordered

    table_numbered : IsNumbered (program_of r.table r.query)
    table_numbered =
        let T : Table = r.table in
        let Q : SourceProgram = program_of T r.query in
        let asked : T.asked ≡ Some r.query = r.asked in
        let numbers : numbers_in Q ≡ numbers_from 1 T.numbers =
        text_is numbers_of inner_numbers numbers_in_clauses numbers_are Q
        ∙ ap (λ q. text numbers_of inner_numbers T.earlier q T.later) (sym asked) ∙ o.numbers in
        let names : map number_in (disjunctions_in Q) ≡ map (name_in T.names) (numbers_from 0 T.disjunctions) =
        ap (map number_in) (text_is disjunctions disjunctions disjunctions_in_clauses disjunctions_are Q
        ∙ ap (λ q. text disjunctions disjunctions T.earlier q T.later) (sym asked)) ∙ o.names in
        let terms : All (HasWritten T.names) (heads_and_calls Q) =
        subst (All (HasWritten T.names))
        (sym (text_is terms_of calls_of heads_and_calls_in terms_are Q ∙ ap (λ q. text terms_of calls_of T.earlier q T.later) (sym asked))) o.written in
        let count : length (numbers_in Q) ≡ T.numbers = ap length numbers ∙ length-from 1 T.numbers in
        let size : length (disjunctions_in Q) ≡ T.disjunctions =
        sym (length-map (disjunctions_in Q) number_in) ∙ ap length names ∙ length-map (numbers_from 0 T.disjunctions) (name_in T.names)
        ∙ length-from 0 T.disjunctions in
        let few : T.disjunctions < 2 ^ 64 = omega (arith, o.few, o.small) in
        record {
          numbers = numbers ∙ ap (numbers_from 1) (sym count);
          own_names = λ i j d lt high same.
              let low : i < T.disjunctions = omega arith in
              let top : j < T.disjunctions = omega arith in
              let e : name_in T.names i ≡ name_in T.names j =
              sym (nth-name T.names (disjunctions_in Q) T.disjunctions i d names low) ∙ same
              ∙ nth-name T.names (disjunctions_in Q) T.disjunctions j d names top in
              let f : i ≡ j = one-disjunction i j (omega arith) (omega arith)
              (one-name (disjunction_name i) (disjunction_name j) T.names (o.there i low) (o.there j top) e) in omega arith;
          unwritten = λ d t i j.
              let n = contained-name T.names (disjunctions_in Q) 0 T.disjunctions d names i in
              ap (λ k. has_name k t) n.2
              ∙ unlifted T.names n.0 t (o.there n.0 (omega (arith, n.1))) (All-contains (HasWritten T.names) (heads_and_calls Q) t terms j);
        }
