-- The program of a text of rules.
use Rattle.std.proofs.Common.{ℕ, zero, suc, ◌≡◌, ◌<◌, ◌≤◌, true, false, List, [], ◌∷◌, ◌++◌, length, map, codes, get_or, Option, Some}
use Rattle.std.proofs.Common.{None, refl, ap, sym, ◌∙◌, arith, subst}
use Rattle.std.proofs.lemmas.List.{append_assoc, append-nil}
use Rattle.and_model.specs.Lines.{Bytes}
use Rattle.and_model.specs.Programs.{Clause, Program, clause_at, builtin_names}
use Rattle.and_source.specs.Source.{SourceClause, SourceProgram}
use Rattle.and_source.specs.Lifted.{lift, clauses_of, clauses_of_items}
use Rattle.and_syntax.specs.Written.{Written, has, place, named, including}
use Rattle.and_syntax.specs.Clauses
use Rattle.and_syntax.specs.Clauses.{Parts, is_built_in, disjunctions_of, alternatives_of, asked_of}
use Rattle.and_syntax.specs.Tables.{Table, empty, term_with, names_with, next_clause, next_query, clause_fault, with_clause, with_query}
use Rattle.and_syntax.specs.Tables.{program_of, placed, taken}
use Rattle.and_syntax.proofs.Names.{Grows, grows-same, grows-trans, grows-named, grows-disjunctions, one-name}
use Rattle.and_syntax.proofs.OwnVariables.{place-below}
use Rattle.and_translation.specs.Translation.{translated, list_before}
use Rattle.and_grammar_laws.specs.Derivations.{Rule, IsNumber}
use Rattle.and_grammar_laws.specs.Grammars.{atom, Line, AreRules, with_rules, AreTaken, asks, Text, table_before, table_with, table_of}
use Rattle.and_grammar_laws.specs.Grammars.{program_for, IsTextOf}
use Rattle.and_grammar_laws.proofs.Chains.{IsClauseOf, IsProgramOf}
use Rattle.and_grammar_laws.proofs.Asking.{Asks, AreTold}
use Rattle.and_grammar_laws.proofs.Settled.{place_has}
use Rattle.and_grammar_laws.proofs.Walking.{free}
use Rattle.and_grammar_laws.proofs.Numbers.{translated_rule}
use Rattle.and_grammar_laws.proofs.Clauses.{Stands, stands, IsQuery, query_is, AllKnown, letters_known}

-- names are kept
abbrev placed_by : Table → SourceClause → Option SourceClause → Table
placed_by X k o = elim o [
  | None ↦ record X { earlier = X.earlier ++ k ∷ [] }
  | Some q ↦ record X { later = X.later ++ k ∷ [] }
]

placed_names : (X : Table) (k : SourceClause) → (placed X k).names ≡ X.names
placed_names X k = by X.asked
  where
    by : (o : Option SourceClause) → (placed_by X k o).names ≡ X.names
    by None = refl
    by (Some q) = refl

grows_clause : (T : Table) (w : Written) (line : ℕ) → Grows (names_with T w) (with_clause T w line).names
grows_clause T w line =
    let ps : Parts = Clauses.body_of (term_with T w) in
    subst (Grows (names_with T w)) (sym (placed_names (taken T w ps (suc (alternatives_of ps))) (next_clause T w line)))
    (grows-disjunctions T.disjunctions (disjunctions_of ps) (names_with T w))

grows_rules : (T : Table) (ls : List Line) → Grows T.names (with_rules T ls).names
grows_rules T [] = grows-same T.names
grows_rules T (l ∷ ls) =
    let w : Written = translated l.rule in
    let U : Table = with_clause T w l.line in
    grows-trans T.names (names_with T w) (with_rules U ls).names (grows-named T.names w)
    (grows-trans (names_with T w) U.names (with_rules U ls).names (grows_clause T w l.line) (grows_rules U ls))

grows_query : (T : Table) (w : Written) (line : ℕ) → Grows (names_with T w) (with_query T w line).names
grows_query T w line = grows-disjunctions T.disjunctions (disjunctions_of (asked_of (term_with T w))) (names_with T w)

-- the clauses that rules add
abbrev new_clauses : Table → List Line → List SourceClause
new_clauses T [] = []
new_clauses T (l ∷ ls) = next_clause T (translated l.rule) l.line ∷ new_clauses (with_clause T (translated l.rule) l.line) ls

abbrev AllStand : List Bytes → List SourceClause → List Rule → Type 0
AllStand N [] [] = Unit {0}
AllStand N [] (r ∷ rs) = ⊥
AllStand N (k ∷ ks) [] = ⊥
AllStand N (k ∷ ks) (r ∷ rs) = Stands N k r × AllStand N ks rs

all_stand : (N : List Bytes) → Grows builtin_names N → (T : Table) (ls : List Line) (rs : List Rule) → AreRules ls rs → AreTaken T ls
    → Grows (with_rules T ls).names N → AllStand N (new_clauses T ls) rs
all_stand N builtins T [] [] h a g = tt
all_stand N builtins T [] (r ∷ rs) h a g = elim h [ ]
all_stand N builtins T (l ∷ ls) [] h a g = elim h [ ]
all_stand N builtins T (l ∷ ls) (r ∷ rs) h a g =
    let w : Written = translated l.rule in
    let U : Table = with_clause T w l.line in
    let on : Grows (names_with T w) N =
    grows-trans (names_with T w) U.names N (grows_clause T w l.line) (grows-trans U.names (with_rules U ls).names N (grows_rules U ls) g) in (
      subst (λ (v : Written). Grows (names_with T v) N → clause_fault T v ≡ None → Stands N (next_clause T v l.line) r) (sym (translated_rule l.rule r h.0))
          (λ k e. stands N builtins T r l.line k e (free h.0.body r.body h.0.holds)) on a.1,
      all_stand N builtins U ls rs h.1 a.2 g,
    )

placed_first : (X : Table) (k : SourceClause) → X.asked ≡ None → placed X k ≡ record X { earlier = X.earlier ++ k ∷ [] }
placed_first X k e = by X.asked e
  where
    by : (o : Option SourceClause) → o ≡ None → placed_by X k o ≡ record X { earlier = X.earlier ++ k ∷ [] }
    by None d = refl
    by (Some q) d = absurd (cc)

pub placed_last : (X : Table) (k q : SourceClause) → X.asked ≡ Some q → placed X k ≡ record X { later = X.later ++ k ∷ [] }
placed_last X k q e = by X.asked e
  where
    by : (o : Option SourceClause) → o ≡ Some q → placed_by X k o ≡ record X { later = X.later ++ k ∷ [] }
    by None d = let f : None ≡ Some q = d in absurd (cc)
    by (Some p) d = refl

pub record Before (T U : Table) (ks : List SourceClause) : Type 0 where
  pub earlier_is : U.earlier ≡ T.earlier ++ ks
  pub later_is : U.later ≡ T.later
  pub none_asked : U.asked ≡ None

rules_before : (T : Table) (ls : List Line) → T.asked ≡ None → Before T (with_rules T ls) (new_clauses T ls)
rules_before T [] e = record { earlier_is = sym (append-nil T.earlier); later_is = refl; none_asked = e }
rules_before T (l ∷ ls) e =
    let w : Written = translated l.rule in
    let ps : Parts = Clauses.body_of (term_with T w) in
    let k : SourceClause = next_clause T w l.line in
    let X : Table = taken T w ps (suc (alternatives_of ps)) in
    let U : Table = with_clause T w l.line in
    let is : U ≡ record X { earlier = X.earlier ++ k ∷ [] } = placed_first X k e in
    let b = rules_before U ls (ap (λ (V : Table). V.asked) is ∙ e) in
    record {
      earlier_is = b.earlier_is ∙ ap (λ (V : Table). V.earlier ++ new_clauses U ls) is ∙ append_assoc T.earlier (k ∷ []) (new_clauses U ls);
      later_is = b.later_is ∙ ap (λ (V : Table). V.later) is;
      none_asked = b.none_asked;
    }

pub record Behind (T U : Table) (ks : List SourceClause) : Type 0 where
  pub earlier_is : U.earlier ≡ T.earlier
  pub later_is : U.later ≡ T.later ++ ks

rules_behind : (T : Table) (ls : List Line) (q : SourceClause) → T.asked ≡ Some q → Behind T (with_rules T ls) (new_clauses T ls)
rules_behind T [] q e = record { earlier_is = refl; later_is = sym (append-nil T.later) }
rules_behind T (l ∷ ls) q e =
    let w : Written = translated l.rule in
    let ps : Parts = Clauses.body_of (term_with T w) in
    let k : SourceClause = next_clause T w l.line in
    let X : Table = taken T w ps (suc (alternatives_of ps)) in
    let U : Table = with_clause T w l.line in
    let is : U ≡ record X { later = X.later ++ k ∷ [] } = placed_last X k q e in
    let b = rules_behind U ls q (ap (λ (V : Table). V.asked) is ∙ e) in
    record {
      earlier_is = b.earlier_is ∙ ap (λ (V : Table). V.earlier) is;
      later_is = b.later_is ∙ ap (λ (V : Table). V.later ++ new_clauses U ls) is ∙ append_assoc T.later (k ∷ []) (new_clauses U ls);
    }

-- a clause of a rule's, as it runs
pub record Runs (N : List Bytes) (c : Clause) (r : Rule) : Type 0 where
  pub clause : IsClauseOf (λ (x : Bytes). place x N) c r
  pub called : is_built_in (place r.head N) 2 ≡ false
  pub known : has r.head N ≡ true

abbrev AllRun : List Bytes → List Clause → List Rule → Type 0
AllRun N [] [] = Unit {0}
AllRun N [] (r ∷ rs) = ⊥
AllRun N (c ∷ cs) [] = ⊥
AllRun N (c ∷ cs) (r ∷ rs) = Runs N c r × AllRun N cs rs

clauses_run : (N : List Bytes) (ks : List SourceClause) (rs : List Rule) → AllStand N ks rs → AllRun N (clauses_of ks) rs
clauses_run N [] [] h = tt
clauses_run N [] (r ∷ rs) h = elim h [ ]
clauses_run N (k ∷ ks) [] h = elim h [ ]
clauses_run N (k ∷ ks) (r ∷ rs) h = (
  record { clause = h.0.clause; called = h.0.called; known = h.0.known },
  subst (λ (cs : List Clause). AllRun N (cs ++ clauses_of ks) rs) (sym h.0.alone_is) (clauses_run N ks rs h.1),
)

both_run : (N : List Bytes) (cs ds : List Clause) (rs ss : List Rule) → AllRun N cs rs → AllRun N ds ss → AllRun N (cs ++ ds) (rs ++ ss)
both_run N [] ds [] ss h k = k
both_run N [] ds (r ∷ rs) ss h k = elim h [ ]
both_run N (c ∷ cs) ds [] ss h k = elim h [ ]
both_run N (c ∷ cs) ds (r ∷ rs) ss h k = (h.0, both_run N cs ds rs ss h.1 k)

pub record Halves (xs ys : List Line) (grammar : List Rule) : Type 0 where
  pub front : List Rule
  pub back : List Rule
  pub joined_is : grammar ≡ front ++ back
  pub rules_front : AreRules xs front
  pub rules_back : AreRules ys back

halves : (xs ys : List Line) (grammar : List Rule) → AreRules (xs ++ ys) grammar → Halves xs ys grammar
halves [] ys grammar h = record { front = []; back = grammar; joined_is = refl; rules_front = tt; rules_back = h }
halves (x ∷ xs) ys [] h = elim h [ ]
halves (x ∷ xs) ys (r ∷ rs) h =
    let p = halves xs ys rs h.1 in
    record {
      front = r ∷ p.front;
      back = p.back;
      joined_is = ap (λ (gs : List Rule). r ∷ gs) p.joined_is;
      rules_front = (h.0, p.rules_front);
      rules_back = p.rules_back;
    }

-- a clause by its number, and a rule by its number
rule_at : (N : List Bytes) (cs : List Clause) (rs : List Rule) → AllRun N cs rs → (c : ℕ) → c < length cs → (d : Clause)
    → (r : Rule) × IsNumber (suc c) rs r × IsClauseOf (λ (x : Bytes). place x N) (get_or cs c d) r
rule_at N [] rs h c lt d = absurd (omega arith)
rule_at N (k ∷ cs) [] h c lt d = elim h [ ]
rule_at N (k ∷ cs) (r ∷ rs) h zero lt d = (r, refl, h.0.clause)
rule_at N (k ∷ cs) (r ∷ rs) h (suc c) lt d = rule_at N cs rs h.1 c (omega arith) d

pub record At (N : List Bytes) (cs : List Clause) (c : ℕ) (r : Rule) : Type 0 where
  pub index : ℕ
  pub number : c ≡ suc index
  pub within : index < length cs
  pub clause : (d : Clause) → IsClauseOf (λ (x : Bytes). place x N) (get_or cs index d) r
  pub called : is_built_in (place r.head N) 2 ≡ false
  pub known : has r.head N ≡ true

clause_of_rule : (N : List Bytes) (cs : List Clause) (rs : List Rule) → AllRun N cs rs → (c : ℕ) (r : Rule) → IsNumber c rs r → At N cs c r
clause_of_rule N [] [] h c r i = elim i [ ]
clause_of_rule N [] (g ∷ rs) h c r i = elim h [ ]
clause_of_rule N (k ∷ cs) [] h c r i = elim h [ ]
clause_of_rule N (k ∷ cs) (g ∷ rs) h zero r i = elim i [ ]
clause_of_rule N (k ∷ cs) (g ∷ rs) h (suc zero) r i =
    subst (At N (k ∷ cs) 1) i
    (record { index = 0; number = refl; within = omega arith; clause = λ d. h.0.clause; called = h.0.called; known = h.0.known })
clause_of_rule N (k ∷ cs) (g ∷ rs) h (suc (suc c)) r i =
    let a = clause_of_rule N cs rs h.1 (suc c) r i in
    record { index = suc a.index; number = ap suc a.number; within = omega (arith, a.within); clause = a.clause; called = a.called; known = a.known }

-- no other name has the place of one that is there
told : (N : List Bytes) (x y : Bytes) → has x N ≡ true → place y N ≡ place x N → x ≡ y
told N x y h e = one-name x y N h (place_has y N (omega (arith, e, place-below x N h))) (sym e)

rules_run : (N : List Bytes) (P : Program) (grammar : List Rule) → AllRun N P.clauses grammar → IsProgramOf (λ (x : Bytes). place x N) P grammar
rules_run N P grammar h = record {
  rule_of = by;
  clause_of = λ c r i. (let a = clause_of_rule N P.clauses grammar h c r i in (
    omega (arith, a.number),
    omega (arith, a.number, a.within),
    subst (λ (n : ℕ). IsClauseOf (λ (x : Bytes). place x N) (clause_at P n) r) (sym a.number) (a.clause P.query),
  ));
  heads = λ c r i n e. told N r.head n (clause_of_rule N P.clauses grammar h c r i).known e;
}
  where
    by : (c : ℕ) → 0 < c → c ≤ length P.clauses → (r : Rule) × IsNumber c grammar r × IsClauseOf (λ (x : Bytes). place x N) (clause_at P c) r
    by zero low high = absurd (omega arith)
    by (suc c) low high = rule_at N P.clauses grammar h c (omega arith) P.query

-- a program of such clauses, in which the query has no disjunction
program_runs : (N : List Bytes) (S : SourceProgram) (ks ls : List SourceClause) (grammar : List Rule) → S.earlier ≡ ks → S.later ≡ ls
    → clauses_of_items S.query S.query.body ≡ [] → AllRun N (clauses_of ks ++ clauses_of ls) grammar
    → IsProgramOf (λ (x : Bytes). place x N) (lift S) grammar
program_runs N S ks ls grammar first last none h =
    let are : (lift S).clauses ≡ clauses_of ks ++ clauses_of ls =
    ap (λ (xs : List SourceClause). (clauses_of xs ++ clauses_of_items S.query S.query.body) ++ clauses_of S.later) first
    ∙ ap (λ (xs : List SourceClause). (clauses_of ks ++ clauses_of_items S.query S.query.body) ++ clauses_of xs) last
    ∙ ap (λ (cs : List Clause). (clauses_of ks ++ cs) ++ clauses_of ls) none
    ∙ ap (λ (cs : List Clause). cs ++ clauses_of ls) (append-nil (clauses_of ks)) in
    rules_run N (lift S) grammar (subst (λ (cs : List Clause). AllRun N cs grammar) (sym are) h)

word_told : (N : List Bytes) (word : List Bytes) → AllKnown N word → AreTold (λ (x : Bytes). place x N) word
word_told N [] h = tt
word_told N (x ∷ xs) h = (λ y e. told N x y h.0 e, word_told N xs h.1)

-- The program of a text runs its rules, and asks for the word.
module _ (t : Text) (grammar : List Rule) (n : Bytes) (word : List Bytes) (h : IsTextOf t grammar n word) where
  abbrev pub N : List Bytes
  N = (table_of t n word).names

  abbrev P : Program
  P = program_for t n word

  abbrev q : SourceClause
  q = next_query (table_before t) (asks n word) t.line

  from_query : Grows (names_with (table_before t) (asks n word)) N
  from_query =
      grows-trans (names_with (table_before t) (asks n word)) (table_with t n word).names N (grows_query (table_before t) (asks n word) t.line)
      (grows_rules (table_with t n word) t.later)

  from_rules : Grows (table_before t).names N
  from_rules =
      grows-trans (table_before t).names (names_with (table_before t) (asks n word)) N (grows-named (table_before t).names (asks n word)) from_query

  builtins : Grows builtin_names N
  builtins = grows-trans builtin_names (table_before t).names N (grows_rules empty t.earlier) from_rules

  halved : Halves t.earlier t.later grammar
  halved = halves t.earlier t.later grammar h.rules

  abbrev earlier_ones : List SourceClause
  earlier_ones = new_clauses empty t.earlier

  abbrev later_ones : List SourceClause
  later_ones = new_clauses (table_with t n word) t.later

  two_run : AllRun N (clauses_of earlier_ones ++ clauses_of later_ones) grammar
  two_run =
      subst (AllRun N (clauses_of earlier_ones ++ clauses_of later_ones)) (sym halved.joined_is)
      (both_run N (clauses_of earlier_ones) (clauses_of later_ones) halved.front halved.back
      (clauses_run N earlier_ones halved.front (all_stand N builtins empty t.earlier halved.front halved.rules_front h.taken_earlier from_rules))
      (clauses_run N later_ones halved.back
      (all_stand N builtins (table_with t n word) t.later halved.back halved.rules_back h.taken_later (grows-same N))))

  name_called : is_built_in (place n N) 2 ≡ false
  name_called =
      let a = clause_of_rule N (clauses_of earlier_ones ++ clauses_of later_ones) grammar two_run h.headed.0 h.headed.1 h.headed.2 in
      subst (λ (x : Bytes). is_built_in (place x N) 2 ≡ false) h.headed.3 a.called

  asked : IsQuery N builtins (table_before t) n word t.line from_query name_called
  asked = query_is N builtins (table_before t) n word t.line from_query name_called

  pub program_is : IsProgramOf (λ (x : Bytes). place x N) P grammar
  program_is =
      let b = rules_before empty t.earlier refl in
      let d = rules_behind (table_with t n word) t.later q refl in
      program_runs N (program_of (table_of t n word) q) earlier_ones later_ones grammar (d.earlier_is ∙ b.earlier_is)
      (d.later_is ∙ ap (λ (ks : List SourceClause). ks ++ later_ones) b.later_is) asked.alone_is two_run

  pub query_asks : Asks (λ (x : Bytes). place x N) P n word
  query_asks =
      let ys : List Bytes = including (including (table_before t).names (codes "?-")) n in
      let list : Written = list_before (map atom word) (atom (codes "[]")) in
      record {
        body_is = asked.asks_is;
        written = asked.written;
        letters = word_told N word (letters_known N ys word (atom (codes "[]"))
            (grows-trans (named ys list) (names_with (table_before t) (asks n word)) N (grows-named (named ys list) (atom (codes "[]"))) from_query));
      }
