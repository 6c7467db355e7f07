-- The text of a grammar, as it is read.
use Rattle.std.proofs.Common.{ℕ, suc, ◌≡◌, List, [], ◌∷◌, ◌++◌, Option, Some, None, refl, ap, sym, ◌∙◌, subst}
use Rattle.std.proofs.lemmas.List.{map-append}
use Rattle.and_model.specs.Lines.{Bytes}
use Rattle.and_source.specs.Source.{SourceClause, SourceProgram}
use Rattle.and_source.specs.Lifted.{lift}
use Rattle.and_syntax.specs.Written.{Written}
use Rattle.and_syntax.specs.Clauses
use Rattle.and_syntax.specs.Clauses.{Parts, alternatives_of}
use Rattle.and_syntax.specs.Tables.{Fault, Table, empty, term_with, taken, next_clause, next_query, clause_fault, query_fault, with_clause, with_query}
use Rattle.and_syntax.specs.Tables.{program_of}
use Rattle.and_translation.specs.Translation.{translated, translation_fault}
use Rattle.and_language.specs.Tokens.{line_at}
use Rattle.and_language.specs.Grammar.{Sort, Statement}
use Rattle.and_language.specs.Refusals.{Takes, first_fault, rule_fault, with_statement, IsTextOf}
use Rattle.and_grammar_laws.specs.Derivations.{Rule}
use Rattle.and_grammar_laws.specs.Grammars
use Rattle.and_grammar_laws.specs.Grammars.{Line, AreRules, AreTaken, with_rules, asks, Text, table_before, table_with, table_of, program_for}
use Rattle.and_grammar_laws.specs.Texts.{line_of, lines_of, AreGrammarRules, Holds}
use Rattle.and_grammar_laws.proofs.Programs.{placed_last}

-- What is taken in one go is taken in two.
record Split (bytes : Bytes) (T U : Table) (ss us : List Statement) : Type 0 where
  table : Table
  front : Takes bytes T ss table
  back : Takes bytes table us U

split : (bytes : Bytes) (T U : Table) (ss us : List Statement) → Takes bytes T (ss ++ us) U → Split bytes T U ss us
split bytes T U [] us h = record { table = T; front = Takes.nothing T; back = h }
split bytes T U (s ∷ ss) us (Takes.more _ _ _ _ e h) =
    let r = split bytes (with_statement bytes T s) U ss us h in
    record { table = r.table; front = Takes.more T r.table s ss e r.front; back = r.back }

-- neither a rule nor its clause is refused
neither : (o p : Option Fault) → first_fault o p ≡ None → (o ≡ None) × (p ≡ None)
neither None p e = (refl, e)
neither (Some f) p e = absurd (cc e)

abbrev fault_by : Sort → Table → Written → Option Fault
fault_by q T w = elim q [ Sort.clause ↦ clause_fault T w | Sort.query ↦ query_fault T w | Sort.grammar_rule ↦ rule_fault T w ]

abbrev table_by : Sort → Table → Written → ℕ → Table
table_by q T w line = elim q [ Sort.clause ↦ with_clause T w line | Sort.query ↦ with_query T w line | Sort.grammar_rule ↦ with_clause T (translated w) line ]

-- rules that are taken
rules_taken : (bytes : Bytes) (T U : Table) (ss : List Statement) → AreGrammarRules ss → Takes bytes T ss U
    → (U ≡ with_rules T (lines_of bytes ss)) × AreTaken T (lines_of bytes ss)
rules_taken bytes T U [] a (Takes.nothing _) = (refl, tt)
rules_taken bytes T U (s ∷ ss) a (Takes.more _ _ _ _ e h) =
    let line : ℕ = line_at bytes s.place in
    let V : Table = with_clause T (translated s.term) line in
    let fault : rule_fault T s.term ≡ None = ap (λ (q : Sort). fault_by q T s.term) (sym a.0) ∙ e in
    let is : with_statement bytes T s ≡ V = ap (λ (q : Sort). table_by q T s.term line) a.0 in
    let r = rules_taken bytes V U ss a.1 (subst (λ (X : Table). Takes bytes X ss U) is h) in
    let none = neither (translation_fault s.term) (clause_fault T (translated s.term)) fault in
    (r.0, (none.0, none.1, r.1))

-- a query that is taken
query_taken : (bytes : Bytes) (T : Table) (s : Statement) (w : Written) → s.sort ≡ Sort.query → s.term ≡ w
    → with_statement bytes T s ≡ with_query T w (line_at bytes s.place)
query_taken bytes T s w k e =
    let line : ℕ = line_at bytes s.place in
    ap (λ (q : Sort). table_by q T s.term line) k ∙ ap (λ (v : Written). with_query T v line) e

-- rules behind the query leave it
asked_behind : (T : Table) (ls : List Line) (q : SourceClause) → T.asked ≡ Some q → (with_rules T ls).asked ≡ Some q
asked_behind T [] q e = e
asked_behind T (l ∷ ls) q e =
    let w : Written = translated l.rule in
    let ps : Parts = Clauses.body_of (term_with T w) in
    let X : Table = taken T w ps (suc (alternatives_of ps)) in
    asked_behind (with_clause T w l.line) ls q (ap (λ (V : Table). V.asked) (placed_last X (next_clause T w l.line) q e) ∙ e)

front_rules : (ss us : List Statement) → AreGrammarRules (ss ++ us) → AreGrammarRules ss × AreGrammarRules us
front_rules [] us a = (tt, a)
front_rules (s ∷ ss) us a = let r = front_rules ss us a.1 in ((a.0, r.0), r.1)

same_query : (q k : SourceClause) → Some q ≡ Some k → q ≡ k
same_query q k e = cc

module _ (bytes : Bytes) (P : SourceProgram) (grammar : List Rule) (n : Bytes) (word : List Bytes) (h : Holds bytes P grammar n word) where
  abbrev pub text : Text
  text = record { earlier = lines_of bytes h.earlier; line = line_at bytes h.query.place; later = lines_of bytes h.later }

  abbrev R : IsTextOf bytes P
  R = h.reads

  abbrev first : Split bytes empty R.table h.earlier (h.query ∷ h.later)
  first =
      split bytes empty R.table h.earlier (h.query ∷ h.later) (subst (λ (ss : List Statement). Takes bytes empty ss R.table) h.statements R.taken.taken)

  sorted : AreGrammarRules h.earlier × AreGrammarRules h.later
  sorted = front_rules h.earlier h.later h.sorts

  before : (first.table ≡ table_before text) × AreTaken empty (lines_of bytes h.earlier)
  before = rules_taken bytes empty first.table h.earlier sorted.0 first.front

  behind_query : (T : Table) → T ≡ table_before text → Takes bytes T (h.query ∷ h.later) R.table → Takes bytes (table_with text n word) h.later R.table
  behind_query T e (Takes.more _ _ _ _ f t) =
      let is : with_statement bytes T h.query ≡ table_with text n word =
      query_taken bytes T h.query (asks n word) h.asking.0 h.asking.1 ∙ ap (λ (X : Table). with_query X (asks n word) text.line) e in
      subst (λ (X : Table). Takes bytes X h.later R.table) is t

  behind : (R.table ≡ table_of text n word) × AreTaken (table_with text n word) (lines_of bytes h.later)
  behind = rules_taken bytes (table_with text n word) R.table h.later sorted.1 (behind_query first.table before.0 first.back)

  abbrev query_is : SourceClause
  query_is = next_query (table_before text) (asks n word) text.line

  asked : R.query ≡ query_is
  asked =
      same_query R.query query_is
      (sym R.asked ∙ ap (λ (T : Table). T.asked) behind.0 ∙ asked_behind (table_with text n word) (lines_of bytes h.later) query_is refl)

  pub program_is : program_for text n word ≡ lift P
  program_is =
      ap lift
      (sym (ap (λ (T : Table). program_of T R.query) behind.0 ∙ ap (λ (q : SourceClause). program_of (table_of text n word) q) asked) ∙ R.program)

  pub text_is : Grammars.IsTextOf text grammar n word
  text_is = record {
    rules = subst (λ (ls : List Line). AreRules ls grammar) (map-append (line_of bytes) h.earlier h.later) h.rules;
    taken_earlier = before.1;
    taken_later = behind.1;
    headed = h.headed;
  }
