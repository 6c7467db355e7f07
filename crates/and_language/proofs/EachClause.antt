-- What holds of each clause and query that a table takes holds of each of the program of a text.
use Rattle.std.proofs.Common.{ℕ, suc, ◌≡◌, List, [], ◌∷◌, ◌++◌, subst, Option, Some, None}
use Rattle.and_model.specs.Lines.{Bytes}
use Rattle.and_source.specs.Source.{SourceClause, SourceProgram}
use Rattle.and_syntax.specs.Written.{Written}
use Rattle.and_syntax.specs.Tables.{Fault, Table, empty, clause_fault, query_fault, next_clause, next_query, with_clause, with_query}
use Rattle.and_syntax.specs.Tables.{taken, placed, term_with}
use Rattle.and_syntax.specs.Clauses.{Parts, body_of, alternatives_of}
use Rattle.and_translation.specs.Translation.{translated, translation_fault}
use Rattle.and_language.specs.Tokens.{line_at}
use Rattle.and_language.specs.Grammar.{Sort, clause, query, grammar_rule, Statement}
use Rattle.and_language.specs.Refusals.{Takes, first_fault, rule_fault, statement_fault, with_statement, Reads}

abbrev pub sort_fault : Sort → Table → Written → Option Fault
sort_fault s T w = elim s [ clause ↦ clause_fault T w | query ↦ query_fault T w | grammar_rule ↦ rule_fault T w ]

abbrev pub with_sort : Sort → Table → Written → ℕ → Table
with_sort s T w line = elim s [ clause ↦ with_clause T w line | query ↦ with_query T w line | grammar_rule ↦ with_clause T (translated w) line ]

-- the clause of a rule that is not refused is not refused
pub rule_clause_sound : (T : Table) (w : Written) → rule_fault T w ≡ None → clause_fault T (translated w) ≡ None
rule_clause_sound T w e = by (translation_fault w) e
  where
    by : (o : Option Fault) → first_fault o (clause_fault T (translated w)) ≡ None → clause_fault T (translated w) ≡ None
    by None h = h
    by (Some f) h = absurd (cc h)

-- it holds of each clause
abbrev pub OfEach : (SourceClause → Type 0) → List SourceClause → Type 0
OfEach Q [] = Unit {0}
OfEach Q (k ∷ ks) = Q k × OfEach Q ks

one_more : (Q : SourceClause → Type 0) (ks : List SourceClause) (k : SourceClause) → OfEach Q ks → Q k → OfEach Q (ks ++ k ∷ [])
one_more Q [] k a h = (h, tt)
one_more Q (c ∷ ks) k a h = (a.0, one_more Q ks k a.1 h)

module _ (Q : SourceClause → Type 0)
    (of_clause : (T : Table) (w : Written) (line : ℕ) → clause_fault T w ≡ None → Q (next_clause T w line))
    (of_query : (T : Table) (w : Written) (line : ℕ) → query_fault T w ≡ None → Q (next_query T w line)) where
  -- it holds of all clauses of a table, and of its query
  abbrev OfQuery : Option SourceClause → Type 0
  OfQuery None = Unit {0}
  OfQuery (Some q) = Q q

  abbrev OfTable : Table → Type 0
  OfTable T = OfEach Q T.earlier × OfQuery T.asked × OfEach Q T.later

  of_placed : (T : Table) (k : SourceClause) → OfTable T → Q k → OfTable (placed T k)
  of_placed T k h a = by T.asked
    where
      by : (q : Option SourceClause) → OfTable (elim q [ None ↦ record T { earlier = T.earlier ++ k ∷ [] } | Some q ↦ record T { later = T.later ++ k ∷ [] } ])
      by None = (one_more Q T.earlier k h.0 a, h.1, h.2)
      by (Some q) = (h.0, h.1, one_more Q T.later k h.2 a)

  of_one_more : (T : Table) (w : Written) (line : ℕ) → OfTable T → clause_fault T w ≡ None → OfTable (with_clause T w line)
  of_one_more T w line h e =
      let ps : Parts = body_of (term_with T w) in
      of_placed (taken T w ps (suc (alternatives_of ps))) (next_clause T w line) h (of_clause T w line e)

  by_sort : (T : Table) (s : Sort) (w : Written) (line : ℕ) → OfTable T → sort_fault s T w ≡ None → OfTable (with_sort s T w line)
  by_sort T clause w line h e = of_one_more T w line h e
  by_sort T query w line h e = (h.0, of_query T w line e, h.2)
  by_sort T grammar_rule w line h e = of_one_more T (translated w) line h (rule_clause_sound T w e)

  of_statement : (bytes : Bytes) (T : Table) (s : Statement) → OfTable T → statement_fault T s ≡ None → OfTable (with_statement bytes T s)
  of_statement bytes T s h e = by_sort T s.sort s.term (line_at bytes s.place) h e

  of_table : (bytes : Bytes) (T U : Table) (ss : List Statement) → Takes bytes T ss U → OfTable T → OfTable U
  of_table bytes T U [] (Takes.nothing _) h = h
  of_table bytes T U (s ∷ ss) (Takes.more _ _ _ _ e rest) h =
      of_table bytes (with_statement bytes T s) U ss rest (of_statement bytes T s h e)

  pub of_program : (bytes : Bytes) (P : SourceProgram) → Reads bytes P → OfEach Q P.earlier × Q P.query × OfEach Q P.later
  of_program bytes P r =
      let s : OfTable r.table = of_table bytes empty r.table r.taken.statements r.taken.taken (tt, tt, tt) in
      let q : Q r.query = subst OfQuery r.asked s.1 in
      let P : SourceProgram → Type 0 = λ p. OfEach Q p.earlier × Q p.query × OfEach Q p.later in
      subst P r.program (s.0, q, s.2)
