-- What was added last, drafts that are one term, and whether there is a query.
use Rattle.std.proofs.Common.{ℕ, suc, ◌+◌, length, ◌≡◌, ◌≤◌, Bool, true, false, List, [], ◌∷◌, ◌++◌, map, Option, Some, None, refl, ap, ◌∙◌, arith}
use Rattle.std.specs.Prelude.{IsTrue, is_some}
use Rattle.and_syntax.specs.Written.{Written}
use Rattle.and_source.specs.Source.{SourceClause}
use Rattle.and_syntax.specs.Clauses.{body_of, alternatives_of}
use Rattle.and_syntax.specs.Tables.{Table, empty, with_clause, with_query, term_with, is_asked}
use Rattle.and_program.specs.Skeletons.{Shape}
use Rattle.and_program.specs.declared.entry.ClauseEntry.{ClauseEntry}
use Rattle.and_drafts.specs.Drafts.{draft_of}
use Rattle.and_clauses.specs.Kept.{IsAsked}
use Rattle.and_clauses.specs.Views.{is_query}
use Rattle.and_drafts.specs.Parts.{part_shapes, written_at}
use Rattle.and_clauses.specs.Adds.{term_of, first_of, with_added, with_all}
use Rattle.and_drafts.specs.declared.draft.ClauseDraft.{ClauseDraft}
use Rattle.and_clauses.specs.declared.added.Added.{Added}

-- a table with one thing more behind all the others
pub added_last : (T : Table) (xs : List Added) (a : Added) → with_all T (xs ++ a ∷ []) ≡ with_added (with_all T xs) a
added_last T [] a = refl
added_last T (x ∷ xs) a = added_last (with_added T x) xs a

-- the one finished term of a draft
pub one_term : (d : ClauseDraft) (w : Written) → map (written_at (part_shapes d.parts.items)) d.finished.items ≡ w ∷ [] → term_of d ≡ w
one_term d w e = by d.finished.items e
  where
    by : (ns : List ℕ) → map (written_at (part_shapes d.parts.items)) ns ≡ w ∷ [] → first_of d ns ≡ w
    by [] f = absurd cc
    by (n ∷ ns) f = cc

-- ---- One thing more in a table.
pub added_table : (xs ys : List Added) (a : Added) → ys ≡ xs ++ a ∷ [] → with_all empty ys ≡ with_added (with_all empty xs) a
added_table xs ys a e = ap (with_all empty) e ∙ added_last empty xs a

pub clause_noted : (T : Table) (v d : ClauseDraft) (w : Written) → v ≡ d → (draft_of d).finished ≡ w ∷ []
    → with_clause T (term_of v) v.line ≡ with_clause T w d.line
clause_noted T v d w e one = ap (λ (x : ClauseDraft). with_clause T (term_of x) x.line) e ∙ ap (λ t. with_clause T t d.line) (one_term d w one)

pub query_noted : (T : Table) (v d : ClauseDraft) (w : Written) → v ≡ d → (draft_of d).finished ≡ w ∷ []
    → with_query T (term_of v) v.line ≡ with_query T w d.line
query_noted T v d w e one = ap (λ (x : ClauseDraft). with_query T (term_of x) x.line) e ∙ ap (λ t. with_query T t d.line) (one_term d w one)

-- ---- Drafts that are one term.
pub one_finished : (ws : List Written) → length ws ≡ 1 → (w : Written) × (ws ≡ w ∷ [])
one_finished [] e = absurd (omega arith)
one_finished (w ∷ []) e = (w, refl)
one_finished (w ∷ v ∷ ws) e = absurd (omega arith)

pub one_query : (ws : List Written) → IsTrue (is_query ws) → (w : Written) × (ws ≡ w ∷ [])
one_query [] e = absurd cc
one_query (w ∷ []) e = (w, refl)
one_query (w ∷ v ∷ ws) e = absurd cc

pub one_query_alone : (ws : List Written) → IsTrue (is_query ws) → length ws ≡ 1
one_query_alone [] e = absurd cc
one_query_alone (w ∷ []) e = refl
one_query_alone (w ∷ v ∷ ws) e = absurd cc

-- ---- The next number is within the limit.
clause_number : (T : Table) (w : Written) (line : ℕ) → (with_clause T w line).numbers ≡ T.numbers + suc (alternatives_of (body_of (term_with T w)))
clause_number T w line = by T.asked
  where
    by : (a : Option SourceClause) → (with_clause (record T { asked = a }) w line).numbers ≡ T.numbers + suc (alternatives_of (body_of (term_with T w)))
    by None = refl
    by (Some q) = refl

pub number_fits : (T U : Table) (w : Written) (line n m : ℕ) → n ≡ T.numbers → U ≡ with_clause T w line → m ≡ U.numbers → m ≤ 65535 → n + 1 ≤ 65535
number_fits T U w line n m e is now few =
    let more : U.numbers ≡ T.numbers + suc (alternatives_of (body_of (term_with T w))) = ap (λ (V : Table). V.numbers) is ∙ clause_number T w line in
    omega (arith, e, more, now, few)

-- ---- Whether there is a query.
pub unasked : (e : Option ClauseEntry) (b : Bool) → b ≡ is_some e → b ≡ false → e ≡ None
unasked None b is e = refl
unasked (Some x) b is e = absurd cc

pub asked_there : (ss : List Shape) (e : Option ClauseEntry) (q : Option SourceClause) (n : ℕ) (b : Bool) → b ≡ is_some e → b ≡ true → IsAsked ss e q n
    → is_asked q ≡ true
asked_there ss None q n b is e a = absurd cc
asked_there ss (Some x) None n b is e a = absurd a
asked_there ss (Some x) (Some q) n b is e a = refl
