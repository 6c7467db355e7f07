-- What is put into a table, of clauses and of rules.
use Rattle.std.proofs.Common.{◌≡◌, ℕ, IsTrue, List, [], ◌∷◌, Option, Some, None, Result, refl, sym, ap, ◌∙◌, subst}
use Rattle.std.specs.Option.{IfSome}
use Rattle.std.specs.Result.{IfErr}
use Rattle.and_model.specs.Lines.{Bytes}
use Rattle.and_syntax.specs.Written.{Written}
use Rattle.and_syntax.specs.Tables.{Table, Fault, clause_fault, with_clause}
use Rattle.and_translation.specs.Bodies.{is_rule}
use Rattle.and_translation.specs.Translation.{translated, translation_fault}
use Rattle.and_language.specs.Tokens.{line_at}
use Rattle.and_language.specs.Grammar.{Sort, Statement}
use Rattle.and_language.specs.Refusals.{first_fault, rule_fault, statement_fault}
use Rattle.and_reader.specs.Reading.{IsPut, IsRulePut, IsAdded}

-- a rule is one term
pub rule_alone : (ws : List Written) → IsTrue (is_rule ws) → (w : Written) × (ws ≡ w ∷ [])
rule_alone [] r = absurd (cc r)
rule_alone (w ∷ []) r = (w, refl)
rule_alone (w ∷ v ∷ ws) r = absurd (cc r)

-- nothing is wrong with a rule but what is with its clause
sound : (T : Table) (w : Written) → translation_fault w ≡ None → rule_fault T w ≡ clause_fault T (translated w)
sound T w e = ap (λ (o : Option Fault). first_fault o (clause_fault T (translated w))) e

pub rule_put : (T U : Table) (w : Written) (line own : ℕ) → translation_fault w ≡ None → line ≡ own → IsPut T (translated w) line U → IsRulePut T w own U
rule_put T U w line own e l h = (sound T w e ∙ h.0, h.1 ∙ ap (with_clause T (translated w)) l)

pub rule_unput : {A E : Type 0} (T : Table) (w : Written) (r : Result A E) (fault_in : E → Option Fault) → translation_fault w ≡ None
    → IfErr r (λ e. IfSome (fault_in e) (λ f. clause_fault T (translated w) ≡ Some f)) → IfErr r (λ e. IfSome (fault_in e) (λ f. rule_fault T w ≡ Some f))
rule_unput T w r fault_in e h =
    subst (λ (o : Option Fault). IfErr r (λ e. IfSome (fault_in e) (λ f. o ≡ Some f))) (sym (sound T w e)) h

pub rule_wrong : (T : Table) (w : Written) (k o : Option Fault) → k ≡ o → IfSome o (λ f. translation_fault w ≡ Some f) → IfSome k (λ f. rule_fault T w ≡ Some f)
rule_wrong T w k o e h = subst (λ (x : Option Fault). IfSome x (λ f. rule_fault T w ≡ Some f)) (sym e) (by o h)
  where
    by : (o : Option Fault) → IfSome o (λ f. translation_fault w ≡ Some f) → IfSome o (λ f. rule_fault T w ≡ Some f)
    by None h = tt
    by (Some f) h = ap (λ (x : Option Fault). first_fault x (clause_fault T (translated w))) h

-- Statements of a text, by their sort.

abbrev of_sort : Sort → Statement → Statement
of_sort q s = record { sort = q; term = s.term; place = s.place }

pub clause_added : (bytes : Bytes) (T U : Table) (s : Statement) (line : ℕ) → s.sort ≡ Sort.clause → line ≡ line_at bytes s.place → IsPut T s.term line U
    → IsAdded bytes T s U
clause_added bytes T U s line k l h =
    subst (λ (q : Sort). IsAdded bytes T (of_sort q s) U) (sym k) (h.0, h.1 ∙ ap (with_clause T s.term) l)

pub rule_added : (bytes : Bytes) (T U : Table) (s : Statement) (line : ℕ) → s.sort ≡ Sort.grammar_rule → line ≡ line_at bytes s.place
    → IsRulePut T s.term line U → IsAdded bytes T s U
rule_added bytes T U s line k l h =
    subst (λ (q : Sort). IsAdded bytes T (of_sort q s) U) (sym k) (h.0, h.1 ∙ ap (with_clause T (translated s.term)) l)

-- A refusal of that sort is one of the statement.
pub fault_of_sort : {A E : Type 0} (T : Table) (s : Statement) (q : Sort) (r : Result A E) (fault_in : E → Option Fault) → s.sort ≡ q
    → IfErr r (λ e. IfSome (fault_in e) (λ f. statement_fault T (of_sort q s) ≡ Some f))
    → IfErr r (λ e. IfSome (fault_in e) (λ f. statement_fault T s ≡ Some f))
fault_of_sort T s q r fault_in k h =
    subst (λ (b : Sort). IfErr r (λ e. IfSome (fault_in e) (λ f. statement_fault T (of_sort b s) ≡ Some f))) (sym k) h
