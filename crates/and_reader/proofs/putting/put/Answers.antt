use Rattle.std.proofs.Common.{ap, ◌∙◌}
use Rattle.and_language.specs.Grammar
use Rattle.and_clauses.specs.Views.{table_of}
use Rattle.and_drafts.specs.Drafts.{draft_of}
use Rattle.and_judging.specs.Faults.{fault_of}
use Rattle.and_reader.specs.Views.{sort_of}
use Rattle.and_reader.proofs.TermLemmas.{on_ok}
use Rattle.and_reader.proofs.Puts.{clause_added, rule_added, fault_of_sort}
use Rattle.and_reader.proofs.putting.put.Goals as goal

pub returns-in-Query-clause-refused : goal.returns-in-Query-clause-refused
returns-in-Query-clause-refused c = λ bytes s h.
    fault_of_sort (table_of c.args.table.now) s Grammar.Sort.query c.set_query.result fault_of (h.kind ∙ ap sort_of c.in-Query.is)
    (c.set_query.ensures.fault s.term h.term)

pub returns-in-Clause-clause-added : goal.returns-in-Clause-clause-added
returns-in-Clause-clause-added c = λ bytes s h.
    on_ok c.put_clause.result
    (λ x. clause_added bytes (table_of c.args.table.now) (table_of c.put_clause.new.table) s (draft_of c.args.draft.now).line (h.kind
    ∙ ap sort_of c.in-Clause.is) h.line x)
    (c.put_clause.ensures.added s.term h.term)

pub returns-in-Clause-clause-refused : goal.returns-in-Clause-clause-refused
returns-in-Clause-clause-refused c = λ bytes s h.
    fault_of_sort (table_of c.args.table.now) s Grammar.Sort.clause c.put_clause.result fault_of (h.kind ∙ ap sort_of c.in-Clause.is)
    (c.put_clause.ensures.refused s.term h.term)

pub put_rule-requires : goal.put_rule-requires
put_rule-requires c = c.requires.rule (ap sort_of c.in-GrammarRule.is)

pub returns-in-GrammarRule-clause-added : goal.returns-in-GrammarRule-clause-added
returns-in-GrammarRule-clause-added c = λ bytes s h.
    on_ok c.put_rule.result (λ x. rule_added bytes (table_of c.args.table.now) (table_of c.put_rule.new.table) s (draft_of c.args.draft.now).line (h.kind
    ∙ ap sort_of c.in-GrammarRule.is) h.line x)
    (c.put_rule.ensures.added s.term h.term)

pub returns-in-GrammarRule-clause-refused : goal.returns-in-GrammarRule-clause-refused
returns-in-GrammarRule-clause-refused c = λ bytes s h.
    fault_of_sort (table_of c.args.table.now) s Grammar.Sort.grammar_rule c.put_rule.result fault_of (h.kind ∙ ap sort_of c.in-GrammarRule.is)
    (c.put_rule.ensures.refused s.term h.term)
