use Rattle.std.proofs.Common.{ap, length}
use Rattle.and_translation.specs.Translation.{translated}
use Rattle.and_clauses.specs.Views.{table_of}
use Rattle.and_drafts.specs.Drafts.{draft_of}
use Rattle.and_judging.specs.Faults.{fault_of}
use Rattle.and_grammar.specs.Checked.{fault_of as fault_in_rule}
use Rattle.and_reader.proofs.TermLemmas.{on_ok}
use Rattle.and_reader.proofs.Puts.{rule_alone, rule_put, rule_unput, rule_wrong}
use Rattle.and_reader.proofs.putting.put_rule.Goals as goal

pub put_clause-put-requires : goal.put_clause-put-requires
put_clause-put-requires c =
    let a = rule_alone (draft_of c.args.rule.now).finished c.requires in
    ap length (c.in-Ok.ensures a.0 a.1).0.term

pub returns-in-Ok-clause-added : goal.returns-in-Ok-clause-added
returns-in-Ok-clause-added c = λ w e.
    let t = (c.in-Ok.ensures w e).0 in
    on_ok c.put_clause-put.result
    (λ x. rule_put (table_of c.args.table.now) (table_of c.put_clause-put.new.table) w (draft_of c.in-Ok.clause).line
    (draft_of c.args.rule.now).line t.sound t.line x)
    (c.put_clause-put.ensures.added (translated w) t.term)

pub returns-in-Ok-clause-refused : goal.returns-in-Ok-clause-refused
returns-in-Ok-clause-refused c = λ w e.
    let t = (c.in-Ok.ensures w e).0 in
    rule_unput (table_of c.args.table.now) w c.put_clause-put.result fault_of t.sound (c.put_clause-put.ensures.refused (translated w) t.term)

pub returns-in-Err-clause-refused : goal.returns-in-Err-clause-refused
returns-in-Err-clause-refused c = λ w e.
    rule_wrong (table_of c.args.table.now) w (fault_of c.rule_fault.result) (fault_in_rule c.in-Err.fault) c.rule_fault.ensures (c.in-Err.ensures w e).1
