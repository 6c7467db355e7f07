use Rattle.and_clauses.specs.Copies.{numbering_at}
use Rattle.and_clauses.specs.Lifts.{nodes_under}
use Rattle.and_program.specs.Nodes.{shapes_of}
use Rattle.and_clauses.proofs.LiftSteps.{call_own, equal_own, is_own, compare_own, equal_made, is_made, compare_made}
use Rattle.and_clauses.proofs.lifting.copied_item.Goals as goal

pub copied-requires-clause-own : goal.copied-requires-clause-own
copied-requires-clause-own c =
    call_own (nodes_under c.args.lifting) (numbering_at c.args.scope) c.args.item.now c.in-Call.goal c.in-Call.is c.requires.own

pub copied-requires-in-Equal-clause-own : goal.copied-requires-in-Equal-clause-own
copied-requires-in-Equal-clause-own c =
    (equal_own (nodes_under c.args.lifting) (numbering_at c.args.scope) c.args.item.now c.in-Equal.left c.in-Equal.right c.in-Equal.is c.requires.own).0

pub copied-requires-in-Equal-2-clause-own : goal.copied-requires-in-Equal-2-clause-own
copied-requires-in-Equal-2-clause-own c =
    (equal_own (nodes_under c.args.lifting) (numbering_at c.args.scope) c.args.item.now c.in-Equal.left c.in-Equal.right c.in-Equal.is c.requires.own).1

pub returns-in_ok-right-in-Equal-clause-item : goal.returns-in_ok-right-in-Equal-clause-item
returns-in_ok-right-in-Equal-clause-item c =
    equal_made (nodes_under c.args.lifting) (numbering_at c.args.scope) c.args.item.now (shapes_of c.copied-in-Equal.new.nodes.items)
    (shapes_of c.copied-in-Equal-2.new.nodes.items)
    c.in-Equal.left c.in-Equal.right c.in_ok-left-in-Equal.left c.in_ok-right-in-Equal.right c.copied-in-Equal-2.ensures.kept c.in_ok-left-in-Equal.ensures.term
    c.in_ok-right-in-Equal.ensures.term c.in-Equal.is

pub copied-requires-in-Is-clause-own : goal.copied-requires-in-Is-clause-own
copied-requires-in-Is-clause-own c =
    (is_own (nodes_under c.args.lifting) (numbering_at c.args.scope) c.args.item.now c.in-Is.left c.in-Is.right c.in-Is.pair c.in-Is.is c.requires.own).0

pub copied-requires-in-Is-2-clause-own : goal.copied-requires-in-Is-2-clause-own
copied-requires-in-Is-2-clause-own c =
    (is_own (nodes_under c.args.lifting) (numbering_at c.args.scope) c.args.item.now c.in-Is.left c.in-Is.right c.in-Is.pair c.in-Is.is c.requires.own).1

pub returns-in_ok-right-in-Is-clause-item : goal.returns-in_ok-right-in-Is-clause-item
returns-in_ok-right-in-Is-clause-item c =
    is_made (nodes_under c.args.lifting) (numbering_at c.args.scope) c.args.item.now (shapes_of c.copied-in-Is.new.nodes.items)
    (shapes_of c.copied-in-Is-2.new.nodes.items)
    c.in-Is.left c.in-Is.right c.in_ok-left-in-Is.left c.in_ok-right-in-Is.right c.copied-in-Is-2.ensures.kept c.in_ok-left-in-Is.ensures.term
    c.in_ok-right-in-Is.ensures.term c.in-Is.pair c.args.pairs c.in-Is.is

pub copied-requires-in-Compare-clause-own : goal.copied-requires-in-Compare-clause-own
copied-requires-in-Compare-clause-own c =
    (compare_own (nodes_under c.args.lifting) (numbering_at c.args.scope) c.args.item.now c.in-Compare.relation c.in-Compare.left c.in-Compare.right
    c.in-Compare.is c.requires.own).0

pub copied-requires-in-Compare-2-clause-own : goal.copied-requires-in-Compare-2-clause-own
copied-requires-in-Compare-2-clause-own c =
    (compare_own (nodes_under c.args.lifting) (numbering_at c.args.scope) c.args.item.now c.in-Compare.relation c.in-Compare.left c.in-Compare.right
    c.in-Compare.is c.requires.own).1

pub returns-in_ok-right-in-Compare-clause-item : goal.returns-in_ok-right-in-Compare-clause-item
returns-in_ok-right-in-Compare-clause-item c =
    compare_made (nodes_under c.args.lifting) (numbering_at c.args.scope) c.args.item.now (shapes_of c.copied-in-Compare.new.nodes.items)
    (shapes_of c.copied-in-Compare-2.new.nodes.items)
    c.in-Compare.left c.in-Compare.right c.in_ok-left-in-Compare.left c.in_ok-right-in-Compare.right c.copied-in-Compare-2.ensures.kept
    c.in_ok-left-in-Compare.ensures.term
    c.in_ok-right-in-Compare.ensures.term c.in-Compare.relation c.in-Compare.is
