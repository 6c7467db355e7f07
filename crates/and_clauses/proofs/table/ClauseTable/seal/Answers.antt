use Rattle.std.proofs.Common.{map}
use Rattle.and_program.specs.Nodes.{shapes_of, entry_clause}
use Rattle.and_program.specs.Loaded.{program_of}
use Rattle.and_clauses.proofs.Sealed.{Finds-same, call_narrow, refused, sealed}
use Rattle.and_clauses.proofs.table.ClauseTable.seal.Goals as goal

pub unknown_fault-requires : goal.unknown_fault-requires
unknown_fault-requires c =
    let t = c.args.self in
    let found = Finds-same c.in_ok-numbers.numbers c.deref.result.now t.lists.nodes.items c.deref-2.result.now t.lists.clauses.items c.deref.ensures.value
    c.deref-2.ensures.value c.in_ok-numbers.ensures in
    call_narrow t c.in-Some.query c.in-Some.is c.deref-3.result.now c.in-Some-first_unknown_call.call c.deref-3.ensures.value
    (c.in-Some-first_unknown_call.ensures (map (entry_clause (shapes_of t.lists.nodes.items)) t.lists.clauses.items) found)

pub returns-in-Some-first_unknown_call-clause-refused :
    goal.returns-in-Some-first_unknown_call-clause-refused
returns-in-Some-first_unknown_call-clause-refused c =
    let t = c.args.self in
    let found = Finds-same c.in_ok-numbers.numbers c.deref.result.now t.lists.nodes.items c.deref-2.result.now t.lists.clauses.items c.deref.ensures.value
    c.deref-2.ensures.value c.in_ok-numbers.ensures in
    refused t c.in-Some.query c.in-Some.is c.deref-3.result.now c.in-Some-first_unknown_call.call
    c.in_ok-unknown_fault-in-Some-first_unknown_call.field-0 c.deref-3.ensures.value
    (c.in-Some-first_unknown_call.ensures (map (entry_clause (shapes_of t.lists.nodes.items)) t.lists.clauses.items) found)
    c.in_ok-unknown_fault-in-Some-first_unknown_call.ensures

pub returns-clause-sealed : goal.returns-clause-sealed
returns-clause-sealed c =
    let t = c.args.self in
    let found = Finds-same c.in_ok-numbers.numbers c.deref.result.now t.lists.nodes.items c.deref-2.result.now t.lists.clauses.items c.deref.ensures.value
    c.deref-2.ensures.value c.in_ok-numbers.ensures in
    sealed t c.in-Some.query c.in-Some.is c.deref-3.result.now (program_of c.new.result) c.deref-3.ensures.value
    (c.in-None.ensures (map (entry_clause (shapes_of t.lists.nodes.items)) t.lists.clauses.items) found) c.new.ensures
