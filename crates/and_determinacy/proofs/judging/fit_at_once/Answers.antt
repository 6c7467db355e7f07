use Rattle.std.proofs.Common.{◌≡◌, ◌≤◌, Ok, true, length, get_or, ap, sym, arith, rules}
use Rattle.std.proofs.lemmas.List.{get_or_default}
use Rattle.std.proofs.lemmas.List.Elements.{All-contains}
use Rattle.and_model.specs.Programs.{Of}
use Rattle.and_model.specs.declared.numbers.ClauseNo.{ClauseNo}
use Rattle.and_program.specs.Skeletons.{node_term}
use Rattle.and_guards.proofs.Nodes.{loaded_is}
use Rattle.and_determinacy.proofs.FreeCalls.{call_no_variable, unguarded_by, two_free, two_free_stay}
use Rattle.and_determinacy.proofs.judging.fit_at_once.Goals as goal

pub tell_free-requires-clause-falls : goal.tell_free-requires-clause-falls
tell_free-requires-clause-falls g c =
    let facts = loaded_is g.N.Naming.program c.args.loaded.now c.requires.program c.skeleton_is_of_the_program.ensures.skeleton
    c.skeleton_is_of_the_program.ensures.own_variables c.skeleton_is_of_the_program.ensures.few in
    facts.skeleton.0

pub tell_free-requires-clause-in_range : goal.tell_free-requires-clause-in_range
tell_free-requires-clause-in_range g c =
    let P = g.N.Naming.program in
    let facts = loaded_is P c.args.loaded.now c.requires.program c.skeleton_is_of_the_program.ensures.skeleton
    c.skeleton_is_of_the_program.ensures.own_variables c.skeleton_is_of_the_program.ensures.few in
    let clauses = c.args.clauses.now in
    let many : 2 ≤ length clauses = omega (arith, c.if-clauses-lt2.false) in
    let clause : ClauseNo = get_or clauses 0 (record { 0 = 0 }) in
    let of = All-contains (λ (d : ClauseNo). Of P.program (node_term P.skeleton.nodes c.args.node.0) d.0) clauses clause c.requires.served.of
    (0, omega (arith, many), sym (get_or_default clauses 0 (record { 0 = 0 }) clause (omega (arith, many)))) in
    (c.requires.node.reads.in_range, call_no_variable P facts.skeleton.0 c.args.goal.base c.args.node.0 clause.0 of)

pub returns-clause-narrowed : goal.returns-clause-narrowed
returns-clause-narrowed g c = λ is.
    let P = g.N.Naming.program in
    let facts = loaded_is P c.args.loaded.now c.requires.program c.skeleton_is_of_the_program.ensures.skeleton
    c.skeleton_is_of_the_program.ensures.own_variables c.skeleton_is_of_the_program.ensures.few in
    let clauses = c.args.clauses.now in
    let many : 2 ≤ length clauses = omega (arith, c.if-clauses-lt2.false) in
    let one : ClauseNo = get_or clauses 0 (record { 0 = 0 }) in
    let two : ClauseNo = get_or clauses 1 (record { 0 = 0 }) in
    let free : c.in_ok-are_free.are_free ≡ true = search rules in
    let (has, told, are) = c.in_ok-are_free.ensures (ap (λ b. Ok b) free) in
    let first = unguarded_by P c.args.loaded.now c.requires.program one c.guard-first.result c.guard-first.ensures c.if-first-gt0.false in
    let second = unguarded_by P c.args.loaded.now c.requires.program two c.guard-second.result c.guard-second.ensures c.if-second-gt0.false in
    two_free P facts.skeleton.0 c.args.cells.now c.len-words.ensures.sound c.requires.settled c.args.goal c.args.node.0 c.requires.node clauses
    c.requires.served one two (get_or_default clauses 0 (record { 0 = 0 }) one (omega (arith, many)))
    (get_or_default clauses 1 (record { 0 = 0 }) two (omega (arith, many))) many first second has are

pub returns-clause-told : goal.returns-clause-told
returns-clause-told g c = λ is.
    let P = g.N.Naming.program in
    let facts = loaded_is P c.args.loaded.now c.requires.program c.skeleton_is_of_the_program.ensures.skeleton
    c.skeleton_is_of_the_program.ensures.own_variables c.skeleton_is_of_the_program.ensures.few in
    let clauses = c.args.clauses.now in
    let many : 2 ≤ length clauses = omega (arith, c.if-clauses-lt2.false) in
    let one : ClauseNo = get_or clauses 0 (record { 0 = 0 }) in
    let two : ClauseNo = get_or clauses 1 (record { 0 = 0 }) in
    let free : c.in_ok-are_free.are_free ≡ true = search rules in
    let (has, told, are) = c.in_ok-are_free.ensures (ap (λ b. Ok b) free) in
    let first = unguarded_by P c.args.loaded.now c.requires.program one c.guard-first.result c.guard-first.ensures c.if-first-gt0.false in
    let second = unguarded_by P c.args.loaded.now c.requires.program two c.guard-second.result c.guard-second.ensures c.if-second-gt0.false in
    two_free_stay P facts.skeleton.0 c.args.cells.now c.len-words.ensures.sound c.requires.settled c.args.goal c.args.node.0 c.requires.node clauses
    c.requires.served one two (get_or_default clauses 0 (record { 0 = 0 }) one (omega (arith, many)))
    (get_or_default clauses 1 (record { 0 = 0 }) two (omega (arith, many))) many first second has are _ told
