use Rattle.std.proofs.Common.{ℕ, ◌≡◌, ◌≢◌, ◌<◌, List, length, get_or, Some, sym, ap, ◌∙◌, subst, arith}
use Rattle.std.specs.Prelude.{slice_get}
use Rattle.std.proofs.lemmas.Bool.Decides.{nat_tests}
use Rattle.and_model.specs.Programs.{clause_at}
use Rattle.and_model.specs.declared.numbers.ClauseNo.{ClauseNo}
use Rattle.and_program.specs.Loaded.{program_of, skeleton_of}
use Rattle.and_program.specs.Skeletons.{node_term}
use Rattle.and_clause_index.specs.Tables.{clauses_for, IsEntryFor}
use Rattle.and_clause_index.proofs.Entries.{first_clauses, longer_by_one, last_is, firsts_of_all}
use Rattle.and_clause_index.proofs.Additions.{all_there}
use Rattle.and_clause_index.proofs.table.predicate_number.Goals as goal

pub returns-then-known-ne0-clause-entry : goal.returns-then-known-ne0-clause-entry
returns-then-known-ne0-clause-entry c =
    let P = program_of c.args.loaded.now in
    let t = node_term (skeleton_of c.args.loaded.now).nodes c.args.node.0 in
    let ks = c.clauses_of-clauses.result.now in
    let clause : ClauseNo = get_or ks 0 (record { 0 = 0 }) in
    let firsts = c.args.firsts.now.items in
    let predicates = c.args.predicates.now.items in
    let some : 0 < length ks = grind (arith, nat_tests) in
    let read : c.number_at-known.result ≡ get_or firsts clause.0 0 =
    c.number_at-known.ensures ∙ ap (λ (xs : List ℕ). get_or xs clause.0 0) c.deref.ensures.value in
    let set : get_or firsts clause.0 0 ≢ 0 = λ e. c.if-known-ne0.true (read ∙ e) in
    let same : clauses_for P (clause_at P clause.0).head ≡ clauses_for P t =
    first_clauses P t ks c.clauses_of-clauses.ensures some ∙ c.clauses_of-clauses.ensures in
    subst (λ cs. IsEntryFor P cs (slice_get predicates c.number_at-known.result)) same
    (subst (λ n. IsEntryFor P (clauses_for P (clause_at P clause.0).head) (slice_get predicates n)) (sym read)
    (c.requires.firsts.entries clause.0 set))

pub returns-clause-firsts : goal.returns-clause-firsts
returns-clause-firsts c =
    let P = program_of c.args.loaded.now in
    let t = node_term (skeleton_of c.args.loaded.now).nodes c.args.node.0 in
    let ks = c.clauses_of-clauses.result.now in
    let clause : ClauseNo = get_or ks 0 (record { 0 = 0 }) in
    let some : 0 < length ks = grind (arith, nat_tests) in
    let entry = c.in_ok-entry.entry in
    let is : IsEntryFor P (clauses_for P (clause_at P clause.0).head) (Some entry) =
    subst (λ cs. IsEntryFor P cs (Some entry)) (sym (first_clauses P t ks c.clauses_of-clauses.ensures some)) c.in_ok-entry.ensures in
    firsts_of_all P c.args.predicates.now.items c.push.new.self.items entry c.in_ok-push.ensures.items c.args.firsts.now.items
    c.put_number.new.numbers.items clause.0 c.len-number.result c.in_ok-put_number.ensures.here c.in_ok-put_number.ensures.others
    (omega (arith, c.len-number.ensures, c.args.predicates.now.ok.0)) is c.requires.firsts

pub returns-clause-longer : goal.returns-clause-longer
returns-clause-longer c =
    longer_by_one (program_of c.args.loaded.now) c.args.predicates.now.items c.push.new.self.items c.in_ok-entry.entry
    c.in_ok-push.ensures.items

pub returns-clause-entry : goal.returns-clause-entry
returns-clause-entry c =
    let P = program_of c.args.loaded.now in
    let t = node_term (skeleton_of c.args.loaded.now).nodes c.args.node.0 in
    let entry = c.in_ok-entry.entry in
    let is : IsEntryFor P (clauses_for P t) (Some entry) =
    subst (λ cs. IsEntryFor P cs (Some entry)) c.clauses_of-clauses.ensures c.in_ok-entry.ensures in
    subst (IsEntryFor P (clauses_for P t))
    (sym (last_is P c.args.predicates.now.items c.push.new.self.items entry c.in_ok-push.ensures.items c.len-number.result
    (omega (arith, c.len-number.ensures, c.args.predicates.now.ok.0)))) is

pub entry_of-requires-clause-clauses : goal.entry_of-requires-clause-clauses
entry_of-requires-clause-clauses c =
    all_there (program_of c.args.loaded.now) (node_term (skeleton_of c.args.loaded.now).nodes c.args.node.0) c.clauses_of-clauses.result.now
    c.clauses_of-clauses.ensures
