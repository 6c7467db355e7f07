use Rattle.std.proofs.Common.{List, ◌∙◌, ap, eqb, map}
use Rattle.std.specs.List.{list_any}
use Rattle.and_model.specs.declared.numbers.ClauseNo.{ClauseNo}
use Rattle.and_program.specs.Loaded.{program_of}
use Rattle.and_program.specs.Nodes.{shapes_of, entry_clause}
use Rattle.and_program.specs.declared.predicates.Predicate.{Predicate}
use Rattle.and_program.proofs.LoadedLemmas.{clauses_with-key}
use Rattle.and_program.proofs.MemberLemmas.{members}
use Rattle.and_program.proofs.loaded.Loaded.clauses_of.Goals as goal

pub returns-clause-clauses : goal.returns-clause-clauses
returns-clause-clauses c =
    let l = c.args.self.now in
    let p : Predicate = record { name = c.args.name; arity = c.args.arity } in
    c.clauses_at.ensures ∙ l.found p ∙ clauses_with-key p 1 (map (entry_clause (shapes_of l.nodes.items)) l.clauses.items)

pub returns-clause-members : goal.returns-clause-members
returns-clause-members c = λ ts k same.
    let l = c.args.self.now in
    let p : Predicate = record { name = c.args.name; arity = c.args.arity } in
    let numbers = c.clauses_at.ensures ∙ l.found p ∙ clauses_with-key p 1 (map (entry_clause (shapes_of l.nodes.items)) l.clauses.items) in
    ap (λ (xs : List ClauseNo). list_any (λ m. eqb m.0 k) xs) numbers ∙ members (program_of l) c.args.name.0 c.args.arity k ts same
