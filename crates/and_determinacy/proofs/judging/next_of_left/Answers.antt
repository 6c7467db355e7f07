use Rattle.std.proofs.Common.{◌+◌, ◌≡◌, Ok, List, length, get_or, true≢false, refl, sym, ap, subst, arith, ◌∙◌}
use Rattle.std.specs.Prelude.{IfSome}
use Rattle.std.proofs.lemmas.List.{get_or_default}
use Rattle.and_model.specs.declared.numbers.ClauseNo.{ClauseNo}
use Rattle.and_model.specs.declared.reference.Ref.{Ref}
use Rattle.and_program.specs.Skeletons.{node_term}
use Rattle.and_clause_index.specs.Served.{NodeHas}
use Rattle.and_determinacy.specs.Searches.{IsNextOf, NoneFrom}
use Rattle.and_determinacy.specs.Watching.{StaysWhile}
use Rattle.and_determinacy.specs.declared.judging.Found.{Found}
use Rattle.and_determinacy.proofs.Searching.{next_found, next_joined, none_joined, none_more}
use Rattle.and_determinacy.proofs.judging.next_of_left.Goals as goal

pub returns-then-branch-clause-some : goal.returns-then-branch-clause-some
returns-then-branch-clause-some g c = λ found e.
    let Q = NodeHas g.N.Naming.program c.args.cells.now c.args.node.0 c.args.base in
    let clauses = c.args.clauses.now in
    let from = c.args.from in
    let clause : ClauseNo = get_or clauses from (record { 0 = 0 }) in
    let made : Found = record { clause = clause; behind = from + 1 } in
    let same : made ≡ found = cc in
    let tells = c.in_ok-fits_left.ensures.fits c.in_ok-fits_left.field-0 (refl {a = Ok c.in_ok-fits_left.field-0}) in
    let read = get_or_default clauses from (record { 0 = 0 }) clause c.requires.there in
    subst (IsNextOf Q clauses from) same
    (next_found Q clauses from from clause (omega arith) c.requires.there read (tells.0 c.if-branch.true) (λ k d after low there is. omega arith))

pub returns-then-branch-clause-stays : goal.returns-then-branch-clause-stays
returns-then-branch-clause-stays g c = λ found e.
    let P = g.N.Naming.program in
    let clause : ClauseNo = get_or c.args.clauses.now c.args.from (record { 0 = 0 }) in
    let made : Found = record { clause = clause; behind = c.args.from + 1 } in
    let same : made ≡ found = cc in
    subst (λ (f : Found). IfSome c.fits_left.new.self.rests (λ has.
    StaysWhile P c.args.cells.now c.args.base (node_term P.skeleton.nodes c.args.node.0) has f.clause.0)) same
    (c.in_ok-fits_left.ensures.stays (ap (λ b. Ok b) c.if-branch.true))

pub returns-clause-some : goal.returns-clause-some
returns-clause-some g c = λ found e.
    let HasIn = λ (r : List Ref). NodeHas g.N.Naming.program r c.args.node.0 c.args.base in
    let Q = HasIn c.args.cells.now in
    let clauses = c.args.clauses.now in
    let from = c.args.from in
    let clause : ClauseNo = get_or clauses from (record { 0 = 0 }) in
    let tells = c.in_ok-fits_left.ensures.fits c.in_ok-fits_left.field-0 (refl {a = Ok c.in_ok-fits_left.field-0}) in
    let fails : Q clause → ⊥ = λ q. true≢false (sym (tells.1 q) ∙ c.if-branch.false) in
    let read = get_or_default clauses from (record { 0 = 0 }) clause c.requires.there in
    let none = none_more Q clauses from from clause read fails (λ k d after low there is. omega arith) in
    next_joined Q clauses from (from + 1) none (omega arith) found
    (subst (λ r. IsNextOf (HasIn r) clauses (from + 1) found) c.fits_left.ensures.unchanged (c.next_candidate.ensures.some found e))

pub returns-clause-none : goal.returns-clause-none
returns-clause-none g c = λ e.
    let HasIn = λ (r : List Ref). NodeHas g.N.Naming.program r c.args.node.0 c.args.base in
    let Q = HasIn c.args.cells.now in
    let clauses = c.args.clauses.now in
    let from = c.args.from in
    let clause : ClauseNo = get_or clauses from (record { 0 = 0 }) in
    let tells = c.in_ok-fits_left.ensures.fits c.in_ok-fits_left.field-0 (refl {a = Ok c.in_ok-fits_left.field-0}) in
    let fails : Q clause → ⊥ = λ q. true≢false (sym (tells.1 q) ∙ c.if-branch.false) in
    let read = get_or_default clauses from (record { 0 = 0 }) clause c.requires.there in
    let none = none_more Q clauses from from clause read fails (λ k d after low there is. omega arith) in
    none_joined Q clauses from (from + 1) none (length clauses)
    (subst (λ r. NoneFrom (HasIn r) clauses (from + 1) (length clauses)) c.fits_left.ensures.unchanged (c.next_candidate.ensures.none e))

pub returns-clause-stays : goal.returns-clause-stays
returns-clause-stays g c = λ found e.
    let P = g.N.Naming.program in
    subst (λ r. IfSome c.next_candidate.new.trials.rests (λ has.
    StaysWhile P r c.args.base (node_term P.skeleton.nodes c.args.node.0) has found.clause.0)) c.fits_left.ensures.unchanged
    (c.next_candidate.ensures.stays found e)
