use Rattle.std.proofs.Common.{ℕ, ◌+◌, ◌≡◌, ◌<◌, Ok, List, Option, length, get_or, true≢false, refl, sym, ap, subst, arith, ◌∙◌}
use Rattle.std.specs.Prelude.{IfSome}
use Rattle.std.proofs.lemmas.List.{get_or_default}
use Rattle.and_model.specs.declared.numbers.ClauseNo.{ClauseNo}
use Rattle.and_model.specs.declared.reference.Ref.{Ref}
use Rattle.and_program.specs.Skeletons.{node_term}
use Rattle.and_clause_index.specs.Served.{NodeHas}
use Rattle.and_determinacy.specs.Searches.{IsNextOf}
use Rattle.and_determinacy.specs.Watching.{HadBefore, StaysWhile}
use Rattle.and_determinacy.specs.declared.judging.Found.{Found}
use Rattle.and_determinacy.proofs.Searching.{next_found, none_more}
use Rattle.and_determinacy.proofs.judging.next_candidate.Goals as goal

pub returns-then-branch-clause-some : goal.returns-then-branch-clause-some
returns-then-branch-clause-some g c = λ found e.
    let HasIn = λ (r : List Ref). NodeHas g.N.Naming.program r c.args.node.0 c.args.base in
    let Q = HasIn c.args.cells.now in
    let clauses = c.args.clauses.now in
    let place = c.loop-place.place in
    let clause : ClauseNo = get_or clauses place (record { 0 = 0 }) in
    let made : Found = record { clause = clause; behind = place + 1 } in
    let same : made ≡ found = cc in
    let low : place < length clauses = omega arith in
    let tells = c.in_ok-fits.ensures.fits c.in_ok-fits.field-0 (refl {a = Ok c.in_ok-fits.field-0}) in
    let is : Q clause = subst (λ r. HasIn r clause) c.loop-place.invariant.same (tells.0 c.if-branch.true) in
    let read = get_or_default clauses place (record { 0 = 0 }) clause low in
    subst (IsNextOf Q clauses c.args.from) same
    (next_found Q clauses c.args.from place clause c.loop-place.auto.place low read is c.loop-place.invariant.none)

pub returns-then-branch-clause-before : goal.returns-then-branch-clause-before
returns-then-branch-clause-before g c = λ found e.
    let told = c.in_ok-fits.ensures.before (ap (λ b. Ok b) c.if-branch.true) in
    subst (λ (o : Option (List ℕ)). IfSome c.fits.new.self.rests (HadBefore o)) c.loop-place.invariant.rests told

pub returns-then-branch-clause-stays : goal.returns-then-branch-clause-stays
returns-then-branch-clause-stays g c = λ found e.
    let P = g.N.Naming.program in
    let place = c.loop-place.place in
    let clause : ClauseNo = get_or c.args.clauses.now place (record { 0 = 0 }) in
    let made : Found = record { clause = clause; behind = place + 1 } in
    let same : made ≡ found = cc in
    let told = c.in_ok-fits.ensures.stays (ap (λ b. Ok b) c.if-branch.true) in
    subst (λ (f : Found). IfSome c.fits.new.self.rests (λ has.
    StaysWhile P c.args.cells.now c.args.base (node_term P.skeleton.nodes c.args.node.0) has f.clause.0)) same
    (subst (λ (r : List Ref). IfSome c.fits.new.self.rests (λ has.
    StaysWhile P r c.args.base (node_term P.skeleton.nodes c.args.node.0) has clause.0)) c.loop-place.invariant.same told)

pub loop-place-preserved : goal.loop-place-preserved
loop-place-preserved g c =
    let HasIn = λ (r : List Ref). NodeHas g.N.Naming.program r c.args.node.0 c.args.base in
    let Q = HasIn c.args.cells.now in
    let clauses = c.args.clauses.now in
    let place = c.loop-place.place in
    let clause : ClauseNo = get_or clauses place (record { 0 = 0 }) in
    let low : place < length clauses = omega arith in
    let tells = c.in_ok-fits.ensures.fits c.in_ok-fits.field-0 (refl {a = Ok c.in_ok-fits.field-0}) in
    let fails : Q clause → ⊥ = λ q.
    true≢false (sym (tells.1 (subst (λ r. HasIn r clause) (sym c.loop-place.invariant.same) q)) ∙ c.if-branch.false) in
    let read = get_or_default clauses place (record { 0 = 0 }) clause low in
    record {
      same = c.fits.ensures.unchanged ∙ c.loop-place.invariant.same;
      look = c.fits.ensures.look ∙ c.loop-place.invariant.look;
      rests = c.in_ok-fits.ensures.same (ap (λ b. Ok b) c.if-branch.false) ∙ c.loop-place.invariant.rests;
      none = none_more Q clauses c.args.from place clause read fails c.loop-place.invariant.none;
    }
