use Rattle.std.proofs.Common.{length, Ok, ap, refl, subst, sym}
use Rattle.std.specs.Prelude.{IfOk, IfSome}
use Rattle.and_program.specs.Skeletons.{node_term}
use Rattle.and_clause_index.specs.Looks.{IsLook}
use Rattle.and_clause_index.specs.Served.{NodeHas}
use Rattle.and_determinacy.specs.Searches.{IsCount, IsNextOf, NoneFrom}
use Rattle.and_determinacy.specs.Watching.{StaysWhile}
use Rattle.and_determinacy.proofs.Searching.{none_seen, of_printed}
use Rattle.and_determinacy.proofs.judging.judge_all.Goals as goal

pub returns-in-None-clause-count : goal.returns-in-None-clause-count
returns-in-None-clause-count g c = c.in_ok-next_candidate.ensures.none (ap (λ x. Ok x) c.in-None.is)

pub next_left-requires : goal.next_left-requires
next_left-requires g c = of_printed g.N.Naming.program c.args.table.now c.requires.table c.args.node.0 c.args.clauses.now c.requires.clauses

pub returns-in-None-next_left-clause-count : goal.returns-in-None-next_left-clause-count
returns-in-None-next_left-clause-count g c =
    let P = g.N.Naming.program in
    let row = c.args.cells.now in
    let node = c.args.node.0 in
    let clauses = c.args.clauses.now in
    let one = c.in-Some.one in
    let is_look = subst (IsLook P row node c.args.base) (sym c.next_candidate.ensures.look) c.requires.look in (
      one,
      refl,
      c.in_ok-next_candidate.ensures.some one (ap (λ x. Ok x) c.in-Some.is),
      none_seen P c.args.table.now c.requires.table row node c.args.base c.next_candidate.new.trials.look is_look clauses one.behind (length clauses)
          (c.next_left.ensures.none c.in-None-next_left.is),
    )

pub judge_besides-requires-clause-one : goal.judge_besides-requires-clause-one
judge_besides-requires-clause-one g c =
    subst (λ r. IsNextOf (NodeHas g.N.Naming.program r c.args.node.0 c.args.base) c.args.clauses.now 0 c.in-Some.one)
    (sym c.next_candidate.ensures.unchanged) (c.in_ok-next_candidate.ensures.some c.in-Some.one (ap (λ x. Ok x) c.in-Some.is))

pub judge_besides-requires-clause-stays : goal.judge_besides-requires-clause-stays
judge_besides-requires-clause-stays g c =
    let P = g.N.Naming.program in
    subst (λ r. IfSome c.next_candidate.new.trials.rests (λ has.
    StaysWhile P r c.args.base (node_term P.skeleton.nodes c.args.node.0) has c.in-Some.one.clause.0))
    (sym c.next_candidate.ensures.unchanged) (c.in_ok-next_candidate.ensures.stays c.in-Some.one (ap (λ x. Ok x) c.in-Some.is))

pub judge_besides-requires-clause-behind : goal.judge_besides-requires-clause-behind
judge_besides-requires-clause-behind g c = c.next_left.ensures.after c.in-Some-next_left.next c.in-Some-next_left.is

pub judge_besides-requires-clause-there : goal.judge_besides-requires-clause-there
judge_besides-requires-clause-there g c = c.next_left.ensures.there c.in-Some-next_left.next c.in-Some-next_left.is

pub judge_besides-requires-clause-between : goal.judge_besides-requires-clause-between
judge_besides-requires-clause-between g c =
    let P = g.N.Naming.program in
    let row = c.args.cells.now in
    let node = c.args.node.0 in
    let clauses = c.args.clauses.now in
    let one = c.in-Some.one in
    let next = c.in-Some-next_left.next in
    let is_look = subst (IsLook P row node c.args.base) (sym c.next_candidate.ensures.look) c.requires.look in
    subst (λ r. NoneFrom (NodeHas P r node c.args.base) clauses one.behind next) (sym c.next_candidate.ensures.unchanged)
    (none_seen P c.args.table.now c.requires.table row node c.args.base c.next_candidate.new.trials.look is_look clauses one.behind next
    (c.next_left.ensures.first next c.in-Some-next_left.is))

pub returns-in-Some-next_left-clause-count : goal.returns-in-Some-next_left-clause-count
returns-in-Some-next_left-clause-count g c =
    subst (λ r. IfOk c.judge_besides.result (IsCount (NodeHas g.N.Naming.program r c.args.node.0 c.args.base) c.args.clauses.now 0))
    c.next_candidate.ensures.unchanged c.judge_besides.ensures.count
