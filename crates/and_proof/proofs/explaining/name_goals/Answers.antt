use Rattle.std.proofs.Common.{◌+◌, List, drop, refl, ap, sym, ◌∙◌, subst, arith}
use Rattle.and_model.specs.Lines.{first_seen, variables_along}
use Rattle.and_model.specs.Terms.{Term}
use Rattle.and_cells.specs.Parts.{named}
use Rattle.and_print.proofs.Reckoning.{goal_at, goals_end}
use Rattle.and_proof.proofs.NamedAlong.{NamesLeft, one_named}
use Rattle.and_proof.proofs.explaining.name_goals.Goals as goal

pub loop-place-init : goal.loop-place-init
loop-place-init g c = λ ts means. refl

pub name_goal-requires-clause-means : goal.name_goal-requires-clause-means
name_goal-requires-clause-means g c =
    let (ts, m) = c.requires.means in
    let at = goal_at (named c.args.loaded.now) c.args.cells.now c.args.waiting.now ts c.loop-place.place c.at.result.now c.at.ensures m in
    (at.term, at.means)

pub loop-place-preserved : goal.loop-place-preserved
loop-place-preserved g c = λ ts m.
    let at = goal_at (named c.args.loaded.now) c.args.cells.now c.args.waiting.now ts c.loop-place.place c.at.result.now c.at.ensures m in
    one_named ts (drop (c.loop-place.place + 1) ts) at.term c.args.names.now c.loop-place.names c.name_goal.new.names
    (subst (λ (us : List Term). NamesLeft ts us c.args.names.now c.loop-place.names) at.left (c.loop-place.invariant ts m))
    (c.in_ok-name_goal.ensures at.term at.means)

pub returns : goal.returns
returns g c = λ ts m.
    let over = goals_end (named c.args.loaded.now) c.args.cells.now c.args.waiting.now ts c.loop-place.place
    (let e = c.len-place-end.ensures in let f = c.loop-place-test.false in omega arith) m in
    sym (ap (λ (us : List Term). first_seen c.loop-place.names (variables_along us)) over) ∙ c.loop-place.invariant ts m
