use Rattle.std.proofs.Common.{◌≤◌, subst}
use Rattle.and_model.specs.Trees.{blank, query_agenda, weight}
use Rattle.and_laws.proofs.Reaching.{reached_within}
use Rattle.and_tree.specs.Counted.{tally}
use Rattle.and_tree.specs.Ended.{history_in}
use Rattle.and_teams.proofs.Closing.{of_tree, as_many, closed_whole}
use Rattle.and_teams.proofs.Whole.{whole_once, whole_found, whole_run}
use Rattle.and_teams.proofs.exploring.explore_root.Goals as goal

pub close-closed-requires-clause-tree : goal.close-closed-requires-clause-tree
close-closed-requires-clause-tree g c =
    of_tree g.N.Naming.program.program c.args.limit c.args.hands.teams c.in-Ok.tree c.in-Ok.ensures.about
    c.in_ok-worked.worked.items c.in_ok-worked.ensures.0 c.in_ok-worked.ensures.1 c.in_ok-found.found c.in_ok-found.passes c.in_ok-found.ensures

pub close-closed-requires-clause-all : goal.close-closed-requires-clause-all
close-closed-requires-clause-all g c =
    as_many g.N.Naming.program.program c.args.limit c.args.hands.teams c.in-Ok.tree c.in-Ok.ensures.about
    c.in_ok-worked.worked.items c.in_ok-worked.ensures.0 c.in_ok-worked.ensures.1 c.in_ok-found.found c.in_ok-found.passes c.in_ok-found.ensures

pub in_order-requires : goal.in_order-requires
in_order-requires g c =
    let history = history_in c.close-closed.result.last.value.views in
    let counts = tally c.close-closed.result.counts in
    let whole =
    closed_whole g.N.Naming.program.program c.args.limit c.args.hands.teams c.in-Ok.tree c.in-Ok.ensures.about
    c.in_ok-worked.worked.items c.in_ok-worked.ensures.0 c.in_ok-worked.ensures.1 c.in_ok-found.found c.in_ok-found.passes c.in_ok-found.ensures
    history counts c.requires.hands.0 c.close-closed.ensures in
    whole_once g.N.Naming.program.program c.args.limit c.args.hands.teams c.in_ok-found.found history counts whole

pub returns-clause-found : goal.returns-clause-found
returns-clause-found g c =
    let history = history_in c.close-closed.result.last.value.views in
    let counts = tally c.close-closed.result.counts in
    let whole =
    closed_whole g.N.Naming.program.program c.args.limit c.args.hands.teams c.in-Ok.tree c.in-Ok.ensures.about
    c.in_ok-worked.worked.items c.in_ok-worked.ensures.0 c.in_ok-worked.ensures.1 c.in_ok-found.found c.in_ok-found.passes c.in_ok-found.ensures
    history counts c.requires.hands.0 c.close-closed.ensures in
    let order = c.in_ok-ordered.ensures in
    whole_found g.N.Naming.program.program c.args.limit c.args.hands.teams c.in_ok-found.found history counts whole
    c.in_ok-ordered.ordered order.0 order.1

pub returns-clause-closed : goal.returns-clause-closed
returns-clause-closed g c =
    let history = history_in c.close-closed.result.last.value.views in
    let counts = tally c.close-closed.result.counts in
    let whole =
    closed_whole g.N.Naming.program.program c.args.limit c.args.hands.teams c.in-Ok.tree c.in-Ok.ensures.about
    c.in_ok-worked.worked.items c.in_ok-worked.ensures.0 c.in_ok-worked.ensures.1 c.in_ok-found.found c.in_ok-found.passes c.in_ok-found.ensures
    history counts c.requires.hands.0 c.close-closed.ensures in
    let order = c.in_ok-ordered.ensures in
    let P = g.N.Naming.program.program in
    let within = reached_within P c.args.branch.limit c.args.branch.key (blank (query_agenda P)) c.requires.root.reached in
    whole_run P c.args.limit c.args.hands.teams c.in_ok-found.found history counts whole c.in_ok-ordered.ordered order.0 order.1
    (subst (λ n. weight (blank {P = P} (query_agenda P)) ≤ n) c.requires.plain.1 within) c.requires.hands.0
