use Rattle.std.proofs.Common.{refl, arith}
use Rattle.and_model.specs.Trees.{query_agenda}
use Rattle.and_laws.proofs.Order.{blank_weighs}
use Rattle.and_search_laws.proofs.Ending.{alone}
use Rattle.and_teams.proofs.exploring.explore_named.Goals as goal

pub explore_root-requires-clause-root : goal.explore_root-requires-clause-root
explore_root-requires-clause-root g c κs within = c.in-Ready.ensures.ready c.in-Ready.branch refl

pub explore_root-requires-clause-plain : goal.explore_root-requires-clause-plain
explore_root-requires-clause-plain g c κs within = let plain = c.in-Ready.ensures.plain c.in-Ready.branch refl in (plain.0, plain.1)

pub returns-in-TooHeavy-clause-found : goal.returns-in-TooHeavy-clause-found
returns-in-TooHeavy-clause-found g c =
    let cut = c.in-TooHeavy.cut in
    alone g.N.Naming.program c.args.limit _ cut c.new-found.ensures.entries refl (c.in-TooHeavy.ensures.heavy cut refl)
    (c.in-TooHeavy.ensures.cut cut refl)

pub returns-in-TooHeavy-clause-closed : goal.returns-in-TooHeavy-clause-closed
returns-in-TooHeavy-clause-closed g c =
    let P = g.N.Naming.program.program in
    omega (arith, c.in-TooHeavy.ensures.heavy c.in-TooHeavy.cut refl, blank_weighs P (query_agenda P))
