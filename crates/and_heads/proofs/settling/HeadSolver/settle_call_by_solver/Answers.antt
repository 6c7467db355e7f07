use Rattle.std.proofs.Common.{List, sym, subst}
use Rattle.and_cells.specs.Parts.{named}
use Rattle.and_cells.specs.Seen.{word_at}
use Rattle.and_unify.specs.declared.pairs.Pair.{Pair}
use Rattle.and_unify.specs.Pairs.{NameNoHalf}
use Rattle.and_unify.specs.Settling.{Settles, SetsPlaces}
use Rattle.and_heads.specs.Calls.{call_and_head}
use Rattle.and_unify.proofs.SettlingDone.{places_stay}
use Rattle.and_heads.proofs.Calls.{put_alone}
use Rattle.and_heads.proofs.settling.HeadSolver.settle_call_by_solver.Goals as goal

pub settle_by_solver-requires-clause-no_half : goal.settle_by_solver-requires-clause-no_half
settle_by_solver-requires-clause-no_half g c =
    let is = put_alone g.N.Naming.program (named c.args.loaded.now) c.args.call.0 c.args.head.0 c.args.base c.args.floor c.resolve-left.result
    c.resolve-right.result c.clear.new.self c.push.new.self c.requires.program c.resolve-left.ensures c.resolve-right.ensures c.clear.ensures
    c.in-Ok.ensures.ok in
    subst (NameNoHalf g.N.Naming.program (word_at c.args.cells.now)) (sym is) c.requires.no_half

pub returns-in-Ok-clause-settles : goal.returns-in-Ok-clause-settles
returns-in-Ok-clause-settles g c =
    let is = put_alone g.N.Naming.program (named c.args.loaded.now) c.args.call.0 c.args.head.0 c.args.base c.args.floor c.resolve-left.result
    c.resolve-right.result c.clear.new.self c.push.new.self c.requires.program c.resolve-left.ensures c.resolve-right.ensures c.clear.ensures
    c.in-Ok.ensures.ok in
    subst (λ (ps : List Pair). Settles g.N.Naming.program c.args.cells.now c.settle_by_solver.new.cells ps c.settle_by_solver.result) is
    c.settle_by_solver.ensures.settles

pub returns-in-Ok-clause-places : goal.returns-in-Ok-clause-places
returns-in-Ok-clause-places g c =
    let is = put_alone g.N.Naming.program (named c.args.loaded.now) c.args.call.0 c.args.head.0 c.args.base c.args.floor c.resolve-left.result
    c.resolve-right.result c.clear.new.self c.push.new.self c.requires.program c.resolve-left.ensures c.resolve-right.ensures c.clear.ensures
    c.in-Ok.ensures.ok in
    subst (λ (ps : List Pair). SetsPlaces g.N.Naming.program c.args.cells.now c.settle_by_solver.new.cells ps) is c.settle_by_solver.ensures.places

pub returns-in-Err-clause-places : goal.returns-in-Err-clause-places
returns-in-Err-clause-places g c =
    places_stay g.N.Naming.program c.args.cells.now (call_and_head g.N.Naming.program c.args.base c.args.call.0 c.args.floor c.args.head.0)
