use Rattle.std.proofs.Common.{◌<◌, length, subst}
use Rattle.and_cells.specs.Ranges.{NamedProgram}
use Rattle.and_cells.specs.Parts.{named}
use Rattle.and_heads.proofs.Calls.{put_alone}
use Rattle.and_reduction.proofs.asking.ask_call.Goals as goal

pub resolve-call-requires-clause-there : goal.resolve-call-requires-clause-there
resolve-call-requires-clause-there g c =
    subst (λ (Q : NamedProgram). c.args.call.0 < length Q.skeleton.nodes) c.requires.program c.requires.call.there

pub resolve-head-requires-clause-there : goal.resolve-head-requires-clause-there
resolve-head-requires-clause-there g c =
    subst (λ (Q : NamedProgram). c.args.head.0 < length Q.skeleton.nodes) c.requires.program c.requires.head.there

pub returns : goal.returns
returns g c =
    put_alone g.N.Naming.program (named c.args.loaded.now) c.args.call.0 c.args.head.0 c.args.base c.args.floor c.resolve-call.result
    c.resolve-head.result c.clear.new.self c.push.new.self c.requires.program c.resolve-call.ensures c.resolve-head.ensures c.clear.ensures
    c.in_ok-push.ensures.ok
