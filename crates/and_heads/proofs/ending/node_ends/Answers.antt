use Rattle.std.proofs.Common.{sym, ◌∙◌}
use Rattle.and_cells.specs.Parts.{named}
use Rattle.and_heads.proofs.Constants.{bare_ends}
use Rattle.and_heads.proofs.ending.node_ends.Goals as goal

pub returns-then-argument_count-eq0 : goal.returns-then-argument_count-eq0
returns-then-argument_count-eq0 c = λ _ row floor base.
    bare_ends (named c.args.loaded.now) c.args.node row floor base (sym c.argument_count.ensures ∙ c.if-argument_count-eq0.true)
