use Rattle.std.proofs.Common.{sym, ◌∙◌}
use Rattle.and_cells.specs.Parts.{named}
use Rattle.and_heads.proofs.Calls.{shown_part}
use Rattle.and_heads.proofs.entering.part_of.Goals as goal

pub returns-in-Compound-kind : goal.returns-in-Compound-kind
returns-in-Compound-kind c =
    shown_part (named c.args.loaded.now) c.args.call c.args.head c.args.base c.args.floor c.in-Compound.name c.in-Compound-kind.called
    c.in-Compound.count c.in-Compound-kind.many c.requires.call c.requires.head (sym c.in-Compound.is ∙ c.kind.ensures.shape)
    (sym c.in-Compound-kind.is ∙ c.kind-in-Compound.ensures.shape) c.if-called-name.true c.if-many-count.true
