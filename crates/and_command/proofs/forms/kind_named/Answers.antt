use Rattle.std.proofs.Common.{bytes_eq, sym, ap, ◌∙◌}
use Rattle.and_command.specs.Forms as specs
use Rattle.and_command.specs.declared.forms.Kind.{Kind}
use Rattle.and_command.specs.declared.forms.TheConstants.{KINDS}
use Rattle.and_command.proofs.CheckingLemmas.{find_skips}
use Rattle.and_command.proofs.forms.kind_named.Goals as goal

pub kinds-preserved : goal.kinds-preserved
kinds-preserved c =
    c.kinds.invariant
    ∙ find_skips (λ (kind : Kind). bytes_eq (specs.name_of kind) c.args.word.now) KINDS c.kinds.kind-index _ c.kinds-test.true
    (ap (λ name. bytes_eq name c.args.word.now) (sym c.name.ensures) ∙ sym c.eq.ensures ∙ c.if-eq.false)
