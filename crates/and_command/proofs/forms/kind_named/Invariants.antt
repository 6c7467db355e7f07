use Rattle.std.proofs.Common.{◌≡◌, drop, find, bytes_eq}
use Rattle.and_command.specs.Forms as specs
use Rattle.and_command.specs.declared.forms.Kind.{Kind}
use Rattle.and_command.specs.declared.forms.TheConstants.{KINDS}
use Rattle.and_command.proofs.forms.kind_named.Given as goal

-- the name is among those that are left, or nowhere
abbrev pub invariant-kinds : goal.invariant-kinds
invariant-kinds l =
    specs.kind_named l.word ≡ find (λ (kind : Kind). bytes_eq (specs.name_of kind) l.word) (drop l.kind-index KINDS)
