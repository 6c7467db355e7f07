use Rattle.std.proofs.Common.{◌≡◌, drop}
use Rattle.and_drafts.specs.Variables.{number_among}
use Rattle.and_drafts.proofs.variables.find_first.Given as goal

abbrev pub invariant-loop-known : goal.invariant-loop-known
invariant-loop-known l = number_among l.name (drop l.known-index l.first) ≡ number_among l.name l.first
