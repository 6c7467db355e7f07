use Rattle.std.proofs.Common.{◌≡◌, map, drop, string_bytes}
use Rattle.and_command.specs.Checking as specs
use Rattle.and_command.proofs.checking.check.Given as goal

-- the words that are left come from here to what all words come to from the beginning
abbrev pub invariant-checking : goal.invariant-checking
invariant-checking l =
    specs.check_from l.form l.initial.checked (map string_bytes l.words) ≡ specs.check_from l.form l.checked
    (map string_bytes (drop l.word-index l.words))
