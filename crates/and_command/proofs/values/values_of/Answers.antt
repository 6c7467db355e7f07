use Rattle.std.proofs.Common.{◌≡◌, true, false, map, string_bytes, rules, ap, sym, ◌∙◌}
use Rattle.clap.specs.Words.{app_of, takes}
use Rattle.clap.specs.declared.error.kind.ErrorKind.TheVariants.{OutOfMemory}
use Rattle.and_command.proofs.MatchLemmas.{values_are, taken}
use Rattle.and_command.proofs.values.values_of.Goals as goal

pub returns-in-Ok : goal.returns-in-Ok
returns-in-Ok c = λ kind g gives.
    c.given_in.ensures g (values_are kind g _ _ c.in-Ok.matches gives c.in_ok-reader.ensures (search rules))

-- a parse of such words fails only for want of memory
pub prove-unreachable-requires : goal.prove-unreachable-requires
prove-unreachable-requires c =
    let gives = c.requires in
    let words = map string_bytes c.args.words.now in
    let passes : takes (app_of c.in_ok-reader.reader) words ≡ true =
    ap (λ a. takes a words) c.in_ok-reader.ensures ∙ taken gives.0 gives.1 words gives.2 in
    let memory : c.kind.result ≡ OutOfMemory = c.kind.ensures ∙ c.in-Err.ensures.passes passes in
    let same = rw memory at c.eq-is_memory.ensures in
    let bad : false ≡ true = sym c.if-prove.true ∙ same in
    absurd (cc)
