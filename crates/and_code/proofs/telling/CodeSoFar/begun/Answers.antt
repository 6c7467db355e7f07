use Rattle.std.proofs.Common.{[], refl}
use Rattle.and_program.specs.Loaded.{program_of}
use Rattle.and_code.proofs.Turns.{begun, begun_at_calls}
use Rattle.and_code.proofs.telling.CodeSoFar.begun.Goals as goal

pub returns : goal.returns
returns c =
    let P = program_of c.args.loaded.now in
    let visits = c.new.result.items in
    let next = c.at_call.result in
    record {
      calls = begun_at_calls P visits next c.new.ensures.items c.at_call.ensures.calls;
      goes_on = begun P [] visits next [] c.new.ensures.items refl c.at_call.ensures.leads;
    }
