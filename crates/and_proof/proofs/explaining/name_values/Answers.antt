use Rattle.std.proofs.Common.{◌<◌, ◌≤◌, List, length, refl, arith}
use Rattle.and_model.specs.Lines.{Bytes}
use Rattle.and_program.specs.Loaded.{program_of}
use Rattle.and_proof.proofs.NamedAlong.{value_named, values_named}
use Rattle.and_proof.proofs.explaining.name_values.Goals as goal

pub loop-number-init : goal.loop-number-init
loop-number-init g c = λ s gives. refl

pub name_value-requires-clause-number : goal.name_value-requires-clause-number
name_value-requires-clause-number g c = let e = c.variables-number-end.ensures in let f = c.loop-number-test.true in omega (arith, e, f)

pub loop-number-preserved : goal.loop-number-preserved
loop-number-preserved g c = λ s gives.
    let written : List Bytes = (program_of c.args.loaded.now).query.written in
    let below : c.loop-number.number < length written = (let e = c.variables-number-end.ensures in let f = c.loop-number-test.true in omega arith) in
    value_named written s c.loop-number.number c.args.names.now c.loop-number.names c.name_value.new.names below (c.loop-number.invariant s gives)
    (c.in_ok-name_value.ensures s gives)

pub returns : goal.returns
returns g c = λ s gives.
    let written : List Bytes = (program_of c.args.loaded.now).query.written in
    let past : length written ≤ c.loop-number.number = (let e = c.variables-number-end.ensures in let f = c.loop-number-test.false in omega arith) in
    values_named written s c.loop-number.number c.args.names.now c.loop-number.names past (c.loop-number.invariant s gives)
