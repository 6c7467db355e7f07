use Rattle.std.proofs.Common.{◌+◌, ◌++◌, List, drop, append-nil, refl, ap, sym, ◌∙◌, subst}
use Rattle.and_model.specs.Programs.{Program}
use Rattle.and_program.specs.Loaded.{program_of}
use Rattle.and_cells.specs.Parts.{named}
use Rattle.and_proof.specs.Proofs.{Replaced, call_lines}
use Rattle.and_proof.proofs.NamedAlong.{LinesLeft, one_written, call_at, calls_end}
use Rattle.and_proof.proofs.explaining.write_calls.Goals as goal

pub loop-place-init : goal.loop-place-init
loop-place-init g c = λ rs read. refl

pub write_call-requires-clause-call : goal.write_call-requires-clause-call
write_call-requires-clause-call g c =
    let (rs, read) = c.requires.calls in
    let at = call_at (named c.args.loaded.now) c.args.cells.now c.args.taken.now rs c.loop-place.place _ c.loop-place-test.true read in
    (at.call, at.read)

pub loop-place-preserved : goal.loop-place-preserved
loop-place-preserved g c = λ rs read.
    let P : Program = program_of c.args.loaded.now in
    let at = call_at (named c.args.loaded.now) c.args.cells.now c.args.taken.now rs c.loop-place.place _ c.loop-place-test.true read in
    let written = c.in_ok-write_call.ensures at.call at.read in
    one_written P rs (drop (c.loop-place.place + 1) rs) at.call c.args.names.now c.loop-place.names c.write_call.new.names c.args.out.now
    c.loop-place.out c.write_call.new.out
    (subst (λ (l : List Replaced). LinesLeft P rs l c.args.names.now c.loop-place.names c.args.out.now c.loop-place.out) at.left
    (c.loop-place.invariant rs read)) written.0 written.1

pub returns : goal.returns
returns g c = λ rs read.
    let P : Program = program_of c.args.loaded.now in
    let over = calls_end (named c.args.loaded.now) c.args.cells.now c.args.taken.now rs c.loop-place.place c.loop-place-test.false read in
    sym (append-nil c.loop-place.out)
    ∙ sym (ap (λ (l : List Replaced). c.loop-place.out ++ call_lines P c.loop-place.names l) over) ∙ c.loop-place.invariant rs read
