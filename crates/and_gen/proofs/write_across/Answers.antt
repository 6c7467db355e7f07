use Rattle.std.proofs.Common.{rules, ℕ, ◌+◌, sym, append-nil}
use Rattle.and_model.specs.Lines.{Bytes}
use Rattle.and_gen.specs.Layered as specs
use Rattle.and_gen.proofs.LineLemmas.{goes_on, at_the_end}
use Rattle.and_gen.proofs.write_across.Goals as goal

pub writing-init : goal.writing-init
writing-init c = sym (append-nil c.args.text.now)

pub writing-preserved : goal.writing-preserved
writing-preserved c =
    let line : ℕ → Bytes = λ at. specs.edge (specs.place c.args.rail at) (specs.place (c.args.rail + 1) at) in
    goes_on line c.writing.at c.args.text.now c.writing.text c.write_edge.new.text c.writing.invariant (search rules)

pub returns : goal.returns
returns c =
    let line : ℕ → Bytes = λ at. specs.edge (specs.place c.args.rail at) (specs.place (c.args.rail + 1) at) in
    at_the_end line c.writing.at (c.args.n + 1) c.args.text.now c.writing.text c.writing.invariant c.writing.auto.at-end
    c.writing-test.false
