use Rattle.std.proofs.Common.{◌++◌, [], ◌∷◌, length, length-append, ap, arith}
use Rattle.and_model.specs.Terms.{variables_of, variables_in}
use Rattle.and_model.specs.Lines.{shown, shown_rest}
use Rattle.and_cells.specs.Parts.{named}
use Rattle.and_print.proofs.Doing.{from_all, from_begun, from_closed, from_on, longer_onward}
use Rattle.and_print.proofs.printer.Printer.write_from.Goals as goal

pub writing-init : goal.writing-init
writing-init g c = λ t m ts n.
    let owed = from_all (named c.args.self.now.loaded.now) c.args.self.now.cells.now t ts c.args.names.now c.args.out.now in
    (t, ts, m, n, owed, omega arith)

pub write_simple-requires-clause-means : goal.write_simple-requires-clause-means
write_simple-requires-clause-means g c =
    let (t, m) = c.requires.first in
    let (ts, n) = c.requires.rest in
    let (u, us, q, r, o, l) = c.writing.invariant t m ts n in
    (u, q)

pub split_first-requires : goal.split_first-requires
split_first-requires g c =
    let (t, m) = c.requires.first in
    let (ts, n) = c.requires.rest in
    let (u, us, q, r, o, l) = c.writing.invariant t m ts n in
    (us, r)

pub returns-in-Some : goal.returns-in-Some
returns-in-Some g c = λ t m ts n.
    let P = named c.args.self.now.loaded.now in
    let row = c.args.self.now.cells.now in
    let (u, us, q, r, o, l) = c.writing.invariant t m ts n in
    let told = c.in_ok-structure.ensures u q in
    let k = rw c.in-Some.is at told in
    from_begun P row u us (variables_of t ++ variables_in ts) (λ vs. shown P.program.names vs t ++ shown_rest P.program.names vs ts) c.args.names.now
    c.writing.names c.args.out.now c.writing.out o l c.write_simple.new.names c.write_simple.new.out c.in-Some.structure c.writing.behind k.0 r (k.1, k.2)

pub returns-in_default-split_first : goal.returns-in_default-split_first
returns-in_default-split_first g c = λ t m ts n.
    let P = named c.args.self.now.loaded.now in
    let row = c.args.self.now.cells.now in
    let (u, us, q, r, o, l) = c.writing.invariant t m ts n in
    let told = c.in_ok-structure.ensures u q in
    let w = rw c.in_default.is at told in
    from_closed P row u us (variables_of t ++ variables_in ts) (λ vs. shown P.program.names vs t ++ shown_rest P.program.names vs ts) c.args.names.now
    c.writing.names c.args.out.now c.writing.out o l c.write_simple.new.names c.write_simple.new.out w c.append.new.self (c.in_default-split_first.ensures us r)
    c.in_ok-append.ensures

pub writing-smaller : goal.writing-smaller
writing-smaller g c =
    let P = named c.args.self.now.loaded.now in
    let row = c.args.self.now.cells.now in
    let (t, m) = c.requires.first in
    let (ts, n) = c.requires.rest in
    let (u, us, q, r, o, l) = c.writing.invariant t m ts n in
    let told = c.in_ok-structure.ensures u q in
    let w = rw c.in_default.is at told in
    let longer = longer_onward P row u us (variables_of t ++ variables_in ts)
    (λ vs. shown P.program.names vs t ++ shown_rest P.program.names vs ts) c.args.names.now
    c.writing.names c.args.out.now c.writing.out o l c.write_simple.new.names c.write_simple.new.out w in
    let one = ap length c.in_ok-append-2.ensures in
    let e = c.len-length.ensures in
    omega (arith, longer, one, length-append c.write_simple.new.out (44 ∷ []))

pub writing-preserved : goal.writing-preserved
writing-preserved g c = λ t m ts n.
    let P = named c.args.self.now.loaded.now in
    let row = c.args.self.now.cells.now in
    let (u, us, q, r, o, l) = c.writing.invariant t m ts n in
    let told = c.in_ok-structure.ensures u q in
    let w = rw c.in_default.is at told in
    let s = c.in-Some-split_first.ensures us r in
    let longer = longer_onward P row u us (variables_of t ++ variables_in ts)
    (λ vs. shown P.program.names vs t ++ shown_rest P.program.names vs ts) c.args.names.now
    c.writing.names c.args.out.now c.writing.out o l c.write_simple.new.names c.write_simple.new.out w in
    let one = ap length c.in_ok-append-2.ensures in
    let on = from_on P row u us (variables_of t ++ variables_in ts) (λ vs. shown P.program.names vs t ++ shown_rest P.program.names vs ts) c.args.names.now
    c.writing.names c.args.out.now c.writing.out o l c.write_simple.new.names c.write_simple.new.out w c.in-Some-split_first.next c.in-Some-split_first.others s
    c.append-in-writing.new.self c.in_ok-append-2.ensures in
    (s.term, s.terms, s.first_means, s.rest_means, on, omega (arith, l, longer, one, length-append c.write_simple.new.out (44 ∷ [])))
