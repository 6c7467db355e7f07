use Rattle.std.proofs.Common.{◌≡◌, ◌+◌, ◌<◌, ◌++◌, [], Bool, true, false, List, length, cond, codes, subst, arith}
use Rattle.and_model.specs.Lines.{Bytes}
use Rattle.and_cells.specs.Parts.{named}
use Rattle.and_print.proofs.Chaining.{query_cell}
use Rattle.and_print.proofs.Joining.{Left, left_rest}
use Rattle.and_print.proofs.Showing.{Shown, shown_from, IsStill, still_later, value_of, value_text, passed_over, shown_here, shown_end, some_written}
use Rattle.and_print.proofs.Showing.{none_written, shown_all}
use Rattle.and_print.proofs.printer.Printer.write_values.Goals.{then-not-begins_underscore+in_ok-append+in_ok-write_value, else-not-begins_underscore}
use Rattle.and_print.proofs.printer.Printer.write_values.Goals as goal

pub write_value-requires-clause-means : goal.write_value-requires-clause-means
write_value-requires-clause-means g c =
    let (s, gives) = c.requires.gives in (
      s [] c.loop-number.number,
      query_cell (named c.args.self.now.loaded.now) c.args.self.now.cells.now s c.loop-number.number c.from.result gives
          (let e = c.variables-number-end.ensures in let f = c.loop-number-test.true in omega arith) c.from.ensures,
    )

pub loop-number-preserved : goal.loop-number-preserved
loop-number-preserved g c =
    let P = named c.args.self.now.loaded.now in
    let written : List Bytes = P.program.query.written in
    let all = shown_from written 0 in
    let n = c.loop-number.number in
    let here = shown_from written n in
    let next = shown_from written (n + 1) in
    let name : Bytes = c.variable_name-name.result.now in
    let sep : Bytes = cond c.loop-number.is_first [] (codes ", ") in
    let below : n < length written = (let e = c.variables-number-end.ensures in let f = c.loop-number-test.true in omega arith) in
    elim c.if-not-begins_underscore.branch [
      | then-not-begins_underscore+in_ok-append+in_ok-write_value w ↦
          let opened = shown_here written n name below c.variable_name-name.ensures c.begins_underscore.result c.begins_underscore.ensures
          w.if-not-begins_underscore.true in
          let bytes : w.append.new.self ≡ c.loop-number.out ++ sep = rw w.separator.ensures at w.in_ok-append.ensures in
          rw (w.is_first-is, w.names-is, w.out-is) (record {
            still = still_later c.loop-number.is_first all here next (name, n) c.loop-number.invariant.still opened;
            left = λ s gives.
                let value = query_cell P c.args.self.now.cells.now s n w.from.result gives below w.from.ensures in
                left_rest (value_of P.program.names s) (value_text P.program.names s) [] all (
                  name,
                  n,
                ) next sep c.args.names.now c.loop-number.names w.write_value.new.names c.args.out.now c.loop-number.out w.append.new.self
                w.write_value.new.out
                (subst (λ (vs : List Shown). Left (value_of P.program.names s) (value_text P.program.names s) [] all vs sep c.args.names.now
                c.loop-number.names c.args.out.now c.loop-number.out) opened (c.loop-number.invariant.left s gives))
                bytes (w.in_ok-write_value.ensures (s [] n) value);
          })
      | else-not-begins_underscore w ↦
          let over = passed_over written n name below c.variable_name-name.ensures c.begins_underscore.result c.begins_underscore.ensures
          w.if-not-begins_underscore.false in
          rw (w.is_first-is, w.names-is, w.out-is) (record {
            still = subst (IsStill c.loop-number.is_first all) over c.loop-number.invariant.still;
            left = λ s gives.
                subst (λ (vs : List Shown). Left (value_of P.program.names s) (value_text P.program.names s) [] all vs sep c.args.names.now c.loop-number.names
                c.args.out.now c.loop-number.out) over (c.loop-number.invariant.left s gives);
          })
    ]

pub returns-in_ok-append-2 : goal.returns-in_ok-append-2
returns-in_ok-append-2 g c = λ s gives.
    let P = named c.args.self.now.loaded.now in
    let written : List Bytes = P.program.query.written in
    let n = c.loop-number.number in
    let none : shown_from written n ≡ [] = shown_end written n (let e = c.variables-number-end.ensures in let f = c.loop-number-test.false in omega arith) in
    let still : IsStill true (shown_from written 0) [] = subst (λ (b : Bool). IsStill b (shown_from written 0) []) c.if-is_first.true
    (subst (IsStill c.loop-number.is_first (shown_from written 0)) none c.loop-number.invariant.still) in
    rw (← shown_all written)
    (none_written P.program.names s (shown_from written 0) (cond c.loop-number.is_first [] (codes ", ")) c.args.names.now c.loop-number.names c.args.out.now
    c.loop-number.out c.append-then-is_first.new.self still
    (subst (λ (vs : List Shown). Left (value_of P.program.names s) (value_text P.program.names s) [] (shown_from written 0) vs
    (cond c.loop-number.is_first [] (codes ", ")) c.args.names.now c.loop-number.names c.args.out.now c.loop-number.out) none
    (c.loop-number.invariant.left s gives))
    c.in_ok-append-2.ensures)

pub returns-else-is_first : goal.returns-else-is_first
returns-else-is_first g c = λ s gives.
    let P = named c.args.self.now.loaded.now in
    let written : List Bytes = P.program.query.written in
    let n = c.loop-number.number in
    let none : shown_from written n ≡ [] = shown_end written n (let e = c.variables-number-end.ensures in let f = c.loop-number-test.false in omega arith) in
    let still : IsStill false (shown_from written 0) [] = subst (λ (b : Bool). IsStill b (shown_from written 0) []) c.if-is_first.false
    (subst (IsStill c.loop-number.is_first (shown_from written 0)) none c.loop-number.invariant.still) in
    rw (← shown_all written)
    (some_written P.program.names s (shown_from written 0) (cond c.loop-number.is_first [] (codes ", ")) c.args.names.now c.loop-number.names c.args.out.now
    c.loop-number.out still
    (subst (λ (vs : List Shown). Left (value_of P.program.names s) (value_text P.program.names s) [] (shown_from written 0) vs
    (cond c.loop-number.is_first [] (codes ", ")) c.args.names.now c.loop-number.names c.args.out.now c.loop-number.out) none
    (c.loop-number.invariant.left s gives)))
