use Rattle.std.proofs.Common.{◌<◌, length, arith}
use Rattle.and_clause_index.specs.Sieves.{print_in}
use Rattle.and_clause_index.proofs.Sifting.{none_sifted, sifted_step}
use Rattle.and_clause_index.proofs.sieve.Sieve.at.Goals as goal

pub loop-clause-init : goal.loop-clause-init
loop-clause-init c = none_sifted (print_in c.args.prints.now) c.args.place c.in_ok-rows.rows.items c.in_ok-rows.ensures

pub loop-clause-preserved : goal.loop-clause-preserved
loop-clause-preserved c =
    let mark = c.mark_at-mark.result in
    let low : c.loop-clause.clause-index < length c.args.clauses.now = omega arith in
    let below : mark < 256 = omega arith in
    sifted_step (print_in c.args.prints.now) c.args.place c.args.clauses.now c.loop-clause.clause-index (record { 0 = 0 }) mark
    c.loop-clause.rows.items c.put.new.rows.items low c.mark_at-mark.ensures c.if-mark-eq0.false below c.in_ok-put.ensures
    c.loop-clause.invariant
