use Rattle.std.proofs.Common.{◌≡◌, sym, subst, inl, inr, arith}
use Rattle.std.proofs.lemmas.Bool.{cases_lt}
use Rattle.and_cells.specs.Parts.{named}
use Rattle.and_clause_index.specs.Tables.{IsMade, KnowsCalls}
use Rattle.and_program.specs.Loaded.{program_of}
use Rattle.and_kept_table.proofs.Moving.{compiled_moves, none_past}
use Rattle.and_kept_table.proofs.kept.KeptTable.of.Goals as goal

pub loop-number-init : goal.loop-number-init
loop-number-init c = record {
  made = subst (IsMade (program_of c.args.loaded.now) c.in_ok-table.table) (sym c.new-firsts.ensures.items) c.in_ok-table.ensures;
  known = λ clause some low. absurd (omega (arith, some, low));
}

pub loop-number-preserved : goal.loop-number-preserved
loop-number-preserved c =
    let old = c.loop-number.invariant in
    let new = c.in_ok-add_calls.ensures in
    record {
      made = new.made;
      known = λ clause some low. elim (cases_lt clause c.loop-number.number) [
        | inl before ↦ λ i node e. new.stays node (old.known clause some before i node e)
        | inr past ↦
            let same : clause ≡ c.loop-number.number = omega arith in
            subst (KnowsCalls (named c.args.loaded.now) c.add_calls.new.self) (sym same) new.known
      ];
    }

pub returns : goal.returns
returns c = λ g stands l other. compiled_moves g c.args.loaded.now l _ stands other (record {
  made = c.loop-number.invariant.made;
  known = λ clause some i node e. elim (cases_lt clause c.loop-number.number) [
    | inl before ↦ c.loop-number.invariant.known clause some before i node e
    | inr past ↦ absurd (none_past c.args.loaded.now clause i node (let n = c.clause_count-number-end.ensures.count in omega arith) e)
  ];
})
