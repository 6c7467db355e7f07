use Rattle.and_kept_table.proofs.Moving.{all_known, compiled_moves}
use Rattle.and_kept_table.proofs.kept.KeptTable.turn_to.Goals as goal

pub add_calls-requires-clause-made : goal.add_calls-requires-clause-made
add_calls-requires-clause-made c = (c.requires.1 c.args.loaded.now c.requires.2).made

pub returns-clause-kept : goal.returns-clause-kept
returns-clause-kept c = λ g kept stands l other.
    let old = kept c.args.loaded.now stands in
    let new = c.in_ok-add_calls.ensures in
    compiled_moves g c.args.loaded.now l _ stands other (record {
      made = new.made;
      known = λ clause some i node e. new.stays node (old.known clause some i node e);
    })

pub returns-clause-table : goal.returns-clause-table
returns-clause-table c =
    let old = c.requires.1 c.args.loaded.now c.requires.2 in
    let new = c.in_ok-add_calls.ensures in
    record {
      calls = all_known c.args.loaded.now c.add_calls.new.self new.known (λ clause some i node e. new.stays node (old.known clause some i node e));
      prints = new.made.prints;
    }
