use Rattle.std.proofs.Common.{◌++◌, [], codes, refl}
use Rattle.and_proof.specs.Entries.{entry_lines}
use Rattle.and_proof.proofs.EntryParts.{one_read, all_read}
use Rattle.and_proof.proofs.reading.code_of.Goals as goal

pub loop-clause-init : goal.loop-clause-init
loop-clause-init c = λ es (all, parts). let (first, last, plain, is) = parts in record {
  done = [];
  rest = es;
  last = last;
  all = refl;
  code_is = c.new-code.ensures;
  entries = all;
  now_is = (c.in-Some.ensures.parts first (entry_lines es ++ (codes "%% line " ++ last)) plain is).1;
}

pub loop-clause-preserved : goal.loop-clause-preserved
loop-clause-preserved c = λ es has.
    one_read es c.loop-clause.code c.push.new.self c.loop-clause.rest.now c.in-Some-next_call.after.now c.in-Some-next_call.clause.0
    (c.loop-clause.invariant es has) c.in-Some-next_call.ensures.call (λ tail is. absurd (let none_is = c.in-Some-next_call.ensures.last tail is in cc))
    c.in_ok-push.ensures.ok

pub returns : goal.returns
returns c = λ es has.
    all_read es c.loop-clause.code c.loop-clause.rest.now (c.loop-clause.invariant es has) (λ e tail entry is.
    c.in_default-next_call.ensures.call e tail entry is)
