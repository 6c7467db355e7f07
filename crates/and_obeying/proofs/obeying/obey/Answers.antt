use Rattle.std.proofs.Common.{sym, subst, refl, inl, inr, arith}
use Rattle.and_obeying.specs.Obeyed.{Does, IsWork}
use Rattle.and_obeying.proofs.ObeyLemmas.{is_work, no_command, obeys, same_command, usage_no_fault, usage_told, wants_memory}
use Rattle.and_obeying.proofs.obeying.obey.Goals as goal

pub perform-requires-clause-work : goal.perform-requires-clause-work
perform-requires-clause-work g c =
    let said = c.in-Ok-Some in
    let is = rw said.field-0-is at said.ensures.is in
    let range = rw said.field-0-is at said.ensures.in_range in
    subst IsWork (sym c.work_of.ensures) (is_work _ said.command is range)

pub returns-in-Ok-Some : goal.returns-in-Ok-Some
returns-in-Ok-Some g c =
    let said = c.in-Ok-Some in
    let told = c.perform.ensures in
    let is = rw said.field-0-is at said.ensures.is in
    obeys g.S.Source g.K.Sink c.perform.result _ _ _ _ _ said.command is
    (λ other of. same_command said.field-0 said.command other said.field-0-is (said.ensures.each other of))
    (subst (Does g.S.Source g.K.Sink c.perform.result c.args.source.now c.perform.new.source c.args.sink.now c.perform.new.sink) c.work_of.ensures told.does)
    told.no_usage told.blame

pub returns-in-Ok-None : goal.returns-in-Ok-None
returns-in-Ok-None g c =
    let told = c.finish.ensures in
    let none = c.in-Ok-None in
    let no_fault = usage_no_fault _ c.finish.result told.written in
    record {
      obeyed = λ command of. absurd (no_command none.field-0 command none.field-0-is (none.ensures.each command of));
      usage_only = λ u. (
        λ command of. no_command none.field-0 command none.field-0-is (none.ensures.each command of),
        (told.written (λ e. cc)).1,
      );
      used = λ is. (usage_told _ _ c.finish.result told.written (λ e. (told.fault e).1), (refl, refl, refl));
      blame = record {
        read_fault = λ e. absurd (no_fault (inl e));
        write_fault = λ e. (told.fault e).0;
        memory = λ e. absurd (no_fault (inr e));
        source_count = omega arith;
        sink_count = told.count;
      };
    }

pub returns-in-Err : goal.returns-in-Err
returns-in-Err g c = wants_memory g.S.Source g.K.Sink c.args.source.now c.args.sink.now _ c.in-Err.ensures.memory
