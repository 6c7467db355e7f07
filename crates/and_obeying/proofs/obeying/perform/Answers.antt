use Rattle.std.proofs.Common.{ℕ, sym, subst, refl, arith}
use Rattle.and_gen.specs.Layered.{layered}
use Rattle.and_obeying.specs.Obeyed.{Does, IsWork}
use Rattle.and_obeying.specs.Answered.{Answered}
use Rattle.and_questions.specs.declared.question.Question.TheVariants.{Run}
use Rattle.and_questions.specs.declared.question.Request.TheVariants.{Text}
use Rattle.and_reports.specs.declared.showing.Show.TheVariants.{Summary}
use Rattle.and_obeying.proofs.AskLemmas.{memory_gave_none}
use Rattle.and_obeying.proofs.obeying.perform.Goals as goal

pub ask-requires-clause-allowed : goal.ask-requires-clause-allowed
ask-requires-clause-allowed g c = subst IsWork c.in-Source.is c.requires.work

pub returns-in-Source : goal.returns-in-Source
returns-in-Source g c =
    let told = c.ask.ensures in
    let does = Does g.S.Source g.K.Sink c.ask.result c.args.source.now c.ask.new.source c.args.sink.now c.ask.new.sink in
    record {
      does = subst does (sym c.in-Source.is) (record { answered = told.answered; told = told.told; read_whole = told.read_whole });
      no_usage = told.no_usage;
      blame = record {
        read_fault = told.read_fault;
        write_fault = told.write_fault;
        memory = told.memory;
        source_count = told.source_count;
        sink_count = told.sink_count;
      };
    }

pub demo-requires-clause-few : goal.demo-requires-clause-few
demo-requires-clause-few g c = (subst IsWork c.in-Demo.is c.requires.work).0

pub demo-requires-clause-limited : goal.demo-requires-clause-limited
demo-requires-clause-limited g c = let work = subst IsWork c.in-Demo.is c.requires.work in omega (arith, work.1)

pub returns-in-Demo : goal.returns-in-Demo
returns-in-Demo g c =
    let told = c.demo.ensures in
    let given = g.K.Sink.given in
    let number = c.in-Demo.number in
    let settings = c.in-Demo.settings in
    let does = Does g.S.Source g.K.Sink c.demo.result c.args.source.now c.args.source.now c.args.sink.now c.demo.new.sink in
    let work = subst IsWork c.in-Demo.is c.requires.work in
    let answer : ℕ → Type 0 = λ l. Answered (Text (Run Summary l)) (given c.args.sink.now) (given c.demo.new.sink) c.demo.result (layered number) in
    record {
      does = subst does (sym c.in-Demo.is)
          (record { answered = subst answer work.1 told.answered; not_refused = told.not_refused; unread = (refl, refl, refl) });
      no_usage = λ u. subst (λ s. Answered (Text (Run Summary settings.limit)) (given c.args.sink.now) (given c.demo.new.sink) s (layered number)) u
          told.answered;
      blame = record {
        read_fault = λ e. absurd (told.no_read_fault e);
        write_fault = told.fault;
        memory = memory_gave_none (Text (Run Summary settings.limit)) (given c.args.sink.now) (given c.demo.new.sink) (layered number)
            c.demo.result told.answered;
        source_count = omega arith;
        sink_count = told.count;
      };
    }
