use Rattle.std.proofs.Common.{[], ◌∷◌, ◌++◌, refl, sym, subst}
use Rattle.std.specs.Prelude.{OnOk}
use Rattle.std.proofs.lemmas.Result.{on_ok_weaker}
use Rattle.and_branch.specs.States.{numbers}
use Rattle.and_traces.specs.Traces.{Report, forked, cut_report}
use Rattle.and_forks.specs.Told.{AreLinesOf, lines_of}
use Rattle.and_forks.proofs.Traced.{written_of, more_told, fork_cut_told}
use Rattle.and_forks.proofs.writer.WriterVisitor.see_fork.Goals as goal

pub returns-in-Some-clause-told : goal.returns-in-Some-clause-told
returns-in-Some-clause-told c = λ seen has.
    fork_cut_told c.args.self.now.lines seen (record { depth = c.args.depth; event = forked (numbers c.args.clauses.now) }) c.args.depth
    c.args.heavy c.in-Some.cut c.in-Some.is

pub returns-in-None-clause-told : goal.returns-in-None-clause-told
returns-in-None-clause-told c = λ seen has.
    let s = c.args.self.now in
    let r : Report = record { depth = c.args.depth; event = forked (numbers c.args.clauses.now) } in
    subst (λ h. OnOk c.put_fork.result (AreLinesOf s.met c.put_fork.new.self (seen ++ r ∷ cut_report c.args.depth h))) (sym c.in-None.is)
    (on_ok_weaker c.put_fork.result (more_told s.met s.lines c.put_fork.new.self seen r c.requires.going refl has)
    (c.put_fork.ensures (lines_of seen) (written_of s.met s.lines seen c.requires.going has)))
