use Rattle.std.proofs.Common.{subst}
use Rattle.and_proof.specs.Rounds.{IsRound}
use Rattle.and_proof.specs.declared.waiting.Round.{Round}
use Rattle.and_proof.proofs.waiting.run_arithmetic.Goals as goal

pub rounds-init : goal.rounds-init
rounds-init g c = record { whole = λ rs t x. x; start = c.requires.behind }

pub go_round-requires-clause-whole : goal.go_round-requires-clause-whole
go_round-requires-clause-whole g c = let (rs, t, x) = c.requires.whole in (rs, t, c.rounds.invariant.whole rs t x)

pub go_round-requires-clause-start : goal.go_round-requires-clause-start
go_round-requires-clause-start g c = c.rounds.invariant.start

pub returns-in-Still-clause-run : goal.returns-in-Still-clause-run
returns-in-Still-clause-run g c = λ e rs t x.
    let P = g.N.Naming.program in
    let came = subst (λ (r : Round). IsRound P c.rounds.cells c.go_round.new.cells c.rounds.waiting c.go_round.new.waiting c.rounds.way r) c.in-Still.is
    c.in_ok-go_round.ensures in
    came.0 rs t (c.rounds.invariant.whole rs t x)

pub returns-in-Still-clause-still : goal.returns-in-Still-clause-still
returns-in-Still-clause-still g c = λ e.
    let P = g.N.Naming.program in
    let came = subst (λ (r : Round). IsRound P c.rounds.cells c.go_round.new.cells c.rounds.waiting c.go_round.new.waiting c.rounds.way r) c.in-Still.is
    c.in_ok-go_round.ensures in
    came.2

pub returns-in-False-clause-none : goal.returns-in-False-clause-none
returns-in-False-clause-none g c = λ e rs t x outcome.
    let P = g.N.Naming.program in
    let came = subst (λ (r : Round). IsRound P c.rounds.cells c.go_round.new.cells c.rounds.waiting c.go_round.new.waiting c.rounds.way r) c.in-False.is
    c.in_ok-go_round.ensures in
    came rs t (c.rounds.invariant.whole rs t x) outcome

pub rounds-preserved : goal.rounds-preserved
rounds-preserved g c =
    let P = g.N.Naming.program in
    let came = subst (λ (r : Round). IsRound P c.rounds.cells c.go_round.new.cells c.rounds.waiting c.go_round.new.waiting c.rounds.way r) c.in-Changed.is
    c.in_ok-go_round.ensures in record {
      whole = λ rs t x. came.0 rs t (c.rounds.invariant.whole rs t x);
      start = c.other-way.ensures c.go_round.new.waiting came.1;
    }

pub rounds-smaller : goal.rounds-smaller
rounds-smaller g c =
    let P = g.N.Naming.program in
    let came = subst (λ (r : Round). IsRound P c.rounds.cells c.go_round.new.cells c.rounds.waiting c.go_round.new.waiting c.rounds.way r) c.in-Changed.is
    c.in_ok-go_round.ensures in
    came.2
