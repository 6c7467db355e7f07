use Rattle.std.proofs.Common.{[], ◌<◌, ◌≤◌, length, append-nil, sym, subst}
use Rattle.std.specs.Prelude.{Option}
use Rattle.std.proofs.lemmas.List.Elements.{All-head, All-tail, All-contains}
use Rattle.and_model.specs.declared.goal.Reduction.{Reduction}
use Rattle.and_program.specs.Loaded.{program_of}
use Rattle.and_code.specs.Visiting.{IsAtCall, AreAtCalls, visit_of, visits_of, waiting, turns_left}
use Rattle.and_code.specs.Written.{all_written}
use Rattle.and_code.specs.declared.visiting.Visit.{Visit}
use Rattle.and_code.proofs.Linking.{place_found, place_within}
use Rattle.and_code.proofs.Trees.{clauses_named, places_behind}
use Rattle.and_code.proofs.Turns.{HasGone, begun, begun_at_calls, nothing_left, call_open, call_taken, turn_fewer, begins_still, is_missing}
use Rattle.and_code.proofs.telling.tell.Goals as goal

pub loop-next-init : goal.loop-next-init
loop-next-init c = record { links = tt; told = c.requires.told; begins = ([], sym (append-nil c.args.code.now)) }

pub returns-in-None-clause-decides : goal.returns-in-None-clause-decides
returns-in-None-clause-decides c =
    let P = program_of c.args.loaded.now in
    let rs = all_written c.args.reductions.now in
    let code = c.loop-next.code in
    nothing_left P rs code
    (subst (λ (next : Option Visit). HasGone P rs (waiting c.loop-next.visits.items next) code) c.in-None.is c.loop-next.invariant.told.goes_on)

pub returns-in-None-taken-clause-decides : goal.returns-in-None-taken-clause-decides
returns-in-None-taken-clause-decides c =
    let P = program_of c.args.loaded.now in
    let rs = c.args.reductions.now in
    let v = c.in-Some.visit in
    let old = c.loop-next.visits.items in
    let code = c.loop-next.code in
    let calls = subst (λ (next : Option Visit). AreAtCalls P (waiting old next)) c.in-Some.is c.loop-next.invariant.told.calls in
    let so_far = subst (λ (next : Option Visit). HasGone P (all_written rs) (waiting old next) code) c.in-Some.is c.loop-next.invariant.told.goes_on in
    call_open P rs v (visits_of old) code so_far (All-head (IsAtCall P) (visit_of v) (visits_of old) calls)
    (c.in_ok-taken-in-Some.ensures.none c.in-None-taken.is)

pub go_on-requires-clause-here : goal.go_on-requires-clause-here
go_on-requires-clause-here c =
    let P = program_of c.args.loaded.now in
    let old = c.loop-next.visits.items in
    let calls = subst (λ (next : Option Visit). AreAtCalls P (waiting old next)) c.in-Some.is c.loop-next.invariant.told.calls in
    All-head (IsAtCall P) (visit_of c.in-Some.visit) (visits_of old) calls

pub go_on-requires-clause-calls : goal.go_on-requires-clause-calls
go_on-requires-clause-calls c =
    let P = program_of c.args.loaded.now in
    let old = c.loop-next.visits.items in
    let calls = subst (λ (next : Option Visit). AreAtCalls P (waiting old next)) c.in-Some.is c.loop-next.invariant.told.calls in
    All-tail (IsAtCall P) (visit_of c.in-Some.visit) (visits_of old) calls

pub find-requires : goal.find-requires
find-requires c = c.loop-next.invariant.links

pub at-reduction-requires : goal.at-reduction-requires
at-reduction-requires c =
    place_within c.args.reductions.now c.in-Some.visit.node c.in-Some.visit.item c.in-Some-taken.place
    (c.in_ok-taken-in-Some.ensures.some c.in-Some-taken.place c.in-Some-taken.is)

pub go_on-requires-clause-named : goal.go_on-requires-clause-named
go_on-requires-clause-named c =
    let P = program_of c.args.loaded.now in
    let rs = c.args.reductions.now in
    let r = c.at-reduction.result.now in
    let found = place_found rs c.in-Some.visit.node c.in-Some.visit.item c.in-Some-taken.place r
    (c.in_ok-taken-in-Some.ensures.some c.in-Some-taken.place c.in-Some-taken.is) c.at-reduction.ensures in
    All-contains (λ (r : Reduction). r.clause.0 ≤ length P.clauses) rs r (clauses_named P rs c.requires.made.0 c.requires.made.1) found.0

pub loop-next-smaller : goal.loop-next-smaller
loop-next-smaller c =
    let P = program_of c.args.loaded.now in
    let rs = c.args.reductions.now in
    let v = c.in-Some.visit in
    let r = c.at-reduction.result.now in
    let found = place_found rs c.in-Some.visit.node c.in-Some.visit.item c.in-Some-taken.place r
    (c.in_ok-taken-in-Some.ensures.some c.in-Some-taken.place c.in-Some-taken.is) c.at-reduction.ensures in
    let old = c.loop-next.visits.items in
    let code = c.loop-next.code in
    let new = waiting c.go_on.new.visits.items c.in_ok-next-in-Some-taken.next in
    let calls = subst (λ (next : Option Visit). AreAtCalls P (waiting old next)) c.in-Some.is c.loop-next.invariant.told.calls in
    let so_far = subst (λ (next : Option Visit). HasGone P (all_written rs) (waiting old next) code) c.in-Some.is c.loop-next.invariant.told.goes_on in
    let less = turn_fewer P rs v (visits_of old) code so_far (All-head (IsAtCall P) (visit_of v) (visits_of old) calls) new r
    (places_behind P (all_written rs) c.requires.made.0 c.requires.made.1) found
    c.in_ok-next-in-Some-taken.ensures.leads in
    subst (λ (next : Option Visit). turns_left (all_written rs) new < turns_left (all_written rs) (waiting old next)) (sym c.in-Some.is) less

pub loop-next-preserved : goal.loop-next-preserved
loop-next-preserved c =
    let P = program_of c.args.loaded.now in
    let rs = c.args.reductions.now in
    let v = c.in-Some.visit in
    let r = c.at-reduction.result.now in
    let found = place_found rs c.in-Some.visit.node c.in-Some.visit.item c.in-Some-taken.place r
    (c.in_ok-taken-in-Some.ensures.some c.in-Some-taken.place c.in-Some-taken.is) c.at-reduction.ensures in
    let old = c.loop-next.visits.items in
    let code = c.loop-next.code in
    let new = waiting c.go_on.new.visits.items c.in_ok-next-in-Some-taken.next in
    let calls = subst (λ (next : Option Visit). AreAtCalls P (waiting old next)) c.in-Some.is c.loop-next.invariant.told.calls in
    let so_far = subst (λ (next : Option Visit). HasGone P (all_written rs) (waiting old next) code) c.in-Some.is c.loop-next.invariant.told.goes_on in
    record {
      links = c.in_ok-taken-in-Some.ensures.links;
      begins = begins_still c.args.code.now code c.push.new.self r.clause.0 c.loop-next.invariant.begins c.in_ok-push-in-Some-taken.ensures.ok;
      told = record {
        calls = c.in_ok-next-in-Some-taken.ensures.calls;
        goes_on = call_taken P rs v (visits_of old) code so_far (All-head (IsAtCall P) (visit_of v) (visits_of old) calls) new r c.push.new.self
            found c.in_ok-push-in-Some-taken.ensures.ok c.in_ok-next-in-Some-taken.ensures.leads;
      };
    }

pub returns-then-is_at-clause-decides : goal.returns-then-is_at-clause-decides
returns-then-is_at-clause-decides c =
    let P = program_of c.args.loaded.now in
    let rs = c.args.reductions.now in
    let v = c.in-Some.visit in
    let old = c.loop-next.visits.items in
    let code = c.loop-next.code in
    let calls = subst (λ (next : Option Visit). AreAtCalls P (waiting old next)) c.in-Some.is c.loop-next.invariant.told.calls in
    let so_far = subst (λ (next : Option Visit). HasGone P (all_written rs) (waiting old next) code) c.in-Some.is c.loop-next.invariant.told.goes_on in
    call_open P rs v (visits_of old) code so_far (All-head (IsAtCall P) (visit_of v) (visits_of old) calls)
    (is_missing rs c.args.known v c.requires.known (c.is_at.ensures c.if-is_at.true))
