use Rattle.std.proofs.Common.{length}
use Rattle.and_program.specs.Nodes.{names_of}
use Rattle.and_judging.specs.Sorts.{shapes_under}
use Rattle.and_judging.proofs.UnknownLemmas.{goal_there, one_called, none_called, grown_self, grown_push}
use Rattle.and_judging.proofs.unknown.append_call.Goals as goal

pub predicate_of-predicate-requires-clause-there : goal.predicate_of-predicate-requires-clause-there
predicate_of-predicate-requires-clause-there c =
    goal_there (length c.args.parts.now) c.args.token.now c.goal_of.result c.in-Some.goal c.goal_of.ensures c.in-Some.is c.requires.there

pub returns-in_ok-push-in-Some-clause-calls : goal.returns-in_ok-push-in-Some-clause-calls
returns-in_ok-push-in-Some-clause-calls c =
    one_called (shapes_under (names_of c.args.names.now.keys) c.args.parts.now) c.args.token.now c.goal_of.result c.in-Some.goal c.args.line
    (record { predicate = c.predicate_of-predicate.result; line = c.args.line }) c.args.calls.now.items c.push.new.self.items
    c.goal_of.ensures c.in-Some.is (c.predicate_of-predicate.ensures c.args.line) c.in_ok-push-in-Some.ensures.items

pub returns-in_ok-push-in-Some-clause-kept : goal.returns-in_ok-push-in-Some-clause-kept
returns-in_ok-push-in-Some-clause-kept c =
    grown_push c.args.calls.now.items c.push.new.self.items (record { predicate = c.predicate_of-predicate.result; line = c.args.line })
    c.in_ok-push-in-Some.ensures.items

pub returns-in-None-clause-calls : goal.returns-in-None-clause-calls
returns-in-None-clause-calls c =
    none_called (shapes_under (names_of c.args.names.now.keys) c.args.parts.now) c.args.token.now c.goal_of.result c.args.line c.args.calls.now.items
    c.goal_of.ensures c.in-None.is

pub returns-in-None-clause-kept : goal.returns-in-None-clause-kept
returns-in-None-clause-kept c = grown_self c.args.calls.now.items
