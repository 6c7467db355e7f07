use Rattle.std.proofs.Common.{◌++◌, length, map, refl}
use Rattle.and_program.specs.Nodes.{names_of}
use Rattle.and_program.specs.declared.item.ItemNode.TheVariants.{Call}
use Rattle.and_judging.specs.Unknown.{call_at}
use Rattle.and_judging.specs.Marks.{marks_in, calls_in_marks}
use Rattle.and_judging.specs.Sorts.{shapes_under}
use Rattle.and_judging.specs.declared.body.BodyToken.{BodyToken}
use Rattle.and_judging.specs.declared.body.BodyToken.TheVariants.{Item}
use Rattle.and_judging.proofs.SortedWhole.{token_there}
use Rattle.and_judging.proofs.UnknownLemmas.{next_called, all_called, grown_again, grown_self}
use Rattle.and_judging.proofs.unknown.append_calls.Goals as goal

abbrev first_token : BodyToken
first_token = Item (Call (record { 0 = 0 }))

pub loop-token-init : goal.loop-token-init
loop-token-init c = record { owed = refl; kept = grown_self c.args.calls.now.items }

pub append_call-requires-clause-there : goal.append_call-requires-clause-there
append_call-requires-clause-there c =
    token_there (length c.args.parts.now) c.args.tokens.now c.loop-token.token-index first_token c.loop-token-test.true c.requires.there

pub loop-token-preserved : goal.loop-token-preserved
loop-token-preserved c =
    let ss = shapes_under (names_of c.args.names.now.keys) c.args.parts.now in record {
      owed = next_called ss c.args.tokens.now c.loop-token.token-index first_token c.args.line c.loop-token.calls.items c.append_call.new.calls.items
          (c.args.calls.now.items ++ map (call_at c.args.line) (calls_in_marks (marks_in ss c.args.tokens.now))) c.loop-token-test.true
          c.in_ok-append_call.ensures.calls c.loop-token.invariant.owed;
      kept = grown_again c.args.calls.now.items c.loop-token.calls.items c.append_call.new.calls.items c.loop-token.invariant.kept
          c.append_call.ensures.kept;
    }

pub returns-clause-calls : goal.returns-clause-calls
returns-clause-calls c =
    let ss = shapes_under (names_of c.args.names.now.keys) c.args.parts.now in
    all_called ss c.args.tokens.now c.loop-token.token-index c.args.line c.loop-token.calls.items
    (c.args.calls.now.items ++ map (call_at c.args.line) (calls_in_marks (marks_in ss c.args.tokens.now))) c.loop-token-test.false
    c.loop-token.invariant.owed

pub returns-in_err-append_call-clause-kept : goal.returns-in_err-append_call-clause-kept
returns-in_err-append_call-clause-kept c =
    grown_again c.args.calls.now.items c.loop-token.calls.items c.append_call.new.calls.items c.loop-token.invariant.kept c.append_call.ensures.kept
