use Rattle.std.proofs.Common.{sym}
use Rattle.and_answers.proofs.RunLemmas.{behind_alike, follows_later}
use Rattle.and_answers.proofs.meeting.meet_alike.Goals as goal

pub returns-then-is_no_sooner-clause-behind : goal.returns-then-is_no_sooner-clause-behind
returns-then-is_no_sooner-clause-behind c =
    let one = c.args.one in
    let other = c.args.other in
    let count = c.in_common-count.result in
    let shared = c.in_common-count.ensures in
    let new = c.later.ensures in
    let follows = follows_later one other count (c.is_no_sooner.ensures.later c.if-is_no_sooner.true) in
    λ last first second. (
      first,
      behind_alike last one other c.later.result count c.requires shared.within_one shared.same follows new.entry new.common new.from new.rest
          first second,
    )

pub returns-clause-behind : goal.returns-clause-behind
returns-clause-behind c =
    let one = c.args.one in
    let other = c.args.other in
    let count = c.in_common-count.result in
    let shared = c.in_common-count.ensures in
    let new = c.later-2.ensures in
    let follows = follows_later other one count (c.is_no_sooner.ensures.sooner c.if-is_no_sooner.false) in
    λ last first second. (
      second,
      behind_alike last other one c.later-2.result count (sym c.requires) shared.within_other (sym shared.same) follows new.entry new.common
          new.from new.rest second first,
    )
