use Rattle.std.proofs.Common.{subst}
use Rattle.std.specs.Option.{IfSome}
use Rattle.and_reader.specs.Beginning.{IsGoneOn}
use Rattle.and_replies.specs.Keeping.{IsKept}
use Rattle.and_replies.proofs.PartLemmas.{whole_kept, left_kept}
use Rattle.and_replies.proofs.parts.next_part.Goals as goal

pub part_of_whole-requires-clause-table : goal.part_of_whole-requires-clause-table
part_of_whole-requires-clause-table g c =
    let kept = subst (λ o. IfSome o IsKept) c.in-Some.is c.requires.kept in
    whole_kept c.in-Some.kept _ c.in-Whole.whole kept c.in-Whole.is c.in_ok-whole.ensures.ground

pub returns-in-Whole-clause-handed : goal.returns-in-Whole-clause-handed
returns-in-Whole-clause-handed g c =
    let kept = subst (λ o. IfSome o IsKept) c.in-Some.is c.requires.kept in
    let went = subst (IsGoneOn c.args.text.now) c.in-Whole.is (c.in_ok-whole.ensures.text kept.0) in
    c.part_of_whole.ensures.handed c.args.text.now went.1

pub returns-in-Whole-clause-kept : goal.returns-in-Whole-clause-kept
returns-in-Whole-clause-kept g c =
    let kept = subst (λ o. IfSome o IsKept) c.in-Some.is c.requires.kept in
    let went = subst (IsGoneOn c.args.text.now) c.in-Whole.is (c.in_ok-whole.ensures.text kept.0) in
    c.part_of_whole.ensures.kept went.0

pub returns-in_ok-handed_anew-in-Left-clause-kept : goal.returns-in_ok-handed_anew-in-Left-clause-kept
returns-in_ok-handed_anew-in-Left-clause-kept g c =
    let kept = subst (λ o. IfSome o IsKept) c.in-Some.is c.requires.kept in
    left_kept c.in-Some.kept c.args.text.now _ c.in-Left.beginning kept c.in-Left.is c.in_ok-whole.ensures.ground
    (c.in_ok-whole.ensures.text kept.0)
