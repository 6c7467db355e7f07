use Rattle.and_program.specs.Loaded.{program_of}
use Rattle.and_reports.proofs.CheckingLemmas.{has_clause}
use Rattle.and_replies.proofs.CheckLemmas.{was_told}
use Rattle.and_replies.proofs.answering.told_of.Goals as goal

pub verdict_line-requires : goal.verdict_line-requires
verdict_line-requires c = has_clause (program_of c.args.loaded.now) c.in_ok-verdict.verdict c.in_ok-verdict.ensures

pub returns : goal.returns
returns c =
    was_told (program_of c.args.loaded.now) c.in_ok-verdict.verdict _ _ c.in_ok-verdict.ensures c.in_ok-text.ensures
    c.status_of_verdict-status.ensures
