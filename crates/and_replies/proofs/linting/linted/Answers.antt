use Rattle.and_program.specs.Loaded.{program_of}
use Rattle.and_replies.proofs.LintLemmas.{was_linted}
use Rattle.and_replies.proofs.linting.linted.Goals as goal

pub returns : goal.returns
returns c =
    was_linted (program_of c.args.loaded.now) c.in_ok-findings.findings.count c.status_of_findings-status.result c.in_ok-findings.findings.text
    c.status_of_findings-status.ensures c.in_ok-findings.ensures
