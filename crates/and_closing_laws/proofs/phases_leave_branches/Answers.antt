use Rattle.and_closing_laws.proofs.Ending.{leaves_branch}
use Rattle.and_closing_laws.proofs.phases_leave_branches.Goals as goal

pub returns : goal.returns
returns c = λ P own old first row kept t tolds limit g k h q long whole. leaves_branch P own old first row kept t tolds limit g k h q long whole
