use Rattle.and_worker_laws.proofs.Leaving.{ran_among}
use Rattle.and_worker_laws.proofs.rebuilding.what_was_run_among_tasks.Goals as goal

pub returns : goal.returns
returns c = λ es ds goals waits gone all left ran out l. ran_among es goals ds waits gone all left ran out l
