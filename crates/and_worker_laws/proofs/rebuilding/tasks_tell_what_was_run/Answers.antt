use Rattle.and_worker_laws.proofs.Leaving.{was_run}
use Rattle.and_worker_laws.proofs.rebuilding.tasks_tell_what_was_run.Goals as goal

pub returns : goal.returns
returns c = λ es ds all left r. let w = was_run es all ds left r in (w.gone, w.ran, w.out, w.left)
