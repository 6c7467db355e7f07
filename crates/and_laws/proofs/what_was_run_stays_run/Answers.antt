use Rattle.and_model.specs.Programs.{clause_at}
use Rattle.and_model.specs.Trees.{equations, arithmetics, path, reduce}
use Rattle.and_laws.specs.Weaving.{body_arithmetic}
use Rattle.and_laws.proofs.Running.{Again, run_again, reduce_woven, reduce_entails}
use Rattle.and_laws.proofs.what_was_run_stays_run.Goals as goal

pub returns : goal.returns
returns c = λ P ag t o n h solved waits ran.
    let again : Again (equations t) (equations (reduce t o n h)) (arithmetics (reduce t o n h)) (body_arithmetic (path t o) (clause_at P n).body) solved waits =
    run_again (equations t) (arithmetics t) solved waits ran (equations (reduce t o n h)) (arithmetics (reduce t o n h))
    (body_arithmetic (path t o) (clause_at P n).body) (reduce_entails t o n h) (reduce_woven t o n h) in
    (again.gained, again.waits, again.was, again.woven, again.ran)
