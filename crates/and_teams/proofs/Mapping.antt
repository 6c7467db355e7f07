-- What is known of teams that have worked, each by a call of its own.
use Rattle.std.proofs.Common.{◌≡◌, List, reverse, length, sym, ◌∙◌, subst, slice_index_or}
use Rattle.std.specs.Fork.{GivesJob, GivesJobs}
use Rattle.std.specs.Fn.{FnReturns}
use denote.Param.Members.{Shared}
use Rattle.and_model.specs.Programs.{Program}
use Rattle.and_cells.specs.declared.naming.Naming.{Ghosts}
use Rattle.and_tree.specs.Passes.{TreeId}
use Rattle.and_teams.specs.Ended.{AreFresh, IsWorked, AreDone}
use Rattle.and_teams.specs.declared.work.Beginning.{Beginning}
use Rattle.and_teams.specs.declared.work.Worked.{Worked}
use Rattle.and_teams.proofs.Beginning.{all_done}

-- Each call makes of a beginning what has worked; so all of them are done.
pub all_called : {N : Type 0} {G : Ghosts N} {F : Type 0} (g : Shared F (Beginning N G × Unit {0}) (Worked N)) (f : F) (P : Program) (tree : TreeId)
    (ts : List (Beginning N G)) (ws : List (Worked N)) → AreFresh tree 0 (reverse ts) → length ws ≡ length ts → GivesJobs g f ts ws
    → ((t : Beginning N G) (w : Worked N) → FnReturns g f (t, tt) w → IsWorked P tree t.number w) → AreDone P tree 0 (reverse ws)
all_called g f P tree ts ws fresh long gives says = all_done tree P ts ws fresh long (λ i t w within is at.
    let job : GivesJob g f ts i (slice_index_or ws i w) = (gives i w within).1 in
    let same = is ∙ job.job_is t in
    subst (λ z. IsWorked P tree t.number z) (sym at)
    (subst (λ z. IsWorked P tree z.number (slice_index_or ws i w)) (sym same) (says job.job (slice_index_or ws i w) job.call)))
