use Rattle.and_branch_laws.proofs.Going
use Rattle.and_branch_laws.proofs.states_go_on.Goals as goal

pub returns-clause-determinate : goal.returns-clause-determinate
returns-clause-determinate c = λ P limit key t o d of_it reached x. Going.determinate_goes P.program limit key t reached o d x of_it

pub returns-clause-fork : goal.returns-clause-fork
returns-clause-fork c = λ P limit key t o ds cut d of_it reached x i. Going.fork_goes P.program limit key t reached o ds cut x d i of_it

pub returns-clause-over_one : goal.returns-clause-over_one
returns-clause-over_one c = λ P limit key t o d reached x. Going.over_one_cut P.program limit key t reached o d x

pub returns-clause-over_all : goal.returns-clause-over_all
returns-clause-over_all c = λ P limit key t o d reached x. Going.over_all_cut P.program limit key t reached o d x

pub returns-clause-cut : goal.returns-clause-cut
returns-clause-cut c = λ P limit key t o ds d reached x. Going.fork_cut P.program limit key t reached o ds d x
