use Rattle.std.proofs.Common.{refl}
use Rattle.and_branch_laws.proofs.Judging
use Rattle.and_branch_laws.proofs.states_of_cells.Goals as goal

pub returns-clause-determinate : goal.returns-clause-determinate
returns-clause-determinate c = λ P rs row front f back t limit o d loaded k none called path_is each sole fits first.
    Judging.state_determinate P loaded rs row front f back t k none called limit o path_is each d sole fits first

pub returns-clause-over_one : goal.returns-clause-over_one
returns-clause-over_one c = λ P rs row front f back t limit o d loaded k none called path_is each sole no_fit first.
    Judging.state_over_one P loaded rs row front f back t k none called limit o path_is each d sole no_fit first

pub returns-clause-over_all : goal.returns-clause-over_all
returns-clause-over_all c = λ P rs row front f back t limit o d loaded k none called path_is each no_call no_fit first.
    Judging.state_over_all P loaded rs row front f back t k none called limit o path_is each no_call no_fit d first

pub returns-clause-fork : goal.returns-clause-fork
returns-clause-fork c = λ P rs row front f back t limit o ds cut loaded k none called path_is each no_call some rising are first.
    Judging.state_fork P loaded rs row front f back t k none called limit o path_is each no_call ds some rising are cut first

pub returns-clause-floundered : goal.returns-clause-floundered
returns-clause-floundered c = λ P rs row kept t limit loaded k none no_call some. Judging.state_floundered P loaded rs row kept t k limit
    none no_call some

pub returns-clause-answer : goal.returns-clause-answer
returns-clause-answer c = λ P rs row t limit loaded k. Judging.state_answer P loaded rs row _ t k limit refl
