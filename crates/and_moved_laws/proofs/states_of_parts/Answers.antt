use Rattle.std.proofs.Common.{refl}
use Rattle.and_moved_laws.proofs.States
use Rattle.and_moved_laws.proofs.states_of_parts.Goals as goal

pub returns-clause-determinate : goal.returns-clause-determinate
returns-clause-determinate c = λ P rs frames part front f back t limit o d loaded k none_is called path_is each sole fits first.
    States.state_determinate P loaded rs frames part front f back t k called o path_is none_is limit each d sole fits first

pub returns-clause-over_one : goal.returns-clause-over_one
returns-clause-over_one c = λ P rs frames part front f back t limit o d loaded k none_is called path_is each sole no_fit first.
    States.state_over_one P loaded rs frames part front f back t k called o path_is none_is limit each d sole no_fit first

pub returns-clause-over_all : goal.returns-clause-over_all
returns-clause-over_all c = λ P rs frames part front f back t limit o d loaded k none_is called path_is each no_call no_fit first.
    States.state_over_all P loaded rs frames part front f back t k called o path_is none_is limit each no_call no_fit d first

pub returns-clause-fork : goal.returns-clause-fork
returns-clause-fork c = λ P rs frames part front f back t limit o ds cut loaded k none_is called path_is each no_call some rising are first.
    States.state_fork P loaded rs frames part front f back t k called o path_is none_is limit each no_call ds some rising are cut first

pub returns-clause-floundered : goal.returns-clause-floundered
returns-clause-floundered c = λ P rs frames part kept t limit loaded k none_is no_call some.
    States.state_floundered P loaded rs frames part kept t k limit none_is no_call some

pub returns-clause-answer : goal.returns-clause-answer
returns-clause-answer c = λ P rs frames part t limit loaded k. States.state_answer P loaded rs frames part _ t k limit refl
