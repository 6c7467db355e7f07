use Rattle.and_branch_laws.proofs.OneState
use Rattle.and_branch_laws.proofs.SomeState
use Rattle.and_branch_laws.proofs.one_state.Goals as goal

pub returns-clause-some : goal.returns-clause-some
returns-clause-some c = λ P limit t. SomeState.some_state P.program limit t

pub returns-clause-only_one : goal.returns-clause-only_one
returns-clause-only_one c = λ P limit t s r x y. OneState.one_state P.program limit t s r x y
