use Rattle.and_laws.proofs.Closing
use Rattle.and_laws.proofs.closure_order.Goals as goal

pub returns-clause-some_order : goal.returns-clause-some_order
returns-clause-some_order c = λ es ds gs ws x. Closing.closes_anyhow es gs ds ws x

pub returns-clause-any_order : goal.returns-clause-any_order
returns-clause-any_order c = λ es ds cs gs ws vs x y. Closing.closure_order es gs ds ws cs vs x y

pub returns-clause-so_far : goal.returns-clause-so_far
returns-clause-so_far c = λ es ds cs gs ws vs r x. Closing.ran_then_closes es gs ds ws cs vs r x
