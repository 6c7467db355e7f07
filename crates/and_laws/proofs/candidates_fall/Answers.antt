use Rattle.and_laws.proofs.Picking
use Rattle.and_laws.proofs.candidates_fall.Goals as goal

pub returns-clause-equations : goal.returns-clause-equations
returns-clause-equations c = λ P es ds q g n h k. Picking.candidate_falls P es ds q g n h k

pub returns-clause-trees : goal.returns-clause-trees
returns-clause-trees c = λ P ag t u es ds gs ws b x y. Picking.candidates_fall es ds gs ws b x y
