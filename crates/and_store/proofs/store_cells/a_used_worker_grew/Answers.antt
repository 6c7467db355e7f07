use Rattle.and_store.proofs.Working.{steps_grew}
use Rattle.and_store.proofs.store_cells.a_used_worker_grew.Goals as goal

pub returns : goal.returns
returns c = λ P p q used. steps_grew P p.store.about p q used.steps
