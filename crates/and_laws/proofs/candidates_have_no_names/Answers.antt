use Rattle.and_laws.proofs.FreshFrames.{candidate_fresh, candidate_renamed}
use Rattle.and_laws.proofs.candidates_have_no_names.Goals as goal

pub returns-clause-fresh : goal.returns-clause-fresh
returns-clause-fresh c = λ P es f q p g n all o og k. candidate_fresh P es f q p g n all o og k

pub returns-clause-renamed : goal.returns-clause-renamed
returns-clause-renamed c = λ P es r back f q g n all o og e eg k. candidate_renamed P es r back f q g n all o og e eg k
