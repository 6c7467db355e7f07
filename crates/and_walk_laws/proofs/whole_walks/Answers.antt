use Rattle.std.proofs.Common.{false, refl}
use Rattle.and_walk_laws.proofs.Numbering.{numbered, explored_beyond, whole_exhausts}
use Rattle.and_walk_laws.proofs.whole_walks.Goals as goal

pub returns-clause-numbers : goal.returns-clause-numbers
returns-clause-numbers c = λ P limit t es f m w. numbered P limit t es f m false w refl

pub returns-clause-larger : goal.returns-clause-larger
returns-clause-larger c = λ P limit t es f m w larger more. explored_beyond P limit larger more t es f m false w refl

pub returns-clause-exhausted : goal.returns-clause-exhausted
returns-clause-exhausted c = whole_exhausts
