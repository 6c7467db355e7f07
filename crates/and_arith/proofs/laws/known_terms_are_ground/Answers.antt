use Rattle.and_arith.proofs.Grounding.{value_ground, ground_known_ground}
use Rattle.and_arith.proofs.laws.known_terms_are_ground.Goals as goal

pub returns : goal.returns
returns c = record {
  ground = λ P s r t ground known. ground_known_ground P s r t known ground;
  value = value_ground;
}
