use Rattle.and_moved_laws.proofs.Speaking
use Rattle.and_moved_laws.proofs.parts_stand.Goals as goal

pub returns : goal.returns
returns c = λ P limit key v t loaded x reached of_limit of_key. Speaking.parts_stand P loaded limit key v t x reached of_limit of_key
