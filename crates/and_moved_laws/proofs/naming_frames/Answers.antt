use Rattle.and_moved_laws.proofs.Naming
use Rattle.and_moved_laws.proofs.naming_frames.Goals as goal

pub returns-clause-node : goal.returns-clause-node
returns-clause-node c = λ P frames f base node h begins inside cells. Naming.node_named P frames f h base node begins inside cells

pub returns-clause-own : goal.returns-clause-own
returns-clause-own c = λ P frames clause base node h own. Naming.own_node_named P frames clause base node h own

pub returns-clause-number : goal.returns-clause-number
returns-clause-number c = λ P frames g left right pair loaded there node h. Naming.own_pair_named P loaded frames g left right pair there node h

pub returns-clause-goal : goal.returns-clause-goal
returns-clause-goal c = λ P frames g node own h term. Naming.goal_named P frames g node own h term

pub returns-clause-last : goal.returns-clause-last
returns-clause-last c = λ P frames f node h some fits. Naming.last_named P frames f node h some fits

pub returns-clause-parts : goal.returns-clause-parts
returns-clause-parts c = λ P frames r q fall names h. Naming.part_named P frames r q fall names h

pub returns-clause-more : goal.returns-clause-more
returns-clause-more c = λ P frames others row in_more names. Naming.more_frames P frames others row in_more names

pub returns-clause-behind : goal.returns-clause-behind
returns-clause-behind c = λ P frames row by names. Naming.widened_names P frames row by names

pub returns-clause-written : goal.returns-clause-written
returns-clause-written c = λ P frames row written pair z x names. Naming.written_names P frames row written pair z x names

pub returns-clause-settled : goal.returns-clause-settled
returns-clause-settled c = λ P frames old new pairs fall names each sets. Naming.settled_names P frames old new pairs fall names each sets
