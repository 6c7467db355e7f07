use Rattle.and_automaton.proofs.Closing.{state_ends}
use Rattle.and_automaton.proofs.each_state_goes_on.Goals as goal

pub returns : goal.returns
returns c = state_ends
