-- Counts and keys of the code, as the definitions have them.
use Rattle.std.specs.Prelude.{◌++◌, ◌∷◌, [], Option, None, Some}
use Rattle.and_model.specs.declared.numbers.ClauseNo.{ClauseNo}
use Rattle.and_histories.specs.PlainTree.{Key, Ending, answered, retired, given_up}
use Rattle.and_tree.specs.Plain.{Tally}
use Rattle.and_tree.specs.declared.counts.Counts.{Counts}
use Rattle.and_tree.specs.declared.counts.Ended.{Ended}
use Rattle.and_tree.specs.declared.counts.Ended.TheVariants.{Answered, Retired, GivenUp}

abbrev pub tally : Counts → Tally
tally c = record { forks = c.forks; answers = c.answers; retired = c.retired; given_up = c.given_up }

abbrev pub ending_of : Ended → Ending
ending_of Answered = answered
ending_of Retired = retired
ending_of GivenUp = given_up

-- a key, with the clause at its end if there is one
abbrev pub with_last : Key → Option ClauseNo → Key
with_last key None = key
with_last key (Some clause) = key ++ clause.0 ∷ []
