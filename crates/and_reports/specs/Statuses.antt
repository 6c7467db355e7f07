-- The status of what was found (this project's own).
use Rattle.std.specs.Prelude.{ℕ, nat_eq, Bool, if◌then◌else◌, List, [], ◌∷◌, Option, Some, None}
use Rattle.std.specs.List.{list_any}
use Rattle.and_model.specs.Listing.{Entry}
use Rattle.and_model.specs.declared.goal
use Rattle.and_modes.specs.declared.verdicts.Verdict.{Verdict}
use Rattle.and_modes.specs.declared.verdicts.Verdict.TheVariants.{Safe, Waits}
use Rattle.and_first.specs.First.{is_floundered}
use Rattle.and_first.specs.declared.first.End.{End}
use Rattle.and_first.specs.declared.first.End.TheVariants as ends
use Rattle.and_status.specs.declared.status.Status.{Status}
use Rattle.and_status.specs.declared.status.Status.TheVariants.{Answers, NoAnswer, Limit, Floundered}

-- some line is no answer, since some arithmetic waits forever
abbrev pub has_floundered : List Entry → Bool
has_floundered ls = list_any (λ (e : Entry). is_floundered e.outcome) ls

-- the status of a search that was exhausted, by its listing
abbrev pub exhausted : List Entry → Status
exhausted [] = NoAnswer
exhausted (e ∷ es) = if has_floundered (e ∷ es) then Floundered else Answers

-- the status of a search that was cut off there, if anywhere
abbrev pub status_for : Option goal.Cut.Cut → List Entry → Status
status_for None ls = exhausted ls
status_for (Some cut) ls = Limit

-- the status of lines that are told
abbrev pub told_status : (floundered : Bool) → Status
told_status floundered = if floundered then Floundered else Answers

-- the status of a search for the first answers, by how it ended and what is told
abbrev pub first_status : End → List Entry → Status
first_status (ends.Within step) told = if has_floundered told then Floundered else Answers
first_status ends.Complete told = exhausted told
first_status ends.LimitMet told = Limit

-- the same, by how many lines are told and whether one of them is floundered
abbrev pub status_seen : End → (lines : ℕ) → (floundered : Bool) → Status
status_seen (ends.Within step) lines floundered = told_status floundered
status_seen ends.Complete lines floundered = if nat_eq lines 0 then NoAnswer else told_status floundered
status_seen ends.LimitMet lines floundered = Limit

-- the status of a verdict
abbrev pub status_told : Verdict → Status
status_told Safe = Answers
status_told (Waits clause item variable) = NoAnswer
