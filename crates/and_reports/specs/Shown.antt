-- What is written of a listing (this project's own).
use Rattle.std.specs.Prelude.{ℕ, false, if◌then◌else◌, List, [], ◌∷◌, ◌++◌, length, map, codes}
use Rattle.std.specs.Fmt.{decimal}
use Rattle.and_model.specs.Lines.{Bytes}
use Rattle.and_model.specs.Listing.{Entry, line_of}
use Rattle.and_model.specs.Output.{Finish, complete, complete_with, last_lines, lines_of}
use Rattle.and_answers.specs.Kept.{finish_of}
use Rattle.and_answers.specs.declared.found.Found.{Found}
use Rattle.and_reports.specs.declared.showing.Show.{Show}
use Rattle.and_reports.specs.declared.showing.Show.TheVariants.{Whole, Summary}

-- the lines of a listing
abbrev pub entry_lines : List Entry → List Bytes
entry_lines ls = map (λ (e : Entry). line_of e.outcome) ls

-- the last of a line and those behind it
abbrev pub last_of : Bytes → List Bytes → Bytes
last_of line [] = line
last_of line (next ∷ lines) = last_of next lines

-- the first line and the last, where there are any
abbrev pub first_and_last : List Bytes → Bytes
first_and_last [] = []
first_and_last (line ∷ lines) = codes "first " ++ line ++ codes "\nlast " ++ last_of line lines ++ codes "\n"

-- how many lines there are, the first of them and the last
abbrev pub counted_lines : List Bytes → Bytes
counted_lines lines = codes "lines " ++ decimal (length lines) ++ codes "\n" ++ first_and_last lines

-- What is written of a listing, and of how the run ended: all lines or the summary of them, and then the last line or
-- two.
abbrev pub shown : Show → List Entry → Finish → Bytes
shown (Whole stats) ls finish = lines_of ls ++ last_lines finish
shown Summary ls finish = counted_lines (entry_lines ls) ++ last_lines finish

-- how a run ends that is complete, with these numbers of forks and of failed branches: they are told where that is
-- asked for
abbrev pub completed : Show → ℕ → ℕ → Finish
completed (Whole stats) forks failed = if stats then complete_with forks failed else complete
completed Summary forks failed = complete

-- how a run ended, as far as it is told
abbrev pub finish : Show → Found → Finish
finish (Whole stats) found = finish_of found stats
finish Summary found = finish_of found false
