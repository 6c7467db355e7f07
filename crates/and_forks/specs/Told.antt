-- What a visitor that writes the fork tree was told (this project's own).
use Rattle.std.specs.Prelude.{ℕ, ◌≡◌, Bool, false, List, [], ◌∷◌, Option, Some, None, is_some, Contains}
use Rattle.and_model.specs.declared.goal
use Rattle.and_traces.specs.Traces as told
use Rattle.and_traces.specs.Traces.{Event, Report, has_cut}
use Rattle.and_fork_texts.specs.Texts.{Node, Line, fork, failed, ended}
use Rattle.and_forks.specs.Written.{AreWritten}
use Rattle.and_forks.specs.declared.lines.Lines.{Lines}
use Rattle.and_forks.specs.declared.writer.Writer.{Writer}

-- what the line of an event tells, where nothing is cut off
abbrev pub node_of : Event → Node
node_of (told.forked cs) = fork cs
node_of (told.cut x) = failed
node_of told.failed = failed
node_of (told.ended code outcome) = ended outcome

-- the lines of these reports
abbrev pub lines_of : List Report → List Line
lines_of [] = []
lines_of (r ∷ reports) = record { depth = r.depth; node = node_of r.event } ∷ lines_of reports

-- These are the lines of what was told, and no cut was; or it was told of this cut.
abbrev pub AreLinesOf : Option goal.Cut.Cut → Lines → List Report → Type 0
AreLinesOf None lines seen = (has_cut seen ≡ false) × AreWritten (lines_of seen) lines
AreLinesOf (Some x) lines seen = (depth : ℕ) × Contains seen (record { depth = depth; event = told.cut x })

abbrev pub HasTold : Writer → List Report → Type 0
HasTold w seen = AreLinesOf w.met w.lines seen

-- It was told of a cut.
abbrev pub has_met : Writer → Bool
has_met w = is_some w.met
