-- What a program's fork tree is answered with (this project's own).
use Rattle.std.specs.Prelude.{ℕ, ◌≡◌, ◌<◌, if◌then◌else◌, ltb, List, ◌++◌}
use Rattle.and_model.specs.Limits.{Cut, OverLimit}
use Rattle.and_model.specs.Lines.{Bytes}
use Rattle.and_model.specs.Output.{complete, limit_met, last_lines}
use Rattle.and_model.specs.Programs.{Program}
use Rattle.and_model.specs.Trees.{blank, query_agenda}
use Rattle.and_fork_texts.specs.Texts.{Line, TreeText, text_of, count_of, is_answer, is_floundered}
use Rattle.and_status.specs.declared.status.Status.{Status}
use Rattle.and_status.specs.declared.status.Status.TheVariants.{Answers, NoAnswer, Limit, Floundered}

-- This is the text of the fork tree of the program's query, and then that it is whole.
pub record DrawsAll (limit : ℕ) (fact : List Line → Type 0) (program : Program) (out : Bytes) : Type 0 where
  pub lines : List Line
  pub tree : TreeText program limit (blank (query_agenda program)) 0 lines
  pub written : out ≡ text_of lines ++ last_lines complete
  pub has : fact lines

-- It is told alone that the limit was met, and the limit kept the search from going on.
pub record DrawsNone (limit : ℕ) (program : Program) (out : Bytes) : Type 0 where
  pub cut : Cut program
  pub over : OverLimit program limit cut
  pub written : out ≡ last_lines limit_met

-- some branch ended with an answer, or floundered, or none did
abbrev pub SomeAnswers : List Line → Type 0
SomeAnswers ls = (0 < count_of is_answer ls) × (count_of is_floundered ls ≡ 0)

abbrev pub SomeFlounder : List Line → Type 0
SomeFlounder ls = 0 < count_of is_floundered ls

abbrev pub NoneEnd : List Line → Type 0
NoneEnd ls = (count_of is_answer ls ≡ 0) × (count_of is_floundered ls ≡ 0)

-- What a program's fork tree is answered with under each status.
abbrev pub WasForked : ℕ → Program → Status → Bytes → Type 0
WasForked limit program Answers out = DrawsAll limit SomeAnswers program out
WasForked limit program Floundered out = DrawsAll limit SomeFlounder program out
WasForked limit program NoAnswer out = DrawsAll limit NoneEnd program out
WasForked limit program Limit out = DrawsNone limit program out
WasForked limit program other out = ⊥

-- the status of a tree, by how many of its branches are answers, and how many floundered
abbrev pub tree_status : ℕ → ℕ → Status
tree_status answers floundered =
    if ltb 0 floundered then Floundered else if ltb 0 answers then Answers else NoAnswer
