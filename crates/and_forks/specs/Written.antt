-- A fork tree as it is written, line by line (this project's own).
use Rattle.std.specs.Prelude.{◌≡◌, List}
use Rattle.and_search_laws.specs.Found.{kept_count}
use Rattle.and_fork_texts.specs.Texts.{Line, text_of, count_of, is_fork, is_failed, is_answer, is_floundered}
use Rattle.and_forks.specs.declared.lines.Lines.{Lines}

-- This is the text of the lines, and these are the numbers of those of each kind.
pub record AreWritten (lines : List Line) (l : Lines) : Type 0 where
  pub text : l.text ≡ text_of lines
  pub forks : l.forks ≡ kept_count (count_of is_fork lines)
  pub failed : l.failed ≡ kept_count (count_of is_failed lines)
  pub answers : l.answers ≡ kept_count (count_of is_answer lines)
  pub floundered : l.floundered ≡ kept_count (count_of is_floundered lines)
