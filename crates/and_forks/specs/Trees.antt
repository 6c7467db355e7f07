-- The fork tree of a query, as it is answered (this project's own).
use Rattle.std.specs.Prelude.{ℕ, List}
use Rattle.and_model.specs.Programs.{Program}
use Rattle.and_model.specs.Trees.{blank, query_agenda}
use Rattle.and_fork_texts.specs.Texts.{Line, TreeText}
use Rattle.and_traces.specs.Traces.{MeetsLimit}
use Rattle.and_forks.specs.Written.{AreWritten}
use Rattle.and_forks.specs.declared.tree.Walk.{Walk}
use Rattle.and_forks.specs.declared.tree.Walk.TheVariants.{Whole, Cut}

-- The text is that of the query's fork tree, and the numbers count its lines by kind; or the limit was met.
abbrev pub IsForkTree : Program → (limit : ℕ) → Walk → Type 0
IsForkTree P limit (Whole text forks failed answers floundered) =
    (lines : List Line) × TreeText P limit (blank (query_agenda P)) 0 lines
    × AreWritten lines (record {
      text = text;
      forks = forks;
      failed = failed;
      answers = answers;
      floundered = floundered;
    })
IsForkTree P limit (Cut cut) = MeetsLimit P limit cut
