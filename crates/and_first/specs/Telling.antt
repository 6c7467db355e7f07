-- What is told of what a search found.
use Rattle.std.specs.Prelude.{ℕ, ◌≡◌, List, length, ◌++◌}
use Rattle.std.specs.List.{list_any}
use Rattle.and_model.specs.Listing.{Entry}
use Rattle.and_model.specs.Output.{lines_of}
use Rattle.and_first.specs.First.{last_line, is_floundered}
use Rattle.and_first.specs.declared.first.End.{End}
use Rattle.and_first.specs.declared.first.First.{First}

-- The entries are told, and how the search ended.
pub record Tells (told : List Entry) (count : ℕ) (end : End) (first : First) : Type 0 where
  pub end_is : first.end ≡ end
  pub text : first.text ≡ lines_of told ++ last_line count end
  pub lines : first.lines ≡ length told
  pub floundered : first.floundered ≡ list_any (λ (e : Entry). is_floundered e.outcome) told
