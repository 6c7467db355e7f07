-- What a text of several queries is refused for (this project's own order).
use Rattle.std.specs.Prelude.{ℕ, ◌≡◌, ◌<◌, ◌≤◌, List, [], length, slice_get, Some}
use Rattle.and_model.specs.Lines.{Bytes}
use Rattle.and_source.specs.Source.{SourceProgram}
use Rattle.and_model.specs.declared.limits.TheConstants.{MAX_BYTES}
use Rattle.and_syntax.specs.Tables.{source}
use Rattle.and_language.specs.Refusals.{Refusal, IsRefused, Reads, at, too_big, second_query}
use Rattle.and_batch_text.specs.Queries.{Span, HasQueries}
use Rattle.and_batch_text.specs.Singles.{single}

-- the texts of the first queries, each by itself, are those of programs
abbrev pub AreRead : Bytes → List Span → ℕ → Type 0
AreRead bytes spans count = (k : ℕ) → k < count → (P : SourceProgram) × Reads (single bytes spans k) P

-- The text is refused: for its size; where it has no query, as it is by itself; where it has more than 256, at the
-- next one; else as the first of its queries is that is refused by itself.
pub data IsBatchRefused (bytes : Bytes) : Refusal → Type 0 where
  too_long : MAX_BYTES < length bytes → IsBatchRefused bytes (at bytes MAX_BYTES (too_big source))
  without_query : (r : Refusal) → length bytes ≤ MAX_BYTES → HasQueries bytes [] → IsRefused bytes r
      → IsBatchRefused bytes r
  too_many : (spans : List Span) (s : Span) → length bytes ≤ MAX_BYTES → HasQueries bytes spans
      → slice_get spans 256 ≡ Some s → IsBatchRefused bytes (at bytes s.start second_query)
  at_query : (spans : List Span) (k : ℕ) (r : Refusal) → length bytes ≤ MAX_BYTES → HasQueries bytes spans
      → length spans ≤ 256 → k < length spans → AreRead bytes spans k → IsRefused (single bytes spans k) r
      → IsBatchRefused bytes r

-- These are the text's queries, one at least and at most 256; by itself each is that of a program.
pub record IsBatch (bytes : Bytes) (spans : List Span) : Type 0 where
  pub size : length bytes ≤ MAX_BYTES
  pub queries : HasQueries bytes spans
  pub some : 0 < length spans
  pub few : length spans ≤ 256
  pub read : AreRead bytes spans (length spans)
