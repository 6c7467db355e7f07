-- What a text of several queries is answered with (this project's own).
use Rattle.std.specs.Prelude.{ℕ, suc, ◌≡◌, Bool, true, false, if◌then◌else◌, List, [], ◌∷◌, ◌++◌, length, codes}
use Rattle.std.specs.Prelude.{slice_get, Some}
use Rattle.std.specs.List.{list_any}
use Rattle.std.specs.Fmt.{decimal}
use Rattle.and_model.specs.Lines.{Bytes}
use Rattle.and_language.specs.Refusals.{Refusal}
use Rattle.and_reader.specs.RefusalLine.{refusal_line}
use Rattle.and_batch_text.specs.Queries.{Span}
use Rattle.and_batch_text.specs.Singles.{single}
use Rattle.and_batch_text.specs.Refused.{IsBatch, IsBatchRefused}
use Rattle.and_status.specs.declared.status.Status.{Status}
use Rattle.and_status.specs.declared.status.Status.TheVariants.{Answers, NoAnswer, Usage, Refused}
use Rattle.and_status.specs.declared.status.Status.TheVariants.{ReadFault, WriteFault}
use Rattle.and_status.specs.declared.status.Status.TheVariants.{Limit, Memory, Floundered}

-- what one query is answered with, and the status of that
pub record Part : Type 0 where
  pub status : Status
  pub out : Bytes

-- the line of a query's number, which is told from 1 on
abbrev pub query_line : ℕ → Bytes
query_line number = codes "% query " ++ decimal (suc number) ++ 10 ∷ []

-- the parts, each behind the line of its number, which is this for the first
abbrev pub joined : ℕ → List Part → Bytes
joined number [] = []
joined number (p ∷ ps) = query_line number ++ p.out ++ joined (suc number) ps

abbrev pub has_met_limit : Status → Bool
has_met_limit Answers = false
has_met_limit NoAnswer = false
has_met_limit Usage = false
has_met_limit Refused = false
has_met_limit ReadFault = false
has_met_limit WriteFault = false
has_met_limit Limit = true
has_met_limit Memory = false
has_met_limit Floundered = false

abbrev pub has_floundered : Status → Bool
has_floundered Answers = false
has_floundered NoAnswer = false
has_floundered Usage = false
has_floundered Refused = false
has_floundered ReadFault = false
has_floundered WriteFault = false
has_floundered Limit = false
has_floundered Memory = false
has_floundered Floundered = true

abbrev pub has_no_line : Status → Bool
has_no_line Answers = false
has_no_line NoAnswer = true
has_no_line Usage = false
has_no_line Refused = false
has_no_line ReadFault = false
has_no_line WriteFault = false
has_no_line Limit = false
has_no_line Memory = false
has_no_line Floundered = false

abbrev pub some_part : (Status → Bool) → List Part → Bool
some_part test parts = list_any (λ (p : Part). test p.status) parts

-- the status of a batch in which some query met the limit, or not; some line is floundered, or none is; some query has
-- no line, or each has one
abbrev pub status_by : (limit floundered none : Bool) → Status
status_by limit floundered none =
    if limit then Limit else if floundered then Floundered else if none then NoAnswer else Answers

abbrev pub batch_status : List Part → Status
batch_status parts =
    status_by (some_part has_met_limit parts) (some_part has_floundered parts) (some_part has_no_line parts)

-- In what follows one query is answered, where it stands alone in a text, as `Replies` has it: under that status, to
-- that text, with those bytes.
module _ (Replies : Status → Bytes → Bytes → Type 0) where
  -- what the text of the query with that number, from 0 on, is answered with by itself
  abbrev pub IsPart : Bytes → List Span → (number : ℕ) → Part → Type 0
  IsPart bytes spans number part = Replies part.status (single bytes spans number) part.out

  -- these are the parts of all queries, in order
  pub record AreParts (bytes : Bytes) (spans : List Span) (parts : List Part) : Type 0 where
    pub count : length parts ≡ length spans
    pub each : (k : ℕ) (p : Part) → slice_get parts k ≡ Some p → IsPart bytes spans k p

  -- All queries of the bytes are answered, each by itself, and this is written under that status.
  pub record IsBatched (status : Status) (bytes out : Bytes) : Type 0 where
    pub spans : List Span
    pub batch : IsBatch bytes spans
    pub parts : List Part
    pub are_parts : AreParts bytes spans parts
    pub written : out ≡ joined 0 parts
    pub status_is : status ≡ batch_status parts

  -- What a text of several queries is answered with under each status.
  abbrev pub WasBatched : Status → Bytes → Bytes → Type 0
  WasBatched Answers bytes out = IsBatched Answers bytes out
  WasBatched NoAnswer bytes out = IsBatched NoAnswer bytes out
  WasBatched Floundered bytes out = IsBatched Floundered bytes out
  WasBatched Limit bytes out = IsBatched Limit bytes out
  WasBatched Refused bytes out = (r : Refusal) × IsBatchRefused bytes r × (out ≡ refusal_line r)
  WasBatched Usage bytes out = ⊥
  WasBatched ReadFault bytes out = ⊥
  WasBatched WriteFault bytes out = ⊥
  WasBatched Memory bytes out = ⊥
