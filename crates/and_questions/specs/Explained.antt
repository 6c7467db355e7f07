-- What is told of why an answer is one (this project's own).
use Rattle.std.specs.Prelude.{ℕ, ◌≡◌, ◌<◌, ◌≤◌, ◌-◌, Bool, false, if◌then◌else◌, List, [], ◌∷◌, ◌++◌, length, get_or}
use Rattle.std.specs.Prelude.{nat_eq, slice_get, Option, Some, None}
use Rattle.and_model.specs.Limits.{Cut, OverLimit}
use Rattle.and_model.specs.Lines.{Bytes}
use Rattle.and_model.specs.Listing.{Entry}
use Rattle.and_model.specs.Output.{complete, limit_met, last_lines}
use Rattle.and_model.specs.Programs.{Program}
use Rattle.and_model.specs.Reached.{Numbers}
use Rattle.and_model.specs.Trees.{blank, query_agenda}
use Rattle.and_model.specs.declared.goal
use Rattle.and_proof.specs.Proofs.{ProofText}
use Rattle.and_source.specs.Lifted.{lift}
use Rattle.and_source.specs.Source.{SourceProgram}
use Rattle.and_source.specs.SourceListing.{SourceListing, SourceExhausted}
use Rattle.and_status.specs.declared.status.Status.{Status}
use Rattle.and_status.specs.declared.status.Status.TheVariants.{NoAnswer, Limit}

-- the last byte, where there is one, is a newline
abbrev pub is_newline : Option ℕ → Bool
is_newline None = false
is_newline (Some byte) = nat_eq byte 10

abbrev pub ends_line : Bytes → Bool
ends_line bytes = is_newline (slice_get bytes (length bytes - 1))

-- the bytes, and a newline where they do not end with one
abbrev pub whole_lines : Bytes → Bytes
whole_lines bytes = if ends_line bytes then bytes else bytes ++ 10 ∷ []

-- the entry stands at the place, from 1 on
abbrev pub IsAt : List Entry → ℕ → Entry → Type 0
IsAt ls place entry = (1 ≤ place) × (place ≤ length ls) × (get_or ls (place - 1) entry ≡ entry)

-- What is written is the text, and the proof of the entry at the place of the program's listing within the limit. (The
-- proof is one of the program to which it is lifted.)
pub record Explains (place limit : ℕ) (bytes : Bytes) (program : SourceProgram) (out : Bytes) : Type 0 where
  pub listing : List Entry
  pub entry : Entry
  pub proof : Bytes
  pub lists : SourceListing program limit listing
  pub is_there : IsAt listing place entry
  pub proves : ProofText (lift program) entry.code proof
  pub written : out ≡ whole_lines bytes ++ proof

-- The listing has no such entry, and every larger limit has the same one; this is written alone.
pub record LacksAll (place limit : ℕ) (program : SourceProgram) (out : Bytes) : Type 0 where
  pub listing : List Entry
  pub forks : ℕ
  pub failed : ℕ
  pub lists : SourceListing program limit listing
  pub few : length listing < place
  pub exhausted : SourceExhausted program limit
  pub numbers : Numbers (blank {P = lift program} (query_agenda (lift program))) forks failed
  pub written : out ≡ last_lines complete

-- The listing within the limit has no such entry, and the limit kept the search from going on; this is written alone.
pub record LacksSome (place limit : ℕ) (program : SourceProgram) (out : Bytes) : Type 0 where
  pub listing : List Entry
  pub cut : Cut (lift program)
  pub lists : SourceListing program limit listing
  pub few : length listing < place
  pub over : OverLimit (lift program) limit cut
  pub written : out ≡ last_lines limit_met

-- the text of a program, whole lines of it, and behind it that of the code's proof
abbrev pub Documents : Program → Bytes → (code : List ℕ) → Bytes → Type 0
Documents program bytes code out = (proof : Bytes) × ProofText program code proof × (out ≡ whole_lines bytes ++ proof)

-- the status where there is no such answer, by where the search was cut off
abbrev pub lacking_status : Option goal.Cut.Cut → Status
lacking_status None = NoAnswer
lacking_status (Some cut) = Limit
