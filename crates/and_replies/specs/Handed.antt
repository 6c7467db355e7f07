-- How the answer to a query is handed on from who made it to who joins all (this project's own).
use Rattle.std.specs.Prelude.{ℕ, suc, ◌≡◌, ◌<◌, Bool, nat_eq, List, [], ◌∷◌, ◌++◌, length, drop, get_or}
use Rattle.std.specs.List.{list_any}
use Rattle.and_model.specs.Lines.{Bytes}
use Rattle.and_batch_text.specs.Queries.{Span}
use Rattle.and_batch_text.specs.Refused.{IsBatch}
use Rattle.and_questions.specs.Batched.{Part, IsPart, query_line, status_by}
use Rattle.and_status.specs.declared.status.Status.{Status}
use Rattle.and_status.specs.declared.status.Status.TheVariants.{Answers, NoAnswer, Usage, Refused}
use Rattle.and_status.specs.declared.status.Status.TheVariants.{ReadFault, WriteFault}
use Rattle.and_status.specs.declared.status.Status.TheVariants.{Limit, Memory, Floundered}

-- the number of a status, with which the program exits
abbrev pub number_of : Status → ℕ
number_of Answers = 0
number_of NoAnswer = 1
number_of Usage = 2
number_of Refused = 3
number_of ReadFault = 4
number_of WriteFault = 5
number_of Limit = 6
number_of Memory = 7
number_of Floundered = 8

-- the number of the status, and then what is due
abbrev pub handed : Status → Bytes → Bytes
handed status out = number_of status ∷ out

-- what was handed on is what the text is answered with by itself
abbrev pub IsHandedFor : (Replies : Status → Bytes → Bytes → Type 0) → (text given : Bytes) → Type 0
IsHandedFor Replies text given = (status : Status) × (out : Bytes) × Replies status text out
    × (given ≡ handed status out)

-- what was handed on is a part
abbrev pub IsHanded : (Replies : Status → Bytes → Bytes → Type 0) → Bytes → List Span → (number : ℕ) → Bytes → Type 0
IsHanded Replies bytes spans number text =
    (p : Part) × IsPart Replies bytes spans number p × (text ≡ handed p.status p.out)

-- so it is where the text is one of such queries, and the number is that of one
abbrev pub IsDue : (Replies : Status → Bytes → Bytes → Type 0) → Bytes → List Span → (number : ℕ) → Bytes → Type 0
IsDue Replies bytes spans number text =
    IsBatch bytes spans → number < length spans → IsHanded Replies bytes spans number text

-- what was handed on, each behind the line of its number, which is this for the first
abbrev pub joined_texts : ℕ → List Bytes → Bytes
joined_texts number [] = []
joined_texts number (t ∷ ts) = query_line number ++ drop 1 t ++ joined_texts (suc number) ts

-- something was handed on under the status of that number
abbrev pub some_text : ℕ → List Bytes → Bool
some_text number texts = list_any (λ (t : Bytes). nat_eq (get_or t 0 0) number) texts

-- the status of all that was handed on
abbrev pub status_of_texts : List Bytes → Status
status_of_texts texts = status_by (some_text 6 texts) (some_text 8 texts) (some_text 1 texts)
