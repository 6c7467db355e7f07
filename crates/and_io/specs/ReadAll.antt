-- What `read_all` may answer. All of it is this project's own.
use Rattle.std.specs.Prelude.{◌≡◌, ℕ, ◌+◌, ◌≤◌, List, [], ◌++◌, length, Option}
use Rattle.and_io.specs.Flow.{Takes, AreAll}
use Rattle.and_io.specs.declared.reading.ReadAll.{ReadAll}
use Rattle.and_io.specs.declared.reading.ReadAll.TheVariants.{Whole, Over}

-- The bytes that the source gave in this call are the text: at most `limit` and then the end, or `limit + 1` of them
abbrev pub TookUpTo : ℕ → List ℕ → List ℕ → Type 0 → ReadAll → Type 0
TookUpTo limit old new ended (Whole text) = (new ≡ old ++ text) × (length text ≤ limit) × ended
TookUpTo limit old new ended (Over text) = (new ≡ old ++ text) × (length text ≡ limit + 1)

-- The source gave at most so many bytes in this call
abbrev pub TookAtMost : ℕ → List ℕ → List ℕ → Type 0
TookAtMost most old new = (bytes : List ℕ) × (new ≡ old ++ bytes) × (length bytes ≤ most)

-- All the bytes that were left, at most `limit`, or the first `limit + 1` of more
abbrev pub ReadsUpTo : ℕ → Option (List ℕ) → Option (List ℕ) → ReadAll → Type 0
ReadsUpTo limit old new (Whole text) =
    Takes old new text × AreAll old text × AreAll new [] × (length text ≤ limit)
ReadsUpTo limit old new (Over text) = Takes old new text × (length text ≡ limit + 1)

-- The answer says that there was more than the limit
abbrev pub IsOver : ReadAll → Type 0
IsOver (Whole text) = ⊥
IsOver (Over text) = Unit {0}
