-- What a run writes.
use Rattle.std.specs.Prelude.{ℕ, ◌+◌, ◌-◌, ◌^◌, ◌≡◌, ◌<◌, ◌≤◌, ◌⊎◌, min, List, [], ◌∷◌, ◌++◌, Some, codes}
use Rattle.std.specs.Fmt.{decimal}
use Rattle.and_model.specs.Solutions.{Equation, Solvable}
use Rattle.and_model.specs.Programs.{Program, Arithmetic, clause_at, clause_weight, Of}
use Rattle.and_model.specs.Trees.{QueryTree, unfold_code, Open, IsLeftmost, Closed, call_of, weight}
use Rattle.and_model.specs.Lines.{Bytes}
use Rattle.and_model.specs.Listing.{line_of, Entry, Listing}

-- How a run ends: some branch outgrew the limit; or none did, and the numbers of forks and of failed branches may be
-- told.
pub data Finish : Type 0 where
  limit_met : Finish
  complete : Finish
  complete_with : ℕ → ℕ → Finish

-- a count, which stays at the largest of 64 bits
abbrev pub counted : ℕ → Bytes
counted n = decimal (min n (2 ^ 64 - 1))

abbrev pub last_lines : Finish → Bytes
last_lines limit_met = codes "% limit met" ++ 10 ∷ []
last_lines complete = codes "% complete" ++ 10 ∷ []
last_lines (complete_with forks failed) =
    codes "% complete" ++ 10 ∷ codes "% forks " ++ counted forks ++ codes " failed " ++ counted failed ++ 10 ∷ []

-- each line, with a newline
abbrev pub lines_of : List Entry → Bytes
lines_of [] = []
lines_of (e ∷ es) = line_of e.outcome ++ 10 ∷ lines_of es

-- The bytes are the lines of the listing, and then the last line or two.
abbrev pub Output : Program → ℕ → Finish → Bytes → Type 0
Output P limit finish bytes = (ls : List Entry) × Listing P limit ls × (bytes ≡ lines_of ls ++ last_lines finish)

-- The unfolding of the code is there and within the limit, its closed equations have a solution, and its leftmost
-- call is of the predicate of the clause, with which it weighs more than the limit. Or the query alone weighs more:
-- that is told by the empty code and clause 0.
abbrev pub OverLeft : Program → ℕ → List ℕ → ℕ → Type 0
OverLeft P limit cs c =
    ((cs ≡ []) × (c ≡ 0) × (limit < clause_weight P.query))
    ⊎ ((t : QueryTree P) × (unfold_code P cs ≡ Some t) × (weight t ≤ limit) × (es : List Equation)
    × (gs : List Arithmetic) × Closed t es gs × Solvable es
    × (o : Open t) × IsLeftmost t o × Of P (call_of t o) c × (limit < weight t + clause_weight (clause_at P c)))

-- nothing of the program is left over
abbrev pub NoneOver : Program → (limit : ℕ) → Type 0
NoneOver P limit = (cs : List ℕ) (c : ℕ) → OverLeft P limit cs c → ⊥
