-- Outcomes of proofs, and the listing of all within a limit: the answers of the SLD tree, in textual order (Lloyd,
-- sections 7 and 9).
use Rattle.std.specs.Prelude.{ℕ, suc, ◌+◌, ◌≡◌, ◌<◌, ◌≤◌, ◌↔◌, false, List, [], ◌∷◌, ◌++◌, length}
use Rattle.and_model.specs.Terms.{Substitution}
use Rattle.and_model.specs.Solutions.{Equation, MostGeneral}
use Rattle.and_model.specs.Programs.{Program, Arithmetic, clause_at, clause_weight, is_of, Of}
use Rattle.and_model.specs.Trees.{QueryTree, query_agenda, blank, Open, IsLeftmost, IsWhole, HasOutcome, Closed}
use Rattle.and_model.specs.Trees.{call_of, reduce, weight, code}
use Rattle.and_model.specs.Lines.{Bytes, line}

-- What a proof ends with: the line of an answer, or of one whose arithmetic waits forever.
pub data Outcome : Type 0 where
  answer : Bytes → Outcome
  floundered : Bytes → Outcome

abbrev pub outcome_of : List Arithmetic → Bytes → Outcome
outcome_of [] text = answer text
outcome_of (g ∷ gs) text = floundered text

abbrev pub line_of : Outcome → Bytes
line_of (answer text) = text
line_of (floundered text) = text

-- The tree is whole, its closed equations have a solution, and the outcome has the line of a most general one with
-- the goals that still wait.
abbrev pub Ends : {P : Program} → QueryTree P → Outcome → Type 0
Ends {P} t o =
    IsWhole t × (es : List Equation) × (gs : List Arithmetic) × Closed t es gs × (s : Substitution) × MostGeneral s es
    × (o ≡ outcome_of gs (line P s gs))

-- an entry of a listing: the code of a proof, and its outcome
pub record Entry : Type 0 where
  pub code : List ℕ
  pub outcome : Outcome

module _ (P : Program) (limit : ℕ) where
  mutual
    -- A tree without open calls lists its outcome, if it has one; any other lists what its leftmost call leads to.
    pub data Lists : QueryTree P → List Entry → Type 0 where
      answered : (t : QueryTree P) (o : Outcome) → Ends t o → Lists t (record { code = code t; outcome = o } ∷ [])
      nothing : (t : QueryTree P) → IsWhole t → (HasOutcome t → ⊥) → Lists t []
      calls : (t : QueryTree P) (o : Open t) (ls : List Entry) → IsLeftmost t o → ListsFrom t o 1 ls → Lists t ls

    -- the clauses from number c on, in textual order: those of the call's predicate with which the tree weighs at
    -- most the limit
    pub data ListsFrom : (t : QueryTree P) → Open t → ℕ → List Entry → Type 0 where
      no_more : (t : QueryTree P) (o : Open t) (c : ℕ) → length P.clauses < c → ListsFrom t o c []
      other : (t : QueryTree P) (o : Open t) (c : ℕ) (ls : List Entry) → c ≤ length P.clauses
          → is_of P (call_of t o) c ≡ false → ListsFrom t o (suc c) ls → ListsFrom t o c ls
      heavy : (t : QueryTree P) (o : Open t) (c : ℕ) (ls : List Entry) → Of P (call_of t o) c
          → limit < weight t + clause_weight (clause_at P c) → ListsFrom t o (suc c) ls → ListsFrom t o c ls
      light : (t : QueryTree P) (o : Open t) (c : ℕ) (ks ls : List Entry) → (h : Of P (call_of t o) c)
          → weight t + clause_weight (clause_at P c) ≤ limit → Lists (reduce t o c h) ks → ListsFrom t o (suc c) ls
          → ListsFrom t o c (ks ++ ls)

  -- the listing of the query: of the tree in which all calls are left, or nothing where the query weighs too much
  pub data Listing : List Entry → Type 0 where
    of_query : (ls : List Entry) → weight (blank {P = P} (query_agenda P)) ≤ limit
        → Lists (blank (query_agenda P)) ls → Listing ls
    too_heavy : limit < weight (blank {P = P} (query_agenda P)) → Listing []

-- Every larger limit has the same listing.
abbrev pub Exhausted : Program → ℕ → Type 0
Exhausted P limit = (more : ℕ) → limit ≤ more → (ls : List Entry) → Listing P more ls ↔ Listing P limit ls
