-- Outcomes of the proofs of a program with disjunctions, and the listing of all within a limit, in textual order.
use Rattle.std.specs.Prelude.{ℕ, suc, ◌≡◌, ◌<◌, ◌≤◌, ◌↔◌, List, [], ◌∷◌, ◌++◌, length, Some, None}
use Rattle.and_model.specs.Terms.{Substitution}
use Rattle.and_model.specs.Solutions.{Equation, Solvable, MostGeneral}
use Rattle.and_model.specs.Programs.{Program, Arithmetic}
use Rattle.and_model.specs.Closure.{Closes}
use Rattle.and_model.specs.Lines.{Bytes, line}
use Rattle.and_model.specs.Listing.{Outcome, outcome_of, Entry}
use Rattle.and_model.specs.Output.{Finish, last_lines, lines_of}
use Rattle.and_source.specs.Source.{SourceProgram, numbers_in, source_weight}
use Rattle.and_source.specs.Unfolding.{Unfolding, IsSourceWhole, source_start, source_extend}

-- what a line needs of a program: the written names of the query's variables, and the table of names
abbrev pub written_program : SourceProgram → Program
written_program P = record {
  clauses = [];
  query = record {
    head = P.query.head;
    body = [];
    variables = P.query.variables;
    written = P.query.written;
    line = P.query.line;
  };
  names = P.names;
}

-- what closing the equations and the arithmetic ends with
abbrev pub SourceCloses : Unfolding → List Equation → List Arithmetic → Type 0
SourceCloses u es gs = Closes u.equations u.arithmetics es gs

-- The unfolding is whole, its closed equations have a solution, and the outcome has the line of a most general one
-- with the goals that still wait.
abbrev pub SourceEnds : SourceProgram → Unfolding → Outcome → Type 0
SourceEnds P u o =
    IsSourceWhole u × (es : List Equation) × (gs : List Arithmetic) × SourceCloses u es gs
    × (s : Substitution) × MostGeneral s es × (o ≡ outcome_of gs (line (written_program P) s gs))

-- no item is left, and the closed equations have a solution
abbrev pub HasSourceOutcome : Unfolding → Type 0
HasSourceOutcome u =
    (es : List Equation) × (gs : List Arithmetic) × IsSourceWhole u × SourceCloses u es gs × Solvable es

module _ (P : SourceProgram) (limit : ℕ) where
  mutual
    -- What is whole lists its outcome, if it has one; any other unfolding lists what its first call or choice leads
    -- to.
    pub data SourceLists : (code : List ℕ) → Unfolding → List Entry → Type 0 where
      source_answered : (cs : List ℕ) (u : Unfolding) (o : Outcome) → SourceEnds P u o
          → SourceLists cs u (record { code = cs; outcome = o } ∷ [])
      source_nothing : (cs : List ℕ) (u : Unfolding) → IsSourceWhole u → (HasSourceOutcome u → ⊥) → SourceLists cs u []
      source_calls : (cs : List ℕ) (u : Unfolding) (ls : List Entry) → (IsSourceWhole u → ⊥)
          → SourceListsFrom cs u 1 ls → SourceLists cs u ls

    -- The clauses of the call's predicate, or the alternatives of the choice, from number c on, with which the whole
    -- weighs at most the limit. (Numbers rise in textual order.)
    pub data SourceListsFrom : (code : List ℕ) → Unfolding → ℕ → List Entry → Type 0 where
      source_no_more : (cs : List ℕ) (u : Unfolding) (c : ℕ) → length (numbers_in P) < c → SourceListsFrom cs u c []
      source_other : (cs : List ℕ) (u : Unfolding) (c : ℕ) (ls : List Entry) → c ≤ length (numbers_in P)
          → source_extend P u c ≡ None → SourceListsFrom cs u (suc c) ls → SourceListsFrom cs u c ls
      source_heavy : (cs : List ℕ) (u v : Unfolding) (c : ℕ) (ls : List Entry) → source_extend P u c ≡ Some v
          → limit < v.weight → SourceListsFrom cs u (suc c) ls → SourceListsFrom cs u c ls
      source_light : (cs : List ℕ) (u v : Unfolding) (c : ℕ) (ks ls : List Entry) → source_extend P u c ≡ Some v
          → v.weight ≤ limit → SourceLists (cs ++ c ∷ []) v ks → SourceListsFrom cs u (suc c) ls
          → SourceListsFrom cs u c (ks ++ ls)

  -- the listing of the query, or nothing where it weighs too much
  pub data SourceListing : List Entry → Type 0 where
    source_query : (ls : List Entry) → source_weight P.query ≤ limit → SourceLists [] (source_start P) ls
        → SourceListing ls
    source_too_heavy : limit < source_weight P.query → SourceListing []

-- Every larger limit has the same listing.
abbrev pub SourceExhausted : SourceProgram → ℕ → Type 0
SourceExhausted P limit = (more : ℕ) → limit ≤ more → (ls : List Entry)
    → SourceListing P more ls ↔ SourceListing P limit ls

-- The bytes are the lines of the listing, and then the last line or two.
abbrev pub SourceOutput : SourceProgram → ℕ → Finish → Bytes → Type 0
SourceOutput P limit finish bytes =
    (ls : List Entry) × SourceListing P limit ls × (bytes ≡ lines_of ls ++ last_lines finish)
