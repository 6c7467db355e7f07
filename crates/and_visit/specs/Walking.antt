-- How far a walk was told, and what is still to be walked (this project's own).
use Rattle.std.specs.Prelude.{ℕ, zero, suc, ◌+◌, ◌-◌, ◌*◌, ◌^◌, ◌≤◌, ◌<◌, ◌≡◌, ◌≢◌, List, [], ◌∷◌, ◌++◌, length, map}
use Rattle.std.specs.Prelude.{take}
use Rattle.std.specs.Prelude.{Bool, true, false}
use Rattle.and_model.specs.Prefixes.{IsPrefix}
use Rattle.and_model.specs.Trees.{QueryTree}
use Rattle.and_cells.specs.Ranges.{NamedProgram}
use Rattle.and_code.specs.Telling.{IsTold}
use Rattle.and_branch.specs.Branches.{Held, IsBranchOf}
use Rattle.and_branch.specs.Children.{Fork, AreChildren}
use Rattle.and_branch.specs.Origins.{GoBackFrom}
use Rattle.and_traces.specs.Traces.{Report, Traces, TracesSplits, TracesQuery, CutsMeet}
use Rattle.and_visit.specs.declared.stack.Hand.{Hand}
use Rattle.and_visit.specs.declared.stack.Level.{Level}

-- What is still to be walked, with its depth: a branch, or the children of a fork that are still to come.
pub data Place : Type 0 where
  One : ℕ → Held → Place
  Children : ℕ → Fork → Place

-- the children of the forks on a stack,
abbrev pub places_of : {N : Type 0} → List (Level N) → List Place
places_of ls = map (λ l. Children l.depth l.point) ls

-- and the branches that were forked
abbrev pub parents_of : {N : Type 0} → List (Level N) → List Held
parents_of ls = map (λ l. l.point.parent) ls

-- How many children of the fork on top are still to come.
abbrev pub left_on_top : {N : Type 0} → List (Level N) → ℕ
left_on_top [] = 0
left_on_top (l ∷ ls) = length l.point.clauses

-- The key is told as far as it was decided in the branch that was forked.
pub record IsToldOf {N : Type 0} (P : NamedProgram) (l : Level N) : Type 0 where
  pub told : IsTold P.program l.point.parent.reductions l.told l.point.longer
  pub long : l.told.length ≡ length l.point.longer

-- So it is on each level of a stack. What was decided there is the beginning of the key, and what was on the level
-- below the beginning of that.
abbrev pub AreTold : {N : Type 0} → NamedProgram → (key : List ℕ) → List (Level N) → Type 0
AreTold P key [] = Unit {0}
AreTold P key (l ∷ ls) = IsToldOf P l × IsPrefix l.point.longer key × AreTold P l.point.longer ls

-- The branch stands for a tree of the limit, and with what there is to tell of that at its depth the reports become
-- what is due.
pub record OwesOne (P : NamedProgram) (limit depth : ℕ) (b : Held) (IsDue : List Report → Type 0)
    (reports : List Report)
    : Type 0 where
  pub tree : QueryTree P.program
  pub branch : IsBranchOf P b tree
  pub limited : b.limit ≡ limit
  pub deep : depth ≤ b.used
  pub rest : (more : List Report) → Traces P.program limit tree depth more → IsDue (reports ++ more)

-- So they do with what there is to tell of the splits that the children stand for, of which there are some.
pub record OwesSplits (P : NamedProgram) (limit depth : ℕ) (f : Fork) (IsDue : List Report → Type 0)
    (reports : List Report)
    : Type 0 where
  pub tree : QueryTree P.program
  pub children : AreChildren P f tree
  pub limited : f.parent.limit ≡ limit
  pub deep : depth ≤ f.parent.used + 1
  pub some : f.clauses ≢ []
  pub rest : (more : List Report) → TracesSplits P.program limit tree f.clauses depth more → IsDue (reports ++ more)

-- Whatever there is to tell of what is still to be walked, the top first, the reports and then that are what there is
-- to tell of the query.
abbrev pub Owes : (P : NamedProgram) → ℕ → List Place → List Report → Type 0
Owes P limit [] reports = TracesQuery P.program limit reports
Owes P limit (One depth b ∷ xs) reports = OwesOne P limit depth b (λ more. Owes P limit xs more) reports
Owes P limit (Children depth f ∷ xs) reports = OwesSplits P limit depth f (λ more. Owes P limit xs more) reports

-- Something was told, and the rest is owed.
pub record Telling (P : NamedProgram) (limit : ℕ) (HasSeen : List Report → Type 0) (stack : List Place) : Type 0 where
  pub seen : List Report
  pub has : HasSeen seen
  pub cuts : CutsMeet P.program limit seen
  pub owes : Owes P limit stack seen

-- more turns than a branch has that may grow by so much, where no fork has more children than that
abbrev pub branch_turns : (most room : ℕ) → ℕ
branch_turns most zero = 1
branch_turns most (suc room) = 2 + most * (1 + branch_turns most room)

-- (of a stack's part; no list has as many items as that)
abbrev pub place_turns : (limit : ℕ) → Place → ℕ
place_turns limit (One depth b) = branch_turns (2 ^ 64) (limit - b.used)
place_turns limit (Children depth f) =
    1 + length f.clauses * (1 + branch_turns (2 ^ 64) (limit - suc f.parent.used))

-- more turns than the walk of a stack has
abbrev pub turns : (limit : ℕ) → List Place → ℕ
turns limit [] = 0
turns limit (x ∷ xs) = place_turns limit x + turns limit xs

-- The branch in hand is to be walked, and then what is on this stack, the top first. The branches that were forked can
-- be had again of it, and its key is told as far as the stack has it.
pub record IsReady {N : Type 0} (P : NamedProgram) (limit : ℕ) (HasSeen : List Report → Type 0)
    (stack : List (Level N)) (h : Hand N)
    : Type 0 where
  pub telling : Telling P limit HasSeen (One h.depth h.branch ∷ places_of stack)
  pub back : GoBackFrom h.branch (parents_of stack)
  pub told : IsTold P.program h.branch.reductions h.told h.branch.key
  pub levels : AreTold P (take h.told.length h.branch.key) stack

-- What is on this stack is to be walked, and the branches that were forked can be had again of what is left of one.
pub record IsLeft {N : Type 0} (P : NamedProgram) (limit : ℕ) (HasSeen : List Report → Type 0)
    (stack : List (Level N)) (left : Held)
    : Type 0 where
  pub telling : Telling P limit HasSeen (places_of stack)
  pub back : GoBackFrom left (parents_of stack)
  pub levels : AreTold P left.key stack

-- So it is, and there are fewer turns than so many.
abbrev pub IsAfter : {N : Type 0} → NamedProgram → (limit bound : ℕ) → (List Report → Type 0) → List (Level N) → Held
    → Type 0
IsAfter P limit bound HasSeen stack left =
    IsLeft P limit HasSeen stack left × (turns limit (places_of stack) < bound)

-- The branch in hand is to be walked next, and there are fewer turns than so many;
abbrev pub HasNext : {N : Type 0} → NamedProgram → (limit bound : ℕ) → (List Report → Type 0) → List (Level N) → Hand N
    → Type 0
HasNext P limit bound HasSeen stack h =
    IsReady P limit HasSeen stack h × (turns limit (One h.depth h.branch ∷ places_of stack) < bound)

-- or nothing is left to be walked.
abbrev pub HasTurned : {N : Type 0} → NamedProgram → (limit bound : ℕ) → (List Report → Type 0) → List (Level N)
    → Hand N → Bool → Type 0
HasTurned P limit bound HasSeen stack h true = HasNext P limit bound HasSeen stack h
HasTurned P limit bound HasSeen stack h false = Telling P limit HasSeen []
