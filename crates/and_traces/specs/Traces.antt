-- What a walk tells of a tree, branch by branch (the basic Andorra model: Santos Costa, Warren and Yang, 1991; the
-- limit is this project's own).
use Rattle.std.specs.Prelude.{ℕ, ◌+◌, ◌<◌, ◌≤◌, ◌≡◌, ◌⊎◌, ◌↔◌, Bool, true, false, ◌||◌, List, [], ◌∷◌, ◌++◌}
use Rattle.std.specs.Prelude.{AllPairs, Contains, cond, Option, Some, None}
use Rattle.and_model.specs.Limits.{Cut, OverLimit}
use Rattle.and_model.specs.Programs.{Program}
use Rattle.and_model.specs.Trees.{QueryTree, Open, query_agenda, blank, code, weight}
use Rattle.and_model.specs.Reached.{Step, Steps, Shut, Dead, Split}
use Rattle.and_model.specs.Listing.{Outcome, Ends, Entry}
use Rattle.and_model.specs.declared.goal
use Rattle.and_branch_laws.specs.States.{IsCut}
use Rattle.and_code.specs.Written.{all_written}
use Rattle.and_walk_laws.specs.Walks.{Walks}

-- What is told of a branch: that it forks, by these clauses; that the limit cuts something off there; that it failed;
-- or with which code it ended, and how.
pub data Event : Type 0 where
  forked : List ℕ → Event
  cut : goal.Cut.Cut → Event
  failed : Event
  ended : List ℕ → Outcome → Event

-- an event, and how many forks it stands below
pub record Report : Type 0 where
  pub depth : ℕ
  pub event : Event

module _ (P : Program) (limit : ℕ) where
  -- By Steps the tree comes to this one, which weighs at most the limit.
  abbrev pub ComesTo : QueryTree P → QueryTree P → Type 0
  ComesTo t end = Steps t end × (weight end ≤ limit)

  -- These are the clauses by which the tree is split into trees that weigh at most the limit, in textual order.
  abbrev pub FittingClauses : QueryTree P → List ℕ → Type 0
  FittingClauses t cs = AllPairs (λ (c d : ℕ). c < d) cs
      × ((c : ℕ) → Contains cs c ↔ ((next : QueryTree P) × Split t c next × (weight next ≤ limit)))

  -- The limit keeps all from going on: a Step leads to a tree that weighs more, or all splits of a Shut tree do.
  abbrev pub IsKept : QueryTree P → Type 0
  IsKept t = ((next : QueryTree P) × Step t next × (limit < weight next))
      ⊎ (Shut t × Open t × ((c : ℕ) (next : QueryTree P) → Split t c next → limit < weight next))

  -- Something is cut off, where some split weighs more than the limit, and one report tells it.
  pub data CutOff (t : QueryTree P) (depth : ℕ) : List Report → Type 0 where
    all_fit : ((c : ℕ) (next : QueryTree P) → Split t c next → weight next ≤ limit) → CutOff t depth []
    some_heavy : (c : ℕ) (next : QueryTree P) (x : goal.Cut.Cut) → Split t c next → limit < weight next
        → CutOff t depth (record { depth = depth; event = cut x } ∷ [])

  mutual
    -- Traces t depth reports: this is what a walk tells of the tree, whose root stands at this depth. By Steps the
    -- tree comes to one at which the limit keeps all from going on; or to a Dead one; or to one that ends; or to a
    -- Shut tree with open goals: its fork is told, and whether something is cut off there, and then what there is to
    -- tell of the splits that fit, one after another.
    pub data Traces : QueryTree P → ℕ → List Report → Type 0 where
      over : (t end : QueryTree P) (depth : ℕ) (x : goal.Cut.Cut) → ComesTo t end → IsKept end
          → Traces t depth (record { depth = depth; event = cut x } ∷ [])
      dead : (t end : QueryTree P) (depth : ℕ) → ComesTo t end → Dead end
          → Traces t depth (record { depth = depth; event = failed } ∷ [])
      whole : (t end : QueryTree P) (depth : ℕ) (o : Outcome) → ComesTo t end → Ends end o
          → Traces t depth (record { depth = depth; event = ended (code end) o } ∷ [])
      divided : (t end : QueryTree P) (depth : ℕ) (cs : List ℕ) (cuts reports : List Report) → ComesTo t end → Shut end
          → Open end
          → FittingClauses end cs → CutOff end depth cuts → TracesSplits end cs (depth + 1) reports
          → Traces t depth (record { depth = depth; event = forked cs } ∷ (cuts ++ reports))

    -- what there is to tell of the splits by these clauses, one after another
    pub data TracesSplits : QueryTree P → List ℕ → ℕ → List Report → Type 0 where
      no_more : (t : QueryTree P) (depth : ℕ) → TracesSplits t [] depth []
      more : (t next : QueryTree P) (c : ℕ) (cs : List ℕ) (depth : ℕ) (reports others : List Report) → Split t c next
          → Traces next depth reports → TracesSplits t cs depth others
          → TracesSplits t (c ∷ cs) depth (reports ++ others)

  -- What a walk tells of the query: that it is too heavy by itself, or what there is to tell of its tree.
  pub data TracesQuery : List Report → Type 0 where
    alone : (x : goal.Cut.Cut) → limit < weight (blank {P = P} (query_agenda P))
        → TracesQuery (record { depth = 0; event = cut x } ∷ [])
    walked : (reports : List Report) → Traces (blank (query_agenda P)) 0 reports → TracesQuery reports

  -- The limit kept the search from going on there.
  abbrev pub MeetsLimit : goal.Cut.Cut → Type 0
  MeetsLimit x = (over : Cut P) × IsCut (all_written x.partial) x.goal x.clause.0 over × OverLimit P limit over

  -- So it did in each cut that is told.
  abbrev pub CutsMeet : List Report → Type 0
  CutsMeet reports = (depth : ℕ) (x : goal.Cut.Cut) → Contains reports (record { depth = depth; event = cut x })
      → MeetsLimit x

-- kinds of events
abbrev pub is_fork : Event → Bool
is_fork (forked cs) = true
is_fork (cut x) = false
is_fork failed = false
is_fork (ended code outcome) = false

abbrev pub is_failed : Event → Bool
is_failed (forked cs) = false
is_failed (cut x) = false
is_failed failed = true
is_failed (ended code outcome) = false

abbrev pub is_cut : Event → Bool
is_cut (forked cs) = false
is_cut (cut x) = true
is_cut failed = false
is_cut (ended code outcome) = false

-- how many reports tell of a kind
abbrev pub count_of : (Event → Bool) → List Report → ℕ
count_of is [] = 0
count_of is (r ∷ reports) = cond (is r.event) 1 0 + count_of is reports

-- Some report tells of a cut.
abbrev pub has_cut : List Report → Bool
has_cut [] = false
has_cut (r ∷ reports) = is_cut r.event || has_cut reports

-- the entry of a branch that ended
abbrev pub entry_of : Event → List Entry
entry_of (forked cs) = []
entry_of (cut x) = []
entry_of failed = []
entry_of (ended code outcome) = record { code = code; outcome = outcome } ∷ []

-- all entries, in order
abbrev pub entries_of : List Report → List Entry
entries_of [] = []
entries_of (r ∷ reports) = entry_of r.event ++ entries_of reports

-- The tree has a walk that finds these entries, and is cut where a cut is told. It meets as many failures as are told,
-- and as many forks, where no cut is told.
pub record IsWalkOf (P : Program) (limit : ℕ) (t : QueryTree P) (reports : List Report) : Type 0 where
  pub forks : ℕ
  pub walks : Walks P limit t (entries_of reports) forks (count_of is_failed reports) (has_cut reports)
  pub counted : has_cut reports ≡ false → forks ≡ count_of is_fork reports

-- the report of a cut, where there is one
abbrev pub cut_report : ℕ → Option goal.Cut.Cut → List Report
cut_report depth None = []
cut_report depth (Some x) = record { depth = depth; event = cut x } ∷ []
