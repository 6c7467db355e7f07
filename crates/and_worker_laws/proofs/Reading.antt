-- The runs of a phase as those of its tree, and all that was done in it, in the cells and in the tree.
use Rattle.std.proofs.Common.{ℕ, ◌≡◌, ◌≢◌, ◌≤◌, List, [], ◌∷◌, ◌++◌, map, refl, sym, subst, inl, inr, length, Contains}
use Rattle.std.proofs.lemmas.List.Elements.{All-contains, Contains-append_right}
use Rattle.and_model.specs.Terms.{Path, Substitution}
use Rattle.and_model.specs.Programs.{Program, arithmetic, arithmetic_in}
use Rattle.and_model.specs.Trees.{QueryTree, query_agenda, weight}
use Rattle.and_model.specs.Reductions.{Reduction, PlaceHas, Makes}
use Rattle.and_model.specs.Stands.{Framed}
use Rattle.and_model.specs.declared.goal.Goal.{Goal}
use Rattle.and_model.specs.declared.reference.Ref.{Ref}
use Rattle.and_laws.specs.Naming.{under}
use Rattle.and_laws.proofs.Ordered.{contains_first, contains_more}
use Rattle.and_cells.specs.Ranges.{NamedProgram}
use Rattle.and_cells.specs.Meaning.{equations_of}
use Rattle.and_phase_laws.specs.Journals.{Journal, Opening}
use Rattle.and_phase_laws.specs.Weaving.{Run}
use Rattle.and_branch_laws.specs.OwnVariables.{OwnVariables}
use Rattle.and_branch_laws.specs.Variables.{IsVariable, AreNames}
use Rattle.and_branch_laws.specs.Kept.{Kept, goal_of, item_at}
use Rattle.and_worker_laws.specs.PhaseCells.{Cells, AreCells, all_but, put_apart, cell_equations}
use Rattle.and_worker_laws.specs.Acts.{Act, takes, sets, fails, RunInCells, reductions, IsThere, AreTaken}
use Rattle.and_worker_laws.specs.Facts.{IsRun, IsDone}
use Rattle.and_worker_laws.specs.Reading.{AreReadAs, AreRunsReadAs}
use Rattle.and_worker_laws.specs.Standing.{Stands}
use Rattle.and_worker_laws.proofs.Matching.{cut_at}
use Rattle.and_worker_laws.proofs.Taking.{taken_at}
use Rattle.and_worker_laws.proofs.Standing.{standing}

-- What is there among some acts is there among more.
pub there_more : (P : Program) (opening : List Goal) (some all : List Act) → ((a : Act) → Contains some a → Contains all a) → (g : Goal)
    → IsThere P opening some g → IsThere P opening all g
there_more P opening some all f g (inl h) = inl h
there_more P opening some all f g (inr h) = inr (h.0, h.1, h.2, f (takes h.0 h.1 h.2) h.3, h.4)

-- What is known of a call that was reduced, by its act.
pub record WasTaken (P : Program) (opening : List Goal) (acts : List Act) (g : Goal) (r : Reduction) : Type 0 where
  pub there : IsThere P opening acts g
  pub parent : r.parent ≡ g.node
  pub item : r.item ≡ g.item

pub was_taken : (P : Program) (opening : List Goal) (used : ℕ) (acts : List Act) → AreTaken P opening used acts → (w : ℕ) (g : Goal) (r : Reduction)
    → Contains acts (takes w g r) → WasTaken P opening acts g r
was_taken P opening used acts t w g r c =
    let (before, among, k) = taken_at P opening used acts t w g r c in
    record { there = there_more P opening before acts among g k.there; parent = k.parent; item = k.item }

-- So it was with the acts before.
pub taken_before : (P : Program) (opening : List Goal) (used : ℕ) (later earlier : List Act) → AreTaken P opening used (later ++ earlier)
    → AreTaken P opening used earlier
taken_before P opening used [] earlier t = t
taken_before P opening used (takes w g r ∷ later) earlier t = taken_before P opening used later earlier t.1
taken_before P opening used (sets w e ∷ later) earlier t = taken_before P opening used later earlier t
taken_before P opening used (fails w ∷ later) earlier t = taken_before P opening used later earlier t

module _ (P : NamedProgram) (own : OwnVariables P) (rs : List Reduction) (first : List Ref) (kept : List Framed)
    (op : Opening P.program (query_agenda P.program)) (k : Kept P rs first kept op.tree) (apart : Path) (acts : List Act) (runs : List RunInCells)
    (j : Journal) (done : IsDone P (map goal_of kept) (weight op.tree) (equations_of P first) acts runs)
    (acts_read : AreReadAs P.program (rs ++ reductions acts) apart acts j) where
  -- Each goal that is there, whenever, stands in the tree.
  pub stands_of : (g : Goal) → IsThere P.program (map goal_of kept) acts g → Stands op (rs ++ reductions acts) j g
  stands_of g there = standing P own rs first kept op k apart acts [] acts j refl done.taken acts_read g there

  pub run_was : (r : RunInCells) → Contains runs r → IsThere P.program (map goal_of kept) acts r.goal × (item_at P.program r.goal ≡ arithmetic r.what)
  run_was r c =
      let (front, before, are, long) = cut_at acts r.at (All-contains (λ (x : RunInCells). x.at ≤ length acts) runs r done.in_time c) in
      let is : IsRun P (map goal_of kept) (equations_of P first) before r = done.ran front before r are c long in (
        there_more P.program (map goal_of kept) before acts
            (λ a i. subst (λ (l : List Act). Contains l a) (sym are) (Contains-append_right front before a i)) r.goal is.there,
        is.is_arithmetic,
      )

  runs_read_among : (some : List RunInCells) → ((r : RunInCells) → Contains some r → Contains runs r)
      → (read : List Run) × AreRunsReadAs (rs ++ reductions acts) some read
  runs_read_among [] f = ([], tt)
  runs_read_among (r ∷ some) f =
      let s : Stands op (rs ++ reductions acts) j r.goal = stands_of r.goal (run_was r (f r (contains_first r some))).0 in
      let rest = runs_read_among some (λ x c. f x (contains_more r x some c)) in (
        record { at = r.at; worker = r.worker; goal = arithmetic_in s.path r.what; terms = r.terms } ∷ rest.0,
        (record { path = s.path; place = s.place; at = refl; worker = refl; goal = refl; terms = refl }, rest.1),
      )

  pub runs_read : (read : List Run) × AreRunsReadAs (rs ++ reductions acts) runs read
  runs_read = runs_read_among runs (λ r c. c)

-- What was done in a phase, in the cells and in the tree: the branch with which it opened, the tree that its reductions make with those of the
-- branch, the cells of that tree's variables, and the acts and the runs read as a journal with runs.
pub record ReadPhase (P : NamedProgram) (op : Opening P.program (query_agenda P.program)) (acts : List Act) (runs : List RunInCells) (j : Journal)
    (read : List Run) : Type 0 where
  pub own : OwnVariables P
  pub rs : List Reduction
  pub first : List Ref
  pub kept : List Framed
  pub keeps : Kept P rs first kept op.tree
  pub tree : QueryTree P.program
  pub made : Makes P.program (rs ++ reductions acts) tree
  pub apart : Path
  pub cells : Cells
  pub names : Substitution
  pub cells_are : op.cells ≡ under (put_apart apart) (equations_of P first) ++ cell_equations apart cells
  pub meant_is : op.meant ≡ all_but apart
  pub named : AreNames (rs ++ reductions acts) names
  pub have_cells : AreCells (IsVariable P (rs ++ reductions acts)) names apart cells
  pub elsewhere : (node : ℕ) (q : Path) (i : ℕ) → PlaceHas (rs ++ reductions acts) node q → (q ≢ apart) × (q ++ i ∷ [] ≢ apart)
  pub done : IsDone P (map goal_of kept) (weight op.tree) (equations_of P first) acts runs
  pub acts_read : AreReadAs P.program (rs ++ reductions acts) apart acts j
  pub runs_read : AreRunsReadAs (rs ++ reductions acts) runs read
