-- A walk's visits: what keeps when one is made, and the circle that closes at an open place.
use Rattle.std.proofs.Common.{ℕ, suc, ◌≡◌, ◌≢◌, ◌<◌, ◌≤◌, ◌+◌, ◌⊎◌, inl, inr, Bool, List, [], ◌∷◌, ◌++◌, map, length, reverse, Some, refl, ap, sym, subst}
use Rattle.std.proofs.Common.{◌∙◌, arith, append_assoc}
use Rattle.std.specs.Prelude.{Contains, All}
use Rattle.std.proofs.lemmas.List.{reverse-append, append-nil}
use Rattle.and_model.specs.declared.reference.Ref.{Ref}
use Rattle.and_model.specs.declared.reference.Ref.TheVariants.{Free, Cell, Node, Number, Half}
use Rattle.and_program.specs.Skeletons.{AllFall}
use Rattle.and_cells.specs.Ranges.{NamedProgram, IsInRange}
use Rattle.and_cells.specs.Rows.{IsSound}
use Rattle.and_cells.specs.Meaning.{Holds, IsCircle}
use Rattle.and_cells.specs.Ends.{Ends}
use Rattle.and_cells.proofs.Among.{among_none, among_first, among_more, among_cases}
use Rattle.and_circles.specs.Marked.{Listed, mark_at}
use Rattle.and_circles.specs.Explored.{done_from}
use Rattle.and_circles.specs.Walks.{IsStep, Follows, AreOnPath, left_in, Owes, nearest_cell, Walks, height}
use Rattle.and_circles.specs.declared.marks.Mark.TheVariants.{Open, Done}
use Rattle.and_circles.specs.declared.walk.Visit.{Visit}
use Rattle.and_circles.specs.declared.walk.Visit.TheVariants.{Enter, Leave}
use Rattle.and_circles.proofs.Marking.{Opened, Left, done_listed, all_done}
use Rattle.and_circles.proofs.Parts.{part_is_lower, step_holds}
use Rattle.and_circles.proofs.Paths.{Path, arrived, goes, joined, and_step, ring_is_circle}

-- these are entered next, the last one first
abbrev pub entered : List Ref → List Visit → List Visit
entered [] visits = visits
entered (r ∷ rs) visits = entered rs (Enter r ∷ visits)

-- a visit that is pushed is made first
pub pushed : (before : List Visit) (v : Visit) → reverse (before ++ v ∷ []) ≡ v ∷ reverse before
pushed before v = reverse-append before (v ∷ [])

-- so visits that enter are made, the last one first
pushed_all : (before : List Visit) (rs : List Ref) → reverse (before ++ map Enter rs) ≡ entered rs (reverse before)
pushed_all before [] = ap reverse (append-nil before)
pushed_all before (r ∷ rs) =
    ap reverse (sym (append_assoc before (Enter r ∷ []) (map Enter rs))) ∙ pushed_all (before ++ Enter r ∷ []) rs ∙ ap (entered rs) (pushed before (Enter r))

-- so the visits of a list that grew at its end
pub reverse_opened : (before : List Visit) (at : Ref) (rs : List Ref) → reverse (before ++ Leave at ∷ map Enter rs) ≡ entered rs (Leave at ∷ reverse before)
reverse_opened before at rs =
    ap reverse (sym (append_assoc before (Leave at ∷ []) (map Enter rs))) ∙ pushed_all (before ++ Leave at ∷ []) rs ∙ ap (entered rs) (pushed before (Leave at))

module _ (P : NamedProgram) (row : List Ref) (floor : ℕ) (halves : Bool) (root : Ref) where
  -- what is entered leaves the places to be left as they are
  left_entered : (rs : List Ref) (visits : List Visit) → left_in (entered rs visits) ≡ left_in visits
  left_entered [] visits = refl
  left_entered (r ∷ rs) visits = left_entered rs (Enter r ∷ visits)

  -- what follows may be entered
  path_entered : (rs : List Ref) (visits : List Visit) → ((r : Ref) → Contains rs r → Follows P row root visits r × IsInRange P (length row) r)
      → AreOnPath P row root visits → AreOnPath P row root (entered rs visits)
  path_entered [] visits follow path = path
  path_entered (r ∷ rs) visits follow path =
      let first : Follows P row root visits r × IsInRange P (length row) r = follow r (among_first r rs) in
      path_entered rs (Enter r ∷ visits) (λ q c. follow q (among_more r q rs c)) (first.0, first.1, path)

  -- what is owed once all of these end is owed while they are entered
  owes_entered : (E : Ref → Type 0) (rs : List Ref) (visits : List Visit) → (((r : Ref) → Contains rs r → E r) → Owes E root visits)
      → Owes E root (entered rs visits)
  owes_entered E [] visits owes = owes (λ r c. absurd (among_none r c))
  owes_entered E (r ∷ rs) visits owes = owes_entered E rs (Enter r ∷ visits)
      (λ all ends. owes (λ q c. elim (among_cases r q rs c) [ inl e ↦ subst E (sym e) ends | inr later ↦ all q later ]))

  -- what ends need not be entered
  pub passed : (marks : Listed) (at : Ref) (visits : List Visit) → Walks P row floor halves root marks (Enter at ∷ visits) → Ends P row floor halves at
      → Walks P row floor halves root marks visits
  passed marks at visits w ends =
      record { falls = w.falls; sound = w.sound; room = w.room; done = w.done; opened = w.opened; path = w.path.2; owes = w.owes ends }

  -- a place is opened, and what it leads to is to be entered
  pub opens : (marks new : Listed) (at : Ref) (visits : List Visit) (rs : List Ref) → Walks P row floor halves root marks (Enter at ∷ visits)
      → Opened at marks new
      → ((r : Ref) → Contains rs r → IsStep P row at r × IsInRange P (length row) r)
      → (((r : Ref) → Contains rs r → Ends P row floor halves r) → Ends P row floor halves at)
      → Walks P row floor halves root new (entered rs (Leave at ∷ visits))
  opens marks new at visits rs w marked steps ends = record {
    falls = w.falls;
    sound = w.sound;
    room = subst (λ (n : ℕ). length row ≤ n) (sym marked.long) w.room;
    done = λ c is. w.done c (marked.done c is);
    opened = λ c is. subst (λ (ls : List Ref). Contains ls (Cell c)) (sym (left_entered rs (Leave at ∷ visits))) (was_open c (marked.opened c is));
    path = path_entered rs (Leave at ∷ visits) steps w.path;
    owes = owes_entered (Ends P row floor halves) rs (Leave at ∷ visits) (λ all. let e : Ends P row floor halves at = ends all in (e, w.owes e));
  }
    where
      was_open : (c : ℕ) → (at ≡ Cell c) ⊎ (mark_at marks c ≡ Some Open) → Contains (at ∷ left_in visits) (Cell c)
      was_open c (inl new_one) = subst (λ (r : Ref). Contains (at ∷ left_in visits) r) new_one (among_first at (left_in visits))
      was_open c (inr old) = among_more at (Cell c) (left_in visits) (w.opened c old)

  -- a place is left, and done
  pub leaves : (marks new : Listed) (at : Ref) (visits : List Visit) → Walks P row floor halves root marks (Leave at ∷ visits) → Left at marks new
      → Walks P row floor halves root new visits
  leaves marks new at visits w marked = record {
    falls = w.falls;
    sound = w.sound;
    room = subst (λ (n : ℕ). length row ≤ n) (sym marked.long) w.room;
    done = λ c is. was_done c (marked.done c is);
    opened = λ c is. was_open c (marked.opened c is);
    path = w.path.2;
    owes = w.owes.1;
  }
    where
      was_done : (c : ℕ) → (at ≡ Cell c) ⊎ (mark_at marks c ≡ Some Done) → Ends P row floor halves (Cell c)
      was_done c (inl new_one) = subst (Ends P row floor halves) new_one w.owes.0
      was_done c (inr old) = w.done c old

      was_open : (c : ℕ) → (at ≢ Cell c) × (mark_at marks c ≡ Some Open) → Contains (left_in visits) (Cell c)
      was_open c old = elim (among_cases at (Cell c) (left_in visits) (w.opened c old.1)) [ inl same ↦ absurd (old.0 (sym same)) | inr later ↦ later ]

  -- what a visited reference holds, the root holds
  pub root_holds : AllFall 0 P.skeleton.nodes → (visits : List Visit) (at : Ref) (c : ℕ) → AreOnPath P row root visits → Follows P row root visits at
      → Holds P row at c → Holds P row root c
  root_holds fall [] at c path follows holds = subst (λ (r : Ref). Holds P row r c) follows holds
  root_holds fall (Enter q ∷ visits) at c path follows holds = root_holds fall visits at c path.2 follows holds
  root_holds fall (Leave q ∷ visits) at c path follows holds = root_holds fall visits q c path.2 path.0 (step_holds P fall row q at c path.1 follows holds)

  -- from each place that is still to be left a step and a path lead to what is visited
  from_left : (visits : List Visit) (at r : Ref) → AreOnPath P row root visits → Follows P row root visits at → Contains (left_in visits) r
      → (next : Ref) × IsStep P row r next × Path P row next at
  from_left [] at r path follows c = absurd (among_none r c)
  from_left (Enter q ∷ visits) at r path follows c = from_left visits at r path.2 follows c
  from_left (Leave q ∷ visits) at r path follows c = by_place (from_left visits q r path.2 path.0) (among_cases q r (left_in visits) c)
    where
      by_place : (Contains (left_in visits) r → (next : Ref) × IsStep P row r next × Path P row next q) → (r ≡ q) ⊎ Contains (left_in visits) r
          → (next : Ref) × IsStep P row r next × Path P row next at
      by_place again (inl same) = (at, subst (λ (a : Ref). IsStep P row a at) (sym same) follows, arrived at)
      by_place again (inr later) = let w : (next : Ref) × IsStep P row r next × Path P row next q =
          again later in (w.0, w.1, and_step P row w.0 q at w.2 follows)

  -- The cell that is left first is on a ring.
  abbrev Ring : List Visit → Type 0
  Ring visits = (c : ℕ) × (nearest_cell visits ≡ Some c) × (c < length row) × (next : Ref) × IsStep P row (Cell c) next × Path P row next (Cell c)

  -- The last of the cells that are open is on the ring: below it are only structures, whose parts come before them.
  ring : AllFall 0 P.skeleton.nodes → (visits : List Visit) (at r : Ref) → AreOnPath P row root visits → Follows P row root visits at → Path P row at r
      → height r ≤ height at → Contains (left_in visits) r → Ring visits
  ring fall [] at r path follows back higher c = absurd (among_none r c)
  ring fall (Enter q ∷ visits) at r path follows back higher c = ring fall visits at r path.2 follows back higher c
  ring fall (Leave Free ∷ visits) at r path follows back higher c = absurd follows
  ring fall (Leave (Cell cell) ∷ visits) at r path follows back higher c =
      (cell, refl, path.1, at, follows, joined P row at r (Cell cell) back (to_cell (among_cases (Cell cell) r (left_in visits) c)))
    where
      to_cell : (r ≡ Cell cell) ⊎ Contains (left_in visits) r → Path P row r (Cell cell)
      to_cell (inl same) = subst (λ (a : Ref). Path P row a (Cell cell)) (sym same) (arrived (Cell cell))
      to_cell (inr later) = let w : (next : Ref) × IsStep P row r next × Path P row next (Cell cell) =
          from_left visits (Cell cell) r path.2 path.0 later in goes r w.0 (Cell cell) w.1 w.2
  ring fall (Leave (Node node base) ∷ visits) at r path follows back higher c =
      let lower : height at < suc node.0 = part_is_lower P fall row node base at path.1.0.there follows in
      ring fall visits (Node node base) r path.2 path.0 (goes (Node node base) at r follows back) (omega arith)
      (elim (among_cases (Node node base) r (left_in visits) c) [ inl same ↦ absurd (omega (arith, ap height same)) | inr later ↦ later ])
  ring fall (Leave (Number pair) ∷ visits) at r path follows back higher c = absurd follows
  ring fall (Leave (Half bits) ∷ visits) at r path follows back higher c = absurd follows

  -- where an open cell is entered, the cell that was opened last is on a circle
  pub closes : (marks : Listed) (at : ℕ) (visits : List Visit) → Walks P row floor halves root marks (Enter (Cell at) ∷ visits) → mark_at marks at ≡ Some Open
      → (c : ℕ) × (nearest_cell visits ≡ Some c) × IsCircle P row c
  closes marks at visits w is_open =
      let found : Ring visits = ring w.falls visits (Cell at) (Cell at) w.path.2 w.path.0 (arrived (Cell at)) (omega arith) (w.opened at is_open) in
      (found.0, found.1, ring_is_circle P w.falls row w.sound found.0 found.3 found.2 found.4 found.5)

  -- where the walk is at rest it may begin, once there is room
  pub begins : (before marks : Listed) → AllFall 0 P.skeleton.nodes → IsSound P row → All (Ends P row floor halves) (done_from 0 before)
      → ((c : ℕ) → mark_at before c ≡ Some Open → ⊥)
      → ((c : ℕ) → mark_at marks c ≡ mark_at before c) → length row ≤ length marks → IsInRange P (length row) root
      → Walks P row floor halves root marks (Enter root ∷ [])
  begins before marks fall sound all rest same room fits = record {
    falls = fall;
    sound = sound;
    room = room;
    done = λ c is. let e : 0 + c ≡ c =
        omega arith in subst (λ (k : ℕ). Ends P row floor halves (Cell k)) e (done_listed (Ends P row floor halves) 0 before c all (sym (same c) ∙ is));
    opened = λ c is. absurd (rest c (sym (same c) ∙ is));
    path = (refl, fits, tt);
    owes = λ ends. ends;
  }

  -- and when all was visited
  pub ends_all : (marks : Listed) → ((c : ℕ) → mark_at marks c ≡ Some Done → Ends P row floor halves (Cell c))
      → All (Ends P row floor halves) (done_from 0 marks)
  ends_all marks ended = all_done (Ends P row floor halves) 0 marks
      (λ c is. let e : c ≡ 0 + c = omega arith in subst (λ (k : ℕ). Ends P row floor halves (Cell k)) e (ended c is))
