-- The fork on top of a stack, whose next child comes in hand while the fork stays in its place.
use Rattle.std.proofs.Common.{ℕ, ◌+◌, ◌≡◌, ◌<◌, ◌≤◌, List, [], ◌∷◌, ◌++◌, get_or, length, set, take, Result, Ok, Err, Some, refl, sym, ap, ◌∙◌, subst, arith}
use Rattle.std.specs.Prelude.{slice_get, OnOk}
use Rattle.std.proofs.lemmas.List.{get_or_push, length_push, set_at, take_all, take_more}
use Rattle.std.proofs.lemmas.Option.{get_or_from_slice_get}
use Rattle.and_cells.specs.Ranges.{NamedProgram}
use Rattle.and_branch.specs.Branches.{Held}
use Rattle.and_branch.specs.Children.{IsChild}
use Rattle.and_branch.specs.Origins.{GoesBack}
use Rattle.and_code.specs.Telling.{left_of}
use Rattle.and_tree.specs.Passes.{TreeId, PassSeen}
use Rattle.and_answers.specs.declared.found.Found.{Found}
use Rattle.and_tasks.specs.Working.{AreServed, AreToCome, HasNext, IsLeftInHand, IsReady, Serves, Works, forked}
use Rattle.and_tasks.specs.declared.stack.Hand.{Hand}
use Rattle.and_tasks.specs.declared.stack.Level.{Level}
use Rattle.and_tasks.specs.declared.stack.Task.{Task}
use Rattle.and_tasks.specs.declared.stack.Task.TheVariants.{One, Children, Left}
use Rattle.and_tasks.proofs.Ready.{another_ready, child_shares}
use Rattle.and_tasks.proofs.Serving.{served_off, served_top}
use Rattle.and_tasks.proofs.Turns.{works_popped}

abbrev last_of : {A : Type 0} (xs : List A) (d : A) → A
last_of [] d = d
last_of (x ∷ xs) d = last_of xs x

last_pushed : {A : Type 0} (xs : List A) (x d : A) → last_of (xs ++ x ∷ []) d ≡ x
last_pushed [] x d = refl
last_pushed (y ∷ xs) x d = last_pushed xs x y

-- One stands on top.
pub one_on_top : {A : Type 0} (xs ys : List A) (x y : A) → xs ++ x ∷ [] ≡ ys ++ y ∷ [] → x ≡ y
one_on_top xs ys x y same =
    sym (last_pushed xs x x) ∙ ap (λ (zs : List _). last_of zs x) same ∙ last_pushed ys y x

-- What is on top is not nothing.
pub some_on_top : {A : Type 0} (xs : List A) (x : A) → xs ++ x ∷ [] ≡ [] → ⊥
some_on_top xs x none =
    let long = length_push xs x in
    let short = ap (λ (zs : List _). length zs) none in
    omega (arith, long, short)

-- the fork that a task is, or this one
abbrev level_or : {N : Type 0} → Level N → Task N → Level N
level_or l (Children m) = m
level_or l (One b) = l
level_or l (Left b) = l

module _ {N : Type 0} where
  -- A stack is the fork at its last place and what is below.
  pub top_fork : (xs : List (Task N)) (i : ℕ) (l : Level N) → slice_get xs i ≡ Some (Children l) → i + 1 ≡ length xs
      → xs ≡ take i xs ++ Children l ∷ []
  top_fork xs i l is long =
      let x : Task N = Children l in
      sym (take_all (i + 1) xs (omega (arith, long))) ∙ take_more xs i x (omega (arith, long))
      ∙ ap (λ (y : Task N). take i xs ++ y ∷ []) (get_or_from_slice_get xs i x x is)

  pub one_level : (l m : Level N) → Children l ≡ Children m → l ≡ m
  one_level l m same = ap (λ (x : Task N). level_or l x) same

  pub no_branch_on_top : (below rest : List (Task N)) (l : Level N) (b : Held) → below ++ Children l ∷ [] ≡ rest ++ One b ∷ [] → ⊥
  no_branch_on_top below rest l b same = let e = one_on_top below rest (Children l) (One b) same in cc

  pub nothing_left_on_top : (below rest : List (Task N)) (l : Level N) (b : Held) → below ++ Children l ∷ [] ≡ rest ++ Left b ∷ [] → ⊥
  nothing_left_on_top below rest l b same = let e = one_on_top below rest (Children l) (Left b) same in cc

  module _ (xs below : List (Task N)) (l : Level N) (i : ℕ) (is : xs ≡ below ++ Children l ∷ []) (long : i + 1 ≡ length xs) where
    below_top : length below ≡ i
    below_top =
        let all = ap (λ (ys : List (Task N)). length ys) is in
        let more = length_push below (Children l) in
        omega (arith, all, more, long)

    -- The fork is read there,
    pub read_on_top : (x : Task N) → x ≡ get_or xs i x → x ≡ Children l
    read_on_top x read =
        read ∙ ap (λ (ys : List (Task N)). get_or ys i x) is ∙ get_or_push below (Children l) x i below_top

    -- and is changed there.
    pub set_on_top : (x : Task N) → set xs i x ≡ below ++ x ∷ []
    set_on_top x =
        ap (λ (ys : List (Task N)). set ys i x) is ∙ set_at below (Children l) [] x i below_top

-- The next child is in hand, where it could be made.
pub next_had : {N T E : Type 0} (P : NamedProgram) (was now : Level N) (common : ℕ) (h : Hand N) (r : Result T E)
    → OnOk r (IsChild P was.point now.point h.branch) → OnOk r (GoesBack was.point.parent h.branch) → h.told.length ≡ was.told.length
    → left_of h.told ≡ left_of was.told → h.common ≤ common → h.common ≤ was.told.length → now ≡ record was { point = now.point }
    → OnOk r (HasNext P was now common h)
next_had P was now common h (Ok t) child back long told less inside same = record {
  child = child;
  back = back;
  long = long;
  told = told;
  less = less;
  inside = inside;
  same = same;
}
next_had P was now common h (Err e) child back long told less inside same = tt

module _ {N : Type 0} (P : NamedProgram) (tree : TreeId) (pass : PassSeen) (found : Found) where
  module _ (xs below : List (Task N)) (l : Level N) (h : Hand N) (is : xs ≡ below ++ Children l ∷ [])
      (w : IsLeftInHand P tree pass found xs h) where
    served_there : AreServed (Some h.branch) (below ++ Children l ∷ [])
    served_there = subst (λ (ts : List (Task N)). AreServed (Some h.branch) ts) is w.at_work.served

    -- What is left in hand serves the fork on top,
    pub works_below : Works P tree pass found (Children l ∷ below)
    works_below = works_popped P tree pass found (Children l) below xs w.at_work.works is

    pub serves_top : Serves l h.branch
    serves_top = served_top (Some h.branch) below l h.branch refl served_there

    pub served_below : AreServed (Some (forked l)) below
    served_below = (served_off (Some h.branch) below (Children l) served_there).0

    pub comes_on_top : AreToCome P tree.about.limit l
    comes_on_top = works_below.has.tasks_are.0

    -- and where its next child is in hand, that is ready.
    pub next_ready : 1 < length l.point.clauses → (m : Level N) (k : Hand N) (after : List (Task N)) → HasNext P l m h.common k
        → after ≡ below ++ Children m ∷ [] → IsReady P tree pass found after k
    next_ready many m k after next put =
        another_ready P tree pass found pass found l m k.branch k.told k.common below after works_below next.child
        (λ one. omega (arith, many, one)) next.same next.long next.told next.back served_below
        (child_shares P tree pass found l h.branch below h.common k.common works_below serves_top w.shares next.less next.inside) refl
        (refl, put)
