-- What is judged in a branch whose row is part of its whole one says the state of its tree.
use Rattle.std.proofs.Common.{ℕ, ◌≡◌, ◌≢◌, ◌<◌, ◌↔◌, List, [], ◌∷◌, ◌++◌, length, map, Option, Some, None, refl, sym, ap, subst, arith}
use Rattle.std.proofs.Common.{Contains}
use Rattle.std.specs.Prelude.{AllPairs}
use Rattle.std.proofs.lemmas.List.{map-append}
use Rattle.std.proofs.lemmas.List.Elements.{Contains-append_left}
use Rattle.and_model.specs.Solutions.{Equation, Solvable}
use Rattle.and_model.specs.Programs.{fail, clause_at, clause_weight, Of}
use Rattle.and_model.specs.Trees.{QueryTree, Open, path, call_of, reduce}
use Rattle.and_model.specs.Reached.{Step, Dead}
use Rattle.and_model.specs.Reductions.{Reduction}
use Rattle.and_model.specs.Stands.{Framed}
use Rattle.and_model.specs.Store.{Frame}
use Rattle.and_model.specs.declared.reference.Ref.{Ref}
use Rattle.and_laws.proofs.Ordered.{middle_has}
use Rattle.and_cells.specs.Ranges.{NamedProgram}
use Rattle.and_cells.specs.Meaning.{equations_of}
use Rattle.and_cell_laws.proofs.Images.{contains_image, contains_origin}
use Rattle.and_branch_laws.specs.OwnVariables.{IsLoaded}
use Rattle.and_branch_laws.specs.Settling.{widened}
use Rattle.and_branch_laws.specs.Reducing.{reduction_in_cells}
use Rattle.and_branch_laws.specs.Kept.{Kept, IsCall}
use Rattle.and_branch_laws.specs.Judging.{outside, CandidateInCells, SoleInCells, FitsBehind, NoneIsGround, EachHasOne, EachHasTwo, NoCall}
use Rattle.and_branch_laws.specs.States.{Fits, IsFirst, determinate, over_one, over_all, fork, floundered, answer, StateOf}
use Rattle.and_branch_laws.proofs.Judging
use Rattle.and_branch_laws.proofs.Keeping
use Rattle.and_branch_laws.proofs.Stepping
use Rattle.and_moved_laws.specs.Parts.{goal_moved, framed_moved}
use Rattle.and_moved_laws.specs.KeptParts.{PartKept}
use Rattle.and_moved_laws.proofs.Composing.{part_widened}
use Rattle.and_moved_laws.proofs.Judging.{candidate_here, candidate_there}
use Rattle.and_moved_laws.proofs.KeptParts.{kept_goal}
use Rattle.and_moved_laws.proofs.Reading.{none_ground_there}
use Rattle.and_moved_laws.proofs.Reducing.{reduction_behind}
use Rattle.and_moved_laws.proofs.MovedGoals.{call_here, call_there}
use Rattle.and_moved_laws.proofs.Solving.{unsolved_there}

-- ---- Goals here and there

module _ (P : NamedProgram) (loaded : IsLoaded P) (rs : List Reduction) (frames : List Frame) (part : List Ref) (kept : List Framed)
    (tree : QueryTree P.program) (k : PartKept P rs frames part kept tree) where
  abbrev M : List Framed → List Framed
  M fs = map (framed_moved k.at) fs

  -- Candidates are the same,
  pub there : (f : Framed) → Contains kept f → (c : ℕ) → CandidateInCells P part f.goal c → CandidateInCells P k.whole (goal_moved k.at f.goal) c
  there f h c x =
      let w = k.keeps in
      candidate_there P k.at part k.whole k.is_part f.goal (kept_goal P loaded.own rs frames part kept tree k f h) w.sound w.settled c x

  pub here : (f : Framed) → Contains kept f → (c : ℕ) → CandidateInCells P k.whole (goal_moved k.at f.goal) c → CandidateInCells P part f.goal c
  here f h c x =
      let o = kept_goal P loaded.own rs frames part kept tree k f h in
      candidate_here P k.at part k.whole k.is_part f.goal o.together c x

  -- and so are sole ones.
  pub sole_there : (f : Framed) → Contains kept f → (c : ℕ) → SoleInCells P part f.goal c → SoleInCells P k.whole (goal_moved k.at f.goal) c
  sole_there f h c x = (there f h c x.0, λ d y. x.1 d (here f h d y))

  pub sole_here : (f : Framed) → Contains kept f → (c : ℕ) → SoleInCells P k.whole (goal_moved k.at f.goal) c → SoleInCells P part f.goal c
  sole_here f h c x = (here f h c x.0, λ d y. x.1 d (there f h d y))

  pub each_one : EachHasOne P part kept → EachHasOne P k.whole (map (framed_moved k.at) kept)
  each_one each g h called =
      let (f, i, is) = contains_origin (framed_moved k.at) kept g h in
      let found = each f i (call_here P.program k.at f (subst (λ (x : Framed). IsCall P.program x) is called)) in
      (found.0, subst (λ (x : Framed). CandidateInCells P k.whole x.goal found.0) (sym is) (there f i found.0 found.1))

  pub each_two : EachHasTwo P part kept → EachHasTwo P k.whole (map (framed_moved k.at) kept)
  each_two each g h called =
      let (f, i, is) = contains_origin (framed_moved k.at) kept g h in
      let found = each f i (call_here P.program k.at f (subst (λ (x : Framed). IsCall P.program x) is called)) in (
        found.0,
        found.1,
        found.2,
        subst (λ (x : Framed). CandidateInCells P k.whole x.goal found.0) (sym is) (there f i found.0 found.3),
        subst (λ (x : Framed). CandidateInCells P k.whole x.goal found.1) (sym is) (there f i found.1 found.4),
      )

  pub none_there : NoneIsGround P part kept → NoneIsGround P k.whole (map (framed_moved k.at) kept)
  none_there none_is =
      let w = k.keeps in
      none_ground_there P k.at part k.whole k.is_part kept (λ f h. kept_goal P loaded.own rs frames part kept tree k f h) w.sound w.settled none_is

  pub no_call_there : (fs : List Framed) → NoCall P fs → NoCall P (map (framed_moved k.at) fs)
  no_call_there fs none_is g h called =
      let (f, i, is) = contains_origin (framed_moved k.at) fs g h in
      none_is f i (call_here P.program k.at f (subst (λ (x : Framed). IsCall P.program x) is called))

  -- Its frame fits the tree.
  pub fits_there : (limit c : ℕ) → Fits limit tree c → FitsBehind P limit k.whole c
  fits_there limit c fits = let w = k.keeps in let e = w.long in omega arith

  pub fits_here : (limit c : ℕ) → FitsBehind P limit k.whole c → Fits limit tree c
  fits_here limit c fits = let w = k.keeps in let e = w.long in omega arith

  -- ---- Steps

  -- A goal without candidates: the tree is dead.
  pub no_candidate_is_dead : (f : Framed) → Contains kept f → IsCall P.program f → ((d : ℕ) → CandidateInCells P part f.goal d → ⊥) → Dead tree
  no_candidate_is_dead f h called no_one =
      let i : Contains (M kept) (framed_moved k.at f) = contains_image (framed_moved k.at) kept f h in
      let j : IsCall P.program (framed_moved k.at f) = call_there P.program k.at f called in
      let found = Keeping.kept_open P loaded.own rs k.whole (M kept) tree k.keeps (framed_moved k.at f) i j in
      Stepping.none_is_dead P loaded rs k.whole (M kept) tree k.keeps (framed_moved k.at f) i j found.0 found.1 outside (λ e. cc)
      (λ d x. no_one d (here f h d x))

  -- One that has no candidate but the clause: reducing it by this is a Step.
  pub sole_steps : (f : Framed) → Contains kept f → IsCall P.program f → (o : Open tree) → path tree o ≡ f.frame ++ f.goal.item ∷ []
      → (c : ℕ) (of_it : Of P.program (call_of tree o) c) → ((d : ℕ) → CandidateInCells P part f.goal d → d ≡ c) → Step tree (reduce tree o c of_it)
  sole_steps f h called o path_is c of_it only =
      Stepping.sole_steps P loaded rs k.whole (M kept) tree k.keeps (framed_moved k.at f) (contains_image (framed_moved k.at) kept f h)
      (call_there P.program k.at f called) o path_is outside (λ e. cc) c of_it (λ d x. only d (here f h d x))

  -- ---- States without calls

  pub state_floundered : (limit : ℕ) → NoneIsGround P part kept → NoCall P kept → kept ≢ [] → StateOf P.program limit tree floundered
  state_floundered limit none_is no_call some =
      Judging.state_floundered P loaded rs k.whole (M kept) tree k.keeps limit (none_there none_is) (no_call_there kept no_call)
      (λ e. some (none_moved kept e))
    where
      none_moved : (fs : List Framed) → map (framed_moved k.at) fs ≡ [] → fs ≡ []
      none_moved [] e = refl
      none_moved (f ∷ fs) e = absurd (cc)

  pub state_answer : (limit : ℕ) → kept ≡ [] → StateOf P.program limit tree answer
  state_answer limit e = Judging.state_answer P loaded rs k.whole (M kept) tree k.keeps limit (ap M e)

-- the first of those that are so
first_there : (A B : ℕ → Type 0) (a : Option ℕ) → ((c : ℕ) → A c → B c) → ((c : ℕ) → B c → A c) → IsFirst A a → IsFirst B a
first_there A B None to fro x = λ c b. x c (fro c b)
first_there A B (Some c) to fro x = (to c x.0, λ d b. x.1 d (fro d b))

-- ---- Some call decides

module _ (P : NamedProgram) (loaded : IsLoaded P) (rs : List Reduction) (frames : List Frame) (part : List Ref) (front : List Framed)
    (f : Framed) (back : List Framed) (tree : QueryTree P.program) (k : PartKept P rs frames part (front ++ f ∷ back) tree)
    (called : IsCall P.program f) (o : Open tree) (path_is : path tree o ≡ f.frame ++ f.goal.item ∷ []) where
  abbrev all : List Framed
  all = front ++ f ∷ back

  abbrev others : List Framed
  others = map (framed_moved k.at) front ++ framed_moved k.at f ∷ map (framed_moved k.at) back

  are : map (framed_moved k.at) (front ++ f ∷ back) ≡ map (framed_moved k.at) front ++ framed_moved k.at f ∷ map (framed_moved k.at) back
  are = map-append (framed_moved k.at) front (f ∷ back)

  split : Kept P rs k.whole (map (framed_moved k.at) front ++ framed_moved k.at f ∷ map (framed_moved k.at) back) tree
  split = subst (λ (l : List Framed). Kept P rs k.whole l tree) are k.keeps

  f_kept : Contains (front ++ f ∷ back) f
  f_kept = middle_has front back f

  call_whole : IsCall P.program (framed_moved k.at f)
  call_whole = call_there P.program k.at f called

  -- The reduced tree is dead where what the reduction asks has no solution,
  pub unsolved_is_dead : (c : ℕ) (of_it : Of P.program (call_of tree o) c)
      → (Solvable (equations_of P (widened part (clause_weight (clause_at P.program c))) ++ reduction_in_cells P.program f.goal c (length part)) → ⊥)
      → Dead (reduce tree o c of_it)
  unsolved_is_dead c of_it no_solution =
      let w : ℕ = clause_weight (clause_at P.program c) in
      let asked : List Equation = reduction_in_cells P.program f.goal c (length part) in
      Stepping.unsolved_reductions_die P loaded rs k.whole (map (framed_moved k.at) front) (framed_moved k.at f) (map (framed_moved k.at) back) tree split
      call_whole o path_is c of_it
      (subst (λ (es : List Equation). Solvable (equations_of P (widened k.whole w) ++ es) → ⊥)
      (reduction_behind P k.at part k.whole k.is_part f.goal (kept_goal P loaded.own rs frames part all tree k f f_kept) c)
      (unsolved_there P k.at (widened part w) (widened k.whole w) asked (part_widened P k.at part k.whole w k.is_part) no_solution))

  -- and where the body has `fail`.
  pub failing_is_dead : (c : ℕ) (of_it : Of P.program (call_of tree o) c) → Contains (clause_at P.program c).body fail → Dead (reduce tree o c of_it)
  failing_is_dead c of_it has =
      Stepping.failing_bodies_die P loaded rs k.whole (map (framed_moved k.at) front) (framed_moved k.at f) (map (framed_moved k.at) back) tree split
      call_whole o path_is c of_it has

  module _ (none_is : NoneIsGround P part (front ++ f ∷ back)) (limit : ℕ) where
    none_whole : NoneIsGround P k.whole (map (framed_moved k.at) front ++ framed_moved k.at f ∷ map (framed_moved k.at) back)
    none_whole = subst (λ (l : List Framed). NoneIsGround P k.whole l) are (none_there P loaded rs frames part all tree k none_is)

    one_whole : EachHasOne P part (front ++ f ∷ back) → EachHasOne P k.whole others
    one_whole each = subst (λ (l : List Framed). EachHasOne P k.whole l) are (each_one P loaded rs frames part all tree k each)

    two_whole : EachHasTwo P part (front ++ f ∷ back) → EachHasTwo P k.whole others
    two_whole each = subst (λ (l : List Framed). EachHasTwo P k.whole l) are (each_two P loaded rs frames part all tree k each)

    -- what no goal of some is, no moved one is
    no_sole : (fs : List Framed) → ((g : Framed) → Contains fs g → Contains (front ++ f ∷ back) g) → (A B : ℕ → Type 0) → ((d : ℕ) → B d → A d)
        → ((g : Framed) (d : ℕ) → Contains fs g → IsCall P.program g → SoleInCells P part g.goal d → A d → ⊥)
        → (h : Framed) (d : ℕ) → Contains (map (framed_moved k.at) fs) h → IsCall P.program h → SoleInCells P k.whole h.goal d → B d → ⊥
    no_sole fs among A B to no_one h d i call_is sole b =
        let (g, j, is) = contains_origin (framed_moved k.at) fs h i in
        no_one g d j (call_here P.program k.at g (subst (λ (x : Framed). IsCall P.program x) is call_is))
        (sole_here P loaded rs frames part all tree k g (among g j) d (subst (λ (x : Framed). SoleInCells P k.whole x.goal d) is sole)) (to d b)

    front_among : (g : Framed) → Contains front g → Contains (front ++ f ∷ back) g
    front_among g h = Contains-append_left front (f ∷ back) g h

    pub state_determinate : EachHasOne P part (front ++ f ∷ back) → (c : ℕ) → SoleInCells P part f.goal c → Fits limit tree c
        → ((h : Framed) (d : ℕ) → Contains front h → IsCall P.program h → SoleInCells P part h.goal d → Fits limit tree d → ⊥)
        → StateOf P.program limit tree (determinate o c)
    state_determinate each c sole fits first =
        Judging.state_determinate P loaded rs k.whole (map (framed_moved k.at) front) (framed_moved k.at f) (map (framed_moved k.at) back) tree split
        none_whole call_whole limit o path_is (one_whole each) c (sole_there P loaded rs frames part all tree k f f_kept c sole)
        (fits_there P loaded rs frames part all tree k limit c fits)
        (no_sole front front_among (λ d. Fits limit tree d) (λ d. FitsBehind P limit k.whole d)
        (λ d b. fits_here P loaded rs frames part all tree k limit d b) first)

    pub state_over_one : EachHasOne P part (front ++ f ∷ back) → (c : ℕ) → SoleInCells P part f.goal c
        → ((h : Framed) (d : ℕ) → Contains (front ++ f ∷ back) h → IsCall P.program h → SoleInCells P part h.goal d → Fits limit tree d → ⊥)
        → ((h : Framed) (d : ℕ) → Contains front h → IsCall P.program h → SoleInCells P part h.goal d → ⊥)
        → StateOf P.program limit tree (over_one o c)
    state_over_one each c sole no_fit first =
        Judging.state_over_one P loaded rs k.whole (map (framed_moved k.at) front) (framed_moved k.at f) (map (framed_moved k.at) back) tree split
        none_whole call_whole limit o path_is (one_whole each) c (sole_there P loaded rs frames part all tree k f f_kept c sole)
        (λ h d i. no_sole all (λ g j. j) (λ d. Fits limit tree d) (λ d. FitsBehind P limit k.whole d)
        (λ d b. fits_here P loaded rs frames part all tree k limit d b) no_fit h d (subst (λ (l : List Framed). Contains l h) (sym are) i))
        (λ h d i call_is s. no_sole front front_among (λ d. Unit {0}) (λ d. Unit {0}) (λ d b. b) (λ g d j c s u. first g d j c s) h d i call_is s tt)

    pub state_over_all : EachHasTwo P part (front ++ f ∷ back) → NoCall P front
        → ((d : ℕ) → CandidateInCells P part f.goal d → Fits limit tree d → ⊥)
        → (c : ℕ) → IsFirst (λ d. CandidateInCells P part f.goal d) (Some c) → StateOf P.program limit tree (over_all o c)
    state_over_all each no_call no_fit c first =
        Judging.state_over_all P loaded rs k.whole (map (framed_moved k.at) front) (framed_moved k.at f) (map (framed_moved k.at) back) tree split
        none_whole call_whole limit o path_is (two_whole each) (no_call_there P loaded rs frames part all tree k front no_call)
        (λ d x b. no_fit d (here P loaded rs frames part all tree k f f_kept d x) (fits_here P loaded rs frames part all tree k limit d b)) c
        (first_there (λ d. CandidateInCells P part f.goal d) (λ d. CandidateInCells P k.whole (goal_moved k.at f.goal) d) (Some c)
        (there P loaded rs frames part all tree k f f_kept) (here P loaded rs frames part all tree k f f_kept) first)

    pub state_fork : EachHasTwo P part (front ++ f ∷ back) → NoCall P front → (cs : List ℕ) → cs ≢ [] → AllPairs (λ (c d : ℕ). c < d) cs
        → ((c : ℕ) → Contains cs c ↔ (CandidateInCells P part f.goal c × Fits limit tree c))
        → (cut : Option ℕ) → IsFirst (λ d. CandidateInCells P part f.goal d × (Fits limit tree d → ⊥)) cut
        → StateOf P.program limit tree (fork o cs cut)
    state_fork each no_call cs some rising are_those cut first =
        let to : (c : ℕ) → CandidateInCells P part f.goal c → CandidateInCells P k.whole (goal_moved k.at f.goal) c =
        there P loaded rs frames part all tree k f f_kept in
        let fro : (c : ℕ) → CandidateInCells P k.whole (goal_moved k.at f.goal) c → CandidateInCells P part f.goal c =
        here P loaded rs frames part all tree k f f_kept in
        Judging.state_fork P loaded rs k.whole (map (framed_moved k.at) front) (framed_moved k.at f) (map (framed_moved k.at) back) tree split
        none_whole call_whole limit o path_is (two_whole each) (no_call_there P loaded rs frames part all tree k front no_call) cs some rising
        (λ c. (
          λ h. (let x = (are_those c).0 h in (to c x.0, fits_there P loaded rs frames part all tree k limit c x.1)),
          λ x. (are_those c).1 (fro c x.0, fits_here P loaded rs frames part all tree k limit c x.1),
        )) cut
        (first_there (λ d. CandidateInCells P part f.goal d × (Fits limit tree d → ⊥))
        (λ d. CandidateInCells P k.whole (goal_moved k.at f.goal) d × (FitsBehind P limit k.whole d → ⊥)) cut
        (λ c x. (to c x.0, λ b. x.1 (fits_here P loaded rs frames part all tree k limit c b)))
        (λ c x. (fro c x.0, λ b. x.1 (fits_there P loaded rs frames part all tree k limit c b))) first)
