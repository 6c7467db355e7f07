-- The state of a branch's tree, judged in its cells where no arithmetic can run.
use Rattle.std.proofs.Common.{ℕ, ◌≡◌, ◌≢◌, ◌<◌, true, List, [], ◌∷◌, ◌++◌, map, Option, Some, None, refl, sym, ap, ◌∙◌, subst, inl, inr}
use Rattle.std.proofs.Common.{arith, Contains, AllPairs}
use Rattle.std.specs.Prelude.{◌↔◌}
use Rattle.std.proofs.lemmas.List.{map-append}
use Rattle.std.proofs.lemmas.List.Elements.{Contains-append_left, Contains-append_right}
use Rattle.and_model.specs.Terms.{Path, Term}
use Rattle.and_model.specs.Solutions.{Equation, Solvable, Entails}
use Rattle.and_model.specs.Programs.{Program, Item, call, equal, arithmetic, fail, Arithmetic, arithmetic_in}
use Rattle.and_model.specs.Closure.{Ready, NoneReady, ClosesAnyhow}
use Rattle.and_model.specs.Candidates.{Candidate}
use Rattle.and_model.specs.Trees.{Agenda, Tree, QueryTree, done, left, by, equate, reckon, Open, IsLeftmost, IsWhole, path, call_of}
use Rattle.and_model.specs.Trees.{equations, arithmetics, Closed}
use Rattle.and_model.specs.Reached.{CandidateOf, Shut}
use Rattle.and_model.specs.Reductions.{Reduction}
use Rattle.and_model.specs.Stands.{Framed, in_tree}
use Rattle.and_model.specs.declared.reference.Ref.{Ref}
use Rattle.and_laws.proofs.Agreement.{query_apart}
use Rattle.and_laws.proofs.Closing.{ran_then_closes, closure_order, closes_anyhow}
use Rattle.and_laws.proofs.Deciding.{closes_total}
use Rattle.and_laws.proofs.Order.{none_whole}
use Rattle.and_laws.proofs.Ordered.{contains_first, contains_more, contains_cases, contains_none}
use Rattle.and_laws.proofs.Picking.{candidate_falls}
use Rattle.and_laws.proofs.Substitutions.{then}
use Rattle.and_laws.proofs.OpenPaths.{one_open}
use Rattle.and_cells.specs.Ranges.{NamedProgram}
use Rattle.and_branch_laws.specs.OwnVariables.{IsLoaded}
use Rattle.and_branch_laws.specs.Tasks.{Task, take, tasks, calls_among, arithmetic_among}
use Rattle.and_branch_laws.specs.States.{IsBefore, IsSole, Fits, Lives, IsFirst, determinate, over_one, over_all, fork, floundered, answer}
use Rattle.and_branch_laws.specs.States.{StateOf}
use Rattle.and_branch_laws.specs.Judging.{outside, CandidateInCells, SoleInCells, FitsBehind, NoneIsGround, EachHasOne, EachHasTwo, NoCall}
use Rattle.and_branch_laws.specs.Kept.{item_at, task_in, task_of, is_call, IsCall, Kept}
use Rattle.and_branch_laws.proofs.Tasks.{tree_ran, ran_calls, ran_replaced, Replaced, open_at, OpenAt}
use Rattle.and_branch_laws.proofs.Keeping
use Rattle.and_branch_laws.proofs.Keeping.{task_is}
use Rattle.and_branch_laws.proofs.Reading.{row_general}
use Rattle.and_branch_laws.proofs.Running
use Rattle.and_branch_laws.proofs.Stepping.{candidate_in_cells, call_is}

-- ---- Open goals among the tasks

-- each open goal is a call among the tasks
open_among : {P : Program} {ag : Agenda} (t : Tree P ag) (o : Open t) → Contains (calls_among (tasks t)) (path t o, call_of t o)
open_among done o = elim o [ ]
open_among (left {q = q} {g = g} t) (inl u) = contains_first (q, g) (calls_among (tasks t))
open_among (left {q = q} {g = g} t) (inr o) = contains_more (q, g) (path t o, call_of t o) (calls_among (tasks t)) (open_among t o)
open_among (by c h t) o = open_among t o
open_among (equate t) o = open_among t o
open_among (reckon t) o = open_among t o

-- a goal before which none stands is the leftmost
leftmost_is : {P : Program} {ag : Agenda} (t : Tree P ag) (o : Open t) → ((p : Open t) → IsBefore t p o → ⊥) → IsLeftmost t o
leftmost_is done o h = elim o [ ]
leftmost_is (left t) (inl u) h = tt
leftmost_is (left t) (inr o) h = h (inl tt) tt
leftmost_is (by c k t) o h = leftmost_is t o h
leftmost_is (equate t) o h = leftmost_is t o h
leftmost_is (reckon t) o h = leftmost_is t o h

-- a kept goal of this call
record KeptCall (P : Program) (kept : List Framed) (q : Path) : Type 0 where
  pub goal : Framed
  pub there : Contains kept goal
  pub called : IsCall P goal
  pub path_is : q ≡ goal.frame ++ goal.goal.item ∷ []

kept_more : (P : Program) (f : Framed) (kept : List Framed) (q : Path) → KeptCall P kept q → KeptCall P (f ∷ kept) q
kept_more P f kept q k = record { goal = k.goal; there = contains_more f k.goal kept k.there; called = k.called; path_is = k.path_is }

-- the first of the kept goals is a call, and it is this one or one of the others
call_first : (P : Program) (f : Framed) (kept : List Framed) (q : Path) (g : Term) → IsCall P f
    → Contains ((f.frame ++ f.goal.item ∷ [], in_tree P f) ∷ calls_among (map (task_of P) kept)) (q, g)
    → (Contains (calls_among (map (task_of P) kept)) (q, g) → KeptCall P kept q) → KeptCall P (f ∷ kept) q
call_first P f kept q g called h rest =
    elim (contains_cases (f.frame ++ f.goal.item ∷ [], in_tree P f) (q, g) (calls_among (map (task_of P) kept)) h) [
      | inl e ↦ record { goal = f; there = contains_first f kept; called = called; path_is = ap (λ (x : Path × Term). x.0) e }
      | inr i ↦ kept_more P f kept q (rest i)
    ]

kept_step : (P : Program) (f : Framed) (kept : List Framed) (q : Path) (g : Term) (i : Item) → item_at P f.goal ≡ i
    → Contains (calls_among (task_in P f i ∷ map (task_of P) kept)) (q, g)
    → (Contains (calls_among (map (task_of P) kept)) (q, g) → KeptCall P kept q) → KeptCall P (f ∷ kept) q
kept_step P f kept q g (call x) e h rest = call_first P f kept q g (ap (λ (i : Item). is_call (task_in P f i)) e) h rest
kept_step P f kept q g (equal a b) e h rest = call_first P f kept q g (ap (λ (i : Item). is_call (task_in P f i)) e) h rest
kept_step P f kept q g (arithmetic a) e h rest = kept_more P f kept q (rest h)
kept_step P f kept q g fail e h rest = call_first P f kept q g (ap (λ (i : Item). is_call (task_in P f i)) e) h rest

-- each call among the tasks of kept goals is one of these
kept_call : (P : Program) (kept : List Framed) (q : Path) (g : Term) → Contains (calls_among (map (task_of P) kept)) (q, g)
    → KeptCall P kept q
kept_call P [] q g h = absurd (contains_none (q, g) h)
kept_call P (f ∷ kept) q g h = kept_step P f kept q g (item_at P f.goal) refl h (kept_call P kept q g)

-- ---- Arithmetic that waits

-- what holds of the kept arithmetic, each in its frame, holds of that among the tasks
ready_step : (P : Program) (es : List Equation) (f : Framed) (i : Item) (rest : List Task) → item_at P f.goal ≡ i
    → ((a : Arithmetic) → item_at P f.goal ≡ arithmetic a → Ready es (arithmetic_in f.frame a) → ⊥) → NoneReady es (arithmetic_among rest)
    → NoneReady es (arithmetic_among (task_in P f i ∷ rest))
ready_step P es f (call g) rest e h n = n
ready_step P es f (equal a b) rest e h n = n
ready_step P es f (arithmetic a) rest e h n = (h a e, n)
ready_step P es f fail rest e h n = n

none_ready : (P : Program) (es : List Equation) (kept : List Framed)
    → ((f : Framed) (a : Arithmetic) → Contains kept f → item_at P f.goal ≡ arithmetic a → Ready es (arithmetic_in f.frame a) → ⊥)
    → NoneReady es (arithmetic_among (map (task_of P) kept))
none_ready P es [] h = tt
none_ready P es (f ∷ kept) h =
    ready_step P es f (item_at P f.goal) (map (task_of P) kept) refl (λ a e r. h f a (contains_first f kept) e r)
    (none_ready P es kept (λ g a c e r. h g a (contains_more f g kept c) e r))

-- Where no kept goal is a call, and some goal is kept, arithmetic waits.
waits_step : (P : Program) (f : Framed) (i : Item) (rest : List Task) → (is_call (task_in P f i) ≡ true → ⊥)
    → arithmetic_among (task_in P f i ∷ rest) ≢ []
waits_step P f (call g) rest n e = n refl
waits_step P f (equal a b) rest n e = n refl
waits_step P f (arithmetic a) rest n e = cc
waits_step P f fail rest n e = n refl

some_wait : (P : Program) (kept : List Framed) → ((f : Framed) → Contains kept f → IsCall P f → ⊥) → kept ≢ []
    → arithmetic_among (map (task_of P) kept) ≢ []
some_wait P [] n some e = some refl
some_wait P (f ∷ kept) n some e = waits_step P f (item_at P f.goal) (map (task_of P) kept) (n f (contains_first f kept)) e

module _ (P : NamedProgram) (loaded : IsLoaded P) (rs : List Reduction) (row : List Ref) (kept : List Framed) (tree : QueryTree P.program)
    (k : Kept P rs row kept tree) where
  abbrev waits : List Arithmetic
  waits = arithmetic_among (map (task_of P.program) kept)

  pub solved_solvable : Solvable k.solved
  solved_solvable =
      let g = row_general P loaded.own rs row kept tree k in
      (then k.names g.solution, Keeping.to_solved P loaded.own rs row kept tree k g.solution g.most_general.0)

  -- Where no arithmetic reads as ground terms, none is ready: what was solved is closed.
  pub closed_anyhow : NoneIsGround P row kept → ClosesAnyhow (equations tree) (arithmetics tree) k.solved waits
  closed_anyhow none_is =
      let idle : NoneReady k.solved waits =
      none_ready P.program k.solved kept
      (λ f a c e r. none_is f a r.0 c e (Running.known_in_cells P loaded.own rs row kept tree k f c a e r.0 r.1) r.1.0) in
      ran_then_closes (equations tree) (arithmetics tree) k.solved waits k.solved waits
      (tree_ran tree k.solved (map (task_of P.program) kept) k.ran) (ClosesAnyhow.waiting k.solved waits idle)

  pub closed_is : NoneIsGround P row kept → (es : List Equation) (gs : List Arithmetic) → Closed tree es gs → Entails es k.solved
      × Entails k.solved es × (gs ≡ waits)
  closed_is none_is es gs closed =
      let order = closure_order (equations tree) (arithmetics tree) k.solved waits es gs (closed_anyhow none_is)
      (closes_anyhow (equations tree) (arithmetics tree) es gs closed) in
      (order.1, order.0, sym (order.2 solved_solvable))

  -- So an open goal's candidates are those in the cells.
  pub candidate_in_tree : NoneIsGround P row kept → (es : List Equation) (gs : List Arithmetic) → Closed tree es gs
      → (f : Framed) (h : Contains kept f) → IsCall P.program f
      → (o : Open tree) → path tree o ≡ f.frame ++ f.goal.item ∷ [] → (c : ℕ) → CandidateInCells P row f.goal c → CandidateOf tree es o c
  candidate_in_tree none_is es gs closed f h called o path_is c x =
      let p : Path = f.frame ++ f.goal.item ∷ [] in
      let there : Candidate P.program k.solved p (in_tree P.program f) c =
      (Keeping.candidates_of_cells P loaded.own rs row kept tree k f h called outside (λ e. cc) c).1 x in
      let closed_there : Candidate P.program es p (in_tree P.program f) c = candidate_falls P.program es k.solved p
      (in_tree P.program f) c (closed_is none_is es gs closed).1 there in
      let calls : call_of tree o ≡ in_tree P.program f = call_is P loaded rs row kept tree k f h called o path_is in
      subst (λ (q : Path). Candidate P.program es q (call_of tree o) c) (sym path_is)
      (subst (λ (t : Term). Candidate P.program es p t c) (sym calls) closed_there)

  pub candidate_of_cells : (es : List Equation) (gs : List Arithmetic) → Closed tree es gs → (f : Framed) (h : Contains kept f)
      → IsCall P.program f
      → (o : Open tree) → path tree o ≡ f.frame ++ f.goal.item ∷ [] → (c : ℕ) → CandidateOf tree es o c → CandidateInCells P row f.goal c
  candidate_of_cells es gs closed f h called o path_is c x = candidate_in_cells P loaded rs row kept tree k f h called o path_is outside
      (λ e. cc) es gs closed c x

  -- Each open goal is kept.
  open_kept : (p : Open tree) → KeptCall P.program kept (path tree p)
  open_kept p =
      let same : calls_among (map (task_of P.program) kept) ≡ calls_among (tasks tree) = ran_calls (equations tree) (tasks tree) k.solved
      (map (task_of P.program) kept) k.ran in
      kept_call P.program kept (path tree p) (call_of tree p)
      (subst (λ (l : List (Path × Term)). Contains l (path tree p, call_of tree p)) (sym same) (open_among tree p))

  -- Each open goal has a candidate, or two, where the kept calls have.
  pub tree_lives : NoneIsGround P row kept → EachHasOne P row kept → (es : List Equation) (gs : List Arithmetic) → Closed tree es gs
      → Lives tree es gs
  tree_lives none_is each es gs closed = (
    closed,
    (solved_solvable.0, (closed_is none_is es gs closed).1 solved_solvable.0 solved_solvable.1),
    λ p. (let h = open_kept p in let c = each h.goal h.there h.called in
        (c.0, candidate_in_tree none_is es gs closed h.goal h.there h.called p h.path_is c.0 c.1)),
  )

  pub tree_shut : NoneIsGround P row kept → EachHasTwo P row kept → Shut tree
  tree_shut none_is each =
      let (es, gs, closed) = closes_total (equations tree) (arithmetics tree) in (
        es,
        gs,
        closed,
        (solved_solvable.0, (closed_is none_is es gs closed).1 solved_solvable.0 solved_solvable.1),
        λ p.
            let h = open_kept p in
            let two = each h.goal h.there h.called in (
              two.0,
              two.1,
              two.2,
              candidate_in_tree none_is es gs closed h.goal h.there h.called p h.path_is two.0 two.3,
              candidate_in_tree none_is es gs closed h.goal h.there h.called p h.path_is two.1 two.4,
            ),
      )

  -- Where no kept goal is a call, none is open.
  pub tree_whole : NoCall P kept → IsWhole tree
  tree_whole n = none_whole tree (λ p. let h = open_kept p in n h.goal h.there h.called)

  sole_in_tree : NoneIsGround P row kept → (es : List Equation) (gs : List Arithmetic) → Closed tree es gs
      → (f : Framed) (h : Contains kept f) → IsCall P.program f
      → (o : Open tree) → path tree o ≡ f.frame ++ f.goal.item ∷ [] → (c : ℕ) → SoleInCells P row f.goal c → IsSole tree es o c
  sole_in_tree none_is es gs closed f h called o path_is c x = (
    candidate_in_tree none_is es gs closed f h called o path_is c x.0,
    λ d y. x.1 d (candidate_of_cells es gs closed f h called o path_is d y),
  )

  sole_in_cells : NoneIsGround P row kept → (es : List Equation) (gs : List Arithmetic) → Closed tree es gs
      → (f : Framed) (h : Contains kept f) → IsCall P.program f
      → (o : Open tree) → path tree o ≡ f.frame ++ f.goal.item ∷ [] → (c : ℕ) → IsSole tree es o c → SoleInCells P row f.goal c
  sole_in_cells none_is es gs closed f h called o path_is c x = (
    candidate_of_cells es gs closed f h called o path_is c x.0,
    λ d y. x.1 d (candidate_in_tree none_is es gs closed f h called o path_is d y),
  )

  fits_in_tree : (limit c : ℕ) → FitsBehind P limit row c → Fits limit tree c
  fits_in_tree limit c h = let e = k.long in omega arith

  fits_in_cells : (limit c : ℕ) → Fits limit tree c → FitsBehind P limit row c
  fits_in_cells limit c h = let e = k.long in omega arith

  -- ---- No call is left

  pub state_floundered : (limit : ℕ) → NoneIsGround P row kept → NoCall P kept → kept ≢ [] → StateOf P.program limit tree floundered
  state_floundered limit none_is n some =
      let (es, gs, closed) = closes_total (equations tree) (arithmetics tree) in
      let is_closed = closed_is none_is es gs closed in (
        es,
        gs,
        closed,
        (solved_solvable.0, is_closed.1 solved_solvable.0 solved_solvable.1),
        tree_whole n,
        λ e. some_wait P.program kept n some (sym is_closed.2 ∙ e),
      )

  pub state_answer : (limit : ℕ) → kept ≡ [] → StateOf P.program limit tree answer
  state_answer limit none_kept =
      let nothing : (f : Framed) → Contains kept f → ⊥ = λ f h. contains_none f (subst (λ (l : List Framed). Contains l f) none_kept h) in
      let none_is : NoneIsGround P row kept = λ f a us h e r g. nothing f h in
      let (es, gs, closed) = closes_total (equations tree) (arithmetics tree) in
      let is_closed = closed_is none_is es gs closed in (
        es,
        gs,
        closed,
        (solved_solvable.0, is_closed.1 solved_solvable.0 solved_solvable.1),
        tree_whole (λ f h called. nothing f h),
        is_closed.2 ∙ ap (λ (l : List Framed). arithmetic_among (map (task_of P.program) l)) none_kept,
      )

-- ---- Some call decides

module _ (P : NamedProgram) (loaded : IsLoaded P) (rs : List Reduction) (row : List Ref) (front : List Framed) (f : Framed)
    (back : List Framed) (tree : QueryTree P.program)
    (k : Kept P rs row (front ++ f ∷ back) tree) (none_is : NoneIsGround P row (front ++ f ∷ back)) (called : IsCall P.program f)
    (limit : ℕ)
    (o : Open tree) (path_is : path tree o ≡ f.frame ++ f.goal.item ∷ []) where
  abbrev all : List Framed
  all = front ++ f ∷ back

  f_kept : Contains (front ++ f ∷ back) f
  f_kept = Contains-append_right front (f ∷ back) f (contains_first f back)

  -- The open goals before it are the kept calls before it.
  before_kept : (p : Open tree) → IsBefore tree p o → KeptCall P.program front (path tree p)
  before_kept p b =
      let T : Framed → Task = task_of P.program in
      let q : Path = f.frame ++ f.goal.item ∷ [] in
      let r : Replaced (equations tree) (tasks tree) k.solved (map T front) (T f) (map T back) =
      ran_replaced (equations tree) (tasks tree) k.solved (map T all) k.ran (map T front) (T f) (map T back)
      (map-append T front (f ∷ back)) in
      let was : tasks tree ≡ r.before ++ take q (in_tree P.program f) ∷ r.behind = r.was
      ∙ ap (λ (x : Task). r.before ++ x ∷ r.behind) (task_is P.program f called) in
      let found : OpenAt tree q (in_tree P.program f) r.before r.behind = open_at tree q (in_tree P.program f) r.before r.behind was in
      let same : o ≡ found.goal = one_open tree o found.goal (query_apart P.program) (path_is ∙ sym found.path_is) in
      let among : Contains (calls_among r.before) (path tree p, call_of tree p) =
      found.before p (subst (λ (x : Open tree). IsBefore tree p x) same b) in
      kept_call P.program front (path tree p) (call_of tree p)
      (subst (λ (l : List (Path × Term)). Contains l (path tree p, call_of tree p)) r.same_calls among)

  -- one of those is one of all
  front_kept : (h : Framed) → Contains front h → Contains (front ++ f ∷ back) h
  front_kept h c = Contains-append_left front (f ∷ back) h c

  pub state_determinate : EachHasOne P row (front ++ f ∷ back) → (c : ℕ) → SoleInCells P row f.goal c → FitsBehind P limit row c
      → ((h : Framed) (d : ℕ) → Contains front h → IsCall P.program h → SoleInCells P row h.goal d → FitsBehind P limit row d → ⊥)
      → StateOf P.program limit tree (determinate o c)
  state_determinate each c sole fits first =
      let (es, gs, closed) = closes_total (equations tree) (arithmetics tree) in (
        es,
        gs,
        tree_lives P loaded rs row all tree k none_is each es gs closed,
        sole_in_tree P loaded rs row all tree k none_is es gs closed f f_kept called o path_is c sole,
        fits_in_tree P loaded rs row all tree k limit c fits,
        λ p d b alone fits_too.
            let h = before_kept p b in
            first h.goal d h.there h.called
            (sole_in_cells P loaded rs row all tree k none_is es gs closed h.goal
            (front_kept h.goal h.there) h.called p h.path_is d alone)
            (fits_in_cells P loaded rs row all tree k limit d fits_too),
      )

  pub state_over_one : EachHasOne P row (front ++ f ∷ back) → (c : ℕ) → SoleInCells P row f.goal c
      → ((h : Framed) (d : ℕ) → Contains (front ++ f ∷ back) h → IsCall P.program h → SoleInCells P row h.goal d
      → FitsBehind P limit row d → ⊥)
      → ((h : Framed) (d : ℕ) → Contains front h → IsCall P.program h → SoleInCells P row h.goal d → ⊥)
      → StateOf P.program limit tree (over_one o c)
  state_over_one each c sole none_fits first =
      let (es, gs, closed) = closes_total (equations tree) (arithmetics tree) in (
        es,
        gs,
        tree_lives P loaded rs row all tree k none_is each es gs closed,
        λ p d alone fits.
            let h = open_kept P loaded rs row all tree k p in
            none_fits h.goal d h.there h.called
            (sole_in_cells P loaded rs row all tree k none_is es gs closed h.goal h.there h.called p h.path_is d alone)
            (fits_in_cells P loaded rs row all tree k limit d fits),
        sole_in_tree P loaded rs row all tree k none_is es gs closed f f_kept called o path_is c sole,
        λ p d b alone.
            let h = before_kept p b in
            first h.goal d h.there h.called
            (sole_in_cells P loaded rs row all tree k none_is es gs closed h.goal
            (front_kept h.goal h.there) h.called p h.path_is d alone),
      )

  -- the first call is the leftmost open goal
  leftmost_here : NoCall P front → IsLeftmost tree o
  leftmost_here n = leftmost_is tree o (λ p b. let h = before_kept p b in n h.goal h.there h.called)

  pub state_over_all : EachHasTwo P row (front ++ f ∷ back) → NoCall P front
      → ((d : ℕ) → CandidateInCells P row f.goal d → FitsBehind P limit row d → ⊥)
      → (c : ℕ) → IsFirst (λ d. CandidateInCells P row f.goal d) (Some c) → StateOf P.program limit tree (over_all o c)
  state_over_all each n none_fits c first =
      let (es, gs, closed) = closes_total (equations tree) (arithmetics tree) in
      let to_cells : (d : ℕ) → CandidateOf tree es o d
      → CandidateInCells P row f.goal d = candidate_of_cells P loaded rs row all tree k es gs closed f f_kept called o path_is in (
        es,
        gs,
        (tree_shut P loaded rs row all tree k none_is each, leftmost_here n, closed),
        λ d x fits. none_fits d (to_cells d x) (fits_in_cells P loaded rs row all tree k limit d fits),
        (
          candidate_in_tree P loaded rs row all tree k none_is es gs closed f f_kept called o path_is c first.0,
          λ d x. first.1 d (to_cells d x),
        ),
      )

  first_moved : (A B : ℕ → Type 0) (a : Option ℕ) → ((c : ℕ) → A c → B c) → ((c : ℕ) → B c → A c) → IsFirst A a → IsFirst B a
  first_moved A B None to fro x = λ c b. x c (fro c b)
  first_moved A B (Some c) to fro x = (to c x.0, λ d b. x.1 d (fro d b))

  pub state_fork : EachHasTwo P row (front ++ f ∷ back) → NoCall P front → (cs : List ℕ) → cs ≢ [] → AllPairs (λ (c d : ℕ). c < d) cs
      → ((c : ℕ) → Contains cs c ↔ (CandidateInCells P row f.goal c × FitsBehind P limit row c))
      → (cut : Option ℕ) → IsFirst (λ d. CandidateInCells P row f.goal d × (FitsBehind P limit row d → ⊥)) cut
      → StateOf P.program limit tree (fork o cs cut)
  state_fork each n cs some rising are cut first =
      let (es, gs, closed) = closes_total (equations tree) (arithmetics tree) in
      let to_cells : (d : ℕ) → CandidateOf tree es o d
      → CandidateInCells P row f.goal d = candidate_of_cells P loaded rs row all tree k es gs closed f f_kept called o path_is in
      let to_tree : (d : ℕ) → CandidateInCells P row f.goal d
      → CandidateOf tree es o d = candidate_in_tree P loaded rs row all tree k none_is es gs closed f f_kept called o path_is in (
        es,
        gs,
        (tree_shut P loaded rs row all tree k none_is each, leftmost_here n, closed),
        some,
        rising,
        λ c. (
          λ h. (let x = (are c).0 h in (to_tree c x.0, fits_in_tree P loaded rs row all tree k limit c x.1)),
          λ x. (are c).1 (to_cells c x.0, fits_in_cells P loaded rs row all tree k limit c x.1),
        ),
        first_moved (λ d. CandidateInCells P row f.goal d × (FitsBehind P limit row d → ⊥))
            (λ d. CandidateOf tree es o d × (Fits limit tree d → ⊥)) cut
            (λ c x. (to_tree c x.0, λ h. x.1 (fits_in_cells P loaded rs row all tree k limit c h)))
            (λ c x. (to_cells c x.0, λ h. x.1 (fits_in_tree P loaded rs row all tree k limit c h))) first,
      )
