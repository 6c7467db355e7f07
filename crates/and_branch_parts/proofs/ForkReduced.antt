-- A branch that is forked: its children.
use Rattle.std.proofs.Common.{ℕ, suc, ◌≡◌, ◌≢◌, ◌+◌, ◌≤◌, ◌<◌, add-one, drop, drop-cons, get_or, Some, List, [], ◌∷◌, ◌++◌, map, length}
use Rattle.std.proofs.Common.{refl, ap, sym, ◌∙◌, subst, inl, inr, arith, take, Contains, Option}
use Rattle.std.specs.Prelude.{slice_get}
use Rattle.std.proofs.lemmas.Bool.{cases_lt}
use Rattle.std.proofs.lemmas.List.{length-map, get_or-map, drop-drop, drop_all}
use Rattle.std.proofs.lemmas.List.Elements.{Contains-append_right}
use Rattle.std.proofs.lemmas.Option.{get_or_from_slice_get, slice_get_within}
use Rattle.and_model.specs.Prefixes.{IsPrefix}
use Rattle.and_model.specs.Programs.{Of}
use Rattle.and_model.specs.Trees.{QueryTree, Open, call_of, reduce, decided}
use Rattle.and_model.specs.Reached.{ReachedBy, Split}
use Rattle.and_model.specs.Reductions.{Reduction, PlaceHas}
use Rattle.and_model.specs.Stands.{Framed, ClauseHas}
use Rattle.and_model.specs.declared.goal.Goal.{Goal}
use Rattle.and_model.specs.declared.numbers.ClauseNo.{ClauseNo}
use Rattle.and_model.specs.declared.limits.TheConstants.{MAX_LIMIT}
use Rattle.and_laws.proofs.Deciding.{of_bounds}
use Rattle.and_laws.proofs.Ordered.{contains_first, contains_cases, contains_none}
use Rattle.and_laws.proofs.Splitting.{leftmost_same}
use Rattle.and_cells.specs.Ranges.{NamedProgram}
use Rattle.and_cells.specs.Rows.{IsSound}
use Rattle.and_branch_laws.specs.Kept.{goal_of}
use Rattle.and_branch_laws.specs.States.{State, StateOf, fork, failed}
use Rattle.and_branch_laws.proofs.Going
use Rattle.and_branch_laws.proofs.OneState
use Rattle.and_reduction.specs.Trails.{Noted}
use Rattle.and_branch_parts.specs.Branches.{Held, Lives, IsBranchOf, IsOpenGoal, SameKey}
use Rattle.and_branch_parts.specs.Children.{Fork, AreChildren, IsChild}
use Rattle.and_branch_parts.specs.Making.{CanBeMade, IsBegun, IsMade, IsAgain}
use Rattle.and_branch_parts.proofs.KeptOrigins.{key_again}
use Rattle.and_branch_parts.specs.Forking.{numbers}
use Rattle.and_branch_parts.specs.Next.{HasNextCall, IsReduced, IsMoved, IsSameItem, HasItem}
use Rattle.and_branch_parts.proofs.LivingGoals.{Found, found, is_framed}
use Rattle.and_branch_parts.proofs.MovedBranches.{moved_lives, one_tree}
use Rattle.and_branch_parts.proofs.KeptCalls.{call_of_open}
use Rattle.and_branch_parts.proofs.CallItems.{open_is_call}

-- What is kept stands somewhere among the goals.
item_among : (kept : List Framed) (f : Framed) (h : Goal) → Contains kept f → IsSameItem f.goal h → HasItem (map goal_of kept) h
item_among [] f h i same = absurd (contains_none f i)
item_among (x ∷ kept) f h i same = elim (contains_cases x f kept i) [
  | inl e ↦ record {
    front = [];
    goal = x.goal;
    back = map goal_of kept;
    is = refl;
    same = subst (λ (z : Framed). IsSameItem z.goal h) e same;
  }
  | inr j ↦
      let r = item_among kept f h j same in record {
        front = x.goal ∷ r.front;
        goal = r.goal;
        back = r.back;
        is = ap (λ (l : List Goal). x.goal ∷ l) r.is;
        same = r.same;
      }
]

-- The key is of no account, and neither is what is noted.
other_key : (P : NamedProgram) (b : Held) (key : List ℕ) (trail : Noted) (t : QueryTree P.program) → Lives P b t
    → Lives P (record b { key = key; trail = trail }) t
other_key P b key trail t l = record { kept = l.kept; keeps = l.keeps; goals = l.goals; long = l.long; live = l.live; asleep = l.asleep }

module _ (P : NamedProgram) (b : Held) (t : QueryTree P.program) (x : IsBranchOf P b t) (o : Open t) (goal : Goal)
    (is_open : IsOpenGoal P b.reductions t o goal) (cs : List ℕ) (cut : Option ℕ)
    (state : StateOf P.program b.limit t (fork o cs cut)) where
  -- A tree that is forked is not dead.
  fork_lives : Lives P b t
  fork_lives = elim x.state [
    | inl dead ↦ (let one : State t = fork o cs cut in
        let other : State t = failed in
        let e : one ≡ other = OneState.one_state P.program b.limit t (fork o cs cut) failed state dead.1 in absurd (cc))
    | inr lives ↦ lives
  ]

  -- The goal is there.
  pub goal_there : HasItem (b.left ++ b.right) goal
  goal_there =
      let y = fork_lives in
      let z = call_of_open P b.reductions b.row y.kept t y.keeps o goal is_open in
      subst (λ (l : List Goal). HasItem l goal) y.goals (item_among y.kept z.f goal z.there (z.node_is, z.item_is))

  module _ (key : List ℕ) (trail : Noted) (mid : Held) (moved : IsMoved (record b { key = key; trail = trail }) mid) (g : Goal) (rest : List Goal)
      (next : mid.right ≡ g ∷ rest) (same : IsSameItem g goal) (c : ℕ) (i : Contains cs c) where
    mid_lives : Lives P mid t
    mid_lives = moved_lives P (record b { key = key; trail = trail }) mid t moved (other_key P b key trail t fork_lives)

    the_goal : Found P mid t mid.left g rest
    the_goal = found P mid t mid.left g rest mid_lives (ap (λ (l : List Goal). mid.left ++ l) next)

    has_clause : ClauseHas mid.reductions g.node g.clause.0
    has_clause =
        let y = the_goal in
        subst (λ (h : Goal). ClauseHas mid.reductions h.node h.clause.0) y.goal_is (is_framed P mid t mid.left g rest y).1

    still_open : IsOpenGoal P mid.reductions t o g
    still_open = record {
      frame = is_open.frame;
      place = subst (λ (l : List Reduction). PlaceHas l g.node is_open.frame) (sym moved.reductions)
          (subst (λ (n : ℕ). PlaceHas b.reductions n is_open.frame) (sym same.0) is_open.place);
      clause = has_clause;
      path_is = is_open.path_is ∙ ap (λ (n : ℕ). is_open.frame ++ n ∷ []) (sym same.1);
    }

    -- It can be reduced.
    pub next_call : HasNextCall P mid c
    next_call =
        let y = still_open in
        let k = mid_lives.keeps in
        let item = open_is_call P.program mid.reductions t k.made o g.node g.clause.0 g.item y.frame y.place y.clause y.path_is in
        let fits = (state.5 c).0 i in record {
          tree = t;
          lives = mid_lives;
          goal = g;
          rest = rest;
          next = next;
          term = item.0;
          is_call = item.1;
          there = (of_bounds P.program (call_of t o) c fits.0.0).1;
          fits = let u = moved.used in let w = x.used in let l = x.bounded in let f = fits.1 in omega arith;
        }

    -- The reduced branch is the child.
    pub child_stands : (new : Held) → SameKey mid new → IsReduced P mid new c → key ≡ decided t ++ c ∷ [] → (u : QueryTree P.program)
        → Split t c u → IsBranchOf P new u
    child_stands new keys reduced is u split =
        let p : Open t = split.4 in
        let one : o ≡ p = leftmost_same t o p state.2.1 split.5 in
        let bounded : mid.limit ≤ MAX_LIMIT = let e = moved.limit in let l = x.bounded in omega arith in
        let reached : (of_it : Of P.program (call_of t o) c) → ReachedBy P.program new.limit new.key (reduce t o c of_it) = λ of_it.
        subst (λ (k : List ℕ). ReachedBy P.program new.limit k (reduce t o c of_it)) (sym is ∙ sym moved.key ∙ sym keys.key)
        (subst (λ (n : ℕ). ReachedBy P.program n (decided t ++ c ∷ []) (reduce t o c of_it)) (sym moved.limit ∙ sym keys.limit)
        (Going.fork_goes P.program b.limit b.key t x.reached o cs cut state c i of_it).1) in
        let stands : (of_it : Of P.program (call_of t o) c) → IsBranchOf P new (reduce t o c of_it) = λ of_it.
        reduced.stands t o g rest of_it mid_lives bounded next still_open (reached of_it) in
        subst (λ (v : QueryTree P.program). IsBranchOf P new v) (sym split.8)
        (subst (λ (q : Open t). (of_it : Of P.program (call_of t q) c) → IsBranchOf P new (reduce t q c of_it)) one stands split.6)

-- ---- The child of a fork

in_middle : (made rest : List ℕ) (c : ℕ) → Contains (made ++ c ∷ rest) c
in_middle made rest c = Contains-append_right made (c ∷ rest) c (contains_first c rest)

pub parent_has : (P : NamedProgram) (f : Fork) (c : ℕ) → CanBeMade P f c → HasItem (f.parent.left ++ f.parent.right) f.goal
parent_has P f c x =
    let k = x.children in goal_there P f.parent x.tree k.branch k.open_goal f.goal k.goal_is (k.made ++ c ∷ x.rest) k.cut k.state

-- The row of the branch that was forked is sound.
pub parent_sound : (P : NamedProgram) (f : Fork) (t : QueryTree P.program) → AreChildren P f t → IsSound P f.parent.row
parent_sound P f t k =
    let lives : Lives P f.parent t = fork_lives P f.parent t k.branch k.open_goal f.goal k.goal_is (k.made ++ f.clauses) k.cut k.state in
    lives.keeps.sound

pub child_next : (P : NamedProgram) (f : Fork) (c : ℕ) → CanBeMade P f c → (key : List ℕ) (trail : Noted) (mid : Held)
    → IsMoved (record f.parent { key = key; trail = trail }) mid
    → (g : Goal) × (rest : List Goal) × (mid.right ≡ g ∷ rest) × IsSameItem g f.goal → HasNextCall P mid c
child_next P f c x key trail mid moved (g, rest, next, same) =
    let k = x.children in
    next_call P f.parent x.tree k.branch k.open_goal f.goal k.goal_is (k.made ++ c ∷ x.rest) k.cut k.state key trail mid moved g rest next same c
    (in_middle k.made x.rest c)

pub child_made : (P : NamedProgram) (f : Fork) (c : ℕ) (key : List ℕ) (trail : Noted) → key ≡ f.longer ++ c ∷ [] → (mid new : Held)
    → IsMoved (record f.parent { key = key; trail = trail }) mid
    → (g : Goal) × (rest : List Goal) × (mid.right ≡ g ∷ rest) × IsSameItem g f.goal
    → SameKey mid new → IsReduced P mid new c → IsMade P f c new
child_made P f c key trail is mid new moved (g, rest, next, same) keys reduced = record {
  key = keys.key ∙ moved.key ∙ is;
  limit = keys.limit ∙ moved.limit;
  stands = λ others t u k split.
      child_stands P f.parent t k.branch k.open_goal f.goal k.goal_is (k.made ++ c ∷ others) k.cut k.state key trail mid moved g rest next same
      c (in_middle k.made others c) new keys reduced (is ∙ ap (λ (l : List ℕ). l ++ c ∷ []) k.longer) u split;
}

-- ---- Its beginning

pub begun_again : (P : NamedProgram) (f : Fork) (c : ℕ) (goal : Goal) (decided : ℕ) (b : Held) → IsAgain P f c goal decided b
    → (keyed : Held) → keyed ≡ record b { key = take decided b.key ++ c ∷ [] } → IsBegun P f c goal keyed
begun_again P f c goal decided b x keyed e =
    let noted : b.trail ≡ keyed.trail = sym (ap (λ (h : Held). h.trail) e) in record {
      can = x.can;
      goal_is = x.goal_is;
      branch = e ∙ ap (λ (h : Held). record h { key = take decided b.key ++ c ∷ [] }) x.branch
          ∙ ap (λ (k : List ℕ). record f.parent { key = k ++ c ∷ []; trail = b.trail }) x.begins
          ∙ ap (λ (n : Noted). record f.parent { key = f.longer ++ c ∷ []; trail = n }) noted;
    }

module _ (P : NamedProgram) (f : Fork) (c : ℕ) (goal : Goal) (b : Held) (x : IsBegun P f c goal b) where
  pub begun_has : HasItem (b.left ++ b.right) goal
  begun_has =
      subst (λ (h : Held). HasItem (h.left ++ h.right) goal) (sym x.branch)
      (subst (λ (g : Goal). HasItem (f.parent.left ++ f.parent.right) g) (sym x.goal_is) (parent_has P f c x.can))

  module _ (mid : Held) (moved : IsMoved b mid) (at : (g : Goal) × (rest : List Goal) × (mid.right ≡ g ∷ rest) × IsSameItem g goal) where
    begun_moved : IsMoved (record f.parent { key = f.longer ++ c ∷ []; trail = b.trail }) mid
    begun_moved = subst (λ (h : Held). IsMoved h mid) x.branch moved

    begun_at : (g : Goal) × (rest : List Goal) × (mid.right ≡ g ∷ rest) × IsSameItem g f.goal
    begun_at = subst (λ (h : Goal). (g : Goal) × (rest : List Goal) × (mid.right ≡ g ∷ rest) × IsSameItem g h) x.goal_is at

    pub begun_next : HasNextCall P mid c
    begun_next = child_next P f c x.can (f.longer ++ c ∷ []) b.trail mid begun_moved begun_at

    pub begun_made : (new : Held) → SameKey mid new → IsReduced P mid new c → IsMade P f c new
    begun_made new keys reduced = child_made P f c (f.longer ++ c ∷ []) b.trail refl mid new begun_moved begun_at keys reduced

-- ---- The children that are still to come

-- the next of the clauses
pub next_clause : (cs : List ClauseNo) (ns : List ℕ) (n : ℕ) (c : ClauseNo) → numbers cs ≡ ns → slice_get cs n ≡ Some c
    → drop n ns ≡ c.0 ∷ drop (n + 1) ns
next_clause cs ns n c e at =
    let low : n < length cs = slice_get_within cs n c at in
    let long : length ns ≡ length cs = sym (ap (λ (l : List ℕ). length l) e) ∙ length-map cs (λ (d : ClauseNo). d.0) in
    let item : get_or ns n 0 ≡ c.0 = sym (ap (λ (l : List ℕ). get_or l n 0) e) ∙ get_or-map (λ (d : ClauseNo). d.0) cs n c 0 low
    ∙ ap (λ (d : ClauseNo). d.0) (get_or_from_slice_get cs n c c at) in
    let within : n < length ns = omega arith in
    drop-cons ns n 0 within ∙ ap (λ (k : ℕ). k ∷ drop (suc n) ns) item ∙ ap (λ (k : ℕ). c.0 ∷ drop k ns) (sym (add-one n))

-- Where some are still to come, fewer were made than there are.
pub some_left : (cs : List ClauseNo) (made : ℕ) → drop made (numbers cs) ≢ [] → made < length cs
some_left cs made some = elim (cases_lt made (length cs)) [
  | inl below ↦ below
  | inr above ↦
      (let long : length (numbers cs) ≡ length cs = length-map cs (λ (d : ClauseNo). d.0) in
      absurd (some (drop_all made (numbers cs) (omega arith))))
]

-- one behind so many of those that are still to come
pub later_clause : (ns : List ℕ) (made place c : ℕ) → drop (made + place) ns ≡ c ∷ drop (made + place + 1) ns
    → drop place (drop made ns) ≡ c ∷ drop (place + 1) (drop made ns)
later_clause ns made place c is =
    let sum : made + place + 1 ≡ made + (place + 1) = omega arith in
    drop-drop place made ns ∙ is ∙ ap (λ (k : ℕ). c ∷ drop k ns) sum ∙ ap (λ (l : List ℕ). c ∷ l) (sym (drop-drop (place + 1) made ns))

pub can_be_made : (P : NamedProgram) (f : Fork) (n c : ℕ) → drop n f.clauses ≡ c ∷ drop (n + 1) f.clauses
    → (t : QueryTree P.program) × AreChildren P (record f { clauses = drop n f.clauses }) t → CanBeMade P f c
can_be_made P f n c e (t, k) =
    record { rest = drop (n + 1) f.clauses; tree = t; children = subst (λ (l : List ℕ). AreChildren P (record f { clauses = l }) t) e k }

pub child_is : (P : NamedProgram) (f : Fork) (n c : ℕ) → drop n f.clauses ≡ c ∷ drop (n + 1) f.clauses → (b : Held) → IsMade P f c b
    → IsChild P (record f { clauses = drop n f.clauses }) (record f { clauses = drop (n + 1) f.clauses }) b
child_is P f n c e b m = record {
  clause = c;
  next = e;
  parent = refl;
  goal = refl;
  longer = refl;
  key = m.key;
  limit = m.limit;
  stands = λ t u k split. m.stands (drop (n + 1) f.clauses) t u (subst (λ (l : List ℕ). AreChildren P (record f { clauses = l }) t) e k)
      split;
}

-- ---- A choicepoint

-- what it keeps of the fork
abbrev pub kept_fork : (parent : Held) (goal : Goal) (longer : List ℕ) (clauses : List ClauseNo) → Fork
kept_fork parent goal longer clauses = record { parent = parent; goal = goal; longer = longer; clauses = numbers clauses }

-- Contracts see it from the clause on that comes next.
module _ (P : NamedProgram) (parent : Held) (goal : Goal) (longer : List ℕ) (clauses : List ClauseNo) (made : ℕ) (seen : Fork)
    (view_is : record (kept_fork parent goal longer clauses) { clauses = drop made (numbers clauses) } ≡ seen) (c : ClauseNo)
    (at : slice_get clauses made ≡ Some c) where
  -- The branch that was forked is there again,
  pub again_by : (t : QueryTree P.program) × AreChildren P seen t → (decided : ℕ) → length longer ≡ decided → (old : Held)
      → IsPrefix seen.longer old.key → (trail : Noted) (b : Held) → b ≡ record parent { key = old.key; trail = trail }
      → IsAgain P (kept_fork parent goal longer clauses) c.0 goal decided b
  again_by children decided long old begins trail b e =
      let f : Fork = kept_fork parent goal longer clauses in
      let key : b.key ≡ old.key = ap (λ (h : Held). h.key) e in
      let noted : trail ≡ b.trail = sym (ap (λ (h : Held). h.trail) e) in
      let here : IsPrefix longer old.key = subst (λ (h : Fork). IsPrefix h.longer old.key) (sym view_is) begins in
      record {
        can = can_be_made P f made c.0 (next_clause clauses f.clauses made c refl at)
            (subst (λ (h : Fork). (t : QueryTree P.program) × AreChildren P h t) (sym view_is) children);
        goal_is = refl;
        begins = ap (λ (k : List ℕ). take decided k) key ∙ key_again longer old.key decided here long;
        branch = e ∙ ap (λ (k : List ℕ). record parent { key = k; trail = trail }) (sym key)
            ∙ ap (λ (n : Noted). record parent { key = b.key; trail = n }) noted;
      }

  -- and becomes the child.
  pub child_by : (b : Held) → IsMade P (kept_fork parent goal longer clauses) c.0 b
      → IsChild P seen (record (kept_fork parent goal longer clauses) { clauses = drop (made + 1) (numbers clauses) }) b
  child_by b x =
      let f : Fork = kept_fork parent goal longer clauses in
      let new : Fork = record f { clauses = drop (made + 1) f.clauses } in
      subst (λ (h : Fork). IsChild P h new b) view_is (child_is P f made c.0 (next_clause clauses f.clauses made c refl at) b x)

-- ---- The fork

pub are_children : (P : NamedProgram) (b : Held) (goal : Goal) (longer clauses : List ℕ)
    → ((t : QueryTree P.program) → IsBranchOf P b t → decided t ≡ longer)
    → (u : QueryTree P.program) × (o : Open u) × (cut : Option ℕ) × IsBranchOf P b u × IsOpenGoal P b.reductions u o goal
    × StateOf P.program b.limit u (fork o clauses cut)
    → (t : QueryTree P.program) → IsBranchOf P b t
    → AreChildren P (record { parent = b; goal = goal; longer = longer; clauses = clauses }) t
are_children P b goal longer clauses decides (u, o, cut, y, is_open, state) t x =
    subst (λ (v : QueryTree P.program). AreChildren P (record { parent = b; goal = goal; longer = longer; clauses = clauses }) v)
    (one_tree P b u t y x) (record {
      branch = y;
      open_goal = o;
      made = [];
      cut = cut;
      goal_is = is_open;
      state = state;
      longer = sym (decides u y);
    })
