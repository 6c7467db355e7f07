-- Branches of which other goals are watched.
use Rattle.std.proofs.Common.{ℕ, ◌≡◌, false, List, [], ◌∷◌, ◌++◌, map, append_assoc, refl, ap, sym, ◌∙◌, subst, inl, inr}
use Rattle.std.proofs.Common.{Contains}
use Rattle.std.specs.Prelude.{Result, OnOk, Option, None, Some, IfSome, IsNone, All}
use Rattle.std.proofs.lemmas.List.Elements.{All-contains, Contains-append_cases, Contains-append_left, Contains-append_right}
use Rattle.std.proofs.lemmas.Result.{on_ok_weaker}
use Rattle.and_model.specs.Trees.{QueryTree}
use Rattle.and_model.specs.Reached.{none}
use Rattle.and_model.specs.declared.goal.Goal.{Goal}
use Rattle.and_model.specs.declared.reference.Ref.{Ref}
use Rattle.and_laws.proofs.Ordered.{contains_cases, contains_none, contains_first, contains_more}
use Rattle.and_cells.specs.Ranges.{NamedProgram}
use Rattle.and_branch_parts.specs.Branches.{Held, Lives, IsBranch, IsBranchOf}
use Rattle.and_pending.specs.Pending as pending
use Rattle.and_pending.specs.Pending.{Pending, goals_of, unwatched}
use Rattle.and_branch_parts.specs.Next.{IsMoved}
use Rattle.and_branch_parts.specs.Rounds.{StepsOn, WatchesOn, HasPassedSleepers, IsDropped}
use Rattle.and_branch_parts.specs.Watching.{Watched, with_watched, all_watched, Sleeps, IsAsleep}
use Rattle.and_branch_parts.proofs.GoalsRun.{live_of}
use Rattle.and_branch_parts.proofs.GrownRows.{grows_not}
use Rattle.and_branch_parts.proofs.KeptOrigins.{kept_same}
use Rattle.and_branch_parts.proofs.MovedBranches.{moved_branch}
use Rattle.and_branch_parts.proofs.SeenGoals.{contains_origin}
use Rattle.and_branch_parts.proofs.WatchedLists.{goals_append, goals_back, none_watched, watched_append, watched_with}

-- ---- What is watched

-- (These cells are all that a list gained which held none.)
pub gained_alone : (cells out had gained : List ℕ) → cells ≡ out → out ≡ had ++ gained → had ≡ [] → cells ≡ gained
gained_alone cells out had gained same longer nothing = same ∙ longer ∙ ap (λ (l : List ℕ). l ++ gained) nothing

-- ---- The branch

-- It stands for what it did,
pub watching_branch : (P : NamedProgram) (old new : Held) (t : QueryTree P.program) → WatchesOn P old new → IsBranchOf P old t → IsBranchOf P new t
watching_branch P old new t w x = subst (λ (b : Held). IsBranchOf P b t) (sym w.others) (record {
  made = x.made;
  reached = x.reached;
  bounded = x.bounded;
  used = x.used;
  state = elim x.state [
    | inl dead ↦ inl dead
    | inr lives ↦ inr (record {
      kept = lives.kept;
      keeps = lives.keeps;
      goals = lives.goals;
      long = lives.long;
      live = lives.live;
      asleep = λ v h. elim (w.asleep v h) [ inl there ↦ lives.asleep v there | inr now ↦ now ];
    })
  ];
})

pub watching_steps : (P : NamedProgram) (old new : Held) → WatchesOn P old new → StepsOn P old new
watching_steps P old new w =
    let e = w.others in record {
      each = λ t x. (t, watching_branch P old new t w x, none t);
      back = kept_same old new (ap (λ (b : Held). b.row) e) (ap (λ (b : Held). b.reductions) e) (ap (λ (b : Held). b.trail) e);
    }

-- where all that is watched was watched before.
pub watches_still : (P : NamedProgram) (old new : Held) → new ≡ old → WatchesOn P old new
watches_still P old new e = record {
  others = e ∙ ap (λ (ws : List Watched). record old { watches = ws }) (ap (λ (b : Held). b.watches) (sym e));
  asleep = λ w h. inl (subst (λ (b : Held). Contains b.watches w) e h);
}

-- ---- What is watched of a list

abbrev pub entry : Goal → Option (List ℕ) → pending.Watched
entry g cells = record { goal = g; cells = cells }

entry_with : (g : Goal) (cells : Option (List ℕ)) (ps : List pending.Watched) (w : Watched)
    → (Contains (all_watched ps) w → Contains ps (entry w.goal (Some w.cells))) → Contains (with_watched g cells (all_watched ps)) w
    → Contains (entry g cells ∷ ps) (entry w.goal (Some w.cells))
entry_with g None ps w f h = contains_more (entry g None) (entry w.goal (Some w.cells)) ps (f h)
entry_with g (Some cells) ps w f h = elim (contains_cases (record { goal = g; cells = cells }) w (all_watched ps) h) [
  | inl e ↦ subst (λ (v : Watched). Contains (entry g (Some cells) ∷ ps) (entry v.goal (Some v.cells))) (sym e)
      (contains_first (entry g (Some cells)) ps)
  | inr i ↦ contains_more (entry g (Some cells)) (entry w.goal (Some w.cells)) ps (f i)
]

-- Each is one of the list,
pub entry_of : (ps : List pending.Watched) (w : Watched) → Contains (all_watched ps) w → Contains ps (entry w.goal (Some w.cells))
entry_of [] w h = absurd (contains_none w h)
entry_of (p ∷ ps) w h = entry_with p.goal p.cells ps w (entry_of ps w) h

with_here : (g : Goal) (told : Option (List ℕ)) (cells : List ℕ) (ws : List Watched) → told ≡ Some cells
    → Contains (with_watched g told ws) (record { goal = g; cells = cells })
with_here g told cells ws e = subst (λ (o : Option (List ℕ)). Contains (with_watched g o ws) (record { goal = g; cells = cells })) (sym e)
    (contains_first (record { goal = g; cells = cells }) ws)

-- and each that is watched of the list is there.
pub entry_there : (ps : List pending.Watched) (p : pending.Watched) (cells : List ℕ) → Contains ps p → p.cells ≡ Some cells
    → Contains (all_watched ps) (record { goal = p.goal; cells = cells })
entry_there [] p cells h e = absurd (contains_none p h)
entry_there (q ∷ ps) p cells h e = elim (contains_cases q p ps h) [
  | inl is ↦ subst (λ (g : Goal). Contains (with_watched q.goal q.cells (all_watched ps)) (record { goal = g; cells = cells }))
      (ap (λ (x : pending.Watched). x.goal) (sym is))
      (with_here q.goal q.cells cells (all_watched ps) (ap (λ (x : pending.Watched). x.cells) (sym is) ∙ e))
  | inr i ↦ watched_with q.goal q.cells (all_watched ps) (record { goal = p.goal; cells = cells }) (entry_there ps p cells i e)
]

pub watched_among : (xs ys : List pending.Watched) → ((p : pending.Watched) → Contains xs p → Contains ys p) → (w : Watched)
    → Contains (all_watched xs) w → Contains (all_watched ys) w
watched_among xs ys f w h = entry_there ys (entry w.goal (Some w.cells)) w.cells (f (entry w.goal (Some w.cells)) (entry_of xs w h)) refl

-- The first of a list of goals
pub first_of_goals : (ps : List pending.Watched) (g : Goal) (rest : List Goal) → goals_of ps ≡ g ∷ rest
    → (w : pending.Watched) × (ws : List pending.Watched) × (ps ≡ w ∷ ws) × (w.goal ≡ g) × (goals_of ws ≡ rest)
first_of_goals [] g rest e = absurd (cc)
first_of_goals (w ∷ ws) g rest e = let one : w.goal ≡ g = cc in let other : goals_of ws ≡ rest = cc in (w, ws, refl, one, other)

-- ---- Goals that sleep

module _ (P : NamedProgram) (b : Held) (t : QueryTree P.program) (lives : Lives P b t) (ps : List pending.Watched)
    (are : b.watches ≡ all_watched ps) where
  pub sleeper : (p : pending.Watched) → Contains ps p → pending.Sleeps b.row p → Sleeps P b.row p.goal
  sleeper p h (cells, is, free) =
      let k = lives.keeps in
      let there : Contains b.watches (record { goal = p.goal; cells = cells }) =
      subst (λ (ws : List Watched). Contains ws (record { goal = p.goal; cells = cells })) (sym are) (entry_there ps p cells h is) in
      let asleep = lives.asleep (record { goal = p.goal; cells = cells }) there in
      asleep.while_free b.row (grows_not b.row) k.sound k.settled free

  pub sleepers : (qs : List pending.Watched) → ((p : pending.Watched) → Contains qs p → Contains ps p) → All (pending.Sleeps b.row) qs
      → (g : Goal) → Contains (goals_of qs) g → Sleeps P b.row g
  sleepers qs among all g h =
      let (p, there, is) = contains_origin (λ (w : pending.Watched). w.goal) qs g h in
      subst (λ (x : Goal). Sleeps P b.row x) (sym is) (sleeper p (among p there) (All-contains (pending.Sleeps b.row) qs p all there))

-- ---- The list of a branch

-- The branch with another list of goals
abbrev pub with_goals : Held → Pending → Held
with_goals b gs = record b { left = goals_of gs.left; right = goals_of gs.right; watches = all_watched (gs.left ++ gs.right) }

module _ (b old : Held) (e : b ≡ old) (gs : Pending) (left : b.left ≡ goals_of gs.left) (right : b.right ≡ goals_of gs.right)
    (watches : b.watches ≡ all_watched (gs.left ++ gs.right)) where
  -- The same goals, of which none is watched that was not,
  pub goals_kept : (new : Pending) → goals_of new.left ++ goals_of new.right ≡ goals_of gs.left ++ goals_of gs.right
      → ((w : Watched) → Contains (all_watched (new.left ++ new.right)) w → Contains (all_watched (gs.left ++ gs.right)) w)
      → IsMoved old (with_goals b new)
  goals_kept new same among = subst (λ (d : Held). IsMoved d (with_goals b new)) e (record {
    key = refl;
    limit = refl;
    reductions = refl;
    row = refl;
    used = refl;
    is_failed = refl;
    goals = same ∙ ap (λ (l : List Goal). l ++ goals_of gs.right) (sym left) ∙ ap (λ (l : List Goal). b.left ++ l) (sym right);
    watches = λ w h. subst (λ (ws : List Watched). Contains ws w) (sym watches) (among w h);
    back = kept_same b (with_goals b new) refl refl refl;
  })

  -- or each watched as it was.
  pub goals_moved : (new : Pending) → new.left ++ new.right ≡ gs.left ++ gs.right → IsMoved old (with_goals b new)
  goals_moved new same = goals_kept new
      (sym (goals_append new.left new.right) ∙ ap (λ (l : List pending.Watched). goals_of l) same ∙ goals_append gs.left gs.right)
      (λ w h. subst (λ (l : List pending.Watched). Contains (all_watched l) w) same h)

  -- Some were passed over, which sleep.
  passed_same : (row : List Ref) (new : Pending) → pending.HasPassedSleepers row gs new → new.left ++ new.right ≡ gs.left ++ gs.right
  passed_same row new h =
      ap (λ (l : List pending.Watched). l ++ new.right) h.left ∙ append_assoc gs.left h.passed new.right
      ∙ ap (λ (l : List pending.Watched). gs.left ++ l) (sym h.right)

  pub sleepers_moved : (new : Pending) → pending.HasPassedSleepers b.row gs new → IsMoved old (with_goals b new)
  sleepers_moved new h = goals_moved new (passed_same b.row new h)

  pub sleepers_passed : (P : NamedProgram) → IsBranch P old → (new : Pending) → pending.HasPassedSleepers b.row gs new
      → HasPassedSleepers P old (with_goals b new)
  sleepers_passed P branch new h =
      let m = sleepers_moved new h in
      let row_is : old.row ≡ b.row = ap (λ (d : Held). d.row) (sym e) in
      let among : (p : pending.Watched) → Contains h.passed p → Contains (gs.left ++ gs.right) p = λ p i.
      Contains-append_right gs.left gs.right p
      (subst (λ (l : List pending.Watched). Contains l p) (sym h.right) (Contains-append_left h.passed new.right p i)) in
      record {
        alike = record { limit = m.limit; row = m.row; used = m.used; failed = m.is_failed; goals = m.goals };
        passed = goals_of h.passed;
        next = ap (λ (d : Held). d.right) (sym e) ∙ right ∙ ap (λ (l : List pending.Watched). goals_of l) h.right
            ∙ goals_append h.passed new.right;
        left = ap (λ (l : List pending.Watched). goals_of l) h.left ∙ goals_append gs.left h.passed
            ∙ ap (λ (l : List Goal). l ++ goals_of h.passed) (sym left ∙ ap (λ (d : Held). d.left) e);
        sleep = λ live g i.
            sleepers P old branch.0 (live_of P old branch.0 live branch.1) (gs.left ++ gs.right) (ap (λ (d : Held). d.watches) (sym e) ∙ watches)
            h.passed among (subst (λ (l : List Ref). All (pending.Sleeps l) h.passed) (sym row_is) h.asleep) g i;
      }

  -- Those before the place of work sleep.
  pub left_asleep : (P : NamedProgram) → IsBranch P old → old.is_failed ≡ false → All (pending.Sleeps b.row) gs.left → (g : Goal)
      → Contains old.left g → Sleeps P old.row g
  left_asleep P branch live all g h =
      let row_is : old.row ≡ b.row = ap (λ (d : Held). d.row) (sym e) in
      let left_is : old.left ≡ goals_of gs.left = ap (λ (d : Held). d.left) (sym e) ∙ left in
      sleepers P old branch.0 (live_of P old branch.0 live branch.1) (gs.left ++ gs.right) (ap (λ (d : Held). d.watches) (sym e) ∙ watches)
      gs.left (λ p i. Contains-append_left gs.left gs.right p i)
      (subst (λ (l : List Ref). All (pending.Sleeps l) gs.left) (sym row_is) all) g (subst (λ (l : List Goal). Contains l g) left_is h)

  -- None is watched any longer.
  pub goals_forgotten : (new : Pending)
      → new ≡ record { left = map unwatched (goals_of gs.left); right = map unwatched (goals_of gs.right) } → IsMoved old (with_goals b new)
  goals_forgotten new is =
      let end : Pending = record { left = map unwatched (goals_of gs.left); right = map unwatched (goals_of gs.right) } in
      subst (λ (p : Pending). IsMoved old (with_goals b p)) (sym is) (goals_kept end
      (ap (λ (l : List Goal). l ++ goals_of (map unwatched (goals_of gs.right))) (goals_back (goals_of gs.left))
      ∙ ap (λ (l : List Goal). goals_of gs.left ++ l) (goals_back (goals_of gs.right)))
      (λ w h. absurd (contains_none w (subst (λ (ws : List Watched). Contains ws w) (nothing (goals_of gs.left) (goals_of gs.right)) h))))
    where
      nothing : (xs ys : List Goal) → all_watched (map unwatched xs ++ map unwatched ys) ≡ []
      nothing xs ys =
          watched_append (map unwatched xs) (map unwatched ys) ∙ ap (λ (ws : List Watched). ws ++ all_watched (map unwatched ys)) (none_watched xs)
          ∙ none_watched ys

  pub left_forgotten : (new : Pending)
      → new ≡ record { left = map unwatched (goals_of gs.left); right = map unwatched (goals_of gs.right) } → goals_of new.left ≡ old.left
  left_forgotten new is =
      ap (λ (p : Pending). goals_of p.left) is ∙ goals_back (goals_of gs.left) ∙ sym left ∙ ap (λ (d : Held). d.left) e

  -- There is a next goal,
  pub next_is : (g : Goal) (rest : List Goal) → old.right ≡ g ∷ rest
      → (w : pending.Watched) × (ws : List pending.Watched) × (gs.right ≡ w ∷ ws) × (w.goal ≡ g) × (goals_of ws ≡ rest)
  next_is g rest next = first_of_goals gs.right g rest (sym right ∙ ap (λ (d : Held). d.right) e ∙ next)

  pub next_there : (g : Goal) → (rest : List Goal) × (old.right ≡ g ∷ rest)
      → (w : pending.Watched) × (ws : List pending.Watched) × (gs.right ≡ w ∷ ws)
  next_there g (rest, next) = let (w, ws, is, same, others) = next_is g rest next in (w, ws, is)

  -- which is watched now,
  pub next_watched : (P : NamedProgram) (g : Goal) (rest : List Goal) → old.right ≡ g ∷ rest → (cells : List ℕ)
      → IsAsleep P old.row (record { goal = g; cells = cells }) → (new : Pending)
      → ((w : pending.Watched) (ws : List pending.Watched) → gs.right ≡ w ∷ ws
      → new ≡ record { left = gs.left; right = entry w.goal (Some cells) ∷ ws }) → WatchesOn P old (with_goals b new)
  next_watched P g rest next cells asleep new made =
      let (w, ws, is, same, others) = next_is g rest next in
      let new_is = made w ws is in
      let lefts : goals_of new.left ≡ b.left = ap (λ (p : Pending). goals_of p.left) new_is ∙ sym left in
      let rights : goals_of new.right ≡ b.right =
      ap (λ (p : Pending). goals_of p.right) new_is ∙ ap (λ (l : List pending.Watched). goals_of l) (sym is) ∙ sym right in
      let all : List Watched = all_watched (new.left ++ new.right) in
      let front : with_goals b new ≡ record b { watches = all } =
      ap (λ (l : List Goal). record b { left = l; right = goals_of new.right; watches = all }) lefts
      ∙ ap (λ (l : List Goal). record b { right = l; watches = all }) rights in
      let were : all_watched (gs.left ++ gs.right) ≡ old.watches = sym watches ∙ ap (λ (d : Held). d.watches) e in
      record {
        others = front ∙ ap (λ (d : Held). record d { watches = all }) e;
        asleep = λ v h.
            let i : Contains (gs.left ++ (entry w.goal (Some cells) ∷ ws)) (entry v.goal (Some v.cells)) =
            subst (λ (p : Pending). Contains (p.left ++ p.right) (entry v.goal (Some v.cells))) new_is (entry_of (new.left ++ new.right) v h) in
            let was : Contains (gs.left ++ gs.right) (entry v.goal (Some v.cells)) → Contains old.watches v = λ j.
            subst (λ (vs : List Watched). Contains vs v) were (entry_there (gs.left ++ gs.right) (entry v.goal (Some v.cells)) v.cells j refl) in
            elim (Contains-append_cases gs.left (entry w.goal (Some cells) ∷ ws) (entry v.goal (Some v.cells)) i) [
              | inl j ↦ inl (was (Contains-append_left gs.left gs.right (entry v.goal (Some v.cells)) j))
              | inr j ↦ elim (contains_cases (entry w.goal (Some cells)) (entry v.goal (Some v.cells)) ws j) [
                | inl both ↦ inr (this_one P old.row g cells asleep v (ap (λ (x : pending.Watched). x.goal) both ∙ same)
                    (ap (λ (x : pending.Watched). x.cells) both))
                | inr k ↦ inl (was (Contains-append_right gs.left gs.right (entry v.goal (Some v.cells))
                    (subst (λ (l : List pending.Watched). Contains l (entry v.goal (Some v.cells))) (sym is)
                    (contains_more w (entry v.goal (Some v.cells)) ws k))))
              ]
            ];
      }
    where
      this_one : (Q : NamedProgram) (row : List Ref) (h : Goal) (cs : List ℕ) → IsAsleep Q row (record { goal = h; cells = cs }) → (v : Watched)
          → v.goal ≡ h → Some v.cells ≡ Some cs → IsAsleep Q row v
      this_one Q row h cs x v goals some =
          let same_cells : v.cells ≡ cs = cc in
          subst (λ (k : Goal). IsAsleep Q row (record { goal = k; cells = v.cells })) (sym goals)
          (subst (λ (l : List ℕ). IsAsleep Q row (record { goal = h; cells = l })) (sym same_cells) x)

  -- or is left out.
  pub next_dropped : (r : Option Goal) (new : Pending) → (IsNone r → (gs.right ≡ []) × (new ≡ gs))
      → IfSome r (λ g. (w : pending.Watched) × (ws : List pending.Watched) × (gs.right ≡ w ∷ ws) × (w.goal ≡ g)
      × (new ≡ record { left = gs.left; right = ws })) → (g : Goal) (rest : List Goal) → old.right ≡ g ∷ rest
      → IsDropped old (with_goals b new) rest
  next_dropped None new nothing some g rest next =
      let (w, ws, is, same, others) = next_is g rest next in
      let both : [] ≡ w ∷ ws = sym ((nothing refl).0) ∙ is in
      absurd (cc)
  next_dropped (Some h) new nothing (v, vs, are, goal_is, made) g rest next =
      let rights : v.goal ∷ goals_of vs ≡ g ∷ rest =
      ap (λ (l : List pending.Watched). goals_of l) (sym are) ∙ sym right ∙ ap (λ (d : Held). d.right) e ∙ next in
      let right_is : goals_of new.right ≡ rest = ap (λ (p : Pending). goals_of p.right) made ∙ behind (v.goal) g (goals_of vs) rest rights in
      let left_is : goals_of new.left ≡ b.left = ap (λ (p : Pending). goals_of p.left) made ∙ sym left in
      let all : List Watched = all_watched (new.left ++ new.right) in
      record {
        others = ap (λ (l : List Goal). record b { left = l; right = goals_of new.right; watches = all }) left_is
            ∙ ap (λ (l : List Goal). record b { right = l; watches = all }) right_is ∙ ap (λ (d : Held). record d { right = rest; watches = all }) e;
        watches = λ w i.
            let fewer : Contains (all_watched (gs.left ++ vs)) w = subst (λ (p : Pending). Contains (all_watched (p.left ++ p.right)) w) made i in
            let there : Contains (all_watched (gs.left ++ (v ∷ vs))) w = watched_among (gs.left ++ vs) (gs.left ++ (v ∷ vs)) (λ p j.
            elim (Contains-append_cases gs.left vs p j) [
              | inl k ↦ Contains-append_left gs.left (v ∷ vs) p k
              | inr k ↦ Contains-append_right gs.left (v ∷ vs) p (contains_more v p vs k)
            ]) w fewer in
            subst (λ (ws : List Watched). Contains ws w) (sym watches ∙ ap (λ (d : Held). d.watches) e)
            (subst (λ (l : List pending.Watched). Contains (all_watched (gs.left ++ l)) w) (sym are) there);
      }
    where
      behind : {X : Type 0} (x y : X) (xs ys : List X) → x ∷ xs ≡ y ∷ ys → xs ≡ ys
      behind x y xs ys both = cc

-- So it is after a call that may be wanting memory.
pub on_ok_sleepers : {A E : Type 0} (P : NamedProgram) (old new : Held) (r : Result A E) {Q : Type 0} → (Q → IsMoved old new) → OnOk r Q
    → OnOk r (StepsOn P old new)
on_ok_sleepers P old new r f h =
    on_ok_weaker r (λ q. let m = f q in record { each = λ t x. (t, moved_branch P old new t m x, none t); back = m.back }) h
