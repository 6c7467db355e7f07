-- The place of work, moved over goals, and what is watched of them then.
use Rattle.std.proofs.Common.{◌≡◌, Bool, true, false, List, [], ◌∷◌, ◌++◌, map, refl, ap, sym, ◌∙◌, subst, append-nil, append_assoc, Contains}
use Rattle.std.specs.Prelude.{Result, OnOk}
use Rattle.std.proofs.lemmas.Result.{on_ok_weaker}
use Rattle.and_model.specs.declared.goal.Goal.{Goal}
use Rattle.and_model.specs.declared.reference.Ref.{Ref}
use Rattle.and_pending.specs.Pending as pending
use Rattle.and_pending.specs.Pending.{Pending, goals_of, unwatched}
use Rattle.and_reduction.specs.Trails.{Noted, KeepsNoted}
use Rattle.and_branch_parts.specs.Branches.{Held}
use Rattle.and_branch_parts.specs.Next.{IsMoved, HasPut}
use Rattle.and_branch_parts.specs.Watching.{Watched, all_watched}
use Rattle.and_branch_parts.proofs.KeptOrigins.{kept_noted, noted_nothing}
use Rattle.and_branch_parts.proofs.WatchedLists.{goals_append, goals_back, none_watched, watched_put, watched_before}

-- The branch has these goals.
abbrev pub HasGoals : Held → Pending → Type 0
HasGoals b p = (b.left ≡ goals_of p.left) × (b.right ≡ goals_of p.right) × (b.watches ≡ all_watched (p.left ++ p.right))

-- The same goals, with the place of work elsewhere, and the same cells
pub goals_moved : (b old : Held) → b ≡ old → (p q : Pending) → HasGoals b p → q.left ++ q.right ≡ p.left ++ p.right
    → (row : List Ref) (trail : Noted) → row ≡ b.row → KeepsNoted b.trail trail b.row row
    → IsMoved old (record b {
      row = row;
      left = goals_of q.left;
      right = goals_of q.right;
      watches = all_watched (q.left ++ q.right);
      trail = trail;
    })
goals_moved b old e p q (left, right, watches) all row trail same noted =
    let new : Held = record b {
      row = row;
      left = goals_of q.left;
      right = goals_of q.right;
      watches = all_watched (q.left ++ q.right);
      trail = trail;
    } in
    let were : all_watched (q.left ++ q.right) ≡ b.watches = ap (λ (ws : List pending.Watched). all_watched ws) all ∙ sym watches in
    subst (λ (d : Held). IsMoved d new) e (record {
      key = refl;
      limit = refl;
      reductions = refl;
      row = same;
      used = refl;
      is_failed = refl;
      goals = sym (goals_append q.left q.right) ∙ ap goals_of all ∙ goals_append p.left p.right ∙ ap (λ (l : List Goal). l ++ goals_of p.right) (sym left)
          ∙ ap (λ (l : List Goal). b.left ++ l) (sym right);
      watches = λ w h. subst (λ (ws : List Watched). Contains ws w) were h;
      back = kept_noted b new [] (sym (append-nil b.reductions)) noted;
    })

-- ---- The next goal

-- the first goal, of which this is known,
pub some_goal : (ps : List pending.Watched) (g : Goal) (rest : List Goal) → goals_of ps ≡ g ∷ rest
    → (w : pending.Watched) × (qs : List pending.Watched) × (ps ≡ w ∷ qs)
some_goal [] g rest e = absurd (cc)
some_goal (w ∷ qs) g rest e = (w, qs, refl)

-- and back
pub first_goal : (ps qs : List pending.Watched) (w : pending.Watched) (g : Goal) → ps ≡ w ∷ qs → w.goal ≡ g → goals_of ps ≡ g ∷ goals_of qs
first_goal ps qs w g e is = ap goals_of e ∙ ap (λ (h : Goal). h ∷ goals_of qs) is

-- It was passed.
abbrev pub HasPassedOne : (p q : Pending) → Type 0
HasPassedOne p q =
    (w : pending.Watched) (rest : List pending.Watched) → p.right ≡ w ∷ rest → q ≡ record { left = p.left ++ w ∷ []; right = rest }

module _ (p q : Pending) (w : pending.Watched) (rest : List pending.Watched) (next : p.right ≡ w ∷ rest) (passed : HasPassedOne p q) where
  pub passed_all : q.left ++ q.right ≡ p.left ++ p.right
  passed_all =
      ap (λ (r : Pending). r.left ++ r.right) (passed w rest next) ∙ append_assoc p.left (w ∷ []) rest
      ∙ ap (λ (ws : List pending.Watched). p.left ++ ws) (sym next)

  pub passed_left : goals_of q.left ≡ goals_of p.left ++ w.goal ∷ []
  passed_left = ap (λ (r : Pending). goals_of r.left) (passed w rest next) ∙ goals_append p.left (w ∷ [])

  pub passed_right : goals_of q.right ≡ goals_of rest
  passed_right = ap (λ (r : Pending). goals_of r.right) (passed w rest next)

-- over the next goal, while the cells stay the same,
pub goal_passed : (b old : Held) → b ≡ old → (p q : Pending) → HasGoals b p → (w : pending.Watched) (rest : List pending.Watched)
    → p.right ≡ w ∷ rest → HasPassedOne p q
    → (row : List Ref) (trail : Noted) → row ≡ b.row → KeepsNoted b.trail trail b.row row
    → IsMoved old (record b {
      row = row;
      left = goals_of q.left;
      right = goals_of q.right;
      watches = all_watched (q.left ++ q.right);
      trail = trail;
    })
goal_passed b old e p q has w rest next passed row trail same noted =
    goals_moved b old e p q has (passed_all p q w rest next passed) row trail same noted

-- also after a call that may be wanting memory
pub passed_moved : {A E : Type 0} (b old : Held) → b ≡ old → (p q : Pending) → HasGoals b p
    → (g : Goal) × (rest : List Goal) × (old.right ≡ g ∷ rest) → (r : Result A E) → OnOk r (HasPassedOne p q)
    → OnOk r (IsMoved old (record b { left = goals_of q.left; right = goals_of q.right; watches = all_watched (q.left ++ q.right) }))
passed_moved b old e p q has (g, gs, is) r passed =
    let right : goals_of p.right ≡ g ∷ gs = sym has.1 ∙ ap (λ (h : Held). h.right) e ∙ is in
    let (w, rest, next) = some_goal p.right g gs right in
    on_ok_weaker r (λ one. goal_passed b old e p q has w rest next one b.row b.trail refl (noted_nothing b.trail b.row)) passed

pub passed_goals : {A E : Type 0} (b old : Held) → b ≡ old → (p q : Pending) → HasGoals b p
    → (g : Goal) × (rest : List Goal) × (old.right ≡ g ∷ rest) → (r : Result A E) → OnOk r (HasPassedOne p q)
    → OnOk r ((g : Goal) (rest : List Goal) → old.right ≡ g ∷ rest → (goals_of q.right ≡ rest) × (goals_of q.left ≡ old.left ++ g ∷ []))
passed_goals b old e p q has (h, hs, there) r passed =
    on_ok_weaker r (λ one g gs is.
    (let right : goals_of p.right ≡ g ∷ gs = sym has.1 ∙ ap (λ (d : Held). d.right) e ∙ is in
    let (w, rest, next) = some_goal p.right g gs right in
    let both : w.goal ∷ goals_of rest ≡ g ∷ gs = sym (ap goals_of next) ∙ right in
    let first : w.goal ≡ g = cc in
    let behind : goals_of rest ≡ gs = cc in
    let left : goals_of p.left ≡ old.left = sym has.0 ∙ ap (λ (d : Held). d.left) e in (
      passed_right p q w rest next one ∙ behind,
      passed_left p q w rest next one ∙ ap (λ (l : List Goal). l ++ w.goal ∷ []) left ∙ ap (λ (x : Goal). old.left ++ x ∷ []) first,
    ))) passed

-- ---- All goals

-- back over all
pub all_rewound : {A E : Type 0} (b old : Held) → b ≡ old → (p q : Pending) → HasGoals b p → (r : Result A E)
    → OnOk r (q ≡ record { left = []; right = p.left ++ p.right })
    → OnOk r (IsMoved old (record b { left = goals_of q.left; right = goals_of q.right; watches = all_watched (q.left ++ q.right) }))
all_rewound b old e p q has r rewound =
    on_ok_weaker r (λ is. goals_moved b old e p q has (ap (λ (o : Pending). o.left ++ o.right) is) b.row b.trail refl (noted_nothing b.trail b.row))
    rewound

-- over one
pub one_back : (b old : Held) → b ≡ old → (p q : Pending) → HasGoals b p → (is_there : Bool)
    → (is_there ≡ false → (p.left ≡ []) × (q ≡ p))
    → (is_there ≡ true → (front : List pending.Watched) × (w : pending.Watched) × (p.left ≡ front ++ w ∷ [])
    × (q ≡ record { left = front; right = w ∷ p.right }))
    → IsMoved old (record b { left = goals_of q.left; right = goals_of q.right; watches = all_watched (q.left ++ q.right) })
one_back b old e p q has true none back =
    let (front, w, is, new) = back refl in
    let all : q.left ++ q.right ≡ p.left ++ p.right =
    ap (λ (r : Pending). r.left ++ r.right) new ∙ sym (append_assoc front (w ∷ []) p.right)
    ∙ ap (λ (ws : List pending.Watched). ws ++ p.right) (sym is) in
    goals_moved b old e p q has all b.row b.trail refl (noted_nothing b.trail b.row)
one_back b old e p q has false none back =
    goals_moved b old e p q has (ap (λ (r : Pending). r.left ++ r.right) (none refl).1) b.row b.trail refl (noted_nothing b.trail b.row)

-- ---- The next goal was taken out

module _ (p mid : Pending) (w : pending.Watched) (rest : List pending.Watched) (next : p.right ≡ w ∷ rest)
    (popped : mid ≡ record { left = p.left; right = rest }) where
  pub popped_left : goals_of mid.left ≡ goals_of p.left
  popped_left = ap (λ (q : Pending). goals_of q.left) popped

  pub popped_right : goals_of mid.right ≡ goals_of rest
  popped_right = ap (λ (q : Pending). goals_of q.right) popped

  less_watched : (v : Watched) → Contains (all_watched (p.left ++ rest)) v → Contains (all_watched (p.left ++ p.right)) v
  less_watched v h = subst (λ (ws : List pending.Watched). Contains (all_watched (p.left ++ ws)) v) (sym next) (watched_before p.left w rest v h)

  pub popped_watched : (v : Watched) → Contains (all_watched (mid.left ++ mid.right)) v → Contains (all_watched (p.left ++ p.right)) v
  popped_watched v h =
      less_watched v (subst (λ (q : Pending). Contains (all_watched (q.left ++ q.right)) v) popped h)

  -- and others are in its place.
  module _ (new : Pending) (gs : List Goal) (put : HasPut gs mid new) where
    pub put_left : goals_of new.left ≡ goals_of p.left
    put_left = ap (λ (q : Pending). goals_of q.left) put ∙ popped_left

    pub put_right : goals_of new.right ≡ gs ++ goals_of rest
    put_right =
        ap (λ (q : Pending). goals_of q.right) put ∙ goals_append (map unwatched gs) mid.right
        ∙ ap (λ (l : List Goal). l ++ goals_of mid.right) (goals_back gs) ∙ ap (λ (l : List Goal). gs ++ l) popped_right

    pub put_watched : (v : Watched) → Contains (all_watched (new.left ++ new.right)) v → Contains (all_watched (p.left ++ p.right)) v
    put_watched v h =
        let same : all_watched (new.left ++ new.right) ≡ all_watched (mid.left ++ mid.right) =
        ap (λ (q : Pending). all_watched (q.left ++ q.right)) put ∙ watched_put mid.left gs mid.right in
        popped_watched v (subst (λ (ws : List Watched). Contains ws v) same h)

-- ---- Goals that were put where there were none

module _ (start new : Pending) (gs : List Goal) (empty : start ≡ record { left = []; right = [] }) (put : HasPut gs start new) where
  all_put : new ≡ record { left = []; right = map unwatched gs ++ [] }
  all_put = put ∙ ap (λ (q : Pending). record { left = q.left; right = map unwatched gs ++ q.right }) empty

  pub first_left : goals_of new.left ≡ []
  first_left = ap (λ (q : Pending). goals_of q.left) all_put

  pub first_right : goals_of new.right ≡ gs
  first_right =
      ap (λ (q : Pending). goals_of q.right) all_put ∙ ap goals_of (append-nil (map unwatched gs)) ∙ goals_back gs

  pub first_watched : all_watched (new.left ++ new.right) ≡ []
  first_watched =
      ap (λ (q : Pending). all_watched (q.left ++ q.right)) all_put
      ∙ ap (λ (ws : List pending.Watched). all_watched ws) (append-nil (map unwatched gs)) ∙ none_watched gs

-- and goals of which none is watched, all of them passed
module _ (new : Pending) (gs : List Goal) (is : new ≡ record { left = map unwatched gs; right = [] }) where
  pub given_left : goals_of new.left ≡ gs
  given_left = ap (λ (q : Pending). goals_of q.left) is ∙ goals_back gs

  pub given_right : goals_of new.right ≡ []
  given_right = ap (λ (q : Pending). goals_of q.right) is

  pub given_watched : all_watched (new.left ++ new.right) ≡ []
  given_watched =
      ap (λ (q : Pending). all_watched (q.left ++ q.right)) is
      ∙ ap (λ (ws : List pending.Watched). all_watched ws) (append-nil (map unwatched gs)) ∙ none_watched gs

-- A branch is the same where its goals, what is watched of them and what is noted are.
pub remade : (b : Held) (left right : List Goal) (watches : List Watched) (trail : Noted) → left ≡ b.left → right ≡ b.right → watches ≡ b.watches
    → trail ≡ b.trail → record b { left = left; right = right; watches = watches; trail = trail } ≡ b
remade b left right watches trail l r w t =
    ap (λ (gs : List Goal). record b { left = gs; right = right; watches = watches; trail = trail }) l
    ∙ ap (λ (gs : List Goal). record b { right = gs; watches = watches; trail = trail }) r
    ∙ ap (λ (ws : List Watched). record b { watches = ws; trail = trail }) w ∙ ap (λ (n : Noted). record b { trail = n }) t
