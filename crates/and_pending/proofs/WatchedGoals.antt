-- Goals whose cells stand in a list.
use Rattle.std.proofs.Common.{ℕ, ◌≡◌, ◌+◌, ◌-◌, ◌<◌, ◌≤◌, List, [], ◌∷◌, ◌++◌, map, length, get_or, set, take, drop, reverse, refl, sym, ap, ◌∙◌, subst, arith}
use Rattle.std.specs.Prelude.{All, Option, Some, slice_range}
use Rattle.std.proofs.lemmas.List.{append-nil, length-append, length-map, length-reverse, length-take-le, map-append, drop-append-le, take-append-le}
use Rattle.std.proofs.lemmas.List.{length-drop, take_more, take-append-drop, append_assoc}
use Rattle.std.proofs.lemmas.List.Elements.{All-cons, All-append, All-head, All-tail, All-same, All-map, All-weaker}
use Rattle.std.proofs.Math.Seq.{drop-append_seam, take-length}
use Rattle.and_model.specs.declared.goal.Goal.{Goal}
use Rattle.and_model.specs.declared.reference.Ref.{Ref}
use Rattle.and_pending.specs.Pending.{Watched, Pending, Sleeps, IsWithin, StandIn, Watches, goals_of, unwatched, cells_at, watched_in, all_watched_in}
use Rattle.and_pending.specs.declared.watch.Watch.{Watch}
use Rattle.and_pending.specs.declared.watch.Watch.TheVariants.{Unwatched, One, Two, Listed}
use Rattle.and_pending.specs.declared.pending.PendingGoal.{PendingGoal}
use Rattle.and_pending.proofs.Stacks.{top_popped, top_read, top_set, map_reverse, all_left, all_right, all_reverse}

-- a goal that is not watched
abbrev pub not_watched : Goal → PendingGoal
not_watched g = record { goal = g; watch = Unwatched }

-- the goal alone
abbrev pub goal_of : PendingGoal → Goal
goal_of p = p.goal

-- a goal that no longer is
abbrev pub cleared : PendingGoal → PendingGoal
cleared p = record { goal = p.goal; watch = Unwatched }

-- The goal, whose cells stand in the list, sleeps in the row.
abbrev pub SleepsIn : List ℕ → List Ref → PendingGoal → Type 0
SleepsIn cells row p = Sleeps row (watched_in cells p)

-- ---- More cells

range_more : (cells more : List ℕ) (from to : ℕ) → from ≤ to → to ≤ length cells → slice_range (cells ++ more) from to ≡ slice_range cells from to
range_more cells more from to ordered within =
    let low : from ≤ length cells = omega arith in
    let long : to - from ≤ length (drop from cells) = let e = length-drop from cells in omega arith in
    ap (λ (l : List ℕ). take (to - from) l) (drop-append-le from cells more low) ∙ take-append-le (to - from) (drop from cells) more long

cells_more : (cells more : List ℕ) (watch : Watch) → StandIn cells watch → cells_at (cells ++ more) watch ≡ cells_at cells watch
cells_more cells more Unwatched within = refl
cells_more cells more (One cell) within = refl
cells_more cells more (Two one other) within = refl
cells_more cells more (Listed range) within =
    ap (λ (l : List ℕ). Some l) (range_more cells more range.first range.past within.0 within.1)

-- The goals are watched by the same cells,
pub watched_more : (cells more : List ℕ) (ps : List PendingGoal) → All (IsWithin cells) ps
    → all_watched_in (cells ++ more) ps ≡ all_watched_in cells ps
watched_more cells more [] each = refl
watched_more cells more (p ∷ ps) each =
    let here_is : watched_in (cells ++ more) p ≡ watched_in cells p =
    ap (λ (o : Option (List ℕ)). record { goal = p.goal; cells = o }) (cells_more cells more p.watch (All-head (IsWithin cells) p ps each)) in
    let rest = watched_more cells more ps (All-tail (IsWithin cells) p ps each) in
    ap (λ (w : Watched). w ∷ all_watched_in (cells ++ more) ps) here_is ∙ ap (λ (ws : List Watched). watched_in cells p ∷ ws) rest

-- which stand there.
stand_more : (cells more : List ℕ) (watch : Watch) → StandIn cells watch → StandIn (cells ++ more) watch
stand_more cells more Unwatched within = within
stand_more cells more (One cell) within = within
stand_more cells more (Two one other) within = within
stand_more cells more (Listed range) within = let long = length-append cells more in (within.0, let high = within.1 in omega arith)

pub within_more : (cells more : List ℕ) (ps : List PendingGoal) → All (IsWithin cells) ps → All (IsWithin (cells ++ more)) ps
within_more cells more ps each = All-weaker (IsWithin cells) (IsWithin (cells ++ more)) (λ p h. stand_more cells more p.watch h) ps each

-- The cells at the end are those that were put there.
pub cells_gained : (cells gained : List ℕ) (from to : ℕ) → from ≡ length cells → to ≡ length (cells ++ gained)
    → slice_range (cells ++ gained) from to ≡ gained
cells_gained cells gained from to first past =
    let long = length-append cells gained in
    let count : to - from ≡ length gained = omega arith in
    ap (λ (n : ℕ). take n (drop from (cells ++ gained))) count
    ∙ ap (λ (n : ℕ). take (length gained) (drop n (cells ++ gained))) first
    ∙ ap (λ (l : List ℕ). take (length gained) l) (drop-append_seam cells gained)
    ∙ take-length gained

-- ---- Stacks of goals

module _ (cells : List ℕ) (left right : List PendingGoal) (each : All (IsWithin cells) (left ++ reverse right)) where
  pub left_within : All (IsWithin cells) left
  left_within = all_left (IsWithin cells) left (reverse right) each

  pub right_within : All (IsWithin cells) (reverse right)
  right_within = all_right (IsWithin cells) left (reverse right) each

  -- One goal is taken away,
  pub one_less : (rest : List PendingGoal) (p : PendingGoal) → right ≡ rest ++ p ∷ [] → All (IsWithin cells) (left ++ reverse rest)
  one_less rest p popped =
      All-append (IsWithin cells) left (reverse rest) left_within
      (All-tail (IsWithin cells) p (reverse rest)
      (All-same (IsWithin cells) (p ∷ reverse rest) (reverse right) (sym (top_popped right rest p popped)) right_within))

  -- or is passed over,
  pub one_passed_over : (new rest : List PendingGoal) (i : ℕ) (p : PendingGoal) → i + 1 ≡ length right → p ≡ get_or right i p
      → new ≡ left ++ p ∷ [] → rest ≡ take i right → All (IsWithin cells) (new ++ reverse rest)
  one_passed_over new rest i p long read passed kept =
      All-same (IsWithin cells) (new ++ reverse rest) (left ++ reverse right)
      (ap (λ (ps : List PendingGoal). ps ++ reverse rest) passed
      ∙ append_assoc left (p ∷ []) (reverse rest)
      ∙ ap (λ (ps : List PendingGoal). left ++ p ∷ reverse ps) kept
      ∙ ap (λ (ps : List PendingGoal). left ++ ps) (sym (top_read right i p long read))) each

  -- or put there,
  pub one_more : (new : List PendingGoal) (p : PendingGoal) → new ≡ right ++ p ∷ [] → IsWithin cells p → All (IsWithin cells) (left ++ reverse new)
  one_more new p pushed its =
      All-append (IsWithin cells) left (reverse new) left_within
      (All-same (IsWithin cells) (reverse new) (p ∷ reverse right) (top_popped new right p pushed)
      (All-cons (IsWithin cells) p (reverse right) its right_within))

  -- or is watched otherwise.
  pub one_watched : (more : List ℕ) (i : ℕ) (p q : PendingGoal) (rest : List PendingGoal) → i + 1 ≡ length right → reverse right ≡ p ∷ rest
      → IsWithin (cells ++ more) q → All (IsWithin (cells ++ more)) (left ++ reverse (set right i q))
  one_watched more i p q rest long is its =
      All-append (IsWithin (cells ++ more)) left (reverse (set right i q)) (within_more cells more left left_within)
      (All-same (IsWithin (cells ++ more)) (reverse (set right i q)) (q ∷ rest) (top_set right i p rest long is q)
      (All-cons (IsWithin (cells ++ more)) q rest its
      (within_more cells more rest (All-tail (IsWithin cells) p rest
      (All-same (IsWithin cells) (p ∷ rest) (reverse right) (sym is) right_within)))))

-- There is a last one, if there is any.
pub last_of : (cells : List ℕ) (ps : List PendingGoal) (w : Watched) (rest : List Watched) (count : ℕ) → count ≡ length ps
    → all_watched_in cells (reverse ps) ≡ w ∷ rest → count - 1 + 1 ≡ length ps
last_of cells ps w rest count many is =
    let long = length-reverse ps in
    let mapped = length-map (reverse ps) (watched_in cells) in
    let some = ap (λ (ws : List Watched). length ws) is in
    omega arith

-- The top stands there,
pub top_within : (cells : List ℕ) (left right : List PendingGoal) → All (IsWithin cells) (left ++ reverse right) → (i : ℕ) (p : PendingGoal)
    → i + 1 ≡ length right → p ≡ get_or right i p → IsWithin cells p
top_within cells left right each i p long read =
    All-head (IsWithin cells) p (reverse (take i right))
    (All-same (IsWithin cells) (p ∷ reverse (take i right)) (reverse right) (sym (top_read right i p long read)) (right_within cells left right each))

-- and so does the last goal of a list, which is put on the other stack.
module _ (cells : List ℕ) (left right : List PendingGoal) (each : All (IsWithin cells) (left ++ reverse right)) (front : List PendingGoal)
    (p : PendingGoal) (is : left ≡ front ++ p ∷ []) where
  parts_within : All (IsWithin cells) (front ++ p ∷ [])
  parts_within = All-same (IsWithin cells) (front ++ p ∷ []) left (sym is) (left_within cells left right each)

  pub one_gone : (new : List PendingGoal) → new ≡ right → All (IsWithin cells) (front ++ reverse new)
  one_gone new kept =
      subst (λ (ps : List PendingGoal). All (IsWithin cells) (front ++ reverse ps)) (sym kept)
      (All-append (IsWithin cells) front (reverse right) (all_left (IsWithin cells) front (p ∷ []) parts_within) (right_within cells left right each))

  pub one_back : (new : List PendingGoal) → new ≡ right ++ p ∷ [] → All (IsWithin cells) (front ++ reverse new)
  one_back new pushed =
      one_more cells front right (one_gone right refl) new p pushed
      (All-head (IsWithin cells) p [] (all_right (IsWithin cells) front (p ∷ []) parts_within))

-- ---- The goals alone

pub goals_watched : (cells : List ℕ) (ps : List PendingGoal) → goals_of (all_watched_in cells ps) ≡ map goal_of ps
goals_watched cells [] = refl
goals_watched cells (p ∷ ps) = ap (λ (gs : List Goal). p.goal ∷ gs) (goals_watched cells ps)

-- The list taken apart at a place.
pub parts_at : {X : Type 0} (xs : List X) (i : ℕ) (x : X) → i < length xs → x ≡ get_or xs i x → xs ≡ take i xs ++ x ∷ drop (i + 1) xs
parts_at {X} xs i x low read =
    sym (take-append-drop (i + 1) xs)
    ∙ ap (λ (ys : List X). ys ++ drop (i + 1) xs) (take_more xs i x low ∙ ap (λ (y : X). take i xs ++ y ∷ []) (sym read))
    ∙ append_assoc (take i xs) (x ∷ []) (drop (i + 1) xs)

-- ---- Goals that are not watched

pub none_watched : (cells : List ℕ) (gs : List Goal) → all_watched_in cells (map not_watched gs) ≡ map unwatched gs
none_watched cells [] = refl
none_watched cells (g ∷ gs) = ap (λ (ws : List Watched). unwatched g ∷ ws) (none_watched cells gs)

pub none_within : (cells : List ℕ) (gs : List Goal) → All (IsWithin cells) (map not_watched gs)
none_within cells gs = All-map (IsWithin cells) not_watched gs (λ k d low. tt)

pub watched_cleared : (cells new : List ℕ) (ps : List PendingGoal)
    → all_watched_in new (map cleared ps) ≡ map unwatched (goals_of (all_watched_in cells ps))
watched_cleared cells new [] = refl
watched_cleared cells new (p ∷ ps) = ap (λ (ws : List Watched). unwatched p.goal ∷ ws) (watched_cleared cells new ps)

-- So it is the other way round.
pub reverse_cleared : (cells new : List ℕ) (ps : List PendingGoal)
    → all_watched_in new (reverse (map cleared ps)) ≡ map unwatched (goals_of (all_watched_in cells (reverse ps)))
reverse_cleared cells new ps =
    ap (λ (qs : List PendingGoal). all_watched_in new qs) (sym (map_reverse cleared ps)) ∙ watched_cleared cells new (reverse ps)

pub all_cleared : (cells : List ℕ) (left right : List PendingGoal) → All (IsWithin cells) (map cleared left ++ reverse (map cleared right))
all_cleared cells left right =
    All-append (IsWithin cells) (map cleared left) (reverse (map cleared right))
    (All-map (IsWithin cells) cleared left (λ k d low. tt))
    (all_reverse (IsWithin cells) (map cleared right) (All-map (IsWithin cells) cleared right (λ k d low. tt)))

-- ---- What the methods do

first_same : (v w : Watched) (vs ws : List Watched) → v ∷ vs ≡ w ∷ ws → v ≡ w
first_same v w vs ws e = cc

rest_same : (v w : Watched) (vs ws : List Watched) → v ∷ vs ≡ w ∷ ws → vs ≡ ws
rest_same v w vs ws e = cc

-- goals about a place of work
abbrev pub parted : List Watched → List Watched → Pending
parted left right = record { left = left; right = right }

-- goals whose cells stand there, in two stacks
abbrev pub parted_in : List ℕ → List PendingGoal → List PendingGoal → Pending
parted_in cells left right = parted (all_watched_in cells left) (all_watched_in cells (reverse right))

-- a goal that is watched so
abbrev pub watched_so : PendingGoal → Watch → PendingGoal
watched_so p watch = record { goal = p.goal; watch = watch }

-- All goals are listed.
pub all_goals : (cells : List ℕ) (left right : List PendingGoal) (first second third : List Goal) → first ≡ [] → second ≡ first ++ map goal_of left
    → third ≡ second ++ map goal_of (reverse right) → third ≡ goals_of (all_watched_in cells left ++ all_watched_in cells (reverse right))
all_goals cells left right first second third none before after =
    after
    ∙ ap (λ (gs : List Goal). gs ++ map goal_of (reverse right)) (before ∙ ap (λ (gs : List Goal). gs ++ map goal_of left) none)
    ∙ ap (λ (gs : List Goal). gs ++ map goal_of (reverse right)) (sym (goals_watched cells left))
    ∙ ap (λ (gs : List Goal). goals_of (all_watched_in cells left) ++ gs) (sym (goals_watched cells (reverse right)))
    ∙ sym (map-append (λ (w : Watched). w.goal) (all_watched_in cells left) (all_watched_in cells (reverse right)))

-- A goal stands among others.
pub goals_at : (cells : List ℕ) (ps : List PendingGoal) (i : ℕ) (p : PendingGoal) → i < length ps → p ≡ get_or ps i p
    → (front : List Goal) × (back : List Goal) × (goals_of (all_watched_in cells ps) ≡ front ++ p.goal ∷ back) × (length front ≡ i)
goals_at cells ps i p low read = (
  map goal_of (take i ps),
  map goal_of (drop (i + 1) ps),
  goals_watched cells ps
      ∙ ap (λ (qs : List PendingGoal). map goal_of qs) (parts_at ps i p low read)
      ∙ map-append goal_of (take i ps) (p ∷ drop (i + 1) ps),
  length-map (take i ps) goal_of ∙ length-take-le i ps (omega arith),
)

-- Goals were put there.
pub all_put : (cells : List ℕ) (left right first : List PendingGoal) (gs : List Goal) → first ≡ [] → left ≡ first ++ map not_watched gs → right ≡ []
    → parted_in cells left right ≡ parted (map unwatched gs) []
all_put cells left right first gs none put empty =
    ap (λ (ps : List PendingGoal). parted_in cells ps right) (put ∙ ap (λ (ps : List PendingGoal). ps ++ map not_watched gs) none)
    ∙ ap (λ (ps : List PendingGoal). parted_in cells (map not_watched gs) ps) empty
    ∙ ap (λ (ws : List Watched). parted ws []) (none_watched cells gs)

pub all_put_within : (cells : List ℕ) (left right first : List PendingGoal) (gs : List Goal) → first ≡ [] → left ≡ first ++ map not_watched gs → right ≡ []
    → All (IsWithin cells) (left ++ reverse right)
all_put_within cells left right first gs none put empty =
    subst (λ (ps : List PendingGoal). All (IsWithin cells) (left ++ reverse ps)) (sym empty)
    (subst (λ (ps : List PendingGoal). All (IsWithin cells) ps)
    (sym (append-nil left ∙ put ∙ ap (λ (ps : List PendingGoal). ps ++ map not_watched gs) none)) (none_within cells gs))

-- None of the goals is watched any longer.
pub forgotten : (cells new : List ℕ) (left right left' right' : List PendingGoal) → left' ≡ map cleared left → right' ≡ map cleared right
    → parted_in new left' right'
    ≡ parted (map unwatched (goals_of (all_watched_in cells left))) (map unwatched (goals_of (all_watched_in cells (reverse right))))
forgotten cells new left right left' right' first second =
    ap (λ (ps : List PendingGoal). parted_in new ps right') first
    ∙ ap (λ (ps : List PendingGoal). parted_in new (map cleared left) ps) second
    ∙ ap (λ (ws : List Watched). parted ws (all_watched_in new (reverse (map cleared right)))) (watched_cleared cells new left)
    ∙ ap (λ (ws : List Watched). parted (map unwatched (goals_of (all_watched_in cells left))) ws) (reverse_cleared cells new right)

module _ (cells gained all : List ℕ) (left right : List PendingGoal) (each : All (IsWithin cells) (left ++ reverse right)) (grown : all ≡ cells ++ gained)
  where
    -- The list of cells has grown.
    pub within_grown : All (IsWithin all) (left ++ reverse right)
    within_grown =
        subst (λ (l : List ℕ). All (IsWithin l) (left ++ reverse right)) (sym grown) (within_more cells gained (left ++ reverse right) each)

    module _ (i : ℕ) (p : PendingGoal) (long : i + 1 ≡ length right) (read : p ≡ get_or right i p) (watch : Watch) (its : List ℕ)
        (watches : Watches all its watch) where
      -- The goal that is watched is within,
      pub within_watched : All (IsWithin all) (left ++ reverse (set right i (watched_so p watch)))
      within_watched =
          subst (λ (l : List ℕ). All (IsWithin l) (left ++ reverse (set right i (watched_so p watch)))) (sym grown)
          (one_watched cells left right each gained i p (watched_so p watch) (reverse (take i right)) long (top_read right i p long read)
          (subst (λ (l : List ℕ). StandIn l watch) grown watches.stand))

      others : (ps : List PendingGoal) → All (IsWithin cells) ps → all_watched_in all ps ≡ all_watched_in cells ps
      others ps low = ap (λ (l : List ℕ). all_watched_in l ps) grown ∙ watched_more cells gained ps low

      -- and watched by these cells.
      pub view_watched : (w : Watched) (rest : List Watched) → all_watched_in cells (reverse right) ≡ w ∷ rest
          → parted_in all left (set right i (watched_so p watch)) ≡ parted (all_watched_in cells left) (record { goal = w.goal; cells = Some its } ∷ rest)
      view_watched w rest is =
          let under = reverse (take i right) in
          let top : reverse right ≡ p ∷ under = top_read right i p long read in
          let low : All (IsWithin cells) under =
          All-tail (IsWithin cells) p under (All-same (IsWithin cells) (p ∷ under) (reverse right) (sym top) (right_within cells left right each)) in
          let both : w ∷ rest ≡ watched_in cells p ∷ all_watched_in cells under =
          sym is ∙ ap (λ (ps : List PendingGoal). all_watched_in cells ps) top in
          let one : w ≡ watched_in cells p = first_same w (watched_in cells p) rest (all_watched_in cells under) both in
          let theirs : rest ≡ all_watched_in cells under = rest_same w (watched_in cells p) rest (all_watched_in cells under) both in
          ap (λ (ws : List Watched). parted ws (all_watched_in all (reverse (set right i (watched_so p watch)))))
          (others left (left_within cells left right each))
          ∙ ap (λ (ps : List PendingGoal). parted (all_watched_in cells left) (all_watched_in all ps)) (top_set right i p under long top (watched_so p watch))
          ∙ ap (λ (o : Option (List ℕ)). parted (all_watched_in cells left) (record { goal = p.goal; cells = o } ∷ all_watched_in all under)) watches.same
          ∙ ap (λ (ws : List Watched). parted (all_watched_in cells left) (record { goal = p.goal; cells = Some its } ∷ ws)) (others under low ∙ sym theirs)
          ∙ ap (λ (v : Watched). parted (all_watched_in cells left) (record { goal = v.goal; cells = Some its } ∷ rest)) (sym one)
