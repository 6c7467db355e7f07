-- Goals that are copied with their cells.
use Rattle.std.proofs.Common.{ℕ, ◌≡◌, ◌+◌, ◌<◌, ◌≤◌, List, [], ◌∷◌, ◌++◌, length, get_or, take, reverse, refl, sym, ap, ◌∙◌, subst, arith}
use Rattle.std.specs.Prelude.{All, Option, Some, slice_range}
use Rattle.std.proofs.lemmas.List.{append-nil, append_assoc, length-append, map-append, reverse-reverse, take_more, take_all}
use Rattle.std.proofs.lemmas.List.Elements.{All-nil, All-push, All-append, All-same}
use Rattle.and_pending.specs.Copies.{IsCopied, AreCopied}
use Rattle.and_pending.specs.Pending.{Watched, IsWithin, StandIn, cells_at, watched_in, all_watched_in}
use Rattle.and_pending.specs.declared.watch.Range.{Range}
use Rattle.and_pending.specs.declared.watch.Watch.{Watch}
use Rattle.and_pending.specs.declared.watch.Watch.TheVariants.{Listed}
use Rattle.and_pending.specs.declared.pending.PendingGoal.{PendingGoal}
use Rattle.and_pending.proofs.Stacks.{all_reverse, map_reverse}
use Rattle.and_pending.proofs.WatchedGoals.{cells_gained, left_within, right_within, parted, parted_in, watched_more, watched_so, within_more}

-- ---- One goal

-- of which no cells stand in a list,
pub copied_alone : (from cells : List ℕ) (p : PendingGoal) (watch : Watch) → p.watch ≡ watch → ((l : List ℕ) → StandIn l watch)
    → ((l m : List ℕ) → cells_at l watch ≡ cells_at m watch) → IsCopied from p cells cells p
copied_alone from cells p watch is stand same = record {
  gained = [];
  cells = sym (append-nil cells);
  within = subst (λ (w : Watch). StandIn cells w) (sym is) (stand cells);
  same = ap (λ (w : Watch). record { goal = p.goal; cells = cells_at cells w }) is
      ∙ ap (λ (o : Option (List ℕ)). record { goal = p.goal; cells = o }) (same cells from)
      ∙ sym (ap (λ (w : Watch). record { goal = p.goal; cells = cells_at from w }) is);
}

-- or of which some do.
pub copied_listed : (from cells gained new : List ℕ) (p : PendingGoal) (range moved : Range) → p.watch ≡ Listed range
    → gained ≡ slice_range from range.first range.past → new ≡ cells ++ gained → moved.first ≡ length cells → moved.past ≡ length new
    → IsCopied from p cells new (watched_so p (Listed moved))
copied_listed from cells gained new p range moved watch theirs grown first past =
    let both = length-append cells gained in
    let long : length new ≡ length (cells ++ gained) = ap (λ (l : List ℕ). length l) grown in
    record {
      gained = gained;
      cells = grown;
      within = (omega arith, omega arith);
      same = ap (λ (l : List ℕ). record { goal = p.goal; cells = Some l })
          (ap (λ (l : List ℕ). slice_range l moved.first moved.past) grown
          ∙ cells_gained cells gained moved.first moved.past first (past ∙ long)
          ∙ theirs)
          ∙ sym (ap (λ (w : Watch). record { goal = p.goal; cells = cells_at from w }) watch);
    }

-- ---- One after another

pub none_copied : (from cells : List ℕ) (list : List PendingGoal) → AreCopied from [] cells list cells list
none_copied from cells list = record {
  gained = [];
  cells = sym (append-nil cells);
  copies = [];
  list = sym (append-nil list);
  within = All-nil (IsWithin cells);
  same = refl;
}

one_copied : (from : List ℕ) (ps : List PendingGoal) (cells : List ℕ) (list : List PendingGoal) (now : List ℕ) (put : List PendingGoal)
    → AreCopied from ps cells list now put → (p copy : PendingGoal) (new : List ℕ) → IsCopied from p now new copy
    → (after : List PendingGoal) → after ≡ put ++ copy ∷ [] → AreCopied from (ps ++ p ∷ []) cells list new after
one_copied from ps cells list now put all p copy new one after pushed = record {
  gained = all.gained ++ one.gained;
  cells = one.cells ∙ ap (λ (l : List ℕ). l ++ one.gained) all.cells ∙ append_assoc cells all.gained one.gained;
  copies = all.copies ++ copy ∷ [];
  list = pushed ∙ ap (λ (l : List PendingGoal). l ++ copy ∷ []) all.list ∙ append_assoc list all.copies (copy ∷ []);
  within = All-push (IsWithin new) all.copies copy
      (subst (λ (l : List ℕ). All (IsWithin l) all.copies) (sym one.cells) (within_more now one.gained all.copies all.within)) one.within;
  same = map-append (watched_in new) all.copies (copy ∷ [])
      ∙ ap (λ (ws : List Watched). ws ++ watched_in new copy ∷ [])
      (ap (λ (l : List ℕ). all_watched_in l all.copies) one.cells ∙ watched_more now one.gained all.copies all.within ∙ all.same)
      ∙ ap (λ (w : Watched). all_watched_in from ps ++ w ∷ []) one.same
      ∙ sym (map-append (watched_in from) ps (p ∷ []));
}

pub more_copied : (from : List ℕ) (ps : List PendingGoal) (i : ℕ) (d : PendingGoal) (cells : List ℕ) (list : List PendingGoal) (now : List ℕ)
    (put : List PendingGoal) → i < length ps → AreCopied from (take i ps) cells list now put → (copy : PendingGoal) (new : List ℕ)
    → IsCopied from (get_or ps i d) now new copy → (after : List PendingGoal) → after ≡ put ++ copy ∷ []
    → AreCopied from (take (i + 1) ps) cells list new after
more_copied from ps i d cells list now put low all copy new one after pushed =
    subst (λ (qs : List PendingGoal). AreCopied from qs cells list new after) (sym (take_more ps i d low))
    (one_copied from (take i ps) cells list now put all (get_or ps i d) copy new one after pushed)

pub all_copied : (from : List ℕ) (ps : List PendingGoal) (i : ℕ) (cells : List ℕ) (list : List PendingGoal) (now : List ℕ) (put : List PendingGoal)
    → length ps ≤ i → AreCopied from (take i ps) cells list now put → AreCopied from ps cells list now put
all_copied from ps i cells list now put high all = subst (λ (qs : List PendingGoal). AreCopied from qs cells list now put) (take_all i ps high) all

-- ---- Both stacks

module _ (from : List ℕ) (left right : List PendingGoal) (each : All (IsWithin from) (left ++ reverse right)) where
  -- The goals of both have their cells in the list.
  pub lefts_within : (cells : List ℕ) (goals : List PendingGoal) → cells ≡ from → goals ≡ left → All (IsWithin cells) goals
  lefts_within cells goals cells_are goals_are =
      subst (λ (l : List ℕ). All (IsWithin l) goals) (sym cells_are)
      (All-same (IsWithin from) goals left goals_are (left_within from left right each))

  pub rights_within : (cells : List ℕ) (goals : List PendingGoal) → cells ≡ from → goals ≡ right → All (IsWithin cells) goals
  rights_within cells goals cells_are goals_are =
      subst (λ (l : List ℕ). All (IsWithin l) goals) (sym cells_are)
      (All-same (IsWithin from) goals (reverse (reverse right)) (goals_are ∙ sym (reverse-reverse right))
      (all_reverse (IsWithin from) (reverse right) (right_within from left right each)))

module _ (from : List ℕ) (left right : List PendingGoal) (from' : List ℕ) (left' : List PendingGoal) (from_is : from' ≡ from) (left_is : left' ≡ left)
    (none first : List ℕ) (no new : List PendingGoal) (one : AreCopied from' left' none no first new) (empty : no ≡ [])
    (from'' : List ℕ) (right' : List PendingGoal) (from_is' : from'' ≡ from) (right_is : right' ≡ right)
    (second : List ℕ) (no' new' : List PendingGoal) (other : AreCopied from'' right' first no' second new') (empty' : no' ≡ []) where
  new_are : new ≡ one.copies
  new_are = one.list ∙ ap (λ (l : List PendingGoal). l ++ one.copies) empty

  new_are' : new' ≡ other.copies
  new_are' = other.list ∙ ap (λ (l : List PendingGoal). l ++ other.copies) empty'

  pub both_within : All (IsWithin second) (new ++ reverse new')
  both_within =
      All-append (IsWithin second) new (reverse new')
      (All-same (IsWithin second) new one.copies new_are
      (subst (λ (l : List ℕ). All (IsWithin l) one.copies) (sym other.cells) (within_more first other.gained one.copies one.within)))
      (all_reverse (IsWithin second) new' (All-same (IsWithin second) new' other.copies new_are' other.within))

  lefts_same : all_watched_in second new ≡ all_watched_in from left
  lefts_same =
      ap (λ (ps : List PendingGoal). all_watched_in second ps) new_are
      ∙ ap (λ (l : List ℕ). all_watched_in l one.copies) other.cells
      ∙ watched_more first other.gained one.copies one.within
      ∙ one.same
      ∙ ap (λ (l : List ℕ). all_watched_in l left') from_is
      ∙ ap (λ (ps : List PendingGoal). all_watched_in from ps) left_is

  rights_same : all_watched_in second new' ≡ all_watched_in from right
  rights_same =
      ap (λ (ps : List PendingGoal). all_watched_in second ps) new_are'
      ∙ other.same
      ∙ ap (λ (l : List ℕ). all_watched_in l right') from_is'
      ∙ ap (λ (ps : List PendingGoal). all_watched_in from ps) right_is

  pub both_copied : parted_in second new new' ≡ parted_in from left right
  both_copied =
      ap (λ (ws : List Watched). parted ws (all_watched_in second (reverse new'))) lefts_same
      ∙ ap (λ (ws : List Watched). parted (all_watched_in from left) ws)
      (map_reverse (watched_in second) new'
      ∙ ap (λ (ws : List Watched). reverse ws) rights_same
      ∙ sym (map_reverse (watched_in from) right))
