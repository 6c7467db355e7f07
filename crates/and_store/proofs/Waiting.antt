-- The goals that are left when a store is closed stand in its words.
use Rattle.std.proofs.Common.{ℕ, ◌+◌, ◌*◌, ◌≡◌, ◌<◌, Bool, List, map, length, get_or, sym, ap, subst, ◌∙◌, arith, All, Contains}
use Rattle.std.specs.Prelude.{filter, nat_eq, not}
use Rattle.std.proofs.lemmas.List.Elements.{All-contains, All-contains_itself, All-filter, All-map}
use Rattle.atomic_table.specs.Table.{Final, Seen}
use Rattle.and_model.specs.Store.{HungGoal, JournalEntry, Pass, Fits, all_hung, entries_by, hung_of, mark}
use Rattle.and_model.specs.declared.goal.Goal.{Goal}
use Rattle.and_cells.specs.Ranges.{NamedProgram, IsGoalInRange}
use Rattle.and_store_laws.proofs.Journal.{made_hung}
use Rattle.and_store_laws.proofs.Lists.{all_of, contains_map, map_contains, contains_flat, flat_contains}
use Rattle.and_store_laws.proofs.Taken.{hung_below}
use Rattle.and_store.specs.Ended.{IsGathered, passes_of}
use Rattle.and_store.specs.Kept.{Kept, HasGoal, UpperIs, LowerIs, words_of}
use Rattle.and_store.specs.Left.{is_among, handed_out, left_hung, left_waiters, numbered, in_order, goal_at, LeavesGoals}
use Rattle.and_store.specs.Passes.{PassSeen, numbers_from}
use Rattle.and_store.specs.Sight.{About, Sight, seat_of, opening_of}
use Rattle.and_store.proofs.Gathered.{end_kept, end_row, end_words}
use Rattle.and_store.proofs.Over.{goal_so, goals_left}
use Rattle.and_store.proofs.Words.{goal_found}

filtered : {X : Type 0} (p : X → Bool) (xs : List X) (x : X) → Contains (filter p xs) x → Contains xs x
filtered p xs x h = All-contains (Contains xs) (filter p xs) x (All-filter p (Contains xs) xs (All-contains_itself xs)) h

-- what a pass hung is in the journal
of_pass : (p : Pass) (journal : List JournalEntry) (h : HungGoal) → Contains (hung_of (entries_by p journal)) h → Contains (hung_of journal) h
of_pass p journal h c =
    let e = flat_contains made_hung h (entries_by p journal) c in
    contains_flat made_hung e.0 h journal (filtered (λ (e : JournalEntry). nat_eq e.pass p.number) journal e.0 e.1) e.2

module _ (P : NamedProgram) (a : About) (passes : List PassSeen) (id : ℕ) (v : Sight) (words : List ℕ) (xs : List (Unit {0})) (g : IsGathered a v passes)
    (all : length passes ≡ a.seats)
    (final : Final (Seen (Kept P a) id v) words xs) where
  abbrev k : Kept P a final.0
  k = end_kept P a passes id v words xs g all final

  in_journal : (h : HungGoal) → Contains (all_hung (passes_of passes)) h → Contains (hung_of k.held.journal) h
  in_journal h c =
      let p = flat_contains (λ (p : Pass). p.hung) h (passes_of passes) c in
      let row = end_row P a passes id v words xs g all final in
      let fits = All-contains (Fits a.first (mark a.first (passes_of passes)) k.held.journal) (passes_of passes) p.0 row.passes_fit p.1 in
      of_pass p.0 k.held.journal h (subst (λ l. Contains l h) fits.hung p.2)

  found_at : (index : ℕ) → index < length k.goals → get_or words (a.words + a.words + index) 0 ≡ get_or k.goals index 0
  found_at index within =
      let here : a.words + a.words + index ≡ a.words + (a.words + index) = omega arith in
      ap (λ l. get_or l (a.words + a.words + index) 0) (end_words P a passes id v words xs g all final)
      ∙ ap (λ n. get_or (words_of k.held k.goals) n 0) here
      ∙ goal_found k.held k.goals a.words k.rule.at_work.holds.words k.rule.at_work.holds.places index within

  -- the words of a waiter hold its goal
  goal_there : (h : HungGoal) → Contains (all_hung (passes_of passes)) h → goal_at words (a.words + a.words) h.waiter ≡ h.goal
  goal_there h c =
      let there = in_journal h c in
      let has = All-contains (λ (g : HungGoal). HasGoal k.goals g.waiter g.goal) (hung_of k.held.journal) h k.hung there in
      let count : ℕ = a.seats * a.waiters in
      let below : h.waiter < count = hung_below (opening_of P a) (map seat_of final.0.views) k.held k.rule h there in
      let long : length k.goals ≡ 2 * count = k.goal_words in
      let upper = found_at (2 * h.waiter) (omega (arith, below, long)) in
      let lower = found_at (2 * h.waiter + 1) (omega (arith, below, long)) in
      sym (goal_so (get_or words (a.words + a.words + 2 * h.waiter) 0) (get_or words (a.words + a.words + (2 * h.waiter + 1)) 0) h.goal
      (subst (λ w. UpperIs w h.goal) (sym upper) has.0) (subst (λ w. LowerIs w h.goal) (sym lower) has.1))

  abbrev ordered : List HungGoal
  ordered = all_hung (passes_of (in_order a.seats passes))

  in_passes : (h : HungGoal) → Contains ordered h → Contains (all_hung (passes_of passes)) h
  in_passes h c =
      let p = flat_contains (λ (p : Pass). p.hung) h (passes_of (in_order a.seats passes)) c in
      let s = map_contains (λ (p : PassSeen). p.pass) p.0 (in_order a.seats passes) p.1 in
      let n = flat_contains (λ n. numbered n passes) s.0 (numbers_from 0 a.seats) s.1 in
      let there = filtered (λ (p : PassSeen). nat_eq p.pass.number n.0) passes s.0 n.2 in
      contains_flat (λ (p : Pass). p.hung) p.0 h (passes_of passes)
      (subst (Contains (passes_of passes)) s.2 (contains_map (λ (p : PassSeen). p.pass) s.0 passes there)) p.2

  goals_there : All (λ (h : HungGoal). goal_at words (a.words + a.words) h.waiter ≡ h.goal) ordered
  goals_there = all_of (λ (h : HungGoal). goal_at words (a.words + a.words) h.waiter ≡ h.goal) ordered (λ h c. goal_there h (in_passes h c))

  all_in_range : All (λ (h : HungGoal). IsGoalInRange P a.words h.goal) ordered
  all_in_range =
      all_of (λ (h : HungGoal). IsGoalInRange P a.words h.goal) ordered
      (λ h c. All-contains (λ (h : HungGoal). IsGoalInRange P a.words h.goal) (hung_of k.held.journal) h k.rule.at_work.holds.goals
      (in_journal h (in_passes h c)))

  pub leaves_so : (left : List ℕ) (waiting : List Goal) → left ≡ left_waiters a.seats passes → waiting ≡ map (λ w. goal_at words (a.words + a.words) w) left
      → LeavesGoals P a passes waiting
  leaves_so left waiting is are =
      let is_left : ℕ → Bool = λ n. not (is_among n (handed_out passes)) in
      let f : ℕ → Goal = λ w. goal_at words (a.words + a.words) w in
      let e : waiting ≡ map (λ (h : HungGoal). h.goal) (left_hung a.seats passes) = are ∙ ap (map f) is ∙ goals_left f is_left ordered goals_there in record {
        are = e;
        in_range = subst (All (IsGoalInRange P a.words)) (sym e)
            (All-map (IsGoalInRange P a.words) (λ (h : HungGoal). h.goal) (left_hung a.seats passes)
            (All-filter (λ (h : HungGoal). is_left h.waiter) (λ (h : HungGoal). IsGoalInRange P a.words h.goal) ordered all_in_range));
      }

-- the words of each waiter that is left lie in the table
pub places_in : (words count place : ℕ) (size : ℕ) (left : List ℕ) → place ≡ words + words → size ≡ words + (words + (2 * count + 2))
    → All (λ w. w < count) left → All (λ w. place + (2 * w + 1) < size) left
places_in words count place size left is long below =
    all_of (λ w. place + (2 * w + 1) < size) left (λ w c. let low = All-contains (λ w. w < count) left w below c in omega (arith, is, long, low))
