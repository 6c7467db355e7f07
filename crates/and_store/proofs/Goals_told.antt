-- What hanging a goal, and handing one out, tell of the pass.
use Rattle.std.proofs.Common.{ℕ, zero, suc, get_or, ◌+◌, ◌*◌, ◌≡◌, ◌≢◌, ◌<◌, List, [], ◌∷◌, ◌++◌, map, length, length-append, drop, Bool, Some}
use Rattle.std.proofs.Common.{option_to_list, refl, sym, ap, subst, ◌∙◌, arith, append-nil, append_assoc, Contains}
use Rattle.std.specs.Prelude.{filter, nat_eq}
use Rattle.std.proofs.lemmas.List.Elements.{All-contains, Contains-push, filter-append}
use Rattle.and_model.specs.Store.{JournalEntry, HungGoal, Made, hangs, Pass, Found, Took, Waiting, empty, occupied, closed, hung_of, entries_by}
use Rattle.and_model.specs.declared.goal.Goal.{Goal}
use Rattle.and_cells.specs.Ranges.{NamedProgram, IsGoalInRange}
use Rattle.and_store_laws.specs.AtWork.{Opening, Member, WasHung, place_at}
use Rattle.and_store_laws.specs.Steps.{entry, hung_as, not_hung, goal_of}
use Rattle.and_store_laws.proofs.Going.{hung_later}
use Rattle.and_store_laws.proofs.Lists.{map_append, flat_contains, contains_first, contains_more}
use Rattle.and_store_laws.proofs.AtClose.{in_option}
use Rattle.and_store_laws.proofs.Opened.{others_since}
use Rattle.and_store.specs.Calls.{Sees, LooksAt, HangsGoal, MissesPlace, FindsWaiter, FindsSet, HandsOut}
use Rattle.and_model.specs.declared.reference.Ref.{Ref}
use Rattle.and_store.specs.Kept.{UpperIs, LowerIs, place_word}
use Rattle.and_store.specs.Passes.{StoreId, IsPass, numbers_from}
use Rattle.and_store.specs.Sight.{About, Sight, opening_of}
use Rattle.and_store.specs.Told.{mine_of, noting, stepped_to, sees, NoteTold, HangTold, GoalTold}
use Rattle.and_store.proofs.Goals_hung.{one_goal}
use Rattle.and_store.proofs.Telling.{works_of, sees_made, sees_none}

-- two steps, of which the first made nothing
pub sees_on : (made : List Made) (p r q : Pass) → r.number ≡ p.number → Sees [] p r → Sees made r q → Sees made p q
sees_on made p r q same s t = record {
  since = s.since ++ t.since;
  of_others = filter-append (λ (e : JournalEntry). nat_eq e.pass p.number) s.since t.since ∙ ap (λ l. l ++ entries_by p t.since) s.of_others
      ∙ ap (λ n. filter (λ (e : JournalEntry). nat_eq e.pass n) t.since) (sym same) ∙ t.of_others;
  seen = t.seen ∙ ap (λ n. (r.seen ++ t.since) ++ map (entry n) made) same
      ∙ ap (λ l. (l ++ t.since) ++ map (entry p.number) made) (s.seen ∙ append-nil (p.seen ++ s.since))
      ∙ ap (λ l. l ++ map (entry p.number) made) (append_assoc p.seen s.since t.since);
}

numbers_end : (first count : ℕ) → numbers_from first count ++ (first + count) ∷ [] ≡ numbers_from first (suc count)
numbers_end first zero = let e : first + 0 ≡ first = omega arith in ap (λ n. n ∷ []) e
numbers_end first (suc count) =
    let e : first + suc count ≡ suc first + count = omega arith in
    ap (λ l. first ∷ l) (ap (λ n. numbers_from (suc first) count ++ n ∷ []) e ∙ numbers_end (suc first) count)

-- one goal more is hung under the next number
numbers_push : (hung : List HungGoal) (g : HungGoal) (first count : ℕ) → map (λ (g : HungGoal). g.waiter) hung ≡ numbers_from first count
    → g.waiter ≡ first + count
    → map (λ (g : HungGoal). g.waiter) (hung ++ g ∷ []) ≡ numbers_from first (count + 1)
numbers_push hung g first count are is =
    let next : suc count ≡ count + 1 = omega arith in
    map_append (λ (g : HungGoal). g.waiter) hung (g ∷ []) ∙ ap (λ l. l ++ g.waiter ∷ []) are ∙ ap (λ n. numbers_from first count ++ n ∷ []) is
    ∙ numbers_end first count ∙ ap (numbers_from first) next

module _ (P : NamedProgram) (x y : ℕ) (v u w : Sight) (s : NoteTold P x v u) (t : NoteTold P y u w) where
  u_is : u ≡ noting v (sees s.held.journal (mine_of v)) (v.noted ++ x ∷ [])
  u_is = s.view

  second : NoteTold P y (noting v (sees s.held.journal (mine_of v)) (v.noted ++ x ∷ [])) w
  second = subst (λ u. NoteTold P y u w) u_is t

  -- a pass that noted two words has only seen the journal
  pub noted_twice : (journal : List JournalEntry) × (w ≡ noting v (sees journal (mine_of v)) ((v.noted ++ x ∷ []) ++ y ∷ []))
      × Sees [] (mine_of v).pass (sees journal (mine_of v)).pass
  noted_twice = (
    second.held.journal,
    second.view,
    sees_on [] (mine_of v).pass (sees s.held.journal (mine_of v)).pass (sees second.held.journal (mine_of v)).pass refl
        (sees_none (opening_of P v.about) (mine_of v) s.held (sees s.held.journal (mine_of v)).pass s.before refl)
        (sees_none (opening_of P v.about) (sees s.held.journal (mine_of v)) second.held (sees second.held.journal (mine_of v)).pass second.before refl),
  )

module _ (P : NamedProgram) (cell : ℕ) (goal : Goal) (v w : Sight) (found : ℕ) (number hung : ℕ) (is_refused : Bool) (ends : ℕ)
    (items : List ℕ) (room handed : ℕ)
    (old : IsPass v number hung is_refused ends items room handed) (journal : List JournalEntry) (ns : List ℕ)
    (seen : Sees [] (mine_of v).pass (sees journal (mine_of v)).pass)
    (t : HangTold P cell goal (noting v (sees journal (mine_of v)) ns) found w) where
  abbrev m : Member
  m = mine_of v

  abbrev r : Member
  r = sees journal m

  abbrev o : Opening
  o = opening_of P v.about

  module _ (left : hung < v.about.waiters) (none : found ≡ 0) where
    abbrev g : HungGoal
    g = goal_of o cell goal r

    abbrev n : Member
    n = hung_as g t.held.journal r

    w_is : w ≡ stepped_to (noting v r ns) n
    w_is = (t.hung none).view

    pub hung_pass : IsPass w number (hung + 1) is_refused ends items room handed
    hung_pass = subst (λ (w : Sight). IsPass w number (hung + 1) is_refused ends items room handed) (sym w_is) (record {
      alone = refl;
      share = old.share;
      nothing_noted = refl;
      at_rest = old.at_rest;
      modest = old.modest;
      number_is = old.number_is;
      number_below = old.number_below;
      hung_are = length-append m.pass.hung (g ∷ []) ∙ ap (λ k. k + 1) old.hung_are;
      hung_fit = omega arith;
      in_turn = numbers_push m.pass.hung g (number * v.about.waiters) hung old.in_turn
          (ap (λ k. k * v.about.waiters + length m.pass.hung) old.number_is ∙ ap (λ k. number * v.about.waiters + k) old.hung_are);
      refused_is = old.refused_is;
      refused_was = old.refused_was;
      ends = old.ends;
      ends_fit = old.ends_fit;
      taken_are = old.taken_are;
      below = old.below;
      enough = old.enough;
      handed_out = old.handed_out;
      once = old.once;
    })

    pub hung_tells : HangsGoal v.about.waiters cell goal m.pass (mine_of w).pass
    hung_tells = subst (λ (w : Sight). HangsGoal v.about.waiters cell goal m.pass (mine_of w).pass) (sym w_is) (record {
      waiter = g.waiter;
      next = refl;
      left = let e = old.hung_are in omega (arith, left, e);
      sees = sees_on (hangs g ∷ []) m.pass r.pass n.pass refl seen (sees_made o r t.held (hangs g ∷ []) n.pass (t.hung none).before refl);
      becomes = refl;
    })

  module _ (some_found : found ≢ 0) where
    pub missed_tells : MissesPlace cell (place_at t.held.places cell) m.pass (mine_of w).pass
    missed_tells = subst (λ (w : Sight). MissesPlace cell (place_at t.held.places cell) m.pass (mine_of w).pass) (sym (t.not_hung some_found).view) (record {
      sees = sees_on [] m.pass r.pass (not_hung cell (place_at t.held.places cell) t.held.journal r).pass refl seen
          (sees_none o r t.held (not_hung cell (place_at t.held.places cell) t.held.journal r).pass (t.not_hung some_found).before refl);
      becomes = refl;
    })

    pub finds_waiter : (waiter : ℕ) → place_at t.held.places cell ≡ occupied waiter → FindsWaiter cell m.pass (mine_of w).pass
    finds_waiter waiter is = record {
      waiter = waiter;
      misses = subst (λ k. MissesPlace cell k m.pass (mine_of w).pass) is missed_tells;
      was_hung = subst (λ (w : Sight). WasHung (mine_of w).pass.seen waiter cell) (sym (t.not_hung some_found).view)
          ((t.not_hung some_found).before.at_work.holds.occupied_hung cell waiter is);
    }

pub is_closed : (place : Waiting) (found : ℕ) → found ≡ place_word place → found ≡ 1 → place ≡ closed
is_closed empty found e h = absurd (omega (arith, e, h))
is_closed closed found e h = refl
is_closed (occupied waiter) found e h = absurd (omega (arith, e, h))

pub is_occupied : (place : Waiting) (found : ℕ) → found ≡ place_word place → found ≢ 0 → found ≢ 1 → (waiter : ℕ) × (place ≡ occupied waiter)
is_occupied empty found e h k = absurd (h e)
is_occupied closed found e h k = absurd (k e)
is_occupied (occupied waiter) found e h k = (waiter, refl)

pub finds_set : (P : NamedProgram) (a : About) (cell : ℕ) (r : Ref) (p between q : Pass) → MissesPlace cell closed p between → LooksAt P a cell r between q
    → FindsSet P a cell r p q
finds_set P a cell r p between q misses looks =
    let f : Found = record { cell = cell; place = closed } in record {
      between = between;
      misses = misses;
      looks = looks;
      is_set = looks.place_closed f (subst (λ l. Contains l f) (sym (ap (λ (q : Pass). q.found) misses.becomes)) (Contains-push p.found f)) refl refl;
    }

-- ---- a goal is handed out

pub at_in : (xs : List ℕ) (i x : ℕ) → i < length xs → x ≡ get_or xs i x → Contains xs x
at_in [] i x h e = absurd (omega arith)
at_in (y ∷ xs) zero x h e = subst (Contains (y ∷ xs)) (sym e) (contains_first y xs)
at_in (y ∷ xs) (suc i) x h e = contains_more y x xs (at_in xs i x (omega arith) e)

pub drop_first : (xs : List ℕ) (i x : ℕ) → i < length xs → x ≡ get_or xs i x → drop i xs ≡ x ∷ drop (i + 1) xs
drop_first [] i x h e = absurd (omega arith)
drop_first (y ∷ xs) zero x h e = ap (λ z. z ∷ xs) (sym e)
drop_first (y ∷ xs) (suc i) x h e = let next : suc i + 1 ≡ suc (i + 1) =
    omega arith in drop_first xs i x (omega arith) e ∙ ap (λ n. x ∷ drop n (y ∷ xs)) (sym next)

module _ (P : NamedProgram) (v u w : Sight) (waiter upper lower : ℕ) (number hung : ℕ) (is_refused : Bool) (ends : ℕ) (items : List ℕ) (room handed : ℕ)
    (old : IsPass v number hung is_refused ends items room handed) (is_taken : Contains items waiter)
    (s : GoalTold P (2 * waiter + 0) v upper u) (t : GoalTold P (2 * waiter + 1) u lower w) where
  abbrev m0 : Member
  m0 = mine_of v

  abbrev o0 : Opening
  o0 = opening_of P v.about

  abbrev m1 : Member
  m1 = sees s.held.journal m0

  then_looks : GoalTold P (2 * waiter + 1) (stepped_to v m1) lower w
  then_looks = subst (λ u. GoalTold P (2 * waiter + 1) u lower w) s.went.view t

  abbrev m2 : Member
  m2 = sees then_looks.held.journal m1

  -- the goal that the pass has seen hung
  was_hung : (g : HungGoal) × Contains (hung_of m0.pass.seen) g × (g.waiter ≡ waiter)
  was_hung =
      let x = flat_contains (λ (t : Took). option_to_list t.waiter) waiter m0.pass.took (subst (λ l. Contains l waiter) old.taken_are is_taken) in
      let h = All-contains (λ (t : Took). (waiter : ℕ) → t.waiter ≡ Some waiter
      → WasHung m0.pass.seen waiter t.cell) m0.pass.took x.0 (works_of o0 m0 s.held s.went.before).took_hung x.1 waiter (in_option x.0.waiter waiter x.2) in
      (h.0, h.1, h.2)

  abbrev hung_goal : HungGoal
  hung_goal = was_hung.0

  in_first : Contains (hung_of s.held.journal) hung_goal
  in_first =
      let since = others_since o0 s.held m0 (works_of o0 m0 s.held s.went.before) in
      subst (λ j. Contains (hung_of j) hung_goal) (sym since.1) (hung_later m0.pass.seen since.0 hung_goal was_hung.1)

  in_second : Contains (hung_of then_looks.held.journal) hung_goal
  in_second =
      let since = others_since o0 then_looks.held m1 (works_of o0 m1 then_looks.held then_looks.went.before) in
      subst (λ j. Contains (hung_of j) hung_goal) (sym since.1) (hung_later s.held.journal since.0 hung_goal in_first)

  upper_is : UpperIs upper hung_goal.goal
  upper_is = (s.found_is hung_goal in_first).0 (let e = was_hung.2 in omega (arith, e))

  lower_is : LowerIs lower hung_goal.goal
  lower_is = (then_looks.found_is hung_goal in_second).1 (let e = was_hung.2 in omega (arith, e))

  goal_in_range : IsGoalInRange P v.about.words hung_goal.goal
  goal_in_range = All-contains (λ (g : HungGoal). IsGoalInRange P v.about.words g.goal) (hung_of s.held.journal) hung_goal
      s.went.before.at_work.holds.goals in_first

  pub hands_out : (goal : Goal) → UpperIs upper goal → LowerIs lower goal → (store store2 : StoreId) (kept : List ℕ) → drop handed items ≡ waiter ∷ kept
      → HandsOut P v.about.words goal (record { store = store; pass = m0.pass; kept = drop handed items })
      (record { store = store2; pass = (mine_of w).pass; kept = kept })
  hands_out goal up low store store2 kept first =
      let same : goal ≡ hung_goal.goal = one_goal goal hung_goal.goal upper lower up low upper_is lower_is in
      subst (λ (w : Sight). HandsOut P v.about.words goal (record { store = store; pass = m0.pass; kept = drop handed items })
      (record { store = store2; pass = (mine_of w).pass; kept = kept })) (sym then_looks.went.view) (record {
        hung = hung_goal;
        kept = first ∙ ap (λ n. n ∷ kept) (sym was_hung.2);
        was_seen = was_hung.1;
        is_goal = same;
        in_range = subst (IsGoalInRange P v.about.words) (sym same) goal_in_range;
        sees = sees_on [] m0.pass m1.pass m2.pass refl (sees_none o0 m0 s.held m1.pass s.went.before refl)
            (sees_none o0 m1 then_looks.held m2.pass then_looks.went.before refl);
        becomes = refl;
      })
