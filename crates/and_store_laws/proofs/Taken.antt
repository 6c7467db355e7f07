-- The waiters that one pass took, while passes are at work.
use Rattle.std.proofs.Common.{ℕ, ◌+◌, ◌*◌, ◌<◌, ◌≤◌, ◌≡◌, ◌≢◌, ◌||◌, inl, inr, not, true, false, true≢false, eqb, ne_eqb, List, [], ◌∷◌, map, length, Some}
use Rattle.std.proofs.Common.{option_to_list, sym, ap, subst, ◌∙◌, arith, append-nil, All, Contains}
use Rattle.std.specs.Prelude.{flat_map}
use Rattle.std.specs.List.{IsDistinct, AllByRecursion, list_any}
use Rattle.std.proofs.lemmas.Bool.{cases_eq}
use Rattle.std.proofs.lemmas.Map.Steps.{length-le_from_distinct_below}
use Rattle.and_laws.proofs.Pairwise.{all_first, all_rest, all_pairs_first, all_pairs_rest}
use Rattle.std.proofs.lemmas.Nat.{row_fits}
use Rattle.std.proofs.lemmas.List.Elements.{All-contains}
use Rattle.and_model.specs.Store.{Setting, HungGoal, JournalEntry, Took, AreDistinct, settings_of, hung_of, set_in, is_half}
use Rattle.and_store_laws.specs.AtWork.{Opening, Member, Seat, Held, Works, AtWork, Rule, IsOwnWaiter, WasHung, number_of, all_members, to_close}
use Rattle.and_store_laws.proofs.Lists.{all_of, map_append, map_contains, flat_contains, distinct_flat, distinct_back, distinct_front, same_by}
use Rattle.and_store_laws.proofs.Journal.{made_settings, made_hung, own_distinct}
use Rattle.and_store_laws.proofs.Going.{took_later}
use Rattle.and_store_laws.proofs.Hanging.{made_hang}
use Rattle.and_store_laws.proofs.AtClose.{distinct_filter, distinct_option, in_option}

module _ (o : Opening) (members : List Member) (h : Held) (a : AtWork o members h) (m : Member) (c : Contains members m) where
  works : Works o h m
  works = All-contains (Works o h) members m a.each c

  settings_once : AreDistinct (map (λ (s : Setting). s.place) (settings_of h.journal))
  settings_once = distinct_back (map (λ (s : Setting). s.place) (set_in o.first)) (map (λ (s : Setting). s.place) (settings_of h.journal))
      (subst AreDistinct (map_append (λ (s : Setting). s.place) (set_in o.first) (settings_of h.journal)) a.holds.set_once)

  closes_once : AreDistinct (to_close m.pass.mine)
  closes_once = distinct_filter (λ (s : Setting). s.place) (λ (s : Setting). not (is_half s.value)) m.pass.mine
      (subst (λ l. AreDistinct (map (λ (s : Setting). s.place) l)) (sym works.fits.settings)
      (own_distinct made_settings (λ (s : Setting). s.place) m.pass.number h.journal settings_once))

  cells_once : AreDistinct (map (λ (t : Took). t.cell) m.pass.took)
  cells_once = distinct_front (map (λ (t : Took). t.cell) m.pass.took) (option_to_list m.pending) (subst AreDistinct (sym works.has_closed) closes_once)

  was_hung : (t : Took) (waiter : ℕ) → Contains m.pass.took t → t.waiter ≡ Some waiter → WasHung h.journal waiter t.cell
  was_hung t waiter i e =
      All-contains (λ (t : Took). (waiter : ℕ) → t.waiter ≡ Some waiter → WasHung h.journal waiter t.cell) m.pass.took t
      (took_later o h h [] (sym (append-nil h.journal)) m works) i waiter e

  -- it took no waiter twice
  pub taken_once_by : AreDistinct (flat_map (λ (t : Took). option_to_list t.waiter) m.pass.took)
  taken_once_by =
      distinct_flat (λ (t : Took). t.cell) (λ (t : Took). option_to_list t.waiter) m.pass.took cells_once
      (all_of (λ (t : Took). AreDistinct (option_to_list t.waiter)) m.pass.took (λ t i. distinct_option t.waiter))
      (λ t s k i j p q.
      let x = was_hung t k i (in_option t.waiter k p) in
      let y = was_hung s k j (in_option s.waiter k q) in
      let same = same_by (λ (g : HungGoal). g.waiter) (hung_of h.journal) x.0 y.0 a.holds.hung_once x.1 y.1 (x.2 ∙ sym y.2) in
      sym x.3 ∙ ap (λ (g : HungGoal). g.cell) same ∙ y.3)

  -- and each was hung
  pub taken_hung : (waiter : ℕ) → Contains (flat_map (λ (t : Took). option_to_list t.waiter) m.pass.took) waiter
      → (g : HungGoal) × Contains (hung_of h.journal) g × (g.waiter ≡ waiter)
  taken_hung waiter i =
      let t = flat_contains (λ (t : Took). option_to_list t.waiter) waiter m.pass.took i in
      let x = was_hung t.0 waiter t.1 (in_option t.0.waiter waiter t.2) in
      (x.0, x.1, x.2)

-- a waiter that was hung is one of the waiters of the seats
pub hung_below : (o : Opening) (seats : List Seat) (h : Held) → Rule o seats h → (g : HungGoal) → Contains (hung_of h.journal) g
    → g.waiter < o.seats * o.waiters
hung_below o seats h r g c =
    let e = flat_contains made_hung g h.journal c in
    let own = All-contains (IsOwnWaiter o.waiters) h.journal e.0 r.at_work.holds.own_waiters e.1 g (made_hang e.0.made e.0.pass g e.2) in
    let who = map_contains number_of e.0.pass (all_members seats)
    (All-contains (λ (e : JournalEntry). Contains (map number_of (all_members seats)) e.pass) h.journal e.0 r.at_work.by_a_pass e.1) in
    let below = All-contains (λ (m : Member). m.pass.number < length seats) (all_members seats) who.0 r.seated.numbers who.1 in
    let few = r.seated.few in
    let number : who.0.pass.number ≡ e.0.pass = who.2 in
    let pass_below : e.0.pass < o.seats = omega (arith, below, few, number) in
    let low = own.0 in
    let high = own.1 in
    let x : ℕ = e.0.pass * o.waiters in
    let past : ℕ = o.seats * o.waiters in
    let none_more : o.waiters ≤ o.waiters = omega arith in
    let f : x + o.waiters ≤ past = row_fits e.0.pass o.waiters o.seats o.waiters pass_below none_more in
    omega (arith, high, f)

-- ---- numbers below a bound, none twice, are no more than that

any_of : (x : ℕ) (ys : List ℕ) → All (λ y. x ≢ y) ys → AllByRecursion (λ y. eqb x y ≡ false) ys
any_of x [] h = tt
any_of x (y ∷ ys) h = (ne_eqb x y (all_first (λ y. x ≢ y) y ys h), any_of x ys (all_rest (λ y. x ≢ y) y ys h))

distinct_so : (xs : List ℕ) → AreDistinct xs → IsDistinct eqb xs
unfolding IsDistinct
distinct_so [] d = tt
distinct_so (x ∷ xs) d = (any_of x xs (all_pairs_first (λ a b. a ≢ b) x xs d), distinct_so xs (all_pairs_rest (λ a b. a ≢ b) x xs d))

below_any : (n q : ℕ) (xs : List ℕ) → All (λ x. x < n) xs → list_any (eqb q) xs ≡ true → q < n
below_any n q [] h e = absurd (true≢false (sym e))
below_any n q (x ∷ xs) h e = elim (cases_eq q x) [
  | inl same ↦ (let first = all_first (λ x. x < n) x xs h in omega arith)
  | inr ne ↦ below_any n q xs (all_rest (λ x. x < n) x xs h) (ap (λ b. b || list_any (eqb q) xs) (sym (ne_eqb q x ne)) ∙ e)
]

pub few_below : (n : ℕ) (xs : List ℕ) → AreDistinct xs → All (λ x. x < n) xs → length xs ≤ n
few_below n xs d h = length-le_from_distinct_below xs n (distinct_so xs d) (λ q e. below_any n q xs h e)
