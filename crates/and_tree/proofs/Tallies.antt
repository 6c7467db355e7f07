-- What the calls of all teams count is what their history counts.
use Rattle.std.proofs.Common.{ℕ, zero, suc, ◌+◌, ◌-◌, ◌^◌, ◌≡◌, ◌≢◌, ◌≤◌, ◌<◌, ◌⊎◌, inl, inr, Bool, true, false, true≢false, cond, eqb, List, [], ◌∷◌}
use Rattle.std.proofs.Common.{map, length, refl, sym, ap, subst, ◌∙◌, arith, All, Contains}
use Rattle.std.specs.Prelude.{◌||◌, nat_eq, min, sum_by}
use Rattle.std.proofs.Math.Nat.{min-le_left, min-le_right, le-min}
use Rattle.std.proofs.lemmas.Bool.{cases_lt, cases_eq}
use Rattle.std.proofs.lemmas.Bool.Decides.{Decides-eqb}
use Rattle.std.proofs.lemmas.List.Elements.{All-head, All-tail, All-cons, All-contains}
use Rattle.std.proofs.lemmas.List.Sums.{sum_by-cons}
use Rattle.std.proofs.lemmas.List.Kept.{AllPairs-cons}
use Rattle.std.proofs.lemmas.Map.Made.{IsDistinct-from_AllPairs}
use Rattle.std.proofs.lemmas.Map.Steps.{length-le_from_distinct_below}
use Rattle.std.specs.List.{list_any}
use Rattle.and_model.specs.Store.{AreDistinct}
use Rattle.and_histories.specs.PlainTree.{Event, fork, publish, claim, clear, end, look, left, Ending, answered, retired, given_up}
use Rattle.and_histories.specs.Histories.{HistoryEntry, calls, team_of}
use Rattle.and_tree.specs.Plain.{Tally, tallied, one_more, added}
use Rattle.and_tree.specs.Passes.{PassSeen, tally_on, tally_of}
use Rattle.and_tree.specs.Ended.{tally_of_all}
use Rattle.and_tree.proofs.Going.{differs}

-- ---- numbers that stay at the largest one

abbrev top : ℕ
top = 2 ^ 64 - 1

at_top : (n m : ℕ) → m ≤ n → min n m ≡ m
at_top n m le = let one = min-le_right n m in let same : m ≤ m = omega arith in let other = le-min {k = m} {a = n} {b = m} le same in omega (arith, one, other)

under : (n m : ℕ) → n ≤ m → min n m ≡ n
under n m le = let one = min-le_left n m in let same : n ≤ n = omega arith in let other = le-min {k = n} {a = n} {b = m} same le in omega (arith, one, other)

capped_plus : (a b m : ℕ) → min (min a m + b) m ≡ min (a + b) m
capped_plus a b m = elim (cases_lt m a) [
  | inl over ↦
      let is : min a m ≡ m = at_top a m (omega (arith, over)) in
      ap (λ x. min (x + b) m) is ∙ at_top (m + b) m (omega arith) ∙ sym (at_top (a + b) m (omega (arith, over)))
  | inr fits ↦ ap (λ x. min (x + b) m) (under a m fits)
]

capped_both : (a b m : ℕ) → min (min a m + min b m) m ≡ min (a + b) m
capped_both a b m =
    let swap : a + min b m ≡ min b m + a = omega arith in
    let back : b + a ≡ a + b = omega arith in
    capped_plus a (min b m) m ∙ ap (λ n. min n m) swap ∙ capped_plus b a m ∙ ap (λ n. min n m) back

-- ---- what an event counts

abbrev forks_in : Event → ℕ
forks_in (fork team key longer clauses) = 1
forks_in (publish team cell key) = 0
forks_in (claim team cell serial) = 0
forks_in (clear team cell) = 0
forks_in (end team key how) = 0
forks_in (look team cell) = 0
forks_in (left team) = 0

abbrev ends_in : (Ending → ℕ) → Event → ℕ
ends_in of (fork team key longer clauses) = 0
ends_in of (publish team cell key) = 0
ends_in of (claim team cell serial) = 0
ends_in of (clear team cell) = 0
ends_in of (end team key how) = of how
ends_in of (look team cell) = 0
ends_in of (left team) = 0

abbrev is_answer : Ending → ℕ
is_answer answered = 1
is_answer retired = 0
is_answer given_up = 0

abbrev is_retirement : Ending → ℕ
is_retirement answered = 0
is_retirement retired = 1
is_retirement given_up = 0

abbrev is_loss : Ending → ℕ
is_loss answered = 0
is_loss retired = 0
is_loss given_up = 1

abbrev tally_with : (forks answers retired given_up : ℕ) → Tally
tally_with f a r g = record { forks = min f top; answers = min a top; retired = min r top; given_up = min g top }

abbrev four_of : (forks answers retired given_up : ℕ) → Tally
four_of f a r g = record { forks = f; answers = a; retired = r; given_up = g }

four : (f f' a a' r r' g g' : ℕ) → f ≡ f' → a ≡ a' → r ≡ r' → g ≡ g' → four_of f a r g ≡ four_of f' a' r' g'
four f f' a a' r r' g g' e1 e2 e3 e4 = λ i. record { forks = e1 i; answers = e2 i; retired = e3 i; given_up = e4 i }

same_cap : (n : ℕ) → min n top ≡ min (n + 0) top
same_cap n = let e : n ≡ n + 0 = omega arith in ap (λ k. min k top) e

grow_cap : (n : ℕ) → one_more (min n top) ≡ min (n + 1) top
grow_cap n = capped_plus n 1 top

quiet_step : (f a r g : ℕ) → tally_with f a r g ≡ tally_with (f + 0) (a + 0) (r + 0) (g + 0)
quiet_step f a r g = four (min f top) (min (f + 0) top) (min a top) (min (a + 0) top) (min r top) (min (r + 0) top) (min g top) (min (g + 0) top) (same_cap f)
    (same_cap a) (same_cap r) (same_cap g)

tally_step : (event : Event) (f a r g : ℕ)
    → tallied event (tally_with f a r g) ≡ tally_with (f + forks_in event) (a + ends_in is_answer event) (r + ends_in is_retirement event)
    (g + ends_in is_loss event)
tally_step (fork team key longer clauses) f a r g =
    four (one_more (min f top)) (min (f + 1) top) (min a top) (min (a + 0) top) (min r top) (min (r + 0) top) (min g top) (min (g + 0) top) (grow_cap f)
    (same_cap a) (same_cap r) (same_cap g)
tally_step (publish team cell key) f a r g = quiet_step f a r g
tally_step (claim team cell serial) f a r g = quiet_step f a r g
tally_step (clear team cell) f a r g = quiet_step f a r g
tally_step (end team key answered) f a r g =
    four (min f top) (min (f + 0) top) (one_more (min a top)) (min (a + 1) top) (min r top) (min (r + 0) top) (min g top) (min (g + 0) top) (same_cap f)
    (grow_cap a) (same_cap r) (same_cap g)
tally_step (end team key retired) f a r g =
    four (min f top) (min (f + 0) top) (min a top) (min (a + 0) top) (one_more (min r top)) (min (r + 1) top) (min g top) (min (g + 0) top) (same_cap f)
    (same_cap a) (grow_cap r) (same_cap g)
tally_step (end team key given_up) f a r g =
    four (min f top) (min (f + 0) top) (min a top) (min (a + 0) top) (min r top) (min (r + 0) top) (one_more (min g top)) (min (g + 1) top) (same_cap f)
    (same_cap a) (same_cap r) (grow_cap g)
tally_step (look team cell) f a r g = quiet_step f a r g
tally_step (left team) f a r g = quiet_step f a r g

-- so many of a history
abbrev many : (Event → ℕ) → List HistoryEntry → ℕ
many f history = sum_by (λ (e : HistoryEntry). f e.event) history

abbrev tally_sum : List HistoryEntry → Tally
tally_sum history = tally_with (many forks_in history) (many (ends_in is_answer) history) (many (ends_in is_retirement) history)
    (many (ends_in is_loss) history)

tally_sums : (history : List HistoryEntry) (f a r g : ℕ) → tally_on (tally_with f a r g) history
    ≡ tally_with (f + many forks_in history) (a + many (ends_in is_answer) history) (r + many (ends_in is_retirement) history)
    (g + many (ends_in is_loss) history)
tally_sums [] f a r g = quiet_step f a r g
tally_sums (e ∷ history) f a r g =
    let on = tally_sums history (f + forks_in e.event) (a + ends_in is_answer e.event) (r + ends_in is_retirement e.event) (g + ends_in is_loss e.event) in
    ap (λ t. tally_on t history) (tally_step e.event f a r g) ∙ on
    ∙ four _ _ _ _ _ _ _ _ (next forks_in f) (next (ends_in is_answer) a) (next (ends_in is_retirement) r) (next (ends_in is_loss) g)
  where
    next : (w : Event → ℕ) (n : ℕ) → min ((n + w e.event) + many w history) top ≡ min (n + many w (e ∷ history)) top
    next w n = let one = sum_by-cons (λ (x : HistoryEntry). w x.event) e history in
        let e : (n + w e.event) + many w history ≡ n + many w (e ∷ history) = omega (arith, one) in ap (λ k. min k top) e

pub tally_is_sum : (history : List HistoryEntry) → tally_of history ≡ tally_sum history
tally_is_sum history = tally_sums history 0 0 0 0
    ∙ four _ _ _ _ _ _ _ _ (from_none forks_in) (from_none (ends_in is_answer)) (from_none (ends_in is_retirement)) (from_none (ends_in is_loss))
  where
    from_none : (w : Event → ℕ) → min (0 + many w history) top ≡ min (many w history) top
    from_none w = let e : 0 + many w history ≡ many w history = omega arith in ap (λ k. min k top) e

-- ---- the calls of all teams

-- so many of the calls of these passes
abbrev many_of_all : (Event → ℕ) → List PassSeen → ℕ
many_of_all w passes = sum_by (λ (p : PassSeen). many w (calls p.seen p.team)) passes

all_sum : (passes : List PassSeen)
    → tally_of_all passes ≡ tally_with (many_of_all forks_in passes) (many_of_all (ends_in is_answer) passes) (many_of_all (ends_in is_retirement) passes)
    (many_of_all (ends_in is_loss) passes)
all_sum [] = refl
all_sum (p ∷ passes) =
    ap (λ t. added t (tally_of_all passes)) (tally_is_sum (calls p.seen p.team)) ∙ ap (added (tally_sum (calls p.seen p.team))) (all_sum passes)
    ∙ four _ _ _ _ _ _ _ _ (next forks_in) (next (ends_in is_answer)) (next (ends_in is_retirement)) (next (ends_in is_loss))
  where
    next : (w : Event → ℕ) → min (min (many w (calls p.seen p.team)) top + min (many_of_all w passes) top) top ≡ min (many_of_all w (p ∷ passes)) top
    next w =
        capped_both (many w (calls p.seen p.team)) (many_of_all w passes) top
        ∙ ap (λ k. min k top) (sym (sum_by-cons (λ (q : PassSeen). many w (calls q.seen q.team)) p passes))

-- ---- each call is of one team

none_there : (t x : ℕ) (ns : List ℕ) → All (λ n. t ≢ n) ns → sum_by (λ n. cond (nat_eq t n) x 0) ns ≡ 0
none_there t x [] h = refl
none_there t x (n ∷ ns) h =
    let one = sum_by-cons (λ n. cond (nat_eq t n) x 0) n ns in
    let here : cond (nat_eq t n) x 0 ≡ 0 = ap (λ b. cond b x 0) (differs t n (All-head (λ n. t ≢ n) n ns h)) in
    let rest = none_there t x ns (All-tail (λ n. t ≢ n) n ns h) in
    omega (arith, one, here, rest)

later_ones : (n : ℕ) (ns : List ℕ) → AreDistinct (n ∷ ns) → All (λ k. n ≢ k) ns
later_ones n ns d i x within = d 0 (suc i) x (omega arith) (omega (arith, within))

rest_apart : (n : ℕ) (ns : List ℕ) → AreDistinct (n ∷ ns) → AreDistinct ns
rest_apart n ns d i j x before within = d (suc i) (suc j) x (omega (arith, before)) (omega (arith, within))

one_there : (t x : ℕ) (ns : List ℕ) → AreDistinct ns → Contains ns t → sum_by (λ n. cond (nat_eq t n) x 0) ns ≡ x
one_there t x [] d (i, within, e) = absurd (omega (arith, within))
one_there t x (n ∷ ns) d (zero, within, e) =
    let one = sum_by-cons (λ n. cond (nat_eq t n) x 0) n ns in
    let here : cond (nat_eq t n) x 0 ≡ x = ap (λ b. cond b x 0) ((Decides-eqb t n).1 (sym e)) in
    let none = none_there t x ns (subst (λ k. All (λ n. k ≢ n) ns) e (later_ones n ns d)) in
    omega (arith, one, here, none)
one_there t x (n ∷ ns) d (suc i, within, e) =
    let there : Contains ns t = (i, omega (arith, within), e) in
    let one = sum_by-cons (λ n. cond (nat_eq t n) x 0) n ns in
    let apart : t ≢ n = λ f. All-contains (λ k. n ≢ k) ns t (later_ones n ns d) there (sym f) in
    let here : cond (nat_eq t n) x 0 ≡ 0 = ap (λ b. cond b x 0) (differs t n apart) in
    let rest = one_there t x ns (rest_apart n ns d) there in
    omega (arith, one, here, rest)

calls_cons : (w : Event → ℕ) (e : HistoryEntry) (history : List HistoryEntry) (n : ℕ)
    → many w (calls (e ∷ history) n) ≡ cond (nat_eq (team_of e.event) n) (w e.event) 0 + many w (calls history n)
calls_cons w e history n = by_test (nat_eq (team_of e.event) n)
  where
    by_test : (b : Bool) → many w (cond b (e ∷ calls history n) (calls history n)) ≡ cond b (w e.event) 0 + many w (calls history n)
    by_test true = sum_by-cons (λ (x : HistoryEntry). w x.event) e (calls history n)
    by_test false = omega arith

sum_plus : (f g h : ℕ → ℕ) (ns : List ℕ) → ((n : ℕ) → f n ≡ g n + h n) → sum_by f ns ≡ sum_by g ns + sum_by h ns
sum_plus f g h [] e = refl
sum_plus f g h (n ∷ ns) e =
    let one = sum_by-cons f n ns in
    let two = sum_by-cons g n ns in
    let three = sum_by-cons h n ns in
    let here = e n in
    let rest = sum_plus f g h ns e in
    omega (arith, one, two, three, here, rest)

no_calls : (w : Event → ℕ) (ns : List ℕ) → sum_by (λ n. many w (calls [] n)) ns ≡ 0
no_calls w [] = refl
no_calls w (n ∷ ns) = let one = sum_by-cons (λ n. many w (calls [] n)) n ns in let rest = no_calls w ns in omega (arith, one, rest)

by_teams : (w : Event → ℕ) (ns : List ℕ) (history : List HistoryEntry) → AreDistinct ns
    → All (λ (e : HistoryEntry). Contains ns (team_of e.event)) history
    → sum_by (λ n. many w (calls history n)) ns ≡ many w history
by_teams w ns [] d h = no_calls w ns
by_teams w ns (e ∷ history) d h =
    let split = sum_plus (λ n. many w (calls (e ∷ history) n)) (λ n. cond (nat_eq (team_of e.event) n) (w e.event) 0) (λ n. many w (calls history n)) ns
    (calls_cons w e history) in
    let here = one_there (team_of e.event) (w e.event) ns d (All-head (λ (e : HistoryEntry). Contains ns (team_of e.event)) e history h) in
    let rest = by_teams w ns history d (All-tail (λ (e : HistoryEntry). Contains ns (team_of e.event)) e history h) in
    let one = sum_by-cons (λ (x : HistoryEntry). w x.event) e history in
    omega (arith, split, here, rest, one)

-- ---- as many teams as there are numbers below a bound are all of these

below_any : (n q : ℕ) (xs : List ℕ) → All (λ x. x < n) xs → list_any (eqb q) xs ≡ true → q < n
below_any n q [] h e = absurd (true≢false (sym e))
below_any n q (x ∷ xs) h e = by_test (eqb q x) refl (below_any n q xs (All-tail (λ x. x < n) x xs h)) e
  where
    by_test : (b : Bool) → eqb q x ≡ b → (list_any (eqb q) xs ≡ true → q < n) → (b || list_any (eqb q) xs) ≡ true → q < n
    by_test true is rest f = subst (λ k. k < n) (sym ((Decides-eqb q x).0 is)) (All-head (λ x. x < n) x xs h)
    by_test false is rest f = rest f

present : (t : ℕ) (ns : List ℕ) → Contains ns t ⊎ All (λ n. t ≢ n) ns
present t [] = inr (λ i d within. absurd (omega (arith, within)))
present t (n ∷ ns) = elim (cases_eq t n) [
  | inl same ↦ inl (0, omega arith, sym same)
  | inr apart ↦ further apart (present t ns)
]
  where
    further : t ≢ n → Contains ns t ⊎ All (λ k. t ≢ k) ns → Contains (n ∷ ns) t ⊎ All (λ k. t ≢ k) (n ∷ ns)
    further apart (inl (i, within, e)) = inl (suc i, omega (arith, within), e)
    further apart (inr all) = inr (All-cons (λ k. t ≢ k) n ns apart all)

pub all_there : (n : ℕ) (ns : List ℕ) → AreDistinct ns → All (λ k. k < n) ns → length ns ≡ n → (t : ℕ) → t < n → Contains ns t
all_there n ns d below long t less = elim (present t ns) [
  | inl there ↦ there
  | inr apart ↦
      let distinct : AreDistinct (t ∷ ns) = AllPairs-cons (λ x y. x ≢ y) t ns apart d in
      let small : All (λ k. k < n) (t ∷ ns) = All-cons (λ k. k < n) t ns less below in
      let few = length-le_from_distinct_below (t ∷ ns) n (IsDistinct-from_AllPairs Decides-eqb (t ∷ ns) distinct) (λ q e. below_any n q (t ∷ ns) small e) in
      absurd (omega (arith, few, long))
]

-- ---- so what they count is what the history counts

many_by_teams : (w : Event → ℕ) (passes : List PassSeen) (history : List HistoryEntry)
    → All (λ (p : PassSeen). calls history p.team ≡ calls p.seen p.team) passes
    → many_of_all w passes ≡ sum_by (λ n. many w (calls history n)) (map (λ (p : PassSeen). p.team) passes)
many_by_teams w [] history h = refl
many_by_teams w (p ∷ passes) history h =
    let one = sum_by-cons (λ (p : PassSeen). many w (calls p.seen p.team)) p passes in
    let two = sum_by-cons (λ n. many w (calls history n)) p.team (map (λ (p : PassSeen). p.team) passes) in
    let here : many w (calls history p.team) ≡ many w (calls p.seen p.team) =
    ap (many w) (All-head (λ (p : PassSeen). calls history p.team ≡ calls p.seen p.team) p passes h) in
    let rest = many_by_teams w passes history (All-tail (λ (p : PassSeen). calls history p.team ≡ calls p.seen p.team) p passes h) in
    omega (arith, one, two, here, rest)

pub tallies_agree : (passes : List PassSeen) (history : List HistoryEntry) → AreDistinct (map (λ (p : PassSeen). p.team) passes)
    → All (λ (e : HistoryEntry). Contains (map (λ (p : PassSeen). p.team) passes) (team_of e.event)) history
    → All (λ (p : PassSeen). calls history p.team ≡ calls p.seen p.team) passes → tally_of_all passes ≡ tally_of history
tallies_agree passes history d h own =
    all_sum passes ∙ four _ _ _ _ _ _ _ _ (same forks_in) (same (ends_in is_answer)) (same (ends_in is_retirement)) (same (ends_in is_loss))
    ∙ sym (tally_is_sum history)
  where
    same : (w : Event → ℕ) → min (many_of_all w passes) top ≡ min (many w history) top
    same w = ap (λ k. min k top) (many_by_teams w passes history own ∙ by_teams w (map (λ (p : PassSeen). p.team) passes) history d h)

pub added_turned : (t u : Tally) → added t u ≡ added u t
added_turned t u = four _ _ _ _ _ _ _ _ (turned t.forks u.forks) (turned t.answers u.answers) (turned t.retired u.retired) (turned t.given_up u.given_up)
  where
    turned : (n k : ℕ) → min (n + k) top ≡ min (k + n) top
    turned n k = let e : n + k ≡ k + n = omega arith in ap (λ x. min x top) e

-- what one pass counts, as the sum of one
pub tally_of_one : (p : PassSeen) → tally_of (calls p.seen p.team) ≡ tally_of_all (p ∷ [])
tally_of_one p =
    tally_is_sum (calls p.seen p.team)
    ∙ four _ _ _ _ _ _ _ _ (alone forks_in) (alone (ends_in is_answer)) (alone (ends_in is_retirement)) (alone (ends_in is_loss)) ∙ sym (all_sum (p ∷ []))
  where
    alone : (w : Event → ℕ) → min (many w (calls p.seen p.team)) top ≡ min (many_of_all w (p ∷ [])) top
    alone w =
        let one = sum_by-cons (λ (p : PassSeen). many w (calls p.seen p.team)) p [] in
        let e : many w (calls p.seen p.team) ≡ many_of_all w (p ∷ []) = omega (arith, one) in
        ap (λ k. min k top) e
