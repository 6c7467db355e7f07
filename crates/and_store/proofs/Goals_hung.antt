-- Goals are written and hung, as the table's rule allows.
use Rattle.std.proofs.Common.{ℕ, zero, suc, ◌+◌, ◌*◌, ◌≡◌, ◌≢◌, ◌<◌, ◌≤◌, eqb, List, [], ◌∷◌, ◌++◌, map, length, set, get_or, refl, sym, ap, subst, ◌∙◌}
use Rattle.std.proofs.Common.{arith, All, Contains, ⊎_elim, inl, inr}
use Rattle.std.proofs.lemmas.Nat.{row_fits}
use Rattle.std.proofs.lemmas.List.{set-get_or, get_or-set_same, get_or-set_other}
use Rattle.std.proofs.lemmas.List.Elements.{All-contains, All-cons}
use Rattle.and_store_laws.proofs.Pairwise.{all_none}
use Rattle.std.proofs.Math.ListN.{length-set}
use mathlib.Core.Option.{some, some-injective, some-ne-none}
use lib.ListN.{get_elem?}
use prog.Atomic.{either}
use Rattle.atomic_table.specs.Table.{State, Allows, Act, Valid, keeps, stepped, carried_after}
use Rattle.atomic_table.proofs.Lists.{exchanged, at_set, at_map}
use Rattle.and_model.specs.Store.{HungGoal, Waiting, empty, occupied, closed, hangs, hung_of, AreDistinct}
use Rattle.and_model.specs.declared.goal.Goal.{Goal}
use Rattle.and_cells.specs.Ranges.{NamedProgram, IsGoalInRange}
use Rattle.and_store_laws.specs.AtWork.{Opening, Member, Seat, Held, Rule, Works, number_of, all_members, place_at}
use Rattle.and_store_laws.specs.Steps.{entry, next_waiter, goal_of, hung_as, not_hung}
use Rattle.and_store_laws.proofs.Journal.{made_hung}
use Rattle.and_store_laws.proofs.Lists.{all_of, contains_first, contains_more, contains_map, contains_flat, map_append, distinct_apart, distinct_back, all_push}
use Rattle.and_store_laws.proofs.Quiet.{only_sees, works_there}
use Rattle.and_store_laws.proofs.Seats.{rule_on}
use Rattle.and_store_laws.proofs.Hanging.{same_block, is_fresh, hangs_keep}
use Rattle.std.proofs.lemmas.List.Concat.{flat_map-append}
use Rattle.and_store.specs.Kept.{Kept, AreNoted, HasGoal, UpperIs, LowerIs, place_word, words_of}
use Rattle.and_store.specs.Sight.{About, Sight, opening_of, seat_of}
use Rattle.and_store.specs.Told.{mine_of, IsAlone, noting, stepped_to, sees, Amid, Went, NoteTold, HangTold, GoalTold}
use Rattle.and_store.proofs.Words.{place_found, place_set, goal_found, goal_set}
use Rattle.and_store.proofs.Keeping.{all_at, after, moved, goes, goes_plainly, went, row_long, places_long, about_is, amid_before, amid_after}

-- ---- passes of two seats

contains_at : {X : Type 0} (xs : List X) (i : ℕ) (x : X) → get_elem? xs i ≡ some x → Contains xs x
contains_at [] i x e = absurd (some-ne-none x (sym e))
contains_at (y ∷ xs) zero x e = subst (Contains (y ∷ xs)) (some-injective y x e) (contains_first y xs)
contains_at (y ∷ xs) (suc i) x e = contains_more y x xs (contains_at xs i x e)

in_seat : (seats : List Seat) (i : ℕ) (v : Seat) (m : Member) → get_elem? seats i ≡ some v → Contains v.members m
    → Contains (map number_of (all_members seats)) m.pass.number
in_seat seats i v m e c = contains_map number_of m (all_members seats) (contains_flat (λ (v : Seat). v.members) v m seats (contains_at seats i v e) c)

apart_seats : (seats : List Seat) (i j : ℕ) (v w : Seat) (m k : Member) → i ≢ j → get_elem? seats i ≡ some v → get_elem? seats j ≡ some w
    → Contains v.members m → Contains w.members k
    → AreDistinct (map number_of (all_members seats)) → m.pass.number ≢ k.pass.number
apart_seats [] i j v w m k ne p q c d h same = absurd (some-ne-none v (sym p))
apart_seats (s ∷ seats) zero zero v w m k ne p q c d h same = ne refl
apart_seats (s ∷ seats) zero (suc j) v w m k ne p q c d h same =
    distinct_apart (map number_of s.members) (map number_of (all_members seats)) m.pass.number
    (subst AreDistinct (map_append number_of s.members (all_members seats)) h)
    (contains_map number_of m s.members (subst (λ (s : Seat). Contains s.members m) (sym (some-injective s v p)) c))
    (subst (Contains (map number_of (all_members seats))) (sym same) (in_seat seats j w k q d))
apart_seats (s ∷ seats) (suc i) zero v w m k ne p q c d h same =
    distinct_apart (map number_of s.members) (map number_of (all_members seats)) m.pass.number
    (subst AreDistinct (map_append number_of s.members (all_members seats)) h)
    (subst (Contains (map number_of s.members)) (sym same)
    (contains_map number_of k s.members (subst (λ (s : Seat). Contains s.members k) (sym (some-injective s w q)) d)))
    (in_seat seats i v m p c)
apart_seats (s ∷ seats) (suc i) (suc j) v w m k ne p q c d h same =
    apart_seats seats i j v w m k (λ e. ne (ap suc e)) p q c d
    (distinct_back (map number_of s.members) (map number_of (all_members seats)) (subst AreDistinct (map_append number_of s.members (all_members seats)) h))
    same

all_from : {X : Type 0} (Q : X → Type 0) (xs : List X) → ((i : ℕ) (x : X) → get_elem? xs i ≡ some x → Q x) → All Q xs
all_from Q [] f = all_none Q
all_from Q (x ∷ xs) f = All-cons Q x xs (f 0 x refl) (all_from Q xs (λ i y e. f (suc i) y e))

-- ---- words of goals change

not_here : (goals : List ℕ) (index x i : ℕ) → i ≢ index → get_or (set goals index x) i 0 ≡ get_or goals i 0
not_here goals index x i ne = get_or-set_other goals index i x 0 ne

-- what another pass has noted stays
noted_other : (o : Opening) (goals : List ℕ) (members : List Member) (ns : List ℕ) (index x : ℕ)
    → ((m : Member) → Contains members m → length m.pass.hung < o.waiters → (2 * next_waiter o m ≢ index) × (2 * next_waiter o m + 1 ≢ index))
    → AreNoted o goals members ns → AreNoted o (set goals index x) members ns
noted_other o goals [] ns index x apart h = tt
noted_other o goals (m ∷ members) [] index x apart h = tt
noted_other o goals (m ∷ members) (n ∷ []) index x apart h =
    let ne = apart m (contains_first m members) h.0 in (h.0, not_here goals index x (2 * next_waiter o m) ne.0 ∙ h.1)
noted_other o goals (m ∷ members) (n ∷ k ∷ ns) index x apart h =
    let ne = apart m (contains_first m members) h.0 in
    (h.0, not_here goals index x (2 * next_waiter o m) ne.0 ∙ h.1, not_here goals index x (2 * next_waiter o m + 1) ne.1 ∙ h.2)

-- what the pass itself has noted grows
noted_more : (o : Opening) (goals : List ℕ) (m : Member) (ns : List ℕ) (x : ℕ) → length m.pass.hung < o.waiters → length ns ≤ 1
    → 2 * next_waiter o m + length ns < length goals
    → AreNoted o goals (m ∷ []) ns → AreNoted o (set goals (2 * next_waiter o m + length ns) x) (m ∷ []) (ns ++ x ∷ [])
noted_more o goals m [] x left few within h =
    let here : 2 * next_waiter o m + length {A = ℕ} [] ≡ 2 * next_waiter o m = omega arith in
    (left, rw here (get_or-set_same goals (2 * next_waiter o m) x 0 (omega (arith, within))))
noted_more o goals m (n ∷ []) x left few within h =
    let index : ℕ = 2 * next_waiter o m + length (n ∷ []) in
    let here : index ≡ 2 * next_waiter o m + 1 = omega arith in (
      left,
      not_here goals index x (2 * next_waiter o m) (λ e. omega arith) ∙ h.1,
      ap (λ i. get_or (set goals i x) (2 * next_waiter o m + 1) 0) here ∙ get_or-set_same goals (2 * next_waiter o m + 1) x 0 (omega (arith, within)),
    )
noted_more o goals m (n ∷ k ∷ ns) x left few within h = absurd (omega (arith, few))

-- a goal that was hung stays where it stands
goal_other : (goals : List ℕ) (waiter index x : ℕ) (g : Goal) → 2 * waiter ≢ index → 2 * waiter + 1 ≢ index → HasGoal goals waiter g
    → HasGoal (set goals index x) waiter g
goal_other goals waiter index x g ne ne2 h = (
  subst (λ n. UpperIs n g) (sym (not_here goals index x (2 * waiter) ne)) h.0,
  subst (λ n. LowerIs n g) (sym (not_here goals index x (2 * waiter + 1) ne2)) h.1,
)

-- words of different waiters
words_apart : (w u j : ℕ) → w ≢ u → j ≤ 1 → (2 * w ≢ 2 * u + j) × (2 * w + 1 ≢ 2 * u + j)
words_apart w u j ne few = ((λ e. ne (omega (arith, few, e))), (λ e. ne (omega (arith, few, e))))

-- the waiters of a pass are among all
next_below : (o : Opening) (m : Member) → m.pass.number < o.seats → length m.pass.hung < o.waiters → next_waiter o m < o.seats * o.waiters
next_below o m below left =
    let x : ℕ = m.pass.number * o.waiters in
    let past : ℕ = o.seats * o.waiters in
    let none_more : o.waiters ≤ o.waiters = omega arith in
    let f : x + o.waiters ≤ past = row_fits m.pass.number o.waiters o.seats o.waiters below none_more in
    omega (arith, f, left)

module _ (P : NamedProgram) (a : About) (s : State (Unit {0}) Sight) (id : ℕ) (v : Sight) (kept : Kept P a s) (at : get_elem? s.views id ≡ some v)
    (alone : IsAlone v) where
  abbrev h : Held
  h = kept.held

  abbrev m : Member
  m = mine_of v

  abbrev o : Opening
  o = opening_of P a

  abbrev seats : List Seat
  seats = map seat_of s.views

  mine_there : Contains v.seat.members m
  mine_there = subst (λ l. Contains l m) (sym alone) (contains_first m [])

  number_below : m.pass.number < a.seats
  number_below =
      let x = amid_before P a s id v kept at alone in
      let few = kept.rule.seated.few in
      let there = contains_flat (λ (v : Seat). v.members) v.seat m seats (contains_at seats id v.seat (at_map seat_of s.views id v at)) mine_there in
      let below = All-contains (λ (m : Member). m.pass.number < length seats) (all_members seats) m kept.rule.seated.numbers there in
      omega (arith, few, below)

  -- ---- it only looks

  abbrev pub seeing : Member
  seeing = sees h.journal m

  see_rule : (ns : List ℕ) → Rule o (after P a s id v kept at alone seeing ns) h
  see_rule ns = rule_on o seats (after P a s id v kept at alone seeing ns) m seeing (moved P a s id v kept at alone seeing ns) refl h h kept.rule
      (λ front back x. only_sees o front back m seeing h x refl refl refl refl refl refl refl refl refl refl (works_there o front back m h x).found_closed)

  module _ (index : ℕ) (within : index < 2 * (a.seats * a.waiters)) where
    goal_is : get_or s.words (a.words + (a.words + index)) 0 ≡ get_or kept.goals index 0
    goal_is = ap (λ l. get_or l (a.words + (a.words + index)) 0) kept.words
        ∙ goal_found h kept.goals a.words (row_long P a s id v kept at alone) (places_long P a s id v kept at alone) index
        (subst (λ n. index < n) (sym kept.goal_words) within)

    goal_put : (x : ℕ) → set s.words (a.words + (a.words + index)) x ≡ words_of h (set kept.goals index x)
    goal_put x = ap (λ l. set l (a.words + (a.words + index)) x) kept.words
        ∙ goal_set h kept.goals a.words (row_long P a s id v kept at alone) (places_long P a s id v kept at alone) index x
        (subst (λ n. index < n) (sym kept.goal_words) within)

    pub see_kept : Kept P a (stepped s (a.words + (a.words + index)) (get_or s.words (a.words + (a.words + index)) 0) id [] (stepped_to v seeing) keeps)
    see_kept = goes_plainly P a s id v kept at alone seeing h (set s.words (a.words + (a.words + index)) (get_or s.words (a.words + (a.words + index)) 0))
        (set-get_or s.words (a.words + (a.words + index)) 0 ∙ kept.words) kept.named (see_rule []) kept.hung

    pub see_told : GoalTold P index v (get_or s.words (a.words + (a.words + index)) 0) (stepped_to v seeing)
    see_told = record {
      held = h;
      went = went P a s id v kept at alone seeing h (see_rule []);
      found_is = λ g c. let has = All-contains (λ (g : HungGoal). HasGoal kept.goals g.waiter g.goal) (hung_of h.journal) g kept.hung c in (
        (λ e. subst (λ n. UpperIs n g.goal) (sym (goal_is ∙ ap (λ i. get_or kept.goals i 0) e)) has.0),
        (λ e. subst (λ n. LowerIs n g.goal) (sym (goal_is ∙ ap (λ i. get_or kept.goals i 0) e)) has.1),
      );
    }

  -- ---- a word is noted

  module _ (x : ℕ) (left : length m.pass.hung < a.waiters) (few : length v.noted ≤ 1) where
    abbrev next : ℕ
    next = next_waiter o m

    abbrev index : ℕ
    index = 2 * next + length v.noted

    next_in : next < a.seats * a.waiters
    next_in = next_below o m number_below left

    index_in : index < 2 * (a.seats * a.waiters)
    index_in = let all : ℕ = a.seats * a.waiters in let n : ℕ = next in let p : n < all = next_in in omega (arith, p, few)

    fresh : (g : HungGoal) → Contains (hung_of h.journal) g → g.waiter ≢ next
    fresh g c e =
        let among = amid_before P a s id v kept at alone in
        let works = All-contains (Works o h) among.members m among.at_work.each among.there in
        is_fresh o h m among.at_work.holds works left
        (subst (Contains (map (λ (g : HungGoal). g.waiter) (hung_of h.journal))) e (contains_map (λ (g : HungGoal). g.waiter) g (hung_of h.journal) c))

    noted_now : AreNoted o (set kept.goals index x) (seeing ∷ []) (v.noted ++ x ∷ [])
    noted_now = noted_more o kept.goals seeing v.noted x left few (subst (λ n. index < n) (sym kept.goal_words) index_in)
        (subst (λ l. AreNoted o kept.goals l v.noted) alone (all_at (λ (v : Sight). AreNoted o kept.goals v.seat.members v.noted) s.views id v kept.noted at))

    others_noted : (j : ℕ) (u : Sight) → j ≢ id → get_elem? s.views j ≡ some u → AreNoted o (set kept.goals index x) u.seat.members u.noted
    others_noted j u ne there = noted_other o kept.goals u.seat.members u.noted index x
        (λ k c some_left. words_apart (next_waiter o k) next (length v.noted)
        (λ e. let number = apart_seats seats j id u.seat v.seat k m ne (at_map seat_of s.views j u there) (at_map seat_of s.views id v at) c mine_there
        kept.rule.at_work.numbered in
        number (same_block k.pass.number m.pass.number o.waiters (next_waiter o k) (omega arith) (omega (arith, some_left)) (omega (arith, e))
        (omega (arith, e, left)))) few)
        (all_at (λ (v : Sight). AreNoted o kept.goals v.seat.members v.noted) s.views j u kept.noted there)

    pub note_kept : Kept P a (stepped s (a.words + (a.words + index)) x id [] (noting v seeing (v.noted ++ x ∷ [])) keeps)
    note_kept = goes P a s id v kept at alone seeing (v.noted ++ x ∷ []) h (set kept.goals index x) (set s.words (a.words + (a.words + index)) x)
        (goal_put index index_in x) (length-set kept.goals index x ∙ kept.goal_words) kept.named (see_rule (v.noted ++ x ∷ []))
        (all_of (λ (g : HungGoal). HasGoal (set kept.goals index x) g.waiter g.goal) (hung_of h.journal)
        (λ g c. let apart = words_apart g.waiter next (length v.noted) (fresh g c) few in
        goal_other kept.goals g.waiter index x g.goal apart.0 apart.1
        (All-contains (λ (g : HungGoal). HasGoal kept.goals g.waiter g.goal) (hung_of h.journal) g kept.hung c)))
        (all_from (λ (u : Sight). AreNoted o (set kept.goals index x) u.seat.members u.noted) (set s.views id (noting v seeing (v.noted ++ x ∷ [])))
        (λ j u e. ⊎_elim
        (λ t. subst (λ (u : Sight). AreNoted o (set kept.goals index x) u.seat.members u.noted) t.1 noted_now)
        (λ t. others_noted j u t.0 t.1)
        (at_set s.views id j (noting v seeing (v.noted ++ x ∷ [])) u e)))

    pub note_told : NoteTold P x v (noting v seeing (v.noted ++ x ∷ []))
    note_told = record {
      held = h;
      before = subst (λ b. Amid (opening_of P b) m h) (sym (about_is P a s id v kept at alone)) (amid_before P a s id v kept at alone);
      after = subst (λ b. Amid (opening_of P b) seeing h) (sym (about_is P a s id v kept at alone))
          (amid_after P a s id v kept at alone seeing (v.noted ++ x ∷ []) h (see_rule (v.noted ++ x ∷ [])));
      view = refl;
    }

  -- ---- a goal is hung

  module _ (cell : ℕ) (within : cell < a.words) (goal : Goal) (upper lower : ℕ) (noted : v.noted ≡ upper ∷ lower ∷ []) (up : UpperIs upper goal)
      (low : LowerIs lower goal)
      (in_range : IsGoalInRange P a.words goal) (left : length m.pass.hung < a.waiters) where
    abbrev g0 : HungGoal
    g0 = goal_of o cell goal m

    abbrev pub hanging : Member
    hanging = hung_as g0 h.journal m

    abbrev hung_held : Held
    hung_held = record h { places = set h.places cell (occupied g0.waiter); journal = h.journal ++ entry m.pass.number (hangs g0) ∷ [] }

    abbrev pub missing_place : Member
    missing_place = not_hung cell (place_at h.places cell) h.journal m

    hang_rule : place_at h.places cell ≡ empty → Rule o (after P a s id v kept at alone hanging []) hung_held
    hang_rule is = hangs_keep o cell goal seats h (after P a s id v kept at alone hanging []) hung_held kept.rule
        (record { m = m; within = within; in_range = in_range; waiter_left = left; steps = inl (is, moved P a s id v kept at alone hanging [], refl) })

    miss_rule : place_at h.places cell ≢ empty → Rule o (after P a s id v kept at alone missing_place []) h
    miss_rule ne = hangs_keep o cell goal seats h (after P a s id v kept at alone missing_place []) h kept.rule
        (record { m = m; within = within; in_range = in_range; waiter_left = left; steps = inr (ne, moved P a s id v kept at alone missing_place [], refl) })

    place_is : get_or s.words (a.words + cell) 0 ≡ place_word (place_at h.places cell)
    place_is = ap (λ l. get_or l (a.words + cell) 0) kept.words
        ∙ place_found h kept.goals a.words (row_long P a s id v kept at alone) (places_long P a s id v kept at alone) cell within

    stands : HasGoal kept.goals g0.waiter goal
    stands =
        let all = subst (λ l. AreNoted o kept.goals l v.noted) alone
        (all_at (λ (v : Sight). AreNoted o kept.goals v.seat.members v.noted) s.views id v kept.noted at) in
        let here = subst (AreNoted o kept.goals (m ∷ [])) noted all in
        (subst (λ n. UpperIs n goal) (sym here.1) up, subst (λ n. LowerIs n goal) (sym here.2) low)

    pub hang_kept : place_at h.places cell ≡ empty → Kept P a (stepped s (a.words + cell) (2 + g0.waiter) id [] (stepped_to v hanging) keeps)
    hang_kept is = goes_plainly P a s id v kept at alone hanging hung_held (set s.words (a.words + cell) (2 + g0.waiter))
        (ap (λ l. set l (a.words + cell) (2 + g0.waiter)) kept.words
        ∙ place_set h kept.goals a.words (row_long P a s id v kept at alone) (places_long P a s id v kept at alone) cell (occupied g0.waiter) within)
        kept.named (hang_rule is)
        (subst (All (λ (g : HungGoal). HasGoal kept.goals g.waiter g.goal)) (sym (flat_map-append made_hung h.journal (entry m.pass.number (hangs g0) ∷ [])))
        (all_push (λ (g : HungGoal). HasGoal kept.goals g.waiter g.goal) (hung_of h.journal) g0 kept.hung stands))

    pub miss_kept : place_at h.places cell ≢ empty
        → Kept P a (stepped s (a.words + cell) (get_or s.words (a.words + cell) 0) id [] (stepped_to v missing_place) keeps)
    miss_kept ne = goes_plainly P a s id v kept at alone missing_place h (set s.words (a.words + cell) (get_or s.words (a.words + cell) 0))
        (set-get_or s.words (a.words + cell) 0 ∙ kept.words) kept.named (miss_rule ne) kept.hung

    abbrev found : ℕ
    found = get_or s.words (a.words + cell) 0

    words_same : opening_of P v.about ≡ o
    words_same = ap (opening_of P) (about_is P a s id v kept at alone)

    pub hang_told : place_at h.places cell ≡ empty → found ≡ 0 → HangTold P cell goal v found (stepped_to v hanging)
    hang_told is none = record {
      held = h;
      found_is = place_is;
      hung = λ e. subst (λ (q : Opening). let g = goal_of q cell goal m in
          Went P v (stepped_to v hanging) h
          (record h { places = set h.places cell (occupied g.waiter); journal = h.journal ++ entry m.pass.number (hangs g) ∷ [] }) (hung_as g h.journal m))
          (sym words_same) (went P a s id v kept at alone hanging hung_held (hang_rule is));
      not_hung = λ ne. absurd (ne none);
    }

    pub miss_told : place_at h.places cell ≢ empty → found ≢ 0 → HangTold P cell goal v found (stepped_to v missing_place)
    miss_told is some_found = record {
      held = h;
      found_is = place_is;
      hung = λ e. absurd (some_found e);
      not_hung = λ ne. went P a s id v kept at alone missing_place h (miss_rule is);
    }

place_empty : (w : Waiting) → place_word w ≡ 0 → w ≡ empty
place_empty empty e = refl
place_empty (occupied waiter) e = absurd (omega arith)
place_empty closed e = absurd (omega arith)

empty_place : (w : Waiting) → w ≡ empty → place_word w ≡ 0
empty_place w e = ap place_word e

-- the words of a goal tell which goal it is
pub one_goal : (g f : Goal) (upper lower : ℕ) → UpperIs upper g → LowerIs lower g → UpperIs upper f → LowerIs lower f → g ≡ f
one_goal g f upper lower u l p q i =
    record { node = (u.0 ∙ sym p.0) i; item = (u.1 ∙ sym p.1) i; clause = record { 0 = (l.0 ∙ sym q.0) i }; base = (l.1 ∙ sym q.1) i }

pair_is : (a b c d : ℕ) → a ∷ b ∷ [] ≡ c ∷ d ∷ [] → (a ≡ c) × (b ≡ d)
pair_is a b c d e = (cc, cc)

pub notes : (P : NamedProgram) (a : About) (slots id waiter word : ℕ) (v : Sight) (c : List (ℕ × Unit {0})) → IsAlone v → c ≡ []
    → length (mine_of v).pass.hung < a.waiters → length v.noted ≤ 1
    → waiter ≡ next_waiter (opening_of P a) (mine_of v)
    → Allows (Kept P a) slots id (v, c) (a.words + (a.words + (2 * waiter + length v.noted))) (λ _. word) (λ _ me. NoteTold P word v me.0 × (me.1 ≡ []))
notes P a slots id waiter word v c alone none left few is =
    subst (λ w. Allows (Kept P a) slots id (v, c) (a.words + (a.words + (2 * w + length v.noted))) (λ _. word) (λ _ me. NoteTold P word v me.0 × (me.1 ≡ [])))
    (sym is)
    (λ s kept homes at small. (
      noting v (seeing P a s id v kept at alone) (v.noted ++ word ∷ []),
      keeps,
      tt,
      note_kept P a s id v kept at alone word left few,
      (note_told P a s id v kept at alone word left few, none),
    ))

pub looks_at_goal : (P : NamedProgram) (a : About) (slots id index : ℕ) (v : Sight) (c : List (ℕ × Unit {0})) → IsAlone v → c ≡ []
    → index < 2 * (a.seats * a.waiters)
    → Allows (Kept P a) slots id (v, c) (a.words + (a.words + index)) (λ n. n)
    (λ n me. ((i : ℕ) → a.words + (a.words + index) ≡ v.about.words + (v.about.words + i) → GoalTold P i v n me.0) × (me.1 ≡ []))
looks_at_goal P a slots id index v c alone none within s kept homes at small =
    let words : v.about.words ≡ a.words = ap (λ (b : About). b.words) (about_is P a s id v kept at alone) in
    let w = stepped_to v (seeing P a s id v kept at alone) in (
      w,
      keeps,
      tt,
      see_kept P a s id v kept at alone index within,
      (
        (λ i e. let same : index ≡ i = omega (arith, words, e) in subst (λ i. GoalTold P i v (get_or s.words (a.words + (a.words + index)) 0) w) same
            (see_told P a s id v kept at alone index within)),
        none,
      ),
    )

pub hangs_waiter : (P : NamedProgram) (a : About) (slots id cell waiter upper lower : ℕ) (goal : Goal) (v : Sight) (c : List (ℕ × Unit {0})) → IsAlone v
    → c ≡ [] → cell < a.words
    → v.noted ≡ upper ∷ lower ∷ [] → UpperIs upper goal → LowerIs lower goal → IsGoalInRange P a.words goal → length (mine_of v).pass.hung < a.waiters
    → waiter ≡ next_waiter (opening_of P a) (mine_of v)
    → Allows (Kept P a) slots id (v, c) (a.words + cell) (λ n. either (eqb n 0) (2 + waiter) n)
    (λ n me. ((d x y : ℕ) (g : Goal) → a.words + cell ≡ v.about.words + d → v.noted ≡ x ∷ y ∷ [] → UpperIs x g → LowerIs y g → HangTold P d g v n me.0)
    × (me.1 ≡ []))
hangs_waiter P a slots id cell waiter upper lower goal v c alone none within noted up low in_range left is s kept homes at small =
    let n = get_or s.words (a.words + cell) 0 in
    let words : v.about.words ≡ a.words = ap (λ (b : About). b.words) (about_is P a s id v kept at alone) in
    let found_is = place_is P a s id v kept at alone cell within goal upper lower noted up low in_range left in
    let all : (w : Sight) → HangTold P cell goal v n w → (d x y : ℕ) (g : Goal) → a.words + cell ≡ v.about.words + d → v.noted ≡ x ∷ y ∷ [] → UpperIs x g
    → LowerIs y g → HangTold P d g v n w =
    (λ w told d x y g e f u l.
    let cell_is : cell ≡ d = omega (arith, words, e) in
    let same = pair_is upper lower x y (sym noted ∙ f) in
    let goal_is : goal ≡ g = one_goal goal g x y (subst (λ k. UpperIs k goal) same.0 up) (subst (λ k. LowerIs k goal) same.1 low) u l in
    subst (λ d. HangTold P d g v n w) cell_is (subst (λ g. HangTold P cell g v n w) goal_is told)) in
    exchanged n 0 (2 + waiter)
    (λ k. (w : Sight) × (b : Act (Unit {0})) × Valid s.homes c b × Kept P a (stepped s (a.words + cell) k id c w b)
    × (((d x y : ℕ) (g : Goal) → a.words + cell ≡ v.about.words + d → v.noted ≡ x ∷ y ∷ [] → UpperIs x g → LowerIs y g → HangTold P d g v n w)
    × (carried_after c b ≡ [])))
    (λ zero_found.
    let free = place_empty (place_at kept.held.places cell) (sym found_is ∙ zero_found) in
    let w = stepped_to v (hanging P a s id v kept at alone cell within goal upper lower noted up low in_range left) in (
      w,
      keeps,
      tt,
      subst (λ k. Kept P a (stepped s (a.words + cell) (2 + k) id c w keeps)) (sym is)
          (hang_kept P a s id v kept at alone cell within goal upper lower noted up low in_range left free),
      (all w (hang_told P a s id v kept at alone cell within goal upper lower noted up low in_range left free zero_found), none),
    ))
    (λ some_found.
    let taken : place_at kept.held.places cell ≢ empty = λ e. some_found (found_is ∙ empty_place (place_at kept.held.places cell) e) in
    let w = stepped_to v (missing_place P a s id v kept at alone cell within goal upper lower noted up low in_range left) in (
      w,
      keeps,
      tt,
      miss_kept P a s id v kept at alone cell within goal upper lower noted up low in_range left taken,
      (all w (miss_told P a s id v kept at alone cell within goal upper lower noted up low in_range left taken some_found), none),
    ))
