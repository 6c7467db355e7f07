-- What holds at the close: `Row`, of the passes of one seat that has all shares.
use Rattle.std.proofs.Common.{ℕ, ◌+◌, ◌≡◌, ◌≢◌, inl, inr, Bool, true, false, cond, not, List, [], ◌∷◌, ◌++◌, map, length, Option, None, Some, option_to_list}
use Rattle.std.proofs.Common.{refl, sym, ap, subst, ◌∙◌, arith, append-nil, All, Contains}
use Rattle.std.specs.Prelude.{flat_map, filter, sum_by, nat_eq}
use Rattle.std.proofs.lemmas.List.Elements.{All-contains, All-map, All-filter, All-contains_itself, Contains-append_left, Contains-append_right}
use Rattle.std.proofs.lemmas.List.Concat.{flat_map-append}
use Rattle.std.proofs.lemmas.List.Kept.{AllPairs-cons}
use Rattle.std.proofs.lemmas.List.Sums.{sum_by-append, sum_by-cons}
use Rattle.and_model.specs.Store.{Setting, HungGoal, JournalEntry, occupied, closed, Took, Pass, Fits, HasClosed, AreDistinct, settings_of, hung_of, set_in}
use Rattle.and_model.specs.Store.{all_hung, all_took, mark, Asked, is_half}
use Rattle.and_cells.specs.Ranges.{CanHold}
use Rattle.and_store_laws.specs.AtWork.{Opening, Member, Seat, Held, Works, AtWork, AreSeated, Rule, IsPlaced, WasHung, IsAtRest, AtClose, number_of, pass_of}
use Rattle.and_store_laws.specs.AtWork.{place_at, all_members, to_close}
use Rattle.and_laws.proofs.Pairwise.{all_none, all_pairs_none, all_first, all_rest, all_pairs_first, all_pairs_rest}
use Rattle.and_store_laws.proofs.Lists.{contains_cases, contains_none, contains_others, all_of, map_append, contains_map, map_contains, contains_flat}
use Rattle.and_store_laws.proofs.Lists.{flat_contains, distinct_flat, distinct_back, same_by}
use Rattle.and_store_laws.proofs.Journal.{made_settings, made_hung, made_in, made_by, one_maker, own_distinct}
use Rattle.and_store_laws.proofs.Going.{took_later}
use Rattle.and_store_laws.proofs.Hanging.{closing_apart}

-- ---- maps and flat maps

map_map : {X Y Z : Type 0} (f : Y → Z) (g : X → Y) (xs : List X) → map f (map g xs) ≡ map (λ x. f (g x)) xs
map_map f g [] = refl
map_map f g (x ∷ xs) = ap (λ l. f (g x) ∷ l) (map_map f g xs)

sum_map : {X Y : Type 0} (f : Y → ℕ) (g : X → Y) (xs : List X) → sum_by f (map g xs) ≡ sum_by (λ x. f (g x)) xs
sum_map f g [] = refl
sum_map f g (x ∷ xs) = sum_by-cons f (g x) (map g xs) ∙ ap (λ n. f (g x) + n) (sum_map f g xs) ∙ sym (sum_by-cons (λ x. f (g x)) x xs)

flat_of_map : {X Y Z : Type 0} (f : Y → List Z) (g : X → Y) (xs : List X) → flat_map f (map g xs) ≡ flat_map (λ x. f (g x)) xs
flat_of_map f g [] = refl
flat_of_map f g (x ∷ xs) = ap (λ l. f (g x) ++ l) (flat_of_map f g xs)

map_of_flat : {X Y Z : Type 0} (f : Y → Z) (g : X → List Y) (xs : List X) → map f (flat_map g xs) ≡ flat_map (λ x. map f (g x)) xs
map_of_flat f g [] = refl
map_of_flat f g (x ∷ xs) = map_append f (g x) (flat_map g xs) ∙ ap (λ l. map f (g x) ++ l) (map_of_flat f g xs)

flat_of_flat : {X Y Z : Type 0} (f : Y → List Z) (g : X → List Y) (xs : List X) → flat_map f (flat_map g xs) ≡ flat_map (λ x. flat_map f (g x)) xs
flat_of_flat f g [] = refl
flat_of_flat f g (x ∷ xs) = flat_map-append f (g x) (flat_map g xs) ∙ ap (λ l. flat_map f (g x) ++ l) (flat_of_flat f g xs)

filtered : {X : Type 0} (p : X → Bool) (xs : List X) (x : X) → Contains (filter p xs) x → Contains xs x
filtered p xs x h = All-contains (Contains xs) (filter p xs) x (All-filter p (Contains xs) xs (All-contains_itself xs)) h

pub distinct_filter : {X : Type 0} (f : X → ℕ) (p : X → Bool) (xs : List X) → AreDistinct (map f xs) → AreDistinct (map f (filter p xs))
distinct_filter f p [] d = d
distinct_filter f p (x ∷ xs) d =
    let rest = distinct_filter f p xs (all_pairs_rest (λ a b. a ≢ b) (f x) (map f xs) d) in
    elim (p x) as (λ b. AreDistinct (map f (cond b (x ∷ filter p xs) (filter p xs)))) [
      | true ↦ AllPairs-cons (λ a b. a ≢ b) (f x) (map f (filter p xs))
          (all_of (λ b. f x ≢ b) (map f (filter p xs)) (λ k c. let r = map_contains f k (filter p xs) c in
          subst (λ k. f x ≢ k) r.2
          (All-contains (λ b. f x ≢ b) (map f xs) (f r.0) (all_pairs_first (λ a b. a ≢ b) (f x) (map f xs) d)
          (contains_map f r.0 xs (filtered p xs r.0 r.1))))) rest
      | false ↦ rest
    ]

pub distinct_option : (r : Option ℕ) → AreDistinct (option_to_list r)
distinct_option None = all_pairs_none (λ (a b : ℕ). a ≢ b)
distinct_option (Some x) = AllPairs-cons (λ a b. a ≢ b) x [] (all_none (λ b. x ≢ b)) (all_pairs_none (λ (a b : ℕ). a ≢ b))

pub in_option : (r : Option ℕ) (x : ℕ) → Contains (option_to_list r) x → r ≡ Some x
in_option None x h = absurd (contains_none x h)
in_option (Some y) x h = elim (contains_cases y x [] h) [ inl e ↦ ap Some (sym e) | inr k ↦ absurd (contains_none x k) ]

-- ---- all passes are at rest

module _ (o : Opening) (members : List Member) (h : Held) (a : AtWork o members h) (rest : IsAtRest members) where
  abbrev passes : List Pass
  passes = map pass_of members

  works : (m : Member) → Contains members m → Works o h m
  works m c = All-contains (Works o h) members m a.each c

  pass_is : (p : Pass) → Contains passes p → (m : Member) × Contains members m × (m.pass ≡ p)
  pass_is p c = map_contains pass_of p members c

  -- what a pass took is what it had to close
  took_is : (m : Member) → Contains members m → map (λ (t : Took). t.cell) m.pass.took ≡ to_close m.pass.mine
  took_is m c =
      let none = All-contains (λ (m : Member). m.pending ≡ None) members m rest c in
      sym (append-nil (map (λ (t : Took). t.cell) m.pass.took)) ∙ ap (λ p. map (λ (t : Took). t.cell) m.pass.took ++ option_to_list p) (sym none)
      ∙ (works m c).has_closed

  took_closes : (m : Member) (t : Took) → Contains members m → Contains m.pass.took t → Contains (to_close m.pass.mine) t.cell
  took_closes m t c i = subst (λ l. Contains l t.cell) (took_is m c) (contains_map (λ (t : Took). t.cell) t m.pass.took i)

  settings_once : AreDistinct (map (λ (s : Setting). s.place) (settings_of h.journal))
  settings_once = distinct_back (map (λ (s : Setting). s.place) (set_in o.first)) (map (λ (s : Setting). s.place) (settings_of h.journal))
      (subst AreDistinct (map_append (λ (s : Setting). s.place) (set_in o.first) (settings_of h.journal)) a.holds.set_once)

  cells_once : (m : Member) → Contains members m → AreDistinct (map (λ (t : Took). t.cell) m.pass.took)
  cells_once m c = subst AreDistinct (sym (took_is m c)) (distinct_filter (λ (s : Setting). s.place) (λ (s : Setting). not (is_half s.value)) m.pass.mine
      (subst (λ l. AreDistinct (map (λ (s : Setting). s.place) l)) (sym (works m c).fits.settings)
      (own_distinct made_settings (λ (s : Setting). s.place) m.pass.number h.journal settings_once)))

  -- two passes that took the same cell are one
  same_taker : (m n : Member) (t s : Took) → Contains members m → Contains members n → Contains m.pass.took t → Contains n.pass.took s → t.cell ≡ s.cell → m ≡ n
  same_taker m n t s c d i j e =
      same_by number_of members m n a.numbered c d
      (closing_apart o h n m s.cell a.holds (works n d) (works m c) (took_closes n s d j) (subst (Contains (to_close m.pass.mine)) e (took_closes m t c i)))

  same_took : (m n : Member) (t s : Took) → Contains members m → Contains members n → Contains m.pass.took t → Contains n.pass.took s → t.cell ≡ s.cell → t ≡ s
  same_took m n t s c d i j e =
      same_by (λ (t : Took). t.cell) m.pass.took t s (cells_once m c) i
      (subst (λ (n : Member). Contains n.pass.took s) (sym (same_taker m n t s c d i j e)) j) e

  -- and so are two that took the same waiter
  took_was_hung : (m : Member) (t : Took) (waiter : ℕ) → Contains members m → Contains m.pass.took t → t.waiter ≡ Some waiter → WasHung h.journal waiter t.cell
  took_was_hung m t waiter c i e = All-contains (λ (t : Took). (waiter : ℕ) → t.waiter ≡ Some waiter
      → WasHung h.journal waiter t.cell) m.pass.took t (took_later o h h [] (sym (append-nil h.journal)) m (works m c)) i waiter e

  same_waiter : (m n : Member) (t s : Took) (waiter : ℕ) → Contains members m → Contains members n → Contains m.pass.took t → Contains n.pass.took s
      → t.waiter ≡ Some waiter → s.waiter ≡ Some waiter → t.cell ≡ s.cell
  same_waiter m n t s waiter c d i j p q =
      let x = took_was_hung m t waiter c i p in
      let y = took_was_hung n s waiter d j q in
      let same = same_by (λ (g : HungGoal). g.waiter) (hung_of h.journal) x.0 y.0 a.holds.hung_once x.1 y.1 (x.2 ∙ sym y.2) in
      sym x.3 ∙ ap (λ (g : HungGoal). g.cell) same ∙ y.3

  hung_is : all_hung passes ≡ flat_map (λ (m : Member). m.pass.hung) members
  hung_is = flat_of_map (λ (p : Pass). p.hung) pass_of members

  all_took_is : all_took passes ≡ flat_map (λ (m : Member). m.pass.took) members
  all_took_is = flat_of_map (λ (p : Pass). p.took) pass_of members

  -- a pass's goal is in the journal
  hung_by : (m : Member) (g : HungGoal) → Contains members m → Contains m.pass.hung g
      → (e : JournalEntry) × Contains h.journal e × (e.pass ≡ m.pass.number) × Contains (made_hung e) g
  hung_by m g c i = made_in made_hung m.pass.number h.journal g (subst (λ l. Contains l g) (works m c).fits.hung i)

  -- and a goal of the journal is some pass's
  hung_in : (g : HungGoal) → Contains (hung_of h.journal) g → Contains (all_hung passes) g
  hung_in g c =
      let e = flat_contains made_hung g h.journal c in
      let r = map_contains number_of e.0.pass members
      (All-contains (λ (e : JournalEntry). Contains (map number_of members) e.pass) h.journal e.0 a.by_a_pass e.1) in
      let mine : Contains r.0.pass.hung g = subst (λ l. Contains l g) (ap (λ n. hung_of (filter (λ (d : JournalEntry). nat_eq d.pass n) h.journal)) (sym r.2)
      ∙ sym (works r.0 r.1).fits.hung) (made_by made_hung h.journal e.0 g e.1 e.2) in
      subst (λ l. Contains l g) (sym hung_is) (contains_flat (λ (m : Member). m.pass.hung) r.0 g members r.1 mine)

  hung_once : AreDistinct (map (λ (g : HungGoal). g.waiter) (all_hung passes))
  hung_once = subst AreDistinct
      (sym (ap (map (λ (g : HungGoal). g.waiter)) hung_is ∙ map_of_flat (λ (g : HungGoal). g.waiter) (λ (m : Member). m.pass.hung) members))
      (distinct_flat number_of (λ (m : Member). map (λ (g : HungGoal). g.waiter) m.pass.hung) members a.numbered
      (all_of (λ (m : Member). AreDistinct (map (λ (g : HungGoal). g.waiter) m.pass.hung)) members
      (λ m c. subst (λ l. AreDistinct (map (λ (g : HungGoal). g.waiter) l)) (sym (works m c).fits.hung)
      (own_distinct made_hung (λ (g : HungGoal). g.waiter) m.pass.number h.journal a.holds.hung_once)))
      (λ m n k c d i j.
      let x = map_contains (λ (g : HungGoal). g.waiter) k m.pass.hung i in
      let y = map_contains (λ (g : HungGoal). g.waiter) k n.pass.hung j in
      let p = hung_by m x.0 c x.1 in
      let q = hung_by n y.0 d y.1 in
      let same = one_maker made_hung (λ (g : HungGoal). g.waiter) h.journal a.holds.hung_once p.0 q.0 x.0 y.0 p.1 q.1 p.3 q.3 (x.2 ∙ sym y.2) in
      sym p.2 ∙ ap (λ (e : JournalEntry). e.pass) same ∙ q.2))

  taken_once : AreDistinct (flat_map (λ (t : Took). option_to_list t.waiter) (all_took passes))
  taken_once = subst AreDistinct
      (sym (ap (flat_map (λ (t : Took). option_to_list t.waiter)) all_took_is
      ∙ flat_of_flat (λ (t : Took). option_to_list t.waiter) (λ (m : Member). m.pass.took) members))
      (distinct_flat number_of (λ (m : Member). flat_map (λ (t : Took). option_to_list t.waiter) m.pass.took) members a.numbered
      (all_of (λ (m : Member). AreDistinct (flat_map (λ (t : Took). option_to_list t.waiter) m.pass.took)) members
      (λ m c. distinct_flat (λ (t : Took). t.cell) (λ (t : Took). option_to_list t.waiter) m.pass.took (cells_once m c)
      (all_of (λ (t : Took). AreDistinct (option_to_list t.waiter)) m.pass.took (λ t i. distinct_option t.waiter))
      (λ t s k i j p q. same_waiter m m t s k c c i j (in_option t.waiter k p) (in_option s.waiter k q))))
      (λ m n k c d i j.
      let x = flat_contains (λ (t : Took). option_to_list t.waiter) k m.pass.took i in
      let y = flat_contains (λ (t : Took). option_to_list t.waiter) k n.pass.took j in
      let cell = same_waiter m n x.0 y.0 k c d x.1 y.1 (in_option x.0.waiter k x.2) (in_option y.0.waiter k y.2) in
      ap number_of (same_taker m n x.0 y.0 c d x.1 y.1 cell)))

  pub closes : AtClose o members h
  closes =
      let numbers : map (λ (p : Pass). p.number) passes ≡ map number_of members = map_map (λ (p : Pass). p.number) pass_of members in
      let is_mark : mark o.first passes ≡ h.mark =
      ap (λ n. length o.first + n) (sum_map (λ (p : Pass). sum_by (λ (a : Asked). a.weight) p.asked) pass_of members) ∙ sym a.mark in record {
        set_words = a.holds.set_words;
        set_once = a.holds.set_once;
        passes_fit = All-map (Fits o.first (mark o.first passes) h.journal) pass_of members
            (all_of (λ (m : Member). Fits o.first (mark o.first passes) h.journal m.pass) members
            (λ m c. subst (λ n. Fits o.first n h.journal m.pass) (sym is_mark) (works m c).fits));
        closed = All-map HasClosed pass_of members (all_of (λ (m : Member). HasClosed m.pass) members took_is);
        by_a_pass = subst (λ l. All (λ (e : JournalEntry). Contains l e.pass) h.journal) (sym numbers) a.by_a_pass;
        numbered = subst AreDistinct (sym numbers) a.numbered;
        falls = λ s c cell e. subst (CanHold o.program o.words s.place) e (a.holds.fits s c);
        written_first = a.holds.written_first;
        written = a.holds.written;
        frames = a.holds.frames;
        hung_once = hung_once;
        taken_once = taken_once;
        taken_was_hung = λ t c waiter e.
            let r = flat_contains (λ (m : Member). m.pass.took) t members (subst (λ l. Contains l t) all_took_is c) in
            let g = took_was_hung r.0 t waiter r.1 r.2 e in
            (g.0, hung_in g.0 g.1, g.2, g.3);
        hung_is_taken = λ g t c d e.
            let m = flat_contains (λ (m : Member). m.pass.hung) g members (subst (λ l. Contains l g) hung_is c) in
            let n = flat_contains (λ (m : Member). m.pass.took) t members (subst (λ l. Contains l t) all_took_is d) in
            let made = hung_by m.0 g m.1 m.2 in
            let there : Contains (hung_of h.journal) g = contains_flat made_hung made.0 g h.journal made.1 made.3 in
            let is_closed : place_at h.places g.cell ≡ closed = ap (place_at h.places) (sym e)
            ∙ All-contains (λ (t : Took). place_at h.places t.cell ≡ closed) n.0.pass.took t (works n.0 n.1).took_closed n.2 in
            elim (All-contains (IsPlaced h.places members) (hung_of h.journal) g a.placed there) [
              | inl x ↦ (let clash : occupied g.waiter ≡ closed = sym x ∙ is_closed in absurd (cc))
              | inr x ↦ ap (λ (t : Took). t.waiter) (same_took n.0 x.1 t (record { cell = g.cell; waiter = Some g.waiter }) n.1 x.2 n.2 x.3 e)
            ];
      }

-- ---- one seat has all shares

alone : (seats : List Seat) → All (λ (v : Seat). v.shares ≡ 0 → v.members ≡ []) seats → sum_by (λ (v : Seat). v.shares) seats ≡ 0 → all_members seats ≡ []
alone [] h z = refl
alone (v ∷ seats) h z =
    let s = sum_by-cons (λ (v : Seat). v.shares) v seats in
    ap (λ l. l ++ all_members seats) (all_first (λ (v : Seat). v.shares ≡ 0 → v.members ≡ []) v seats h (omega arith))
    ∙ alone seats (all_rest (λ (v : Seat). v.shares ≡ 0 → v.members ≡ []) v seats h) (omega arith)

-- then its passes are all passes
pub all_of_them : (o : Opening) (front back : List Seat) (v : Seat) → AreSeated o (front ++ v ∷ back) → v.shares ≡ o.shares
    → all_members (front ++ v ∷ back) ≡ v.members
all_of_them o front back v s all =
    let a = sum_by-append (λ (v : Seat). v.shares) front (v ∷ back) in
    let b = sum_by-cons (λ (v : Seat). v.shares) v back in
    let c = s.shares in
    let ended : (part : List Seat) → ((u : Seat) → Contains part u → Contains (front ++ back) u) → sum_by (λ (v : Seat). v.shares) part ≡ 0
    → all_members part ≡ [] = λ part within z.
    alone part (all_of (λ (v : Seat). v.shares ≡ 0 → v.members ≡ []) part
    (λ u i. All-contains (λ (v : Seat). v.shares ≡ 0 → v.members ≡ []) (front ++ v ∷ back) u s.spent (contains_others front back v u (within u i)))) z in
    let before : all_members front ≡ [] = ended front (λ u i. Contains-append_left front back u i) (omega arith) in
    let after : all_members back ≡ [] = ended back (λ u i. Contains-append_right front back u i) (omega arith) in
    flat_map-append (λ (v : Seat). v.members) front (v ∷ back) ∙ ap (λ l. l ++ (v.members ++ all_members back)) before ∙ ap (λ l. v.members ++ l) after
    ∙ append-nil v.members

pub close_keeps : (o : Opening) (front back : List Seat) (v : Seat) (h : Held) → Rule o (front ++ v ∷ back) h → v.shares ≡ o.shares → IsAtRest v.members
    → AtClose o v.members h
close_keeps o front back v h r all rest = closes o v.members h (subst (λ l. AtWork o l h) (all_of_them o front back v r.seated all) r.at_work) rest
