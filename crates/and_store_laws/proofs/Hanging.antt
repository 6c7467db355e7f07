-- A goal is hung, and a place is taken.
use Rattle.std.proofs.Common.{ℕ, ◌+◌, ◌*◌, ◌<◌, ◌≤◌, ◌≡◌, ◌≢◌, ◌⊎◌, inl, inr, Bool, true, not, List, [], ◌∷◌, ◌++◌, map, length, set, Option, None, Some}
use Rattle.std.proofs.Common.{IfSome, option_to_list, refl, sym, ap, subst, ◌∙◌, arith, append-nil, All, Contains, length-append}
use Rattle.std.specs.Prelude.{filter, nat_eq}
use Rattle.std.proofs.lemmas.Bool.{cases_eq, cases_lt}
use Rattle.std.proofs.lemmas.Nat.{row_fits}
use Rattle.std.proofs.Math.ListN.{length-set}
use Rattle.std.proofs.lemmas.List.Elements.{All-contains, All-weaker, All-filter, All-contains_itself, Contains-append_left, Contains-append_right}
use Rattle.std.proofs.lemmas.List.Elements.{Contains-push}
use Rattle.std.proofs.lemmas.List.Concat.{flat_map-append}
use Rattle.and_model.specs.Store.{Setting, HungGoal, Made, sets, gives, fails, hangs, JournalEntry, Waiting, empty, occupied, closed, Took, Found}
use Rattle.and_model.specs.Store.{AreDistinct, SideBySide, settings_of, frames_of, hung_of, set_in, is_half}
use Rattle.and_model.specs.declared.goal.Goal.{Goal}
use Rattle.and_cells.specs.Ranges.{IsGoalInRange}
use Rattle.and_model.specs.declared.reference.Ref.TheVariants.{Free}
use Rattle.and_store_laws.specs.AtWork.{Opening, Member, Seat, Held, Works, Holds, AtWork, Rule, IsPlaced, WasHung, IsOwnWaiter, place_at, word_at, to_close}
use Rattle.and_store_laws.specs.AtWork.{frames_end}
use Rattle.and_store_laws.specs.Steps.{entry, next_waiter, goal_of, hung_as, not_hung, Hangs, waiter_in, taken, TakesPlace}
use Rattle.and_laws.proofs.Pairwise.{all_none}
use Rattle.and_store_laws.proofs.Lists.{contains_none, contains_cases, all_push, map_contains, contains_flat, flat_contains, map_append, distinct_push}
use Rattle.and_store_laws.proofs.Lists.{distinct_back}
use Rattle.and_store_laws.proofs.Journal.{made_settings, made_hung, made_in, made_by, one_maker, AreBy}
use Rattle.and_store_laws.proofs.Going.{known_later, fits_own, placed_on, goes_on, was_hung_later, took_later, ordered_later, made_frames, made_fails}
use Rattle.and_store_laws.proofs.Words.{set_in_is, word_within}
use Rattle.and_store_laws.proofs.Seats.{rule_on}
use Rattle.and_store_laws.proofs.Quiet.{works_there, knew, fits_quiet, only_sees}
use Rattle.and_store_laws.proofs.Setting.{nothing_more}
use Rattle.and_store_laws.proofs.More.{holds_more, place_set, place_other, if_some_map}

-- ---- waiters

-- blocks of numbers, as many in each
pub same_block : (a b size x : ℕ) → a * size ≤ x → x < a * size + size → b * size ≤ x → x < b * size + size → a ≡ b
same_block a b size x p q r s = elim (cases_eq a b) [
  | inl e ↦ e
  | inr ne ↦ elim (cases_lt a b) [
    | inl l ↦ (let f = row_fits a size b size l (omega arith) in absurd (omega arith))
    | inr g ↦ (let f = row_fits b size a size (omega arith) (omega arith) in absurd (omega arith))
  ]
]

pub made_hang : (made : Made) (pass : ℕ) (g : HungGoal) → Contains (made_hung (entry pass made)) g → made ≡ hangs g
made_hang (sets s) pass g h = absurd (contains_none g h)
made_hang (gives f) pass g h = absurd (contains_none g h)
made_hang fails pass g h = absurd (contains_none g h)
made_hang (hangs f) pass g h = elim (contains_cases f g [] h) [ inl e ↦ ap hangs (sym e) | inr k ↦ absurd (contains_none g k) ]

-- the next waiter of a pass was not hung before
pub is_fresh : (o : Opening) (h : Held) (m : Member) → Holds o h → Works o h m → length m.pass.hung < o.waiters
    → Contains (map (λ (g : HungGoal). g.waiter) (hung_of h.journal)) (next_waiter o m) → ⊥
is_fresh o h m holds w left c =
    let r = map_contains (λ (g : HungGoal). g.waiter) (next_waiter o m) (hung_of h.journal) c in
    let e = flat_contains made_hung r.0 h.journal r.1 in
    let own = All-contains (IsOwnWaiter o.waiters) h.journal e.0 holds.own_waiters e.1 r.0 (made_hang e.0.made e.0.pass r.0 e.2) in
    let is : r.0.waiter ≡ m.pass.number * o.waiters + length m.pass.hung = r.2 in
    let low = own.0 in
    let high = own.1 in
    let same : e.0.pass ≡ m.pass.number = same_block e.0.pass m.pass.number o.waiters r.0.waiter own.0 own.1 (omega arith) (omega arith) in
    let mine : Contains m.pass.hung r.0 = subst (λ l. Contains l r.0) (ap (λ n. hung_of (filter (λ (d : JournalEntry). nat_eq d.pass n) h.journal)) same
    ∙ sym w.fits.hung) (made_by made_hung h.journal e.0 r.0 e.1 e.2) in
    let below = All-contains (λ (g : HungGoal). g.waiter < m.pass.number * o.waiters + length m.pass.hung) m.pass.hung r.0 w.waiters mine in
    absurd (omega arith)

-- ---- a goal is hung

pub hangs_on : (o : Opening) (front back : List Member) (m : Member) (h : Held) (cell : ℕ) (goal : Goal) → cell < o.words
    → IsGoalInRange o.program o.words goal → length m.pass.hung < o.waiters → place_at h.places cell ≡ empty
    → AtWork o (front ++ m ∷ back) h → AtWork o (front ++ hung_as (goal_of o cell goal m) h.journal m ∷ back)
    (record h { places = set h.places cell (occupied (next_waiter o m)); journal = h.journal ++ entry m.pass.number (hangs (goal_of o cell goal m)) ∷ [] })
hangs_on o front back m h cell goal within in_range left is_empty a =
    let w = works_there o front back m h a in
    let g0 = goal_of o cell goal m in
    let n = hung_as g0 h.journal m in
    let e = entry m.pass.number (hangs g0) in
    let new : List JournalEntry = e ∷ [] in
    let by : AreBy m.pass.number new =
    all_push (λ (e : JournalEntry). e.pass ≡ m.pass.number) [] e (all_none (λ (e : JournalEntry). e.pass ≡ m.pass.number)) refl in
    let after = set h.places cell (occupied (next_waiter o m)) in
    let k : Held = record h { places = after; journal = h.journal ++ new } in
    let here : place_at after cell ≡ occupied (next_waiter o m) = let x =
    a.holds.places in place_set h.places cell (occupied (next_waiter o m)) (omega arith) in
    let there : (c : ℕ) → c ≢ cell → place_at after c ≡ place_at h.places c = λ c ne. place_other h.places cell c (occupied (next_waiter o m)) ne in
    let no_frames : frames_of k.journal ≡ frames_of h.journal = nothing_more made_frames h.journal new refl in
    let hung_are : hung_of k.journal ≡ hung_of h.journal ++ g0 ∷ [] = flat_map-append made_hung h.journal new in
    let stays : (c : ℕ) → place_at h.places c ≡ closed → place_at after c ≡ closed =
    λ c x. there c (λ same. let y : empty ≡ closed = sym is_empty ∙ ap (place_at h.places) (sym same) ∙ x in absurd (cc)) ∙ x in
    let still_open : (c : ℕ) → place_at h.places c ≢ closed → place_at after c ≢ closed = λ c x y. elim (cases_eq c cell) [
      | inl same ↦ (let z : occupied (next_waiter o m) ≡ closed = sym here ∙ ap (place_at after) (sym same) ∙ y in absurd (cc))
      | inr ne ↦ x (sym (there c ne) ∙ y)
    ] in
    goes_on o front back m n h k new a refl refl by refl (omega arith) refl (inr (omega arith)) stays (λ c x. x)
    (λ u c ne x. if_some_map (λ c. place_at h.places c ≢ closed) (λ c. place_at after c ≢ closed) still_open u.pending x.pending_open)
    (holds_more o h after h.mark h.is_failed e a.holds (λ s x. absurd (cc)) refl (length-set h.places cell (occupied (next_waiter o m)) ∙ a.holds.places)
    (subst (SideBySide (length o.first)) (sym no_frames) a.holds.frames)
    (subst (λ l. (frames_end (length o.first) l ≡ h.mark) ⊎ (o.words < h.mark)) (sym no_frames) a.holds.ends)
    (subst (λ (l : List (Unit {0})). (h.is_failed ≡ true → l ≢ []) × (l ≢ [] → h.is_failed ≡ true))
    (sym (nothing_more made_fails h.journal new refl)) a.holds.failed)
    (λ p x. still_open p (a.holds.open_where_free p x))
    (λ c waiter x. elim (cases_eq c cell) [
      | inl same ↦ (let y : occupied (next_waiter o m) ≡ occupied waiter = sym here ∙ ap (place_at after) (sym same) ∙ x in
          (g0, subst (λ l. Contains l g0) (sym hung_are) (Contains-push (hung_of h.journal) g0), cc, sym same))
      | inr ne ↦ was_hung_later o h k new refl waiter c (a.holds.occupied_hung c waiter (sym (there c ne) ∙ x))
    ])
    (subst (λ l. AreDistinct (map (λ (g : HungGoal). g.waiter) l)) (sym hung_are)
    (subst AreDistinct (sym (map_append (λ (g : HungGoal). g.waiter) (hung_of h.journal) (g0 ∷ [])))
    (distinct_push (map (λ (g : HungGoal). g.waiter) (hung_of h.journal)) (next_waiter o m) a.holds.hung_once (is_fresh o h m a.holds w left))))
    (λ g x. let same : g0 ≡ g = cc in subst (λ (g : HungGoal). (m.pass.number * o.waiters ≤ g.waiter) × (g.waiter < m.pass.number * o.waiters + o.waiters))
    same (omega arith, omega arith))
    (subst (All (λ (g : HungGoal). IsGoalInRange o.program o.words g.goal)) (sym hung_are)
    (all_push (λ (g : HungGoal). IsGoalInRange o.program o.words g.goal) (hung_of h.journal) g0 a.holds.goals in_range)))
    (record {
      fits = fits_own o.first h.mark h.mark h.journal new m.pass n.pass by w.fits refl refl (sym (append-nil m.pass.mine)) (sym (append-nil m.pass.frames))
          (sym (append-nil m.pass.fails)) refl
          (known_later o.first h.mark h.mark h.journal new m.pass w.fits) w.fits.own w.fits.known_once w.fits.asked;
      has_closed = w.has_closed;
      took_closed = All-weaker (λ (t : Took). place_at h.places t.cell ≡ closed) (λ (t : Took). place_at after t.cell ≡ closed) (λ t. stays t.cell)
          m.pass.took w.took_closed;
      pending_open = if_some_map (λ c. place_at h.places c ≢ closed) (λ c. place_at after c ≢ closed) still_open m.pending w.pending_open;
      took_hung = took_later o h k new refl m w;
      own_seen = refl;
      ordered = ordered_later o h k new refl m w;
      found_closed = w.found_closed;
      waiters = let long = length-append m.pass.hung (g0 ∷ []) in all_push
          (λ (g : HungGoal). g.waiter < m.pass.number * o.waiters + length (m.pass.hung ++ g0 ∷ [])) m.pass.hung g0
          (All-weaker (λ (g : HungGoal). g.waiter < m.pass.number * o.waiters + length m.pass.hung)
          (λ (g : HungGoal). g.waiter < m.pass.number * o.waiters + length (m.pass.hung ++ g0 ∷ [])) (λ g x. omega arith) m.pass.hung w.waiters)
          (omega arith);
      waiters_left = let long = length-append m.pass.hung (g0 ∷ []) in omega arith;
      over_once = w.over_once;
    })
    (subst (All (IsPlaced after (front ++ n ∷ back))) (sym hung_are)
    (all_push (IsPlaced after (front ++ n ∷ back)) (hung_of h.journal) g0
    (All-weaker (IsPlaced h.places (front ++ m ∷ back)) (IsPlaced after (front ++ n ∷ back))
    (λ g. placed_on front back m n h.places after g
    (λ x. inl (there g.cell (λ same. let y : empty ≡ occupied g.waiter = sym is_empty ∙ ap (place_at h.places) (sym same) ∙ x in absurd (cc)) ∙ x))
    (stays g.cell) (λ t c. c)) (hung_of h.journal) a.placed)
    (inl here)))

pub hangs_keep : (o : Opening) (cell : ℕ) (goal : Goal) (before : List Seat) (h : Held) (after : List Seat) (k : Held) → Rule o before h
    → Hangs o cell goal before h after k → Rule o after k
hangs_keep o cell goal before h after k r s = elim s.steps [
  | inl x ↦ subst (Rule o after) (sym x.2) (rule_on o before after s.m (hung_as (goal_of o cell goal s.m) h.journal s.m) x.1 refl h
      (record h {
        places = set h.places cell (occupied (next_waiter o s.m));
        journal = h.journal ++ entry s.m.pass.number (hangs (goal_of o cell goal s.m)) ∷ [];
      }) r
      (λ front back a. hangs_on o front back s.m h cell goal s.within s.in_range s.waiter_left x.0 a))
  | inr x ↦ subst (Rule o after) (sym x.2) (rule_on o before after s.m (not_hung cell (place_at h.places cell) h.journal s.m) x.1 refl h h r
      (λ front back a. only_sees o front back s.m (not_hung cell (place_at h.places cell) h.journal s.m) h a refl refl refl refl refl refl refl refl refl refl
      (all_push (λ (f : Found). f.place ≡ closed → word_at h.row f.cell ≢ Free) s.m.pass.found (record { cell = cell; place = place_at h.places cell })
      (works_there o front back s.m h a).found_closed
      (λ e free. a.holds.open_where_free cell free e))))
]

-- ---- a place is taken

-- what a pass has to close, it set
pub set_by : (o : Opening) (h : Held) (m : Member) (cell : ℕ) → Works o h m → Contains (to_close m.pass.mine) cell
    → (e : JournalEntry) × (s : Setting) × Contains h.journal e × (e.pass ≡ m.pass.number) × Contains (made_settings e) s × (s.place ≡ cell)
set_by o h m cell w c =
    let r = map_contains (λ (s : Setting). s.place) cell (filter (λ (s : Setting). not (is_half s.value)) m.pass.mine) c in
    let mine = filtered (λ (s : Setting). not (is_half s.value)) m.pass.mine r.0 r.1 in
    let e = made_in made_settings m.pass.number h.journal r.0 (subst (λ l. Contains l r.0) w.fits.settings mine) in
    (e.0, r.0, e.1, e.2, e.3, r.2)
  where
    filtered : {X : Type 0} (p : X → Bool) (xs : List X) (x : X) → Contains (filter p xs) x → Contains xs x
    filtered p xs x h = All-contains (Contains xs) (filter p xs) x (All-filter p (Contains xs) xs (All-contains_itself xs)) h

-- and no other pass did
pub closing_apart : (o : Opening) (h : Held) (m u : Member) (cell : ℕ) → Holds o h → Works o h m → Works o h u → Contains (to_close m.pass.mine) cell
    → Contains (to_close u.pass.mine) cell → u.pass.number ≡ m.pass.number
closing_apart o h m u cell holds w v c d =
    let x = set_by o h m cell w c in
    let y = set_by o h u cell v d in
    let once : AreDistinct (map (λ (s : Setting). s.place) (settings_of h.journal)) =
    distinct_back (map (λ (s : Setting). s.place) (set_in o.first)) (map (λ (s : Setting). s.place) (settings_of h.journal))
    (subst AreDistinct (map_append (λ (s : Setting). s.place) (set_in o.first) (settings_of h.journal)) holds.set_once) in
    let same = one_maker made_settings (λ (s : Setting). s.place) h.journal once x.0 y.0 x.1 y.1 x.2 y.2 x.4 y.4 (x.5 ∙ sym y.5) in
    sym y.3 ∙ ap (λ (e : JournalEntry). e.pass) (sym same) ∙ x.3

-- the word of a cell that is to be closed is set
pub closing_set : (o : Opening) (h : Held) (m : Member) (cell : ℕ) → Holds o h → Works o h m → Contains (to_close m.pass.mine) cell → word_at h.row cell ≢ Free
closing_set o h m cell holds w c e =
    let x = set_by o h m cell w c in
    let there : Contains (set_in o.first ++ settings_of h.journal) x.1 =
    Contains-append_right (set_in o.first) (settings_of h.journal) x.1 (contains_flat made_settings x.0 x.1 h.journal x.2 x.4) in
    let is = set_in_is h.row x.1 ((holds.set_words x.1).1 there) in
    is.1 (sym is.0 ∙ ap (word_at h.row) x.5 ∙ e)

pub pending_closes : (m : Member) (o : Opening) (h : Held) (cell : ℕ) → Works o h m → m.pending ≡ Some cell → Contains (to_close m.pass.mine) cell
pending_closes m o h cell w e = subst (λ l. Contains l cell) (ap (λ p. map (λ (t : Took). t.cell) m.pass.took ++ option_to_list p) (sym e) ∙ w.has_closed)
    (Contains-push (map (λ (t : Took). t.cell) m.pass.took) cell)

some_pending : (P : ℕ → Type 0) (r : Option ℕ) → ((x : ℕ) → r ≡ Some x → P x) → IfSome r P
some_pending P None f = tt
some_pending P (Some x) f = f x refl

of_some : (P : ℕ → Type 0) (r : Option ℕ) (x : ℕ) → r ≡ Some x → IfSome r P → P x
of_some P r x e h = subst (λ r. IfSome r P) e h

pub waiter_is : (place : Waiting) (waiter : ℕ) → waiter_in place ≡ Some waiter → place ≡ occupied waiter
waiter_is empty waiter e = absurd (cc)
waiter_is (occupied w) waiter e = let same : w ≡ waiter = cc in ap occupied same
waiter_is closed waiter e = absurd (cc)

pub takes_on : (o : Opening) (front back : List Member) (m : Member) (h : Held) (cell : ℕ) → m.pending ≡ Some cell
    → AtWork o (front ++ m ∷ back) h
    → AtWork o (front ++ taken cell (place_at h.places cell) h.journal m ∷ back) (record h { places = set h.places cell closed })
takes_on o front back m h cell pends a =
    let w = works_there o front back m h a in
    let n = taken cell (place_at h.places cell) h.journal m in
    let after = set h.places cell closed in
    let k : Held = record h { places = after } in
    let closes : Contains (to_close m.pass.mine) cell = pending_closes m o h cell w pends in
    let is_set : word_at h.row cell ≢ Free = closing_set o h m cell a.holds w closes in
    let within = word_within h.row cell is_set in
    let here : place_at after cell ≡ closed = let x = a.holds.places in let y = a.holds.words in place_set h.places cell closed (omega arith) in
    let there : (c : ℕ) → c ≢ cell → place_at after c ≡ place_at h.places c = λ c ne. place_other h.places cell c closed ne in
    let t0 : Took = record { cell = cell; waiter = waiter_in (place_at h.places cell) } in
    let stays : (c : ℕ) → place_at h.places c ≡ closed → place_at after c ≡ closed =
    λ c x. elim (cases_eq c cell) [ inl same ↦ ap (place_at after) same ∙ here | inr ne ↦ there c ne ∙ x ] in
    goes_on o front back m n h k [] a refl (sym (append-nil h.journal)) (all_none (λ (e : JournalEntry). e.pass ≡ m.pass.number)) refl
    (omega arith) refl (inr (omega arith)) stays (λ c x. x)
    (λ u c ne v. some_pending (λ c. place_at after c ≢ closed) u.pending (λ p is x. elim (cases_eq p cell) [
      | inl same ↦ ne (closing_apart o h m u cell a.holds w v closes (subst (Contains (to_close u.pass.mine)) same (pending_closes u o h p v is)))
      | inr other ↦ of_some (λ c. place_at h.places c ≢ closed) u.pending p is v.pending_open (sym (there p other) ∙ x)
    ]))
    (let x = a.holds in record {
      words = x.words;
      places = length-set h.places cell closed ∙ x.places;
      set_words = x.set_words;
      set_once = x.set_once;
      fits = x.fits;
      written_first = x.written_first;
      written = x.written;
      frames = x.frames;
      ends = x.ends;
      failed = x.failed;
      open_where_free = λ p e. elim (cases_eq p cell) [
        | inl same ↦ absurd (is_set (ap (word_at h.row) (sym same) ∙ e))
        | inr ne ↦ (λ y. x.open_where_free p e (sym (there p ne) ∙ y))
      ];
      occupied_hung = λ c waiter e. elim (cases_eq c cell) [
        | inl same ↦ (let y : closed ≡ occupied waiter = sym here ∙ ap (place_at after) (sym same) ∙ e in absurd (cc))
        | inr ne ↦ x.occupied_hung c waiter (sym (there c ne) ∙ e)
      ];
      hung_once = x.hung_once;
      own_waiters = x.own_waiters;
      goals = x.goals;
    })
    (record {
      fits = fits_quiet o.first h.mark h.mark h.journal m.pass n.pass w.fits refl refl refl refl refl refl (knew o.first h.mark h.journal m.pass w.fits) refl
          w.fits.known_once w.fits.asked;
      has_closed = append-nil (map (λ (t : Took). t.cell) (m.pass.took ++ t0 ∷ [])) ∙ map_append (λ (t : Took). t.cell) m.pass.took (t0 ∷ [])
          ∙ ap (λ p. map (λ (t : Took). t.cell) m.pass.took ++ option_to_list p) (sym pends) ∙ w.has_closed;
      took_closed = all_push (λ (t : Took). place_at after t.cell ≡ closed) m.pass.took t0
          (All-weaker (λ (t : Took). place_at h.places t.cell ≡ closed) (λ (t : Took). place_at after t.cell ≡ closed) (λ t. stays t.cell) m.pass.took
          w.took_closed) here;
      pending_open = tt;
      took_hung = all_push (λ (t : Took). (waiter : ℕ) → t.waiter ≡ Some waiter
          → WasHung h.journal waiter t.cell) m.pass.took t0 (took_later o h h [] (sym (append-nil h.journal)) m w)
          (λ waiter e. a.holds.occupied_hung cell waiter (waiter_is (place_at h.places cell) waiter e));
      own_seen = refl;
      ordered = ordered_later o h h [] (sym (append-nil h.journal)) m w;
      waiters = w.waiters;
      found_closed = w.found_closed;
      waiters_left = w.waiters_left;
      over_once = w.over_once;
    })
    (All-weaker (IsPlaced h.places (front ++ m ∷ back)) (IsPlaced after (front ++ n ∷ back))
    (λ g. placed_on front back m n h.places after g
    (λ x. elim (cases_eq g.cell cell) [
      | inl same ↦
          let waiter : waiter_in (place_at h.places cell) ≡ Some g.waiter = ap waiter_in (ap (place_at h.places) (sym same) ∙ x) in
          inr (
            ap (place_at after) same ∙ here,
            subst (Contains (m.pass.took ++ t0 ∷ [])) (ap (λ r. record { cell = cell; waiter = r }) waiter
                ∙ ap (λ c. record { cell = c; waiter = Some g.waiter }) (sym same)) (Contains-push m.pass.took t0),
          )
      | inr ne ↦ inl (there g.cell ne ∙ x)
    ]) (stays g.cell) (λ t c. Contains-append_left m.pass.took (t0 ∷ []) t c)) (hung_of h.journal) a.placed)

pub takes_place_keep : (o : Opening) (before : List Seat) (h : Held) (after : List Seat) (k : Held) → Rule o before h
    → TakesPlace before h after k → Rule o after k
takes_place_keep o before h after k r s =
    subst (Rule o after) (sym s.held)
    (rule_on o before after s.m (taken s.cell (place_at h.places s.cell) h.journal s.m) s.moves refl h (record h { places = set h.places s.cell closed }) r
    (λ front back a. takes_on o front back s.m h s.cell s.pends a))
