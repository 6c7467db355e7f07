-- A frame is taken, and a pass fails.
use Rattle.std.proofs.Common.{ℕ, ◌+◌, ◌<◌, ◌≤◌, ◌≡◌, ◌≢◌, ◌⊎◌, inl, inr, true, false, cond, List, [], ◌∷◌, ◌++◌, map, length, refl, sym, ap, subst, ◌∙◌}
use Rattle.std.proofs.Common.{arith, append-nil, All}
use Rattle.std.specs.Prelude.{nat_lt}
use Rattle.std.proofs.lemmas.Bool.{lt-ltb}
use Rattle.std.proofs.lemmas.List.Elements.{All-weaker, filter-append}
use Rattle.std.proofs.lemmas.List.Concat.{flat_map-append}
use Rattle.std.proofs.lemmas.List.Sums.{sum_by_push}
use Rattle.and_model.specs.Store.{Frame, HungGoal, gives, fails, JournalEntry, AreDistinct, SideBySide, frames_of, fails_of, hung_of, Asked}
use Rattle.and_cells.specs.Ranges.{IsGoalInRange}
use Rattle.and_store_laws.specs.AtWork.{Opening, Member, Seat, Held, AtWork, Rule, IsPlaced, over, most, frames_end}
use Rattle.and_store_laws.specs.Steps.{entry, asked_for, frame_at, given, refused, TakesFrame, failed_as, Fails}
use Rattle.and_laws.proofs.Pairwise.{all_none}
use Rattle.and_store_laws.proofs.Lists.{all_push}
use Rattle.and_store_laws.proofs.Journal.{made_hung, AreBy}
use Rattle.and_store_laws.proofs.Going.{known_later, fits_own, placed_on, goes_on, was_hung_later, took_later, ordered_later, made_frames, made_fails}
use Rattle.and_store_laws.proofs.Seats.{rule_on}
use Rattle.and_store_laws.proofs.Quiet.{works_there, knew, fits_quiet}
use Rattle.and_store_laws.proofs.Setting.{nothing_more}
use Rattle.and_store_laws.proofs.More.{holds_more}

ends_push : (base : ℕ) (fs : List Frame) (f : Frame) → frames_end base (fs ++ f ∷ []) ≡ frames_end base fs + f.weight
ends_push base [] f = refl
ends_push base (g ∷ fs) f = ends_push (base + g.weight) fs f

side_push : (base : ℕ) (fs : List Frame) (f : Frame) → SideBySide base fs → frames_end base fs ≡ f.base → SideBySide base (fs ++ f ∷ [])
side_push base [] f s e = (sym e, tt)
side_push base (g ∷ fs) f s e = (s.0, side_push (base + g.weight) fs f s.1 e)

pub over_push : (words : ℕ) (asked : List Asked) (a : Asked) → over words asked ≡ []
    → over words (asked ++ a ∷ []) ≡ cond (nat_lt words (a.mark + a.weight)) (a ∷ []) []
over_push words asked a e = filter-append (λ (a : Asked). nat_lt words (a.mark + a.weight)) asked (a ∷ [])
    ∙ ap (λ l. l ++ cond (nat_lt words (a.mark + a.weight)) (a ∷ []) []) e

over_last : (words : ℕ) (a : Asked) → length (cond {A = List Asked} (nat_lt words (a.mark + a.weight)) (a ∷ []) []) ≤ 1
over_last words a = elim (nat_lt words (a.mark + a.weight)) as (λ b. length (cond {A = List Asked} b (a ∷ []) []) ≤ 1) [
  | true ↦ omega arith
  | false ↦ omega arith
]

-- all that was asked fits below the mark that is raised
asked_more : (mark weight : ℕ) (asked : List Asked) → All (λ (a : Asked). a.mark + a.weight ≤ mark) asked
    → All (λ (a : Asked). a.mark + a.weight ≤ mark + weight) (asked ++ record { mark = mark; weight = weight } ∷ [])
asked_more mark weight asked h = all_push (λ (a : Asked). a.mark + a.weight ≤ mark + weight) asked (record { mark = mark; weight = weight })
    (All-weaker (λ (a : Asked). a.mark + a.weight ≤ mark) (λ (a : Asked). a.mark + a.weight ≤ mark + weight) (λ a x. omega arith) asked h) (omega arith)

-- a raise that gave no frame
pub refused_on : (o : Opening) (front back : List Member) (m : Member) (h : Held) (weight : ℕ) → weight ≤ most → over o.words m.pass.asked ≡ []
    → o.words < h.mark + weight
    → AtWork o (front ++ m ∷ back) h → AtWork o (front ++ refused weight h m ∷ back) (record h { mark = h.mark + weight })
refused_on o front back m h weight below none above a =
    let w = works_there o front back m h a in
    let n = refused weight h m in
    let k : Held = record h { mark = h.mark + weight } in
    let one : length (over o.words n.pass.asked) ≡ 1 =
    ap length (over_push o.words m.pass.asked (asked_for weight h) none
    ∙ ap (λ b. cond {A = List Asked} b (asked_for weight h ∷ []) []) (lt-ltb o.words (h.mark + weight) above)) in
    let zero_over : length (over o.words m.pass.asked) ≡ 0 = ap length none in
    goes_on o front back m n h k [] a refl (sym (append-nil h.journal)) (all_none (λ (e : JournalEntry). e.pass ≡ m.pass.number)) refl
    (omega arith) (let s = sum_by_push (λ (a : Asked). a.weight) m.pass.asked (asked_for weight h) in omega arith)
    (inr (omega arith)) (λ cell c. c) (λ c x. x) (λ u c ne x. x.pending_open)
    (let x = a.holds in record {
      words = x.words;
      places = x.places;
      set_words = x.set_words;
      set_once = x.set_once;
      fits = x.fits;
      written_first = x.written_first;
      written = x.written;
      frames = x.frames;
      ends = inr above;
      failed = x.failed;
      open_where_free = x.open_where_free;
      occupied_hung = x.occupied_hung;
      hung_once = x.hung_once;
      own_waiters = x.own_waiters;
      goals = x.goals;
    })
    (record {
      fits = fits_quiet o.first h.mark k.mark h.journal m.pass n.pass w.fits refl refl refl refl refl refl (knew o.first h.mark h.journal m.pass w.fits)
          refl w.fits.known_once
          (asked_more h.mark weight m.pass.asked w.fits.asked);
      has_closed = w.has_closed;
      took_closed = w.took_closed;
      pending_open = w.pending_open;
      took_hung = took_later o h h [] (sym (append-nil h.journal)) m w;
      own_seen = refl;
      ordered = ordered_later o h h [] (sym (append-nil h.journal)) m w;
      waiters = w.waiters;
      found_closed = w.found_closed;
      waiters_left = w.waiters_left;
      over_once = omega arith;
    })
    (All-weaker (IsPlaced h.places (front ++ m ∷ back)) (IsPlaced h.places (front ++ n ∷ back))
    (λ g. placed_on front back m n h.places h.places g (λ e. inl e) (λ e. e) (λ t c. c)) (hung_of h.journal) a.placed)

-- a raise that gave a frame
pub given_on : (o : Opening) (front back : List Member) (m : Member) (h : Held) (weight : ℕ) → over o.words m.pass.asked ≡ [] → h.mark + weight ≤ o.words
    → AtWork o (front ++ m ∷ back) h
    → AtWork o (front ++ given weight h m ∷ back)
    (record h { mark = h.mark + weight; journal = h.journal ++ entry m.pass.number (gives (frame_at weight h)) ∷ [] })
given_on o front back m h weight none fits a =
    let w = works_there o front back m h a in
    let n = given weight h m in
    let f = frame_at weight h in
    let e = entry m.pass.number (gives f) in
    let new : List JournalEntry = e ∷ [] in
    let by : AreBy m.pass.number new =
    all_push (λ (e : JournalEntry). e.pass ≡ m.pass.number) [] e (all_none (λ (e : JournalEntry). e.pass ≡ m.pass.number)) refl in
    let k : Held = record h { mark = h.mark + weight; journal = h.journal ++ new } in
    let frames_are : frames_of k.journal ≡ frames_of h.journal ++ f ∷ [] = flat_map-append made_frames h.journal new in
    let at : frames_end (length o.first) (frames_of h.journal) ≡ h.mark = elim a.holds.ends [ inl x ↦ x | inr x ↦ absurd (omega arith) ] in
    let no_hung : hung_of k.journal ≡ hung_of h.journal = nothing_more made_hung h.journal new refl in
    goes_on o front back m n h k new a refl refl by refl
    (omega arith) (let s = sum_by_push (λ (a : Asked). a.weight) m.pass.asked (asked_for weight h) in omega arith)
    (inl fits) (λ cell c. c) (λ c x. x) (λ u c ne x. x.pending_open)
    (holds_more o h h.places (h.mark + weight) h.is_failed e a.holds (λ s x. absurd (cc)) refl a.holds.places
    (subst (SideBySide (length o.first)) (sym frames_are) (side_push (length o.first) (frames_of h.journal) f a.holds.frames at))
    (inl (ap (frames_end (length o.first)) frames_are ∙ ends_push (length o.first) (frames_of h.journal) f ∙ ap (λ x. x + weight) at))
    (subst (λ (l : List (Unit {0})). (h.is_failed ≡ true → l ≢ []) × (l ≢ [] → h.is_failed ≡ true))
    (sym (nothing_more made_fails h.journal new refl)) a.holds.failed)
    a.holds.open_where_free (λ cell waiter x. was_hung_later o h k new refl waiter cell (a.holds.occupied_hung cell waiter x))
    (subst (λ l. AreDistinct (map (λ (g : HungGoal). g.waiter) l)) (sym no_hung) a.holds.hung_once) (λ g x. absurd (cc))
    (subst (All (λ (g : HungGoal). IsGoalInRange o.program o.words g.goal)) (sym no_hung) a.holds.goals))
    (record {
      fits = fits_own o.first h.mark k.mark h.journal new m.pass n.pass by w.fits refl refl (sym (append-nil m.pass.mine)) refl (sym (append-nil m.pass.fails))
          (sym (append-nil m.pass.hung))
          (known_later o.first h.mark k.mark h.journal new m.pass w.fits) w.fits.own w.fits.known_once (asked_more h.mark weight m.pass.asked w.fits.asked);
      has_closed = w.has_closed;
      took_closed = w.took_closed;
      pending_open = w.pending_open;
      took_hung = took_later o h k new refl m w;
      own_seen = refl;
      ordered = ordered_later o h k new refl m w;
      waiters = w.waiters;
      found_closed = w.found_closed;
      waiters_left = w.waiters_left;
      over_once = let x = ap length (over_push o.words m.pass.asked (asked_for weight h) none) in let y = over_last o.words (asked_for weight h) in omega arith;
    })
    (subst (All (IsPlaced h.places (front ++ n ∷ back))) (sym no_hung)
    (All-weaker (IsPlaced h.places (front ++ m ∷ back)) (IsPlaced h.places (front ++ n ∷ back))
    (λ g. placed_on front back m n h.places h.places g (λ x. inl x) (λ x. x) (λ t c. c)) (hung_of h.journal) a.placed))

pub takes_frame_keep : (o : Opening) (weight : ℕ) (before : List Seat) (h : Held) (after : List Seat) (k : Held) → Rule o before h
    → TakesFrame o weight before h after k → Rule o after k
takes_frame_keep o weight before h after k r s = elim s.steps [
  | inl x ↦ subst (Rule o after) (sym x.2)
      (rule_on o before after s.m (given weight h s.m) x.1 refl h
      (record h { mark = h.mark + weight; journal = h.journal ++ entry s.m.pass.number (gives (frame_at weight h)) ∷ [] }) r
      (λ front back a. given_on o front back s.m h weight s.none_over x.0 a))
  | inr x ↦ subst (Rule o after) (sym x.2) (rule_on o before after s.m (refused weight h s.m) x.1 refl h (record h { mark = h.mark + weight }) r
      (λ front back a. refused_on o front back s.m h weight s.weight_below s.none_over x.0 a))
]

-- a call of fail
never_empty : (l : List (Unit {0})) → l ++ tt ∷ [] ≡ [] → ⊥
never_empty [] e = cc
never_empty (x ∷ l) e = cc

pub fails_on : (o : Opening) (front back : List Member) (m : Member) (h : Held)
    → AtWork o (front ++ m ∷ back) h
    → AtWork o (front ++ failed_as h.journal m ∷ back) (record h { is_failed = true; journal = h.journal ++ entry m.pass.number fails ∷ [] })
fails_on o front back m h a =
    let w = works_there o front back m h a in
    let n = failed_as h.journal m in
    let e = entry m.pass.number fails in
    let new : List JournalEntry = e ∷ [] in
    let by : AreBy m.pass.number new =
    all_push (λ (e : JournalEntry). e.pass ≡ m.pass.number) [] e (all_none (λ (e : JournalEntry). e.pass ≡ m.pass.number)) refl in
    let k : Held = record h { is_failed = true; journal = h.journal ++ new } in
    let fails_are : fails_of k.journal ≡ fails_of h.journal ++ tt ∷ [] = flat_map-append made_fails h.journal new in
    let no_frames : frames_of k.journal ≡ frames_of h.journal = nothing_more made_frames h.journal new refl in
    let no_hung : hung_of k.journal ≡ hung_of h.journal = nothing_more made_hung h.journal new refl in
    goes_on o front back m n h k new a refl refl by refl (omega arith) refl (inr (omega arith)) (λ cell c. c) (λ c x. x) (λ u c ne x. x.pending_open)
    (holds_more o h h.places h.mark true e a.holds (λ s x. absurd (cc)) refl a.holds.places
    (subst (SideBySide (length o.first)) (sym no_frames) a.holds.frames)
    (subst (λ l. (frames_end (length o.first) l ≡ h.mark) ⊎ (o.words < h.mark)) (sym no_frames) a.holds.ends)
    ((λ t x. never_empty (fails_of h.journal) (sym fails_are ∙ x)), λ x. refl)
    a.holds.open_where_free (λ cell waiter x. was_hung_later o h k new refl waiter cell (a.holds.occupied_hung cell waiter x))
    (subst (λ l. AreDistinct (map (λ (g : HungGoal). g.waiter) l)) (sym no_hung) a.holds.hung_once) (λ g x. absurd (cc))
    (subst (All (λ (g : HungGoal). IsGoalInRange o.program o.words g.goal)) (sym no_hung) a.holds.goals))
    (record {
      fits = fits_own o.first h.mark h.mark h.journal new m.pass n.pass by w.fits refl refl (sym (append-nil m.pass.mine)) (sym (append-nil m.pass.frames))
          refl (sym (append-nil m.pass.hung))
          (known_later o.first h.mark h.mark h.journal new m.pass w.fits) w.fits.own w.fits.known_once w.fits.asked;
      has_closed = w.has_closed;
      took_closed = w.took_closed;
      pending_open = w.pending_open;
      took_hung = took_later o h k new refl m w;
      own_seen = refl;
      ordered = ordered_later o h k new refl m w;
      waiters = w.waiters;
      found_closed = w.found_closed;
      waiters_left = w.waiters_left;
      over_once = w.over_once;
    })
    (subst (All (IsPlaced h.places (front ++ n ∷ back))) (sym no_hung)
    (All-weaker (IsPlaced h.places (front ++ m ∷ back)) (IsPlaced h.places (front ++ n ∷ back))
    (λ g. placed_on front back m n h.places h.places g (λ x. inl x) (λ x. x) (λ t c. c)) (hung_of h.journal) a.placed))

pub fails_keep : (o : Opening) (before : List Seat) (h : Held) (after : List Seat) (k : Held) → Rule o before h → Fails before h after k → Rule o after k
fails_keep o before h after k r s =
    subst (Rule o after) (sym s.held)
    (rule_on o before after s.m (failed_as h.journal s.m) s.moves refl h
    (record h { is_failed = true; journal = h.journal ++ entry s.m.pass.number fails ∷ [] }) r
    (λ front back a. fails_on o front back s.m h a))
