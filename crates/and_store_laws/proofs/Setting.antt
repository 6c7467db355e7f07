-- A word is set.
use Rattle.std.proofs.Common.{ℕ, suc, ◌<◌, ◌≡◌, ◌≢◌, ◌⊎◌, inl, inr, true, false, cond, List, [], ◌∷◌, ◌++◌, map, length, set, None, Some, IfSome}
use Rattle.std.proofs.Common.{option_to_list, refl, sym, ap, subst, ◌∙◌, arith, append_assoc, append-nil, All, Contains}
use Rattle.std.specs.Prelude.{flat_map}
use Rattle.std.proofs.lemmas.Bool.{cases_eq}
use Rattle.std.proofs.Math.ListN.{length-set}
use Rattle.std.proofs.lemmas.List.Elements.{All-contains, All-weaker, Contains-append_left, Contains-append_cases, Contains-push, Contains-push_cases}
use Rattle.std.proofs.lemmas.List.Concat.{flat_map-append}
use Rattle.and_model.specs.Store.{Setting, HungGoal, Made, sets, gives, fails, hangs, JournalEntry, closed, Took, Found, AreDistinct, IsWritten, SideBySide}
use Rattle.and_model.specs.Store.{settings_of, hung_of, set_in, Known, is_half}
use Rattle.and_cells.specs.Ranges.{CanHold, IsGoalInRange}
use Rattle.and_model.specs.declared.reference.Ref.{Ref}
use Rattle.and_model.specs.declared.reference.Ref.TheVariants.{Free, Number}
use Rattle.and_store_laws.specs.AtWork.{IsOrdered, Opening, Member, Seat, Held, Holds, AtWork, Rule, IsPlaced, IsOwnWaiter, place_at, word_at, to_close}
use Rattle.and_store_laws.specs.AtWork.{frames_end}
use Rattle.and_store_laws.specs.Steps.{setting, entry, own_entry, set_as, SetsWord, KnowsWritten}
use Rattle.and_laws.proofs.Pairwise.{all_none}
use Rattle.and_store_laws.proofs.Lists.{all_push, contains_map, map_contains, flat_contains, contains_none, contains_cases, contains_split, split_end}
use Rattle.and_store_laws.proofs.Lists.{map_append, distinct_push}
use Rattle.and_store_laws.proofs.Journal.{made_settings, made_hung, AreBy}
use Rattle.and_store_laws.proofs.Going.{set_later, known_later, fits_own, placed_on, goes_on, was_hung_later, took_later, ordered_later}
use Rattle.and_store_laws.proofs.Words.{set_in_is, set_in_has, word_set, word_other, own_append, known_push, to_close_more}
use Rattle.and_store_laws.proofs.Seats.{rule_on}
use Rattle.and_store_laws.proofs.Quiet.{works_there, knew}

-- entries that made nothing of a kind add nothing of it
pub nothing_more : {X : Type 0} (f : JournalEntry → List X) (journal new : List JournalEntry) → flat_map f new ≡ []
    → flat_map f (journal ++ new) ≡ flat_map f journal
nothing_more f journal new e = flat_map-append f journal new ∙ ap (λ l. flat_map f journal ++ l) e ∙ append-nil (flat_map f journal)

-- ---- pairs that are written

written_more : (settings more : List Setting) (pair : ℕ) → ((s : Setting) → Contains settings s → Contains more s) → IsWritten settings pair
    → IsWritten more pair
written_more settings more pair f w = (place pair w.0, place (suc pair) w.1)
  where
    place : (p : ℕ) → Contains (map (λ (s : Setting). s.place) settings) p → Contains (map (λ (s : Setting). s.place) more) p
    place p h = let r = map_contains (λ (s : Setting). s.place) p settings h in subst (Contains (map (λ (s : Setting). s.place) more)) r.2
        (contains_map (λ (s : Setting). s.place) r.0 more (f r.0 r.1))

made_is : (made : Made) (pass : ℕ) (s : Setting) → Contains (made_settings (entry pass made)) s → made ≡ sets s
made_is (sets t) pass s h = elim (contains_cases t s [] h) [ inl e ↦ ap sets (sym e) | inr k ↦ absurd (contains_none s k) ]
made_is (gives f) pass s h = absurd (contains_none s h)
made_is fails pass s h = absurd (contains_none s h)
made_is (hangs g) pass s h = absurd (contains_none s h)

-- what a pass knows to be written is written
pub is_written : (o : Opening) (h : Held) (known : List Known) (pair : ℕ) → Holds o h
    → All (λ (k : Known). Contains (set_in o.first ++ settings_of h.journal) k.setting) known
    → KnowsWritten known pair → IsWritten (set_in o.first ++ settings_of h.journal) pair
is_written o h known pair holds knows (inl w) = written_more (map (λ (k : Known). k.setting) known) (set_in o.first ++ settings_of h.journal) pair
    (λ s c. let r = map_contains (λ (k : Known). k.setting) s known c in
    subst (Contains (set_in o.first ++ settings_of h.journal)) r.2
    (All-contains (λ (k : Known). Contains (set_in o.first ++ settings_of h.journal) k.setting) known r.0 knows r.1)) w
is_written o h known pair holds knows (inr w) =
    let s : Setting = setting w.0 (Number pair) in
    let r = map_contains (λ (k : Known). k.setting) s known w.1 in
    let there : Contains (set_in o.first ++ settings_of h.journal) s =
    subst (Contains (set_in o.first ++ settings_of h.journal)) r.2
    (All-contains (λ (k : Known). Contains (set_in o.first ++ settings_of h.journal) k.setting) known r.0 knows r.1) in
    elim (Contains-append_cases (set_in o.first) (settings_of h.journal) s there) [
      | inl c ↦ written_more (set_in o.first) (set_in o.first ++ settings_of h.journal) pair
          (λ t. Contains-append_left (set_in o.first) (settings_of h.journal) t) (holds.written_first s c pair refl)
      | inr c ↦
          let e = flat_contains made_settings s h.journal c in
          let at = contains_split e.0 h.journal e.1 in
          written_more (set_in o.first ++ settings_of at.0) (set_in o.first ++ settings_of h.journal) pair
          (λ t x. subst (λ j. Contains (set_in o.first ++ settings_of j) t) (sym at.2) (set_later (set_in o.first) at.0 (e.0 ∷ at.1) t x))
          (holds.written at.0 at.1 e.0 at.2 s (made_is e.0.made e.0.pass s e.2) pair refl)
    ]

-- a place that is free is set nowhere
pub free_unset : (o : Opening) (h : Held) (place : ℕ) → Holds o h → word_at h.row place ≡ Free
    → Contains (map (λ (s : Setting). s.place) (set_in o.first ++ settings_of h.journal)) place → ⊥
free_unset o h place holds free c =
    let r = map_contains (λ (s : Setting). s.place) place (set_in o.first ++ settings_of h.journal) c in
    let is = set_in_is h.row r.0 ((holds.set_words r.0).1 r.1) in
    is.1 (sym is.0 ∙ ap (word_at h.row) r.2 ∙ free)

-- ---- what the words hold

module _ (o : Opening) (h : Held) (holds : Holds o h) (place : ℕ) (to : Ref) (pass : ℕ) (within : place < o.words) (is_set : to ≢ Free)
    (fits : CanHold o.program o.words place to)
    (written : (pair : ℕ) → to ≡ Number pair → IsWritten (set_in o.first ++ settings_of h.journal) pair) (free : word_at h.row place ≡ Free) where
  abbrev s0 : Setting
  s0 = setting place to

  abbrev new : List JournalEntry
  new = entry pass (sets s0) ∷ []

  abbrev k : Held
  k = record h { row = set h.row place to; journal = h.journal ++ new }

  abbrev all : List Setting
  all = set_in o.first ++ settings_of h.journal

  all_more : set_in o.first ++ settings_of k.journal ≡ all ++ s0 ∷ []
  all_more = ap (λ l. set_in o.first ++ l) (flat_map-append made_settings h.journal new) ∙ sym (append_assoc (set_in o.first) (settings_of h.journal) (s0 ∷ []))

  here : word_at k.row place ≡ to
  here = let n = holds.words in word_set h.row place to (omega arith)

  set_words : (s : Setting) → (Contains (set_in k.row) s → Contains (all ++ s0 ∷ []) s) × (Contains (all ++ s0 ∷ []) s → Contains (set_in k.row) s)
  set_words s = (
    λ c. (let is = set_in_is k.row s c in elim (cases_eq s.place place) [
      | inl e ↦ (let value : to ≡ s.value = sym here ∙ ap (word_at k.row) (sym e) ∙ is.0 in
          subst (Contains (all ++ s0 ∷ [])) (ap (λ p. setting p to) (sym e) ∙ ap (setting s.place) value) (Contains-push all s0))
      | inr ne ↦ Contains-append_left all (s0 ∷ []) s
          ((holds.set_words s).0 (set_in_has h.row s.place s.value (sym (word_other h.row place s.place to ne) ∙ is.0) is.1))
    ]),
    λ c. (elim (Contains-push_cases all s0 s c) [
      | inl old ↦ (let is = set_in_is h.row s ((holds.set_words s).1 old) in
          set_in_has k.row s.place s.value (word_other h.row place s.place to (λ e. is.1 (sym is.0 ∙ ap (word_at h.row) e ∙ free)) ∙ is.0) is.1)
      | inr e ↦ subst (Contains (set_in k.row)) e (set_in_has k.row place to here is_set)
    ]),
  )

  pub set_holds : Holds o k
  set_holds = record {
    words = length-set h.row place to ∙ holds.words;
    places = holds.places;
    set_words = λ s. subst (λ l. (Contains (set_in k.row) s → Contains l s) × (Contains l s → Contains (set_in k.row) s)) (sym all_more) (set_words s);
    set_once = subst (λ l. AreDistinct (map (λ (s : Setting). s.place) l)) (sym all_more)
        (subst AreDistinct (sym (map_append (λ (s : Setting). s.place) all (s0 ∷ [])))
        (distinct_push (map (λ (s : Setting). s.place) all) place holds.set_once (free_unset o h place holds free)));
    fits = λ s c. elim (Contains-push_cases all s0 s ((set_words s).0 c)) [
      | inl old ↦ holds.fits s ((holds.set_words s).1 old)
      | inr same ↦ subst (λ (t : Setting). CanHold o.program o.words t.place t.value) same fits
    ];
    written_first = holds.written_first;
    written = λ before after e is s made pair value. elim (split_end h.journal (entry pass (sets s0)) e before after is) [
      | inl r ↦ holds.written before r.0 e r.1 s made pair value
      | inr r ↦
          let same : s0 ≡ s = let m : sets s0 ≡ sets s = ap (λ (e : JournalEntry). e.made) r.1 ∙ made in cc in
          subst (λ j. IsWritten (set_in o.first ++ settings_of j) pair) r.0 (written pair (ap (λ (t : Setting). t.value) same ∙ value))
    ];
    frames = subst (SideBySide (length o.first))
        (sym (nothing_more (λ (e : JournalEntry). elim e.made [ sets s ↦ [] | gives f ↦ f ∷ [] | fails ↦ [] | hangs g ↦ [] ]) h.journal new refl)) holds.frames;
    ends = subst (λ l. (frames_end (length o.first) l ≡ h.mark) ⊎ (o.words < h.mark))
        (sym (nothing_more (λ (e : JournalEntry). elim e.made [ sets s ↦ [] | gives f ↦ f ∷ [] | fails ↦ [] | hangs g ↦ [] ]) h.journal new refl)) holds.ends;
    failed = subst (λ (l : List (Unit {0})). (h.is_failed ≡ true → l ≢ []) × (l ≢ [] → h.is_failed ≡ true))
        (sym (nothing_more (λ (e : JournalEntry). elim e.made [ sets s ↦ [] | gives f ↦ [] | fails ↦ tt ∷ [] | hangs g ↦ [] ]) h.journal new refl))
        holds.failed;
    open_where_free = λ p e. elim (cases_eq p place) [
      | inl same ↦ absurd (is_set (sym here ∙ ap (word_at k.row) (sym same) ∙ e))
      | inr ne ↦ holds.open_where_free p (sym (word_other h.row place p to ne) ∙ e)
    ];
    occupied_hung = λ cell waiter e. was_hung_later o h k new refl waiter cell (holds.occupied_hung cell waiter e);
    hung_once = subst (λ l. AreDistinct (map (λ (g : HungGoal). g.waiter) l)) (sym (nothing_more made_hung h.journal new refl)) holds.hung_once;
    own_waiters = all_push (IsOwnWaiter o.waiters) h.journal (entry pass (sets s0)) holds.own_waiters (λ g e. absurd (cc));
    goals = subst (All (λ (g : HungGoal). IsGoalInRange o.program o.words g.goal)) (sym (nothing_more made_hung h.journal new refl)) holds.goals;
  }

-- the setting that is made comes after all that was known
set_ordered : (first : List Ref) (number : ℕ) (known : List Known) (journal : List JournalEntry) (s : Setting)
    → IsOrdered first number known (journal ++ entry number (sets s) ∷ [])
    → All (λ (k : Known). Contains (set_in first ++ settings_of journal) k.setting) known
    → IsOrdered first number (known ++ record { setting = s; is_own = true } ∷ []) (journal ++ entry number (sets s) ∷ [])
set_ordered first number known journal s f all before after k is own = elim (split_end known (record { setting = s; is_own = true }) k before after is) [
  | inl r ↦ f before r.0 k r.1 own
  | inr r ↦ (
    journal,
    [],
    ap (λ (k : Known). journal ++ entry number (sets k.setting) ∷ []) r.1,
    subst (All (λ (k : Known). Contains (set_in first ++ settings_of journal) k.setting)) r.0 all,
  )
]

-- ---- the step

pub sets_on : (o : Opening) (front back : List Member) (m : Member) (h : Held) (place : ℕ) (to : Ref) → place < o.words → to ≢ Free
    → CanHold o.program o.words place to
    → ((pair : ℕ) → to ≡ Number pair → KnowsWritten m.pass.known pair) → m.pending ≡ None → word_at h.row place ≡ Free
    → AtWork o (front ++ m ∷ back) h
    → AtWork o (front ++ set_as place to h.journal m ∷ back) (record h { row = set h.row place to; journal = h.journal ++ own_entry place to m ∷ [] })
sets_on o front back m h place to within is_set in_range written rest free a =
    let w = works_there o front back m h a in
    let n = set_as place to h.journal m in
    let new : List JournalEntry = own_entry place to m ∷ [] in
    let by : AreBy m.pass.number new =
    all_push (λ (e : JournalEntry). e.pass ≡ m.pass.number) [] (own_entry place to m) (all_none (λ (e : JournalEntry). e.pass ≡ m.pass.number)) refl in
    let k : Held = record h { row = set h.row place to; journal = h.journal ++ new } in
    let knows = knew o.first h.mark h.journal m.pass w.fits in
    let holds : Holds o k = set_holds o h a.holds place to m.pass.number within is_set in_range
    (λ pair e. is_written o h m.pass.known pair a.holds knows (written pair e)) free in
    let later = known_later o.first h.mark h.mark h.journal new m.pass w.fits in
    let last : Known = record { setting = setting place to; is_own = true } in
    let none_pending : map (λ (t : Took). t.cell) m.pass.took ≡ to_close m.pass.mine = sym (append-nil (map (λ (t : Took). t.cell) m.pass.took))
    ∙ ap (λ p. map (λ (t : Took). t.cell) m.pass.took ++ option_to_list p) (sym rest) ∙ w.has_closed in
    let still_set : (c : ℕ) → word_at h.row c ≢ Free → word_at k.row c ≢ Free = λ c x y. elim (cases_eq c place) [
      | inl same ↦ x (ap (word_at h.row) same ∙ free)
      | inr ne ↦ x (sym (word_other h.row place c to ne) ∙ y)
    ] in
    goes_on o front back m n h k new a refl refl by refl (omega arith) refl (inr (omega arith)) (λ cell c. c) still_set (λ u c ne x. x.pending_open) holds
    (record {
      fits = fits_own o.first h.mark h.mark h.journal new m.pass n.pass by w.fits refl refl refl (sym (append-nil m.pass.frames))
          (sym (append-nil m.pass.fails)) (sym (append-nil m.pass.hung))
          (all_push (λ (k : Known). Contains (set_in o.first ++ settings_of (h.journal ++ new)) k.setting) m.pass.known last later
          (subst (λ l. Contains l (setting place to))
          (sym (all_more o h a.holds place to m.pass.number within is_set in_range
          (λ pair e. is_written o h m.pass.known pair a.holds knows (written pair e)) free))
          (Contains-push (set_in o.first ++ settings_of h.journal) (setting place to))))
          (ap (λ l. l ++ setting place to ∷ []) w.fits.own ∙ sym (own_append m.pass.known (last ∷ [])))
          (known_push m.pass.known last w.fits.known_once (λ c. let r = map_contains (λ (k : Known). k.setting.place) place m.pass.known c in
          free_unset o h place a.holds free (subst (Contains (map (λ (s : Setting). s.place) (set_in o.first ++ settings_of h.journal))) r.2
          (contains_map (λ (s : Setting). s.place) r.0.setting (set_in o.first ++ settings_of h.journal)
          (All-contains (λ (k : Known). Contains (set_in o.first ++ settings_of h.journal) k.setting) m.pass.known r.0 knows r.1)))))
          w.fits.asked;
      has_closed =
          (elim (is_half to) as (λ b. map (λ (t : Took). t.cell) m.pass.took ++ option_to_list (cond b None (Some place))
          ≡ to_close m.pass.mine ++ cond b [] (place ∷ [])) [
            | true ↦ ap (λ l. l ++ []) none_pending
            | false ↦ ap (λ l. l ++ place ∷ []) none_pending
          ]) ∙ sym (to_close_more m.pass.mine (setting place to));
      took_closed = w.took_closed;
      pending_open = elim (is_half to) as (λ b. IfSome (cond b None (Some place)) (λ cell. place_at h.places cell ≢ closed)) [
        | true ↦ tt
        | false ↦ a.holds.open_where_free place free
      ];
      took_hung = took_later o h k new refl m w;
      own_seen = refl;
      ordered = set_ordered o.first m.pass.number m.pass.known h.journal (setting place to) (ordered_later o h k new refl m w) knows;
      waiters = w.waiters;
      found_closed = All-weaker (λ (f : Found). f.place ≡ closed → word_at h.row f.cell ≢ Free) (λ (f : Found). f.place ≡ closed
          → word_at k.row f.cell ≢ Free) (λ f x e. still_set f.cell (x e)) m.pass.found w.found_closed;
      waiters_left = w.waiters_left;
      over_once = w.over_once;
    })
    (subst (All (IsPlaced h.places (front ++ n ∷ back))) (sym (nothing_more made_hung h.journal new refl))
    (All-weaker (IsPlaced h.places (front ++ m ∷ back)) (IsPlaced h.places (front ++ n ∷ back))
    (λ g. placed_on front back m n h.places h.places g (λ e. inl e) (λ e. e) (λ t c. c)) (hung_of h.journal) a.placed))

pub sets_keep : (o : Opening) (place : ℕ) (to : Ref) (before : List Seat) (h : Held) (after : List Seat) (k : Held) → Rule o before h
    → SetsWord o place to before h after k → Rule o after k
sets_keep o place to before h after k r s =
    subst (Rule o after) (sym s.held)
    (rule_on o before after s.m (set_as place to h.journal s.m) s.moves refl h
    (record h { row = set h.row place to; journal = h.journal ++ own_entry place to s.m ∷ [] }) r
    (λ front back a. sets_on o front back s.m h place to s.within s.is_set s.fits s.written s.at_rest s.free a))
