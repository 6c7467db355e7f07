-- What stays where one pass makes a step.
use Rattle.std.proofs.Common.{ℕ, ◌+◌, ◌*◌, ◌≤◌, ◌≡◌, ◌≢◌, ◌⊎◌, inl, inr, List, [], ◌∷◌, ◌++◌, map, length, Some, IfSome, sym, ap, subst, ◌∙◌, arith}
use Rattle.std.proofs.Common.{append_assoc, append-nil, All, Contains}
use Rattle.std.specs.Prelude.{filter, nat_eq}
use Rattle.std.proofs.lemmas.List.Elements.{All-append, All-weaker, Contains-append_left}
use Rattle.std.proofs.lemmas.List.Concat.{flat_map-append}
use Rattle.and_model.specs.Prefixes.{IsPrefix}
use Rattle.and_model.specs.Store.{Setting, Frame, HungGoal, sets, gives, fails, hangs, JournalEntry, Waiting, occupied, closed, Took, Found, Pass, Fits}
use Rattle.and_model.specs.Store.{AreDistinct, settings_of, frames_of, fails_of, hung_of, entries_by, set_in, own_of, Known, Asked}
use Rattle.and_model.specs.declared.reference.Ref.{Ref}
use Rattle.and_model.specs.declared.reference.Ref.TheVariants.{Free}
use Rattle.and_store_laws.specs.AtWork.{IsOrdered, Opening, Member, Held, Works, Holds, AtWork, IsPlaced, WasHung, number_of, asked_by, over, most, place_at}
use Rattle.and_store_laws.specs.AtWork.{word_at}
use Rattle.and_store_laws.proofs.Lists.{contains_there, contains_middle, contains_map, map_middle, distinct_middle, all_middle, sum_middle}
use Rattle.and_store_laws.proofs.Journal.{AreBy, no_entries, entries_more, made_settings, made_hung, own_more, others_more}

abbrev pub made_frames : JournalEntry → List Frame
made_frames e = elim e.made [ sets s ↦ [] | gives f ↦ f ∷ [] | fails ↦ [] | hangs g ↦ [] ]

abbrev pub made_fails : JournalEntry → List (Unit {0})
made_fails e = elim e.made [ sets s ↦ [] | gives f ↦ [] | fails ↦ tt ∷ [] | hangs g ↦ [] ]

pub ordered_more : (first : List Ref) (number : ℕ) (known : List Known) (seen longer : List JournalEntry) → IsPrefix seen longer
    → IsOrdered first number known seen → IsOrdered first number known longer
ordered_more first number known seen longer p f before after k is own =
    let r = f before after k is own in
    (r.0, r.1 ++ p.0, p.1 ∙ ap (λ l. l ++ p.0) r.2 ∙ append_assoc r.0 (record { pass = number; made = sets k.setting } ∷ r.1) p.0, r.3)

-- a setting that was made is among those of a longer journal
pub set_later : (settings : List Setting) (journal new : List JournalEntry) (s : Setting) → Contains (settings ++ settings_of journal) s
    → Contains (settings ++ settings_of (journal ++ new)) s
set_later settings journal new s h =
    subst (λ l. Contains l s) (append_assoc settings (settings_of journal) (settings_of new)
    ∙ ap (λ l. settings ++ l) (sym (flat_map-append made_settings journal new)))
    (Contains-append_left (settings ++ settings_of journal) (settings_of new) s h)

pub hung_later : (journal new : List JournalEntry) (g : HungGoal) → Contains (hung_of journal) g → Contains (hung_of (journal ++ new)) g
hung_later journal new g h = subst (λ l. Contains l g) (sym (flat_map-append made_hung journal new)) (Contains-append_left (hung_of journal) (hung_of new) g h)

module _ (first : List Ref) (mark up : ℕ) (journal new : List JournalEntry) where
  -- what a pass knew was seen, also by itself later
  pub known_later : (p : Pass) → Fits first mark journal p → All (λ (k : Known). Contains (set_in first ++ settings_of (journal ++ new)) k.setting) p.known
  known_later p f = All-weaker (λ (k : Known). Contains (set_in first ++ settings_of p.seen) k.setting)
      (λ (k : Known). Contains (set_in first ++ settings_of (journal ++ new)) k.setting)
      (λ k h. set_later (set_in first) journal new k.setting
      (subst (λ j. Contains (set_in first ++ settings_of j) k.setting) (sym f.seen.1) (set_later (set_in first) p.seen f.seen.0 k.setting h)))
      p.known f.known

  pub fits_others : (p : Pass) (number : ℕ) → AreBy number new → p.number ≢ number → mark ≤ up → Fits first mark journal p → Fits first up (journal ++ new) p
  fits_others p number by ne higher f = record {
    seen = (f.seen.0 ++ new, ap (λ l. l ++ new) f.seen.1 ∙ append_assoc p.seen f.seen.0 new);
    settings = others_more made_settings p number journal new p.mine by ne f.settings;
    frames = others_more made_frames p number journal new p.frames by ne f.frames;
    fails = others_more made_fails p number journal new p.fails by ne f.fails;
    hung = others_more made_hung p number journal new p.hung by ne f.hung;
    known = f.known;
    own = f.own;
    known_once = f.known_once;
    asked = All-weaker (λ (a : Asked). a.mark + a.weight ≤ mark) (λ (a : Asked). a.mark + a.weight ≤ up) (λ a h. omega arith) p.asked f.asked;
  }

  -- The pass p makes these entries, and is q then.
  pub fits_own : (p q : Pass) → AreBy p.number new → Fits first mark journal p → q.number ≡ p.number → q.seen ≡ journal ++ new
      → q.mine ≡ p.mine ++ settings_of new → q.frames ≡ p.frames ++ frames_of new → q.fails ≡ p.fails ++ fails_of new → q.hung ≡ p.hung ++ hung_of new
      → All (λ (k : Known). Contains (set_in first ++ settings_of (journal ++ new)) k.setting) q.known → q.mine ≡ own_of q.known
      → AreDistinct (map (λ (k : Known). k.setting.place) q.known) → All (λ (a : Asked). a.mark + a.weight ≤ up) q.asked → Fits first up (journal ++ new) q
  fits_own p q by f number seen mine frames failing hung known own once asked =
      let same : entries_by p (journal ++ new) ≡ entries_by q (journal ++ new) =
      ap (λ n. filter (λ (e : JournalEntry). nat_eq e.pass n) (journal ++ new)) (sym number) in record {
        seen = ([], sym (ap (λ l. l ++ []) seen ∙ append-nil (journal ++ new)));
        settings = mine ∙ own_more made_settings p journal new p.mine by f.settings ∙ ap settings_of same;
        frames = frames ∙ own_more made_frames p journal new p.frames by f.frames ∙ ap frames_of same;
        fails = failing ∙ own_more made_fails p journal new p.fails by f.fails ∙ ap fails_of same;
        hung = hung ∙ own_more made_hung p journal new p.hung by f.hung ∙ ap hung_of same;
        known = subst (λ j. All (λ (k : Known). Contains (set_in first ++ settings_of j) k.setting) q.known) (sym seen) known;
        own = own;
        known_once = once;
        asked = asked;
      }

module _ (o : Opening) (h k : Held) (new : List JournalEntry) (is : k.journal ≡ h.journal ++ new) where
  pub was_hung_later : (waiter cell : ℕ) → WasHung h.journal waiter cell → WasHung k.journal waiter cell
  was_hung_later waiter cell w = (w.0, subst (λ j. Contains (hung_of j) w.0) (sym is) (hung_later h.journal new w.0 w.1), w.2, w.3)

  -- what a pass has seen it has seen later
  pub took_later : (m : Member) → Works o h m → All (λ (t : Took). (waiter : ℕ) → t.waiter ≡ Some waiter → WasHung k.journal waiter t.cell) m.pass.took
  took_later m w = All-weaker (λ (t : Took). (waiter : ℕ) → t.waiter ≡ Some waiter → WasHung m.pass.seen waiter t.cell) (λ (t : Took). (waiter : ℕ)
      → t.waiter ≡ Some waiter → WasHung k.journal waiter t.cell)
      (λ t f waiter e. let g = f waiter e in
      was_hung_later waiter t.cell (g.0, subst (λ j. Contains (hung_of j) g.0) (sym w.fits.seen.1) (hung_later m.pass.seen w.fits.seen.0 g.0 g.1), g.2, g.3))
      m.pass.took w.took_hung

  pub ordered_later : (m : Member) → Works o h m → IsOrdered o.first m.pass.number m.pass.known k.journal
  ordered_later m w = ordered_more o.first m.pass.number m.pass.known m.pass.seen k.journal
      (w.fits.seen.0 ++ new, is ∙ ap (λ l. l ++ new) w.fits.seen.1 ∙ append_assoc m.pass.seen w.fits.seen.0 new) w.ordered

  pub works_others : (u : Member) (number : ℕ) → AreBy number new → u.pass.number ≢ number → h.mark ≤ k.mark
      → ((cell : ℕ) → place_at h.places cell ≡ closed → place_at k.places cell ≡ closed) → IfSome u.pending (λ cell. place_at k.places cell ≢ closed)
      → ((cell : ℕ) → word_at h.row cell ≢ Free → word_at k.row cell ≢ Free) → Works o h u → Works o k u
  works_others u number by ne higher stays pending set w = record {
    fits = subst (λ j. Fits o.first k.mark j u.pass) (sym is) (fits_others o.first h.mark k.mark h.journal new u.pass number by ne higher w.fits);
    has_closed = w.has_closed;
    took_closed = All-weaker (λ (t : Took). place_at h.places t.cell ≡ closed) (λ (t : Took). place_at k.places t.cell ≡ closed) (λ t. stays t.cell)
        u.pass.took w.took_closed;
    pending_open = pending;
    took_hung = w.took_hung;
    ordered = w.ordered;
    own_seen = w.own_seen ∙ sym (append-nil (entries_by u.pass h.journal))
        ∙ ap (λ l. entries_by u.pass h.journal ++ l) (sym (no_entries u.pass number new by ne))
        ∙ sym (entries_more u.pass h.journal new) ∙ ap (entries_by u.pass) (sym is);
    waiters = w.waiters;
    found_closed = All-weaker (λ (f : Found). f.place ≡ closed → word_at h.row f.cell ≢ Free) (λ (f : Found). f.place ≡ closed
        → word_at k.row f.cell ≢ Free) (λ f x e. set f.cell (x e)) u.pass.found w.found_closed;
    waiters_left = w.waiters_left;
    over_once = w.over_once;
  }

-- A goal that was in its place is there still, or the pass that steps took it.
pub placed_on : (front back : List Member) (m n : Member) (places after : List Waiting) (g : HungGoal)
    → (place_at places g.cell ≡ occupied g.waiter → (place_at after g.cell ≡ occupied g.waiter)
    ⊎ ((place_at after g.cell ≡ closed) × Contains n.pass.took (record { cell = g.cell; waiter = Some g.waiter })))
    → (place_at places g.cell ≡ closed → place_at after g.cell ≡ closed) → ((t : Took) → Contains m.pass.took t → Contains n.pass.took t)
    → IsPlaced places (front ++ m ∷ back) g → IsPlaced after (front ++ n ∷ back) g
placed_on front back m n places after g there stays more (inl e) = elim (there e) [
  | inl f ↦ inl f
  | inr f ↦ inr (f.0, n, contains_there front back n, f.1)
]
placed_on front back m n places after g there stays more (inr e) = inr (elim (contains_middle front back m n e.1 e.2) [
  | inl same ↦ (
    stays e.0,
    n,
    contains_there front back n,
    more (record { cell = g.cell; waiter = Some g.waiter }) (subst (λ u. Contains u.pass.took (record { cell = g.cell; waiter = Some g.waiter })) same e.3),
  )
  | inr other ↦ (stays e.0, e.1, other, e.3)
])

-- One pass goes on from m to n, and the journal gains these entries of its own.
module _ (o : Opening) (front back : List Member) (m n : Member) (h k : Held) (new : List JournalEntry) where
  pub goes_on : AtWork o (front ++ m ∷ back) h → n.pass.number ≡ m.pass.number → k.journal ≡ h.journal ++ new → AreBy m.pass.number new
      → n.pass.seen ≡ k.journal
      → h.mark ≤ k.mark → k.mark + asked_by m ≡ h.mark + asked_by n
      → (k.mark ≤ o.words) ⊎ (k.mark + most * length (over o.words m.pass.asked) ≤ h.mark + most * length (over o.words n.pass.asked))
      → ((cell : ℕ) → place_at h.places cell ≡ closed → place_at k.places cell ≡ closed)
      → ((cell : ℕ) → word_at h.row cell ≢ Free → word_at k.row cell ≢ Free)
      → ((u : Member) → Contains (front ++ back) u → u.pass.number ≢ m.pass.number → Works o h u → IfSome u.pending (λ cell. place_at k.places cell ≢ closed))
      → Holds o k → Works o k n → All (IsPlaced k.places (front ++ n ∷ back)) (hung_of k.journal)
      → AtWork o (front ++ n ∷ back) k
  goes_on a number journal by seen higher raised room stays still_set pending holds works placed =
      let numbers : map number_of (front ++ n ∷ back) ≡ map number_of (front ++ m ∷ back) = map_middle number_of front back m n number in record {
        holds = holds;
        each = all_middle (Works o h) (Works o k) front back m n
            (λ u c w. let ne : u.pass.number ≢ m.pass.number = distinct_middle number_of front back m u a.numbered c in
            works_others o h k new journal u m.pass.number by ne higher stays (pending u c ne w) still_set w) works a.each;
        numbered = subst AreDistinct (sym numbers) a.numbered;
        by_a_pass = subst (λ j. All (λ (e : JournalEntry). Contains (map number_of (front ++ n ∷ back)) e.pass) j) (sym journal)
            (All-append (λ (e : JournalEntry). Contains (map number_of (front ++ n ∷ back)) e.pass) h.journal new
            (subst (λ l. All (λ (e : JournalEntry). Contains l e.pass) h.journal) (sym numbers) a.by_a_pass)
            (All-weaker (λ (e : JournalEntry). e.pass ≡ m.pass.number) (λ (e : JournalEntry). Contains (map number_of (front ++ n ∷ back)) e.pass)
            (λ e is. subst (Contains (map number_of (front ++ n ∷ back))) (number ∙ sym is)
            (contains_map number_of n (front ++ n ∷ back) (contains_there front back n))) new by));
        seen = (n, contains_there front back n, seen);
        mark = let s = sum_middle asked_by front back m n in let was = a.mark in omega arith;
        mark_below =
            let s = sum_middle (λ (u : Member). length (over o.words u.pass.asked)) front back m n in
            let was = a.mark_below in
            elim room [ inl r ↦ omega arith | inr r ↦ omega arith ];
        placed = placed;
      }
