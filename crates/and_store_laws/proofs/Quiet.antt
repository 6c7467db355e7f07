-- Steps that make no entry: looks, an exchange that failed, and a raise of the mark that gave no frame.
use Rattle.std.proofs.Common.{ℕ, ◌+◌, ◌≤◌, ◌≡◌, ◌≢◌, inl, inr, true, false, cond, List, [], ◌∷◌, ◌++◌, map, length, Some, refl, sym, ap, subst, ◌∙◌, arith}
use Rattle.std.proofs.Common.{append-nil, All, Contains, true≢false}
use Rattle.std.specs.Prelude.{sum_by}
use Rattle.std.proofs.lemmas.List.Elements.{All-contains, All-weaker}
use Rattle.and_model.specs.Store.{JournalEntry, closed, Took, Found, Pass, Fits, AreDistinct, settings_of, hung_of, entries_by, set_in, own_of, Known, Asked}
use Rattle.and_model.specs.Store.{is_free}
use Rattle.and_model.specs.declared.reference.Ref.{Ref}
use Rattle.and_model.specs.declared.reference.Ref.TheVariants.{Free}
use Rattle.and_store_laws.specs.AtWork.{IsOrdered, Opening, Member, Seat, Held, Works, AtWork, Rule, IsPlaced, WasHung, over, word_at}
use Rattle.and_store_laws.specs.Steps.{setting, knows_place, learnt, looked, Looks, asks_failed, LooksFailed}
use Rattle.and_laws.proofs.Pairwise.{all_none}
use Rattle.and_store_laws.proofs.Lists.{contains_there, split_end}
use Rattle.and_store_laws.proofs.Going.{known_later, fits_own, took_later, ordered_later, placed_on, goes_on}
use Rattle.and_store_laws.proofs.Words.{set_in_has, learnt_all, learnt_own, learnt_once}
use Rattle.and_store_laws.proofs.Seats.{rule_on}

-- a pass that is among the others works
pub works_there : (o : Opening) (front back : List Member) (m : Member) (h : Held) → AtWork o (front ++ m ∷ back) h → Works o h m
works_there o front back m h a = All-contains (Works o h) (front ++ m ∷ back) m a.each (contains_there front back m)

-- what a pass knew is in the journal
pub knew : (first : List Ref) (mark : ℕ) (journal : List JournalEntry) (p : Pass) → Fits first mark journal p
    → All (λ (k : Known). Contains (set_in first ++ settings_of journal) k.setting) p.known
knew first mark journal p f = subst (λ j. All (λ (k : Known). Contains (set_in first ++ settings_of j) k.setting) p.known) (append-nil journal)
    (known_later first mark mark journal [] p f)

-- The pass p is q then, with the journal as it is.
pub fits_quiet : (first : List Ref) (mark up : ℕ) (journal : List JournalEntry) (p q : Pass) → Fits first mark journal p
    → q.number ≡ p.number → q.seen ≡ journal
    → q.mine ≡ p.mine → q.frames ≡ p.frames → q.fails ≡ p.fails → q.hung ≡ p.hung
    → All (λ (k : Known). Contains (set_in first ++ settings_of journal) k.setting) q.known → own_of q.known ≡ own_of p.known
    → AreDistinct (map (λ (k : Known). k.setting.place) q.known) → All (λ (a : Asked). a.mark + a.weight ≤ up) q.asked → Fits first up journal q
fits_quiet first mark up journal p q f number seen mine frames failing hung known own once asked =
    subst (λ j. Fits first up j q) (append-nil journal)
    (fits_own first mark up journal [] p q (all_none (λ (e : JournalEntry). e.pass ≡ p.number)) f number (seen ∙ sym (append-nil journal))
    (mine ∙ sym (append-nil p.mine)) (frames ∙ sym (append-nil p.frames)) (failing ∙ sym (append-nil p.fails)) (hung ∙ sym (append-nil p.hung))
    (subst (λ j. All (λ (k : Known). Contains (set_in first ++ settings_of j) k.setting) q.known) (sym (append-nil journal)) known)
    (mine ∙ f.own ∙ sym own) once asked)

-- A step that leaves the words and the journal as they are.
module _ (o : Opening) (front back : List Member) (m n : Member) (h : Held) where
  pub quiet : AtWork o (front ++ m ∷ back) h → n.pass.number ≡ m.pass.number → n.pass.seen ≡ h.journal → n.pass.asked ≡ m.pass.asked → Works o h n
      → ((t : Took) → Contains m.pass.took t → Contains n.pass.took t) → AtWork o (front ++ n ∷ back) h
  quiet a number seen asked works took =
      goes_on o front back m n h h [] a number (sym (append-nil h.journal)) (all_none (λ (e : JournalEntry). e.pass ≡ m.pass.number)) seen
      (omega arith) (ap (λ (l : List Asked). h.mark + sum_by (λ (a : Asked). a.weight) l) (sym asked))
      (inr (let same = ap (λ (l : List Asked). length (over o.words l)) asked in omega arith))
      (λ cell c. c) (λ c x. x) (λ u c ne w. w.pending_open) a.holds works
      (All-weaker (IsPlaced h.places (front ++ m ∷ back)) (IsPlaced h.places (front ++ n ∷ back))
      (λ g. placed_on front back m n h.places h.places g (λ e. inl e) (λ e. e) took) (hung_of h.journal) a.placed)

-- what is learnt is not its own
learnt_ordered : (first : List Ref) (number place : ℕ) (r : Ref) (known : List Known) (seen : List JournalEntry) → IsOrdered first number known seen
    → IsOrdered first number (learnt place r known) seen
learnt_ordered first number place r known seen f =
    elim (is_free r) as (λ b.
    IsOrdered first number (cond b known (cond (knows_place place known) known (known ++ record { setting = setting place r; is_own = false } ∷ []))) seen) [
      | true ↦ f
      | false ↦ elim (knows_place place known) as
          (λ b. IsOrdered first number (cond b known (known ++ record { setting = setting place r; is_own = false } ∷ [])) seen) [
            | true ↦ f
            | false ↦ λ before after k is own. elim (split_end known (record { setting = setting place r; is_own = false }) k before after is) [
              | inl x ↦ f before x.0 k x.1 own
              | inr x ↦ absurd (true≢false (sym own ∙ ap (λ (k : Known). k.is_own) (sym x.1)))
            ]
          ]
    ]

-- a look at a word
pub looks_on : (o : Opening) (front back : List Member) (m : Member) (h : Held) (place : ℕ) → AtWork o (front ++ m ∷ back) h
    → AtWork o (front ++ looked place (word_at h.row place) h.journal m ∷ back) h
looks_on o front back m h place a =
    let w = works_there o front back m h a in
    let found = word_at h.row place in
    let n = looked place found h.journal m in
    quiet o front back m n h a refl refl refl (record {
      fits = fits_quiet o.first h.mark h.mark h.journal m.pass n.pass w.fits refl refl refl refl refl refl
          (learnt_all (λ (k : Known). Contains (set_in o.first ++ settings_of h.journal) k.setting) place found m.pass.known
          (knew o.first h.mark h.journal m.pass w.fits)
          (λ ne. (a.holds.set_words (setting place found)).0 (set_in_has h.row place found refl ne)))
          (learnt_own place found m.pass.known) (learnt_once place found m.pass.known w.fits.known_once) w.fits.asked;
      has_closed = w.has_closed;
      took_closed = w.took_closed;
      pending_open = w.pending_open;
      took_hung = took_later o h h [] (sym (append-nil h.journal)) m w;
      own_seen = refl;
      ordered = learnt_ordered o.first m.pass.number place found m.pass.known h.journal (ordered_later o h h [] (sym (append-nil h.journal)) m w);
      waiters = w.waiters;
      found_closed = w.found_closed;
      waiters_left = w.waiters_left;
      over_once = w.over_once;
    }) (λ t c. c)

pub looks_keep : (o : Opening) (place : ℕ) (before : List Seat) (h : Held) (after : List Seat) (k : Held) → Rule o before h
    → Looks place before h after k → Rule o after k
looks_keep o place before h after k r s =
    subst (Rule o after) (sym s.held)
    (rule_on o before after s.m (looked place (word_at h.row place) h.journal s.m) s.moves refl h h r (λ front back a. looks_on o front back s.m h place a))

-- a look at the fail word, or at a place that is not empty: only `seen`, and lists of which the rule says nothing, change
pub only_sees : (o : Opening) (front back : List Member) (m n : Member) (h : Held) → AtWork o (front ++ m ∷ back) h → n.pass.number ≡ m.pass.number
    → n.pass.seen ≡ h.journal
    → n.pass.known ≡ m.pass.known → n.pass.mine ≡ m.pass.mine → n.pass.frames ≡ m.pass.frames → n.pass.asked ≡ m.pass.asked → n.pass.fails ≡ m.pass.fails
    → n.pass.hung ≡ m.pass.hung → n.pass.took ≡ m.pass.took → n.pending ≡ m.pending
    → All (λ (f : Found). f.place ≡ closed → word_at h.row f.cell ≢ Free) n.pass.found → AtWork o (front ++ n ∷ back) h
only_sees o front back m n h a number seen known mine frames asked failing hung took pending found =
    let w = works_there o front back m h a in
    quiet o front back m n h a number seen asked (record {
      fits = fits_quiet o.first h.mark h.mark h.journal m.pass n.pass w.fits number seen mine frames failing hung
          (subst (All (λ (k : Known). Contains (set_in o.first ++ settings_of h.journal) k.setting)) (sym known) (knew o.first h.mark h.journal m.pass w.fits))
          (ap own_of known) (subst (λ l. AreDistinct (map (λ (k : Known). k.setting.place) l)) (sym known) w.fits.known_once)
          (subst (All (λ (a : Asked). a.mark + a.weight ≤ h.mark)) (sym asked) w.fits.asked);
      has_closed = rw (took, pending, mine) w.has_closed;
      took_closed = rw took w.took_closed;
      pending_open = rw pending w.pending_open;
      took_hung = subst (All (λ (t : Took). (waiter : ℕ) → t.waiter ≡ Some waiter → WasHung n.pass.seen waiter t.cell)) (sym took)
          (subst (λ j. All (λ (t : Took). (waiter : ℕ) → t.waiter ≡ Some waiter → WasHung j waiter t.cell) m.pass.took) (sym seen)
          (took_later o h h [] (sym (append-nil h.journal)) m w));
      own_seen = ap (entries_by n.pass) seen;
      ordered = subst (λ i. IsOrdered o.first i n.pass.known n.pass.seen) (sym number) (subst (λ l. IsOrdered o.first m.pass.number l n.pass.seen) (sym known)
          (subst (IsOrdered o.first m.pass.number m.pass.known) (sym seen) (ordered_later o h h [] (sym (append-nil h.journal)) m w)));
      waiters = rw (hung, number) w.waiters;
      found_closed = found;
      waiters_left = rw hung w.waiters_left;
      over_once = rw asked w.over_once;
    }) (λ t c. rw took c)

pub looks_failed_keep : (o : Opening) (before : List Seat) (h : Held) (after : List Seat) (k : Held) → Rule o before h
    → LooksFailed before h after k → Rule o after k
looks_failed_keep o before h after k r s =
    subst (Rule o after) (sym s.held) (rule_on o before after s.m (asks_failed h.is_failed h.journal s.m) s.moves refl h h r
    (λ front back a. only_sees o front back s.m (asks_failed h.is_failed h.journal s.m) h a refl refl refl refl refl refl refl refl refl refl
    (works_there o front back s.m h a).found_closed))
