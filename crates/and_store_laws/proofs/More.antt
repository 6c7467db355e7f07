-- What the words hold after an entry that is no setting.
use Rattle.std.proofs.Common.{ℕ, ◌<◌, ◌≡◌, ◌≢◌, ◌⊎◌, inl, inr, Bool, true, List, [], ◌∷◌, ◌++◌, map, length, set, Option, None, Some, IfSome, sym, ap, subst}
use Rattle.std.proofs.Common.{◌∙◌, append-nil, All, Contains}
use Rattle.std.proofs.lemmas.List.{get_or-set_same, get_or-set_other}
use Rattle.and_model.specs.Store.{Setting, HungGoal, sets, JournalEntry, Waiting, empty, occupied, closed, AreDistinct, SideBySide, settings_of, frames_of}
use Rattle.and_model.specs.Store.{fails_of, hung_of, set_in}
use Rattle.and_cells.specs.Ranges.{IsGoalInRange}
use Rattle.and_model.specs.declared.reference.Ref.TheVariants.{Free}
use Rattle.and_store_laws.specs.AtWork.{Opening, Held, Holds, WasHung, IsOwnWaiter, place_at, word_at, frames_end}
use Rattle.and_store_laws.proofs.Lists.{all_push, split_end}
use Rattle.and_store_laws.proofs.Journal.{made_settings}
use Rattle.and_store_laws.proofs.Setting.{nothing_more}

pub place_set : (places : List Waiting) (cell : ℕ) (w : Waiting) → cell < length places → place_at (set places cell w) cell ≡ w
place_set places cell w h = get_or-set_same places cell w empty h

pub place_other : (places : List Waiting) (cell c : ℕ) (w : Waiting) → c ≢ cell → place_at (set places cell w) c ≡ place_at places c
place_other places cell c w ne = get_or-set_other places cell c w empty ne

pub if_some_map : (P Q : ℕ → Type 0) → ((x : ℕ) → P x → Q x) → (r : Option ℕ) → IfSome r P → IfSome r Q
if_some_map P Q f None h = tt
if_some_map P Q f (Some x) h = f x h

module _ (o : Opening) (h : Held) (places : List Waiting) (mark : ℕ) (is_failed : Bool) (e : JournalEntry) where
  abbrev k : Held
  k = record { row = h.row; places = places; mark = mark; is_failed = is_failed; journal = h.journal ++ e ∷ [] }

  pub holds_more : Holds o h → ((s : Setting) → e.made ≡ sets s → ⊥) → made_settings e ≡ [] → length places ≡ o.words
      → SideBySide (length o.first) (frames_of k.journal) → (frames_end (length o.first) (frames_of k.journal) ≡ mark) ⊎ (o.words < mark)
      → (is_failed ≡ true → fails_of k.journal ≢ []) × (fails_of k.journal ≢ [] → is_failed ≡ true)
      → ((place : ℕ) → word_at h.row place ≡ Free → place_at places place ≢ closed)
      → ((cell waiter : ℕ) → place_at places cell ≡ occupied waiter → WasHung k.journal waiter cell)
      → AreDistinct (map (λ (g : HungGoal). g.waiter) (hung_of k.journal)) → IsOwnWaiter o.waiters e
      → All (λ (g : HungGoal). IsGoalInRange o.program o.words g.goal) (hung_of k.journal) → Holds o k
  holds_more holds no_setting none len side ends failing is_open hung once own goals =
      let same : settings_of k.journal ≡ settings_of h.journal = nothing_more made_settings h.journal (e ∷ []) (append-nil (made_settings e) ∙ none) in record {
        words = holds.words;
        places = len;
        set_words = λ s. subst (λ l. (Contains (set_in h.row) s → Contains (set_in o.first ++ l) s)
            × (Contains (set_in o.first ++ l) s → Contains (set_in h.row) s)) (sym same) (holds.set_words s);
        set_once = subst (λ l. AreDistinct (map (λ (s : Setting). s.place) (set_in o.first ++ l))) (sym same) holds.set_once;
        fits = holds.fits;
        written_first = holds.written_first;
        written = λ before after d is s made pair value. elim (split_end h.journal e d before after is) [
          | inl r ↦ holds.written before r.0 d r.1 s made pair value
          | inr r ↦ absurd (no_setting s (ap (λ (e : JournalEntry). e.made) r.1 ∙ made))
        ];
        frames = side;
        ends = ends;
        failed = failing;
        open_where_free = is_open;
        occupied_hung = hung;
        hung_once = once;
        own_waiters = all_push (IsOwnWaiter o.waiters) h.journal e holds.own_waiters own;
        goals = goals;
      }
