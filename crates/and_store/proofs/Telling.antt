-- What the steps of the table tell, said of the pass alone.
use Rattle.std.proofs.Common.{ℕ, suc, ◌≡◌, ◌≢◌, inl, inr, true, false, Bool, cond, List, [], ◌∷◌, ◌++◌, map, refl, sym, ap, subst, ◌∙◌, append-nil, Contains}
use Rattle.std.specs.Prelude.{nat_eq, not}
use Rattle.std.proofs.lemmas.List.Elements.{All-contains}
use Rattle.and_store.specs.Kept.{flag}
use Rattle.and_model.specs.Store.{Setting, Found, closed, JournalEntry, Known, Made, sets, fails, fails_of, Pass, entries_by, set_in, settings_of}
use Rattle.and_model.specs.Words.{HasWord, word_of}
use Rattle.and_model.specs.declared.reference.Ref.{Ref}
use Rattle.and_model.specs.declared.reference.Ref.TheVariants.{Free}
use Rattle.and_cells.specs.Ranges.{NamedProgram, CanHold}
use Rattle.and_store_laws.specs.AtWork.{Opening, Member, Held, Works, Holds, word_at}
use Rattle.and_store_laws.specs.Steps.{setting, entry, looked, set_as, failed_as, asks_failed}
use Rattle.and_store_laws.proofs.Opened.{known_is_so, others_since}
use Rattle.and_store_laws.proofs.Words.{free_or, set_in_has}
use Rattle.and_store_laws.proofs.Lists.{contains_map}
use Rattle.and_store_laws.proofs.Quiet.{knew}
use Rattle.and_store_laws.proofs.Setting.{is_written, free_unset}
use Rattle.and_store.specs.Calls.{Sees, LooksAt, SetsCell, Fails, FindsFailed}
use Rattle.and_store.specs.Sight.{About, Sight, opening_of}
use Rattle.and_store.specs.Told.{mine_of, Amid, LookTold, SetTold, FailTold, FailedTold}
use Rattle.and_store.proofs.Failing.{no_fails}

pub works_of : (o : Opening) (m : Member) (h : Held) → Amid o m h → Works o h m
works_of o m h a = All-contains (Works o h) a.members m a.at_work.each a.there

-- what the pass has seen by a step, and the journal before that step
sees_after : (o : Opening) (m : Member) (h : Held) (made : List Made) (q : Pass) → Amid o m h → q.seen ≡ h.journal ++ map (entry m.pass.number) made
    → (s : Sees made m.pass q) × (h.journal ≡ m.pass.seen ++ s.since)
sees_after o m h made q a e =
    let s = others_since o h m (works_of o m h a) in
    (record { since = s.0; of_others = s.2; seen = e ∙ ap (λ j. j ++ map (entry m.pass.number) made) s.1 }, s.1)

pub sees_made : (o : Opening) (m : Member) (h : Held) (made : List Made) (q : Pass) → Amid o m h → q.seen ≡ h.journal ++ map (entry m.pass.number) made
    → Sees made m.pass q
sees_made o m h made q a e = (sees_after o m h made q a e).0

pub sees_none : (o : Opening) (m : Member) (h : Held) (q : Pass) → Amid o m h → q.seen ≡ h.journal → Sees [] m.pass q
sees_none o m h q a e = sees_made o m h [] q a (e ∙ sym (append-nil h.journal))

-- nothing of the cell is known where its word is free
unknown : (o : Opening) (m : Member) (h : Held) (cell : ℕ) → Amid o m h → word_at h.row cell ≡ Free → (k : Known) → Contains m.pass.known k
    → k.setting.place ≢ cell
unknown o m h cell a free k c e =
    let so = known_is_so o a.members h m k a.at_work a.there c in
    so.1 (sym so.0 ∙ ap (word_at h.row) e ∙ free)

-- no setting of the journal is of a place that is free
free_of : (o : Opening) (h : Held) (place : ℕ) → Holds o h → word_at h.row place ≡ Free
    → (s : Setting) → Contains (set_in o.first ++ settings_of h.journal) s → s.place ≢ place
free_of o h place holds free s c here =
    let all : List Setting = set_in o.first ++ settings_of h.journal in
    free_unset o h place holds free (subst (Contains (map (λ (s : Setting). s.place) all)) here (contains_map (λ (s : Setting). s.place) s all c))

pub look_tells : (P : NamedProgram) (cell : ℕ) (v : Sight) (found : ℕ) (w : Sight) → (t : LookTold P cell v found w)
    → LooksAt P v.about cell (word_at t.held.row cell) (mine_of v).pass (mine_of w).pass
look_tells P cell v found w t =
    let o = opening_of P v.about in
    let m = mine_of v in
    let h = t.held in
    let r = word_at h.row cell in
    let n = looked cell r h.journal m in
    subst (λ (w : Sight). LooksAt P v.about cell r m.pass (mine_of w).pass) (sym t.went.view) (record {
      sees = sees_none o m h n.pass t.went.before refl;
      becomes = refl;
      as_known = λ k c e.
          let so = known_is_so o t.went.before.members h m k t.went.before.at_work t.went.before.there c in
          let is : r ≡ k.setting.value = ap (word_at h.row) (sym e) ∙ so.0 in
          (is, λ free. so.1 (sym is ∙ free));
      written = λ pair knows here.
          let both = is_written o h m.pass.known pair t.went.before.at_work.holds
          (knew o.first h.mark h.journal m.pass (works_of o m h t.went.before).fits) knows in
          elim here [
            | inl e ↦ λ free. free_unset o h pair t.went.before.at_work.holds (ap (word_at h.row) (sym e) ∙ free) both.0
            | inr e ↦ λ free. free_unset o h (suc pair) t.went.before.at_work.holds (ap (word_at h.row) (sym e) ∙ free) both.1
          ];
      place_closed = λ f c e is free.
          All-contains (λ (f : Found). f.place ≡ closed → word_at h.row f.cell ≢ Free) m.pass.found f (works_of o m h t.went.before).found_closed c e
          (ap (word_at h.row) is ∙ free);
      is_word = (
        λ ne. (t.went.before.at_work.holds.set_words (setting cell r)).0 (set_in_has h.row cell r refl ne),
        λ free. free_of o h cell t.went.before.at_work.holds free,
      );
      fits = elim (free_or r) [
        | inl f ↦ subst (CanHold P v.about.words cell) (sym f.1) tt
        | inr f ↦ t.went.before.at_work.holds.fits (setting cell r) (set_in_has h.row cell r refl f.1)
      ];
    })

pub set_tells : (P : NamedProgram) (cell : ℕ) (to : Ref) (v w : Sight) → SetTold P cell to v w → SetsCell v.about cell to (mine_of v).pass (mine_of w).pass
set_tells P cell to v w t =
    let o = opening_of P v.about in
    let m = mine_of v in
    let h = t.held in
    let n = set_as cell to h.journal m in
    let s = sees_after o m h (sets (setting cell to) ∷ []) n.pass t.went.before refl in
    subst (λ (w : Sight). SetsCell v.about cell to m.pass (mine_of w).pass) (sym t.went.view) (record {
      sees = s.0;
      becomes = refl;
      not_known = unknown o m h cell t.went.before t.free;
      was_free = subst (λ j. (s : Setting) → Contains (set_in v.about.first ++ settings_of j) s → s.place ≢ cell) s.1
          (free_of o h cell t.went.before.at_work.holds t.free);
    })

-- the same, said of what else is equal
pub look_so : (P : NamedProgram) (cell : ℕ) (v : Sight) (found : ℕ) (w : Sight) (a : About) (r : Ref) (p : Pass) → v.about ≡ a → (mine_of v).pass ≡ p
    → LookTold P cell v found w → ((t : Ref) → HasWord t → word_of t ≡ found → r ≡ t) → LooksAt P a cell r p (mine_of w).pass
look_so P cell v found w a r p e f t named =
    subst (λ a. LooksAt P a cell r p (mine_of w).pass) e
    (subst (λ p. LooksAt P v.about cell r p (mine_of w).pass) f
    (subst (λ r. LooksAt P v.about cell r (mine_of v).pass (mine_of w).pass) (sym (named (word_at t.held.row cell) t.named (sym t.found_is)))
    (look_tells P cell v found w t)))

pub fail_tells : (P : NamedProgram) (v w : Sight) → FailTold P v w → Fails (mine_of v).pass (mine_of w).pass
fail_tells P v w t =
    let m = mine_of v in
    let n = failed_as t.held.journal m in
    subst (λ (w : Sight). Fails m.pass (mine_of w).pass) (sym t.went.view)
    (record { sees = sees_made (opening_of P v.about) m t.held (fails ∷ []) n.pass t.went.before refl; becomes = refl })

fails_in : (o : Opening) (m : Member) (h : Held) → Works o h m → m.pass.fails ≢ [] → fails_of h.journal ≢ []
fails_in o m h w ne none = ne (w.fits.fails ∙ no_fails m.pass h.journal none)

raised : (b : Bool) → not (nat_eq (flag b) 0) ≡ b
raised true = refl
raised false = refl

pub failed_tells : (P : NamedProgram) (v : Sight) (found : ℕ) (w : Sight) → FailedTold P v found w
    → FindsFailed (not (nat_eq found 0)) (mine_of v).pass (mine_of w).pass
failed_tells P v found w t =
    let o = opening_of P v.about in
    let m = mine_of v in
    let h = t.held in
    let n = asks_failed h.is_failed h.journal m in
    subst (λ b. FindsFailed b m.pass (mine_of w).pass) (sym (ap (λ n. not (nat_eq n 0)) t.found_is ∙ raised h.is_failed))
    (subst (λ (w : Sight). FindsFailed h.is_failed m.pass (mine_of w).pass) (sym t.went.view) (record {
      sees = sees_none o m h n.pass t.went.before refl;
      becomes = refl;
      by_some = t.went.before.at_work.holds.failed;
      own = λ ne. t.went.before.at_work.holds.failed.1 (fails_in o m h (works_of o m h t.went.before) ne);
    }))
