-- What a worker's steps on its cells come to: which settings of its own came when, and what it knew by then.
use Rattle.std.proofs.Common.{ℕ, ◌≡◌, ◌<◌, ◌⊎◌, inl, inr, Bool, true, false, List, [], ◌∷◌, ◌++◌, map, refl, sym, ap, subst, ◌∙◌, append-nil}
use Rattle.std.proofs.Common.{All, Contains}
use Rattle.std.proofs.lemmas.List.{append_assoc}
use Rattle.std.proofs.lemmas.List.Elements.{All-nil, All-cons, All-append}
use Rattle.and_model.specs.Store.{JournalEntry, Setting, Known, Pass, sets}
use Rattle.and_model.specs.declared.reference.Ref.{Ref}
use Rattle.and_cells.specs.Ranges.{NamedProgram, CanHold}
use Rattle.and_store.specs.Calls.{SetsCell, ClosesPlace}
use Rattle.and_store.specs.Passes.{PassSeen}
use Rattle.and_store.specs.Sight.{About}
use Rattle.and_store.specs.Worked.{CellStep, CellSteps, IsUsed, seen_by, shown}
use Rattle.and_overlay.specs.Overlaid.{IsKnownFit}
use Rattle.and_store_laws.proofs.Lists.{contains_there, contains_first, contains_cases, contains_none, contains_map, map_contains}
use Rattle.std.proofs.lemmas.List.Elements.{Contains-append_right, Contains-append_cases}
use Rattle.std.proofs.lemmas.List.Concat.{flat_map-append}
use Rattle.and_store_laws.proofs.Journal.{made_settings}
use Rattle.and_store_laws.specs.Steps.{entry, setting}
use Rattle.and_handed.specs.Handed.{settings_from}
use Rattle.and_model.specs.Store.{settings_of, set_in}
use Rattle.and_workers.proofs.Quiet.{Learns, all_set_more}
use Rattle.and_workers.proofs.Learning.{looked_learns, none_own, fits_looked}

-- An entry of two lists put together stands in the first one, or behind it in the second.
pub entry_splits : (xs ys before after : List JournalEntry) (e : JournalEntry) → xs ++ ys ≡ before ++ e ∷ after
    → ((rest : List JournalEntry) × (xs ≡ before ++ e ∷ rest)) ⊎ ((early : List JournalEntry) × (before ≡ xs ++ early) × (ys ≡ early ++ e ∷ after))
entry_splits [] ys before after e is = inr (before, refl, is)
entry_splits (x ∷ xs) ys [] after e is = let head : x ≡ e = cc in inl (xs, ap (λ y. y ∷ xs) head)
entry_splits (x ∷ xs) ys (b ∷ before) after e is =
    let head : x ≡ b = cc in
    let tail : xs ++ ys ≡ before ++ e ∷ after = cc in
    elim (entry_splits xs ys before after e tail) [
      | inl r ↦ inl (r.0, ap (λ l. x ∷ l) r.1 ∙ ap (λ y. y ∷ (before ++ e ∷ r.0)) head)
      | inr r ↦ inr (r.0, ap (λ y. y ∷ before) (sym head) ∙ ap (λ l. x ∷ l) r.1, r.2)
    ]

-- each of these settings stands in the first row or in the journal
abbrev pub AllStand : (first : List Ref) → List JournalEntry → List Known → Type 0
AllStand first journal known = All (λ (k : Known). Contains (settings_from first journal) k.setting) known

-- a setting of the pass's own
abbrev pub made_own : Setting → Known
made_own s = record { setting = s; is_own = true }

-- The setting is among these, which became known later, as the pass's own. What was known in front of it stands in what was seen by then.
pub record IsKnownAt (first : List Ref) (p : Pass) (before : List JournalEntry) (more : List Known) (s : Setting) : Type 0 where
  pub early : List Known
  pub late : List Known
  pub is : more ≡ early ++ made_own s ∷ late
  pub stand : AllStand first (p.seen ++ before) (p.known ++ early)

-- From p to q a pass of a store that began with this row looked at cells and set some.
pub record Works (first : List Ref) (p q : Pass) : Type 0 where
  pub number : q.number ≡ p.number
  pub since : List JournalEntry
  pub seen : q.seen ≡ p.seen ++ since
  pub frames : q.frames ≡ p.frames
  pub fails : q.fails ≡ p.fails
  pub more : List Known
  pub known : q.known ≡ p.known ++ more
  pub own : (before after : List JournalEntry) (s : Setting) → since ≡ before ++ entry p.number (sets s) ∷ after → IsKnownAt first p before more s
  pub stand : AllStand first q.seen q.known

-- ---- One step

stand_later : (first : List Ref) (journal since : List JournalEntry) (known : List Known) → AllStand first journal known
    → AllStand first (journal ++ since) known
stand_later = all_set_more

pub learns_works : (first : List Ref) (p q : Pass) → AllStand first p.seen p.known → Learns first p q → Works first p q
learns_works first p q stand l = record {
  number = l.number;
  since = l.since;
  seen = l.seen;
  frames = l.frames;
  fails = l.fails;
  more = l.learnt;
  known = l.known;
  own = λ before after s is.
      let hung = l.hang_only (entry p.number (sets s)) (subst (λ es. Contains es (entry p.number (sets s))) (sym is)
      (contains_there before after (entry p.number (sets s)))) refl in
      let e = hung.1 in absurd (cc);
  stand = subst (AllStand first q.seen) (sym l.known) (All-append (λ (k : Known). Contains (settings_from first q.seen) k.setting) p.known l.learnt
      (subst (λ es. AllStand first es p.known) (sym l.seen) (stand_later first p.seen l.since p.known stand)) l.there);
}

-- the one entry of a list
only_entry : (before after : List JournalEntry) (e d : JournalEntry) → e ∷ [] ≡ before ++ d ∷ after → (before ≡ []) × (e ≡ d)
only_entry [] after e d is = (refl, let head : e ≡ d = cc in head)
only_entry (b ∷ []) after e d is = let tail : [] ≡ d ∷ after = cc in absurd (cc)
only_entry (b ∷ c ∷ before) after e d is = let tail : [] ≡ c ∷ (before ++ d ∷ after) = cc in absurd (cc)

sets_works : (a : About) (cell : ℕ) (to : Ref) (p q : Pass) → AllStand a.first p.seen p.known → SetsCell a cell to p q → Works a.first p q
sets_works a cell to p q stand set =
    let e : JournalEntry = entry p.number (sets (setting cell to)) in
    let since : List JournalEntry = set.sees.since ++ e ∷ [] in
    let seen : q.seen ≡ p.seen ++ since = set.sees.seen ∙ append_assoc p.seen set.sees.since (e ∷ []) in
    let known : q.known ≡ p.known ++ made_own (setting cell to) ∷ [] = ap (λ (x : Pass). x.known) set.becomes in
    record {
      number = ap (λ (x : Pass). x.number) set.becomes;
      since = since;
      seen = seen;
      frames = ap (λ (x : Pass). x.frames) set.becomes;
      fails = ap (λ (x : Pass). x.fails) set.becomes;
      more = made_own (setting cell to) ∷ [];
      known = known;
      own = λ before after s is. elim (entry_splits set.sees.since (e ∷ []) before after (entry p.number (sets s)) is) [
        | inl r ↦ absurd (none_own p set.sees.since set.sees.of_others (entry p.number (sets s))
            (subst (λ es. Contains es (entry p.number (sets s))) (sym r.1) (contains_there before r.0 (entry p.number (sets s)))) refl)
        | inr r ↦
            let one = only_entry r.0 after e (entry p.number (sets s)) r.2 in
            let made : sets (setting cell to) ≡ sets s = ap (λ (x : JournalEntry). x.made) one.1 in
            let same : setting cell to ≡ s = cc in
            record {
              early = [];
              late = [];
              is = ap (λ x. made_own x ∷ []) same;
              stand = subst (AllStand a.first (p.seen ++ before)) (sym (append-nil p.known)) (stand_later a.first p.seen before p.known stand);
            }
      ];
      stand = subst (AllStand a.first q.seen) (sym known)
          (All-append (λ (k : Known). Contains (settings_from a.first q.seen) k.setting) p.known (made_own (setting cell to) ∷ [])
          (subst (λ es. AllStand a.first es p.known) (sym seen) (stand_later a.first p.seen since p.known stand))
          (All-cons (λ (k : Known). Contains (settings_from a.first q.seen) k.setting) (made_own (setting cell to)) []
          (subst (λ es. Contains (settings_from a.first es) (setting cell to)) (sym set.sees.seen)
          (Contains-append_right (set_in a.first) (settings_of ((p.seen ++ set.sees.since) ++ e ∷ [])) (setting cell to)
          (subst (λ l. Contains l (setting cell to)) (sym (flat_map-append made_settings (p.seen ++ set.sees.since) (e ∷ [])))
          (Contains-append_right (settings_of (p.seen ++ set.sees.since)) (setting cell to ∷ []) (setting cell to) (contains_first (setting cell to) [])))))
          (All-nil (λ (k : Known). Contains (settings_from a.first q.seen) k.setting))));
    }

closes_learns : (first : List Ref) (cell : ℕ) (p q : Pass) (kept after : List ℕ) → ClosesPlace cell p q kept after → Learns first p q
closes_learns first cell p q kept after c = record {
  number = ap (λ (x : Pass). x.number) c.becomes;
  since = c.sees.since;
  seen = c.sees.seen ∙ append-nil (p.seen ++ c.sees.since);
  hang_only = λ e among same. absurd (none_own p c.sees.since c.sees.of_others e among same);
  frames = ap (λ (x : Pass). x.frames) c.becomes;
  fails = ap (λ (x : Pass). x.fails) c.becomes;
  learnt = [];
  known = ap (λ (x : Pass). x.known) c.becomes ∙ sym (append-nil p.known);
  none_own = All-nil (λ (k : Known). k.is_own ≡ false);
  there = All-nil (λ (k : Known). Contains (settings_from first q.seen) k.setting);
}

-- ---- One after another

module _ (first : List Ref) (p y q : Pass) (a : Works first p y) (b : Works first y q) where
  seen_both : (before : List JournalEntry) → y.seen ++ before ≡ p.seen ++ (a.since ++ before)
  seen_both before = ap (λ l. l ++ before) a.seen ∙ append_assoc p.seen a.since before

  known_both : (early : List Known) → y.known ++ early ≡ p.known ++ (a.more ++ early)
  known_both early = ap (λ l. l ++ early) a.known ∙ append_assoc p.known a.more early

  own_first : (before after rest : List JournalEntry) (s : Setting) → a.since ≡ before ++ entry p.number (sets s) ∷ rest
      → IsKnownAt first p before (a.more ++ b.more) s
  own_first before after rest s is =
      let k = a.own before rest s is in
      record {
        early = k.early;
        late = k.late ++ b.more;
        is = ap (λ l. l ++ b.more) k.is ∙ append_assoc k.early (made_own s ∷ k.late) b.more;
        stand = k.stand;
      }

  own_second : (before after early : List JournalEntry) (s : Setting) → before ≡ a.since ++ early → b.since ≡ early ++ entry p.number (sets s) ∷ after
      → IsKnownAt first p before (a.more ++ b.more) s
  own_second before after early s at is =
      let k = b.own early after s (is ∙ ap (λ n. early ++ entry n (sets s) ∷ after) (sym a.number)) in
      record {
        early = a.more ++ k.early;
        late = k.late;
        is = ap (λ l. a.more ++ l) k.is ∙ sym (append_assoc a.more k.early (made_own s ∷ k.late));
        stand = subst (λ es. AllStand first es (p.known ++ (a.more ++ k.early))) (seen_both early ∙ ap (λ es. p.seen ++ es) (sym at))
            (subst (AllStand first (y.seen ++ early)) (known_both k.early) k.stand);
      }

  pub works_on : Works first p q
  works_on = record {
    number = b.number ∙ a.number;
    since = a.since ++ b.since;
    seen = b.seen ∙ seen_both b.since;
    frames = b.frames ∙ a.frames;
    fails = b.fails ∙ a.fails;
    more = a.more ++ b.more;
    known = b.known ∙ known_both b.more;
    own = λ before after s is. elim (entry_splits a.since b.since before after (entry p.number (sets s)) is) [
      | inl r ↦ own_first before after r.0 s r.1
      | inr r ↦ own_second before after r.0 s r.1 r.2
    ];
    stand = b.stand;
  }

step_works : (P : NamedProgram) (a : About) (p q : PassSeen) → AllStand a.first p.pass.seen p.pass.known → CellStep P a p q → Works a.first p.pass q.pass
step_works P a p q stand (CellStep.looks_at cell r low looks kept) = learns_works a.first p.pass q.pass stand (looked_learns P a cell r p.pass q.pass looks)
step_works P a p q stand (CellStep.fills place half low can set kept) = sets_works a place half p.pass q.pass stand set
step_works P a p q stand (CellStep.wins cell to low can wins) =
    let one = sets_works a cell to p.pass wins.between stand wins.set in
    works_on a.first p.pass wins.between q.pass one
    (learns_works a.first wins.between q.pass one.stand (closes_learns a.first cell wins.between q.pass p.kept q.kept wins.closes))

none_before : (before after : List JournalEntry) (e : JournalEntry) → [] ≡ before ++ e ∷ after → ⊥
none_before [] after e is = absurd (cc)
none_before (b ∷ before) after e is = absurd (cc)

nothing_works : (first : List Ref) (p : Pass) → AllStand first p.seen p.known → Works first p p
nothing_works first p stand = record {
  number = refl;
  since = [];
  seen = sym (append-nil p.seen);
  frames = refl;
  fails = refl;
  more = [];
  known = sym (append-nil p.known);
  own = λ before after s is. absurd (none_before before after (entry p.number (sets s)) is);
  stand = stand;
}

pub steps_work : (P : NamedProgram) (a : About) (p q : PassSeen) → AllStand a.first p.pass.seen p.pass.known → CellSteps P a p q
    → Works a.first p.pass q.pass
steps_work P a p q stand (CellSteps.no_step x) = nothing_works a.first p.pass stand
steps_work P a p q stand (CellSteps.step_first x y z step rest) =
    let one = step_works P a p y stand step in
    works_on a.first p.pass y.pass q.pass one (steps_work P a y q one.stand rest)

-- ---- What is known names places of the row, and fits there

-- what is known gains one setting at most, which fits
fits_more : (P : NamedProgram) (words : ℕ) (p q : Pass) (s : Setting) (own : Bool) → q.known ≡ p.known ++ record { setting = s; is_own = own } ∷ []
    → (s.place < words) × CanHold P words s.place s.value → IsKnownFit P (shown words p) → IsKnownFit P (shown words q)
fits_more P words p q s own known fits fit place r knows =
    let k = map_contains (λ (k : Known). k.setting) (setting place r) q.known knows in
    elim (Contains-append_cases p.known (record { setting = s; is_own = own } ∷ []) k.0 (subst (λ l. Contains l k.0) known k.1)) [
      | inl early ↦ fit place r (subst (Contains (map (λ (k : Known). k.setting) p.known)) k.2 (contains_map (λ (k : Known). k.setting) k.0 p.known early))
      | inr late ↦ elim (contains_cases (record { setting = s; is_own = own }) k.0 [] late) [
        | inl here ↦
            let same : s ≡ setting place r = ap (λ (k : Known). k.setting) (sym here) ∙ k.2 in
            subst (λ (s : Setting). (s.place < words) × CanHold P words s.place s.value) same fits
        | inr more ↦ absurd (contains_none k.0 more)
      ]
    ]

step_fits : (P : NamedProgram) (a : About) (p q : PassSeen) → CellStep P a p q → IsKnownFit P (shown a.words p.pass) → IsKnownFit P (shown a.words q.pass)
step_fits P a p q (CellStep.looks_at cell r low looks kept) fit =
    let x : PassSeen = record p { store = record { table = p.store.table; about = a } } in
    let y : PassSeen = record q { store = record { table = p.store.table; about = a } } in
    fits_looked P a cell r x y refl refl low looks fit
step_fits P a p q (CellStep.fills place half low can set kept) fit =
    fits_more P a.words p.pass q.pass (setting place half) true (ap (λ (x : Pass). x.known) set.becomes) (low, can) fit
step_fits P a p q (CellStep.wins cell to low can wins) fit =
    fits_more P a.words p.pass q.pass (setting cell to) true
    (ap (λ (x : Pass). x.known) wins.closes.becomes ∙ ap (λ (x : Pass). x.known) wins.set.becomes) (low, can) fit

steps_fit : (P : NamedProgram) (a : About) (p q : PassSeen) → CellSteps P a p q → IsKnownFit P (shown a.words p.pass) → IsKnownFit P (shown a.words q.pass)
steps_fit P a p q (CellSteps.no_step x) fit = fit
steps_fit P a p q (CellSteps.step_first x y z step rest) fit = steps_fit P a y q rest (step_fits P a p y step fit)

pub fits_used : (P : NamedProgram) (p q : PassSeen) → IsUsed P p q → IsKnownFit P (seen_by p) → IsKnownFit P (seen_by q)
fits_used P p q used fit =
    subst (λ s. IsKnownFit P (shown s.about.words q.pass)) (sym used.store) (steps_fit P p.store.about p q used.steps fit)
