-- The acts of a phase: each frame that was given is a worker's reduction, and each reduction stands where its call was.
use Rattle.std.proofs.Common.{ℕ, ◌≡◌, false, List, [], map, reverse, flat_map}
use Rattle.std.proofs.Common.{All, Contains, refl, ap, sym, ◌∙◌, subst}
use Rattle.std.proofs.lemmas.List.Elements.{All-contains, Contains-append_right}
use Rattle.and_model.specs.Reductions.{Reduction}
use Rattle.and_model.specs.Store.{JournalEntry, Frame, Made, Pass, sets, gives, fails, hangs, settings_of, set_in}
use Rattle.and_model.specs.declared.goal.Goal.{Goal}
use Rattle.and_model.specs.declared.goal.Reduction as declared
use Rattle.and_model.specs.declared.reference.Ref.{Ref}
use Rattle.and_cells.specs.Ranges.{NamedProgram}
use Rattle.and_cells.specs.Seen.{word_at}
use Rattle.and_model.specs.declared.goal.Frame as framing
use Rattle.and_code.specs.Written.{written}
use Rattle.and_store.specs.Ended.{passes_of}
use Rattle.and_store.specs.Passes.{PassSeen}
use Rattle.and_store_laws.proofs.Lists.{contains_first, contains_map, map_contains, contains_flat}
use Rattle.and_store_laws.proofs.Journal.{made_settings, entries_of, made_in, made_by}
use Rattle.and_store_laws.proofs.Going.{made_frames}
use Rattle.and_handed.specs.Handed.{frame_of}
use Rattle.and_handed.specs.declared.told.Reduced.{Reduced}
use Rattle.and_handed.specs.declared.told.HandedOn.{HandedOn}
use Rattle.and_gathering.specs.Gathering.{IsGathered}
use Rattle.and_gathering.specs.declared.gathering.Gathered.{Gathered}
use Rattle.and_row_check.specs.Places.{IsWhole}
use Rattle.and_worker_laws.specs.Acts
use Rattle.and_worker_laws.specs.Acts.{Act, takes, reductions, weight_taken, IsThere, IsTaken, AreTaken}
use Rattle.and_closing_laws.specs.Phases.{HasPhased}
use Rattle.and_closing_laws.specs.Acting.{Ended, all_ended, IsTaking, IsActOf, AreActsOf}
use Rattle.and_closing_laws.proofs.Workers.{acted_of, told_of_ended, ended_of_pass, has_ended}
use Rattle.and_closing_laws.proofs.Meeting.{made_met, one_met}
use Rattle.and_closing_laws.proofs.Journals.{all_acts}
use Rattle.and_closing_laws.proofs.Entries.{act_by, act_entry, entry_act, of_takes}
use Rattle.and_closing_laws.proofs.Lists.{in_reverse, of_reverse}
use Rattle.and_closing_laws.proofs.Standing.{made_gives, entry_gives}
use Rattle.and_closing_laws.proofs.Settings.{setting_acts}

module _ (P : NamedProgram) (first row : List Ref) (tolds : List HandedOn) (h : HasPhased P first row tolds)
    (clean : All (λ (t : HandedOn). t.is_spoilt ≡ false) tolds) where
  abbrev ended : List Ended
  ended = all_ended tolds h.passes

  -- ---- entries and reductions

  -- Each entry is some worker's.
  pub entry_worker : (e : JournalEntry) → Contains h.journal e → (who : Ended) × Contains ended who × (who.1.pass.number ≡ e.pass)
  entry_worker e among =
      let numbers : List ℕ = map (λ (x : Pass). x.number) (passes_of h.passes) in
      let named = All-contains (λ (x : JournalEntry). Contains numbers x.pass) h.journal e h.closes.row_fits.by_a_pass among in
      let p = map_contains (λ (x : Pass). x.number) e.pass (passes_of h.passes) named in
      let s = map_contains (λ (x : PassSeen). x.pass) p.0 h.passes p.1 in
      let who = ended_of_pass P tolds h.passes h.hand_on s.0 s.1 in
      (who.0, who.1, ap (λ (x : PassSeen). x.pass.number) who.2 ∙ ap (λ (x : Pass). x.number) s.2 ∙ p.2)

  -- A frame that a worker's entry gives is that of a reduction of its own.
  given_by : (e : JournalEntry) (f : Frame) → Contains h.journal e → e.made ≡ gives f → (who : Ended) → Contains ended who → who.1.pass.number ≡ e.pass
      → (m : Reduced) × Contains who.0.made.items m × (f ≡ frame_of P.program m)
  given_by e f among made who one number =
      let has = has_ended P first row tolds h clean who one in
      let mine : Contains (flat_map made_frames (entries_of who.1.pass.number h.journal)) f =
      subst (λ (n : ℕ). Contains (flat_map made_frames (entries_of n h.journal)) f) (sym number)
      (made_by made_frames h.journal e f among (made_gives e f made)) in
      let listed : Contains (map (frame_of P.program) who.0.made.items) f =
      subst (λ (l : List Frame). Contains l f) (sym has.fits.frames ∙ (acted_of P _ _ h.journal who has).frames) mine in
      let m = map_contains (frame_of P.program) f who.0.made.items listed in
      (m.0, m.1, sym m.2)

  -- Each reduction has its entry.
  made_given : (who : Ended) (m : Reduced) → Contains ended who → Contains who.0.made.items m
      → (e : JournalEntry) × Contains h.journal e × (e.made ≡ gives (frame_of P.program m)) × (e.pass ≡ who.1.pass.number)
  made_given who m one among =
      let has = has_ended P first row tolds h clean who one in
      let listed : Contains (flat_map made_frames (entries_of who.1.pass.number h.journal)) (frame_of P.program m) =
      subst (λ (l : List Frame). Contains l (frame_of P.program m)) (sym (acted_of P _ _ h.journal who has).frames ∙ has.fits.frames)
      (contains_map (frame_of P.program) m who.0.made.items among) in
      let e = made_in made_frames who.1.pass.number h.journal (frame_of P.program m) listed in
      (e.0, e.1, entry_gives e.0.made (frame_of P.program m) e.3, e.2)

  -- ---- there are acts

  module _ (frames : List framing.Frame) (whole : IsWhole P frames row) where
    act_for : (n : ℕ) (m : Made) → Contains h.journal (record { pass = n; made = m })
        → (a : Act) × IsActOf P (word_at row) ended (record { pass = n; made = m }) a
    act_for n (sets s) among =
        let listed : Contains (settings_of h.journal) s =
        contains_flat made_settings (record { pass = n; made = sets s }) s h.journal among (contains_first s []) in
        setting_acts P frames row whole n s
        ((h.closes.row_fits.set_words s).1 (Contains-append_right (set_in h.about.first) (settings_of h.journal) s listed))
    act_for n (gives f) among =
        let who = entry_worker (record { pass = n; made = gives f }) among in
        let x = given_by (record { pass = n; made = gives f }) f among refl who.0 who.1 who.2 in (
          takes n x.0.goal (written x.0.reduction),
          record { who = who.0; one = who.1; number = who.2; made = x.0; among = x.1; frame = x.2; is = refl },
        )
    act_for n fails among = (Acts.fails n, refl)
    act_for n (hangs g) among = (_, refl)

    pub acts_are : (acts : List Act) × AreActsOf P (word_at row) ended (reverse h.journal) acts
    acts_are = all_acts P (word_at row) ended (reverse h.journal) (λ e c. act_for e.pass e.made (of_reverse h.journal e c))

  -- ---- acts and reductions

  module _ (goals : List Goal) (used limit : ℕ) (g : Gathered) (q : IsGathered P.program goals used limit tolds g) where
    -- An act of an entry that gives the frame of a reduction is that reduction.
    entry_takes : (e : JournalEntry) (a : Act) → IsActOf P (word_at row) ended e a → (who : Ended) (m : Reduced) → Contains ended who
        → Contains who.0.made.items m → e.made ≡ gives (frame_of P.program m) → a ≡ takes e.pass m.goal (written m.reduction)
    entry_takes e a is who m one among made =
        let x : IsTaking P ended e.pass (frame_of P.program m) a = act_by P (word_at row) ended e (gives (frame_of P.program m)) a made is in
        let node : x.made.reduction.node ≡ m.reduction.node = ap (λ (f : Frame). f.base) (sym x.frame) in
        let same = one_met P.program goals used limit tolds g q x.made.goal m.goal x.made.reduction m.reduction
        (made_met P.program goals used limit tolds g q x.who.0 x.made (told_of_ended tolds h.passes x.who x.one) x.among)
        (made_met P.program goals used limit tolds g q who.0 m (told_of_ended tolds h.passes who one) among) node in
        x.is ∙ ap (λ (k : Goal). takes e.pass k (written x.made.reduction)) same.0
        ∙ ap (λ (r : declared.Reduction). takes e.pass m.goal (written r)) same.1

    -- What a worker did is among the acts of entries of which one gives its frame,
    pub given_act : (js : List JournalEntry) (acts : List Act) → AreActsOf P (word_at row) ended js acts → (e : JournalEntry) → Contains js e
        → (who : Ended) (m : Reduced) → Contains ended who → Contains who.0.made.items m → e.made ≡ gives (frame_of P.program m)
        → Contains acts (takes e.pass m.goal (written m.reduction))
    given_act js acts are e there who m one among made =
        let a = entry_act P (word_at row) ended js acts are e there in
        subst (Contains acts) (entry_takes e a.0 a.2 who m one among made) a.1

    -- and so among all.
    pub made_act : (acts : List Act) → AreActsOf P (word_at row) ended (reverse h.journal) acts → (who : Ended) (m : Reduced) → Contains ended who
        → Contains who.0.made.items m → Contains acts (takes who.1.pass.number m.goal (written m.reduction))
    made_act acts are who m one among =
        let e = made_given who m one among in
        subst (λ (n : ℕ). Contains acts (takes n m.goal (written m.reduction))) e.3
        (given_act (reverse h.journal) acts are e.0 (in_reverse h.journal e.0 e.1) who m one among e.2)

-- A reduction among acts is some worker's.
pub act_made : (P : NamedProgram) (first row : List Ref) (tolds : List HandedOn) (h : HasPhased P first row tolds) (acts : List Act)
    → AreActsOf P (word_at row) (all_ended tolds h.passes) (reverse h.journal) acts → (v : ℕ) (k : Goal) (r : Reduction) → Contains acts (takes v k r)
    → (who : Ended) × (m : Reduced) × Contains (all_ended tolds h.passes) who × Contains who.0.made.items m × (m.goal ≡ k) × (written m.reduction ≡ r)
act_made P first row tolds h acts are v k r c =
    let e = act_entry P (word_at row) (all_ended tolds h.passes) (reverse h.journal) acts are (takes v k r) c in
    let f = of_takes P (word_at row) (all_ended tolds h.passes) e.0 v k r e.2 in
    let is : takes v k r ≡ takes e.0.pass f.taking.made.goal (written f.taking.made.reduction) = f.taking.is in
    (f.taking.who, f.taking.made, f.taking.one, f.taking.among, cc, cc)
