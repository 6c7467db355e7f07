-- What a worker keeps while its pass only sees and learns.
use Rattle.std.proofs.Common.{ℕ, ◌≡◌, ◌<◌, ◌≤◌, ◌⊎◌, inl, inr, true, false, List, [], ◌∷◌, ◌++◌, map, length, refl, sym, ap, subst, ◌∙◌, arith, All, Contains}
use Rattle.std.proofs.lemmas.Bool.{false≢true}
use Rattle.std.proofs.lemmas.List.{append_assoc, length-append, map-append}
use Rattle.std.proofs.lemmas.List.Elements.{All-weaker, All-append, All-contains, Contains-append_left, Contains-append_right, Contains-append_cases}
use Rattle.std.proofs.lemmas.List.Concat.{flat_map-append}
use Rattle.and_model.specs.Terms.{Substitution}
use Rattle.and_model.specs.Store.{JournalEntry, HungGoal, Setting, Known, Pass, sets, gives, hangs, settings_of, set_in, is_half}
use Rattle.and_model.specs.declared.reference.Ref.{Ref}
use Rattle.and_cells.specs.Meaning.{Words}
use Rattle.and_cells.specs.Ranges.{NamedProgram}
use Rattle.and_cells.specs.Seen.{Knows, IsWrittenIfNumber}
use Rattle.and_cells.proofs.Chains.{written_later}
use Rattle.and_overlay.specs.Overlaid.{IsKnownFit}
use Rattle.and_workers.specs.Waiting.{Waiting}
use Rattle.and_unify.specs.declared.pairs.Pair.{Pair}
use Rattle.and_store.specs.Passes.{PassSeen}
use Rattle.and_store.specs.Worked.{seen_by}
use Rattle.and_store_laws.proofs.Journal.{made_settings}
use Rattle.and_store_laws.proofs.Lists.{contains_there}
use Rattle.and_store_laws.specs.Steps.{entry, setting}
use Rattle.and_workers.specs.AtWork.{IsAtWork}
use Rattle.and_handed.specs.Handed.{settings_from, HasAll, SolvesAll, SolvesAsked, FitsSeen, IsSole, WasRun, SettingsFollow, PairsLeft, HasActed, HasDone}
use Rattle.and_handed.specs.Handed.{Kills, frame_of}
use Rattle.and_handed.specs.declared.told.Cause.TheVariants.{NoSolution}
use Rattle.and_handed.specs.declared.told.Reduced.{Reduced}
use Rattle.and_handed.specs.declared.told.Ran.{Ran}
use Rattle.and_handed.specs.declared.told.HandedOn.{HandedOn}

-- of these entries those of the pass with this number hung goals
abbrev pub HangOnly : (number : ℕ) → List JournalEntry → Type 0
HangOnly number since = (e : JournalEntry) → Contains since e → e.pass ≡ number → (g : HungGoal) × (e.made ≡ hangs g)

-- those of that pass which are settings set words of pairs
abbrev pub SetHalves : (number : ℕ) → List JournalEntry → Type 0
SetHalves number since = (e : JournalEntry) → Contains since e → e.pass ≡ number → (s : Setting) → e.made ≡ sets s → is_half s.value ≡ true

pub hanging_sets_halves : (number : ℕ) (since : List JournalEntry) → HangOnly number since → SetHalves number since
hanging_sets_halves number since hang e among same s is = let hung = hang e among same in let f = hung.1 in absurd (cc)

-- From p to q a pass of a store that began with this row saw more and learnt of more settings, and it may have hung goals. It set nothing,
-- took no frame, and did not fail.
pub record Learns (first : List Ref) (p q : Pass) : Type 0 where
  pub number : q.number ≡ p.number
  pub since : List JournalEntry
  pub seen : q.seen ≡ p.seen ++ since
  pub hang_only : HangOnly p.number since
  pub frames : q.frames ≡ p.frames
  pub fails : q.fails ≡ p.fails
  pub learnt : List Known
  pub known : q.known ≡ p.known ++ learnt
  pub none_own : All (λ (k : Known). k.is_own ≡ false) learnt
  -- What it learnt stands in what it has seen by then.
  pub there : All (λ (k : Known). Contains (settings_from first q.seen) k.setting) learnt

-- The same of a pass and its store.
pub record OnlyLearnt (p q : PassSeen) : Type 0 where
  pub store : q.store ≡ p.store
  pub learns : Learns p.store.about.first p.pass q.pass

-- ---- What is in a journal is in a longer one

pub set_more : (first : List Ref) (journal since : List JournalEntry) (s : Setting)
    → Contains (settings_from first journal) s → Contains (settings_from first (journal ++ since)) s
set_more first journal since s c = elim (Contains-append_cases (set_in first) (settings_of journal) s c) [
  | inl early ↦ Contains-append_left (set_in first) (settings_of (journal ++ since)) s early
  | inr late ↦ Contains-append_right (set_in first) (settings_of (journal ++ since)) s
      (subst (λ l. Contains l s) (sym (flat_map-append made_settings journal since)) (Contains-append_left (settings_of journal) (settings_of since) s late))
]

pub all_set_more : (first : List Ref) (journal since : List JournalEntry) (known : List Known)
    → All (λ (k : Known). Contains (settings_from first journal) k.setting) known
    → All (λ (k : Known). Contains (settings_from first (journal ++ since)) k.setting) known
all_set_more first journal since known =
    All-weaker (λ (k : Known). Contains (settings_from first journal) k.setting) (λ (k : Known). Contains (settings_from first (journal ++ since)) k.setting)
    (λ k. set_more first journal since k.setting) known

pub has_less : (w : Words) (first : List Ref) (journal since : List JournalEntry) → HasAll w first (journal ++ since) → HasAll w first journal
has_less w first journal since has s c = has s (set_more first journal since s c)

pub solves_less : (P : NamedProgram) (w : Words) (first : List Ref) (journal since : List JournalEntry) (t : Substitution)
    → SolvesAll P w first (journal ++ since) t → SolvesAll P w first journal t
solves_less P w first journal since t solves s c = solves s (set_more first journal since s c)

pub asked_less : (P : NamedProgram) (first : List Ref) (told : HandedOn) (short long : ℕ) (t : Substitution) → short ≤ long
    → SolvesAsked P first told long t → SolvesAsked P first told short t
asked_less P first told short long t below asked = record {
  made = λ m among before. asked.made m among (omega arith);
  ran = λ r among before. asked.ran r among (omega arith);
}

pub front_is_short : (whole front back : List JournalEntry) → whole ≡ front ++ back → length front ≤ length whole
front_is_short whole front back is = let n = ap length is ∙ length-append front back in omega arith

-- an entry of two lists put together stands in the first one, or is one of the second
pub entry_stands : (xs ys before after : List JournalEntry) (e : JournalEntry) → xs ++ ys ≡ before ++ e ∷ after
    → ((rest : List JournalEntry) × (xs ≡ before ++ e ∷ rest)) ⊎ Contains ys e
entry_stands [] ys before after e is = inr (subst (λ l. Contains l e) (sym is) (contains_there before after e))
entry_stands (x ∷ xs) ys [] after e is = let head : x ≡ e = cc in inl (xs, ap (λ y. y ∷ xs) head)
entry_stands (x ∷ xs) ys (b ∷ before) after e is =
    let head : x ≡ b = cc in
    let tail : xs ++ ys ≡ before ++ e ∷ after = cc in
    elim (entry_stands xs ys before after e tail) [
      | inl r ↦ inl (r.0, ap (λ l. x ∷ l) r.1 ∙ ap (λ y. y ∷ (before ++ e ∷ r.0)) head)
      | inr c ↦ inr c
    ]

-- ---- What was done stays done

-- the pass as it is after more was seen and learnt, its other lists being those of the second one
abbrev pub later : (p : PassSeen) → Pass → (kept : List ℕ) → (since : List JournalEntry) → (learnt : List Known) → PassSeen
later p q kept since learnt = record {
  store = p.store;
  pass = record q {
    number = p.pass.number;
    seen = p.pass.seen ++ since;
    frames = p.pass.frames;
    known = p.pass.known ++ learnt;
  };
  kept = kept;
}

module _ (P : NamedProgram) (told : HandedOn) (p : PassSeen) (q : Pass) (kept : List ℕ) (since : List JournalEntry) (learnt : List Known) where
  abbrev pub z : PassSeen
  z = later p q kept since learnt

  knows_more : (place : ℕ) (r : Ref) → Knows (seen_by p) place r → Knows (seen_by z) place r
  knows_more place r knows = subst (λ l. Contains l (setting place r)) (sym (map-append (λ (k : Known). k.setting) p.pass.known learnt))
      (Contains-append_left (map (λ (k : Known). k.setting) p.pass.known) (map (λ (k : Known). k.setting) learnt) (setting place r) knows)

  pub fits_before : (w : Words) → FitsSeen P told z w → FitsSeen P told p w
  fits_before w fits = record {
    has = has_less w p.store.about.first p.pass.seen since fits.has;
    made = fits.made;
    ran = fits.ran;
  }

  pub sole_later : (m : Reduced) → IsSole P p m → IsSole P z m
  sole_later m sole = record {
    can = sole.can;
    parent = sole.parent;
    item = sole.item;
    sole = sole.sole;
    knows = sole.knows;
    since = sole.since;
    of_others = sole.of_others;
    after = sole.after ++ since;
    taken = ap (λ l. l ++ since) sole.taken ∙ append_assoc (m.judged.value.pass.seen ++ sole.since) (entry p.pass.number (gives
        (frame_of P.program m)) ∷ sole.after) since;
  }

  pub run_later : (r : Ran) → WasRun P p.store.about.first told p r → WasRun P p.store.about.first told z r
  run_later r run = record {
    placed = elim run.placed [
      | inl early ↦ inl early
      | inr f ↦ inr (record { made = f.made; is = f.is; base = f.base; clause = f.clause; before = f.before })
    ];
    known = run.known;
    after = run.after ++ since;
    seen = ap (λ l. l ++ since) run.seen ∙ append_assoc r.judged.value.pass.seen run.after since;
  }

  settings_later : SetHalves p.pass.number since → SettingsFollow P told p → SettingsFollow P told z
  settings_later halves follow before after s is half w fits t solves asked =
      elim (entry_stands p.pass.seen since before after (entry p.pass.number (sets s)) is) [
        | inl r ↦ follow before r.0 s r.1 half w (fits_before w fits) t solves asked
        | inr c ↦ absurd (false≢true (sym half ∙ halves (entry p.pass.number (sets s)) c refl s refl))
      ]

  pub judged_is_short : (m : Reduced) → IsSole P p m → length m.judged.value.pass.seen ≤ length p.pass.seen
  judged_is_short m sole =
      let one = front_is_short p.pass.seen (m.judged.value.pass.seen ++ sole.since) (entry p.pass.number (gives
      (frame_of P.program m)) ∷ sole.after) sole.taken in
      let other = front_is_short (m.judged.value.pass.seen ++ sole.since) m.judged.value.pass.seen sole.since refl in
      omega arith

  pub asked_all : (pairs : List Pair) → HasDone P told pairs p → (t : Substitution) → SolvesAsked P p.store.about.first told (length p.pass.seen) t
      → SolvesAsked P p.store.about.first told (length (p.pass.seen ++ since)) t
  asked_all pairs done t asked = record {
    made = λ m among before. let sole = All-contains (IsSole P p) told.made.items m done.made among in asked.made m among (judged_is_short m sole);
    ran = λ r among before. let run = All-contains (WasRun P p.store.about.first told p) told.ran.items r done.ran among in
        asked.ran r among (front_is_short p.pass.seen r.judged.value.pass.seen run.after run.seen);
  }

  pub pairs_later : (pairs : List Pair) → HasDone P told pairs p → PairsLeft P told pairs z
  pairs_later pairs done = record {
    in_range = done.pairs_left.in_range;
    written = All-weaker (λ (e : Pair). IsWrittenIfNumber (seen_by p) e.left × IsWrittenIfNumber (seen_by p) e.right)
        (λ (e : Pair). IsWrittenIfNumber (seen_by z) e.left × IsWrittenIfNumber (seen_by z) e.right)
        (λ e both. (written_later (seen_by p) (seen_by z) e.left knows_more both.0, written_later (seen_by p) (seen_by z) e.right knows_more both.1)) pairs
        done.pairs_left.written;
    asked = λ w fits t solves asked. done.pairs_left.asked w (fits_before w fits) t (solves_less P w p.store.about.first p.pass.seen since t solves)
        (asked_less P p.store.about.first told (length p.pass.seen) (length (p.pass.seen ++ since)) t (front_is_short
        (p.pass.seen ++ since) p.pass.seen since refl) asked);
    all = λ w fits t solves solved. asked_all pairs done t
        (done.pairs_left.all w (fits_before w fits) t (solves_less P w p.store.about.first p.pass.seen since t solves) solved);
  }

  none_later : Kills P told p NoSolution → Kills P told z NoSolution
  none_later kills w fits t solves asked =
      kills w (fits_before w fits) t (solves_less P w p.store.about.first p.pass.seen since t solves)
      (asked_less P p.store.about.first told (length p.pass.seen) (length (p.pass.seen ++ since)) t (front_is_short
      (p.pass.seen ++ since) p.pass.seen since refl) asked)

  acted_later : SetHalves p.pass.number since → HasActed P told p → HasActed P told z
  acted_later none done = record {
    frames = done.frames;
    made = All-weaker (IsSole P p) (IsSole P z) sole_later told.made.items done.made;
    ran = All-weaker (WasRun P p.store.about.first told p) (WasRun P p.store.about.first told z) run_later told.ran.items done.ran;
    settings = settings_later none done.settings;
  }

  done_later : (pairs : List Pair) → SetHalves p.pass.number since → HasDone P told pairs p → HasDone P told pairs z
  done_later pairs none done = record { acted = acted_later none done.acted; pairs_left = pairs_later pairs done }

-- ---- The same, as it is told of two passes

-- What was seen and learnt from p to q, by a pass that set words of pairs alone, and took no frame. It may have failed.
pub record SawOnly (p q : PassSeen) : Type 0 where
  pub store : q.store ≡ p.store
  pub number : q.pass.number ≡ p.pass.number
  pub since : List JournalEntry
  pub seen : q.pass.seen ≡ p.pass.seen ++ since
  pub sets_halves : SetHalves p.pass.number since
  pub frames : q.pass.frames ≡ p.pass.frames
  pub learnt : List Known
  pub known : q.pass.known ≡ p.pass.known ++ learnt

later_is : (p q : PassSeen) (l : SawOnly p q) → later p q.pass q.kept l.since l.learnt ≡ q
later_is p q l i = record {
  store = sym l.store i;
  pass = record q.pass { number = sym l.number i; seen = sym l.seen i; frames = sym l.frames i; known = sym l.known i };
  kept = q.kept;
}

pub saw_acted : (P : NamedProgram) (told : HandedOn) (p q : PassSeen) → SawOnly p q → HasActed P told p → HasActed P told q
saw_acted P told p q l done =
    subst (HasActed P told) (later_is p q l) (acted_later P told p q.pass q.kept l.since l.learnt l.sets_halves done)

pub saw_done : (P : NamedProgram) (told : HandedOn) (pairs : List Pair) (p q : PassSeen) → SawOnly p q → HasDone P told pairs p → HasDone P told pairs q
saw_done P told pairs p q l done =
    subst (HasDone P told pairs) (later_is p q l) (done_later P told p q.pass q.kept l.since l.learnt pairs l.sets_halves done)

-- What was asked has no solution, whatever is seen after.
pub saw_none : (P : NamedProgram) (told : HandedOn) (p q : PassSeen) → SawOnly p q → Kills P told p NoSolution → Kills P told q NoSolution
saw_none P told p q l kills =
    subst (λ z. Kills P told z NoSolution) (later_is p q l) (none_later P told p q.pass q.kept l.since l.learnt kills)

pub learnt_saw : (p q : PassSeen) → OnlyLearnt p q → SawOnly p q
learnt_saw p q l = record {
  store = l.store;
  number = l.learns.number;
  since = l.learns.since;
  seen = l.learns.seen;
  sets_halves = hanging_sets_halves p.pass.number l.learns.since l.learns.hang_only;
  frames = l.learns.frames;
  learnt = l.learns.learnt;
  known = l.learns.known;
}

pub stays_done : (P : NamedProgram) (told : HandedOn) (pairs : List Pair) (p q : PassSeen) → OnlyLearnt p q → HasDone P told pairs p → HasDone P told pairs q
stays_done P told pairs p q l done = saw_done P told pairs p q (learnt_saw p q l) done

stands_in_later : (p q : PassSeen) → OnlyLearnt p q → (known : List Known)
    → All (λ (k : Known). Contains (settings_from p.store.about.first p.pass.seen) k.setting) known
    → All (λ (k : Known). Contains (settings_from q.store.about.first q.pass.seen) k.setting) known
stands_in_later p q l known there =
    subst (λ s. All (λ (k : Known). Contains (settings_from s.about.first q.pass.seen) k.setting) known) (sym l.store)
    (subst (λ journal. All (λ (k : Known). Contains (settings_from p.store.about.first journal) k.setting) known) (sym l.learns.seen)
    (all_set_more p.store.about.first p.pass.seen l.learns.since known there))

pub stays_at_work : (P : NamedProgram) (told : HandedOn) (todo : List Pair) (waiting : List Waiting) (p q : PassSeen) → OnlyLearnt p q
    → IsKnownFit P (seen_by q)
    → IsAtWork P told todo waiting p → IsAtWork P told todo waiting q
stays_at_work P told todo waiting p q l fit work = record {
  done = stays_done P told (told.pairs ++ todo) p q l work.done;
  no_fail = l.learns.fails ∙ work.no_fail;
  known = subst (All (λ (k : Known). Contains (settings_from q.store.about.first q.pass.seen) k.setting)) (sym l.learns.known)
      (All-append (λ (k : Known). Contains (settings_from q.store.about.first q.pass.seen) k.setting) p.pass.known l.learns.learnt
      (stands_in_later p q l p.pass.known work.known)
      (subst (λ s. All (λ (k : Known). Contains (settings_from s.about.first q.pass.seen) k.setting) l.learns.learnt) (sym l.store) l.learns.there));
  fit = fit;
  waits = subst (λ s. All (λ (w : Waiting). w.cell < s.about.words) waiting) (sym l.store) work.waits;
  live = work.live;
}
