-- What each worker of a phase handed on when it had ended.
use Rattle.std.proofs.Common.{ℕ, ◌≡◌, ◌≤◌, false, List, [], ◌∷◌, ◌++◌, length, Option, Some, None, sym, ap, subst, inl, inr, arith, All, Contains}
use Rattle.std.proofs.lemmas.List.{length-append}
use Rattle.and_model.specs.Store.{JournalEntry, Fits, gives, mark}
use Rattle.and_model.specs.declared.reference.Ref.{Ref}
use Rattle.and_cells.specs.Ranges.{NamedProgram}
use Rattle.and_store.specs.Ended.{passes_of}
use Rattle.and_store.specs.Passes.{PassSeen}
use Rattle.and_store.specs.Sight.{About}
use Rattle.and_store_laws.proofs.Lists.{contains_first, contains_more, contains_cases, contains_none}
use Rattle.and_store_laws.proofs.Pairwise.{all_first, all_rest}
use Rattle.and_store_laws.specs.Steps.{entry}
use Rattle.and_handed.specs.Handed.{EndsBy, HasActed, IsSole, WasRun, frame_of}
use Rattle.and_handed.specs.declared.told.Ran.{Ran}
use Rattle.and_handed.specs.declared.told.Reduced.{Reduced}
use Rattle.and_handed.specs.declared.told.Cause.{Cause}
use Rattle.and_handed.specs.declared.told.HandedOn.{HandedOn}
use Rattle.and_closing_laws.specs.Phases.{AllHandOn, HasPhased}
use Rattle.and_closing_laws.specs.Acting.{Ended, all_ended}

-- what holds of a worker that has ended, where the store was opened so and this is its journal
pub record HasEnded (P : NamedProgram) (a : About) (mark : ℕ) (journal : List JournalEntry) (who : Ended) : Type 0 where
  pub ends : EndsBy P who.0 who.1 who.0.cause
  pub about : who.1.store.about ≡ a
  pub fits : Fits a.first mark journal who.1.pass

-- However it ended, this holds of what it did.
pub acts_of_ending : (P : NamedProgram) (told : HandedOn) (p : PassSeen) (c : Option Cause) → EndsBy P told p c → HasActed P told p
acts_of_ending P told p None e = e.1.acted
acts_of_ending P told p (Some cause) e = e.3

pub acted_of : (P : NamedProgram) (a : About) (mark : ℕ) (journal : List JournalEntry) (who : Ended) → HasEnded P a mark journal who
    → HasActed P who.0 who.1
acted_of P a mark journal who h = acts_of_ending P who.0 who.1 who.0.cause h.ends

-- What a worker had seen when it judged a call, or ran arithmetic, is no longer than what it saw at all.
pub judged_short : (P : NamedProgram) (p : PassSeen) (m : Reduced) → IsSole P p m → length m.judged.value.pass.seen ≤ length p.pass.seen
judged_short P p m sole =
    let rest : List JournalEntry = entry p.pass.number (gives (frame_of P.program m)) ∷ sole.after in
    let same : length p.pass.seen ≡ length ((m.judged.value.pass.seen ++ sole.since) ++ rest) = ap (λ (l : List JournalEntry). length l) sole.taken in
    let long = length-append (m.judged.value.pass.seen ++ sole.since) rest in
    let front = length-append m.judged.value.pass.seen sole.since in omega arith

pub run_short : (P : NamedProgram) (first : List Ref) (told : HandedOn) (p : PassSeen) (r : Ran) → WasRun P first told p r
    → length r.judged.value.pass.seen ≤ length p.pass.seen
run_short P first told p r was =
    let same : length p.pass.seen ≡ length (r.judged.value.pass.seen ++ was.after) = ap (λ (l : List JournalEntry). length l) was.seen in
    let long = length-append r.judged.value.pass.seen was.after in omega arith

-- ---- who they are

pub told_of_ended : (tolds : List HandedOn) (passes : List PassSeen) (who : Ended) → Contains (all_ended tolds passes) who → Contains tolds who.0
told_of_ended [] ps who h = absurd (contains_none who h)
told_of_ended (t ∷ ts) [] who h = absurd (contains_none who h)
told_of_ended (t ∷ ts) (p ∷ ps) who h = elim (contains_cases (t, p) who (all_ended ts ps) h) [
  | inl is ↦ subst (Contains (t ∷ ts)) (sym (ap (λ (x : Ended). x.0) is)) (contains_first t ts)
  | inr later ↦ contains_more t who.0 ts (told_of_ended ts ps who later)
]

pub pass_of_ended : (tolds : List HandedOn) (passes : List PassSeen) (who : Ended) → Contains (all_ended tolds passes) who → Contains passes who.1
pass_of_ended [] ps who h = absurd (contains_none who h)
pass_of_ended (t ∷ ts) [] who h = absurd (contains_none who h)
pass_of_ended (t ∷ ts) (p ∷ ps) who h = elim (contains_cases (t, p) who (all_ended ts ps) h) [
  | inl is ↦ subst (Contains (p ∷ ps)) (sym (ap (λ (x : Ended). x.1) is)) (contains_first p ps)
  | inr later ↦ contains_more p who.1 ps (pass_of_ended ts ps who later)
]

-- Each told is some worker's,
pub ended_of_told : (P : NamedProgram) (tolds : List HandedOn) (passes : List PassSeen) → AllHandOn P tolds passes → (t : HandedOn) → Contains tolds t
    → (who : Ended) × Contains (all_ended tolds passes) who × (who.0 ≡ t)
ended_of_told P [] [] hand t h = absurd (contains_none t h)
ended_of_told P [] (p ∷ ps) hand t h = absurd hand
ended_of_told P (x ∷ ts) [] hand t h = absurd hand
ended_of_told P (x ∷ ts) (p ∷ ps) hand t h = elim (contains_cases x t ts h) [
  | inl is ↦ ((x, p), contains_first (x, p) (all_ended ts ps), sym is)
  | inr later ↦ (let r = ended_of_told P ts ps hand.1 t later in (r.0, contains_more (x, p) r.0 (all_ended ts ps) r.1, r.2))
]

-- and so is each pass.
pub ended_of_pass : (P : NamedProgram) (tolds : List HandedOn) (passes : List PassSeen) → AllHandOn P tolds passes → (s : PassSeen) → Contains passes s
    → (who : Ended) × Contains (all_ended tolds passes) who × (who.1 ≡ s)
ended_of_pass P [] [] hand s h = absurd (contains_none s h)
ended_of_pass P [] (p ∷ ps) hand s h = absurd hand
ended_of_pass P (x ∷ ts) [] hand s h = absurd hand
ended_of_pass P (x ∷ ts) (p ∷ ps) hand s h = elim (contains_cases p s ps h) [
  | inl is ↦ ((x, p), contains_first (x, p) (all_ended ts ps), sym is)
  | inr later ↦ (let r = ended_of_pass P ts ps hand.1 s later in (r.0, contains_more (x, p) r.0 (all_ended ts ps) r.1, r.2))
]

-- ---- what holds of each

each_ended : (P : NamedProgram) (a : About) (m : ℕ) (journal : List JournalEntry) (tolds : List HandedOn) (passes : List PassSeen)
    → AllHandOn P tolds passes → All (λ (t : HandedOn). t.is_spoilt ≡ false) tolds → All (λ (p : PassSeen). p.store.about ≡ a) passes
    → All (Fits a.first m journal) (passes_of passes) → (who : Ended) → Contains (all_ended tolds passes) who → HasEnded P a m journal who
each_ended P a m journal [] ps hand clean of_store fits who h = absurd (contains_none who h)
each_ended P a m journal (t ∷ ts) [] hand clean of_store fits who h = absurd (contains_none who h)
each_ended P a m journal (t ∷ ts) (p ∷ ps) hand clean of_store fits who h = elim (contains_cases (t, p) who (all_ended ts ps) h) [
  | inl is ↦ subst (HasEnded P a m journal) (sym is) (record {
    ends = hand.0 (all_first (λ (x : HandedOn). x.is_spoilt ≡ false) t ts clean);
    about = all_first (λ (x : PassSeen). x.store.about ≡ a) p ps of_store;
    fits = all_first (Fits a.first m journal) p.pass (passes_of ps) fits;
  })
  | inr later ↦ each_ended P a m journal ts ps hand.1 (all_rest (λ (x : HandedOn). x.is_spoilt ≡ false) t ts clean)
      (all_rest (λ (x : PassSeen). x.store.about ≡ a) p ps of_store) (all_rest (Fits a.first m journal) p.pass (passes_of ps) fits) who later
]

pub has_ended : (P : NamedProgram) (first row : _) (tolds : List HandedOn) (h : HasPhased P first row tolds)
    → All (λ (t : HandedOn). t.is_spoilt ≡ false) tolds → (who : Ended) → Contains (all_ended tolds h.passes) who
    → HasEnded P h.about (mark h.about.first (passes_of h.passes)) h.journal who
has_ended P first row tolds h clean =
    each_ended P h.about (mark h.about.first (passes_of h.passes)) h.journal tolds h.passes h.hand_on clean h.of_store h.closes.row_fits.passes_fit
