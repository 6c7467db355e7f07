-- A worker writes a number into a pair of words, and goes on being at work.
use Rattle.std.proofs.Common.{ℕ, ℤ, ◌≡◌, ◌<◌, inl, inr, true, false, List, [], ◌∷◌, ◌++◌, append-nil, refl, sym, ap, subst, ◌∙◌, All, Contains}
use Rattle.std.proofs.lemmas.Bool.{false≢true}
use Rattle.std.proofs.lemmas.List.{append_assoc, append_cancel_left}
use Rattle.std.proofs.lemmas.List.Elements.{All-nil, All-cons, All-append, All-contains}
use Rattle.and_model.specs.Store.{JournalEntry, Known, sets, is_half}
use Rattle.and_model.specs.declared.reference.Ref.{Ref}
use Rattle.and_cells.specs.Numbers.{high_half, low_half}
use Rattle.and_cells.specs.Ranges.{NamedProgram}
use Rattle.and_cells.specs.Seen.{Seen, Gains, Fills, WritesNumber}
use Rattle.and_workers.specs.Waiting.{Waiting}
use Rattle.and_unify.specs.declared.pairs.Pair.{Pair}
use Rattle.and_store.specs.Passes.{PassSeen}
use Rattle.and_store.specs.Worked.{IsUsed, seen_by}
use Rattle.and_store_laws.proofs.Lists.{contains_cases, contains_none, contains_there}
use Rattle.and_store_laws.specs.Steps.{entry}
use Rattle.and_workers.specs.AtWork.{IsAtWork}
use Rattle.and_handed.specs.Handed.{settings_from}
use Rattle.and_handed.specs.declared.told.HandedOn.{HandedOn}
use Rattle.and_workers.proofs.Quiet.{SawOnly, saw_done}
use Rattle.and_workers.proofs.Steps.{Works, made_own, steps_work, fits_used}

-- a list around an element of it
pub found_in : {X : Type 0} (xs : List X) (x : X) → Contains xs x → (before after : List X) × (xs ≡ before ++ x ∷ after)
found_in [] x c = absurd (contains_none x c)
found_in (y ∷ xs) x c = elim (contains_cases y x xs c) [
  | inl same ↦ ([], xs, ap (λ z. z ∷ xs) (sym same))
  | inr r ↦ (let rest = found_in xs x r in (y ∷ rest.0, rest.1, ap (λ l. y ∷ l) rest.2))
]

-- where the pass made it, it is a half
abbrev HalfIfOwn : Known → Type 0
HalfIfOwn k = k.is_own ≡ true → is_half k.setting.value ≡ true

-- All that became known of the pass's own are halves.
abbrev OnlyHalves : (old new : List Known) → Type 0
OnlyHalves old new = (more : List Known) × (new ≡ old ++ more) × All HalfIfOwn more

gains_halves : (old new : List Known) (k : Known) → Gains old new k → HalfIfOwn k → OnlyHalves old new
gains_halves old new k (inl same) half = ([], same ∙ sym (append-nil old), All-nil HalfIfOwn)
gains_halves old new k (inr more) half = (k ∷ [], more, All-cons HalfIfOwn k [] half (All-nil HalfIfOwn))

fills_halves : (P : NamedProgram) (place : ℕ) (half r : Ref) (old new : Seen) → is_half half ≡ true → Fills P place half r old new
    → OnlyHalves old.known new.known
fills_halves P place half r old new is (inl s) =
    gains_halves old.known new.known (record { setting = record { place = place; value = r }; is_own = true }) s.0.gains (λ own. ap is_half s.1 ∙ is)
fills_halves P place half r old new is (inr f) =
    gains_halves old.known new.known (record { setting = record { place = place; value = r }; is_own = false }) f.gains (λ own. absurd (false≢true own))

both_halves : (old mid new : List Known) → OnlyHalves old mid → OnlyHalves mid new → OnlyHalves old new
both_halves old mid new a b =
    (a.0 ++ b.0, b.1 ∙ ap (λ l. l ++ b.0) a.1 ∙ append_assoc old a.0 b.0, All-append HalfIfOwn a.0 b.0 a.2 b.2)

written_halves : (P : NamedProgram) (pair : ℕ) (value result : ℤ) (old new : Seen) → WritesNumber P pair value result old new → OnlyHalves old.known new.known
written_halves P pair value result old new w =
    both_halves old.known w.between.known new.known (fills_halves P pair (high_half value) w.high old w.between refl w.first)
    (fills_halves P _ (low_half value) w.low w.between new refl w.second)

module _ (P : NamedProgram) (p q : PassSeen) (pair : ℕ) (value result : ℤ) (used : IsUsed P p q) (written : WritesNumber P pair value result
    (seen_by p) (seen_by q))
    (stand : All (λ (k : Known). Contains (settings_from p.store.about.first p.pass.seen) k.setting) p.pass.known) where
  works : Works p.store.about.first p.pass q.pass
  works = steps_work P p.store.about p q stand used.steps

  halves_only : All HalfIfOwn works.more
  halves_only =
      let w = written_halves P pair value result (seen_by p) (seen_by q) written in
      subst (All HalfIfOwn) (append_cancel_left p.pass.known w.0 works.more (sym w.1 ∙ works.known)) w.2

  saw_written : SawOnly p q
  saw_written = record {
    store = used.store;
    number = works.number;
    since = works.since;
    seen = works.seen;
    sets_halves = λ e among same s made.
        let is : e ≡ entry p.pass.number (sets s) = λ i. record { pass = same i; made = made i } in
        let at = found_in works.since (entry p.pass.number (sets s)) (subst (Contains works.since) is among) in
        let k = works.own at.0 at.1 s at.2 in
        All-contains HalfIfOwn works.more (made_own s) halves_only (subst (λ l. Contains l (made_own s)) (sym k.is) (contains_there k.early k.late
        (made_own s))) refl;
    frames = works.frames;
    learnt = works.more;
    known = works.known;
  }

  -- A number that was written follows from nothing, and states nothing.
  pub written_at_work : (told : HandedOn) (todo : List Pair) (waiting : List Waiting) → IsAtWork P told todo waiting p → IsAtWork P told todo waiting q
  written_at_work told todo waiting work = record {
    done = saw_done P told _ p q saw_written work.done;
    no_fail = works.fails ∙ work.no_fail;
    known = subst (λ s. All (λ (k : Known). Contains (settings_from s.about.first q.pass.seen) k.setting) q.pass.known) (sym used.store) works.stand;
    fit = fits_used P p q used work.fit;
    waits = subst (λ s. All (λ (w : Waiting). w.cell < s.about.words) waiting) (sym used.store) work.waits;
    live = work.live;
  }

  pub seen_since : (since : List JournalEntry) × (q.pass.seen ≡ p.pass.seen ++ since)
  seen_since = (works.since, works.seen)
