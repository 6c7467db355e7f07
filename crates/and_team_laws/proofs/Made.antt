-- Where nothing was cut off, what a history did counts the forks that stand in it.
use Rattle.std.proofs.Common.{ℕ, ◌≡◌, Bool, false, List, length, length-append, refl, sym, ap, arith}
use Rattle.and_model.specs.Programs.{Program}
use Rattle.and_model.specs.Listing.{Entry}
use Rattle.and_histories.specs.PlainTree.{Event}
use Rattle.and_histories.specs.Histories.{HistoryEntry}
use Rattle.and_team_laws.specs.Done.{Did, DidAll, forks_in, forks_of}
use Rattle.and_team_laws.proofs.Bools.{or_neither}
use Rattle.and_team_laws.proofs.Passing.{passes_by}

module _ (P : Program) (limit : ℕ) where
  event_makes : (event : Event) (es : List Entry) (f m : ℕ) (b : Bool) → Did P limit event es f m b → b ≡ false → f ≡ length (forks_in event)
  event_makes event es f m b (Did.forked team key clauses t is_cut reached is) whole = refl
  event_makes event es f m b (Did.told team key t e reached walks) whole = refl
  event_makes event es f m b (Did.ended team key t forks failed is_cut reached walks none) whole = none whole
  event_makes event es f m b (Did.passed event' is) whole = sym (ap length (passes_by event' is).0)

  pub history_makes : (history : List HistoryEntry) (es : List Entry) (f m : ℕ) (b : Bool) → DidAll P limit history es f m b → b ≡ false
      → f ≡ length (forks_of history)
  history_makes history es f m b DidAll.none whole = refl
  history_makes history es f m b (DidAll.more e rest ks others f1 m1 f2 m2 b1 b2 did y) whole =
      let both = or_neither b1 b2 whole in
      omega (
        arith,
        event_makes e.event ks f1 m1 b1 did both.0,
        history_makes rest others f2 m2 b2 y both.1,
        length-append (forks_in e.event) (forks_of rest),
      )
