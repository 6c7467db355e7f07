-- Each fork of a history that did something is of the leftmost goal of a Shut tree.
use Rattle.std.proofs.Common.{ℕ, Bool, List, [], refl, sym, subst, All}
use Rattle.std.proofs.lemmas.List.Elements.{All-append, All-cons}
use Rattle.and_model.specs.Programs.{Program}
use Rattle.and_model.specs.Reached.{Fork}
use Rattle.and_model.specs.Listing.{Entry}
use Rattle.and_laws.proofs.Pairwise.{all_none}
use Rattle.and_histories.specs.PlainTree.{Event}
use Rattle.and_histories.specs.Histories.{HistoryEntry}
use Rattle.and_team_laws.specs.Done.{Did, DidAll, IsJustified, forks_in, forks_of}
use Rattle.and_team_laws.proofs.Passing.{passes_by}

module _ (P : Program) (limit : ℕ) where
  event_justified : (event : Event) (es : List Entry) (f m : ℕ) (b : Bool) → Did P limit event es f m b
      → All (λ (x : Fork). IsJustified P limit x) (forks_in event)
  event_justified event es f m b (Did.forked team key clauses t is_cut reached is) =
      All-cons (λ (x : Fork). IsJustified P limit x) _ []
      (record { tree = t; is_cut = is_cut; reached = reached; longer = refl; splits = is }) (all_none (λ (x : Fork). IsJustified P limit x))
  event_justified event es f m b (Did.told team key t e reached walks) = all_none (λ (x : Fork). IsJustified P limit x)
  event_justified event es f m b (Did.ended team key t forks failed is_cut reached walks none) = all_none (λ (x : Fork). IsJustified P limit x)
  event_justified event es f m b (Did.passed event' is) =
      subst (λ (fs : List Fork). All (λ (x : Fork). IsJustified P limit x) fs) (sym (passes_by event' is).0) (all_none (λ (x : Fork). IsJustified P limit x))

  pub history_justified : (history : List HistoryEntry) (es : List Entry) (f m : ℕ) (b : Bool) → DidAll P limit history es f m b
      → All (λ (x : Fork). IsJustified P limit x) (forks_of history)
  history_justified history es f m b DidAll.none = all_none (λ (x : Fork). IsJustified P limit x)
  history_justified history es f m b (DidAll.more e rest ks others f1 m1 f2 m2 b1 b2 did y) =
      All-append (λ (x : Fork). IsJustified P limit x) (forks_in e.event) (forks_of rest)
      (event_justified e.event ks f1 m1 b1 did) (history_justified rest others f2 m2 b2 y)
