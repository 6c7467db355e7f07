-- The forks of a run in order; and where two runs of a program were not cut off, both have the same forks, numbers and entries.
use Rattle.std.proofs.Common.{ℕ, ◌≡◌, ◌<◌, ◌≤◌, Bool, false, List, [], length, refl, sym, ap, ◌∙◌, subst, arith, inl, inr}
use Rattle.std.specs.Prelude.{sum_by}
use Rattle.std.proofs.lemmas.Bool.{cases_lt}
use Rattle.and_model.specs.Programs.{Program}
use Rattle.and_model.specs.Trees.{query_agenda, blank}
use Rattle.and_model.specs.Reached.{Fork}
use Rattle.and_model.specs.Listing.{Entry, Listing}
use Rattle.and_laws.proofs.Counting.{forks_same, numbers_same}
use Rattle.and_laws.proofs.Listings.{one_listing}
use Rattle.and_histories.specs.PlainTree.{State, opening}
use Rattle.and_histories.specs.Histories.{HistoryEntry, Carries}
use Rattle.and_walk_laws.specs.Walks.{Walks}
use Rattle.and_walk_laws.proofs.Numbering.{numbered, whole_exhausts}
use Rattle.and_walk_laws.proofs.Rising.{walked_listing}
use Rattle.and_team_laws.specs.Owed.{SameItems}
use Rattle.and_team_laws.specs.Done.{DidAll, forks_of}
use Rattle.and_team_laws.specs.Runs.{WholeRun, AreInOrder, AreForksOfQuery}
use Rattle.and_team_laws.proofs.ForkedOnce.{forked_once}
use Rattle.and_team_laws.proofs.Forking.{forks_ordered}
use Rattle.and_team_laws.proofs.Made.{history_makes}
use Rattle.and_team_laws.proofs.Sorting.{Sorted, sorted}
use Rattle.and_team_laws.proofs.Walked.{history_walked}

-- Whatever was cut off, the forks can be put in the order of their keys.
pub some_order : (P : Program) (limit teams : ℕ) (history : List HistoryEntry) (s : State) (es : List Entry) (f m : ℕ) (b : Bool) → 0 < teams
    → Carries (opening teams) history s → DidAll P limit history es f m b → (ordered : List Fork) × AreInOrder history ordered
some_order P limit teams history s es f m b some carried did =
    let r : Sorted (forks_of history) = sorted (forks_of history) (forked_once P limit teams history s es f m b some carried did) in
    (r.ordered, record { same = r.same; rising = r.rising })

-- What a run tells in which nothing was cut off.
pub record Uncut (P : Program) (limit : ℕ) (history : List HistoryEntry) (entries : List Entry) (forks failed : ℕ) : Type 0 where
  pub all : List Entry
  pub walks : Walks P limit (blank (query_agenda P)) all forks failed false
  pub same : SameItems all entries
  pub ordered : List Fork
  pub are : AreForksOfQuery P history ordered
  pub as_many : forks ≡ length (forks_of history)

pub uncut : (P : Program) (limit teams : ℕ) (history : List HistoryEntry) (es : List Entry) (f m : ℕ)
    → WholeRun P limit teams history es f m false → Uncut P limit history es f m
uncut P limit teams history es f m r =
    let (all, walks, same) = history_walked P limit teams history r.state es f m false r.some_team r.carried r.none_left r.did in
    let made : f ≡ length (forks_of history) = history_makes P limit history es f m false r.did refl in
    let (ordered, order) = some_order P limit teams history r.state es f m false r.some_team r.carried r.did in
    record {
      all = all;
      walks = walks;
      same = same;
      ordered = ordered;
      are = record {
        in_order = order;
        forks = forks_ordered P limit history es all f m r.did walks made ordered order.same order.rising;
      };
      as_many = made;
    }

pub each_order : (P : Program) (limit teams : ℕ) (history : List HistoryEntry) (es : List Entry) (f m : ℕ)
    → WholeRun P limit teams history es f m false → (ordered : List Fork) → AreInOrder history ordered → AreForksOfQuery P history ordered
each_order P limit teams history es f m r ordered order =
    let u : Uncut P limit history es f m = uncut P limit teams history es f m r in
    record {
      in_order = order;
      forks = forks_ordered P limit history es u.all f m r.did u.walks u.as_many ordered order.same order.rising;
    }

-- What is walked within two limits, and not cut off, is the same.
walked_alike : (P : Program) (low high : ℕ) (one other : List Entry) (f m g n : ℕ) → low ≤ high
    → Walks P low (blank (query_agenda P)) one f m false → Walks P high (blank (query_agenda P)) other g n false → one ≡ other
walked_alike P low high one other f m g n below w x =
    let there : Listing P low other = (whole_exhausts P low one f m w high below other).0 (walked_listing P high other g n false x) in
    one_listing P low one other (walked_listing P low one f m false w) there

module _ (P : Program) (limit more teams others : ℕ) (history other : List HistoryEntry) (es ks : List Entry) (f m g n : ℕ)
    (r : WholeRun P limit teams history es f m false) (q : WholeRun P more others other ks g n false) where
  one : Uncut P limit history es f m
  one = uncut P limit teams history es f m r

  two : Uncut P more other ks g n
  two = uncut P more others other ks g n q

  pub agreed_forks : (ordered : List Fork) × AreForksOfQuery P history ordered × AreForksOfQuery P other ordered
  agreed_forks =
      let same : two.ordered ≡ one.ordered = forks_same (blank (query_agenda P)) [] two.ordered one.ordered two.are.forks one.are.forks in
      (one.ordered, one.are, subst (λ fs. AreForksOfQuery P other fs) same two.are)

  pub agreed_numbers : (f ≡ g) × (m ≡ n)
  agreed_numbers = numbers_same (blank (query_agenda P)) f m g n
      (numbered P limit (blank (query_agenda P)) one.all f m false one.walks refl)
      (numbered P more (blank (query_agenda P)) two.all g n false two.walks refl)

  same_all : one.all ≡ two.all
  same_all = elim (cases_lt limit more) [
    | inl less ↦ walked_alike P limit more one.all two.all f m g n (omega (arith, less)) one.walks two.walks
    | inr fits ↦ sym (walked_alike P more limit two.all one.all g n f m fits two.walks one.walks)
  ]

  pub agreed_entries : SameItems es ks
  agreed_entries h = sym (one.same h) ∙ ap (sum_by h) same_all ∙ two.same h
