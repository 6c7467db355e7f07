-- What all teams found and what their tree leaves, where no key is left.
use Rattle.std.proofs.Common.{ℕ, ◌≡◌, ◌<◌, ◌≤◌, Bool, false, List, map, reverse, length, refl, sym, ap, subst, ◌∙◌, arith}
use Rattle.std.proofs.Common.{All, Contains}
use Rattle.std.specs.Prelude.{Option, Some, None, sum_by}
use Rattle.std.proofs.lemmas.List.Elements.{All-contains, All-weaker}
use Rattle.std.proofs.lemmas.List.{length-map}
use Rattle.std.proofs.lemmas.List.Sorted.{sum_by-IsPermutation}
use Rattle.and_model.specs.Programs.{Program}
use Rattle.and_model.specs.Trees.{blank, query_agenda, weight}
use Rattle.and_model.specs.Listing.{Entry}
use Rattle.and_model.specs.Prefixes.{IsPrefix}
use Rattle.and_model.specs.declared.goal
use Rattle.and_histories.specs.PlainTree.{State, opening, left_of}
use Rattle.and_histories.specs.Histories.{HistoryEntry, Carries, team_of}
use Rattle.and_histories.proofs.Carrying.{one_state, carried_in_parts}
use Rattle.and_histories.proofs.CoveringForks.{none_comes_again}
use Rattle.and_tree.specs.Passes.{TreeId, PassSeen, tally_of}
use Rattle.and_tree.specs.Plain.{Tally}
use Rattle.and_tree.specs.Ended.{Closes}
use Rattle.and_tree.proofs.Tallies.{tallies_agree, all_there}
use Rattle.and_answers.specs.Kept.{listed, SameEnd}
use Rattle.and_answers.specs.Order.{HasDistinctCodes, InOrder}
use Rattle.and_answers.specs.declared.found.Found.{Found}
use Rattle.and_walk_laws.specs.Walks.{Walks}
use Rattle.and_walk_laws.proofs.Numbering.{numbered, whole_exhausts}
use Rattle.and_search_laws.specs.Found.{kept_count, IsEnd, IsFound}
use Rattle.and_search_laws.specs.Ended.{IsEndSoFar}
use Rattle.and_team_laws.specs.Owed.{SameItems}
use Rattle.and_team_laws.specs.Done.{DidAll, Part, all_parts}
use Rattle.and_team_laws.specs.Runs.{WholeRun}
use Rattle.and_team_laws.proofs.Acting.{history_teams}
use Rattle.and_team_laws.proofs.Agreeing.{some_order, each_order}
use Rattle.and_team_laws.proofs.Covers.{history_covers}
use Rattle.and_team_laws.proofs.Justified.{history_justified}
use Rattle.and_team_laws.proofs.Listed.{any_order_once, any_order_listing}
use Rattle.and_team_laws.proofs.Teams.{did_together}
use Rattle.and_team_laws.proofs.Told.{history_answers, history_gives_none}
use Rattle.and_team_laws.proofs.Walked.{history_walked}
use Rattle.and_teams.specs.Ended.{AreDone, AllFound, IsRun}
use Rattle.and_teams.specs.declared.work.Worked.{Worked}
use Rattle.and_teams.proofs.Counted.{history_tally}
use Rattle.and_teams.proofs.Gathering.{AreDoneDown, done_down, Seats, seats, OneSees, one_sees, Together, together}

-- the same items as those that are the same as others
same_through : {A : Type 0} (xs ys zs : List A) → SameItems xs ys → SameItems ys zs → SameItems xs zs
same_through xs ys zs one other f = one f ∙ other f

-- ---- no key is left

no_key_left : (teams : ℕ) (seen history : List HistoryEntry) (here after : State) → IsPrefix seen history → Carries (opening teams) seen here
    → left_of here ≡ 0 → Carries (opening teams) history after → left_of after ≡ 0
no_key_left teams seen history here after (rest, is) carried none all =
    let (middle, front, back) = (carried_in_parts (opening teams) after seen rest).0 (subst (λ h. Carries (opening teams) h after) is all) in
    let same : here ≡ middle = one_state (opening teams) here middle seen carried front in
    none_comes_again middle after rest back (ap left_of (sym same) ∙ none)

-- ---- what a history tells, whose events all teams did

module _ (P : Program) (limit teams : ℕ) (found : Found) (history : List HistoryEntry) (counts : Tally) where
  pub record IsWhole : Type 0 where
    pub entries : List Entry
    pub forks : ℕ
    pub failed : ℕ
    pub is_cut : Bool
    pub did : DidAll P limit history entries forks failed is_cut
    pub told : SameItems entries (listed found)
    pub all : List Entry
    pub walks : Walks P limit (blank (query_agenda P)) all forks failed is_cut
    pub same : SameItems all (listed found)
    pub end : IsEndSoFar P limit found forks failed is_cut found.cut
    pub state : State
    pub carried : Carries (opening teams) history state
    pub none_left : left_of state ≡ 0
    pub forks_are : counts.forks ≡ found.forks
    pub counted : counts ≡ tally_of history
    pub failed_are : found.failed ≡ kept_count failed

module _ {N : Type 0} (P : Program) (tree : TreeId) where
  pub whole : (ws : List (Worked N)) (found : Found) (passes : List PassSeen) (history : List HistoryEntry) (counts : Tally)
      → AllFound ws found passes → AreDone P tree 0 (reverse ws) → length ws ≡ tree.about.teams → 0 < tree.about.teams
      → Closes tree.about passes history counts → IsWhole P tree.about.limit tree.about.teams found history counts
  whole ws found passes history counts all_found done many some closes =
      let limit : ℕ = tree.about.limit in
      let team_count : ℕ = tree.about.teams in
      let down : AreDoneDown P tree ws = done_down P tree ws done in
      let s : Seats tree (length ws) passes = seats P tree ws found passes all_found down in
      let r : Together P tree history (length ws) found passes = together P tree history ws found passes all_found down closes.own in
      let o : OneSees passes = one_sees P tree ws found passes all_found down (omega (arith, many, some)) in
      let after : State = closes.legal.0 in
      let by_teams : All (λ (e : HistoryEntry). team_of e.event < team_count) history = history_teams team_count history after closes.legal.1 in
      let by_parts : All (λ (e : HistoryEntry). team_of e.event < length r.parts) history =
      subst (λ n. All (λ (e : HistoryEntry). team_of e.event < n) history) (sym (r.many ∙ many)) by_teams in
      let p : Part = all_parts r.parts in
      let (entries, did, told) = did_together P limit history r.parts by_parts r.did in
      let about : o.pass.tree ≡ tree = All-contains (λ (p : PassSeen). p.tree ≡ tree) passes o.pass s.of_tree o.among in
      let teams_are : o.pass.tree.about.teams ≡ team_count = ap (λ (t : TreeId). t.about.teams) about in
      let none : left_of after ≡ 0 =
      no_key_left team_count o.pass.seen history o.none.state after
      (All-contains (λ (p : PassSeen). IsPrefix p.seen history) passes o.pass closes.begins o.among)
      (subst (λ n. Carries (opening n) o.pass.seen o.none.state) teams_are o.none.carried) o.none.none closes.legal.1 in
      let (all, walks, same) = history_walked P limit team_count history after entries p.forks p.failed p.is_cut some closes.legal.1 none did in
      let as_found : SameItems entries (listed found) = λ f. told f ∙ ap (λ l. sum_by f l) (sym r.entries) in
      let every : All (λ (e : HistoryEntry). Contains (map (λ (p : PassSeen). p.team) passes) (team_of e.event)) history =
      All-weaker (λ (e : HistoryEntry). team_of e.event < team_count)
      (λ (e : HistoryEntry). Contains (map (λ (p : PassSeen). p.team) passes) (team_of e.event))
      (λ e below. all_there (length ws) (map (λ (p : PassSeen). p.team) passes) s.distinct s.below (length-map passes (λ (p : PassSeen). p.team) ∙ s.long)
      (team_of e.event) (omega (arith, below, many))) history by_teams in
      let agree = tallies_agree passes history s.distinct every closes.own in
      record {
        entries = entries;
        forks = p.forks;
        failed = p.failed;
        is_cut = p.is_cut;
        did = did;
        told = as_found;
        all = all;
        walks = walks;
        same = same_through all entries (listed found) same as_found;
        end = r.end;
        state = after;
        carried = closes.legal.1;
        none_left = none;
        forks_are = ap (λ (t : Tally). t.forks) (closes.counted ∙ sym agree) ∙ sym r.counted;
        counted = closes.counted;
        failed_are = r.failed_are;
      }

module _ (P : Program) (limit teams : ℕ) (found : Found) (history : List HistoryEntry) (counts : Tally)
    (w : IsWhole P limit teams found history counts) where
  pub whole_once : HasDistinctCodes (listed found)
  whole_once = any_order_once P limit w.all (listed found) w.forks w.failed w.is_cut w.walks w.same

  module _ (ordered : Found) (order : InOrder (listed found) (listed ordered)) (same_end : SameEnd found ordered) where
    same_listed : SameItems (listed found) (listed ordered)
    same_listed f = sym (sum_by-IsPermutation f (listed found) (listed ordered) order.same)

    ordered_end : IsEndSoFar P limit ordered w.forks w.failed w.is_cut ordered.cut
    ordered_end = subst (λ c. IsEndSoFar P limit ordered w.forks w.failed w.is_cut c) (sym same_end.cut) (go found.cut w.end)
      where
        go : (c : Option goal.Cut.Cut) → IsEndSoFar P limit found w.forks w.failed w.is_cut c
            → IsEndSoFar P limit ordered w.forks w.failed w.is_cut c
        go None e = (e.0, same_end.forks ∙ e.1, same_end.failed ∙ e.2)
        go (Some cut) e = e

    pub whole_found : IsFound P limit ordered
    whole_found = record {
      listing = any_order_listing P limit w.all (listed ordered) w.forks w.failed w.is_cut w.walks
          (same_through w.all (listed found) (listed ordered) w.same same_listed) order.rising;
      end = go ordered.cut ordered_end;
    }
      where
        go : (c : Option goal.Cut.Cut) → IsEndSoFar P limit ordered w.forks w.failed w.is_cut c → IsEnd P limit ordered c
        go None e =
            let walk : Walks P limit (blank (query_agenda P)) w.all w.forks w.failed false =
            subst (λ z. Walks P limit (blank (query_agenda P)) w.all w.forks w.failed z) e.0 w.walks in
            record {
              exhausted = whole_exhausts P limit w.all w.forks w.failed walk;
              forks = w.forks;
              failed = w.failed;
              numbers = numbered P limit (blank (query_agenda P)) w.all w.forks w.failed false walk refl;
              forks_kept = e.1;
              failed_kept = e.2;
            }
        go (Some cut) e = (e.1, e.2, e.3)

    none_cut : (c : Option goal.Cut.Cut) → IsEndSoFar P limit ordered w.forks w.failed w.is_cut c → c ≡ None → w.is_cut ≡ false
    none_cut c e is = (subst (λ z. IsEndSoFar P limit ordered w.forks w.failed w.is_cut z) is e).0

    pub whole_run : weight (blank {P = P} (query_agenda P)) ≤ limit → 0 < teams → IsRun P limit teams ordered history counts
    whole_run fits some =
        let run : WholeRun P limit teams history w.entries w.forks w.failed w.is_cut = record {
          some_team = some;
          fits = fits;
          state = w.state;
          carried = w.carried;
          none_left = w.none_left;
          did = w.did;
        } in
        let (fs, order) = some_order P limit teams history w.state w.entries w.forks w.failed w.is_cut some w.carried w.did in
        record {
          entries = w.entries;
          forks = w.forks;
          failed = w.failed;
          is_cut = w.is_cut;
          run = run;
          same = same_through w.entries (listed found) (listed ordered) w.told same_listed;
          failed_are = same_end.failed ∙ w.failed_are;
          whole = λ is. let e = subst (λ c. IsEndSoFar P limit ordered w.forks w.failed w.is_cut c) is ordered_end in (e.0, e.1);
          cut_off = λ cut is. (subst (λ c. IsEndSoFar P limit ordered w.forks w.failed w.is_cut c) is ordered_end).0;
          justified = history_justified P limit history w.entries w.forks w.failed w.is_cut w.did;
          covering = history_covers P limit history w.entries w.forks w.failed w.is_cut w.did;
          ordered = fs;
          in_order = order;
          of_query = λ is.
              let none : w.is_cut ≡ false = none_cut ordered.cut ordered_end is in
              each_order P limit teams history w.entries w.forks w.failed
              (subst (λ z. WholeRun P limit teams history w.entries w.forks w.failed z) none run) fs order;
          answered = history_answers P limit history w.entries w.forks w.failed w.is_cut w.did;
          none_given_up = history_gives_none P limit history w.entries w.forks w.failed w.is_cut w.did;
          counted = history_tally history counts w.counted;
          forks_are = w.forks_are ∙ sym same_end.forks;
        }
