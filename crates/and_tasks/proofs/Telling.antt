-- What a team told is told after one more of its calls, too.
use Rattle.std.proofs.Common.{ℕ, ◌+◌, ◌≡◌, Bool, false, ◌||◌, List, [], ◌∷◌, ◌++◌, append-nil, refl, sym, ap, subst, ◌∙◌, arith}
use Rattle.and_model.specs.Programs.{Program}
use Rattle.and_model.specs.Listing.{Entry}
use Rattle.and_histories.specs.PlainTree.{Event, fork, publish, claim, clear, end, look, left, Reply}
use Rattle.and_histories.specs.Histories.{HistoryEntry, calls, team_of}
use Rattle.and_tree.specs.Plain.{Tally, tallied}
use Rattle.and_tree.specs.Passes.{PassSeen, Makes, tally_on, tally_of}
use Rattle.and_answers.specs.Kept.{listed}
use Rattle.and_answers.specs.declared.found.Found.{Found}
use Rattle.and_search_laws.specs.Found.{kept_count}
use Rattle.and_search_laws.specs.Ended.{IsEndSoFar}
use Rattle.and_team_laws.specs.Done.{IsPassing, Did, DidAll}
use Rattle.and_team_laws.proofs.Bools.{or_false}
use Rattle.and_team_laws.proofs.Doing.{did_more}
use Rattle.and_tasks.specs.Working.{Tells}
use Rattle.and_tasks.proofs.Calls.{calls_more}

tally_more : (t : Tally) (history : List HistoryEntry) (e : HistoryEntry) → tally_on t (history ++ e ∷ []) ≡ tallied e.event (tally_on t history)
tally_more t [] e = refl
tally_more t (x ∷ history) e = tally_more (tallied x.event t) history e

passing_counts : (event : Event) (t : Tally) → IsPassing event → (tallied event t).forks ≡ t.forks
passing_counts (fork team key longer clauses) t is = absurd is
passing_counts (publish team cell key) t is = refl
passing_counts (claim team cell serial) t is = refl
passing_counts (clear team cell) t is = refl
passing_counts (end team key how) t is = absurd is
passing_counts (look team cell) t is = refl
passing_counts (left team) t is = refl

module _ (P : Program) (limit : ℕ) where
  -- One call more, that did something: what was found and counted now.
  pub tells_more : (event : Event) (reply : Reply) (p q : PassSeen) (found told : Found) (es : List Entry) (f m : ℕ) (b : Bool)
      → (t : Tells P limit p found) → Makes event reply p q → team_of event ≡ p.team → Did P limit event es f m b
      → listed told ≡ listed found ++ es → IsEndSoFar P limit told (t.forks + f) (t.failed + m) (t.is_cut || b) told.cut
      → ((y : Tally) → y.forks ≡ found.forks → told.forks ≡ (tallied event y).forks) → told.failed ≡ kept_count (t.failed + m)
      → Tells P limit q told
  tells_more event reply p q found told es f m b t makes of_team did listed_is ends counted failed_are =
      let more : calls q.seen q.team ≡ calls p.seen p.team ++ record { event = event; reply = reply } ∷ [] = calls_more event reply p q makes of_team in
      record {
        forks = t.forks + f;
        failed = t.failed + m;
        is_cut = t.is_cut || b;
        did = subst (λ es. DidAll P limit (calls q.seen q.team) es (t.forks + f) (t.failed + m) (t.is_cut || b)) (sym listed_is)
            (subst (λ h. DidAll P limit h (listed found ++ es) (t.forks + f) (t.failed + m) (t.is_cut || b)) (sym more)
            (did_more P limit (calls p.seen p.team) (record { event = event; reply = reply }) (listed found) es t.forks t.failed f m t.is_cut b t.did did));
        counted = counted (tally_of (calls p.seen p.team)) (sym t.counted)
            ∙ sym (ap (λ h. (tally_of h).forks) more
            ∙ ap (λ (y : Tally). y.forks)
            (tally_more (record { forks = 0; answers = 0; retired = 0; given_up = 0 }) (calls p.seen p.team) (record { event = event; reply = reply })));
        failed_are = failed_are;
        end = ends;
      }

  -- One call more that only moves a key, or asks.
  pub tells_passed : (event : Event) (reply : Reply) (p q : PassSeen) (found : Found) → Tells P limit p found → Makes event reply p q
      → team_of event ≡ p.team → IsPassing event → Tells P limit q found
  tells_passed event reply p q found t makes of_team is =
      let ends : IsEndSoFar P limit found (t.forks + 0) (t.failed + 0) (t.is_cut || false) found.cut =
      subst (λ n. IsEndSoFar P limit found n (t.failed + 0) (t.is_cut || false) found.cut) (omega arith)
      (subst (λ n. IsEndSoFar P limit found t.forks n (t.is_cut || false) found.cut) (omega arith)
      (subst (λ b. IsEndSoFar P limit found t.forks t.failed b found.cut) (sym (or_false t.is_cut)) t.end)) in
      tells_more event reply p q found found [] 0 0 false t makes of_team (Did.passed event is) (sym (append-nil (listed found))) ends
      (λ y same. sym same ∙ sym (passing_counts event y is)) (subst (λ n. found.failed ≡ kept_count n) (omega arith) t.failed_are)
