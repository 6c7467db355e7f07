-- Two explorations of a program that were not cut off agree.
use Rattle.std.proofs.Common.{ℕ, ◌≡◌, false, List, sym, ap, subst, ◌∙◌}
use Rattle.std.specs.Prelude.{None}
use Rattle.and_model.specs.Programs.{Program}
use Rattle.and_model.specs.Reached.{Fork}
use Rattle.and_histories.specs.Histories.{HistoryEntry}
use Rattle.and_tree.specs.Plain.{Tally}
use Rattle.and_answers.specs.Kept.{listed}
use Rattle.and_answers.specs.declared.found.Found.{Found}
use Rattle.and_search_laws.specs.Found.{kept_count}
use Rattle.and_team_laws.specs.Owed.{SameItems}
use Rattle.and_team_laws.specs.Runs.{WholeRun, AreForksOfQuery}
use Rattle.and_team_laws.proofs.Agreeing.{agreed_forks, agreed_numbers, agreed_entries}
use Rattle.and_teams.specs.Ended.{IsRun}

-- A run that was not cut off.
uncut : (P : Program) (limit teams : ℕ) (found : Found) (history : List HistoryEntry) (counts : Tally) (r : IsRun P limit teams found history counts)
    → found.cut ≡ None → WholeRun P limit teams history r.entries r.forks r.failed false
uncut P limit teams found history counts r none =
    subst (λ z. WholeRun P limit teams history r.entries r.forks r.failed z) (r.whole none).0 r.run

module _ (P : Program) (limit more teams others : ℕ) (found told : Found) (history other : List HistoryEntry) (counts tally : Tally)
    (r : IsRun P limit teams found history counts) (q : IsRun P more others told other tally) (none : found.cut ≡ None) (nor : told.cut ≡ None) where
  pub explored_forks : (ordered : List Fork) × AreForksOfQuery P history ordered × AreForksOfQuery P other ordered
  explored_forks = agreed_forks P limit more teams others history other r.entries q.entries r.forks r.failed q.forks q.failed
      (uncut P limit teams found history counts r none) (uncut P more others told other tally q nor)

  pub explored_counts : (found.forks ≡ told.forks) × (found.failed ≡ told.failed)
  explored_counts =
      let (forks, failed) = agreed_numbers P limit more teams others history other r.entries q.entries r.forks r.failed q.forks q.failed
      (uncut P limit teams found history counts r none) (uncut P more others told other tally q nor) in (
        (r.whole none).1 ∙ ap kept_count forks ∙ sym (q.whole nor).1,
        r.failed_are ∙ ap kept_count failed ∙ sym q.failed_are,
      )

  pub explored_entries : SameItems (listed found) (listed told)
  explored_entries f = sym (r.same f)
      ∙ agreed_entries P limit more teams others history other r.entries q.entries r.forks r.failed q.forks q.failed
      (uncut P limit teams found history counts r none) (uncut P more others told other tally q nor) f
      ∙ q.same f
