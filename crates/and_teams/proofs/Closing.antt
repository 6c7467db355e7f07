-- All teams are done, and their tree is closed.
use Rattle.std.proofs.Common.{ℕ, ◌≡◌, ◌<◌, List, reverse, length, sym, ap, subst, ◌∙◌, arith, All}
use Rattle.and_model.specs.Programs.{Program}
use Rattle.and_histories.specs.Histories.{HistoryEntry}
use Rattle.and_tree.specs.Sight.{About}
use Rattle.and_tree.specs.Passes.{TreeId, PassSeen}
use Rattle.and_tree.specs.Plain.{Tally}
use Rattle.and_tree.specs.Ended.{Closes}
use Rattle.and_answers.specs.declared.found.Found.{Found}
use Rattle.and_teams.specs.Ended.{AreDone, AllFound}
use Rattle.and_teams.specs.declared.work.Worked.{Worked}
use Rattle.and_teams.proofs.Gathering.{done_down, Seats, seats}
use Rattle.and_teams.proofs.Whole.{IsWhole, whole}

module _ {N : Type 0} (P : Program) (limit teams : ℕ) (tree : TreeId) (about : tree.about ≡ record { teams = teams; limit = limit })
    (ws : List (Worked N)) (done : AreDone P tree 0 (reverse ws)) (many : length ws ≡ teams) (found : Found) (passes : List PassSeen)
    (all_found : AllFound ws found passes) where
  seats_are : Seats tree (length ws) passes
  seats_are = seats P tree ws found passes all_found (done_down P tree ws done)

  teams_are : tree.about.teams ≡ teams
  teams_are = ap (λ (a : About). a.teams) about

  pub of_tree : All (λ (p : PassSeen). p.tree ≡ tree) passes
  of_tree = seats_are.of_tree

  pub as_many : length passes ≡ tree.about.teams
  as_many = seats_are.long ∙ many ∙ sym teams_are

  pub closed_whole : (history : List HistoryEntry) (counts : Tally) → 0 < teams → Closes tree.about passes history counts
      → IsWhole P limit teams found history counts
  closed_whole history counts some closes =
      subst (λ (a : About). IsWhole P a.limit a.teams found history counts) about
      (whole P tree ws found passes history counts all_found done (many ∙ sym teams_are) (omega (arith, some, teams_are)) closes)
