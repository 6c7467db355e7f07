-- The text of the query's tree counts what searches of the query count that were not cut off.
use Rattle.std.proofs.Common.{ℕ, ◌≡◌, false, List, refl}
use Rattle.and_model.specs.Programs.{Program}
use Rattle.and_model.specs.Trees.{query_agenda, blank}
use Rattle.and_model.specs.Listing.{Entry}
use Rattle.and_laws.proofs.Counting.{numbers_same}
use Rattle.and_histories.specs.Histories.{HistoryEntry}
use Rattle.and_walk_laws.specs.Walks.{Walks}
use Rattle.and_walk_laws.proofs.Numbering.{numbered}
use Rattle.and_team_laws.specs.Runs.{WholeRun}
use Rattle.and_team_laws.proofs.Walked.{history_walked}
use Rattle.and_fork_texts.specs.Texts.{Line, TreeText, is_fork, is_failed, count_of}
use Rattle.and_forks.proofs.Counted.{text_numbers}

pub walks_agree : (P : Program) (limit other depth : ℕ) (lines : List Line) (entries : List Entry) (forks failed : ℕ)
    → TreeText P limit (blank (query_agenda P)) depth lines → Walks P other (blank (query_agenda P)) entries forks failed false
    → (forks ≡ count_of is_fork lines) × (failed ≡ count_of is_failed lines)
walks_agree P limit other depth lines entries forks failed text walks =
    numbers_same (blank (query_agenda P)) forks failed (count_of is_fork lines) (count_of is_failed lines)
    (numbered P other (blank (query_agenda P)) entries forks failed false walks refl)
    (text_numbers P limit (blank (query_agenda P)) depth lines text)

pub runs_agree : (P : Program) (limit other teams depth : ℕ) (lines : List Line) (history : List HistoryEntry) (entries : List Entry)
    (forks failed : ℕ) → TreeText P limit (blank (query_agenda P)) depth lines → WholeRun P other teams history entries forks failed false
    → (forks ≡ count_of is_fork lines) × (failed ≡ count_of is_failed lines)
runs_agree P limit other teams depth lines history entries forks failed text r =
    let (all, walks, same) = history_walked P other teams history r.state entries forks failed false r.some_team r.carried r.none_left r.did in
    walks_agree P limit other depth lines all forks failed text walks
