-- What a tree counts of a history is how many forks and ended keys stand in it.
use Rattle.std.proofs.Common.{ℕ, ◌+◌, ◌-◌, ◌^◌, ◌≡◌, List, [], ◌∷◌, ◌++◌, length, length-append, refl, ap, subst, ◌∙◌, arith}
use Rattle.std.specs.Prelude.{flat_map}
use Rattle.and_histories.specs.PlainTree.{Event, fork, publish, claim, clear, end, look, left, answered, retired, given_up}
use Rattle.and_histories.specs.Histories.{HistoryEntry}
use Rattle.and_tree.specs.Passes.{tally_on, tally_of}
use Rattle.and_tree.specs.Plain.{Tally, one_more, tallied}
use Rattle.and_search_laws.specs.Found.{kept_count}
use Rattle.and_team_laws.specs.Done.{forks_in, answered_in, retired_in, given_up_in}
use Rattle.and_teams.specs.Ended.{IsTallyOf}
use Rattle.and_teams.proofs.Gathering.{capped}

one_kept : (t n : ℕ) → t ≡ kept_count n → one_more t ≡ kept_count (n + 1)
one_kept t n is = ap one_more is ∙ capped n 1 (2 ^ 64 - 1)

none_kept : (t n : ℕ) → t ≡ kept_count n → t ≡ kept_count (n + 0)
none_kept t n is = subst (λ k. t ≡ kept_count k) (omega arith) is

-- Where each event adds what is told of it, a history adds all of that.
module _ {X : Type 0} (of : Tally → ℕ) (items : Event → List X)
    (each : (event : Event) (t : Tally) (n : ℕ) → of t ≡ kept_count n → of (tallied event t) ≡ kept_count (n + length (items event))) where
  all_kept : (history : List HistoryEntry) (t : Tally) (n : ℕ) → of t ≡ kept_count n
      → of (tally_on t history) ≡ kept_count (n + length (flat_map (λ (e : HistoryEntry). items e.event) history))
  all_kept [] t n is = none_kept (of t) n is
  all_kept (e ∷ history) t n is =
      let rest = flat_map (λ (e : HistoryEntry). items e.event) history in
      let whole = length-append (items e.event) rest in
      let same : (n + length (items e.event)) + length rest ≡ n + length (items e.event ++ rest) = omega arith in
      all_kept history (tallied e.event t) (n + length (items e.event)) (each e.event t n is) ∙ ap kept_count same

  from_none : (history : List HistoryEntry) → of (record { forks = 0; answers = 0; retired = 0; given_up = 0 }) ≡ 0
      → of (tally_of history) ≡ kept_count (length (flat_map (λ (e : HistoryEntry). items e.event) history))
  from_none history none =
      let count = length (flat_map (λ (e : HistoryEntry). items e.event) history) in
      let same : 0 + count ≡ count = omega arith in
      all_kept history (record { forks = 0; answers = 0; retired = 0; given_up = 0 }) 0 none ∙ ap kept_count same

forks_kept : (event : Event) (t : Tally) (n : ℕ) → t.forks ≡ kept_count n → (tallied event t).forks ≡ kept_count (n + length (forks_in event))
forks_kept (fork team key longer clauses) t n is = one_kept t.forks n is
forks_kept (publish team cell key) t n is = none_kept t.forks n is
forks_kept (claim team cell serial) t n is = none_kept t.forks n is
forks_kept (clear team cell) t n is = none_kept t.forks n is
forks_kept (end team key answered) t n is = none_kept t.forks n is
forks_kept (end team key retired) t n is = none_kept t.forks n is
forks_kept (end team key given_up) t n is = none_kept t.forks n is
forks_kept (look team cell) t n is = none_kept t.forks n is
forks_kept (left team) t n is = none_kept t.forks n is

answers_kept : (event : Event) (t : Tally) (n : ℕ) → t.answers ≡ kept_count n → (tallied event t).answers ≡ kept_count (n + length (answered_in event))
answers_kept (fork team key longer clauses) t n is = none_kept t.answers n is
answers_kept (publish team cell key) t n is = none_kept t.answers n is
answers_kept (claim team cell serial) t n is = none_kept t.answers n is
answers_kept (clear team cell) t n is = none_kept t.answers n is
answers_kept (end team key answered) t n is = one_kept t.answers n is
answers_kept (end team key retired) t n is = none_kept t.answers n is
answers_kept (end team key given_up) t n is = none_kept t.answers n is
answers_kept (look team cell) t n is = none_kept t.answers n is
answers_kept (left team) t n is = none_kept t.answers n is

retired_kept : (event : Event) (t : Tally) (n : ℕ) → t.retired ≡ kept_count n → (tallied event t).retired ≡ kept_count (n + length (retired_in event))
retired_kept (fork team key longer clauses) t n is = none_kept t.retired n is
retired_kept (publish team cell key) t n is = none_kept t.retired n is
retired_kept (claim team cell serial) t n is = none_kept t.retired n is
retired_kept (clear team cell) t n is = none_kept t.retired n is
retired_kept (end team key answered) t n is = none_kept t.retired n is
retired_kept (end team key retired) t n is = one_kept t.retired n is
retired_kept (end team key given_up) t n is = none_kept t.retired n is
retired_kept (look team cell) t n is = none_kept t.retired n is
retired_kept (left team) t n is = none_kept t.retired n is

given_up_kept : (event : Event) (t : Tally) (n : ℕ) → t.given_up ≡ kept_count n
    → (tallied event t).given_up ≡ kept_count (n + length (given_up_in event))
given_up_kept (fork team key longer clauses) t n is = none_kept t.given_up n is
given_up_kept (publish team cell key) t n is = none_kept t.given_up n is
given_up_kept (claim team cell serial) t n is = none_kept t.given_up n is
given_up_kept (clear team cell) t n is = none_kept t.given_up n is
given_up_kept (end team key answered) t n is = none_kept t.given_up n is
given_up_kept (end team key retired) t n is = none_kept t.given_up n is
given_up_kept (end team key given_up) t n is = one_kept t.given_up n is
given_up_kept (look team cell) t n is = none_kept t.given_up n is
given_up_kept (left team) t n is = none_kept t.given_up n is

pub history_tally : (history : List HistoryEntry) (counts : Tally) → counts ≡ tally_of history → IsTallyOf history counts
history_tally history counts is = record {
  forks = ap (λ (t : Tally). t.forks) is ∙ from_none (λ (t : Tally). t.forks) forks_in forks_kept history refl;
  answers = ap (λ (t : Tally). t.answers) is ∙ from_none (λ (t : Tally). t.answers) answered_in answers_kept history refl;
  retired = ap (λ (t : Tally). t.retired) is ∙ from_none (λ (t : Tally). t.retired) retired_in retired_kept history refl;
  given_up = ap (λ (t : Tally). t.given_up) is ∙ from_none (λ (t : Tally). t.given_up) given_up_in given_up_kept history refl;
}
