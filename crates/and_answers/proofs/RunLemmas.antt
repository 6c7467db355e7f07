-- Entries that rise, and how two of them meet.
use Rattle.std.proofs.Common.{◌≡◌, ◌<◌, ◌≤◌, ◌+◌, ℕ, List, ◌++◌, length, take, drop}
use Rattle.std.proofs.Common.{sym, ap, ◌∙◌, subst}
use Rattle.std.proofs.lemmas.List.{drop-drop}
use Rattle.and_answers.specs.Tails.{MayFollow}
use Rattle.and_answers.specs.Runs.{clauses_of, IsBehind}
use Rattle.and_answers.specs.declared.found.Entry.{Entry}
use Rattle.and_answers.specs.declared.tail.Tail.{Tail}
use Rattle.and_answers.proofs.TailLemmas.{StandsOn, more_first, same_first}

-- the code of a tail's entry
abbrev pub code_of : Tail → List ℕ
code_of tail = tail.entry.code.value

-- ---- two that meet

-- The one that has more in common with the code before comes first.
pub behind_more : (last : List ℕ) (one other : Tail) → other.common < one.common → IsBehind last one → IsBehind last other
    → IsBehind (code_of one) other
behind_more last one other below first second =
    let s : StandsOn last (code_of one) (clauses_of other) other.common other.common (clauses_of other) =
    subst (λ c. StandsOn last c (clauses_of other) other.common other.common (clauses_of other)) (sym first.code_is)
    (more_first last (clauses_of one) (clauses_of other) one.common other.common below first.within second.follows) in
    record { within = s.within; code_is = second.code_is ∙ sym s.same; follows = s.follows }

-- Where both have as much, the second stands behind the first with what more they have in common.
pub behind_alike : (last : List ℕ) (one other new : Tail) (count : ℕ) → one.common ≡ other.common → count ≤ length (clauses_of one)
    → take count (clauses_of one) ≡ take count (clauses_of other) → MayFollow (drop count (clauses_of one)) (drop count (clauses_of other))
    → new.entry ≡ other.entry → new.common ≡ other.common + count → new.from ≡ other.from + count → new.rest ≡ other.rest
    → IsBehind last one → IsBehind last other → IsBehind (code_of one) new
behind_alike last one other new count alike inside same follows entry common from rest first second =
    let tail : List ℕ = drop count (clauses_of other) in
    let clauses : clauses_of new ≡ tail =
    ap (λ n. drop n new.rest) from ∙ ap (λ (l : List ℕ). drop (other.from + count) l) rest ∙ sym (drop-drop count other.from other.rest) in
    let there : new.common ≡ one.common + count = common ∙ ap (λ n. n + count) (sym alike) in
    let s : StandsOn last (code_of one) (clauses_of other) one.common (one.common + count) tail =
    subst (λ c. StandsOn last c (clauses_of other) one.common (one.common + count) tail) (sym first.code_is)
    (same_first last (clauses_of one) (clauses_of other) one.common count first.within inside same follows) in
    record {
      within = subst (λ n. n ≤ length (code_of one)) (sym there) s.within;
      code_is = ap (λ (e : Entry). e.code.value) entry ∙ second.code_is ∙ ap (λ n. take n last ++ clauses_of other) (sym alike) ∙ sym s.same
          ∙ ap (λ n. take n (code_of one) ++ tail) (sym there) ∙ ap (λ l. take new.common (code_of one) ++ l) (sym clauses);
      follows = subst (λ n. MayFollow (drop n (code_of one)) (clauses_of new)) (sym there)
          (subst (λ l. MayFollow (drop (one.common + count) (code_of one)) l) (sym clauses) s.follows);
    }

-- What may follow from later places on may follow behind so many clauses.
pub follows_later : (one other : Tail) (count : ℕ) → MayFollow (drop (one.from + count) one.rest) (drop (other.from + count) other.rest)
    → MayFollow (drop count (clauses_of one)) (drop count (clauses_of other))
follows_later one other count h =
    subst (λ l. MayFollow l (drop count (clauses_of other))) (sym (drop-drop count one.from one.rest))
    (subst (λ l. MayFollow (drop (one.from + count) one.rest) l) (sym (drop-drop count other.from other.rest)) h)
