-- Keys cover: a tree that is reached by a key has all outcomes of the key above it.
use Rattle.std.proofs.Common.{ℕ, ◌≡◌, List, [], ◌∷◌, ◌++◌, sym, ◌∙◌, subst}
use Rattle.and_model.specs.Programs.{Program}
use Rattle.and_model.specs.Trees.{QueryTree, query_agenda, HasOutcome, Below, code, decided}
use Rattle.and_model.specs.Reached.{Step, Dead, Split, ReachedBy}
use Rattle.and_model.specs.Prefixes.{IsPrefix}
use Rattle.and_laws.specs.Outcomes.{Covers}
use Rattle.and_laws.proofs.PrefixLemmas.{prefix_then, prefix_more, same_after}
use Rattle.and_laws.proofs.Order.{blank_below}
use Rattle.and_laws.proofs.Keeping.{step_keeps, dead_has_none}
use Rattle.and_laws.proofs.Splitting.{split_divides, split_code, split_same}
use Rattle.and_laws.proofs.Keys.{reached_decided}

-- A Step of a tree that covers a key covers it.
pub step_covers : {P : Program} (key : List ℕ) (t next : QueryTree P) → Covers t key → Step t next → Covers next key
step_covers key t next all st u out b = step_keeps t next u (all u out b) out st

-- A Dead tree covers a key only where the key has no outcome.
pub dead_covers_none : {P : Program} (key : List ℕ) (t : QueryTree P) → Covers t key → Dead t → (u : QueryTree P) → HasOutcome u → IsPrefix key (code u) → ⊥
dead_covers_none key t all dead u out b = dead_has_none t u (all u out b) out dead

-- A split of a tree that covers the beginning of what it has decided covers the split's key.
pub split_covers : {P : Program} (key : List ℕ) (t : QueryTree P) (c : ℕ) (next : QueryTree P) → IsPrefix key (decided t) → Covers t key → Split t c next
    → Covers next (decided t ++ c ∷ [])
split_covers {P} key t c next begins all sp u out b =
    let above : Below P (query_agenda P) t u = all u out (prefix_then key (decided t ++ c ∷ []) (code u) (prefix_more key (decided t) (c ∷ []) begins) b) in
    let (d, other, sq, below) = split_divides t u above out sp.0 sp.4 in
    let p = split_code t u other d sq below in
    let clauses : d ≡ c = same_after (decided t) p.0 b.0 d c (sym p.1 ∙ b.1) in
    let same : other ≡ next = split_same t other next c (subst (λ z. Split t z other) clauses sq) sp in
    subst (λ z. Below P (query_agenda P) z u) same below

-- So a tree that is reached by a key covers it.
pub reached_covers : (P : Program) (limit : ℕ) (key : List ℕ) (t : QueryTree P) → ReachedBy P limit key t → Covers t key
reached_covers P limit key t (ReachedBy.start h) = λ u out b. blank_below u
reached_covers P limit key t (ReachedBy.stepped k v w r st h) = step_covers k v w (reached_covers P limit k v r) st
reached_covers P limit key t (ReachedBy.divided k v c w r sp h) = split_covers k v c w (reached_decided P limit k v r) (reached_covers P limit k v r) sp
