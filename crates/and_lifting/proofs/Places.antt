-- The paths of a body's calls go through the call that the body takes, and not through what stands beside it.
use Rattle.std.proofs.Common.{ℕ, suc, ◌≡◌, List, [], ◌∷◌, ◌++◌, append-nil, sym, inl, inr, ◌⊎◌}
use Rattle.and_model.specs.Terms.{Path, Term}
use Rattle.and_model.specs.Programs.{Item, call, equal, arithmetic, fail}
use Rattle.and_model.specs.Trees.{Agenda, end, goal, equation, reckoning, agenda}
use Rattle.and_model.specs.Prefixes.{IsPrefix}
use Rattle.and_laws.proofs.Agreement.{Under, Apart}
use Rattle.and_laws.proofs.PrefixLemmas.{prefix_front}
use Rattle.and_lifting.proofs.Fronts.{from_call}

under_body : (q : Path) (i : ℕ) (items : List Item) (rest : Agenda) (p : Path) → Under (agenda q i items rest) p → ((j : ℕ) × IsPrefix (q ++ j ∷ []) p)
    ⊎ Under rest p
under_body q i [] rest p u = inr u
under_body q i (call g ∷ items) rest p (inl b) = inl (i, b)
under_body q i (call g ∷ items) rest p (inr u) = under_body q (suc i) items rest p u
under_body q i (equal a b ∷ items) rest p u = under_body q (suc i) items rest p u
under_body q i (arithmetic a ∷ items) rest p u = under_body q (suc i) items rest p u
under_body q i (fail ∷ items) rest p u = under_body q (suc i) items rest p u

pub body_under : (q : Path) (g : Term) (items : List Item) (rest : Agenda) (p : Path) → Under (agenda q 0 items rest) p → Under (goal q g rest) p
body_under q g items rest p u = elim (under_body q 0 items rest p u) [ inl x ↦ inl (prefix_front q (x.0 ∷ []) p x.1) | inr v ↦ inr v ]

longer : (xs : List ℕ) (j : ℕ) (ys : List ℕ) → xs ≡ (xs ++ j ∷ []) ++ ys → ⊥
longer [] j ys e = cc
longer (x ∷ xs) j ys e = longer xs j ys (cc)

-- a call's own path is not among them
pub body_elsewhere : (q : Path) (g : Term) (items : List Item) (rest : Agenda) → Apart (goal q g rest) → Under (agenda q 0 items rest) q → ⊥
body_elsewhere q g items rest a u = elim (under_body q 0 items rest q u) [ inl x ↦ longer q x.0 x.1.0 x.1.1 | inr v ↦ a.0 q ([], sym (append-nil q)) v ]

pub own_under : (q : Path) (g : Term) (rest : Agenda) → Under (goal q g rest) q
own_under q g rest = inl ([], sym (append-nil q))

-- What stands before the first call has no path.
pub from_call_under : (ms : Agenda) (p : Path) → Under (from_call ms) p → Under ms p
from_call_under end p u = u
from_call_under (goal q g rest) p u = u
from_call_under (equation a b rest) p u = from_call_under rest p u
from_call_under (reckoning a rest) p u = from_call_under rest p u

pub from_call_apart : (ms : Agenda) → Apart ms → Apart (from_call ms)
from_call_apart end a = a
from_call_apart (goal q g rest) a = a
from_call_apart (equation x y rest) a = from_call_apart rest a
from_call_apart (reckoning x rest) a = from_call_apart rest a

-- The calls of a query have paths.
pub query_not_under : (i : ℕ) (items : List Item) → Under (agenda [] i items end) [] → ⊥
query_not_under i items u = elim (under_body [] i items end [] u) [ inl x ↦ longer [] x.0 x.1.0 x.1.1 | inr v ↦ elim v [ ] ]
