-- Example endless-loop: loop(X) :- loop(X). ?- loop(a).
use Rattle.std.proofs.Common.{ℕ, zero, suc, [], ◌∷◌, ◌++◌, refl, sym, inl, inr, arith, true≢false}
use Rattle.and_model.specs.Terms.{Path, Term, compound, none, Substitution, framed}
use Rattle.and_model.specs.Programs.{clause_weight, own_name}
use Rattle.and_model.specs.Closure.{Closes}
use Rattle.and_model.specs.Trees.{Tree, QueryTree, goal, end, done, left, by, equations, IsWhole}
use Rattle.and_model.specs.Listing.{Listing, Exhausted}
use Rattle.and_model.specs.Output.{OverLeft}
use Rattle.and_laws.specs.CodeOrder.{Before}
use Rattle.and_laws.proofs.Deciding.{of_bounds}
use Rattle.and_laws.proofs.Members.{entries_listing}
use Rattle.and_laws.proofs.Ordered.{contains_none}
use Rattle.and_laws.proofs.Pairwise.{all_pairs_none}
use Rattle.and_examples.specs.Texts.{own, loop, endless_text}
use Rattle.and_examples.proofs.Exhausting.{settled}

-- once around
abbrev once : QueryTree endless_text
once = by 1 refl (left done)

-- every variable is the atom a
abbrev all_a : Substitution
all_a r k = compound (own_name 1) none

-- It weighs 3, and 5 with the clause once more.
pub over : OverLeft endless_text 4 (1 ∷ []) 1
unfolding clause_weight
over = inr (once, refl, (omega arith), equations once, [], Closes.waiting (equations once) [] tt, (all_a, (refl, tt)), inl tt, tt, refl, omega arith)

-- No tree is whole, so that no limit lists anything.
never_whole : (q : Path) (g : Term) (t : Tree endless_text (goal q g end)) → IsWhole t → ⊥
never_whole q g (left t) whole = whole
never_whole q g (by zero h t) whole = true≢false (sym h)
never_whole q g (by (suc zero) h t) whole = never_whole (q ++ 0 ∷ []) (framed q (loop (own 0))) t whole
never_whole q g (by (suc (suc c)) h t) whole = let b = (of_bounds endless_text g (suc (suc c)) h).1 in omega arith

pub listing : (limit : ℕ) → Listing endless_text limit []
listing limit =
    entries_listing endless_text limit [] (all_pairs_none Before) (λ e. (
      λ has. absurd (contains_none e has),
      λ within. absurd (never_whole (0 ∷ []) (loop (compound (own_name 1) none)) within.0 within.2.0),
    ))

pub exhausted : (limit : ℕ) → Exhausted endless_text limit
exhausted limit = settled endless_text limit [] (λ more above. listing more)
