-- Example occurs-check: ?- X = f(X).
use Rattle.std.proofs.Common.{ℕ, ◌≡◌, [], ◌∷◌}
use Rattle.and_model.specs.Programs.{own_name}
use Rattle.and_model.specs.Terms.{Term, variable, number, compound, none, more}
use Rattle.and_model.specs.Solutions.{Solvable}
use Rattle.and_model.specs.Trees.{QueryTree, done, equate}
use Rattle.and_model.specs.Listing.{Outcome, Ends, Listing}
use Rattle.and_laws.specs.CodeOrder.{Before}
use Rattle.and_laws.proofs.Closing.{closing_keeps, closes_anyhow}
use Rattle.and_laws.proofs.Members.{entries_listing}
use Rattle.and_laws.proofs.Ordered.{contains_none}
use Rattle.and_laws.proofs.Pairwise.{all_pairs_none}
use Rattle.and_examples.specs.Ending.{CodeEnds}
use Rattle.and_examples.specs.Texts.{own, unary, circle}

-- No term is f of itself.
never_itself : (t : Term) → t ≡ unary (own_name 0) t → ⊥
never_itself (variable q k) e = cc
never_itself (number z) e = cc
never_itself (compound c none) e = cc
never_itself (compound c (more u us)) e = never_itself u (cc)

pub unsolved : Solvable ((own 0, unary (own_name 0) (own 0)) ∷ []) → ⊥
unsolved (s, h) = never_itself (s [] 0) h.0

circle_ends : (t : QueryTree circle) (o : Outcome) → Ends t o → ⊥
circle_ends (equate done) o e =
    unsolved (
      e.4,
      closing_keeps ((own 0, unary (own_name 0) (own 0)) ∷ []) [] e.1 e.2
          (closes_anyhow ((own 0, unary (own_name 0) (own 0)) ∷ []) [] e.1 e.2 e.3) e.4 e.5.0,
    )

pub no_end : (o : Outcome) → CodeEnds circle [] o → ⊥
no_end o e = circle_ends e.0 o e.2

pub listing : (limit : ℕ) → Listing circle limit []
listing limit =
    entries_listing circle limit [] (all_pairs_none Before) (λ e. (
      λ has. absurd (contains_none e has),
      λ within. absurd (circle_ends within.0 e.outcome within.2),
    ))
