-- Members of lists.
use Rattle.std.proofs.Common.{◌≡◌, List, ◌∷◌, sym, subst}
use Rattle.std.specs.Prelude.{Contains}
use Rattle.and_cells.proofs.Among.{among_first}

-- the first of a list is a member
pub first_of : {X : Type 0} (xs ys : List X) (x : X) → xs ≡ x ∷ ys → Contains xs x
first_of xs ys x is = subst (λ zs. Contains zs x) (sym is) (among_first x ys)
