-- What is reached by a key comes by Steps from where the key was made.
use Rattle.std.proofs.Common.{ℕ, List, [], ◌∷◌, ◌++◌, refl, subst, inl, inr}
use Rattle.and_model.specs.Programs.{Program}
use Rattle.and_model.specs.Trees.{QueryTree, query_agenda, blank, decided}
use Rattle.and_model.specs.Reached.{Split, Steps, ReachedBy}
use Rattle.and_laws.proofs.Keys.{Root, from_root, one_root}

from_the_root : (P : Program) (limit : ℕ) (key : List ℕ) (r t : QueryTree P) → Root P limit key r → ReachedBy P limit key t → Steps r t
from_the_root P limit key r t root reached =
    let f = from_root P limit key t reached in
    subst (λ z. Steps z t) (one_root P limit key f.0 r f.1 root) f.2

pub from_query : (P : Program) (limit : ℕ) (t : QueryTree P) → ReachedBy P limit [] t → Steps (blank (query_agenda P)) t
from_query P limit t reached = from_the_root P limit [] (blank (query_agenda P)) t (inl (refl, refl)) reached

pub from_split : (P : Program) (limit : ℕ) (key : List ℕ) (t : QueryTree P) → ReachedBy P limit key t → (c : ℕ) (u v : QueryTree P)
    → Split t c u → ReachedBy P limit (decided t ++ c ∷ []) v → Steps u v
from_split P limit key t reached c u v sp h = from_the_root P limit (decided t ++ c ∷ []) u v (inr (key, t, c, reached, sp, refl)) h
