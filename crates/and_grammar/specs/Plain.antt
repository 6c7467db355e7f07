-- Bodies that are one thing after another.
use Rattle.std.specs.Prelude.{ℕ, suc, ◌≡◌, Bool, false, cond}
use Rattle.and_translation.specs.Bodies.{Body, behind_first, has_impure, has_wide}
use Rattle.and_translation.specs.Translation.{walk}

-- Nothing is wrong with a body, and from state s on, the last that was taken, it comes to state k, which is the last
-- one then. Terminals at its beginning are left out if nothing stands before it.
pub record Advances (b : Body) (first : Bool) (s k : ℕ) : Type 0 where
  pub pure : has_impure b ≡ false
  pub narrow : has_wide b ≡ false
  pub behind : (walk (cond first (behind_first b) b) s (suc s)).behind ≡ k
  pub next : (walk (cond first (behind_first b) b) s (suc s)).next ≡ suc k
