-- Texts that begin with the same bytes (this project's own).
use Rattle.std.specs.Prelude.{ℕ, ◌<◌, ◌≤◌, ◌≡◌, Bool, false, nat_eq, List, [], ◌∷◌, take, drop}
use Rattle.and_model.specs.Lines.{Bytes}
use Rattle.and_language.specs.Tokens.{Token, IsFront, begins}

-- the place behind the tokens, of which the first is looked for from the place p on
abbrev pub behind : ℕ → List Token → ℕ
behind p [] = p
behind p (t ∷ ts) = behind t.end ts

-- the text is UTF-8 up to that place at least
abbrev pub IsValidTo : Bytes → ℕ → Type 0
IsValidTo bytes m = (n : ℕ) × IsFront bytes n × (m ≤ n)

abbrev pub is_point : ℕ → Bool
is_point b = nat_eq b 46

-- Both texts begin with the same m bytes, which are UTF-8 in both. The place is before the last of them, where no
-- point stands.
pub record AreAlike (bytes text : Bytes) (m place : ℕ) : Type 0 where
  pub same : take m bytes ≡ take m text
  pub valid : IsValidTo bytes m
  pub valid_too : IsValidTo text m
  pub before : place < m
  pub no_point : begins is_point (drop place bytes) ≡ false
