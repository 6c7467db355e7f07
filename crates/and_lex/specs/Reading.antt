-- What callers see of a lexer.
use Rattle.std.specs.Prelude.{ℕ}
use Rattle.and_model.specs.Lines.{Bytes}

-- a text, and the place up to which it was read
pub record Reading : Type 0 where
  pub text : Bytes
  pub place : ℕ
