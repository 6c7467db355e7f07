-- The text of one query by itself (this project's own).
use Rattle.std.specs.Prelude.{ℕ, suc, Bool, cond, ltb, leb, nat_eq, ◌&&◌, List, [], ◌∷◌, ◌++◌, take, drop}
use Rattle.std.specs.List.{list_any}
use Rattle.and_model.specs.Lines.{Bytes}
use Rattle.and_batch_text.specs.Queries.{Span}

-- the place is within the part
abbrev pub is_in : Span → ℕ → Bool
is_in s place = leb s.start place && ltb place s.end

-- the place is within one of the parts
abbrev pub is_in_one : List Span → ℕ → Bool
is_in_one spans place = list_any (λ s. is_in s place) spans

-- a newline stays, and each other byte becomes a space
abbrev pub blank : ℕ → ℕ
blank b = cond (nat_eq b 10) 10 32

-- the bytes, of which the first stands at the place, with those at such places blanked
abbrev pub blanked : (ℕ → Bool) → ℕ → Bytes → Bytes
blanked is_gone place [] = []
blanked is_gone place (b ∷ bs) = cond (is_gone place) (blank b) b ∷ blanked is_gone (suc place) bs

-- all but the one with that number, from 0 on
abbrev pub others : {X : Type 0} → ℕ → List X → List X
others number xs = take number xs ++ drop (suc number) xs

-- The text of the query with that number, from 0 on, by itself: each byte of the other queries but newlines is
-- replaced by a space.
abbrev pub single : Bytes → List Span → ℕ → Bytes
single bytes spans number = blanked (is_in_one (others number spans)) 0 bytes
