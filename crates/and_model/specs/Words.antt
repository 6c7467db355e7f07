-- The words of 64 bits in which references are kept (this project's own).
use Rattle.std.specs.Prelude.{ℕ, ◌+◌, ◌*◌, ◌^◌, ◌<◌}
use Rattle.and_model.specs.declared.reference.Ref.{Ref}
use Rattle.and_model.specs.declared.reference.Ref.TheVariants.{Free, Cell, Node, Number, Half}

-- A reference has a word where its cell, its base or the first word of its pair is below 2 ^ 23 and its node below 2
-- ^ 20; a half is any number of 32 bits.
abbrev pub HasWord : Ref → Type 0
HasWord Free = Unit {0}
HasWord (Cell cell) = cell < 2 ^ 23
HasWord (Node node base) = (node.0 < 2 ^ 20) × (base < 2 ^ 23)
HasWord (Number pair) = pair < 2 ^ 23
HasWord (Half bits) = bits < 2 ^ 32

-- the word: what a reference names, and in the last digit to the base 8 which kind it is
abbrev pub word_of : Ref → ℕ
word_of Free = 0
word_of (Cell cell) = 8 * cell + 1
word_of (Node node base) = 8 * (2 ^ 23 * node.0 + base) + 2
word_of (Number pair) = 8 * pair + 3
word_of (Half bits) = 8 * bits + 4
