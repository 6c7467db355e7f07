-- Grammars whose rules hold atoms alone, and the derivations of words by them (context-free grammars; codes are this
-- project's own).
use Rattle.std.specs.Prelude.{ℕ, zero, suc, ◌≡◌, List, [], ◌∷◌, ◌++◌}
use Rattle.and_model.specs.Lines.{Bytes}

-- What a body is made of: a list of atoms as terminals, or an atom that is to be derived.
pub data Symbol : Type 0 where
  letters : List Bytes → Symbol
  phrase : Bytes → Symbol

-- a rule: an atom, and what it is made of, in order
pub record Rule : Type 0 where
  pub head : Bytes
  pub body : List Symbol

-- the rule of that number; the first is number 1
abbrev pub IsNumber : ℕ → List Rule → Rule → Type 0
IsNumber c [] r = ⊥
IsNumber zero (g ∷ gs) r = ⊥
IsNumber (suc zero) (g ∷ gs) r = g ≡ r
IsNumber (suc (suc c)) (g ∷ gs) r = IsNumber (suc c) gs r

module _ (grammar : List Rule) where
  mutual
    -- A derivation of a word from an atom: a rule of that atom, with derivations of parts that with the terminals are
    -- the word. Its code is the rule's number, followed by theirs.
    pub data Derives : Bytes → List Bytes → List ℕ → Type 0 where
      by : (c : ℕ) (r : Rule) (word : List Bytes) (code : List ℕ) → IsNumber c grammar r → DerivesAll r.body word code
          → Derives r.head word (c ∷ code)

    -- For each atom of a body, in order, there is a derivation of a part; the parts and the lists of terminals,
    -- joined in order, are the word.
    pub data DerivesAll : List Symbol → List Bytes → List ℕ → Type 0 where
      nothing : DerivesAll [] [] []
      terminals : (ls : List Bytes) (body : List Symbol) (rest : List Bytes) (code : List ℕ) → DerivesAll body rest code
          → DerivesAll (letters ls ∷ body) (ls ++ rest) code
      part : (n : Bytes) (body : List Symbol) (word rest : List Bytes) (code codes : List ℕ) → Derives n word code
          → DerivesAll body rest codes
          → DerivesAll (phrase n ∷ body) (word ++ rest) (code ++ codes)
