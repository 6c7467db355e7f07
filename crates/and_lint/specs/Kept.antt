-- What walks and lists keep as they go on.
use Rattle.std.specs.Prelude.{ℕ, ◌+◌, ◌<◌, ◌≡◌, cond, ltb, List, [], ◌∷◌, ◌++◌, map, reverse}
use Rattle.std.specs.Prelude.{length, get_or, set, min, Option, Some, None}
use Rattle.std.specs.List.{flat_map}
use Rattle.and_model.specs.Terms.{Path, Term, Terms, variable, number, compound, none, more}
use Rattle.and_model.specs.Lines.{Bytes}
use Rattle.and_model.specs.declared.numbers.NodeNo.{NodeNo}
use Rattle.and_program.specs.Skeletons.{Shape, node_term}
use Rattle.and_program.specs.declared.node.NodeKind.{NodeKind}
use Rattle.and_program.specs.declared.node.NodeKind.TheVariants.{Variable, Number, Compound}
use Rattle.and_lint.specs.Subterms.{subterms}
use Rattle.and_lint.specs.Findings.{written_lines, times}
use Rattle.and_lint.specs.declared.findings.Findings.{Findings}

-- terms as a list
abbrev pub term_list : Terms → List Term
term_list none = []
term_list (more t ts) = t ∷ term_list ts

-- the arguments of a term
abbrev pub arguments_of : Term → List Term
arguments_of (variable q k) = []
arguments_of (number z) = []
arguments_of (compound c ts) = term_list ts

-- the nodes are there
abbrev pub AreThere : ℕ → List NodeNo → Type 0
AreThere m [] = Unit {0}
AreThere m (n ∷ ns) = (n.0 < m) × AreThere m ns

-- the terms of the nodes on a stack, from its top down
abbrev pub terms_on : List Shape → List NodeNo → List Term
terms_on ss stack = map (λ (n : NodeNo). node_term ss n.0) (reverse stack)

-- the subterms that are still ahead
abbrev pub ahead : List Shape → List NodeNo → List Term
ahead ss stack = flat_map subterms (terms_on ss stack)

-- The next subterm was taken from those that were ahead, or none was.
abbrev pub Walked : List Shape → (old new : List NodeNo) → Option NodeNo → Type 0
Walked ss old new None = ahead ss old ≡ []
Walked ss old new (Some n) =
    (n.0 < length ss) × AreThere (length ss) new × (ahead ss old ≡ node_term ss n.0 ∷ ahead ss new)

-- a variable of a clause itself
abbrev pub unframed : ℕ → Path × ℕ
unframed k = ([], k)

-- the number of the name that a node has, by what is shown of it
abbrev pub name_in : NodeKind → ℕ
name_in (Variable k) = 0
name_in (Number z) = 0
name_in (Compound c n) = c.0

-- the variable that a term is
abbrev pub variable_here : Term → List (Path × ℕ)
variable_here (variable q k) = (q, k) ∷ []
variable_here (number z) = []
variable_here (compound c ts) = []

-- one more, but not above 2
abbrev pub one_more : ℕ → ℕ
one_more n = cond (ltb n 2) (n + 1) n

-- the counts after a variable: its own is one more
abbrev pub counted : List ℕ → ℕ → List ℕ
counted counts k = set counts k (one_more (get_or counts k 0))

-- the counts after all of these variables
abbrev pub all_counted : List ℕ → List ℕ → List ℕ
all_counted counts [] = counts
all_counted counts (k ∷ ks) = all_counted (counted counts k) ks

-- the counts say of each variable how often it is among these: not at all, once, or more than once
abbrev pub IsCountOf : List ℕ → List ℕ → Type 0
IsCountOf counts ks = (k : ℕ) → k < 256 → get_or counts k 0 ≡ min 2 (times k ks)

-- These lines were added to the findings.
pub record Adds (old new : Findings) (lines : List Bytes) : Type 0 where
  pub text : new.text ≡ old.text ++ written_lines lines
  pub count : new.count ≡ old.count + length lines

-- With these lines still to be added, the one is to become what the other is to become with those.
pub record Comes (old : Findings) (all : List Bytes) (new : Findings) (rest : List Bytes) : Type 0 where
  pub text : old.text ++ written_lines all ≡ new.text ++ written_lines rest
  pub count : old.count + length all ≡ new.count + length rest
