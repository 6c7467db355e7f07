-- The parts of a draft, and the written terms that they stand for.
use Rattle.std.specs.Prelude.{ℕ, ℤ, pos, suc, ◌+◌, ◌≤◌, ◌≡◌, List, [], ◌∷◌, ◌++◌, map, get_or, length}
use Rattle.std.specs.Coded.{×_prop, Unit-prop}
use Rattle.std.proofs.Props.{props}
use Rattle.and_model.specs.Lines.{Bytes}
use Rattle.and_syntax.specs.Written
use Rattle.and_syntax.specs.Written.{Written, Many, nodes_of, nodes_in}
use Rattle.and_program.specs.Skeletons.{Falls}
use Rattle.and_drafts.specs.declared.draft.DraftPart.{DraftPart}
use Rattle.and_drafts.specs.declared.draft.DraftPart.TheVariants.{Variable, Integer, Compound}
use Rattle.and_model.specs.declared.limits.TheConstants.{MAX_ARGUMENTS}

-- A part: a variable, an integer, or a name with the numbers of its arguments.
pub data PartShape : Type 0 where
  variable : Bytes → PartShape
  integer : ℤ → PartShape
  compound : Bytes → List ℕ → PartShape

-- what a part of the code stands for
abbrev pub part_shape : DraftPart → PartShape
part_shape (Variable x n) = variable x
part_shape (Integer z) = integer z
part_shape (Compound c ns) = compound c ns.items

-- what parts of the code stand for
abbrev pub part_shapes : List DraftPart → List PartShape
part_shapes ps = map part_shape ps

-- a list of terms, as the arguments of a name
abbrev pub many : List Written → Many
many [] = Written.none
many (w ∷ ws) = Written.more w (many ws)

-- the written term of that number
abbrev pub nth_written : List Written → ℕ → Written
nth_written ws n = get_or ws n (Written.integer (pos 0))

-- the written term of a part, by those of the parts before it
abbrev pub shape_written : List Written → PartShape → Written
shape_written ws (variable x) = Written.variable x
shape_written ws (integer z) = Written.integer z
shape_written ws (compound c ns) = Written.compound c (many (map (nth_written ws) ns))

-- the written terms of a list of parts, behind those of others
abbrev pub written_behind : List Written → List PartShape → List Written
written_behind ws [] = ws
written_behind ws (p ∷ ps) = written_behind (ws ++ shape_written ws p ∷ []) ps

-- the written term of part n
abbrev pub written_at : List PartShape → ℕ → Written
written_at ps n = nth_written (written_behind [] ps) n

-- how many parts a term has before its last
abbrev pub before_last : Written → ℕ
before_last (Written.variable x) = 0
before_last (Written.integer z) = 0
before_last (Written.compound c ts) = nodes_in ts

-- the numbers of the last parts of several terms, before which n parts stand
abbrev pub roots : ℕ → Many → List ℕ
roots n Written.none = []
roots n (Written.more t ts) = (n + before_last t) ∷ roots (n + nodes_of t) ts

abbrev mutual
  -- the parts of a term in postfix order, before which n others stand
  pub postfix : ℕ → Written → List PartShape
  postfix n (Written.variable x) = variable x ∷ []
  postfix n (Written.integer z) = integer z ∷ []
  postfix n (Written.compound c ts) = postfix_all n ts ++ compound c (roots n ts) ∷ []

  pub postfix_all : ℕ → Many → List PartShape
  postfix_all n Written.none = []
  postfix_all n (Written.more t ts) = postfix n t ++ postfix_all (n + nodes_of t) ts

-- The parts are those of the finished terms, in the order in which these were finished.
abbrev pub IsFormed : List PartShape → List ℕ → Type 0
IsFormed ps ns = (ps ≡ postfix_all 0 (many (map (written_at ps) ns))) × (ns ≡ roots 0 (many (map (written_at ps) ns)))

-- a name has not too many arguments
abbrev pub IsNarrow : PartShape → Type 0
IsNarrow (variable x) = Unit {0}
IsNarrow (integer z) = Unit {0}
IsNarrow (compound c ns) = length ns ≤ MAX_ARGUMENTS

-- so it is of each part
abbrev pub AllNarrow : List PartShape → Type 0
AllNarrow [] = Unit {0}
AllNarrow (p ∷ ps) = IsNarrow p × AllNarrow ps

pub IsNarrow-prop : (p : PartShape) → IsProp (IsNarrow p)
IsNarrow-prop (variable x) = Unit-prop
IsNarrow-prop (integer z) = Unit-prop
IsNarrow-prop (compound c ns) = hlevel props

pub AllNarrow-prop : (ps : List PartShape) → IsProp (AllNarrow ps)
AllNarrow-prop [] = Unit-prop
AllNarrow-prop (p ∷ ps) = ×_prop (IsNarrow-prop p) (AllNarrow-prop ps)

-- the parts that are arguments of a part
abbrev pub arguments_of : PartShape → List ℕ
arguments_of (variable x) = []
arguments_of (integer z) = []
arguments_of (compound c ns) = ns

-- each argument of a part that has n parts before it is one of these
abbrev pub PartsFall : ℕ → List PartShape → Type 0
PartsFall n [] = Unit {0}
PartsFall n (p ∷ ps) = Falls n (arguments_of p) × PartsFall (suc n) ps
