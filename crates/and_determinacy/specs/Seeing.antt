-- What is seen of a call and a clause's head without a trial: cells of the call and variables of the head are given
-- terms, one after the other.
use Rattle.std.specs.Prelude.{ℕ, ◌≡◌, ◌<◌, ◌≤◌, ◌++◌, ◌⊎◌, ◌∷◌, [], List, length, get_or, Some, All, Contains, cond, eqb}
use Rattle.and_model.specs.Terms.{Term, Substitution, variable, apply, framed}
use Rattle.and_model.specs.Solutions.{Equation, Solves}
use Rattle.and_model.specs.declared.reference.Ref.{Ref}
use Rattle.and_model.specs.declared.reference.Ref.TheVariants.{Free, Cell, Node, Number, Half}
use Rattle.and_program.specs.Skeletons.{node_term}
use Rattle.and_cells.specs.Ranges.{NamedProgram, IsInRange}
use Rattle.and_cells.specs.Rows.{IsSound}
use Rattle.and_cells.specs.Seen.{word_at, Grows, AreFree}
use Rattle.and_cells.specs.Meaning.{IsSettled, cell_variable, equations_of}
use Rattle.and_cells.specs.Joined.{value}
use Rattle.and_branch_laws.specs.Judging.{outside}
use Rattle.and_branch_laws.specs.Variables.{placed}

-- ---- Terms

-- They give the cells the same, and so many variables of the frame outside.
abbrev pub AgreeUpTo : ℕ → Substitution → Substitution → Type 0
AgreeUpTo n s z = ((cell : ℕ) → s [] cell ≡ z [] cell) × ((k : ℕ) → k < n → s outside k ≡ z outside k)

-- The term speaks of cells and of so many variables of the frame outside: what gives these the same makes of it the
-- same.
pub record SpeaksOf (n : ℕ) (t : Term) : Type 0 where
  pub same : (s z : Substitution) → AgreeUpTo n s z → apply s t ≡ apply z t

-- So does each side of these equations.
abbrev pub SpeakOf : ℕ → List Equation → Type 0
SpeakOf n [] = Unit {0}
SpeakOf n (e ∷ es) = SpeaksOf n e.0 × SpeaksOf n e.1 × SpeakOf n es

-- the cell becomes the term, and nothing else changes
abbrev pub only : ℕ → Term → Substitution
only cell u [] k = cond (eqb k cell) u (cell_variable k)
only cell u (n ∷ q) k = variable (n ∷ q) k

-- The term lacks each of these cells: whatever becomes of one, the term stays.
pub record LacksEach (cells : List ℕ) (t : Term) : Type 0 where
  pub stays : (cell : ℕ) → Contains cells cell → (u : Term) → apply (only cell u) t ≡ t

-- the term of a reference, with no chain followed
abbrev pub ref_term : NamedProgram → Ref → Term
ref_term P Free = cell_variable 0
ref_term P (Cell cell) = cell_variable cell
ref_term P (Node node base) = placed base (node_term P.skeleton.nodes node.0)
ref_term P (Number pair) = cell_variable 0
ref_term P (Half bits) = cell_variable 0

-- the arguments of a call, in the frame at the base, are to be those of a head, in the frame outside
abbrev pub argument_pairs : NamedProgram → (base : ℕ) → (arguments heads : List ℕ) → List Equation
argument_pairs P base [] hs = []
argument_pairs P base (n ∷ ns) [] = []
argument_pairs P base (n ∷ ns) (h ∷ hs) =
    (placed base (node_term P.skeleton.nodes n), framed outside (node_term P.skeleton.nodes h))
    ∷ argument_pairs P base ns hs

-- ---- What was given

-- A variable of the head is what was noted for it: itself, or what the reference is.
abbrev pub IsNoted : NamedProgram → (later : List Ref) → Substitution → (k : ℕ) → Ref → Type 0
IsNoted P later s k r =
    ((r ≡ Free) × (s outside k ≡ variable outside k)) ⊎ (value P (word_at later) s r ≡ Some (s outside k))

-- Free cells but these are as they were.
abbrev pub LeavesOthers : (later : List Ref) → (held : List ℕ) → Substitution → Type 0
LeavesOthers later held s =
    (cell : ℕ) → cell < length later → word_at later cell ≡ Free → (Contains held cell → ⊥)
    → s [] cell ≡ cell_variable cell

-- The substitution solves the row. It gives something to these of the free cells at most, and the first variables of
-- the head are what was noted.
pub record IsGiven (P : NamedProgram) (later : List Ref) (held : List ℕ) (given : List Ref)
    (s : Substitution) : Type 0 where
  pub solves : Solves s (equations_of P later)
  pub others : LeavesOthers later held s
  pub unseen : (k : ℕ) → length given ≤ k → s outside k ≡ variable outside k
  pub seen : (k : ℕ) → k < length given → IsNoted P later s k (get_or given k Free)

-- From a substitution another one goes on that solves these equations too, and all that the first one solved which
-- speaks of so many variables.
pub record GoesOn (P : NamedProgram) (later : List Ref) (held : List ℕ) (given : List Ref) (n : ℕ) (s : Substitution)
    (es : List Equation) : Type 0 where
  pub to : Substitution
  pub is : IsGiven P later held given to
  pub keeps : (ds : List Equation) → SpeakOf n ds → Solves s ds → Solves to ds
  pub solves : Solves to es

-- It is so in whatever settled row this one grows to while these cells are free.
abbrev pub WhileFree : NamedProgram → List Ref → List ℕ → (List Ref → Type 0) → Type 0
WhileFree P row held Q =
    (later : List Ref) → Grows row later → IsSound P later → IsSettled P later → AreFree later held → Q later

-- a cell or a structure that is in range, as parts of structures are
abbrev pub IsPart : NamedProgram → (words : ℕ) → Ref → Type 0
IsPart P words Free = ⊥
IsPart P words (Cell cell) = IsInRange P words (Cell cell)
IsPart P words (Node node base) = IsInRange P words (Node node base)
IsPart P words (Number pair) = ⊥
IsPart P words (Half bits) = ⊥

-- what is noted of a variable is one, if anything is
abbrev pub IsUsable : NamedProgram → (words : ℕ) → Ref → Type 0
IsUsable P words r = (r ≡ Free) ⊎ IsPart P words r

-- In what makes a call and a head one, the variable is what was noted of it, if that is a reference.
abbrev pub MayBeNoted : NamedProgram → Substitution → (k : ℕ) → Ref → Type 0
MayBeNoted P s k r = (r ≡ Free) ⊎ (apply s (ref_term P r) ≡ s outside k)

-- So are the first variables of the head.
abbrev pub AreNoted : NamedProgram → (given : List Ref) → Substitution → Type 0
AreNoted P given s = (k : ℕ) → k < length given → MayBeNoted P s k (get_or given k Free)

-- Where these were held and noted before and those after it, the equations are met by what was given in between.
pub record Meets (P : NamedProgram) (row : List Ref) (held has : List ℕ) (given gives : List Ref)
    (es : List Equation) : Type 0 where
  pub gained : List ℕ
  pub longer : has ≡ held ++ gained
  pub taller : length given ≤ length gives
  pub free : AreFree row held → AreFree row has
  pub usable : All (IsUsable P (length row)) given → All (IsUsable P (length row)) gives
  pub early : SpeakOf (length gives) es
  pub noted : (s : Substitution) → Solves s (equations_of P row) → Solves s es → AreNoted P given s → AreNoted P gives s
  pub goes : WhileFree P row has (λ later. (s : Substitution) → IsGiven P later held given s
      → GoesOn P later has gives (length given) s es)

-- These terms of the head lack the cells that were held before, and variables were noted that are themselves.
pub record AreLacking (P : NamedProgram) (row : List Ref) (held has : List ℕ) (given gives : List Ref)
    (heads : List ℕ) : Type 0 where
  pub gained : List ℕ
  pub longer : has ≡ held ++ gained
  pub taller : length given ≤ length gives
  pub free : AreFree row held → AreFree row has
  pub usable : All (IsUsable P (length row)) given → All (IsUsable P (length row)) gives
  pub early : (h : ℕ) → Contains heads h → SpeaksOf (length gives) (framed outside (node_term P.skeleton.nodes h))
  pub noted : (s : Substitution) → AreNoted P given s → AreNoted P gives s
  pub lacks : WhileFree P row has (λ later. (s : Substitution) → IsGiven P later held given s
      → IsGiven P later has gives s
      × ((h : ℕ) → Contains heads h → LacksEach held (apply s (framed outside (node_term P.skeleton.nodes h)))))

-- The same of one term.
pub record IsLacking (P : NamedProgram) (row : List Ref) (held has : List ℕ) (given gives : List Ref)
    (x : Term) : Type 0 where
  pub gained : List ℕ
  pub longer : has ≡ held ++ gained
  pub taller : length given ≤ length gives
  pub free : AreFree row held → AreFree row has
  pub usable : All (IsUsable P (length row)) given → All (IsUsable P (length row)) gives
  pub early : SpeaksOf (length gives) x
  pub noted : (s : Substitution) → AreNoted P given s → AreNoted P gives s
  pub lacks : WhileFree P row has (λ later. (s : Substitution) → IsGiven P later held given s
      → IsGiven P later has gives s × LacksEach held (apply s x))

-- The terms of references lack the cells that were held, and nothing was given.
pub record HoldNone (P : NamedProgram) (row : List Ref) (held has : List ℕ) (rs : List Ref) : Type 0 where
  pub gained : List ℕ
  pub longer : has ≡ held ++ gained
  pub free : AreFree row held → AreFree row has
  pub lacks : WhileFree P row has (λ later. (s : Substitution) → Solves s (equations_of P later)
      → LeavesOthers later held s → (r : Ref) → Contains rs r → LacksEach held (apply s (ref_term P r)))
