-- The frames of a branch that are kept where those that nothing names are dropped, and the row in which they lie side
-- by side.
use Rattle.std.specs.Prelude.{ℕ, zero, suc, ◌+◌, ◌-◌, ◌<◌, ◌≤◌, ◌≡◌, ◌↔◌, cond, ltb, List, [], ◌∷◌, length}
use Rattle.std.specs.Prelude.{AllPairs, Contains}
use Rattle.and_model.specs.Terms.{Path, variables_of}
use Rattle.and_model.specs.Programs.{clause_at, clause_weight}
use Rattle.and_model.specs.Reductions.{Reduction}
use Rattle.and_model.specs.Stands.{ClauseHas}
use Rattle.and_model.specs.Store.{Frame}
use Rattle.and_model.specs.declared.goal.Goal.{Goal}
use Rattle.and_model.specs.declared.reference.Ref.{Ref}
use Rattle.and_model.specs.declared.reference.Ref.TheVariants.{Free, Cell, Node, Number, Half}
use Rattle.and_program.specs.Skeletons.{node_term}
use Rattle.and_cells.specs.Ranges.{NamedProgram}
use Rattle.and_cells.specs.Seen.{word_at}
use Rattle.and_moved_laws.specs.Parts.{moved}

-- ---- The frames of a branch

-- These are the frames of a branch, in the order of its row: that of each clause of its tree begins at the number of
-- the clause's place, and has as many words as the clause weighs.
pub record AreFrames (P : NamedProgram) (rs : List Reduction) (frames : List Frame) : Type 0 where
  pub rising : AllPairs (λ (f g : Frame). f.base < g.base) frames
  pub each : (f : Frame) → Contains frames f
      ↔ ((c : ℕ) × ClauseHas rs f.base c × (f.weight ≡ clause_weight (clause_at P.program c)))

-- These frames fill a row of so many words from this place on: each begins where the one before ends, the last ends
-- with the row, and none is empty.
abbrev pub Fill : (from : ℕ) → List Frame → (words : ℕ) → Type 0
Fill from [] words = from ≡ words
Fill from (f ∷ fs) words = (f.base ≡ from) × (0 < f.weight) × Fill (from + f.weight) fs words

-- the frame of a goal: it begins at the goal's base, and has as many words as the goal's clause weighs
abbrev pub frame_of_goal : NamedProgram → Goal → Frame
frame_of_goal P g = record { base = g.base; weight = clause_weight (clause_at P.program g.clause.0) }

-- the word at the place is the frame's
abbrev pub IsInFrame : (place : ℕ) → Frame → Type 0
IsInFrame place f = (f.base ≤ place) × (place < f.base + f.weight)

-- What the reference names lies in one of these frames: the cells of a node's variables in the frame that begins at its
-- base, and the words of a pair in some frame. (A cell may be any of the row.)
abbrev pub NamesFrame : NamedProgram → List Frame → Ref → Type 0
NamesFrame P frames Free = Unit {0}
NamesFrame P frames (Cell cell) = Unit {0}
NamesFrame P frames (Node node base) = (f : Frame) × Contains frames f × (f.base ≡ base) × IsInFrame base f
    × ((v : Path × ℕ) → Contains (variables_of (node_term P.skeleton.nodes node.0)) v → IsInFrame (base + 1 + v.1) f)
NamesFrame P frames (Number pair) =
    (f : Frame) × Contains frames f × IsInFrame pair f × IsInFrame (suc pair) f
NamesFrame P frames (Half bits) = Unit {0}

-- So it is with each word of the row.
abbrev pub NamesFrames : NamedProgram → List Frame → List Ref → Type 0
NamesFrames P frames row = (place : ℕ) → NamesFrame P frames (word_at row place)

-- ---- Those that are kept

-- What a word names: a cell, the base of a node's frame, or a pair. A half of a number names nothing.
abbrev pub Names : Ref → (place : ℕ) → Type 0
Names Free place = ⊥
Names (Cell cell) place = cell ≡ place
Names (Node node base) place = base ≡ place
Names (Number pair) place = pair ≡ place
Names (Half bits) place = ⊥

-- The frame is kept: it is the query's, or that of a goal that is open or waits, or one in which a set word of a kept
-- frame names a cell, a base or a pair. No other one is.
pub data IsKept (frames : List Frame) (row : List Ref) (goals : List Goal) : Frame → Type 0 where
  of_query : (f : Frame) → Contains frames f → f.base ≡ 0 → IsKept frames row goals f
  of_goal : (f : Frame) (g : Goal) → Contains frames f → Contains goals g → f.base ≡ g.base → IsKept frames row goals f
  of_word : (from f : Frame) (place to : ℕ) → IsKept frames row goals from → IsInFrame place from
      → Names (word_at row place) to → Contains frames f → IsInFrame to f → IsKept frames row goals f

-- These are the kept frames, in the order of the row.
pub record AreKept (frames : List Frame) (row : List Ref) (goals : List Goal) (kept : List Frame) : Type 0 where
  pub rising : AllPairs (λ (f g : Frame). f.base < g.base) kept
  pub each : (f : Frame) → Contains kept f ↔ IsKept frames row goals f

-- These of the frames are enough: the query's is among them, that of each goal, and each in which a set word of one of
-- them names something. (Those that are kept are; more may stay, as those below a choicepoint.)
pub record AreEnough (frames : List Frame) (row : List Ref) (goals : List Goal) (enough : List Frame) : Type 0 where
  pub rising : AllPairs (λ (f g : Frame). f.base < g.base) enough
  pub among : (f : Frame) → Contains enough f → Contains frames f
  pub of_query : (f : Frame) → Contains frames f → f.base ≡ 0 → Contains enough f
  pub of_goals : (f : Frame) (g : Goal) → Contains frames f → Contains goals g → f.base ≡ g.base → Contains enough f
  pub of_words : (from f : Frame) (place to : ℕ) → Contains enough from → IsInFrame place from
      → Names (word_at row place) to → Contains frames f → IsInFrame to f → Contains enough f

-- ---- The row of kept frames

-- how many words these frames have
abbrev pub words_of : List Frame → ℕ
words_of [] = 0
words_of (f ∷ fs) = f.weight + words_of fs

-- Where these frames lie side by side: the place in the whole row, of so many words, of a place there. What is put
-- behind them is put behind the whole row.
abbrev pub raised : (kept : List Frame) → (words : ℕ) → (place : ℕ) → ℕ
raised [] words place = words + place
raised (f ∷ fs) words place = cond (ltb place f.weight) (f.base + place) (raised fs words (place - f.weight))

-- the place there of a place in one of the frames (of other places nothing is asked)
abbrev pub lowered : (kept : List Frame) → (place : ℕ) → ℕ
lowered [] place = place
lowered (f ∷ fs) place = cond (ltb place (f.base + f.weight)) (place - f.base) (f.weight + lowered fs place)

-- the frame there
abbrev pub frame_lowered : (kept : List Frame) → Frame → Frame
frame_lowered kept f = record { base = lowered kept f.base; weight = f.weight }

-- a row by its words
abbrev pub listed : ℕ → (ℕ → Ref) → List Ref
listed zero word = []
listed (suc n) word = word 0 ∷ listed n (λ (k : ℕ). word (suc k))

-- The row in which the kept frames lie side by side, with all that their words name moved down too.
abbrev pub side_by_side : (kept : List Frame) → List Ref → List Ref
side_by_side kept row =
    listed (words_of kept) (λ (place : ℕ). moved (lowered kept) (word_at row (raised kept (length row) place)))

-- the words of the frame were moved together
abbrev pub MovesWhole : (at : ℕ → ℕ) → Frame → Type 0
MovesWhole at f = (n : ℕ) → n < f.weight → at (f.base + n) ≡ at f.base + n

-- the frame, moved
abbrev pub frame_moved : (at : ℕ → ℕ) → Frame → Frame
frame_moved at f = record { base = at f.base; weight = f.weight }
