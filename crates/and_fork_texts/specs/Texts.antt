-- The fork tree of a query as a text: what the basic Andorra model (Santos Costa, Warren and Yang, 1991) does to a
-- search, to be read. (The text and the limit are this project's own.)
use Rattle.std.specs.Prelude.{ℕ, ◌+◌, ◌≤◌, Bool, true, false, List, [], ◌∷◌, ◌++◌, codes, count_by}
use Rattle.std.specs.Fmt.{decimal}
use Rattle.and_model.specs.Programs.{Program}
use Rattle.and_model.specs.Trees.{QueryTree, Open, weight}
use Rattle.and_model.specs.Reached.{Steps, Shut, Dead, Split, SplitClauses}
use Rattle.and_model.specs.Lines.{Bytes}
use Rattle.and_model.specs.Listing.{Outcome, answer, floundered, Ends}

-- What a line tells: a fork by these clauses, a branch that failed, or how one ended.
pub data Node : Type 0 where
  fork : List ℕ → Node
  failed : Node
  ended : Outcome → Node

-- a line of the text: a node, and how many forks it stands below
pub record Line : Type 0 where
  pub depth : ℕ
  pub node : Node

module _ (P : Program) (limit : ℕ) where
  mutual
    -- TreeText t depth lines: these are the lines of the fork tree, whose root stands at this depth, by trees that
    -- weigh at most the limit. By Steps the tree comes to a Dead tree, or to a Shut one without open goals, and there
    -- is one line; or to a Shut tree with open goals, and there is a line with the candidates of its leftmost one in
    -- textual order, and then the lines of the splits by them.
    pub data TreeText : QueryTree P → ℕ → List Line → Type 0 where
      dead : (t end : QueryTree P) (depth : ℕ) → Steps t end → weight end ≤ limit → Dead end
          → TreeText t depth (record { depth = depth; node = failed } ∷ [])
      whole : (t end : QueryTree P) (depth : ℕ) (o : Outcome) → Steps t end → weight end ≤ limit → Shut end
          → Ends end o
          → TreeText t depth (record { depth = depth; node = ended o } ∷ [])
      forked : (t end : QueryTree P) (depth : ℕ) (cs : List ℕ) (lines : List Line) → Steps t end → weight end ≤ limit
          → Shut end → Open end
          → SplitClauses end cs → TextOfSplits end cs (depth + 1) lines
          → TreeText t depth (record { depth = depth; node = fork cs } ∷ lines)

    -- the lines of the splits by these clauses, one after another
    pub data TextOfSplits : QueryTree P → List ℕ → ℕ → List Line → Type 0 where
      no_more : (t : QueryTree P) (depth : ℕ) → TextOfSplits t [] depth []
      more : (t next : QueryTree P) (c : ℕ) (cs : List ℕ) (depth : ℕ) (lines others : List Line) → Split t c next
          → TreeText next depth lines
          → TextOfSplits t cs depth others → TextOfSplits t (c ∷ cs) depth (lines ++ others)

-- each number behind a space
abbrev pub numbers_text : List ℕ → Bytes
numbers_text [] = []
numbers_text (c ∷ cs) = 32 ∷ decimal c ++ numbers_text cs

abbrev pub node_text : Node → Bytes
node_text (fork cs) = codes "fork" ++ numbers_text cs
node_text failed = codes "failed"
node_text (ended (answer text)) = codes "answer " ++ text
node_text (ended (floundered text)) = codes "floundered " ++ text

-- The text of these lines: each is its depth in decimal, a space and what it tells, and a newline.
abbrev pub text_of : List Line → Bytes
text_of [] = []
text_of (l ∷ ls) = decimal l.depth ++ 32 ∷ node_text l.node ++ 10 ∷ text_of ls

-- the kinds of lines
abbrev pub is_fork : Node → Bool
is_fork (fork cs) = true
is_fork failed = false
is_fork (ended o) = false

abbrev pub is_failed : Node → Bool
is_failed (fork cs) = false
is_failed failed = true
is_failed (ended o) = false

abbrev pub is_answer : Node → Bool
is_answer (fork cs) = false
is_answer failed = false
is_answer (ended (answer text)) = true
is_answer (ended (floundered text)) = false

abbrev pub is_floundered : Node → Bool
is_floundered (fork cs) = false
is_floundered failed = false
is_floundered (ended (answer text)) = false
is_floundered (ended (floundered text)) = true

-- how many lines are of a kind
abbrev pub count_of : (Node → Bool) → List Line → ℕ
count_of is lines = count_by (λ l. is l.node) lines
