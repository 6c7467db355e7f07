-- What the parts of a rule's draft stand for.
use Rattle.std.specs.Prelude.{ℕ, ◌+◌, ◌<◌, ◌≡◌, Bool, false, cond, ◌||◌, List, [], ◌∷◌, ◌++◌, get_or, Option, Some}
use Rattle.std.specs.Prelude.{None, codes}
use Rattle.std.specs.Str.{bytes_eq}
use Rattle.and_model.specs.Lines.{Bytes}
use Rattle.and_syntax.specs.Written.{Written, Many, variable, integer, compound, none, more, nodes_of, has}
use Rattle.and_translation.specs.Bodies.{Body, nothing, terminals, goals, nonterminal, both, either, impure, or}
use Rattle.and_translation.specs.Bodies.{alternatives, body_of, elements, reserved}
use Rattle.and_drafts.specs.Parts
use Rattle.and_drafts.specs.Parts.{written_at, arguments_of}
use Rattle.and_drafts.specs.Drafts.{draft_of, shapes_of}
use Rattle.and_drafts.specs.declared.draft.ClauseDraft.{ClauseDraft}
use Rattle.and_grammar.specs.declared.bodies.Cell.{Cell}
use Rattle.and_grammar.specs.declared.bodies.BodyPart.{BodyPart}
use Rattle.and_grammar.specs.declared.bodies.BodyPart.TheVariants.{Nothing, Terminals, Goals, Nonterminal, Both}
use Rattle.and_grammar.specs.declared.bodies.BodyPart.TheVariants.{Either, Impure}

-- the term that ends at a part
abbrev pub term_at : ClauseDraft → ℕ → Written
term_at d n = written_at (shapes_of d) n

-- the parts that are the arguments of that one
abbrev pub arguments_at : ClauseDraft → ℕ → List ℕ
arguments_at d n = arguments_of (get_or (shapes_of d) n (Parts.variable []))

-- the body that ends at a part
abbrev pub body_at : ClauseDraft → ℕ → Body
body_at d n = body_of (term_at d n)

-- the two parts are in a term, one behind the other
pub record Holds (d : ClauseDraft) (l r n : ℕ) : Type 0 where
  pub left : l < n
  pub right : r < n
  pub smaller : nodes_of (term_at d l) + nodes_of (term_at d r) < nodes_of (term_at d n)

-- the term is a list with these elements, and the body has them as terminals
pub record IsList (d : ClauseDraft) (n : ℕ) (b : Body) : Type 0 where
  pub items : List Written
  pub listed : elements (term_at d n) ≡ Some items
  pub same : b ≡ terminals items

-- the term is a name with these arguments, and the body is that nonterminal
pub record IsCall (d : ClauseDraft) (n : ℕ) (b : Body) : Type 0 where
  pub name : Bytes
  pub arguments : Many
  pub named : term_at d n ≡ compound name arguments
  pub same : b ≡ nonterminal name arguments

-- an atom as a body
abbrev pub atom_part : Bytes → BodyPart
atom_part c = cond (bytes_eq c (codes "[]")) Nothing
    (cond (bytes_eq c (codes "!") || has c reserved) Impure Nonterminal)

-- a name with one argument as a body
abbrev pub unary_part : Bytes → ℕ → BodyPart
unary_part c n = cond (bytes_eq c (codes "{}")) (Goals n) (cond (bytes_eq c (codes "\\+")) Impure Nonterminal)

-- a list cell as a body, by the elements of its rest
abbrev pub list_part : Option (List Written) → BodyPart
list_part None = Impure
list_part (Some ts) = Terminals

-- a name with two arguments as a body
abbrev pub binary_part : ClauseDraft → Bytes → ℕ → ℕ → BodyPart
binary_part d c l r =
    cond (bytes_eq c (codes ",")) (Both l r)
    (cond (bytes_eq c (codes ";")) (Either l r)
    (cond (bytes_eq c (codes ".")) (list_part (elements (term_at d r)))
    (cond (bytes_eq c (codes "->")) Impure Nonterminal)))

-- a name with arguments as a body
abbrev pub named_part : ClauseDraft → Bytes → List ℕ → BodyPart
named_part d c [] = atom_part c
named_part d c (n ∷ []) = unary_part c n
named_part d c (l ∷ r ∷ []) = binary_part d c l r
named_part d c (l ∷ m ∷ r ∷ ns) = Nonterminal

-- the term is `[]`
abbrev pub is_nil : Written → Bool
is_nil (variable x) = false
is_nil (integer z) = false
is_nil (compound c none) = bytes_eq c (codes "[]")
is_nil (compound c (more t ts)) = false

abbrev pub nil_part : Bytes → List ℕ → Bool
nil_part c [] = bytes_eq c (codes "[]")
nil_part c (n ∷ ns) = false

-- a name with arguments as a list cell
abbrev pub cell_part : Bytes → List ℕ → Option Cell
cell_part c [] = None
cell_part c (n ∷ []) = None
cell_part c (e ∷ r ∷ []) = cond (bytes_eq c (codes ".")) (Some (record { element = e; rest = r })) None
cell_part c (e ∷ m ∷ r ∷ ns) = None

-- the term is a list cell of that element and that rest
pub record IsCellOf (d : ClauseDraft) (n : ℕ) (c : Cell) : Type 0 where
  pub named : term_at d n ≡ compound (codes ".") (more (term_at d c.element) (more (term_at d c.rest) none))
  pub within : Holds d c.element c.rest n

-- where it is none, it ends a list
abbrev pub IsCell : ClauseDraft → ℕ → Option Cell → Type 0
IsCell d n None = elements (term_at d n) ≡ cond (is_nil (term_at d n)) (Some []) None
IsCell d n (Some c) = IsCellOf d n c

-- A part is that body.
abbrev pub IsBody : ClauseDraft → ℕ → BodyPart → Body → Type 0
IsBody d n Nothing b = b ≡ nothing
IsBody d n Terminals b = IsList d n b
IsBody d n (Goals g) b = (b ≡ goals (term_at d g)) × (g < n)
IsBody d n Nonterminal b = IsCall d n b
IsBody d n (Both l r) b = (b ≡ both (body_at d l) (body_at d r)) × Holds d l r n
IsBody d n (Either l r) b = (b ≡ either (or (body_at d l) (alternatives (body_at d r)))) × Holds d l r n
IsBody d n Impure b = b ≡ impure

-- The part is a list of these terminals; where it is none there are none.
abbrev pub IsFirstList : ClauseDraft → List Written → Option ℕ → Type 0
IsFirstList d items None = items ≡ []
IsFirstList d items (Some n) = (n < (draft_of d).parts) × (elements (term_at d n) ≡ Some items)

-- the draft has these finished terms now
pub record Becomes (old new : ClauseDraft) (ws : List Written) : Type 0 where
  pub line : (draft_of new).line ≡ (draft_of old).line
  pub finished : (draft_of new).finished ≡ ws

-- the draft has these finished terms more
abbrev pub Adds : ClauseDraft → ClauseDraft → List Written → Type 0
Adds old new ws = Becomes old new ((draft_of old).finished ++ ws)
