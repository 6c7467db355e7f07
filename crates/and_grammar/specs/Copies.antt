-- A copy of a term, part by part.
use Rattle.std.specs.Prelude.{ℕ, suc, ◌+◌, ◌-◌, ◌<◌, ◌≤◌, ◌≡◌, List, [], ◌∷◌, ◌++◌, map, length, take, drop, get_or}
use Rattle.and_model.specs.Lines.{Bytes}
use Rattle.and_syntax.specs.Written.{Written, compound, none, more, nodes_of}
use Rattle.and_drafts.specs.Parts.{PartShape, many}
use Rattle.and_drafts.specs.Parts as shapes
use Rattle.and_drafts.specs.Drafts.{draft_of, shapes_of}
use Rattle.and_drafts.specs.declared.draft.ClauseDraft.{ClauseDraft}
use Rattle.and_grammar.specs.Views.{term_at, arguments_at}
use Rattle.and_grammar.specs.declared.copying.Copy.{Copy}
use Rattle.and_grammar.specs.declared.copying.Copy.TheVariants.{Term, Name}

-- the name of a part
abbrev pub name_of : PartShape → Bytes
name_of (shapes.variable x) = []
name_of (shapes.integer z) = []
name_of (shapes.compound c ns) = c

abbrev pub name_at : ClauseDraft → ℕ → Bytes
name_at d n = name_of (get_or (shapes_of d) n (shapes.variable []))

-- the last k of some terms are the arguments of a name
abbrev pub taken : Bytes → ℕ → List Written → List Written
taken c k ws = take (length ws - k) ws ++ compound c (many (drop (length ws - k) ws)) ∷ []

-- the finished terms when what is left to do was done
abbrev pub copied : ClauseDraft → List Copy → List Written → List Written
copied d [] ws = ws
copied d (Term n ∷ todo) ws = copied d todo (ws ++ term_at d n ∷ [])
copied d (Name n ∷ todo) ws = copied d todo (taken (name_at d n) (length (arguments_at d n)) ws)

-- there are enough finished terms for each name, where there are k now
abbrev pub AreEnough : ClauseDraft → List Copy → ℕ → Type 0
AreEnough d [] k = Unit {0}
AreEnough d (Term n ∷ todo) k = AreEnough d todo (suc k)
AreEnough d (Name n ∷ todo) k = (length (arguments_at d n) ≤ k) × AreEnough d todo (suc (k - length (arguments_at d n)))

-- terms with a name of two arguments between, nested to the right
abbrev pub chain : Bytes → List Written → Written → Written
chain c [] w = w
chain c (u ∷ us) w = compound c (more u (more (chain c us w) none))

-- terms that are left to copy
abbrev pub are_terms : List ℕ → List Copy
are_terms ns = map Term ns

-- what is left to do is of the draft's parts
abbrev pub IsWithin : ClauseDraft → Copy → Type 0
IsWithin d (Term n) = n < (draft_of d).parts
IsWithin d (Name n) = n < (draft_of d).parts

abbrev pub AreWithin : ClauseDraft → List Copy → Type 0
AreWithin d [] = Unit {0}
AreWithin d (c ∷ todo) = IsWithin d c × AreWithin d todo

-- how much is left to do
abbrev pub work : ClauseDraft → List Copy → ℕ
work d [] = 0
work d (Term n ∷ todo) = nodes_of (term_at d n) + nodes_of (term_at d n) + work d todo
work d (Name n ∷ todo) = suc (work d todo)

-- A step of a copy: in the end it comes to the same terms, and less is left to do.
pub record Copies (d : ClauseDraft) (old new : ClauseDraft) (before after : List Copy) : Type 0 where
  pub line : (draft_of new).line ≡ (draft_of old).line
  pub same : copied d after (draft_of new).finished ≡ copied d before (draft_of old).finished
  pub enough : AreEnough d after (length (draft_of new).finished)
  pub within : AreWithin d before → AreWithin d after
  pub less : work d after < work d before
