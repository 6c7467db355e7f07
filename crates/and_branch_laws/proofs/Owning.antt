-- The terms of goals name the variables of their clauses alone.
use Rattle.std.proofs.Common.{ℕ, zero, suc, List, [], ◌∷◌, get_or, inl, inr, Contains}
use Rattle.std.proofs.lemmas.List.Elements.{All-contains, Contains-append_cases}
use Rattle.and_model.specs.Terms.{Path, Term, none, more, variables_of, variables_in}
use Rattle.and_model.specs.Programs.{Item, call, equal, arithmetic, fail, is, compare, clause_at}
use Rattle.and_model.specs.Stands.{term_of, item_term}
use Rattle.and_model.specs.OwnVariables.{IsOwn, AreOwn}
use Rattle.and_model.specs.declared.goal.Goal.{Goal}
use Rattle.and_laws.proofs.Ordered.{contains_none}
use Rattle.and_cells.specs.Ranges.{NamedProgram}
use Rattle.and_branch_laws.specs.OwnVariables.{OwnVariables}
use Rattle.and_branch_laws.specs.Variables.{SpeaksOf, EquationsSpeakOf, ArithmeticSpeaksOf}
use Rattle.and_branch_laws.specs.Reducing.{body_equations}
use Rattle.and_branch_laws.proofs.Growing.{BodyIsOwn, body_is_own, nothing_said}

-- all terms of the item speak of these
abbrev pub ItemSpeaksOf : (Path × ℕ → Type 0) → Item → Type 0
ItemSpeaksOf V (call g) = SpeaksOf V g
ItemSpeaksOf V (equal a b) = SpeaksOf V a × SpeaksOf V b
ItemSpeaksOf V (arithmetic a) = ArithmeticSpeaksOf V a
ItemSpeaksOf V fail = Unit {0}

pub own_speaks : (n : ℕ) (t : Term) → AreOwn n t → SpeaksOf (IsOwn n) t
own_speaks n t own v c = All-contains (IsOwn n) (variables_of t) v own c

-- So it is of each item of a body,
pub item_speaks : (n : ℕ) (items : List Item) → BodyIsOwn n items → (i : ℕ) → ItemSpeaksOf (IsOwn n) (get_or items i fail)
item_speaks n [] own i = tt
item_speaks n (call g ∷ items) own zero = own_speaks n g own.0
item_speaks n (equal a b ∷ items) own zero = (own_speaks n a own.0, own_speaks n b own.1)
item_speaks n (arithmetic (is l r) ∷ items) own zero = (own_speaks n l own.0, own_speaks n r own.1)
item_speaks n (arithmetic (compare o a b) ∷ items) own zero = (own_speaks n a own.0, own_speaks n b own.1)
item_speaks n (fail ∷ items) own zero = tt
item_speaks n (call g ∷ items) own (suc i) = item_speaks n items own.1 i
item_speaks n (equal a b ∷ items) own (suc i) = item_speaks n items own.2 i
item_speaks n (arithmetic (is l r) ∷ items) own (suc i) = item_speaks n items own.2 i
item_speaks n (arithmetic (compare o a b) ∷ items) own (suc i) = item_speaks n items own.2 i
item_speaks n (fail ∷ items) own (suc i) = item_speaks n items own i

both_speak : (V : Path × ℕ → Type 0) (a b : Term) → SpeaksOf V a → SpeaksOf V b → (v : Path × ℕ)
    → Contains (variables_in (more a (more b none))) v → V v
both_speak V a b f g v h = elim (Contains-append_cases (variables_of a) (variables_in (more b none)) v h) [
  | inl i ↦ f v i
  | inr i ↦ elim (Contains-append_cases (variables_of b) [] v i) [ inl j ↦ g v j | inr j ↦ absurd (contains_none v j) ]
]

item_term_speaks : (V : Path × ℕ → Type 0) (i : Item) → ItemSpeaksOf V i → SpeaksOf V (item_term i)
item_term_speaks V (call g) s = s
item_term_speaks V (equal a b) s = both_speak V a b s.0 s.1
item_term_speaks V (arithmetic (is l r)) s = both_speak V l r s.0 s.1
item_term_speaks V (arithmetic (compare o a b)) s = both_speak V a b s.0 s.1
item_term_speaks V fail s = λ v c. absurd (contains_none v c)

-- and of the term of a goal.
pub term_speaks : (P : NamedProgram) → OwnVariables P → (g : Goal)
    → SpeaksOf (IsOwn (clause_at P.program g.clause.0).variables) (term_of P.program g)
term_speaks P own g =
    let c = clause_at P.program g.clause.0 in
    item_term_speaks (IsOwn c.variables) (get_or c.body g.item fail) (item_speaks c.variables c.body (body_is_own P own g.clause.0) g.item)

-- The equations of a body speak of what its terms speak of, wherever these are put.
pub body_equations_speak : (V : Path × ℕ → Type 0) (put : Term → Term) (n : ℕ) (items : List Item)
    → ((t : Term) → AreOwn n t → SpeaksOf V (put t)) → BodyIsOwn n items → EquationsSpeakOf V (body_equations put items)
body_equations_speak V put n [] f own = tt
body_equations_speak V put n (call g ∷ items) f own = body_equations_speak V put n items f own.1
body_equations_speak V put n (equal a b ∷ items) f own = (f a own.0, f b own.1, body_equations_speak V put n items f own.2)
body_equations_speak V put n (arithmetic (is l r) ∷ items) f own = body_equations_speak V put n items f own.2
body_equations_speak V put n (arithmetic (compare o a b) ∷ items) f own = body_equations_speak V put n items f own.2
body_equations_speak V put n (fail ∷ items) f own = (nothing_said V, nothing_said V, body_equations_speak V put n items f own)
