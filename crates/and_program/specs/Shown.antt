-- What is shown of nodes and terms, and which clauses a predicate has.
use Rattle.std.specs.Prelude.{ℕ, zero, suc, ◌+◌, Bool, false, ◌&&◌, cond, List, [], ◌∷◌, length, nat_eq, pos}
use Rattle.and_model.specs.Terms
use Rattle.and_model.specs.Terms.{Term, Terms}
use Rattle.and_model.specs.Programs.{Clause}
use Rattle.and_model.specs.declared.numbers.ClauseNo.{ClauseNo}
use Rattle.and_model.specs.declared.numbers.NodeNo.{NodeNo}
use Rattle.and_model.specs.declared.reference.Ref as reference
use Rattle.and_model.specs.declared.reference.Ref.{Ref}
use Rattle.and_model.specs.Terms.{width}
use Rattle.and_program.specs.Skeletons
use Rattle.and_program.specs.Skeletons.{Shape}
use Rattle.and_program.specs.declared.node.NodeKind.{NodeKind}
use Rattle.and_program.specs.declared.node.NodeKind.TheVariants.{Variable, Number, Compound}
use Rattle.and_model.specs.declared.builtins.TheConstants.{TRUE}

-- the atom `true`
abbrev pub truth : Term
truth = Terms.compound TRUE Terms.none

-- the nodes of a shape's arguments
abbrev pub arguments_in : Shape → List ℕ
arguments_in (Skeletons.variable k) = []
arguments_in (Skeletons.number z) = []
arguments_in (Skeletons.compound c ns) = ns

-- what is shown of a node of that shape
abbrev pub shown : Shape → NodeKind
shown (Skeletons.variable k) = Variable k
shown (Skeletons.number z) = Number z
shown (Skeletons.compound c ns) = Compound (record { 0 = c }) (length ns)

-- the number of arguments that is shown
abbrev pub count_of : NodeKind → ℕ
count_of (Variable k) = 0
count_of (Number z) = 0
count_of (Compound c n) = n

-- what is shown of a term
abbrev pub shown_term : Term → NodeKind
shown_term (Terms.variable q k) = Variable k
shown_term (Terms.number z) = Number z
shown_term (Terms.compound c ts) = Compound (record { 0 = c }) (width ts)

-- the term at that place, from 0 on (the number 0 stands where there is none)
abbrev pub term_at : Terms → ℕ → Term
term_at Terms.none n = Terms.number (pos 0)
term_at (Terms.more t ts) zero = t
term_at (Terms.more t ts) (suc n) = term_at ts n

-- the argument of a term at that place
abbrev pub argument_of : Term → ℕ → Term
argument_of (Terms.variable q k) n = Terms.number (pos 0)
argument_of (Terms.number z) n = Terms.number (pos 0)
argument_of (Terms.compound c ts) n = term_at ts n

-- the term has that name and number of arguments
abbrev pub has_functor : ℕ → ℕ → Term → Bool
has_functor c n (Terms.variable q k) = false
has_functor c n (Terms.number z) = false
has_functor c n (Terms.compound d ts) = nat_eq d c && nat_eq (width ts) n

-- the numbers, from k on, of those clauses whose heads have that name and number of arguments
abbrev pub clauses_with : ℕ → ℕ → ℕ → List Clause → List ClauseNo
clauses_with c n k [] = []
clauses_with c n k (clause ∷ clauses) = cond (has_functor c n clause.head)
    (record { 0 = k } ∷ clauses_with c n (suc k) clauses) (clauses_with c n (suc k) clauses)

-- where the term of a node is found in the frame at that base
abbrev pub resolved : Shape → NodeNo → ℕ → Ref
resolved (Skeletons.variable k) node base = reference.TheVariants.Cell (base + 1 + k)
resolved (Skeletons.number z) node base = reference.TheVariants.Node node base
resolved (Skeletons.compound c ns) node base = reference.TheVariants.Node node base
