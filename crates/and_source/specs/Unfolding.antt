-- The unfolding of a code over a program with disjunctions (SLD derivations, Lloyd, section 7, with the leftmost goal
-- selected).
use Rattle.std.specs.Prelude.{ℕ, suc, ◌+◌, ◌≡◌, cond, ◌&&◌, nat_eq, List, [], ◌∷◌, ◌++◌, Option, Some, None}
use Rattle.and_model.specs.Terms.{Path, Term, framed}
use Rattle.and_model.specs.Solutions.{Equation, falsehood}
use Rattle.and_model.specs.Programs.{call, equal, arithmetic, fail, Arithmetic, arithmetic_in, same_predicate}
use Rattle.and_model.specs.Trees.{mapped, then}
use Rattle.and_source.specs.Source.{SourceItems, no_items, plain, either, Alternatives, no_alternatives, alternative}
use Rattle.and_source.specs.Source.{SourceClause, SourceProgram, source_clauses, source_weight, alternative_weight}

-- What is to be done, from left to right. A call carries the path of the clause that will take it, and a choice the
-- frame of its clause and the path that its alternative will have.
pub data SourceAgenda : Type 0 where
  source_end : SourceAgenda
  source_goal : Path → Term → SourceAgenda → SourceAgenda
  source_equation : Term → Term → SourceAgenda → SourceAgenda
  source_reckoning : Arithmetic → SourceAgenda → SourceAgenda
  choice : (frame path : Path) → Alternatives → SourceAgenda → SourceAgenda

-- the items of what has the path p, in the frame q, numbered from i on, before the rest
abbrev pub source_agenda : (q p : Path) → ℕ → SourceItems → SourceAgenda → SourceAgenda
source_agenda q p i no_items rest = rest
source_agenda q p i (plain (call g) items) rest =
    source_goal (p ++ i ∷ []) (framed q g) (source_agenda q p (suc i) items rest)
source_agenda q p i (plain (equal a b) items) rest =
    source_equation (framed q a) (framed q b) (source_agenda q p (suc i) items rest)
source_agenda q p i (plain (arithmetic a) items) rest =
    source_reckoning (arithmetic_in q a) (source_agenda q p (suc i) items rest)
source_agenda q p i (plain fail items) rest =
    source_equation falsehood.0 falsehood.1 (source_agenda q p (suc i) items rest)
source_agenda q p i (either name alts items) rest = choice q (p ++ i ∷ []) alts (source_agenda q p (suc i) items rest)

-- What an unfolding keeps: what is still to be done, equations, arithmetic goals, and the weight of what was used.
pub record Unfolding : Type 0 where
  pub agenda : SourceAgenda
  pub equations : List Equation
  pub arithmetics : List Arithmetic
  pub weight : ℕ

-- While the first item is no call and no choice it is taken off.
abbrev pub advanced : SourceAgenda → List Equation → List Arithmetic → ℕ → Unfolding
advanced source_end es gs w = record { agenda = source_end; equations = es; arithmetics = gs; weight = w }
advanced (source_goal p g rest) es gs w =
    record { agenda = source_goal p g rest; equations = es; arithmetics = gs; weight = w }
advanced (source_equation a b rest) es gs w = advanced rest ((a, b) ∷ es) gs w
advanced (source_reckoning a rest) es gs w = advanced rest es (gs ++ a ∷ []) w
advanced (choice q p alts rest) es gs w =
    record { agenda = choice q p alts rest; equations = es; arithmetics = gs; weight = w }

-- the clause with that number, where it is of the call's predicate
abbrev pub taker : Term → ℕ → List SourceClause → Option SourceClause
taker g c [] = None
taker g c (k ∷ ks) = cond (nat_eq c k.number && same_predicate g k.head) (Some k) (taker g c ks)

-- the items of the alternative with that number, where it is one of these
abbrev pub chosen : ℕ → Alternatives → Option SourceItems
chosen c no_alternatives = None
chosen c (alternative d items alts) = cond (nat_eq c d) (Some items) (chosen c alts)

-- A call at the front is replaced by the body of clause c in a new frame, whose equation with the head is added; a
-- choice at the front is replaced by the items of alternative c in the frame of its clause. None where c is neither,
-- or where nothing is at the front.
abbrev pub taken : SourceProgram → ℕ → SourceAgenda → List Equation → List Arithmetic → ℕ → Option Unfolding
taken P c source_end es gs w = None
taken P c (source_goal p g rest) es gs w =
    mapped (λ k. advanced (source_agenda p p 0 k.body rest) ((g, framed p k.head) ∷ es) gs (w + source_weight k))
    (taker g c (source_clauses P))
taken P c (source_equation a b rest) es gs w = None
taken P c (source_reckoning a rest) es gs w = None
taken P c (choice q p alts rest) es gs w =
    mapped (λ items. advanced (source_agenda q p 0 items rest) es gs (w + alternative_weight alts items))
    (chosen c alts)

-- the unfolding after one more number
abbrev pub source_extend : SourceProgram → Unfolding → ℕ → Option Unfolding
source_extend P u c = taken P c u.agenda u.equations u.arithmetics u.weight

abbrev pub source_extend_all : SourceProgram → Unfolding → List ℕ → Option Unfolding
source_extend_all P u [] = Some u
source_extend_all P u (c ∷ cs) = then (source_extend P u c) (λ v. source_extend_all P v cs)

-- the query's items, with the query's weight
abbrev pub source_start : SourceProgram → Unfolding
source_start P = advanced (source_agenda [] [] 0 P.query.body source_end) [] [] (source_weight P.query)

-- The unfolding of a code: none where a number does not go on, or where nothing is left for it.
abbrev pub source_unfold : SourceProgram → List ℕ → Option Unfolding
source_unfold P cs = source_extend_all P (source_start P) cs

-- no item is left
abbrev pub IsSourceWhole : Unfolding → Type 0
IsSourceWhole u = u.agenda ≡ source_end
