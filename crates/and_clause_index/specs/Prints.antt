-- The print of a term: a mark for each of a few places, 0 where a variable or nothing stands there. Terms whose
-- prints have two marks at one place have no instance in common (field-encoded words: Wise and Powers, 1984).
use Rattle.std.specs.Prelude.{ℕ, zero, suc, ◌+◌, ◌-◌, ◌*◌, ◌%◌, ◌≡◌, ◌≢◌, ◌<◌, ◌≤◌, Bool, not, ◌&&◌, ◌||◌, nat_eq, List}
use Rattle.std.specs.Prelude.{length, get_or}
use Rattle.std.specs.Int.RustNames.{unsigned_abs}
use Rattle.and_model.specs.Terms.{Term, Terms, variable, number, compound, none, more}
use Rattle.and_model.specs.Programs.{Program, clause_at}
use Rattle.and_program.specs.Shown.{shown_term, argument_of, count_of}
use Rattle.and_program.specs.declared.node.NodeKind.{NodeKind}
use Rattle.and_program.specs.declared.node.NodeKind.TheVariants.{Variable, Number, Compound}
use Rattle.and_clause_index.specs.declared.prints.Marks.{Marks}
use Rattle.and_clause_index.specs.declared.prints.Print.{Print}

-- what a term is at that place; a variable stands for none
abbrev pub kind_in : Terms → ℕ → NodeKind
kind_in none j = Variable 0
kind_in (more t ts) zero = shown_term t
kind_in (more t ts) (suc j) = kind_in ts j

-- what the argument of a term at that place is
abbrev pub argument_kind : Term → ℕ → NodeKind
argument_kind (variable q k) j = Variable 0
argument_kind (number z) j = Variable 0
argument_kind (compound c ts) j = kind_in ts j

-- the mark of what a term is
abbrev pub mark : NodeKind → ℕ
mark (Variable k) = 0
mark (Number z) = 255 - unsigned_abs z % 255
mark (Compound c n) = 1 + (c.0 + 64 * n) % 255

-- those of the argument of a term at that place, and of its first two arguments
abbrev pub marks_at : Term → ℕ → Marks
marks_at t j = record {
  own = mark (argument_kind t j);
  first = mark (argument_kind (argument_of t j) 0);
  second = mark (argument_kind (argument_of t j) 1);
}

-- the print of a term: the first two arguments with their own first two, and two more
abbrev pub print_of : Term → Print
print_of t = record {
  first = marks_at t 0;
  second = marks_at t 1;
  third = mark (argument_kind t 2);
  fourth = mark (argument_kind t 3);
}

abbrev pub no_marks : Marks
no_marks = record { own = 0; first = 0; second = 0 }

abbrev pub no_print : Print
no_print = record { first = no_marks; second = no_marks; third = 0; fourth = 0 }

-- both are marks, and they are not the same
abbrev pub differ : ℕ → ℕ → Bool
differ a b = not (nat_eq a 0) && not (nat_eq b 0) && not (nat_eq a b)

abbrev pub marks_differ : Marks → Marks → Bool
marks_differ a b = differ a.own b.own || differ a.first b.first || differ a.second b.second

-- the prints differ at some place
abbrev pub are_apart : Print → Print → Bool
are_apart p q =
    marks_differ p.first q.first || marks_differ p.second q.second || differ p.third q.third || differ p.fourth q.fourth

-- These are the prints of the heads of all clauses, by their numbers.
pub record ArePrints (P : Program) (prints : List Print) : Type 0 where
  pub many : length prints ≡ length P.clauses + 1
  pub each : (c : ℕ) → c ≤ length P.clauses → get_or prints c no_print ≡ print_of (clause_at P c).head

-- ---- One variable twice

-- Both are of one variable.
abbrev pub AreOneVariable : NodeKind → NodeKind → Type 0
AreOneVariable a b = (k : ℕ) × (a ≡ Variable k) × (b ≡ Variable k)

-- The first two arguments of a term are the same.
pub record IsDoubled (t : Term) : Type 0 where
  pub there : 1 < count_of (shown_term t)
  pub same : argument_of t 0 ≡ argument_of t 1

-- ---- What is known of a print

-- The mark is 0, or the other.
abbrev pub Tells : ℕ → ℕ → Type 0
Tells a b = a ≢ 0 → a ≡ b

pub record MarksTell (a b : Marks) : Type 0 where
  pub own : Tells a.own b.own
  pub first : Tells a.first b.first
  pub second : Tells a.second b.second

-- Each mark of a print is 0, or that of the other.
pub record PrintTells (p q : Print) : Type 0 where
  pub first : MarksTell p.first q.first
  pub second : MarksTell p.second q.second
  pub third : Tells p.third q.third
  pub fourth : Tells p.fourth q.fourth
