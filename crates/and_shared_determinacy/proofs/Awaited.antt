-- Where the arguments of a goal end.
use Rattle.std.proofs.Common.{ℕ, ◌+◌, ◌≡◌, ◌<◌, ◌≤◌, length, Some, sym, ap, subst, ◌∙◌, inl, inr, arith}
use Rattle.std.specs.Prelude.{slice_get}
use Rattle.std.proofs.lemmas.Bool.{cases_eq}
use Rattle.std.proofs.lemmas.Option.{same_Some, slice_get_within}
use Rattle.and_model.specs.declared.numbers.NodeNo.{NodeNo}
use Rattle.and_model.specs.declared.reference.Ref.{Ref}
use Rattle.and_model.specs.declared.reference.Ref.TheVariants.{Cell, Node}
use Rattle.and_program.specs.Loaded.{shape_at, arguments_at}
use Rattle.and_program.specs.Shown.{arguments_in}
use Rattle.and_program.specs.Skeletons
use Rattle.and_program.specs.Skeletons.{Shape, AllFall}
use Rattle.and_cells.specs.Ranges.{NamedProgram, IsNodeInRange, IsInRange}
use Rattle.and_cells.specs.Seen.{Seen, OnlyReads, LeadsTo, FoundFree, EndsAt, IsWrittenIfNumber}
use Rattle.and_cells.specs.Parts.{parts_of, part_at}
use Rattle.and_cells.proofs.Frames.{no_variable}
use Rattle.and_cells.proofs.Chains.{leads_later, reads_more}
use Rattle.and_unify.proofs.TurnParts.{length_map, part_in_range, part_written}
use Rattle.and_unify.proofs.SettlingPairs.{contains_place}
use Rattle.and_clause_index.specs.Selecting.{IsNoCell, NoneWaits}

-- What ended elsewhere still does.
pub none_later : (P : NamedProgram) (old new : Seen) (node : NodeNo) (base count : ℕ) → OnlyReads old new → NoneWaits P old node base count
    → NoneWaits P new node base count
none_later P old new node base count reads none k r low there =
    let (end, leads, no_cell) = none k r low there in
    (end, leads_later old new r end reads.keeps leads, no_cell)

pub none_at_first : (P : NamedProgram) (s : Seen) (node : NodeNo) (base : ℕ) → NoneWaits P s node base 0
none_at_first P s node base k r low there = absurd (omega (arith, low))

-- One argument more ends elsewhere.
pub none_more : (P : NamedProgram) (old new : Seen) (node : NodeNo) (base place : ℕ) (argument end : Ref) → OnlyReads old new → NoneWaits P old node base place
    → slice_get (parts_of P (Node node base)) place ≡ Some argument → LeadsTo new argument end → IsNoCell end → NoneWaits P new node base (place + 1)
none_more P old new node base place argument end reads none there leads no_cell k r low at = elim (cases_eq k place) [
  | inl e ↦ (let same : argument ≡ r = same_Some argument r (sym there ∙ ap (slice_get (parts_of P (Node node base))) (sym e) ∙ at) in
      (end, subst (λ (x : Ref). LeadsTo new x end) same leads, no_cell))
  | inr other ↦ none_later P old new node base place reads none k r (omega (arith, low, other)) at
]

-- how many arguments are found
pub parts_many : (P : NamedProgram) (node : NodeNo) (base : ℕ) → length (parts_of P (Node node base)) ≡ length (arguments_at P.skeleton node.0)
parts_many P node base = length_map (part_at P base) (arguments_at P.skeleton node.0)

pub found_later : (shared cell : ℕ) (old mid new : Seen) → OnlyReads old mid → FoundFree shared cell mid new → FoundFree shared cell old new
found_later shared cell old mid new reads free = record { before = free.before; reads = reads_more old mid free.before reads free.reads; misses = free.misses }

-- What has an argument is no variable.
no_variable_shape : (s : Shape) (k place : ℕ) → s ≡ Skeletons.variable k → place < length (arguments_in s) → ⊥
no_variable_shape (Skeletons.variable j) k place e low = omega (arith, low)
no_variable_shape (Skeletons.number z) k place e low = omega (arith, low)
no_variable_shape (Skeletons.compound c ns) k place e low = cc

-- An argument of a call can be followed.
pub argument_follows : (P : NamedProgram) (fall : AllFall 0 P.skeleton.nodes) (words : ℕ) (s : Seen) (node : NodeNo) (base place : ℕ) (r : Ref)
    → s.words ≡ words → IsNodeInRange P words node.0 base
    → slice_get (parts_of P (Node node base)) place ≡ Some r → IsInRange P s.words r × IsWrittenIfNumber s r
argument_follows P fall words s node base place r same range there =
    let low : place < length (parts_of P (Node node base)) = slice_get_within (parts_of P (Node node base)) place r there in
    let few : place < length (arguments_at P.skeleton node.0) = omega (arith, low, parts_many P node base) in
    let whole : IsInRange P words (Node node base) = (range, no_variable P node.0 (λ k e. no_variable_shape (shape_at P.skeleton node.0) k place e few)) in
    let among = contains_place (parts_of P (Node node base)) place r there in
    (subst (λ (n : ℕ). IsInRange P n r) (sym same) (part_in_range P words (Node node base) r fall whole among), part_written P s (Node node base) r among)

-- an argument under another name of the program
pub argument_as_named : (P Q : NamedProgram) (node : NodeNo) (base place : ℕ) (r : Ref) → P ≡ Q → slice_get (parts_of Q (Node node base)) place ≡ Some r
    → slice_get (parts_of P (Node node base)) place ≡ Some r
argument_as_named P Q node base place r same at = subst (λ (x : NamedProgram). slice_get (parts_of x (Node node base)) place ≡ Some r) (sym same) at

pub free_end : (shared : ℕ) (end : Ref) (cell : ℕ) (old new : Seen) → end ≡ Cell cell → EndsAt shared end old new → FoundFree shared cell old new
free_end shared end cell old new is ends = subst (λ (x : Ref). EndsAt shared x old new) is ends

pub none_less : (P : NamedProgram) (s : Seen) (node : NodeNo) (base few many : ℕ) → few ≤ many → NoneWaits P s node base many → NoneWaits P s node base few
none_less P s node base few many less none k r low there = none k r (omega (arith, low, less)) there
