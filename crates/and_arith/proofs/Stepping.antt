-- Steps of a walk: references without parts, structures, and what becomes of them.
use Rattle.std.proofs.Common.{ℕ, ℤ, pos, ◌≡◌, ◌≤◌, ◌<◌, ◌++◌, List, [], ◌∷◌, length, reverse, Result, Ok, Err, Option, Some, None, FitsSigned, w64, to_z}
use Rattle.std.proofs.Common.{of_z, refl, ap, sym, ◌∙◌, subst}
use Rattle.std.specs.Prelude.{OnOk, OnErr, ◌^◌}
use Rattle.std.proofs.lemmas.Int.{to_z-of_z}
use Rattle.std.proofs.lemmas.Option.{slice_get-get_or}
use Rattle.std.proofs.lemmas.List.{reverse-append}
use Rattle.and_model.specs.Arithmetic.{in_range}
use Rattle.and_model.specs.declared.numbers.NameNo.{NameNo}
use Rattle.and_model.specs.declared.numbers.NodeNo.{NodeNo}
use Rattle.and_model.specs.declared.reference.Ref.{Ref}
use Rattle.and_model.specs.declared.reference.Ref.TheVariants as reference
use Rattle.and_program.specs.Skeletons as shapes
use Rattle.and_program.specs.Skeletons.{Shape}
use Rattle.and_program.specs.Shown.{shown}
use Rattle.and_program.specs.Loaded.{shape_at}
use Rattle.and_program.specs.declared.node.NodeKind.TheVariants as glance
use Rattle.and_cells.specs.Ranges.{NamedProgram, IsInRange, IsInRangeOrHalf}
use Rattle.and_cells.specs.Seen.{Seen, ReadsNumber}
use Rattle.and_cells.specs.Numbers.{number_of}
use Rattle.and_arith.specs.Taken.{Listed, IsNew}
use Rattle.and_arith.specs.Turns.{IsEnd, of_pair, of_literal, IsStructureAt, Undone, Comes, ends, opens, takes, tasks_of}
use Rattle.and_arith.specs.declared.walk.Task.{Task}
use Rattle.and_arith.specs.declared.walk.Task.TheVariants.{Keep}
use Rattle.and_arith.specs.declared.walk.Turn.{Turn}
use Rattle.and_arith.specs.declared.walk.Turn.TheVariants.{Again, Over}
use Rattle.and_arith.specs.declared.values.Valued.TheVariants as valued
use Rattle.and_arith.proofs.Numbers.{in_range_fits}

-- what follows from two facts of a success
pub on_both : {T E : Type 0} (r : Result T E) (A B C : Type 0) → (A → B → C) → OnOk r A → OnOk r B → OnOk r C
on_both (Ok x) A B C f a b = f a b
on_both (Err e) A B C f a b = tt

-- there is a turn after a success alone
pub after_ok : {T E : Type 0} (r : Result T E) (t : Turn) (A : Type 0) → OnErr r (t ≡ Over valued.Memory) → t ≡ Again → OnOk r A → A
after_ok (Ok x) t A over again a = a
after_ok (Err e) t A over again a = let both : Again ≡ Over valued.Memory = sym again ∙ over in absurd (cc)

-- a node that shows a number is one
number_shown : (s : Shape) (z : ℤ) → glance.Number z ≡ shown s → s ≡ shapes.number z
number_shown (shapes.variable k) z e = absurd (cc)
number_shown (shapes.number y) z e = cc
number_shown (shapes.compound c ns) z e = absurd (cc)

pub literal_ends : (P : NamedProgram) (s : Seen) (node : NodeNo) (base : ℕ) (z : ℤ) → FitsSigned w64 z → glance.Number z ≡ shown (shape_at P.skeleton node.0)
    → IsEnd P s (reference.Node node base) (Some z)
literal_ends P s node base z fits e = of_literal node base z (in_range_fits z fits) (number_shown (shape_at P.skeleton node.0) z e)

-- a pair that was read
pub pair_ends : (P : NamedProgram) (old new : Seen) (pair : ℕ) (z : ℤ) → FitsSigned w64 z → ReadsNumber P pair z old new
    → IsEnd P new (reference.Number pair) (Some z)
pair_ends P old new pair z fits r =
    let fits_so : in_range (number_of r.high r.low) ≡ Some (number_of r.high r.low) = subst (λ x. in_range x ≡ Some x) r.holds (in_range_fits z fits) in
    subst (λ x. IsEnd P new (reference.Number pair) (Some x)) (sym r.holds)
    (of_pair pair r.high r.low r.high_known r.low_known fits_so)

-- a node that shows a name
pub structure_shown : (P : NamedProgram) (node : NodeNo) (name : NameNo) (count : ℕ) (s : Shape) → shape_at P.skeleton node.0 ≡ s → count ≤ 255
    → glance.Compound name count ≡ shown s
    → (is : IsStructureAt P node) × (name.0 ≡ is.name) × (count ≡ length is.arguments)
structure_shown P node name count (shapes.variable k) at few e = absurd (cc)
structure_shown P node name count (shapes.number z) at few e = absurd (cc)
structure_shown P node name count (shapes.compound c ns) at few e =
    let counted : count ≡ length ns = cc in
    let same : name ≡ record { 0 = c } = cc in
    (record { name = c; arguments = ns; shape = at; few = subst (λ n. n ≤ 255) counted few }, ap (λ n. n.0) same, counted)

-- what has no parts, and whose value was put on the list
pub end_comes : {T E : Type 0} (r : Result T E) (P : NamedProgram) (by : Option ℕ) (s : Seen) (place at : Ref) (v w : Option ℤ) (old new : Undone) → place ≡ at
    → w ≡ v → IsEnd P s at v
    → OnOk r (new.values ≡ w ∷ old.values) → new.tasks ≡ old.tasks → new.taken ≡ old.taken → OnOk r (Comes P by place s old new)
end_comes r P by s place at v w old new is same end values tasks taken =
    let there : IsEnd P s place w = subst (λ (x : Option ℤ). IsEnd P s place x) (sym same) (subst (λ (q : Ref). IsEnd P s q v) (sym is) end) in
    on_both r _ _ _ (λ values other. ends w there tasks values taken) values values

-- what becomes of a place under a program's other name
pub comes_under : {T E : Type 0} (r : Result T E) (N P : NamedProgram) (by : Option ℕ) (place at : Ref) (s : Seen) (old new : Undone) → N ≡ P → place ≡ at
    → OnOk r ((s : Seen) → Comes P by at s old new) → OnOk r (Comes N by place s old new)
comes_under r N P by place at s old new same is comes =
    on_both r _ _ _ (λ a b. subst (λ (Q : NamedProgram). Comes Q by place s old new) (sym same) (subst (λ (q : Ref). Comes P by q s old new) (sym is) (a s)))
    comes comes

-- what is in range under a program's other name
pub in_range_under : (N P : NamedProgram) (words : ℕ) (place at : Ref) → N ≡ P → place ≡ at → IsInRangeOrHalf N words place → IsInRangeOrHalf P words at
in_range_under N P words place at same is fits = subst (λ (Q : NamedProgram). IsInRangeOrHalf Q words at) same (subst (IsInRangeOrHalf N words) is fits)

-- the task that was taken out came first
pub next_task : (old new : List Task) (t u : Task) → old ≡ new ++ t ∷ [] → t ≡ u → reverse old ≡ u ∷ reverse new
next_task old new t u is same = ap reverse is ∙ reverse-append new (t ∷ []) ∙ ap (λ x. x ∷ reverse new) same

-- a structure that no cell leads to was opened
pub opened_comes : {T E : Type 0} (r : Result T E) (P : NamedProgram) (node : NodeNo) (base : ℕ) (name : NameNo) (count : ℕ) (old new : Undone)
    → ((is : IsStructureAt P node) × (name.0 ≡ is.name) × (count ≡ length is.arguments))
    → OnOk r (new.tasks ≡ tasks_of P node base name.0 count old.tasks) → new.values ≡ old.values → new.taken ≡ old.taken
    → OnOk r ((s : Seen) → Comes P None (reference.Node node base) s old new)
opened_comes r P node base name count old new (is, named_so, counted) tasks values taken =
    on_both r _ _ _ (λ tasks other s. opens node base is refl refl (tasks ∙ ap (λ n. tasks_of P node base n count old.tasks) named_so
    ∙ ap (λ n. tasks_of P node base is.name n old.tasks) counted) values taken) tasks tasks

-- a structure was opened, and the cell that led to it taken before
pub taken_comes : {T E : Type 0} (r : Result T E) (P : NamedProgram) (cell : ℕ) (node : NodeNo) (base : ℕ) (name : NameNo) (count : ℕ) (old mid new : Undone)
    → ((is : IsStructureAt P node) × (name.0 ≡ is.name) × (count ≡ length is.arguments)) → IsNew old.taken cell
    → mid.tasks ≡ Keep cell ∷ old.tasks → mid.values ≡ old.values → mid.taken ≡ old.taken ++ (cell, None) ∷ [] → length mid.taken < 2 ^ 63
    → OnOk r (new.tasks ≡ tasks_of P node base name.0 count mid.tasks) → new.values ≡ mid.values → new.taken ≡ mid.taken
    → OnOk r ((s : Seen) → Comes P (Some cell) (reference.Node node base) s old new)
taken_comes r P cell node base name count old mid new (is, named_so, counted) fresh keep same taken few tasks values kept =
    on_both r _ _ _ (λ tasks other s.
    takes cell node base is refl refl fresh
    (tasks ∙ ap (λ n. tasks_of P node base n count mid.tasks) named_so ∙ ap (λ n. tasks_of P node base is.name n mid.tasks) counted
    ∙ ap (tasks_of P node base is.name (length is.arguments)) keep)
    (values ∙ same) (kept ∙ taken) (subst (λ (l : Listed). length l < 2 ^ 63) (sym kept) few)) tasks tasks

-- a node that shows a number, as code reads it
pub literal_read : (P : NamedProgram) (s : Seen) (node : NodeNo) (base : ℕ) (z : ℤ) → FitsSigned w64 z → glance.Number z ≡ shown (shape_at P.skeleton node.0)
    → IsEnd P s (reference.Node node base) (Some (to_z w64 (of_z w64 z)))
literal_read P s node base z fits e =
    subst (λ y. IsEnd P s (reference.Node node base) (Some y)) (sym (to_z-of_z w64 z fits)) (literal_ends P s node base z fits e)

-- a node in range shows no variable
variable_shown : (s : Shape) (k : ℕ) → glance.Variable k ≡ shown s → s ≡ shapes.variable k
variable_shown (shapes.variable j) k e = cc
variable_shown (shapes.number z) k e = absurd (cc)
variable_shown (shapes.compound c ns) k e = absurd (cc)

pub no_variable_shown : (P : NamedProgram) (words : ℕ) (node : NodeNo) (base k : ℕ) → IsInRange P words (reference.Node node base)
    → glance.Variable k ≡ shown (shape_at P.skeleton node.0) → ⊥
no_variable_shown P words node base k fits e =
    fits.1 k (slice_get-get_or P.skeleton.nodes node.0 (shapes.number (pos 0)) fits.0.there
    ∙ ap (λ (s : Shape). Some s) (variable_shown (shape_at P.skeleton node.0) k e))

-- a pair of words was read, and its number put on the list
pub pair_comes : {T E : Type 0} (r : Result T E) (P : NamedProgram) (by : Option ℕ) (before s : Seen) (place : Ref) (pair : ℕ) (z : ℤ) (old new : Undone)
    → place ≡ reference.Number pair → FitsSigned w64 z
    → ReadsNumber P pair z before s → OnOk r (new.values ≡ Some (to_z w64 (of_z w64 z)) ∷ old.values) → new.tasks ≡ old.tasks → new.taken ≡ old.taken
    → OnOk r (Comes P by place s old new)
pair_comes r P by before s place pair z old new is fits read values tasks taken =
    end_comes r P by s place (reference.Number pair) (Some z) (Some (to_z w64 (of_z w64 z))) old new is (ap (λ x. Some x) (to_z-of_z w64 z fits))
    (pair_ends P before s pair z fits read) values tasks taken
