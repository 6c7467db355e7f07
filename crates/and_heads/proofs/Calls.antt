-- A call and the head of a clause as a part.
use Rattle.std.proofs.Common.{ℕ, ◌≡◌, ◌<◌, List, [], ◌∷◌, ◌++◌, length, Some, refl, sym, ap, subst, ◌∙◌, pos}
use Rattle.std.proofs.lemmas.Option.{slice_get-get_or}
use Rattle.and_model.specs.declared.numbers.NameNo.{NameNo}
use Rattle.and_model.specs.declared.numbers.NodeNo.{NodeNo}
use Rattle.and_model.specs.declared.reference.Ref.{Ref}
use Rattle.and_model.specs.declared.reference.Ref.TheVariants.{Node}
use Rattle.and_program.specs.declared.node.NodeKind.TheVariants as kind
use Rattle.and_program.specs.Loaded.{shape_at}
use Rattle.and_program.specs.Shown.{shown, resolved}
use Rattle.and_program.specs.Skeletons as skeletons
use Rattle.and_program.specs.Skeletons.{Shape}
use Rattle.and_cells.specs.Ranges.{NamedProgram, IsNoVariable}
use Rattle.and_cells.specs.Parts.{IsStructure, part_at}
use Rattle.and_cells.proofs.Frames.{no_variable}
use Rattle.and_unify.specs.declared.pairs.Pair.{Pair}
use Rattle.and_heads.specs.Calls.{call_and_head, IsCallPart}

-- What a node is that is shown as a name with so many arguments.
record IsShown (P : NamedProgram) (node : NodeNo) (base name count : ℕ) : Type 0 where
  structure : IsStructure P (Node node base) name count
  found : part_at P base node.0 ≡ Node node base
  no_variable_there : IsNoVariable P node.0

by_shape : (P : NamedProgram) (node : NodeNo) (base : ℕ) (name : NameNo) (count : ℕ) (s : Shape) → shape_at P.skeleton node.0 ≡ s
    → node.0 < length P.skeleton.nodes → kind.Compound name count ≡ shown s → IsShown P node base name.0 count
by_shape P node base name count (skeletons.variable k) at there is = absurd cc
by_shape P node base name count (skeletons.number z) at there is = absurd cc
by_shape P node base name count (skeletons.compound d ns) at there is =
    let named : name.0 ≡ d = let same : name ≡ record { 0 = d } = cc in ap (λ (n : NameNo). n.0) same in
    let many : count ≡ length ns = cc in
    record {
      structure = record {
        node = node;
        base = base;
        arguments = ns;
        reference = refl;
        shape = slice_get-get_or P.skeleton.nodes node.0 (skeletons.number (pos 0)) there
            ∙ ap (λ (s : Shape). Some s) (at ∙ ap (λ (n : ℕ). skeletons.compound n ns) (sym named));
        counted = sym many;
      };
      found = ap (λ (s : Shape). resolved s node base) at;
      no_variable_there = no_variable P node.0 (λ k variable. let both = sym at ∙ variable in absurd cc);
    }

-- Two nodes that are shown alike are a part.
pub shown_part : (P : NamedProgram) (call head : NodeNo) (base floor : ℕ) (name called : NameNo) (count many : ℕ) → call.0 < length P.skeleton.nodes
    → head.0 < length P.skeleton.nodes → kind.Compound name count ≡ shown (shape_at P.skeleton call.0)
    → kind.Compound called many ≡ shown (shape_at P.skeleton head.0) → called.0 ≡ name.0 → many ≡ count
    → IsCallPart P base call.0 floor head.0 (record { left = record { node = call; base = base }; right = record { node = head; base = floor } })
shown_part P call head base floor name called count many call_there head_there call_is head_is same_name same_count =
    let one = by_shape P call base name count (shape_at P.skeleton call.0) refl call_there call_is in
    let other = by_shape P head floor called many (shape_at P.skeleton head.0) refl head_there head_is in
    let right : IsStructure P (Node head floor) name.0 count =
    subst (λ (n : ℕ). IsStructure P (Node head floor) name.0 n) same_count
    (subst (λ (n : ℕ). IsStructure P (Node head floor) n many) same_name other.structure) in (
      λ i. record { left = one.found i; right = other.found i } ∷ [],
      λ words low high. record {
        name = name.0;
        count = count;
        left_is = one.structure;
        right_is = right;
        left_in_range = (low, one.no_variable_there);
        right_in_range = (high, other.no_variable_there);
      },
    )

-- The two that were found for them are the one pair of a list on which nothing else was put.
pub put_alone : (P Q : NamedProgram) (call head base floor : ℕ) (left right : Ref) (cleared list : List Pair) → P ≡ Q → left ≡ part_at Q base call
    → right ≡ part_at Q floor head → cleared ≡ [] → list ≡ cleared ++ record { left = left; right = right } ∷ []
    → list ≡ call_and_head P base call floor head
put_alone P Q call head base floor left right cleared list same left_is right_is none is =
    is
    ∙ ap (λ (ps : List Pair). ps ++ record { left = left; right = right } ∷ []) none
    ∙ (λ i. record { left = left_is i; right = right_is i } ∷ [])
    ∙ ap (λ (R : NamedProgram). call_and_head R base call floor head) (sym same)
