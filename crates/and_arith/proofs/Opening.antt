-- A structure is opened part by part, from the last one on.
use Rattle.std.proofs.Common.{ℕ, suc, ◌≡◌, ◌<◌, List, [], ◌∷◌, ◌++◌, map, length, ◌≤◌, get_or, drop, drop-cons, reverse, ap, sym, ◌∙◌, arith}
use Rattle.std.proofs.lemmas.List.{length-map, get_or-map, reverse-append}
use Rattle.and_model.specs.declared.numbers.NodeNo.{NodeNo}
use Rattle.and_model.specs.declared.reference.Ref.{Ref}
use Rattle.and_model.specs.declared.reference.Ref.TheVariants.{Node}
use Rattle.and_program.specs.Loaded.{arguments_at}
use Rattle.and_cells.specs.Ranges.{NamedProgram}
use Rattle.and_cells.specs.Parts.{part_at, parts_of}
use Rattle.and_arith.specs.declared.walk.Task.{Task}
use Rattle.and_arith.specs.declared.walk.Task.TheVariants.{Enter}

-- one more part is to be entered, before those behind it
pub part_entered : (P : NamedProgram) (node : NodeNo) (base left next : ℕ) (part : Ref) (mid new rest : List Task) → next ≡ suc left
    → next ≤ length (arguments_at P.skeleton node.0) → part ≡ part_at P base (get_or (arguments_at P.skeleton node.0) left 0)
    → reverse mid ≡ map Enter (drop next (parts_of P (Node node base))) ++ rest → new ≡ mid ++ Enter part ∷ []
    → reverse new ≡ map Enter (drop left (parts_of P (Node node base))) ++ rest
part_entered P node base left next part mid new rest one within is before pushed =
    let arguments : List ℕ = arguments_at P.skeleton node.0 in
    let parts : List Ref = map (part_at P base) arguments in
    let there : left < length arguments = omega (arith, one, within) in
    let below : left < length parts = omega (arith, there, length-map arguments (part_at P base)) in
    let at : drop left parts ≡ part ∷ drop next parts =
    drop-cons parts left part below
    ∙ ap (λ (r : Ref). r ∷ drop (suc left) parts) (get_or-map (part_at P base) arguments left 0 part there ∙ sym is)
    ∙ ap (λ n. part ∷ drop n parts) (sym one) in
    ap reverse pushed ∙ reverse-append mid (Enter part ∷ []) ∙ ap (λ ts. Enter part ∷ ts) before
    ∙ ap (λ rs. map Enter rs ++ rest) (sym at)
