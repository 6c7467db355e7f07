use Rattle.std.proofs.Common.{ℕ, ◌≡◌, ◌<◌, length, get_or, sym, ap, ◌∙◌, subst}
use Rattle.std.specs.Prelude.{Contains}
use Rattle.std.proofs.lemmas.List.{get_or_default}
use Rattle.and_model.specs.Terms.{Term}
use Rattle.and_model.specs.declared.reference.Ref.TheVariants.{Node}
use Rattle.and_program.specs.Loaded.{arguments_at, skeleton_of}
use Rattle.and_program.specs.Skeletons.{node_term}
use Rattle.and_cells.specs.Parts.{named, part_at, parts_of}
use Rattle.and_cells.specs.Ranges.{NamedProgram}
use Rattle.and_cell_laws.proofs.Images.{contains_image}
use Rattle.and_branch_laws.specs.Variables.{cells_from, placed}
use Rattle.and_unify.proofs.TurnParts.{part_in_range}
use Rattle.and_determinacy.specs.Parting.{IsArgument}
use Rattle.and_determinacy.specs.Seeing.{IsPart, ref_term}
use Rattle.and_determinacy.proofs.Parted.{argument_there}
use Rattle.and_determinacy.proofs.SureParts.{is_part, ref_of_part}
use Rattle.and_determinacy.proofs.parting.part_of.Goals as goal

pub returns-clause-part : goal.returns-clause-part
returns-clause-part c = λ P words same fall fits.
    let Q = named c.args.loaded.now in
    let base = c.args.base in
    let node = c.args.node in
    let args = arguments_at (skeleton_of c.args.loaded.now) node.0 in
    let i = c.args.place in
    let m : ℕ = get_or args i 0 in
    let low : i < length args = c.requires.place in
    let part_is : c.resolve.result ≡ part_at Q base m = c.resolve.ensures ∙ ap (part_at Q base) c.argument.ensures.node in
    let here = contains_image (part_at Q base) args m (i, low, sym (get_or_default args i 0 m low)) in
    let inside = part_in_range P words (Node node base) (part_at P base m) fall fits
    (subst (λ (R : NamedProgram). Contains (parts_of R (Node node base)) (part_at R base m)) (sym same) here) in
    subst (IsPart P words) (ap (λ (R : NamedProgram). part_at R base m) same ∙ sym part_is) (is_part P words base m inside)

pub returns-clause-argument : goal.returns-clause-argument
returns-clause-argument c = λ P same fall.
    let base = c.args.base in
    let node = c.args.node in
    let m = c.argument.result.0 in
    let part_is : c.resolve.result ≡ part_at P base m =
    subst (λ (Q : NamedProgram). c.resolve.result ≡ part_at Q base m) (sym same) c.resolve.ensures in
    let term : placed base (node_term P.skeleton.nodes m) ≡ ref_term P c.resolve.result =
    sym (ref_of_part P fall base m) ∙ ap (ref_term P) (sym part_is) in
    subst (λ (t : Term). IsArgument t (placed base (node_term P.skeleton.nodes node.0)) c.args.place) term
    (argument_there P fall c.args.loaded.now same node.0 m c.args.place (cells_from base) c.requires.place c.argument.ensures.term)
