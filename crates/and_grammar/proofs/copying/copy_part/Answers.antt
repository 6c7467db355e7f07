use Rattle.std.specs.Prelude.{FitsSigned}
use Rattle.std.proofs.lemmas.Int.{ints, to_z-of_z}
use Rattle.std.proofs.Common.{rules, ℤ, to_z, of_z, w64, List, [], ◌∷◌, ◌++◌, reverse, refl, ap, sym, ◌∙◌, ◌≡◌}
use Rattle.and_syntax.specs.Written.{variable, integer}
use Rattle.and_drafts.specs.Drafts.{read_part}
use Rattle.and_drafts.proofs.Telling.{variable_read, integer_read, compound_read, arguments_fall}
use Rattle.and_grammar.specs.declared.copying.Copy.{Copy}
use Rattle.and_grammar.specs.declared.copying.Copy.TheVariants.{Term, Name}
use Rattle.and_grammar.specs.Views.{Adds}
use Rattle.and_grammar.specs.Copies.{Copies, are_terms, name_of}
use Rattle.and_grammar.proofs.CopyLemmas.{on_ok, leaf_copied, opened}
use Rattle.and_grammar.proofs.copying.copy_part.Goals as goal

pub returns-in-Variable : goal.returns-in-Variable
returns-in-Variable c =
    let todo : List Copy = reverse c.args.pending.now.items in
    on_ok c.put_variable.result (Adds c.args.out.now c.put_variable.new.out (variable c.in-Variable.name.now ∷ []))
    (Copies c.args.rule.now c.args.out.now c.put_variable.new.out (Term c.args.place ∷ todo) todo)
    (λ a. leaf_copied c.args.rule.now c.args.out.now c.put_variable.new.out c.args.place todo todo refl (variable c.in-Variable.name.now)
    (variable_read c.args.rule.now c.args.place _ c.requires.there c.in-Variable.number c.in-Variable.name.now (ap read_part (sym c.in-Variable.is)
    ∙ c.part.ensures)) a c.requires.enough)
    c.put_variable.ensures

pub returns-in-Integer : goal.returns-in-Integer
returns-in-Integer c =
    let todo : List Copy = reverse c.args.pending.now.items in
    let z : ℤ = c.in-Integer.value in
    let fits : FitsSigned w64 c.in-Integer.value = search (rules, ints) in
    let back : to_z w64 (of_z w64 z) ≡ z = to_z-of_z w64 z fits in
    let is = integer_read c.args.rule.now c.args.place _ c.requires.there z (ap read_part (sym c.in-Integer.is) ∙ c.part.ensures) in
    on_ok c.put_integer.result (Adds c.args.out.now c.put_integer.new.out (integer (to_z w64 (of_z w64 z)) ∷ []))
    (Copies c.args.rule.now c.args.out.now c.put_integer.new.out (Term c.args.place ∷ todo) todo)
    (λ a. leaf_copied c.args.rule.now c.args.out.now c.put_integer.new.out c.args.place todo todo refl (integer (to_z w64 (of_z w64 z))) (is
    ∙ ap integer (sym back)) a c.requires.enough)
    c.put_integer.ensures

pub returns-in-Compound : goal.returns-in-Compound
returns-in-Compound c =
    let todo : List Copy = reverse c.args.pending.now.items in
    let after : List Copy = reverse c.open_name.new.pending.items in
    let read = compound_read c.args.rule.now c.args.place _ c.requires.there c.in-Compound.count c.in-Compound.name.now (ap read_part (sym c.in-Compound.is)
    ∙ c.part.ensures) in
    on_ok c.open_name.result (after ≡ are_terms c.arguments.result.now ++ (Name c.args.place ∷ todo))
    (Copies c.args.rule.now c.args.out.now c.args.out.now (Term c.args.place ∷ todo) after)
    (λ e. opened c.args.rule.now c.args.out.now c.args.place todo after c.in-Compound.name.now (sym (ap name_of read.0)) read.1 c.requires.there
    (arguments_fall c.args.rule.now c.args.place c.requires.there) (e
    ∙ ap (λ ns. are_terms ns ++ (Name c.args.place ∷ todo)) c.arguments.ensures) c.requires.enough)
    c.open_name.ensures
