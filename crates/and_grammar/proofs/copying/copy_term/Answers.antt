use Rattle.std.specs.Prelude.{FitsSigned}
use Rattle.std.proofs.lemmas.Int.{ints, to_z-of_z}
use Rattle.std.proofs.Common.{rules, ℤ, to_z, of_z, w64, List, [], ◌∷◌, refl, ap, sym, subst, ◌∙◌, ◌≡◌, OnOk}
use Rattle.std.proofs.lemmas.List.{append-nil}
use Rattle.and_syntax.specs.Written.{Written, integer, compound, none}
use Rattle.and_drafts.specs.Drafts.{draft_of, read_part}
use Rattle.and_drafts.proofs.Telling.{variable_read, integer_read, compound_read}
use Rattle.and_grammar.specs.Views.{Adds, term_at, arguments_at}
use Rattle.and_grammar.proofs.CopyLemmas.{atom_read}
use Rattle.and_grammar.proofs.copying.copy_term.Goals as goal

pub returns-in-Variable : goal.returns-in-Variable
returns-in-Variable c =
    subst (λ (w : Written). OnOk c.put_variable.result (Adds c.args.out.now c.put_variable.new.out (w ∷ [])))
    (sym (variable_read c.args.rule.now c.args.place _ c.requires c.in-Variable.number c.in-Variable.name.now
    (ap read_part (sym c.in-Variable.is) ∙ c.part.ensures)))
    c.put_variable.ensures

pub returns-in-Integer : goal.returns-in-Integer
returns-in-Integer c =
    let z : ℤ = c.in-Integer.value in
    let fits : FitsSigned w64 c.in-Integer.value = search (rules, ints) in
    let back : to_z w64 (of_z w64 z) ≡ z = to_z-of_z w64 z fits in
    let is = integer_read c.args.rule.now c.args.place _ c.requires z (ap read_part (sym c.in-Integer.is) ∙ c.part.ensures) in
    subst (λ (w : Written). OnOk c.put_integer.result (Adds c.args.out.now c.put_integer.new.out (w ∷ []))) (sym (is ∙ ap integer (sym back)))
    c.put_integer.ensures

pub returns-then-count-eq0 : goal.returns-then-count-eq0
returns-then-count-eq0 c =
    let d = c.args.rule.now in
    let F : List Written = (draft_of c.args.out.now).finished in
    let read = compound_read d c.args.place _ c.requires c.in-Compound.count c.in-Compound.name.now (ap read_part (sym c.in-Compound.is) ∙ c.part.ensures) in
    let atom : term_at d c.args.place ≡ compound c.in-Compound.name.now none =
    atom_read d c.args.place c.in-Compound.name.now (arguments_at d c.args.place) c.in-Compound.count read.1 read.2 c.if-count-eq0.true in
    subst (λ (w : Written). OnOk c.put_compound.result (Adds c.args.out.now c.put_compound.new.out (w ∷ []))) (sym atom)
    (c.put_compound.ensures F [] (sym (append-nil F)) refl)
