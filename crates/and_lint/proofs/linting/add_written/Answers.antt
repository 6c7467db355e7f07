use Rattle.std.proofs.Common.{◌≡◌, ◌∙◌, ◌++◌, ◌∷◌, ℕ, [], List, ap, sym, subst}
use Rattle.std.proofs.lemmas.Result.{on_ok_weaker}
use Rattle.and_model.specs.Programs.{Clause, Item, Program, clause_at}
use Rattle.and_program.specs.Loaded.{program_of, skeleton_of}
use Rattle.and_program.specs.Skeletons.{Shape}
use Rattle.and_lint.specs.Bodies.{items_written, numbers_in, variables_written}
use Rattle.and_lint.specs.Findings.{left_lines, no_value_lines, once_lines}
use Rattle.and_lint.specs.Held.{AreItems, items_shown}
use Rattle.and_lint.specs.Kept.{Adds}
use Rattle.and_lint.proofs.Adding.{adds_both}
use Rattle.and_lint.proofs.linting.add_written.Goals as goal

pub add_no_values-requires-clause-items : goal.add_no_values-requires-clause-items
add_no_values-requires-clause-items c =
    subst (AreItems (skeleton_of c.args.loaded.now).nodes) (sym c.items_at-items.ensures) (c.requires.bodies.there c.args.no.0)

pub add_left_terms-requires-clause-items : goal.add_left_terms-requires-clause-items
add_left_terms-requires-clause-items c =
    subst (AreItems (skeleton_of c.args.loaded.now).nodes) (sym c.items_at-items.ensures) (c.requires.bodies.there c.args.no.0)

pub returns : goal.returns
returns c =
    let ss : List Shape = (skeleton_of c.args.loaded.now).nodes in
    let P : Program = program_of c.args.loaded.now in
    let k : Clause = clause_at P c.args.no.0 in
    let variables : c.deref.result.now ≡ variables_written P c.args.no.0 =
    c.deref.ensures.value ∙ c.in_ok-variables.ensures
    ∙ ap (λ (vs : List ℕ). numbers_in (k.head ∷ []) ++ vs) (c.requires.bodies.variables_are c.args.no.0) in
    let items : items_shown ss c.items_at-items.result.now ≡ items_written P c.args.no.0 =
    ap (items_shown ss) c.items_at-items.ensures ∙ c.requires.bodies.items_are c.args.no.0 in
    let once = subst (λ (vs : List ℕ). Adds c.args.findings.now c.add_lone_variables.new.findings (once_lines k vs)) variables
    c.in_ok-add_lone_variables.ensures in
    let valueless = subst (λ (is : List Item). Adds c.add_never_called.new.findings c.add_no_values.new.findings (no_value_lines P k is)) items
    c.in_ok-add_no_values.ensures in
    on_ok_weaker c.add_left_terms.result
    (λ a. adds_both _ _ _ _ _ (adds_both _ _ _ _ _ (adds_both _ _ _ _ _ once c.in_ok-add_never_called.ensures) valueless)
    (subst (λ (is : List Item). Adds c.add_no_values.new.findings c.add_left_terms.new.findings (left_lines P k is)) items a))
    c.add_left_terms.ensures
