use Rattle.std.proofs.Common.{◌∙◌, sym, subst}
use Rattle.std.specs.Option.{IfSome, IsNone}
use Rattle.and_unify.specs.Classes.{Linked}
use Rattle.and_unify.proofs.ClassLinks.{found_linked, none_root}
use Rattle.and_unify.proofs.classes.parent.Goals as goal

pub returns-clause-linked : goal.returns-clause-linked
returns-clause-linked c =
    let links = c.args.parents.now.entries in
    subst (λ found. IfSome found (Linked links c.args.of)) (sym (c.copied.ensures ∙ c.get.ensures.value)) (found_linked links c.args.of)

pub returns-clause-root : goal.returns-clause-root
returns-clause-root c = λ none. none_root c.args.parents.now.entries c.args.of (subst IsNone (c.copied.ensures ∙ c.get.ensures.value) none)
