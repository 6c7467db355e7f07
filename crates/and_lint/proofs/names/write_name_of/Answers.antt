use Rattle.std.proofs.Common.{◌∙◌, ◌++◌, [], ap, get_or, ℕ}
use Rattle.std.proofs.lemmas.Result.{on_ok_weaker}
use Rattle.and_model.specs.Lines.{Bytes, shown_name}
use Rattle.and_program.specs.Loaded.{program_of, skeleton_of}
use Rattle.and_program.specs.Skeletons.{node_term}
use Rattle.and_lint.specs.Kept.{name_in}
use Rattle.and_lint.proofs.Tasks.{name_shown}
use Rattle.and_lint.proofs.names.write_name_of.Goals as goal

pub returns : goal.returns
returns c =
    on_ok_weaker c.write_name.result
    (λ e. e ∙ ap (λ (n : Bytes). c.args.text.now ++ shown_name n)
    (c.name.ensures ∙ ap (λ (k : ℕ). get_or (program_of c.args.loaded.now).names k [])
    (c.name_in.ensures ∙ ap name_in c.kind.ensures.term ∙ name_shown (node_term (skeleton_of c.args.loaded.now).nodes c.args.node.0))))
    c.write_name.ensures
