use Rattle.std.proofs.Common.{◌≡◌, ◌∙◌, ◌++◌, ℕ, ap, sym, subst, append_assoc, IfOk}
use Rattle.std.specs.Prelude.{codes}
use Rattle.std.specs.Fmt.{decimal}
use Rattle.and_model.specs.Terms.{Term}
use Rattle.and_model.specs.Lines.{Bytes}
use Rattle.and_model.specs.Programs.{Clause, Program, clause_at}
use Rattle.and_program.specs.Loaded.{program_of, skeleton_of}
use Rattle.and_program.specs.Skeletons.{node_term}
use Rattle.and_lint.specs.Findings.{arity_of, front, never_line, shown_name_of}
use Rattle.and_lint.specs.Told.{never_line_of}
use Rattle.and_lint.proofs.linting.never_line.Goals as goal

pub returns : goal.returns
returns c =
    let P : Program = program_of c.args.loaded.now in
    let k : Clause = clause_at P c.args.no.0 in
    let t : Term = node_term (skeleton_of c.args.loaded.now).nodes c.head.result.0 in
    let same : never_line_of P c.line.result t ≡ never_line P k =
    ap (λ (n : ℕ). never_line_of P n t) c.line.ensures
    ∙ ap (λ (u : Term). never_line_of P k.line u) c.head.ensures.term
    ∙ sym (append_assoc (front k.line ++ shown_name_of P k.head ++ codes "/") (decimal (arity_of k.head)) (codes " is never called")) in
    subst (λ (x : Bytes). IfOk c.never_line_of.result (λ text. text ≡ x)) same c.never_line_of.ensures
