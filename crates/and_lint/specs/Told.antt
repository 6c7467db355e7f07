-- The line that a predicate is never called, by the line and the head of its clause.
use Rattle.std.specs.Prelude.{ℕ, ◌++◌, codes}
use Rattle.std.specs.Fmt.{decimal}
use Rattle.and_model.specs.Terms.{Term}
use Rattle.and_model.specs.Lines.{Bytes}
use Rattle.and_model.specs.Programs.{Program}
use Rattle.and_lint.specs.Findings.{arity_of, front, shown_name_of}

abbrev pub never_line_of : Program → (line : ℕ) → (head : Term) → Bytes
never_line_of P line head =
    front line ++ shown_name_of P head ++ codes "/" ++ (decimal (arity_of head) ++ codes " is never called")
