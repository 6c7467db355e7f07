-- The line that says why a text is refused (this project's own form).
use Rattle.std.specs.Prelude.{ℕ, ◌++◌, codes}
use Rattle.std.specs.Fmt.{decimal}
use Rattle.and_model.specs.Lines.{Bytes, shown_name}
use Rattle.and_syntax.specs.Tables.{What, source, clauses, arguments, variables, nodes, nesting}
use Rattle.and_language.specs.Refusals.{Cause, syntax, not_text, too_wide, too_big, not_pure, redefines, unknown}
use Rattle.and_language.specs.Refusals.{no_query, second_query, Refusal}

abbrev pub what_text : What → Bytes
what_text source = codes "source"
what_text clauses = codes "clauses"
what_text arguments = codes "arguments"
what_text variables = codes "variables"
what_text nodes = codes "nodes"
what_text nesting = codes "nesting"

-- a name and its number of arguments
abbrev pub predicate_text : Bytes → ℕ → Bytes
predicate_text name arity = shown_name name ++ codes "/" ++ decimal arity

abbrev pub cause_text : Cause → Bytes
cause_text syntax = codes "syntax"
cause_text not_text = codes "not text"
cause_text too_wide = codes "number too wide"
cause_text (too_big what) = codes "too big: " ++ what_text what
cause_text not_pure = codes "not pure"
cause_text (redefines name arity) = codes "redefines " ++ predicate_text name arity
cause_text (unknown name arity) = codes "unknown " ++ predicate_text name arity
cause_text no_query = codes "no query"
cause_text second_query = codes "second query"

-- the whole line, with its newline
abbrev pub refusal_line : Refusal → Bytes
refusal_line r = codes "error: line " ++ decimal r.line ++ codes ": " ++ cause_text r.cause ++ codes "\n"
