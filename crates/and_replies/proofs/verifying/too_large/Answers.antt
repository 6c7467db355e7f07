use Rattle.std.proofs.Common.{ℕ, sym, subst, arith}
use Rattle.and_language.specs.Refusals
use Rattle.and_syntax.specs.Tables.{source}
use Rattle.and_questions.specs.Verified.{IsDocumentRefused, too_long}
use Rattle.and_replies.proofs.verifying.too_large.Goals as goal

pub line_at-requires : goal.line_at-requires
line_at-requires c = let large = c.requires in omega arith

pub returns : goal.returns
returns c =
    let P : ℕ → Type 0 = λ n. IsDocumentRefused c.args.bytes.now (record { cause = Refusals.too_big source; line = n }) in
    subst P (sym c.line_at.ensures) (too_long c.requires)
