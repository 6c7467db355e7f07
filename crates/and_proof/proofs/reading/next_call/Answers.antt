use Rattle.std.proofs.Common.{length, drop, codes, sym, ◌∙◌}
use Rattle.std.proofs.lemmas.Bool.Decides.{Decides-eqb}
use Rattle.std.proofs.lemmas.Slice.Eq.{starts_is}
use Rattle.and_proof.specs.Entries.{entry_text}
use Rattle.and_proof.proofs.EntryParts.{line_parts, text_plain, not_last}
use Rattle.and_proof.proofs.reading.next_call.Goals as goal

pub returns-then-starts_with-clause-call : goal.returns-then-starts_with-clause-call
returns-then-starts_with-clause-call c = λ e tail is eq.
    let begins = (starts_is Decides-eqb c.args.rest.now (codes "%% line ") c.starts_with.result c.starts_with.ensures.value).0 c.if-starts_with.true in
    not_last e tail (drop (length (codes "%% line ")) c.args.rest.now) (sym eq ∙ begins)

pub returns-in_err-line-clause-call : goal.returns-in_err-line-clause-call
returns-in_err-line-clause-call c = λ e tail is eq.
    absurd (c.in_err-line.ensures.parts (entry_text e) tail (text_plain e is) (eq ∙ line_parts e tail))

pub returns-in_err-clause_on-clause-call : goal.returns-in_err-clause_on-clause-call
returns-in_err-clause_on-clause-call c = λ e tail is eq.
    let read = c.in_ok-line.ensures.parts (entry_text e) tail (text_plain e is) (eq ∙ line_parts e tail) in
    absurd (c.in_err-clause_on.ensures e is read.0)

pub returns-clause-call : goal.returns-clause-call
returns-clause-call c = λ e tail is eq.
    let read = c.in_ok-line.ensures.parts (entry_text e) tail (text_plain e is) (eq ∙ line_parts e tail) in
    (c.in_ok-clause_on.ensures e is read.0, read.1)
