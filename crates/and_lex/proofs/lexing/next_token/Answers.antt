use Rattle.std.proofs.lemmas.List.{take_rest}
use Rattle.std.proofs.lemmas.Result.{err_from_is_err_and}
use Rattle.and_lex.specs.Scanning.{end_of_text, one_token, one_fault}
use Rattle.and_lex.specs.Views.{kind_of, fault_of}
use Rattle.and_lex.proofs.Soundness.{next_found}
use Rattle.and_lex.proofs.lexing.next_token.Goals as goal

pub returns-in_err-found-clause-next : goal.returns-in_err-found-clause-next
returns-in_err-found-clause-next c =
    let p = err_from_is_err_and c.from_residual.result c.from_residual.ensures.1 in
    let gap = c.gap_len-gap.result in
    rw (p.1, p.2) (next_found c.args.is_cut c.args.place gap c.args.bytes.now _ (take_rest c.args.bytes.now gap) c.gap_len-gap.ensures.within
    c.gap_len-gap.ensures.gap c.gap_len-gap.ensures.behind
    (one_fault (fault_of c.in_err-found.field-0.0)) c.in_err-found.ensures.found c.in_err-found.ensures.within)

pub returns-in-None-clause-next : goal.returns-in-None-clause-next
returns-in-None-clause-next c =
    let gap = c.gap_len-gap.result in
    let found = rw c.in-None.is at c.in_ok-found.ensures.found in
    next_found c.args.is_cut c.args.place gap c.args.bytes.now _ (take_rest c.args.bytes.now gap) c.gap_len-gap.ensures.within c.gap_len-gap.ensures.gap
    c.gap_len-gap.ensures.behind
    end_of_text found tt

pub returns-in-Some-clause-next : goal.returns-in-Some-clause-next
returns-in-Some-clause-next c =
    let gap = c.gap_len-gap.result in
    let found = rw c.in-Some.is at c.in_ok-found.ensures.found in
    let within = rw c.in-Some.is at c.in_ok-found.ensures.within in
    next_found c.args.is_cut c.args.place gap c.args.bytes.now _ (take_rest c.args.bytes.now gap) c.gap_len-gap.ensures.within c.gap_len-gap.ensures.gap
    c.gap_len-gap.ensures.behind
    (one_token (kind_of c.in-Some.kind) c.in-Some.len) found within
