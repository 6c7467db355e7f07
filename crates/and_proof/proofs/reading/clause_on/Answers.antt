use Rattle.std.proofs.Common.{◌∙◌, codes}
use Rattle.std.specs.Fmt.{decimal}
use Rattle.and_proof.proofs.EntryParts.{behind_mark, behind_depth, mark_parts, depth_parts, mark_closed, number_closed}
use Rattle.and_proof.proofs.reading.clause_on.Goals as goal

pub returns-in_err-entry : goal.returns-in_err-entry
returns-in_err-entry c = λ e is eq. absurd (c.in_err-entry.ensures.parts (codes "%%") (behind_mark e) mark_closed (eq ∙ mark_parts e))

pub returns-in_err-entry-2 : goal.returns-in_err-entry-2
returns-in_err-entry-2 c = λ e is eq.
    let first = c.in_ok-entry.ensures.parts (codes "%%") (behind_mark e) mark_closed (eq ∙ mark_parts e) in
    absurd (c.in_err-entry-2.ensures.parts (decimal e.depth) (behind_depth e) (number_closed e.depth) (first.1 ∙ depth_parts e))

pub returns-in_err-number : goal.returns-in_err-number
returns-in_err-number c = λ e is eq.
    let first = c.in_ok-entry.ensures.parts (codes "%%") (behind_mark e) mark_closed (eq ∙ mark_parts e) in
    let second = c.in_ok-entry-2.ensures.parts (decimal e.depth) (behind_depth e) (number_closed e.depth) (first.1 ∙ depth_parts e) in
    absurd (c.in_err-number.ensures.parts (decimal e.clause) e.call (number_closed e.clause) second.1)

pub returns-in_err-number_of : goal.returns-in_err-number_of
returns-in_err-number_of c = λ e is eq.
    let first = c.in_ok-entry.ensures.parts (codes "%%") (behind_mark e) mark_closed (eq ∙ mark_parts e) in
    let second = c.in_ok-entry-2.ensures.parts (decimal e.depth) (behind_depth e) (number_closed e.depth) (first.1 ∙ depth_parts e) in
    let third = c.in_ok-number.ensures.parts (decimal e.clause) e.call (number_closed e.clause) second.1 in
    absurd (c.in_err-number_of.ensures e.clause is.clause third.0)

pub returns : goal.returns
returns c = λ e is eq.
    let first = c.in_ok-entry.ensures.parts (codes "%%") (behind_mark e) mark_closed (eq ∙ mark_parts e) in
    let second = c.in_ok-entry-2.ensures.parts (decimal e.depth) (behind_depth e) (number_closed e.depth) (first.1 ∙ depth_parts e) in
    let third = c.in_ok-number.ensures.parts (decimal e.clause) e.call (number_closed e.clause) second.1 in
    c.in_ok-number_of.ensures e.clause is.clause third.0
