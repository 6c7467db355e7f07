use Rattle.std.proofs.Common.{◌<◌, length, get_or, true≢false, sym, arith, ◌∙◌}
use Rattle.std.proofs.lemmas.List.{get_or_default}
use Rattle.and_model.specs.declared.numbers.ClauseNo.{ClauseNo}
use Rattle.and_clause_index.specs.Looks.{IsLeft}
use Rattle.and_determinacy.proofs.Searching.{none_more}
use Rattle.and_determinacy.proofs.judging.next_left.Goals as goal

pub loop-place-preserved : goal.loop-place-preserved
loop-place-preserved c =
    let Q = IsLeft c.args.table.now c.args.look.now in
    let clauses = c.args.clauses.now in
    let place = c.loop-place.place in
    let clause : ClauseNo = get_or clauses place (record { 0 = 0 }) in
    let low : place < length clauses = omega arith in
    let read = get_or_default clauses place (record { 0 = 0 }) clause low in
    none_more Q clauses c.args.from place clause read
    (λ left. true≢false (sym c.if-not-is_apart.false ∙ c.is_apart.ensures ∙ left)) c.loop-place.invariant
