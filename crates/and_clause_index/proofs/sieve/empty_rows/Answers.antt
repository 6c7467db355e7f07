use Rattle.std.proofs.Common.{List, [], ◌∷◌, ◌++◌, ap, ◌∙◌}
use Rattle.and_model.specs.declared.numbers.ClauseNo.{ClauseNo}
use Rattle.and_clause_index.proofs.Sifting.{empty_more}
use Rattle.and_clause_index.proofs.sieve.empty_rows.Goals as goal

pub loop-mark-preserved : goal.loop-mark-preserved
loop-mark-preserved c =
    let old = c.loop-mark.rows.items in
    empty_more c.loop-mark._mark old c.push.new.self.items
    (c.in_ok-push.ensures.items ∙ ap (λ (row : List ClauseNo). old ++ row ∷ []) c.new.ensures) c.loop-mark.invariant
