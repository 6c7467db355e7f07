use Rattle.std.proofs.Common.{◌∙◌, Some, sym, subst}
use Rattle.and_syntax.specs.Tables.{empty}
use Rattle.and_clauses.specs.Adds.{with_all}
use Rattle.and_clauses.specs.Makes.{Keeps}
use Rattle.and_clauses.specs.declared.added.Added.TheVariants.{Query}
use Rattle.and_clauses.proofs.Adding.{added_table, query_noted}
use Rattle.and_clauses.proofs.table.set_query.Goals as goal

pub returns-clause-set : goal.returns-clause-set
returns-clause-set c = λ w keep one.
    let T = with_all empty c.args.added.now.items in
    let noted = added_table c.args.added.now.items c.push.new.self.items (Query c.of.result) c.in_ok-push.ensures.items
    ∙ query_noted T c.of.result.value c.args.draft.now w c.of.ensures one in
    let made = c.in_ok-set.ensures.set T w keep one in
    (made.0, noted, subst (λ U. Keeps c.query_added.new.lists (Some c.in_ok-set.set.0) c.in_ok-set.set.1 U) (sym noted) made.1)
