use Rattle.std.proofs.Common.{◌∙◌, sym, subst}
use Rattle.and_syntax.specs.Tables.{empty}
use Rattle.and_clauses.specs.Adds.{with_all}
use Rattle.and_clauses.specs.Makes.{Keeps}
use Rattle.and_clauses.specs.declared.added.Added.TheVariants.{Clause}
use Rattle.and_clauses.proofs.Adding.{added_table, clause_noted}
use Rattle.and_clauses.proofs.table.add_clause.Goals as goal

pub returns-clause-added : goal.returns-clause-added
returns-clause-added c = λ query w keep one.
    let T = with_all empty c.args.added.now.items in
    let noted = added_table c.args.added.now.items c.push.new.self.items (Clause c.of.result) c.in_ok-push.ensures.items
    ∙ clause_noted T c.of.result.value c.args.draft.now w c.of.ensures one in
    let made = c.in_ok-used.ensures.added query T w keep one in
    (made.0, noted, subst (λ U. Keeps c.clause_added.new.lists query c.in_ok-used.used U) (sym noted) made.1)
