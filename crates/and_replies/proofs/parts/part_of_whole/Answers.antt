use Rattle.std.proofs.Common.{false, sym, ap, subst}
use Rattle.and_cells.specs.Parts.{named}
use Rattle.and_clause_index.specs.Tables.{IsTableOf}
use Rattle.and_program.specs.Loaded.{program_of}
use Rattle.and_reader.specs.Beginning.{whole_ground}
use Rattle.and_questions.specs.declared.question.Question.TheVariants.{Run}
use Rattle.and_reports.specs.declared.showing.Show.TheVariants.{Whole}
use Rattle.and_replies.proofs.PartLemmas.{handed_by, kept_again}
use Rattle.and_replies.proofs.parts.part_of_whole.Goals as goal

pub table_for-requires : goal.table_for-requires
table_for-requires g c = (whole_ground c.args.whole, c.requires.table, c.loaded-loaded.ensures.stands)

pub searched-requires-clause-table : goal.searched-requires-clause-table
searched-requires-clause-table g c =
    subst (IsTableOf (named c.loaded-loaded.result.now)) (sym c.table.ensures) c.in_ok-kept.ensures.table

pub returns-clause-handed : goal.returns-clause-handed
returns-clause-handed g c = λ text lifted.
    handed_by (Run (Whole false) c.args.limit) c.loaded-loaded.result.now (program_of c.args.whole.asked.loaded) c.in_ok-reply.reply text c.in_ok-handed.handed
    lifted (ap program_of (sym c.loaded-loaded.ensures.program)) c.in_ok-reply.ensures c.in_ok-handed.ensures

pub returns-clause-kept : goal.returns-clause-kept
returns-clause-kept g c = λ begun.
    let whole = c.args.whole in
    kept_again c.into_beginning-beginning.result c.in_ok-kept.kept whole (c.into_beginning-beginning.ensures.beginning begun)
    c.into_beginning-beginning.ensures.ground (c.in_ok-kept.ensures.kept (whole_ground whole) c.requires.table c.loaded-loaded.ensures.stands)
