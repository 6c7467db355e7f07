use Rattle.std.proofs.Common.{sym, ◌∙◌}
use Rattle.and_term_rows.specs.Late.{glimpse}
use Rattle.and_cells.specs.Seen.{Sets}
use Rattle.and_cells.proofs.Chains.{finds_keeps, sets_keeps}
use Rattle.and_term_rows.proofs.Glimpses.{free_unknown, sets_then, written_so}
use Rattle.and_term_rows.proofs.late.LateCellsCells.bind.Goals as goal
use Rattle.and_term_rows.proofs.late.LateCellsCells.bind.Goals.{After-learn}

pub returns-then-not-is_unset-clause-keeps : goal.returns-then-not-is_unset-clause-keeps
returns-then-not-is_unset-clause-keeps g c = finds_keeps g.N.Naming.program c.args.cell c.found.result _ _ c.found.ensures.found

pub set-requires-clause-written : goal.set-requires-clause-written
set-requires-clause-written g c = λ pair is.
    written_so g.N.Naming.program c.args.self.now.words c.args.self.now.known.items c.args.self.now.missed.items pair c.word-word.ensures.sound
    c.args.self.now.so (c.requires.written pair is)

pub learn-requires-clause-unknown : goal.learn-requires-clause-unknown
learn-requires-clause-unknown g c = λ r knows.
    free_unknown c.args.self.now.words c.args.self.now.known.items c.args.self.now.missed.items c.args.cell r c.args.self.now.so (sym c.word-word.ensures.value
    ∙ c.is_unset.ensures.0 c.if-not-is_unset.false) knows

is_set : (g : _) (c : After-learn g)
    → Sets c.args.cell c.args.to (glimpse c.args.self.now.words c.args.self.now.known.items c.args.self.now.missed.items)
    (glimpse c.learn.new.self.words c.learn.new.self.known.items c.learn.new.self.missed.items)
is_set g c =
    sets_then c.args.self.now.words c.learn.new.self.words c.args.self.now.known.items c.learn.new.self.known.items c.args.self.now.missed.items
    c.learn.new.self.missed.items c.args.cell c.args.to
    (c.learn.ensures.words ∙ c.set.ensures) c.learn.ensures.known c.learn.ensures.missed
    (λ r knows. free_unknown c.args.self.now.words c.args.self.now.known.items c.args.self.now.missed.items c.args.cell r c.args.self.now.so
    (sym c.word-word.ensures.value ∙ c.is_unset.ensures.0 c.if-not-is_unset.false) knows)

pub returns-clause-won : goal.returns-clause-won
returns-clause-won g c = λ won. is_set g c

pub returns-clause-keeps : goal.returns-clause-keeps
returns-clause-keeps g c = sets_keeps c.args.cell c.args.to _ _ (is_set g c)

pub returns-clause-grew : goal.returns-clause-grew
returns-clause-grew g c = let k = sets_keeps c.args.cell c.args.to _ _ (is_set g c) in k.known
