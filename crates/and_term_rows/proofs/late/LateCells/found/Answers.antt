use Rattle.std.proofs.Common.{refl, sym, ap, subst, ◌∙◌, length}
use Rattle.and_cells.specs.Ranges.{CanHold}
use Rattle.and_term_rows.proofs.Glimpses.{finds_known, finds_then}
use Rattle.and_term_rows.proofs.late.LateCells.found.Goals as goal

pub learn-requires-clause-unknown : goal.learn-requires-clause-unknown
learn-requires-clause-unknown g c = λ r knows. c.in-None.ensures.none refl r knows

pub returns-in-Some-clause-found : goal.returns-in-Some-clause-found
returns-in-Some-clause-found g c =
    finds_known g.N.Naming.program c.args.self.now.words c.args.self.now.known.items c.args.self.now.missed.items c.args.place
    c.in-Some.known c.args.self.now.so
    (λ q is. subst (CanHold g.N.Naming.program (length c.args.self.now.words) c.args.place) (sym is) (c.word-word.ensures.sound.fits c.args.place))
    c.in-Some.ensures.some

pub returns-in-None-clause-found : goal.returns-in-None-clause-found
returns-in-None-clause-found g c =
    finds_then g.N.Naming.program c.args.self.now.words c.learn.new.self.words c.args.self.now.known.items c.learn.new.self.known.items
    c.args.self.now.missed.items c.learn.new.self.missed.items
    c.args.place c.word-word.result (ap length c.learn.ensures.words) c.learn.ensures.known c.learn.ensures.missed
    (λ e. c.requires.set (sym c.word-word.ensures.value ∙ e))
    (subst (CanHold g.N.Naming.program (length c.args.self.now.words) c.args.place) (sym c.word-word.ensures.value)
    (c.word-word.ensures.sound.fits c.args.place)) (λ r knows. c.in-None.ensures.none refl r knows)
