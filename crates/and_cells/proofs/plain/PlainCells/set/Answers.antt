use Rattle.std.proofs.Common.{sym, subst}
use Rattle.and_cells.specs.Ground.{AreFounded}
use Rattle.and_cells.proofs.PlainRows.{named_set}
use Rattle.and_cells.proofs.Grounding.{founded_set}
use Rattle.and_cells.proofs.plain.PlainCells.set.Goals as goal

pub invariant_of-self : goal.invariant_of-self
invariant_of-self g c =
    let P = g.N.Naming.program in
    let both = named_set P c.self.inside.words.items c.args.self.now c.args.place c.to_word.result c.args.to c.self.view_is c.to_word.ensures
    (c.self.invariant.0, c.self.invariant.1) c.requires.place c.requires.kept c.requires.free c.requires.fits c.requires.written in (
      both.0.0,
      both.0.1,
      subst (λ row. AreFounded P row c.self.inside.known) (sym both.1)
          (founded_set P c.args.self.now c.self.inside.known c.args.place c.args.to c.requires.free
          (subst (λ row. AreFounded P row c.self.inside.known) c.self.view_is c.self.invariant.2)),
    )

pub returns : goal.returns
returns g c =
    (named_set g.N.Naming.program c.self.inside.words.items c.args.self.now c.args.place c.to_word.result c.args.to c.self.view_is
    c.to_word.ensures (c.self.invariant.0, c.self.invariant.1)
    c.requires.place c.requires.kept c.requires.free c.requires.fits c.requires.written).1
