use Rattle.std.proofs.Common.{refl, sym, ◌∙◌, inl}
use Rattle.and_term_rows.proofs.Glimpses.{free_unknown, sets_then}
use Rattle.and_term_rows.proofs.late.LateCells.fill.Goals as goal

pub learn-requires-clause-unknown : goal.learn-requires-clause-unknown
learn-requires-clause-unknown g c = λ r knows.
    free_unknown c.args.self.now.words c.args.self.now.known.items c.args.self.now.missed.items c.args.place r c.args.self.now.so
    (sym c.word-word.ensures.value ∙ c.is_unset.ensures.0 c.if-not-is_unset.false) knows

pub returns-clause-filled : goal.returns-clause-filled
returns-clause-filled g c =
    let free = sym c.word-word.ensures.value ∙ c.is_unset.ensures.0 c.if-not-is_unset.false in
    inl (
      sets_then c.args.self.now.words c.learn.new.self.words c.args.self.now.known.items c.learn.new.self.known.items c.args.self.now.missed.items
          c.learn.new.self.missed.items c.args.place c.args.half
          (c.learn.ensures.words ∙ (c.fill.ensures.free free).0) c.learn.ensures.known c.learn.ensures.missed
          (λ r knows. free_unknown c.args.self.now.words c.args.self.now.known.items c.args.self.now.missed.items c.args.place r c.args.self.now.so free knows),
      refl,
    )
