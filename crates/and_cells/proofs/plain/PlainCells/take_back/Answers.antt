use Rattle.std.proofs.Common.{ℕ, sym, subst, arith}
use Rattle.std.specs.Prelude.{Contains}
use Rattle.std.proofs.lemmas.List.Elements.{All-weaker}
use Rattle.and_model.specs.declared.reference.Ref.TheVariants.{Cell}
use Rattle.and_cells.specs.Ground.{AreFounded}
use Rattle.and_cells.proofs.Grounding.{contains_cut, cut_twice, founded_after}
use Rattle.and_cells.proofs.TakingBack.{words_taken_back, founded_taken_back}
use Rattle.and_cells.proofs.plain.PlainCells.take_back.Goals as goal

pub invariant_of-self : goal.invariant_of-self
invariant_of-self g c =
    let P = g.N.Naming.program in
    let row = c.args.self.now in
    let cells = c.args.cells.now in
    let both = words_taken_back P c.self.inside.words.items c.set_free.new.words.items c.truncate.new.self.items cells c.args.words row
    c.self.view_is c.self.invariant.0 c.truncate.ensures.items c.set_free.ensures c.requires in
    let old = c.self.inside.known in
    let mid = c.forget.new.self in
    let new = c.forget_between.new.self in
    let second = c.forget_between.ensures in
    let founded = founded_after P row old new (cut_twice old mid new c.forget.ensures.cut second.cut)
    (subst (λ row. AreFounded P row old) c.self.view_is c.self.invariant.2) in (
      both.0.0,
      both.0.1,
      subst (λ after. AreFounded P after new) (sym both.1)
          (founded_taken_back P row new cells c.args.words
          (All-weaker (λ (cell : ℕ). Contains mid (Cell cell) → ⊥) (λ (cell : ℕ). Contains new (Cell cell) → ⊥)
          (λ cell gone has. gone (contains_cut mid new (Cell cell) second.cut has)) cells c.forget.ensures.gone)
          (λ cell low high has. second.gone cell low (let end = c.len-end.ensures.value in omega arith) has) founded),
    )

pub returns : goal.returns
returns g c =
    (words_taken_back g.N.Naming.program c.self.inside.words.items c.set_free.new.words.items c.truncate.new.self.items c.args.cells.now
    c.args.words c.args.self.now
    c.self.view_is c.self.invariant.0 c.truncate.ensures.items c.set_free.ensures c.requires).1
