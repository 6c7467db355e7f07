use Rattle.std.proofs.Common.{length-take, refl, sym, ap, ◌∙◌, ◌++◌, take, drop, arith}
use Rattle.and_io.specs.Sure.{Supply}
use Rattle.and_io.proofs.SureLemmas.{to_the_end, given_then_rest, given_more}
use Rattle.and_io.proofs.sure.SureSourceSource.read.Goals as goal

pub returns-clause-front : goal.returns-clause-front
returns-clause-front c =
    let n = c.min-n.ensures in
    let copied = c.copy_from_slice.ensures.len ∙ length-take c.min-n.result c.args.into.now in
    let whole = c.bytes.ensures in
    let was = ap (λ s. let s : Supply = s in s.bytes) (sym c.self.view_is) in (
      _,
      refl,
      was ∙ given_then_rest c.self.inside.at c.min-n.result c.self.inside.text c.copy_from_slice.new.self _
          (omega (arith, copied))
          (c.copy_from_slice.ensures.after ∙ ap (take c.min-n.result) (to_the_end c.self.inside.at c.bytes.result.now ∙ ap (drop c.self.inside.at) whole)),
    )

pub returns-clause-taken : goal.returns-clause-taken
returns-clause-taken c =
    let n = c.min-n.ensures in
    let copied = c.copy_from_slice.ensures.len ∙ length-take c.min-n.result c.args.into.now in
    let whole = c.bytes.ensures in
    let was = ap (λ s. let s : Supply = s in s.taken ++ take c.min-n.result (c.copy_from_slice.new.self ++ drop c.min-n.result c.args.into.now))
    c.self.view_is in
    given_more c.self.inside.at c.min-n.result c.self.inside.text c.copy_from_slice.new.self _
    (omega (arith, copied))
    (c.copy_from_slice.ensures.after
    ∙ ap (take c.min-n.result) (to_the_end c.self.inside.at c.bytes.result.now ∙ ap (drop c.self.inside.at) whole))
    ∙ was
