use Rattle.std.proofs.Common.{rules, [], ◌∷◌, sym, ap, ◌∙◌, arith}
use Rattle.std.proofs.lemmas.List.{length-reverse}
use Rattle.and_arith.proofs.Operating.{truncated}
use Rattle.and_arith.proofs.walk.operated.Goals as goal

pub returns-in-1 : goal.returns-in-1
returns-in-1 c = (c.last.result ∷ [], sym c.in-1.is, c.last.ensures, c.of_one.ensures)

pub returns-in-2 : goal.returns-in-2
returns-in-2 c = (
  c.last-right.result ∷ c.last-left.result ∷ [],
  sym c.in-2.is,
  c.last-right.ensures ∙ ap (λ vs. c.last-right.result ∷ vs) c.last-left.ensures,
  c.of_two.ensures,
)

pub returns-in_default : goal.returns-in_default
returns-in_default c =
    let l = length-reverse c.args.values.now.items in
    let e = truncated c.args.values.now.items c.truncate.new.self.items _ c.args.count c.args.name.0 c.truncate.ensures.items
    (omega (arith, c.len.ensures, c.args.values.now.ok.0)) (omega (arith, l, c.requires)) (search rules) (search rules) in
    (e.last, e.counted, e.is, e.none)
