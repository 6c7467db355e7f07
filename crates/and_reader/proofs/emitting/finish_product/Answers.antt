use Rattle.std.proofs.Common.{ℕ, ◌∷◌, ap, ◌∙◌}
use Rattle.and_automaton.specs.Machine.{negated, at200}
use Rattle.and_reader.specs.Standing.{with_left, with_lefts}
use Rattle.and_reader.proofs.emitting.finish_product.Goals as goal

pub finish_infix-requires : goal.finish_infix-requires
finish_infix-requires c =
    let q = c.requires in
    let p = q.0 in (
      p.product,
      negated c.args.pending.minuses q.1,
      with_left p.sum (with_left p.relation q.2),
      q.3.product,
      c.in_ok-finish_minuses.ensures.ok q.1 (with_lefts p q.2) q.4,
    )

pub returns-clause-ok : goal.returns-clause-ok
returns-clause-ok c p w rest is has =
    c.finish_infix.ensures.ok p.product (at200 p w) (with_left p.sum (with_left p.relation rest)) is.product
    (c.in_ok-finish_minuses.ensures.ok w (with_lefts p rest) has ∙ ap (λ (n : ℕ). negated n w ∷ with_lefts p rest) is.minuses)
