use Rattle.std.proofs.Common.{◌≡◌, true, refl, sym, ap, ◌∙◌}
use Rattle.and_language.specs.Words.{is_one_of, products, sums}
use Rattle.and_automaton.specs.Machine
use Rattle.and_automaton.specs.Machine.{at700}
use Rattle.and_automaton.proofs.Steps.{product_role, sum_role}
use Rattle.and_reader.proofs.parser.Parser.take_name.Goals as goal

pub take_neck-requires : goal.take_neck-requires
take_neck-requires c = let q = c.requires in (q.0, q.1, at700 q.2 q.3, c.in_ok-finish_pending.ensures.ok q.0 q.1 q.2 q.3 q.4)

pub take_neck-requires-then-is_arrow : goal.take_neck-requires-then-is_arrow
take_neck-requires-then-is_arrow c = let q = c.requires in (q.0, q.1, at700 q.2 q.3, c.in_ok-finish_pending-2.ensures.ok q.0 q.1 q.2 q.3 q.4)

pub returns-in_ok-take_product-clause-answer : goal.returns-in_ok-take_product-clause-answer
returns-in_ok-take_product-clause-answer c l fs p w s =
    let b = c.args.name.now in
    let e : is_one_of products b ≡ true = sym c.is_product.ensures ∙ c.if-is_product.true in
    (Machine.take_product l fs p w b, ap (Machine.take_name l fs p w b) (product_role b e), refl, refl, c.in_ok-take_product.ensures.ok l fs p w s)

pub returns-in_ok-take_sum-clause-answer : goal.returns-in_ok-take_sum-clause-answer
returns-in_ok-take_sum-clause-answer c l fs p w s =
    let b = c.args.name.now in
    let f : is_one_of sums b ≡ true = sym c.is_sum.ensures ∙ c.if-is_sum.true in
    (Machine.take_sum l fs p w b, ap (Machine.take_name l fs p w b) (sum_role b f), refl, refl, c.in_ok-take_sum.ensures.ok l fs p w s)
