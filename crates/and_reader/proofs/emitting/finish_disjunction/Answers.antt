use Rattle.std.proofs.Common.{◌∷◌, ◌++◌, length, ap, ◌∙◌, arith}
use Rattle.std.proofs.lemmas.List.{length-append}
use Rattle.and_syntax.specs.Written.{Written}
use Rattle.and_automaton.specs.Machine.{conjunction}
use Rattle.and_reader.proofs.TermLemmas.{on_ok, conjunction_is, disjunction_is}
use Rattle.and_reader.proofs.emitting.finish_disjunction.Goals as goal

pub finish_pairs-requires : goal.finish_pairs-requires
finish_pairs-requires c = let (w, b, es, rest, is, lb, le) = c.requires in omega (arith, ap length is, length-append b (es ++ rest), lb)

pub finish_pairs-requires-2 : goal.finish_pairs-requires-2
finish_pairs-requires-2 c =
    let (w, b, es, rest, is, lb, le) = c.requires in
    let t = c.in_ok-finish_pairs.ensures.ok w b (es ++ rest) is lb in
    omega (arith, ap length t, length-append es rest, le)

pub returns-clause-ok : goal.returns-clause-ok
returns-clause-ok c w b es rest is lb le =
    let t = c.in_ok-finish_pairs.ensures.ok w b (es ++ rest) is lb in
    let joined = t ∙ ap (λ (v : Written). v ∷ (es ++ rest)) (conjunction_is b w) in
    on_ok c.finish_pairs-2.result (λ u. u ∙ ap (λ (v : Written). v ∷ rest) (disjunction_is es (conjunction b w)))
    (c.finish_pairs-2.ensures.ok (conjunction b w) es rest joined le)
