use Rattle.std.proofs.Common.{◌≡◌, ◌<◌, ◌+◌, suc, Some, None, IfSome, length, refl, sym, ◌∙◌, subst, arith}
use Rattle.and_syntax.specs.Clauses.{body_of, head_of, alternatives_of}
use Rattle.and_syntax.specs.Tables.{first_of, sizes, names_with, term_with, clause_fault}
use Rattle.and_program.specs.Nodes.{names_of}
use Rattle.and_program.specs.Skeletons.{node_term}
use Rattle.and_judging.specs.Faults.{fault_of}
use Rattle.and_judging.specs.Verdicts.{IsJudged}
use Rattle.and_judging.specs.Sorts.{shapes_under, TokensThere}
use Rattle.and_judging.proofs.ClauseVerdicts.{ok_then, err_then, some_then, under_own, falls_in, stand_in, body_numbered, clause_body, head_there}
use Rattle.and_judging.proofs.ClauseVerdicts.{no_name, no_body, means_more, means_this, clause_says, clause_next}
use Rattle.and_judging.proofs.judging.judge_clause.Goals as goal

pub head_functor-requires : goal.head_functor-requires
head_functor-requires c =
    (stand_in c.args.draft.now c.parts-parts.result.now c.parts-parts.ensures.value c.root.result c.root.ensures.there c.root.ensures.root
    (names_of c.args.names.now.keys) c.clause_sides-sides.result c.clause_sides-sides.ensures).head

pub returns-in_default-clause-fault : goal.returns-in_default-clause-fault
returns-in_default-clause-fault c = λ T w under one.
    no_name c.args.draft.now c.parts-parts.result.now c.parts-parts.ensures.value c.root.result c.root.ensures.there c.root.ensures.root
    (names_of c.args.names.now.keys) c.clause_sides-sides.result c.clause_sides-sides.ensures T w c.args.used under one c.head_functor.result
    c.head_functor.ensures c.in_default.is

pub body_of-requires-clause-there : goal.body_of-requires-clause-there
body_of-requires-clause-there c =
    (stand_in c.args.draft.now c.parts-parts.result.now c.parts-parts.ensures.value c.root.result c.root.ensures.there c.root.ensures.root
    (names_of c.args.names.now.keys) c.clause_sides-sides.result c.clause_sides-sides.ensures).body

pub body_of-requires-clause-small : goal.body_of-requires-clause-small
body_of-requires-clause-small c =
    (stand_in c.args.draft.now c.parts-parts.result.now c.parts-parts.ensures.value c.root.result c.root.ensures.there c.root.ensures.root
    (names_of c.args.names.now.keys) c.clause_sides-sides.result c.clause_sides-sides.ensures).small

pub body_of-requires-clause-falls : goal.body_of-requires-clause-falls
body_of-requires-clause-falls c =
    falls_in c.args.draft.now c.parts-parts.result.now c.parts-parts.ensures.value c.root.result c.root.ensures.there c.root.ensures.root

pub returns-in_default-2-clause-fault : goal.returns-in_default-2-clause-fault
returns-in_default-2-clause-fault c = λ T w under one.
    no_body c.args.draft.now c.parts-parts.result.now c.parts-parts.ensures.value c.root.result c.root.ensures.there c.root.ensures.root
    (names_of c.args.names.now.keys) c.clause_sides-sides.result c.clause_sides-sides.ensures T w c.args.used under one (c.args.used.numbers + 2)
    c.args.used.disjunctions _
    c.in_ok-body.ensures.body c.in_default-2.is

pub returns-then-already_means-clause-fault : goal.returns-then-already_means-clause-fault
returns-then-already_means-clause-fault c = λ T w under one.
    means_more c.args.draft.now c.parts-parts.result.now c.parts-parts.ensures.value c.root.result c.root.ensures.there c.root.ensures.root
    (names_of c.args.names.now.keys) c.clause_sides-sides.result c.clause_sides-sides.ensures T w c.args.used under one c.head_functor.result c.in-Some.functor
    c.head_functor.ensures c.in-Some.is
    (c.args.used.numbers + 2) c.args.used.disjunctions _ c.in-Some-2.body c.in_ok-body.ensures.body c.in-Some-2.is
    (sym c.already_means.ensures ∙ c.if-already_means.true) (fault_of c.in_ok-redefinition.field-0) c.in_ok-redefinition.ensures

pub sized-requires-clause-numbered : goal.sized-requires-clause-numbered
sized-requires-clause-numbered c =
    body_numbered c.args.draft.now c.parts-parts.result.now c.parts-parts.ensures.value c.root.result c.root.ensures.there c.root.ensures.root
    (names_of c.args.names.now.keys) (c.args.used.numbers + 2) c.args.used.disjunctions c.clause_sides-sides.result.body _ c.in-Some-2.body (omega arith)
    c.in_ok-body.ensures.body c.in-Some-2.is

pub sized-requires-clause-body : goal.sized-requires-clause-body
sized-requires-clause-body c =
    clause_body c.args.draft.now c.parts-parts.result.now c.parts-parts.ensures.value c.root.result c.root.ensures.there c.root.ensures.root
    (names_of c.args.names.now.keys) c.clause_sides-sides.result c.clause_sides-sides.ensures (c.args.used.numbers + 2) c.args.used.disjunctions _
    c.in-Some-2.body c.in_ok-body.ensures.body c.in-Some-2.is
    (subst (λ o. IfSome o (λ b. TokensThere (length c.parts-parts.result.now) b.tokens.items)) c.in-Some-2.is c.in_ok-body.ensures.there)

pub returns-clause-judged : goal.returns-clause-judged
returns-clause-judged c = λ T w under one.
    let ps = body_of (term_with T w) in
    let first = suc (suc T.numbers) in
    let n = suc (alternatives_of ps) in
    let parts = c.args.draft.now.parts.items in
    let means = means_this c.args.draft.now c.parts-parts.result.now c.parts-parts.ensures.value c.root.result c.root.ensures.there c.root.ensures.root
    (names_of c.args.names.now.keys) c.clause_sides-sides.result c.clause_sides-sides.ensures T w c.args.used under one c.head_functor.result c.in-Some.functor
    c.head_functor.ensures c.in-Some.is
    (c.args.used.numbers + 2) c.args.used.disjunctions _ c.in-Some-2.body c.in_ok-body.ensures.body c.in-Some-2.is
    (sym c.already_means.ensures ∙ c.if-already_means.false) in
    let says = clause_says c.args.draft.now c.parts-parts.result.now c.parts-parts.ensures.value c.root.result c.root.ensures.there c.root.ensures.root
    (names_of c.args.names.now.keys) c.clause_sides-sides.result c.clause_sides-sides.ensures T w c.args.used under one c.head_functor.result c.in-Some.functor
    c.head_functor.ensures c.in-Some.is
    (c.args.used.numbers + 2) c.args.used.disjunctions _ c.in-Some-2.body c.in_ok-body.ensures.body c.in-Some-2.is refl refl in
    let next = clause_next c.args.draft.now c.parts-parts.result.now c.parts-parts.ensures.value c.root.result c.root.ensures.there c.root.ensures.root
    (names_of c.args.names.now.keys) c.clause_sides-sides.result c.clause_sides-sides.ensures T w c.args.used under one c.head_functor.result c.in-Some.functor
    c.head_functor.ensures c.in-Some.is
    (c.args.used.numbers + 2) c.args.used.disjunctions _ c.in-Some-2.body c.in_ok-body.ensures.body c.in-Some-2.is refl refl in
    ok_then (λ j. (first_of (sizes T w ps n) ≡ None) × IsJudged T w parts ps first n j) (λ j. (clause_fault T w ≡ None) × IsJudged T w parts ps first n j)
    c.sized.result (λ j h. (means ∙ h.0, h.1))
    (c.sized.ensures.judged T w ps first n (under_own T w (names_of c.args.names.now.keys) c.args.used under) one says next)

pub returns-clause-head : goal.returns-clause-head
returns-clause-head c = λ T w under one.
    let parts = c.args.draft.now.parts.items in
    let there = head_there c.args.draft.now c.parts-parts.result.now c.parts-parts.ensures.value c.root.result c.root.ensures.there c.root.ensures.root
    (names_of c.args.names.now.keys) c.clause_sides-sides.result c.clause_sides-sides.ensures T w c.args.used under one in
    ok_then (λ j. j.head ≡ c.clause_sides-sides.result.head)
    (λ j. (j.head < length parts) × (node_term (shapes_under (names_with T w) parts) j.head ≡ head_of (term_with T w))) c.sized.result
    (λ j h. subst (λ m. (m < length parts) × (node_term (shapes_under (names_with T w) parts) m ≡ head_of (term_with T w))) (sym h) there)
    c.sized.ensures.head

pub returns-clause-fault : goal.returns-clause-fault
returns-clause-fault c = λ T w under one.
    let ps = body_of (term_with T w) in
    let first = suc (suc T.numbers) in
    let n = suc (alternatives_of ps) in
    let means = means_this c.args.draft.now c.parts-parts.result.now c.parts-parts.ensures.value c.root.result c.root.ensures.there c.root.ensures.root
    (names_of c.args.names.now.keys) c.clause_sides-sides.result c.clause_sides-sides.ensures T w c.args.used under one c.head_functor.result c.in-Some.functor
    c.head_functor.ensures c.in-Some.is
    (c.args.used.numbers + 2) c.args.used.disjunctions _ c.in-Some-2.body c.in_ok-body.ensures.body c.in-Some-2.is
    (sym c.already_means.ensures ∙ c.if-already_means.false) in
    let says = clause_says c.args.draft.now c.parts-parts.result.now c.parts-parts.ensures.value c.root.result c.root.ensures.there c.root.ensures.root
    (names_of c.args.names.now.keys) c.clause_sides-sides.result c.clause_sides-sides.ensures T w c.args.used under one c.head_functor.result c.in-Some.functor
    c.head_functor.ensures c.in-Some.is
    (c.args.used.numbers + 2) c.args.used.disjunctions _ c.in-Some-2.body c.in_ok-body.ensures.body c.in-Some-2.is refl refl in
    let next = clause_next c.args.draft.now c.parts-parts.result.now c.parts-parts.ensures.value c.root.result c.root.ensures.there c.root.ensures.root
    (names_of c.args.names.now.keys) c.clause_sides-sides.result c.clause_sides-sides.ensures T w c.args.used under one c.head_functor.result c.in-Some.functor
    c.head_functor.ensures c.in-Some.is
    (c.args.used.numbers + 2) c.args.used.disjunctions _ c.in-Some-2.body c.in_ok-body.ensures.body c.in-Some-2.is refl refl in
    err_then (λ e. IfSome (fault_of e) (λ f. first_of (sizes T w ps n) ≡ Some f)) (λ e. IfSome (fault_of e) (λ f. clause_fault T w ≡ Some f)) c.sized.result
    (λ e h. some_then (λ f. first_of (sizes T w ps n) ≡ Some f) (λ f. clause_fault T w ≡ Some f) (fault_of e) (λ f k. means ∙ k) h)
    (c.sized.ensures.fault T w ps first n (under_own T w (names_of c.args.names.now.keys) c.args.used under) one says next)
