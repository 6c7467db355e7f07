use Rattle.std.proofs.Common.{◌≡◌, ◌+◌, suc, Some, None, IfSome, length, refl, ◌∙◌, subst, arith}
use Rattle.and_syntax.specs.Clauses.{asked_of, alternatives_of}
use Rattle.and_syntax.specs.Tables.{first_of, sizes, term_with, query_fault}
use Rattle.and_program.specs.Nodes.{names_of}
use Rattle.and_judging.specs.Faults.{fault_of}
use Rattle.and_judging.specs.Verdicts.{IsJudged}
use Rattle.and_judging.specs.Sorts.{TokensThere}
use Rattle.and_judging.proofs.ClauseVerdicts.{ok_then, err_then, some_then, under_own, falls_in, asked_in, body_numbered, query_body}
use Rattle.and_judging.proofs.ClauseVerdicts.{no_query, query_sized, query_says, query_next}
use Rattle.and_judging.proofs.judging.judge_query.Goals as goal

pub body_of-requires-clause-there : goal.body_of-requires-clause-there
body_of-requires-clause-there c =
    (asked_in c.args.draft.now c.parts-parts.result.now c.parts-parts.ensures.value c.root.result c.root.ensures.there c.root.ensures.root
    c.asked-part.result c.asked-part.ensures).0

pub body_of-requires-clause-small : goal.body_of-requires-clause-small
body_of-requires-clause-small c =
    (asked_in c.args.draft.now c.parts-parts.result.now c.parts-parts.ensures.value c.root.result c.root.ensures.there c.root.ensures.root
    c.asked-part.result c.asked-part.ensures).1

pub body_of-requires-clause-falls : goal.body_of-requires-clause-falls
body_of-requires-clause-falls c =
    falls_in c.args.draft.now c.parts-parts.result.now c.parts-parts.ensures.value c.root.result c.root.ensures.there c.root.ensures.root

pub returns-in_default-clause-fault : goal.returns-in_default-clause-fault
returns-in_default-clause-fault c = λ T w under one unasked.
    no_query c.args.draft.now c.parts-parts.result.now c.parts-parts.ensures.value c.root.result c.root.ensures.there c.root.ensures.root
    (names_of c.args.names.now.keys) c.asked-part.result c.asked-part.ensures T w c.args.used under one unasked (c.args.used.numbers + 1)
    c.args.used.disjunctions _
    c.in_ok-body.ensures.body c.in_default.is

pub sized-requires-clause-numbered : goal.sized-requires-clause-numbered
sized-requires-clause-numbered c =
    body_numbered c.args.draft.now c.parts-parts.result.now c.parts-parts.ensures.value c.root.result c.root.ensures.there c.root.ensures.root
    (names_of c.args.names.now.keys) (c.args.used.numbers + 1) c.args.used.disjunctions c.asked-part.result _ c.in-Some.body (omega arith)
    c.in_ok-body.ensures.body c.in-Some.is

pub sized-requires-clause-body : goal.sized-requires-clause-body
sized-requires-clause-body c =
    query_body c.args.draft.now c.parts-parts.result.now c.parts-parts.ensures.value c.root.result c.root.ensures.there c.root.ensures.root
    (names_of c.args.names.now.keys) c.asked-part.result c.asked-part.ensures (c.args.used.numbers + 1) c.args.used.disjunctions _ c.in-Some.body
    c.in_ok-body.ensures.body c.in-Some.is
    (subst (λ o. IfSome o (λ b. TokensThere (length c.parts-parts.result.now) b.tokens.items)) c.in-Some.is c.in_ok-body.ensures.there)

pub returns-clause-judged : goal.returns-clause-judged
returns-clause-judged c = λ T w under one unasked.
    let ps = asked_of (term_with T w) in
    let first = suc T.numbers in
    let n = alternatives_of ps in
    let parts = c.args.draft.now.parts.items in
    let means = query_sized c.args.draft.now c.parts-parts.result.now c.parts-parts.ensures.value c.root.result c.root.ensures.there c.root.ensures.root
    (names_of c.args.names.now.keys) c.asked-part.result c.asked-part.ensures T w c.args.used under one unasked
    (c.args.used.numbers + 1) c.args.used.disjunctions _ c.in-Some.body c.in_ok-body.ensures.body c.in-Some.is in
    let says = query_says c.args.draft.now c.parts-parts.result.now c.parts-parts.ensures.value c.root.result c.root.ensures.there c.root.ensures.root
    (names_of c.args.names.now.keys) c.asked-part.result c.asked-part.ensures T w c.args.used under one unasked
    (c.args.used.numbers + 1) c.args.used.disjunctions _ c.in-Some.body c.in_ok-body.ensures.body c.in-Some.is refl refl in
    let next = query_next c.args.draft.now c.parts-parts.result.now c.parts-parts.ensures.value c.root.result c.root.ensures.there c.root.ensures.root
    (names_of c.args.names.now.keys) c.asked-part.result c.asked-part.ensures T w c.args.used under one unasked
    (c.args.used.numbers + 1) c.args.used.disjunctions _ c.in-Some.body c.in_ok-body.ensures.body c.in-Some.is refl refl in
    ok_then (λ j. (first_of (sizes T w ps n) ≡ None) × IsJudged T w parts ps first n j) (λ j. (query_fault T w ≡ None) × IsJudged T w parts ps first n j)
    c.sized.result (λ j h. (means ∙ h.0, h.1))
    (c.sized.ensures.judged T w ps first n (under_own T w (names_of c.args.names.now.keys) c.args.used under) one says next)

pub returns-clause-fault : goal.returns-clause-fault
returns-clause-fault c = λ T w under one unasked.
    let ps = asked_of (term_with T w) in
    let first = suc T.numbers in
    let n = alternatives_of ps in
    let means = query_sized c.args.draft.now c.parts-parts.result.now c.parts-parts.ensures.value c.root.result c.root.ensures.there c.root.ensures.root
    (names_of c.args.names.now.keys) c.asked-part.result c.asked-part.ensures T w c.args.used under one unasked
    (c.args.used.numbers + 1) c.args.used.disjunctions _ c.in-Some.body c.in_ok-body.ensures.body c.in-Some.is in
    let says = query_says c.args.draft.now c.parts-parts.result.now c.parts-parts.ensures.value c.root.result c.root.ensures.there c.root.ensures.root
    (names_of c.args.names.now.keys) c.asked-part.result c.asked-part.ensures T w c.args.used under one unasked
    (c.args.used.numbers + 1) c.args.used.disjunctions _ c.in-Some.body c.in_ok-body.ensures.body c.in-Some.is refl refl in
    let next = query_next c.args.draft.now c.parts-parts.result.now c.parts-parts.ensures.value c.root.result c.root.ensures.there c.root.ensures.root
    (names_of c.args.names.now.keys) c.asked-part.result c.asked-part.ensures T w c.args.used under one unasked
    (c.args.used.numbers + 1) c.args.used.disjunctions _ c.in-Some.body c.in_ok-body.ensures.body c.in-Some.is refl refl in
    err_then (λ e. IfSome (fault_of e) (λ f. first_of (sizes T w ps n) ≡ Some f)) (λ e. IfSome (fault_of e) (λ f. query_fault T w ≡ Some f)) c.sized.result
    (λ e h. some_then (λ f. first_of (sizes T w ps n) ≡ Some f) (λ f. query_fault T w ≡ Some f) (fault_of e) (λ f k. means ∙ k) h)
    (c.sized.ensures.fault T w ps first n (under_own T w (names_of c.args.names.now.keys) c.args.used under) one says next)
