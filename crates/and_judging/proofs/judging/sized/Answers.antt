use Rattle.std.proofs.Common.{◌≡◌, ◌+◌, ◌-◌, ◌≤◌, cond, leb, Some, None, List, length, ap, sym, ◌∙◌, arith, subst}
use Rattle.and_drafts.specs.Parts.{part_shapes, PartsFall}
use Rattle.and_judging.specs.Sorted.{locals_size}
use Rattle.and_judging.specs.Sorts.{locals_in, AreFew, AreNarrow, AreOutlinesThere}
use Rattle.and_drafts.specs.declared.draft.DraftPart.{DraftPart}
use Rattle.and_judging.specs.declared.judging.Used.{Used}
use Rattle.and_drafts.proofs.Telling.{all_fall}
use Rattle.and_judging.proofs.Judgements.{Sorts, sorts_in, sorted_few, sorted_narrow, over_variables, over_parts, over_nodes, over_clauses, all_judged}
use Rattle.and_judging.proofs.judging.sized.Goals as goal

pub returns-then-variable_count-gt-MAX_VARIABLES-clause-fault :
    goal.returns-then-variable_count-gt-MAX_VARIABLES-clause-fault
returns-then-variable_count-gt-MAX_VARIABLES-clause-fault c = λ T w ps k n under one body next.
    over_variables c.args.draft.now c.args.used c.args.body T w ps k n under one body next c.variable_count.result c.variable_count.ensures
    c.if-variable_count-gt-MAX_VARIABLES.true

pub returns-then-parts-room-clause-fault : goal.returns-then-parts-room-clause-fault
returns-then-parts-room-clause-fault c = λ T w ps k n under one body next.
    over_parts c.args.draft.now c.args.used c.args.body T w ps k n under one body next c.variable_count.result c.variable_count.ensures
    c.if-variable_count-gt-MAX_VARIABLES.false c.requires.few_nodes (omega (arith, c.if-parts-room.true, ap length c.parts-parts.ensures.value))

pub sort_tokens-requires-clause-falls : goal.sort_tokens-requires-clause-falls
sort_tokens-requires-clause-falls c =
    subst (λ xs. PartsFall 0 (part_shapes xs)) (sym c.parts-parts.ensures.value) (all_fall c.args.draft.now)

pub lifted_nodes-requires-clause-few : goal.lifted_nodes-requires-clause-few
lifted_nodes-requires-clause-few c =
    let xs = c.args.draft.now.parts.items in
    let s = c.in_ok-sorted.sorted in
    let sorts : Sorts xs c.args.body s =
    sorts_in xs c.parts-parts.result.now c.args.body.tokens.items c.deref.result.now s c.parts-parts.ensures.value c.deref.ensures.value
    c.in_ok-sorted.ensures.sorted in
    let le : length xs ≤ 4294967296 = omega (arith, c.if-parts-room.false, ap length c.parts-parts.ensures.value) in
    subst (λ ds. AreFew 4294967296 (locals_in ds)) (sym c.deref-2.ensures.value) (sorted_few xs c.args.body s c.requires.body sorts le)

pub lifted_nodes-requires-clause-narrow : goal.lifted_nodes-requires-clause-narrow
lifted_nodes-requires-clause-narrow c =
    let xs = c.args.draft.now.parts.items in
    let s = c.in_ok-sorted.sorted in
    let sorts : Sorts xs c.args.body s =
    sorts_in xs c.parts-parts.result.now c.args.body.tokens.items c.deref.result.now s c.parts-parts.ensures.value c.deref.ensures.value
    c.in_ok-sorted.ensures.sorted in
    subst (λ ds. AreNarrow 255 (locals_in ds)) (sym c.deref-2.ensures.value)
    (sorted_narrow xs c.args.body s c.requires.body sorts (omega (arith, c.variable_count.ensures, c.if-variable_count-gt-MAX_VARIABLES.false)))

pub returns-in_default-clause-fault : goal.returns-in_default-clause-fault
returns-in_default-clause-fault c = λ T w ps k n under one body next.
    let xs = c.args.draft.now.parts.items in
    let s = c.in_ok-sorted.sorted in
    let sorts : Sorts xs c.args.body s =
    sorts_in xs c.parts-parts.result.now c.args.body.tokens.items c.deref.result.now s c.parts-parts.ensures.value c.deref.ensures.value
    c.in_ok-sorted.ensures.sorted in
    let room = 524288 - c.args.used.nodes - length c.parts-parts.result.now in
    let is : c.lifted_nodes.result ≡ cond (leb (locals_size (locals_in s.disjunctions.items)) room) (Some (locals_size (locals_in s.disjunctions.items))) None =
    subst (λ ds. c.lifted_nodes.result ≡ cond (leb (locals_size (locals_in ds)) room) (Some (locals_size (locals_in ds))) None) c.deref-2.ensures.value
    c.lifted_nodes.ensures in
    over_nodes c.args.draft.now c.args.used c.args.body T w ps k n under one body next s sorts c.variable_count.result room c.lifted_nodes.result
    c.variable_count.ensures c.if-variable_count-gt-MAX_VARIABLES.false c.requires.few_nodes
    (omega (arith, c.if-parts-room.false, ap length c.parts-parts.ensures.value))
    (ap (λ ys. 524288 - c.args.used.nodes - length ys) c.parts-parts.ensures.value) is c.in_default.is

pub returns-then-body-clause-fault : goal.returns-then-body-clause-fault
returns-then-body-clause-fault c = λ T w ps k n under one body next.
    let xs = c.args.draft.now.parts.items in
    let s = c.in_ok-sorted.sorted in
    let sorts : Sorts xs c.args.body s =
    sorts_in xs c.parts-parts.result.now c.args.body.tokens.items c.deref.result.now s c.parts-parts.ensures.value c.deref.ensures.value
    c.in_ok-sorted.ensures.sorted in
    let room = 524288 - c.args.used.nodes - length c.parts-parts.result.now in
    let is : c.lifted_nodes.result ≡ cond (leb (locals_size (locals_in s.disjunctions.items)) room) (Some (locals_size (locals_in s.disjunctions.items))) None =
    subst (λ ds. c.lifted_nodes.result ≡ cond (leb (locals_size (locals_in ds)) room) (Some (locals_size (locals_in ds))) None) c.deref-2.ensures.value
    c.lifted_nodes.ensures in
    over_clauses c.args.draft.now c.args.used c.args.body T w ps k n under one body next s sorts c.variable_count.result room
    c.lifted_nodes.result c.in-Some.lifted
    c.variable_count.ensures c.if-variable_count-gt-MAX_VARIABLES.false c.requires.few_nodes
    (omega (arith, c.if-parts-room.false, ap length c.parts-parts.ensures.value))
    (ap (λ ys. 524288 - c.args.used.nodes - length ys) c.parts-parts.ensures.value) is c.in-Some.is c.if-body.true

pub returns-clause-judged : goal.returns-clause-judged
returns-clause-judged c = λ T w ps k n under one body next.
    let xs = c.args.draft.now.parts.items in
    let s = c.in_ok-sorted.sorted in
    let sorts : Sorts xs c.args.body s =
    sorts_in xs c.parts-parts.result.now c.args.body.tokens.items c.deref.result.now s c.parts-parts.ensures.value c.deref.ensures.value
    c.in_ok-sorted.ensures.sorted in
    let room = 524288 - c.args.used.nodes - length c.parts-parts.result.now in
    let is : c.lifted_nodes.result ≡ cond (leb (locals_size (locals_in s.disjunctions.items)) room) (Some (locals_size (locals_in s.disjunctions.items))) None =
    subst (λ ds. c.lifted_nodes.result ≡ cond (leb (locals_size (locals_in ds)) room) (Some (locals_size (locals_in ds))) None) c.deref-2.ensures.value
    c.lifted_nodes.ensures in
    let so_much = c.with_nodes.ensures.used ∙ ap (λ ys. let u : Used = record {
      nodes = c.args.used.nodes + (length ys + c.in-Some.lifted);
      numbers = c.args.body.next_clause - 1;
      disjunctions = c.args.body.next_disjunction;
    } in u) c.parts-parts.ensures.value in
    all_judged c.args.draft.now c.args.used c.args.body T w ps k n under one body next s sorts c.variable_count.result room
    c.lifted_nodes.result c.in-Some.lifted
    c.with_nodes.result c.variable_count.ensures c.if-variable_count-gt-MAX_VARIABLES.false c.requires.few_nodes
    (omega (arith, c.if-parts-room.false, ap length c.parts-parts.ensures.value))
    (ap (λ ys. 524288 - c.args.used.nodes - length ys) c.parts-parts.ensures.value) is c.in-Some.is c.if-body.false c.requires.body.there
    (subst (λ (ys : List DraftPart). AreOutlinesThere (length ys) s.outlines.items) c.parts-parts.ensures.value c.in_ok-sorted.ensures.there)
    c.with_nodes.ensures.tokens c.with_nodes.ensures.disjunctions c.with_nodes.ensures.outlines so_much
