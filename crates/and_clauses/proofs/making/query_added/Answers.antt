use Rattle.std.proofs.Common.{List, None, suc, length, refl, ◌∙◌, subst, sym, rules}
use Rattle.and_program.specs.Nodes.{shapes_of, names_of}
use Rattle.and_drafts.specs.Parts.{part_shapes, PartsFall}
use Rattle.and_drafts.proofs.Telling.{all_fall}
use Rattle.and_clauses.proofs.OneMore.{calls_on, no_fewer, under_is, ready_is, unasked_table, query_whole, first_table, first_under, few_made}
use Rattle.and_clauses.proofs.Adding.{one_finished}
use Rattle.and_drafts.specs.Drafts.{draft_of}
use Rattle.and_judging.specs.Sorts.{shapes_under, TokensThere}
use Rattle.and_drafts.specs.declared.draft.DraftPart.{DraftPart}
use Rattle.and_syntax.specs.Clauses.{asked_of, alternatives_of}
use Rattle.and_syntax.specs.Tables.{term_with}
use Rattle.and_clauses.proofs.making.query_added.Goals as goal

pub note_names-requires-clause-falls : goal.note_names-requires-clause-falls
note_names-requires-clause-falls c = subst (λ xs. PartsFall 0 (part_shapes xs)) (sym c.parts.ensures.value) (all_fall c.args.draft.now)

pub returns-clause-set : goal.returns-clause-set
returns-clause-set c = λ T w keep one.
    query_whole c.args.draft.now c.parts.result.now c.parts-2.result.now c.parts.ensures.value c.root.result c.root.ensures.root w one
    (names_of c.args.lists.now.names.keys) (names_of c.note_names.new.names.keys) (names_of c.made_of.new.names.keys) c.in_ok-note_names.ensures.ok T
    c.args.used (shapes_of c.args.lists.now.nodes.items) (shapes_of c.made_of.new.nodes.items) c.args.lists.now.clauses.items
    c.append_entries.new.clauses.items c.args.lists.now.calls.items c.append_calls.new.calls.items c.in_ok-judged.judged c.in_ok-made.made
    c.deref.result.now c.requires.room
    (no_fewer (names_of c.args.lists.now.names.keys) (names_of c.note_names.new.names.keys) c.note_names.ensures.kept) c.parts-2.ensures.value
    c.deref.ensures.value
    (calls_on c.args.lists.now.calls.items c.append_calls.new.calls.items
    (shapes_under (names_of c.made_of.new.names.keys) c.parts-2.result.now) c.deref.result.now c.line.result c.args.draft.now.line c.line.ensures
    c.in_ok-append_calls.ensures.calls) keep (λ under unasked. c.in_ok-judged.ensures.judged T w under one unasked)
    (λ ready. c.in_ok-made.ensures.made T w _ _ _ ready) c.in_ok-append_entries.ensures.appended

pub append_calls-requires-clause-falls : goal.append_calls-requires-clause-falls
append_calls-requires-clause-falls c = subst (λ xs. PartsFall 0 (part_shapes xs)) (sym c.parts-2.ensures.value) (all_fall c.args.draft.now)

pub returns-in_err-judged-clause-fault : goal.returns-in_err-judged-clause-fault
returns-in_err-judged-clause-fault c = λ T keep w one.
    let h = c.in_err-judged.ensures.fault T w
    (under_is c.args.draft.now c.parts.result.now c.parts.ensures.value c.root.result c.root.ensures.root w one (names_of c.args.lists.now.names.keys)
    (names_of c.note_names.new.names.keys) c.in_ok-note_names.ensures.ok T c.args.used keep.all_names keep.all_nodes keep.all_numbers keep.all_disjunctions) one
    (unasked_table (shapes_of c.args.lists.now.nodes.items) T.asked (length T.later) keep.asked) in
    search rules

pub made_of-requires : goal.made_of-requires
made_of-requires c =
    let old = names_of c.args.lists.now.names.keys in
    let names = names_of c.note_names.new.names.keys in
    let T = first_table old c.args.used in
    let w = one_finished (draft_of c.args.draft.now).finished c.requires.one in
    let ps = asked_of (term_with T w.0) in
    let under = first_under c.args.draft.now c.parts.result.now c.parts.ensures.value c.root.result c.root.ensures.root w.0 w.1 old names
    c.in_ok-note_names.ensures.ok c.args.used in
    let judged = c.in_ok-judged.ensures.judged T w.0 under w.1 refl in
    let ready = ready_is c.args.draft.now c.parts.result.now c.parts.ensures.value c.root.result c.root.ensures.root w.0 w.1 old names
    c.in_ok-note_names.ensures.ok T ps (suc T.numbers) (alternatives_of ps) (shapes_of c.args.lists.now.nodes.items) c.args.used
    c.in_ok-judged.judged None c.requires.room (no_fewer old names c.note_names.ensures.kept) under judged.1
    refl in
    record { ready = (T, w.0, ps, suc T.numbers, alternatives_of ps, ready) }

pub append_calls-requires-clause-there : goal.append_calls-requires-clause-there
append_calls-requires-clause-there c =
    let old = names_of c.args.lists.now.names.keys in
    let names = names_of c.note_names.new.names.keys in
    let T = first_table old c.args.used in
    let w = one_finished (draft_of c.args.draft.now).finished c.requires.one in
    let ps = asked_of (term_with T w.0) in
    let under = first_under c.args.draft.now c.parts.result.now c.parts.ensures.value c.root.result c.root.ensures.root w.0 w.1 old names
    c.in_ok-note_names.ensures.ok c.args.used in
    let judged = c.in_ok-judged.ensures.judged T w.0 under w.1 refl in
    let ready = ready_is c.args.draft.now c.parts.result.now c.parts.ensures.value c.root.result c.root.ensures.root w.0 w.1 old names
    c.in_ok-note_names.ensures.ok T ps (suc T.numbers) (alternatives_of ps) (shapes_of c.args.lists.now.nodes.items) c.args.used
    c.in_ok-judged.judged None c.requires.room (no_fewer old names c.note_names.ensures.kept) under judged.1
    refl in
    let made = c.in_ok-made.ensures.made T w.0 _ _ _ ready in
    subst (TokensThere (length c.parts-2.result.now)) (sym (c.deref.ensures.value ∙ made.tokens))
    (subst (λ (ys : List DraftPart). TokensThere (length ys) c.in_ok-judged.judged.tokens.items) (sym c.parts-2.ensures.value) judged.1.there)

pub append_calls-requires-clause-few_names : goal.append_calls-requires-clause-few_names
append_calls-requires-clause-few_names c =
    let old = names_of c.args.lists.now.names.keys in
    let names = names_of c.note_names.new.names.keys in
    let T = first_table old c.args.used in
    let w = one_finished (draft_of c.args.draft.now).finished c.requires.one in
    let ps = asked_of (term_with T w.0) in
    let under = first_under c.args.draft.now c.parts.result.now c.parts.ensures.value c.root.result c.root.ensures.root w.0 w.1 old names
    c.in_ok-note_names.ensures.ok c.args.used in
    let judged = c.in_ok-judged.ensures.judged T w.0 under w.1 refl in
    let ready = ready_is c.args.draft.now c.parts.result.now c.parts.ensures.value c.root.result c.root.ensures.root w.0 w.1 old names
    c.in_ok-note_names.ensures.ok T ps (suc T.numbers) (alternatives_of ps) (shapes_of c.args.lists.now.nodes.items) c.args.used
    c.in_ok-judged.judged None c.requires.room (no_fewer old names c.note_names.ensures.kept) under judged.1
    refl in
    few_made T w.0 ps (suc T.numbers) (alternatives_of ps) names (shapes_of c.args.lists.now.nodes.items) (shapes_of c.made_of.new.nodes.items)
    c.args.draft.now c.in_ok-judged.judged None c.args.used.disjunctions (names_of c.made_of.new.names.keys) c.in_ok-made.made
    ready (c.in_ok-made.ensures.made T w.0 _ _ _ ready)
