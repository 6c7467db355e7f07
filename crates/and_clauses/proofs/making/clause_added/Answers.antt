use Rattle.std.proofs.Common.{List, Some, suc, length, refl, ◌∙◌, subst, sym, rules}
use Rattle.std.proofs.Math.Seq.{take-length}
use Rattle.and_program.specs.Nodes.{shapes_of, names_of}
use Rattle.and_drafts.specs.Parts.{part_shapes, PartsFall}
use Rattle.and_drafts.proofs.Telling.{all_fall}
use Rattle.and_clauses.proofs.OneMore.{calls_on, no_fewer, under_is, ready_is, grown_twice, grown_push, clause_whole, first_table, first_under, few_made}
use Rattle.and_clauses.proofs.Adding.{one_finished}
use Rattle.and_drafts.specs.Drafts.{draft_of}
use Rattle.and_judging.specs.Sorts.{shapes_under, TokensThere}
use Rattle.and_drafts.specs.declared.draft.DraftPart.{DraftPart}
use Rattle.and_syntax.specs.Clauses.{body_of, alternatives_of}
use Rattle.and_syntax.specs.Tables.{term_with}
use Rattle.and_clauses.proofs.making.clause_added.Goals as goal

pub note_names-requires-clause-falls : goal.note_names-requires-clause-falls
note_names-requires-clause-falls c = subst (λ xs. PartsFall 0 (part_shapes xs)) (sym c.parts.ensures.value) (all_fall c.args.draft.now)

pub returns-clause-added : goal.returns-clause-added
returns-clause-added c = λ query T w keep one.
    clause_whole c.args.draft.now c.parts.result.now c.parts-2.result.now c.parts.ensures.value c.root.result c.root.ensures.root w one
    (names_of c.args.lists.now.names.keys) (names_of c.note_names.new.names.keys) (names_of c.made_of.new.names.keys) c.in_ok-note_names.ensures.ok T
    c.args.used (shapes_of c.args.lists.now.nodes.items) (shapes_of c.made_of.new.nodes.items) c.args.lists.now.clauses.items
    c.append_entries.new.clauses.items c.args.lists.now.calls.items c.append_calls.new.calls.items c.in_ok-judged.judged c.in_ok-made.made
    c.deref.result.now c.requires.room
    (no_fewer (names_of c.args.lists.now.names.keys) (names_of c.note_names.new.names.keys) c.note_names.ensures.kept) c.parts-2.ensures.value
    c.deref.ensures.value
    (calls_on c.args.lists.now.calls.items c.append_calls.new.calls.items
    (shapes_under (names_of c.made_of.new.names.keys) c.parts-2.result.now) c.deref.result.now c.line.result c.args.draft.now.line c.line.ensures
    c.in_ok-append_calls.ensures.calls) query c.push.new.self.items keep
    (λ under. c.in_ok-judged.ensures.judged T w under one) (λ under. c.in_ok-judged.ensures.head T w under one)
    (λ ready. c.in_ok-made.ensures.made T w _ _ _ ready) c.in_ok-push.ensures.items c.in_ok-append_entries.ensures.appended

pub append_calls-requires-clause-falls : goal.append_calls-requires-clause-falls
append_calls-requires-clause-falls c = subst (λ xs. PartsFall 0 (part_shapes xs)) (sym c.parts-2.ensures.value) (all_fall c.args.draft.now)

pub returns-in_err-append_entries-clause-grown : goal.returns-in_err-append_entries-clause-grown
returns-in_err-append_entries-clause-grown c = record {
  nodes = c.made_of.ensures.nodes_kept;
  names = grown_twice (names_of c.args.lists.now.names.keys) (names_of c.note_names.new.names.keys) (names_of c.made_of.new.names.keys)
      c.note_names.ensures.kept c.made_of.ensures.names_kept;
  clauses = grown_twice c.args.lists.now.clauses.items c.push.new.self.items c.append_entries.new.clauses.items
      (grown_push c.args.lists.now.clauses.items c.push.new.self.items c.in_ok-made.made.entry c.in_ok-push.ensures.items) c.append_entries.ensures.kept;
  calls = take-length c.args.lists.now.calls.items;
}

pub returns-in_err-judged-clause-fault : goal.returns-in_err-judged-clause-fault
returns-in_err-judged-clause-fault c = λ query T keep w one.
    let h = c.in_err-judged.ensures.fault T w
    (under_is c.args.draft.now c.parts.result.now c.parts.ensures.value c.root.result c.root.ensures.root w one (names_of c.args.lists.now.names.keys)
    (names_of c.note_names.new.names.keys) c.in_ok-note_names.ensures.ok T c.args.used keep.all_names keep.all_nodes keep.all_numbers keep.all_disjunctions)
    one in
    search rules

pub made_of-requires : goal.made_of-requires
made_of-requires c =
    let old = names_of c.args.lists.now.names.keys in
    let names = names_of c.note_names.new.names.keys in
    let T = first_table old c.args.used in
    let w = one_finished (draft_of c.args.draft.now).finished c.requires.one in
    let ps = body_of (term_with T w.0) in
    let under = first_under c.args.draft.now c.parts.result.now c.parts.ensures.value c.root.result c.root.ensures.root w.0 w.1 old names
    c.in_ok-note_names.ensures.ok c.args.used in
    let judged = c.in_ok-judged.ensures.judged T w.0 under w.1 in
    let side = c.in_ok-judged.ensures.head T w.0 under w.1 in
    let ready = ready_is c.args.draft.now c.parts.result.now c.parts.ensures.value c.root.result c.root.ensures.root w.0 w.1 old names
    c.in_ok-note_names.ensures.ok T ps (suc (suc T.numbers)) (suc (alternatives_of ps)) (shapes_of c.args.lists.now.nodes.items) c.args.used
    c.in_ok-judged.judged (Some c.in_ok-judged.judged.head) c.requires.room (no_fewer old names c.note_names.ensures.kept) under judged.1
    (side.0, side.1, refl) in
    record { ready = (T, w.0, ps, suc (suc T.numbers), suc (alternatives_of ps), ready) }

pub append_calls-requires-clause-there : goal.append_calls-requires-clause-there
append_calls-requires-clause-there c =
    let old = names_of c.args.lists.now.names.keys in
    let names = names_of c.note_names.new.names.keys in
    let T = first_table old c.args.used in
    let w = one_finished (draft_of c.args.draft.now).finished c.requires.one in
    let ps = body_of (term_with T w.0) in
    let under = first_under c.args.draft.now c.parts.result.now c.parts.ensures.value c.root.result c.root.ensures.root w.0 w.1 old names
    c.in_ok-note_names.ensures.ok c.args.used in
    let judged = c.in_ok-judged.ensures.judged T w.0 under w.1 in
    let side = c.in_ok-judged.ensures.head T w.0 under w.1 in
    let ready = ready_is c.args.draft.now c.parts.result.now c.parts.ensures.value c.root.result c.root.ensures.root w.0 w.1 old names
    c.in_ok-note_names.ensures.ok T ps (suc (suc T.numbers)) (suc (alternatives_of ps)) (shapes_of c.args.lists.now.nodes.items) c.args.used
    c.in_ok-judged.judged (Some c.in_ok-judged.judged.head) c.requires.room (no_fewer old names c.note_names.ensures.kept) under judged.1
    (side.0, side.1, refl) in
    let made = c.in_ok-made.ensures.made T w.0 _ _ _ ready in
    subst (TokensThere (length c.parts-2.result.now)) (sym (c.deref.ensures.value ∙ made.tokens))
    (subst (λ (ys : List DraftPart). TokensThere (length ys) c.in_ok-judged.judged.tokens.items) (sym c.parts-2.ensures.value) judged.1.there)

pub append_calls-requires-clause-few_names : goal.append_calls-requires-clause-few_names
append_calls-requires-clause-few_names c =
    let old = names_of c.args.lists.now.names.keys in
    let names = names_of c.note_names.new.names.keys in
    let T = first_table old c.args.used in
    let w = one_finished (draft_of c.args.draft.now).finished c.requires.one in
    let ps = body_of (term_with T w.0) in
    let under = first_under c.args.draft.now c.parts.result.now c.parts.ensures.value c.root.result c.root.ensures.root w.0 w.1 old names
    c.in_ok-note_names.ensures.ok c.args.used in
    let judged = c.in_ok-judged.ensures.judged T w.0 under w.1 in
    let side = c.in_ok-judged.ensures.head T w.0 under w.1 in
    let ready = ready_is c.args.draft.now c.parts.result.now c.parts.ensures.value c.root.result c.root.ensures.root w.0 w.1 old names
    c.in_ok-note_names.ensures.ok T ps (suc (suc T.numbers)) (suc (alternatives_of ps)) (shapes_of c.args.lists.now.nodes.items) c.args.used
    c.in_ok-judged.judged (Some c.in_ok-judged.judged.head) c.requires.room (no_fewer old names c.note_names.ensures.kept) under judged.1
    (side.0, side.1, refl) in
    few_made T w.0 ps (suc (suc T.numbers)) (suc (alternatives_of ps)) names (shapes_of c.args.lists.now.nodes.items) (shapes_of c.made_of.new.nodes.items)
    c.args.draft.now c.in_ok-judged.judged (Some c.in_ok-judged.judged.head) c.args.used.disjunctions (names_of c.made_of.new.names.keys) c.in_ok-made.made
    ready (c.in_ok-made.ensures.made T w.0 _ _ _ ready)
