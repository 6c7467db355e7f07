use Rattle.std.proofs.Common.{refl, ap, ◌∙◌, ◌≡◌, length, arith}
use Rattle.and_syntax.specs.Tables.{with_disjunctions, items_with}
use Rattle.and_program.specs.Nodes.{shapes_of, names_of}
use Rattle.and_judging.specs.Places.{places_from}
use Rattle.and_clauses.specs.declared.lifting.Lifting.{Lifting}
use Rattle.and_clauses.proofs.MadeClauses.{few_names, few_numbers, few_read, head_read, lifting_made, outlines_made, room_made, made_is}
use Rattle.and_clauses.proofs.making.made_of.Goals as goal

pub note_disjunctions-requires-clause-few_names : goal.note_disjunctions-requires-clause-few_names
note_disjunctions-requires-clause-few_names c =
    let count : c.len.result ≡ length c.args.judged.sorted.disjunctions.items = omega (arith, c.len.ensures, c.args.judged.sorted.disjunctions.ok.0) in
    omega (
      arith,
      count,
      few_names c.requires.ready.0 c.requires.ready.1 c.requires.ready.2 c.requires.ready.3 c.requires.ready.4
          (names_of c.args.names.now.keys) (shapes_of c.args.nodes.now.items)
          c.args.draft.now c.args.judged c.args.head c.args.first c.requires.ready.5,
    )

pub note_disjunctions-requires-clause-few : goal.note_disjunctions-requires-clause-few
note_disjunctions-requires-clause-few c =
    let count : c.len.result ≡ length c.args.judged.sorted.disjunctions.items = omega (arith, c.len.ensures, c.args.judged.sorted.disjunctions.ok.0) in
    omega (
      arith,
      count,
      few_numbers c.requires.ready.0 c.requires.ready.1 c.requires.ready.2 c.requires.ready.3 c.requires.ready.4
          (names_of c.args.names.now.keys) (shapes_of c.args.nodes.now.items)
          c.args.draft.now c.args.judged c.args.head c.args.first c.requires.ready.5,
    )

pub entries-requires-clause-lifting : goal.entries-requires-clause-lifting
entries-requires-clause-lifting c =
    let count : c.len.result ≡ length c.args.judged.sorted.disjunctions.items = omega (arith, c.len.ensures, c.args.judged.sorted.disjunctions.ok.0) in
    let noted = c.in_ok-numbers.ensures.names ∙ ap (λ k. with_disjunctions c.args.first k (names_of c.args.names.now.keys)) count in
    let placed = c.in_ok-numbers.ensures.numbers ∙ ap (places_from (names_of c.note_disjunctions.new.names.keys) c.args.first) count in
    lifting_made c.requires.ready.0 c.requires.ready.1 c.requires.ready.2 c.requires.ready.3 c.requires.ready.4 (names_of c.args.names.now.keys)
    (shapes_of c.args.nodes.now.items)
    c.args.draft.now c.args.judged c.args.head c.args.first c.requires.ready.5
    (names_of c.note_disjunctions.new.names.keys) c.in_ok-numbers.numbers.items noted placed _ refl c.parts.ensures.value
    c.deref.ensures.value c.deref-2.ensures.value c.line.result

pub entries-requires-clause-few : goal.entries-requires-clause-few
entries-requires-clause-few c =
    few_read c.parts.result.now c.args.draft.now c.args.judged c.requires.ready.0 c.requires.ready.1 c.requires.ready.2 c.requires.ready.3 c.requires.ready.4
    (names_of c.args.names.now.keys) (shapes_of c.args.nodes.now.items) c.args.head c.args.first c.requires.ready.5 c.parts.ensures.value

pub entries-requires-clause-head : goal.entries-requires-clause-head
entries-requires-clause-head c =
    head_read c.parts.result.now c.args.draft.now c.args.judged c.requires.ready.0 c.requires.ready.1 c.requires.ready.2 c.requires.ready.3 c.requires.ready.4
    (names_of c.args.names.now.keys) (shapes_of c.args.nodes.now.items) c.args.head c.args.first c.requires.ready.5 c.parts.ensures.value

pub entries-requires-clause-outlines : goal.entries-requires-clause-outlines
entries-requires-clause-outlines c =
    let count : c.len.result ≡ length c.args.judged.sorted.disjunctions.items = omega (arith, c.len.ensures, c.args.judged.sorted.disjunctions.ok.0) in
    let noted = c.in_ok-numbers.ensures.names ∙ ap (λ k. with_disjunctions c.args.first k (names_of c.args.names.now.keys)) count in
    let placed = c.in_ok-numbers.ensures.numbers ∙ ap (places_from (names_of c.note_disjunctions.new.names.keys) c.args.first) count in (
      items_with c.requires.ready.0 c.requires.ready.1 c.requires.ready.3 c.requires.ready.2,
      outlines_made c.requires.ready.0 c.requires.ready.1 c.requires.ready.2 c.requires.ready.3 c.requires.ready.4 (names_of c.args.names.now.keys)
          (shapes_of c.args.nodes.now.items)
          c.args.draft.now c.args.judged c.args.head c.args.first c.requires.ready.5
          (names_of c.note_disjunctions.new.names.keys) c.in_ok-numbers.numbers.items noted placed _ refl c.parts.ensures.value
          c.deref.ensures.value c.deref-2.ensures.value c.line.result c.deref-3.result.now c.deref-3.ensures.value,
    )

pub entries-requires-clause-room : goal.entries-requires-clause-room
entries-requires-clause-room c =
    let count : c.len.result ≡ length c.args.judged.sorted.disjunctions.items = omega (arith, c.len.ensures, c.args.judged.sorted.disjunctions.ok.0) in
    let noted = c.in_ok-numbers.ensures.names ∙ ap (λ k. with_disjunctions c.args.first k (names_of c.args.names.now.keys)) count in
    let placed = c.in_ok-numbers.ensures.numbers ∙ ap (places_from (names_of c.note_disjunctions.new.names.keys) c.args.first) count in
    let l : Lifting = record {
      alloc = c.args.alloc;
      names = record { ref_ptr = c.parts.result.ref_ptr; now = c.note_disjunctions.new.names };
      guesses = c.args.guesses;
      parts = c.parts.result;
      disjunctions = c.deref.result;
      numbers = c.deref-2.result;
    } in
    room_made c.requires.ready.0 c.requires.ready.1 c.requires.ready.2 c.requires.ready.3 c.requires.ready.4 (names_of c.args.names.now.keys)
    (shapes_of c.args.nodes.now.items)
    c.args.draft.now c.args.judged c.args.head c.args.first c.requires.ready.5
    (names_of c.note_disjunctions.new.names.keys) c.in_ok-numbers.numbers.items noted placed l refl c.parts.ensures.value
    c.deref.ensures.value c.deref-2.ensures.value c.line.result c.deref-3.result.now c.deref-3.ensures.value

pub returns-clause-made : goal.returns-clause-made
returns-clause-made c =
    λ T w ps b n r.
    let count : c.len.result ≡ length c.args.judged.sorted.disjunctions.items = omega (arith, c.len.ensures, c.args.judged.sorted.disjunctions.ok.0) in
    let noted = c.in_ok-numbers.ensures.names ∙ ap (λ k. with_disjunctions c.args.first k (names_of c.args.names.now.keys)) count in
    let placed = c.in_ok-numbers.ensures.numbers ∙ ap (places_from (names_of c.note_disjunctions.new.names.keys) c.args.first) count in
    made_is T w ps b n (names_of c.args.names.now.keys) (shapes_of c.args.nodes.now.items)
    c.args.draft.now c.args.judged c.args.head c.args.first r
    (names_of c.note_disjunctions.new.names.keys) c.in_ok-numbers.numbers.items noted placed _ refl c.parts.ensures.value
    c.deref.ensures.value c.deref-2.ensures.value c.line.result c.deref-3.result.now (shapes_of c.entries.new.nodes.items)
    (record { entry = c.in_ok-entry.entry; alternatives = c.in_ok-entry.alternatives; tokens = c.args.judged.tokens; used = c.args.judged.used })
    c.deref-3.ensures.value c.line.ensures c.in_ok-entry.ensures.grown c.in_ok-entry.ensures.lifted c.in_ok-entry.ensures.asked refl refl
