use Rattle.std.proofs.Common.{◌∙◌, ap, length, map, refl, sym}
use Rattle.and_program.specs.Loaded.{program_of}
use Rattle.and_program.specs.Nodes.{entry_clause, shapes_of, names_of}
use Rattle.and_syntax.specs.Tables.{empty, with_query}
use Rattle.and_clauses.specs.Asking.{clauses_table}
use Rattle.and_drafts.specs.Drafts.{draft_of}
use Rattle.and_clauses.proofs.Adding.{one_query}
use Rattle.and_clauses.proofs.Keeping.{kept_program}
use Rattle.and_clauses.proofs.Questions.{asked_fits_too, asked_kept, found_asked, put_seals, set_so}
use Rattle.and_clauses.proofs.TableCalls.{all_fit, empty_fits}
use Rattle.and_clauses.proofs.asked.Clauses.ask.Goals as goal

pub of_parts-loaded-requires-clause-kept : goal.of_parts-loaded-requires-clause-kept
of_parts-loaded-requires-clause-kept c =
    let T = clauses_table c.args.self in
    let d = c.args.draft.now in
    let one = one_query (draft_of d).finished c.requires in
    let mid = c.set.new.lists in
    let set = set_so mid c.in-Some.query c.in_ok-query.field-0 T d one.0 c.in-Some.is (c.in_ok-query.ensures.set T one.0 c.args.self.kept one.1) in
    kept_program (shapes_of mid.nodes.items) mid.clauses.items c.in-Some.query mid.calls.items (names_of mid.names.keys) set.1
    (with_query T one.0 (draft_of d).line) set.2

pub of_parts-loaded-requires-clause-found : goal.of_parts-loaded-requires-clause-found
of_parts-loaded-requires-clause-found c =
    let s = c.args.self in
    let n = c.lengths-lengths.ensures in
    found_asked s.lists c.set.new.lists c.lengths-lengths.result n.names n.nodes n.clauses n.calls c.set.ensures.grown s.numbers
    (c.is_plain.ensures.count c.if-is_plain.true) s.kept.entries s.found

pub invariant_of-result : goal.invariant_of-result
invariant_of-result c =
    let s = c.args.self in
    let n = c.lengths-lengths.ensures in
    let p = c.of_parts-loaded.ensures in
    let count = c.is_plain.ensures.count c.if-is_plain.true in
    record {
      kept = asked_kept s.lists c.set.new.lists c.lengths-lengths.result n.names n.nodes n.clauses n.calls c.set.ensures.grown c.of_parts-loaded.result
          s.used (clauses_table s) p.nodes p.entries p.names count s.kept;
      all = ap length p.entries ∙ count;
    }

pub returns-then-is_plain-clause-asked : goal.returns-then-is_plain-clause-asked
returns-then-is_plain-clause-asked c =
    let s = c.args.self in
    let T = clauses_table s in
    let d = c.args.draft.now in
    let n = c.lengths-lengths.ensures in
    let mid = c.set.new.lists in
    let ss = shapes_of mid.nodes.items in
    let found = found_asked s.lists mid c.lengths-lengths.result n.names n.nodes n.clauses n.calls c.set.ensures.grown s.numbers
    (c.is_plain.ensures.count c.if-is_plain.true) s.kept.entries s.found in
    let first = c.is_plain.ensures.known c.if-is_plain.true (map (entry_clause ss) mid.clauses.items) found in (
      refl,
      λ w one.
          let set = set_so mid c.in-Some.query c.in_ok-query.field-0 T d w c.in-Some.is (c.in_ok-query.ensures.set T w s.kept one) in
          let fits = asked_fits_too T d w (all_fit empty s.added.items empty_fits) one in (
            set.0,
            put_seals ss mid.clauses.items c.in-Some.query mid.calls.items (names_of mid.names.keys) set.1 (with_query T w (draft_of d).line) set.2 fits
                (program_of c.of_parts-loaded.result) c.of_parts-loaded.ensures.program (sym first),
          ),
    )
