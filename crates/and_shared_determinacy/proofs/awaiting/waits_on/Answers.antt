use Rattle.std.proofs.Common.{◌≡◌, ◌≤◌, length, refl, sym, ap, subst, ◌∙◌, arith}
use Rattle.std.proofs.lemmas.Option.{same_Some}
use Rattle.and_program.specs.Loaded.{arguments_at}
use Rattle.and_model.specs.declared.reference.Ref.TheVariants.{Cell, Node}
use Rattle.and_cells.specs.Seen.{LeadsTo, EndsAt}
use Rattle.and_cells.specs.Parts.{named, parts_of}
use Rattle.and_cells.specs.Ranges.{NamedProgram}
use Rattle.and_cells.proofs.Chains.{reads_more, reads_nothing}
use Rattle.and_clause_index.specs.Selecting.{CanBeTried, GoalWaitsOn}
use Rattle.and_guards.proofs.Resolved.{falls_in}
use Rattle.and_shared_determinacy.proofs.TriedCalls.{over_as_named}
use Rattle.and_shared_determinacy.proofs.Awaited.{none_later, none_at_first, none_more, none_less, parts_many, found_later, argument_follows, argument_as_named}
use Rattle.and_shared_determinacy.proofs.Awaited.{free_end}
use Rattle.and_shared_determinacy.proofs.awaiting.waits_on.Goals as goal

pub call_node-node-requires : goal.call_node-node-requires
call_node-node-requires g c =
    let words = (g.C.Cells.seen c.args.cells.now).words in
    (words, subst (λ (Q : NamedProgram). CanBeTried Q words c.args.goal) c.requires.program c.requires.goal)

pub argument_count-place-end-requires : goal.argument_count-place-end-requires
argument_count-place-end-requires g c =
    let words = (g.C.Cells.seen c.args.cells.now).words in
    let over = c.call_node-node.ensures words (subst (λ (Q : NamedProgram). CanBeTried Q words c.args.goal) c.requires.program c.requires.goal) in
    over.in_range.there

pub loop-place-init : goal.loop-place-init
loop-place-init g c = record {
  over = refl;
  grew = g.met.C.Cells.grew_nothing c.args.cells.now;
  reads = reads_nothing (g.C.Cells.seen c.args.cells.now);
  before = none_at_first g.C.Cells.program (g.C.Cells.seen c.args.cells.now) c.call_node-node.result c.args.goal.base;
}

pub argument_at-requires-clause-base : goal.argument_at-requires-clause-base
argument_at-requires-clause-base g c =
    let P = g.C.Cells.program in
    let l = c.args.loaded.now in
    let old = g.C.Cells.seen c.args.cells.now in
    let node = c.call_node-node.result in
    let over = over_as_named P (named l) old.words c.args.goal node.0 c.requires.program c.requires.goal (c.call_node-node.ensures old.words) in
    over.in_range.base_below

pub deref-end-requires-clause-in_range : goal.deref-end-requires-clause-in_range
deref-end-requires-clause-in_range g c =
    let P = g.C.Cells.program in
    let l = c.args.loaded.now in
    let old = g.C.Cells.seen c.args.cells.now in
    let node = c.call_node-node.result in
    let over = over_as_named P (named l) old.words c.args.goal node.0 c.requires.program c.requires.goal (c.call_node-node.ensures old.words) in
    let i = c.loop-place.invariant in
    let mid = g.C.Cells.seen c.loop-place.cells in
    let fall = falls_in P l c.requires.program c.skeleton_is_of_the_program.ensures.skeleton.0 in
    let there = argument_as_named P (named l) node c.args.goal.base c.loop-place.place c.argument_at.result c.requires.program c.argument_at.ensures in
    let both = argument_follows P fall old.words mid node c.args.goal.base c.loop-place.place c.argument_at.result i.reads.words over.in_range there in
    both.0

pub deref-end-requires-clause-written : goal.deref-end-requires-clause-written
deref-end-requires-clause-written g c =
    let P = g.C.Cells.program in
    let l = c.args.loaded.now in
    let old = g.C.Cells.seen c.args.cells.now in
    let node = c.call_node-node.result in
    let over = over_as_named P (named l) old.words c.args.goal node.0 c.requires.program c.requires.goal (c.call_node-node.ensures old.words) in
    let i = c.loop-place.invariant in
    let mid = g.C.Cells.seen c.loop-place.cells in
    let fall = falls_in P l c.requires.program c.skeleton_is_of_the_program.ensures.skeleton.0 in
    let there = argument_as_named P (named l) node c.args.goal.base c.loop-place.place c.argument_at.result c.requires.program c.argument_at.ensures in
    let both = argument_follows P fall old.words mid node c.args.goal.base c.loop-place.place c.argument_at.result i.reads.words over.in_range there in
    both.1

pub returns-in-Some-clause-over : goal.returns-in-Some-clause-over
returns-in-Some-clause-over g c = c.deref-end.ensures.over ∙ c.loop-place.invariant.over

pub returns-in-Some-clause-grew : goal.returns-in-Some-clause-grew
returns-in-Some-clause-grew g c =
    g.met.C.Cells.grew_on c.args.cells.now c.loop-place.cells c.deref-end.new.cells c.loop-place.invariant.grew c.deref-end.ensures.grew

pub returns-in-Some-clause-reads : goal.returns-in-Some-clause-reads
returns-in-Some-clause-reads g c =
    reads_more (g.C.Cells.seen c.args.cells.now) (g.C.Cells.seen c.loop-place.cells) (g.C.Cells.seen c.deref-end.new.cells) c.loop-place.invariant.reads
    c.deref-end.ensures.reads

pub returns-in-Some-clause-some : goal.returns-in-Some-clause-some
returns-in-Some-clause-some g c = λ cell is.
    let P = g.C.Cells.program in
    let l = c.args.loaded.now in
    let old = g.C.Cells.seen c.args.cells.now in
    let node = c.call_node-node.result in
    let over = over_as_named P (named l) old.words c.args.goal node.0 c.requires.program c.requires.goal (c.call_node-node.ensures old.words) in
    let i = c.loop-place.invariant in
    let mid = g.C.Cells.seen c.loop-place.cells in
    let fall = falls_in P l c.requires.program c.skeleton_is_of_the_program.ensures.skeleton.0 in
    let there = argument_as_named P (named l) node c.args.goal.base c.loop-place.place c.argument_at.result c.requires.program c.argument_at.ensures in
    let new = g.C.Cells.seen c.deref-end.new.cells in
    let base = c.args.goal.base in
    let found = c.in-Some.cell in
    let shared = g.C.Cells.shared (g.C.Cells.over c.args.cells.now) in
    let end_is : c.deref-end.result ≡ Cell found = c.free_cell.ensures.some found c.in-Some.is in
    let ends = subst (λ x. EndsAt (g.C.Cells.shared x) c.deref-end.result mid new) i.over c.deref-end.ensures.ends in
    let waits : GoalWaitsOn P shared c.args.goal old new found = (
      node,
      over,
      record {
        place = c.loop-place.place;
        argument = c.argument_at.result;
        there = there;
        leads = subst (LeadsTo new c.argument_at.result) end_is c.deref-end.ensures.leads;
        free = found_later shared found old mid new i.reads (free_end shared c.deref-end.result found mid new end_is ends);
        before = none_later P mid new node base c.loop-place.place c.deref-end.ensures.reads i.before;
      },
    ) in
    subst (λ x. GoalWaitsOn P shared c.args.goal old new x) (same_Some found cell is) waits

pub loop-place-preserved : goal.loop-place-preserved
loop-place-preserved g c =
    let P = g.C.Cells.program in
    let l = c.args.loaded.now in
    let old = g.C.Cells.seen c.args.cells.now in
    let node = c.call_node-node.result in
    let over = over_as_named P (named l) old.words c.args.goal node.0 c.requires.program c.requires.goal (c.call_node-node.ensures old.words) in
    let i = c.loop-place.invariant in
    let mid = g.C.Cells.seen c.loop-place.cells in
    let fall = falls_in P l c.requires.program c.skeleton_is_of_the_program.ensures.skeleton.0 in
    let there = argument_as_named P (named l) node c.args.goal.base c.loop-place.place c.argument_at.result c.requires.program c.argument_at.ensures in
    record {
      over = c.deref-end.ensures.over ∙ i.over;
      grew = g.met.C.Cells.grew_on c.args.cells.now c.loop-place.cells c.deref-end.new.cells i.grew c.deref-end.ensures.grew;
      reads = reads_more old mid (g.C.Cells.seen c.deref-end.new.cells) i.reads c.deref-end.ensures.reads;
      before = none_more P mid (g.C.Cells.seen c.deref-end.new.cells) node c.args.goal.base c.loop-place.place c.argument_at.result c.deref-end.result
          c.deref-end.ensures.reads i.before there
          c.deref-end.ensures.leads (c.free_cell.ensures.none c.in-None.is);
    }

pub returns-clause-over : goal.returns-clause-over
returns-clause-over g c = c.loop-place.invariant.over

pub returns-clause-grew : goal.returns-clause-grew
returns-clause-grew g c = c.loop-place.invariant.grew

pub returns-clause-reads : goal.returns-clause-reads
returns-clause-reads g c = c.loop-place.invariant.reads

pub returns-clause-none : goal.returns-clause-none
returns-clause-none g c = λ is.
    let P = g.C.Cells.program in
    let l = c.args.loaded.now in
    let old = g.C.Cells.seen c.args.cells.now in
    let node = c.call_node-node.result in
    let over = over_as_named P (named l) old.words c.args.goal node.0 c.requires.program c.requires.goal (c.call_node-node.ensures old.words) in
    let base = c.args.goal.base in
    let many : length (parts_of P (Node node base)) ≡ length (arguments_at P.skeleton node.0) = parts_many P node base in
    let named_so : length (arguments_at P.skeleton node.0) ≡ c.argument_count-place-end.result =
    ap (λ (Q : NamedProgram). length (arguments_at Q.skeleton node.0)) c.requires.program ∙ sym c.argument_count-place-end.ensures in
    let past : length (parts_of P (Node node base)) ≤ c.loop-place.place = omega (arith, many, named_so, c.loop-place-test.false) in (
      node,
      over,
      none_less P (g.C.Cells.seen c.loop-place.cells) node base (length (parts_of P (Node node base))) c.loop-place.place past
          c.loop-place.invariant.before,
    )
