use Rattle.std.proofs.Common.{length}
use Rattle.and_syntax.specs.Written.{named}
use Rattle.and_program.specs.Nodes.{names_of}
use Rattle.and_drafts.specs.Parts.{part_shapes, written_at}
use Rattle.and_drafts.proofs.Noting.{note_owed, note_less, note_there, last_there, Extends-again}
use Rattle.and_judging.proofs.numbering.note_names.Goals as goal

pub bounds-parts-number : goal.bounds-parts-number
bounds-parts-number c = last_there (length c.args.parts.now) c.loop-number.pending.items c.pop.new.self.items c.in-Some.number c.in-Some.ensures.items
    c.loop-number.invariant.there

pub loop-number-smaller : goal.loop-number-smaller
loop-number-smaller c = note_less c.args.parts.now c.in-Some.number c.index-parts-number.result c.loop-number.pending.items c.pop.new.self.items
    c.note_part.new.pending.items c.requires.falls
    (last_there (length c.args.parts.now) c.loop-number.pending.items c.pop.new.self.items c.in-Some.number c.in-Some.ensures.items
    c.loop-number.invariant.there) c.index-parts-number.is c.in-Some.ensures.items c.in_ok-name.ensures.pending

pub loop-number-preserved : goal.loop-number-preserved
loop-number-preserved c = record {
  owed = note_owed c.args.parts.now (names_of c.loop-number.names.keys) (names_of c.note_part.new.names.keys) c.in-Some.number c.index-parts-number.result
      c.loop-number.pending.items c.pop.new.self.items c.note_part.new.pending.items
      (named (names_of c.args.names.now.keys) (written_at (part_shapes c.args.parts.now) c.args.root))
      c.requires.falls (last_there (length c.args.parts.now) c.loop-number.pending.items c.pop.new.self.items c.in-Some.number c.in-Some.ensures.items
      c.loop-number.invariant.there) c.index-parts-number.is c.in-Some.ensures.items c.in_ok-name.ensures.names c.in_ok-name.ensures.pending
      c.loop-number.invariant.owed;
  there = note_there c.args.parts.now c.in-Some.number c.index-parts-number.result c.loop-number.pending.items c.pop.new.self.items
      c.note_part.new.pending.items c.requires.falls
      (last_there (length c.args.parts.now) c.loop-number.pending.items c.pop.new.self.items c.in-Some.number c.in-Some.ensures.items
      c.loop-number.invariant.there) c.index-parts-number.is c.in-Some.ensures.items c.in_ok-name.ensures.pending c.loop-number.invariant.there;
  kept = Extends-again (names_of c.args.names.now.keys) (names_of c.loop-number.names.keys) (names_of c.note_part.new.names.keys) c.loop-number.invariant.kept
      c.note_part.ensures.kept;
}
