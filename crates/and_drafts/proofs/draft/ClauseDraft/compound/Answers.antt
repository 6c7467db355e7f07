use Rattle.std.proofs.Common.{◌-◌, ◌≤◌, map, refl, length, take, drop, arith, ap, ◌∙◌}
use Rattle.and_model.specs.Lines.{Bytes}
use Rattle.and_syntax.specs.Written
use Rattle.and_drafts.specs.declared.draft.DraftPart.TheVariants.{Compound}
use Rattle.and_drafts.specs.Parts.{part_shapes, written_at, compound, many}
use Rattle.and_drafts.proofs.Drafting.{Stepped, stepped_compound, drafted, tail_is}
use Rattle.and_drafts.proofs.Meeting.{Met, met_either}
use Rattle.and_drafts.proofs.draft.ClauseDraft.compound.Goals as goal

pub invariant_of-self : goal.invariant_of-self
invariant_of-self c =
    let s : Stepped c.add_part.result c.args.self.now.parts.items c.add_part.new.parts.items c.add_part.new.finished.items
    (take (length (map (written_at (part_shapes c.args.self.now.parts.items)) c.args.self.now.finished.items) - c.args.count)
    (map (written_at (part_shapes c.args.self.now.parts.items)) c.args.self.now.finished.items))
    (Written.compound c.args.name.now
    (many (drop (length (map (written_at (part_shapes c.args.self.now.parts.items)) c.args.self.now.finished.items) - c.args.count)
    (map (written_at (part_shapes c.args.self.now.parts.items)) c.args.self.now.finished.items)))) =
    stepped_compound c.add_part.result c.args.self.now.parts.items c.add_part.new.parts.items c.args.self.now.finished.items c.add_part.new.finished.items
    (Compound c.in_ok-name.name c.in_ok-arguments.arguments) c.args.name.now c.in_ok-arguments.arguments.items c.args.count (c.len.result - c.args.count)
    c.args.self.now.formed c.args.self.now.narrow (omega arith) c.add_part.ensures.parts c.add_part.ensures.finished c.add_part.ensures.parts_kept
    c.add_part.ensures.finished_kept
    (omega arith) c.requires.there (omega arith) (ap (λ (x : Bytes). compound x c.in_ok-arguments.arguments.items) c.in_ok-name.ensures)
    (c.in_ok-arguments.ensures.ok ∙ tail_is (c.len.result - c.args.count) c.args.self.now.finished.items c.deref.result.now c.deref.ensures.value) in
    let h : length c.add_part.new.parts.items ≤ 4294967295 = s.few in
    let m : Met c.args.self.now.variables c.add_part.new.parts.items =
    met_either c.add_part.result c.args.self.now.variables c.args.self.now.parts.items c.add_part.new.parts.items
    (Compound c.in_ok-name.name c.in_ok-arguments.arguments) c.add_part.ensures.parts c.add_part.ensures.parts_kept
    c.args.self.now.met refl tt c.args.self.now.numbered in
    record { few = omega arith; formed = s.formed; narrow = s.narrow; met = m.met; numbered = m.numbered }

pub returns-clause-ok : goal.returns-clause-ok
returns-clause-ok c =
    let s : Stepped c.add_part.result c.args.self.now.parts.items c.add_part.new.parts.items c.add_part.new.finished.items
    (take (length (map (written_at (part_shapes c.args.self.now.parts.items)) c.args.self.now.finished.items) - c.args.count)
    (map (written_at (part_shapes c.args.self.now.parts.items)) c.args.self.now.finished.items))
    (Written.compound c.args.name.now
    (many (drop (length (map (written_at (part_shapes c.args.self.now.parts.items)) c.args.self.now.finished.items) - c.args.count)
    (map (written_at (part_shapes c.args.self.now.parts.items)) c.args.self.now.finished.items)))) =
    stepped_compound c.add_part.result c.args.self.now.parts.items c.add_part.new.parts.items c.args.self.now.finished.items c.add_part.new.finished.items
    (Compound c.in_ok-name.name c.in_ok-arguments.arguments) c.args.name.now c.in_ok-arguments.arguments.items c.args.count (c.len.result - c.args.count)
    c.args.self.now.formed c.args.self.now.narrow (omega arith) c.add_part.ensures.parts c.add_part.ensures.finished c.add_part.ensures.parts_kept
    c.add_part.ensures.finished_kept
    (omega arith) c.requires.there (omega arith) (ap (λ (x : Bytes). compound x c.in_ok-arguments.arguments.items) c.in_ok-name.ensures)
    (c.in_ok-arguments.ensures.ok ∙ tail_is (c.len.result - c.args.count) c.args.self.now.finished.items c.deref.result.now c.deref.ensures.value) in
    drafted c.add_part.result c.args.self.now.line _ _ _ _ s.meaning
