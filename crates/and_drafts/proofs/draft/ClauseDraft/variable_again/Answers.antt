use Rattle.std.proofs.Common.{◌≤◌, [], ◌∷◌, map, refl, length, arith, ap, sym}
use Rattle.and_model.specs.Lines.{Bytes}
use Rattle.and_syntax.specs.Written
use Rattle.and_drafts.specs.declared.draft.DraftPart.TheVariants.{Variable}
use Rattle.and_drafts.specs.Parts.{part_shapes, written_at, variable}
use Rattle.and_drafts.proofs.Drafting.{Stepped, stepped_leaf, drafted}
use Rattle.and_drafts.proofs.Meeting.{Met, met_again}
use Rattle.and_drafts.proofs.draft.ClauseDraft.variable_again.Goals as goal

pub invariant_of-self : goal.invariant_of-self
invariant_of-self c =
    let s : Stepped c.add_part.result c.args.self.now.parts.items c.add_part.new.parts.items c.add_part.new.finished.items
    (map (written_at (part_shapes c.args.self.now.parts.items)) c.args.self.now.finished.items) (Written.variable c.args.name.now) =
    stepped_leaf c.add_part.result c.args.self.now.parts.items c.add_part.new.parts.items c.args.self.now.finished.items c.add_part.new.finished.items
    (Variable c.in_ok-text.text c.args.number) (Written.variable c.args.name.now) c.len-start.result
    c.args.self.now.formed c.args.self.now.narrow (omega arith) c.add_part.ensures.parts c.add_part.ensures.finished c.add_part.ensures.parts_kept
    c.add_part.ensures.finished_kept
    (omega arith) tt (ap Written.variable c.in_ok-text.ensures) (λ n. ap (λ (x : Bytes). variable x ∷ []) (sym c.in_ok-text.ensures)) refl in
    let h : length c.add_part.new.parts.items ≤ 4294967295 = s.few in
    let m : Met c.args.self.now.variables c.add_part.new.parts.items =
    met_again c.add_part.result c.args.self.now.variables c.args.self.now.parts.items c.add_part.new.parts.items c.args.name.now c.in_ok-text.text
    c.args.number c.in_ok-text.ensures
    c.add_part.ensures.parts c.add_part.ensures.parts_kept c.requires.known c.args.self.now.met c.args.self.now.numbered in
    record { few = omega arith; formed = s.formed; narrow = s.narrow; met = m.met; numbered = m.numbered }

pub returns-clause-ok : goal.returns-clause-ok
returns-clause-ok c =
    let s : Stepped c.add_part.result c.args.self.now.parts.items c.add_part.new.parts.items c.add_part.new.finished.items
    (map (written_at (part_shapes c.args.self.now.parts.items)) c.args.self.now.finished.items) (Written.variable c.args.name.now) =
    stepped_leaf c.add_part.result c.args.self.now.parts.items c.add_part.new.parts.items c.args.self.now.finished.items c.add_part.new.finished.items
    (Variable c.in_ok-text.text c.args.number) (Written.variable c.args.name.now) c.len-start.result
    c.args.self.now.formed c.args.self.now.narrow (omega arith) c.add_part.ensures.parts c.add_part.ensures.finished c.add_part.ensures.parts_kept
    c.add_part.ensures.finished_kept
    (omega arith) tt (ap Written.variable c.in_ok-text.ensures) (λ n. ap (λ (x : Bytes). variable x ∷ []) (sym c.in_ok-text.ensures)) refl in
    drafted c.add_part.result c.args.self.now.line _ _ _ _ s.meaning
