use Rattle.std.proofs.Common.{ℕ, ◌≤◌, List, [], ◌∷◌, map, take, refl, length, arith, ap, sym, ◌∙◌, Result, Ok}
use Rattle.std.proofs.lemmas.List.{length-map}
use Rattle.and_model.specs.Lines.{Bytes}
use Rattle.and_syntax.specs.Written
use Rattle.and_drafts.specs.declared.draft.DraftPart.TheVariants.{Variable}
use Rattle.and_drafts.specs.Numbered.{met_by}
use Rattle.and_drafts.specs.Parts.{part_shape, part_shapes, written_at, variable}
use Rattle.and_drafts.proofs.Drafting.{Stepped, stepped_leaf, drafted}
use Rattle.and_drafts.proofs.Meeting.{Met, met_first, met_same, cut_met, length-met_by}
use Rattle.and_drafts.proofs.draft.ClauseDraft.new_variable.Goals as goal

pub meet-requires : goal.meet-requires
meet-requires c = omega (
  arith,
  c.args.self.now.met.0,
  length-met_by [] (part_shapes c.args.self.now.parts.items),
  length-map c.args.self.now.parts.items part_shape,
)

pub invariant_of-self-in-Ok : goal.invariant_of-self-in-Ok
invariant_of-self-in-Ok c =
    let s : Stepped c.add_part.result c.args.self.now.parts.items c.add_part.new.parts.items c.add_part.new.finished.items
    (map (written_at (part_shapes c.args.self.now.parts.items)) c.args.self.now.finished.items) (Written.variable c.args.name.now) =
    stepped_leaf c.add_part.result c.args.self.now.parts.items c.add_part.new.parts.items c.args.self.now.finished.items c.add_part.new.finished.items
    (Variable c.in_ok-text.text c.mark-mark.result.count) (Written.variable c.args.name.now) c.len-start.result
    c.args.self.now.formed c.args.self.now.narrow (omega arith) c.add_part.ensures.parts c.add_part.ensures.finished c.add_part.ensures.parts_kept
    c.add_part.ensures.finished_kept
    (omega arith) tt (ap Written.variable c.in_ok-text.ensures) (λ n. ap (λ (x : Bytes). variable x ∷ []) (sym c.in_ok-text.ensures)) refl in
    let h : length c.add_part.new.parts.items ≤ 4294967295 = s.few in
    let m : Met c.meet.new.self c.add_part.new.parts.items =
    met_first c.meet.new.self c.args.self.now.parts.items c.add_part.new.parts.items c.args.name.now c.in_ok-text.text c.mark-mark.result.count
    c.in_ok-text.ensures
    c.in-Ok.ensures.parts c.requires.new (c.in_ok-meet.ensures.met _ c.args.self.now.met c.requires.new) (c.mark-mark.ensures.count ∙ c.args.self.now.met.0)
    c.args.self.now.numbered in
    record { few = omega arith; formed = s.formed; narrow = s.narrow; met = m.met; numbered = m.numbered }

pub returns-in-Ok-clause-ok : goal.returns-in-Ok-clause-ok
returns-in-Ok-clause-ok c =
    let r : Result (Unit {0}) (Unit {0}) = Ok tt in
    let s : Stepped r c.args.self.now.parts.items c.add_part.new.parts.items c.add_part.new.finished.items
    (map (written_at (part_shapes c.args.self.now.parts.items)) c.args.self.now.finished.items) (Written.variable c.args.name.now) =
    stepped_leaf r c.args.self.now.parts.items c.add_part.new.parts.items c.args.self.now.finished.items c.add_part.new.finished.items
    (Variable c.in_ok-text.text c.mark-mark.result.count) (Written.variable c.args.name.now) c.len-start.result
    c.args.self.now.formed c.args.self.now.narrow (omega arith) c.in-Ok.ensures.parts c.in-Ok.ensures.finished tt tt
    (omega arith) tt (ap Written.variable c.in_ok-text.ensures) (λ n. ap (λ (x : Bytes). variable x ∷ []) (sym c.in_ok-text.ensures)) refl in
    drafted r c.args.self.now.line _ _ _ _ s.meaning

pub invariant_of-self-in-Err : goal.invariant_of-self-in-Err
invariant_of-self-in-Err c =
    let s : Stepped c.add_part.result c.args.self.now.parts.items c.add_part.new.parts.items c.add_part.new.finished.items
    (map (written_at (part_shapes c.args.self.now.parts.items)) c.args.self.now.finished.items) (Written.variable c.args.name.now) =
    stepped_leaf c.add_part.result c.args.self.now.parts.items c.add_part.new.parts.items c.args.self.now.finished.items c.add_part.new.finished.items
    (Variable c.in_ok-text.text c.mark-mark.result.count) (Written.variable c.args.name.now) c.len-start.result
    c.args.self.now.formed c.args.self.now.narrow (omega arith) c.add_part.ensures.parts c.add_part.ensures.finished c.add_part.ensures.parts_kept
    c.add_part.ensures.finished_kept
    (omega arith) tt (ap Written.variable c.in_ok-text.ensures) (λ n. ap (λ (x : Bytes). variable x ∷ []) (sym c.in_ok-text.ensures)) refl in
    let h : length c.add_part.new.parts.items ≤ 4294967295 = s.few in
    let met : List Bytes = met_by [] (part_shapes c.args.self.now.parts.items) in
    let m : Met c.cut.new.self c.add_part.new.parts.items =
    met_same c.cut.new.self c.args.self.now.parts.items c.add_part.new.parts.items c.in-Err.ensures.parts_kept
    (cut_met c.args.self.now.variables c.cut.new.self met c.args.self.now.met (c.cut.ensures.count ∙ c.mark-mark.ensures.count)
    (c.cut.ensures.first ∙ ap (λ (n : ℕ). take n c.meet.new.self.first.items) c.mark-mark.ensures.first
    ∙ c.in_ok-meet.ensures.first_kept met c.args.self.now.met c.requires.new)
    (c.cut.ensures.named ∙ ap (λ (n : ℕ). take n c.meet.new.self.named.entries) c.mark-mark.ensures.named
    ∙ c.in_ok-meet.ensures.kept met c.args.self.now.met c.requires.new))
    c.args.self.now.numbered in
    record { few = omega arith; formed = s.formed; narrow = s.narrow; met = m.met; numbered = m.numbered }
