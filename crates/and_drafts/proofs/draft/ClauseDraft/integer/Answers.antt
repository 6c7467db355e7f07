use Rattle.std.proofs.Common.{ℤ, to_z, of_z, w64, ◌≡◌, ◌≤◌, [], ◌∷◌, map, refl, length, arith, ap, sym}
use Rattle.std.proofs.lemmas.Int.{to_z-of_z}
use Rattle.and_syntax.specs.Written
use Rattle.and_drafts.specs.declared.draft.DraftPart.TheVariants.{Integer}
use Rattle.and_drafts.specs.Parts.{part_shapes, written_at, integer}
use Rattle.and_drafts.proofs.Drafting.{Stepped, stepped_leaf, drafted}
use Rattle.and_drafts.proofs.Meeting.{Met, met_either}
use Rattle.and_drafts.proofs.draft.ClauseDraft.integer.Goals as goal

pub invariant_of-self : goal.invariant_of-self
invariant_of-self c =
    let back : to_z w64 (of_z w64 c.args.value) ≡ c.args.value = to_z-of_z w64 c.args.value c.ranges.value in
    let s : Stepped c.add_part.result c.args.self.now.parts.items c.add_part.new.parts.items c.add_part.new.finished.items
    (map (written_at (part_shapes c.args.self.now.parts.items)) c.args.self.now.finished.items) (Written.integer c.args.value) =
    stepped_leaf c.add_part.result c.args.self.now.parts.items c.add_part.new.parts.items c.args.self.now.finished.items c.add_part.new.finished.items
    (Integer (to_z w64 (of_z w64 c.args.value))) (Written.integer c.args.value) c.len-start.result
    c.args.self.now.formed c.args.self.now.narrow (omega arith) c.add_part.ensures.parts c.add_part.ensures.finished c.add_part.ensures.parts_kept
    c.add_part.ensures.finished_kept
    (omega arith) tt (ap Written.integer back) (λ n. ap (λ (z : ℤ). integer z ∷ []) (sym back)) refl in
    let h : length c.add_part.new.parts.items ≤ 4294967295 = s.few in
    let m : Met c.args.self.now.variables c.add_part.new.parts.items =
    met_either c.add_part.result c.args.self.now.variables c.args.self.now.parts.items c.add_part.new.parts.items (Integer (to_z w64 (of_z w64 c.args.value)))
    c.add_part.ensures.parts c.add_part.ensures.parts_kept
    c.args.self.now.met refl tt c.args.self.now.numbered in
    record { few = omega arith; formed = s.formed; narrow = s.narrow; met = m.met; numbered = m.numbered }

pub returns-clause-ok : goal.returns-clause-ok
returns-clause-ok c =
    let back : to_z w64 (of_z w64 c.args.value) ≡ c.args.value = to_z-of_z w64 c.args.value c.ranges.value in
    let s : Stepped c.add_part.result c.args.self.now.parts.items c.add_part.new.parts.items c.add_part.new.finished.items
    (map (written_at (part_shapes c.args.self.now.parts.items)) c.args.self.now.finished.items) (Written.integer c.args.value) =
    stepped_leaf c.add_part.result c.args.self.now.parts.items c.add_part.new.parts.items c.args.self.now.finished.items c.add_part.new.finished.items
    (Integer (to_z w64 (of_z w64 c.args.value))) (Written.integer c.args.value) c.len-start.result
    c.args.self.now.formed c.args.self.now.narrow (omega arith) c.add_part.ensures.parts c.add_part.ensures.finished c.add_part.ensures.parts_kept
    c.add_part.ensures.finished_kept
    (omega arith) tt (ap Written.integer back) (λ n. ap (λ (z : ℤ). integer z ∷ []) (sym back)) refl in
    drafted c.add_part.result c.args.self.now.line _ _ _ _ s.meaning
