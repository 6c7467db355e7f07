use Rattle.std.proofs.Common.{length, ap, sym, ◌∙◌, ◌≡◌, [], reverse, rules}
use Rattle.and_model.specs.Lines.{first_seen}
use Rattle.and_model.specs.Terms.{variables_of}
use Rattle.and_program.specs.Skeletons.{node_term}
use Rattle.and_judging.specs.Sorts.{shapes_under, own}
use Rattle.and_drafts.proofs.Noting.{note_less, note_there, last_there}
use Rattle.and_judging.proofs.Noticing.{noted_part, variables_at}
use Rattle.and_judging.proofs.sorting.note_term.Goals as goal

pub bounds-parts-number : goal.bounds-parts-number
bounds-parts-number c = last_there (length c.args.parts.now) c.loop-number.pending.items c.pop.new.self.items c.in-Some.number c.in-Some.ensures.items
    c.loop-number.invariant.there

pub loop-number-smaller : goal.loop-number-smaller
loop-number-smaller c = note_less c.args.parts.now c.in-Some.number c.index-parts-number.result c.loop-number.pending.items c.pop.new.self.items
    c.note_part.new.pending.items c.requires.falls
    (last_there (length c.args.parts.now) c.loop-number.pending.items c.pop.new.self.items c.in-Some.number c.in-Some.ensures.items
    c.loop-number.invariant.there)
    c.index-parts-number.is c.in-Some.ensures.items c.in_ok-note_part.ensures.pending

pub loop-number-preserved : goal.loop-number-preserved
loop-number-preserved c =
    let there = last_there (length c.args.parts.now) c.loop-number.pending.items c.pop.new.self.items c.in-Some.number c.in-Some.ensures.items
    c.loop-number.invariant.there in record {
      noted = λ names. noted_part names c.args.parts.now c.in-Some.number c.index-parts-number.result c.loop-number.variables.items
          c.note_part.new.variables.items
          c.loop-number.pending.items c.pop.new.self.items c.note_part.new.pending.items
          (first_seen (own c.args.variables.now.items) (variables_of (node_term (shapes_under names c.args.parts.now) c.args.root)))
          c.requires.falls there c.index-parts-number.is c.in-Some.ensures.items c.in_ok-note_part.ensures.variables c.in_ok-note_part.ensures.pending
          (c.loop-number.invariant.noted names);
      there = note_there c.args.parts.now c.in-Some.number c.index-parts-number.result c.loop-number.pending.items c.pop.new.self.items
          c.note_part.new.pending.items c.requires.falls there
          c.index-parts-number.is c.in-Some.ensures.items c.in_ok-note_part.ensures.pending c.loop-number.invariant.there;
    }

pub returns : goal.returns
returns c = λ names.
    let e : c.loop-number.pending.items ≡ [] = search rules in
    sym (ap (λ ns. first_seen (own c.loop-number.variables.items) (variables_at (shapes_under names c.args.parts.now) (reverse ns))) e)
    ∙ c.loop-number.invariant.noted names
