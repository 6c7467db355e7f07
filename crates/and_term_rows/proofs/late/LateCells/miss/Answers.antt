use Rattle.std.proofs.Common.{◌∙◌, ap, subst, length, false, List, [], ◌∷◌, ◌++◌}
use Rattle.std.specs.Prelude.{map, Contains}
use Rattle.and_model.specs.Store.{Known}
use Rattle.and_cells.specs.Ranges.{CanHold}
use Rattle.and_term_rows.specs.Late.{Learnt, known_of}
use Rattle.and_term_rows.proofs.Glimpses.{finds_then}
use Rattle.and_term_rows.proofs.late.LateCells.miss.Goals as goal

pub learn-requires-clause-unknown : goal.learn-requires-clause-unknown
learn-requires-clause-unknown g c = λ r knows.
    c.requires.unknown r (subst
    (λ (known : List Learnt). Contains (map (λ (k : Known). k.setting) (map known_of known)) (record { place = c.args.place; value = r }))
    c.note.ensures.known knows)

pub returns-in-Err-clause-found : goal.returns-in-Err-clause-found
returns-in-Err-clause-found g c = λ is_set.
    let old = c.args.self.now in
    finds_then g.N.Naming.program old.words c.learn.new.self.words old.known.items c.learn.new.self.known.items old.missed.items c.learn.new.self.missed.items
    c.args.place c.fill-word.result (ap length c.learn.ensures.words ∙ c.fill-word.ensures.len ∙ ap length c.note.ensures.words)
    (c.learn.ensures.known ∙ ap (λ (known : List Learnt). known ++ (c.args.place, c.fill-word.result, false) ∷ []) c.note.ensures.known)
    (c.learn.ensures.missed ∙ c.in-Err.ensures.unchanged) is_set
    (subst (λ n. CanHold g.N.Naming.program n c.args.place c.fill-word.result) (ap length c.note.ensures.words) c.fill-word.ensures.fits) c.requires.unknown
