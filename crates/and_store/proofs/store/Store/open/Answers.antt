use Rattle.std.proofs.Common.{◌∙◌, ap, sym, subst, refl, All, replicate, ◌*◌, List, length, ◌≤◌}
use Rattle.and_model.specs.Words.{HasWord}
use Rattle.and_model.specs.declared.reference.Ref.{Ref}
use Rattle.and_cells.specs.Rows.{IsSound}
use Rattle.and_store_laws.specs.AtWork.{opened}
use Rattle.and_store.specs.Kept.{words_of}
use Rattle.and_store.specs.Sight.{About, opening_of}
use Rattle.and_store.proofs.Dealing.{opens_kept}
use Rattle.and_store.proofs.store.Store.open.Goals as goal

pub of_words-requires : goal.of_words-requires
of_words-requires g c =
    let P = g.N.Naming.program in
    let sound = c.in_ok-row.ensures.sound refl in
    let same = sym c.of.ensures in
    let a : About = record { first = c.of.result.value; words = c.args.words; seats = c.args.seats; waiters = c.args.waiters } in
    opens_kept P a c.as_slice.result.now
    (record { words = c.requires.words.1; seats = c.requires.seats.1; some_seat = c.requires.seats.0; waiters = c.requires.waiters })
    (subst (IsSound P) same sound.1) (subst (All HasWord) same sound.0) (subst (λ (l : List Ref). length l ≤ c.args.words) same c.requires.words.0)
    (c.as_slice.ensures.value ∙ c.in_ok-row.ensures.words
    ∙ ap (λ (l : List Ref). words_of (opened (opening_of P (record a { first = l }))) (replicate (2 * (c.args.seats * c.args.waiters)) 0)) same)
