use Rattle.std.proofs.Common.{◌≡◌, ◌+◌, suc, ap, ◌∙◌, arith, w64}
use Rattle.std.proofs.lemmas.Int.{to_z-of_z}
use Rattle.and_cells.specs.Seen.{word_at}
use Rattle.and_cells.specs.Numbers.{number_of}
use Rattle.and_cells.proofs.plain.PlainCells.held_number.Goals as goal

pub returns-clause-value : goal.returns-clause-value
returns-clause-value g c =
    let next : c.args.pair + 1 ≡ suc c.args.pair = omega arith in
    to_z-of_z w64 c.joined.result (record { sfits = c.joined.type_inv }) ∙ c.joined.ensures
    ∙ ap (λ h. number_of h c.word-2.result) c.word.ensures.value
    ∙ ap (number_of (word_at c.args.self.now c.args.pair)) (c.word-2.ensures.value ∙ ap (word_at c.args.self.now) next)
