use Rattle.std.proofs.Common.{ℕ, ◌≡◌, ◌≢◌, ◌<◌, suc, List, length, get_or, set, sym, ap, subst, ◌∙◌}
use Rattle.and_model.specs.Words.{HasWord, word_of}
use Rattle.and_model.specs.declared.reference.Ref.{Ref}
use Rattle.and_model.specs.declared.reference.Ref.TheVariants.{Free, Number}
use Rattle.and_cells.specs.Ranges.{NamedProgram, CanHold}
use Rattle.and_cells.specs.Seen.{word_at}
use Rattle.and_cells.specs.Rows.{row_of, AreWords, IsSound}
use Rattle.and_cells.specs.Ground.{AreFounded}
use Rattle.and_cells.proofs.PlainRows.{named_set, word_read}
use Rattle.and_cells.proofs.Grounding.{founded_set}
use Rattle.and_cells.proofs.plain.PlainCells.set_as.Goals as goal

-- the row with the word that was read set
read_set : (P : NamedProgram) (ws : List ℕ) (row : List Ref) (place from w : ℕ) → row_of ws ≡ row → AreWords ws × IsSound P (row_of ws) → place < length row
    → from < length row → w ≡ get_or ws from w → word_at row place ≡ Free → CanHold P (length row) place (word_at row from)
    → ((pair : ℕ) → word_at row from ≡ Number pair → (word_at row pair ≢ Free) × (word_at row (suc pair) ≢ Free))
    → (AreWords (set ws place w) × IsSound P (row_of (set ws place w))) × (row_of (set ws place w) ≡ set row place (word_at row from))
read_set P ws row place from w is kept below there read free fits written =
    let found = word_read ws row from w is kept.0 there read in
    let word : w ≡ word_of (word_at row from) = sym found.2 ∙ ap word_of (sym found.0) in
    named_set P ws row place w (word_at row from) is word kept below (subst HasWord (sym found.0) found.1) free fits written

pub invariant_of-self : goal.invariant_of-self
invariant_of-self g c =
    let P = g.N.Naming.program in
    let both = read_set P c.self.inside.words.items c.args.self.now c.args.place c.args.from c.index.result.now c.self.view_is
    (c.self.invariant.0, c.self.invariant.1) c.requires.place c.requires.from c.index.ensures c.requires.free c.requires.fits c.requires.written in (
      both.0.0,
      both.0.1,
      subst (λ row. AreFounded P row c.self.inside.known) (sym both.1)
          (founded_set P c.args.self.now c.self.inside.known c.args.place (word_at c.args.self.now c.args.from) c.requires.free
          (subst (λ row. AreFounded P row c.self.inside.known) c.self.view_is c.self.invariant.2)),
    )

pub returns : goal.returns
returns g c =
    (read_set g.N.Naming.program c.self.inside.words.items c.args.self.now c.args.place c.args.from c.index.result.now c.self.view_is
    (c.self.invariant.0, c.self.invariant.1) c.requires.place c.requires.from c.index.ensures c.requires.free c.requires.fits c.requires.written).1
