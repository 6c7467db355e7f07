-- What a worker shows as cells (this project's own), and laws of what it says of itself.
use Rattle.std.proofs.Common.{ℕ, ◌<◌, ◌≡◌, ◌≢◌, List, map, None, refl, sym, ap, subst, ◌∙◌}
use Rattle.and_model.specs.Store.{Known, Pass, AreDistinct}
use Rattle.and_model.specs.declared.reference.Ref.{Ref}
use Rattle.and_cells.specs.Ranges.{NamedProgram, CanHold}
use Rattle.and_cells.specs.Seen.{Seen, IsCoherent}
use Rattle.and_store.specs.Calls.{LooksAt, SetsCell, Wins}
use Rattle.and_store.specs.Passes.{PassSeen}
use Rattle.and_store.specs.Sight.{About}

-- no place is known twice
abbrev pub IsOnce : List Known → Type 0
IsOnce known = AreDistinct (map (λ (k : Known). k.setting.place) known)

-- the row is not told, since others set its words
abbrev pub shown : (words : ℕ) → Pass → Seen
shown words p = record { words = words; told = None; known = p.known; missed = p.missed }

abbrev pub seen_by : PassSeen → Seen
seen_by p = shown p.store.about.words p.pass

pub once_is_coherent : (p : PassSeen) → IsOnce p.pass.known → IsCoherent (seen_by p)
once_is_coherent p once = record { once = once; whole = tt; in_row = tt }

-- What a worker does as cells: it looks at a word, sets a word of a pair, or sets a cell and closes its place. The
-- word is one of the row's, and what is set there may stand there.
pub data CellStep (P : NamedProgram) (a : About) (p q : PassSeen) : Type 0 where
  looks_at : (cell : ℕ) (r : Ref) → cell < a.words → LooksAt P a cell r p.pass q.pass
      → q.kept ≡ p.kept → CellStep P a p q
  fills : (place : ℕ) (half : Ref) → place < a.words → CanHold P a.words place half
      → SetsCell a place half p.pass q.pass → q.kept ≡ p.kept → CellStep P a p q
  wins : (cell : ℕ) (to : Ref) → cell < a.words → CanHold P a.words cell to → Wins a cell to p q → CellStep P a p q

-- CellSteps P a p q: step by step the pass became q. Each step tells what was seen by then, so that this tells which
-- settings of the pass's own came when, and behind which of those that it knew.
pub data CellSteps (P : NamedProgram) (a : About) : PassSeen → PassSeen → Type 0 where
  no_step : (p : PassSeen) → CellSteps P a p p
  step_first : (p q r : PassSeen) → CellStep P a p q → CellSteps P a q r → CellSteps P a p r

pub steps_on : (P : NamedProgram) (a : About) (p q r : PassSeen) → CellSteps P a p q
    → CellSteps P a q r → CellSteps P a p r
steps_on P a p q r (CellSteps.no_step x) after = after
steps_on P a p q r (CellSteps.step_first x y z step rest) after =
    CellSteps.step_first x y r step (steps_on P a y z r rest after)

-- The pass is of the same store, and was used as cells alone.
pub record IsUsed (P : NamedProgram) (p q : PassSeen) : Type 0 where
  pub store : q.store ≡ p.store
  pub steps : CellSteps P p.store.about p q

pub not_used : (P : NamedProgram) (p : PassSeen) → IsUsed P p p
not_used P p = record { store = refl; steps = CellSteps.no_step p }

pub used_on : (P : NamedProgram) (p q r : PassSeen) → IsUsed P p q → IsUsed P q r → IsUsed P p r
used_on P p q r a b = record {
  store = b.store ∙ a.store;
  steps = steps_on P p.store.about p q r a.steps
      (subst (λ (o : About). CellSteps P o q r) (ap (λ s. s.about) a.store) b.steps);
}
