-- What is known when the workers of a phase have ended (this project's own).
use Rattle.std.specs.Prelude.{◌≡◌, ◌≤◌, Bool, List, [], ◌∷◌, All}
use Rattle.and_model.specs.Store.{JournalEntry}
use Rattle.and_model.specs.declared.limits.TheConstants.{MAX_LIMIT}
use Rattle.and_model.specs.declared.reference.Ref.{Ref}
use Rattle.and_cells.specs.Ranges.{NamedProgram}
use Rattle.and_store.specs.Ended.{Closes, passes_of}
use Rattle.and_store.specs.Passes.{PassSeen}
use Rattle.and_store.specs.Sight.{About}
use Rattle.and_handed.specs.Handed.{HandsOn}
use Rattle.and_handed.specs.declared.told.HandedOn.{HandedOn}

-- each worker hands on what it may, of its own pass
abbrev pub AllHandOn : NamedProgram → List HandedOn → List PassSeen → Type 0
AllHandOn P [] [] = Unit {0}
AllHandOn P [] (p ∷ ps) = ⊥
AllHandOn P (t ∷ ts) [] = ⊥
AllHandOn P (t ∷ ts) (p ∷ ps) = HandsOn P t p × AllHandOn P ts ps

-- HasPhased P opening row tolds: workers went over a store that began with these cells. They left this row, and hand
-- this on.
pub record HasPhased (P : NamedProgram) (opening row : List Ref) (tolds : List HandedOn) : Type 0 where
  pub about : About
  pub first : about.first ≡ opening
  pub short : about.words ≤ MAX_LIMIT
  pub passes : List PassSeen
  pub of_store : All (λ (p : PassSeen). p.store.about ≡ about) passes
  pub journal : List JournalEntry
  pub failed : Bool
  pub closes : Closes P about (passes_of passes) row failed journal
  pub hand_on : AllHandOn P tolds passes
