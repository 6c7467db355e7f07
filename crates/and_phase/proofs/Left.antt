-- What is known of the row and of the pairs that workers leave, before they are looked at.
use Rattle.std.proofs.Common.{ℕ, ◌≡◌, ◌≢◌, false, List, [], ◌∷◌, All, Option, None, refl, sym, subst}
use Rattle.std.specs.Prelude.{flat_map}
use Rattle.std.proofs.lemmas.List.Elements.{All-nil, All-append, All-head, All-tail}
use Rattle.and_model.specs.declared.goal.Goal.{Goal}
use Rattle.and_model.specs.declared.reference.Ref.{Ref}
use Rattle.and_model.specs.declared.reference.Ref.TheVariants.{Free, Cell, Node, Number, Half}
use Rattle.and_cells.specs.Ranges.{NamedProgram, CanHold, IsInRange}
use Rattle.and_cells.specs.Seen.{word_at}
use Rattle.and_unify.specs.Pairs.{AreInRange}
use Rattle.and_unify.specs.declared.pairs.Pair.{Pair}
use Rattle.and_store.specs.Passes.{PassSeen}
use Rattle.and_store.specs.Sight.{About}
use Rattle.and_store_laws.proofs.Words.{set_in_has}
use Rattle.and_handed.specs.Handed.{EndsBy}
use Rattle.and_handed.specs.declared.told.Cause.{Cause}
use Rattle.and_handed.specs.declared.told.HandedOn.{HandedOn}
use Rattle.and_gathering.specs.Gathering.{IsGathered}
use Rattle.and_gathering.specs.declared.gathering.Gathered.{Gathered}
use Rattle.and_closing_laws.specs.Phases.{HasPhased, AllHandOn}

module _ (P : NamedProgram) (first row : List Ref) (tolds : List HandedOn) (h : HasPhased P first row tolds) where
  held : (place : ℕ) (r : Ref) → word_at row place ≡ r → r ≢ Free → CanHold P h.about.words place r
  held place r is set = h.closes.fits (record { place = place; value = r }) (set_in_has row place r is set)

  -- What each word names is in range of the words that the store had.
  held_by : (place : ℕ) (r : Ref) → word_at row place ≡ r → CanHold P h.about.words place r
  held_by place Free is = tt
  held_by place (Cell cell) is = held place (Cell cell) is (λ e. absurd (cc))
  held_by place (Node node base) is = held place (Node node base) is (λ e. absurd (cc))
  held_by place (Number pair) is = held place (Number pair) is (λ e. absurd (cc))
  held_by place (Half bits) is = tt

  pub fits_row : (words : ℕ) × ((place : ℕ) → CanHold P words place (word_at row place))
  fits_row = (h.about.words, λ place. held_by place (word_at row place) refl)

abbrev Lives : HandedOn → Type 0
Lives t = t.cause ≡ None

abbrev IsUnspoilt : HandedOn → Type 0
IsUnspoilt t = t.is_spoilt ≡ false

abbrev IsOver : About → PassSeen → Type 0
IsOver a p = p.store.about ≡ a

abbrev IsPairInRange : NamedProgram → About → Pair → Type 0
IsPairInRange P a p = IsInRange P a.words p.left × IsInRange P a.words p.right

one_in_range : (P : NamedProgram) (a : About) (t : HandedOn) (p : PassSeen) (cause : Option Cause) → EndsBy P t p cause → cause ≡ None → IsOver a p
    → AreInRange P a.words t.pairs
one_in_range P a t p cause ends lives over =
    let done = subst (EndsBy P t p) lives ends in subst (λ (b : About). AreInRange P b.words t.pairs) over done.1.pairs_left.in_range

all_in_range : (P : NamedProgram) (a : About) (tolds : List HandedOn) (passes : List PassSeen) → AllHandOn P tolds passes → All (IsOver a) passes
    → All IsUnspoilt tolds → All Lives tolds → AreInRange P a.words (flat_map (λ (t : HandedOn). t.pairs) tolds)
all_in_range P a [] passes hand over sound lives = All-nil (IsPairInRange P a)
all_in_range P a (t ∷ tolds) [] hand over sound lives = absurd hand
all_in_range P a (t ∷ tolds) (p ∷ passes) hand over sound lives =
    All-append (IsPairInRange P a) t.pairs (flat_map (λ (u : HandedOn). u.pairs) tolds)
    (one_in_range P a t p t.cause (hand.0 (All-head IsUnspoilt t tolds sound)) (All-head Lives t tolds lives) (All-head (IsOver a) p passes over))
    (all_in_range P a tolds passes hand.1 (All-tail (IsOver a) p passes over) (All-tail IsUnspoilt t tolds sound) (All-tail Lives t tolds lives))

-- Where no worker found the tree dead, all pairs are in range of the words that the store had.
pub pairs_in_range : (P : NamedProgram) (first row : List Ref) (tolds : List HandedOn) → HasPhased P first row tolds → (goals : List Goal) (used limit : ℕ)
    (g : Gathered) → IsGathered P.program goals used limit tolds g → g.failed ≡ false → (words : ℕ) × AreInRange P words g.pairs
pairs_in_range P first row tolds h goals used limit g gathered live = (
  h.about.words,
  subst (AreInRange P h.about.words) (sym gathered.pairs)
      (all_in_range P h.about tolds h.passes h.hand_on h.of_store gathered.unspoilt (gathered.lives live)),
)
