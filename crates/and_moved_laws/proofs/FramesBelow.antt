-- Frames below a place stay where they are if all of them do.
use Rattle.std.proofs.Common.{ℕ, ◌+◌, ◌-◌, ◌≡◌, ◌<◌, ◌≤◌, List, [], ◌∷◌, length, sym, ap, ◌∙◌, subst, inl, inr, arith, Contains}
use Rattle.std.proofs.lemmas.Bool.{cases_lt}
use Rattle.and_model.specs.Store.{Frame}
use Rattle.and_model.specs.declared.goal.Goal.{Goal}
use Rattle.and_model.specs.declared.reference.Ref.{Ref}
use Rattle.and_model.specs.declared.reference.Ref.TheVariants.{Free, Cell, Node, Number, Half}
use Rattle.and_laws.proofs.Ordered.{contains_cases, contains_none}
use Rattle.and_cells.specs.Ranges.{NamedProgram, CanHold}
use Rattle.and_cells.specs.Rows.{IsSound, OnlySet}
use Rattle.and_cells.specs.Seen.{word_at}
use Rattle.and_moved_laws.specs.Parts.{moved}
use Rattle.and_moved_laws.specs.KeptFrames.{Fill, IsInFrame, NamesFrame, NamesFrames, AreEnough, raised, lowered, side_by_side}
use Rattle.and_moved_laws.proofs.KeptFrames.{lie, kept_are_part}
use Rattle.and_moved_laws.proofs.Lowering.{LieFrom, lies_behind, lowered_first, lowered_later, IsFound, found}
use Rattle.and_moved_laws.proofs.Moving.{one_origin, within_part}
use Rattle.and_moved_laws.proofs.Tiling.{fill_some, fill_fits, fill_tiles}

-- ---- Places

-- Where frames cover all places from the first on to this one, it is lowered by nothing but that.
covered_stays : (from : ℕ) (fs : List Frame) (words : ℕ) → LieFrom from fs words → (p : ℕ) → from ≤ p
    → ((q : ℕ) → from ≤ q → q ≤ p → (f : Frame) × Contains fs f × IsInFrame q f) → lowered fs p ≡ p - from
covered_stays from [] words lie p low covers = let g = covers from (omega arith) low in absurd (contains_none g.0 g.1)
covered_stays from (f ∷ fs) words lie p low covers =
    let (g, there, inside) = covers from (omega arith) low in
    let upto = inside.0 in
    let starts = lie.0 in
    let begins : f.base ≡ from = elim (contains_cases f g fs there) [
      | inl e ↦ let same : g.base ≡ f.base = ap (λ (x : Frame). x.base) e in omega arith
      | inr i ↦ let l = lies_behind (f.base + f.weight) fs words lie.1 g i in omega arith
    ] in
    elim (cases_lt p (f.base + f.weight)) [
      | inl here ↦ let e = lowered_first f fs p here in omega arith
      | inr past ↦
          let later : (q : ℕ) → f.base + f.weight ≤ q → q ≤ p → (h : Frame) × Contains fs h × IsInFrame q h = λ q behind before.
          let (h, i, j) = covers q (omega arith) before in
          elim (contains_cases f h fs i) [
            | inl e ↦
                let same : h.base + h.weight ≡ f.base + f.weight = ap (λ (x : Frame). x.base + x.weight) e in
                let l = j.1 in
                absurd (omega arith)
            | inr k ↦ (h, k, j)
          ] in
          let e = lowered_later f fs p past in
          let rest = covered_stays (f.base + f.weight) fs words lie.1 p past later in
          omega arith
    ]

module _ (P : NamedProgram) (row : List Ref) (sound : IsSound P row) (goals : List Goal) (frames : List Frame)
    (fill : Fill 0 frames (length row)) (names : NamesFrames P frames row) (fs : List Frame) (enough : AreEnough frames row goals fs) (low : ℕ)
    (below : (f : Frame) → Contains frames f → f.base < low → Contains fs f) where
  abbrev up : ℕ → ℕ
  up p = raised fs (length row) p

  home : (p : ℕ) → p < low → p < length row → (f : Frame) × Contains fs f × IsInFrame p f
  home p less inside =
      let (f, there, i) = fill_tiles 0 frames (length row) fill p (omega arith) inside in
      (f, below f there (let l = i.0 in omega arith), i)

  pub place_stays : (p : ℕ) → p < low → p < length row → (lowered fs p ≡ p) × (raised fs (length row) p ≡ p)
  place_stays p less inside =
      let rows = lie P row sound goals frames fill names fs enough in
      let down : lowered fs p ≡ p - 0 = covered_stays 0 fs (length row) rows p (omega arith) (λ q from before. home q (omega arith) (omega arith)) in
      let (f, there, i) = home p less inside in
      let from = i.0 in
      let upto = i.1 in
      let is : f.base + (p - f.base) ≡ p = omega arith in
      let again : IsFound fs (length row) f (p - f.base) = found 0 fs (length row) rows f there (p - f.base) (omega arith) in
      let one : lowered fs p ≡ lowered fs f.base + (p - f.base) = ap (lowered fs) (sym is) ∙ again.0 in
      let stays : lowered fs p ≡ p = omega arith in
      (stays, ap up (sym stays ∙ one) ∙ again.1 ∙ is)

  -- ---- Words

  -- What the reference names lies below.
  abbrev NamesBelow : Ref → Type 0
  NamesBelow Free = Unit {0}
  NamesBelow (Cell cell) = cell < low
  NamesBelow (Node node base) = base < low
  NamesBelow (Number pair) = pair < low
  NamesBelow (Half bits) = Unit {0}

  one_place : low ≤ length row → (p : ℕ) → up p < low → p ≡ up p
  one_place short p less =
      let m = kept_are_part P row sound goals frames fill names fs enough in
      one_origin (raised fs (length row)) m.rises p (up p) (sym (place_stays (up p) less (omega arith)).1)

  -- The word was not moved.
  same_word : low ≤ length row → (r q : Ref) → moved (raised fs (length row)) r ≡ q → NamesBelow q → r ≡ q
  same_word short Free q e names_it = e
  same_word short (Cell cell) q e names_it = ap (λ (c : ℕ). Cell c) (one_place short cell (subst NamesBelow (sym e) names_it)) ∙ e
  same_word short (Node node base) q e names_it = ap (λ (b : ℕ). Node node b) (one_place short base (subst NamesBelow (sym e) names_it)) ∙ e
  same_word short (Number pair) q e names_it = ap (λ (p : ℕ). Number p) (one_place short pair (subst NamesBelow (sym e) names_it)) ∙ e
  same_word short (Half bits) q e names_it = e

-- ---- An earlier row

-- What is so of all references to places within the row is so of its words, which name what lies in its frames.
named_within : (P : NamedProgram) (first : List Ref) → IsSound P first → (early : List Frame) → Fill 0 early (length first)
    → (place : ℕ) → place < length first → (r : Ref) → CanHold P (length first) place r → NamesFrame P early r
    → (Q : Ref → Type 0) → ((cell : ℕ) → cell < length first → Q (Cell cell)) → ((node : _) (base : ℕ) → base < length first → Q (Node node base))
    → ((pair : ℕ) → pair < length first → Q (Number pair)) → Q Free → ((bits : _) → Q (Half bits)) → Q r
named_within P first sound early fill place low Free fits n Q cells nodes pairs free halves = free
named_within P first sound early fill place low (Cell cell) fits n Q cells nodes pairs free halves = cells cell (omega (arith, fits, low))
named_within P first sound early fill place low (Node node base) fits n Q cells nodes pairs free halves =
    let ends = fill_fits 0 early (length first) fill n.0 n.1 in
    let some = fill_some 0 early (length first) fill n.0 n.1 in
    let e = n.2 in
    nodes node base (omega arith)
named_within P first sound early fill place low (Number pair) fits n Q cells nodes pairs free halves =
    let ends = fill_fits 0 early (length first) fill n.0 n.1 in
    let i = n.2.1 in
    pairs pair (omega arith)
named_within P first sound early fill place low (Half bits) fits n Q cells nodes pairs free halves = halves bits

-- It can still be had again.
pub again_below : (P : NamedProgram) (first row : List Ref) (cells : List ℕ) (early : List Frame) → IsSound P first → Fill 0 early (length first)
    → NamesFrames P early first → (sound : IsSound P row) (goals : List Goal) (frames : List Frame) (fill : Fill 0 frames (length row))
    (names : NamesFrames P frames row) (fs : List Frame) (enough : AreEnough frames row goals fs)
    → ((f : Frame) → Contains frames f → f.base < length first → Contains fs f) → OnlySet cells first row → OnlySet cells first (side_by_side fs row)
again_below P first row cells early first_sound filled named sound goals frames fill names fs enough below only =
    let m = kept_are_part P row sound goals frames fill names fs enough in
    let longer = only.longer in
    let stays : (p : ℕ) → p < length first → raised fs (length row) p ≡ p = λ p low.
    (place_stays P row sound goals frames fill names fs enough (length first) below p low (omega arith)).1 in
    let inside : (p : ℕ) → p < length first → p < length (side_by_side fs row) = λ p low.
    within_part P (raised fs (length row)) (side_by_side fs row) row m p (let e = stays p low in omega arith) in
    record {
      longer = elim (cases_lt 0 (length first)) [
        | inl some ↦ let l = inside (length first - 1) (omega arith) in omega arith
        | inr none ↦ omega arith
      ];
      free = only.free;
      others = λ place low. elim (only.others place low) [
        | inr noted ↦ inr noted
        | inl same ↦
            let moved_is : moved (raised fs (length row)) (word_at (side_by_side fs row) place) ≡ word_at first place =
            sym (m.words place) ∙ ap (word_at row) (stays place low) ∙ same in
            let names_it = named_within P first first_sound early filled place low (word_at first place) (first_sound.fits place) (named place)
            (NamesBelow P row sound goals frames fill names fs enough (length first) below) (λ cell l. l) (λ node base l. l) (λ pair l. l) tt (λ bits. tt) in
            inl (same_word P row sound goals frames fill names fs enough (length first) below longer (word_at (side_by_side fs row) place)
            (word_at first place) moved_is names_it)
      ];
    }
