-- Numbers that are read over other cells.
use Rattle.std.proofs.Common.{ℕ, ℤ, zero, suc, ◌≡◌, ◌≢◌, ◌<◌, ◌⊎◌, inl, inr, List, [], ◌∷◌, sym, ap, subst, ◌∙◌, arith, Some, None}
use Rattle.std.specs.Prelude.{Contains, Option}
use Rattle.std.proofs.lemmas.Bool.{cases_eq}
use Rattle.and_model.specs.Store.{Setting, Known, AreDistinct}
use Rattle.and_model.specs.declared.reference.Ref.{Ref}
use Rattle.and_model.specs.declared.reference.Ref.TheVariants.{Free, Cell, Node, Number, Half}
use Rattle.and_cells.specs.Ranges.{NamedProgram, CanHold}
use Rattle.and_cells.specs.Seen.{Seen, Knows, IsAmong, IsSetTo, IsCoherent, IsKnownWritten, IsWrittenIfNumber, OnlyReads, ReadsNumber}
use Rattle.and_cells.proofs.Among.{among_first, among_more, among_cases, among_none, map_among}
use Rattle.and_cells.specs.Numbers.{number_of}
use Rattle.and_cells.proofs.Chains.{written_later}
use Rattle.and_overlay.proofs.Sifting.{distinct_first, distinct_rest}
use Rattle.and_overlay.specs.Overlaid.{Own, seen_over, IsUnknown, IsKnownFit, IsOver}
use Rattle.and_overlay.proofs.Owned.{own_setting, settings, places_of, place_of}
use Rattle.and_overlay.proofs.Knowing.{settings_of, knows_from}

-- ---- one value is known

one_listed : (known : List Known) → AreDistinct (places_of known) → (p : ℕ) (r q : Ref)
    → Contains (settings known) (record { place = p; value = r })
    → Contains (settings known) (record { place = p; value = q }) → r ≡ q
one_listed [] apart p r q one other = absurd (among_none _ one)
one_listed (k ∷ known) apart p r q one other =
    elim (among_cases k.setting (record { place = p; value = r }) (settings known) one) [
      | inl first ↦ elim (among_cases k.setting (record { place = p; value = q }) (settings known) other) [
        | inl also ↦ ap (λ (t : Setting). t.value) first ∙ sym (ap (λ (t : Setting). t.value) also)
        | inr rest ↦ absurd (distinct_first k.setting.place (places_of known) apart p (place_of known _ rest)
            (sym (ap (λ (t : Setting). t.place) first)))
      ]
      | inr rest ↦ elim (among_cases k.setting (record { place = p; value = q }) (settings known) other) [
        | inl first ↦ absurd (distinct_first k.setting.place (places_of known) apart p (place_of known _ rest)
            (sym (ap (λ (t : Setting). t.place) first)))
        | inr also ↦ one_listed known (distinct_rest k.setting.place (places_of known) apart) p r q rest also
      ]
    ]

knows_one : (s : Seen) → IsCoherent s → (p : ℕ) (r q : Ref) → Knows s p r → Knows s p q → r ≡ q
knows_one s coherent p r q one other = by_told s.told one other
  where
    by_told : (told : Option (List Ref)) → IsAmong told s.known p r → IsAmong told s.known p q → r ≡ q
    by_told None one other = one_listed s.known coherent.once p r q one other
    by_told (Some row) one other = sym one.0 ∙ other.0

-- ---- whether some cell is known to be set to a number

is_that_number : (r : Ref) (pair : ℕ) → (r ≡ Number pair) ⊎ (r ≢ Number pair)
is_that_number Free pair = inr (λ e. cc)
is_that_number (Cell cell) pair = inr (λ e. cc)
is_that_number (Node node base) pair = inr (λ e. cc)
is_that_number (Number n) pair = elim (cases_eq n pair) [ inl same ↦ inl (ap (λ m. Number m) same) | inr other ↦ inr (λ e. other (cc)) ]
is_that_number (Half bits) pair = inr (λ e. cc)

listed_number : (known : List Known) (pair : ℕ)
    → ((cell : ℕ) × Contains (settings known) (record { place = cell; value = Number pair }))
    ⊎ ((cell : ℕ) → Contains (settings known) (record { place = cell; value = Number pair }) → ⊥)
listed_number [] pair = inr (λ cell has. among_none _ has)
listed_number (k ∷ known) pair = elim (is_that_number k.setting.value pair) [
  | inl is ↦ inl (
    k.setting.place,
    subst (λ v. Contains (settings (k ∷ known)) (record { place = k.setting.place; value = v })) is
        (among_first k.setting (settings known)),
  )
  | inr other ↦ elim (listed_number known pair) [
    | inl found ↦ inl (found.0, among_more k.setting _ (settings known) found.1)
    | inr none ↦ inr (λ cell has. elim (among_cases k.setting _ (settings known) has)
        [ inl first ↦ other (sym (ap (λ (t : Setting). t.value) first)) | inr rest ↦ none cell rest ])
  ]
]

row_number : (row : List Ref) (pair : ℕ) → ((cell : ℕ) × IsSetTo row cell (Number pair)) ⊎ ((cell : ℕ) → IsSetTo row cell (Number pair) → ⊥)
row_number [] pair = inr (λ cell is. is.1 (sym is.0))
row_number (r ∷ row) pair = elim (is_that_number r pair) [
  | inl is ↦ inl (0, (is, λ e. cc))
  | inr other ↦ elim (row_number row pair) [ inl found ↦ inl (suc found.0, found.1) | inr none ↦ inr (nowhere other none) ]
]
  where
    nowhere : r ≢ Number pair → ((cell : ℕ) → IsSetTo row cell (Number pair) → ⊥) → (cell : ℕ) → IsSetTo (r ∷ row) cell (Number pair) → ⊥
    nowhere other none zero is = other is.0
    nowhere other none (suc cell) is = none cell is

known_number : (s : Seen) (pair : ℕ) → ((cell : ℕ) × Knows s cell (Number pair)) ⊎ ((cell : ℕ) → Knows s cell (Number pair) → ⊥)
known_number s pair = by_told s.told
  where
    by_told : (told : Option (List Ref)) → ((cell : ℕ) × IsAmong told s.known cell (Number pair))
        ⊎ ((cell : ℕ) → IsAmong told s.known cell (Number pair) → ⊥)
    by_told None = listed_number s.known pair
    by_told (Some row) = row_number row pair

-- Where a pair is known to be written, but not what a word of it is, some cell below is known to be set to its number.
pub number_below : (P : NamedProgram) (s : Seen) (frame : ℕ) (own : List Own) (looked : List ℕ) (pair place : ℕ)
    → IsOver P s frame own looked → IsCoherent s
    → IsKnownWritten (seen_over s frame own looked) pair → (place ≡ pair) ⊎ (place ≡ suc pair)
    → IsUnknown (seen_over s frame own looked) place
    → (cell : ℕ) × Knows s cell (Number pair)
number_below P s frame own looked pair place over coherent written word unknown = elim (known_number s pair) [
  | inl found ↦ found
  | inr none ↦ absurd (nowhere none word written)
]
  where
    nowhere : ((cell : ℕ) → Knows s cell (Number pair) → ⊥) → (place ≡ pair) ⊎ (place ≡ suc pair)
        → IsKnownWritten (seen_over s frame own looked) pair → ⊥
    nowhere none (inl first) (inl both) = unknown both.0.0 (subst (λ n. Knows (seen_over s frame own looked) n both.0.0) (sym first)
        both.0.1)
    nowhere none (inr second) (inl both) = unknown both.1.0 (subst (λ n. Knows (seen_over s frame own looked) n both.1.0) (sym second)
        both.1.1)
    nowhere none word (inr cell) = elim (knows_from s frame own looked (settings_of P s frame own looked over coherent) cell.0
        (Number pair) cell.1) [
          | inl has ↦ (let (o, among, same) = map_among own_setting (record { place = cell.0; value = Number pair }) own has in
              over.written o among pair place (ap (λ (t : Setting). t.value) same) word unknown none)
          | inr below ↦ none cell.0 below.1
        ]

-- so the pair is one of theirs
pub pair_below : (P : NamedProgram) (s : Seen) (pair cell : ℕ) → IsKnownFit P s → Knows s cell (Number pair) → suc pair < s.words
pair_below P s pair cell fit knows = (fit cell (Number pair) knows).1

-- what was read of a number fits
pub fit_read : (P : NamedProgram) (s z : Seen) (pair : ℕ) (result : _) → IsKnownFit P s → IsCoherent z → suc pair < s.words
    → z.words ≡ s.words → ReadsNumber P pair result s z → IsKnownFit P z
fit_read P s z pair result fit coherent low same reads n q knows = elim (reads.only n q knows) [
  | inl before ↦ (let was = fit n q before in (subst (λ w. n < w) (sym same) was.0, subst (λ w. CanHold P w n q) (sym same) was.1))
  | inr word ↦ elim word [
    | inl first ↦ at pair reads.high first reads.high_known reads.fits.0 (omega arith)
    | inr second ↦ at (suc pair) reads.low second reads.low_known reads.fits.1 low
  ]
]
  where
    at : (place : ℕ) (r : Ref) → n ≡ place → Knows z place r → CanHold P s.words place r → place < s.words → (n < z.words)
        × CanHold P z.words n q
    at place r is known fits below =
        let value : q ≡ r = knows_one z coherent place q r (subst (λ m. Knows z m q) is knows) known in (
          subst (λ w. n < w) (sym same) (subst (λ m. m < s.words) (sym is) below),
          subst (λ w. CanHold P w n q) (sym same) (subst (λ m. CanHold P s.words m q) (sym is)
              (subst (CanHold P s.words place) (sym value) fits)),
        )

-- a pair that was known to be written is so later
written_still : (old new : Seen) (pair : ℕ) → ((p : ℕ) (q : Ref) → Knows old p q → Knows new p q) → IsKnownWritten old pair
    → IsKnownWritten new pair
written_still old new pair keeps (inl both) = inl ((both.0.0, keeps pair both.0.0 both.0.1), (both.1.0, keeps (suc pair) both.1.0 both.1.1))
written_still old new pair keeps (inr cell) = inr (cell.0, keeps cell.0 (Number pair) cell.1)

pub written_read : (old new : Seen) (pair : ℕ) → OnlyReads old new → IsKnownWritten old pair → IsKnownWritten new pair
written_read old new pair reads written = written_still old new pair reads.keeps written

pub number_read : (old new : Seen) (r : Ref) → OnlyReads old new → IsWrittenIfNumber old r → IsWrittenIfNumber new r
number_read old new r reads written = written_later old new r reads.keeps written

-- two words of a pair that were read one after the other
pub pair_read : (P : NamedProgram) (old mid new : Seen) (pair next : ℕ) (high low : Ref) (result : ℤ) → next ≡ suc pair
    → OnlyReads old mid → OnlyReads mid new
    → Knows mid pair high → Knows new next low → CanHold P old.words pair high → CanHold P mid.words next low
    → ((p : ℕ) (r : Ref) → Knows mid p r → Knows old p r ⊎ (p ≡ pair) ⊎ (p ≡ suc pair))
    → ((p : ℕ) (r : Ref) → Knows new p r → Knows mid p r ⊎ (p ≡ pair) ⊎ (p ≡ suc pair))
    → result ≡ number_of high low → ReadsNumber P pair result old new
pair_read P old mid new pair next high low result is_next first second known_high known_low fits_high fits_low only_first only_second
    holds = record {
      high = high;
      low = low;
      high_known = second.keeps pair high known_high;
      low_known = subst (λ p. Knows new p low) is_next known_low;
      fits = (fits_high, subst (λ p. CanHold P old.words p low) is_next (subst (λ n. CanHold P n next low) first.words fits_low));
      holds = holds;
      only = λ p r knows. elim (only_second p r knows) [ inl before ↦ only_first p r before | inr one ↦ inr one ];
    }
