-- What is known and what is to do follow from what was known and from what was asked for.
use Rattle.std.proofs.Common.{ℕ, ◌≡◌, ◌⊎◌, List, [], ◌∷◌, ◌++◌, Some, None, sym, ap, subst, ◌∙◌, inl, inr}
use Rattle.std.specs.Prelude.{Contains}
use Rattle.std.specs.Option.{option_map}
use Rattle.std.proofs.lemmas.List.Elements.{Contains-append_cases}
use Rattle.and_model.specs.Terms.{Substitution}
use Rattle.and_model.specs.declared.reference.Ref.{Ref}
use Rattle.and_model.specs.declared.reference.Ref.TheVariants.{Cell}
use Rattle.and_program.specs.Skeletons.{AllFall}
use Rattle.and_cells.specs.Ranges.{NamedProgram}
use Rattle.and_cells.specs.Seen.{Seen, Knows, IsAmong, OnlyReads, LeadsTo}
use Rattle.and_cells.specs.Meaning.{Words, equations_between}
use Rattle.and_model.specs.Solutions.{Solves}
use Rattle.and_cells.specs.Parts.{parts_of}
use Rattle.and_cells.specs.Known.{HasKnown, SolvesKnown}
use Rattle.and_unify.specs.declared.pairs.Pair.{Pair}
use Rattle.and_unify.specs.Meeting.{AreOfOneShape, MeetFree}
use Rattle.and_unify.specs.Turns
use Rattle.and_unify.specs.Turns.{pairs_of, Steps, sets, one_class, joins}
use Rattle.and_unify.proofs.TurnAgree.{Agree, PairAgrees, agree_back, agree_onward, solves_from_agree}
use Rattle.and_unify.proofs.TurnParts.{parts_agree}
use Rattle.and_unify.proofs.TurnClosed.{Leaves, steps_keep}

-- In words that have what is known, what is assumed of a substitution that solves what was asked for makes it solve what is known and what is to do.
abbrev pub Sound : NamedProgram → Seen → (Asked Todo : Pair → Type 0) → (Assumed : Words → Substitution → Type 0) → Type 0
Sound P s Asked Todo Assumed =
    (w : Words) → HasKnown s w → (t : Substitution) → Assumed w t → ((p : Pair) → Asked p → PairAgrees P w t p)
    → SolvesKnown P w s t × ((p : Pair) → Todo p → PairAgrees P w t p)

-- The pair is one of the arguments of two structures to which the sides of p lead.
pub record IsPartOf (P : NamedProgram) (s : Seen) (words : ℕ) (p q : Pair) : Type 0 where
  pub one : Ref
  pub other : Ref
  pub left_leads : LeadsTo s p.left one
  pub right_leads : LeadsTo s p.right other
  pub shape : AreOfOneShape P words one other
  pub at : Contains (pairs_of (parts_of P one) (parts_of P other)) q

-- What a step adds to its list are pairs of arguments.
pub step_adds : (P : NamedProgram) (p : Pair) (old new : Seen) (links more_links : List (Ref × Ref)) (list longer : List Pair) (bound further : List ℕ)
    → Steps P p old new links more_links list longer bound further → (q : Pair) → Contains longer q → Contains list q ⊎ IsPartOf P new old.words p q
step_adds P p old new links more_links list longer bound further (Turns.alike m e f g) q l = inl (subst (λ xs. Contains xs q) f l)
step_adds P p old new links more_links list longer bound further (sets cell m e f g) q l = inl (subst (λ xs. Contains xs q) f l)
step_adds P p old new links more_links list longer bound further (one_class one other m c e f g) q l = inl (subst (λ xs. Contains xs q) f l)
step_adds P p old new links more_links list longer bound further (joins one other m c f g) q l =
    elim (Contains-append_cases list (pairs_of (parts_of P one) (parts_of P other)) q (subst (λ xs. Contains xs q) f l)) [
      | inl before ↦ inl before
      | inr at ↦ inr (record {
        one = one;
        other = other;
        left_leads = m.lead.left_leads;
        right_leads = m.lead.right_leads;
        shape = m.shape;
        at = at;
      })
    ]

-- Pairs of arguments of a pair that agrees agree.
part_agrees : (P : NamedProgram) (s : Seen) (words : ℕ) (p q : Pair) (w : Words) (t : Substitution) → AllFall 0 P.skeleton.nodes → HasKnown s w
    → SolvesKnown P w s t
    → IsPartOf P s words p q → PairAgrees P w t p → PairAgrees P w t q
part_agrees P s words p q w t fall has solves part a =
    let ends : Agree P w t part.one part.other = agree_onward P w t s p.left p.right part.one part.other has solves part.left_leads part.right_leads a in
    parts_agree P w t part.one part.other part.shape.name part.shape.count fall part.shape.left_is part.shape.right_is ends q part.at

-- A step keeps what is sound, where what is known after it is solved.
pub sound_steps : (P : NamedProgram) (p : Pair) (old new : Seen) (links more_links : List (Ref × Ref)) (list longer : List Pair) (bound further : List ℕ)
    (Asked Todo Later : Pair → Type 0)
    (Assumed Further : Words → Substitution → Type 0) → AllFall 0 P.skeleton.nodes → Leaves p list longer Todo Later
    → Steps P p old new links more_links list longer bound further
    → ((w : Words) (t : Substitution) → Further w t → Assumed w t)
    → ((w : Words) (t : Substitution) → HasKnown new w → Further w t → SolvesKnown P w old t → PairAgrees P w t p → SolvesKnown P w new t)
    → Sound P old Asked Todo Assumed → Sound P new Asked Later Further
sound_steps P p old new links more_links list longer bound further Asked Todo Later Assumed Further fall leaves steps assumes solved sound w
    has t assumed asked =
    let keep = steps_keep P p old new links more_links list longer bound further steps in
    let (before, todos) = sound w (λ place r k. has place r (keep.knows place r k)) t (assumes w t assumed) asked in
    let own : PairAgrees P w t p = todos p leaves.was in
    let now : SolvesKnown P w new t = solved w t has assumed before own in (
      now,
      λ q l. elim (leaves.comes q l) [
        | inl was ↦ todos q was
        | inr at ↦ elim (step_adds P p old new links more_links list longer bound further steps q at) [
          | inl listed ↦ todos q (leaves.list_was q listed)
          | inr part ↦ part_agrees P new old.words p q w t fall has now part own
        ]
      ],
    )

-- Looks keep what is sound, where what is known after them is solved.
pub sound_reads : (P : NamedProgram) (old new : Seen) (Asked Todo : Pair → Type 0) (Assumed Further : Words → Substitution → Type 0) → OnlyReads old new
    → ((w : Words) (t : Substitution) → Further w t → Assumed w t)
    → ((w : Words) (t : Substitution) → HasKnown new w → Further w t → SolvesKnown P w old t → SolvesKnown P w new t)
    → Sound P old Asked Todo Assumed → Sound P new Asked Todo Further
sound_reads P old new Asked Todo Assumed Further reads assumes solved sound w has t assumed asked =
    let (before, todos) = sound w (λ place r k. has place r (reads.keeps place r k)) t (assumes w t assumed) asked in
    (solved w t has assumed before, todos)

-- Of a row that is told, looks learn nothing.
pub reads_back : (old new : Seen) (row : List Ref) (place : ℕ) (r : Ref) → OnlyReads old new → old.told ≡ Some row → Knows new place r → Knows old place r
reads_back old new row place r reads told knows =
    let now : new.told ≡ Some row = reads.told ∙ told in
    let as_row : IsAmong (Some row) new.known place r = subst (λ o. IsAmong o new.known place r) now knows in
    subst (λ o. IsAmong o old.known place r) (sym told) as_row

-- What becomes known of a row that is told is what was set.
pub step_learns : (P : NamedProgram) (p : Pair) (old new : Seen) (links more_links : List (Ref × Ref)) (list longer : List Pair) (bound further : List ℕ)
    (row : List Ref) → old.told ≡ Some row
    → Steps P p old new links more_links list longer bound further → (place : ℕ) (r : Ref) → Knows new place r
    → Knows old place r ⊎ ((m : MeetFree P p.left p.right place old new) × (m.to ≡ r) × (further ≡ bound ++ place ∷ []))
step_learns P p old new links more_links list longer bound further row told (Turns.alike m e f g) place r k =
    inl (reads_back old new row place r m.lead.reads told k)
step_learns P p old new links more_links list longer bound further row told (sets cell m e f g) place r k = elim ((m.sets.adds place r).0 k) [
  | inl before ↦ inl (reads_back old m.before row place r m.lead.reads told before)
  | inr is ↦ inr (subst (λ n. (m : MeetFree P p.left p.right n old new) × (m.to ≡ r) × (further ≡ bound ++ n ∷ [])) (sym is.0) (m, sym is.1, g))
]
step_learns P p old new links more_links list longer bound further row told (one_class one other m c e f g) place r k =
    inl (reads_back old new row place r m.lead.reads told k)
step_learns P p old new links more_links list longer bound further row told (joins one other m c f g) place r k =
    inl (reads_back old new row place r m.lead.reads told k)

-- What is set agrees with its cell, where the sides agree.
pub set_agrees : (P : NamedProgram) (l r : Ref) (cell : ℕ) (old new : Seen) (m : MeetFree P l r cell old new) (w : Words) (t : Substitution)
    → HasKnown m.before w → SolvesKnown P w m.before t
    → Agree P w t l r → Agree P w t (Cell cell) m.to
set_agrees P l r cell old new m w t has solves a =
    let ends : Agree P w t m.one m.other = agree_onward P w t m.before l r m.one m.other has solves m.lead.left_leads m.lead.right_leads a in
    elim m.ends [
      | inl e ↦ subst (λ x. Agree P w t x m.to) e.0 (subst (Agree P w t m.one) e.1 ends)
      | inr e ↦ let back : Agree P w t m.other m.one =
          agree_back P w t m.one m.other ends in subst (λ x. Agree P w t x m.to) e.0 (subst (Agree P w t m.other) e.1 back)
    ]

-- So what is known of a row that is told stays solved.
pub told_solved : (P : NamedProgram) (p : Pair) (old new : Seen) (links more_links : List (Ref × Ref)) (list longer : List Pair) (bound further : List ℕ)
    (row : List Ref) → old.told ≡ Some row
    → Steps P p old new links more_links list longer bound further → (w : Words) (t : Substitution) → HasKnown new w → SolvesKnown P w old t
    → PairAgrees P w t p → SolvesKnown P w new t
told_solved P p old new links more_links list longer bound further row told steps w t has solves own place r knows whole =
    elim (step_learns P p old new links more_links list longer bound further row told steps place r knows) [
      | inl before ↦ solves place r before whole
      | inr (m, is, on) ↦
          let has_before : HasKnown m.before w = λ q x k. has q x ((m.sets.adds q x).1 (inl k)) in
          let solves_before : SolvesKnown P w m.before t = λ q x k h. solves q x (reads_back old m.before row q x m.lead.reads told k) h in
          subst (λ x. Solves t (equations_between P w (Cell place) x)) is
          (solves_from_agree P w t (Cell place) m.to (set_agrees P p.left p.right place old new m w t has_before solves_before own))
    ]

-- A row that is told stays told, and one that is not stays so.
pub steps_told : (P : NamedProgram) (p : Pair) (old new : Seen) (links more_links : List (Ref × Ref)) (list longer : List Pair) (bound further : List ℕ)
    (row : List Ref) → old.told ≡ Some row
    → Steps P p old new links more_links list longer bound further → (changed : List Ref) × (new.told ≡ Some changed)
steps_told P p old new links more_links list longer bound further row told (Turns.alike m e f g) = (row, m.lead.reads.told ∙ told)
steps_told P p old new links more_links list longer bound further row told (sets cell m e f g) =
    (_, m.sets.told ∙ ap (option_map _) (m.lead.reads.told ∙ told))
steps_told P p old new links more_links list longer bound further row told (one_class one other m c e f g) = (row, m.lead.reads.told ∙ told)
steps_told P p old new links more_links list longer bound further row told (joins one other m c f g) = (row, m.lead.reads.told ∙ told)

-- the second half
pub steps_untold : (P : NamedProgram) (p : Pair) (old new : Seen) (links more_links : List (Ref × Ref)) (list longer : List Pair) (bound further : List ℕ)
    → old.told ≡ None
    → Steps P p old new links more_links list longer bound further → new.told ≡ None
steps_untold P p old new links more_links list longer bound further told (Turns.alike m e f g) = m.lead.reads.told ∙ told
steps_untold P p old new links more_links list longer bound further told (sets cell m e f g) = m.sets.told ∙ ap (option_map _) (m.lead.reads.told ∙ told)
steps_untold P p old new links more_links list longer bound further told (one_class one other m c e f g) = m.lead.reads.told ∙ told
steps_untold P p old new links more_links list longer bound further told (joins one other m c f g) = m.lead.reads.told ∙ told
