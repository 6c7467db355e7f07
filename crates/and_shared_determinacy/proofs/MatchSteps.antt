-- What becomes of a pair whose sides are to be made one.
use Rattle.std.proofs.Common.{ℕ, ◌≡◌, ◌≢◌, ◌<◌, ◌⊎◌, true, false, true≢false, List, [], ◌∷◌, ◌++◌, Some, sym, subst, ◌∙◌, inl, inr}
use Rattle.std.specs.Prelude.{Contains, slice_get}
use Rattle.std.proofs.lemmas.List.Elements.{Contains-append_cases}
use Rattle.and_model.specs.Terms.{Substitution}
use Rattle.and_model.specs.Store.{is_half}
use Rattle.and_model.specs.declared.reference.Ref.{Ref}
use Rattle.and_model.specs.declared.reference.Ref.TheVariants.{Free, Cell, Node, Number, Half}
use Rattle.and_laws.proofs.Ordered.{contains_cases, contains_none}
use Rattle.and_cells.specs.Ranges.{NamedProgram, IsInRange, IsInRangeOrHalf}
use Rattle.and_cells.specs.Seen.{Seen, Sets, OnlyReads, Keeps, LeadsTo, IsWrittenIfNumber}
use Rattle.and_cells.specs.Meaning.{Words}
use Rattle.and_cells.proofs.Chains.{reads_more, leads_later, written_later}
use Rattle.and_unify.specs.Heads.{IsEnd}
use Rattle.and_unify.specs.Meeting.{IsToBeSet}
use Rattle.and_unify.specs.declared.pairs.Pair.{Pair}
use Rattle.and_unify.proofs.SettlingPairs.{contains_place}
use Rattle.and_shared_determinacy.specs.Truths.{AreOne, AreTrue, LearntAreTrue, ArePairsTrue, CanFollow, LeadsOn, AreNeverOne}
use Rattle.and_shared_determinacy.specs.Matches.{IsChainEnd}
use Rattle.and_shared_determinacy.proofs.Truths.{reads_true, sets_true, setting_true, named_in_range, learnt_before, ends_one, one_back, denotes_no_half}

-- ---- A cell is set

pub won_on : (P : NamedProgram) (cell : ℕ) (to : Ref) (old new : Seen) (pairs : List Pair) → IsInRange P old.words to → Sets cell to old new
    → LeadsOn P (Cell cell) to old new pairs pairs
won_on P cell to old new pairs fits sets w t are learnt alike before =
    (sets_true P w t old new cell to sets are (setting_true P w t cell to (named_in_range P old.words to fits) alike), before)

-- or the two go on the list, after some looks.
pub later_on : (P : NamedProgram) (l r : Ref) (old new : Seen) (before after : List Pair) → OnlyReads old new
    → after ≡ before ++ record { left = l; right = r } ∷ []
    → LeadsOn P l r old new before after
later_on P l r old new before after reads is w t are learnt alike true_before =
    let last : Pair = record { left = l; right = r } in (
      reads_true P w t old new reads are learnt,
      λ p among. elim (Contains-append_cases before (last ∷ []) p (subst (λ (ps : List Pair). Contains ps p) is among)) [
        | inl early ↦ true_before p early
        | inr late ↦ elim (contains_cases last p [] late) [
          | inl e ↦ subst (λ (x : Pair). AreOne P w t x.left x.right) (sym e) alike
          | inr none_is ↦ absurd (contains_none p none_is)
        ]
      ],
    )

-- a cell in range can be followed
pub cell_follows : (P : NamedProgram) (old new : Seen) (cell : ℕ) → cell < old.words → new.words ≡ old.words → CanFollow P new (Cell cell)
cell_follows P old new cell below words = (subst (λ (n : ℕ). cell < n) (sym words) below, λ pair e. absurd (cc))

-- ---- Ends of chains

-- nothing is left to do for one reference twice
pub same_on : (P : NamedProgram) (one other : Ref) (s : Seen) (pairs : List Pair) → LeadsOn P one other s s pairs pairs
same_on P one other s pairs w t are learnt alike before = (are, before)

pub half_never : (P : NamedProgram) (one other : Ref) (s : Seen) → (is_half one ≡ true) ⊎ (is_half other ≡ true) → AreNeverOne P one other s s
half_never P one other s (inl half) w t are learnt (u, a, b) = true≢false (sym half ∙ denotes_no_half P w t one u a)
half_never P one other s (inr half) w t are learnt (u, a, b) = true≢false (sym half ∙ denotes_no_half P w t other u b)

pub leads_back : (P : NamedProgram) (one other : Ref) (old new : Seen) (before after : List Pair) → LeadsOn P one other old new before after
    → LeadsOn P other one old new before after
leads_back P one other old new before after leads w t are learnt alike true_before =
    leads w t are learnt (one_back P w t other one alike) true_before

pub leads_as : (P : NamedProgram) (cell : ℕ) (from to : Ref) (old new : Seen) (before after : List Pair) → IsToBeSet cell from to
    → LeadsOn P (Cell cell) to old new before after
    → LeadsOn P from to old new before after
leads_as P cell from to old new before after set leads = subst (λ (r : Ref). LeadsOn P r to old new before after) (sym set.is) leads

-- a reference that is no half can be followed
pub end_can : (P : NamedProgram) (s : Seen) (r : Ref) → is_half r ≡ false → IsChainEnd P s r → CanFollow P s r
end_can P s Free whole can = absurd can.0
end_can P s (Cell cell) whole can = can
end_can P s (Node node base) whole can = can
end_can P s (Number pair) whole can = can
end_can P s (Half bits) whole can = absurd (true≢false whole)

-- nor is a number or a structure one
pub ended_can : (P : NamedProgram) (s : Seen) (r : Ref) → IsEnd r → IsChainEnd P s r → CanFollow P s r
ended_can P s Free end can = absurd end
ended_can P s (Cell cell) end can = absurd end
ended_can P s (Node node base) end can = can
ended_can P s (Number pair) end can = can
ended_can P s (Half bits) end can = absurd end

pub some_end : (P : NamedProgram) (words : ℕ) (r : Ref) → IsInRangeOrHalf P words r → r ≢ Free
some_end P words r fits e = subst (IsInRangeOrHalf P words) e fits

pub set_can : (P : NamedProgram) (s : Seen) (cell : ℕ) (from to : Ref) → IsToBeSet cell from to → IsChainEnd P s to → CanFollow P s to
set_can P s cell from to set can = end_can P s to set.no_half can

pub set_below : (P : NamedProgram) (s : Seen) (cell : ℕ) (from to : Ref) → IsToBeSet cell from to → IsChainEnd P s from → cell < s.words
set_below P s cell from to set can = subst (IsInRangeOrHalf P s.words) set.is can.0

-- ---- Two chains are followed

-- Looks along one chain led to its end.
pub record Followed (P : NamedProgram) (from to : Ref) (old new : Seen) : Type 0 where
  pub reads : OnlyReads old new
  pub leads : LeadsTo new from to
  pub in_range : IsInRangeOrHalf P old.words to
  pub written : IsWrittenIfNumber new to

module _ (P : NamedProgram) (left right one other : Ref) (old mid last : Seen) (a : Followed P left one old mid) (b : Followed P right other mid last) where
  pub both_followed : OnlyReads old last
  both_followed = reads_more old mid last a.reads b.reads

  pub left_end : IsChainEnd P last one
  left_end = (subst (λ (n : ℕ). IsInRangeOrHalf P n one) (sym both_followed.words) a.in_range, written_later mid last one b.reads.keeps a.written)

  pub right_end : IsChainEnd P last other
  right_end = (subst (λ (n : ℕ). IsInRangeOrHalf P n other) (sym b.reads.words) b.in_range, b.written)

  ends_are_one : (w : Words) (t : Substitution) → AreTrue P w t last → AreOne P w t left right → AreOne P w t one other
  ends_are_one w t are alike =
      ends_one P w t last left right one other are (leads_later mid last left one b.reads.keeps a.leads) b.leads alike

  module _ (new : Seen) (keeps : Keeps last new) where
    pub leads_from : (before after : List Pair) → LeadsOn P one other last new before after → LeadsOn P left right old new before after
    leads_from before after leads w t are learnt alike true_before =
        let here : AreTrue P w t last = reads_true P w t old last both_followed are (learnt_before P w t last new keeps.known learnt) in
        leads w t here learnt (ends_are_one w t here alike) true_before

    pub never_from : AreNeverOne P one other last new → AreNeverOne P left right old new
    never_from never w t are learnt alike =
        let here : AreTrue P w t last = reads_true P w t old last both_followed are (learnt_before P w t last new keeps.known learnt) in
        never w t here learnt (ends_are_one w t here alike)

-- ---- All pairs, one after another

-- Where the pairs that were asked for are true, so are all on the list, and what is known.
abbrev pub HasMatched : NamedProgram → List Pair → (old now : Seen) → List Pair → Type 0
HasMatched P asked old now pairs =
    (w : Words) (t : Substitution) → AreTrue P w t old → LearntAreTrue P w t now → ArePairsTrue P w t asked → AreTrue P w t now × ArePairsTrue P w t pairs

pub matched_nothing : (P : NamedProgram) (pairs : List Pair) (s : Seen) → HasMatched P pairs s s pairs
matched_nothing P pairs s w t are learnt asked = (are, asked)

-- the pair at a place is on the list
pub pair_there : (pairs : List Pair) (k : ℕ) (p : Pair) → slice_get pairs k ≡ Some p → Contains pairs p
pair_there pairs k p is = contains_place pairs k p is

module _ (P : NamedProgram) (asked : List Pair) (old now new : Seen) (keeps : Keeps now new) (pairs after : List Pair) (p : Pair) (there : Contains pairs p)
    (has : HasMatched P asked old now pairs) where
  pub matched_on : LeadsOn P p.left p.right now new pairs after → HasMatched P asked old new after
  matched_on leads w t are learnt true_asked =
      let (here, all) = has w t are (learnt_before P w t now new keeps.known learnt) true_asked in
      leads w t here learnt (all p there) all

  pub matched_never : AreNeverOne P p.left p.right now new → (w : Words) (t : Substitution) → AreTrue P w t old → LearntAreTrue P w t new
      → ArePairsTrue P w t asked → ⊥
  matched_never never w t are learnt true_asked =
      let (here, all) = has w t are (learnt_before P w t now new keeps.known learnt) true_asked in
      never w t here learnt (all p there)
