-- What becomes of a row in which a call and a head were met part by part.
use Rattle.std.proofs.Common.{ℕ, ◌≡◌, ◌⊎◌, List, [], ◌∷◌, length, refl, sym, ap, subst, ◌∙◌, inl, inr, arith}
use Rattle.std.specs.Prelude.{All, Contains}
use Rattle.std.proofs.lemmas.Bool.{cases_eq}
use Rattle.std.proofs.lemmas.List.Elements.{All-contains}
use Rattle.and_model.specs.declared.reference.Ref.{Ref}
use Rattle.and_model.specs.declared.reference.Ref.TheVariants.{Free}
use Rattle.and_program.specs.Skeletons.{AllFall}
use Rattle.and_cells.specs.Ranges.{NamedProgram}
use Rattle.and_cells.specs.Rows.{plain, IsSound, OnlySet, taken_back}
use Rattle.and_cells.specs.Seen.{word_at, IsSetTo}
use Rattle.and_cells.specs.Meaning.{IsSettled}
use Rattle.and_cells.proofs.TakingBack.{took_back}
use Rattle.and_laws.proofs.Ordered.{contains_first, contains_more, contains_cases, contains_none}
use Rattle.and_unify.specs.declared.pairs.Pair.{Pair}
use Rattle.and_unify.specs.declared.settling.Settled.TheVariants.{Solved, NoSolution}
use Rattle.and_unify.specs.declared.unifying.Unified.TheVariants as unified
use Rattle.and_unify.specs.Pairs.{AreInRange, AreWritten, NameNoHalf}
use Rattle.and_unify.specs.Places.{sides, IsPlace}
use Rattle.and_unify.specs.Setting.{HaveBeenSet}
use Rattle.and_unify.specs.Settling.{AreNewFrom, EndsFrom, Settles, SetsPlaces}
use Rattle.and_unify.specs.Running.{Runs, BreaksOff}
use Rattle.and_unify.specs.Unifying.{Unifies}
use Rattle.and_unify.proofs.TurnAnswers.{sets_end}
use Rattle.and_unify.proofs.DescentKept.{Held, IsOutOr, same_end, apart_met}
use Rattle.and_unify.proofs.DescentEnds.{left_held, broken_held, broken_now}
use Rattle.and_unify.proofs.SettlingTerms.{Binds, binds}
use Rattle.and_unify.proofs.SettlingSeen.{ends_above}
use Rattle.and_unify.proofs.SettlingDone.{have_been_set, sets_places, judged, settled_apart}

-- A list has a number or not.
among_or_not : (cells : List ℕ) (place : ℕ) → Contains cells place ⊎ (Contains cells place → ⊥)
among_or_not [] place = inr (λ at. contains_none place at)
among_or_not (cell ∷ cells) place = elim (cases_eq place cell) [
  | inl same ↦ inl (subst (Contains (cell ∷ cells)) (sym same) (contains_first cell cells))
  | inr other ↦ elim (among_or_not cells place) [
    | inl among ↦ inl (contains_more cell place cells among)
    | inr none ↦ inr (λ at. elim (contains_cases cell place cells at) [ inl is ↦ other is | inr among ↦ none among ])
  ]
]

-- What was set is taken back.
pub set_back : (old new : List Ref) (cells listed : List ℕ) (words : ℕ) → words ≡ length old → listed ≡ cells → HaveBeenSet old new cells
    → taken_back new listed words ≡ old
set_back old new cells listed words is all set =
    let only : OnlySet cells old new = record {
      longer = let same = set.words in omega arith;
      free = λ cell at low. All-contains (λ (x : ℕ). word_at old x ≡ Free) cells cell set.were_free at;
      others = λ place low. elim (among_or_not cells place) [ inl at ↦ inr at | inr none ↦ inl (set.others place none) ];
    } in
    ap (λ (xs : List ℕ). taken_back new xs words) all ∙ ap (λ (n : ℕ). taken_back new cells n) is ∙ took_back old new cells only

-- So the row is as it was.
pub back : (old new now : List Ref) (cells listed : List ℕ) (words : ℕ) → words ≡ length old → listed ≡ cells → HaveBeenSet old new cells
    → now ≡ taken_back new listed words → now ≡ old
back old new now cells listed words is all set taken = taken ∙ set_back old new cells listed words is all set

module _ (P : NamedProgram) (old new : List Ref) (asked : List Pair) (floor : ℕ) (began items : List ℕ) (none : began ≡ []) (fall : AllFall 0 P.skeleton.nodes)
    (sound : IsSound P old) (range : AreInRange P (length old) asked) (written : AreWritten (plain old) asked) where
  module _ (Todo : Pair → Type 0) (h : Held P (plain old) asked began (plain new) Todo items) where
    made : (place : ℕ) (r : Ref) → IsSetTo new place r → IsSetTo old place r ⊎ (Contains items place × IsPlace P (plain old) (sides asked) r)
    made = sets_end P (plain old) asked began (plain new) h.links Todo items h.kept

    been_set : HaveBeenSet old new items
    been_set = have_been_set P old new asked began items none h.kept.keeps made h.kept.lists

    made_places : SetsPlaces P old new asked
    made_places = sets_places P old new asked items made

    bound_so : IsSettled P old → NameNoHalf P (word_at old) asked → AreNewFrom P old asked floor → Binds P old new asked floor items
    bound_so settled no_half is_new = binds P old new asked floor items fall sound range settled no_half is_new h.kept.keeps made

  -- Whatever is left, the list has what was set.
  pub left_set : (left : List Pair) → Runs P (plain old) asked began (plain new) left items → HaveBeenSet old new items
  left_set left runs = been_set (Contains left) (left_held P (plain old) (plain new) asked began items fall range written left runs)

  -- Where two are apart too.
  pub broken_set : (one other : Ref) → BreaksOff P (plain old) (plain new) asked began items one other → HaveBeenSet old new items
  broken_set one other b = been_set (IsOutOr b.p b.rest) (broken_now P (plain old) (plain new) asked began items fall range written one other b)

  -- What was set is something to which the row and the sides led, whatever is left,
  pub left_places : (left : List Pair) → Runs P (plain old) asked began (plain new) left items → SetsPlaces P old new asked
  left_places left runs = made_places (Contains left) (left_held P (plain old) (plain new) asked began items fall range written left runs)

  -- and where two are apart too.
  pub broken_places : (one other : Ref) → BreaksOff P (plain old) (plain new) asked began items one other → SetsPlaces P old new asked
  broken_places one other b =
      made_places (IsOutOr b.p b.rest) (broken_now P (plain old) (plain new) asked began items fall range written one other b)

  module _ (settled : IsSettled P old) (no_half : NameNoHalf P (word_at old) asked) (is_new : AreNewFrom P old asked floor) where
    pub broken_apart : (one other : Ref) → BreaksOff P (plain old) (plain new) asked began items one other → Settles P old new asked NoSolution
    broken_apart one other b =
        let h = broken_now P (plain old) (plain new) asked began items fall range written one other b in
        let u : Unifies P (plain old) (plain new) asked [] (unified.Apart one other) =
        apart_met P (plain old) b.mid (plain new) asked began items b.rest [] b.p one other b.meets
        (broken_held P (plain old) (plain new) asked began items fall range written one other b) in
        settled_apart P old new asked floor items (bound_so (IsOutOr b.p b.rest) h settled no_half is_new) h.kept.keeps written u.follows
        (u.apart one other refl).1

    -- Where nothing is left, and all paths from what was set end, the row is settled with the pairs.
    pub all_solved : Runs P (plain old) asked began (plain new) [] items → IsSound P new → All (EndsFrom P new floor) items → Settles P old new asked Solved
    all_solved runs sound_now ends =
        let h = left_held P (plain old) (plain new) asked began items fall range written [] runs in
        let u : Unifies P (plain old) (plain new) asked [] unified.Same =
        same_end P (plain old) (plain new) asked began items [] [] fall range (refl, refl) h in
        judged P old new asked floor items (bound_so (Contains []) h settled no_half is_new) h.kept.keeps written u.follows Solved
        (λ w has whole t known. u.equal (inl refl) w has whole t known tt)
        (λ is. record {
          sound = sound_now;
          below = λ cell at low whole. (All-contains (EndsFrom P new floor) items cell ends at).0 low;
          above = λ cell at whole. ends_above P new floor cell (All-contains (EndsFrom P new floor) items cell ends at);
        })
        (λ is. absurd (cc))
