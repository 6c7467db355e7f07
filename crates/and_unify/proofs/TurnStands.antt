-- Where unification stands, with the places that were paid for.
use Rattle.std.proofs.Common.{ℕ, suc, ◌+◌, ◌≡◌, ◌≢◌, ◌⊎◌, List, [], ◌∷◌, ◌++◌, length, map, refl, sym, ap, subst, ◌∙◌, inl, inr, arith}
use Rattle.std.specs.Prelude.{Contains, All, AllPairs}
use Rattle.std.proofs.lemmas.List.{length_push}
use Rattle.std.proofs.lemmas.List.Elements.{All-contains, All-nil, All-push, All-weaker, Contains-append_left, Contains-append_right, Contains-push}
use Rattle.std.proofs.lemmas.List.Elements.{Contains-push_cases}
use Rattle.and_model.specs.declared.reference.Ref.{Ref}
use Rattle.and_program.specs.Skeletons.{AllFall}
use Rattle.and_cells.specs.Ranges.{NamedProgram, IsInRange}
use Rattle.and_cells.specs.Seen.{Seen, Knows, OnlyReads, LeadsTo, IsWrittenIfNumber}
use Rattle.and_cells.proofs.Chains.{reads_nothing, reads_keeps}
use Rattle.and_laws.proofs.Ordered.{contains_none}
use Rattle.and_laws.proofs.Pairwise.{all_pairs_none}
use Rattle.and_cell_laws.proofs.Images.{contains_image}
use Rattle.and_unify.specs.declared.pairs.Pair.{Pair}
use Rattle.and_unify.specs.Pairs.{AreInRange, AreWritten}
use Rattle.and_unify.specs.Places.{left_sides, sides, IsPlace, root}
use Rattle.and_unify.specs.Turns
use Rattle.and_unify.specs.Turns.{Steps, sets, one_class, joins, Stand, PicksOld, PicksNew, Turns, on_old, on_new}
use Rattle.and_unify.proofs.TurnClosed.{Leaves, steps_keep, closed_first}
use Rattle.and_unify.proofs.TurnFollow.{follow_nothing}
use Rattle.and_unify.proofs.TurnPlaces.{IsFit, place_later, place_leads, place_set, lefts_steps, distinct_push}
use Rattle.and_unify.proofs.SettingLists.{lists_begun}
use Rattle.and_unify.proofs.TurnKept.{Kept, kept_reads, kept_same, kept_steps}

-- what is to do
abbrev pub IsTodo : Stand → Pair → Type 0
IsTodo s p = Contains s.pairs p ⊎ Contains s.rights p

-- what is to do, with one pair that was taken out
abbrev pub IsTodoWith : Pair → Stand → Pair → Type 0
IsTodoWith p s q = (q ≡ p) ⊎ IsTodo s q

-- The left sides of the pairs that cost are places of the left sides that were asked for, and each place that was taken is such a place and cost 1.
pub record Paid (P : NamedProgram) (asked : List Pair) (fuel : ℕ) (s : Stand) : Type 0 where
  pub lefts : (p : Pair) → Contains s.pairs p → IsPlace P s.seen (left_sides asked) p.left
  pub taken : All (IsPlace P s.seen (left_sides asked)) s.taken
  pub distinct : AllPairs (λ (r q : Ref). r ≢ q) s.taken
  pub spent : fuel ≡ s.fuel + length s.taken

-- Where unification stands between two turns.
pub record Stands (P : NamedProgram) (first : Seen) (asked : List Pair) (fuel : ℕ) (began : List ℕ) (s : Stand) (bound : List ℕ) : Type 0 where
  pub kept : Kept P first asked began s.seen s.links (IsTodo s) bound
  pub paid : Paid P asked fuel s

-- Where it stands with one pair that was taken out.
pub record Holds (P : NamedProgram) (first : Seen) (asked : List Pair) (fuel : ℕ) (began : List ℕ) (p : Pair) (s : Stand) (bound : List ℕ) : Type 0 where
  pub kept : Kept P first asked began s.seen s.links (IsTodoWith p s) bound
  pub paid : Paid P asked fuel s

-- More that is known leaves places paid for.
paid_later : (P : NamedProgram) (asked : List Pair) (fuel : ℕ) (old new : Stand) → ((place : ℕ) (r : Ref) → Knows old.seen place r → Knows new.seen place r)
    → ((p : Pair) → Contains new.pairs p → Contains old.pairs p ⊎ IsPlace P new.seen (left_sides asked) p.left) → new.taken ≡ old.taken → new.fuel ≡ old.fuel
    → Paid P asked fuel old → Paid P asked fuel new
paid_later P asked fuel old new knows pairs taken left k =
    let roots = left_sides asked in
    let later : (r : Ref) → IsPlace P old.seen roots r → IsPlace P new.seen roots r = λ r at. place_later P old.seen new.seen roots r knows at in record {
      lefts = λ p at. elim (pairs p at) [ inl before ↦ later p.left (k.lefts p before) | inr is ↦ is ];
      taken = subst (All (IsPlace P new.seen roots)) (sym taken) (All-weaker (IsPlace P old.seen roots) (IsPlace P new.seen roots) later old.taken k.taken);
      distinct = subst (AllPairs (λ (r q : Ref). r ≢ q)) (sym taken) k.distinct;
      spent = k.spent ∙ ap (λ n. n + length old.taken) (sym left) ∙ ap (λ xs. new.fuel + length xs) (sym taken);
    }

-- An element of a list is the last, or one of the others,
pub last_cases : (xs rest : List Pair) (p q : Pair) → xs ≡ rest ++ p ∷ [] → Contains xs q → (q ≡ p) ⊎ Contains rest q
last_cases xs rest p q e at = elim (Contains-push_cases rest p q (subst (λ l. Contains l q) e at)) [ inl i ↦ inr i | inr is ↦ inl (sym is) ]

-- the last was in it,
pub last_was : (xs rest : List Pair) (p : Pair) → xs ≡ rest ++ p ∷ [] → Contains xs p
last_was xs rest p e = subst (λ l. Contains l p) (sym e) (Contains-push rest p)

-- and so were the others,
pub rest_was : (xs rest : List Pair) (p q : Pair) → xs ≡ rest ++ p ∷ [] → Contains rest q → Contains xs q
rest_was xs rest p q e at = subst (λ l. Contains l q) (sym e) (Contains-append_left rest (p ∷ []) q at)

-- so that what is to do stays, with the pair that was taken out.
old_todo : (p : Pair) (old new : Stand) → PicksOld p old new → (q : Pair) → IsTodo old q → IsTodoWith p new q
old_todo p old new picks q todo = elim picks.out [
  | inl right ↦ elim todo [
    | inl pair ↦ inr (inl (subst (λ l. Contains l q) (sym right.1) pair))
    | inr at ↦ elim (last_cases old.rights new.rights p q right.0 at) [ inl is ↦ inl is | inr i ↦ inr (inr i) ]
  ]
  | inr pair ↦ elim todo [
    | inl at ↦ elim (last_cases old.pairs new.pairs p q pair.0 at) [ inl is ↦ inl is | inr i ↦ inr (inl i) ]
    | inr right ↦ inr (inr (subst (λ l. Contains l q) (sym pair.1) right))
  ]
]

-- nothing else is to do after taking a pair out that costs nothing
old_was : (p : Pair) (old new : Stand) → PicksOld p old new → (q : Pair) → IsTodoWith p new q → IsTodo old q
old_was p old new picks q todo = elim picks.out [
  | inl right ↦ elim todo [
    | inl is ↦ inr (subst (Contains old.rights) (sym is) (last_was old.rights new.rights p right.0))
    | inr in_lists ↦ elim in_lists [ inl pair ↦ inl (subst (λ l. Contains l q) right.1 pair) | inr at ↦ inr (rest_was old.rights new.rights p q right.0 at) ]
  ]
  | inr pair ↦ elim todo [
    | inl is ↦ inl (subst (Contains old.pairs) (sym is) (last_was old.pairs new.pairs p pair.0))
    | inr in_lists ↦ elim in_lists [ inl at ↦ inl (rest_was old.pairs new.pairs p q pair.0 at) | inr right ↦ inr (subst (λ l. Contains l q) pair.1 right) ]
  ]
]

-- the same for a pair whose place is new
new_todo : (p : Pair) (old new : Stand) → PicksNew p old new → (q : Pair) → IsTodo old q → IsTodoWith p new q
new_todo p old new picks q (inl at) = elim (last_cases old.pairs new.pairs p q picks.out at) [ inl is ↦ inl is | inr i ↦ inr (inl i) ]
new_todo p old new picks q (inr right) = inr (inr (subst (λ l. Contains l q) (sym picks.rights) right))

-- where nothing else comes to do either
new_was : (p : Pair) (old new : Stand) → PicksNew p old new → (q : Pair) → IsTodoWith p new q → IsTodo old q
new_was p old new picks q (inl is) = inl (subst (Contains old.pairs) (sym is) (last_was old.pairs new.pairs p picks.out))
new_was p old new picks q (inr (inl at)) = inl (rest_was old.pairs new.pairs p q picks.out at)
new_was p old new picks q (inr (inr right)) = inr (subst (λ l. Contains l q) picks.rights right)

-- Taking a pair out that costs nothing keeps all,
pub holds_old : (P : NamedProgram) (first : Seen) (asked : List Pair) (fuel : ℕ) (began : List ℕ) (p : Pair) (old new : Stand) (bound : List ℕ)
    → PicksOld p old new
    → Stands P first asked fuel began old bound → Holds P first asked fuel began p new bound
holds_old P first asked fuel began p old new bound picks k =
    let kept = kept_same P first asked began new.seen old.links (IsTodo old) (IsTodoWith p new) bound (old_todo p old new picks) (old_was p old new picks)
    (kept_reads P first asked began old.seen new.seen old.links (IsTodo old) bound picks.reads k.kept) in
    let pairs : (q : Pair) → Contains new.pairs q → Contains old.pairs q ⊎ IsPlace P new.seen (left_sides asked) q.left =
    λ q at. elim picks.out [ inl right ↦ inl (subst (λ l. Contains l q) right.1 at) | inr pair ↦ inl (rest_was old.pairs new.pairs p q pair.0 at) ] in record {
      kept = subst (λ ls. Kept P first asked began new.seen ls (IsTodoWith p new) bound) (sym picks.links) kept;
      paid = paid_later P asked fuel old new picks.reads.keeps pairs picks.taken picks.fuel k.paid;
    }

-- the place of a pair that costs is a place of the left sides
pub place_of_last : (P : NamedProgram) (asked : List Pair) (fuel : ℕ) (old : Stand) (rest : List Pair) (p : Pair) (now : Seen) (place : Ref)
    → old.pairs ≡ rest ++ p ∷ [] → OnlyReads old.seen now
    → LeadsTo now p.left place → Paid P asked fuel old → IsPlace P now (left_sides asked) place
place_of_last P asked fuel old rest p now place e reads leads k =
    let left = place_later P old.seen now (left_sides asked) p.left reads.keeps (k.lefts p (last_was old.pairs rest p e)) in
    place_leads P now now (left_sides asked) p.left place (place_set P now (left_sides asked)) leads left

-- and so does taking one out that costs, whose left side is a place then.
pub holds_new : (P : NamedProgram) (first : Seen) (asked : List Pair) (fuel : ℕ) (began : List ℕ) (p : Pair) (old new : Stand) (bound : List ℕ)
    → PicksNew p old new
    → Stands P first asked fuel began old bound → Holds P first asked fuel began p new bound × IsPlace P new.seen (left_sides asked) p.left
holds_new P first asked fuel began p old new bound picks k =
    let roots = left_sides asked in
    let kept = kept_same P first asked began new.seen old.links (IsTodo old) (IsTodoWith p new) bound (new_todo p old new picks) (new_was p old new picks)
    (kept_reads P first asked began old.seen new.seen old.links (IsTodo old) bound picks.reads k.kept) in
    let later : (r : Ref) → IsPlace P old.seen roots r → IsPlace P new.seen roots r = λ r at. place_later P old.seen new.seen roots r picks.reads.keeps at in
    let place = place_of_last P asked fuel old new.pairs p new.seen picks.place picks.out picks.reads picks.leads k.paid in
    let before : All (IsPlace P new.seen roots) old.taken = All-weaker (IsPlace P old.seen roots) (IsPlace P new.seen roots) later old.taken k.paid.taken in
    let spent : fuel ≡ old.fuel + length old.taken = k.paid.spent in
    let cost : old.fuel ≡ suc new.fuel = picks.fuel in
    let longer : length new.taken ≡ length old.taken + 1 = ap (λ xs. length xs) picks.taken ∙ length_push old.taken picks.place in
    let paid : Paid P asked fuel new = record {
      lefts = λ q at. later q.left (k.paid.lefts q (rest_was old.pairs new.pairs p q picks.out at));
      taken = subst (All (IsPlace P new.seen roots)) (sym picks.taken) (All-push (IsPlace P new.seen roots) old.taken picks.place before place);
      distinct = subst (AllPairs (λ (r q : Ref). r ≢ q)) (sym picks.taken) (distinct_push old.taken picks.place picks.fresh k.paid.distinct);
      spent = omega arith;
    } in (
      record { kept = subst (λ ls. Kept P first asked began new.seen ls (IsTodoWith p new) bound) (sym picks.links) kept; paid = paid },
      later p.left (k.paid.lefts p (last_was old.pairs new.pairs p picks.out)),
    )

-- A step keeps its list.
pub step_list : (P : NamedProgram) (p : Pair) (old new : Seen) (links more_links : List (Ref × Ref)) (list longer : List Pair) (bound further : List ℕ)
    → Steps P p old new links more_links list longer bound further → (q : Pair) → Contains list q → Contains longer q
step_list P p old new links more_links list longer bound further (Turns.alike m e f g) q at = subst (λ l. Contains l q) (sym f) at
step_list P p old new links more_links list longer bound further (sets cell m e f g) q at = subst (λ l. Contains l q) (sym f) at
step_list P p old new links more_links list longer bound further (one_class one other m c e f g) q at = subst (λ l. Contains l q) (sym f) at
step_list P p old new links more_links list longer bound further (joins one other m c f g) q at =
    subst (λ l. Contains l q) (sym f) (Contains-append_left list _ q at)

-- What a step on the pair that was taken out leaves to do, where its arguments go to those that cost nothing,
old_leaves : (P : NamedProgram) (p : Pair) (mid new : Stand) (bound further : List ℕ)
    → Steps P p mid.seen new.seen mid.links new.links mid.rights new.rights bound further
    → new.pairs ≡ mid.pairs → Leaves p mid.rights new.rights (IsTodoWith p mid) (IsTodo new)
old_leaves P p mid new bound further steps pairs = record {
  was = inl refl;
  list_was = λ q at. inr (inr at);
  keeps = λ q todo. elim todo [
    | inl is ↦ inl is
    | inr in_lists ↦ elim in_lists [
      | inl pair ↦ inr (inl (subst (λ l. Contains l q) (sym pairs) pair))
      | inr right ↦ inr (inr (step_list P p mid.seen new.seen mid.links new.links mid.rights new.rights bound further steps q right))
    ]
  ];
  takes = λ q at. inr at;
  comes = λ q todo. elim todo [ inl pair ↦ inl (inr (inl (subst (λ l. Contains l q) pairs pair))) | inr at ↦ inr at ];
}

-- and where they go to those that cost.
new_leaves : (P : NamedProgram) (p : Pair) (mid new : Stand) (bound further : List ℕ)
    → Steps P p mid.seen new.seen mid.links new.links mid.pairs new.pairs bound further
    → new.rights ≡ mid.rights → Leaves p mid.pairs new.pairs (IsTodoWith p mid) (IsTodo new)
new_leaves P p mid new bound further steps rights = record {
  was = inl refl;
  list_was = λ q at. inr (inl at);
  keeps = λ q todo. elim todo [
    | inl is ↦ inl is
    | inr in_lists ↦ elim in_lists [
      | inl pair ↦ inr (inl (step_list P p mid.seen new.seen mid.links new.links mid.pairs new.pairs bound further steps q pair))
      | inr right ↦ inr (inr (subst (λ l. Contains l q) (sym rights) right))
    ]
  ];
  takes = λ q at. inl at;
  comes = λ q todo. elim todo [ inl at ↦ inr at | inr right ↦ inl (inr (inr (subst (λ l. Contains l q) rights right))) ];
}

-- A turn keeps where unification stands.
pub stands_turns : (P : NamedProgram) (first : Seen) (asked : List Pair) (fuel : ℕ) (began : List ℕ) (old new : Stand) (bound further : List ℕ)
    → AllFall 0 P.skeleton.nodes → Turns P old new bound further
    → Stands P first asked fuel began old bound → Stands P first asked fuel began new further
stands_turns P first asked fuel began old new bound further fall (on_old p mid picks steps pairs taken left) k =
    let held = holds_old P first asked fuel began p old mid bound picks k in
    let keep = steps_keep P p mid.seen new.seen mid.links new.links mid.rights new.rights bound further steps in record {
      kept = kept_steps P p mid.seen new.seen mid.links new.links mid.rights new.rights bound further first asked began (IsTodoWith p mid) (IsTodo new) fall
          (old_leaves P p mid new bound further steps pairs) steps held.kept;
      paid = paid_later P asked fuel mid new keep.knows (λ q at. inl (subst (λ l. Contains l q) pairs at)) taken left held.paid;
    }
stands_turns P first asked fuel began old new bound further fall (on_new p mid picks steps rights taken left) k =
    let roots = left_sides asked in
    let (held, own) = holds_new P first asked fuel began p old mid bound picks k in
    let keep = steps_keep P p mid.seen new.seen mid.links new.links mid.pairs new.pairs bound further steps in
    let later : (r : Ref) → IsPlace P mid.seen roots r → IsPlace P new.seen roots r = λ r at. place_later P mid.seen new.seen roots r keep.knows at in
    let lefts = lefts_steps P p mid.seen new.seen mid.links new.links mid.pairs new.pairs bound further roots steps (later p.left own)
    (λ q at. later q.left (held.paid.lefts q at)) in record {
      kept = kept_steps P p mid.seen new.seen mid.links new.links mid.pairs new.pairs bound further first asked began (IsTodoWith p mid) (IsTodo new) fall
          (new_leaves P p mid new bound further steps rights) steps held.kept;
      paid = paid_later P asked fuel mid new keep.knows (λ q at. inr (lefts q at)) taken left held.paid;
    }

-- where unification begins
abbrev pub begins : Seen → List Pair → ℕ → Stand
begins first asked fuel = record { seen = first; pairs = asked; rights = []; taken = []; links = []; fuel = fuel }

-- pairs that are in range and written fit
pub fits_asked : (P : NamedProgram) (s : Seen) (words : ℕ) (asked : List Pair) → AreInRange P words asked → AreWritten s asked → (p : Pair)
    → Contains asked p → IsFit P words s p
fits_asked P s words asked range written p at =
    let in_range = All-contains (λ (p : Pair). IsInRange P words p.left × IsInRange P words p.right) asked p range at in
    let is_written = All-contains (λ (p : Pair). IsWrittenIfNumber s p.left × IsWrittenIfNumber s p.right) asked p written at in
    record { left_in_range = in_range.0; right_in_range = in_range.1; left_written = is_written.0; right_written = is_written.1 }

-- a side of a pair is among the sides
sides_among : (asked : List Pair) (p : Pair) → Contains asked p → Contains (sides asked) p.left × Contains (sides asked) p.right
sides_among asked p at = (
  Contains-append_left (left_sides asked) (map (λ (p : Pair). p.right) asked) p.left (contains_image (λ (p : Pair). p.left) asked p at),
  Contains-append_right (left_sides asked) (map (λ (p : Pair). p.right) asked) p.right (contains_image (λ (p : Pair). p.right) asked p at),
)

-- Unification begins so.
pub stands_first : (P : NamedProgram) (first : Seen) (asked : List Pair) (fuel : ℕ) (began : List ℕ) → AreInRange P first.words asked → AreWritten first asked
    → Stands P first asked fuel began (begins first asked fuel) began
stands_first P first asked fuel began range written =
    let s = begins first asked fuel in
    let from : (p : Pair) → IsTodo s p → Contains asked p = λ p todo. elim todo [ inl at ↦ at | inr at ↦ absurd (contains_none p at) ] in record {
      kept = record {
        keeps = reads_keeps first first (reads_nothing first);
        closed = closed_first P first (IsTodo s) (Contains asked) (λ p at. inl at);
        fits = λ p todo. fits_asked P first first.words asked range written p (from p todo);
        if_told = λ row told. record {
          row = row;
          told = told;
          sound = λ w has t solves asks. (solves, λ p todo. asks p (from p todo));
          sets = λ place r knows. inl knows;
          sides = λ p todo. let (left, right) = sides_among asked p (from p todo) in (root p.left left, root p.right right);
        };
        if_untold = λ told. record {
          told = told;
          sound = λ w has t solves asks. (solves, λ p todo. asks p (from p todo));
          follow = follow_nothing P asked first;
        };
        lists = lists_begun _ _;
        leads = λ p todo. let (left, right) = sides_among asked p (from p todo) in (root p.left left, root p.right right);
      };
      paid = record {
        lefts = λ p at. root p.left (contains_image (λ (p : Pair). p.left) asked p at);
        taken = All-nil (IsPlace P first (left_sides asked));
        distinct = all_pairs_none (λ (r q : Ref). r ≢ q);
        spent = omega arith;
      };
    }

-- where unification begins with these lists
abbrev begins_with : Seen → List Pair → (rights : List Pair) → (taken : List Ref) → (links : List (Ref × Ref)) → ℕ → Stand
begins_with first asked rights taken links fuel = record { seen = first; pairs = asked; rights = rights; taken = taken; links = links; fuel = fuel }

-- The same, where the lists are known to be empty.
pub stands_begun : (P : NamedProgram) (first : Seen) (asked : List Pair) (fuel : ℕ) (began : List ℕ) (rights : List Pair) (taken : List Ref)
    (links : List (Ref × Ref))
    → (rights ≡ []) × (taken ≡ []) × (links ≡ []) → AreInRange P first.words asked → AreWritten first asked
    → Stands P first asked fuel began (begins_with first asked rights taken links fuel) began
stands_begun P first asked fuel began rights taken links empty range written =
    let one = stands_first P first asked fuel began range written in
    let two = subst (λ r. Stands P first asked fuel began (begins_with first asked r [] [] fuel) began) (sym empty.0) one in
    let three = subst (λ t. Stands P first asked fuel began (begins_with first asked rights t [] fuel) began) (sym empty.1) two in
    subst (λ l. Stands P first asked fuel began (begins_with first asked rights taken l fuel) began) (sym empty.2) three
