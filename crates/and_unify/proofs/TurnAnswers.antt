-- What is promised at the end, from where unification stands.
use Rattle.std.proofs.Common.{ℕ, suc, ◌+◌, ◌≡◌, ◌≢◌, ◌⊎◌, true, false, List, [], ◌∷◌, ◌++◌, length, Option, Some, None, refl, sym, ap, subst, ◌∙◌, inl, inr}
use Rattle.std.proofs.Common.{arith}
use Rattle.std.specs.Prelude.{Contains, All, IfSome}
use Rattle.std.specs.Option.{option_map, MatchOption}
use Rattle.std.proofs.lemmas.Bool.{true≢false}
use Rattle.std.proofs.lemmas.Option.{none-some, same_Some}
use Rattle.std.proofs.lemmas.List.{length_push}
use Rattle.std.proofs.lemmas.List.Elements.{All-contains, All-contains_itself, All-weaker, Contains-append_left, Contains-append_right}
use Rattle.and_model.specs.Terms
use Rattle.and_model.specs.Terms.{Term, Terms, Substitution, apply, apply_all, compound, number}
use Rattle.and_model.specs.Solutions.{Solves}
use Rattle.and_model.specs.Store.{is_half}
use Rattle.and_model.specs.declared.reference.Ref.{Ref}
use Rattle.and_model.specs.declared.reference.Ref.TheVariants.{Free, Cell, Node, Number, Half}
use Rattle.and_model.specs.Terms.{width}
use Rattle.and_program.specs.Skeletons.{AllFall}
use Rattle.and_cells.specs.Ranges.{NamedProgram, IsInRange}
use Rattle.and_cells.specs.Seen.{Seen, Knows, OnlyReads, IsWrittenIfNumber}
use Rattle.and_cells.specs.Meaning.{Words, shallow_term, shallow_cells}
use Rattle.and_laws.proofs.Ordered.{contains_none}
use Rattle.and_cells.specs.Joined.{value}
use Rattle.and_cells.specs.Known.{HasKnown, SolvesKnown}
use Rattle.and_unify.specs.declared.pairs.Pair.{Pair}
use Rattle.and_unify.specs.Pairs.{equations_of_pairs, AreInRange, AreWritten, NameNoHalf, DifferAtHeads, AreApart}
use Rattle.and_unify.specs.Places.{left_sides, sides, IsPlace, Places}
use Rattle.and_unify.specs.Following.{Follows, OwnFollow, NewFollow}
use Rattle.and_unify.specs.Unifying.{HasSpent}
use Rattle.and_unify.specs.Meeting.{MeetApart}
use Rattle.and_unify.specs.Descending.{HaveOneValue, Suffice}
use Rattle.and_unify.specs.Turns.{Stand, Finishes, PutsOff, Breaks}
use Rattle.and_unify.proofs.TurnAgree.{Agree, PairAgrees, agree_onward}
use Rattle.and_unify.proofs.TurnParts.{arguments_of}
use Rattle.and_unify.proofs.TurnClosed.{closed_values}
use Rattle.and_unify.proofs.TurnPlaces.{place_later, place_leads, place_set, places_push}
use Rattle.and_unify.proofs.TurnKept.{Kept, kept_reads, pairs_agree_from_solves, solves_from_pairs_agree}
use Rattle.and_unify.proofs.TurnStands.{IsTodo, IsTodoWith, Paid, Stands, Holds, holds_old, holds_new, place_of_last}

-- What solves what was known and what was asked for agrees on all that is to do, where it solves what is known now.
todos_agree : (P : NamedProgram) (first : Seen) (asked : List Pair) (began : List ℕ) (s : Seen) (links : List (Ref × Ref)) (Todo : Pair
    → Type 0) (bound : List ℕ) → Kept P first asked began s links Todo bound
    → (w : Words) → HasKnown s w → (t : Substitution) → SolvesKnown P w s t → Solves t (equations_of_pairs P w asked) → (p : Pair) → Todo p → PairAgrees P w t p
todos_agree P first asked began s links Todo bound k w has t solves asks = by_row first.told refl
  where
    by_row : (o : Option (List Ref)) → first.told ≡ o → (p : Pair) → Todo p → PairAgrees P w t p
    by_row (Some row) is = ((k.if_told row is).sound w has t (λ place r knows. solves place r (k.keeps.knows place r knows))
        (pairs_agree_from_solves P w t asked asks)).1
    by_row None is = ((k.if_untold is).sound w has t solves (pairs_agree_from_solves P w t asked asks)).1

-- What was set follows.
pub follows_end : (P : NamedProgram) (first : Seen) (asked : List Pair) (began : List ℕ) (s : Seen) (links : List (Ref × Ref)) (Todo : Pair
    → Type 0) (bound : List ℕ) → Kept P first asked began s links Todo bound
    → Follows P asked first s
follows_end P first asked began s links Todo bound k = by_row first.told refl
  where
    by_row : (o : Option (List Ref)) → first.told ≡ o → MatchOption o (OwnFollow P asked first s) (λ (row : List Ref). NewFollow P asked first s)
    by_row (Some row) is = λ w has t solves asks. ((k.if_told row is).sound w has t solves (pairs_agree_from_solves P w t asked asks)).0
    by_row None is = (k.if_untold is).follow

-- What is left follows from what was asked for, where what is known is solved.
pub left_end : (P : NamedProgram) (first : Seen) (asked : List Pair) (began : List ℕ) (s : Seen) (links : List (Ref × Ref)) (Todo : Pair
    → Type 0) (bound : List ℕ) (left : List Pair) → Kept P first asked began s links Todo bound
    → ((p : Pair) → Contains left p → Todo p) → (w : Words) → HasKnown s w → (t : Substitution) → SolvesKnown P w s t → Solves t (equations_of_pairs P w asked)
    → Solves t (equations_of_pairs P w left)
left_end P first asked began s links Todo bound left k among w has t solves asks =
    solves_from_pairs_agree P w t left (λ p at. todos_agree P first asked began s links Todo bound k w has t solves asks p (among p at))

-- what is in range has a value
value_in_range : (P : NamedProgram) (words : ℕ) (w : Words) (t : Substitution) (r : Ref) → IsInRange P words r → (u : Term) × (value P w t r ≡ Some u)
value_in_range P words w t Free fits = absurd fits
value_in_range P words w t (Cell cell) fits = (_, refl)
value_in_range P words w t (Node node base) fits = (_, refl)
value_in_range P words w t (Number pair) fits = (_, refl)
value_in_range P words w t (Half bits) fits = absurd fits

-- What is left suffices: where both its sides have one value, so has what was asked for.
pub suffice_end : (P : NamedProgram) (first : Seen) (asked : List Pair) (began : List ℕ) (s : Seen) (links : List (Ref × Ref)) (Todo : Pair
    → Type 0) (bound : List ℕ) (left : List Pair) → AllFall 0 P.skeleton.nodes
    → Kept P first asked began s links Todo bound → ((p : Pair) → Todo p → Contains left p) → Suffice P s left asked
suffice_end P first asked began s links Todo bound left fall k among w has t solves ones =
    let todos : (p : Pair) → Todo p → value P w t p.left ≡ value P w t p.right =
    λ p todo. All-contains (λ (p : Pair). value P w t p.left ≡ value P w t p.right) left p ones (among p todo) in
    All-weaker (Contains asked) (λ (p : Pair). value P w t p.left ≡ value P w t p.right)
    (λ p at. closed_values P s links Todo (Contains asked) w t fall k.closed has solves todos p at) asked (All-contains_itself asked)

-- What solves the equations of pairs gives both sides one value,
pub one_value_where_solved : (P : NamedProgram) (w : Words) (t : Substitution) (ps : List Pair) → Solves t (equations_of_pairs P w ps) → HaveOneValue P w t ps
one_value_where_solved P w t ps s =
    All-weaker (Contains ps) (λ (p : Pair). value P w t p.left ≡ value P w t p.right)
    (λ p at. let a = pairs_agree_from_solves P w t ps s p at in a.left ∙ sym a.right) ps (All-contains_itself ps)

-- and the converse holds of pairs in range that name no half.
pub solved_where_one_value : (P : NamedProgram) (words : ℕ) (w : Words) (t : Substitution) (ps : List Pair) → AreInRange P words ps → NameNoHalf P w ps
    → HaveOneValue P w t ps → Solves t (equations_of_pairs P w ps)
solved_where_one_value P words w t ps range whole ones = solves_from_pairs_agree P w t ps (λ p at.
    let in_range = All-contains (λ (p : Pair). IsInRange P words p.left × IsInRange P words p.right) ps p range at in
    let cells = shallow_cells P p.left ++ shallow_cells P p.right in
    let no_half : All (λ (cell : ℕ). is_half (w cell) ≡ false) cells =
    All-contains (λ (p : Pair). All (λ (cell : ℕ). is_half (w cell) ≡ false) (shallow_cells P p.left ++ shallow_cells P p.right)) ps p whole at in
    let each : (cell : ℕ) → Contains cells cell → is_half (w cell) ≡ false =
    λ cell i. All-contains (λ (cell : ℕ). is_half (w cell) ≡ false) cells cell no_half i in
    let (u, is) = value_in_range P words w t p.left in_range.0 in
    let same = All-contains (λ (p : Pair). value P w t p.left ≡ value P w t p.right) ps p ones at in
    record {
      term = u;
      left = is;
      right = sym same ∙ is;
      left_whole = λ cell i. each cell (Contains-append_left (shallow_cells P p.left) (shallow_cells P p.right) cell i);
      right_whole = λ cell i. each cell (Contains-append_right (shallow_cells P p.left) (shallow_cells P p.right) cell i);
    })

-- So what was asked for follows from what is left.
pub equal_end : (P : NamedProgram) (first : Seen) (asked : List Pair) (began : List ℕ) (s : Seen) (links : List (Ref × Ref)) (Todo : Pair
    → Type 0) (bound : List ℕ) (left : List Pair) → AllFall 0 P.skeleton.nodes
    → AreInRange P first.words asked → Kept P first asked began s links Todo bound → ((p : Pair) → Todo p → Contains left p)
    → (w : Words) → HasKnown s w → NameNoHalf P w asked → (t : Substitution) → SolvesKnown P w s t → Solves t (equations_of_pairs P w left)
    → Solves t (equations_of_pairs P w asked)
equal_end P first asked began s links Todo bound left fall range k among w has whole t solves rest =
    solved_where_one_value P first.words w t asked range whole
    (suffice_end P first asked began s links Todo bound left fall k among w has t solves (one_value_where_solved P w t left rest))

-- What is left is in range, and its numbers are written.
pub range_end : (P : NamedProgram) (first : Seen) (asked : List Pair) (began : List ℕ) (s : Seen) (links : List (Ref × Ref)) (Todo : Pair
    → Type 0) (bound : List ℕ) (left : List Pair) → Kept P first asked began s links Todo bound
    → ((p : Pair) → Contains left p → Todo p) → AreInRange P s.words left × AreWritten s left
range_end P first asked began s links Todo bound left k among =
    let itself = All-contains_itself left in
    let range : (p : Pair) → Contains left p → IsInRange P s.words p.left × IsInRange P s.words p.right =
    λ p at. let fit = k.fits p (among p at) in (
      subst (λ n. IsInRange P n p.left) (sym k.keeps.words) fit.left_in_range,
      subst (λ n. IsInRange P n p.right) (sym k.keeps.words) fit.right_in_range,
    ) in
    let written : (p : Pair) → Contains left p → IsWrittenIfNumber s p.left × IsWrittenIfNumber s p.right = λ p at. let fit =
    k.fits p (among p at) in (fit.left_written, fit.right_written) in (
      All-weaker (Contains left) (λ (p : Pair). IsInRange P s.words p.left × IsInRange P s.words p.right) range left itself,
      All-weaker (Contains left) (λ (p : Pair). IsWrittenIfNumber s p.left × IsWrittenIfNumber s p.right) written left itself,
    )

-- What was set of a told row is on the list, and a place.
pub sets_end : (P : NamedProgram) (first : Seen) (asked : List Pair) (began : List ℕ) (s : Seen) (links : List (Ref × Ref)) (Todo : Pair
    → Type 0) (bound : List ℕ) → Kept P first asked began s links Todo bound
    → IfSome first.told (λ row. (place : ℕ) (r : Ref) → Knows s place r → Knows first place r ⊎ (Contains bound place × IsPlace P first (sides asked) r))
sets_end P first asked began s links Todo bound k = by_row first.told refl
  where
    by_row : (o : Option (List Ref)) → first.told ≡ o
        → IfSome o (λ row. (place : ℕ) (r : Ref) → Knows s place r → Knows first place r ⊎ (Contains bound place × IsPlace P first (sides asked) r))
    by_row (Some row) is = (k.if_told row is).sets
    by_row None is = tt

-- a half has no value
half_has_no_value : (P : NamedProgram) (w : Words) (t : Substitution) (r : Ref) (u : Term) → is_half r ≡ true → value P w t r ≡ Some u → ⊥
half_has_no_value P w t Free u e is = true≢false (sym e)
half_has_no_value P w t (Cell cell) u e is = true≢false (sym e)
half_has_no_value P w t (Node node base) u e is = true≢false (sym e)
half_has_no_value P w t (Number pair) u e is = true≢false (sym e)
half_has_no_value P w t (Half bits) u e is = none-some u is

-- a substitution leaves the number of arguments
width_apply : (t : Substitution) (ts : Terms) → width (apply_all t ts) ≡ width ts
width_apply t Terms.none = refl
width_apply t (Terms.more u us) = ap suc (width_apply t us)

-- Terms that differ at their heads become no one term.
heads_apart : (t : Substitution) (a b : Option Term) (u : Term) → DifferAtHeads a b → option_map (apply t) a ≡ Some u → option_map (apply t) b ≡ Some u → ⊥
heads_apart t None b u d one other = d
heads_apart t (Some x) None u d one other = d
heads_apart t (Some (Terms.variable q k)) (Some y) u d one other = d
heads_apart t (Some (Terms.number z)) (Some (Terms.variable q k)) u d one other = d
heads_apart t (Some (Terms.number z)) (Some (Terms.number y)) u d one other =
    let same : Terms.number z ≡ Terms.number y = same_Some (Terms.number z) (Terms.number y) (one ∙ sym other) in d (cc)
heads_apart t (Some (Terms.number z)) (Some (Terms.compound c ts)) u d one other =
    let same : Terms.number z ≡ Terms.compound c (apply_all t ts) =
    same_Some (Terms.number z) (Terms.compound c (apply_all t ts)) (one ∙ sym other) in absurd (cc)
heads_apart t (Some (Terms.compound c ts)) (Some (Terms.variable q k)) u d one other = d
heads_apart t (Some (Terms.compound c ts)) (Some (Terms.number z)) u d one other =
    let same : Terms.compound c (apply_all t ts) ≡ Terms.number z =
    same_Some (Terms.compound c (apply_all t ts)) (Terms.number z) (one ∙ sym other) in absurd (cc)
heads_apart t (Some (Terms.compound c ts)) (Some (Terms.compound e us)) u d one other =
    let same : Terms.compound c (apply_all t ts) ≡ Terms.compound e (apply_all t us) =
    same_Some (Terms.compound c (apply_all t ts)) (Terms.compound e (apply_all t us)) (one ∙ sym other) in
    let arguments : apply_all t ts ≡ apply_all t us = ap arguments_of same in
    elim d [
      | inl names ↦ names (cc)
      | inr widths ↦ widths (sym (width_apply t ts) ∙ ap width arguments ∙ width_apply t us)
    ]

-- Two that are apart agree under nothing.
apart_disagree : (P : NamedProgram) (s : Seen) (w : Words) (t : Substitution) (one other : Ref) → HasKnown s w → AreApart P s one other
    → Agree P w t one other → ⊥
apart_disagree P s w t one other has apart a = elim apart [
  | inl half ↦ half_has_no_value P w t one a.term half a.left
  | inr rest ↦ elim rest [
    | inl half ↦ half_has_no_value P w t other a.term half a.right
    | inr differ ↦ heads_apart t (shallow_term P w one) (shallow_term P w other) a.term (differ w has) a.left a.right
  ]
]

-- the pair that was taken out, with all that is kept
broken_holds : (P : NamedProgram) (first : Seen) (asked : List Pair) (fuel : ℕ) (began : List ℕ) (old new : Stand) (bound : List ℕ) (one other : Ref)
    (b : Breaks P old new one other)
    → Stands P first asked fuel began old bound → Holds P first asked fuel began b.p b.mid bound
broken_holds P first asked fuel began old new bound one other b k = elim b.picks [
  | inl picks ↦ holds_old P first asked fuel began b.p old b.mid bound picks k
  | inr picks ↦ (holds_new P first asked fuel began b.p old b.mid bound picks k).0
]

-- Where a pair that is to do led to two that are apart, what was asked for has no solution.
pub apart_kept : (P : NamedProgram) (first : Seen) (asked : List Pair) (began : List ℕ) (s now : Seen) (links : List (Ref × Ref)) (Todo : Pair
    → Type 0) (bound : List ℕ) (p : Pair) (one other : Ref)
    → Kept P first asked began s links Todo bound → Todo p → MeetApart P p.left p.right s now one other → AreApart P now one other
    × ((w : Words) → HasKnown now w → (t : Substitution) → SolvesKnown P w now t → Solves t (equations_of_pairs P w asked) → ⊥)
apart_kept P first asked began s now links Todo bound p one other k todo meets =
    let kept = kept_reads P first asked began s now links Todo bound meets.lead.reads k in (
      meets.apart,
      λ w has t solves asks.
          let own : PairAgrees P w t p = todos_agree P first asked began now links Todo bound kept w has t solves asks p todo in
          apart_disagree P now w t one other has meets.apart
          (agree_onward P w t now p.left p.right one other has solves meets.lead.left_leads meets.lead.right_leads own),
    )

-- To these two the sides that were asked for lead.
pub apart_at_kept : (P : NamedProgram) (first : Seen) (asked : List Pair) (began : List ℕ) (s now : Seen) (links : List (Ref × Ref)) (Todo : Pair
    → Type 0) (bound : List ℕ) (p : Pair) (one other : Ref)
    → Kept P first asked began s links Todo bound → Todo p → MeetApart P p.left p.right s now one other
    → IsPlace P now (sides asked) one × IsPlace P now (sides asked) other
apart_at_kept P first asked began s now links Todo bound p one other k todo meets =
    let kept = kept_reads P first asked began s now links Todo bound meets.lead.reads k in
    let (left, right) = kept.leads p todo in
    let each = place_set P now (sides asked) in (
      place_leads P now now (sides asked) p.left one each meets.lead.left_leads left,
      place_leads P now now (sides asked) p.right other each meets.lead.right_leads right,
    )

-- the same where a turn broke off
pub apart_at_end : (P : NamedProgram) (first : Seen) (asked : List Pair) (fuel : ℕ) (began : List ℕ) (old new : Stand) (bound : List ℕ) (one other : Ref)
    → Stands P first asked fuel began old bound
    → Breaks P old new one other → IsPlace P new.seen (sides asked) one × IsPlace P new.seen (sides asked) other
apart_at_end P first asked fuel began old new bound one other k b =
    let held = broken_holds P first asked fuel began old new bound one other b k in
    apart_at_kept P first asked began b.mid.seen new.seen b.mid.links (IsTodoWith b.p b.mid) bound b.p one other held.kept (inl refl) b.meets

-- So it has none where a turn broke off.
pub apart_end : (P : NamedProgram) (first : Seen) (asked : List Pair) (fuel : ℕ) (began : List ℕ) (old new : Stand) (bound : List ℕ) (one other : Ref)
    → Stands P first asked fuel began old bound
    → Breaks P old new one other → AreApart P new.seen one other
    × ((w : Words) → HasKnown new.seen w → (t : Substitution) → SolvesKnown P w new.seen t → Solves t (equations_of_pairs P w asked) → ⊥)
apart_end P first asked fuel began old new bound one other k b =
    let held = broken_holds P first asked fuel began old new bound one other b k in
    apart_kept P first asked began b.mid.seen new.seen b.mid.links (IsTodoWith b.p b.mid) bound b.p one other held.kept (inl refl) b.meets

-- Each place that was taken cost 1,
pub spent_end : (P : NamedProgram) (asked : List Pair) (fuel : ℕ) (s : Stand) (now : Seen) (left : ℕ) → OnlyReads s.seen now → left ≡ s.fuel
    → Paid P asked fuel s → HasSpent P asked now fuel left
spent_end P asked fuel s now left reads same k =
    let roots = left_sides asked in (
      length s.taken,
      k.spent ∙ ap (λ n. n + length s.taken) (sym same),
      record {
        places = s.taken;
        distinct = k.distinct;
        of_roots = All-weaker (IsPlace P s.seen roots) (IsPlace P now roots) (λ r at. place_later P s.seen now roots r reads.keeps at) s.taken k.taken;
        counted = refl;
      },
    )

-- also where a pair led to two that are apart.
pub spent_broken : (P : NamedProgram) (first : Seen) (asked : List Pair) (fuel : ℕ) (began : List ℕ) (old new : Stand) (bound : List ℕ) (one other : Ref)
    → Stands P first asked fuel began old bound
    → Breaks P old new one other → HasSpent P asked new.seen fuel new.fuel
spent_broken P first asked fuel began old new bound one other k b =
    spent_end P asked fuel b.mid new.seen new.fuel b.meets.lead.reads b.fuel (broken_holds P first asked fuel began old new bound one other b k).paid

-- a list with an element is not empty
not_empty : (rest : List Pair) (p : Pair) → rest ++ p ∷ [] ≡ [] → ⊥
not_empty rest p e = let len : length (rest ++ p ∷ []) ≡ 0 = ap (λ l. length l) e in let one = length_push rest p in omega arith

-- Where the fuel is used up with a pair left, there is one place more than there was fuel.
pub put_off_end : (P : NamedProgram) (asked : List Pair) (fuel : ℕ) (old new : Stand) → PutsOff old new → Paid P asked fuel old
    → (new.fuel ≡ 0) × (new.pairs ≢ []) × Places P new.seen (left_sides asked) (suc fuel)
put_off_end P asked fuel old new b k =
    let roots = left_sides asked in
    let place = place_of_last P asked fuel old b.rest b.p new.seen b.place b.last b.reads b.leads k in
    let taken : All (IsPlace P new.seen roots) old.taken =
    All-weaker (IsPlace P old.seen roots) (IsPlace P new.seen roots) (λ r at. place_later P old.seen new.seen roots r b.reads.keeps at) old.taken k.taken in
    let all_spent : length old.taken ≡ fuel = let spent = k.spent in let none_left = b.fuel.0 in omega arith in
    let many : Places P new.seen roots (suc (length old.taken)) = places_push P new.seen roots old.taken b.place b.fresh k.distinct taken place in
    (b.fuel.1, λ e. not_empty b.rest b.p (sym b.last ∙ sym b.stays.0 ∙ e), subst (λ n. Places P new.seen roots (suc n)) all_spent many)

-- What is kept where the last turn stopped.
pub kept_end : (P : NamedProgram) (first : Seen) (asked : List Pair) (fuel : ℕ) (began : List ℕ) (old : Stand) (now : Seen) (bound further : List ℕ)
    → OnlyReads old.seen now × (further ≡ bound)
    → Stands P first asked fuel began old bound → Kept P first asked began now old.links (IsTodo old) further
kept_end P first asked fuel began old now bound further stopped k =
    subst (Kept P first asked began now old.links (IsTodo old)) (sym stopped.1)
    (kept_reads P first asked began old.seen now old.links (IsTodo old) bound stopped.0 k.kept)

-- Where unification finishes or puts off, all that is to do is among the pairs,
pub among_end : (old new : Stand) → Finishes old new ⊎ PutsOff old new → (p : Pair) → IsTodo old p → Contains new.pairs p
among_end old new (inl done) p (inl at) = absurd (contains_none p (subst (λ l. Contains l p) done.done.0 at))
among_end old new (inl done) p (inr at) = absurd (contains_none p (subst (λ l. Contains l p) done.done.1 at))
among_end old new (inr off) p (inl at) = subst (λ l. Contains l p) (sym off.stays.0) at
among_end old new (inr off) p (inr at) = absurd (contains_none p (subst (λ l. Contains l p) off.stays.1 at))

-- and where it puts off, these are to do.
pub todo_end : (old new : Stand) → PutsOff old new → (p : Pair) → Contains new.pairs p → IsTodo old p
todo_end old new off p at = inl (subst (λ l. Contains l p) off.stays.0 at)

-- Where it finishes or puts off, the fuel stays.
pub spent_done : (P : NamedProgram) (first : Seen) (asked : List Pair) (fuel : ℕ) (began : List ℕ) (old new : Stand) (bound : List ℕ)
    → Stands P first asked fuel began old bound
    → Finishes old new ⊎ PutsOff old new → HasSpent P asked new.seen fuel new.fuel
spent_done P first asked fuel began old new bound k (inl done) = spent_end P asked fuel old new.seen new.fuel done.reads done.fuel k.paid
spent_done P first asked fuel began old new bound k (inr off) = spent_end P asked fuel old new.seen new.fuel off.reads (off.fuel.1 ∙ sym off.fuel.0) k.paid
