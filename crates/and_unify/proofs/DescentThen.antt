-- A plain descent, and then unification of the pairs that it left: together they unify all pairs.
use Rattle.std.proofs.Common.{ℕ, suc, ◌≡◌, ◌≢◌, ◌<◌, ◌⊎◌, List, [], ◌++◌, Option, Some, None, refl, sym, ap, subst, ◌∙◌, inl, inr, append_assoc, arith}
use Rattle.std.specs.Prelude.{Contains, All, IfSome, is_some}
use Rattle.std.specs.Option.{MatchOption}
use Rattle.std.proofs.lemmas.Bool.{true≢false}
use Rattle.std.proofs.lemmas.List.Elements.{All-append, All-nil, All-weaker, Contains-append_left}
use Rattle.and_laws.proofs.Pairwise.{all_pairs_join, all_pairs_none}
use Rattle.and_model.specs.Terms.{Substitution}
use Rattle.and_model.specs.declared.reference.Ref.{Ref}
use Rattle.and_model.specs.declared.reference.Ref.TheVariants.{Cell, Node}
use Rattle.and_cells.specs.Ranges.{NamedProgram}
use Rattle.and_cells.specs.Seen.{Seen, Knows, Keeps}
use Rattle.and_cells.specs.Meaning.{Words}
use Rattle.and_cells.specs.Known.{HasKnown, SolvesKnown}
use Rattle.and_unify.specs.declared.pairs.Pair.{Pair}
use Rattle.and_unify.specs.declared.unifying.Unified.{Unified}
use Rattle.and_unify.specs.declared.unifying.Unified.TheVariants.{Same, PutOff}
use Rattle.and_unify.specs.Pairs.{AreInRange}
use Rattle.and_unify.specs.Places.{left_sides, sides, IsPlace, root, set, part, Places}
use Rattle.and_unify.specs.Following.{Follows, OwnFollow, NewFollow}
use Rattle.and_unify.specs.Setting.{WasSet, Lists}
use Rattle.and_unify.specs.Unifying.{Unifies, Spends}
use Rattle.and_unify.specs.Descending.{Suffice, SetPlaces, LeadOnFrom, Descends}
use Rattle.and_unify.proofs.SettingLists.{later_set}
use Rattle.and_unify.proofs.TurnFollow.{follow_on}
use Rattle.and_unify.proofs.TurnPlaces.{place_later}
use Rattle.and_unify.proofs.TurnAnswers.{one_value_where_solved, solved_where_one_value}

-- what is known later, is known of the words and of what solves it, is so before
has_before : (old new : Seen) (w : Words) → Keeps old new → HasKnown new w → HasKnown old w
has_before old new w keeps has = λ place r knows. has place r (keeps.knows place r knows)

-- the same of what solves it
solves_before : (P : NamedProgram) (old new : Seen) (w : Words) (t : Substitution) → Keeps old new → SolvesKnown P w new t → SolvesKnown P w old t
solves_before P old new w t keeps solves = λ place r knows. solves place r (keeps.knows place r knows)

-- Cells that were set by one call and by a next one are listed once each.
pub lists_then : (first mid now : Seen) (began bound further : List ℕ) → Keeps first mid → Keeps mid now → Lists first mid began bound
    → Lists mid now bound further → Lists first now began further
lists_then first mid now began bound further one two a b =
    let apart : (n : ℕ) → WasSet first mid n → All (λ m. n ≢ m) b.gained =
    λ n was. All-weaker (WasSet mid now) (λ m. n ≢ m) (λ m is e. is.not_known was.value (subst (λ x. Knows mid x was.value) e was.known)) b.gained b.were_set in
    let late : (cell : ℕ) → WasSet mid now cell → WasSet first now cell = λ cell was. record {
      below = subst (λ n. cell < n) one.words was.below;
      not_known = λ r knows. was.not_known r (one.knows cell r knows);
      value = was.value;
      known = was.known;
    } in record {
      gained = a.gained ++ b.gained;
      listed = b.listed ∙ ap (λ xs. xs ++ b.gained) a.listed ∙ append_assoc began a.gained b.gained;
      once = all_pairs_join (λ n m. n ≢ m) a.gained b.gained a.once b.once
          (All-weaker (WasSet first mid) (λ n. All (λ m. n ≢ m) b.gained) apart a.gained a.were_set);
      were_set = All-append (WasSet first now) a.gained b.gained
          (All-weaker (WasSet first mid) (WasSet first now) (later_set first mid now two.knows) a.gained a.were_set)
          (All-weaker (WasSet mid now) (WasSet first now) late b.gained b.were_set);
    }

-- A place that the sides of what is left lead to, with what is known since, is one that all sides lead to.
place_then : (P : NamedProgram) (first mid : Seen) (asked left : List Pair) (bound : List ℕ) (r : Ref) → LeadOnFrom P first left asked
    → SetPlaces P first mid asked bound → IsPlace P mid (sides left) r → IsPlace P first (sides asked) r
place_then P first mid asked left bound r among sets (root q at) = among q at
place_then P first mid asked left bound r among sets (set cell q at knows) = elim (sets cell q knows) [
  | inl before ↦ set cell q (place_then P first mid asked left bound (Cell cell) among sets at) before
  | inr is ↦ is.1
]
place_then P first mid asked left bound r among sets (part node base q at within) =
    part node base q (place_then P first mid asked left bound (Node node base) among sets at) within

-- So all that was set is set to such places.
sets_on : (P : NamedProgram) (first mid now : Seen) (asked left : List Pair) (bound further : List ℕ) → LeadOnFrom P first left asked
    → Lists mid now bound further
    → SetPlaces P first mid asked bound → SetPlaces P mid now left further → SetPlaces P first now asked further
sets_on P first mid now asked left bound further leads lists one two place r knows = elim (two place r knows) [
  | inl known ↦ elim (one place r known) [
    | inl before ↦ inl before
    | inr is ↦ inr (subst (λ xs. Contains xs place) (sym lists.listed) (Contains-append_left bound lists.gained place is.0), is.1)
  ]
  | inr is ↦ inr (is.0, place_then P first mid asked left bound r leads one is.1)
]

-- where the row is told
pub sets_then : (P : NamedProgram) (first mid now : Seen) (asked left : List Pair) (bound further : List ℕ) → Descends P first mid asked left
    → Lists mid now bound further
    → IfSome first.told (λ row. SetPlaces P first mid asked bound) → IfSome mid.told (λ row. SetPlaces P mid now left further)
    → IfSome first.told (λ row. SetPlaces P first now asked further)
sets_then P first mid now asked left bound further d lists one two = by_row first.told mid.told refl refl d.told_leads one two
  where
    by_row : (o m : Option (List Ref)) → first.told ≡ o → mid.told ≡ m → IfSome o (λ row. LeadOnFrom P first left asked)
        → IfSome o (λ row. SetPlaces P first mid asked bound) → IfSome m (λ row. SetPlaces P mid now left further)
        → IfSome o (λ row. SetPlaces P first now asked further)
    by_row None m was is leads one two = tt
    by_row (Some row) None was is leads one two = absurd (true≢false (sym (ap is_some was) ∙ d.told.1 (ap is_some is)))
    by_row (Some row) (Some later) was is leads one two = sets_on P first mid now asked left bound further leads lists one two

-- What was set by both follows.
follows_then : (P : NamedProgram) (old mid new : Seen) (asked left : List Pair) → Keeps mid new → Descends P old mid asked left → Follows P left mid new
    → Follows P asked old new
follows_then P old mid new asked left keeps d two = by_row old.told mid.told refl refl d.follows two
  where
    by_row : (o m : Option (List Ref)) → old.told ≡ o → mid.told ≡ m → MatchOption o (OwnFollow P asked old mid) (λ (row : List Ref). NewFollow P asked old mid)
        → MatchOption m (OwnFollow P left mid new) (λ (row : List Ref). NewFollow P left mid new)
        → MatchOption o (OwnFollow P asked old new) (λ (row : List Ref). NewFollow P asked old new)
    by_row None None was is one two = follow_on P asked left old mid new keeps is d.still_asked one two
    by_row None (Some later) was is one two = absurd (true≢false (sym (ap is_some is) ∙ d.told.0 (ap is_some was)))
    by_row (Some row) None was is one two = absurd (true≢false (sym (ap is_some was) ∙ d.told.1 (ap is_some is)))
    by_row (Some row) (Some later) was is one two = λ w has t solves asks.
        let has_mid = has_before mid new w keeps has in
        let solves_mid = one w has_mid t solves asks in
        two w has t solves_mid (d.still_asked w has_mid t solves_mid asks)

-- A place of roots that are places is one.
place_over : (P : NamedProgram) (s : Seen) (roots tops : List Ref) (r : Ref) → ((q : Ref) → Contains roots q → IsPlace P s tops q) → IsPlace P s roots r
    → IsPlace P s tops r
place_over P s roots tops r each (root q at) = each q at
place_over P s roots tops r each (set cell q at knows) = set cell q (place_over P s roots tops (Cell cell) each at) knows
place_over P s roots tops r each (part node base q at within) = part node base q (place_over P s roots tops (Node node base) each at) within

-- A place that what is left leads to is one that all pairs lead to, as more is known.
place_after : (P : NamedProgram) (mid new : Seen) (roots tops : List Ref) (r : Ref) → Keeps mid new → ((q : Ref) → Contains roots q → IsPlace P mid tops q)
    → IsPlace P new roots r → IsPlace P new tops r
place_after P mid new roots tops r keeps each at = place_over P new roots tops r (λ q among. place_later P mid new tops q keeps.knows (each q among)) at

-- So are so many of them.
places_after : (P : NamedProgram) (mid new : Seen) (roots tops : List Ref) (count : ℕ) → Keeps mid new → ((q : Ref) → Contains roots q → IsPlace P mid tops q)
    → Places P new roots count → Places P new tops count
places_after P mid new roots tops count keeps each are = record {
  places = are.places;
  distinct = are.distinct;
  of_roots = All-weaker (IsPlace P new roots) (IsPlace P new tops) (λ r at. place_after P mid new roots tops r keeps each at) are.places are.of_roots;
  counted = are.counted;
}

-- What is taken of the fuel for what is left is taken for all pairs,
pub spends_then : (P : NamedProgram) (old mid new : Seen) (asked left after : List Pair) (fuel rest : ℕ) (answer : Unified) → Keeps mid new
    → Descends P old mid asked left
    → Spends P new left after fuel rest answer → Spends P new asked after fuel rest answer
spends_then P old mid new asked left after fuel rest answer keeps d s = record {
  spent = λ some. let (count, taken, are) = s.spent some in (count, taken, places_after P mid new (left_sides left) (left_sides asked) count keeps d.lefts are);
  put_off = λ is. let (none, some, are) =
      s.put_off is in (none, some, places_after P mid new (left_sides left) (left_sides asked) (suc fuel) keeps d.lefts are);
}

-- and where none is left, none is taken.
pub spends_nothing : (P : NamedProgram) (new : Seen) (asked left : List Pair) (fuel : ℕ) (answer : Unified) → answer ≢ PutOff
    → Spends P new asked left fuel fuel answer
spends_nothing P new asked left fuel answer not_off = record {
  spent = λ some. (
    0,
    omega arith,
    record {
      places = [];
      distinct = all_pairs_none (λ (r q : Ref). r ≢ q);
      of_roots = All-nil (IsPlace P new (left_sides asked));
      counted = refl;
    },
  );
  put_off = λ is. absurd (not_off is);
}

-- And all pairs are unified.
pub unifies_then : (P : NamedProgram) (old mid new : Seen) (asked left rest : List Pair) (answer : Unified) → AreInRange P old.words asked → Keeps mid new
    → Descends P old mid asked left → Unifies P mid new left rest answer
    → ((answer ≡ Same) ⊎ (answer ≡ PutOff) → Suffice P new rest left) → Unifies P old new asked rest answer
unifies_then P old mid new asked left rest answer range keeps d u suffice = record {
  follows = follows_then P old mid new asked left keeps d u.follows;
  same = u.same;
  equal = λ ended w has whole t solves asks.
      let ones = suffice ended w has t solves (one_value_where_solved P w t rest asks) in
      solved_where_one_value P old.words w t asked range whole (d.suffice w (has_before mid new w keeps has) t (solves_before P mid new w t keeps solves) ones);
  still_asked = λ ended w has t solves asks.
      u.still_asked ended w has t solves (d.still_asked w (has_before mid new w keeps has) t (solves_before P mid new w t keeps solves) asks);
  in_range = u.in_range;
  apart = λ one other ended. (
    (u.apart one other ended).0,
    λ w has t solves asks.
        (u.apart one other ended).1 w has t solves (d.still_asked w (has_before mid new w keeps has) t (solves_before P mid new w t keeps solves) asks),
  );
  apart_at = λ one other ended. let (first, second) = u.apart_at one other ended in (
    place_after P mid new (sides left) (sides asked) one keeps d.leads first,
    place_after P mid new (sides left) (sides asked) other keeps d.leads second,
  );
}
