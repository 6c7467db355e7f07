-- What an addition to a table's lists does under each key.
use Rattle.std.proofs.Common.{◌≡◌, ◌≢◌, ◌<◌, ℕ, List, [], ◌∷◌, ◌++◌, length, get_or, Option, Some, None, cond, refl, ap, sym, subst}
use Rattle.std.proofs.Common.{◌∙◌, arith}
use Rattle.std.specs.Prelude.{position}
use Rattle.std.specs.List.{list_any}
use Rattle.std.proofs.lemmas.List.{get_or-set_same, get_or-set_other, get_or_default, get_or_push, get_or_append_left, get_or-map}
use Rattle.and_model.specs.declared.numbers.ClauseNo.{ClauseNo}
use Rattle.and_first_argument.specs.Keys.{same_key}
use Rattle.and_first_argument.specs.Lists.{Lists, list_at, with_clause, with_row, with_everywhere}
use Rattle.and_first_argument.specs.Tables.{Table, HasRows, under, AddsUnder, AddsEverywhere}
use Rattle.and_first_argument.specs.declared.key.Key.{Key}
use Rattle.and_first_argument.proofs.KeysLemmas.{same_key-same, same_key-other, placed, placed_last, placed_as_before, found_among, not_among}

pub adds_to_row : (table : Table) (key : Key) (clause : ClauseNo) (place : ℕ) → HasRows table
    → position (same_key key) table.keys ≡ Some place
    → AddsUnder key clause table (record table { lists = with_clause table.lists place clause })
adds_to_row table key clause place has is = record { here = here; elsewhere = elsewhere; keys = kept }
  where
    at : (place < length table.keys) × (key ≡ get_or table.keys place key)
    at = placed table.keys key place is

    here : list_at (with_clause table.lists place clause) (position (same_key key) table.keys) ≡ under table key ++ clause ∷ []
    here =
        let below : place < length table.lists.rows = let within = at.0 in omega arith in
        ap (list_at (with_clause table.lists place clause)) is ∙ get_or-set_same table.lists.rows place _ [] below
        ∙ ap (λ (o : Option ℕ). list_at table.lists o ++ clause ∷ []) (sym is)

    apart : (other : Key) → other ≢ key → (q : ℕ) → position (same_key other) table.keys ≡ Some q → q ≢ place
    apart other differs q found same =
        let there = placed table.keys other q found in
        differs (there.1 ∙ ap (λ (n : ℕ). get_or table.keys n other) same ∙ get_or_default table.keys place other key at.0 ∙ sym at.1)

    elsewhere : (other : Key) → other ≢ key
        → list_at (with_clause table.lists place clause) (position (same_key other) table.keys) ≡ under table other
    elsewhere other differs = by_place (position (same_key other) table.keys) (apart other differs)
      where
        by_place : (o : Option ℕ) → ((q : ℕ) → o ≡ Some q → q ≢ place)
            → list_at (with_clause table.lists place clause) o ≡ list_at table.lists o
        by_place None others = refl
        by_place (Some q) others = get_or-set_other table.lists.rows place q _ [] (others q refl)

    kept : table.keys ≡ cond (list_any (same_key key) table.keys) table.keys (table.keys ++ key ∷ [])
    kept = sym (ap (λ b. cond b table.keys (table.keys ++ key ∷ [])) (found_among table.keys key place is))

pub adds_row : (table : Table) (key : Key) (clause : ClauseNo) → HasRows table → position (same_key key) table.keys ≡ None
    → AddsUnder key clause table (record { keys = table.keys ++ key ∷ []; lists = with_row table.lists clause })
adds_row table key clause has absent = record { here = here; elsewhere = elsewhere; keys = kept }
  where
    here : list_at (with_row table.lists clause) (position (same_key key) (table.keys ++ key ∷ [])) ≡ under table key ++ clause ∷ []
    here =
        ap (list_at (with_row table.lists clause)) (placed_last (same_key key) table.keys key absent (same_key-same key))
        ∙ get_or_push table.lists.rows _ [] (length table.keys) has
        ∙ ap (λ (o : Option ℕ). list_at table.lists o ++ clause ∷ []) (sym absent)

    elsewhere : (other : Key) → other ≢ key
        → list_at (with_row table.lists clause) (position (same_key other) (table.keys ++ key ∷ [])) ≡ under table other
    elsewhere other differs =
        ap (list_at (with_row table.lists clause)) (placed_as_before (same_key other) table.keys key (same_key-other other key differs))
        ∙ by_place (position (same_key other) table.keys) (λ q found. let within = (placed table.keys other q found).0 in omega arith)
      where
        by_place : (o : Option ℕ) → ((q : ℕ) → o ≡ Some q → q < length table.lists.rows)
            → list_at (with_row table.lists clause) o ≡ list_at table.lists o
        by_place None below = refl
        by_place (Some q) below = get_or_append_left table.lists.rows _ [] q (below q refl)

    kept : table.keys ++ key ∷ [] ≡ cond (list_any (same_key key) table.keys) table.keys (table.keys ++ key ∷ [])
    kept = sym (ap (λ b. cond b table.keys (table.keys ++ key ∷ [])) (not_among (same_key key) table.keys absent))

pub adds_everywhere : (table : Table) (clause : ClauseNo) → HasRows table
    → AddsEverywhere clause table (record table { lists = with_everywhere table.lists clause })
adds_everywhere table clause has = record { each = each; keys = refl }
  where
    each : (key : Key) → list_at (with_everywhere table.lists clause) (position (same_key key) table.keys) ≡ under table key ++ clause ∷ []
    each key = by_place (position (same_key key) table.keys) (λ q found. let within = (placed table.keys key q found).0 in omega arith)
      where
        by_place : (o : Option ℕ) → ((q : ℕ) → o ≡ Some q → q < length table.lists.rows)
            → list_at (with_everywhere table.lists clause) o ≡ list_at table.lists o ++ clause ∷ []
        by_place None below = refl
        by_place (Some q) below = get_or-map (λ list. list ++ clause ∷ []) table.lists.rows q [] [] (below q refl)

-- the same, of a table whose parts a function has changed
pub clause_added : (key : Key) (clause : ClauseNo) (table old : Table) (place : ℕ) (lists : Lists) → table ≡ old → HasRows table
    → position (same_key key) table.keys ≡ Some place
    → lists ≡ with_clause table.lists place clause → AddsUnder key clause old (record { keys = table.keys; lists = lists })
clause_added key clause table old place lists view has is changed =
    rw changed (subst (λ (t : Table). AddsUnder key clause t (record { keys = table.keys; lists = with_clause table.lists place clause }))
    view (adds_to_row table key clause place has is))

pub row_added : (key : Key) (clause : ClauseNo) (table old : Table) (keys : List Key) (lists : Lists) → table ≡ old → HasRows table
    → position (same_key key) old.keys ≡ None
    → keys ≡ table.keys ++ key ∷ [] → lists ≡ with_row table.lists clause → AddsUnder key clause old (record { keys = keys; lists = lists })
row_added key clause table old keys lists view has absent longer changed =
    let none : position (same_key key) table.keys ≡ None = ap (λ (t : Table). position (same_key key) t.keys) view ∙ absent in
    rw (longer, changed)
    (subst (λ (t : Table). AddsUnder key clause t (record { keys = table.keys ++ key ∷ []; lists = with_row table.lists clause }))
    view (adds_row table key clause has none))
