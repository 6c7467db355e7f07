-- Tables that are filled by one addition after the other.
use Rattle.std.proofs.Common.{◌≡◌, ◌≢◌, ◌<◌, ◌≤◌, ◌+◌, ℕ, Bool, true, false, List, [], ◌∷◌, ◌++◌, length, get_or, drop, cond, refl, ap}
use Rattle.std.proofs.Common.{sym, subst, ◌∙◌, arith}
use Rattle.std.specs.Prelude.{Contains}
use Rattle.std.specs.List.{list_any}
use Rattle.std.proofs.lemmas.List.{append-nil, append_assoc, drop_more, length_push}
use Rattle.std.proofs.lemmas.Bool.{true≢false}
use Rattle.std.proofs.lemmas.Map.Views.{Contains-from_any}
use Rattle.and_model.specs.declared.numbers.ClauseNo.{ClauseNo}
use Rattle.and_first_argument.specs.Keys.{same_key}
use Rattle.and_first_argument.specs.Tables.{Table, empty, under, keys_with, AddsUnder}
use Rattle.and_first_argument.specs.Additions.{picked, keys_after, key_count, Adds}
use Rattle.and_first_argument.specs.declared.key.Key.{Key}
use Rattle.and_first_argument.specs.declared.first_arguments.Addition.{Addition}
use Rattle.and_first_argument.specs.declared.first_arguments.Addition.TheVariants.{Under, Any}
use Rattle.and_first_argument.proofs.KeysLemmas.{same_key-true, same_key-same}

-- with what is left to be added the table has what all additions give
pub record Fills (table : Table) (left all : List Addition) : Type 0 where
  pub keys : keys_after table.keys left ≡ keys_after [] all
  pub picks : (key : Key) → under table key ++ picked key left ≡ picked key all

pub fills_none : (all : List Addition) → Fills empty all all
fills_none all = record { keys = refl; picks = λ key. refl }

pub fills_all : (table : Table) (all : List Addition) → Fills table [] all → (key : Key) → under table key ≡ picked key all
fills_all table all fills key = sym (append-nil (under table key)) ∙ fills.picks key

-- one addition, on what is under one key
picks_under : (key held : Key) (clause : ClauseNo) (old new : Table) (more : List ClauseNo) → AddsUnder held clause old new
    → under new key ++ more ≡ under old key ++ cond (same_key key held) (clause ∷ more) more
picks_under key held clause old new more adds = by_test (same_key key held) refl
  where
    by_test : (t : Bool) → same_key key held ≡ t → under new key ++ more ≡ under old key ++ cond t (clause ∷ more) more
    by_test true is =
        let same : key ≡ held = same_key-true key held is in
        let here : under new key ≡ under old key ++ clause ∷ [] =
        ap (under new) same ∙ adds.here ∙ ap (λ (k : Key). under old k ++ clause ∷ []) (sym same) in
        ap (λ (list : List ClauseNo). list ++ more) here ∙ append_assoc (under old key) (clause ∷ []) more
    by_test false is =
        let apart : key ≢ held = λ same. true≢false (sym (ap (same_key key) (sym same) ∙ same_key-same key) ∙ is) in
        ap (λ (list : List ClauseNo). list ++ more) (adds.elsewhere key apart)

pub fills_more : (addition : Addition) (old new : Table) (left all : List Addition) → Adds addition old new
    → Fills old (addition ∷ left) all → Fills new left all
fills_more (Under held clause) old new left all adds fills = record {
  keys = ap (λ (ks : List Key). keys_after ks left) adds.keys ∙ fills.keys;
  picks = λ key. picks_under key held clause old new (picked key left) adds ∙ fills.picks key;
}
fills_more (Any clause) old new left all adds fills = record {
  keys = ap (λ (ks : List Key). keys_after ks left) adds.keys ∙ fills.keys;
  picks = λ key. ap (λ (list : List ClauseNo). list ++ picked key left) (adds.each key)
      ∙ append_assoc (under old key) (clause ∷ []) (picked key left) ∙ fills.picks key;
}

-- a loop's step over a list of additions
pub fills_step : (all : List Addition) (i : ℕ) (d : Addition) (old new : Table) → i < length all → Adds (get_or all i d) old new
    → Fills old (drop i all) all → Fills new (drop (i + 1) all) all
fills_step all i d old new below adds fills =
    fills_more (get_or all i d) old new (drop (i + 1) all) all adds
    (subst (λ (left : List Addition). Fills old left all) (drop_more all i d below) fills)

-- and of the keys alone
pub keys_step : (all : List Addition) (i : ℕ) (d : Addition) (old new : List Key) → i < length all
    → new ≡ keys_after old (get_or all i d ∷ [])
    → keys_after old (drop i all) ≡ keys_after [] all → keys_after new (drop (i + 1) all) ≡ keys_after [] all
keys_step all i d old new below is so_far =
    ap (λ (ks : List Key). keys_after ks (drop (i + 1) all)) is ∙ one_then_more (get_or all i d) old (drop (i + 1) all)
    ∙ sym (ap (keys_after old) (drop_more all i d below)) ∙ so_far
  where
    one_then_more : (addition : Addition) (keys : List Key) (left : List Addition)
        → keys_after (keys_after keys (addition ∷ [])) left ≡ keys_after keys (addition ∷ left)
    one_then_more (Under key clause) keys left = refl
    one_then_more (Any clause) keys left = refl

-- additions take no key away
more_keys : (keys : List Key) (additions : List Addition) → length keys ≤ length (keys_after keys additions)
more_keys keys [] = omega arith
more_keys keys (Under key clause ∷ more) = let rest = more_keys (keys_with keys key) more in with_one (list_any (same_key key) keys) rest
  where
    with_one : (b : Bool) → length (cond b keys (keys ++ key ∷ [])) ≤ length (keys_after (keys_with keys key) more)
        → length keys ≤ length (keys_after (keys_with keys key) more)
    with_one true rest = rest
    with_one false rest = omega (arith, length_push keys key)
more_keys keys (Any clause ∷ more) = more_keys keys more

-- so the keys with one addition are no more than all
one_more : (keys : List Key) (addition : Addition) (left : List Addition)
    → length (keys_after keys (addition ∷ [])) ≤ length (keys_after keys (addition ∷ left))
one_more keys (Under key clause) left = more_keys (keys_with keys key) left
one_more keys (Any clause) left = more_keys keys left

pub room_for_one : (all : List Addition) (i : ℕ) (d : Addition) (table : Table) (width : ℕ) → i < length all
    → Fills table (drop i all) all → key_count all ≤ width
    → length (keys_after table.keys (get_or all i d ∷ [])) ≤ width
room_for_one all i d table width below fills few =
    let left : List Addition = drop (i + 1) all in
    let kept : List Key = keys_after table.keys (get_or all i d ∷ left) in
    let opened : kept ≡ keys_after table.keys (drop i all) = sym (ap (keys_after table.keys) (drop_more all i d below)) in
    let same : length kept ≡ key_count all = ap length (opened ∙ fills.keys) in
    let within : length (keys_after table.keys (get_or all i d ∷ [])) ≤ length kept = one_more table.keys (get_or all i d) left in
    omega arith

-- a table that has room for a key is not full without it
pub not_full : (keys : List Key) (key : Key) (width : ℕ) → length (keys_with keys key) ≤ width → length keys ≡ width
    → (Contains keys key → ⊥) → ⊥
not_full keys key width fits full fresh = by_test (list_any (same_key key) keys) refl fits
  where
    by_test : (b : Bool) → list_any (same_key key) keys ≡ b → length (cond b keys (keys ++ key ∷ [])) ≤ width → ⊥
    by_test true among within = fresh (Contains-from_any same_key-true key keys among)
    by_test false among within = absurd (omega (arith, length_push keys key))
