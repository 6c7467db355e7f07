-- What was found in any order, put in the order of codes, is the listing.
use Rattle.std.proofs.Common.{ℕ, ◌≡◌, ◌≢◌, Bool, true, false, ◌&&◌, List, refl, sym, ap, ◌∙◌, true≢false, arith, AllPairs}
use Rattle.std.specs.Prelude.{nat_eq}
use Rattle.std.specs.Cmp.Lexicographic.{pointwise, bytes_decides}
use Rattle.and_model.specs.Programs.{Program}
use Rattle.and_model.specs.Trees.{query_agenda, blank}
use Rattle.and_model.specs.Listing.{Outcome, answer, floundered, Entry, Listing}
use Rattle.and_model.proofs.Tested.{first_true, second_true}
use Rattle.and_laws.specs.CodeOrder.{Before}
use Rattle.and_walk_laws.specs.Walks.{Walks}
use Rattle.and_walk_laws.proofs.Rising.{walked_in_order, walked_once}
use Rattle.and_team_laws.specs.Owed.{SameItems}
use Rattle.and_team_laws.proofs.Counted.{same_contained}
use Rattle.and_team_laws.proofs.Once.{at_item_key, once_counts, counts_once}

-- whether two entries are the same
abbrev is_outcome : Outcome → Outcome → Bool
is_outcome (answer a) (answer b) = pointwise nat_eq a b
is_outcome (answer a) (floundered b) = false
is_outcome (floundered a) (answer b) = false
is_outcome (floundered a) (floundered b) = pointwise nat_eq a b

same_outcome : (x y : Outcome) → is_outcome x y ≡ true → x ≡ y
same_outcome (answer a) (answer b) is = ap answer ((bytes_decides a b).0 is)
same_outcome (answer a) (floundered b) is = absurd (true≢false (sym is))
same_outcome (floundered a) (answer b) is = absurd (true≢false (sym is))
same_outcome (floundered a) (floundered b) is = ap floundered ((bytes_decides a b).0 is)

own_outcome : (x : Outcome) → is_outcome x x ≡ true
own_outcome (answer a) = (bytes_decides a a).1 refl
own_outcome (floundered a) = (bytes_decides a a).1 refl

abbrev is_entry : Entry → Entry → Bool
is_entry x y = pointwise nat_eq x.code y.code && is_outcome x.outcome y.outcome

same_entry : (x y : Entry) → is_entry x y ≡ true → x ≡ y
same_entry x y is =
    let codes : x.code ≡ y.code = (bytes_decides x.code y.code).0 (first_true (pointwise nat_eq x.code y.code) (is_outcome x.outcome y.outcome) is) in
    let outcomes : x.outcome ≡ y.outcome =
    same_outcome x.outcome y.outcome (second_true (pointwise nat_eq x.code y.code) (is_outcome x.outcome y.outcome) is) in
    ap (λ c. record { code = c; outcome = x.outcome }) codes ∙ ap (λ o. record { code = y.code; outcome = o }) outcomes

own_entry : (x : Entry) → is_entry x x ≡ true
own_entry x = ap (λ b. b && is_outcome x.outcome x.outcome) ((bytes_decides x.code x.code).1 refl) ∙ own_outcome x.outcome

abbrev code_of : Entry → List ℕ
code_of e = e.code

module _ (P : Program) (limit : ℕ) (all entries : List Entry) (f m : ℕ) (b : Bool) (w : Walks P limit (blank (query_agenda P)) all f m b)
    (same : SameItems all entries) where
  pub any_order_once : AllPairs (λ (x y : Entry). x.code ≢ y.code) entries
  any_order_once = counts_once code_of entries
      (λ c. omega (arith, once_counts code_of all (walked_once P limit (blank (query_agenda P)) all f m b w) c, same (at_item_key code_of c)))

  pub any_order_listing : AllPairs Before entries → Listing P limit entries
  any_order_listing order = walked_in_order P limit all entries f m b w order (same_contained is_entry same_entry own_entry all entries same)
