-- The query's variables that a line shows, one after another.
use Rattle.std.proofs.Common.{ℕ, suc, ◌≡◌, ◌+◌, ◌<◌, ◌≤◌, Bool, true, false, cond, List, [], ◌∷◌, ◌++◌, length, drop, map, get_or, refl, sym, ap, ◌∙◌, codes}
use Rattle.std.proofs.Common.{append-nil, add-one}
use Rattle.std.proofs.lemmas.List.{drop_more, drop_all}
use Rattle.and_model.specs.Terms.{Term, Substitution}
use Rattle.and_model.specs.Lines.{Bytes, begins_underscore, shown_variables, shown_value, variables_along, values_or_true, first_seen}
use Rattle.and_print.specs.Writing.{Variable, Named, Writes}
use Rattle.and_print.proofs.Joining.{Left, each_after, values_each, left_none}

abbrev pub Shown : Type 0
Shown = Bytes × ℕ

-- the variables from number n on
pub shown_from : (names : List Bytes) (n : ℕ) → List Shown
shown_from names n = shown_variables n (drop n names)

module _ (names : List Bytes) (n : ℕ) (name : Bytes) (lt : n < length names) (is : name ≡ get_or names n []) where
  opened : drop n names ≡ name ∷ drop (n + 1) names
  opened = drop_more names n [] lt ∙ ap (λ (bs : Bytes). bs ∷ drop (n + 1) names) (sym is)

  one_further : shown_variables (suc n) (drop (n + 1) names) ≡ shown_from names (n + 1)
  unfolding shown_from
  one_further = ap (λ (k : ℕ). shown_variables k (drop (n + 1) names)) (sym (add-one n))

  by_name : shown_from names n ≡ cond (begins_underscore name) (shown_from names (n + 1)) ((name, n) ∷ shown_from names (n + 1))
  unfolding shown_from
  by_name = ap (shown_variables n) opened ∙ ap (λ (vs : List Shown). cond (begins_underscore name) vs ((name, n) ∷ vs)) one_further

  pub passed_over : (b : Bool) → b ≡ begins_underscore name → b ≡ true → shown_from names n ≡ shown_from names (n + 1)
  passed_over b e h = by_name ∙ ap (λ (x : Bool). cond x (shown_from names (n + 1)) ((name, n) ∷ shown_from names (n + 1))) (sym e ∙ h)

  pub shown_here : (b : Bool) → b ≡ begins_underscore name → b ≡ false → shown_from names n ≡ (name, n) ∷ shown_from names (n + 1)
  shown_here b e h = by_name ∙ ap (λ (x : Bool). cond x (shown_from names (n + 1)) ((name, n) ∷ shown_from names (n + 1))) (sym e ∙ h)

pub shown_all : (names : List Bytes) → shown_from names 0 ≡ shown_variables 0 names
unfolding shown_from
shown_all names = refl

pub shown_end : (names : List Bytes) (n : ℕ) → length names ≤ n → shown_from names n ≡ []
unfolding shown_from
shown_end names n le = ap (shown_variables n) (drop_all n names le)

-- whether nothing was written before these
abbrev pub IsStill : Bool → (all rest : List Shown) → Type 0
IsStill true all rest = rest ≡ all
IsStill false all rest = (v : Shown) × (vs : List Shown) × (all ≡ v ∷ vs)

pub still_later : (b : Bool) (all rest next : List Shown) (v : Shown) → IsStill b all rest → rest ≡ v ∷ next → IsStill false all next
still_later true all rest next v s e = (v, next, sym s ∙ e)
still_later false all rest next v s e = s

module _ (P : List Bytes) (s : Substitution) where
  abbrev pub value_of : Shown → Term
  value_of v = s [] v.1

  abbrev pub value_text : Shown → Named
  value_text v vs = shown_value P vs s v

  -- a line that shows some variables
  pub some_written : (all : List Shown) (sep : Bytes) (seen now : List Variable) (old new : Bytes) → IsStill false all []
      → Left value_of value_text [] all [] sep seen now old new
      → Writes (variables_along (map value_of all)) (λ vs. values_or_true (map (shown_value P vs s) all)) seen now old new
  some_written all sep seen now old new (v, vs, e) l =
      let w = left_none value_of value_text [] all sep seen now old new l in
      record {
        seen_now = w.seen_now;
        written = λ later.
            let ws : List Variable = first_seen now later in
            let same : values_or_true (map (shown_value P ws s) all) ≡ each_after [] (map (λ x. value_text x ws) all) =
            ap (λ (xs : List Shown). values_or_true (map (shown_value P ws s) xs)) e ∙ values_each (shown_value P ws s v) (map (shown_value P ws s) vs)
            ∙ sym (ap (λ (xs : List Shown). each_after [] (map (λ x. value_text x ws) xs)) e) in
            w.written later ∙ ap (λ (bs : Bytes). old ++ bs) (sym same);
      }

  -- and one that shows none
  pub none_written : (all : List Shown) (sep : Bytes) (seen now : List Variable) (old middle new : Bytes) → IsStill true all []
      → Left value_of value_text [] all [] sep seen now old middle → new ≡ middle ++ codes "true"
      → Writes (variables_along (map value_of all)) (λ vs. values_or_true (map (shown_value P vs s) all)) seen now old new
  none_written all sep seen now old middle new still l e =
      let w = left_none value_of value_text [] all sep seen now old middle l in
      record {
        seen_now = w.seen_now;
        written = λ later.
            let ws : List Variable = first_seen now later in
            let none : middle ≡ old = w.written later ∙ ap (λ (xs : List Shown). old ++ each_after [] (map (λ x. value_text x ws) xs)) (sym still)
            ∙ append-nil old in
            e ∙ ap (λ (bs : Bytes). bs ++ codes "true") none ∙ ap (λ (xs : List Shown). old ++ values_or_true (map (shown_value P ws s) xs)) still;
      }
