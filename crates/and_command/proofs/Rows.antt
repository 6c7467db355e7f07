-- Rows of matches, one for each argument.
use Rattle.std.proofs.Common.{◌≡◌, Bool, true, false, if◌then◌else◌, cond, ◌||◌, List, [], ◌∷◌, ◌++◌, Option, Some, None, find, refl, ap, ◌∙◌}
use Rattle.std.specs.Str.{bytes_eq}
use Rattle.clap.specs.Walk.{Text, Row, at_row, with_values, without, has_row, more_values}
use Rattle.clap.specs.declared.builder.value_parser.Reading.{Reading}
use Rattle.clap.specs.declared.parser.matches.ValueSource.{ValueSource}

-- the row of an argument
abbrev pub look : Text → List Row → Option Row
look id rows = find (λ (r : Row). bytes_eq r.id id) rows

abbrev pub new_row : Text → Reading → ValueSource → Text → Row
new_row id how s v = record { id = id; values = v ∷ []; count = None; source = Some s; reading = how }

-- where there is no row, one comes at the end
pub new_at_end : (id : Text) (change : Row → List Row) (missing rows : List Row) → look id rows ≡ None
    → at_row id change missing rows ≡ rows ++ missing
new_at_end id change missing [] none = refl
new_at_end id change missing (r ∷ rs) none = by (bytes_eq r.id id) none (new_at_end id change missing rs)
  where
    by : (b : Bool) → cond b (Some r) (look id rs) ≡ None → (look id rs ≡ None → at_row id change missing rs ≡ rs ++ missing)
        → (if b then change r ++ rs else r ∷ at_row id change missing rs) ≡ r ∷ rs ++ missing
    by true none rest = absurd (cc)
    by false none rest = ap (λ x. r ∷ x) (rest none)

no_end : (rows : List Row) → rows ++ [] ≡ rows
no_end [] = refl
no_end (r ∷ rs) = ap (λ x. r ∷ x) (no_end rs)

pub entered_is : (id : Text) (how : Reading) (s : ValueSource) (v : Text) (rows : List Row) → look id rows ≡ None
    → with_values id how s (v ∷ []) (without id rows) ≡ rows ++ new_row id how s v ∷ []
entered_is id how s v rows none =
    let same : without id rows ≡ rows = new_at_end id (λ _. []) [] rows none ∙ no_end rows in
    ap (with_values id how s (v ∷ [])) same ∙ new_at_end id (more_values s (v ∷ [])) (new_row id how s v ∷ []) rows none

pub no_row : (id : Text) (rows : List Row) → look id rows ≡ None → has_row id rows ≡ false
no_row id [] none = refl
no_row id (r ∷ rs) none = by (bytes_eq r.id id) none (no_row id rs)
  where
    by : (b : Bool) → cond b (Some r) (look id rs) ≡ None → (look id rs ≡ None → has_row id rs ≡ false) → (b || has_row id rs) ≡ false
    by true none rest = absurd (cc)
    by false none rest = rest none

pub a_row : (id : Text) (rows : List Row) (x : Row) → look id rows ≡ Some x → has_row id rows ≡ true
a_row id [] x some = absurd (cc)
a_row id (r ∷ rs) x some = by (bytes_eq r.id id) some (a_row id rs x)
  where
    by : (b : Bool) → cond b (Some r) (look id rs) ≡ Some x → (look id rs ≡ Some x → has_row id rs ≡ true) → (b || has_row id rs) ≡ true
    by true some rest = refl
    by false some rest = rest some

-- a row at the end is found where there was none, and changes nothing of other arguments
pub look_new : (id : Text) (rows : List Row) (x : Row) → look id rows ≡ None → look id (rows ++ x ∷ []) ≡ look id (x ∷ [])
look_new id [] x none = refl
look_new id (r ∷ rs) x none = by (bytes_eq r.id id) none (look_new id rs x)
  where
    by : (b : Bool) → cond b (Some r) (look id rs) ≡ None → (look id rs ≡ None → look id (rs ++ x ∷ []) ≡ look id (x ∷ []))
        → cond b (Some r) (look id (rs ++ x ∷ [])) ≡ look id (x ∷ [])
    by true none rest = absurd (cc)
    by false none rest = rest none

pub look_old : (id : Text) (rows : List Row) (x : Row) → look id (x ∷ []) ≡ None → look id (rows ++ x ∷ []) ≡ look id rows
look_old id [] x none = none
look_old id (r ∷ rs) x none = by (bytes_eq r.id id) (look_old id rs x none)
  where
    by : (b : Bool) → look id (rs ++ x ∷ []) ≡ look id rs → cond b (Some r) (look id (rs ++ x ∷ [])) ≡ cond b (Some r) (look id rs)
    by true rest = refl
    by false rest = rest
