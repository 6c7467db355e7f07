-- Where the names of disjunctions stand.
use Rattle.std.specs.Prelude.{ℕ, zero, suc, List, [], ◌∷◌, map}
use Rattle.and_model.specs.Lines.{Bytes}
use Rattle.and_model.specs.declared.numbers.NameNo.{NameNo}
use Rattle.and_syntax.specs.Written.{place}
use Rattle.and_syntax.specs.Tables.{disjunction_name}

-- the numbers of the names of n disjunctions from d on, among these names
abbrev pub places_from : List Bytes → (d n : ℕ) → List ℕ
places_from names d zero = []
places_from names d (suc n) = place (disjunction_name d) names ∷ places_from names (suc d) n

abbrev pub places_in : List NameNo → List ℕ
places_in ns = map (λ n. n.0) ns
