-- Lists of clauses, by rows.
use Rattle.std.specs.Prelude.{ℕ, ◌-◌, List, [], ◌∷◌, ◌++◌, length, map, take, slice_index_or, slice_set, Option, Some}
use Rattle.std.specs.Prelude.{None}
use Rattle.and_model.specs.declared.numbers.ClauseNo.{ClauseNo}

-- a list of clauses for each row, and one for whatever has no row
pub record Lists : Type 0 where
  pub rows : List (List ClauseNo)
  pub others : List ClauseNo

-- the list of a row, or that of what has none
abbrev pub list_at : Lists → Option ℕ → List ClauseNo
list_at lists None = lists.others
list_at lists (Some row) = slice_index_or lists.rows row []

-- the lists with a clause at the end of one row
abbrev pub with_clause : Lists → ℕ → ClauseNo → Lists
with_clause lists row clause =
    record lists { rows = slice_set lists.rows row (list_at lists (Some row) ++ clause ∷ []) }

-- the lists with one row more, which goes on from what has none
abbrev pub with_row : Lists → ClauseNo → Lists
with_row lists clause = record lists { rows = lists.rows ++ (lists.others ++ clause ∷ []) ∷ [] }

-- the lists with a clause at the end of each
abbrev pub with_everywhere : Lists → ClauseNo → Lists
with_everywhere lists clause = record {
  rows = map (λ list. list ++ clause ∷ []) lists.rows;
  others = lists.others ++ clause ∷ [];
}

-- all but the last
abbrev pub without_last : {A : Type 0} → List A → List A
without_last xs = take (length xs - 1) xs
