-- What a reduction and a run of arithmetic set in a row.
use Rattle.std.proofs.Common.{ℕ, ◌≡◌, ◌⊎◌, List, [], ◌∷◌, ◌++◌, sym, ◌∙◌, subst, inl, inr}
use Rattle.std.specs.Prelude.{Contains, Result, Ok, Err, OnOk, map}
use Rattle.std.proofs.lemmas.List.Elements.{Contains-append_left, Contains-append_right, Contains-append_cases}
use Rattle.and_model.specs.declared.goal.Goal.{Goal}
use Rattle.and_model.specs.declared.reference.Ref.{Ref}
use Rattle.and_laws.proofs.Ordered.{contains_cases, contains_first, contains_more, contains_none}
use Rattle.and_cells.specs.Ranges.{NamedProgram}
use Rattle.and_cells.specs.Parts.{part_at}
use Rattle.and_unify.specs.declared.pairs.Pair.{Pair}
use Rattle.and_unify.specs.Places.{left_sides, sides}
use Rattle.and_heads.specs.Calls.{call_and_head}
use Rattle.and_reduction.specs.Writes.{AskNodes, SetsNodes, SetsByRun, nothing}

-- the right sides of pairs
abbrev rights : List Pair → List Ref
rights pairs = map (λ (p : Pair). p.right) pairs

-- Nothing further was asked.
pub asks_same : (P : NamedProgram) (floor : ℕ) (pairs : List Pair) → AskNodes P floor (sides pairs) pairs
asks_same P floor pairs = record { each = λ r at. inl at }

-- What is asked beyond pairs that ask in such a way asks so.
pub asks_through : (P : NamedProgram) (floor : ℕ) (tops : List Ref) (between pairs : List Pair) → AskNodes P floor tops between
    → AskNodes P floor (sides between) pairs → AskNodes P floor tops pairs
asks_through P floor tops between pairs one two = record {
  each = λ r at. elim (two.each r at) [ inl before ↦ one.each r before | inr node ↦ inr node ];
}

-- The same of what was settled.
pub sets_through : (P : NamedProgram) (old new : List Ref) (floor : ℕ) (tops : List Ref) (between : List Pair) → AskNodes P floor tops between
    → SetsNodes P old new floor (sides between) → SetsNodes P old new floor tops
sets_through P old new floor tops between one s = record {
  pairs = s.pairs;
  in_range = s.in_range;
  asked = asks_through P floor tops between s.pairs one s.asked;
  sets = s.sets;
}

-- One pair more has its sides, and no others.
left_of_more : (pairs : List Pair) (p : Pair) (r : Ref) → Contains (left_sides (pairs ++ p ∷ [])) r → Contains (left_sides pairs) r ⊎ (r ≡ p.left)
left_of_more [] p r at = elim (contains_cases p.left r [] at) [ inl is ↦ inr is | inr none ↦ absurd (contains_none r none) ]
left_of_more (q ∷ pairs) p r at = elim (contains_cases q.left r (left_sides (pairs ++ p ∷ [])) at) [
  | inl is ↦ inl (subst (Contains (left_sides (q ∷ pairs))) (sym is) (contains_first q.left (left_sides pairs)))
  | inr more ↦ elim (left_of_more pairs p r more) [
    | inl there ↦ inl (contains_more q.left r (left_sides pairs) there)
    | inr is ↦ inr is
  ]
]

right_of_more : (pairs : List Pair) (p : Pair) (r : Ref) → Contains (rights (pairs ++ p ∷ [])) r → Contains (rights pairs) r ⊎ (r ≡ p.right)
right_of_more [] p r at = elim (contains_cases p.right r [] at) [ inl is ↦ inr is | inr none ↦ absurd (contains_none r none) ]
right_of_more (q ∷ pairs) p r at = elim (contains_cases q.right r (rights (pairs ++ p ∷ [])) at) [
  | inl is ↦ inl (subst (Contains (rights (q ∷ pairs))) (sym is) (contains_first q.right (rights pairs)))
  | inr more ↦ elim (right_of_more pairs p r more) [
    | inl there ↦ inl (contains_more q.right r (rights pairs) there)
    | inr is ↦ inr is
  ]
]

-- Two nodes in the frame at the floor were asked for too.
pub asks_nodes : (P : NamedProgram) (floor : ℕ) (pairs more : List Pair) (left right : Ref) (n m : ℕ) → left ≡ part_at P floor n
    → right ≡ part_at P floor m → more ≡ pairs ++ record { left = left; right = right } ∷ [] → AskNodes P floor (sides pairs) more
asks_nodes P floor pairs more left right n m is_left is_right is = subst (AskNodes P floor (sides pairs)) (sym is) pushed
  where
    p : Pair
    p = record { left = left; right = right }

    pushed : AskNodes P floor (sides pairs) (pairs ++ p ∷ [])
    pushed = record {
      each = λ r at. elim (Contains-append_cases (left_sides (pairs ++ p ∷ [])) (rights (pairs ++ p ∷ [])) r at) [
        | inl lefts ↦ elim (left_of_more pairs p r lefts) [
          | inl there ↦ inl (Contains-append_left (left_sides pairs) (rights pairs) r there)
          | inr this ↦ inr (n, this ∙ is_left)
        ]
        | inr others ↦ elim (right_of_more pairs p r others) [
          | inl there ↦ inl (Contains-append_right (left_sides pairs) (rights pairs) r there)
          | inr this ↦ inr (m, this ∙ is_right)
        ]
      ];
    }

-- A call and a head are asked for, which is a node in the frame at the floor.
pub head_asks : (P : NamedProgram) (base call floor head : ℕ)
    → AskNodes P floor (part_at P base call ∷ []) (call_and_head P base call floor head)
head_asks P base call floor head = record {
  each = λ r at. elim (contains_cases (part_at P base call) r (part_at P floor head ∷ []) at) [
    | inl is ↦ inl (subst (Contains (part_at P base call ∷ [])) (sym is) (contains_first (part_at P base call) []))
    | inr more ↦ elim (contains_cases (part_at P floor head) r [] more) [
      | inl is ↦ inr (head, is)
      | inr none ↦ absurd (contains_none r none)
    ]
  ];
}

-- the row with the frame, as the definitions have it
pub framed_sets : (P : NamedProgram) (wide widened new : List Ref) (floor words : ℕ) (tops : List Ref) → wide ≡ widened → floor ≡ words
    → SetsNodes P wide new floor tops → SetsNodes P widened new words tops
framed_sets P wide widened new floor words tops is at s =
    subst (λ (row : List Ref). SetsNodes P row new words tops) is (subst (λ (n : ℕ). SetsNodes P wide new n tops) at s)

-- A run that leaves the row as it was set nothing.
pub any_nothing : {T E : Type 0} (r : Result T E) (P : NamedProgram) (old new : List Ref) (g : Goal) → new ≡ old → OnOk r (SetsByRun P old new g)
any_nothing (Ok x) P old new g is = nothing is
any_nothing (Err e) P old new g is = tt
