-- The pairs of words of `is` goals: no variable has its cell there, and two goals have two pairs.
use Rattle.std.proofs.Common.{ℕ, suc, ◌+◌, ◌≡◌, ◌<◌, ◌≤◌, false, List, [], ◌++◌, length, get_or, refl, sym, ap, subst, inl, inr, ◌⊎◌, arith}
use Rattle.std.proofs.Common.{Contains}
use Rattle.std.proofs.lemmas.Bool.{cases_lt}
use Rattle.std.proofs.lemmas.List.{get_or_past}
use Rattle.and_model.specs.Terms.{Path, Substitution}
use Rattle.and_model.specs.Solutions.{Equation, Solves, Entails}
use Rattle.and_model.specs.Programs.{Program, clause_at, clause_weight}
use Rattle.and_model.specs.Trees.{QueryTree, call_of}
use Rattle.and_model.specs.Reductions.{Reduction, Makes, none, one_more}
use Rattle.and_model.specs.Stands.{ClauseHas}
use Rattle.and_model.specs.Store.{is_half}
use Rattle.and_model.specs.declared.goal.Goal.{Goal}
use Rattle.and_model.specs.declared.reference.Ref.{Ref}
use Rattle.and_model.specs.declared.reference.Ref.TheVariants.{Free}
use Rattle.and_program.specs.Skeletons
use Rattle.and_program.specs.Skeletons.{NodeItem}
use Rattle.and_program.specs.Loaded.{nodes_at}
use Rattle.and_laws.specs.Naming.{under}
use Rattle.and_laws.proofs.Deciding.{of_bounds}
use Rattle.and_laws.proofs.Ordered.{contains_none, middle_cases}
use Rattle.and_cells.specs.Ranges.{NamedProgram, pair_of}
use Rattle.and_cells.specs.Rows.{IsSound}
use Rattle.and_cells.specs.Seen.{word_at}
use Rattle.and_cells.specs.Meaning.{equations_of}
use Rattle.and_branch_laws.specs.OwnVariables.{IsLoaded}
use Rattle.and_branch_laws.specs.Variables.{SpeaksOf, EquationsSpeakOf, IsVariable, AreNames}
use Rattle.and_branch_laws.specs.Kept.{HasFreePair}
use Rattle.and_branch_laws.proofs.Speaking.{speaks_variable, equations_speak_under}
use Rattle.and_branch_laws.proofs.Places.{clause_once, frames_apart}
use Rattle.and_branch_laws.proofs.Naming.{variables_fit}
use Rattle.and_branch_laws.proofs.Clauses.{clause_weighs_more, number_is, numbers_apart}
use Rattle.and_branch_laws.proofs.Unnamed.{IsOther, unnamed_is_free}

-- The clause at a place is one of the program's.
pub clause_bound : (P : Program) (rs : List Reduction) (t : QueryTree P) → Makes P rs t → (n c : ℕ) → ClauseHas rs n c
    → c ≤ length P.clauses
clause_bound P rs t m n c (inl a) = let e = a.1 in omega arith
clause_bound P rs t m n c (inr x) = let e = x.3 in let b = bound P rs t m x.0 x.1 in omega arith
  where
    bound : (P : Program) (rs : List Reduction) (t : QueryTree P) → Makes P rs t → (r : Reduction) → Contains rs r
        → r.clause ≤ length P.clauses
    bound P rs t none r h = absurd (contains_none r h)
    bound P rs t (one_more front back all u r' o k old taken_call number is_all) r h =
        elim (middle_cases front back r' r (subst (λ l. Contains l r) is_all h)) [
          | inl e ↦ let b = (of_bounds P (call_of u o) r'.clause k).1 in let f = ap (λ (y : Reduction). y.clause) e in omega arith
          | inr i ↦ bound P (front ++ back) u old r i
        ]

-- A word of a frame that lies behind its variables is no variable's cell.
pub behind_variables : (P : NamedProgram) (rs : List Reduction) (t : QueryTree P.program) → Makes P.program rs t → (n c : ℕ)
    → ClauseHas rs n c → (m : ℕ)
    → n + 1 + (clause_at P.program c).variables ≤ m → m < n + clause_weight (clause_at P.program c)
    → (v : Path × ℕ) (i : IsVariable P rs v) → i.node + 1 + v.1 ≡ m → ⊥
behind_variables P rs t made n c has m low high v i e =
    let own = i.own in
    let fits = variables_fit (clause_at P.program i.clause) in
    elim (cases_lt n i.node) [
      | inl less ↦ let a = frames_apart P.program rs t made n c i.node i.clause has i.clause_is less in omega arith
      | inr le ↦ elim (cases_lt i.node n) [
        | inl less ↦ let a = frames_apart P.program rs t made i.node i.clause n c i.clause_is has less in omega arith
        | inr ge ↦
            let same : i.node ≡ n = omega arith in
            let clauses : i.clause ≡ c = clause_once P.program rs t made n i.clause c
            (subst (λ k. ClauseHas rs k i.clause) same i.clause_is) has in
            let counts : (clause_at P.program i.clause).variables ≡ (clause_at P.program c).variables =
            ap (λ k. (clause_at P.program k).variables) clauses in
            omega arith
      ]
    ]

-- Both words of a pair lie there.
pub pair_within : (P : NamedProgram) → IsLoaded P → (rs : List Reduction) (t : QueryTree P.program) → Makes P.program rs t
    → (n c i l r number : ℕ) → ClauseHas rs n c
    → get_or (nodes_at P.skeleton c).items i Skeletons.fail ≡ Skeletons.is l r number
    → (n + 1 + (clause_at P.program c).variables ≤ pair_of P c n number)
    × (suc (pair_of P c n number) < n + clause_weight (clause_at P.program c))
pair_within P loaded rs t made n c i l r number has e =
    let low = (number_is P loaded c (clause_bound P.program rs t made n c has) i l r number e).1 in
    let weighs = clause_weighs_more (clause_at P.program c) in
    (omega arith, omega arith)

-- Where the tree's equations, named, are the row's, and the words of a pair are no halves, they are free.
module _ (P : NamedProgram) (loaded : IsLoaded P) (rs : List Reduction) (t : QueryTree P.program) (made : Makes P.program rs t)
    (row : List Ref) (sound : IsSound P row)
    (names : Substitution) (named : AreNames rs names) (solved : List Equation) (speaks : EquationsSpeakOf (IsVariable P rs) solved)
    (stated : Entails (under names solved) (equations_of P row)) (s : Substitution) (solves : Solves s (under names solved)) where
  pub no_variable_free : (m : ℕ) → ((v : Path × ℕ) (i : IsVariable P rs v) → i.node + 1 + v.1 ≡ m → ⊥) → is_half (word_at row m) ≡ false
      → word_at row m ≡ Free
  no_variable_free m apart whole =
      let others : EquationsSpeakOf (IsOther m) (under names solved) =
      equations_speak_under (IsVariable P rs) (IsOther m) names solved
      (λ v i. subst (λ x. SpeaksOf (IsOther m) x) (sym (named i.node v.0 i.place v.1))
      (speaks_variable (IsOther m) [] (i.node + 1 + v.1) (λ e f. apart v i f))) speaks in
      unnamed_is_free P row (under names solved) sound stated s solves m others whole

  pub pair_is_free : (n c i l r number : ℕ) → ClauseHas rs n c
      → get_or (nodes_at P.skeleton c).items i Skeletons.fail ≡ Skeletons.is l r number
      → is_half (word_at row (pair_of P c n number)) ≡ false → is_half (word_at row (suc (pair_of P c n number))) ≡ false
      → (word_at row (pair_of P c n number) ≡ Free) × (word_at row (suc (pair_of P c n number)) ≡ Free)
  pair_is_free n c i l r number has e one other =
      let within = pair_within P loaded rs t made n c i l r number has e in
      let low = within.0 in
      let high = within.1 in (
        no_variable_free (pair_of P c n number) (behind_variables P rs t made n c has (pair_of P c n number) low (omega arith)) one,
        no_variable_free (suc (pair_of P c n number))
            (behind_variables P rs t made n c has (suc (pair_of P c n number)) (omega arith) high) other,
      )

-- A goal has a free pair where, if it is an `is` goal, its pair is free.
pub has_free_pair : (P : NamedProgram) (row : List Ref) (g : Goal) (x : NodeItem)
    → ((l r number : ℕ) → x ≡ Skeletons.is l r number → (word_at row (pair_of P g.clause.0 g.base number) ≡ Free)
    × (word_at row (suc (pair_of P g.clause.0 g.base number)) ≡ Free)) → HasFreePair P row g x
has_free_pair P row g (Skeletons.call n) h = tt
has_free_pair P row g (Skeletons.equal n m) h = tt
has_free_pair P row g (Skeletons.is l r number) h = h l r number refl
has_free_pair P row g (Skeletons.compare o n m) h = tt
has_free_pair P row g Skeletons.fail h = tt

-- and the converse
pub free_pair : (P : NamedProgram) (row : List Ref) (g : Goal) (x : NodeItem) (l r number : ℕ) → x ≡ Skeletons.is l r number
    → HasFreePair P row g x
    → (word_at row (pair_of P g.clause.0 g.base number) ≡ Free) × (word_at row (suc (pair_of P g.clause.0 g.base number)) ≡ Free)
free_pair P row g x l r number e h = subst (λ y. HasFreePair P row g y) e h

-- an `is` goal is one of the items
item_there : (items : List NodeItem) (i l r number : ℕ) → get_or items i Skeletons.fail ≡ Skeletons.is l r number → i < length items
item_there items i l r number e =
    elim (cases_lt i (length items)) [ inl low ↦ low | inr past ↦ (let none = get_or_past items i Skeletons.fail past in absurd (cc)) ]

-- The pairs of two goals, at two places or for two items of one body, are apart.
pub pairs_apart : (P : NamedProgram) → IsLoaded P → (rs : List Reduction) (t : QueryTree P.program) → Makes P.program rs t
    → (n c i l r number m d j l2 r2 other : ℕ) → ClauseHas rs n c → ClauseHas rs m d
    → get_or (nodes_at P.skeleton c).items i Skeletons.fail ≡ Skeletons.is l r number
    → get_or (nodes_at P.skeleton d).items j Skeletons.fail ≡ Skeletons.is l2 r2 other
    → (n ≡ m → i ≡ j → ⊥)
    → (suc (pair_of P c n number) < pair_of P d m other) ⊎ (suc (pair_of P d m other) < pair_of P c n number)
pairs_apart P loaded rs t made n c i l r number m d j l2 r2 other has has2 e e2 apart =
    let one = pair_within P loaded rs t made n c i l r number has e in
    let two = pair_within P loaded rs t made m d j l2 r2 other has2 e2 in
    let a = one.0 in
    let b = one.1 in
    let a2 = two.0 in
    let b2 = two.1 in
    elim (cases_lt n m) [
      | inl less ↦ inl (let f = frames_apart P.program rs t made n c m d has has2 less in omega arith)
      | inr le ↦ elim (cases_lt m n) [
        | inl less ↦ inr (let f = frames_apart P.program rs t made m d n c has2 has less in omega arith)
        | inr ge ↦
            let same : n ≡ m = omega arith in
            let clauses : c ≡ d = clause_once P.program rs t made m c d (subst (λ k. ClauseHas rs k c) same has) has2 in
            let e3 : get_or (nodes_at P.skeleton c).items j Skeletons.fail ≡ Skeletons.is l2 r2 other =
            subst (λ k. get_or (nodes_at P.skeleton k).items j Skeletons.fail ≡ Skeletons.is l2 r2 other) (sym clauses) e2 in
            let counts : (clause_at P.program c).variables ≡ (clause_at P.program d).variables =
            ap (λ k. (clause_at P.program k).variables) clauses in
            let bound = clause_bound P.program rs t made n c has in
            let first = (number_is P loaded c bound i l r number e).0 in
            let second = (number_is P loaded c bound j l2 r2 other e3).0 in
            elim (cases_lt i j) [
              | inl less ↦ inl (let k = numbers_apart (nodes_at P.skeleton c).items i j l r number less e
                  (item_there (nodes_at P.skeleton c).items j l2 r2 other e3) in omega arith)
              | inr le2 ↦ elim (cases_lt j i) [
                | inl less ↦ inr (let k = numbers_apart (nodes_at P.skeleton c).items j i l2 r2 other less e3
                    (item_there (nodes_at P.skeleton c).items i l r number e) in omega arith)
                | inr ge2 ↦ absurd (apart same (omega arith))
              ]
            ]
      ]
    ]
