-- What stands inside a program: its disjunctions are the program's, and its calls have none of their names.
use Rattle.std.proofs.Common.{ℕ, ◌≡◌, false, List, [], ◌∷◌, ◌++◌}
use Rattle.std.specs.Prelude.{Contains}
use Rattle.std.proofs.lemmas.List.Elements.{Contains-append_left, Contains-append_right}
use Rattle.and_model.specs.Terms.{Term}
use Rattle.and_model.specs.Programs.{call, equal, arithmetic, fail}
use Rattle.and_laws.proofs.Ordered.{contains_first, contains_more}
use Rattle.and_source.specs.Source.{SourceItems, no_items, plain, either, Alternatives, no_alternatives, alternative, SourceClause, SourceProgram}
use Rattle.and_source.specs.Source.{source_clauses, disjunctions_in_items, disjunctions_in_alternatives, disjunctions_in_clauses, disjunctions_in}
use Rattle.and_source.specs.Source.{calls_in_items, calls_in_alternatives, heads_and_calls_in, heads_and_calls, has_name, IsNumbered}

-- the term has the name of no disjunction
abbrev pub IsUnlifted : SourceProgram → Term → Type 0
IsUnlifted P t = (d : ℕ × Alternatives) → Contains (disjunctions_in P) d → has_name d.0 t ≡ false

abbrev mutual
  pub Inside : SourceProgram → SourceItems → Type 0
  Inside P no_items = Unit {0}
  Inside P (plain (call g) items) = IsUnlifted P g × Inside P items
  Inside P (plain (equal a b) items) = Inside P items
  Inside P (plain (arithmetic a) items) = Inside P items
  Inside P (plain fail items) = Inside P items
  Inside P (either name alts items) = Contains (disjunctions_in P) (name, alts) × AllInside P alts × Inside P items

  pub AllInside : SourceProgram → Alternatives → Type 0
  AllInside P no_alternatives = Unit {0}
  AllInside P (alternative c items alts) = Inside P items × AllInside P alts

abbrev DisjunctionsOf : SourceProgram → List (ℕ × Alternatives) → Type 0
DisjunctionsOf P ds = (d : ℕ × Alternatives) → Contains ds d → Contains (disjunctions_in P) d

abbrev Unlifted : SourceProgram → List Term → Type 0
Unlifted P ts = (t : Term) → Contains ts t → IsUnlifted P t

mutual
  inside_items : (P : SourceProgram) (items : SourceItems) → DisjunctionsOf P (disjunctions_in_items items) → Unlifted P (calls_in_items items)
      → Inside P items
  inside_items P no_items d u = tt
  inside_items P (plain (call g) items) d u =
      (u g (contains_first g (calls_in_items items)), inside_items P items d (λ t i. u t (contains_more g t (calls_in_items items) i)))
  inside_items P (plain (equal a b) items) d u = inside_items P items d u
  inside_items P (plain (arithmetic a) items) d u = inside_items P items d u
  inside_items P (plain fail items) d u = inside_items P items d u
  inside_items P (either name alts items) d u =
      let inner : List (ℕ × Alternatives) = disjunctions_in_alternatives alts in
      let outer : List (ℕ × Alternatives) = disjunctions_in_items items in (
        d (name, alts) (contains_first (name, alts) (inner ++ outer)),
        inside_alternatives P alts (λ x i. d x (contains_more (name, alts) x (inner ++ outer) (Contains-append_left inner outer x i)))
            (λ t i. u t (Contains-append_left (calls_in_alternatives alts) (calls_in_items items) t i)),
        inside_items P items (λ x i. d x (contains_more (name, alts) x (inner ++ outer) (Contains-append_right inner outer x i)))
            (λ t i. u t (Contains-append_right (calls_in_alternatives alts) (calls_in_items items) t i)),
      )

  inside_alternatives : (P : SourceProgram) (alts : Alternatives) → DisjunctionsOf P (disjunctions_in_alternatives alts)
      → Unlifted P (calls_in_alternatives alts) → AllInside P alts
  inside_alternatives P no_alternatives d u = tt
  inside_alternatives P (alternative c items alts) d u = (
    inside_items P items (λ x i. d x (Contains-append_left (disjunctions_in_items items) (disjunctions_in_alternatives alts) x i))
        (λ t i. u t (Contains-append_left (calls_in_items items) (calls_in_alternatives alts) t i)),
    inside_alternatives P alts (λ x i. d x (Contains-append_right (disjunctions_in_items items) (disjunctions_in_alternatives alts) x i))
        (λ t i. u t (Contains-append_right (calls_in_items items) (calls_in_alternatives alts) t i)),
  )

-- the clauses' heads and bodies are so
abbrev pub ClausesInside : SourceProgram → List SourceClause → Type 0
ClausesInside P [] = Unit {0}
ClausesInside P (k ∷ ks) = IsUnlifted P k.head × Inside P k.body × ClausesInside P ks

inside_clauses : (P : SourceProgram) (ks : List SourceClause) → DisjunctionsOf P (disjunctions_in_clauses ks) → Unlifted P (heads_and_calls_in ks)
    → ClausesInside P ks
inside_clauses P [] d u = tt
inside_clauses P (k ∷ ks) d u =
    let own : List (ℕ × Alternatives) = disjunctions_in_items k.body in
    let others : List (ℕ × Alternatives) = disjunctions_in_clauses ks in
    let calls : List Term = calls_in_items k.body in
    let rest : List Term = heads_and_calls_in ks in (
      u k.head (contains_first k.head (calls ++ rest)),
      inside_items P k.body (λ x i. d x (Contains-append_left own others x i))
          (λ t i. u t (contains_more k.head t (calls ++ rest) (Contains-append_left calls rest t i))),
      inside_clauses P ks (λ x i. d x (Contains-append_right own others x i))
          (λ t i. u t (contains_more k.head t (calls ++ rest) (Contains-append_right calls rest t i))),
    )

join_inside : (P : SourceProgram) (ks js : List SourceClause) → ClausesInside P ks → ClausesInside P js → ClausesInside P (ks ++ js)
join_inside P [] js a b = b
join_inside P (k ∷ ks) js a b = (a.0, a.1, join_inside P ks js a.2 b)

-- All of a numbered program is inside it.
pub program_inside : (P : SourceProgram) → IsNumbered P → Inside P P.query.body × ClausesInside P (source_clauses P)
program_inside P n =
    let first : List (ℕ × Alternatives) = disjunctions_in_clauses P.earlier in
    let asked : List (ℕ × Alternatives) = disjunctions_in_items P.query.body in
    let last : List (ℕ × Alternatives) = disjunctions_in_clauses P.later in
    let said : List Term = heads_and_calls_in P.earlier in
    let wanted : List Term = calls_in_items P.query.body in
    let after : List Term = heads_and_calls_in P.later in
    let unlifted : Unlifted P (heads_and_calls P) = λ t i d j. n.unwritten d t j i in (
      inside_items P P.query.body (λ x i. Contains-append_left (first ++ asked) last x (Contains-append_right first asked x i))
          (λ t i. unlifted t (Contains-append_left (said ++ wanted) after t (Contains-append_right said wanted t i))),
      join_inside P P.earlier P.later
          (inside_clauses P P.earlier (λ x i. Contains-append_left (first ++ asked) last x (Contains-append_left first asked x i))
          (λ t i. unlifted t (Contains-append_left (said ++ wanted) after t (Contains-append_left said wanted t i))))
          (inside_clauses P P.later (λ x i. Contains-append_right (first ++ asked) last x i)
          (λ t i. unlifted t (Contains-append_right (said ++ wanted) after t i))),
    )
