-- Names for the variables of a tree that is written down, and the way back.
use Rattle.std.proofs.Common.{ℕ, ◌≡◌, ◌+◌, ◌-◌, ◌≤◌, ◌<◌, List, [], ◌∷◌, ◌++◌, refl, ap, sym, ◌∙◌, subst, inl, inr, ◌⊎◌, arith, Contains}
use Rattle.std.proofs.lemmas.Bool.{cases_lt}
use Rattle.and_model.specs.Terms.{Path, Term, variable, Substitution, apply}
use Rattle.and_model.specs.Programs.{Program, Clause, clause_at, clause_weight, Of}
use Rattle.and_model.specs.Trees.{QueryTree, path, call_of, reduce, Open, weight}
use Rattle.and_model.specs.Reductions.{Reduction, PlaceHas, query, reduced, CallHas, Makes, none, one_more}
use Rattle.and_model.specs.Stands.{ClauseHas}
use Rattle.and_laws.proofs.Equality.{path_or}
use Rattle.and_laws.proofs.Placing.{place_more, place_once}
use Rattle.and_laws.proofs.Ordered.{contains_none, middle_more, middle_has}
use Rattle.and_cells.specs.Ranges.{NamedProgram}
use Rattle.and_cells.specs.Meaning.{cell_variable}
use Rattle.and_branch_laws.specs.Variables.{IsVariable, AreNames}
use Rattle.and_branch_laws.proofs.Places.{place_clause, clause_place, clause_cases, frame_within, place_not_open}

-- A clause's variables fit in its frame, behind the first word.
pub variables_fit : (k : Clause) → 1 + k.variables ≤ clause_weight k
unfolding clause_weight
variables_fit k = omega arith

-- ---- Names for one frame more

extended_at : Substitution → (p : Path) (base : ℕ) (q : Path) (k : ℕ) → (q ≡ p) ⊎ (q ≡ p → ⊥) → Term
extended_at names p base q k (inl e) = cell_variable (base + 1 + k)
extended_at names p base q k (inr n) = names q k

-- the names, but for the frame p, whose cells begin at the base
pub extended : Substitution → (p : Path) (base : ℕ) → Substitution
extended names p base q k = extended_at names p base q k (path_or q p)

here_at : (names : Substitution) (p : Path) (base : ℕ) (q : Path) (k : ℕ) (d : (q ≡ p) ⊎ (q ≡ p → ⊥)) → q ≡ p
    → extended_at names p base q k d ≡ cell_variable (base + 1 + k)
unfolding extended_at
here_at names p base q k (inl e) same = refl
here_at names p base q k (inr n) same = absurd (n same)

other_at : (names : Substitution) (p : Path) (base : ℕ) (q : Path) (k : ℕ) (d : (q ≡ p) ⊎ (q ≡ p → ⊥)) → (q ≡ p → ⊥)
    → extended_at names p base q k d ≡ names q k
unfolding extended_at
other_at names p base q k (inl e) other = absurd (other e)
other_at names p base q k (inr n) other = refl

pub extended_here : (names : Substitution) (p : Path) (base : ℕ) (q : Path) (k : ℕ) → q ≡ p
    → extended names p base q k ≡ cell_variable (base + 1 + k)
unfolding extended
extended_here names p base q k same = here_at names p base q k (path_or q p) same

pub extended_other : (names : Substitution) (p : Path) (base : ℕ) (q : Path) (k : ℕ) → (q ≡ p → ⊥) → extended names p base q k ≡ names q k
unfolding extended
extended_other names p base q k other = other_at names p base q k (path_or q p) other

-- ---- A place of the larger tree is the new one, or was there

-- What one more reduction makes of a tree.
pub record OneMore (P : Program) : Type 0 where
  pub front : List Reduction
  pub back : List Reduction
  pub tree : QueryTree P
  pub last : Reduction
  pub goal : Open tree
  pub fits : Of P (call_of tree goal) last.clause
  pub made : Makes P (front ++ back) tree
  pub call : CallHas (front ++ back) last.parent last.item (path tree goal)
  pub number : last.node ≡ weight tree

abbrev pub before : {P : Program} → OneMore P → List Reduction
before s = s.front ++ s.back

abbrev pub after : {P : Program} → OneMore P → List Reduction
after s = s.front ++ s.last ∷ s.back

pub more_made : (P : Program) (s : OneMore P) → Makes P (after s) (reduce s.tree s.goal s.last.clause s.fits)
more_made P s = one_more s.front s.back (after s) s.tree s.last s.goal s.fits s.made s.call s.number refl

pub still_contains : (P : Program) (s : OneMore P) (x : Reduction) → Contains (before s) x → Contains (after s) x
still_contains P s x h = middle_more s.front s.back s.last x h

-- the new place has the goal's path
pub new_place : (P : Program) (s : OneMore P) → PlaceHas (after s) s.last.node (path s.tree s.goal)
new_place P s =
    let placed : PlaceHas (after s) s.last.node (s.call.0 ++ s.last.item ∷ []) =
    reduced s.last s.call.0 (middle_has s.front s.back s.last)
    (place_more (before s) (after s) (still_contains P s) s.last.parent s.call.0 s.call.1) in
    subst (λ q. PlaceHas (after s) s.last.node q) (sym s.call.2) placed

abbrev IsNewPlace : (P : Program) (s : OneMore P) → ℕ → Path → (clause : ℕ) → Type 0
IsNewPlace P s n q c = (n ≡ s.last.node) × (q ≡ path s.tree s.goal) × (c ≡ s.last.clause)

pub place_cases : (P : Program) (s : OneMore P) (n : ℕ) (q : Path) (c : ℕ) → PlaceHas (after s) n q → ClauseHas (after s) n c
    → ((n ≡ s.last.node) × (q ≡ path s.tree s.goal) × (c ≡ s.last.clause)) ⊎ (PlaceHas (before s) n q × ClauseHas (before s) n c)
place_cases P s n q c place has =
    let once : (m : ℕ) → n ≡ m → (p : Path) → PlaceHas (after s) m p
    → q ≡ p = λ m e p other. place_once P (after s) (reduce s.tree s.goal s.last.clause s.fits) (more_made P s) n m e q p place other in
    elim (clause_cases s.front s.back s.last n c has) [
      | inl e ↦ inl (e.0, once s.last.node e.0 (path s.tree s.goal) (new_place P s), e.1)
      | inr old ↦
          let found = clause_place P (before s) s.tree s.made n c old in
          let same : q ≡ found.0 = once n refl found.0 (place_more (before s) (after s) (still_contains P s) n found.0 found.1) in
          inr (subst (λ p. PlaceHas (before s) n p) (sym same) found.1, old)
    ]

-- So the names go on.
pub names_more : (P : Program) (s : OneMore P) (names : Substitution) → AreNames (before s) names
    → AreNames (after s) (extended names (path s.tree s.goal) s.last.node)
names_more P s names named n q place k =
    let has = place_clause (after s) n q place in
    elim (place_cases P s n q has.0 place has.1) [
      | inl e ↦ extended_here names (path s.tree s.goal) s.last.node q k e.1 ∙ ap (λ (m : ℕ). cell_variable (m + 1 + k)) (sym e.0)
      | inr old ↦ extended_other names (path s.tree s.goal) s.last.node q k (place_not_open P (before s) s.tree s.made s.goal n q old.0)
          ∙ named n q old.0 k
    ]

-- There are names for each tree that is written down,
pub some_names : (P : Program) (rs : List Reduction) (t : QueryTree P) → Makes P rs t → (names : Substitution) × AreNames rs names
some_names P rs t none = ((λ q k. cell_variable (0 + 1 + k)), root)
  where
    root : (n : ℕ) (q : Path) → PlaceHas [] n q → (k : ℕ) → cell_variable (0 + 1 + k) ≡ cell_variable (n + 1 + k)
    root n q query k = refl
    root n q (reduced r p h place) k = absurd (contains_none r h)
some_names P rs t (one_more front back all u r o h old taken_call number is_all) =
    let s : OneMore P = record
    { front = front; back = back; tree = u; last = r; goal = o; fits = h; made = old; call = taken_call; number = number } in
    let found = some_names P (front ++ back) u old in (
      extended found.0 (path u o) r.node,
      subst (λ l. AreNames l (extended found.0 (path u o) r.node)) (sym is_all) (names_more P s found.0 found.1),
    )

-- ---- The way back

-- each cell of a clause's variable leads back to the variable
abbrev pub LeadsBack : (P : Program) → List Reduction → Substitution → Type 0
LeadsBack P rs back = (n : ℕ) (q : Path) (c k : ℕ) → PlaceHas rs n q → ClauseHas rs n c → k < (clause_at P c).variables
    → back [] (n + 1 + k) ≡ variable q k

behind_at : Substitution → (p : Path) (base m : ℕ) → (m < base) ⊎ (base ≤ m) → Term
behind_at back p base m (inl low) = back [] m
behind_at back p base m (inr high) = variable p (m - base - 1)

-- the cells from the base on lead back to the frame p
back_behind : Substitution → (p : Path) (base : ℕ) → Substitution
back_behind back p base q m = behind_at back p base m (cases_lt m base)

behind_low : (back : Substitution) (p : Path) (base m : ℕ) (d : (m < base) ⊎ (base ≤ m)) → m < base → behind_at back p base m d ≡ back [] m
unfolding behind_at
behind_low back p base m (inl low) l = refl
behind_low back p base m (inr high) l = absurd (omega arith)

behind_high : (back : Substitution) (p : Path) (base m k : ℕ) (d : (m < base) ⊎ (base ≤ m)) → m ≡ base + 1 + k
    → behind_at back p base m d ≡ variable p k
unfolding behind_at
behind_high back p base m k (inl low) e = absurd (omega arith)
behind_high back p base m k (inr high) e = let same : m - base - 1 ≡ k = omega arith in ap (λ (j : ℕ). variable p j) same

back_more : (P : Program) (s : OneMore P) (back : Substitution) → LeadsBack P (before s) back
    → LeadsBack P (after s) (back_behind back (path s.tree s.goal) s.last.node)
unfolding back_behind
back_more P s back leads n q c k place has own =
    let p : Path = path s.tree s.goal in
    elim (place_cases P s n q c place has) [
      | inl e ↦ behind_high back p s.last.node (n + 1 + k) k (cases_lt (n + 1 + k) s.last.node) (let f = e.0 in omega arith)
          ∙ ap (λ (x : Path). variable x k) (sym e.1)
      | inr old ↦
          let low : n + 1 + k < s.last.node = let w = frame_within P (before s) s.tree s.made n c old.1 in
          let f = variables_fit (clause_at P c) in let j = s.number in omega arith in
          behind_low back p s.last.node (n + 1 + k) (cases_lt (n + 1 + k) s.last.node) low ∙ leads n q c k old.0 old.1 own
    ]

-- and a way back.
pub some_back : (P : Program) (rs : List Reduction) (t : QueryTree P) → Makes P rs t → (back : Substitution) × LeadsBack P rs back
some_back P rs t none = ((λ q m. variable [] (m - 1)), root)
  where
    root : LeadsBack P [] (λ q m. variable [] (m - 1))
    root n q c k query has own = let same : 0 + 1 + k - 1 ≡ k = omega arith in ap (λ (j : ℕ). variable [] j) same
    root n q c k (reduced r p h place) has own = absurd (contains_none r h)
some_back P rs t (one_more front back all u r o h old taken_call number is_all) =
    let s : OneMore P = record
    { front = front; back = back; tree = u; last = r; goal = o; fits = h; made = old; call = taken_call; number = number } in
    let found = some_back P (front ++ back) u old in (
      back_behind found.0 (path u o) r.node,
      subst (λ l. LeadsBack P l (back_behind found.0 (path u o) r.node)) (sym is_all) (back_more P s found.0 found.1),
    )

-- So the names of the tree's variables lead back.
pub names_lead_back : (P : NamedProgram) (rs : List Reduction) (names back : Substitution) → AreNames rs names → LeadsBack P.program rs back
    → (v : Path × ℕ) → IsVariable P rs v → apply back (names v.0 v.1) ≡ variable v.0 v.1
names_lead_back P rs names back named leads v own =
    ap (apply back) (named own.node v.0 own.place v.1) ∙ leads own.node v.0 own.clause v.1 own.place own.clause_is own.own
