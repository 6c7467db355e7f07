-- The first candidates of a list of clauses, and what they say of a goal.
use Rattle.std.proofs.Common.{ℕ, ◌+◌, ◌≡◌, ◌<◌, ◌≤◌, List, length, get_or, Some, refl, sym, ap, ◌∙◌, subst, inl, inr, arith}
use Rattle.std.specs.Prelude.{All, Contains, ◌⊎◌, ◌∷◌, [], ◌≢◌, ◌++◌, slice_get, Result, Ok, Err, IfOk, OnOk}
use Rattle.std.specs.declared.alloc.AllocError.{AllocError}
use Rattle.std.proofs.lemmas.Bool.{cases_lt}
use Rattle.std.proofs.lemmas.List.Elements.{All-contains, All-nil, All-cons}
use Rattle.std.proofs.lemmas.List.Kept.{AllPairs-cons}
use Rattle.std.proofs.lemmas.Option.{get_or_from_slice_get, slice_get-get_or, slice_get_within, same_Some}
use Rattle.and_model.specs.Terms.{Term}
use Rattle.and_model.specs.Programs.{Of}
use Rattle.and_model.specs.Candidates.{Candidate}
use Rattle.and_model.specs.Stands.{term_of}
use Rattle.and_model.specs.declared.goal.Goal.{Goal}
use Rattle.and_model.specs.declared.numbers.ClauseNo.{ClauseNo}
use Rattle.and_model.specs.declared.reference.Ref.{Ref}
use Rattle.and_program.specs.Skeletons.{node_term}
use Rattle.and_cells.specs.Ranges.{NamedProgram}
use Rattle.and_cells.specs.Meaning.{equations_of}
use Rattle.and_cell_laws.proofs.Images.{contains_origin, contains_image}
use Rattle.and_branch_laws.specs.Judging.{outside, CandidateInCells}
use Rattle.and_branch_laws.specs.Variables.{placed}
use Rattle.and_branch_laws.proofs.Lists.{all_of}
use Rattle.and_laws.proofs.Ordered.{contains_first, contains_more, contains_cases, contains_none}
use Rattle.and_laws.proofs.Pairwise.{all_pairs_none}
use Rattle.and_guards.specs.Goals.{IsNodeOf}
use Rattle.and_determinacy.specs.Candidates.{AreCandidates, IsJudged, IsNarrowed, narrowed_as}
use Rattle.and_clause_index.specs.Looks.{IsLook, IsLeft}
use Rattle.and_clause_index.specs.Served.{NodeHas, AreServed}
use Rattle.and_determinacy.specs.Searches.{NoneFrom, IsNextOf, IsCount, AreTwo}
use Rattle.and_determinacy.specs.declared.judging.Found.{Found}
use Rattle.and_determinacy.specs.declared.judging.Judged.{Judged}
use Rattle.and_determinacy.specs.declared.judging.Two.{Two}
use Rattle.and_determinacy.specs.declared.judging.Judged.TheVariants.{Nothing, One, Several}
use Rattle.and_determinacy.specs.declared.judging.Narrowed.{Narrowed}
use Rattle.and_determinacy.specs.declared.judging.Narrowed.TheVariants as narrowed
use Rattle.and_clause_index.specs.declared.looking.Look.{Look}
use Rattle.and_clause_index.specs.declared.table.Determinacy.{Determinacy}
use Rattle.and_clause_index.specs.Tables.{IsTableOf}
use Rattle.and_clause_index.proofs.Calls.{of_placed}
use Rattle.and_clause_index.proofs.ClauseLists.{IsEarlier, clause_there}
use Rattle.and_clause_index.proofs.Left.{candidate_left}
use Rattle.and_determinacy.proofs.Picking.{Picks, picked_is, all_picked, picked_in_order}

-- ---- One after another

abbrev none_such : ClauseNo
none_such = record { 0 = 0 }

module _ (Q : ClauseNo → Type 0) (clauses : List ClauseNo) (from : ℕ) where
  pub next_found : (place : ℕ) (clause : ClauseNo) → from ≤ place → place < length clauses → clause ≡ get_or clauses place clause
      → Q clause → NoneFrom Q clauses from place → IsNextOf Q clauses from (record { clause = clause; behind = place + 1 })
  next_found place clause after low read is none = record {
    place = place;
    behind = refl;
    after = after;
    there = slice_get-get_or clauses place clause low ∙ ap (λ (c : ClauseNo). Some c) (sym read);
    is_so = is;
    first = none;
  }

  pub none_more : (place : ℕ) (clause : ClauseNo) → clause ≡ get_or clauses place clause → (Q clause → ⊥) → NoneFrom Q clauses from place
      → NoneFrom Q clauses from (place + 1)
  none_more place clause read fails none k c behind low there is = elim (cases_lt k place) [
    | inl before ↦ none k c behind before there is
    | inr past ↦
        let here : k ≡ place = omega arith in
        let same : clause ≡ c =
        read ∙ ap (λ (i : ℕ). get_or clauses i clause) (sym here) ∙ get_or_from_slice_get clauses k c clause there in
        fails (subst Q (sym same) is)
  ]

-- ---- Of which none before a place is so

-- Where fewer are so there is none either.
pub none_fewer : (Q R : ClauseNo → Type 0) (clauses : List ClauseNo) (from to : ℕ) → ((c : ClauseNo) → Q c → R c)
    → NoneFrom R clauses from to → NoneFrom Q clauses from to
none_fewer Q R clauses from to fewer none k c after low there is = none k c after low there (fewer c is)

-- Where none is left no clause is a candidate.
pub none_seen : (P : NamedProgram) (table : Determinacy) → IsTableOf P table → (row : List Ref) (node base : ℕ) (look : Look)
    → IsLook P row node base look → (clauses : List ClauseNo) (from to : ℕ) → NoneFrom (IsLeft table look) clauses from to
    → NoneFrom (NodeHas P row node base) clauses from to
none_seen P table is_of row node base look is clauses from to none =
    none_fewer (NodeHas P row node base) (IsLeft table look) clauses from to (candidate_left P table is_of row node base look is) none

pub two_seen : (P : NamedProgram) (table : Determinacy) → IsTableOf P table → (row : List Ref) (node base : ℕ) (look : Look)
    → IsLook P row node base look → (clauses : List ClauseNo) (two : Two) → AreTwo (IsLeft table look) clauses two
    → AreTwo (NodeHas P row node base) clauses two
two_seen P table is_of row node base look is clauses two are =
    let seen = none_seen P table is_of row node base look is clauses in record {
      order = are.order;
      there = are.there;
      before = seen 0 two.first are.before;
      between = seen (two.first + 1) two.second are.between;
      behind = seen (two.second + 1) (length clauses) are.behind;
    }

-- Where there are two clauses at all, they are those two.
pub two_alone : (Q : ClauseNo → Type 0) (clauses : List ClauseNo) → length clauses ≡ 2 → AreTwo Q clauses (record { first = 0; second = 1 })
two_alone Q clauses long = record {
  order = omega arith;
  there = omega arith;
  before = λ k c after low there is. omega arith;
  between = λ k c after low there is. omega arith;
  behind = λ k c after low there is. omega arith;
}

-- The clauses of a node's predicate have prints,
pub of_printed : (P : NamedProgram) (table : Determinacy) → IsTableOf P table → (node : ℕ) (clauses : List ClauseNo)
    → All (λ (c : ClauseNo). Of P.program (node_term P.skeleton.nodes node) c.0) clauses
    → All (λ (c : ClauseNo). c.0 < length table.prints.items) clauses
of_printed P table is_of node clauses all =
    all_of (λ (c : ClauseNo). c.0 < length table.prints.items) clauses (λ c i.
    let of = All-contains (λ (c : ClauseNo). Of P.program (node_term P.skeleton.nodes node) c.0) clauses c all i in
    let there = clause_there P.program (node_term P.skeleton.nodes node) c.0 of in
    let many = is_of.prints.many in
    omega arith)

-- and so have those that serve it.
pub served_printed : (P : NamedProgram) (table : Determinacy) → IsTableOf P table → (row : List Ref) (node base : ℕ)
    (clauses : List ClauseNo) → AreServed P row node base clauses → All (λ (c : ClauseNo). c.0 < length table.prints.items) clauses
served_printed P table is_of row node base clauses served = of_printed P table is_of node clauses served.of

module _ (Q : ClauseNo → Type 0) (clauses : List ClauseNo) (from mid : ℕ) (before : NoneFrom Q clauses from mid) where
  pub none_joined : (to : ℕ) → NoneFrom Q clauses mid to → NoneFrom Q clauses from to
  none_joined to none k c after low there is = elim (cases_lt k mid) [
    | inl early ↦ before k c after early there is
    | inr late ↦ none k c (omega arith) low there is
  ]

  -- The first from there on is the first of all,
  pub next_joined : from ≤ mid → (found : Found) → IsNextOf Q clauses mid found → IsNextOf Q clauses from found
  next_joined later found next = record {
    place = next.place;
    behind = next.behind;
    after = let a = next.after in omega arith;
    there = next.there;
    is_so = next.is_so;
    first = none_joined next.place next.first;
  }

  -- and the count is that of all.
  pub count_joined : from ≤ mid → (judged : Judged) → IsCount Q clauses mid judged → IsCount Q clauses from judged
  count_joined later Nothing none = none_joined (length clauses) none
  count_joined later (One clause) (found, same, next, none) = (found, same, next_joined later found next, none)
  count_joined later Several (one, two, first, second) = (one, two, next_joined later one first, second)

-- ---- What they say of a goal

-- Of two that are found one after the other the second is the later clause.
pub two_rise : (P : NamedProgram) (row : List Ref) (node base : ℕ) (clauses : List ClauseNo) → AreServed P row node base clauses
    → (Q : ClauseNo → Type 0) (from : ℕ) (one two : Found) → IsNextOf Q clauses from one → IsNextOf Q clauses one.behind two
    → one.clause.0 < two.clause.0
two_rise P row node base clauses served Q from one two first second =
    let low : second.place < length clauses = slice_get_within clauses second.place two.clause second.there in
    let order : (get_or clauses first.place none_such).0 < (get_or clauses second.place none_such).0 =
    served.rise first.place second.place none_such (let b = first.behind in let a = second.after in omega arith) low in
    let left : get_or clauses first.place none_such ≡ one.clause =
    get_or_from_slice_get clauses first.place one.clause none_such first.there in
    let right : get_or clauses second.place none_such ≡ two.clause =
    get_or_from_slice_get clauses second.place two.clause none_such second.there in
    subst (λ (x : ClauseNo). x.0 < two.clause.0) left
    (subst (λ (y : ClauseNo). (get_or clauses first.place none_such).0 < y.0) right order)

module _ (P : NamedProgram) (row : List Ref) (g : Goal) (node : ℕ) (of : IsNodeOf P row g node) (clauses : List ClauseNo)
    (served : AreServed P row node g.base clauses) where
  abbrev Q : ClauseNo → Type 0
  Q = NodeHas P row node g.base

  -- a candidate of the node is one of the goal, and the other way round
  of_goal : (c : ℕ) → NodeHas P row node g.base (record { 0 = c }) → CandidateInCells P row g c
  of_goal c q = subst (λ (t : Term). Candidate P.program (equations_of P row) outside (placed g.base t) c) (sym of.term) q

  of_node : (c : ℕ) → CandidateInCells P row g c → NodeHas P row node g.base (record { 0 = c })
  of_node c q = subst (λ (t : Term). Candidate P.program (equations_of P row) outside (placed g.base t) c) of.term q

  -- it stands somewhere among the clauses
  placed_at : (c : ℕ) → CandidateInCells P row g c → (k : ℕ) × (k < length clauses) × (slice_get clauses k ≡ Some (record { 0 = c }))
  placed_at c q =
      let (k, low, is) = served.all (record { 0 = c }) (of_node c q) in
      (k, low, slice_get-get_or clauses k (record { 0 = c }) low ∙ ap (λ (x : ClauseNo). Some x) is)

  -- None but the clause at a place is a candidate.
  only_there : (place : ℕ) (clause : ClauseNo) → slice_get clauses place ≡ Some clause
      → NoneFrom (NodeHas P row node g.base) clauses 0 place → NoneFrom (NodeHas P row node g.base) clauses (place + 1) (length clauses)
      → (d : ℕ) → CandidateInCells P row g d → d ≡ clause.0
  only_there place clause at before behind d q =
      let (k, low, there) = placed_at d q in
      elim (cases_lt k place) [
        | inl early ↦ absurd (before k (record { 0 = d }) (omega arith) early there (of_node d q))
        | inr past ↦ elim (cases_lt place k) [
          | inl late ↦ absurd (behind k (record { 0 = d }) (omega arith) low there (of_node d q))
          | inr here ↦
              let same : k ≡ place = omega arith in
              let both : Some (record { 0 = d }) ≡ Some clause = sym there ∙ ap (slice_get clauses) same ∙ at in
              let one : record { 0 = d } ≡ clause = same_Some (record { 0 = d }) clause both in
              ap (λ (x : ClauseNo). x.0) one
        ]
      ]

  -- No clause is a candidate,
  nothing_found : NoneFrom (NodeHas P row node g.base) clauses 0 (length clauses) → IsJudged P row g Nothing
  nothing_found none c q =
      let (k, low, there) = placed_at c q in
      none k (record { 0 = c }) (omega arith) low there (of_node c q)

  -- one alone,
  one_found : (found : Found) → IsNextOf (NodeHas P row node g.base) clauses 0 found
      → NoneFrom (NodeHas P row node g.base) clauses found.behind (length clauses) → IsJudged P row g (One found.clause)
  one_found found next none = (
    of_goal found.clause.0 next.is_so,
    only_there next.place found.clause next.there next.first
        (subst (λ (b : ℕ). NoneFrom (NodeHas P row node g.base) clauses b (length clauses)) next.behind none),
  )

  -- or two.
  two_found : (one two : Found) → IsNextOf (NodeHas P row node g.base) clauses 0 one
      → IsNextOf (NodeHas P row node g.base) clauses one.behind two → IsJudged P row g Several
  two_found one two first second =
      let less = two_rise P row node g.base clauses served (NodeHas P row node g.base) 0 one two first second in (
        one.clause.0,
        two.clause.0,
        (λ e. omega arith),
        of_goal one.clause.0 first.is_so,
        of_goal two.clause.0 second.is_so,
      )

  -- So the count tells of the goal.
  pub counted : (judged : Judged) → IsCount (NodeHas P row node g.base) clauses 0 judged → IsJudged P row g judged
  counted Nothing none = nothing_found none
  counted (One clause) (found, same, next, none) =
      subst (λ (c : ClauseNo). IsJudged P row g (One c)) same (one_found found next none)
  counted Several (one, two, first, second) = two_found one two first second

  pub counted_if : (r : Result Judged AllocError) → IfOk r (IsCount (NodeHas P row node g.base) clauses 0) → IfOk r (IsJudged P row g)
  counted_if (Ok judged) count = counted judged count
  counted_if (Err fault) none = tt

  -- ---- What is told of it without a trial of the last

  pub none_left : NoneFrom (NodeHas P row node g.base) clauses 0 (length clauses) → IsNarrowed P row g narrowed.Nothing
  none_left none = nothing_found none

  pub one_left : (place : ℕ) (clause : ClauseNo) → place < length clauses → clause ≡ get_or clauses place clause
      → NoneFrom (NodeHas P row node g.base) clauses 0 place → NoneFrom (NodeHas P row node g.base) clauses (place + 1) (length clauses)
      → IsNarrowed P row g (narrowed.AtMost clause)
  one_left place clause low read before behind =
      let there : slice_get clauses place ≡ Some clause =
      slice_get-get_or clauses place clause low ∙ ap (λ (c : ClauseNo). Some c) (sym read) in (
        subst (λ (t : Term). Of P.program t clause.0) (sym of.term)
            (All-contains (λ (c : ClauseNo). Of P.program (node_term P.skeleton.nodes node) c.0) clauses clause served.of (place, low, sym read)),
        only_there place clause there before behind,
      )

  -- Where no two clauses serve it.
  pub few_left : (n : Narrowed) → (n ≡ narrowed.Nothing → clauses ≡ []) → ((clause : ClauseNo) → n ≡ narrowed.AtMost clause → clauses ≡ clause ∷ [])
      → n ≢ narrowed.Several → IsNarrowed P row g n
  few_left narrowed.Nothing none one never = none_left (λ k c from low there has. let long = ap length (none refl) in omega arith)
  few_left (narrowed.AtMost clause) none one never =
      let is : clauses ≡ clause ∷ [] = one clause refl in
      let long = ap length is in
      one_left 0 clause (omega arith) (ap (λ cs. get_or cs 0 clause) (sym is)) (λ k c from low there has. omega arith)
      (λ k c from low there has. omega arith)
  few_left narrowed.Several none one never = absurd (never refl)

  pub as_judged : (judged : Judged) → IsJudged P row g judged → IsNarrowed P row g (narrowed_as judged)
  as_judged Nothing none = none
  as_judged (One clause) sole = (of_placed P.program g.base (term_of P.program g) clause.0 sole.0.0, sole.1)
  as_judged Several two = two

  -- Those that were picked are the goal's candidates.
  pub picked_are : (out : List ClauseNo) → Picks (NodeHas P row node g.base) clauses out → AreCandidates P row g out
  picked_are out picks = (
    picked_in_order Q IsEarlier clauses out picks served.rise,
    λ c. (
      λ i.
          let (m, at, is) = contains_origin (λ (no : ClauseNo). no.0) out c i in
          let found = picked_is Q clauses out picks m at in
          subst (λ (d : ℕ). CandidateInCells P row g d) (sym is) (of_goal m.0 found.1),
      λ q.
          let holds : Q (record { 0 = c }) = of_node c q in
          let there : Contains out (record { 0 = c }) =
          all_picked Q clauses out picks (record { 0 = c }) (served.all (record { 0 = c }) holds) holds in
          contains_image (λ (no : ClauseNo). no.0) out (record { 0 = c }) there,
    ),
  )

  -- ---- Where a look leaves two

  -- each candidate is one of them,
  one_of_two : (two : Two) → AreTwo (NodeHas P row node g.base) clauses two → (d : ℕ) → CandidateInCells P row g d
      → (d ≡ (get_or clauses two.first none_such).0) ⊎ (d ≡ (get_or clauses two.second none_such).0)
  one_of_two two are d q =
      let (k, low, there) = placed_at d q in
      let clause : ClauseNo = record { 0 = d } in
      let read : get_or clauses k none_such ≡ clause = get_or_from_slice_get clauses k clause none_such there in
      let is_at : (place : ℕ) → k ≡ place → d ≡ (get_or clauses place none_such).0 =
      λ place here. sym (ap (λ (x : ClauseNo). x.0) (sym (ap (λ (i : ℕ). get_or clauses i none_such) here) ∙ read)) in
      elim (cases_lt k two.first) [
        | inl early ↦ absurd (are.before k clause (omega arith) early there (of_node d q))
        | inr past ↦ elim (cases_lt two.first k) [
          | inr here ↦ inl (is_at two.first (omega arith))
          | inl later ↦ elim (cases_lt k two.second) [
            | inl between ↦ absurd (are.between k clause (omega arith) between there (of_node d q))
            | inr behind ↦ elim (cases_lt two.second k) [
              | inr here ↦ inr (is_at two.second (omega arith))
              | inl late ↦ absurd (are.behind k clause (omega arith) low there (of_node d q))
            ]
          ]
        ]
      ]

  -- so where there are two candidates they are these.
  both_of_two : (a b c d : ℕ) → (c ≢ d) → (c ≡ a) ⊎ (c ≡ b) → (d ≡ a) ⊎ (d ≡ b) → CandidateInCells P row g c → CandidateInCells P row g d
      → CandidateInCells P row g a × CandidateInCells P row g b
  both_of_two a b c d other left right first second = elim left [
    | inl ca ↦ elim right [
      | inl da ↦ absurd (other (ca ∙ sym da))
      | inr db ↦ (subst (CandidateInCells P row g) ca first, subst (CandidateInCells P row g) db second)
    ]
    | inr cb ↦ elim right [
      | inl da ↦ (subst (CandidateInCells P row g) da second, subst (CandidateInCells P row g) cb first)
      | inr db ↦ absurd (other (cb ∙ sym db))
    ]
  ]

  pub two_are : (two : Two) → AreTwo (NodeHas P row node g.base) clauses two → IsJudged P row g Several
      → AreCandidates P row g (get_or clauses two.first none_such ∷ get_or clauses two.second none_such ∷ [])
  two_are two are (c, d, other, first, second) =
      let one : ClauseNo = get_or clauses two.first none_such in
      let last : ClauseNo = get_or clauses two.second none_such in
      let rise : one.0 < last.0 = served.rise two.first two.second none_such are.order are.there in
      let both = both_of_two one.0 last.0 c d other (one_of_two two are c first) (one_of_two two are d second) first second in (
        AllPairs-cons IsEarlier one (last ∷ []) (All-cons (IsEarlier one) last [] rise (All-nil (IsEarlier one)))
            (AllPairs-cons IsEarlier last [] (All-nil (IsEarlier last)) (all_pairs_none IsEarlier)),
        λ e. (
          λ i. elim (contains_cases one.0 e (last.0 ∷ []) i) [
            | inl is ↦ subst (CandidateInCells P row g) (sym is) both.0
            | inr more ↦ elim (contains_cases last.0 e [] more) [
              | inl is ↦ subst (CandidateInCells P row g) (sym is) both.1
              | inr none ↦ absurd (contains_none e none)
            ]
          ],
          λ q. elim (one_of_two two are e q) [
            | inl is ↦ subst (Contains (one.0 ∷ last.0 ∷ [])) (sym is) (contains_first one.0 (last.0 ∷ []))
            | inr is ↦ subst (Contains (one.0 ∷ last.0 ∷ [])) (sym is)
                (contains_more one.0 last.0 (last.0 ∷ []) (contains_first last.0 []))
          ],
        ),
      )

  -- So it is where they were put on a list one after the other.
  pub two_put : {X : Type 0} (two : Two) → AreTwo (NodeHas P row node g.base) clauses two → IsJudged P row g Several
      → (r : Result X AllocError) (empty middle out : List ClauseNo) → empty ≡ []
      → middle ≡ empty ++ get_or clauses two.first none_such ∷ []
      → OnOk r (out ≡ middle ++ get_or clauses two.second none_such ∷ []) → OnOk r (AreCandidates P row g out)
  two_put two are several (Ok x) empty middle out none one both =
      let one_is = one ∙ ap (λ (xs : List ClauseNo). xs ++ get_or clauses two.first none_such ∷ []) none in
      let both_are = both ∙ ap (λ (xs : List ClauseNo). xs ++ get_or clauses two.second none_such ∷ []) one_is in
      subst (λ (xs : List ClauseNo). AreCandidates P row g xs) (sym both_are) (two_are two are several)
  two_put two are several (Err x) empty middle out none one both = tt
