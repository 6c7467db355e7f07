-- The clauses that a sieve has for a mark of a call serve the call.
use Rattle.std.proofs.Common.{ℕ, zero, suc, ◌+◌, ◌≡◌, ◌≢◌, ◌<◌, ◌≤◌, ◌⊎◌, Bool, true, false, true≢false, cond, nat_eq, List, [], ◌∷◌, ◌++◌, length, get_or, take}
use Rattle.std.proofs.Common.{Option, Some, None, refl, sym, ap, ◌∙◌, subst, inl, inr, arith}
use Rattle.std.specs.Prelude.{All, AllPairs, Contains}
use Rattle.std.proofs.lemmas.Bool.{cases_eq, eqb-true, eq-eqb}
use Rattle.std.proofs.lemmas.List.{get_or-set_same, get_or-set_other, length-append, length-set, take_more}
use Rattle.std.proofs.lemmas.List.Elements.{All-contains}
use Rattle.std.proofs.lemmas.List.Kept.{AllPairs-cons}
use Rattle.and_model.specs.Terms.{Term, variable, Substitution, apply}
use Rattle.and_model.specs.Programs.{Program, Of, clause_at}
use Rattle.and_model.specs.declared.numbers.ClauseNo.{ClauseNo}
use Rattle.and_model.specs.declared.reference.Ref.{Ref}
use Rattle.and_program.specs.Skeletons.{node_term}
use Rattle.and_laws.proofs.Equality.{bool_cases}
use Rattle.and_laws.proofs.Ordered.{contains_first, contains_more, contains_cases, contains_none}
use Rattle.and_laws.proofs.Pairwise.{all_pairs_none, all_pairs_first, all_pairs_rest}
use Rattle.and_laws.proofs.Substitutions.{apply_then}
use Rattle.and_cells.specs.Ranges.{NamedProgram}
use Rattle.and_branch_laws.specs.Judging.{outside}
use Rattle.and_branch_laws.specs.Variables.{placed}
use Rattle.and_branch_laws.proofs.Lists.{all_of}
use Rattle.and_clause_index.specs.Looks.{IsLook}
use Rattle.and_clause_index.specs.Prints.{print_of, differ, ArePrints, Tells, PrintTells}
use Rattle.and_clause_index.specs.Served.{NodeHas, AreServed}
use Rattle.and_clause_index.specs.Sieves.{mark_in, print_in, sifted, IsSieveOf, AreEmpty, with_put}
use Rattle.and_clause_index.specs.Tables.{clauses_for, head_print, sieve_in, IsSiftedBy, IsSifted, IsEntryFor}
use Rattle.and_clause_index.specs.declared.looking.Look.{Look}
use Rattle.and_clause_index.specs.declared.prints.Print.{Print}
use Rattle.and_clause_index.specs.declared.sieve.Place.{Place}
use Rattle.and_clause_index.specs.declared.sieve.Place.TheVariants as places
use Rattle.and_clause_index.specs.declared.sieve.Sieve.{Sieve}
use Rattle.and_clause_index.specs.declared.table.Predicate.{Predicate}
use Rattle.and_clause_index.proofs.Calls.{of_placed}
use Rattle.and_clause_index.proofs.ClauseLists.{IsEarlier, clauses_rise, of_listed, listed_of}
use Rattle.and_clause_index.proofs.Printing.{instance_tells, marks_meet}

-- ---- While rows are made

-- One row more without clauses.
empty_step : (rows : List (List ClauseNo)) → ((m : ℕ) → get_or rows m [] ≡ []) → (m : ℕ) → get_or (rows ++ [] ∷ []) m [] ≡ []
empty_step [] e zero = refl
empty_step [] e (suc m) = refl
empty_step (x ∷ xs) e zero = e 0
empty_step (x ∷ xs) e (suc m) = empty_step xs (λ n. e (suc n)) m

pub empty_more : (n : ℕ) (old new : List (List ClauseNo)) → new ≡ old ++ [] ∷ [] → AreEmpty n old → AreEmpty (n + 1) new
empty_more n old new is are = subst (AreEmpty (n + 1)) (sym is) (record {
  many_are = let l = length-append old ([] ∷ []) in let m = are.many_are in omega arith;
  empty = empty_step old are.empty;
})

-- So far the row of each mark has those clauses that it does not tell apart.
pub record AreSifted (print : ClauseNo → Print) (place : Place) (clauses : List ClauseNo) (rows : List (List ClauseNo)) : Type 0 where
  pub many : length rows ≡ 256
  pub rows_are : (m : ℕ) → m ≢ 0 → m < 256 → get_or rows m [] ≡ sifted print place m clauses

pub none_sifted : (print : ClauseNo → Print) (place : Place) (rows : List (List ClauseNo)) → AreEmpty 256 rows → AreSifted print place [] rows
none_sifted print place rows are = record { many = are.many_are; rows_are = λ m some low. are.empty m }

module _ (print : ClauseNo → Print) (place : Place) (m : ℕ) where
  abbrev apart : ClauseNo → Bool
  apart c = differ m (mark_in (print c) place)

  -- a clause more at the end, if it is not told apart
  one_kept : (c : ClauseNo) → differ m (mark_in (print c) place) ≡ false → (cs : List ClauseNo)
      → sifted print place m (cs ++ c ∷ []) ≡ sifted print place m cs ++ c ∷ []
  one_kept c same [] = ap (λ (b : Bool). cond b [] (c ∷ [])) same
  one_kept c same (x ∷ cs) = elim (bool_cases (apart x)) [
    | inl e ↦
        ap (λ (b : Bool). cond b (sifted print place m (cs ++ c ∷ [])) (x ∷ sifted print place m (cs ++ c ∷ []))) e
        ∙ one_kept c same cs
        ∙ sym (ap (λ (b : Bool). cond b (sifted print place m cs) (x ∷ sifted print place m cs) ++ c ∷ []) e)
    | inr e ↦
        ap (λ (b : Bool). cond b (sifted print place m (cs ++ c ∷ [])) (x ∷ sifted print place m (cs ++ c ∷ []))) e
        ∙ ap (λ (l : List ClauseNo). x ∷ l) (one_kept c same cs)
        ∙ sym (ap (λ (b : Bool). cond b (sifted print place m cs) (x ∷ sifted print place m cs) ++ c ∷ []) e)
  ]

  one_dropped : (c : ClauseNo) → differ m (mark_in (print c) place) ≡ true → (cs : List ClauseNo)
      → sifted print place m (cs ++ c ∷ []) ≡ sifted print place m cs
  one_dropped c other [] = ap (λ (b : Bool). cond b [] (c ∷ [])) other
  one_dropped c other (x ∷ cs) =
      ap (λ (l : List ClauseNo). cond (apart x) l (x ∷ l)) (one_dropped c other cs)

-- two marks that are not the same differ
differ_other : (a b : ℕ) → a ≢ 0 → b ≢ 0 → a ≢ b → differ a b ≡ true
differ_other a b some there other = rw (is_other a 0 some, is_other b 0 there, is_other a b other) refl
  where
    is_other : (x y : ℕ) → x ≢ y → nat_eq x y ≡ false
    is_other x y e = elim (bool_cases (nat_eq x y)) [
      | inl same ↦ absurd (e (eqb-true x y same))
      | inr apart ↦ apart
    ]

differ_same : (a : ℕ) → differ a a ≡ false
differ_same a = elim (bool_cases (nat_eq a 0)) [
  | inl none ↦ rw none refl
  | inr some ↦ rw (some, eq-eqb a a refl) refl
]

-- A clause is put into the row of its mark.
pub sifted_more : (print : ClauseNo → Print) (place : Place) (cs : List ClauseNo) (c : ClauseNo) (mark : ℕ) (old new : List (List ClauseNo))
    → mark ≡ mark_in (print c) place → mark ≢ 0 → mark < 256 → new ≡ with_put old mark c → AreSifted print place cs old
    → AreSifted print place (cs ++ c ∷ []) new
sifted_more print place cs c mark old new is some low put are = subst (AreSifted print place (cs ++ c ∷ [])) (sym put) (record {
  many = length-set old mark (get_or old mark [] ++ c ∷ []) ∙ are.many;
  rows_are = λ m there below. elim (cases_eq m mark) [
    | inl same ↦
        let kept : differ m (mark_in (print c) place) ≡ false = ap (differ m) (sym (same ∙ is)) ∙ differ_same m in
        ap (λ (k : ℕ). get_or (with_put old mark c) k []) same
        ∙ get_or-set_same old mark (get_or old mark [] ++ c ∷ []) [] (let n = are.many in omega arith)
        ∙ ap (λ (l : List ClauseNo). l ++ c ∷ []) (ap (λ (k : ℕ). get_or old k []) (sym same) ∙ are.rows_are m there below)
        ∙ sym (one_kept print place m c kept cs)
    | inr other ↦
        let dropped : differ m (mark_in (print c) place) ≡ true = ap (differ m) (sym is) ∙ differ_other m mark there some other in
        get_or-set_other old mark m (get_or old mark [] ++ c ∷ []) [] other ∙ are.rows_are m there below
        ∙ sym (one_dropped print place m c dropped cs)
  ];
})

-- The same in a loop over clauses.
pub sifted_step : (print : ClauseNo → Print) (place : Place) (all : List ClauseNo) (i : ℕ) (d : ClauseNo) (mark : ℕ)
    (old new : List (List ClauseNo)) → i < length all → mark ≡ mark_in (print (get_or all i d)) place → mark ≢ 0 → mark < 256
    → new ≡ with_put old mark (get_or all i d) → AreSifted print place (take i all) old → AreSifted print place (take (i + 1) all) new
sifted_step print place all i d mark old new low is some below put are =
    subst (λ (cs : List ClauseNo). AreSifted print place cs new) (sym (take_more all i d low))
    (sifted_more print place (take i all) (get_or all i d) mark old new is some below put are)

-- ---- Prints of heads

-- Where prints are the same what is left is the same.
sifted_same : (one other : ClauseNo → Print) (place : Place) (m : ℕ) (cs : List ClauseNo)
    → ((c : ClauseNo) → Contains cs c → one c ≡ other c) → sifted one place m cs ≡ sifted other place m cs
sifted_same one other place m [] same = refl
sifted_same one other place m (c ∷ cs) same =
    ap (λ (p : Print). cond (differ m (mark_in p place)) (sifted one place m cs) (c ∷ sifted one place m cs)) (same c (contains_first c cs))
    ∙ ap (λ (l : List ClauseNo). cond (differ m (mark_in (other c) place)) l (c ∷ l))
    (sifted_same one other place m cs (λ x i. same x (contains_more c x cs i)))

pub sieve_moves : (one other : ClauseNo → Print) (cs : List ClauseNo) → ((c : ClauseNo) → Contains cs c → one c ≡ other c)
    → (sieve : Option Sieve) → IsSieveOf one cs sieve → IsSieveOf other cs sieve
sieve_moves one other cs same None is = tt
sieve_moves one other cs same (Some sieve) is = λ m some low. is m some low ∙ sifted_same one other sieve.place m cs same

-- The prints of all heads by the clauses' numbers are the prints of the heads.
pub prints_are : (P : Program) (prints : List Print) → ArePrints P prints → (cs : List ClauseNo)
    → All (λ (c : ClauseNo). c.0 ≤ length P.clauses) cs → (c : ClauseNo) → Contains cs c → print_in prints c ≡ head_print P c
prints_are P prints are cs there c i = are.each c.0 (All-contains (λ (k : ClauseNo). k.0 ≤ length P.clauses) cs c there i)

-- They are there.
pub printed : (P : Program) (prints : List Print) → ArePrints P prints → (cs : List ClauseNo)
    → All (λ (c : ClauseNo). c.0 ≤ length P.clauses) cs → All (λ (c : ClauseNo). c.0 < length prints) cs
printed P prints are cs there = all_of (λ (c : ClauseNo). c.0 < length prints) cs (λ c i.
    let low = All-contains (λ (k : ClauseNo). k.0 ≤ length P.clauses) cs c there i in
    let many = are.many in
    omega arith)

-- ---- What a sieve leaves

module _ (print : ClauseNo → Print) (place : Place) (m : ℕ) where
  -- one clause more is left, or it is told apart
  one_more : (c : ClauseNo) (cs : List ClauseNo)
      → (sifted print place m (c ∷ cs) ≡ c ∷ sifted print place m cs)
      ⊎ ((sifted print place m (c ∷ cs) ≡ sifted print place m cs) × (differ m (mark_in (print c) place) ≡ true))
  one_more c cs = elim (bool_cases (differ m (mark_in (print c) place))) [
    | inl e ↦ inr (ap (λ (b : Bool). cond b (sifted print place m cs) (c ∷ sifted print place m cs)) e, e)
    | inr e ↦ inl (ap (λ (b : Bool). cond b (sifted print place m cs) (c ∷ sifted print place m cs)) e)
  ]

  -- What is left was there,
  sifted_there : (cs : List ClauseNo) (c : ClauseNo) → Contains (sifted print place m cs) c → Contains cs c
  sifted_there [] c i = absurd (contains_none c i)
  sifted_there (x ∷ cs) c i = elim (one_more x cs) [
    | inl e ↦ elim (contains_cases x c (sifted print place m cs) (subst (λ (ks : List ClauseNo). Contains ks c) e i)) [
      | inl is ↦ subst (λ (y : ClauseNo). Contains (x ∷ cs) y) (sym is) (contains_first x cs)
      | inr later ↦ contains_more x c cs (sifted_there cs c later)
    ]
    | inr e ↦ contains_more x c cs (sifted_there cs c (subst (λ (ks : List ClauseNo). Contains ks c) e.0 i))
  ]

  -- what is not told apart is left,
  sifted_all : (cs : List ClauseNo) (c : ClauseNo) → Contains cs c → differ m (mark_in (print c) place) ≡ false
      → Contains (sifted print place m cs) c
  sifted_all [] c i same = absurd (contains_none c i)
  sifted_all (x ∷ cs) c i same = elim (contains_cases x c cs i) [
    | inl is ↦ elim (one_more x cs) [
      | inl e ↦ subst (λ (ks : List ClauseNo). Contains ks c) (sym e)
          (subst (λ (y : ClauseNo). Contains (x ∷ sifted print place m cs) y) (sym is) (contains_first x (sifted print place m cs)))
      | inr e ↦ absurd (true≢false (sym (ap (λ (y : ClauseNo). differ m (mark_in (print y) place)) is ∙ e.1) ∙ same))
    ]
    | inr later ↦ elim (one_more x cs) [
      | inl e ↦ subst (λ (ks : List ClauseNo). Contains ks c) (sym e)
          (contains_more x c (sifted print place m cs) (sifted_all cs c later same))
      | inr e ↦ subst (λ (ks : List ClauseNo). Contains ks c) (sym e.0) (sifted_all cs c later same)
    ]
  ]

  -- and the order stays.
  sifted_rise : (cs : List ClauseNo) → AllPairs IsEarlier cs → AllPairs IsEarlier (sifted print place m cs)
  sifted_rise [] rise = all_pairs_none IsEarlier
  sifted_rise (x ∷ cs) rise = elim (one_more x cs) [
    | inl e ↦ subst (AllPairs IsEarlier) (sym e)
        (AllPairs-cons IsEarlier x (sifted print place m cs)
        (all_of (IsEarlier x) (sifted print place m cs) (λ y i.
        All-contains (IsEarlier x) cs y (all_pairs_first IsEarlier x cs rise) (sifted_there cs y i)))
        (sifted_rise cs (all_pairs_rest IsEarlier x cs rise)))
    | inr e ↦ subst (AllPairs IsEarlier) (sym e.0) (sifted_rise cs (all_pairs_rest IsEarlier x cs rise))
  ]

-- ---- What serves a call

-- the marks of one print tell of those of the other
place_tells : (p q : Print) → PrintTells p q → (place : Place) → Tells (mark_in p place) (mark_in q place)
place_tells p q t places.First = t.first.own
place_tells p q t places.FirstOfFirst = t.first.first
place_tells p q t places.SecondOfFirst = t.first.second
place_tells p q t places.Second = t.second.own
place_tells p q t places.FirstOfSecond = t.second.first
place_tells p q t places.SecondOfSecond = t.second.second
place_tells p q t places.Third = t.third
place_tells p q t places.Fourth = t.fourth

module _ (P : NamedProgram) (row : List Ref) (node base : ℕ) (look : Look) (is_look : IsLook P row node base look) where
  abbrev own : Term
  own = node_term P.skeleton.nodes node

  -- no place tells a candidate apart
  candidate_met : (c : ClauseNo) → NodeHas P row node base c → (place : Place)
      → differ (mark_in look.print place) (mark_in (head_print P.program c) place) ≡ false
  candidate_met c has place =
      let (s, solves) = has.1 in
      let head : Term = (clause_at P.program c.0).head in
      let call : Term = apply s (placed base own) in
      let clauses : Substitution = λ r j. s outside j in
      let same : call ≡ apply clauses head = solves.0 ∙ apply_then (λ r j. variable outside j) s head in
      let told : PrintTells (print_of head) (print_of call) =
      subst (λ (t : Term). PrintTells (print_of head) (print_of t)) (sym same) (instance_tells clauses head) in
      marks_meet (mark_in look.print place) (mark_in (print_of head) place) (mark_in (print_of call) place)
      (place_tells look.print (print_of call) (is_look s solves.1).print place) (place_tells (print_of head) (print_of call) told place)

  mark_serves : (place : Place)
      → AreServed P row node base
      (sifted (head_print P.program) place (mark_in look.print place) (clauses_for P.program (node_term P.skeleton.nodes node)))
  mark_serves place =
      let all : List ClauseNo = clauses_for P.program own in
      let print : ClauseNo → Print = head_print P.program in
      let m : ℕ = mark_in look.print place in record {
        of = all_of (λ (c : ClauseNo). Of P.program own c.0) (sifted print place m all) (λ c i.
            listed_of P.program own c (sifted_there print place m all c i));
        rise = sifted_rise print place m all (clauses_rise P.program own);
        all = λ c has.
            sifted_all print place m all c (of_listed P.program own c.0 (of_placed P.program base own c.0 has.0)) (candidate_met c has place);
      }

  sieve_serves : (sieve : Option Sieve)
      → IsSieveOf (head_print P.program) (clauses_for P.program (node_term P.skeleton.nodes node)) sieve
      → (old new : List ClauseNo) → IsSiftedBy sieve look.print old new → AreServed P row node base old → AreServed P row node base new
  sieve_serves None is old new same served = subst (AreServed P row node base) (sym same) served
  sieve_serves (Some sieve) is old new few served = elim few [
    | inl same ↦ subst (AreServed P row node base) (sym same) served
    | inr row_is ↦ subst (AreServed P row node base)
        (sym (row_is.2 ∙ is (mark_in look.print sieve.place) row_is.0 row_is.1)) (mark_serves sieve.place)
  ]

  -- What a sieve leaves of clauses that serve the call, or has in place of them, serves it.
  pub sifted_serves : (entry : Option Predicate)
      → IsEntryFor P.program (clauses_for P.program (node_term P.skeleton.nodes node)) entry
      → (old new : List ClauseNo) → IsSifted entry look.print old new → AreServed P row node base old → AreServed P row node base new
  sifted_serves entry known old new few served = sieve_serves (sieve_in entry) known.sieve old new few served
