-- What a number does to an unfolding and to the lifted agenda: it takes the first call or choice of both, or of neither.
use Rattle.std.proofs.Common.{ℕ, suc, ◌≡◌, ◌+◌, ◌≢◌, Bool, true, false, true≢false, cond, ◌&&◌, nat_eq, eqb-true, eq-eqb, List, [], ◌∷◌, ◌++◌, append_assoc}
use Rattle.std.proofs.Common.{Option, Some, None, refl, ap, sym, ◌∙◌, subst, inl, inr, ◌⊎◌, arith}
use Rattle.std.specs.Prelude.{Contains, AllPairs}
use Rattle.std.proofs.lemmas.List.Elements.{Contains-append_left, Contains-append_right, All-contains}
use Rattle.and_model.specs.Terms.{Path, Term, Terms, variable, number, compound, none, more, framed, Substitution, apply, apply_all}
use Rattle.and_model.specs.Solutions.{Equation}
use Rattle.and_model.specs.Programs.{call, equal, arithmetic, fail, Arithmetic, is, compare, Clause, clause_at, clause_weight, is_goals, is_of, Of}
use Rattle.and_model.specs.Programs.{same_count, same_predicate}
use Rattle.and_model.specs.Trees.{Agenda, goal, agenda, mapped}
use Rattle.and_laws.proofs.Equality.{bool_cases}
use Rattle.and_laws.proofs.Substitutions.{and_left, and_right}
use Rattle.and_laws.proofs.Ordered.{contains_first, contains_more, contains_cases, contains_none}
use Rattle.and_laws.proofs.Pairwise.{all_pairs_first, all_pairs_rest}
use Rattle.and_laws.proofs.Agreement.{Under, Apart, apart_body}
use Rattle.and_source.specs.Source.{SourceItems, no_items, plain, either, Alternatives, no_alternatives, alternative, SourceClause, SourceProgram}
use Rattle.and_source.specs.Source.{source_clauses, direct_is_goals, source_weight, alternative_weight, distinct_variables, variables_of_items}
use Rattle.and_source.specs.Source.{variables_of_alternatives, disjunctions_in, has_name, IsNumbered}
use Rattle.and_source.specs.Unfolding.{SourceAgenda, source_end, source_goal, source_equation, source_reckoning, choice, source_agenda, Unfolding, advanced}
use Rattle.and_source.specs.Unfolding.{taker, chosen, taken}
use Rattle.and_source.specs.Lifted.{Numbering, as_terms, numbered_variables, lifted_items, lifted_clause, numbering_of, lifted_alternative, lift}
use Rattle.and_lifting.proofs.Fronts.{front_equations, front_arithmetics, from_call}
use Rattle.and_lifting.proofs.Renaming.{Stand}
use Rattle.and_lifting.proofs.Avoiding.{Frames, Avoids, AllAvoid, Narrower, agree_wider}
use Rattle.and_lifting.proofs.Inside.{IsUnlifted, Inside, AllInside, ClausesInside}
use Rattle.and_lifting.proofs.Matching.{Matches, match_goal, match_choice, matches_moved, body_matches, Base, Front, front}
use Rattle.and_lifting.proofs.Replacing.{stand_for, replaced, replaced_here, replaced_other, placed, seen_keeps, choice_base, call_base}
use Rattle.and_lifting.proofs.Places.{body_under, body_elsewhere, own_under, from_call_under, from_call_apart}
use Rattle.and_lifting.proofs.Numbered.{Numbered, pairs, in_range, found_at, found_by, HasAlternative, from_program, clause_paired, alternative_paired}

-- Weights are the same.
lifted_is_goals : (new : Numbering) (items : SourceItems) → is_goals (lifted_items new items) ≡ direct_is_goals items
lifted_is_goals new no_items = refl
lifted_is_goals new (plain (call g) items) = omega (arith, lifted_is_goals new items)
lifted_is_goals new (plain (equal a b) items) = omega (arith, lifted_is_goals new items)
lifted_is_goals new (plain (arithmetic (is l r)) items) = omega (arith, lifted_is_goals new items)
lifted_is_goals new (plain (arithmetic (compare m a b)) items) = omega (arith, lifted_is_goals new items)
lifted_is_goals new (plain fail items) = omega (arith, lifted_is_goals new items)
lifted_is_goals new (either name alts items) = lifted_is_goals new items

pub clause_weighs_same : (k : SourceClause) → clause_weight (lifted_clause k) ≡ source_weight k
unfolding clause_weight source_weight
clause_weighs_same k = omega (arith, lifted_is_goals (λ q n. n) k.body)

alternative_weighs_same : (k : SourceClause) (name : ℕ) (alts : Alternatives) (items : SourceItems)
    → clause_weight (lifted_alternative k name alts items) ≡ alternative_weight alts items
unfolding clause_weight alternative_weight
alternative_weighs_same k name alts items = omega (arith, lifted_is_goals (numbering_of alts) items)

pub advanced_weighs : (ag : SourceAgenda) (es : List Equation) (gs : List Arithmetic) (w : ℕ) → (advanced ag es gs w).weight ≡ w
advanced_weighs source_end es gs w = refl
advanced_weighs (source_goal p g rest) es gs w = refl
advanced_weighs (source_equation a b rest) es gs w = advanced_weighs rest ((a, b) ∷ es) gs w
advanced_weighs (source_reckoning a rest) es gs w = advanced_weighs rest es (gs ++ a ∷ []) w
advanced_weighs (choice q p alts rest) es gs w = refl

-- which clause takes a call, and which alternative a choice
taker_some : (g : Term) (c : ℕ) (ks : List SourceClause) (k : SourceClause) → taker g c ks ≡ Some k → Contains ks k × (c ≡ k.number)
    × (same_predicate g k.head ≡ true)
taker_some g c [] k e = absurd (cc)
taker_some g c (j ∷ ks) k e = elim (bool_cases (nat_eq c j.number && same_predicate g j.head)) [
  | inl t ↦
      let is : Some j ≡ Some k = ap (λ b. cond b (Some j) (taker g c ks)) (sym t) ∙ e in
      let same : j ≡ k = ap (λ (o : Option SourceClause). elim o as (λ o. SourceClause) [ None ↦ j | Some x ↦ x ]) is in
      subst (λ (z : SourceClause). Contains (j ∷ ks) z × (c ≡ z.number) × (same_predicate g z.head ≡ true)) same (
        contains_first j ks,
        eqb-true c j.number (and_left (nat_eq c j.number) (same_predicate g j.head) t),
        and_right (nat_eq c j.number)
            (same_predicate g j.head) t,
      )
  | inr f ↦ (let r = taker_some g c ks k (ap (λ b. cond b (Some j) (taker g c ks)) (sym f) ∙ e) in (contains_more j k ks r.0, r.1, r.2))
]

both_true : (a b : Bool) → a ≡ true → b ≡ true → a && b ≡ true
both_true a b e f = rw (e, f) refl

taker_none : (g : Term) (c : ℕ) (ks : List SourceClause) → taker g c ks ≡ None → (k : SourceClause) → Contains ks k → c ≡ k.number
    → same_predicate g k.head ≡ true → ⊥
taker_none g c [] e k i n s = contains_none k i
taker_none g c (j ∷ ks) e k i n s = elim (bool_cases (nat_eq c j.number && same_predicate g j.head)) [
  | inl t ↦ (let is : Some j ≡ None = ap (λ b. cond b (Some j) (taker g c ks)) (sym t) ∙ e in absurd (cc))
  | inr f ↦ elim (contains_cases j k ks i) [
    | inl same ↦ true≢false (sym (both_true (nat_eq c j.number) (same_predicate g j.head)
        (eq-eqb c j.number (n ∙ ap (λ (z : SourceClause). z.number) same)) (ap (λ (z : SourceClause). same_predicate g z.head) (sym same) ∙ s)) ∙ f)
    | inr l ↦ taker_none g c ks (ap (λ b. cond b (Some j) (taker g c ks)) (sym f) ∙ e) k l n s
  ]
]

chosen_some : (c : ℕ) (alts : Alternatives) (items : SourceItems) → chosen c alts ≡ Some items → HasAlternative alts c items
chosen_some c no_alternatives items e = absurd (cc)
chosen_some c (alternative d its alts) items e = elim (bool_cases (nat_eq c d)) [
  | inl t ↦
      let is : Some its ≡ Some items = ap (λ b. cond b (Some its) (chosen c alts)) (sym t) ∙ e in
      inl (eqb-true c d t, sym (ap (λ (o : Option SourceItems). elim o as (λ o. SourceItems) [ None ↦ its | Some x ↦ x ]) is))
  | inr f ↦ inr (chosen_some c alts items (ap (λ b. cond b (Some its) (chosen c alts)) (sym f) ∙ e))
]

chosen_none : (c : ℕ) (alts : Alternatives) → chosen c alts ≡ None → (items : SourceItems) → HasAlternative alts c items → ⊥
chosen_none c no_alternatives e items h = elim h [ ]
chosen_none c (alternative d its alts) e items (inl h) =
    let is : Some its ≡ None = ap (λ b. cond b (Some its) (chosen c alts)) (sym (eq-eqb c d h.0)) ∙ e in absurd (cc)
chosen_none c (alternative d its alts) e items (inr h) = elim (bool_cases (nat_eq c d)) [
  | inl t ↦ (let is : Some its ≡ None = ap (λ b. cond b (Some its) (chosen c alts)) (sym t) ∙ e in absurd (cc))
  | inr f ↦ chosen_none c alts (ap (λ b. cond b (Some its) (chosen c alts)) (sym f) ∙ e) items h
]

option_or : {A : Type 0} (o : Option A) → (o ≡ None) ⊎ ((x : A) × (o ≡ Some x))
option_or None = inl refl
option_or (Some x) = inr (x, refl)

-- what is inside a clause of the program, and inside an alternative
inside_clause : (P : SourceProgram) (ks : List SourceClause) → ClausesInside P ks → (k : SourceClause) → Contains ks k → IsUnlifted P k.head × Inside P k.body
inside_clause P [] a k i = absurd (contains_none k i)
inside_clause P (j ∷ ks) a k i = elim (contains_cases j k ks i) [
  | inl e ↦ subst (λ (z : SourceClause). IsUnlifted P z.head × Inside P z.body) (sym e) (a.0, a.1)
  | inr l ↦ inside_clause P ks a.2 k l
]

inside_alternative : (P : SourceProgram) (alts : Alternatives) → AllInside P alts → (c : ℕ) (items : SourceItems) → HasAlternative alts c items
    → Inside P items
inside_alternative P no_alternatives a c items h = elim h [ ]
inside_alternative P (alternative d its alts) a c items (inl h) = subst (λ z. Inside P z) (sym h.1) a.0
inside_alternative P (alternative d its alts) a c items (inr h) = inside_alternative P alts a.1 c items h

alternative_variables : (alts : Alternatives) (c : ℕ) (items : SourceItems) → HasAlternative alts c items → (v : Path × ℕ)
    → Contains (variables_of_items items) v → Contains (variables_of_alternatives alts) v
alternative_variables no_alternatives c items h v i = elim h [ ]
alternative_variables (alternative d its alts) c items (inl h) v i =
    Contains-append_left (variables_of_items its) (variables_of_alternatives alts) v (subst (λ z. Contains (variables_of_items z) v) h.1 i)
alternative_variables (alternative d its alts) c items (inr h) v i = Contains-append_right (variables_of_items its) (variables_of_alternatives alts) v
    (alternative_variables alts c items h v i)

-- a call of a disjunction's predicate has its name
name_of_same : (n : ℕ) (h : Term) (us : Terms) → same_predicate h (compound n us) ≡ true → has_name n h ≡ true
name_of_same n (variable q k) us e = e
name_of_same n (number z) us e = e
name_of_same n (compound c ts) us e = eq-eqb n c (sym (eqb-true c n (and_left (nat_eq c n) (same_count ts us) e)))

name_is_same : (n : ℕ) (ts : Terms) (t : Term) → same_predicate (compound n ts) t ≡ true → has_name n t ≡ true
name_is_same n ts (variable q k) e = e
name_is_same n ts (number z) e = e
name_is_same n ts (compound c us) e = and_left (nat_eq n c) (same_count ts us) e

same_count_of : (up : Substitution) (ts us : Terms) → same_count (apply_all up ts) us ≡ same_count ts us
same_count_of up none none = refl
same_count_of up none (more u us) = refl
same_count_of up (more t ts) none = refl
same_count_of up (more t ts) (more u us) = same_count_of up ts us

numbered_count : (q : Path) (vs : List (Path × ℕ)) (k : ℕ) → same_count (apply_all (λ f n. variable q n) (as_terms vs)) (numbered_variables k vs) ≡ true
numbered_count q [] k = refl
numbered_count q (v ∷ vs) k = numbered_count q vs (suc k)

-- Disjunctions with one name are one.
one_disjunction : (ds : List (ℕ × Alternatives)) → AllPairs (λ (d e : ℕ × Alternatives). d.0 ≢ e.0) ds → (x y : ℕ × Alternatives) → Contains ds x
    → Contains ds y → x.0 ≡ y.0 → x ≡ y
one_disjunction [] a x y i j e = absurd (contains_none x i)
one_disjunction (d ∷ ds) a x y i j e =
    let apart : (z : ℕ × Alternatives) → Contains ds z
    → d.0 ≢ z.0 = λ z k. All-contains (λ (z : ℕ × Alternatives). d.0 ≢ z.0) ds z (all_pairs_first (λ (d e : ℕ × Alternatives). d.0 ≢ e.0) d ds a) k in
    elim (contains_cases d x ds i) [
      | inl f ↦ elim (contains_cases d y ds j) [
        | inl g ↦ f ∙ sym g
        | inr l ↦ absurd (apart y l (ap (λ (z : ℕ × Alternatives). z.0) (sym f) ∙ e))
      ]
      | inr k ↦ elim (contains_cases d y ds j) [
        | inl g ↦ absurd (apart x k (ap (λ (z : ℕ × Alternatives). z.0) (sym g) ∙ sym e))
        | inr l ↦ one_disjunction ds (all_pairs_rest (λ (d e : ℕ × Alternatives). d.0 ≢ e.0) d ds a) x y k l e
      ]
    ]

-- The unfolding that goes on, and what is read after the clause K has taken the call h of the path p, before ks.
pub record Goes (P : SourceProgram) (v : Unfolding) (w : ℕ) (p : Path) (h : Term) (ks : Agenda) (ds : List Equation) (hs : List Arithmetic)
    (K : Clause) : Type 0 where
  pub weighs : v.weight ≡ w + clause_weight K
  pub up : Substitution
  pub base : Base up (Under (from_call (agenda p 0 K.body ks))) v.equations v.arithmetics
      (ds ++ (h, framed p K.head) ∷ front_equations (agenda p 0 K.body ks)) (hs ++ front_arithmetics (agenda p 0 K.body ks))
  pub matches : Matches P up (Under (from_call (agenda p 0 K.body ks))) v.agenda (from_call (agenda p 0 K.body ks))
  pub apart : Apart (from_call (agenda p 0 K.body ks))

pub base_narrower : (up : Substitution) (V U : Frames) (es : List Equation) (gs : List Arithmetic) (ds : List Equation) (hs : List Arithmetic) → Narrower V U
    → Base up U es gs ds hs → Base up V es gs ds hs
base_narrower up V U es gs ds hs n b = record {
  untouched = λ q k v. b.untouched q k (n q v);
  own = b.own;
  not_query = λ v. b.not_query (n [] v);
  extends = b.extends;
  steady = λ s r a. b.steady s r (agree_wider V U s r n a);
  goals = b.goals;
  goals_steady = λ s r a. b.goals_steady s r (agree_wider V U s r n a);
}

goes_on : (P : SourceProgram) (up : Substitution) (ag : SourceAgenda) (es : List Equation) (gs : List Arithmetic) (w more_weight : ℕ) (p : Path) (h : Term)
    (ks : Agenda) (ds : List Equation) (hs : List Arithmetic) (K : Clause)
    → more_weight ≡ clause_weight K → Base up (Under (agenda p 0 K.body ks)) es gs (ds ++ (h, framed p K.head) ∷ []) hs
    → Matches P up (Under (agenda p 0 K.body ks)) ag (agenda p 0 K.body ks)
    → Apart (agenda p 0 K.body ks) → Goes P (advanced ag es gs (w + more_weight)) w p h ks ds hs K
goes_on P up ag es gs w more_weight p h ks ds hs K same b m a =
    let body : Agenda = agenda p 0 K.body ks in
    let V : Frames = Under body in
    let U : Frames = Under (from_call body) in
    let v : Unfolding = advanced ag es gs (w + more_weight) in
    let r : Front P up V ag es gs (w + more_weight) body (ds ++ (h, framed p K.head) ∷ []) hs = front P up V ag es gs (w + more_weight) body
    (ds ++ (h, framed p K.head) ∷ []) hs m b in
    record {
      weighs = advanced_weighs ag es gs (w + more_weight) ∙ ap (λ n. w + n) same;
      up = up;
      base = base_narrower up U V v.equations v.arithmetics (ds ++ (h, framed p K.head) ∷ front_equations body) (hs ++ front_arithmetics body)
          (from_call_under body)
          (subst (λ l. Base up V v.equations v.arithmetics l (hs ++ front_arithmetics body))
          (append_assoc ds ((h, framed p K.head) ∷ []) (front_equations body)) r.base);
      matches = matches_moved P up up U V v.agenda (from_call body) (λ q n k. refl) (from_call_under body) r.matches;
      apart = from_call_apart body a;
    }

-- The number takes neither, or both.
abbrev pub Next : (P : SourceProgram) (c : ℕ) (ag : SourceAgenda) (es : List Equation) (gs : List Arithmetic) (w : ℕ) (p : Path) (h : Term) (ks : Agenda)
    (ds : List Equation) (hs : List Arithmetic) → Type 0
Next P c ag es gs w p h ks ds hs =
    ((taken P c ag es gs w ≡ None) × (is_of (lift P) h c ≡ false))
    ⊎ ((v : Unfolding) × (taken P c ag es gs w ≡ Some v) × Of (lift P) h c × Goes P v w p h ks ds hs (clause_at (lift P) c))

module _ (P : SourceProgram) (n : IsNumbered P) (all : ClausesInside P (source_clauses P)) (c : ℕ) (es : List Equation) (gs : List Arithmetic) (w : ℕ)
    (p : Path) (ks : Agenda) (ds : List Equation) (hs : List Arithmetic) where
  -- a clause with the number c is found by it
  found : (K : Clause) → Contains (pairs P) (c, K) → (in_range P c ≡ true) × (clause_at (lift P) c ≡ K)
  found K i = found_at P n (c, K) i

  of_found : (h : Term) (K : Clause) → Contains (pairs P) (c, K) → same_predicate h K.head ≡ true → Of (lift P) h c
  of_found h K i s = both_true (in_range P c) (same_predicate h (clause_at (lift P) c).head) (found K i).0
      (ap (λ (z : Clause). same_predicate h z.head) (found K i).1 ∙ s)

  -- a clause that takes a call has a numbered clause
  of_pair : (h : Term) → Of (lift P) h c → (K : Clause) × Contains (pairs P) (c, K) × (same_predicate h K.head ≡ true)
  of_pair h e =
      let there : in_range P c ≡ true = and_left (in_range P c) (same_predicate h (clause_at (lift P) c).head) e in
      let r = found_by P n c there in (
        r.0,
        r.1,
        ap (λ (z : Clause). same_predicate h z.head) (sym (found r.0 r.1).1)
            ∙ and_right (in_range P c) (same_predicate h (clause_at (lift P) c).head) e,
      )

  call_not : (g h : Term) → ((t : Term) → same_predicate h t ≡ same_predicate g t) → IsUnlifted P h → taker g c (source_clauses P) ≡ None → Of (lift P) h c
      → ⊥
  call_not g h same unlifted e o =
      let r = of_pair h o in
      elim (from_program P (c, r.0) r.1) [
        | inl f ↦ taker_none g c (source_clauses P) e f.clause f.there (ap (λ (x : Numbered). x.0) f.is)
            (sym (same f.clause.head) ∙ ap (λ (x : Numbered). same_predicate h x.1.head) (sym f.is) ∙ r.2)
        | inr f ↦ true≢false
            (sym (name_of_same f.disjunction.0 h (numbered_variables 0 (distinct_variables f.disjunction.1))
            (ap (λ (z : Clause). same_predicate h z.head) (sym f.is) ∙ r.2))
            ∙ unlifted f.disjunction f.there)
      ]

  call_next : (up : Substitution) (g h : Term) (rest : SourceAgenda) → Base up (Under (goal p h ks)) es gs ds hs → Matches P up (Under (goal p h ks)) rest ks
      → Apart (goal p h ks)
      → apply up h ≡ g → Avoids (Under (goal p h ks)) h → ((t : Term) → same_predicate h t ≡ same_predicate g t) → IsUnlifted P h
      → Next P c (source_goal p g rest) es gs w p h ks ds hs
  call_next up g h rest b m a stands avoid same unlifted = elim (option_or (taker g c (source_clauses P))) [
    | inl e ↦ inl (
      ap (mapped (λ (k : SourceClause). advanced (source_agenda p p 0 k.body rest) ((g, framed p k.head) ∷ es) gs (w + source_weight k))) e,
      elim (bool_cases (is_of (lift P) h c)) [ inl t ↦ absurd (call_not g h same unlifted e t) | inr f ↦ f ],
    )
    | inr x ↦
        let k : SourceClause = x.0 in
        let r = taker_some g c (source_clauses P) k x.1 in
        let K : Clause = lifted_clause k in
        let i : Contains (pairs P) (c, K) = subst (λ (z : ℕ). Contains (pairs P) (z, K)) (sym r.1) (clause_paired P k r.0) in
        let U : Frames = Under (goal p h ks) in
        let V : Frames = Under (agenda p 0 K.body ks) in
        let narrow : Narrower V U = body_under p h K.body ks in
        let off : V p → ⊥ = body_elsewhere p h K.body ks a in
        let inside = inside_clause P (source_clauses P) all k r.0 in
        let kept : Matches P up V rest ks = matches_moved P up up V U rest ks (λ q o j. refl) narrow m in
        let own : Stand up (λ q j. j) p p (variables_of_items k.body) = λ v j. b.untouched p v.1 (own_under p h ks) in
        inr (
          advanced (source_agenda p p 0 k.body rest) ((g, framed p k.head) ∷ es) gs (w + source_weight k),
          ap (mapped (λ (k : SourceClause). advanced (source_agenda p p 0 k.body rest) ((g, framed p k.head) ∷ es) gs (w + source_weight k))) x.1,
          of_found h K i (same k.head ∙ r.2),
          subst (λ (z : Clause). Goes P (advanced (source_agenda p p 0 k.body rest) ((g, framed p k.head) ∷ es) gs (w + source_weight k)) w p h ks ds hs z)
              (sym (found K i).1)
              (goes_on P up (source_agenda p p 0 k.body rest) ((g, framed p k.head) ∷ es) gs w (source_weight k) p h ks ds hs K (sym (clause_weighs_same k))
              (call_base up U V p g h k.head es gs ds hs b narrow off (own_under p h ks) stands avoid)
              (body_matches P up V (λ q j. j) p p 0 k.body rest ks off inside.1 own kept)
              (apart_body p 0 K.body ks a.0 a.1)),
        )
  ]

  choice_not : (name : ℕ) (alts : Alternatives) (ts : Terms) → Contains (disjunctions_in P) (name, alts) → chosen c alts ≡ None
      → Of (lift P) (compound name ts) c → ⊥
  choice_not name alts ts i e o =
      let r = of_pair (compound name ts) o in
      elim (from_program P (c, r.0) r.1) [
        | inl f ↦ true≢false (sym (name_is_same name ts f.clause.head (ap (λ (x : Numbered). same_predicate (compound name ts) x.1.head) (sym f.is) ∙ r.2))
            ∙ (inside_clause P (source_clauses P) all f.clause f.there).0 (name, alts) i)
        | inr f ↦
            let names : name ≡ f.disjunction.0 = eqb-true name f.disjunction.0
            (name_is_same name ts (lifted_alternative f.clause f.disjunction.0 f.disjunction.1 f.items).head
            (ap (λ (z : Clause). same_predicate (compound name ts) z.head) (sym f.is) ∙ r.2)) in
            let one : (name, alts) ≡ f.disjunction = one_disjunction (disjunctions_in P) n.own_names (name, alts) f.disjunction i f.there names in
            chosen_none c alts e f.items (subst (λ (z : ℕ × Alternatives). HasAlternative z.1 c f.items) (sym one) f.has)
      ]

  choice_next : (up : Substitution) (q : Path) (name : ℕ) (alts : Alternatives) (ts : Terms) (rest : SourceAgenda)
      → Base up (Under (goal p (compound name ts) ks)) es gs ds hs
      → Matches P up (Under (goal p (compound name ts) ks)) rest ks → Apart (goal p (compound name ts) ks)
      → apply_all up ts ≡ apply_all (λ f k. variable q k) (as_terms (distinct_variables alts)) → AllAvoid (Under (goal p (compound name ts) ks)) ts
      → Contains (disjunctions_in P) (name, alts) → AllInside P alts → Next P c (choice q p alts rest) es gs w p (compound name ts) ks ds hs
  choice_next up q name alts ts rest b m a stands avoid there inside = elim (option_or (chosen c alts)) [
    | inl e ↦ inl (
      ap (mapped (λ (its : SourceItems). advanced (source_agenda q p 0 its rest) es gs (w + alternative_weight alts its))) e,
      elim (bool_cases (is_of (lift P) (compound name ts) c)) [ inl t ↦ absurd (choice_not name alts ts there e t) | inr f ↦ f ],
    )
    | inr x ↦
        let items : SourceItems = x.0 in
        let has : HasAlternative alts c items = chosen_some c alts items x.1 in
        let lifted = alternative_paired P name alts there c items has in
        let k : SourceClause = lifted.0 in
        let K : Clause = lifted_alternative k name alts items in
        let vs : List (Path × ℕ) = distinct_variables alts in
        let h : Term = compound name ts in
        let U : Frames = Under (goal p h ks) in
        let V : Frames = Under (agenda p 0 K.body ks) in
        let narrow : Narrower V U = body_under p h K.body ks in
        let off : V p → ⊥ = body_elsewhere p h K.body ks a in
        let on : U p = own_under p h ks in
        let down : Substitution = replaced up q p vs in
        let kept : Matches P down V rest ks = matches_moved P up down V U rest ks
        (λ r o j. replaced_other up q p vs r j (λ e. o (subst U (sym e) on))) narrow m in
        let own : Stand down (numbering_of alts) p q (variables_of_items items) = λ v i. (
        let occurs : Contains vs v = seen_keeps [] (variables_of_alternatives alts) v (inr (alternative_variables alts c items has v i)) in
        let place = placed v vs occurs in
        replaced_here up q p vs (numbering_of alts v.0 v.1) ∙ ap (λ o. stand_for q p o (numbering_of alts v.0 v.1)) place.1 ∙ ap (variable q) place.2) in
        let counts : same_count ts (numbered_variables 0 vs) ≡ true = sym (same_count_of up ts (numbered_variables 0 vs))
        ∙ ap (λ us. same_count us (numbered_variables 0 vs)) stands ∙ numbered_count q vs 0 in
        inr (
          advanced (source_agenda q p 0 items rest) es gs (w + alternative_weight alts items),
          ap (mapped (λ (its : SourceItems). advanced (source_agenda q p 0 its rest) es gs (w + alternative_weight alts its))) x.1,
          of_found h K lifted.1 (both_true (nat_eq name name) (same_count ts (numbered_variables 0 vs)) (eq-eqb name name refl) counts),
          subst (λ (z : Clause). Goes P (advanced (source_agenda q p 0 items rest) es gs (w + alternative_weight alts items)) w p h ks ds hs z)
              (sym (found K lifted.1).1)
              (goes_on P down (source_agenda q p 0 items rest) es gs w (alternative_weight alts items) p h ks ds hs K
              (sym (alternative_weighs_same k name alts items))
              (choice_base up U V q p name vs ts es gs ds hs b narrow off on stands avoid)
              (body_matches P down V (numbering_of alts) q p 0 items rest ks off (inside_alternative P alts inside c items has) own kept)
              (apart_body p 0 K.body ks a.0 a.1)),
        )
  ]

  -- So it is for whatever stands first.
  pub goes_next : (up : Substitution) (ag : SourceAgenda) (h : Term) → Base up (Under (goal p h ks)) es gs ds hs
      → Matches P up (Under (goal p h ks)) ag (goal p h ks) → Apart (goal p h ks)
      → Next P c ag es gs w p h ks ds hs
  goes_next up ag h b (match_goal p' g h' rest ks' stands avoid same unlifted m) a = call_next up g h rest b m a stands avoid same unlifted
  goes_next up ag h b (match_choice q p' name alts ts rest ks' stands avoid there inside m) a =
      choice_next up q name alts ts rest b m a stands avoid there inside
