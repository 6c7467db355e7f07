-- The clauses under the key of a call's first argument serve the call.
use Rattle.std.proofs.Common.{ℕ, ℤ, ◌≡◌, ◌<◌, ◌⊎◌, Bool, true, false, true≢false, ◌&&◌, cond, nat_eq, List, [], ◌∷◌, Option, refl, sym, ap, ◌∙◌, subst, inl}
use Rattle.std.proofs.Common.{inr, arith}
use Rattle.std.specs.Prelude.{All, AllPairs, Contains}
use Rattle.std.proofs.lemmas.Bool.{eq-eqb}
use Rattle.std.proofs.lemmas.Bool.Decides.{Decides-int_eq}
use Rattle.std.proofs.lemmas.List.Elements.{All-contains}
use Rattle.std.proofs.lemmas.List.Kept.{AllPairs-cons}
use Rattle.and_model.specs.Terms.{Term, variable, number, compound, none, more}
use Rattle.and_model.specs.Programs.{Program, Of, clause_at}
use Rattle.and_model.specs.declared.numbers.ClauseNo.{ClauseNo}
use Rattle.and_model.specs.declared.numbers.NameNo.{NameNo}
use Rattle.and_model.specs.declared.reference.Ref.{Ref}
use Rattle.and_program.specs.Shown.{shown_term, count_of, argument_of}
use Rattle.and_program.specs.Skeletons.{node_term}
use Rattle.and_program.specs.declared.node.NodeKind.{NodeKind}
use Rattle.and_program.specs.declared.node.NodeKind.TheVariants.{Variable, Number, Compound}
use Rattle.and_first_argument.specs.Additions.{picked}
use Rattle.and_first_argument.specs.Keys.{same_key}
use Rattle.and_first_argument.specs.declared.key.Key.{Key}
use Rattle.and_first_argument.specs.declared.key.Key.TheVariants as keys
use Rattle.and_laws.proofs.Equality.{bool_cases}
use Rattle.and_laws.proofs.Ordered.{contains_first, contains_more, contains_cases, contains_none}
use Rattle.and_laws.proofs.Pairwise.{all_pairs_none, all_pairs_first, all_pairs_rest}
use Rattle.and_cells.specs.Ranges.{NamedProgram}
use Rattle.and_branch_laws.proofs.Lists.{all_of}
use Rattle.and_clause_index.specs.Looks.{KindsDiffer, IsLook}
use Rattle.and_clause_index.specs.Served.{NodeHas, AreServed}
use Rattle.and_clause_index.specs.Tables.{clauses_for, clauses_in, under_key, first_of, added, additions_of, tried, IsEntryFor}
use Rattle.and_clause_index.specs.declared.looking.Look.{Look}
use Rattle.and_clause_index.specs.declared.table.Predicate.{Predicate}
use Rattle.and_clause_index.proofs.ClauseLists.{IsEarlier, clauses_rise, of_listed, listed_of}
use Rattle.and_clause_index.proofs.Calls.{of_placed, predicate_serves}
use Rattle.and_clause_index.proofs.Differing.{first_apart}

-- ---- First arguments

pub first_is : (t : Term) → 0 < count_of (shown_term t) → first_of t ≡ shown_term (argument_of t 0)
first_is (variable q k) some = absurd (omega arith)
first_is (number z) some = absurd (omega arith)
first_is (compound c none) some = absurd (omega arith)
first_is (compound c (more t ts)) some = refl

pub no_first : (t : Term) → count_of (shown_term t) ≡ 0 → first_of t ≡ Variable 0
no_first (variable q k) is = refl
no_first (number z) is = refl
no_first (compound c none) is = refl
no_first (compound c (more t ts)) is = absurd (omega arith)

-- what differs from a first argument shows that there is one
some_first : (k : NodeKind) (t : Term) → KindsDiffer k (first_of t)
    → (0 < count_of (shown_term t)) × KindsDiffer k (shown_term (argument_of t 0))
some_first (Variable j) t d = absurd d
some_first (Number z) (variable q k) d = absurd d
some_first (Number z) (number y) d = absurd d
some_first (Number z) (compound c none) d = absurd d
some_first (Number z) (compound c (more t ts)) d = (omega arith, d)
some_first (Compound b n) (variable q k) d = absurd d
some_first (Compound b n) (number y) d = absurd d
some_first (Compound b n) (compound c none) d = absurd d
some_first (Compound b n) (compound c (more t ts)) d = (omega arith, d)

-- ---- What is picked by a key

-- the key of what is no variable
data HasKey : NodeKind → Key → Type 0 where
  of_number : (z : ℤ) → HasKey (Number z) (keys.Number z)
  of_name : (c : NameNo) (n : ℕ) → HasKey (Compound c n) (keys.Name c n)

and_false : (a b : Bool) → a && b ≡ false → (a ≡ false) ⊎ (b ≡ false)
and_false true b e = inr e
and_false false b e = inl refl

-- What has another key differs.
other_key : (kind held : NodeKind) (key other : Key) → HasKey kind key → HasKey held other → same_key key other ≡ false
    → KindsDiffer kind held
other_key k h key other (of_number z) (of_number y) e = λ is. true≢false (sym ((Decides-int_eq z y).1 is) ∙ e)
other_key k h key other (of_number z) (of_name d m) e = tt
other_key k h key other (of_name c n) (of_number y) e = tt
other_key k h key other (of_name c n) (of_name d m) e = elim (and_false (nat_eq c.0 d.0) (nat_eq n m) e) [
  | inl names ↦ inl (λ is. true≢false (sym (eq-eqb c.0 d.0 is) ∙ names))
  | inr counts ↦ inr (λ is. true≢false (sym (eq-eqb n m is) ∙ counts))
]

module _ (P : Program) (kind : NodeKind) (key : Key) (has : HasKey kind key) where
  abbrev picks : List ClauseNo → List ClauseNo
  picks cs = picked key (additions_of P cs)

  abbrev first : ClauseNo → NodeKind
  first c = first_of (clause_at P c.0).head

  -- one clause more is picked, or it differs in its first argument
  one_more : (c : ClauseNo) (cs : List ClauseNo) (held : NodeKind)
      → (picked key (added held c ∷ additions_of P cs) ≡ c ∷ picked key (additions_of P cs))
      ⊎ ((picked key (added held c ∷ additions_of P cs) ≡ picked key (additions_of P cs)) × KindsDiffer kind held)
  one_more c cs (Variable j) = inl refl
  one_more c cs (Number y) = elim (bool_cases (same_key key (keys.Number y))) [
    | inl e ↦ inl (ap (λ (b : Bool). cond b (c ∷ picked key (additions_of P cs)) (picked key (additions_of P cs))) e)
    | inr e ↦ inr (
      ap (λ (b : Bool). cond b (c ∷ picked key (additions_of P cs)) (picked key (additions_of P cs))) e,
      other_key kind (Number y) key (keys.Number y) has (of_number y) e,
    )
  ]
  one_more c cs (Compound d m) = elim (bool_cases (same_key key (keys.Name d m))) [
    | inl e ↦ inl (ap (λ (b : Bool). cond b (c ∷ picked key (additions_of P cs)) (picked key (additions_of P cs))) e)
    | inr e ↦ inr (
      ap (λ (b : Bool). cond b (c ∷ picked key (additions_of P cs)) (picked key (additions_of P cs))) e,
      other_key kind (Compound d m) key (keys.Name d m) has (of_name d m) e,
    )
  ]

  -- What is picked was there,
  picked_there : (cs : List ClauseNo) (c : ClauseNo) → Contains (picked key (additions_of P cs)) c → Contains cs c
  picked_there [] c i = absurd (contains_none c i)
  picked_there (x ∷ cs) c i = elim (one_more x cs (first_of (clause_at P x.0).head)) [
    | inl e ↦ elim (contains_cases x c (picked key (additions_of P cs)) (subst (λ (ks : List ClauseNo). Contains ks c) e i)) [
      | inl is ↦ subst (λ (y : ClauseNo). Contains (x ∷ cs) y) (sym is) (contains_first x cs)
      | inr later ↦ contains_more x c cs (picked_there cs c later)
    ]
    | inr e ↦ contains_more x c cs (picked_there cs c (subst (λ (ks : List ClauseNo). Contains ks c) e.0 i))
  ]

  -- what is not picked differs in its first argument,
  picked_all : (cs : List ClauseNo) (c : ClauseNo) → Contains cs c → (KindsDiffer kind (first_of (clause_at P c.0).head) → ⊥)
      → Contains (picked key (additions_of P cs)) c
  picked_all [] c i same = absurd (contains_none c i)
  picked_all (x ∷ cs) c i same = elim (contains_cases x c cs i) [
    | inl is ↦ elim (one_more x cs (first_of (clause_at P x.0).head)) [
      | inl e ↦ subst (λ (ks : List ClauseNo). Contains ks c) (sym e)
          (subst (λ (y : ClauseNo). Contains (x ∷ picked key (additions_of P cs)) y) (sym is)
          (contains_first x (picked key (additions_of P cs))))
      | inr e ↦ absurd (same (subst (λ (y : ClauseNo). KindsDiffer kind (first_of (clause_at P y.0).head)) (sym is) e.1))
    ]
    | inr later ↦ elim (one_more x cs (first_of (clause_at P x.0).head)) [
      | inl e ↦ subst (λ (ks : List ClauseNo). Contains ks c) (sym e)
          (contains_more x c (picked key (additions_of P cs)) (picked_all cs c later same))
      | inr e ↦ subst (λ (ks : List ClauseNo). Contains ks c) (sym e.0) (picked_all cs c later same)
    ]
  ]

  -- and the order stays.
  picked_rise : (cs : List ClauseNo) → AllPairs IsEarlier cs → AllPairs IsEarlier (picked key (additions_of P cs))
  picked_rise [] rise = all_pairs_none IsEarlier
  picked_rise (x ∷ cs) rise = elim (one_more x cs (first_of (clause_at P x.0).head)) [
    | inl e ↦ subst (AllPairs IsEarlier) (sym e)
        (AllPairs-cons IsEarlier x (picked key (additions_of P cs))
        (all_of (IsEarlier x) (picked key (additions_of P cs)) (λ y i.
        All-contains (IsEarlier x) cs y (all_pairs_first IsEarlier x cs rise) (picked_there cs y i)))
        (picked_rise cs (all_pairs_rest IsEarlier x cs rise)))
    | inr e ↦ subst (AllPairs IsEarlier) (sym e.0) (picked_rise cs (all_pairs_rest IsEarlier x cs rise))
  ]

-- ---- What is tried

-- Clauses of a node's predicate, in textual order.
pub record AreOwn (P : NamedProgram) (node : ℕ) (clauses : List ClauseNo) : Type 0 where
  pub of : All (λ (c : ClauseNo). Of P.program (node_term P.skeleton.nodes node) c.0) clauses
  pub rise : AllPairs (λ (c d : ClauseNo). c.0 < d.0) clauses

module _ (P : NamedProgram) (node : ℕ) where
  abbrev own_list : List ClauseNo
  own_list = clauses_for P.program (node_term P.skeleton.nodes node)

  own_all : AreOwn P node (clauses_for P.program (node_term P.skeleton.nodes node))
  own_all =
      let t : Term = node_term P.skeleton.nodes node in record {
        of = all_of (λ (c : ClauseNo). Of P.program t c.0) own_list (λ c i. listed_of P.program t c i);
        rise = clauses_rise P.program t;
      }

  own_picked : (kind : NodeKind) (key : Key) → HasKey kind key
      → AreOwn P node (picked key (additions_of P.program (clauses_for P.program (node_term P.skeleton.nodes node))))
  own_picked kind key has =
      let t : Term = node_term P.skeleton.nodes node in record {
        of = all_of (λ (c : ClauseNo). Of P.program t c.0) (picked key (additions_of P.program own_list)) (λ c i.
            listed_of P.program t c (picked_there P.program kind key has own_list c i));
        rise = picked_rise P.program kind key has own_list (clauses_rise P.program t);
      }

  own_by_key : (kind : NodeKind) (key : Key) → HasKey kind key → (entry : Option Predicate)
      → IsEntryFor P.program (clauses_for P.program (node_term P.skeleton.nodes node)) entry → AreOwn P node (under_key entry key)
  own_by_key kind key has entry known = elim (known.under key) [
    | inl few ↦ subst (AreOwn P node) (sym few) (own_picked kind key has)
    | inr all ↦ subst (AreOwn P node) (sym all) own_all
  ]

  -- Whatever is known of a first argument, what is tried of a known entry is the node's.
  pub own_tried : (entry : Option Predicate) → IsEntryFor P.program (clauses_for P.program (node_term P.skeleton.nodes node)) entry
      → (kind : NodeKind) → AreOwn P node (tried entry kind)
  own_tried entry known (Variable j) = subst (AreOwn P node) (sym known.all) own_all
  own_tried entry known (Number z) = own_by_key (Number z) (keys.Number z) (of_number z) entry known
  own_tried entry known (Compound c n) = own_by_key (Compound c n) (keys.Name c n) (of_name c n) entry known

-- ---- What serves a call

module _ (P : NamedProgram) (row : List Ref) (node base : ℕ) (look : Look) (is_look : IsLook P row node base look) where
  abbrev own : Term
  own = node_term P.skeleton.nodes node

  -- a clause whose first argument differs is no candidate
  differs_none : (c : ClauseNo) → KindsDiffer look.first (first_of (clause_at P.program c.0).head)
      → NodeHas P row node base c → ⊥
  differs_none c d has =
      let (some, apart) = some_first look.first (clause_at P.program c.0).head d in
      first_apart P row node base look c is_look some apart has

  key_serves : (key : Key) → HasKey look.first key
      → AreServed P row node base (picked key (additions_of P.program (clauses_for P.program (node_term P.skeleton.nodes node))))
  key_serves key has =
      let all : List ClauseNo = clauses_for P.program own in
      let are : AreOwn P node (picked key (additions_of P.program all)) = own_picked P node look.first key has in record {
        of = are.of;
        rise = are.rise;
        all = λ c has_it.
            picked_all P.program look.first key has all c (of_listed P.program own c.0 (of_placed P.program base own c.0 has_it.0))
            (λ d. differs_none c d has_it);
      }

  -- or all serve it
  by_key : (key : Key) → HasKey look.first key → (entry : Option Predicate)
      → IsEntryFor P.program (clauses_for P.program (node_term P.skeleton.nodes node)) entry → AreServed P row node base (under_key entry key)
  by_key key has entry known = elim (known.under key) [
    | inl few ↦ subst (AreServed P row node base) (sym few) (key_serves key has)
    | inr all ↦ predicate_serves P row node base (under_key entry key) all
  ]

  by_kind : (kind : NodeKind) → kind ≡ look.first → (entry : Option Predicate)
      → IsEntryFor P.program (clauses_for P.program (node_term P.skeleton.nodes node)) entry → AreServed P row node base (tried entry kind)
  by_kind (Variable j) is entry known = predicate_serves P row node base (clauses_in entry) known.all
  by_kind (Number z) is entry known =
      by_key (keys.Number z) (subst (λ (k : NodeKind). HasKey k (keys.Number z)) is (of_number z)) entry known
  by_kind (Compound c n) is entry known =
      by_key (keys.Name c n) (subst (λ (k : NodeKind). HasKey k (keys.Name c n)) is (of_name c n)) entry known

  -- What is tried of a known entry serves the call.
  pub first_serves : (entry : Option Predicate) → IsEntryFor P.program (clauses_for P.program (node_term P.skeleton.nodes node)) entry
      → AreServed P row node base (tried entry look.first)
  first_serves entry known = by_kind look.first refl entry known
