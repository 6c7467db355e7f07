-- The entries of predicates, which are found by their first clauses.
use Rattle.std.proofs.Common.{ℕ, zero, suc, ◌+◌, ◌≡◌, ◌≢◌, ◌<◌, true, true≢false, ◌&&◌, leb, ltb, nat_eq, List, [], ◌∷◌, ◌++◌, length, get_or, Some, refl}
use Rattle.std.proofs.Common.{sym, ap, ◌∙◌, subst, inl, inr, arith}
use Rattle.std.specs.Prelude.{Contains, slice_get, map}
use Rattle.std.specs.Option.{option_map}
use Rattle.std.proofs.lemmas.Bool.{cases_eq, eqb-true}
use Rattle.std.proofs.lemmas.List.{length-append}
use Rattle.std.proofs.lemmas.Option.{slice_get-map, none-some, same_Some}
use Rattle.and_model.specs.Terms.{Term, Terms, variable, number, compound, none, more, width}
use Rattle.and_model.specs.Programs.{Program, clause_at, same_count, same_predicate}
use Rattle.and_model.specs.declared.numbers.ClauseNo.{ClauseNo}
use Rattle.and_program.specs.Items.{node_item}
use Rattle.and_program.specs.Shown.{clauses_with}
use Rattle.and_program.specs.Skeletons
use Rattle.and_program.specs.Skeletons.{Shape, NodeItem, call, AllThere, after}
use Rattle.and_program.specs.declared.item.ItemNode.{ItemNode}
use Rattle.and_laws.proofs.Substitutions.{and_left, and_right}
use Rattle.and_clause_index.specs.Tables.{clauses_for, IsEntryFor, AreFirsts, IsLonger}
use Rattle.and_clause_index.specs.declared.table.Predicate.{Predicate}
use Rattle.and_clause_index.proofs.ClauseLists.{listed_of}

-- ---- Lists with one more

before_last : {X : Type 0} (xs : List X) (x : X) (n : ℕ) → n < length xs → slice_get (xs ++ x ∷ []) n ≡ slice_get xs n
before_last [] x n low = absurd (omega arith)
before_last (y ∷ xs) x zero low = refl
before_last (y ∷ xs) x (suc n) low = before_last xs x n (omega arith)

at_last : {X : Type 0} (xs : List X) (x : X) (n : ℕ) → n ≡ length xs → slice_get (xs ++ x ∷ []) n ≡ Some x
at_last [] x zero is = refl
at_last [] x (suc n) is = absurd (omega arith)
at_last (y ∷ xs) x zero is = absurd (omega arith)
at_last (y ∷ xs) x (suc n) is = at_last xs x n (omega arith)

-- ---- A predicate by its first clause

same_width : (ts us : Terms) → same_count ts us ≡ true → width ts ≡ width us
same_width none none e = refl
same_width none (more u us) e = absurd (true≢false (sym e))
same_width (more t ts) none e = absurd (true≢false (sym e))
same_width (more t ts) (more u us) e = ap suc (same_width ts us e)

-- terms of one predicate have the same clauses
same_clauses : (P : Program) (g h : Term) → same_predicate g h ≡ true → clauses_for P h ≡ clauses_for P g
same_clauses P (variable q k) h e = absurd (true≢false (sym e))
same_clauses P (number z) h e = absurd (true≢false (sym e))
same_clauses P (compound c ts) (variable q k) e = absurd (true≢false (sym e))
same_clauses P (compound c ts) (number z) e = absurd (true≢false (sym e))
same_clauses P (compound c ts) (compound d us) e =
    let name : c ≡ d = eqb-true c d (and_left (nat_eq c d) (same_count ts us) e) in
    let count : width ts ≡ width us = same_width ts us (and_right (nat_eq c d) (same_count ts us) e) in
    ap (λ (n : ℕ). clauses_with n (width us) 1 P.clauses) (sym name) ∙ ap (λ (n : ℕ). clauses_with c n 1 P.clauses) (sym count)

-- The head of a clause of a predicate has the predicate's clauses.
pub clauses_of_head : (P : Program) (g : Term) (k : ClauseNo) → Contains (clauses_for P g) k
    → clauses_for P (clause_at P k.0).head ≡ clauses_for P g
clauses_of_head P g k c =
    same_clauses P g (clause_at P k.0).head
    (and_right (ltb 0 k.0 && leb k.0 (length P.clauses)) (same_predicate g (clause_at P k.0).head) (listed_of P g k c))

pub first_clauses : (P : Program) (g : Term) (ks : List ClauseNo) → ks ≡ clauses_for P g → 0 < length ks
    → clauses_for P (clause_at P (get_or ks 0 (record { 0 = 0 })).0).head ≡ ks
first_clauses P g [] is some = absurd (omega arith)
first_clauses P g (k ∷ ks) is some =
    clauses_of_head P g k (subst (λ (l : List ClauseNo). Contains l k) is (0, some, refl)) ∙ sym is

-- ---- One entry more

module _ (P : Program) (predicates more_of : List Predicate) (entry : Predicate) (is : more_of ≡ predicates ++ entry ∷ []) where
  abbrev all : List Predicate
  all = predicates ++ entry ∷ []

  long : length all ≡ length predicates + 1
  long = length-append predicates (entry ∷ [])

  pub longer_by_one : IsLonger predicates more_of
  longer_by_one = subst (IsLonger predicates) (sym is) (record {
    longer = let l = long in omega arith;
    same = λ n low. before_last predicates entry n low;
  })

  pub last_is : (n : ℕ) → n ≡ length predicates → slice_get more_of n ≡ Some entry
  last_is n at = ap (λ (ps : List Predicate). slice_get ps n) is ∙ at_last predicates entry n at

  module _ (old new : List ℕ) (first at : ℕ) (here : get_or new first 0 ≡ at)
      (others : (other : ℕ) → other ≢ first → get_or new other 0 ≡ get_or old other 0) (is_last : at ≡ length predicates)
      (entry_is : IsEntryFor P (clauses_for P (clause_at P first).head) (Some entry)) (firsts : AreFirsts P predicates old) where
    found_in_all : (k : ℕ) → get_or new k 0 ≢ 0 → get_or new k 0 < length all
    found_in_all k other = elim (cases_eq k first) [
      | inl e ↦ let l = long in let n : get_or new k 0 ≡ at = ap (λ (i : ℕ). get_or new i 0) e ∙ here in omega arith
      | inr apart ↦
          let n : get_or new k 0 ≡ get_or old k 0 = others k apart in
          let low : get_or old k 0 < length predicates = firsts.found k (λ e. other (n ∙ e)) in
          let l = long in
          omega arith
    ]

    entry_in_all : (k : ℕ) → get_or new k 0 ≢ 0 → IsEntryFor P (clauses_for P (clause_at P k).head) (slice_get all (get_or new k 0))
    entry_in_all k other = elim (cases_eq k first) [
      | inl e ↦
          let n : get_or new k 0 ≡ at = ap (λ (i : ℕ). get_or new i 0) e ∙ here in
          let there : slice_get all (get_or new k 0) ≡ Some entry = ap (slice_get all) n ∙ at_last predicates entry at is_last in
          let Claim : ℕ → Type 0 = λ i. IsEntryFor P (clauses_for P (clause_at P i).head) (Some entry) in
          subst (IsEntryFor P (clauses_for P (clause_at P k).head)) (sym there) (subst Claim (sym e) entry_is)
      | inr apart ↦
          let n : get_or new k 0 ≡ get_or old k 0 = others k apart in
          let set : get_or old k 0 ≢ 0 = λ e. other (n ∙ e) in
          let there : slice_get all (get_or new k 0) ≡ slice_get predicates (get_or old k 0) =
          ap (slice_get all) n ∙ before_last predicates entry (get_or old k 0) (firsts.found k set) in
          subst (IsEntryFor P (clauses_for P (clause_at P k).head)) (sym there) (firsts.entries k set)
    ]

    pub firsts_of_all : AreFirsts P more_of new
    firsts_of_all = subst (λ (ps : List Predicate). AreFirsts P ps new) (sym is) (record {
      some = let l = long in omega arith;
      empty = subst (IsEntryFor P []) (sym (before_last predicates entry 0 firsts.some)) firsts.empty;
      found = found_in_all;
      entries = entry_in_all;
    })

-- ---- Items

-- the node of a call among the items of a body is there
pub call_there : (ss : List Shape) (k : ℕ) (items : List NodeItem) (i n : ℕ) → AllThere ss k items → slice_get items i ≡ Some (call n)
    → n < length ss
call_there ss k [] i n there e = absurd (none-some (call n) e)
call_there ss k (x ∷ items) zero n there e =
    let same : x ≡ call n = same_Some x (call n) e in
    subst (Skeletons.IsThere ss k) same there.0
call_there ss k (x ∷ items) (suc i) n there e = call_there ss (after k x) items i n there.1 e

-- an item of a body by its nodes is that of the code
pub item_read : (items : List ItemNode) (i : ℕ) (x : NodeItem) → slice_get (map node_item items) i ≡ Some x
    → (item : ItemNode) × (slice_get items i ≡ Some item) × (node_item item ≡ x)
item_read [] i x e = absurd (none-some x e)
item_read (y ∷ items) zero x e = (y, refl, same_Some (node_item y) x e)
item_read (y ∷ items) (suc i) x e = item_read items i x e

pub item_in_map : (items : List ItemNode) (i : ℕ) (item : ItemNode) → slice_get items i ≡ Some item
    → slice_get (map node_item items) i ≡ Some (node_item item)
item_in_map items i item e = slice_get-map node_item items i ∙ ap (option_map node_item) e
