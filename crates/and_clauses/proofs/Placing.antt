-- The place of a variable in a list, and rows of variables as arguments of a name.
use Rattle.std.proofs.Common.{ℕ, zero, suc, ◌+◌, ◌≡◌, ◌<◌, ◌≤◌, Bool, true, false, nat_eq, cond, List, [], ◌∷◌, ◌++◌, length, get_or, map, take, drop, refl}
use Rattle.std.proofs.Common.{ap, sym, ◌∙◌, arith, subst, slice_get, Some, inl, inr}
use Rattle.std.proofs.lemmas.Bool.Decides.{nat_tests}
use Rattle.std.proofs.lemmas.List.{length-append, map_push, drop_more, take-append-drop, take-take}
use Rattle.std.proofs.lemmas.Option.{slice_get-map, slice_get_read, slice_get_within, get_or_from_slice_get}
use Rattle.std.specs.Option.{option_map}
use Rattle.and_model.specs.Lines.{place_of}
use Rattle.and_model.specs.Terms
use Rattle.and_model.specs.Terms.{Path, Term, Terms, apply_all}
use Rattle.and_source.specs.Lifted.{Numbering, as_terms, numbered_variables}
use Rattle.and_source.specs.Source.{numbers_from}
use Rattle.and_program.specs.Skeletons
use Rattle.and_program.specs.Skeletons.{Shape, node_term, shape_term, terms_behind, term_list, Falls, AllFall}
use Rattle.and_program.specs.Kept.{AllWithin}
use Rattle.and_program.specs.Nodes.{shape_of, shapes_of}
use Rattle.and_program.specs.declared.node.Node.{Node}
use Rattle.and_program.proofs.NodeTerms.{node_term_whole}
use Rattle.and_judging.specs.Sorts.{own}
use Rattle.and_clauses.specs.Copied.{Grown}
use Rattle.and_clauses.specs.Copies.{IsNode, IsPut, Begins}
use Rattle.and_clauses.proofs.Copying.{grown_push, pushed_term, found_term, terms_stay, take-le}
use Rattle.and_drafts.proofs.Drafting.{Falls-more}
use Rattle.and_drafts.proofs.Noting.{Falls-append}

-- ---- A place.
pub place_here : (k : ℕ) (vs : List ℕ) (i x : ℕ) → i < length vs → x ≡ get_or vs i x → x ≡ k → place_of ([], k) (own (drop i vs)) ≡ 0
place_here k vs i x lt at is =
    let same : nat_eq k x ≡ true = grind (arith, nat_tests, is) in
    ap (λ us. place_of ([], k) (own us)) (drop_more vs i x lt ∙ ap (λ y. y ∷ drop (i + 1) vs) (sym at))
    ∙ ap (λ b. cond b 0 (suc (place_of ([], k) (own (drop (i + 1) vs))))) same

pub place_behind : (k : ℕ) (vs : List ℕ) (i x : ℕ) → i < length vs → x ≡ get_or vs i x → (x ≡ k → ⊥)
    → place_of ([], k) (own (drop i vs)) ≡ suc (place_of ([], k) (own (drop (i + 1) vs)))
place_behind k vs i x lt at other =
    ap (λ us. place_of ([], k) (own us)) (drop_more vs i x lt ∙ ap (λ y. y ∷ drop (i + 1) vs) (sym at))
    ∙ ap (λ b. cond b 0 (suc (place_of ([], k) (own (drop (i + 1) vs))))) (by (nat_eq k x) refl)
  where
    by : (b : Bool) → nat_eq k x ≡ b → b ≡ false
    by true e = let is : x ≡ k = grind (arith, nat_tests, e) in absurd (other is)
    by false e = refl

-- ---- Nodes grow.
pub begins_again : (a b c : List Shape) → Begins a b → Begins b c → Begins a c
begins_again a b c g h = sym (take-take (length a) (length b) c (take-le a b g)) ∙ ap (take (length a)) h ∙ g

pub begins_self : (a : List Shape) → Begins a a
begins_self [] = refl
begins_self (s ∷ ss) = ap (λ xs. s ∷ xs) (begins_self ss)

pub begins_same : (a b c : List Shape) → c ≡ b → Begins a b → Begins a c
begins_same a b c e g = ap (take (length a)) e ∙ g

-- the others stand behind
pub begins_all : (a b : List Shape) → Begins a b → b ≡ a ++ drop (length a) b
begins_all a b g = sym (take-append-drop (length a) b) ∙ ap (λ xs. xs ++ drop (length a) b) g

-- a node, by its shape
pub shape_there : (nodes : List Node) (n : ℕ) (s : Shape) (d : Node) → n < length nodes → d ≡ get_or nodes n d → shape_of d ≡ s
    → slice_get (shapes_of nodes) n ≡ Some s
shape_there nodes n s d lt at is =
    slice_get-map shape_of nodes n ∙ ap (option_map shape_of) (slice_get_read nodes (length nodes) n d refl lt at) ∙ ap (λ (t : Shape). Some t) is

-- ---- A row of variables.
abbrev pub as_variables : List ℕ → List Term
as_variables ks = map (λ k. Terms.variable [] k) ks

-- The nodes are those of variables of these numbers; some of them were added behind old ones.
pub record IsRow (m : ℕ) (old us : List Shape) (most : ℕ) (args ks : List ℕ) : Type 0 where
  pub terms : map (node_term us) args ≡ as_variables ks
  pub there : Falls (length us) args
  pub grown : Grown m old us most
  pub count : length us ≤ length old + length ks
  pub same : length args ≡ length ks

pub row_begun : (m : ℕ) (old : List Shape) (most : ℕ) (args ks : List ℕ) → args ≡ [] → ks ≡ [] → AllFall 0 old → AllWithin m old → length old ≤ most
    → IsRow m old old most args ks
row_begun m old most args ks a b falls within few =
    subst (λ xs. IsRow m old old most xs ks) (sym a) (subst (λ xs. IsRow m old old most [] xs) (sym b) (record {
      terms = refl;
      there = tt;
      grown = record { kept = begins_self old; falls = falls; within = within; few = few };
      count = let z : length old ≤ length old + 0 = omega arith in z;
      same = refl;
    }))

row_more : (m : ℕ) (old us vs : List Shape) (most : ℕ) (args more ks ls : List ℕ) (k : ℕ) → IsRow m old us most args ks
    → vs ≡ us ++ Skeletons.variable k ∷ [] → more ≡ args ++ length us ∷ [] → ls ≡ ks ++ k ∷ [] → k < 255 → length us + 1 ≤ most
    → IsRow m old vs most more ls
row_more m old us vs most args more ks ls k r made pushed next small few =
    let s : Shape = Skeletons.variable k in
    let longer : length vs ≡ length us + 1 = ap length made ∙ length-append us (s ∷ []) in record {
      terms = ap (map (node_term vs)) pushed ∙ map_push (node_term vs) args (length us)
          ∙ ap (λ xs. xs ++ node_term vs (length us) ∷ []) (terms_stay us vs s args made r.there ∙ r.terms)
          ∙ ap (λ t. as_variables ks ++ t ∷ []) (pushed_term us vs s made)
          ∙ sym (map_push (λ j. Terms.variable [] j) ks k) ∙ ap as_variables (sym next);
      there = subst (Falls (length vs)) (sym pushed)
          (Falls-append (length vs) args (length us ∷ []) (Falls-more (length us) (length vs) args (omega (arith, longer)) r.there)
          (omega (arith, longer), tt));
      grown = grown_push m old us vs s most r.grown made tt small few;
      count = let z : length ls ≡ length ks + 1 = ap length next ∙ length-append ks (k ∷ []) in omega (arith, longer, r.count, z);
      same = omega (arith, ap length pushed, length-append args (length us ∷ []), ap length next, length-append ks (k ∷ []), r.same);
    }

-- and again where the node was there
row_found : (m : ℕ) (old us : List Shape) (most : ℕ) (args more ks ls : List ℕ) (n k : ℕ) → IsRow m old us most args ks
    → slice_get us n ≡ Some (Skeletons.variable k) → more ≡ args ++ n ∷ [] → ls ≡ ks ++ k ∷ [] → IsRow m old us most more ls
row_found m old us most args more ks ls n k r found pushed next =
    let is = found_term us n k found in record {
      terms = ap (map (node_term us)) pushed ∙ map_push (node_term us) args n ∙ ap (λ xs. xs ++ node_term us n ∷ []) r.terms
          ∙ ap (λ t. as_variables ks ++ t ∷ []) is.1 ∙ sym (map_push (λ j. Terms.variable [] j) ks k) ∙ ap as_variables (sym next);
      there = subst (Falls (length us)) (sym pushed) (Falls-append (length us) args (n ∷ []) r.there (is.0, tt));
      grown = r.grown;
      count = let z : length ls ≡ length ks + 1 = ap length next ∙ length-append ks (k ∷ []) in omega (arith, r.count, z);
      same = omega (arith, ap length pushed, length-append args (n ∷ []), ap length next, length-append ks (k ∷ []), r.same);
    }

pub row_put : (m : ℕ) (old us vs : List Shape) (most : ℕ) (args more ks ls : List ℕ) (n k : ℕ) → IsRow m old us most args ks
    → IsPut us vs (Skeletons.variable k) n → more ≡ args ++ n ∷ [] → ls ≡ ks ++ k ∷ [] → k < 255 → length us + 1 ≤ most → IsRow m old vs most more ls
row_put m old us vs most args more ks ls n k r (inl put) pushed next small few =
    row_more m old us vs most args more ks ls k r put.0 (pushed ∙ ap (λ j. args ++ j ∷ []) put.1) next small few
row_put m old us vs most args more ks ls n k r (inr found) pushed next small few =
    subst (λ xs. IsRow m old xs most more ls) (sym found.0) (row_found m old us most args more ks ls n k r found.1 pushed next)

-- and a name takes them
pub row_named : (m : ℕ) (old us vs : List Shape) (most c : ℕ) (args ks : List ℕ) → IsRow m old us most args ks → vs ≡ us ++ Skeletons.compound c args ∷ []
    → c < m → length ks ≤ 255 → length us + 1 ≤ most → Grown m old vs most × IsNode vs (length us) (Terms.compound c (term_list (as_variables ks)))
row_named m old us vs most c args ks r made named few room =
    let s : Shape = Skeletons.compound c args in
    let longer : length vs ≡ length us + 1 = ap length made ∙ length-append us (s ∷ []) in (
      grown_push m old us vs s most r.grown made r.there (named, omega (arith, r.same)) room,
      (omega (arith, longer), pushed_term us vs s made ∙ ap (λ ts. Terms.compound c (term_list ts)) r.terms),
    )

-- or a node is there that has them with that name
pub row_taken : (m : ℕ) (old us : List Shape) (most c : ℕ) (args ks : List ℕ) (n : ℕ) → IsRow m old us most args ks
    → slice_get us n ≡ Some (Skeletons.compound c args) → IsNode us n (Terms.compound c (term_list (as_variables ks)))
row_taken m old us most c args ks n r found =
    let s : Shape = Skeletons.compound c args in
    let lt : n < length us = slice_get_within us n s found in (
      lt,
      node_term_whole us n s r.grown.falls lt ∙ ap (shape_term (terms_behind [] us)) (get_or_from_slice_get us n s s found)
          ∙ ap (λ ts. Terms.compound c (term_list ts)) r.terms,
    )

-- the arguments of the call of a disjunction, renumbered
pub called_row : (new : Numbering) (ks : List ℕ)
    → apply_all (λ q k. Terms.variable [] (new q k)) (as_terms (own ks)) ≡ term_list (as_variables (map (new []) ks))
called_row new [] = refl
called_row new (k ∷ ks) = ap (λ ts. Terms.more (Terms.variable [] (new [] k)) ts) (called_row new ks)

-- and those of its head
pub head_row : (k : ℕ) (vs : List (Path × ℕ)) → numbered_variables k vs ≡ term_list (as_variables (numbers_from k (length vs)))
head_row k [] = refl
head_row k (v ∷ vs) = ap (λ ts. Terms.more (Terms.variable [] k) ts) (head_row (suc k) vs)

pub numbers_last : (c n : ℕ) → numbers_from c (n + 1) ≡ numbers_from c n ++ (c + n) ∷ []
numbers_last c n = let z : n + 1 ≡ suc n = omega arith in ap (numbers_from c) z ∙ by c n
  where
    by : (b m : ℕ) → numbers_from b (suc m) ≡ numbers_from b m ++ (b + m) ∷ []
    by b zero = let z : b ≡ b + 0 = omega arith in ap (λ k. k ∷ []) z
    by b (suc m) = let z : suc b + m ≡ b + suc m = omega arith in ap (λ ks. b ∷ ks) (by (suc b) m ∙ ap (λ k. numbers_from (suc b) m ++ k ∷ []) z)

pub numbers-length : (c n : ℕ) → length (numbers_from c n) ≡ n
numbers-length c zero = refl
numbers-length c (suc n) = ap suc (numbers-length (suc c) n)
