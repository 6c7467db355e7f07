-- Codes in order: no whole code is a proper prefix of another, and a listing goes by the lexicographic order of codes.
use Rattle.std.proofs.Common.{ℕ, ◌≡◌, ◌<◌, ◌≤◌, List, [], ◌∷◌, ◌++◌, refl, ap, sym, ◌∙◌, subst, inr, arith, suc, length, length-append, get_or, append_assoc}
use Rattle.std.proofs.Common.{append-nil, All, AllPairs}
use Rattle.std.proofs.lemmas.List.Elements.{All-append, All-cons}
use Rattle.std.proofs.lemmas.List.Kept.{AllPairs-cons}
use Rattle.and_model.specs.Programs.{Program, clause_at}
use Rattle.and_model.specs.Trees.{Agenda, agenda, Tree, QueryTree, query_agenda, blank, done, left, by, equate, reckon, code, decided, IsWhole, Open}
use Rattle.and_model.specs.Trees.{IsLeftmost, reduce}
use Rattle.and_model.specs.Codes.{IsProperPrefix}
use Rattle.and_model.specs.Listing.{Entry, Lists, ListsFrom, Listing, answered, nothing, calls, no_more, other, heavy, light, of_query, too_heavy}
use Rattle.and_model.specs.Prefixes.{IsPrefix}
use Rattle.and_laws.specs.CodeOrder.{Before}
use Rattle.and_laws.proofs.PrefixLemmas.{prefix_cons, prefix_then, prefix_front}
use Rattle.and_laws.proofs.Pairwise.{all_none, all_pairs_none, all_pairs_join}
use Rattle.and_laws.proofs.Keys.{reduce_decided}

-- Whole trees whose codes go on to the same list have the same code,
pub whole_codes : {P : Program} {ag : Agenda} (t u : Tree P ag) (xs ys : List ℕ) → IsWhole t → IsWhole u → code t ++ xs ≡ code u ++ ys → code t ≡ code u
whole_codes done done xs ys w v e = refl
whole_codes (left t) u xs ys w v e = elim w [ ]
whole_codes (by c h t) (left u) xs ys w v e = elim v [ ]
whole_codes {P} (by {q = q} {rest = rest} c h t) (by d k u) xs ys w v e =
    let same : c ≡ d = cc in
    let tail : code t ++ xs ≡ code u ++ ys = cc in
    let after : code t ≡ code u =
    (subst (λ n. (u : Tree P (agenda q 0 (clause_at P n).body rest)) → IsWhole u → code t ++ xs ≡ code u ++ ys
    → code t ≡ code u) same (λ u' v' e'. whole_codes t u' xs ys w v' e')) u v tail in
    cc
whole_codes (equate t) (equate u) xs ys w v e = whole_codes t u xs ys w v e
whole_codes (reckon t) (reckon u) xs ys w v e = whole_codes t u xs ys w v e

-- so no whole code is a proper prefix of another.
pub no_proper_prefix : {P : Program} {ag : Agenda} (t u : Tree P ag) → IsWhole t → IsWhole u → IsProperPrefix (code t) (code u) → ⊥
no_proper_prefix t u w v (c, rest, goes_on) =
    let same : code t ≡ code u = whole_codes t u (c ∷ rest) [] w v (sym goes_on ∙ sym (append-nil (code u))) in
    absurd (omega (arith, ap length same, ap length goes_on, length-append (code t) (c ∷ rest)))

-- The clauses up to the leftmost open goal are the first clauses of the tree.
pub decided_code : {P : Program} {ag : Agenda} (t : Tree P ag) → IsPrefix (decided t) (code t)
decided_code done = ([], refl)
decided_code (left t) = (code t, refl)
decided_code (by c h t) = prefix_cons c (decided t) (code t) (decided_code t)
decided_code (equate t) = decided_code t
decided_code (reckon t) = decided_code t

-- the entry's code begins with this list
abbrev Begins : List ℕ → Entry → Type 0
Begins xs e = IsPrefix xs e.code

-- the entry's code begins with what the tree has decided, and then a clause from number c on
abbrev BeginsFrom : {P : Program} → QueryTree P → ℕ → Entry → Type 0
BeginsFrom t c e = (d : ℕ) × (c ≤ d) × IsPrefix (decided t ++ d ∷ []) e.code

-- what begins with a later clause begins with one from an earlier number on
later : {P : Program} (t : QueryTree P) (c : ℕ) (ls : List Entry) → All (BeginsFrom t (suc c)) ls → All (BeginsFrom t c) ls
later t c ls a k x h = let b : BeginsFrom t (suc c) (get_or ls k x) = a k x h in (b.0, (let l = b.1 in omega arith), b.2)

-- all that is listed for a clause comes before what is listed for later ones
before_later : {P : Program} (t : QueryTree P) (c : ℕ) (ks ls : List Entry) → All (Begins (decided t ++ c ∷ [])) ks → All (BeginsFrom t (suc c)) ls
    → All (λ x. All (Before x) ls) ks
before_later t c ks ls a b k x h j y i =
    let p : IsPrefix (decided t ++ c ∷ []) (get_or ks k x).code = a k x h in
    let q : BeginsFrom t (suc c) (get_or ls j y) = b j y i in
    let less : c < q.0 = (let l = q.1 in omega arith) in
    inr (decided t, c, q.0, p.0, q.2.0, less, p.1 ∙ append_assoc (decided t) (c ∷ []) p.0, q.2.1 ∙ append_assoc (decided t) (q.0 ∷ []) q.2.0)

module _ (P : Program) (limit : ℕ) where
  mutual
    -- The codes that are listed for a tree begin with what it has decided, and are in order.
    pub lists_in_order : (t : QueryTree P) (ls : List Entry) → Lists P limit t ls → All (Begins (decided t)) ls × AllPairs Before ls
    lists_in_order t ls (answered t' o a) = (
      All-cons (Begins (decided t')) (record { code = code t'; outcome = o }) [] (decided_code t') (all_none (Begins (decided t'))),
      AllPairs-cons Before (record { code = code t'; outcome = o }) [] (all_none (Before (record { code = code t'; outcome = o }))) (all_pairs_none Before),
    )
    lists_in_order t ls (nothing t' w n) = (all_none (Begins (decided t')), all_pairs_none Before)
    lists_in_order t ls (calls t' o ks m f) =
        let r = lists_from_in_order t' o 1 ks m f in
        (λ k x h. (let b : BeginsFrom t' 1 (get_or ks k x) = r.0 k x h in prefix_front (decided t') (b.0 ∷ []) (get_or ks k x).code b.2), r.1)

    lists_from_in_order : (t : QueryTree P) (o : Open t) (c : ℕ) (ls : List Entry) → IsLeftmost t o → ListsFrom P limit t o c ls
        → All (BeginsFrom t c) ls × AllPairs Before ls
    lists_from_in_order t o c ls m (no_more t' o' c' e) = (all_none (BeginsFrom t' c'), all_pairs_none Before)
    lists_from_in_order t o c ls m (other t' o' c' ks e f r) = let i = lists_from_in_order t' o' (suc c') ks m r in (later t' c' ks i.0, i.1)
    lists_from_in_order t o c ls m (heavy t' o' c' ks f g r) = let i = lists_from_in_order t' o' (suc c') ks m r in (later t' c' ks i.0, i.1)
    lists_from_in_order t o c ls m (light t' o' c' ks js k g l r) =
        let i = lists_from_in_order t' o' (suc c') js m r in
        let j = lists_in_order (reduce t' o' c' k) ks l in
        let begins : All (Begins (decided t' ++ c' ∷ [])) ks =
        λ n x h. prefix_then (decided t' ++ c' ∷ []) (decided (reduce t' o' c' k)) (get_or ks n x).code (reduce_decided t' o' c' k m) (j.0 n x h) in (
          All-append (BeginsFrom t' c') ks js (λ n x h. (c', omega arith, begins n x h)) (later t' c' js i.0),
          all_pairs_join Before ks js j.1 i.1 (before_later t' c' ks js begins i.0),
        )

-- The codes of a listing are in strictly rising lexicographic order.
pub listing_in_order : (P : Program) (limit : ℕ) (ls : List Entry) → Listing P limit ls → AllPairs Before ls
listing_in_order P limit ls (of_query ks h x) = (lists_in_order P limit (blank (query_agenda P)) ks x).1
listing_in_order P limit ls (too_heavy h) = all_pairs_none Before
