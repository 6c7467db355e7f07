-- Names in a set, and the bytes that they are.
use Rattle.std.proofs.Common.{ℕ, zero, suc, ◌+◌, ◌≡◌, ◌<◌, ◌≤◌, Bool, true, false, not, cond, ◌||◌, ltb, leb, List, [], ◌∷◌, ◌++◌, length, get_or, drop, Option}
use Rattle.std.proofs.Common.{true≢false}
use Rattle.std.specs.List.{AllByRecursion, IsDistinct, slice_get}
use Rattle.std.proofs.lemmas.Map.Keys.{IsDistinct-head, IsDistinct-tail}
use Rattle.std.proofs.lemmas.Slice.Eq.{bytes_eq-Decides}
use Rattle.std.proofs.Common.{Some, None, unwrap_or, refl, sym, ap, ◌∙◌, arith, subst, Vec}
use Rattle.std.specs.Borrow.{Bor}
use Rattle.std.specs.Str.{bytes_eq}
use Rattle.std.specs.List.{list_any, position, position_or_len}
use Rattle.std.specs.declared.alloc.Global.{Global}
use Rattle.std.proofs.lemmas.Bool.Decides.{nat_tests}
use Rattle.std.proofs.Math.ListN.{drop_of_length-le}
use Rattle.std.proofs.lemmas.List.{map_push, length-map, length-append, drop_more}
use Rattle.and_model.specs.Lines.{Bytes}
use Rattle.and_model.specs.Programs.{builtin_names}
use Rattle.and_syntax.specs.Written.{has, place, including, is_new, variable_number}
use Rattle.and_drafts.specs.declared.draft.DraftPart.{DraftPart}
use Rattle.and_program.specs.Nodes.{names_of}
use Rattle.and_drafts.specs.Numbered.{bytes_of, including_all, met_with, met_by}
use Rattle.and_drafts.specs.Parts.{PartShape, variable, integer, compound, part_shape, part_shapes}
use Rattle.indexmap.specs.IndexSet.{insert_key}

abbrev pub by_items : Bytes → Vec ℕ Global → Bool
by_items x v = bytes_eq x v.items

abbrev pub same_items : Vec ℕ Global → Vec ℕ Global → Bool
same_items u v = bytes_eq u.items v.items

pub has_items : (x : Bytes) (ks : List (Vec ℕ Global)) → list_any (by_items x) ks ≡ has x (names_of ks)
has_items x [] = refl
has_items x (k ∷ ks) = ap (λ (b : Bool). bytes_eq x k.items || b) (has_items x ks)

pub place_items : (x : Bytes) (ks : List (Vec ℕ Global)) → position_or_len (by_items x) ks ≡ place x (names_of ks)
place_items x [] = refl
place_items x (k ∷ ks) = ap (λ (n : ℕ). cond (not (bytes_eq x k.items)) (1 + n) 0) (place_items x ks)

-- a name that is there
pub including_known : (x : Bytes) (ks : List (Vec ℕ Global)) (b : Bool) → b ≡ list_any (by_items x) ks → b ≡ true → names_of ks ≡ including (names_of ks) x
including_known x ks b e t = sym (ap (λ (v : Bool). cond v (names_of ks) (names_of ks ++ x ∷ [])) (sym (has_items x ks) ∙ sym e ∙ t))

-- a name that is inserted
pub including_new : (x : Bytes) (v : Vec ℕ Global) (ks new : List (Vec ℕ Global)) → v.items ≡ x → new ≡ insert_key same_items ks v
    → names_of new ≡ including (names_of ks) x
including_new x v ks new is e =
    let P : Bool → Type 0 = λ b. names_of (cond b ks (ks ++ v ∷ [])) ≡ cond b (names_of ks) (names_of ks ++ v.items ∷ []) in
    ap names_of e ∙ ap (λ (b : Bool). names_of (cond b ks (ks ++ v ∷ []))) (has_items v.items ks)
    ∙ (elim (has v.items (names_of ks)) as P [ true ↦ refl | false ↦ map_push (λ (k : Vec ℕ Global). k.items) ks v ])
    ∙ ap (including (names_of ks)) is

pub place-le : (x : Bytes) (names : List Bytes) → place x names ≤ length names
place-le x [] = omega arith
place-le x (k ∷ names) =
    let P : Bool → Type 0 = λ b. cond b (1 + place x names) 0 ≤ suc (length names) in
    let h : place x names ≤ length names = place-le x names in
    elim (not (bytes_eq x k)) as P [ true ↦ omega arith | false ↦ omega arith ]

position_else : (p n : ℕ) → p ≤ n → unwrap_or (cond (ltb p n) (Some p) None) n ≡ p
position_else p n le =
    let P : Bool → Type 0 = λ b. ltb p n ≡ b → unwrap_or (cond b (Some p) None) n ≡ p in
    (elim (ltb p n) as P [ true ↦ λ e. refl | false ↦ λ e. grind (arith, nat_tests) ]) refl

pub number_is : (x : Bytes) (ks : List (Vec ℕ Global)) (o : Option ℕ) (r n : ℕ) → o ≡ position (by_items x) ks → r ≡ unwrap_or o n → n ≡ length ks
    → r ≡ place x (names_of ks)
number_is x ks o r n at is few =
    is ∙ ap (λ (m : ℕ). unwrap_or o m) few ∙ ap (λ (q : Option ℕ). unwrap_or q (length ks)) at
    ∙ position_else (position_or_len (by_items x) ks) (length ks)
    (let h : place x (names_of ks) ≤ length (names_of ks) =
    place-le x (names_of ks) in omega (arith, place_items x ks, length-map ks (λ (k : Vec ℕ Global). k.items)))
    ∙ place_items x ks

-- one more of several that occur in turn
pub including_more : (old new : List Bytes) (rows : List (ℕ × Bor Bytes)) (i : ℕ) (d : ℕ × Bor Bytes) (total : List Bytes) → i < length rows
    → new ≡ including old (get_or rows i d).1.now
    → including_all old (bytes_of (drop i rows)) ≡ total → including_all new (bytes_of (drop (i + 1) rows)) ≡ total
including_more old new rows i d total lt e h =
    ap (λ (ns : List Bytes). including_all ns (bytes_of (drop (i + 1) rows))) e
    ∙ sym (ap (λ (cs : List (ℕ × Bor Bytes)). including_all old (bytes_of cs)) (drop_more rows i d lt)) ∙ h

pub built_in : including_all [] builtin_names ≡ builtin_names
built_in = refl

pub met_by-grows : (met : List Bytes) (ps : List PartShape) → length met ≤ length (met_by met ps)
met_by-grows met [] = omega arith
met_by-grows met (p ∷ ps) = omega (arith, met_with-grows met p, met_by-grows (met_with met p) ps)
  where
    met_with-grows : (ms : List Bytes) (q : PartShape) → length ms ≤ length (met_with ms q)
    met_with-grows ms (variable x) =
        let P : Bool → Type 0 = λ b. length ms ≤ length (cond b (ms ++ x ∷ []) ms) in
        elim (is_new x ms) as P [ true ↦ omega (arith, length-append ms (x ∷ [])) | false ↦ omega arith ]
    met_with-grows ms (integer z) = omega arith
    met_with-grows ms (compound c ns) = omega arith

pub met_more : (old new : List Bytes) (parts : List DraftPart) (i : ℕ) (p : DraftPart) (total : List Bytes) → i < length parts → p ≡ get_or parts i p
    → new ≡ met_with old (part_shape p)
    → met_by old (part_shapes (drop i parts)) ≡ total → met_by new (part_shapes (drop (i + 1) parts)) ≡ total
met_more old new parts i p total lt at e h =
    let opened : drop i parts ≡ p ∷ drop (i + 1) parts = drop_more parts i p lt ∙ ap (λ (q : DraftPart). q ∷ drop (i + 1) parts) (sym at) in
    ap (λ (ms : List Bytes). met_by ms (part_shapes (drop (i + 1) parts))) e ∙ sym (ap (λ (qs : List DraftPart). met_by old (part_shapes qs)) opened) ∙ h

pub too_many : (met total : List Bytes) (ps : List PartShape) (n : ℕ) → met_by met ps ≡ total → n ≡ length met → 255 < n → false ≡ leb (length total) 255
too_many met total ps n e few many =
    let more : length met ≤ length total = subst (λ (t : List Bytes). length met ≤ length t) e (met_by-grows met ps) in
    grind (arith, nat_tests)

pub few_enough : (met : List Bytes) (parts : List DraftPart) (i : ℕ) (total : List Bytes) → length parts ≤ i → met_by met (part_shapes (drop i parts)) ≡ total
    → length met ≤ 255 → true ≡ leb (length total) 255
few_enough met parts i total le e few =
    let same : met ≡ total = sym (ap (λ (qs : List DraftPart). met_by met (part_shapes qs)) (drop_of_length-le parts le)) ∙ e in
    let some : length total ≤ 255 = subst (λ (t : List Bytes). length t ≤ 255) same few in
    grind (arith, nat_tests)

pub variable_number-le : (x : Bytes) (met : List Bytes) → variable_number x met ≤ length met
variable_number-le x met =
    let P : Bool → Type 0 = λ b. cond b (length met) (place x met) ≤ length met in
    let h : place x met ≤ length met = place-le x met in
    elim (is_new x met) as P [ true ↦ omega arith | false ↦ h ]

-- A guess: a name that stands at a place among names none of which is there twice.

turned : (x y : Bytes) → bytes_eq x y ≡ true → bytes_eq y x ≡ true
turned x y e = (bytes_eq-Decides y x).1 (sym ((bytes_eq-Decides x y).0 e))

apart_at : (j k : Vec ℕ Global) (ks : List (Vec ℕ Global)) (n : ℕ) → AllByRecursion (λ v. same_items j v ≡ false) ks → slice_get ks n ≡ Some k
    → same_items j k ≡ false
apart_at j k [] n a at = absurd cc
apart_at j k (v ∷ ks) zero a at = let is : v ≡ k = cc in subst (λ (u : Vec ℕ Global). same_items j u ≡ false) is a.0
apart_at j k (v ∷ ks) (suc n) a at = apart_at j k ks n a.1 at

pub place_there : (x : Bytes) (k : Vec ℕ Global) (ks : List (Vec ℕ Global)) (n : ℕ) → IsDistinct same_items ks → slice_get ks n ≡ Some k
    → bytes_eq x k.items ≡ true → place x (names_of ks) ≡ n
place_there x k [] n d at e = absurd cc
place_there x k (j ∷ ks) zero d at e =
    let is : j ≡ k = cc in
    let same : bytes_eq x j.items ≡ true = ap (λ (v : Vec ℕ Global). bytes_eq x v.items) is ∙ e in
    ap (λ (b : Bool). cond (not b) (1 + place x (names_of ks)) 0) same
place_there x k (j ∷ ks) (suc n) d at e =
    let apart : same_items j k ≡ false = apart_at j k ks n (IsDistinct-head same_items j ks d) at in
    let other : bytes_eq x j.items ≡ false = by (bytes_eq x j.items) refl apart in
    ap (λ (b : Bool). cond (not b) (1 + place x (names_of ks)) 0) other
    ∙ (let h : place x (names_of ks) ≡ n = place_there x k ks n (IsDistinct-tail same_items j ks d) at e in omega (arith, h))
  where
    by : (b : Bool) → bytes_eq x j.items ≡ b → same_items j k ≡ false → b ≡ false
    by false h apart = refl
    by true h apart =
        let there : bytes_eq j.items k.items ≡ true = subst (λ (y : Bytes). bytes_eq y k.items ≡ true) ((bytes_eq-Decides x j.items).0 h) e in
        absurd (true≢false (sym there ∙ apart))

pub has_there : (x : Bytes) (k : Vec ℕ Global) (ks : List (Vec ℕ Global)) (n : ℕ) → slice_get ks n ≡ Some k → bytes_eq x k.items ≡ true
    → has x (names_of ks) ≡ true
has_there x k [] n at e = absurd cc
has_there x k (j ∷ ks) zero at e =
    let is : j ≡ k = cc in
    let same : bytes_eq x j.items ≡ true = ap (λ (v : Vec ℕ Global). bytes_eq x v.items) is ∙ e in
    ap (λ (b : Bool). b || has x (names_of ks)) same
has_there x k (j ∷ ks) (suc n) at e = by (bytes_eq x j.items) (has_there x k ks n at e)
  where
    by : (b : Bool) → has x (names_of ks) ≡ true → b || has x (names_of ks) ≡ true
    by true h = refl
    by false h = h

-- A name has as its number how many names there were, where it had none.

place-end : (x : Bytes) (names : List Bytes) → place x (names ++ x ∷ []) ≡ place x names
place-end x [] = ap (λ (b : Bool). cond (not b) 1 0) ((bytes_eq-Decides x x).1 refl)
place-end x (y ∷ names) = ap (λ (n : ℕ). cond (not (bytes_eq x y)) (1 + n) 0) (place-end x names)

pub place-included : (x : Bytes) (names : List Bytes) → place x (including names x) ≡ place x names
place-included x names = by (has x names)
  where
    by : (b : Bool) → place x (cond b names (names ++ x ∷ [])) ≡ place x names
    by true = refl
    by false = place-end x names
