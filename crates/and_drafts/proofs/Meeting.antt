-- Variables of a draft and their numbers.
use Rattle.std.proofs.Common.{ℕ, zero, suc, ◌+◌, ◌≡◌, ◌<◌, ◌≤◌, Bool, true, false, not, cond, ◌||◌, List, [], ◌∷◌, ◌++◌, length, take, drop, get_or}
use Rattle.std.proofs.Common.{Option, Some, None, refl, sym, ap, ◌∙◌, arith, subst, codes, Vec, Result, Ok, Err, OnOk, OnErr}
use Rattle.std.specs.Str.{bytes_eq}
use Rattle.std.specs.declared.alloc.Global.{Global}
use Rattle.std.proofs.lemmas.Slice.Eq.{bytes_eq-Decides}
use Rattle.std.proofs.lemmas.List.{map_push, length-map, length-append, append-nil, get_or-map, take-append-drop, take-append-le, drop-append-le}
use Rattle.std.proofs.Math.Seq.{take-append_seam}
use Rattle.std.specs.Map.{lookup}
use Rattle.indexmap.specs.IndexMap.{insert_entry}
use Rattle.and_model.specs.Lines.{Bytes}
use Rattle.and_syntax.specs.Written.{has, place, is_new, variable_number}
use Rattle.and_drafts.specs.declared.draft.DraftPart.{DraftPart}
use Rattle.and_drafts.specs.declared.draft.DraftPart.TheVariants.{Variable}
use Rattle.and_drafts.specs.declared.variables.Variables.{Variables}
use Rattle.and_drafts.specs.Numbered.{met_with, met_by}
use Rattle.and_drafts.specs.Parts.{PartShape, variable, integer, compound, part_shape, part_shapes, IsNarrow, AllNarrow}
use Rattle.and_drafts.specs.Drafts
use Rattle.and_drafts.specs.Drafts.{read_shape}
use Rattle.and_drafts.specs.Variables.{entries_of, bytes_in, number_among, HasMet, IsNumbered, AllNumbered}
use Rattle.and_drafts.specs.declared.variables.TheConstants.{FIRST}
use Rattle.and_drafts.proofs.Naming.{by_items, same_items}
use Rattle.and_drafts.proofs.Reading.{met_by-append}

abbrev look : Bytes → List (Bytes × ℕ) → Option ℕ
look = number_among

look_items : (x : Bytes) (es : List (Vec ℕ Global × ℕ)) → lookup (by_items x) es ≡ look x (bytes_in es)
look_items x [] = refl
look_items x (e ∷ es) = ap (λ (o : Option ℕ). cond (bytes_eq x e.0.items) (Some e.1) o) (look_items x es)

-- what is found among two lists
look_both : (x : Bytes) (ds es : List (Bytes × ℕ)) → look x ds ≡ None → look x (ds ++ es) ≡ look x es
look_both x [] es none = refl
look_both x (d ∷ ds) es none = by (λ h. look_both x ds es h) (bytes_eq x d.0) none
  where
    by : (look x ds ≡ None → look x (ds ++ es) ≡ look x es) → (b : Bool) → cond b (Some d.1) (look x ds) ≡ None
        → cond b (Some d.1) (look x (ds ++ es)) ≡ look x es
    by more true h = absurd (cc)
    by more false h = more h

look_first : (x : Bytes) (ds es : List (Bytes × ℕ)) (n : ℕ) → look x ds ≡ Some n → look x (ds ++ es) ≡ Some n
look_first x [] es n some = absurd (cc)
look_first x (d ∷ ds) es n some = by (λ h. look_first x ds es n h) (bytes_eq x d.0) some
  where
    by : (look x ds ≡ Some n → look x (ds ++ es) ≡ Some n) → (b : Bool) → cond b (Some d.1) (look x ds) ≡ Some n
        → cond b (Some d.1) (look x (ds ++ es)) ≡ Some n
    by more true h = h
    by more false h = more h

-- a list that has nothing has nothing in its front, and nothing behind it
look_front : (x : Bytes) (ds es : List (Bytes × ℕ)) → look x (ds ++ es) ≡ None → look x ds ≡ None
look_front x [] es none = refl
look_front x (d ∷ ds) es none = by (λ h. look_front x ds es h) (bytes_eq x d.0) none
  where
    by : (look x (ds ++ es) ≡ None → look x ds ≡ None) → (b : Bool) → cond b (Some d.1) (look x (ds ++ es)) ≡ None → cond b (Some d.1) (look x ds) ≡ None
    by more true h = h
    by more false h = more h

abbrev bare : Bytes
bare = codes "_"

abbrev looked : Bytes → List Bytes → ℕ → Option ℕ
looked x met n = cond (is_new x met) None (Some (n + place x met))

-- a bare `_` is new, whatever was met
bare_is_new : (x : Bytes) (met : List Bytes) → bytes_eq x bare ≡ true → is_new x met ≡ true
bare_is_new x met e = ap (λ (b : Bool). b || not (has x met)) e

module _ (x y : Bytes) (met : List Bytes) (n : ℕ) where
  -- another variable before those that were met
  looked_other : bytes_eq x y ≡ false → looked x met (suc n) ≡ looked x (y ∷ met) n
  looked_other e =
      let e1 : is_new x (y ∷ met) ≡ is_new x met = ap (λ (b : Bool). bytes_eq x bare || not (b || has x met)) e in
      let e2 : place x (y ∷ met) ≡ 1 + place x met = ap (λ (b : Bool). cond (not b) (1 + place x met) 0) e in
      let e3 : suc n + place x met ≡ n + (1 + place x met) = omega arith in
      ap (λ (m : ℕ). cond (is_new x met) None (Some m)) e3
      ∙ sym (ap (λ (b : Bool). cond b None (Some (n + place x (y ∷ met)))) e1 ∙ ap (λ (m : ℕ). cond (is_new x met) None (Some (n + m))) e2)

  looked_bare : bytes_eq y bare ≡ true → looked x met (suc n) ≡ looked x (y ∷ met) n
  looked_bare bare_y = by (bytes_eq x y) refl
    where
      by : (b : Bool) → bytes_eq x y ≡ b → looked x met (suc n) ≡ looked x (y ∷ met) n
      by false e = looked_other e
      by true e =
          let same : bytes_eq x bare ≡ true = ap (λ (z : Bytes). bytes_eq z bare) ((bytes_eq-Decides x y).0 e) ∙ bare_y in
          ap (λ (b : Bool). cond b None (Some (suc n + place x met))) (bare_is_new x met same)
          ∙ sym (ap (λ (b : Bool). cond b None (Some (n + place x (y ∷ met)))) (bare_is_new x (y ∷ met) same))

  looked_same : bytes_eq y bare ≡ false → bytes_eq x y ≡ true → Some n ≡ looked x (y ∷ met) n
  looked_same bare_y e =
      let named : bytes_eq x bare ≡ false = ap (λ (z : Bytes). bytes_eq z bare) ((bytes_eq-Decides x y).0 e) ∙ bare_y in
      let old : is_new x (y ∷ met) ≡ false = ap (λ (b : Bool). b || not (bytes_eq x y || has x met)) named ∙ ap (λ (b : Bool). not (b || has x met)) e in
      let first : place x (y ∷ met) ≡ 0 = ap (λ (b : Bool). cond (not b) (1 + place x met) 0) e in
      let z : n ≡ n + 0 = omega arith in
      ap Some z ∙ sym (ap (λ (b : Bool). cond b None (Some (n + place x (y ∷ met)))) old ∙ ap (λ (m : ℕ). Some (n + m)) first)

nothing_met : (x : Bytes) (n : ℕ) → None ≡ looked x [] n
nothing_met x n =
    let P : Bool → Type 0 = λ b. None ≡ cond (b || true) None (Some (n + place x [])) in
    elim (bytes_eq x bare) as P [ true ↦ refl | false ↦ refl ]

-- what is found among the entries of variables
look_entries : (x : Bytes) (n : ℕ) (met : List Bytes) → look x (entries_of n met) ≡ looked x met n
look_entries x n [] = nothing_met x n
look_entries x n (y ∷ met) = by (look_entries x (suc n) met) (bytes_eq y bare) refl
  where
    rest : List (Bytes × ℕ)
    rest = entries_of (suc n) met

    tested : look x rest ≡ looked x met (suc n) → bytes_eq y bare ≡ false → (b : Bool) → bytes_eq x y ≡ b → cond b (Some n) (look x rest) ≡ looked x (y ∷ met) n
    tested there e true h = looked_same x y met n e h
    tested there e false h = there ∙ looked_other x y met n h

    by : look x rest ≡ looked x met (suc n) → (b : Bool) → bytes_eq y bare ≡ b → look x (cond b rest ((y, n) ∷ rest)) ≡ looked x (y ∷ met) n
    by there true e = there ∙ looked_bare x y met n e
    by there false e = tested there e (bytes_eq x y) refl

take-all : {X : Type 0} (n : ℕ) (xs : List X) → length xs ≤ n → take n xs ≡ xs
take-all zero [] le = refl
take-all zero (x ∷ xs) le = absurd (omega arith)
take-all (suc n) [] le = refl
take-all (suc n) (x ∷ xs) le = ap (λ ys. x ∷ ys) (take-all n xs (omega arith))

drop-none : {X : Type 0} (n : ℕ) (xs : List X) → length xs ≤ n → drop n xs ≡ []
drop-none zero [] le = refl
drop-none zero (x ∷ xs) le = absurd (omega arith)
drop-none (suc n) [] le = refl
drop-none (suc n) (x ∷ xs) le = drop-none n xs (omega arith)

-- a front that is shorter than it may be is all
short_take : {X : Type 0} (n : ℕ) (xs : List X) → length (take n xs) < n → length xs ≤ n
short_take zero xs lt = absurd (omega arith)
short_take (suc n) [] lt = omega arith
short_take (suc n) (x ∷ xs) lt = let h : length xs ≤ n = short_take n xs (omega arith) in omega arith

full_take : {X : Type 0} (n : ℕ) (xs : List X) → n ≤ length (take n xs) → n ≤ length xs
full_take zero xs le = omega arith
full_take (suc n) [] le = absurd (omega arith)
full_take (suc n) (x ∷ xs) le = let h : n ≤ length xs = full_take n xs (omega arith) in omega arith

module _ (v : Variables) (met : List Bytes) (h : HasMet v met) where
  -- all that have a name, those of the one list before those of the map
  entries_both : v.first.items ++ bytes_in v.named.entries ≡ entries_of 0 met
  entries_both =
      ap (λ (es : List (Bytes × ℕ)). es ++ bytes_in v.named.entries) h.1 ∙ ap (λ (es : List (Bytes × ℕ)). take FIRST (entries_of 0 met) ++ es) h.2
      ∙ take-append-drop FIRST (entries_of 0 met)

  -- where the list is short they are all in it
  few_entries : length v.first.items < FIRST → v.first.items ≡ entries_of 0 met
  few_entries few =
      h.1 ∙ take-all FIRST (entries_of 0 met)
      (let long : length (take FIRST (entries_of 0 met)) < FIRST = omega (arith, few, ap length h.1) in short_take FIRST (entries_of 0 met) long)

  found_whole : (x : Bytes) (o : Option ℕ) → o ≡ look x (v.first.items ++ bytes_in v.named.entries) → o ≡ cond (is_new x met) None (Some (place x met))
  found_whole x o found =
      let z : 0 + place x met ≡ place x met = omega arith in
      found ∙ ap (look x) entries_both ∙ look_entries x 0 met ∙ ap (λ (m : ℕ). cond (is_new x met) None (Some m)) z

  pub found_first : (x : Bytes) (n : ℕ) → number_among x v.first.items ≡ Some n → Some n ≡ cond (is_new x met) None (Some (place x met))
  found_first x n found = sym (look_first x v.first.items (bytes_in v.named.entries) n found)
      ∙ found_whole x (look x (v.first.items ++ bytes_in v.named.entries)) refl

  pub found_nowhere : (x : Bytes) → length v.first.items < FIRST → number_among x v.first.items ≡ None
      → None ≡ cond (is_new x met) None (Some (place x met))
  found_nowhere x few none =
      let z : 0 + place x met ≡ place x met = omega arith in
      sym none ∙ ap (look x) (few_entries few) ∙ look_entries x 0 met ∙ ap (λ (m : ℕ). cond (is_new x met) None (Some m)) z

  pub found_is : (x : Bytes) (r : Option ℕ) → number_among x v.first.items ≡ None → r ≡ lookup (by_items x) v.named.entries
      → r ≡ cond (is_new x met) None (Some (place x met))
  found_is x r none found =
      found ∙ look_items x v.named.entries ∙ sym (look_both x v.first.items (bytes_in v.named.entries) none)
      ∙ found_whole x (look x (v.first.items ++ bytes_in v.named.entries)) refl

  -- a new variable is in neither
  new_nowhere : (x : Bytes) → is_new x met ≡ true → look x (v.first.items ++ bytes_in v.named.entries) ≡ None
  new_nowhere x new = ap (look x) entries_both ∙ look_entries x 0 met ∙ ap (λ (b : Bool). cond b None (Some (0 + place x met))) new

pub found_some : (b : Bool) (n p : ℕ) → Some n ≡ cond b None (Some p) → (b ≡ false) × (n ≡ p)
found_some true n p e = absurd (cc)
found_some false n p e = (refl, cc)

pub found_none : (b : Bool) (p : ℕ) → None ≡ cond b None (Some p) → b ≡ true
found_none true p e = refl
found_none false p e = absurd (cc)

-- a key that is not there goes last
inserted : (k : Vec ℕ Global) (n : ℕ) (es : List (Vec ℕ Global × ℕ)) → look k.items (bytes_in es) ≡ None → insert_entry same_items es k n ≡ es ++ (k, n) ∷ []
inserted k n [] none = refl
inserted k n (e ∷ es) none = by (λ h. inserted k n es h) (bytes_eq k.items e.0.items) none
  where
    by : (look k.items (bytes_in es) ≡ None → insert_entry same_items es k n ≡ es ++ (k, n) ∷ []) → (b : Bool)
        → cond b (Some e.1) (look k.items (bytes_in es)) ≡ None
        → cond b ((e.0, n) ∷ es) (e ∷ insert_entry same_items es k n) ≡ e ∷ (es ++ (k, n) ∷ [])
    by more true h = absurd (cc)
    by more false h = ap (λ (fs : List (Vec ℕ Global × ℕ)). e ∷ fs) (more h)

entries_more : (n : ℕ) (met : List Bytes) (x : Bytes) → entries_of n (met ++ x ∷ []) ≡ entries_of n met ++ cond (bytes_eq x bare) [] ((x, n + length met) ∷ [])
entries_more n [] x =
    let z : n ≡ n + 0 = omega arith in
    ap (λ (m : ℕ). cond (bytes_eq x bare) [] ((x, m) ∷ [])) z
entries_more n (y ∷ met) x =
    let rest : List (Bytes × ℕ) = entries_of (suc n) met in
    let back : ℕ → List (Bytes × ℕ) = λ m. cond (bytes_eq x bare) [] ((x, m) ∷ []) in
    let z : suc n + length met ≡ n + suc (length met) = omega arith in
    let P : Bool → Type 0 = λ b. cond b (rest ++ back (n + suc (length met))) ((y, n) ∷ (rest ++ back (n + suc (length met))))
    ≡ cond b rest ((y, n) ∷ rest) ++ back (n + suc (length met)) in
    ap (λ (es : List (Bytes × ℕ)). cond (bytes_eq y bare) es ((y, n) ∷ es)) (entries_more (suc n) met x ∙ ap (λ (m : ℕ). rest ++ back m) z)
    ∙ (elim (bytes_eq y bare) as P [ true ↦ refl | false ↦ refl ])

-- a variable without a name is met
pub bare_met : (v w : Variables) (x : Bytes) (met : List Bytes) → HasMet v met → bytes_eq x bare ≡ true → w.count ≡ v.count + 1
    → w.first.items ≡ v.first.items → w.named.entries ≡ v.named.entries → HasMet w (met ++ x ∷ [])
bare_met v w x met h e counted first same =
    let all : entries_of 0 met ≡ entries_of 0 (met ++ x ∷ []) =
    sym (entries_more 0 met x ∙ ap (λ (b : Bool). entries_of 0 met ++ cond b [] ((x, 0 + length met) ∷ [])) e ∙ append-nil (entries_of 0 met)) in (
      counted ∙ omega (arith, h.0, length-append met (x ∷ [])),
      first ∙ h.1 ∙ ap (take FIRST) all,
      ap bytes_in same ∙ h.2 ∙ ap (drop FIRST) all,
    )

module _ (v w : Variables) (x : Bytes) (met : List Bytes) (h : HasMet v met) (new : is_new x met ≡ true) (e : bytes_eq x bare ≡ false)
    (counted : w.count ≡ v.count + 1) where
  more_entries : entries_of 0 met ++ (x, v.count) ∷ [] ≡ entries_of 0 (met ++ x ∷ [])
  more_entries =
      let z : v.count ≡ 0 + length met = omega (arith, h.0) in
      ap (λ (m : ℕ). entries_of 0 met ++ (x, m) ∷ []) z
      ∙ sym (entries_more 0 met x ∙ ap (λ (b : Bool). entries_of 0 met ++ cond b [] ((x, 0 + length met) ∷ [])) e)

  -- a variable with a name is met, one of the first
  pub first_named : (text : Bytes) → text ≡ x → length v.first.items < FIRST → w.first.items ≡ v.first.items ++ (text, v.count) ∷ []
      → w.named.entries ≡ v.named.entries → HasMet w (met ++ x ∷ [])
  first_named text is few made same =
      let all : v.first.items ++ (text, v.count) ∷ [] ≡ entries_of 0 (met ++ x ∷ []) =
      ap (λ (y : Bytes). v.first.items ++ (y, v.count) ∷ []) is
      ∙ ap (λ (es : List (Bytes × ℕ)). es ++ (x, v.count) ∷ []) (few_entries v met h few) ∙ more_entries in
      let short : length (entries_of 0 (met ++ x ∷ [])) ≤ FIRST =
      omega (arith, few, sym (ap length all), length-append v.first.items ((text, v.count) ∷ [])) in
      let none : drop FIRST (entries_of 0 met) ≡ [] =
      drop-none FIRST (entries_of 0 met) (omega (arith, few, ap length (few_entries v met h few))) in (
        counted ∙ omega (arith, h.0, length-append met (x ∷ [])),
        made ∙ all ∙ sym (take-all FIRST (entries_of 0 (met ++ x ∷ [])) short),
        ap bytes_in same ∙ h.2 ∙ none ∙ sym (drop-none FIRST (entries_of 0 (met ++ x ∷ [])) short),
      )

  -- one behind the first
  pub named_met : (k : Vec ℕ Global) → FIRST ≤ length v.first.items → k.items ≡ x → w.first.items ≡ v.first.items
      → w.named.entries ≡ insert_entry same_items v.named.entries k v.count → HasMet w (met ++ x ∷ [])
  named_met k full is first made =
      let es : List (Bytes × ℕ) = entries_of 0 met in
      let many : FIRST ≤ length es = full_take FIRST es (omega (arith, full, ap length h.1)) in
      let none : look k.items (bytes_in v.named.entries) ≡ None =
      ap (λ (y : Bytes). look y (bytes_in v.named.entries)) is
      ∙ sym (look_both x v.first.items (bytes_in v.named.entries)
      (look_front x v.first.items (bytes_in v.named.entries) (new_nowhere v met h x new)))
      ∙ new_nowhere v met h x new in (
        counted ∙ omega (arith, h.0, length-append met (x ∷ [])),
        first ∙ h.1 ∙ sym (take-append-le FIRST es ((x, v.count) ∷ []) many) ∙ ap (take FIRST) more_entries,
        ap bytes_in (made ∙ inserted k v.count v.named.entries none) ∙ map_push (λ (f : Vec ℕ Global × ℕ). (f.0.items, f.1)) v.named.entries (k, v.count)
            ∙ ap (λ (fs : List (Bytes × ℕ)). fs ++ (k.items, v.count) ∷ []) h.2 ∙ ap (λ (y : Bytes). drop FIRST es ++ (y, v.count) ∷ []) is
            ∙ sym (drop-append-le FIRST es ((x, v.count) ∷ []) many) ∙ ap (drop FIRST) more_entries,
      )

pub named_kept : (v : Variables) (x : Bytes) (k : Vec ℕ Global) (n : ℕ) (met : List Bytes) (fs : List (Vec ℕ Global × ℕ)) → HasMet v met
    → is_new x met ≡ true → k.items ≡ x
    → fs ≡ insert_entry same_items v.named.entries k n → take (length v.named.entries) fs ≡ v.named.entries
named_kept v x k n met fs h new is made =
    let es : List (Vec ℕ Global × ℕ) = v.named.entries in
    let none : look k.items (bytes_in es) ≡ None =
    ap (λ (y : Bytes). look y (bytes_in es)) is
    ∙ sym (look_both x v.first.items (bytes_in es) (look_front x v.first.items (bytes_in es) (new_nowhere v met h x new))) ∙ new_nowhere v met h x new in
    ap (take (length es)) (made ∙ inserted k n es none) ∙ take-append_seam es ((k, n) ∷ [])

-- what is put behind the first leaves these
pub first_kept : (old new : List (Bytes × ℕ)) (e : Bytes × ℕ) → new ≡ old ++ e ∷ [] → take (length old) new ≡ old
first_kept old new e made = ap (take (length old)) made ∙ take-append_seam old (e ∷ [])

-- variables that were cut off again
pub cut_met : (v w : Variables) (met : List Bytes) → HasMet v met → w.count ≡ v.count → w.first.items ≡ v.first.items
    → w.named.entries ≡ v.named.entries → HasMet w met
cut_met v w met h e d f = (e ∙ h.0, d ∙ h.1, ap bytes_in f ∙ h.2)

-- no variables
pub none_met : (v : Variables) → v.count ≡ 0 → v.first.items ≡ [] → v.named.entries ≡ [] → HasMet v []
none_met v e d f = (e, d, ap bytes_in f)

pub length-met_by : (met : List Bytes) (ps : List PartShape) → length (met_by met ps) ≤ length met + length ps
length-met_by met [] = omega arith
length-met_by met (p ∷ ps) = omega (arith, more met p, length-met_by (met_with met p) ps)
  where
    more : (ms : List Bytes) (q : PartShape) → length (met_with ms q) ≤ length ms + 1
    more ms (variable x) =
        let P : Bool → Type 0 = λ b. length (cond b (ms ++ x ∷ []) ms) ≤ length ms + 1 in
        elim (is_new x ms) as P [ true ↦ omega (arith, length-append ms (x ∷ [])) | false ↦ omega arith ]
    more ms (integer z) = omega arith
    more ms (compound c ns) = omega arith

met_push : (ps : List DraftPart) (p : DraftPart) → met_by [] (part_shapes (ps ++ p ∷ [])) ≡ met_with (met_by [] (part_shapes ps)) (part_shape p)
met_push ps p = ap (met_by []) (map_push part_shape ps p) ∙ met_by-append [] (part_shapes ps) (part_shape p ∷ [])

numbered_push : (met : List Bytes) (ps : List DraftPart) (p : DraftPart) → AllNumbered met ps → IsNumbered (met_by met (part_shapes ps)) p
    → AllNumbered met (ps ++ p ∷ [])
numbered_push met [] p a n = (n, tt)
numbered_push met (q ∷ ps) p a n = (a.0, numbered_push (met_with met (part_shape q)) ps p a.1 n)

-- What holds of variables and parts after one more part.
pub record Met (v : Variables) (ps : List DraftPart) : Type 0 where
  pub met : HasMet v (met_by [] (part_shapes ps))
  pub numbered : AllNumbered [] ps

pub met_more : (v : Variables) (old new : List DraftPart) (p : DraftPart) → new ≡ old ++ p ∷ []
    → HasMet v (met_with (met_by [] (part_shapes old)) (part_shape p))
    → IsNumbered (met_by [] (part_shapes old)) p → AllNumbered [] old → Met v new
met_more v old new p e h n a = record {
  met = subst (HasMet v) (sym (ap (λ (ps : List DraftPart). met_by [] (part_shapes ps)) e ∙ met_push old p)) h;
  numbered = subst (AllNumbered []) (sym e) (numbered_push [] old p a n);
}

pub met_same : (v : Variables) (old new : List DraftPart) → new ≡ old → HasMet v (met_by [] (part_shapes old)) → AllNumbered [] old → Met v new
met_same v old new e h a =
    record { met = subst (λ (ps : List DraftPart). HasMet v (met_by [] (part_shapes ps))) (sym e) h; numbered = subst (AllNumbered []) (sym e) a }

-- whatever came of it
pub met_either : {T E : Type 0} (r : Result T E) (v : Variables) (old new : List DraftPart) (p : DraftPart) → OnOk r (new ≡ old ++ p ∷ []) → OnErr r (new ≡ old)
    → HasMet v (met_by [] (part_shapes old)) → met_with (met_by [] (part_shapes old)) (part_shape p) ≡ met_by [] (part_shapes old)
    → IsNumbered (met_by [] (part_shapes old)) p → AllNumbered [] old → Met v new
met_either (Ok u) v old new p ok err h same n a = met_more v old new p ok (subst (HasMet v) (sym same) h) n a
met_either (Err e) v old new p ok err h same n a = met_same v old new err h a

-- what was read of a part
numbered_at : (met : List Bytes) (ps : List DraftPart) (n : ℕ) (d : DraftPart) → n < length ps → AllNumbered met ps
    → IsNumbered (met_by met (take n (part_shapes ps))) (get_or ps n d)
numbered_at met [] n d lt a = absurd (omega arith)
numbered_at met (p ∷ ps) zero d lt a = a.0
numbered_at met (p ∷ ps) (suc n) d lt a = numbered_at (met_with met (part_shape p)) ps n d (omega arith) a.1

-- a variable that was met leaves those that were met as they are
pub again_met : (x : Bytes) (met : List Bytes) → is_new x met ≡ false → met_with met (variable x) ≡ met
again_met x met e = ap (λ (b : Bool). cond b (met ++ x ∷ []) met) e

pub first_met : (x : Bytes) (met : List Bytes) → is_new x met ≡ true → met ++ x ∷ [] ≡ met_with met (variable x)
first_met x met e = sym (ap (λ (b : Bool). cond b (met ++ x ∷ []) met) e)

pub again_number : (x : Bytes) (met : List Bytes) (n : ℕ) → is_new x met ≡ false → n ≡ place x met → n ≡ variable_number x met
again_number x met n e is = is ∙ sym (ap (λ (b : Bool). cond b (length met) (place x met)) e)

pub first_number : (x : Bytes) (met : List Bytes) (n : ℕ) → is_new x met ≡ true → n ≡ length met → n ≡ variable_number x met
first_number x met n e is = is ∙ sym (ap (λ (b : Bool). cond b (length met) (place x met)) e)

-- a new variable's part
pub met_first : (v : Variables) (old new : List DraftPart) (x text : Bytes) (n : ℕ) → text ≡ x → new ≡ old ++ Variable text n ∷ []
    → is_new x (met_by [] (part_shapes old)) ≡ true
    → HasMet v (met_by [] (part_shapes old) ++ x ∷ []) → n ≡ length (met_by [] (part_shapes old)) → AllNumbered [] old → Met v new
met_first v old new x text n is e new_x h number a =
    let met : List Bytes = met_by [] (part_shapes old) in
    let new_text : is_new text met ≡ true = ap (λ (y : Bytes). is_new y met) is ∙ new_x in
    let there : HasMet v (met ++ text ∷ []) = subst (λ (y : Bytes). HasMet v (met ++ y ∷ [])) (sym is) h in
    met_more v old new (Variable text n) e (subst (HasMet v) (first_met text met new_text) there) (first_number text met n new_text number) a

-- the part of a variable that was met
pub met_again : {T E : Type 0} (r : Result T E) (v : Variables) (old new : List DraftPart) (x text : Bytes) (n : ℕ) → text ≡ x
    → OnOk r (new ≡ old ++ Variable text n ∷ []) → OnErr r (new ≡ old)
    → (is_new x (met_by [] (part_shapes old)) ≡ false) × (n ≡ place x (met_by [] (part_shapes old))) → HasMet v (met_by [] (part_shapes old))
    → AllNumbered [] old → Met v new
met_again r v old new x text n is ok err known h a =
    let met : List Bytes = met_by [] (part_shapes old) in
    let met_text : is_new text met ≡ false = ap (λ (y : Bytes). is_new y met) is ∙ known.0 in
    met_either r v old new (Variable text n) ok err h (again_met text met met_text)
    (again_number text met n met_text (known.1 ∙ ap (λ (y : Bytes). place y met) (sym is))) a

pub read_variable : (ps : List DraftPart) (n : ℕ) (p : DraftPart) (x y : Bytes) (k : ℕ) → n < length ps → AllNumbered [] ps → p ≡ get_or ps n p
    → p ≡ Variable x k → y ≡ x
    → Drafts.variable k y ≡ read_shape (met_by [] (take n (part_shapes ps))) (get_or (part_shapes ps) n (variable []))
read_variable ps n p x y k lt a at is same =
    let met : List Bytes = met_by [] (take n (part_shapes ps)) in
    let here : get_or ps n p ≡ Variable x k = sym at ∙ is in
    let number : k ≡ variable_number x met = subst (IsNumbered met) here (numbered_at [] ps n p lt a) in
    ap (λ (m : ℕ). Drafts.variable m y) number ∙ ap (λ (z : Bytes). Drafts.variable (variable_number x met) z) same
    ∙ ap (read_shape met) (sym (get_or-map part_shape ps n p (variable []) lt ∙ ap part_shape here))

narrow_at : (ps : List PartShape) (n : ℕ) (d : PartShape) → n < length ps → AllNarrow ps → IsNarrow (get_or ps n d)
narrow_at [] n d lt a = absurd (omega arith)
narrow_at (p ∷ ps) zero d lt a = a.0
narrow_at (p ∷ ps) (suc n) d lt a = narrow_at ps n d (omega arith) a.1

pub few_arguments : (ps : List DraftPart) (n : ℕ) (p : DraftPart) (c : Bytes) (ns : List ℕ) → n < length ps → AllNarrow (part_shapes ps) → p ≡ get_or ps n p
    → part_shape p ≡ compound c ns → length ns ≤ 255
few_arguments ps n p c ns lt a at is =
    let here : get_or (part_shapes ps) n (variable []) ≡ compound c ns = get_or-map part_shape ps n p (variable []) lt ∙ ap part_shape (sym at) ∙ is in
    subst IsNarrow here (narrow_at (part_shapes ps) n (variable []) (omega (arith, length-map ps part_shape)) a)
