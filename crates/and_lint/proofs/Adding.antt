-- Lines that are added to findings, and those that are still to be added.
use Rattle.std.proofs.Common.{ℕ, suc, ◌+◌, ◌-◌, ◌≡◌, ◌<◌, ◌≤◌, Bool, true, false, cond, List, [], ◌∷◌, ◌++◌, length, refl, sym, ap, ◌∙◌, arith, subst}
use Rattle.std.proofs.Common.{append_assoc}
use Rattle.std.specs.List.{flat_map, range_with_len}
use Rattle.std.proofs.lemmas.List.{append-nil, length-append}
use Rattle.std.proofs.lemmas.List.Concat.{flat_map-append}
use Rattle.and_model.specs.Terms.{Term}
use Rattle.and_model.specs.Lines.{Bytes}
use Rattle.std.specs.Prelude.{codes}
use Rattle.std.specs.Fmt.{decimal}
use Rattle.and_model.specs.Programs.{Program}
use Rattle.and_lint.specs.Reached.{TellsReached}
use Rattle.and_lint.specs.Findings.{IsLint, all_lines, lines_of, written_lines}
use Rattle.and_lint.specs.Kept.{Adds, Comes}
use Rattle.and_lint.specs.Subterms.{subterms}
use Rattle.and_lint.specs.declared.findings.Findings.{Findings}

written-append : (xs ys : List Bytes) → written_lines (xs ++ ys) ≡ written_lines xs ++ written_lines ys
written-append xs ys = flat_map-append (λ (l : Bytes). l ++ 10 ∷ []) xs ys

pub adds_none : (f : Findings) → Adds f f []
adds_none f = record { text = sym (append-nil f.text); count = omega arith }

pub comes_first : (f : Findings) (all : List Bytes) → Comes f all f all
comes_first f all = record { text = refl; count = refl }

-- where lines were added, the others are still to come
pub adds_then : (old new : Findings) (xs ys : List Bytes) → Adds old new xs → Comes old (xs ++ ys) new ys
adds_then old new xs ys a = record {
  text = ap (λ (t : Bytes). old.text ++ t) (written-append xs ys)
      ∙ sym (append_assoc old.text (written_lines xs) (written_lines ys))
      ∙ ap (λ (t : Bytes). t ++ written_lines ys) (sym a.text);
  count = let more = a.count in let both = length-append xs ys in omega arith;
}

pub comes_on : (first now new : Findings) (all rest last : List Bytes) → Comes first all now rest → Comes now rest new last → Comes first all new last
comes_on first now new all rest last a b = record { text = a.text ∙ b.text; count = a.count ∙ b.count }

-- one more thing was looked at
pub comes_more : (first now new : Findings) (all before xs rest : List Bytes) → Comes first all now before → before ≡ xs ++ rest → Adds now new xs
    → Comes first all new rest
comes_more first now new all before xs rest a e b =
    comes_on first now new all before rest a (subst (λ (ls : List Bytes). Comes now ls new rest) (sym e) (adds_then now new xs rest b))

pub comes_end : (first new : Findings) (all rest : List Bytes) → Comes first all new rest → rest ≡ [] → Adds first new all
comes_end first new all rest a e = record {
  text = sym (append-nil new.text) ∙ ap (λ (ls : List Bytes). new.text ++ written_lines ls) (sym e) ∙ sym a.text;
  count = let more = a.count in let none : length rest ≡ 0 = ap (λ (ls : List Bytes). length ls) e in omega arith;
}

pub adds_both : (first now new : Findings) (xs ys : List Bytes) → Adds first now xs → Adds now new ys → Adds first new (xs ++ ys)
adds_both first now new xs ys a b =
    comes_end first new (xs ++ ys) [] (comes_more first now new (xs ++ ys) ys ys [] (adds_then first now xs ys a) (sym (append-nil ys)) b) refl

-- of the lines of an item's terms, and then those of the others'
pub spread_lines : {X Y Z : Type 0} (f : Z → List Bytes) (g : Y → List Z) (h : X → List Y) (x : X) (xs : List X)
    → flat_map f (flat_map g (flat_map h (x ∷ xs))) ≡ flat_map f (flat_map g (h x)) ++ flat_map f (flat_map g (flat_map h xs))
spread_lines f g h x xs = ap (λ zs. flat_map f zs) (flat_map-append g (h x) (flat_map h xs)) ∙ flat_map-append f (flat_map g (h x)) (flat_map g (flat_map h xs))

-- lines that are added by a test
pub adds_if : (b : Bool) (xs ys : List Bytes) (old new : Findings) → b ≡ true → Adds old new xs → Adds old new (cond b xs ys)
adds_if b xs ys old new e a = subst (λ (v : Bool). Adds old new (cond v xs ys)) (sym e) a

pub adds_else : (b : Bool) (xs ys : List Bytes) (old new : Findings) → b ≡ false → Adds old new ys → Adds old new (cond b xs ys)
adds_else b xs ys old new e a = subst (λ (v : Bool). Adds old new (cond v xs ys)) (sym e) a

-- of two terms, one after another
pub adds_two : (f : Term → List Bytes) (a b : Term) (old now new : Findings) → Adds old now (flat_map f (flat_map subterms (a ∷ [])))
    → Adds now new (flat_map f (flat_map subterms (b ∷ []))) → Adds old new (flat_map f (flat_map subterms (a ∷ b ∷ [])))
adds_two f a b old now new x y =
    subst (λ (ls : List Bytes). Adds old new ls)
    (sym (ap (λ (ts : List Term). flat_map f ts) (flat_map-append subterms (a ∷ []) (b ∷ []))
    ∙ flat_map-append f (flat_map subterms (a ∷ [])) (flat_map subterms (b ∷ []))))
    (adds_both old now new (flat_map f (flat_map subterms (a ∷ []))) (flat_map f (flat_map subterms (b ∷ []))) x y)

-- numbers from one on, up to a last one
pub range_more : (v n : ℕ) → v < n → range_with_len v (n - v) ≡ v ∷ range_with_len (v + 1) (n - (v + 1))
range_more v n lt = let e : n - v ≡ suc (n - (v + 1)) = omega arith in ap (λ (m : ℕ). range_with_len v m) e

pub range_none : (v n : ℕ) → n ≤ v → range_with_len v (n - v) ≡ []
range_none v n le = let e : n - v ≡ 0 = omega arith in ap (λ (m : ℕ). range_with_len v m) e

-- the findings of all clauses and of the query, and then how many they are
pub lint_is : (P : Program) (reached : ℕ → Bool) (first now last : Findings) (text : Bytes) (count : ℕ) → TellsReached P reached
    → first.text ≡ [] → first.count ≡ 0 → Adds first now (flat_map (lines_of P reached) (range_with_len 1 (length P.clauses)))
    → Adds now last (lines_of P reached 0) → text ≡ last.text ++ decimal last.count ++ codes " findings\n" → count ≡ last.count → IsLint P text count
lint_is P reached first now last text count tells empty start a b t n =
    let f : ℕ → List Bytes = lines_of P reached in
    let rest : List ℕ = range_with_len 1 (length P.clauses) in
    let both = adds_both first now last (flat_map f rest) (f 0) a b in
    let all : all_lines P reached ≡ flat_map f rest ++ f 0 =
    flat_map-append f rest (0 ∷ []) ∙ ap (λ (ls : List Bytes). flat_map f rest ++ ls) (append-nil (f 0)) in
    let counted : last.count ≡ length (all_lines P reached) =
    both.count ∙ ap (λ (m : ℕ). m + length (flat_map f rest ++ f 0)) start
    ∙ (let e : 0 + length (flat_map f rest ++ f 0) ≡ length (flat_map f rest ++ f 0) = omega arith in e)
    ∙ ap (λ (ls : List Bytes). length ls) (sym all) in
    let written : last.text ≡ written_lines (all_lines P reached) =
    both.text ∙ ap (λ (x : Bytes). x ++ written_lines (flat_map f rest ++ f 0)) empty ∙ ap (λ (ls : List Bytes). written_lines ls) (sym all) in
    record {
      reached = reached;
      tells = tells;
      counted = n ∙ counted;
      written = t ∙ ap (λ (x : Bytes). x ++ decimal last.count ++ codes " findings\n") written
          ∙ ap (λ (m : ℕ). written_lines (all_lines P reached) ++ decimal m ++ codes " findings\n") (sym n);
    }
