-- One text: solutions that rename each other give one proof.
use Rattle.std.proofs.Common.{ℕ, suc, Bool, ◌≡◌, ◌+◌, ◌<◌, ◌≤◌, List, [], ◌∷◌, ◌++◌, append-nil, length, map, cond, true, false, refl, ap, sym, ◌∙◌, subst}
use Rattle.std.proofs.Common.{arith}
use Rattle.std.proofs.Common.{codes, decimal}
use Rattle.std.proofs.lemmas.List.{map-append}
use Rattle.and_model.specs.Terms.{Term, variables_of, Substitution, apply}
use Rattle.and_model.specs.Programs.{Program}
use Rattle.and_model.specs.Lines.{Bytes, shown_variables, variables_along, begins_underscore, line_of}
use Rattle.and_model.specs.Stands.{numbers_below, AreVariants}
use Rattle.and_laws.proofs.Printing.{Variable, Pairs, first_seen_pairs, shown_twin, Twins, twins_pairs, variants_line}
use Rattle.and_branch_laws.proofs.Reading.{mapped, below_cases}
use Rattle.and_proof.specs.Documents.{mark}
use Rattle.and_proof.specs.Proofs.{Replaced, is_alternative, goal_text, named_with, call_line, call_lines, named_along, proof_of}

module _ (s t : Substitution) where
  twins_join : (xs ys us zs : List Term) → Twins s t xs ys → Twins s t us zs → Twins s t (xs ++ us) (ys ++ zs)
  twins_join [] [] us zs p q = q
  twins_join [] (y ∷ ys) us zs p q = elim p [ ]
  twins_join (x ∷ xs) [] us zs p q = elim p [ ]
  twins_join (x ∷ xs) (y ∷ ys) us zs p q = (p.0, p.1, twins_join xs ys us zs p.2 q)

  twins_forth : (xs ys : List Term) → Twins s t xs ys → map (apply t) xs ≡ ys
  twins_forth [] [] p = refl
  twins_forth [] (y ∷ ys) p = elim p [ ]
  twins_forth (x ∷ xs) [] p = elim p [ ]
  twins_forth (x ∷ xs) (y ∷ ys) p = ap (λ z. z ∷ map (apply t) xs) (sym p.0) ∙ ap (λ l. y ∷ l) (twins_forth xs ys p.2)

  twins_back : (xs ys : List Term) → Twins s t xs ys → map (apply s) ys ≡ xs
  twins_back [] [] p = refl
  twins_back [] (y ∷ ys) p = elim p [ ]
  twins_back (x ∷ xs) [] p = elim p [ ]
  twins_back (x ∷ xs) (y ∷ ys) p = ap (λ z. z ∷ map (apply s) ys) (sym p.1) ∙ ap (λ l. x ∷ l) (twins_back xs ys p.2)

  twins_long : (xs ys : List Term) → Twins s t xs ys → length xs ≡ length ys
  twins_long [] [] p = refl
  twins_long [] (y ∷ ys) p = elim p [ ]
  twins_long (x ∷ xs) [] p = elim p [ ]
  twins_long (x ∷ xs) (y ∷ ys) p = ap suc (twins_long xs ys p.2)

  -- calls that differ by the names of variables alone
  abbrev pub AreAlike : List Replaced → List Replaced → Type 0
  AreAlike [] [] = Unit {0}
  AreAlike [] (d ∷ ds) = ⊥
  AreAlike (c ∷ cs) [] = ⊥
  AreAlike (c ∷ cs) (d ∷ ds) =
      (c.depth ≡ d.depth) × (c.clause ≡ d.clause) × (d.call ≡ apply t c.call) × (c.call ≡ apply s d.call) × AreAlike cs ds

  variables_paired : (x y : Term) → y ≡ apply t x → x ≡ apply s y → Pairs s t (variables_of x) (variables_of y)
  variables_paired x y e f =
      let both : Pairs s t (variables_of x ++ []) (variables_of y ++ []) = twins_pairs s t (x ∷ []) (y ∷ []) (e, f, tt) in
      subst (λ ws. Pairs s t (variables_of x) ws) (append-nil (variables_of y))
      (subst (λ vs. Pairs s t vs (variables_of y ++ [])) (append-nil (variables_of x)) both)

  -- What is written for them, and what then has names, is the same, where the variables that have names are paired.
  named_same : (other : Bool) (seen told : List Variable) (x y : Term) → Pairs s t seen told → y ≡ apply t x → x ≡ apply s y
      → Pairs s t (named_with other seen x) (named_with other told y)
  named_same true seen told x y p e f = p
  named_same false seen told x y p e f = first_seen_pairs s t seen told (variables_of x) (variables_of y) p (variables_paired x y e f)

  text_same : (other : Bool) (names : List Bytes) (vs ws : List Variable) (x y : Term) → Pairs s t vs ws → y ≡ apply t x → x ≡ apply s y
      → goal_text other names vs x ≡ goal_text other names ws y
  text_same true names vs ws x y known e f = refl
  text_same false names vs ws x y known e f = shown_twin s t names vs ws known x y e f

  -- So are their lines.
  lines_same : (P : Program) (seen told : List Variable) (cs ds : List Replaced) → Pairs s t seen told → AreAlike cs ds
      → call_lines P seen cs ≡ call_lines P told ds
  lines_same P seen told [] [] p a = refl
  lines_same P seen told [] (d ∷ ds) p a = elim a [ ]
  lines_same P seen told (c ∷ cs) [] p a = elim a [ ]
  lines_same P seen told (c ∷ cs) (d ∷ ds) p a =
      let other : Bool = is_alternative P c.clause in
      let vs : List Variable = named_with other seen c.call in
      let ws : List Variable = named_with other told d.call in
      let known : Pairs s t vs ws = named_same other seen told c.call d.call p a.2 a.3 in
      let text : goal_text other P.names vs c.call ≡ goal_text other P.names ws d.call =
      text_same other P.names vs ws c.call d.call known a.2 a.3 in
      let line : Bytes = codes "%% " ++ decimal d.depth ++ 32 ∷ decimal c.clause ++ 32 ∷ goal_text other P.names ws d.call ++ 10 ∷ [] in
      let one : call_line P vs c ≡ line =
      ap (λ n. codes "%% " ++ decimal n ++ 32 ∷ decimal c.clause ++ 32 ∷ goal_text other P.names vs c.call ++ 10 ∷ []) a.0
      ∙ ap (λ (b : Bytes). codes "%% " ++ decimal d.depth ++ 32 ∷ decimal c.clause ++ 32 ∷ b ++ 10 ∷ []) text in
      let all : ℕ → Bytes = λ n. call_lines P told (record d { clause = n } ∷ ds) in
      ap (λ (l : Bytes). l ++ call_lines P vs cs) one ∙ ap (λ (l : Bytes). line ++ l) (lines_same P vs ws cs ds known a.4) ∙ ap all a.1

  -- Values f and g of the query's variables that differ by names alone
  module _ (f g : Substitution) (n : ℕ) (values : (k : ℕ) → k < n → (g [] k ≡ apply t (f [] k)) × (f [] k ≡ apply s (g [] k))) where
    shown_twins : (k : ℕ) (written : List Bytes) → k + length written ≤ n
        → Twins s t (map (λ (v : Bytes × ℕ). f [] v.1) (shown_variables k written)) (map (λ (v : Bytes × ℕ). g [] v.1) (shown_variables k written))
    shown_twins k [] few = tt
    shown_twins k (w ∷ written) few =
        let rest = shown_twins (suc k) written (omega arith) in
        let here = values k (omega arith) in
        elim (begins_underscore w) as (λ b.
        Twins s t (map (λ (v : Bytes × ℕ). f [] v.1) (cond b (shown_variables (suc k) written) ((w, k) ∷ shown_variables (suc k) written)))
        (map (λ (v : Bytes × ℕ). g [] v.1) (cond b (shown_variables (suc k) written) ((w, k) ∷ shown_variables (suc k) written))))
        [ true ↦ rest | false ↦ (here.0, here.1, rest) ]

    all_variants : (gs hs : List Term) → Twins s t gs hs → AreVariants (map (f []) (numbers_below n) ++ gs) (map (g []) (numbers_below n) ++ hs)
    all_variants gs hs goals =
        let ns : List ℕ = numbers_below n in (
          (
            t,
            map-append (apply t) (map (f []) ns) gs
                ∙ ap (λ l. l ++ map (apply t) gs) (mapped t (f []) (g []) ns (λ k c. sym (values k (below_cases n k c)).0))
                ∙ ap (λ l. map (g []) ns ++ l) (twins_forth gs hs goals),
          ),
          (
            s,
            map-append (apply s) (map (g []) ns) hs
                ∙ ap (λ l. l ++ map (apply s) hs) (mapped s (g []) (f []) ns (λ k c. sym (values k (below_cases n k c)).1))
                ∙ ap (λ l. map (f []) ns ++ l) (twins_back gs hs goals),
          ),
        )

    -- give one proof, with goals and calls that do.
    pub one_proof : (P : Program) → length P.query.written ≤ n → (gs hs : List Term) (cs ds : List Replaced) → Twins s t gs hs → AreAlike cs ds
        → proof_of P f gs cs ≡ proof_of P g hs ds
    one_proof P few gs hs cs ds goals calls =
        let line : line_of P f gs ≡ line_of P g hs = variants_line P n f g gs hs few (twins_long gs hs goals) (all_variants gs hs goals) in
        let xs : List Term = map (λ (v : Bytes × ℕ). f [] v.1) (shown_variables 0 P.query.written) in
        let ys : List Term = map (λ (v : Bytes × ℕ). g [] v.1) (shown_variables 0 P.query.written) in
        let twins : Twins s t (xs ++ gs) (ys ++ hs) = twins_join xs ys gs hs (shown_twins 0 P.query.written (omega arith)) goals in
        let known : Pairs s t (named_along P f gs) (named_along P g hs) =
        first_seen_pairs s t [] [] (variables_along (xs ++ gs)) (variables_along (ys ++ hs)) tt (twins_pairs s t (xs ++ gs) (ys ++ hs) twins) in
        let lines : call_lines P (named_along P f gs) cs ≡ call_lines P (named_along P g hs) ds =
        lines_same P (named_along P f gs) (named_along P g hs) cs ds known calls in
        ap (λ (b : Bytes). mark ++ 10 ∷ b ++ codes "%% line " ++ line_of P f gs ++ 10 ∷ []) lines
        ∙ ap (λ (b : Bytes). mark ++ 10 ∷ call_lines P (named_along P g hs) ds ++ codes "%% line " ++ b ++ 10 ∷ []) line
