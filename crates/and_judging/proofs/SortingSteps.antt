-- Marks of a body are sorted into its disjunctions and the clauses of its alternatives.
use Rattle.std.proofs.Common.{ℕ, zero, suc, ◌+◌, ◌≡◌, ◌<◌, ◌≤◌, ◌||◌, ◌&&◌, Bool, true, false, cond, nat_eq, List, [], ◌∷◌, ◌++◌, length, get_or, Option}
use Rattle.std.proofs.Common.{Some, None}
use Rattle.std.proofs.Common.{refl, ap, sym, ◌∙◌, arith, subst}
use Rattle.std.specs.Prelude.{All}
use Rattle.std.proofs.lemmas.Bool.Decides.{nat_tests}
use Rattle.std.proofs.lemmas.List.{append_assoc, append-nil, length-append, map-append}
use Rattle.std.proofs.lemmas.List.Elements.{All-head, All-tail}
use Rattle.and_model.specs.Terms.{Path, variables_of}
use Rattle.and_model.specs.Stands.{item_term}
use Rattle.and_model.specs.Lines.{same_path, same_variable, has, first_seen}
use Rattle.and_source.specs.Source
use Rattle.and_source.specs.Source.{SourceItems, no_items, plain, Alternatives, no_alternatives, alternative, distinct_variables}
use Rattle.and_source.specs.Source.{variables_of_items, variables_of_alternatives, disjunctions_in_items, disjunctions_in_alternatives}
use Rattle.and_source.proofs.OwnVariables.{all_seen}
use Rattle.and_syntax.specs.Clauses
use Rattle.and_syntax.specs.Clauses.{Parts, no_parts, impure, Choices, no_choices, choice, alternatives_of, alternatives_in, disjunctions_of}
use Rattle.and_syntax.specs.Clauses.{disjunctions_within}
use Rattle.and_syntax.specs.Clauses.{numbered, numbered_in}
use Rattle.and_syntax.specs.Tables.{count_of}
use Rattle.and_judging.specs.Marks.{Mark, close}
use Rattle.and_judging.specs.Bodies.{marks_at, choices_at}
use Rattle.and_judging.specs.Sorted.{Local, Piece, kept, called, Outline, local_of, locals_of, locals_in, pieces_of, outlines_of, outlines_in, alter}
use Rattle.and_judging.specs.Sorted.{Sorting, with_piece, with_variables, with_alternative, alter_in, variables_in_scope, steps}

abbrev Variable : Type 0
Variable = Path × ℕ

-- ---- Variables that were seen.
pub same_path-is : (p q : Path) → same_path p q ≡ true → p ≡ q
same_path-is [] [] e = refl
same_path-is [] (j ∷ q) e = absurd cc
same_path-is (i ∷ p) [] e = absurd cc
same_path-is (i ∷ p) (j ∷ q) e = by (same_path-is p q) (nat_eq i j) refl e
  where
    by : (same_path p q ≡ true → p ≡ q) → (b : Bool) → nat_eq i j ≡ b → b && same_path p q ≡ true → i ∷ p ≡ j ∷ q
    by rest true f h = let same : i ≡ j = grind (arith, nat_tests) in ap (λ k. k ∷ p) same ∙ ap (λ r. j ∷ r) (rest h)
    by rest false f h = absurd cc

same_variable-is : (v w : Variable) → same_variable v w ≡ true → v ≡ w
same_variable-is v w e = by (same_path v.0 w.0) refl e
  where
    by : (b : Bool) → same_path v.0 w.0 ≡ b → b && nat_eq v.1 w.1 ≡ true → v ≡ w
    by true f h =
        let same : v.1 ≡ w.1 = grind (arith, nat_tests) in
        ap (λ (p : Path). let x : Variable = (p, v.1) in x) (same_path-is v.0 w.0 f) ∙ ap (λ (k : ℕ). let x : Variable = (w.0, k) in x) same
    by false f h = absurd cc

of_one : (P : Variable → Type 0) (v : Variable) (vs : List Variable) → has v vs ≡ true → All P vs → P v
of_one P v [] e a = absurd cc
of_one P v (w ∷ vs) e a = by (λ h. of_one P v vs h (All-tail P w vs a)) (same_variable v w) refl e
  where
    by : (has v vs ≡ true → P v) → (b : Bool) → same_variable v w ≡ b → b || has v vs ≡ true → P v
    by rest true f h = subst P (sym (same_variable-is v w f)) (All-head P w vs a)
    by rest false f h = rest h

pub seen_in_turn : (seen vs ws : List Variable) → first_seen seen (vs ++ ws) ≡ first_seen (first_seen seen vs) ws
seen_in_turn seen [] ws = refl
seen_in_turn seen (v ∷ vs) ws = seen_in_turn (cond (has v seen) seen (seen ++ v ∷ [])) vs ws

-- those that were seen elsewhere first
pub seen_again : (seen mid vs : List Variable) → first_seen seen (first_seen mid vs) ≡ first_seen (first_seen seen mid) vs
seen_again seen mid [] = refl
seen_again seen mid (v ∷ vs) = seen_again seen (cond (has v mid) mid (mid ++ v ∷ [])) vs ∙ ap (λ us. first_seen us vs) (by (has v mid) refl)
  where
    now : List Variable
    now = first_seen seen mid

    by : (b : Bool) → has v mid ≡ b → first_seen seen (cond b mid (mid ++ v ∷ [])) ≡ cond (has v now) now (now ++ v ∷ [])
    by true e =
        let there : has v now ≡ true = of_one (λ w. has w (first_seen seen mid) ≡ true) v mid e (all_seen seen mid) in
        sym (ap (λ b. cond b now (now ++ v ∷ [])) there)
    by false e = seen_in_turn seen mid (v ∷ [])

-- ---- One of a list is altered.
module _ {X : Type 0} where
  pub length-alter : (n : ℕ) (f : X → X) (xs : List X) → length (alter n f xs) ≡ length xs
  length-alter n f [] = refl
  length-alter zero f (x ∷ xs) = refl
  length-alter (suc n) f (x ∷ xs) = ap suc (length-alter n f xs)

  alter-same : (n : ℕ) (f : X → X) (xs : List X) → ((x : X) → f x ≡ x) → alter n f xs ≡ xs
  alter-same n f [] h = refl
  alter-same zero f (x ∷ xs) h = ap (λ y. y ∷ xs) (h x)
  alter-same (suc n) f (x ∷ xs) h = ap (λ ys. x ∷ ys) (alter-same n f xs h)

  alter-twice : (n : ℕ) (f g h : X → X) (xs : List X) → ((x : X) → g (f x) ≡ h x) → alter n g (alter n f xs) ≡ alter n h xs
  alter-twice n f g h [] e = refl
  alter-twice zero f g h (x ∷ xs) e = ap (λ y. y ∷ xs) (e x)
  alter-twice (suc n) f g h (x ∷ xs) e = ap (λ ys. x ∷ ys) (alter-twice n f g h xs e)

  alter-front : (n : ℕ) (f : X → X) (xs ys : List X) → n < length xs → alter n f (xs ++ ys) ≡ alter n f xs ++ ys
  alter-front n f [] ys lt = absurd (omega arith)
  alter-front zero f (x ∷ xs) ys lt = refl
  alter-front (suc n) f (x ∷ xs) ys lt = ap (λ zs. x ∷ zs) (alter-front n f xs ys (omega arith))

  alter-last : (f : X → X) (xs : List X) (x : X) → alter (length xs) f (xs ++ x ∷ []) ≡ xs ++ f x ∷ []
  alter-last f [] x = refl
  alter-last f (y ∷ xs) x = ap (λ zs. y ∷ zs) (alter-last f xs x)

  pub get-last : (xs ys : List X) (x d : X) → get_or (xs ++ x ∷ ys) (length xs) d ≡ x
  get-last [] ys x d = refl
  get-last (y ∷ xs) ys x d = get-last xs ys x d

-- the scope is there
abbrev IsIn : Option ℕ → ℕ → Type 0
IsIn None n = Unit {0}
IsIn (Some h) n = h < n

more_in : (sc : Option ℕ) (n m : ℕ) → n ≤ m → IsIn sc n → IsIn sc m
more_in None n m le i = tt
more_in (Some h) n m le i = omega arith

length-alter_in : (sc : Option ℕ) (f : Local → Local) (ls : List Local) → length (alter_in sc f ls) ≡ length ls
length-alter_in None f ls = refl
length-alter_in (Some h) f ls = length-alter h f ls

alter_in-same : (sc : Option ℕ) (f : Local → Local) (ls : List Local) → ((l : Local) → f l ≡ l) → alter_in sc f ls ≡ ls
alter_in-same None f ls h = refl
alter_in-same (Some n) f ls h = alter-same n f ls h

alter_in-twice : (sc : Option ℕ) (f g h : Local → Local) (ls : List Local) → ((l : Local) → g (f l) ≡ h l)
    → alter_in sc g (alter_in sc f ls) ≡ alter_in sc h ls
alter_in-twice None f g h ls e = refl
alter_in-twice (Some n) f g h ls e = alter-twice n f g h ls e

alter_in-front : (sc : Option ℕ) (f : Local → Local) (xs ys : List Local) → IsIn sc (length xs) → alter_in sc f (xs ++ ys) ≡ alter_in sc f xs ++ ys
alter_in-front None f xs ys i = refl
alter_in-front (Some n) f xs ys i = alter-front n f xs ys i

-- ---- What marks make.
abbrev with_pieces : List Piece → Outline → Outline
with_pieces ps o = record o { pieces = o.pieces ++ ps }

-- the variables and the alternatives of a disjunction more
abbrev with_all : Alternatives → Local → Local
with_all alts l = record { variables = first_seen l.variables (variables_of_alternatives alts); count = l.count + count_of alts }

abbrev sorting : List Local → List Outline → ℕ → Option ℕ → List (ℕ × Option ℕ) → Sorting
sorting ls os o sc ar = record { locals = ls; outlines = os; outline = o; scope = sc; around = ar }

-- the disjunction h has ended
abbrev done : List Local → List Outline → ℕ → ℕ × Option ℕ → List (ℕ × Option ℕ) → Sorting
done ls os h p ar = sorting (alter_in p.1 (with_variables (variables_in_scope ls (Some h))) ls) os p.0 p.1 ar

variables_twice : (vs ws : List Variable) (l : Local) → with_variables ws (with_variables vs l) ≡ with_variables (vs ++ ws) l
variables_twice vs ws l = ap (λ us. let m : Local = record { variables = us; count = l.count } in m) (sym (seen_in_turn l.variables vs ws))

pieces_twice : (ps qs : List Piece) (o : Outline) → with_pieces qs (with_pieces ps o) ≡ with_pieces (ps ++ qs) o
pieces_twice ps qs o = ap (λ us. let p : Outline = record { scope = o.scope; pieces = us } in p) (append_assoc o.pieces ps qs)

nothing_more : (o : Outline) → with_pieces [] o ≡ o
nothing_more o = ap (λ us. let p : Outline = record { scope = o.scope; pieces = us } in p) (append-nil o.pieces)

one_more : (items : SourceItems) (alts : Alternatives) (l : Local)
    → with_all alts (with_variables (variables_of_items items) (with_alternative l)) ≡ with_all (alternative 0 items alts) l
one_more items alts l =
    let z : l.count + 1 + count_of alts ≡ l.count + suc (count_of alts) = omega arith in
    ap (λ us. let m : Local = record { variables = us; count = l.count + 1 + count_of alts } in m)
    (sym (seen_in_turn l.variables (variables_of_items items) (variables_of_alternatives alts)))
    ∙ ap (λ k. let m : Local = record { variables = first_seen l.variables (variables_of_items items ++ variables_of_alternatives alts); count = k } in m) z

again : (vs : List Variable) (l : Local) → with_variables (first_seen [] vs) l ≡ with_variables vs l
again vs l = ap (λ us. let m : Local = record { variables = us; count = l.count } in m) (seen_again l.variables [] vs)

alter-again : (n : ℕ) (vs : List Variable) (ks : List Local) → alter n (with_variables (first_seen [] vs)) ks ≡ alter n (with_variables vs) ks
alter-again n vs [] = refl
alter-again zero vs (k ∷ ks) = ap (λ (m : Local). m ∷ ks) (again vs k)
alter-again (suc n) vs (k ∷ ks) = ap (λ ms. k ∷ ms) (alter-again n vs ks)

alter_in-again : (sc : Option ℕ) (vs : List Variable) (ls : List Local)
    → alter_in sc (with_variables (first_seen [] vs)) ls ≡ alter_in sc (with_variables vs) ls
alter_in-again None vs ls = refl
alter_in-again (Some n) vs ls = alter-again n vs ls

module _ (name : ℕ → ℕ) where
  mutual
    pub body_steps : (c d : ℕ) (ps : Parts) (ms : List Mark) (ls : List Local) (os : List Outline) (o : ℕ) (sc : Option ℕ) (ar : List (ℕ × Option ℕ))
        → IsIn sc (length ls) → o < length os
        → steps (sorting ls os o sc ar) (marks_at c d ps ++ ms)
        ≡ steps (sorting (alter_in sc (with_variables (variables_of_items (numbered name c d ps))) ls ++ locals_of (numbered name c d ps))
        (alter o (with_pieces (pieces_of (length ls) (numbered name c d ps))) os ++ outlines_of (length ls) (numbered name c d ps)) o sc ar) ms
    body_steps c d no_parts ms ls os o sc ar i lt =
        ap (λ us. steps (sorting us os o sc ar) ms)
        (sym (append-nil (alter_in sc (with_variables []) ls) ∙ alter_in-same sc (with_variables []) ls (λ l. refl)))
        ∙ ap (λ us. steps (sorting (alter_in sc (with_variables []) ls ++ []) us o sc ar) ms)
        (sym (append-nil (alter o (with_pieces []) os) ∙ alter-same o (with_pieces []) os nothing_more))
    body_steps c d (Clauses.item x ps) ms ls os o sc ar i lt =
        let items : SourceItems = numbered name c d ps in
        let vs : List Variable = variables_of (item_term x) in
        let ls1 : List Local = alter_in sc (with_variables vs) ls in
        let os1 : List Outline = alter o (with_piece (kept x)) os in
        let few : length ls1 ≡ length ls = length-alter_in sc (with_variables vs) ls in
        let many : length os1 ≡ length os = length-alter o (with_piece (kept x)) os in
        body_steps c d ps ms ls1 os1 o sc ar (subst (IsIn sc) (sym few) i) (omega arith)
        ∙ ap (λ us. steps (sorting (us ++ locals_of items) (alter o (with_pieces (pieces_of (length ls1) items)) os1 ++ outlines_of (length ls1) items) o sc
        ar) ms)
        (alter_in-twice sc (with_variables vs) (with_variables (variables_of_items items)) (with_variables (vs ++ variables_of_items items)) ls
        (variables_twice vs (variables_of_items items)))
        ∙ ap (λ n. steps (sorting (alter_in sc (with_variables (vs ++ variables_of_items items)) ls ++ locals_of items)
        (alter o (with_pieces (pieces_of n items)) os1 ++ outlines_of n items) o sc ar) ms) few
        ∙ ap (λ us. steps (sorting (alter_in sc (with_variables (vs ++ variables_of_items items)) ls ++ locals_of items)
        (us ++ outlines_of (length ls) items) o sc ar) ms)
        (alter-twice o (with_piece (kept x)) (with_pieces (pieces_of (length ls) items)) (with_pieces (kept x ∷ pieces_of (length ls) items)) os
        (pieces_twice (kept x ∷ []) (pieces_of (length ls) items)))
    body_steps c d (impure ps) ms ls os o sc ar i lt = body_steps c d ps ms ls os o sc ar i lt
    body_steps c d (Clauses.either cs ps) ms ls os o sc ar i lt =
        let n : ℕ = length ls in
        let c2 : ℕ = c + alternatives_in cs in
        let d2 : ℕ = suc (d + disjunctions_within cs) in
        let alts : Alternatives = numbered_in name c (suc d) cs in
        let items : SourceItems = numbered name c2 d2 ps in
        let rest : List Mark = marks_at c2 d2 ps ++ ms in
        let vs : List Variable = variables_of_alternatives alts in
        let ws : List Variable = variables_of_items items in
        let none : Local = record { variables = []; count = 0 } in
        let ls1 : List Local = ls ++ none ∷ [] in
        let os1 : List Outline = alter o (with_piece (called n)) os in
        let more : length ls1 ≡ suc n = omega (arith, length-append ls (none ∷ [])) in
        let many : length os1 ≡ length os = length-alter o (with_piece (called n)) os in
        let ls2 : List Local = alter n (with_all alts) ls1 ++ locals_in alts in
        let ls3 : List Local = alter_in sc (with_variables vs) ls ++ local_of alts ∷ locals_in alts in
        let os2 : List Outline = os1 ++ outlines_in n (suc n) alts in
        let n3 : ℕ = suc n + length (locals_in alts) in
        let z : 0 + count_of alts ≡ count_of alts = omega arith in
        let ended : alter n (with_all alts) ls1 ≡ ls ++ local_of alts ∷ [] =
        alter-last (with_all alts) ls none ∙ ap (λ k. ls ++ record { variables = distinct_variables alts; count = k } ∷ []) z in
        let ls2_is : ls2 ≡ ls ++ local_of alts ∷ locals_in alts =
        ap (λ us. us ++ locals_in alts) ended ∙ append_assoc ls (local_of alts ∷ []) (locals_in alts) in
        let inner : variables_in_scope ls2 (Some n) ≡ distinct_variables alts =
        ap (λ us. variables_in_scope us (Some n)) ls2_is ∙ ap (λ (l : Local). l.variables) (get-last ls (locals_in alts) (local_of alts) none) in
        let ls3_is : alter_in sc (with_variables (variables_in_scope ls2 (Some n))) ls2 ≡ ls3 =
        ap (λ us. alter_in sc (with_variables us) ls2) inner ∙ ap (alter_in sc (with_variables (distinct_variables alts))) ls2_is
        ∙ alter_in-front sc (with_variables (distinct_variables alts)) ls (local_of alts ∷ locals_in alts) i
        ∙ ap (λ us. us ++ local_of alts ∷ locals_in alts) (alter_in-again sc vs ls) in
        let ls3_few : length ls3 ≡ n3 =
        omega (arith, length-append (alter_in sc (with_variables vs) ls) (local_of alts ∷ locals_in alts), length-alter_in sc (with_variables vs) ls) in
        let os2_many : length os ≤ length os2 = omega (arith, length-append os1 (outlines_in n (suc n) alts)) in
        let front : IsIn sc (length (alter_in sc (with_variables vs) ls)) = subst (IsIn sc) (sym (length-alter_in sc (with_variables vs) ls)) i in
        let all_locals : alter_in sc (with_variables ws) ls3 ++ locals_of items
        ≡ alter_in sc (with_variables (vs ++ ws)) ls ++ locals_of (Source.either (name d) alts items) =
        ap (λ us. us ++ locals_of items) (alter_in-front sc (with_variables ws) (alter_in sc (with_variables vs) ls) (local_of alts ∷ locals_in alts) front
        ∙ ap (λ us. us ++ local_of alts ∷ locals_in alts)
        (alter_in-twice sc (with_variables vs) (with_variables ws) (with_variables (vs ++ ws)) ls (variables_twice vs ws)))
        ∙ append_assoc (alter_in sc (with_variables (vs ++ ws)) ls) (local_of alts ∷ locals_in alts) (locals_of items)
        ∙ ap (λ us. alter_in sc (with_variables (vs ++ ws)) ls ++ local_of alts ∷ us)
        (sym (map-append (λ (e : ℕ × Alternatives). local_of e.1) (disjunctions_in_alternatives alts) (disjunctions_in_items items))) in
        let all_outlines : alter o (with_pieces (pieces_of n3 items)) os2 ++ outlines_of n3 items
        ≡ alter o (with_pieces (called n ∷ pieces_of n3 items)) os ++ outlines_of n (Source.either (name d) alts items) =
        ap (λ us. us ++ outlines_of n3 items) (alter-front o (with_pieces (pieces_of n3 items)) os1 (outlines_in n (suc n) alts) (omega arith)
        ∙ ap (λ us. us ++ outlines_in n (suc n) alts)
        (alter-twice o (with_piece (called n)) (with_pieces (pieces_of n3 items)) (with_pieces (called n ∷ pieces_of n3 items)) os
        (pieces_twice (called n ∷ []) (pieces_of n3 items))))
        ∙ append_assoc (alter o (with_pieces (called n ∷ pieces_of n3 items)) os) (outlines_in n (suc n) alts) (outlines_of n3 items) in
        ap (λ us. steps (sorting ls1 os1 o (Some n) ((o, sc) ∷ ar)) us) (append_assoc (choices_at c (suc d) cs) (close ∷ marks_at c2 d2 ps) ms)
        ∙ alternatives_steps c (suc d) cs rest ls1 os1 o n (o, sc) ar (omega arith)
        ∙ ap (λ k. steps (done ls2 (os1 ++ outlines_in n k alts) n (o, sc) ar) rest) more
        ∙ ap (λ us. steps (sorting us os2 o sc ar) rest) ls3_is
        ∙ body_steps c2 d2 ps ms ls3 os2 o sc ar (more_in sc n (length ls3) (omega arith) i) (omega arith)
        ∙ ap (λ k. steps (sorting (alter_in sc (with_variables ws) ls3 ++ locals_of items)
        (alter o (with_pieces (pieces_of k items)) os2 ++ outlines_of k items) o sc ar) ms) ls3_few
        ∙ ap (λ us. steps (sorting us (alter o (with_pieces (pieces_of n3 items)) os2 ++ outlines_of n3 items) o sc ar) ms) all_locals
        ∙ ap (λ us. steps (sorting (alter_in sc (with_variables (vs ++ ws)) ls ++ locals_of (Source.either (name d) alts items)) us o sc ar) ms) all_outlines

    alternatives_steps : (c d : ℕ) (cs : Choices) (ms : List Mark) (ls : List Local) (os : List Outline) (o h : ℕ) (p : ℕ × Option ℕ) (ar : List (ℕ × Option ℕ))
        → h < length ls
        → steps (sorting ls os o (Some h) (p ∷ ar)) (choices_at c d cs ++ close ∷ ms)
        ≡ steps (done (alter h (with_all (numbered_in name c d cs)) ls ++ locals_in (numbered_in name c d cs))
        (os ++ outlines_in h (length ls) (numbered_in name c d cs)) h p ar) ms
    alternatives_steps c d no_choices ms ls os o h p ar lt =
        ap (λ us. steps (done us os h p ar) ms)
        (sym (append-nil (alter h (with_all no_alternatives) ls) ∙ alter-same h (with_all no_alternatives) ls none_more))
        ∙ ap (λ us. steps (done (alter h (with_all no_alternatives) ls ++ []) us h p ar) ms) (sym (append-nil os))
      where
        none_more : (l : Local) → with_all no_alternatives l ≡ l
        none_more l = let z : l.count + 0 ≡ l.count = omega arith in ap (λ k. let m : Local = record { variables = l.variables; count = k } in m) z
    alternatives_steps c d (choice ps cs) ms ls os o h p ar lt =
        let n : ℕ = length ls in
        let c2 : ℕ = suc (c + alternatives_of ps) in
        let d2 : ℕ = d + disjunctions_of ps in
        let items : SourceItems = numbered name (suc c) d ps in
        let alts : Alternatives = numbered_in name c2 d2 cs in
        let vs : List Variable = variables_of_items items in
        let empty : Outline = record { scope = Some h; pieces = [] } in
        let full : Outline = record { scope = Some h; pieces = pieces_of n items } in
        let ls1 : List Local = alter h with_alternative ls in
        let os1 : List Outline = os ++ empty ∷ [] in
        let few : length ls1 ≡ n = length-alter h with_alternative ls in
        let lasts : length os < length os1 = omega (arith, length-append os (empty ∷ [])) in
        let ls2 : List Local = alter h (with_variables vs) ls1 ++ locals_of items in
        let os2 : List Outline = os ++ full ∷ outlines_of n items in
        let n2 : ℕ = n + length (locals_of items) in
        let ls2_few : length ls2 ≡ n2 =
        omega (arith, length-append (alter h (with_variables vs) ls1) (locals_of items), length-alter h (with_variables vs) ls1) in
        let os2_is : alter (length os) (with_pieces (pieces_of n items)) os1 ++ outlines_of n items ≡ os2 =
        ap (λ us. us ++ outlines_of n items) (alter-last (with_pieces (pieces_of n items)) os empty) ∙ append_assoc os (full ∷ []) (outlines_of n items) in
        let in_front : h < length (alter h (with_variables vs) ls1) = omega (arith, length-alter h (with_variables vs) ls1) in
        let all_locals : alter h (with_all alts) ls2 ++ locals_in alts
        ≡ alter h (with_all (alternative c items alts)) ls ++ locals_in (alternative c items alts) =
        ap (λ us. us ++ locals_in alts) (alter-front h (with_all alts) (alter h (with_variables vs) ls1) (locals_of items) in_front
        ∙ ap (λ us. us ++ locals_of items)
        (ap (alter h (with_all alts)) (alter-twice h with_alternative (with_variables vs) (λ l. with_variables vs (with_alternative l)) ls (λ l. refl))
        ∙ alter-twice h (λ l. with_variables vs (with_alternative l)) (with_all alts) (with_all (alternative c items alts)) ls (one_more items alts)))
        ∙ append_assoc (alter h (with_all (alternative c items alts)) ls) (locals_of items) (locals_in alts)
        ∙ ap (λ us. alter h (with_all (alternative c items alts)) ls ++ us)
        (sym (map-append (λ (e : ℕ × Alternatives). local_of e.1) (disjunctions_in_items items) (disjunctions_in_alternatives alts))) in
        let all_outlines : os2 ++ outlines_in h n2 alts ≡ os ++ outlines_in h n (alternative c items alts) =
        append_assoc os (full ∷ outlines_of n items) (outlines_in h n2 alts) in
        ap (λ us. steps (sorting ls1 os1 (length os) (Some h) (p ∷ ar)) us) (append_assoc (marks_at (suc c) d ps) (choices_at c2 d2 cs) (close ∷ ms))
        ∙ body_steps (suc c) d ps (choices_at c2 d2 cs ++ close ∷ ms) ls1 os1 (length os) (Some h) (p ∷ ar) (omega arith) lasts
        ∙ ap (λ k. steps (sorting ls2 (alter (length os) (with_pieces (pieces_of k items)) os1 ++ outlines_of k items) (length os) (Some h) (p ∷ ar))
        (choices_at c2 d2 cs ++ close ∷ ms)) few
        ∙ ap (λ us. steps (sorting ls2 us (length os) (Some h) (p ∷ ar)) (choices_at c2 d2 cs ++ close ∷ ms)) os2_is
        ∙ alternatives_steps c2 d2 cs ms ls2 os2 (length os) h p ar (omega arith)
        ∙ ap (λ k. steps (done (alter h (with_all alts) ls2 ++ locals_in alts) (os2 ++ outlines_in h k alts) h p ar) ms) ls2_few
        ∙ ap (λ us. steps (done us (os2 ++ outlines_in h n2 alts) h p ar) ms) all_locals
        ∙ ap (λ us. steps (done (alter h (with_all (alternative c items alts)) ls ++ locals_in (alternative c items alts)) us h p ar) ms) all_outlines
