-- The variables of the terms of parts, as they are noted.
use Rattle.std.proofs.Common.{ℕ, suc, ◌≡◌, ◌<◌, ◌||◌, true, false, cond, nat_eq, List, [], ◌∷◌, ◌++◌, length, get_or, map}
use Rattle.std.proofs.Common.{reverse}
use Rattle.std.proofs.Common.{refl, ap, sym, ◌∙◌, arith, subst}
use Rattle.std.specs.List.{list_any}
use Rattle.std.proofs.lemmas.List.{append_assoc, append-nil, length-map, map_push, reverse-append, get_or-map}
use Rattle.std.proofs.lemmas.Bool.Decides.{nat_tests}
use Rattle.and_model.specs.Lines.{Bytes, has, first_seen}
use Rattle.and_model.specs.Terms
use Rattle.and_model.specs.Terms.{Path, Term, Terms, variables_of, variables_in}
use Rattle.and_syntax.specs.Written.{place}
use Rattle.and_program.specs.Skeletons.{Shape, node_term, term_list, nth, shape_term, terms_behind, Falls, AllFall}
use Rattle.and_program.proofs.NodeTerms.{node_term_whole}
use Rattle.and_drafts.specs.declared.draft.DraftPart.{DraftPart}
use Rattle.and_drafts.specs.declared.draft.DraftPart.TheVariants.{Variable, Integer, Compound}
use Rattle.and_drafts.specs.Parts.{part_shape, part_shapes, arguments_of, PartsFall}
use Rattle.and_judging.specs.Sorts.{shape_under, shapes_under, variable_in, own}
use Rattle.and_judging.proofs.SortingSteps.{seen_in_turn}

-- the variables of the terms of some nodes, in turn
abbrev pub variables_at : List Shape → List ℕ → List (Path × ℕ)
variables_at ss [] = []
variables_at ss (n ∷ ns) = variables_of (node_term ss n) ++ variables_at ss ns

variables_at-append : (ss : List Shape) (ms ns : List ℕ) → variables_at ss (ms ++ ns) ≡ variables_at ss ms ++ variables_at ss ns
variables_at-append ss [] ns = refl
variables_at-append ss (m ∷ ms) ns =
    ap (λ vs. variables_of (node_term ss m) ++ vs) (variables_at-append ss ms ns)
    ∙ sym (append_assoc (variables_of (node_term ss m)) (variables_at ss ms) (variables_at ss ns))

variables_in-list : (ss : List Shape) (ns : List ℕ) → variables_in (term_list (map (node_term ss) ns)) ≡ variables_at ss ns
variables_in-list ss [] = refl
variables_in-list ss (n ∷ ns) = ap (λ vs. variables_of (node_term ss n) ++ vs) (variables_in-list ss ns)

-- parts fall, and so do their nodes
pub under_falls : (names : List Bytes) (n : ℕ) (ps : List DraftPart) → PartsFall n (part_shapes ps) → AllFall n (shapes_under names ps)
under_falls names n [] f = tt
under_falls names n (Variable x k ∷ ps) f = (tt, under_falls names (suc n) ps f.1)
under_falls names n (Integer z ∷ ps) f = (tt, under_falls names (suc n) ps f.1)
under_falls names n (Compound c ns ∷ ps) f = (f.0, under_falls names (suc n) ps f.1)

-- the term of a part, by those of its arguments
abbrev pub term_under : List Bytes → (ℕ → Term) → DraftPart → Term
term_under names t (Variable x k) = Terms.variable [] k
term_under names t (Integer z) = Terms.number z
term_under names t (Compound c ns) = Terms.compound (place c names) (term_list (map t ns.items))

shape_is : (names : List Bytes) (ts : List Term) (p : DraftPart) → shape_term ts (shape_under names p) ≡ term_under names (nth ts) p
shape_is names ts (Variable x k) = refl
shape_is names ts (Integer z) = refl
shape_is names ts (Compound c ns) = refl

pub part_term : (names : List Bytes) (parts : List DraftPart) (n : ℕ) (p : DraftPart) → PartsFall 0 (part_shapes parts) → n < length parts
    → p ≡ get_or parts n p
    → node_term (shapes_under names parts) n ≡ term_under names (node_term (shapes_under names parts)) p
part_term names parts n p f lt at =
    let ss : List Shape = shapes_under names parts in
    node_term_whole ss n (shape_under names p) (under_falls names 0 parts f) (omega (arith, length-map parts (shape_under names)))
    ∙ ap (shape_term (terms_behind [] ss)) (get_or-map (shape_under names) parts n p (shape_under names p) lt ∙ ap (shape_under names) (sym at))
    ∙ shape_is names (terms_behind [] ss) p

part_variables : (names : List Bytes) (ss : List Shape) (p : DraftPart)
    → variables_of (term_under names (node_term ss) p) ≡ variable_in p ++ variables_at ss (arguments_of (part_shape p))
part_variables names ss (Variable x k) = refl
part_variables names ss (Integer z) = refl
part_variables names ss (Compound c ns) = variables_in-list ss ns.items

-- one part noted, and its arguments next
pub noted_part : (names : List Bytes) (parts : List DraftPart) (n : ℕ) (p : DraftPart) (old new : List ℕ) (before rest after : List ℕ) (whole : List (Path × ℕ))
    → PartsFall 0 (part_shapes parts) → n < length parts → p ≡ get_or parts n p → before ≡ rest ++ n ∷ []
    → own new ≡ first_seen (own old) (variable_in p) → reverse after ≡ arguments_of (part_shape p) ++ reverse rest
    → first_seen (own old) (variables_at (shapes_under names parts) (reverse before)) ≡ whole
    → first_seen (own new) (variables_at (shapes_under names parts) (reverse after)) ≡ whole
noted_part names parts n p old new before rest after whole f lt at popped noted pushed owed =
    let ss : List Shape = shapes_under names parts in
    let args : List ℕ = arguments_of (part_shape p) in
    let next : variables_at ss (reverse before) ≡ variable_in p ++ variables_at ss (args ++ reverse rest) =
    ap (λ ns. variables_at ss (reverse ns)) popped ∙ ap (variables_at ss) (reverse-append rest (n ∷ []))
    ∙ ap (λ t. variables_of t ++ variables_at ss (reverse rest)) (part_term names parts n p f lt at)
    ∙ ap (λ vs. vs ++ variables_at ss (reverse rest)) (part_variables names ss p)
    ∙ append_assoc (variable_in p) (variables_at ss args) (variables_at ss (reverse rest))
    ∙ ap (λ vs. variable_in p ++ vs) (sym (variables_at-append ss args (reverse rest))) in
    ap (λ us. first_seen us (variables_at ss (reverse after))) noted
    ∙ ap (λ ns. first_seen (first_seen (own old) (variable_in p)) (variables_at ss ns)) pushed
    ∙ sym (seen_in_turn (own old) (variable_in p) (variables_at ss (args ++ reverse rest)))
    ∙ ap (first_seen (own old)) (sym next) ∙ owed

-- a number among others
has_number : (k : ℕ) (ks : List ℕ) → has ([], k) (own ks) ≡ list_any (λ y. nat_eq y k) ks
has_number k [] = refl
has_number k (y ∷ ks) = ap (λ b. b || has ([], k) (own ks)) (turned k y) ∙ ap (λ b. nat_eq y k || b) (has_number k ks)
  where
    turned : (m n : ℕ) → nat_eq m n ≡ nat_eq n m
    turned m n = grind (arith, nat_tests)

pub noted_known : (k : ℕ) (ks : List ℕ) → list_any (λ y. nat_eq y k) ks ≡ true → own ks ≡ first_seen (own ks) (own (k ∷ []))
noted_known k ks e = sym (ap (λ b. cond b (own ks) (own ks ++ ([], k) ∷ [])) (has_number k ks ∙ e))

pub noted_new : (k : ℕ) (ks ls : List ℕ) → list_any (λ y. nat_eq y k) ks ≡ false → ls ≡ ks ++ k ∷ [] → own ls ≡ first_seen (own ks) (own (k ∷ []))
noted_new k ks ls e pushed =
    ap own pushed ∙ map_push (λ j. let v : Path × ℕ = ([], j) in v) ks k ∙ sym (ap (λ b. cond b (own ks) (own ks ++ ([], k) ∷ [])) (has_number k ks ∙ e))

-- the first part is what comes next
pub first_noted : (names : List Bytes) (parts : List DraftPart) (root : ℕ) (us : List (Path × ℕ)) (nothing pending : List ℕ) → nothing ≡ []
    → pending ≡ nothing ++ root ∷ []
    → first_seen us (variables_at (shapes_under names parts) (reverse pending)) ≡ first_seen us (variables_of (node_term (shapes_under names parts) root))
first_noted names parts root us nothing pending e f =
    let ss : List Shape = shapes_under names parts in
    ap (λ ns. first_seen us (variables_at ss (reverse ns))) (f ∙ ap (λ ns. ns ++ root ∷ []) e)
    ∙ ap (first_seen us) (append-nil (variables_of (node_term ss root)))

pub first_falls : (m root : ℕ) (nothing pending : List ℕ) → nothing ≡ [] → pending ≡ nothing ++ root ∷ [] → root < m → Falls m pending
first_falls m root nothing pending e f lt = subst (Falls m) (sym (f ∙ ap (λ ns. ns ++ root ∷ []) e)) (lt, tt)

-- the variables of two terms, one after the other
pub two_noted : (old mid new : List ℕ) (a b : List (Path × ℕ)) → own mid ≡ first_seen (own old) a → own new ≡ first_seen (own mid) b
    → own new ≡ first_seen (own old) (a ++ (b ++ []))
two_noted old mid new a b e f =
    f ∙ ap (λ us. first_seen us b) e ∙ sym (seen_in_turn (own old) a b) ∙ ap (λ vs. first_seen (own old) (a ++ vs)) (sym (append-nil b))
