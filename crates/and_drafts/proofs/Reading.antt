-- The terms of a draft's nodes are those that the draft was given as.
use Rattle.std.proofs.Common.{ℕ, suc, ◌+◌, ◌≡◌, ◌<◌, pos, List, [], ◌∷◌, ◌++◌, length, map, refl, sym, ap, ◌∙◌, arith}
use Rattle.std.proofs.lemmas.List.{append_assoc, length-append, get_or_at}
use Rattle.and_model.specs.Lines.{Bytes}
use Rattle.and_model.specs.Terms
use Rattle.and_model.specs.Terms.{Term, Terms}
use Rattle.and_syntax.specs.Written
use Rattle.and_syntax.specs.Written.{Written, Many, nodes_of, nodes_in, is_new, place, variable_number, met_after, met_after_all, term_in, terms_in}
use Rattle.and_program.specs.Skeletons
use Rattle.and_program.specs.Skeletons.{Shape, term_list, nth, shape_term, terms_behind, node_term, Falls, IsFalling, AllFall}
use Rattle.and_drafts.specs.Numbered.{met_with, met_by, shape_in, shapes_in}
use Rattle.and_drafts.specs.Parts.{PartShape, variable, integer, compound, before_last, roots, postfix, postfix_all, PartsFall}
use Rattle.and_program.proofs.NodeTerms.{terms_behind-append, length-terms_behind, node_term_front}
use Rattle.and_drafts.proofs.Drafting.{length-postfix, length-postfix_all, before_last-below}

pub shapes_in-append : (names met : List Bytes) (ps qs : List PartShape)
    → shapes_in names met (ps ++ qs) ≡ shapes_in names met ps ++ shapes_in names (met_by met ps) qs
shapes_in-append names met [] qs = refl
shapes_in-append names met (p ∷ ps) qs = ap (λ (ss : List Shape). shape_in names met p ∷ ss) (shapes_in-append names (met_with met p) ps qs)

pub met_by-append : (met : List Bytes) (ps qs : List PartShape) → met_by met (ps ++ qs) ≡ met_by (met_by met ps) qs
met_by-append met [] qs = refl
met_by-append met (p ∷ ps) qs = met_by-append (met_with met p) ps qs

pub length-shapes_in : (names met : List Bytes) (ps : List PartShape) → length (shapes_in names met ps) ≡ length ps
length-shapes_in names met [] = refl
length-shapes_in names met (p ∷ ps) = ap suc (length-shapes_in names (met_with met p) ps)

mutual
  -- a variable that is met in the parts of a term is met in the term
  pub met_by-postfix : (n : ℕ) (met : List Bytes) (w : Written) → met_by met (postfix n w) ≡ met_after met w
  met_by-postfix n met (Written.variable x) = refl
  met_by-postfix n met (Written.integer z) = refl
  met_by-postfix n met (Written.compound c ts) = met_by-append met (postfix_all n ts) (compound c (roots n ts) ∷ []) ∙ met_by-postfix_all n met ts

  pub met_by-postfix_all : (n : ℕ) (met : List Bytes) (ts : Many) → met_by met (postfix_all n ts) ≡ met_after_all met ts
  met_by-postfix_all n met Written.none = refl
  met_by-postfix_all n met (Written.more t ts) =
      met_by-append met (postfix n t) (postfix_all (n + nodes_of t) ts)
      ∙ ap (λ (ms : List Bytes). met_by ms (postfix_all (n + nodes_of t) ts)) (met_by-postfix n met t)
      ∙ met_by-postfix_all (n + nodes_of t) (met_after met t) ts

-- the last of some nodes behind others
last_term : (ss : List Shape) (s : Shape) (n : ℕ) → length ss ≡ n → node_term (ss ++ s ∷ []) n ≡ shape_term (terms_behind [] ss) s
last_term ss s n few =
    ap (λ (ts : List Term). nth ts n) (terms_behind-append [] ss (s ∷ []))
    ∙ get_or_at (terms_behind [] ss) (shape_term (terms_behind [] ss) s) [] (Terms.number (pos 0)) n (omega (arith, length-terms_behind [] ss))

mutual
  -- the nodes of a term behind others
  pub term_of_postfix : (names met : List Bytes) (n : ℕ) (ss : List Shape) (w : Written) → length ss ≡ n
      → node_term (ss ++ shapes_in names met (postfix n w)) (n + before_last w) ≡ term_in names met w
  term_of_postfix names met n ss (Written.variable x) few = last_term ss (Skeletons.variable (variable_number x met)) (n + 0) (few ∙ omega arith)
  term_of_postfix names met n ss (Written.integer z) few = last_term ss (Skeletons.number z) (n + 0) (few ∙ omega arith)
  term_of_postfix names met n ss (Written.compound c ts) few =
      let ps : List PartShape = postfix_all n ts in
      let inner : List Shape = shapes_in names met ps in
      let s : Shape = Skeletons.compound (place c names) (roots n ts) in
      let size : length (ss ++ inner) ≡ n + nodes_in ts = omega (arith, length-append ss inner, length-shapes_in names met ps, length-postfix_all n ts) in
      ap (λ (us : List Shape). node_term us (n + nodes_in ts))
      (ap (λ (us : List Shape). ss ++ us) (shapes_in-append names met ps (compound c (roots n ts) ∷ [])) ∙ sym (append_assoc ss inner (s ∷ [])))
      ∙ last_term (ss ++ inner) s (n + nodes_in ts) size
      ∙ ap (λ (us : Terms). Terms.compound (place c names) us) (terms_of_postfix names met n ss ts few)

  pub terms_of_postfix : (names met : List Bytes) (n : ℕ) (ss : List Shape) (ts : Many) → length ss ≡ n
      → term_list (map (node_term (ss ++ shapes_in names met (postfix_all n ts))) (roots n ts)) ≡ terms_in names met ts
  terms_of_postfix names met n ss Written.none few = refl
  terms_of_postfix names met n ss (Written.more t ts) few =
      let ps : List PartShape = postfix n t in
      let qs : List PartShape = postfix_all (n + nodes_of t) ts in
      let first : List Shape = shapes_in names met ps in
      let others : List Shape = shapes_in names (met_by met ps) qs in
      let split : ss ++ shapes_in names met (ps ++ qs) ≡ (ss ++ first) ++ others =
      ap (λ (us : List Shape). ss ++ us) (shapes_in-append names met ps qs) ∙ sym (append_assoc ss first others) in
      let size : length (ss ++ first) ≡ n + nodes_of t = omega (arith, length-append ss first, length-shapes_in names met ps, length-postfix n t) in
      let below : n + before_last t < length (ss ++ first) = omega (arith, before_last-below t) in
      let head : node_term ((ss ++ first) ++ others) (n + before_last t) ≡ term_in names met t =
      node_term_front (ss ++ first) others (n + before_last t) below ∙ term_of_postfix names met n ss t few in
      let tail : term_list (map (node_term ((ss ++ first) ++ others)) (roots (n + nodes_of t) ts)) ≡ terms_in names (met_after met t) ts =
      ap (λ (ms : List Bytes). term_list (map (node_term ((ss ++ first) ++ shapes_in names ms qs)) (roots (n + nodes_of t) ts))) (met_by-postfix n met t)
      ∙ terms_of_postfix names (met_after met t) (n + nodes_of t) (ss ++ first) ts size in
      ap (λ (us : List Shape). term_list (map (node_term us) (roots n (Written.more t ts)))) split
      ∙ ap (λ (u : Term). Terms.more u (term_list (map (node_term ((ss ++ first) ++ others)) (roots (n + nodes_of t) ts)))) head
      ∙ ap (λ (us : Terms). Terms.more (term_in names met t) us) tail

-- nodes fall as their parts do
pub AllFall-shapes_in : (names met : List Bytes) (n : ℕ) (ps : List PartShape) → PartsFall n ps → AllFall n (shapes_in names met ps)
AllFall-shapes_in names met n [] f = tt
AllFall-shapes_in names met n (variable x ∷ ps) f = (tt, AllFall-shapes_in names (met_with met (variable x)) (suc n) ps f.1)
AllFall-shapes_in names met n (integer z ∷ ps) f = (tt, AllFall-shapes_in names met (suc n) ps f.1)
AllFall-shapes_in names met n (compound c ns ∷ ps) f = (f.0, AllFall-shapes_in names met (suc n) ps f.1)
