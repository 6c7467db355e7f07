-- A draft that is one term: its nodes, its size, and its variables.
use Rattle.std.proofs.Common.{ℕ, ◌+◌, ◌≡◌, List, [], ◌∷◌, length, map, refl, sym, ap, ◌∙◌, arith}
use Rattle.std.proofs.lemmas.List.{append-nil, length-map}
use Rattle.and_model.specs.Lines.{Bytes}
use Rattle.and_syntax.specs.Written.{Written, nodes_of, variable_number, met_after, term_in, place}
use Rattle.and_program.specs.Skeletons
use Rattle.and_program.specs.Skeletons.{Shape, node_term}
use Rattle.and_drafts.specs.Numbered.{met_with, met_by, shapes_in, behind, IsRead}
use Rattle.and_drafts.specs.Parts.{part_shape, part_shapes, many, written_at, roots, postfix, postfix_all, before_last}
use Rattle.and_drafts.specs.Variables.{AllNumbered}
use Rattle.and_drafts.specs.Drafts.{draft_of}
use Rattle.and_judging.specs.Sorts.{shapes_under}
use Rattle.and_drafts.specs.declared.draft.ClauseDraft.{ClauseDraft}
use Rattle.and_drafts.specs.declared.draft.DraftPart.{DraftPart}
use Rattle.and_drafts.specs.declared.draft.DraftPart.TheVariants.{Variable, Integer, Compound}
use Rattle.and_drafts.proofs.Drafting.{length-postfix}
use Rattle.and_drafts.proofs.Reading.{met_by-postfix, term_of_postfix}

-- the parts' nodes, whose variables have their numbers
pub shapes_are : (names met : List Bytes) (ps : List DraftPart) → AllNumbered met ps → shapes_under names ps ≡ shapes_in names met (part_shapes ps)
shapes_are names met [] a = refl
shapes_are names met (Variable x k ∷ ps) a =
    ap (λ n. Skeletons.variable n ∷ shapes_under names ps) a.0
    ∙ ap (λ ss. Skeletons.variable (variable_number x met) ∷ ss) (shapes_are names (met_with met (part_shape (Variable x k))) ps a.1)
shapes_are names met (Integer z ∷ ps) a = ap (λ ss. Skeletons.number z ∷ ss) (shapes_are names met ps a.1)
shapes_are names met (Compound c ns ∷ ps) a = ap (λ ss. Skeletons.compound (place c names) ns.items ∷ ss) (shapes_are names met ps a.1)

none_more : (ns : List ℕ) → map (λ (m : ℕ). 0 + m) ns ≡ ns
none_more [] = refl
none_more (n ∷ ns) = let e : 0 + n ≡ n = omega arith in ap (λ m. m ∷ map (λ (m : ℕ). 0 + m) ns) e ∙ ap (λ ms. n ∷ ms) (none_more ns)

behind_none : (ss : List Shape) → map (behind 0) ss ≡ ss
behind_none [] = refl
behind_none (Skeletons.variable k ∷ ss) = ap (λ us. Skeletons.variable k ∷ us) (behind_none ss)
behind_none (Skeletons.number z ∷ ss) = ap (λ us. Skeletons.number z ∷ us) (behind_none ss)
behind_none (Skeletons.compound c ns ∷ ss) =
    ap (λ ms. Skeletons.compound c ms ∷ map (behind 0) ss) (none_more ns) ∙ ap (λ us. Skeletons.compound c ns ∷ us) (behind_none ss)

pub read_parts : (names : List Bytes) (ps : List DraftPart) → AllNumbered [] ps → IsRead (shapes_under names ps) 0 names (part_shapes ps)
read_parts names ps a = record {
  before = [];
  nodes = shapes_are names [] ps a ∙ sym (behind_none (shapes_in names [] (part_shapes ps)));
  few = refl;
}

-- A draft that is one term.
module _ (d : ClauseDraft) (w : Written) (one : (draft_of d).finished ≡ w ∷ []) where
  pub parts_are : part_shapes d.parts.items ≡ postfix 0 w
  parts_are =
      d.formed.0 ∙ ap (λ (ws : List Written). postfix_all 0 (many ws)) one ∙ append-nil (postfix 0 w)

  pub size_is : length d.parts.items ≡ nodes_of w
  size_is = sym (length-map d.parts.items part_shape) ∙ ap length parts_are ∙ length-postfix 0 w

  pub met_is : met_by [] (part_shapes d.parts.items) ≡ met_after [] w
  met_is = ap (met_by []) parts_are ∙ met_by-postfix 0 [] w

  pub root_is : (n : ℕ) → d.finished.items ≡ n ∷ [] → n ≡ before_last w
  root_is n e =
      let rooted : d.finished.items ≡ (0 + before_last w) ∷ [] = d.formed.1 ∙ ap (λ (ws : List Written). roots 0 (many ws)) one in
      let same : n ∷ [] ≡ (0 + before_last w) ∷ [] = sym e ∙ rooted in
      let is : n ≡ 0 + before_last w = cc in omega arith

  pub root_written : (n : ℕ) → d.finished.items ≡ n ∷ [] → written_at (part_shapes d.parts.items) n ≡ w
  root_written n e =
      let here : written_at (part_shapes d.parts.items) n ∷ [] ≡ w ∷ [] = sym (ap (map (written_at (part_shapes d.parts.items))) e) ∙ one in cc

  pub root_term : (names : List Bytes) (n : ℕ) → d.finished.items ≡ n ∷ [] → node_term (shapes_under names d.parts.items) n ≡ term_in names [] w
  root_term names n e =
      let at : n ≡ 0 + before_last w = omega (arith, root_is n e) in
      ap (λ ss. node_term ss n) (shapes_are names [] d.parts.items d.numbered ∙ ap (shapes_in names []) parts_are)
      ∙ ap (node_term (shapes_in names [] (postfix 0 w))) at ∙ term_of_postfix names [] 0 [] w refl
