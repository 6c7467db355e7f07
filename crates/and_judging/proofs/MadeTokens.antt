-- The tokens that are made of parts name parts that are there.
use Rattle.std.proofs.Common.{ℕ, ◌+◌, ◌≡◌, ◌<◌, Bool, true, List, [], ◌∷◌, ◌++◌, length, map, refl, sym, ◌∙◌, subst}
use Rattle.std.proofs.lemmas.List.{length-map}
use Rattle.and_model.specs.Lines.{Bytes}
use Rattle.and_program.specs.Skeletons.{Shape, IsThere, node_term}
use Rattle.and_program.specs.Items.{node_item}
use Rattle.and_program.specs.declared.item.ItemNode.{ItemNode}
use Rattle.and_program.specs.declared.item.ItemNode.TheVariants.{Call, Equal, Is, Compare, Fail}
use Rattle.and_drafts.specs.Parts.{PartShape, part_shape, part_shapes, PartsFall}
use Rattle.and_drafts.specs.Numbered.{IsRead, behind, shapes_in}
use Rattle.and_judging.specs.Conjuncts.{conjunct_at}
use Rattle.and_judging.specs.Bodies.{Made, with_token, with_open, with_next, TakesPart, TakesLast, Takes, IsPart}
use Rattle.and_judging.specs.Sorts.{ItemThere, TokensThere}
use Rattle.and_drafts.specs.declared.draft.DraftPart.{DraftPart}
use Rattle.and_judging.specs.declared.body.BodyToken.{BodyToken}
use Rattle.and_judging.specs.declared.body.BodyToken.TheVariants as tokens
use Rattle.and_judging.specs.declared.body.Pending.{Pending}
use Rattle.and_judging.specs.declared.body.Pending.TheVariants.{Part, Last, End}
use Rattle.and_judging.specs.declared.items.Conjunct.{Conjunct}
use Rattle.and_judging.specs.declared.items.Conjunct.TheVariants.{Both, Either, Nothing, Item, Refused}
use Rattle.and_drafts.proofs.Reading.{length-shapes_in}
use Rattle.and_judging.proofs.ConjunctLemmas.{IsConjunct, conjunct_at_says}

item_there : (ss : List Shape) (i : ItemNode) → IsThere ss 0 (node_item i) → ItemThere (length ss) i
item_there ss (Call g) h = h
item_there ss (Equal l r) h = h
item_there ss (Is l r pair) h = (h.0, h.1)
item_there ss (Compare o l r) h = h
item_there ss Fail h = tt

tokens_append : (m : ℕ) (ts us : List BodyToken) → TokensThere m ts → TokensThere m us → TokensThere m (ts ++ us)
tokens_append m [] us a b = b
tokens_append m (t ∷ ts) us a b = (a.0, tokens_append m ts us a.1 b)

module _ (names : List Bytes) (parts : List DraftPart) (falls : PartsFall 0 (part_shapes parts)) where
  abbrev ps : List PartShape
  ps = part_shapes parts

  -- the parts as nodes
  abbrev nodes : List Shape
  nodes = map (behind 0) (shapes_in names [] ps)

  read : IsRead nodes 0 names ps
  read = record { before = []; nodes = refl; few = refl }

  nodes_length : length nodes ≡ length parts
  nodes_length = length-map (shapes_in names [] ps) (behind 0) ∙ length-shapes_in names [] ps ∙ length-map parts part_shape

  module _ (m n : Made) (before after : List Pending) (there : TokensThere (length parts) m.tokens) where
    made : (k : Made) → n ≡ k → TokensThere (length parts) k.tokens → TokensThere (length parts) n.tokens
    made k e h = subst (λ (x : Made). TokensThere (length parts) x.tokens) (sym e) h

    of_part : (k : ℕ) (g : Conjunct) (pure : Bool) → k < length parts → g ≡ conjunct_at names ps 0 k → IsConjunct nodes 0 (node_term nodes (0 + k)) g
        → TakesPart g pure m n before after → pure ≡ true → TokensThere (length parts) n.tokens
    of_part k (Both l r) pure lt e says t is = made m t.1 there
    of_part k (Either l r) pure lt e says t is =
        made (with_open m) t.1
        (tokens_append (length parts) (m.tokens ++ tokens.Open m.disjunction ∷ []) (tokens.Next m.clause ∷ [])
        (tokens_append (length parts) m.tokens (tokens.Open m.disjunction ∷ []) there (tt, tt)) (tt, tt))
    of_part k Nothing pure lt e says t is = made m t.1 there
    of_part k (Item i) pure lt e says t is =
        made (with_token m (tokens.Item i)) t.1
        (tokens_append (length parts) m.tokens (tokens.Item i ∷ []) there (subst (λ j. ItemThere j i) nodes_length (item_there nodes i says.1), tt))
    of_part k Refused pure lt e says t is = absurd (cc (t, is))

    next_there : n ≡ with_next m → TokensThere (length parts) n.tokens
    next_there e = made (with_next m) e (tokens_append (length parts) m.tokens (tokens.Next m.clause ∷ []) there (tt, tt))

  of_last : (m n : Made) (before after : List Pending) → TokensThere (length parts) m.tokens → (k : ℕ) (g : Conjunct) (pure : Bool) → k < length parts
      → g ≡ conjunct_at names ps 0 k → IsConjunct nodes 0 (node_term nodes (0 + k)) g → TakesLast g pure m n before after → pure ≡ true
      → TokensThere (length parts) n.tokens
  of_last m n before after there k (Either l r) pure lt e says t is = next_there m n before after there t.1
  of_last m n before after there k (Both l r) pure lt e says t is =
      of_part (with_next m) n before after (next_there m (with_next m) before after there refl) k (Both l r) pure lt e says t is
  of_last m n before after there k Nothing pure lt e says t is =
      of_part (with_next m) n before after (next_there m (with_next m) before after there refl) k Nothing pure lt e says t is
  of_last m n before after there k (Item i) pure lt e says t is =
      of_part (with_next m) n before after (next_there m (with_next m) before after there refl) k (Item i) pure lt e says t is
  of_last m n before after there k Refused pure lt e says t is = absurd (cc (t, is))

  -- A step makes such tokens alone.
  pub step_there : (m n : Made) (before after : List Pending) (p : Pending) (pure : Bool) → IsPart (length parts) p
      → Takes names ps 0 p pure m n before after → pure ≡ true
      → TokensThere (length parts) m.tokens → TokensThere (length parts) n.tokens
  step_there m n before after (Part k) pure lt t is there =
      of_part m n before after there k (conjunct_at names ps 0 k) pure lt refl
      (conjunct_at_says nodes 0 k names parts (conjunct_at names ps 0 k) read falls lt refl) t is
  step_there m n before after (Last k) pure lt t is there =
      of_last m n before after there k (conjunct_at names ps 0 k) pure lt refl
      (conjunct_at_says nodes 0 k names parts (conjunct_at names ps 0 k) read falls lt refl) t is
  step_there m n before after End pure lt t is there =
      made m n before after there (with_token m tokens.Close) t.1 (tokens_append (length parts) m.tokens (tokens.Close ∷ []) there (tt, tt))
