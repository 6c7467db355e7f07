-- What is read of a part tells of the term that ends there.
use Rattle.std.proofs.Common.{ℕ, suc, ◌+◌, ◌-◌, ◌<◌, ◌≡◌, ℤ, List, [], ◌∷◌, length, map, get_or, refl, sym, ap, ◌∙◌, arith, subst}
use Rattle.std.proofs.lemmas.List.{length-map}
use Rattle.and_model.specs.Lines.{Bytes}
use Rattle.and_syntax.specs.Written.{Written, nodes_of}
use Rattle.and_program.specs.Skeletons.{Falls}
use Rattle.and_drafts.specs.declared.draft.ClauseDraft.{ClauseDraft}
use Rattle.and_drafts.specs.Drafts as drafts
use Rattle.and_drafts.specs.Drafts.{draft_of, shapes_of, read_shape}
use Rattle.and_drafts.specs.Parts.{PartShape, variable, integer, compound, part_shape, many, written_at, written_behind, shape_written}
use Rattle.and_drafts.specs.Parts.{arguments_of, before_last, roots, postfix_all, PartsFall}
use Rattle.and_drafts.proofs.Drafting.{PartsFall-postfix_all, length-postfix_all}
use Rattle.and_drafts.proofs.Noting.{written_at_whole, PartsFall-at}

pub all_fall : (d : ClauseDraft) → PartsFall 0 (shapes_of d)
all_fall d = subst (PartsFall 0) (sym d.formed.0) (PartsFall-postfix_all 0 (many (map (written_at (shapes_of d)) d.finished.items)))

-- the arguments of a part have smaller numbers
pub arguments_fall : (d : ClauseDraft) (n : ℕ) → n < (draft_of d).parts → Falls n (arguments_of (get_or (shapes_of d) n (variable [])))
arguments_fall d n lt =
    let z : 0 + n ≡ n = omega arith in
    let args : List ℕ = arguments_of (get_or (shapes_of d) n (variable [])) in
    subst (λ (m : ℕ). Falls m args) z (PartsFall-at 0 (shapes_of d) n (variable []) (all_fall d) (omega (arith, length-map d.parts.items part_shape)))

module _ (d : ClauseDraft) (n : ℕ) (met : List Bytes) (lt : n < (draft_of d).parts) where
  term_is : written_at (shapes_of d) n ≡ shape_written (written_behind [] (shapes_of d)) (get_or (shapes_of d) n (variable []))
  term_is = written_at_whole (shapes_of d) n (variable []) (all_fall d) (omega (arith, length-map d.parts.items part_shape))

  pub variable_read : (k : ℕ) (y : Bytes) → drafts.variable k y ≡ read_shape met (get_or (shapes_of d) n (variable []))
      → written_at (shapes_of d) n ≡ Written.variable y
  variable_read k y e = term_is ∙ by (get_or (shapes_of d) n (variable [])) e
    where
      by : (p : PartShape) → drafts.variable k y ≡ read_shape met p → shape_written (written_behind [] (shapes_of d)) p ≡ Written.variable y
      by (variable x) h = let same : x ≡ y = cc in ap Written.variable same
      by (integer z) h = absurd (cc)
      by (compound c ns) h = absurd (cc)

  pub integer_read : (y : ℤ) → drafts.integer y ≡ read_shape met (get_or (shapes_of d) n (variable [])) → written_at (shapes_of d) n ≡ Written.integer y
  integer_read y e = term_is ∙ by (get_or (shapes_of d) n (variable [])) e
    where
      by : (p : PartShape) → drafts.integer y ≡ read_shape met p → shape_written (written_behind [] (shapes_of d)) p ≡ Written.integer y
      by (variable x) h = absurd (cc)
      by (integer z) h = let same : z ≡ y = cc in ap Written.integer same
      by (compound c ns) h = absurd (cc)

  -- a name with its arguments
  pub compound_read : (k : ℕ) (y : Bytes) → drafts.compound y k ≡ read_shape met (get_or (shapes_of d) n (variable []))
      → (get_or (shapes_of d) n (variable []) ≡ compound y (arguments_of (get_or (shapes_of d) n (variable []))))
      × (written_at (shapes_of d) n ≡ Written.compound y (many (map (written_at (shapes_of d)) (arguments_of (get_or (shapes_of d) n (variable []))))))
      × (length (arguments_of (get_or (shapes_of d) n (variable []))) ≡ k)
  compound_read k y e =
      let all = by (get_or (shapes_of d) n (variable [])) e in (all.0, term_is ∙ all.1, all.2)
    where
      by : (p : PartShape) → drafts.compound y k ≡ read_shape met p → (p ≡ compound y (arguments_of p))
          × (shape_written (written_behind [] (shapes_of d)) p ≡ Written.compound y (many (map (written_at (shapes_of d)) (arguments_of p))))
          × (length (arguments_of p) ≡ k)
      by (variable x) h = absurd (cc)
      by (integer z) h = absurd (cc)
      by (compound c ns) h =
          let same : c ≡ y = cc in
          let few : length ns ≡ k = cc in
          (ap (λ (x : Bytes). compound x ns) same, ap (λ (x : Bytes). Written.compound x (many (map (written_at (shapes_of d)) ns))) same, few)

last_below : (w : Written) → suc (before_last w) ≡ nodes_of w
last_below (Written.variable x) = refl
last_below (Written.integer z) = refl
last_below (Written.compound c ts) = refl

-- the last part of a draft that is one term is the end of that
pub last_term : (d : ClauseDraft) (w : Written) → (draft_of d).finished ≡ w ∷ []
    → (0 < (draft_of d).parts) × (written_at (shapes_of d) ((draft_of d).parts - 1) ≡ w)
last_term d w e =
    let ps : List PartShape = shapes_of d in
    let f : ℕ → Written = written_at ps in
    let ns : List ℕ = d.finished.items in
    let m : ℕ = 0 + before_last w in
    let rooted : ns ≡ m ∷ [] = d.formed.1 ∙ ap (λ (ws : List Written). roots 0 (many ws)) e in
    let one : f m ∷ [] ≡ w ∷ [] = sym (ap (map f) rooted) ∙ e in
    let at : f m ≡ w = cc in
    let size : length ps ≡ nodes_of w + 0 = ap length (d.formed.0 ∙ ap (λ (ws : List Written). postfix_all 0 (many ws)) e)
    ∙ length-postfix_all 0 (many (w ∷ [])) in
    let some : suc (before_last w) ≡ nodes_of w = last_below w in
    let few : length ps ≡ length d.parts.items = length-map d.parts.items part_shape in
    let last : length d.parts.items - 1 ≡ m = omega arith in
    (omega arith, ap f last ∙ at)
