-- What a draft is as a clause or a query.
use Rattle.std.proofs.Common.{ℕ, ◌≡◌, ◌<◌, ◌≤◌, Bool, true, false, cond, nat_eq, List, [], ◌∷◌, length, map, get_or, Option, Some, None, IfSome}
use Rattle.std.proofs.Common.{sym, ap, ◌∙◌, arith, subst}
use Rattle.std.proofs.lemmas.List.{length-map, get_or-map}
use Rattle.and_model.specs.Lines.{Bytes}
use Rattle.and_model.specs.Terms
use Rattle.and_model.specs.Terms.{Term}
use Rattle.and_syntax.specs.Written.{nodes_of, nodes_in, place}
use Rattle.and_syntax.specs.Clauses.{no_parts, parts_of, head_of, body_of, asked_of, is_named, name_of, arity_of}
use Rattle.and_program.specs.Skeletons.{Shape, term_list, node_term, Falls}
use Rattle.and_program.proofs.PredicateLemmas.{width-term_list}
use Rattle.and_judging.specs.Bodies.{body_parts}
use Rattle.and_judging.specs.Judged.{alone, sides_in, sides_of_shape, sides_at, one_in, asked_in, asked_at, functor_of, functor_at}
use Rattle.and_drafts.specs.Parts.{PartShape, variable, integer, compound, part_shape, part_shapes, many, written_at, arguments_of, PartsFall}
use Rattle.and_judging.specs.Sorts.{shapes_under}
use Rattle.and_drafts.specs.declared.draft.DraftPart.{DraftPart}
use Rattle.and_drafts.specs.declared.draft.DraftPart.TheVariants as parts
use Rattle.and_judging.specs.declared.judging.Sides.{Sides}
use Rattle.and_judging.specs.declared.judging.Functor.{Functor}
use Rattle.and_drafts.proofs.Noting.{part_falls, arguments_below}
use Rattle.and_judging.proofs.Noticing.{term_under, part_term}
use Rattle.and_judging.proofs.ConjunctLemmas.{first_part, part_of}

pub sides_is : (names : List Bytes) (ps : List DraftPart) (n : ℕ) (p : DraftPart) (c : Bytes) (ns ms : List ℕ) (number : ℕ) (sides : Sides)
    → n < length ps → p ≡ get_or ps n p → part_shape p ≡ compound c ns → ms ≡ ns → number ≡ place c names → sides ≡ sides_in number ms n
    → sides ≡ sides_at names (part_shapes ps) n
sides_is names ps n p c ns ms number sides lt at is same named made =
    let here : part_shape p ≡ get_or (part_shapes ps) n (variable []) = ap part_shape at ∙ sym (get_or-map part_shape ps n p (variable []) lt) in
    made ∙ ap (λ (k : ℕ). sides_in k ms n) named ∙ ap (λ (ks : List ℕ). sides_in (place c names) ks n) same
    ∙ ap (λ (q : PartShape). sides_of_shape names q n) (sym is ∙ here)

-- What a head and a body are in the term.
pub record Halves (ss : List Shape) (t : Term) (sides : Sides) : Type 0 where
  pub head : head_of t ≡ node_term ss sides.head
  pub body : body_of t ≡ body_parts ss sides.body

module _ (names : List Bytes) (ss : List Shape) (n : ℕ) where
  halves_of : (p : DraftPart) → node_term ss n ≡ term_under names (node_term ss) p → Halves ss (node_term ss n) (sides_of_shape names (part_shape p) n)
  halves_of (parts.Variable x k) e = record { head = ap head_of e ∙ sym e; body = ap body_of e }
  halves_of (parts.Integer z) e = record { head = ap head_of e ∙ sym e; body = ap body_of e }
  halves_of (parts.Compound name ns) e = by ns.items e
    where
      t : Term
      t = node_term ss n

      choice : (b : Bool) (x y : ℕ) → head_of t ≡ cond b (node_term ss x) t → body_of t ≡ cond b (parts_of (node_term ss y)) no_parts
          → Halves ss t (cond b (record { head = x; body = Some y }) (alone n))
      choice true x y h k = record { head = h; body = k }
      choice false x y h k = record { head = h; body = k }

      by : (ms : List ℕ) → node_term ss n ≡ Terms.compound (place name names) (term_list (map (node_term ss) ms))
          → Halves ss (node_term ss n) (sides_in (place name names) ms n)
      by [] is = record { head = ap head_of is ∙ sym is; body = ap body_of is }
      by (a ∷ []) is = record { head = ap head_of is ∙ sym is; body = ap body_of is }
      by (a ∷ b ∷ []) is =
          let c : ℕ = place name names in
          choice (nat_eq c 25) a b (ap head_of is ∙ ap (λ (u : Term). cond (nat_eq c 25) (node_term ss a) u) (sym is)) (ap body_of is)
      by (a ∷ b ∷ d ∷ ms) is = record { head = ap head_of is ∙ sym is; body = ap body_of is }

  asked_of_part : (p : DraftPart) → node_term ss n ≡ term_under names (node_term ss) p → asked_of (node_term ss n) ≡ body_parts ss (asked_in (part_shape p))
  asked_of_part (parts.Variable x k) e = ap asked_of e
  asked_of_part (parts.Integer z) e = ap asked_of e
  asked_of_part (parts.Compound c ns) e = by ns.items e
    where
      by : (ms : List ℕ) → node_term ss n ≡ Terms.compound (place c names) (term_list (map (node_term ss) ms))
          → asked_of (node_term ss n) ≡ body_parts ss (one_in ms)
      by [] is = ap asked_of is
      by (a ∷ []) is = ap asked_of is
      by (a ∷ b ∷ ms) is = ap asked_of is

-- What a head is called.
abbrev pub IsCalled : Term → Option Functor → Type 0
IsCalled t None = is_named t ≡ false
IsCalled t (Some f) = (is_named t ≡ true) × (name_of t ≡ f.name) × (arity_of t ≡ f.arity)

called_of : (names : List Bytes) (ss : List Shape) (n : ℕ) (p : DraftPart) → node_term ss n ≡ term_under names (node_term ss) p
    → IsCalled (node_term ss n) (functor_of names (part_shape p))
called_of names ss n (parts.Variable x k) e = ap is_named e
called_of names ss n (parts.Integer z) e = ap is_named e
called_of names ss n (parts.Compound c ns) e =
    (ap is_named e, ap name_of e, ap arity_of e ∙ width-term_list (map (node_term ss) ns.items) ∙ length-map ns.items (node_term ss))

-- Where a head and a body stand.
pub record Stand (ps : List DraftPart) (sides : Sides) : Type 0 where
  pub head : sides.head < length ps
  pub body : IfSome sides.body (λ n. n < length ps)
  pub small : IfSome sides.body (λ n. nodes_of (written_at (part_shapes ps) n) ≤ length ps)

module _ (names : List Bytes) (ps : List DraftPart) (n : ℕ) (f : PartsFall 0 (part_shapes ps)) (lt : n < length ps) where
  part_is : get_or (part_shapes ps) n (variable []) ≡ part_shape (get_or ps n first_part)
  part_is = get_or-map part_shape ps n first_part (variable []) lt

  term_is : node_term (shapes_under names ps) n ≡ term_under names (node_term (shapes_under names ps)) (get_or ps n first_part)
  term_is = part_term names ps n (get_or ps n first_part) f lt (part_of ps n lt)

  pub halves : (sides : Sides) → sides ≡ sides_at names (part_shapes ps) n → Halves (shapes_under names ps) (node_term (shapes_under names ps) n) sides
  halves sides e =
      let ss : List Shape = shapes_under names ps in
      subst (Halves ss (node_term ss n)) (sym (e ∙ ap (λ q. sides_of_shape names q n) part_is)) (halves_of names ss n (get_or ps n first_part) term_is)

  pub asked_parts : (body : Option ℕ) → body ≡ asked_at (part_shapes ps) n
      → asked_of (node_term (shapes_under names ps) n) ≡ body_parts (shapes_under names ps) body
  asked_parts body e =
      let ss : List Shape = shapes_under names ps in
      asked_of_part names ss n (get_or ps n first_part) term_is ∙ ap (body_parts ss) (sym (e ∙ ap asked_in part_is))

  pub called : (o : Option Functor) → o ≡ functor_at names (part_shapes ps) n → IsCalled (node_term (shapes_under names ps) n) o
  called o e =
      let ss : List Shape = shapes_under names ps in
      subst (IsCalled (node_term ss n)) (sym (e ∙ ap (functor_of names) part_is)) (called_of names ss n (get_or ps n first_part) term_is)

  module _ (small : nodes_of (written_at (part_shapes ps) n) ≤ length ps) where
    pub stand : (sides : Sides) → sides ≡ sides_at names (part_shapes ps) n → Stand ps sides
    stand sides e =
        let p : DraftPart = get_or ps n first_part in
        subst (Stand ps) (sym (e ∙ ap (λ q. sides_of_shape names q n) part_is))
        (by (part_shape p) (part_falls ps n p f lt (part_of ps n lt)) (arguments_below ps n p f lt (part_of ps n lt)))
      where
        lone : Stand ps (alone n)
        lone = record { head = lt; body = tt; small = tt }

        choice : (b : Bool) (x y : ℕ) → x < length ps → y < length ps → nodes_of (written_at (part_shapes ps) y) ≤ length ps
            → Stand ps (cond b (record { head = x; body = Some y }) (alone n))
        choice true x y h k l = record { head = h; body = k; small = l }
        choice false x y h k l = lone

        two : (c : ℕ) (ms : List ℕ) → Falls n ms → nodes_in (many (map (written_at (part_shapes ps)) ms)) < nodes_of (written_at (part_shapes ps) n)
            → Stand ps (sides_in c ms n)
        two c [] g less = lone
        two c (a ∷ []) g less = lone
        two c (a ∷ b ∷ []) g less = choice (nat_eq c 25) a b (omega (arith, g.0, lt)) (omega (arith, g.1.0, lt)) (omega (arith, less, small))
        two c (a ∷ b ∷ d ∷ ms) g less = lone

        by : (q : PartShape) → Falls n (arguments_of q)
            → nodes_in (many (map (written_at (part_shapes ps)) (arguments_of q))) < nodes_of (written_at (part_shapes ps) n)
            → Stand ps (sides_of_shape names q n)
        by (variable x) g less = lone
        by (integer z) g less = lone
        by (compound c ms) g less = two (place c names) ms g less

    -- where the body of a query stands
    pub asked_stand : (body : Option ℕ) → body ≡ asked_at (part_shapes ps) n
        → IfSome body (λ m. m < length ps) × IfSome body (λ m. nodes_of (written_at (part_shapes ps) m) ≤ length ps)
    asked_stand body e =
        let p : DraftPart = get_or ps n first_part in
        subst (λ (o : Option ℕ). IfSome o (λ m. m < length ps) × IfSome o (λ m. nodes_of (written_at (part_shapes ps) m) ≤ length ps))
        (sym (e ∙ ap asked_in part_is))
        (by (part_shape p) (part_falls ps n p f lt (part_of ps n lt)) (arguments_below ps n p f lt (part_of ps n lt)))
      where
        one : (ms : List ℕ) → Falls n ms → nodes_in (many (map (written_at (part_shapes ps)) ms)) < nodes_of (written_at (part_shapes ps) n)
            → IfSome (one_in ms) (λ m. m < length ps) × IfSome (one_in ms) (λ m. nodes_of (written_at (part_shapes ps) m) ≤ length ps)
        one [] g less = (tt, tt)
        one (a ∷ []) g less = (omega (arith, g.0, lt), omega (arith, less, small))
        one (a ∷ b ∷ ms) g less = (tt, tt)

        by : (q : PartShape) → Falls n (arguments_of q)
            → nodes_in (many (map (written_at (part_shapes ps)) (arguments_of q))) < nodes_of (written_at (part_shapes ps) n)
            → IfSome (asked_in q) (λ m. m < length ps) × IfSome (asked_in q) (λ m. nodes_of (written_at (part_shapes ps) m) ≤ length ps)
        by (variable x) g less = (tt, tt)
        by (integer z) g less = (tt, tt)
        by (compound c ms) g less = one ms g less
