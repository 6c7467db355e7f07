-- What is still to be done of a body becomes less, and what is there stays there.
use Rattle.std.proofs.Common.{ℕ, ◌+◌, ◌*◌, ◌≡◌, ◌<◌, ◌≤◌, ◌||◌, Bool, true, false, Some, List, [], ◌∷◌, ◌++◌, length, map, get_or, refl, sym, ap, ◌∙◌}
use Rattle.std.proofs.Common.{arith, subst}
use Rattle.std.proofs.lemmas.List.{append-nil, length-map}
use Rattle.and_model.specs.Lines.{Bytes}
use Rattle.and_syntax.specs.Written.{Written, nodes_of, nodes_in}
use Rattle.and_program.specs.Skeletons.{Shape, Falls, node_term}
use Rattle.and_drafts.specs.Parts.{PartShape, part_shape, part_shapes, many, written_at, arguments_of, PartsFall}
use Rattle.and_judging.specs.Conjuncts.{conjunct_at}
use Rattle.and_judging.specs.Bodies.{Made, with_token, with_open, with_next, TakesPart, TakesLast, Takes, IsPart}
use Rattle.and_drafts.specs.declared.draft.DraftPart.{DraftPart}
use Rattle.and_judging.specs.declared.body.BodyToken.TheVariants as tokens
use Rattle.and_judging.specs.declared.body.Pending.{Pending}
use Rattle.and_judging.specs.declared.body.Pending.TheVariants.{Part, Last, End}
use Rattle.and_judging.specs.declared.items.Conjunct.{Conjunct}
use Rattle.and_judging.specs.declared.items.Conjunct.TheVariants.{Both, Either, Nothing, Item, Refused}
use Rattle.and_drafts.proofs.Noting.{part_falls, arguments_below}
use Rattle.and_judging.proofs.ConjunctLemmas.{conjunct_at_has, conjunct_at_says, first_part, part_of}
use Rattle.and_judging.proofs.BodySteps.{Owed, Says}
use Rattle.and_drafts.specs.Numbered.{IsRead}
use Rattle.and_judging.specs.Marks.{Mark, marks_in}
use Rattle.and_judging.specs.Bodies.{part, owed, refused_of, alternatives_left, disjunctions_left, todos, marks_at, body_parts}
use Rattle.and_judging.specs.declared.body.BodyToken.{BodyToken}
use Rattle.and_syntax.specs.Clauses.{Parts, parts_of, is_refused, alternatives_of, disjunctions_of}

-- how much there is to do
abbrev pub work : List PartShape → Pending → ℕ
work ps (Part n) = 3 * nodes_of (written_at ps n)
work ps (Last n) = 3 * nodes_of (written_at ps n) + 1
work ps End = 1

abbrev pub works : List PartShape → List Pending → ℕ
works ps [] = 0
works ps (p ∷ pending) = work ps p + works ps pending

abbrev pub AreParts : ℕ → List Pending → Type 0
AreParts m [] = Unit {0}
AreParts m (p ∷ pending) = IsPart m p × AreParts m pending

pub works-append : (ps : List PartShape) (xs ys : List Pending) → works ps (xs ++ ys) ≡ works ps xs + works ps ys
works-append ps [] ys = omega arith
works-append ps (x ∷ xs) ys = omega (arith, works-append ps xs ys)

AreParts-append : (m : ℕ) (xs ys : List Pending) → AreParts m xs → AreParts m ys → AreParts m (xs ++ ys)
AreParts-append m [] ys a b = b
AreParts-append m (x ∷ xs) ys a b = (a.0, AreParts-append m xs ys a.1 b)

AreParts-front : (m : ℕ) (xs ys : List Pending) → AreParts m (xs ++ ys) → AreParts m xs
AreParts-front m [] ys a = tt
AreParts-front m (x ∷ xs) ys a = (a.0, AreParts-front m xs ys a.1)

AreParts-back : (m : ℕ) (xs ys : List Pending) → AreParts m (xs ++ ys) → AreParts m ys
AreParts-back m [] ys a = a
AreParts-back m (x ∷ xs) ys a = AreParts-back m xs ys a.1

pub last_is_part : (m : ℕ) (before rest : List Pending) (p : Pending) → before ≡ rest ++ p ∷ [] → AreParts m before → IsPart m p
last_is_part m before rest p e a = (AreParts-back m rest (p ∷ []) (subst (AreParts m) e a)).0

others_are : (m : ℕ) (before rest : List Pending) (p : Pending) → before ≡ rest ++ p ∷ [] → AreParts m before → AreParts m rest
others_are m before rest p e a = AreParts-front m rest (p ∷ []) (subst (AreParts m) e a)

-- What a step leaves: less work, at most one number more for it, and parts that are there.
pub record Left (ps : List PartShape) (m n : Made) (before after : List Pending) : Type 0 where
  pub less : works ps after < works ps before
  pub clauses : n.clause + works ps after ≤ m.clause + works ps before
  pub disjunctions : n.disjunction + works ps after ≤ m.disjunction + works ps before
  pub there : AreParts (length ps) after

module _ (names : List Bytes) (parts : List DraftPart) (base : ℕ) (falls : PartsFall 0 (part_shapes parts)) where
  abbrev ps : List PartShape
  ps = part_shapes parts

  abbrev size : ℕ → ℕ
  size n = nodes_of (written_at ps n)

  -- the two operands of a part
  two : (n l r : ℕ) (ns : List ℕ) → ns ≡ l ∷ r ∷ [] → Falls n ns → nodes_in (many (map (written_at ps) ns)) < size n
      → (l < n) × (r < n) × (size l + size r < size n)
  two n l r ns e f lt =
      let g : Falls n (l ∷ r ∷ []) = subst (Falls n) e f in
      let h : nodes_in (many (map (written_at ps) (l ∷ r ∷ []))) < size n = subst (λ ms. nodes_in (many (map (written_at ps) ms)) < size n) e lt in
      (g.0, g.1.0, omega (arith, h))

  operands : (n l r : ℕ) → n < length parts → arguments_of (part_shape (get_or parts n first_part)) ≡ l ∷ r ∷ []
      → (l < n) × (r < n) × (size l + size r < size n)
  operands n l r lt e =
      let at = part_of parts n lt in
      two n l r (arguments_of (part_shape (get_or parts n first_part))) e (part_falls parts n (get_or parts n first_part) falls lt at)
      (arguments_below parts n (get_or parts n first_part) falls lt at)

  some_nodes : (w : Written) → 0 < nodes_of w
  some_nodes (Written.variable x) = omega arith
  some_nodes (Written.integer z) = omega arith
  some_nodes (Written.compound c ts) = omega arith

  module _ (m n : Made) (rest before : List Pending) (there : AreParts (length ps) rest) (few : length ps ≡ length parts) where
    same_clause : (k : Made) → n ≡ k → n.clause ≤ k.clause
    same_clause k e = let h : n.clause ≡ k.clause = ap (λ (x : Made). x.clause) e in omega arith

    same_disjunction : (k : Made) → n ≡ k → n.disjunction ≤ k.disjunction
    same_disjunction k e = let h : n.disjunction ≡ k.disjunction = ap (λ (x : Made). x.disjunction) e in omega arith

    left_by : (after more : List Pending) (w a b : ℕ) → after ≡ rest ++ more → works ps before ≡ works ps rest + w → works ps more < w
        → n.clause ≤ m.clause + a → n.disjunction ≤ m.disjunction + b → a + works ps more ≤ w → b + works ps more ≤ w
        → AreParts (length ps) more → Left ps m n before after
    left_by after more w a b e was less c d ca da are =
        let sum : works ps after ≡ works ps rest + works ps more = ap (works ps) e ∙ works-append ps rest more in record {
          less = omega arith;
          clauses = omega arith;
          disjunctions = omega arith;
          there = subst (AreParts (length ps)) (sym e) (AreParts-append (length ps) rest more there are);
        }

    -- what comes of a part
    part_left : (k : ℕ) (g : Conjunct) (pure : Bool) (after : List Pending) → k < length parts → g ≡ conjunct_at names ps base k
        → works ps before ≡ works ps rest + work ps (Part k) → TakesPart g pure m n rest after → pure ≡ true → Left ps m n before after
    part_left k (Both l r) pure after lt e was t is =
        let two = operands k l r lt (conjunct_at_has base k names parts (Both l r) lt e) in
        left_by after (Part r ∷ Part l ∷ []) (work ps (Part k)) 0 0 t.2 was (omega (arith, two.2)) (omega (arith, same_clause m t.1))
        (omega (arith, same_disjunction m t.1)) (omega (arith, two.2)) (omega (arith, two.2))
        (omega (arith, two.1), (omega (arith, two.0), tt))
    part_left k (Either l r) pure after lt e was t is =
        let two = operands k l r lt (conjunct_at_has base k names parts (Either l r) lt e) in
        left_by after (End ∷ Last r ∷ Part l ∷ []) (work ps (Part k)) 1 1 t.2 was (omega (arith, two.2)) (omega (arith, same_clause (with_open m) t.1))
        (omega (arith, same_disjunction (with_open m) t.1))
        (omega (arith, two.2)) (omega (arith, two.2)) (tt, (omega (arith, two.1), (omega (arith, two.0), tt)))
    part_left k Nothing pure after lt e was t is =
        left_by after [] (work ps (Part k)) 0 0 (t.2 ∙ sym (append-nil rest)) was (omega (arith, some_nodes (written_at ps k)))
        (omega (arith, same_clause m t.1)) (omega (arith, same_disjunction m t.1))
        (omega arith) (omega arith) tt
    part_left k (Item i) pure after lt e was t is =
        left_by after [] (work ps (Part k)) 0 0 (t.2 ∙ sym (append-nil rest)) was (omega (arith, some_nodes (written_at ps k)))
        (omega (arith, same_clause (with_token m (tokens.Item i)) t.1)) (omega (arith, same_disjunction (with_token m (tokens.Item i)) t.1))
        (omega arith) (omega arith) tt
    part_left k Refused pure after lt e was t is = absurd (cc (t, is))

    -- more alternatives
    more_left : (k l r : ℕ) (after : List Pending) → k < length parts → Either l r ≡ conjunct_at names ps base k
        → works ps before ≡ works ps rest + work ps (Last k) → n ≡ with_next m → after ≡ rest ++ Last r ∷ Part l ∷ [] → Left ps m n before after
    more_left k l r after lt e was made pushed =
        let two = operands k l r lt (conjunct_at_has base k names parts (Either l r) lt e) in
        left_by after (Last r ∷ Part l ∷ []) (work ps (Last k)) 1 0 pushed was (omega (arith, two.2)) (omega (arith, same_clause (with_next m) made))
        (omega (arith, same_disjunction (with_next m) made))
        (omega (arith, two.2)) (omega (arith, two.2)) (omega (arith, two.1), (omega (arith, two.0), tt))

  -- what comes of a last operand that is no disjunction
  one_left : (m n : Made) (rest before : List Pending) → AreParts (length ps) rest → length ps ≡ length parts → (k : ℕ) (g : Conjunct) (pure : Bool)
      (after : List Pending) → k < length parts → g ≡ conjunct_at names ps base k → works ps before ≡ works ps rest + work ps (Last k)
      → TakesPart g pure (with_next m) n rest after → pure ≡ true → Left ps m n before after
  one_left m n rest before there few k g pure after lt e was t is =
      let middle : List Pending = rest ++ Part k ∷ [] in
      let sum : works ps middle ≡ works ps rest + work ps (Part k) =
      works-append ps rest (Part k ∷ []) ∙ (let z : works ps rest + (work ps (Part k) + 0) ≡ works ps rest + work ps (Part k) = omega arith in z) in
      let left = part_left (with_next m) n rest middle there few k g pure after lt e sum t is in
      record {
        less = omega (arith, left.less, sum, was);
        clauses = omega (arith, left.clauses, sum, was);
        disjunctions = omega (arith, left.disjunctions, sum, was);
        there = left.there;
      }

  last_left : (m n : Made) (rest before : List Pending) → AreParts (length ps) rest → length ps ≡ length parts → (k : ℕ) (g : Conjunct) (pure : Bool)
      (after : List Pending) → k < length parts → g ≡ conjunct_at names ps base k → works ps before ≡ works ps rest + work ps (Last k)
      → TakesLast g pure m n rest after → pure ≡ true → Left ps m n before after
  last_left m n rest before there few k (Either l r) pure after lt e was t is = more_left m n rest before there few k l r after lt e was t.1 t.2
  last_left m n rest before there few k (Both l r) pure after lt e was t is = one_left m n rest before there few k (Both l r) pure after lt e was t is
  last_left m n rest before there few k Nothing pure after lt e was t is = one_left m n rest before there few k Nothing pure after lt e was t is
  last_left m n rest before there few k (Item i) pure after lt e was t is = one_left m n rest before there few k (Item i) pure after lt e was t is
  last_left m n rest before there few k Refused pure after lt e was t is = absurd (cc (t, is))

  some_left : (m n : Made) (rest before after : List Pending) (p : Pending) (pure : Bool) → length ps ≡ length parts → IsPart (length ps) p
      → AreParts (length ps) rest
      → works ps before ≡ works ps rest + work ps p → Takes names ps base p pure m n rest after → pure ≡ true → Left ps m n before after
  some_left m n rest before after (Part k) pure few there others was t is =
      part_left m n rest before others few k (conjunct_at names ps base k) pure after (omega arith) refl was t is
  some_left m n rest before after (Last k) pure few there others was t is =
      last_left m n rest before others few k (conjunct_at names ps base k) pure after (omega arith) refl was t is
  some_left m n rest before after End pure few there others was t is =
      left_by m n rest before others few after [] 1 0 0 (t.2 ∙ sym (append-nil rest)) was (omega arith)
      (omega (arith, same_clause m n rest before others few (with_token m tokens.Close) t.1))
      (omega (arith, same_disjunction m n rest before others few (with_token m tokens.Close) t.1)) (omega arith) (omega arith) tt

  -- A step leaves less.
  pub step_left : (m n : Made) (before rest after : List Pending) (p : Pending) (pure : Bool) → before ≡ rest ++ p ∷ [] → AreParts (length ps) before
      → Takes names ps base p pure m n rest after → pure ≡ true → Left ps m n before after
  step_left m n before rest after p pure popped there t is =
      some_left m n rest before after p pure (length-map parts part_shape) (last_is_part (length ps) before rest p popped there)
      (others_are (length ps) before rest p popped there)
      (ap (works ps) popped ∙ works-append ps rest (p ∷ []) ∙ (let z : works ps rest + (work ps p + 0) ≡ works ps rest + work ps p = omega arith in z)) t is

-- ---- The beginning and the end.
module _ (ss : List Shape) where
  pub says_of : (names : List Bytes) (parts : List DraftPart) (p : Pending) → IsRead ss 0 names (part_shapes parts) → PartsFall 0 (part_shapes parts)
      → IsPart (length (part_shapes parts)) p → Says ss 0 names (part_shapes parts) p
  says_of names parts (Part k) r f lt =
      conjunct_at_says ss 0 k names parts (conjunct_at names (part_shapes parts) 0 k) r f (omega (arith, length-map parts part_shape)) refl
  says_of names parts (Last k) r f lt =
      conjunct_at_says ss 0 k names parts (conjunct_at names (part_shapes parts) 0 k) r f (omega (arith, length-map parts part_shape)) refl
  says_of names parts End r f lt = tt

  or_nothing : (b : Bool) → b || false ≡ b
  or_nothing true = refl
  or_nothing false = refl

  pub first_owed : (n c d : ℕ) (tokens : List BodyToken) (nothing pending : List Pending) → tokens ≡ [] → nothing ≡ [] → pending ≡ nothing ++ Part n ∷ []
      → let ps = body_parts ss (Some n) in let m : Made = record { tokens = tokens; clause = c; disjunction = d } in
      Owed ss 0 m pending (marks_at c d ps) (is_refused ps) (c + alternatives_of ps) (d + disjunctions_of ps)
  first_owed n c d tokens nothing pending e f g =
      let ps : Parts = body_parts ss (Some n) in
      let is : pending ≡ Part n ∷ [] = g ∙ ap (λ xs. xs ++ Part n ∷ []) f in
      let z : 0 + n ≡ n = omega arith in
      let left : todos ss 0 pending ≡ part ps ∷ [] = ap (todos ss 0) is ∙ ap (λ k. part (parts_of (node_term ss k)) ∷ []) z in
      record {
        same = ap (λ ts. marks_in ss ts ++ owed c d (todos ss 0 pending)) e ∙ ap (owed c d) left ∙ append-nil (marks_at c d ps);
        pure = ap refused_of left ∙ or_nothing (is_refused ps);
        clauses = ap (λ ts. c + alternatives_left ts) left ∙ (let y : c + (alternatives_of ps + 0) ≡ c + alternatives_of ps = omega arith in y);
        disjunctions = ap (λ ts. d + disjunctions_left ts) left ∙ (let y : d + (disjunctions_of ps + 0) ≡ d + disjunctions_of ps = omega arith in y);
      }

  pub all_made : (m : Made) (pending : List Pending) (whole : List Mark) (refused : Bool) (c d : ℕ) → pending ≡ [] → Owed ss 0 m pending whole refused c d
      → (refused ≡ false) × (marks_in ss m.tokens ≡ whole) × (m.clause ≡ c) × (m.disjunction ≡ d)
  all_made m pending whole refused c d e o =
      let left : todos ss 0 pending ≡ [] = ap (todos ss 0) e in (
        sym o.pure ∙ ap refused_of left,
        sym (append-nil (marks_in ss m.tokens)) ∙ sym (ap (λ ts. marks_in ss m.tokens ++ owed m.clause m.disjunction ts) left) ∙ o.same,
        (let y : m.clause ≡ m.clause + 0 = omega arith in y) ∙ sym (ap (λ ts. m.clause + alternatives_left ts) left) ∙ o.clauses,
        (let y : m.disjunction ≡ m.disjunction + 0 = omega arith in y) ∙ sym (ap (λ ts. m.disjunction + disjunctions_left ts) left) ∙ o.disjunctions,
      )

-- the first part is there, and has few nodes
pub first_there : (m n : ℕ) (nothing pending : List Pending) → nothing ≡ [] → pending ≡ nothing ++ Part n ∷ [] → n < m → AreParts m pending
first_there m n nothing pending f g lt = subst (AreParts m) (sym (g ∙ ap (λ xs. xs ++ Part n ∷ []) f)) (lt, tt)

pub first_work : (ps : List PartShape) (n k : ℕ) (nothing pending : List Pending) → nothing ≡ [] → pending ≡ nothing ++ Part n ∷ []
    → nodes_of (written_at ps n) ≤ k
    → works ps pending ≤ 3 * k
first_work ps n k nothing pending f g le =
    let e : works ps pending ≡ works ps (Part n ∷ []) = ap (works ps) (g ∙ ap (λ xs. xs ++ Part n ∷ []) f) in omega (arith, e)
