-- One step of the making of a body's tokens.
use Rattle.std.proofs.Common.{ℕ, suc, ◌+◌, ◌≡◌, ◌||◌, Bool, true, false, List, [], ◌∷◌, ◌++◌, map, refl, sym, ap, ◌∙◌, arith, subst}
use Rattle.std.proofs.lemmas.List.{append_assoc, append-nil, reverse-append, map_push}
use Rattle.and_model.specs.Lines.{Bytes}
use Rattle.and_model.specs.Terms.{Term}
use Rattle.and_syntax.specs.Clauses
use Rattle.and_syntax.specs.Clauses.{Parts, no_parts, impure, Choices, no_choices, choice, Reading, joined, alone, disjoined, reading_of, parts_of}
use Rattle.and_program.specs.Skeletons.{Shape, node_term, item_of}
use Rattle.and_program.specs.Items.{node_item}
use Rattle.and_judging.specs.Marks
use Rattle.and_judging.specs.Marks.{Mark, open_mark, next, close, mark_of, marks_in}
use Rattle.and_drafts.specs.Parts.{PartShape}
use Rattle.and_judging.specs.Conjuncts.{conjunct_at}
use Rattle.and_judging.specs.Bodies.{Todo, part, last, finish, owed, refused_of, alternatives_left, disjunctions_left, todo_of, todos}
use Rattle.and_judging.specs.Bodies.{Made, with_token, with_next, with_open, TakesPart, TakesLast, Takes}
use Rattle.and_judging.specs.declared.body.BodyToken.{BodyToken}
use Rattle.and_judging.specs.declared.body.BodyToken.TheVariants as tokens
use Rattle.and_judging.specs.declared.body.Pending.{Pending}
use Rattle.and_judging.specs.declared.body.Pending.TheVariants.{Part, Last, End}
use Rattle.and_judging.specs.declared.items.Conjunct.{Conjunct}
use Rattle.and_judging.specs.declared.items.Conjunct.TheVariants.{Both, Either, Nothing, Item, Refused}
use Rattle.and_judging.proofs.Bodies.{owed-joined, refused-joined, owed-choice, owed-last, owed-either, refused-either, alternatives_of-joined}
use Rattle.and_judging.proofs.Bodies.{disjunctions_of-joined}
use Rattle.and_judging.proofs.ConjunctLemmas.{IsConjunct}

-- The marks so far, and then those of what is pending, are those of the whole, with its next numbers c and d; and
-- something that is pending is refused exactly where something of the whole is.
pub record Owed (ss : List Shape) (base : ℕ) (m : Made) (pending : List Pending) (whole : List Mark) (refused : Bool) (c d : ℕ) : Type 0 where
  pub same : marks_in ss m.tokens ++ owed m.clause m.disjunction (todos ss base pending) ≡ whole
  pub pure : refused_of (todos ss base pending) ≡ refused
  pub clauses : m.clause + alternatives_left (todos ss base pending) ≡ c
  pub disjunctions : m.disjunction + disjunctions_left (todos ss base pending) ≡ d

module _ (ss : List Shape) (base : ℕ) where
  abbrev term : ℕ → Term
  term n = node_term ss (base + n)

  abbrev left : List Pending → List Todo
  left pending = todos ss base pending

  -- what is pending says what it is
  abbrev pub Says : List Bytes → List PartShape → Pending → Type 0
  Says names shapes (Part k) = IsConjunct ss base (term k) (conjunct_at names shapes base k)
  Says names shapes (Last k) = IsConjunct ss base (term k) (conjunct_at names shapes base k)
  Says names shapes End = Unit {0}

  -- what comes next, and the others
  first : (before rest : List Pending) (p : Pending) → before ≡ rest ++ p ∷ [] → left before ≡ todo_of ss base p ∷ left rest
  first before rest p e = ap left e ∙ ap (map (todo_of ss base)) (reverse-append rest (p ∷ []))

  two : (after rest : List Pending) (p q : Pending) → after ≡ rest ++ q ∷ p ∷ [] → left after ≡ todo_of ss base p ∷ todo_of ss base q ∷ left rest
  two after rest p q e = ap left e ∙ ap (map (todo_of ss base)) (reverse-append rest (q ∷ p ∷ []))

  three : (after rest : List Pending) (p q r : Pending) → after ≡ rest ++ r ∷ q ∷ p ∷ []
      → left after ≡ todo_of ss base p ∷ todo_of ss base q ∷ todo_of ss base r ∷ left rest
  three after rest p q r e = ap left e ∙ ap (map (todo_of ss base)) (reverse-append rest (r ∷ q ∷ p ∷ []))

  -- Tokens are made of what was owed.
  module _ (whole : List Mark) (refused : Bool) (c d : ℕ) where
    moved : (m n : Made) (before after : List Pending) (ms : List Mark) (old new : List Todo) → left before ≡ old → left after ≡ new
        → marks_in ss n.tokens ≡ marks_in ss m.tokens ++ ms → owed m.clause m.disjunction old ≡ ms ++ owed n.clause n.disjunction new
        → refused_of old ≡ refused_of new → m.clause + alternatives_left old ≡ n.clause + alternatives_left new
        → m.disjunction + disjunctions_left old ≡ n.disjunction + disjunctions_left new
        → Owed ss base m before whole refused c d → Owed ss base n after whole refused c d
    moved m n before after ms old new was now made owes pure clauses disjunctions o = record {
      same = ap (λ us. us ++ owed n.clause n.disjunction (left after)) made ∙ ap (λ ts. (marks_in ss m.tokens ++ ms) ++ owed n.clause n.disjunction ts) now
          ∙ append_assoc (marks_in ss m.tokens) ms (owed n.clause n.disjunction new) ∙ ap (λ us. marks_in ss m.tokens ++ us) (sym owes)
          ∙ ap (λ ts. marks_in ss m.tokens ++ owed m.clause m.disjunction ts) (sym was) ∙ o.same;
      pure = ap refused_of now ∙ sym pure ∙ ap refused_of (sym was) ∙ o.pure;
      clauses = ap (λ ts. n.clause + alternatives_left ts) now ∙ sym clauses ∙ ap (λ ts. m.clause + alternatives_left ts) (sym was) ∙ o.clauses;
      disjunctions = ap (λ ts. n.disjunction + disjunctions_left ts) now ∙ sym disjunctions ∙ ap (λ ts. m.disjunction + disjunctions_left ts) (sym was)
          ∙ o.disjunctions;
    }

    one_more : (m : Made) (t : BodyToken) → marks_in ss (m.tokens ++ t ∷ []) ≡ marks_in ss m.tokens ++ mark_of ss t ∷ []
    one_more m t = map_push (mark_of ss) m.tokens t

    -- the next alternative
    next_step : (m n : Made) (before rest after : List Pending) (ps : Parts) (cs : Choices) (old new : List Todo) → n ≡ with_next m
        → left before ≡ old → left after ≡ new → owed m.clause m.disjunction old ≡ next m.clause ∷ owed (suc m.clause) m.disjunction new
        → refused_of old ≡ refused_of new → m.clause + alternatives_left old ≡ suc m.clause + alternatives_left new
        → m.disjunction + disjunctions_left old ≡ m.disjunction + disjunctions_left new
        → Owed ss base m before whole refused c d → Owed ss base n after whole refused c d
    next_step m n before rest after ps cs old new is was now owes pure clauses disjunctions o =
        let e : suc m.clause ≡ m.clause + 1 = omega arith in
        let P : Made → Type 0 = λ k. Owed ss base k after whole refused c d in
        subst P (sym is) (moved m (with_next m) before after (next m.clause ∷ []) old new was now (one_more m (tokens.Next m.clause))
        (owes ∙ ap (λ k. next m.clause ∷ owed k m.disjunction new) e) pure (clauses ∙ ap (λ k. k + alternatives_left new) e) disjunctions o)

    body_is : (t : Term) (r : Reading) → reading_of t ≡ r → parts_of t ≡ r.body
    body_is t r e = ap (λ (q : Reading). q.body) e

    last_is : (t : Term) (r : Reading) → reading_of t ≡ r → (reading_of t).last ≡ r.last
    last_is t r e = ap (λ (q : Reading). q.last) e

    part_step : (m n : Made) (k : ℕ) (g : Conjunct) (pure : Bool) (before rest after : List Pending) → IsConjunct ss base (term k) g
        → before ≡ rest ++ Part k ∷ [] → TakesPart g pure m n rest after → pure ≡ true
        → Owed ss base m before whole refused c d → Owed ss base n after whole refused c d
    part_step m n k (Both l r) pure before rest after says popped takes is o =
        let ts : List Todo = left rest in
        let ps : Parts = parts_of (term l) in
        let qs : Parts = parts_of (term r) in
        let was : left before ≡ part (joined ps qs) ∷ ts =
        first before rest (Part k) popped ∙ ap (λ us. part us ∷ ts) (body_is (term k) (alone (joined ps qs)) says) in
        let P : Made → Type 0 = λ x. Owed ss base x after whole refused c d in
        subst P (sym takes.1) (moved m m before after [] (part (joined ps qs) ∷ ts) (part ps ∷ part qs ∷ ts) was (two after rest (Part l) (Part r) takes.2)
        (sym (append-nil (marks_in ss m.tokens))) (owed-joined m.clause m.disjunction ps qs ts) (refused-joined ps qs ts)
        (omega (arith, alternatives_of-joined ps qs)) (omega (arith, disjunctions_of-joined ps qs)) o)
    part_step m n k (Either l r) pure before rest after says popped takes is o =
        let ts : List Todo = left rest in
        let ps : Parts = parts_of (term l) in
        let cs : Choices = (reading_of (term r)).last in
        let old : List Todo = part (Clauses.either (choice ps cs) no_parts) ∷ ts in
        let new : List Todo = part ps ∷ last cs ∷ finish ∷ ts in
        let was : left before ≡ old =
        first before rest (Part k) popped ∙ ap (λ us. part us ∷ ts) (body_is (term k) (disjoined (choice ps cs)) says) in
        let made : marks_in ss (with_open m).tokens ≡ marks_in ss m.tokens ++ open_mark m.disjunction ∷ next m.clause ∷ [] =
        map_push (mark_of ss) (m.tokens ++ tokens.Open m.disjunction ∷ []) (tokens.Next m.clause)
        ∙ ap (λ us. us ++ next m.clause ∷ []) (one_more m (tokens.Open m.disjunction))
        ∙ append_assoc (marks_in ss m.tokens) (open_mark m.disjunction ∷ []) (next m.clause ∷ []) in
        let e : suc m.clause ≡ m.clause + 1 = omega arith in
        let f : suc m.disjunction ≡ m.disjunction + 1 = omega arith in
        let P : Made → Type 0 = λ x. Owed ss base x after whole refused c d in
        subst P (sym takes.1) (moved m (with_open m) before after (open_mark m.disjunction ∷ next m.clause ∷ []) old new was
        (three after rest (Part l) (Last r) End takes.2) made
        (owed-either m.clause m.disjunction ps cs ts
        ∙ ap (λ x. open_mark m.disjunction ∷ next m.clause ∷ owed x (suc m.disjunction) new) e
        ∙ ap (λ x. open_mark m.disjunction ∷ next m.clause ∷ owed (m.clause + 1) x new) f)
        (refused-either ps cs ts) (omega arith) (omega arith) o)
    part_step m n k Nothing pure before rest after says popped takes is o =
        let ts : List Todo = left rest in
        let was : left before ≡ part no_parts ∷ ts = first before rest (Part k) popped ∙ ap (λ us. part us ∷ ts) (body_is (term k) (alone no_parts) says) in
        let e : m.clause + 0 ≡ m.clause = omega arith in
        let f : m.disjunction + 0 ≡ m.disjunction = omega arith in
        let P : Made → Type 0 = λ x. Owed ss base x after whole refused c d in
        subst P (sym takes.1) (moved m m before after [] (part no_parts ∷ ts) ts was (ap left takes.2)
        (sym (append-nil (marks_in ss m.tokens))) (ap (λ x. owed x (m.disjunction + 0) ts) e ∙ ap (λ x. owed m.clause x ts) f) refl
        (omega arith) (omega arith) o)
    part_step m n k (Item i) pure before rest after says popped takes is o =
        let ts : List Todo = left rest in
        let x = item_of ss (node_item i) in
        let ps : Parts = Clauses.item x no_parts in
        let was : left before ≡ part ps ∷ ts = first before rest (Part k) popped ∙ ap (λ us. part us ∷ ts) (body_is (term k) (alone ps) says.0) in
        let e : m.clause + 0 ≡ m.clause = omega arith in
        let f : m.disjunction + 0 ≡ m.disjunction = omega arith in
        let P : Made → Type 0 = λ x. Owed ss base x after whole refused c d in
        subst P (sym takes.1) (moved m (with_token m (tokens.Item i)) before after (Marks.item x ∷ []) (part ps ∷ ts) ts was (ap left takes.2)
        (one_more m (tokens.Item i))
        (ap (λ y. Marks.item x ∷ owed y (m.disjunction + 0) ts) e ∙ ap (λ y. Marks.item x ∷ owed m.clause y ts) f) refl (omega arith) (omega arith) o)
    part_step m n k Refused pure before rest after says popped takes is o = absurd (cc (takes, is))

    -- a last operand that is no disjunction is one alternative
    alone_step : (m n : Made) (k : ℕ) (before rest after : List Pending) (ps : Parts) → reading_of (term k) ≡ alone ps → before ≡ rest ++ Last k ∷ []
        → n ≡ with_next m → after ≡ rest ++ Part k ∷ [] → Owed ss base m before whole refused c d → Owed ss base n after whole refused c d
    alone_step m n k before rest after ps says popped made pushed o =
        let ts : List Todo = left rest in
        let was : left before ≡ last (choice ps no_choices) ∷ ts =
        first before rest (Last k) popped ∙ ap (λ us. last us ∷ ts) (last_is (term k) (alone ps) says) in
        let now : left after ≡ part ps ∷ ts = first after rest (Part k) pushed ∙ ap (λ us. part us ∷ ts) (body_is (term k) (alone ps) says) in
        next_step m n before rest after ps no_choices (last (choice ps no_choices) ∷ ts) (part ps ∷ ts) made was now
        (owed-last m.clause m.disjunction ps ts) (single (Clauses.is_refused ps) (refused_of ts)) (omega arith) (omega arith) o
      where
        single : (a b : Bool) → (a || false) || b ≡ a || b
        single true b = refl
        single false b = refl

    -- the same as that part, where the next alternative has begun
    one_step : (m n : Made) (k : ℕ) (g : Conjunct) (pure : Bool) (before rest after : List Pending) (ps : Parts) → reading_of (term k) ≡ alone ps
        → IsConjunct ss base (term k) g → before ≡ rest ++ Last k ∷ [] → TakesPart g pure (with_next m) n rest after → pure ≡ true
        → Owed ss base m before whole refused c d → Owed ss base n after whole refused c d
    one_step m n k g pure before rest after ps read says popped takes is o =
        part_step (with_next m) n k g pure (rest ++ Part k ∷ []) rest after says refl takes is
        (alone_step m (with_next m) k before rest (rest ++ Part k ∷ []) ps read popped refl refl o)

    last_step : (m n : Made) (k : ℕ) (g : Conjunct) (pure : Bool) (before rest after : List Pending) → IsConjunct ss base (term k) g
        → before ≡ rest ++ Last k ∷ [] → TakesLast g pure m n rest after → pure ≡ true
        → Owed ss base m before whole refused c d → Owed ss base n after whole refused c d
    last_step m n k (Either l r) pure before rest after says popped takes is o =
        let ts : List Todo = left rest in
        let ps : Parts = parts_of (term l) in
        let cs : Choices = (reading_of (term r)).last in
        let was : left before ≡ last (choice ps cs) ∷ ts =
        first before rest (Last k) popped ∙ ap (λ us. last us ∷ ts) (last_is (term k) (disjoined (choice ps cs)) says) in
        next_step m n before rest after ps cs (last (choice ps cs) ∷ ts) (part ps ∷ last cs ∷ ts) takes.1 was (two after rest (Part l) (Last r) takes.2)
        (owed-choice m.clause m.disjunction ps cs ts) (or_three (Clauses.is_refused ps) (Clauses.is_refused_in cs) (refused_of ts))
        (omega arith) (omega arith) o
      where
        or_three : (a b e : Bool) → (a || b) || e ≡ a || (b || e)
        or_three true b e = refl
        or_three false b e = refl
    last_step m n k (Both l r) pure before rest after says popped takes is o =
        one_step m n k (Both l r) pure before rest after (joined (parts_of (term l)) (parts_of (term r))) says says popped takes is o
    last_step m n k Nothing pure before rest after says popped takes is o =
        one_step m n k Nothing pure before rest after no_parts says says popped takes is o
    last_step m n k (Item i) pure before rest after says popped takes is o =
        one_step m n k (Item i) pure before rest after (Clauses.item (item_of ss (node_item i)) no_parts) says.0 says popped takes is o
    last_step m n k Refused pure before rest after says popped takes is o = absurd (cc (takes, is))

    -- what was refused
    pub part_refused : (m n : Made) (k : ℕ) (g : Conjunct) (pure : Bool) (before rest after : List Pending) → IsConjunct ss base (term k) g
        → before ≡ rest ++ Part k ∷ [] → TakesPart g pure m n rest after → pure ≡ false → Owed ss base m before whole refused c d → refused ≡ true
    part_refused m n k (Both l r) pure before rest after says popped takes is o = absurd (cc (takes.0, is))
    part_refused m n k (Either l r) pure before rest after says popped takes is o = absurd (cc (takes.0, is))
    part_refused m n k Nothing pure before rest after says popped takes is o = absurd (cc (takes.0, is))
    part_refused m n k (Item i) pure before rest after says popped takes is o = absurd (cc (takes.0, is))
    part_refused m n k Refused pure before rest after says popped takes is o =
        sym o.pure ∙ ap refused_of (first before rest (Part k) popped ∙ ap (λ us. part us ∷ left rest) (body_is (term k) (alone (impure no_parts)) says))

    last_refused : (m n : Made) (k : ℕ) (g : Conjunct) (pure : Bool) (before rest after : List Pending) → IsConjunct ss base (term k) g
        → before ≡ rest ++ Last k ∷ [] → TakesLast g pure m n rest after → pure ≡ false → Owed ss base m before whole refused c d → refused ≡ true
    last_refused m n k (Both l r) pure before rest after says popped takes is o = absurd (cc (takes.0, is))
    last_refused m n k (Either l r) pure before rest after says popped takes is o = absurd (cc (takes.0, is))
    last_refused m n k Nothing pure before rest after says popped takes is o = absurd (cc (takes.0, is))
    last_refused m n k (Item i) pure before rest after says popped takes is o = absurd (cc (takes.0, is))
    last_refused m n k Refused pure before rest after says popped takes is o =
        part_refused (with_next m) n k Refused pure (rest ++ Part k ∷ []) rest after says refl takes is
        (alone_step m (with_next m) k before rest (rest ++ Part k ∷ []) (impure no_parts) says popped refl refl o)

    -- A step keeps what is owed.
    pub owed_step : (names : List Bytes) (shapes : List PartShape) (m n : Made) (p : Pending) (pure : Bool) (before rest after : List Pending)
        → Says names shapes p → before ≡ rest ++ p ∷ [] → Takes names shapes base p pure m n rest after
        → pure ≡ true → Owed ss base m before whole refused c d → Owed ss base n after whole refused c d
    owed_step names shapes m n (Part k) pure before rest after says popped takes is o =
        part_step m n k (conjunct_at names shapes base k) pure before rest after says popped takes is o
    owed_step names shapes m n (Last k) pure before rest after says popped takes is o =
        last_step m n k (conjunct_at names shapes base k) pure before rest after says popped takes is o
    owed_step names shapes m n End pure before rest after says popped takes is o =
        let ts : List Todo = left rest in
        let P : Made → Type 0 = λ x. Owed ss base x after whole refused c d in
        subst P (sym takes.1) (moved m (with_token m tokens.Close) before after (close ∷ []) (finish ∷ ts) ts (first before rest End popped) (ap left takes.2)
        (one_more m tokens.Close) refl refl refl refl o)

    -- What is refused is a part, and something of the whole is.
    pub refused_step : (names : List Bytes) (shapes : List PartShape) (m n : Made) (p : Pending) (pure : Bool) (before rest after : List Pending)
        → Says names shapes p → before ≡ rest ++ p ∷ [] → Takes names shapes base p pure m n rest after
        → pure ≡ false → Owed ss base m before whole refused c d → refused ≡ true
    refused_step names shapes m n (Part k) pure before rest after says popped takes is o =
        part_refused m n k (conjunct_at names shapes base k) pure before rest after says popped takes is o
    refused_step names shapes m n (Last k) pure before rest after says popped takes is o =
        last_refused m n k (conjunct_at names shapes base k) pure before rest after says popped takes is o
    refused_step names shapes m n End pure before rest after says popped takes is o = absurd (cc (takes.0, is))
