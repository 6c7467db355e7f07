-- The tree of a derivation, and a substitution that solves its equations.
use Rattle.std.proofs.Common.{ℕ, zero, suc, ◌+◌, ◌<◌, ◌≤◌, ◌≡◌, true, ◌&&◌, nat_eq, ltb, leb, List, [], ◌∷◌, ◌++◌, length, refl, sym, ap, ◌∙◌, arith, subst}
use Rattle.std.proofs.lemmas.List.{append_assoc, append-nil}
use Rattle.std.proofs.lemmas.Bool.{lt-ltb, le-leb, and_from}
use Rattle.std.proofs.lemmas.Bool.Decides.{nat_tests}
use Rattle.and_model.specs.Lines.{Bytes}
use Rattle.and_model.specs.Terms.{Path, Term, variable, Substitution, apply, framed}
use Rattle.and_model.specs.Solutions.{Solves}
use Rattle.and_model.specs.Programs.{Program, Of, head_in, clause_at, same_predicate}
use Rattle.and_model.specs.Trees.{Agenda, end, goal, equation, agenda, Tree, done, equate, equations, arithmetics, code, IsWhole}
use Rattle.and_model.specs.Trees as trees
use Rattle.and_grammar_laws.specs.Derivations.{Symbol, letters, phrase, Rule, IsNumber, Derives, DerivesAll, by, nothing, terminals, part}
use Rattle.and_grammar_laws.proofs.Chains.{nil, first, others, states, list_to, between, IsClauseOf, apply_list, list_both}
use Rattle.and_grammar_laws.proofs.Chains.{before, steps_of, body_agenda, IsProgramOf}

module _ (f : Bytes → ℕ) (P : Program) (s : Substitution) where
  -- a tree over more to do than another one, by these further clauses
  pub record Onward (ag rest : Agenda) (r : Tree P rest) (codes : List ℕ) : Type 0 where
    pub tree : Tree P ag
    pub whole : IsWhole tree
    pub solved : Solves s (equations tree)
    pub coded : code tree ≡ codes ++ code r
    pub bare : arithmetics tree ≡ arithmetics r

-- the substitution gives each state of a body from state k on its list
abbrev pub Gives : (Bytes → ℕ) → Substitution → Path → (ℕ → ℕ) → ℕ → ℕ → (ℕ → List Bytes) → Type 0
Gives f s q m k n lists = (j : ℕ) → j ≤ n → s q (m (k + j)) ≡ list_to f (lists j) nil

-- What a derivation of a word, before these others, gives the variables of its frames; and its tree.
pub record Placed (f : Bytes → ℕ) (P : Program) (n : Bytes) (word : List Bytes) (codes : List ℕ) (after : List Bytes) : Type 0 where
  pub values : Path → ℕ → Term
  pub built : (s : Substitution) (q : Path) (a b : Term) (rest : Agenda) (r : Tree P rest) → ((p : Path) (x : ℕ) → s (q ++ p) x ≡ values p x)
      → IsWhole r → Solves s (equations r) → apply s a ≡ list_to f (word ++ after) nil → apply s b ≡ list_to f after nil
      → Onward f P s (goal q (between f n a b) rest) rest r codes

-- And of a body: the lists of its states, and the variables of the frames of its items.
pub record PlacedAll (f : Bytes → ℕ) (P : Program) (body : List Symbol) (word : List Bytes) (codes : List ℕ) (after : List Bytes) : Type 0 where
  pub lists : ℕ → List Bytes
  pub begins : lists 0 ≡ word ++ after
  pub ends : lists (states body) ≡ after
  pub values : ℕ → Path → ℕ → Term
  pub built : (s : Substitution) (m : ℕ → ℕ) (q : Path) (i k : ℕ) (rest : Agenda) (r : Tree P rest)
      → ((j : ℕ) (p : Path) (x : ℕ) → s (q ++ (i + j) ∷ p) x ≡ values j p x) → Gives f s q m k (states body) lists
      → IsWhole r → Solves s (equations r) → Onward f P s (before f (steps_of f m q i body k) rest) rest r codes

abbrev shifted : {A : Type 0} → A → (ℕ → A) → ℕ → A
shifted x g zero = x
shifted x g (suc j) = g j

module _ (f : Bytes → ℕ) (P : Program) (after : List Bytes) where
  placed_none : PlacedAll f P [] [] [] after
  placed_none = record {
    lists = λ j. after;
    begins = refl;
    ends = refl;
    values = λ j p x. nil;
    built = λ s m q i k rest r vals gives whole solved. record { tree = r; whole = whole; solved = solved; coded = refl; bare = refl };
  }

  -- an empty list more
  placed_empty : (body : List Symbol) (word : List Bytes) (codes : List ℕ) → PlacedAll f P body word codes after
      → PlacedAll f P (letters [] ∷ body) word codes after
  placed_empty body word codes d = record { lists = d.lists; begins = d.begins; ends = d.ends; values = d.values; built = d.built }

  -- the values of the items behind the first
  later_values : (s : Substitution) (q : Path) (i : ℕ) (x : Path → ℕ → Term) (g : ℕ → Path → ℕ → Term)
      → ((j : ℕ) (p : Path) (y : ℕ) → s (q ++ (i + j) ∷ p) y ≡ shifted x g j p y) → (j : ℕ) (p : Path) (y : ℕ) → s (q ++ (suc i + j) ∷ p) y ≡ g j p y
  later_values s q i x g vals j p y =
      let e : suc i + j ≡ i + suc j = omega arith in
      ap (λ (n : ℕ). s (q ++ n ∷ p) y) e ∙ vals (suc j) p y

  -- and the states
  later_states : (s : Substitution) (q : Path) (m : ℕ → ℕ) (k n : ℕ) (w : List Bytes) (lists : ℕ → List Bytes)
      → Gives f s q m k (suc n) (shifted w lists) → Gives f s q m (suc k) n lists
  later_states s q m k n w lists gives j le =
      let e : suc k + j ≡ k + suc j = omega arith in
      ap (λ (x : ℕ). s q (m x)) e ∙ gives (suc j) (omega arith)

  first_state : (s : Substitution) (q : Path) (m : ℕ → ℕ) (k n : ℕ) (lists : ℕ → List Bytes) (w : List Bytes) → lists 0 ≡ w
      → Gives f s q m k n lists → s q (m k) ≡ list_to f w nil
  first_state s q m k n lists w e gives =
      let here : k ≡ k + 0 = omega arith in
      ap (λ (x : ℕ). s q (m x)) here ∙ gives 0 (omega arith) ∙ ap (λ (v : List Bytes). list_to f v nil) e

  -- terminals more
  placed_letters : (l : Bytes) (ls : List Bytes) (body : List Symbol) (word : List Bytes) (codes : List ℕ) → PlacedAll f P body word codes after
      → PlacedAll f P (letters (l ∷ ls) ∷ body) ((l ∷ ls) ++ word) codes after
  placed_letters l ls body word codes d = record {
    lists = shifted (((l ∷ ls) ++ word) ++ after) d.lists;
    begins = refl;
    ends = d.ends;
    values = shifted (λ p x. nil) d.values;
    built = λ s m q i k rest r vals gives whole solved.
        let on = d.built s m q (suc i) (suc k) rest r (later_values s q i (λ p x. nil) d.values vals)
        (later_states s q m k (states body) (((l ∷ ls) ++ word) ++ after) d.lists gives) whole solved in
        let here : s q (m k) ≡ list_to f (((l ∷ ls) ++ word) ++ after) nil =
        first_state s q m k (suc (states body)) (shifted (((l ∷ ls) ++ word) ++ after) d.lists) (((l ∷ ls) ++ word) ++ after) refl gives in
        let next : s q (m (suc k)) ≡ list_to f (word ++ after) nil =
        first_state s q m (suc k) (states body) d.lists (word ++ after) d.begins
        (later_states s q m k (states body) (((l ∷ ls) ++ word) ++ after) d.lists gives) in
        let same : s q (m k) ≡ apply s (list_to f (l ∷ ls) (variable q (m (suc k)))) =
        here ∙ ap (λ (v : List Bytes). list_to f v nil) (append_assoc (l ∷ ls) word after) ∙ list_both f (l ∷ ls) (word ++ after) nil
        ∙ ap (list_to f (l ∷ ls)) (sym next) ∙ sym (apply_list f s (l ∷ ls) (variable q (m (suc k)))) in
        record { tree = equate on.tree; whole = on.whole; solved = (same, on.solved); coded = on.coded; bare = on.bare };
  }

  -- a part more
  placed_part : (n : Bytes) (body : List Symbol) (word tail : List Bytes) (codes more_codes : List ℕ) → Placed f P n word codes (tail ++ after)
      → PlacedAll f P body tail more_codes after → PlacedAll f P (phrase n ∷ body) (word ++ tail) (codes ++ more_codes) after
  placed_part n body word tail codes more_codes e d = record {
    lists = shifted ((word ++ tail) ++ after) d.lists;
    begins = refl;
    ends = d.ends;
    values = shifted e.values d.values;
    built = λ s m q i k rest r vals gives whole solved.
        let later = later_states s q m k (states body) ((word ++ tail) ++ after) d.lists gives in
        let on = d.built s m q (suc i) (suc k) rest r (later_values s q i e.values d.values vals) later whole solved in
        let here : s q (m k) ≡ list_to f (word ++ (tail ++ after)) nil =
        first_state s q m k (suc (states body)) (shifted ((word ++ tail) ++ after) d.lists) ((word ++ tail) ++ after) refl gives
        ∙ ap (λ (v : List Bytes). list_to f v nil) (append_assoc word tail after) in
        let next : s q (m (suc k)) ≡ list_to f (tail ++ after) nil = first_state s q m (suc k) (states body) d.lists (tail ++ after) d.begins later in
        let place : (p : Path) (x : ℕ) → s ((q ++ i ∷ []) ++ p) x ≡ e.values p x =
        λ p x. (let z : i ≡ i + 0 = omega arith in
        ap (λ (path : Path). s path x) (append_assoc q (i ∷ []) p) ∙ ap (λ (j : ℕ). s (q ++ j ∷ p) x) z ∙ vals 0 p x) in
        let one = e.built s (q ++ i ∷ []) (variable q (m k)) (variable q (m (suc k))) _ on.tree place on.whole on.solved here next in
        record {
          tree = one.tree;
          whole = one.whole;
          solved = one.solved;
          coded = one.coded ∙ ap (λ (cs : List ℕ). codes ++ cs) on.coded ∙ sym (append_assoc codes more_codes (code r));
          bare = one.bare ∙ on.bare;
        };
  }

-- a body, and what stands in it behind what comes first
pub record PlacedBoth (f : Bytes → ℕ) (P : Program) (body : List Symbol) (word : List Bytes) (codes : List ℕ) (after : List Bytes) : Type 0 where
  pub all : PlacedAll f P body word codes after
  pub rest : List Bytes
  pub split : word ≡ first body ++ rest
  pub behind : PlacedAll f P (others body) rest codes after

-- the clause of a rule is one of its predicate
clause_of_call : (f : Bytes → ℕ) (P : Program) (c : ℕ) (r : Rule) (a b : Term) → 0 < c → c ≤ length P.clauses → IsClauseOf f (clause_at P c) r
    → Of P (between f r.head a b) c
clause_of_call f P c r a b low high k =
    let same : nat_eq (f r.head) (f r.head) ≡ true = grind (arith, nat_tests) in
    let predicate : same_predicate (between f r.head a b) (clause_at P c).head ≡ true =
    ap (same_predicate (between f r.head a b)) k.head_is ∙ and_from (nat_eq (f r.head) (f r.head)) true same refl in
    and_from (ltb 0 c && leb c (length P.clauses)) (same_predicate (between f r.head a b) (clause_at P c).head)
    (and_from (ltb 0 c) (leb c (length P.clauses)) (lt-ltb 0 c low) (le-leb c (length P.clauses) high)) predicate

module _ (f : Bytes → ℕ) (P : Program) (grammar : List Rule) (is : IsProgramOf f P grammar) where
  abbrev frame_values : (ℕ → Term) → (ℕ → Path → ℕ → Term) → Path → ℕ → Term
  frame_values here below [] x = here x
  frame_values here below (j ∷ p) x = below j p x

  -- a call that is taken by a rule's clause
  placed_call : (c : ℕ) (r : Rule) (word : List Bytes) (codes : List ℕ) (after : List Bytes) → IsNumber c grammar r
      → PlacedBoth f P r.body word codes after → Placed f P r.head word (c ∷ codes) after
  placed_call c r word codes after number d =
      let known = is.clause_of c r number in
      let k : IsClauseOf f (clause_at P c) r = known.2 in
      let here : ℕ → Term = λ x. list_to f (d.behind.lists (k.back x)) nil in
      record {
        values = frame_values here d.behind.values;
        built = λ s q a b rest t vals whole solved from to.
            let gives : Gives f s q k.number 0 (states (others r.body)) d.behind.lists =
            λ j le. (let z : 0 + j ≡ j = omega arith in
            ap (λ (x : ℕ). s q (k.number x)) z ∙ ap (λ (p : Path). s p (k.number j)) (sym (append-nil q)) ∙ vals [] (k.number j)
            ∙ ap (λ (x : ℕ). list_to f (d.behind.lists x) nil) (k.inverse j le)) in
            let below : (j : ℕ) (p : Path) (x : ℕ) → s (q ++ (0 + j) ∷ p) x ≡ d.behind.values j p x =
            λ j p x. (let z : 0 + j ≡ j = omega arith in ap (λ (i : ℕ). s (q ++ i ∷ p) x) z ∙ vals (j ∷ p) x) in
            let on = d.behind.built s k.number q 0 0 rest t below gives whole solved in
            let next : agenda q 0 (clause_at P c).body rest ≡ before f (steps_of f k.number q 0 (others r.body) 0) rest =
            ap (λ items. agenda q 0 items rest) k.body_is ∙ body_agenda f k.number q 0 (others r.body) 0 rest in
            let inner : Onward f P s (agenda q 0 (clause_at P c).body rest) rest t codes =
            subst (λ (ag : Agenda). Onward f P s ag rest t codes) (sym next) on in
            let start : Term = list_to f (first r.body) (variable [] (k.number 0)) in
            let last : ℕ = k.number (states (others r.body)) in
            let begins : apply s (framed q start) ≡ list_to f (word ++ after) nil =
            ap (apply s) (apply_list f (λ p j. variable q j) (first r.body) (variable [] (k.number 0)))
            ∙ apply_list f s (first r.body) (variable q (k.number 0))
            ∙ ap (list_to f (first r.body)) (gives 0 (omega arith) ∙ ap (λ (v : List Bytes). list_to f v nil) d.behind.begins)
            ∙ sym (list_both f (first r.body) (d.rest ++ after) nil)
            ∙ ap (λ (v : List Bytes). list_to f v nil) (sym (append_assoc (first r.body) d.rest after))
            ∙ ap (λ (v : List Bytes). list_to f (v ++ after) nil) (sym d.split) in
            let finishes : s q last ≡ list_to f after nil =
            (let z : states (others r.body) ≡ 0 + states (others r.body) = omega arith in ap (λ (x : ℕ). s q (k.number x)) z)
            ∙ gives (states (others r.body)) (omega arith) ∙ ap (λ (v : List Bytes). list_to f v nil) d.behind.ends in
            let same : apply s (between f r.head a b) ≡ apply s (head_in P q c) =
            ap (λ (t : Term). between f r.head t (apply s b)) (from ∙ sym begins)
            ∙ ap (λ (t : Term). between f r.head (apply s (framed q start)) t) (to ∙ sym finishes)
            ∙ ap (λ (t : Term). apply s (framed q t)) (sym k.head_is) in
            record {
              tree = trees.by c (clause_of_call f P c r a b known.0 known.1 k) inner.tree;
              whole = inner.whole;
              solved = (same, inner.solved);
              coded = ap (λ (cs : List ℕ). c ∷ cs) inner.coded;
              bare = inner.bare;
            };
      }

  mutual
    pub placed : (n : Bytes) (word : List Bytes) (codes : List ℕ) → Derives grammar n word codes → (after : List Bytes) → Placed f P n word codes after
    placed n word codes (by c r w cs number d) after = placed_call c r w cs after number (placed_both r.body w cs d after)

    pub placed_both : (body : List Symbol) (word : List Bytes) (codes : List ℕ) → DerivesAll grammar body word codes → (after : List Bytes)
        → PlacedBoth f P body word codes after
    placed_both body word codes nothing after =
        let all = placed_none f P after in record { all = all; rest = []; split = refl; behind = all }
    placed_both body word codes (terminals [] ss w cs d) after =
        let one = (placed_both ss w cs d after).all in record { all = placed_empty f P after ss w cs one; rest = w; split = refl; behind = one }
    placed_both body word codes (terminals (l ∷ ls) ss w cs d) after =
        let one = (placed_both ss w cs d after).all in
        record { all = placed_letters f P after l ls ss w cs one; rest = w; split = refl; behind = one }
    placed_both body word codes (part n ss w v cs ds e d) after =
        let all = placed_part f P after n ss w v cs ds (placed n w cs e (v ++ after)) (placed_both ss v ds d after).all in
        record { all = all; rest = w ++ v; split = refl; behind = all }
