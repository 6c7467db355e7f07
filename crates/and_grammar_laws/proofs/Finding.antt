-- What a tree over steps finds: a derivation for each call.
use Rattle.std.proofs.Common.{ℕ, suc, ◌≡◌, true, ◌&&◌, nat_eq, ltb, leb, List, [], ◌∷◌, ◌++◌, length, refl, sym, ap, ◌∙◌, arith, subst}
use Rattle.std.proofs.lemmas.List.{append_assoc}
use Rattle.std.proofs.lemmas.Bool.Decides.{nat_tests}
use Rattle.and_model.specs.Lines.{Bytes}
use Rattle.and_model.specs.Terms.{Path, Term, variable, none, more, Substitution, apply, framed}
use Rattle.and_model.specs.Solutions.{Solves}
use Rattle.and_model.specs.Programs.{Program, Of, head_in, clause_at, same_predicate}
use Rattle.and_model.specs.Trees.{Agenda, end, agenda, Tree, done, left, by, equate, reckon, equations, arithmetics, code, IsWhole}
use Rattle.and_laws.proofs.Deciding.{of_bounds}
use Rattle.and_laws.proofs.Substitutions.{and_left, and_right}
use Rattle.and_grammar_laws.specs.Derivations.{Symbol, letters, phrase, Rule, IsNumber, Derives, DerivesAll, nothing, terminals, part}
use Rattle.and_grammar_laws.specs.Derivations as derivations
use Rattle.and_grammar_laws.proofs.Chains.{first, others, states, behind, behind_states, list_to, between, IsClauseOf, apply_list, list_both}
use Rattle.and_grammar_laws.proofs.Chains.{Step, joins, calls, before, before_both, steps_of, body_agenda, IsProgramOf, with_first}

module _ (f : Bytes → ℕ) (grammar : List Rule) (s : Substitution) where
  -- Under the substitution each step leads from a list to its rest, by its terminals or by a word that is derived; the codes joined are this one.
  abbrev pub Found : List (Step f) → List ℕ → Type 0
  Found [] code = code ≡ []
  Found (joins a ls b ∷ steps) code = (apply s a ≡ list_to f ls (apply s b)) × Found steps code
  Found (calls p n a b ∷ steps) code =
      (word : List Bytes) × (own : List ℕ) × (rest : List ℕ) × Derives grammar n word own × (apply s a ≡ list_to f word (apply s b))
      × (code ≡ own ++ rest) × Found steps rest

  pub record Parted (xs ys : List (Step f)) (code : List ℕ) : Type 0 where
    pub early : List ℕ
    pub late : List ℕ
    pub found_early : Found xs early
    pub found_late : Found ys late
    pub joined : code ≡ early ++ late

  pub parted : (xs ys : List (Step f)) (code : List ℕ) → Found (xs ++ ys) code → Parted xs ys code
  parted [] ys code h = record { early = []; late = code; found_early = refl; found_late = h; joined = refl }
  parted (joins a ls b ∷ xs) ys code h =
      let p = parted xs ys code h.1 in
      record { early = p.early; late = p.late; found_early = (h.0, p.found_early); found_late = p.found_late; joined = p.joined }
  parted (calls p n a b ∷ xs) ys code h =
      let q = parted xs ys h.2 h.6 in
      record {
        early = h.1 ++ q.early;
        late = q.late;
        found_early = (h.0, h.1, q.early, h.3, h.4, refl, q.found_early);
        found_late = q.found_late;
        joined = h.5 ∙ ap (λ (cs : List ℕ). h.1 ++ cs) q.joined ∙ sym (append_assoc h.1 q.early q.late);
      }

  -- what the steps of a body lead to
  pub record Read (m : ℕ → ℕ) (q : Path) (body : List Symbol) (k : ℕ) (code : List ℕ) : Type 0 where
    pub word : List Bytes
    pub derived : DerivesAll grammar body word code
    pub leads : s q (m k) ≡ list_to f word (s q (m (behind body k)))

  pub body_read : (m : ℕ → ℕ) (q : Path) (i : ℕ) (body : List Symbol) (k : ℕ) (code : List ℕ) → Found (steps_of f m q i body k) code
      → Read m q body k code
  body_read m q i [] k code h =
      record { word = []; derived = subst (DerivesAll grammar [] []) (sym h) nothing; leads = refl }
  body_read m q i (letters [] ∷ body) k code h =
      let r = body_read m q i body k code h in
      record { word = r.word; derived = terminals [] body r.word code r.derived; leads = r.leads }
  body_read m q i (letters (l ∷ ls) ∷ body) k code h =
      let r = body_read m q (suc i) body (suc k) code h.1 in
      record {
        word = (l ∷ ls) ++ r.word;
        derived = terminals (l ∷ ls) body r.word code r.derived;
        leads = h.0 ∙ ap (list_to f (l ∷ ls)) r.leads ∙ sym (list_both f (l ∷ ls) r.word (s q (m (behind body (suc k)))));
      }
  body_read m q i (phrase n ∷ body) k code h =
      let r = body_read m q (suc i) body (suc k) h.2 h.6 in
      record {
        word = h.0 ++ r.word;
        derived = subst (DerivesAll grammar (phrase n ∷ body) (h.0 ++ r.word)) (sym h.5) (part n body h.0 r.word h.1 h.2 h.3 r.derived);
        leads = h.4 ∙ ap (list_to f h.0) r.leads ∙ sym (list_both f h.0 r.word (s q (m (behind body (suc k)))));
      }

-- two lists and a call with them
between_same : (f : Bytes → ℕ) (n m : Bytes) (a b c d : Term) → between f n a b ≡ between f m c d → (f n ≡ f m) × (a ≡ c) × (b ≡ d)
between_same f n m a b c d e =
    let names : f n ≡ f m = cc in
    let parts : more a (more b none) ≡ more c (more d none) = cc in
    let left_is : a ≡ c = cc in
    let rests : more b none ≡ more d none = cc in
    let right_is : b ≡ d = cc in
    (names, left_is, right_is)

equal_numbers : (i j : ℕ) → nat_eq i j ≡ true → i ≡ j
equal_numbers i j h = grind (arith, nat_tests, h)

same_name : (f : Bytes → ℕ) (n m : Bytes) (a b c d : Term) → same_predicate (between f n a b) (between f m c d) ≡ true → f n ≡ f m
same_name f n m a b c d e = equal_numbers (f n) (f m) (and_left (nat_eq (f n) (f m)) true e)

-- a call in which a rule's clause is taken
module _ (f : Bytes → ℕ) (P : Program) (grammar : List Rule) (s : Substitution) where
  pub record Taken (n : Bytes) (a b : Term) (c : ℕ) (own : List ℕ) : Type 0 where
    pub all : List Bytes
    pub derived : Derives grammar n all (c ∷ own)
    pub leads : apply s a ≡ list_to f all (apply s b)

  call_taken : IsProgramOf f P grammar → (q : Path) (n : Bytes) (a b : Term) (c : ℕ) (r : Rule) → IsNumber c grammar r
      → (k : IsClauseOf f (clause_at P c) r) → Of P (between f n a b) c → apply s (between f n a b) ≡ apply s (head_in P q c) → (own : List ℕ)
      → (d : Read f grammar s k.number q (others r.body) 0 own) → Taken n a b c own
  call_taken is q n a b c r numbered k takes same own d =
      let from : Term = list_to f (first r.body) (variable [] (k.number 0)) in
      let to : Term = variable [] (k.number (states (others r.body))) in
      let at_end : behind (others r.body) 0 ≡ states (others r.body) = omega (arith, behind_states (others r.body) 0) in
      let predicate : same_predicate (between f n a b) (between f r.head from to) ≡ true =
      ap (same_predicate (between f n a b)) (sym k.head_is)
      ∙ and_right (ltb 0 c && leb c (length P.clauses)) (same_predicate (between f n a b) (clause_at P c).head) takes in
      let named : r.head ≡ n = is.heads c r numbered n (same_name f n r.head a b from to predicate) in
      let both : between f n (apply s a) (apply s b) ≡ between f r.head (apply s (framed q from)) (s q (k.number (states (others r.body)))) =
      same ∙ ap (λ (t : Term). apply s (framed q t)) k.head_is in
      let sides = between_same f n r.head _ _ _ _ both in
      let begins : apply s (framed q from) ≡ list_to f (first r.body) (s q (k.number 0)) =
      ap (apply s) (apply_list f (λ p j. variable q j) (first r.body) (variable [] (k.number 0)))
      ∙ apply_list f s (first r.body) (variable q (k.number 0)) in
      let ends : s q (k.number (behind (others r.body) 0)) ≡ apply s b = ap (λ (j : ℕ). s q (k.number j)) at_end ∙ sym sides.2 in
      record {
        all = first r.body ++ d.word;
        derived = subst (λ (x : Bytes). Derives grammar x (first r.body ++ d.word) (c ∷ own)) named
            (derivations.by c r (first r.body ++ d.word) own numbered (with_first grammar r.body d.word own d.derived));
        leads = sides.1 ∙ begins ∙ ap (list_to f (first r.body)) (d.leads ∙ ap (list_to f d.word) ends)
            ∙ sym (list_both f (first r.body) d.word (apply s b));
      }

  -- What a whole tree over steps finds under a substitution that solves its equations; and it has no arithmetic.
  pub found : IsProgramOf f P grammar → {ag : Agenda} (t : Tree P ag) → IsWhole t → (steps : List (Step f)) → ag ≡ before f steps end
      → Solves s (equations t) → Found f grammar s steps (code t) × (arithmetics t ≡ [])
  found is done w [] e h = (refl, refl)
  found is done w (joins a ls b ∷ steps) e h = absurd (cc)
  found is done w (calls p n a b ∷ steps) e h = absurd (cc)
  found is (left t) w steps e h = elim w [ ]
  found is (reckon t) w [] e h = absurd (cc)
  found is (reckon t) w (joins a ls b ∷ steps) e h = absurd (cc)
  found is (reckon t) w (calls p n a b ∷ steps) e h = absurd (cc)
  found is (equate t) w [] e h = absurd (cc)
  found is (equate t) w (calls p n a b ∷ steps) e h = absurd (cc)
  found is (equate {a = x} {b = y} {rest = rest} t) w (joins a ls b ∷ steps) e h =
      let from : x ≡ a = cc in
      let to : y ≡ list_to f ls b = cc in
      let on : rest ≡ before f steps end = cc in
      let r = found is t w steps on h.1 in
      ((ap (apply s) (sym from) ∙ h.0 ∙ ap (apply s) to ∙ apply_list f s ls b, r.0), r.1)
  found is (by c takes t) w [] e h = absurd (cc)
  found is (by c takes t) w (joins a ls b ∷ steps) e h = absurd (cc)
  found is (by {q = q} {g = g} {rest = rest} c takes t) w (calls p n a b ∷ steps) e h =
      let asked : g ≡ between f n a b = cc in
      let on : rest ≡ before f steps end = cc in
      let bounds = of_bounds P g c takes in
      let known = is.rule_of c bounds.0 bounds.1 in
      let r : Rule = known.0 in
      let k : IsClauseOf f (clause_at P c) r = known.2 in
      let own : List (Step f) = steps_of f k.number q 0 (others r.body) 0 in
      let next : agenda q 0 (clause_at P c).body rest ≡ before f (own ++ steps) end =
      ap (λ items. agenda q 0 items rest) k.body_is ∙ body_agenda f k.number q 0 (others r.body) 0 rest
      ∙ ap (before f own) on ∙ sym (before_both f own steps end) in
      let all = found is t w (own ++ steps) next h.1 in
      let two = parted f grammar s own steps (code t) all.0 in
      let d = body_read f grammar s k.number q 0 (others r.body) 0 two.early two.found_early in
      let taken = call_taken is q n a b c r known.1 k (subst (λ (x : Term). Of P x c) asked takes) (ap (apply s) (sym asked) ∙ h.0) two.early d in (
        (taken.all, c ∷ two.early, two.late, taken.derived, taken.leads, ap (λ (cs : List ℕ). c ∷ cs) two.joined, two.found_late),
        all.1,
      )
