-- Codes of a query for a word are those of its derivations.
use Rattle.std.proofs.Common.{ℕ, ◌≡◌, List, [], ◌∷◌, ◌++◌, map, codes, Some, refl, sym, ap, ◌∙◌, subst}
use Rattle.std.proofs.lemmas.List.{append-nil}
use Rattle.and_model.specs.Lines.{Bytes, line, values_or_true, shown_value, first_seen, variables_along, shown_variables}
use Rattle.and_model.specs.Terms.{Path, Term, variable, compound, none, more, Substitution, apply}
use Rattle.and_model.specs.Solutions.{Equation, Solves}
use Rattle.and_model.specs.Programs.{Program, call, Arithmetic}
use Rattle.and_model.specs.Closure.{Closes, First}
use Rattle.and_model.specs.Trees.{Agenda, end, agenda, done, equations, arithmetics, code, IsWhole, QueryTree, HasOutcome, Closed, unfold_code}
use Rattle.and_model.specs.Listing.{Outcome, answer, outcome_of, Ends}
use Rattle.and_laws.proofs.Closing.{closing_keeps, closes_anyhow}
use Rattle.and_laws.proofs.Unfolding.{unfolding_code, code_unfolds, whole_decided}
use Rattle.and_grammar_laws.specs.Derivations.{Rule, Derives}
use Rattle.and_grammar_laws.proofs.Chains.{nil, list_to, between, apply_list, Step, calls, before, IsProgramOf}
use Rattle.and_grammar_laws.proofs.Finding.{found}
use Rattle.and_grammar_laws.proofs.Building.{Onward, placed}

-- no other name has the number of one of these
abbrev pub AreTold : (Bytes → ℕ) → List Bytes → Type 0
AreTold f [] = Unit {0}
AreTold f (x ∷ xs) = ((y : Bytes) → f y ≡ f x → x ≡ y) × AreTold f xs

-- The query asks for a word, none of whose letters has the number of another name; it has no variables.
pub record Asks (f : Bytes → ℕ) (P : Program) (n : Bytes) (word : List Bytes) : Type 0 where
  pub body_is : P.query.body ≡ call (between f n (list_to f word nil) nil) ∷ []
  pub written : P.query.written ≡ []
  pub letters : AreTold f word

same_word : (f : Bytes → ℕ) (xs ys : List Bytes) → AreTold f xs → list_to f xs nil ≡ list_to f ys nil → xs ≡ ys
same_word f [] [] h e = refl
same_word f [] (y ∷ ys) h e = absurd (cc)
same_word f (x ∷ xs) [] h e = absurd (cc)
same_word f (x ∷ xs) (y ∷ ys) h e =
    let parts : more (compound (f x) none) (more (list_to f xs nil) none) ≡ more (compound (f y) none) (more (list_to f ys nil) none) = cc in
    let atoms : compound (f x) none ≡ compound (f y) none = cc in
    let numbers : f x ≡ f y = cc in
    let rests : more (list_to f xs nil) none ≡ more (list_to f ys nil) none = cc in
    let lists : list_to f xs nil ≡ list_to f ys nil = cc in
    ap (λ (z : Bytes). z ∷ xs) (h.0 y (sym numbers)) ∙ ap (λ (zs : List Bytes). y ∷ zs) (same_word f xs ys h.1 lists)

-- where the query has no variables
true_line : (P : Program) (s : Substitution) → P.query.written ≡ [] → line P s [] ≡ codes "true"
true_line P s e =
    ap
    (λ (ns : List Bytes). values_or_true
    (map (shown_value P.names (first_seen [] (variables_along (map (λ (v : Bytes × ℕ). s [] v.1) (shown_variables 0 ns) ++ []))) s) (shown_variables 0 ns))
    ++ [])
    e

-- without arithmetic none is left
none_left : (es ds : List Equation) (gs ws : List Arithmetic) → Closes es gs ds ws → gs ≡ [] → ws ≡ []
none_left es ds gs ws (Closes.unsolved xs ys unsolvable) e = e
none_left es ds gs ws (Closes.waiting xs ys h) e = e
none_left es ds gs ws (Closes.run xs ys g bs ts zs vs w chosen known c) e = absurd (by ys chosen e)
  where
    by : (hs : List Arithmetic) → First xs hs g bs → hs ≡ [] → ⊥
    by [] k d = elim k [ ]
    by (h ∷ hs) k d = absurd (cc)

abbrev one_step : (f : Bytes → ℕ) (n : Bytes) (word : List Bytes) → List (Step f)
one_step f n word = calls (0 ∷ []) n (list_to f word nil) nil ∷ []

module _ (f : Bytes → ℕ) (P : Program) (grammar : List Rule) (n : Bytes) (word : List Bytes) (is : IsProgramOf f P grammar) (asks : Asks f P n word) where
  query_steps : agenda [] 0 P.query.body end ≡ before f (one_step f n word) end
  query_steps =
      ap (λ items. agenda [] 0 items end) asks.body_is
      ∙ ap (λ (t : Term). before f (calls (0 ∷ []) n t nil ∷ []) end) (apply_list f (λ r j. variable [] j) word nil)

  -- a solved whole tree is of a derivation, and has no arithmetic
  tree_derives : (t : QueryTree P) → IsWhole t → (s : Substitution) → Solves s (equations t) → Derives grammar n word (code t) × (arithmetics t ≡ [])
  tree_derives t whole s solved =
      let r = found f P grammar s is t whole (one_step f n word) query_steps solved in
      let d = r.0 in
      let reads : list_to f word nil ≡ list_to f d.0 nil = sym (apply_list f s word nil) ∙ d.4 in
      let same : word ≡ d.0 = same_word f word d.0 asks.letters reads in
      let codes_are : d.1 ≡ code t = sym (append-nil d.1) ∙ ap (λ (cs : List ℕ). d.1 ++ cs) (sym d.6) ∙ sym d.5 in
      (subst (Derives grammar n word) codes_are (subst (λ (w : List Bytes). Derives grammar n w d.1) (sym same) d.3), r.1)

  abbrev query_values : (Path → ℕ → Term) → Substitution
  query_values values [] x = nil
  query_values values (i ∷ p) x = values p x

  pub derivation_has_outcome : (cs : List ℕ) → Derives grammar n word cs → (t : QueryTree P) × (unfold_code P cs ≡ Some t) × HasOutcome t
  derivation_has_outcome cs d =
      let p = placed f P grammar is n word cs d [] in
      let s : Substitution = query_values p.values in
      let begins : apply s (list_to f word nil) ≡ list_to f (word ++ []) nil =
      apply_list f s word nil ∙ ap (λ (w : List Bytes). list_to f w nil) (sym (append-nil word)) in
      let on : Onward f P s (before f (one_step f n word) end) end done cs =
      p.built s (0 ∷ []) (list_to f word nil) nil end done (λ q x. refl) tt tt begins refl in
      let there : Onward f P s (agenda [] 0 P.query.body end) end done cs =
      subst (λ (ag : Agenda). Onward f P s ag end done cs) (sym query_steps) on in
      let t : QueryTree P = there.tree in
      let closed : Closed t (equations t) [] =
      subst (λ (gs : List Arithmetic). Closes (equations t) gs (equations t) []) (sym there.bare) (Closes.waiting (equations t) [] tt) in
      let coded : code t ≡ cs = there.coded ∙ append-nil cs in
      let unfolds : unfold_code P cs ≡ Some t =
      ap (unfold_code P) (sym coded) ∙ code_unfolds P t (whole_decided t there.whole) in
      (t, unfolds, (equations t, [], there.whole, closed, (s, there.solved)))

  pub outcome_is_derived : (cs : List ℕ) → (t : QueryTree P) × (unfold_code P cs ≡ Some t) × HasOutcome t → Derives grammar n word cs
  outcome_is_derived cs h =
      let o = h.2 in
      let solved : Solves o.4.0 (equations h.0) =
      closing_keeps (equations h.0) (arithmetics h.0) o.0 o.1 (closes_anyhow (equations h.0) (arithmetics h.0) o.0 o.1 o.3) o.4.0 o.4.1 in
      subst (Derives grammar n word) (unfolding_code P cs h.0 h.1).0 (tree_derives h.0 o.2 o.4.0 solved).0

  pub answers_true : (t : QueryTree P) (o : Outcome) → Ends t o → o ≡ answer (codes "true")
  answers_true t o h =
      let solved : Solves h.4 (equations t) =
      closing_keeps (equations t) (arithmetics t) h.1 h.2 (closes_anyhow (equations t) (arithmetics t) h.1 h.2 h.3) h.4 h.5.0 in
      let bare : arithmetics t ≡ [] = (tree_derives t h.0 h.4 solved).1 in
      let gone : h.2 ≡ [] = none_left (equations t) h.1 (arithmetics t) h.2 h.3 bare in
      h.6 ∙ ap (λ (gs : List Arithmetic). outcome_of gs (line P h.4 gs)) gone ∙ ap answer (true_line P h.4 asks.written)
