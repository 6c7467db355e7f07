-- From each state some words lead to the end of the clause.
use Rattle.std.proofs.Common.{◌≡◌, Bool, true, false, List, [], ◌∷◌, Option, Some, None, refl, ◌∙◌, pos}
use Rattle.std.specs.Prelude.{codes, neg_ℤ}
use Rattle.and_model.specs.Lines.{Bytes}
use Rattle.and_syntax.specs.Written
use Rattle.and_syntax.specs.Written.{Written}
use Rattle.and_language.specs.Words.{Word}
use Rattle.and_language.specs.Words as words
use Rattle.and_language.specs.Grammar.{binary, unary, cell, nil, Sort, symbol_of, sort_of}
use Rattle.and_automaton.specs.Machine.{Pending, nothing_pending, at700, Bracket, plain, braces, arguments, elements, tail, Frame, ClausePart, head, body}
use Rattle.and_automaton.specs.Machine.{query, Outermost, wanted, numeral, operand, State, start, inside, opened_list, over, at1100, many, list}
use Rattle.and_automaton.specs.Machine.{go, exceeds, run}
use Rattle.and_automaton.proofs.Steps.{run_step}

module _ (limited : Bool) where
  -- what closes these brackets and ends the clause
  abbrev Ends : State → Type 0
  Ends s = (us : List Word) × (q : Sort) × (w : Written) × (run limited s us ≡ Some (over q w))

  -- where a word within the limits leads on
  by_word : (s : State) (x : Word) (t : State) → (limited ≡ true → exceeds s x ≡ false) → go s x ≡ Some t → Ends t → Ends s
  by_word s x t low goes (us, q, w, e) = (x ∷ us, q, w, run_step limited s x t us low goes ∙ e)

  operand_ends : (l : Outermost) (fs : List Frame) (p : Pending) (w : Written) (f : Option Bytes) → Ends (inside l fs p (operand w f))
  operand_ends l [] p w f = by_part l.part l.alternatives l.before
    where
      outside : ClausePart → List Written → List Written → State
      outside k es b = inside (record { part = k; alternatives = es; before = b }) [] p (operand w f)

      by_part : (k : ClausePart) (es b : List Written) → Ends (outside k es b)
      by_part head es b =
          let t : State = over Sort.clause (at1100 es b (at700 p w)) in
          by_word (outside head es b) words.end t (λ _. refl) refl ([], Sort.clause, at1100 es b (at700 p w), refl)
      by_part (body n h) es b =
          let v : Written = binary (symbol_of n) h (at1100 es b (at700 p w)) in
          by_word (outside (body n h) es b) words.end (over (sort_of n) v) (λ _. refl) refl ([], sort_of n, v, refl)
      by_part query es b =
          let v : Written = unary (codes "?-") (at1100 es b (at700 p w)) in
          by_word (outside query es b) words.end (over Sort.query v) (λ _. refl) refl ([], Sort.query, v, refl)
  operand_ends l (f ∷ fs) p w g =
      by_bracket f.bracket f.before (λ v. operand_ends l fs f.outside v None)
    where
      within_it : Bracket → List Written → State
      within_it k b = inside l (record { bracket = k; before = b; outside = f.outside } ∷ fs) p (operand w g)

      behind_it : Written → State
      behind_it v = inside l fs f.outside (operand v None)

      by_bracket : (k : Bracket) (b : List Written) → ((v : Written) → Ends (behind_it v)) → Ends (within_it k b)
      by_bracket (plain es) b go_on =
          let v : Written = at1100 es b (at700 p w) in
          by_word (within_it (plain es) b) words.close_bracket (behind_it v) (λ _. refl) refl (go_on v)
      by_bracket (braces es) b go_on =
          let v : Written = unary (codes "{}") (at1100 es b (at700 p w)) in
          by_word (within_it (braces es) b) words.close_brace (behind_it v) (λ _. refl) refl (go_on v)
      by_bracket (arguments c) b go_on =
          let v : Written = Written.compound c (many b (Written.more (at700 p w) Written.none)) in
          by_word (within_it (arguments c) b) words.close_bracket (behind_it v) (λ _. refl) refl (go_on v)
      by_bracket elements b go_on =
          let v : Written = list b (cell (at700 p w) nil) in
          by_word (within_it elements b) words.close_list (behind_it v) (λ _. refl) refl (go_on v)
      by_bracket tail b go_on =
          let v : Written = list b (at700 p w) in
          by_word (within_it tail b) words.close_list (behind_it v) (λ _. refl) refl (go_on v)

  pub state_ends : (s : State) → Ends s
  state_ends start =
      let x : Written = Written.variable (codes "X") in
      let l : Outermost = record { part = head; alternatives = []; before = [] } in
      by_word start (words.variable (codes "X")) (inside l [] nothing_pending (operand x None)) (λ _. refl) refl
      (operand_ends l [] nothing_pending x None)
  state_ends (inside l fs p wanted) =
      let x : Written = Written.variable (codes "X") in
      by_word (inside l fs p wanted) (words.variable (codes "X")) (inside l fs p (operand x None)) (λ _. refl) refl (operand_ends l fs p x None)
  state_ends (inside l fs p numeral) =
      let x : Written = Written.integer (neg_ℤ (pos 1)) in
      by_word (inside l fs p numeral) (words.integer 1) (inside l fs p (operand x None)) (λ _. refl) refl (operand_ends l fs p x None)
  state_ends (inside l fs p (operand w f)) = operand_ends l fs p w f
  state_ends (opened_list l fs p) =
      by_word (opened_list l fs p) words.close_list (inside l fs p (operand nil None)) (λ _. refl) refl (operand_ends l fs p nil None)
  state_ends (over q w) = ([], q, w, refl)
