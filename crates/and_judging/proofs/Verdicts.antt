-- What is wrong with a clause or a query.
use Rattle.std.proofs.Common.{ℕ, suc, ◌+◌, ◌≡◌, ◌<◌, ◌≤◌, Bool, true, false, not, cond, ◌||◌, ltb, List, [], ◌∷◌, length, get_or, Option, Some, None}
use Rattle.std.proofs.Common.{refl, sym, ap, ◌∙◌, arith}
use Rattle.std.proofs.lemmas.Bool.Decides.{nat_tests}
use Rattle.and_model.specs.Terms.{Term}
use Rattle.and_syntax.specs.Written.{Written, met_after}
use Rattle.and_syntax.specs.Clauses.{Parts, is_built_in, is_refused, head_of, body_of, asked_of, is_named, name_of, arity_of, alternatives_of}
use Rattle.and_syntax.specs.Tables.{Table, Fault, first_of, not_pure, redefines, too_big, variables, nodes, clauses, second_query, is_asked}
use Rattle.and_syntax.specs.Tables.{names_with, term_with, nodes_with, sizes, clause_fault, query_fault}

stops : (b : Bool) (f : Fault) (fs : List (Bool × Fault)) → b ≡ true → first_of ((b, f) ∷ fs) ≡ Some f
stops b f fs e = ap (λ (v : Bool). cond v (Some f) (first_of fs)) e

skips : (b : Bool) (f : Fault) (fs : List (Bool × Fault)) → b ≡ false → first_of ((b, f) ∷ fs) ≡ first_of fs
skips b f fs e = ap (λ (v : Bool). cond v (Some f) (first_of fs)) e

or_right : (b : Bool) → b || true ≡ true
or_right true = refl
or_right false = refl

above : (a b : ℕ) → a < b → ltb a b ≡ true
above a b lt = grind (arith, nat_tests)

within : (a b : ℕ) → b ≤ a → ltb a b ≡ false
within a b le = grind (arith, nat_tests)

-- ---- The sizes.
module _ (T : Table) (w : Written) (ps : Parts) (n : ℕ) where
  abbrev others : List (Bool × Fault)
  others = (ltb 524288 (T.nodes + nodes_with T w ps), too_big nodes) ∷ (ltb 65535 (T.numbers + n), too_big clauses) ∷ []

  abbrev last : List (Bool × Fault)
  last = (ltb 65535 (T.numbers + n), too_big clauses) ∷ []

  pub many_variables : 255 < length (met_after [] w) → first_of (sizes T w ps n) ≡ Some (too_big variables)
  many_variables lt = stops (ltb 255 (length (met_after [] w))) (too_big variables) others (above 255 (length (met_after [] w)) lt)

  few_variables : length (met_after [] w) ≤ 255 → first_of (sizes T w ps n) ≡ first_of others
  few_variables le = skips (ltb 255 (length (met_after [] w))) (too_big variables) others (within 255 (length (met_after [] w)) le)

  pub many_nodes : length (met_after [] w) ≤ 255 → 524288 < T.nodes + nodes_with T w ps → first_of (sizes T w ps n) ≡ Some (too_big nodes)
  many_nodes le lt =
      few_variables le ∙ stops (ltb 524288 (T.nodes + nodes_with T w ps)) (too_big nodes) last (above 524288 (T.nodes + nodes_with T w ps) lt)

  few_nodes : length (met_after [] w) ≤ 255 → T.nodes + nodes_with T w ps ≤ 524288 → first_of (sizes T w ps n) ≡ first_of last
  few_nodes le few =
      few_variables le ∙ skips (ltb 524288 (T.nodes + nodes_with T w ps)) (too_big nodes) last (within 524288 (T.nodes + nodes_with T w ps) few)

  pub many_clauses : length (met_after [] w) ≤ 255 → T.nodes + nodes_with T w ps ≤ 524288 → 65535 < T.numbers + n
      → first_of (sizes T w ps n) ≡ Some (too_big clauses)
  many_clauses le few lt = few_nodes le few ∙ stops (ltb 65535 (T.numbers + n)) (too_big clauses) [] (above 65535 (T.numbers + n) lt)

  pub all_few : length (met_after [] w) ≤ 255 → T.nodes + nodes_with T w ps ≤ 524288 → T.numbers + n ≤ 65535 → first_of (sizes T w ps n) ≡ None
  all_few le few least = few_nodes le few ∙ skips (ltb 65535 (T.numbers + n)) (too_big clauses) [] (within 65535 (T.numbers + n) least)

-- ---- A clause.
module _ (T : Table) (w : Written) where
  abbrev head : Term
  head = head_of (term_with T w)

  abbrev body : Parts
  body = body_of (term_with T w)

  abbrev later : List (Bool × Fault)
  later = sizes T w body (suc (alternatives_of body))

  abbrev redefined : Fault
  redefined = redefines (get_or (names_with T w) (name_of head) []) (arity_of head)

  abbrev more : List (Bool × Fault)
  more = (is_built_in (name_of head) (arity_of head), redefined) ∷ later

  pub unnamed : is_named (head_of (term_with T w)) ≡ false → clause_fault T w ≡ Some not_pure
  unnamed e = stops (not (is_named head) || is_refused body) not_pure more (ap (λ b. not b || is_refused body) e)

  pub impure : is_refused (body_of (term_with T w)) ≡ true → clause_fault T w ≡ Some not_pure
  impure e =
      stops (not (is_named head) || is_refused body) not_pure more (ap (λ b. not (is_named head) || b) e ∙ or_right (not (is_named head)))

  pure : is_named head ≡ true → is_refused body ≡ false → clause_fault T w ≡ first_of more
  pure e h =
      skips (not (is_named head) || is_refused body) not_pure more (ap (λ b. not b || is_refused body) e ∙ h)

  pub built_in : (c n : ℕ) (f : Option Fault) → is_named (head_of (term_with T w)) ≡ true → name_of (head_of (term_with T w)) ≡ c
      → arity_of (head_of (term_with T w)) ≡ n → is_refused (body_of (term_with T w)) ≡ false → is_built_in c n ≡ true
      → f ≡ Some (redefines (get_or (names_with T w) c []) n) → clause_fault T w ≡ f
  built_in c n f e name arity h is made =
      let taken : is_built_in (name_of head) (arity_of head) ≡ true = ap (λ k. is_built_in k (arity_of head)) name ∙ ap (is_built_in c) arity ∙ is in
      pure e h ∙ stops (is_built_in (name_of head) (arity_of head)) redefined later taken
      ∙ ap (λ k. Some (redefines (get_or (names_with T w) k []) (arity_of head))) name
      ∙ ap (λ k. Some (redefines (get_or (names_with T w) c []) k)) arity ∙ sym made

  pub sized : (c n : ℕ) → is_named (head_of (term_with T w)) ≡ true → name_of (head_of (term_with T w)) ≡ c
      → arity_of (head_of (term_with T w)) ≡ n → is_refused (body_of (term_with T w)) ≡ false → is_built_in c n ≡ false
      → clause_fault T w ≡ first_of (sizes T w (body_of (term_with T w)) (suc (alternatives_of (body_of (term_with T w)))))
  sized c n e name arity h is =
      let free : is_built_in (name_of head) (arity_of head) ≡ false = ap (λ k. is_built_in k (arity_of head)) name ∙ ap (is_built_in c) arity ∙ is in
      pure e h ∙ skips (is_built_in (name_of head) (arity_of head)) redefined later free

  -- ---- A query.
  abbrev asked : Parts
  asked = asked_of (term_with T w)

  abbrev limits : List (Bool × Fault)
  limits = sizes T w asked (alternatives_of asked)

  first_query : T.asked ≡ None → query_fault T w ≡ first_of ((is_refused asked, not_pure) ∷ limits)
  first_query e = skips (is_asked T.asked) second_query ((is_refused asked, not_pure) ∷ limits) (ap is_asked e)

  pub impure_query : T.asked ≡ None → is_refused (asked_of (term_with T w)) ≡ true → query_fault T w ≡ Some not_pure
  impure_query e h = first_query e ∙ stops (is_refused asked) not_pure limits h

  pub sized_query : T.asked ≡ None → is_refused (asked_of (term_with T w)) ≡ false
      → query_fault T w ≡ first_of (sizes T w (asked_of (term_with T w)) (alternatives_of (asked_of (term_with T w))))
  sized_query e h = first_query e ∙ skips (is_refused asked) not_pure limits h

  pub second : (f : Option Fault) → is_asked T.asked ≡ true → f ≡ Some second_query → query_fault T w ≡ f
  second f e h = stops (is_asked T.asked) second_query ((is_refused asked, not_pure) ∷ limits) e ∙ sym h
