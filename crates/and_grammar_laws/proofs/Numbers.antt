-- The clause for which a rule stands, its variables and their numbers.
use Rattle.std.proofs.Common.{ℕ, zero, suc, ◌≡◌, ◌+◌, ◌<◌, ◌≤◌, ◌^◌, Bool, true, false, cond, nat_eq, List, [], ◌∷◌, map, codes}
use Rattle.std.proofs.Common.{refl, ap, ◌∙◌, arith}
use Rattle.std.specs.Fmt.{decimal}
use Rattle.std.proofs.Common.{inl, inr}
use Rattle.std.proofs.lemmas.Bool.{cases_eq}
use Rattle.std.proofs.lemmas.Fmt.{decimal_injective}
use Rattle.std.proofs.lemmas.Bool.Decides.{nat_tests}
use Rattle.and_model.specs.Lines.{Bytes}
use Rattle.and_syntax.specs.Written.{Written, compound, none, more, has, place, met_after, nodes_of}
use Rattle.and_syntax.proofs.Names.{one-name}
use Rattle.and_translation.specs.Bodies.{body_of, behind_first}
use Rattle.and_translation.specs.Translation.{state, equation, list_before, joined, translated, clause_from, walk}
use Rattle.and_grammar_laws.specs.Derivations.{Symbol, letters, phrase, Rule}
use Rattle.and_grammar_laws.specs.Grammars.{atom, IsWrittenRule}
use Rattle.and_grammar_laws.proofs.Chains.{first, others, states, behind}
use Rattle.and_grammar_laws.proofs.Settled.{HasNames, grows_met, variable_met}
use Rattle.and_grammar_laws.proofs.Walking.{goals_of, walked_behind, first_is}

-- the head of a rule's clause
abbrev pub head_written : Rule → Written
head_written r =
    compound r.head (more (list_before (map atom (first r.body)) (state 0)) (more (state (behind (others r.body) 0)) none))

-- and the clause
abbrev pub clause_written : Rule → Written
clause_written r = compound (codes ":-") (more (head_written r) (more (joined (goals_of (others r.body) 0)) none))

pub translated_rule : (w : Written) (r : Rule) → IsWrittenRule w r → translated w ≡ clause_written r
translated_rule w r h =
    ap translated h.written
    ∙ ap (λ (ts : List Written). clause_from (atom r.head) ts (walk (behind_first (body_of h.body)) 0 1)) (first_is (body_of h.body) r.body h.holds)
    ∙ ap (clause_from (atom r.head) (map atom (first r.body))) (walked_behind (body_of h.body) r.body h.holds 0)

-- its variables have names
pub list_named : (ls : List Bytes) (t : Written) → HasNames t → HasNames (list_before (map atom ls) t)
list_named [] t h = h
list_named (l ∷ ls) t h = (tt, (list_named ls t h, tt))

joined_named : (g : Written) (gs : List Written) → HasNames g → HasNames (joined gs) → HasNames (joined (g ∷ gs))
joined_named g [] h k = h
joined_named g (x ∷ gs) h k = (h, (k, tt))

goals_named : (body : List Symbol) (s : ℕ) → HasNames (joined (goals_of body s))
goals_named [] s = tt
goals_named (letters [] ∷ body) s = goals_named body s
goals_named (letters (l ∷ ls) ∷ body) s =
    joined_named (equation (state s) (list_before (map atom (l ∷ ls)) (state (suc s)))) (goals_of body (suc s))
    (refl, (list_named (l ∷ ls) (state (suc s)) refl, tt)) (goals_named body (suc s))
goals_named (phrase n ∷ body) s =
    joined_named (compound n (more (state s) (more (state (suc s)) none))) (goals_of body (suc s)) (refl, (refl, tt)) (goals_named body (suc s))

pub clause_named : (r : Rule) → HasNames (clause_written r)
clause_named r = ((list_named (first r.body) (state 0) refl, (refl, tt)), (goals_named (others r.body) 0, tt))

-- what is met
pub list_met : (ls : List Bytes) (met : List Bytes) (t : Written) → met_after met (list_before (map atom ls) t) ≡ met_after met t
list_met [] met t = refl
list_met (l ∷ ls) met t = list_met ls met t

joined_met : (g : Written) (gs : List Written) (met : List Bytes) (x : Bytes) → has x (met_after (met_after met g) (joined gs)) ≡ true
    → has x (met_after met (joined (g ∷ gs))) ≡ true
joined_met g [] met x h = h
joined_met g (k ∷ gs) met x h = h

goal_met : (g : Written) (gs : List Written) (met : List Bytes) (x : Bytes) → has x (met_after met g) ≡ true → has x (met_after met (joined (g ∷ gs))) ≡ true
goal_met g gs met x h = joined_met g gs met x (grows_met (met_after met g) (joined gs) x h).0

abbrev pub state_name : ℕ → Bytes
state_name k = 255 ∷ decimal k

-- each state behind a goal is met
goals_met : (body : List Symbol) (s : ℕ) (met : List Bytes) (j : ℕ) → j < states body
    → has (state_name (suc s + j)) (met_after met (joined (goals_of body s))) ≡ true
goals_met [] s met j lt = absurd (omega arith)
goals_met (letters [] ∷ body) s met j lt = goals_met body s met j lt
goals_met (letters (l ∷ ls) ∷ body) s met zero lt =
    let z : suc s + 0 ≡ suc s = omega arith in
    let g : Written = equation (state s) (list_before (map atom (l ∷ ls)) (state (suc s))) in
    let before : List Bytes = met_after met (state s) in
    ap (λ (k : ℕ). has (state_name k) (met_after met (joined (goals_of (letters (l ∷ ls) ∷ body) s)))) z
    ∙ goal_met g (goals_of body (suc s)) met (state_name (suc s))
    (ap (has (state_name (suc s))) (list_met (l ∷ ls) before (state (suc s))) ∙ variable_met (state_name (suc s)) before refl)
goals_met (letters (l ∷ ls) ∷ body) s met (suc j) lt =
    let z : suc s + suc j ≡ suc (suc s) + j = omega arith in
    let g : Written = equation (state s) (list_before (map atom (l ∷ ls)) (state (suc s))) in
    ap (λ (k : ℕ). has (state_name k) (met_after met (joined (goals_of (letters (l ∷ ls) ∷ body) s)))) z
    ∙ joined_met g (goals_of body (suc s)) met (state_name (suc (suc s) + j)) (goals_met body (suc s) (met_after met g) j (omega arith))
goals_met (phrase n ∷ body) s met zero lt =
    let z : suc s + 0 ≡ suc s = omega arith in
    let g : Written = compound n (more (state s) (more (state (suc s)) none)) in
    ap (λ (k : ℕ). has (state_name k) (met_after met (joined (goals_of (phrase n ∷ body) s)))) z
    ∙ goal_met g (goals_of body (suc s)) met (state_name (suc s)) (variable_met (state_name (suc s)) (met_after met (state s)) refl)
goals_met (phrase n ∷ body) s met (suc j) lt =
    let z : suc s + suc j ≡ suc (suc s) + j = omega arith in
    let g : Written = compound n (more (state s) (more (state (suc s)) none)) in
    ap (λ (k : ℕ). has (state_name k) (met_after met (joined (goals_of (phrase n ∷ body) s)))) z
    ∙ joined_met g (goals_of body (suc s)) met (state_name (suc (suc s) + j)) (goals_met body (suc s) (met_after met g) j (omega arith))

-- all states of a rule's clause are met
pub states_met : (r : Rule) (j : ℕ) → j ≤ states (others r.body) → has (state_name j) (met_after [] (clause_written r)) ≡ true
states_met r zero le =
    let one : List Bytes = met_after [] (state 0) in
    let two : List Bytes = met_after one (state (behind (others r.body) 0)) in
    ap (λ (met : List Bytes). has (state_name 0) (met_after (met_after met (state (behind (others r.body) 0))) (joined (goals_of (others r.body) 0))))
    (list_met (first r.body) [] (state 0))
    ∙ (grows_met two (joined (goals_of (others r.body) 0)) (state_name 0)
    (grows_met one (state (behind (others r.body) 0)) (state_name 0) (variable_met (state_name 0) [] refl)).0).0
states_met r (suc j) le =
    let z : suc j ≡ suc 0 + j = omega arith in
    let met : List Bytes = met_after (met_after [] (list_before (map atom (first r.body)) (state 0))) (state (behind (others r.body) 0)) in
    ap (λ (k : ℕ). has (state_name k) (met_after met (joined (goals_of (others r.body) 0)))) z
    ∙ goals_met (others r.body) 0 met j (omega arith)

-- how many states there are
joined_nodes : (g : Written) (gs : List Written) → 2 ≤ nodes_of g → nodes_of (joined gs) + 1 ≤ nodes_of (joined (g ∷ gs))
joined_nodes g [] le = omega arith
joined_nodes g (x ∷ gs) le = omega arith

goals_nodes : (body : List Symbol) (s : ℕ) → states body ≤ nodes_of (joined (goals_of body s))
goals_nodes [] s = omega arith
goals_nodes (letters [] ∷ body) s = goals_nodes body s
goals_nodes (letters (l ∷ ls) ∷ body) s =
    omega (
      arith,
      goals_nodes body (suc s),
      joined_nodes (equation (state s) (list_before (map atom (l ∷ ls)) (state (suc s)))) (goals_of body (suc s)) (omega arith),
    )
goals_nodes (phrase n ∷ body) s =
    omega (arith, goals_nodes body (suc s), joined_nodes (compound n (more (state s) (more (state (suc s)) none))) (goals_of body (suc s)) (omega arith))

pub clause_nodes : (r : Rule) → states (others r.body) ≤ nodes_of (clause_written r)
clause_nodes r = omega (arith, goals_nodes (others r.body) 0)

-- the state whose place among these variables is x
abbrev pub state_at : List Bytes → ℕ → ℕ → ℕ
state_at M zero x = 0
state_at M (suc n) x = cond (nat_eq (place (state_name (suc n)) M) x) (suc n) (state_at M n x)

abbrev tail_of : Bytes → Bytes
tail_of [] = []
tail_of (b ∷ bs) = bs

equal_numbers : (n m : ℕ) → n ≡ m → nat_eq n m ≡ true
equal_numbers n m e = grind (arith, nat_tests)

other_numbers : (n m : ℕ) → (n ≡ m → ⊥) → nat_eq n m ≡ false
other_numbers n m d = grind (arith, nat_tests)

at_most : (n j k : ℕ) → n ≡ suc k → j ≤ n → (n ≡ j → ⊥) → j ≤ k
at_most n j k e le d = grind arith

one_state : (i j : ℕ) → i < 2 ^ 64 → j < 2 ^ 64 → state_name i ≡ state_name j → i ≡ j
one_state i j low high e = decimal_injective i j low high (ap tail_of e)

pub state_back : (M : List Bytes) (n : ℕ) → n < 2 ^ 64 → ((j : ℕ) → j ≤ n → has (state_name j) M ≡ true)
    → (j : ℕ) → j ≤ n → state_at M n (place (state_name j) M) ≡ j
state_back M zero few there j le = omega arith
state_back M (suc n) few there j le =
    elim (cases_eq (suc n) j) [
      | inl e ↦
          let same : nat_eq (place (state_name (suc n)) M) (place (state_name j) M) ≡ true =
          equal_numbers (place (state_name (suc n)) M) (place (state_name j) M) (ap (λ (k : ℕ). place (state_name k) M) e) in
          ap (λ (b : Bool). cond b (suc n) (state_at M n (place (state_name j) M))) same ∙ e
      | inr d ↦
          let apart : nat_eq (place (state_name (suc n)) M) (place (state_name j) M) ≡ false =
          other_numbers (place (state_name (suc n)) M) (place (state_name j) M)
          (λ e. d (one_state (suc n) j (omega arith) (omega arith)
          (one-name (state_name (suc n)) (state_name j) M (there (suc n) (omega arith)) (there j le) e))) in
          let below : j ≤ n = at_most (suc n) j n refl le d in
          ap (λ (b : Bool). cond b (suc n) (state_at M n (place (state_name j) M))) apart
          ∙ state_back M n (omega arith) (λ i l. there i (omega arith)) j below
    ]
