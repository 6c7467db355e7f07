-- The places of variables on a line: what comes later changes none.
use Rattle.std.proofs.Common.{ℕ, suc, ◌≡◌, ◌+◌, Bool, true, false, true≢false, ◌||◌, not, cond, List, [], ◌∷◌, ◌++◌, refl, sym, ap, ◌∙◌, arith, append_assoc}
use Rattle.std.proofs.Common.{append-nil, map, nat_eq, eq-eqb}
use Rattle.std.specs.List.{list_any, position_or_len}
use Rattle.std.specs.Fmt.{decimal}
use Rattle.std.proofs.lemmas.List.{map-append}
use Rattle.indexmap.specs.IndexSet.{insert_key}
use Rattle.and_model.specs.Lines.{Bytes, same_variable, has, first_seen, place_of}
use Rattle.and_print.specs.Writing.{Variable, Writes, shown_cell}

-- the variable that a cell is
abbrev pub cell_variable : ℕ → Variable
cell_variable c = ([], c)

same_cell : (c : ℕ) → same_variable ([], c) ([], c) ≡ true
same_cell c = eq-eqb c c refl

grows : (seen vs : List Variable) → (ws : List Variable) × (first_seen seen vs ≡ seen ++ ws)
grows seen [] = ([], sym (append-nil seen))
grows seen (v ∷ vs) = elim (has v seen) as (λ b. (ws : List Variable) × (first_seen (cond b seen (seen ++ v ∷ [])) vs ≡ seen ++ ws)) [
  | true ↦ grows seen vs
  | false ↦ (let (ws, e) = grows (seen ++ v ∷ []) vs in (v ∷ ws, e ∙ append_assoc seen (v ∷ []) ws))
]

place_stays : (v : Variable) (vs ws : List Variable) → has v vs ≡ true → place_of v (vs ++ ws) ≡ place_of v vs
place_stays v [] ws h = absurd (true≢false (sym h))
place_stays v (w ∷ vs) ws h =
    let rest : has v vs ≡ true → place_of v (vs ++ ws) ≡ place_of v vs = place_stays v vs ws in
    elim (same_variable v w) as (λ b. (b || has v vs) ≡ true → cond b 0 (suc (place_of v (vs ++ ws))) ≡ cond b 0 (suc (place_of v vs))) [
      | true ↦ λ k. refl
      | false ↦ λ k. ap suc (rest k)
    ] h

place_pushed : (c : ℕ) (vs : List Variable) → place_of ([], c) (vs ++ ([], c) ∷ []) ≡ place_of ([], c) vs
place_pushed c [] = ap (λ b. cond b 0 1) (same_cell c)
place_pushed c (w ∷ vs) = ap (λ n. cond (same_variable ([], c) w) 0 (suc n)) (place_pushed c vs)

has_pushed : (c : ℕ) (vs : List Variable) → has ([], c) (vs ++ ([], c) ∷ []) ≡ true
has_pushed c [] = ap (λ b. b || false) (same_cell c)
has_pushed c (w ∷ vs) = elim (same_variable ([], c) w) as (λ b. (b || has ([], c) (vs ++ ([], c) ∷ [])) ≡ true) [ true ↦ refl | false ↦ has_pushed c vs ]

-- the cell's variable was named, if it had no name
named_now : (c : ℕ) (vs : List Variable) → (has ([], c) (first_seen vs (([], c) ∷ [])) ≡ true)
    × (place_of ([], c) (first_seen vs (([], c) ∷ [])) ≡ place_of ([], c) vs)
named_now c vs = at (has ([], c) vs) refl
  where
    at : (b : Bool) → has ([], c) vs ≡ b → (has ([], c) (first_seen vs (([], c) ∷ [])) ≡ true)
        × (place_of ([], c) (first_seen vs (([], c) ∷ [])) ≡ place_of ([], c) vs)
    at true e =
        let same : first_seen vs (([], c) ∷ []) ≡ vs = ap (λ b. cond b vs (vs ++ ([], c) ∷ [])) e in
        (ap (has ([], c)) same ∙ e, ap (place_of ([], c)) same)
    at false e =
        let more : first_seen vs (([], c) ∷ []) ≡ vs ++ ([], c) ∷ [] = ap (λ b. cond b vs (vs ++ ([], c) ∷ [])) e in
        (ap (has ([], c)) more ∙ has_pushed c vs, ap (place_of ([], c)) more ∙ place_pushed c vs)

has_cell : (c : ℕ) (keys : List ℕ) → has ([], c) (map cell_variable keys) ≡ list_any (nat_eq c) keys
has_cell c [] = refl
has_cell c (k ∷ keys) = ap (λ b. nat_eq c k || b) (has_cell c keys)

place_in : (c : ℕ) (keys : List ℕ) → position_or_len (nat_eq c) keys ≡ place_of ([], c) (map cell_variable keys)
place_in c [] = refl
place_in c (k ∷ keys) = elim (nat_eq c k) as (λ b. cond (not b) (1 + position_or_len (nat_eq c) keys) 0
    ≡ cond b 0 (suc (place_of ([], c) (map cell_variable keys)))) [
      | true ↦ refl
      | false ↦ omega (arith, place_in c keys)
    ]

keys_now : (c : ℕ) (keys : List ℕ) → map cell_variable (insert_key nat_eq keys c) ≡ first_seen (map cell_variable keys) (([], c) ∷ [])
keys_now c keys =
    rw has_cell
    (elim (list_any (nat_eq c) keys) as (λ b. map cell_variable (cond b keys (keys ++ c ∷ []))
    ≡ cond b (map cell_variable keys) (map cell_variable keys ++ ([], c) ∷ []))
    [ true ↦ refl | false ↦ map-append cell_variable keys (c ∷ []) ])

-- a cell was put into the set of those that have names, and its place written
pub cell_written : (c place : ℕ) (old new : List ℕ) (before after : Bytes) → new ≡ insert_key nat_eq old c → place ≡ position_or_len (nat_eq c) old
    → after ≡ before ++ 95 ∷ decimal place
    → Writes (([], c) ∷ []) (shown_cell c) (map cell_variable old) (map cell_variable new) before after
cell_written c place old new before after e f g =
    let now : map cell_variable new ≡ first_seen (map cell_variable old) (([], c) ∷ []) = ap (map cell_variable) e ∙ keys_now c old in
    let there = named_now c (map cell_variable old) in
    record {
      seen_now = now;
      written = λ later.
          let vs : List Variable = first_seen (map cell_variable old) (([], c) ∷ []) in
          let (ws, more) = grows vs later in
          let stays : place_of ([], c) (first_seen vs later) ≡ place =
          ap (place_of ([], c)) more ∙ place_stays ([], c) vs ws there.0 ∙ there.1 ∙ sym (place_in c old) ∙ sym f in
          g ∙ ap (λ n. before ++ 95 ∷ decimal n) (sym stays) ∙ ap (λ (us : List Variable). before ++ shown_cell c (first_seen us later)) (sym now);
    }
