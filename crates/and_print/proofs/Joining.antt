-- Texts that are written one after another.
use Rattle.std.proofs.Common.{ℕ, ◌≡◌, false, cond, List, [], ◌∷◌, ◌++◌, map, get_or, refl, sym, ap, ◌∙◌, append_assoc, append-nil, codes, nat_eq, ◌+◌, arith}
use Rattle.std.proofs.lemmas.List.{map-id}
use Rattle.std.proofs.lemmas.Bool.Decides.{nat_tests}
use Rattle.and_model.specs.Terms.{Term, compound, more, none, variables_of}
use Rattle.and_model.specs.Lines.{Bytes, point_name, first_seen, shown_name, shown, variables_along, joined, with_waiting, values_or_true}
use Rattle.and_print.specs.Writing.{Variable, Named, Writes}
use Rattle.and_print.proofs.Owing.{seen_in_turn}

-- a name with two arguments
module _ (names : List Bytes) (c : ℕ) (a b : Term) (other : nat_eq c point_name ≡ false) (s0 s1 s2 : List Variable) (o0 o1 o2 o3 o4 o5 o6 : Bytes)
    (name : o1 ≡ o0 ++ shown_name (get_or names c [])) (begin : o2 ≡ o1 ++ 40 ∷ []) (left : Writes (variables_of a) (λ vs. shown names vs a) s0 s1 o2 o3)
    (comma : o4 ≡ o3 ++ 44 ∷ [])
    (right : Writes (variables_of b) (λ vs. shown names vs b) s1 s2 o4 o5) (shut : o6 ≡ o5 ++ 41 ∷ []) where
  pair_text : (vs : List Variable) → shown names vs (compound c (more a (more b none)))
      ≡ shown_name (get_or names c []) ++ (40 ∷ (shown names vs a ++ (44 ∷ (shown names vs b ++ 41 ∷ []))))
  pair_text vs = rw other refl

  pair_bytes : (n x y : Bytes) → o3 ≡ o2 ++ x → o5 ≡ o4 ++ y → o1 ≡ o0 ++ n → o6 ≡ o0 ++ (n ++ (40 ∷ (x ++ (44 ∷ (y ++ 41 ∷ [])))))
  pair_bytes n x y e f h = rw (shut, f, comma, e, begin, h) (simp append_assoc)

  pub pair_writes : Writes (variables_of (compound c (more a (more b none)))) (λ vs. shown names vs (compound c (more a (more b none)))) s0 s2 o0 o6
  pair_writes = record {
    seen_now = right.seen_now ∙ ap (λ (vs : List Variable). first_seen vs (variables_of b)) left.seen_now
        ∙ sym (seen_in_turn s0 (variables_of a) (variables_of b))
        ∙ ap (λ (vs : List Variable). first_seen s0 (variables_of a ++ vs)) (sym (append-nil (variables_of b)));
    written = λ later.
        let vs : List Variable = first_seen s2 later in
        let same : first_seen s1 (variables_of b ++ later) ≡ vs =
        seen_in_turn s1 (variables_of b) later ∙ ap (λ (ws : List Variable). first_seen ws later) (sym right.seen_now) in
        pair_bytes (shown_name (get_or names c [])) (shown names vs a) (shown names vs b) (left.written (variables_of b ++ later)
        ∙ ap (λ (ws : List Variable). o2 ++ shown names ws a) same) (right.written later) name
        ∙ ap (λ (bs : Bytes). o0 ++ bs) (sym (pair_text vs));
  }

-- a term without variables and arguments
pub atom_writes : (names : List Bytes) (c : ℕ) (t : Term) (seen : List Variable) (old new : Bytes) → nat_eq c point_name ≡ false → t ≡ compound c none
    → new ≡ old ++ shown_name (get_or names c [])
    → Writes (variables_of t) (λ vs. shown names vs t) seen seen old new
atom_writes names c t seen old new other e f = record {
  seen_now = ap (first_seen seen) (sym (ap variables_of e));
  written = λ later. f ∙ ap (λ (bs : Bytes). old ++ bs) (sym (ap (shown names (first_seen seen later)) e ∙ append-nil (shown_name (get_or names c []))));
}

-- a name and a sign before a term
pub value_writes : (variables : List Variable) (text : Named) (seen now : List Variable) (old one two new name sign : Bytes) → one ≡ old ++ name
    → two ≡ one ++ sign → Writes variables text seen now two new
    → Writes variables (λ vs. (name ++ sign) ++ text vs) seen now old new
value_writes variables text seen now old one two new name sign e f w = record {
  seen_now = w.seen_now;
  written = λ later. w.written later ∙ rw (f, e) (simp append_assoc);
}

-- texts with the first separator before the first of them, and a comma before each other
abbrev pub each_after : Bytes → List Bytes → Bytes
each_after sep [] = []
each_after sep (t ∷ ts) = sep ++ (t ++ each_after (44 ∷ 32 ∷ []) ts)

joined_each : (t : Bytes) (ts : List Bytes) → joined (t ∷ ts) ≡ t ++ each_after (44 ∷ 32 ∷ []) ts
joined_each t [] = sym (append-nil t)
joined_each t (u ∷ us) = ap (λ (bs : Bytes). t ++ 44 ∷ 32 ∷ bs) (joined_each u us)

-- Items of a line that are still to be written, with the separator before the next.
pub record Left {X : Type 0} (term : X → Term) (text : X
    → Named) (first : Bytes) (all rest : List X) (sep : Bytes) (seen now : List Variable) (old new : Bytes) : Type 0 where
  pub seen_then : first_seen now (variables_along (map term rest)) ≡ first_seen seen (variables_along (map term all))
  pub written_then : (later : List Variable) → let vs = first_seen (first_seen seen (variables_along (map term all))) later in
      new ++ each_after sep (map (λ x. text x vs) rest) ≡ old ++ each_after first (map (λ x. text x vs) all)

module _ {X : Type 0} (term : X → Term) (text : X → Named) (first : Bytes) (all : List X) where
  pub left_all : (seen : List Variable) (old : Bytes) → Left term text first all all first seen seen old old
  left_all seen old = record { seen_then = refl; written_then = λ later. refl }

  -- one more item was written
  pub left_rest : (x : X) (rest : List X) (sep : Bytes) (seen middle now : List Variable) (old between after new : Bytes)
      → Left term text first all (x ∷ rest) sep seen middle old between → after ≡ between ++ sep
      → Writes (variables_of (term x)) (text x) middle now after new → Left term text first all rest (44 ∷ 32 ∷ []) seen now old new
  left_rest x rest sep seen middle now old between after new l e w =
      let whole : List Variable = first_seen seen (variables_along (map term all)) in
      let then : first_seen now (variables_along (map term rest)) ≡ whole =
      ap (λ (vs : List Variable). first_seen vs (variables_along (map term rest))) w.seen_now
      ∙ sym (seen_in_turn middle (variables_of (term x)) (variables_along (map term rest))) ∙ l.seen_then in
      record {
        seen_then = then;
        written_then = λ later.
            let vs : List Variable = first_seen whole later in
            let same : first_seen now (variables_along (map term rest) ++ later) ≡ vs =
            seen_in_turn now (variables_along (map term rest)) later ∙ ap (λ (ws : List Variable). first_seen ws later) then in
            let more : Bytes = each_after (44 ∷ 32 ∷ []) (map (λ (y : X). text y vs) rest) in
            let here : new ≡ (between ++ sep) ++ text x vs = w.written (variables_along (map term rest) ++ later)
            ∙ ap (λ (ws : List Variable). after ++ text x ws) same ∙ ap (λ (bs : Bytes). bs ++ text x vs) e in
            ap (λ (bs : Bytes). bs ++ more) here ∙ append_assoc (between ++ sep) (text x vs) more ∙ append_assoc between sep (text x vs ++ more)
            ∙ l.written_then later;
      }

  -- all items were written
  pub left_none : (sep : Bytes) (seen now : List Variable) (old new : Bytes) → Left term text first all [] sep seen now old new
      → Writes (variables_along (map term all)) (λ vs. each_after first (map (λ x. text x vs) all)) seen now old new
  left_none sep seen now old new l = record {
    seen_now = l.seen_then;
    written = λ later. sym (append-nil new) ∙ l.written_then later
        ∙ ap (λ (ws : List Variable). old ++ each_after first (map (λ (y : X). text y (first_seen ws later)) all)) (sym l.seen_then);
  }

pub waiting_each : (names : List Bytes) (vs : List Variable) (ts : List Term) → with_waiting names vs ts ≡ each_after (codes " with ") (map (shown names vs) ts)
waiting_each names vs [] = refl
waiting_each names vs (t ∷ ts) = ap (λ (bs : Bytes). codes " with " ++ bs) (joined_each (shown names vs t) (map (shown names vs) ts))

pub values_each : (t : Bytes) (ts : List Bytes) → values_or_true (t ∷ ts) ≡ each_after [] (t ∷ ts)
values_each t ts = joined_each t ts

-- the same text in other words
pub writes_as : (variables : List Variable) (text other : Named) (seen now : List Variable) (old new : Bytes) → ((vs : List Variable) → text vs ≡ other vs)
    → Writes variables text seen now old new → Writes variables other seen now old new
writes_as variables text other seen now old new same w =
    record { seen_now = w.seen_now; written = λ later. w.written later ∙ ap (λ (bs : Bytes). old ++ bs) (same (first_seen now later)) }

-- of terms that are items themselves
pub along_itself : (text : Term → Named) (first : Bytes) (ts : List Term) (other : Named) (seen now : List Variable) (old new : Bytes)
    → ((vs : List Variable) → other vs ≡ each_after first (map (λ t. text t vs) ts))
    → Writes (variables_along (map (λ t. t) ts)) (λ vs. each_after first (map (λ t. text t vs) ts)) seen now old new
    → Writes (variables_along ts) other seen now old new
along_itself text first ts other seen now old new same w = record {
  seen_now = w.seen_now ∙ ap (λ (us : List Term). first_seen seen (variables_along us)) (map-id ts);
  written = λ later. w.written later ∙ ap (λ (bs : Bytes). old ++ bs) (sym (same (first_seen now later)));
}

-- the next place is not the first
pub not_first : (n : ℕ) (first other : Bytes) → cond (nat_eq (n + 1) 0) first other ≡ other
not_first n first other =
    let later : nat_eq (n + 1) 0 ≡ false = grind (arith, nat_tests) in ap (λ b. cond b first other) later
