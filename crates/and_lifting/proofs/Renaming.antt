-- Terms of a clause in a frame, where variables have new numbers and are then replaced.
use Rattle.std.proofs.Common.{ℕ, ◌≡◌, List, [], ◌∷◌, ◌++◌, refl, ap, ◌∙◌, ◌⊎◌, inl, inr, cond, Bool, true, false, ◌&&◌, nat_eq}
use Rattle.std.proofs.lemmas.List.Elements.{Contains-append_left, Contains-append_right, Contains-append_cases}
use Rattle.std.specs.Prelude.{Contains}
use Rattle.and_model.specs.Terms.{Path, Term, Terms, variable, number, compound, none, more, framed, variables_of, variables_in, Substitution, apply, apply_all}
use Rattle.and_model.specs.Programs.{Arithmetic, is, compare, arithmetic_in, same_count, same_predicate}
use Rattle.and_model.specs.Lines.{goal_term, has, first_seen}
use Rattle.and_laws.proofs.Ordered.{contains_first, contains_more, contains_cases, contains_none}
use Rattle.and_source.specs.Source.{has_name}
use Rattle.and_source.specs.Lifted.{Numbering, renumbered, renumbered_goal, as_terms}

-- a term's variables have new numbers in the frame p, where each stands for what it was in the frame q
abbrev pub Stand : Substitution → Numbering → (p q : Path) → List (Path × ℕ) → Type 0
Stand up new p q vs = (v : Path × ℕ) → Contains vs v → up p (new v.0 v.1) ≡ variable q v.1

pub stand_left : (up : Substitution) (new : Numbering) (p q : Path) (vs ws : List (Path × ℕ)) → Stand up new p q (vs ++ ws) → Stand up new p q vs
stand_left up new p q vs ws h v i = h v (Contains-append_left vs ws v i)

pub stand_right : (up : Substitution) (new : Numbering) (p q : Path) (vs ws : List (Path × ℕ)) → Stand up new p q (vs ++ ws) → Stand up new p q ws
stand_right up new p q vs ws h v i = h v (Contains-append_right vs ws v i)

-- then the term stands for what it was
mutual
  pub renamed_term : (up : Substitution) (new : Numbering) (p q : Path) (t : Term) → Stand up new p q (variables_of t)
      → apply up (framed p (renumbered new t)) ≡ framed q t
  renamed_term up new p q (variable r k) h = h (r, k) (contains_first (r, k) [])
  renamed_term up new p q (number z) h = refl
  renamed_term up new p q (compound c ts) h = ap (compound c) (renamed_terms up new p q ts h)

  pub renamed_terms : (up : Substitution) (new : Numbering) (p q : Path) (ts : Terms) → Stand up new p q (variables_in ts)
      → apply_all up (apply_all (λ r k. variable p k) (apply_all (λ r k. variable [] (new r k)) ts)) ≡ apply_all (λ r k. variable q k) ts
  renamed_terms up new p q none h = refl
  renamed_terms up new p q (more t ts) h =
      let head : apply up (framed p (renumbered new t)) ≡ framed q t = renamed_term up new p q t
      (stand_left up new p q (variables_of t) (variables_in ts) h) in
      let rest : apply_all up (apply_all (λ r k. variable p k) (apply_all (λ r k. variable [] (new r k)) ts)) ≡ apply_all (λ r k. variable q k) ts =
      renamed_terms up new p q ts (stand_right up new p q (variables_of t) (variables_in ts) h) in
      ap (λ x. more x (apply_all up (apply_all (λ r k. variable p k) (apply_all (λ r k. variable [] (new r k)) ts)))) head
      ∙ ap (λ xs. more (framed q t) xs) rest

-- an arithmetic goal under a substitution
abbrev pub applied : Substitution → Arithmetic → Arithmetic
applied s (is l r) = is (apply s l) (apply s r)
applied s (compare m a b) = compare m (apply s a) (apply s b)

abbrev first_of_two : Terms → Term → Term
first_of_two none d = d
first_of_two (more t ts) d = t

abbrev second_of_two : Terms → Term → Term
second_of_two none d = d
second_of_two (more t ts) d = first_of_two ts d

pub renamed_goal : (up : Substitution) (new : Numbering) (p q : Path) (a : Arithmetic) → Stand up new p q (variables_of (goal_term a))
    → applied up (arithmetic_in p (renumbered_goal new a)) ≡ arithmetic_in q a
renamed_goal up new p q (is l r) h =
    let both = renamed_terms up new p q (more l (more r none)) h in
    let one : apply up (framed p (renumbered new l)) ≡ framed q l = ap (λ ts. first_of_two ts l) both in
    let two : apply up (framed p (renumbered new r)) ≡ framed q r = ap (λ ts. second_of_two ts l) both in
    ap (λ x. is x (apply up (framed p (renumbered new r)))) one ∙ ap (λ x. is (framed q l) x) two
renamed_goal up new p q (compare m a b) h =
    let both = renamed_terms up new p q (more a (more b none)) h in
    let one : apply up (framed p (renumbered new a)) ≡ framed q a = ap (λ ts. first_of_two ts a) both in
    let two : apply up (framed p (renumbered new b)) ≡ framed q b = ap (λ ts. second_of_two ts a) both in
    ap (λ x. compare m x (apply up (framed p (renumbered new b)))) one ∙ ap (λ x. compare m (framed q a) x) two

-- a term in the frame p, whose variables are replaced as in the frame q
mutual
  pub framed_term : (s r : Substitution) (p q : Path) → ((k : ℕ) → s p k ≡ r q k) → (t : Term) → apply s (framed p t) ≡ apply r (framed q t)
  framed_term s r p q h (variable f k) = h k
  framed_term s r p q h (number z) = refl
  framed_term s r p q h (compound c ts) = ap (compound c) (framed_terms s r p q h ts)

  pub framed_terms : (s r : Substitution) (p q : Path) → ((k : ℕ) → s p k ≡ r q k) → (ts : Terms)
      → apply_all s (apply_all (λ f k. variable p k) ts) ≡ apply_all r (apply_all (λ f k. variable q k) ts)
  framed_terms s r p q h none = refl
  framed_terms s r p q h (more t ts) =
      ap (λ x. more x (apply_all s (apply_all (λ f k. variable p k) ts))) (framed_term s r p q h t)
      ∙ ap (λ xs. more (apply r (framed q t)) xs) (framed_terms s r p q h ts)

-- the variables of variables
pub variables_back : (vs : List (Path × ℕ)) → variables_in (as_terms vs) ≡ vs
variables_back [] = refl
variables_back (v ∷ vs) = ap (λ ws. v ∷ ws) (variables_back vs)

-- Distinct variables occur,
pub seen_occurs : (seen vs : List (Path × ℕ)) (v : Path × ℕ) → Contains (first_seen seen vs) v → Contains seen v ⊎ Contains vs v
seen_occurs seen [] v i = inl i
seen_occurs seen (w ∷ vs) v i = elim (seen_occurs (cond (has w seen) seen (seen ++ w ∷ [])) vs v i)
    [ inl j ↦ here (has w seen) j | inr j ↦ inr (contains_more w v vs j) ]
  where
    here : (b : Bool) → Contains (cond b seen (seen ++ w ∷ [])) v → Contains seen v ⊎ Contains (w ∷ vs) v
    here true j = inl j
    here false j = elim (Contains-append_cases seen (w ∷ []) v j) [
      | inl k ↦ inl k
      | inr k ↦ elim (contains_cases w v [] k) [ inl e ↦ inr (rw e (contains_first w vs)) | inr n ↦ absurd (contains_none v n) ]
    ]

-- A call keeps its predicate in other frames and with new numbers.
same_count_applied : (r s : Substitution) (ts us : Terms) → same_count (apply_all r ts) us ≡ same_count (apply_all s ts) us
same_count_applied r s none none = refl
same_count_applied r s none (more u us) = refl
same_count_applied r s (more t ts) none = refl
same_count_applied r s (more t ts) (more u us) = same_count_applied r s ts us

same_count_twice : (r s f : Substitution) (ts us : Terms) → same_count (apply_all r (apply_all s ts)) us ≡ same_count (apply_all f ts) us
same_count_twice r s f none none = refl
same_count_twice r s f none (more u us) = refl
same_count_twice r s f (more t ts) none = refl
same_count_twice r s f (more t ts) (more u us) = same_count_twice r s f ts us

pub predicate_kept : (new : Numbering) (p q : Path) (g t : Term) → same_predicate (framed p (renumbered new g)) t ≡ same_predicate (framed q g) t
predicate_kept new p q (variable r k) t = refl
predicate_kept new p q (number z) t = refl
predicate_kept new p q (compound c ts) (variable r k) = refl
predicate_kept new p q (compound c ts) (number z) = refl
predicate_kept new p q (compound c ts) (compound d us) = ap (λ b. nat_eq c d && b)
    (same_count_twice (λ r k. variable p k) (λ r k. variable [] (new r k)) (λ r k. variable q k) ts us)

pub name_kept : (new : Numbering) (p : Path) (n : ℕ) (g : Term) → has_name n (framed p (renumbered new g)) ≡ has_name n g
name_kept new p n (variable r k) = refl
name_kept new p n (number z) = refl
name_kept new p n (compound c ts) = refl
