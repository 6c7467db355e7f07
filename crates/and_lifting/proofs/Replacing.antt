-- An alternative's variables in its own frame stand for those of the clause in which its disjunction stands.
use Rattle.std.proofs.Common.{ℕ, zero, suc, ◌≡◌, ◌+◌, Bool, true, false, true≢false, cond, ◌||◌, List, [], ◌∷◌, ◌++◌, Option, Some, None, refl, ap, sym, ◌∙◌}
use Rattle.std.proofs.Common.{subst, ◌⊎◌, inl, inr, arith}
use Rattle.std.specs.Prelude.{Contains}
use Rattle.std.proofs.lemmas.List.Elements.{Contains-append_left, Contains-append_right}
use Rattle.and_model.specs.Terms.{Path, Term, Terms, variable, number, compound, none, more, framed, Substitution, apply, apply_all}
use Rattle.and_model.specs.Solutions.{Equation, Solves}
use Rattle.and_model.specs.Programs.{Arithmetic}
use Rattle.and_model.specs.Lines.{same_path, same_variable, has, first_seen, place_of}
use Rattle.and_laws.proofs.Equality.{bool_cases, path_or}
use Rattle.and_laws.proofs.Ordered.{contains_first, contains_more, contains_cases, contains_none}
use Rattle.and_laws.proofs.Printing.{same_path_true, same_path_self, same_variable_true, same_variable_self}
use Rattle.and_laws.proofs.Solving.{solves_join, solves_front, solves_back}
use Rattle.and_laws.proofs.Substitutions.{Through, apply_all_through, then, apply_all_then, apply_same}
use Rattle.and_source.specs.Lifted.{as_terms, numbered_variables}
use Rattle.and_lifting.proofs.Renaming.{framed_term}
use Rattle.and_lifting.proofs.Closures.{Extends}
use Rattle.and_lifting.proofs.Avoiding.{Frames, AgreeOutside, Avoids, AllAvoid, EquationsAvoid, Narrower, agree_wider, framed_avoids, equations_avoid_more}
use Rattle.and_lifting.proofs.Matching.{Base, extends_last}

-- the variable with this number, if there is one
abbrev pub nth : List (Path × ℕ) → ℕ → Option (Path × ℕ)
nth [] k = None
nth (v ∷ vs) zero = Some v
nth (v ∷ vs) (suc k) = nth vs k

-- variable k of the frame p stands for this one in the frame q, if there is one
abbrev pub stand_for : (q p : Path) → Option (Path × ℕ) → ℕ → Term
stand_for q p None k = variable p k
stand_for q p (Some v) k = variable q v.1

-- the variables of the frame p stand for these in the frame q
abbrev pub replaced : Substitution → (q p : Path) → List (Path × ℕ) → Substitution
replaced up q p vs r k = cond (same_path r p) (stand_for q p (nth vs k) k) (up r k)

pub replaced_here : (up : Substitution) (q p : Path) (vs : List (Path × ℕ)) (k : ℕ) → replaced up q p vs p k ≡ stand_for q p (nth vs k) k
replaced_here up q p vs k = ap (λ b. cond b (stand_for q p (nth vs k) k) (up p k)) (same_path_self p)

pub replaced_other : (up : Substitution) (q p : Path) (vs : List (Path × ℕ)) (r : Path) (k : ℕ) → (r ≡ p → ⊥) → replaced up q p vs r k ≡ up r k
replaced_other up q p vs r k n = elim (bool_cases (same_path r p)) [
  | inl e ↦ absurd (n (same_path_true r p e))
  | inr e ↦ ap (λ b. cond b (stand_for q p (nth vs k) k) (up r k)) e
]

-- The numbered variables of the frame p stand for these.
pub numbered_stand : (down : Substitution) (q p : Path) (all : List (Path × ℕ)) → ((k : ℕ) → down p k ≡ stand_for q p (nth all k) k)
    → (ws : List (Path × ℕ)) (k : ℕ) → ((i j : ℕ) → i ≡ k + j → nth all i ≡ nth ws j)
    → apply_all down (apply_all (λ f n. variable p n) (numbered_variables k ws)) ≡ apply_all (λ f n. variable q n) (as_terms ws)
numbered_stand down q p all h [] k same = refl
numbered_stand down q p all h (w ∷ ws) k same =
    let here : down p k ≡ variable q w.1 = h k ∙ ap (λ o. stand_for q p o k) (same k 0 (omega arith)) in
    let rest = numbered_stand down q p all h ws (suc k) (λ i j e. same i (suc j) (omega (arith, e))) in
    ap (λ x. more x (apply_all down (apply_all (λ f n. variable p n) (numbered_variables (suc k) ws)))) here ∙ ap (λ xs. more (variable q w.1) xs) rest

abbrev first_of : Term → Terms → Term
first_of d none = d
first_of d (more t ts) = t

abbrev rest_of : Terms → Terms
rest_of none = none
rest_of (more t ts) = ts

-- Where they are made equal, each is what it stands for.
pub numbered_same : (s : Substitution) (q p : Path) (ws : List (Path × ℕ)) (k : ℕ)
    → apply_all s (apply_all (λ f n. variable q n) (as_terms ws)) ≡ apply_all s (apply_all (λ f n. variable p n) (numbered_variables k ws))
    → (j i : ℕ) → i ≡ k + j → s p i ≡ apply s (stand_for q p (nth ws j) i)
numbered_same s q p [] k e j i f = refl
numbered_same s q p (w ∷ ws) k e zero i f =
    let number : i ≡ k = omega (arith, f) in
    let first : s q w.1 ≡ s p k = ap (first_of (s p k)) e in
    ap (s p) number ∙ sym first
numbered_same s q p (w ∷ ws) k e (suc j) i f = numbered_same s q p ws (suc k) (ap rest_of e) j i (omega (arith, f))

-- A variable of the list has a place there.
pub placed : (v : Path × ℕ) (vs : List (Path × ℕ)) → Contains vs v → (w : Path × ℕ) × (nth vs (place_of v vs) ≡ Some w) × (w.1 ≡ v.1)
placed v [] i = absurd (contains_none v i)
placed v (w ∷ vs) i = elim (bool_cases (same_variable v w)) [ inl e ↦ here (placed v vs) true e | inr e ↦ here (placed v vs) false e ]
  where
    here : (Contains vs v → (x : Path × ℕ) × (nth vs (place_of v vs) ≡ Some x) × (x.1 ≡ v.1)) → (b : Bool) → same_variable v w ≡ b → (x : Path × ℕ)
        × (nth (w ∷ vs) (place_of v (w ∷ vs)) ≡ Some x) × (x.1 ≡ v.1)
    here again true e = (w, ap (λ b. nth (w ∷ vs) (cond b 0 (suc (place_of v vs)))) e, sym (same_variable_true v w e).1)
    here again false e = elim (contains_cases w v vs i) [
      | inl f ↦ absurd (true≢false (sym (same_variable_self v w (ap (λ (x : Path × ℕ). x.0) f) (ap (λ (x : Path × ℕ). x.1) f)) ∙ e))
      | inr j ↦ (let r = again j in (r.0, ap (λ b. nth (w ∷ vs) (cond b 0 (suc (place_of v vs)))) e ∙ r.1, r.2))
    ]

same_pair : (v w : Path × ℕ) → v.0 ≡ w.0 → v.1 ≡ w.1 → v ≡ w
same_pair v w e f = ap (λ (x : Path). (x, v.1)) e ∙ ap (λ (y : ℕ). (w.0, y)) f

has_contains : (v : Path × ℕ) (ws : List (Path × ℕ)) → has v ws ≡ true → Contains ws v
has_contains v [] e = absurd (true≢false (sym e))
has_contains v (w ∷ ws) e = elim (bool_cases (same_variable v w)) [
  | inl f ↦ (let r = same_variable_true v w f in subst (λ x. Contains (w ∷ ws) x) (sym (same_pair v w r.0 r.1)) (contains_first w ws))
  | inr f ↦ contains_more w v ws (has_contains v ws (ap (λ b. b || has v ws) (sym f) ∙ e))
]

-- What occurs is among the distinct variables.
pub seen_keeps : (seen vs : List (Path × ℕ)) (v : Path × ℕ) → Contains seen v ⊎ Contains vs v → Contains (first_seen seen vs) v
seen_keeps seen [] v (inl i) = i
seen_keeps seen [] v (inr i) = absurd (contains_none v i)
seen_keeps seen (w ∷ vs) v i = seen_keeps (cond (has w seen) seen (seen ++ w ∷ [])) vs v
    (elim (bool_cases (has w seen)) [ inl e ↦ here true e i | inr e ↦ here false e i ])
  where
    here : (b : Bool) → has w seen ≡ b → Contains seen v ⊎ Contains (w ∷ vs) v → Contains (cond (has w seen) seen (seen ++ w ∷ [])) v ⊎ Contains vs v
    here true e (inl j) = inl (subst (λ b. Contains (cond b seen (seen ++ w ∷ [])) v) (sym e) j)
    here true e (inr j) = elim (contains_cases w v vs j) [
      | inl f ↦ inl (subst (λ b. Contains (cond b seen (seen ++ w ∷ [])) v) (sym e) (subst (λ x. Contains seen x) (sym f) (has_contains w seen e)))
      | inr k ↦ inr k
    ]
    here false e (inl j) = inl (subst (λ b. Contains (cond b seen (seen ++ w ∷ [])) v) (sym e) (Contains-append_left seen (w ∷ []) v j))
    here false e (inr j) = elim (contains_cases w v vs j) [
      | inl f ↦ inl (subst (λ b. Contains (cond b seen (seen ++ w ∷ [])) v) (sym e)
          (Contains-append_right seen (w ∷ []) v (subst (λ x. Contains (w ∷ []) x) (sym f) (contains_first w []))))
      | inr k ↦ inr k
    ]

abbrev terms_of : Term → Terms
terms_of (variable q k) = none
terms_of (number z) = none
terms_of (compound c ts) = ts

module _ (up : Substitution) (U : Frames) (q p : Path) (name : ℕ) (vs : List (Path × ℕ)) (ts : Terms) (ds : List Equation) where
  -- the equation of a lifted call with the head of an alternative's clause, in the frame of that
  abbrev pub with_head : List Equation
  with_head = ds ++ (compound name ts, framed p (compound name (numbered_variables 0 vs))) ∷ []

  -- elsewhere nothing changes
  other_frames : U p → AgreeOutside U (replaced up q p vs) up
  other_frames on r n k = replaced_other up q p vs r k (λ e. n (subst U (sym e) on))

  head_stands : apply_all (replaced up q p vs) (apply_all (λ f n. variable p n) (numbered_variables 0 vs)) ≡ apply_all (λ f n. variable q n) (as_terms vs)
  head_stands = numbered_stand (replaced up q p vs) q p vs (replaced_here up q p vs) vs 0 (λ i j e. ap (nth vs) (omega (arith, e)))

  head_solved : (es : List Equation) → Extends up es ds → EquationsAvoid U ds → AllAvoid U ts → U p
      → apply_all up ts ≡ apply_all (λ f k. variable q k) (as_terms vs)
      → (s : Substitution) → Solves s es → Solves (then (replaced up q p vs) s) with_head
  head_solved es x steady avoid on stands s h =
      let down : Substitution = replaced up q p vs in
      let old : Solves (then down s) ds = steady (then up s) (then down s) (λ r n k. ap (apply s) (sym (other_frames on r n k))) (x.solved s h) in
      let call_is : apply_all (then down s) ts ≡ apply_all s (apply_all (λ f n. variable q n) (as_terms vs)) =
      sym (apply_all_then down s ts) ∙ ap (apply_all s) (avoid down up (other_frames on) ∙ stands) in
      let head_is : apply_all (then down s) (apply_all (λ f n. variable p n) (numbered_variables 0 vs)) ≡ apply_all s
      (apply_all (λ f n. variable q n) (as_terms vs)) =
      sym (apply_all_then down s (apply_all (λ f n. variable p n) (numbered_variables 0 vs))) ∙ ap (apply_all s) head_stands in
      solves_join (then down s) ds ((compound name ts, framed p (compound name (numbered_variables 0 vs))) ∷ []) old (
        ap (compound name) (call_is
            ∙ sym head_is),
        tt,
      )

  head_through : (es : List Equation) → Extends up es ds → apply_all up ts ≡ apply_all (λ f k. variable q k) (as_terms vs)
      → (s : Substitution) → Solves s with_head → Through (replaced up q p vs) s
  head_through es x stands s h r k =
      let old : Through up s = x.through s (solves_front s ds ((compound name ts, framed p (compound name (numbered_variables 0 vs))) ∷ []) h) in
      let last = solves_back s ds ((compound name ts, framed p (compound name (numbered_variables 0 vs))) ∷ []) h in
      let alike : apply_all s (apply_all (λ f n. variable q n) (as_terms vs)) ≡ apply_all s (apply_all (λ f n. variable p n) (numbered_variables 0 vs)) =
      ap (apply_all s) (sym stands) ∙ sym (apply_all_through up s old ts) ∙ ap terms_of last.0 in
      elim (path_or r p) [
        | inl e ↦ subst (λ (z : Path). s z k ≡ apply s (replaced up q p vs z k)) (sym e) (numbered_same s q p vs 0 alike k k (omega arith)
            ∙ ap (apply s) (sym (replaced_here up q p vs k)))
        | inr n ↦ old r k ∙ ap (apply s) (sym (replaced_other up q p vs r k n))
      ]

-- It adds nothing, but for the alternative's variables.
pub choice_base : (up : Substitution) (U V : Frames) (q p : Path) (name : ℕ) (vs : List (Path
    × ℕ)) (ts : Terms) (es : List Equation) (gs : List Arithmetic) (ds : List Equation) (hs : List Arithmetic)
    → Base up U es gs ds hs → Narrower V U → (V p → ⊥) → U p → apply_all up ts ≡ apply_all (λ f k. variable q k) (as_terms vs) → AllAvoid U ts
    → Base (replaced up q p vs) V es gs (ds ++ (compound name ts, framed p (compound name (numbered_variables 0 vs))) ∷ []) hs
choice_base up U V q p name vs ts es gs ds hs b narrow off on stands avoid = record {
  untouched = λ r k v. replaced_other up q p vs r k (λ e. off (subst V e v)) ∙ b.untouched r k (narrow r v);
  own = λ k. replaced_other up q p vs [] k (λ e. b.not_query (subst U (sym e) on)) ∙ b.own k;
  not_query = λ v. b.not_query (narrow [] v);
  extends = record {
    entails = λ s h. b.extends.entails s (solves_front s ds ((compound name ts, framed p (compound name (numbered_variables 0 vs))) ∷ []) h);
    solved = head_solved up U q p name vs ts ds es b.extends b.steady avoid on stands;
    through = head_through up U q p name vs ts ds es b.extends stands;
  };
  steady = equations_avoid_more V ds (compound name ts) (framed p (compound name (numbered_variables 0 vs)))
      (λ s r a. b.steady s r (agree_wider V U s r narrow a)) (λ s r a. ap (compound name) (avoid s r (agree_wider V U s r narrow a)))
      (framed_avoids V p (compound name (numbered_variables 0 vs)) off);
  goals = b.goals ∙ sym (b.goals_steady (replaced up q p vs) up (other_frames up U q p name vs ts ds on));
  goals_steady = λ s r a. b.goals_steady s r (agree_wider V U s r narrow a);
}

-- The equation of a call with the head of a clause is the same on both sides.
pub call_base : (up : Substitution) (U V : Frames) (p : Path) (g h t : Term) (es : List Equation) (gs : List Arithmetic) (ds : List Equation)
    (hs : List Arithmetic)
    → Base up U es gs ds hs → Narrower V U → (V p → ⊥) → U p → apply up h ≡ g → Avoids U h
    → Base up V ((g, framed p t) ∷ es) gs (ds ++ (h, framed p t) ∷ []) hs
call_base up U V p g h t es gs ds hs b narrow off on stands avoid = record {
  untouched = λ r k v. b.untouched r k (narrow r v);
  own = b.own;
  not_query = λ v. b.not_query (narrow [] v);
  extends = extends_last up es ds g (framed p t) h (framed p t) b.extends stands (framed_term up (λ r k. variable r k) p p (λ k. b.untouched p k on) t
      ∙ apply_same (framed p t));
  steady = equations_avoid_more V ds h (framed p t) (λ s r a. b.steady s r (agree_wider V U s r narrow a))
      (λ s r a. avoid s r (agree_wider V U s r narrow a)) (framed_avoids V p t off);
  goals = b.goals;
  goals_steady = λ s r a. b.goals_steady s r (agree_wider V U s r narrow a);
}
