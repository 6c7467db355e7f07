-- What the goals of a rule's clause are as items.
use Rattle.std.proofs.Common.{ℕ, suc, ◌≡◌, ◌||◌, Bool, true, false, cond, nat_eq, List, [], ◌∷◌, map, codes, Option}
use Rattle.std.proofs.Common.{None, refl, ap, sym, ◌∙◌, arith}
use Rattle.std.proofs.lemmas.Bool.Decides.{nat_tests}
use Rattle.and_model.specs.Lines.{Bytes}
use Rattle.and_model.specs.Terms.{Term, variable, compound, none, more}
use Rattle.and_model.specs.Arithmetic.{Relation}
use Rattle.and_model.specs.Programs.{Item, call, equal, builtin_names}
use Rattle.and_syntax.specs.Written.{Written, has, place}
use Rattle.and_syntax.specs.Clauses.{Parts, no_parts, item, impure, Reading, alone, joined, reading_of, binary_reading, relation_of, compare_or, is_built_in}
use Rattle.and_syntax.specs.Clauses.{atom_parts}
use Rattle.and_syntax.proofs.Names.{Grows, one-name}
use Rattle.and_syntax.proofs.OwnVariables.{place-below}
use Rattle.and_translation.specs.Bodies.{reserved}
use Rattle.and_translation.specs.Translation as translation
use Rattle.and_translation.specs.Translation.{state, equation, list_before}
use Rattle.and_model.specs.declared.builtins.TheConstants.{CONJUNCTION, DISJUNCTION, EQUAL, IS, LESS, GREATER, AT_MOST, AT_LEAST, SAME, DIFFERS, IF_THEN}
use Rattle.and_model.specs.declared.builtins.TheConstants.{POINT}
use Rattle.and_grammar_laws.specs.Derivations.{Symbol, letters, phrase}
use Rattle.and_grammar_laws.specs.Grammars.{atom}
use Rattle.and_grammar_laws.proofs.Chains.{list_to, items_of}
use Rattle.and_grammar_laws.proofs.Settled.{under, place_has}
use Rattle.and_grammar_laws.proofs.Walking.{goals_of, AreFree}
use Rattle.and_grammar_laws.proofs.Numbers.{state_name}

-- neither test holds
neither : (a b : Bool) → a || b ≡ false → (a ≡ false) × (b ≡ false)
neither true b e = absurd (cc)
neither false b e = (refl, e)

join : {a b : Bool} → a ≡ false → b ≡ false → a || b ≡ false
join {a} {b} e h = ap (λ (c : Bool). c || b) e ∙ h

skipped : {A : Type 0} (b : Bool) (x y : A) → b ≡ false → cond b x y ≡ y
skipped true x y e = absurd (cc)
skipped false x y e = refl

no_relation : (c : ℕ) → nat_eq c LESS ≡ false → nat_eq c GREATER ≡ false → nat_eq c AT_MOST ≡ false → nat_eq c AT_LEAST ≡ false → nat_eq c SAME ≡ false
    → nat_eq c DIFFERS ≡ false → relation_of c ≡ None
no_relation c e1 e2 e3 e4 e5 e6 =
    skipped (nat_eq c LESS) _ _ e1 ∙ skipped (nat_eq c GREATER) _ _ e2 ∙ skipped (nat_eq c AT_MOST) _ _ e3 ∙ skipped (nat_eq c AT_LEAST) _ _ e4
    ∙ skipped (nat_eq c SAME) _ _ e5 ∙ skipped (nat_eq c DIFFERS) _ _ e6

-- a name that is not built in, with two arguments, is a call
pub call_reading : (c : ℕ) (a b : Term) (x y : Reading) → is_built_in c 2 ≡ false
    → binary_reading c a b x y ≡ alone (item (call (compound c (more a (more b none)))) no_parts)
call_reading c a b x y h =
    let h11 = neither (nat_eq c CONJUNCTION || nat_eq c EQUAL || nat_eq c IS || nat_eq c LESS || nat_eq c GREATER || nat_eq c AT_MOST || nat_eq c AT_LEAST
    || nat_eq c SAME || nat_eq c DIFFERS || nat_eq c DISJUNCTION) (nat_eq c IF_THEN) h in
    let h10 = neither (nat_eq c CONJUNCTION || nat_eq c EQUAL || nat_eq c IS || nat_eq c LESS || nat_eq c GREATER || nat_eq c AT_MOST || nat_eq c AT_LEAST
    || nat_eq c SAME || nat_eq c DIFFERS) (nat_eq c DISJUNCTION) h11.0 in
    let h9 = neither (nat_eq c CONJUNCTION || nat_eq c EQUAL || nat_eq c IS || nat_eq c LESS || nat_eq c GREATER || nat_eq c AT_MOST || nat_eq c AT_LEAST
    || nat_eq c SAME) (nat_eq c DIFFERS) h10.0 in
    let h8 = neither (nat_eq c CONJUNCTION || nat_eq c EQUAL || nat_eq c IS || nat_eq c LESS || nat_eq c GREATER || nat_eq c AT_MOST || nat_eq c AT_LEAST)
    (nat_eq c SAME) h9.0 in
    let h7 = neither (nat_eq c CONJUNCTION || nat_eq c EQUAL || nat_eq c IS || nat_eq c LESS || nat_eq c GREATER || nat_eq c AT_MOST)
    (nat_eq c AT_LEAST) h8.0 in
    let h6 = neither (nat_eq c CONJUNCTION || nat_eq c EQUAL || nat_eq c IS || nat_eq c LESS || nat_eq c GREATER) (nat_eq c AT_MOST) h7.0 in
    let h5 = neither (nat_eq c CONJUNCTION || nat_eq c EQUAL || nat_eq c IS || nat_eq c LESS) (nat_eq c GREATER) h6.0 in
    let h4 = neither (nat_eq c CONJUNCTION || nat_eq c EQUAL || nat_eq c IS) (nat_eq c LESS) h5.0 in
    let h3 = neither (nat_eq c CONJUNCTION || nat_eq c EQUAL) (nat_eq c IS) h4.0 in
    let h2 = neither (nat_eq c CONJUNCTION) (nat_eq c EQUAL) h3.0 in
    let it : Parts = item (call (compound c (more a (more b none)))) no_parts in
    skipped (nat_eq c CONJUNCTION) _ _ h2.0 ∙ skipped (nat_eq c DISJUNCTION) _ _ h10.1
    ∙ ap alone (skipped (nat_eq c EQUAL) _ _ h2.1 ∙ skipped (nat_eq c IS) _ _ h3.1
    ∙ ap (λ (r : Option Relation). compare_or r a b (cond (nat_eq c IF_THEN) (impure no_parts) it)) (no_relation c h4.1 h5.1 h6.1 h7.1 h8.1 h9.1)
    ∙ skipped (nat_eq c IF_THEN) _ _ h11.1)

-- items as parts
abbrev pub parts_list : List Item → Parts
parts_list [] = no_parts
parts_list (i ∷ is) = item i (parts_list is)

module _ (N : List Bytes) (builtins : Grows builtin_names N) where
  -- what has a built-in name's place has that name
  same_builtin : (c x : Bytes) → has x builtin_names ≡ true → place c N ≡ place x builtin_names → c ≡ x
  same_builtin c x h e =
      let g = builtins x h in
      let same : place c N ≡ place x N = e ∙ sym g.1 in
      one-name c x N (place_has c N (omega (arith, same, place-below x N g.0))) g.0 same

  apart : (c x : Bytes) → has c reserved ≡ false → has x reserved ≡ true → has x builtin_names ≡ true → nat_eq (place c N) (place x builtin_names) ≡ false
  apart c x free known h =
      let differs : place c N ≡ place x builtin_names → ⊥ =
      λ e. (let f : true ≡ false = sym known ∙ ap (λ (y : Bytes). has y reserved) (sym (same_builtin c x h e)) ∙ free in absurd (cc)) in
      unequal (place c N) (place x builtin_names) differs
    where
      unequal : (n m : ℕ) → (n ≡ m → ⊥) → nat_eq n m ≡ false
      unequal n m d = grind (arith, nat_tests)

  -- what a rule may derive is not built in with two arguments
  pub free_call : (c : Bytes) → has c reserved ≡ false → is_built_in (place c N) 2 ≡ false
  free_call c free =
      none_of (apart c (codes ",") free refl refl) (apart c (codes "=") free refl refl) (apart c (codes "is") free refl refl)
      (apart c (codes "<") free refl refl) (apart c (codes ">") free refl refl) (apart c (codes "=<") free refl refl)
      (apart c (codes ">=") free refl refl) (apart c (codes "=:=") free refl refl) (apart c (codes "=\\=") free refl refl)
      (apart c (codes ";") free refl refl) (apart c (codes "->") free refl refl)
    where
      none_of : {b1 b2 b3 b4 b5 b6 b7 b8 b9 b10 b11 : Bool} → b1 ≡ false → b2 ≡ false → b3 ≡ false → b4 ≡ false → b5 ≡ false → b6 ≡ false → b7 ≡ false
          → b8 ≡ false → b9 ≡ false → b10 ≡ false → b11 ≡ false → b1 || b2 || b3 || b4 || b5 || b6 || b7 || b8 || b9 || b10 || b11 ≡ false
      none_of e1 e2 e3 e4 e5 e6 e7 e8 e9 e10 e11 = join (join (join (join (join (join (join (join (join (join e1 e2) e3) e4) e5) e6) e7) e8) e9) e10) e11

  module _ (M : List Bytes) where
    abbrev f : Bytes → ℕ
    f x = place x N

    abbrev m : ℕ → ℕ
    m j = place (state_name j) M

    pub list_under : (ls : List Bytes) (t : Written) → under N M (list_before (map atom ls) t) ≡ list_to f ls (under N M t)
    list_under [] t = refl
    list_under (l ∷ ls) t =
        ap (λ (c : ℕ). compound c (more (compound (place l N) none) (more (under N M (list_before (map atom ls) t)) none))) (builtins (codes ".") refl).1
        ∙ ap (λ (u : Term). compound POINT (more (compound (place l N) none) (more u none))) (list_under ls t)

    -- a goal is one item
    abbrev Reads : Written → Item → Type 0
    Reads g i = reading_of (under N M g) ≡ alone (item i no_parts)

    abbrev AllRead : List Written → List Item → Type 0
    AllRead [] [] = Unit {0}
    AllRead [] (i ∷ is) = ⊥
    AllRead (g ∷ gs) [] = ⊥
    AllRead (g ∷ gs) (i ∷ is) = Reads g i × AllRead gs is

    joined_read : (gs : List Written) (is : List Item) → AllRead gs is → reading_of (under N M (translation.joined gs)) ≡ alone (parts_list is)
    joined_read [] [] h = ap (λ (c : ℕ). alone (atom_parts c)) (builtins (codes "true") refl).1
    joined_read [] (i ∷ is) h = elim h [ ]
    joined_read (g ∷ gs) [] h = elim h [ ]
    joined_read (g ∷ []) (i ∷ []) h = h.0
    joined_read (g ∷ []) (i ∷ j ∷ is) h = elim h.1 [ ]
    joined_read (g ∷ k ∷ gs) (i ∷ []) h = elim h.1 [ ]
    joined_read (g ∷ k ∷ gs) (i ∷ j ∷ is) h =
        let rest : Written = translation.joined (k ∷ gs) in
        ap (λ (c : ℕ). binary_reading c (under N M g) (under N M rest) (reading_of (under N M g)) (reading_of (under N M rest))) (builtins (codes ",") refl).1
        ∙ ap (λ (x : Reading). alone (joined x.body (reading_of (under N M rest)).body)) h.0
        ∙ ap (λ (x : Reading). alone (joined (item i no_parts) x.body)) (joined_read (k ∷ gs) (j ∷ is) h.1)

    all_read : (body : List Symbol) (s : ℕ) → AreFree body → AllRead (goals_of body s) (items_of f m body s)
    all_read [] s h = tt
    all_read (letters [] ∷ body) s h = all_read body s h
    all_read (letters (l ∷ ls) ∷ body) s h =
        let list : Written = list_before (map atom (l ∷ ls)) (state (suc s)) in (
          ap (λ (c : ℕ). binary_reading c (variable [] (m s)) (under N M list) (reading_of (variable [] (m s))) (reading_of (under N M list)))
              (builtins (codes "=") refl).1
              ∙ ap (λ (t : Term). alone (item (equal (variable [] (m s)) t) no_parts)) (list_under (l ∷ ls) (state (suc s))),
          all_read body (suc s) h,
        )
    all_read (phrase n ∷ body) s h = (
      call_reading (place n N) (variable [] (m s)) (variable [] (m (suc s))) (reading_of (variable [] (m s))) (reading_of (variable [] (m (suc s))))
          (free_call n h.0),
      all_read body (suc s) h.1,
    )

    -- the parts of all goals
    pub goals_read : (body : List Symbol) (s : ℕ) → AreFree body
        → reading_of (under N M (translation.joined (goals_of body s))) ≡ alone (parts_list (items_of f m body s))
    goals_read body s h = joined_read (goals_of body s) (items_of f m body s) (all_read body s h)
