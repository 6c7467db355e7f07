-- What comes of a body of atoms and lists of atoms.
use Rattle.std.proofs.Common.{ℕ, suc, ◌≡◌, ◌||◌, Bool, true, false, cond, List, [], ◌∷◌, ◌++◌, map, codes, Option, Some}
use Rattle.std.proofs.Common.{None, refl, ap, sym, ◌∙◌, subst}
use Rattle.std.specs.Str.{bytes_eq}
use Rattle.std.specs.Option.{option_map}
use Rattle.and_model.specs.Lines.{Bytes}
use Rattle.and_syntax.specs.Written.{Written, variable, integer, compound, none, more, has}
use Rattle.and_translation.specs.Bodies.{Body, nothing, terminals, goals, nonterminal, both, either, impure, body_of, elements, reserved, first_terminals}
use Rattle.and_translation.specs.Bodies.{behind_first, terminals_or_impure, or, alternatives}
use Rattle.and_translation.specs.Translation.{Walk, walk, state, equation, list_before}
use Rattle.and_grammar_laws.specs.Derivations.{Symbol, letters, phrase}
use Rattle.and_grammar_laws.specs.Grammars.{atom, IsBody}
use Rattle.and_grammar_laws.proofs.Chains.{first, others, behind}

-- the goals of a body from state s on
abbrev pub goals_of : List Symbol → ℕ → List Written
goals_of [] s = []
goals_of (letters [] ∷ body) s = goals_of body s
goals_of (letters (l ∷ ls) ∷ body) s = equation (state s) (list_before (map atom (l ∷ ls)) (state (suc s))) ∷ goals_of body (suc s)
goals_of (phrase n ∷ body) s = compound n (more (state s) (more (state (suc s)) none)) ∷ goals_of body (suc s)

abbrev pub walk_of : List Symbol → ℕ → Walk
walk_of body s = record { goals = goals_of body s; behind = behind body s; next = suc (behind body s) }

goals_both : (xs ys : List Symbol) (s : ℕ) → goals_of (xs ++ ys) s ≡ goals_of xs s ++ goals_of ys (behind xs s)
goals_both [] ys s = refl
goals_both (letters [] ∷ xs) ys s = goals_both xs ys s
goals_both (letters (l ∷ ls) ∷ xs) ys s =
    ap (λ (gs : List Written). equation (state s) (list_before (map atom (l ∷ ls)) (state (suc s))) ∷ gs) (goals_both xs ys (suc s))
goals_both (phrase n ∷ xs) ys s =
    ap (λ (gs : List Written). compound n (more (state s) (more (state (suc s)) none)) ∷ gs) (goals_both xs ys (suc s))

behind_both : (xs ys : List Symbol) (s : ℕ) → behind (xs ++ ys) s ≡ behind ys (behind xs s)
behind_both [] ys s = refl
behind_both (letters [] ∷ xs) ys s = behind_both xs ys s
behind_both (letters (l ∷ ls) ∷ xs) ys s = behind_both xs ys (suc s)
behind_both (phrase n ∷ xs) ys s = behind_both xs ys (suc s)

abbrev the_walk : List Written → ℕ → ℕ → Walk
the_walk gs k n = record { goals = gs; behind = k; next = n }

-- one body's walk, and then that of another
abbrev then_walk : Body → Walk → Walk
then_walk b v = let w = walk b v.behind v.next in record { goals = v.goals ++ w.goals; behind = w.behind; next = w.next }

two_walked : (b : Body) (xs ys : List Symbol) (s : ℕ) (v : Walk) → v ≡ walk_of xs s → walk b (behind xs s) (suc (behind xs s)) ≡ walk_of ys (behind xs s)
    → then_walk b v ≡ walk_of (xs ++ ys) s
two_walked b xs ys s v e h =
    ap (then_walk b) e ∙ ap (λ (w : Walk). the_walk (goals_of xs s ++ w.goals) w.behind w.next) h
    ∙ ap (λ (gs : List Written). the_walk gs (behind ys (behind xs s)) (suc (behind ys (behind xs s)))) (sym (goals_both xs ys s))
    ∙ ap (λ (k : ℕ). the_walk (goals_of (xs ++ ys) s) k (suc k)) (sym (behind_both xs ys s))

pub walked : (b : Body) (body : List Symbol) → IsBody b body → (s : ℕ) → walk b s (suc s) ≡ walk_of body s
walked nothing body h s = ap (λ (ss : List Symbol). walk_of ss s) (sym h)
walked (terminals ts) body h s =
    ap (λ (us : List Written). walk (terminals us) s (suc s)) h.2 ∙ ap (λ (ss : List Symbol). walk_of ss s) (sym h.3)
walked (goals t) body h s = elim h [ ]
walked (nonterminal c none) body h s = ap (λ (ss : List Symbol). walk_of ss s) (sym h)
walked (nonterminal c (more t ts)) body h s = elim h [ ]
walked (both a b) body h s =
    two_walked b h.0 h.1 s (walk a s (suc s)) (walked a h.0 h.2 s) (walked b h.1 h.3 (behind h.0 s)) ∙ ap (λ (ss : List Symbol). walk_of ss s) (sym h.4)
walked (either rest) body h s = elim h [ ]
walked impure body h s = elim h [ ]

-- a body has something in it
some_symbol : (b : Body) (body : List Symbol) → IsBody b body → body ≡ [] → ⊥
some_symbol nothing body h e = let f : letters [] ∷ [] ≡ [] = sym h ∙ e in absurd (cc)
some_symbol (terminals ts) body h e = let f : letters (h.0 ∷ h.1) ∷ [] ≡ [] = sym h.3 ∙ e in absurd (cc)
some_symbol (goals t) body h e = elim h [ ]
some_symbol (nonterminal c none) body h e = let f : phrase c ∷ [] ≡ [] = sym h ∙ e in absurd (cc)
some_symbol (nonterminal c (more t ts)) body h e = elim h [ ]
some_symbol (both a b) body h e = some_symbol a h.0 h.2 (front h.0 h.1 (sym h.4 ∙ e))
  where
    front : (xs ys : List Symbol) → xs ++ ys ≡ [] → xs ≡ []
    front [] ys f = refl
    front (x ∷ xs) ys f = absurd (cc)
some_symbol (either rest) body h e = elim h [ ]
some_symbol impure body h e = elim h [ ]

others_both : (xs ys : List Symbol) → (xs ≡ [] → ⊥) → others (xs ++ ys) ≡ others xs ++ ys
others_both [] ys h = absurd (h refl)
others_both (letters ls ∷ xs) ys h = refl
others_both (phrase n ∷ xs) ys h = refl

first_both : (xs ys : List Symbol) → (xs ≡ [] → ⊥) → first (xs ++ ys) ≡ first xs
first_both [] ys h = absurd (h refl)
first_both (letters ls ∷ xs) ys h = refl
first_both (phrase n ∷ xs) ys h = refl

-- what is behind the terminals at the beginning
pub walked_behind : (b : Body) (body : List Symbol) → IsBody b body → (s : ℕ) → walk (behind_first b) s (suc s) ≡ walk_of (others body) s
walked_behind nothing body h s = ap (λ (ss : List Symbol). walk_of (others ss) s) (sym h)
walked_behind (terminals ts) body h s = ap (λ (ss : List Symbol). walk_of (others ss) s) (sym h.3)
walked_behind (goals t) body h s = elim h [ ]
walked_behind (nonterminal c none) body h s = ap (λ (ss : List Symbol). walk_of (others ss) s) (sym h)
walked_behind (nonterminal c (more t ts)) body h s = elim h [ ]
walked_behind (both a b) body h s =
    two_walked b (others h.0) h.1 s (walk (behind_first a) s (suc s)) (walked_behind a h.0 h.2 s) (walked b h.1 h.3 (behind (others h.0) s))
    ∙ ap (λ (ss : List Symbol). walk_of ss s) (sym (others_both h.0 h.1 (some_symbol a h.0 h.2)))
    ∙ ap (λ (ss : List Symbol). walk_of (others ss) s) (sym h.4)
walked_behind (either rest) body h s = elim h [ ]
walked_behind impure body h s = elim h [ ]

-- and these terminals
pub first_is : (b : Body) (body : List Symbol) → IsBody b body → first_terminals b ≡ map atom (first body)
first_is nothing body h = ap (λ (ss : List Symbol). map atom (first ss)) (sym h)
first_is (terminals ts) body h = h.2 ∙ ap (λ (ss : List Symbol). map atom (first ss)) (sym h.3)
first_is (goals t) body h = elim h [ ]
first_is (nonterminal c none) body h = ap (λ (ss : List Symbol). map atom (first ss)) (sym h)
first_is (nonterminal c (more t ts)) body h = elim h [ ]
first_is (both a b) body h =
    first_is a h.0 h.2 ∙ ap (map atom) (sym (first_both h.0 h.1 (some_symbol a h.0 h.2))) ∙ ap (λ (ss : List Symbol). map atom (first ss)) (sym h.4)
first_is (either rest) body h = elim h [ ]
first_is impure body h = elim h [ ]

-- no atom that is derived means something else with two arguments
abbrev pub AreFree : List Symbol → Type 0
AreFree [] = Unit {0}
AreFree (letters ls ∷ body) = AreFree body
AreFree (phrase n ∷ body) = (has n reserved ≡ false) × AreFree body

free_both : (xs ys : List Symbol) → AreFree xs → AreFree ys → AreFree (xs ++ ys)
free_both [] ys h k = k
free_both (letters ls ∷ xs) ys h k = free_both xs ys h k
free_both (phrase n ∷ xs) ys h k = (h.0, free_both xs ys h.1 k)

pub free_others : (xs : List Symbol) → AreFree xs → AreFree (others xs)
free_others [] h = tt
free_others (letters ls ∷ xs) h = h
free_others (phrase n ∷ xs) h = h

or_none : (a b : Bool) → a || b ≡ false → b ≡ false
or_none true b e = absurd (cc)
or_none false b e = e

atom_free : (c : Bytes) (b1 b2 : Bool) (body : List Symbol) → (b2 ≡ false → has c reserved ≡ false)
    → IsBody (cond b1 nothing (cond b2 impure (nonterminal c none))) body → AreFree body
atom_free c true b2 body k h = subst AreFree (sym h) tt
atom_free c false true body k h = elim h [ ]
atom_free c false false body k h = subst AreFree (sym h) (k refl, tt)

unary_free : (c : Bytes) (t : Written) (b1 b2 : Bool) (body : List Symbol)
    → IsBody (cond b1 (goals t) (cond b2 impure (nonterminal c (more t none)))) body → AreFree body
unary_free c t true b2 body h = elim h [ ]
unary_free c t false true body h = elim h [ ]
unary_free c t false false body h = elim h [ ]

list_free : (o : Option (List Written)) (body : List Symbol) → IsBody (terminals_or_impure o) body → AreFree body
list_free None body h = elim h [ ]
list_free (Some ts) body h = subst AreFree (sym h.3) tt

pub free : (w : Written) (body : List Symbol) → IsBody (body_of w) body → AreFree body
free (variable x) body h = elim h [ ]
free (integer z) body h = elim h [ ]
free (compound c none) body h =
    atom_free c (bytes_eq c (codes "[]")) (bytes_eq c (codes "!") || has c reserved) body (or_none (bytes_eq c (codes "!")) (has c reserved)) h
free (compound c (more t none)) body h = unary_free c t (bytes_eq c (codes "{}")) (bytes_eq c (codes "\\+")) body h
free (compound c (more t (more u none))) body h =
    by (bytes_eq c (codes ",")) (bytes_eq c (codes ";")) (bytes_eq c (codes ".")) (bytes_eq c (codes "->")) h (λ xs k. free t xs k) (λ xs k. free u xs k)
  where
    by : (b1 b2 b3 b4 : Bool)
        → IsBody (cond b1 (both (body_of t) (body_of u)) (cond b2 (either (or (body_of t) (alternatives (body_of u))))
        (cond b3 (terminals_or_impure (option_map (λ ts. t ∷ ts) (elements u))) (cond b4 impure (nonterminal c (more t (more u none))))))) body
        → ((xs : List Symbol) → IsBody (body_of t) xs → AreFree xs) → ((xs : List Symbol) → IsBody (body_of u) xs → AreFree xs) → AreFree body
    by true b2 b3 b4 k one two = subst AreFree (sym k.4) (free_both k.0 k.1 (one k.0 k.2) (two k.1 k.3))
    by false true b3 b4 k one two = elim k [ ]
    by false false true b4 k one two = list_free (option_map (λ ts. t ∷ ts) (elements u)) body k
    by false false false true k one two = elim k [ ]
    by false false false false k one two = elim k [ ]
free (compound c (more t (more u (more v ts)))) body h = elim h [ ]
