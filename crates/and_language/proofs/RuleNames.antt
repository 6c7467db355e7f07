-- The clause for which a rule stands has the rule's names and those of lists, goals and clauses.
use Rattle.std.proofs.Common.{ℕ, suc, ◌≡◌, ◌||◌, Bool, true, false, cond, List, [], ◌∷◌, ◌++◌, refl, Option, Some, None, codes}
use Rattle.std.specs.Str.{bytes_eq}
use Rattle.std.specs.Option.{option_map}
use Rattle.and_model.specs.Lines.{Bytes}
use Rattle.and_syntax.specs.Written.{Written, Many, variable, integer, compound, none, more, has}
use Rattle.and_syntax.proofs.Names.{is_writable, AreWritable, AllWritable}
use Rattle.and_translation.specs.Bodies.{Body, Alternatives, nothing, terminals, goals, nonterminal, both, either, impure, last, or}
use Rattle.and_translation.specs.Bodies.{elements, terminals_or_impure, reserved, atom_body, unary_body, binary_body, alternatives, body_of}
use Rattle.and_translation.specs.Bodies.{first_terminals, behind_first}
use Rattle.and_translation.specs.Translation.{state, list_before, equation, with_states, joined, Walk, ended, walk, choose, head_between}
use Rattle.and_translation.specs.Translation.{clause_from, rule_clause, translated}

-- each of several terms
abbrev Each : List Written → Type 0
Each [] = Unit {0}
Each (t ∷ ts) = AreWritable t × Each ts

abbrev EachIn : Option (List Written) → Type 0
EachIn None = Unit {0}
EachIn (Some ts) = Each ts

abbrev mutual
  -- the names in a body
  WritableBody : Body → Type 0
  WritableBody nothing = Unit {0}
  WritableBody (terminals ts) = Each ts
  WritableBody (goals t) = AreWritable t
  WritableBody (nonterminal c ts) = (is_writable c ≡ true) × AllWritable ts
  WritableBody (both a b) = WritableBody a × WritableBody b
  WritableBody (either rest) = WritableAlternatives rest
  WritableBody impure = Unit {0}

  WritableAlternatives : Alternatives → Type 0
  WritableAlternatives (last a) = WritableBody a
  WritableAlternatives (or a rest) = WritableBody a × WritableAlternatives rest

-- a choice of two
chosen : {X : Type 0} (P : X → Type 0) (b : Bool) (x y : X) → P x → P y → P (cond b x y)
chosen P true x y h k = h
chosen P false x y h k = k

appended : (ts us : List Written) → Each ts → Each us → Each (ts ++ us)
appended [] us h k = k
appended (t ∷ ts) us h k = (h.0, appended ts us h.1 k)

-- What a body is made of.

one_more : (t : Written) (o : Option (List Written)) → AreWritable t → EachIn o → EachIn (option_map (λ ts. t ∷ ts) o)
one_more t None h k = tt
one_more t (Some ts) h k = (h, k)

elements-writable : (w : Written) → AreWritable w → EachIn (elements w)
elements-writable (variable x) h = tt
elements-writable (integer z) h = tt
elements-writable (compound c none) h = chosen EachIn (bytes_eq c (codes "[]")) (Some []) None tt tt
elements-writable (compound c (more t none)) h = tt
elements-writable (compound c (more t (more u none))) h =
    chosen EachIn (bytes_eq c (codes ".")) (option_map (λ ts. t ∷ ts) (elements u)) None
    (one_more t (elements u) h.1.0 (elements-writable u h.1.1.0)) tt
elements-writable (compound c (more t (more u (more v ts)))) h = tt

list_body : (o : Option (List Written)) → EachIn o → WritableBody (terminals_or_impure o)
list_body None h = tt
list_body (Some ts) h = h

atom-writable : (c : Bytes) → is_writable c ≡ true → WritableBody (atom_body c)
atom-writable c h =
    chosen WritableBody (bytes_eq c (codes "[]")) nothing (cond (bytes_eq c (codes "!") || has c reserved) impure (nonterminal c none)) tt
    (chosen WritableBody (bytes_eq c (codes "!") || has c reserved) impure (nonterminal c none) tt (h, tt))

unary-writable : (c : Bytes) (t : Written) → is_writable c ≡ true → AreWritable t → WritableBody (unary_body c t)
unary-writable c t h k =
    chosen WritableBody (bytes_eq c (codes "{}")) (goals t) (cond (bytes_eq c (codes "\\+")) impure (nonterminal c (more t none))) k
    (chosen WritableBody (bytes_eq c (codes "\\+")) impure (nonterminal c (more t none)) tt (h, (k, tt)))

binary-writable : (c : Bytes) (t u : Written) → is_writable c ≡ true → AreWritable t → AreWritable u → WritableBody (binary_body c t u)
binary-writable c t u h a b =
    let ts : Option (List Written) = option_map (λ ts. t ∷ ts) (elements u) in
    let called : Body = nonterminal c (more t (more u none)) in
    chosen WritableBody (bytes_eq c (codes ".")) (terminals_or_impure ts) (cond (bytes_eq c (codes "->")) impure called)
    (list_body ts (one_more t (elements u) a (elements-writable u b)))
    (chosen WritableBody (bytes_eq c (codes "->")) impure called tt (h, (a, (b, tt))))

alternatives-writable : (b : Body) → WritableBody b → WritableAlternatives (alternatives b)
alternatives-writable nothing h = h
alternatives-writable (terminals ts) h = h
alternatives-writable (goals t) h = h
alternatives-writable (nonterminal c ts) h = h
alternatives-writable (both a b) h = h
alternatives-writable (either rest) h = h
alternatives-writable impure h = h

body-writable : (w : Written) → AreWritable w → WritableBody (body_of w)
body-writable (variable x) h = tt
body-writable (integer z) h = tt
body-writable (compound c none) h = atom-writable c h.0
body-writable (compound c (more t none)) h = unary-writable c t h.0 h.1.0
body-writable (compound c (more t (more u none))) h =
    let a = body-writable t h.1.0 in
    let b = body-writable u h.1.1.0 in
    let others : Body = either (or (body_of t) (alternatives (body_of u))) in
    chosen WritableBody (bytes_eq c (codes ",")) (both (body_of t) (body_of u)) (cond (bytes_eq c (codes ";")) others (binary_body c t u)) (a, b)
    (chosen WritableBody (bytes_eq c (codes ";")) others (binary_body c t u) (a, alternatives-writable (body_of u) b)
    (binary-writable c t u h.0 h.1.0 h.1.1.0))
body-writable (compound c (more t (more u (more v ts)))) h = h

first-writable : (b : Body) → WritableBody b → Each (first_terminals b)
first-writable nothing h = tt
first-writable (terminals ts) h = h
first-writable (goals t) h = tt
first-writable (nonterminal c ts) h = tt
first-writable (both a b) h = first-writable a h.0
first-writable (either rest) h = tt
first-writable impure h = tt

behind-writable : (b : Body) → WritableBody b → WritableBody (behind_first b)
behind-writable nothing h = tt
behind-writable (terminals ts) h = tt
behind-writable (goals t) h = h
behind-writable (nonterminal c ts) h = h
behind-writable (both a b) h = (behind-writable a h.0, h.1)
behind-writable (either rest) h = h
behind-writable impure h = tt

-- What comes of it.

list-writable : (ts : List Written) (s : Written) → Each ts → AreWritable s → AreWritable (list_before ts s)
list-writable [] s h k = k
list-writable (t ∷ ts) s h k = (refl, (h.0, (list-writable ts s h.1 k, tt)))

states-writable : (ts : Many) (s t : Written) → AllWritable ts → AreWritable s → AreWritable t → AllWritable (with_states ts s t)
states-writable none s t h a b = (a, (b, tt))
states-writable (more u us) s t h a b = (h.0, states-writable us s t h.1 a b)

joined-writable : (gs : List Written) → Each gs → AreWritable (joined gs)
joined-writable [] h = (refl, tt)
joined-writable (g ∷ []) h = h.0
joined-writable (g ∷ f ∷ gs) h = (refl, (h.0, (joined-writable (f ∷ gs) h.1, tt)))

ended-writable : (i : ℕ) (w : Walk) → Each w.goals → AreWritable (ended i w)
ended-writable i w h =
    let last : List Written = equation (state i) (state w.behind) ∷ [] in
    joined-writable (w.goals ++ last) (appended w.goals last h ((refl, (tt, (tt, tt))), tt))

mutual
  walk-writable : (b : Body) (s n : ℕ) → WritableBody b → Each (walk b s n).goals
  walk-writable nothing s n h = tt
  walk-writable (terminals ts) s n h = ((refl, (tt, (list-writable ts (state n) h tt, tt))), tt)
  walk-writable (goals t) s n h = (h, tt)
  walk-writable (nonterminal c ts) s n h = ((h.0, states-writable ts (state s) (state n) h.1 tt tt), tt)
  walk-writable (both a b) s n h =
      let v : Walk = walk a s n in
      appended v.goals (walk b v.behind v.next).goals (walk-writable a s n h.0) (walk-writable b v.behind v.next h.1)
  walk-writable (either rest) s n h = (choose-writable rest s n (suc n) h, tt)
  walk-writable impure s n h = tt

  choose-writable : (a : Alternatives) (s i n : ℕ) → WritableAlternatives a → AreWritable (choose a s i n).goal
  choose-writable (last a) s i n h = ended-writable i (walk a s n) (walk-writable a s n h)
  choose-writable (or a rest) s i n h =
      let w : Walk = walk a s n in
      (refl, (ended-writable i w (walk-writable a s n h.0), (choose-writable rest s i w.next h.1, tt)))

head-writable : (h s t : Written) → AreWritable h → AreWritable s → AreWritable t → AreWritable (head_between h s t)
head-writable (variable x) s t h a b = tt
head-writable (integer z) s t h a b = tt
head-writable (compound c ts) s t h a b = (h.0, states-writable ts s t h.1 a b)

clause-writable : (h : Written) (ts : List Written) (w : Walk) → AreWritable h → Each ts → Each w.goals → AreWritable (clause_from h ts w)
clause-writable h ts w a b d =
    let first = list-writable ts (state 0) b tt in
    (refl, (head-writable h (list_before ts (state 0)) (state w.behind) a first tt, (joined-writable w.goals d, tt)))

pub translated-writable : (w : Written) → AreWritable w → AreWritable (translated w)
translated-writable (variable x) h = tt
translated-writable (integer z) h = tt
translated-writable (compound c none) h = h
translated-writable (compound c (more t none)) h = h
translated-writable (compound c (more t (more u none))) h =
    let b : Body = body_of u in
    let k = body-writable u h.1.1.0 in
    clause-writable t (first_terminals b) (walk (behind_first b) 0 1) h.1.0 (first-writable b k)
    (walk-writable (behind_first b) 0 1 (behind-writable b k))
translated-writable (compound c (more t (more u (more v ts)))) h = h
