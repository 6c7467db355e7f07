-- A higher assignment gives higher environments.
use Rattle.std.proofs.Common.{ℕ, suc, ◌≡◌, ◌≤◌, List, [], ◌∷◌, refl, arith, Bool, true, false, cond}
use Rattle.std.proofs.lemmas.Bool.{leb-true, le-leb, and_parts, and_from}
use Rattle.and_model.specs.Terms.{Term, Terms, variable, number, compound, none, more, variables_of}
use Rattle.and_model.specs.Lines.{has}
use Rattle.and_model.specs.Programs.{Clause, Item, call, equal, arithmetic, fail, is, compare}
use Rattle.and_modes.specs.Modes.{rank, higher, Assignment, Environment, is_ground_in, are_ground_in, level_in, level_within, raised, all_raised, levels_of}
use Rattle.and_modes.specs.Modes.{name_of, arguments_of, count_of, at_entry, after_item, after_items}
use Rattle.and_modes.specs.Asked.{IsAtOrAbove}
use Rattle.and_modes.specs.declared.level.Level.{Level}
use Rattle.and_modes.specs.declared.level.Level.TheVariants.{Any, Ground, Integer}
use Rattle.and_modes.specs.declared.level.Side.TheVariants.{Called, Succeeded}

-- the one environment is at or above the other for each variable
abbrev pub IsOver : (high low : Environment) → Type 0
IsOver high low = (k : ℕ) → rank (low k) ≤ rank (high k)

pub at_most_integer : (l : Level) → rank l ≤ 2
at_most_integer Any = omega arith
at_most_integer Ground = omega arith
at_most_integer Integer = omega arith

higher_left : (l k : Level) → rank l ≤ rank (higher l k)
higher_left Any Any = omega arith
higher_left Any Ground = omega arith
higher_left Any Integer = omega arith
higher_left Ground Any = omega arith
higher_left Ground Ground = omega arith
higher_left Ground Integer = omega arith
higher_left Integer Any = omega arith
higher_left Integer Ground = omega arith
higher_left Integer Integer = omega arith

higher_right : (l k : Level) → rank k ≤ rank (higher l k)
higher_right Any Any = omega arith
higher_right Any Ground = omega arith
higher_right Any Integer = omega arith
higher_right Ground Any = omega arith
higher_right Ground Ground = omega arith
higher_right Ground Integer = omega arith
higher_right Integer Any = omega arith
higher_right Integer Ground = omega arith
higher_right Integer Integer = omega arith

higher_least : (l k : Level) (n : ℕ) → rank l ≤ n → rank k ≤ n → rank (higher l k) ≤ n
higher_least Any Any n a b = omega arith
higher_least Any Ground n a b = omega arith
higher_least Any Integer n a b = omega arith
higher_least Ground Any n a b = omega arith
higher_least Ground Ground n a b = omega arith
higher_least Ground Integer n a b = omega arith
higher_least Integer Any n a b = omega arith
higher_least Integer Ground n a b = omega arith
higher_least Integer Integer n a b = omega arith

higher_over : (a b x y : Level) → rank a ≤ rank x → rank b ≤ rank y → rank (higher a b) ≤ rank (higher x y)
higher_over a b x y p q =
    let left = higher_left x y in
    let right = higher_right x y in
    higher_least a b (rank (higher x y)) (omega arith) (omega arith)

within_over : (t : Term) (l k : Level) → rank l ≤ rank k → rank (level_within t l) ≤ rank (level_within t k)
within_over t Any k le = omega arith
within_over t Ground Any le = absurd (omega arith)
within_over t Ground Ground le = omega arith
within_over (variable q j) Ground Integer le = omega arith
within_over (number z) Ground Integer le = omega arith
within_over (compound c ts) Ground Integer le = omega arith
within_over t Integer Any le = absurd (omega arith)
within_over t Integer Ground le = absurd (omega arith)
within_over (variable q j) Integer Integer le = omega arith
within_over (number z) Integer Integer le = omega arith
within_over (compound c ts) Integer Integer le = omega arith

cond_over : (b : Bool) (x y u v : Level) → rank x ≤ rank u → rank y ≤ rank v → rank (cond b x y) ≤ rank (cond b u v)
cond_over true x y u v p q = p
cond_over false x y u v p q = q

raised_over : (e f : Environment) (t : Term) (l k : Level) → IsOver e f → rank l ≤ rank k → IsOver (raised e t k) (raised f t l)
raised_over e f t l k over le = λ j.
    cond_over (has ([], j) (variables_of t)) (higher (f j) (level_within t l)) (f j) (higher (e j) (level_within t k)) (e j)
    (higher_over (f j) (level_within t l) (e j) (level_within t k) (over j) (within_over t l k le)) (over j)

cond_more : (b : Bool) (x y : Level) → rank x ≤ rank (cond b (higher x y) x)
cond_more true x y = higher_left x y
cond_more false x y = omega arith

raised_more : (e f : Environment) (t : Term) (l : Level) → IsOver e f → IsOver (raised e t l) f
raised_more e f t l over = λ j.
    let here = over j in
    let more = cond_more (has ([], j) (variables_of t)) (e j) (level_within t l) in
    omega arith

pub all_raised_over : (e f : Environment) (high low : ℕ → Level) (i : ℕ) (ts : Terms) → IsOver e f → ((p : ℕ) → rank (low p) ≤ rank (high p))
    → IsOver (all_raised e high i ts) (all_raised f low i ts)
all_raised_over e f high low i none over le = over
all_raised_over e f high low i (more t ts) over le =
    all_raised_over (raised e t (high i)) (raised f t (low i)) high low (suc i) ts (raised_over e f t (low i) (high i) over (le i)) le

mutual
  pub ground_over : (e f : Environment) (t : Term) → IsOver e f → is_ground_in f t ≡ true → is_ground_in e t ≡ true
  ground_over e f (variable q k) over g =
      let here = over k in
      let low : 1 ≤ rank (f k) = leb-true 1 (rank (f k)) g in
      le-leb 1 (rank (e k)) (omega arith)
  ground_over e f (number z) over g = refl
  ground_over e f (compound c ts) over g = all_ground_over e f ts over g

  all_ground_over : (e f : Environment) (ts : Terms) → IsOver e f → are_ground_in f ts ≡ true → are_ground_in e ts ≡ true
  all_ground_over e f none over g = refl
  all_ground_over e f (more t ts) over g =
      let both = and_parts (is_ground_in f t) (are_ground_in f ts) g in
      and_from (is_ground_in e t) (are_ground_in e ts) (ground_over e f t over both.0) (all_ground_over e f ts over both.1)

ground_level_over : (b c : Bool) → (c ≡ true → b ≡ true) → rank (cond c Ground Any) ≤ rank (cond b Ground Any)
ground_level_over true true h = omega arith
ground_level_over true false h = omega arith
ground_level_over false true h = let e : false ≡ true = h refl in absurd (cc)
ground_level_over false false h = omega arith

pub level_over : (e f : Environment) (t : Term) → IsOver e f → rank (level_in f t) ≤ rank (level_in e t)
level_over e f (variable q k) over = over k
level_over e f (number z) over = omega arith
level_over e f (compound c ts) over = ground_level_over (are_ground_in e ts) (are_ground_in f ts) (all_ground_over e f ts over)

is_over : (b c : Bool) (e f : Environment) (l : Term) → (c ≡ true → b ≡ true) → IsOver e f
    → IsOver (cond b (raised e l Integer) e) (cond c (raised f l Integer) f)
is_over true true e f l h over = raised_over e f l Integer Integer over (omega arith)
is_over true false e f l h over = raised_more e f l Integer over
is_over false true e f l h over = let e : false ≡ true = h refl in absurd (cc)
is_over false false e f l h over = over

pub after_item_over : (m o : Assignment) (e f : Environment) (item : Item) → IsAtOrAbove m o → IsOver e f → IsOver (after_item m e item) (after_item o f item)
after_item_over m o e f (call g) above over =
    all_raised_over e f (levels_of m g Succeeded) (levels_of o g Succeeded) 0 (arguments_of g) over
    (λ p. above (name_of g) (count_of (arguments_of g)) p Succeeded)
after_item_over m o e f (equal a b) above over =
    raised_over (raised e a (level_in e b)) (raised f a (level_in f b)) b (level_in f a) (level_in e a)
    (raised_over e f a (level_in f b) (level_in e b) over (level_over e f b over)) (level_over e f a over)
after_item_over m o e f (arithmetic (is l r)) above over = is_over (is_ground_in e r) (is_ground_in f r) e f l (ground_over e f r over) over
after_item_over m o e f (arithmetic (compare r a b)) above over = over
after_item_over m o e f fail above over = over

pub after_items_over : (m o : Assignment) (e f : Environment) (items : List Item) → IsAtOrAbove m o → IsOver e f
    → IsOver (after_items m e items) (after_items o f items)
after_items_over m o e f [] above over = over
after_items_over m o e f (item ∷ items) above over =
    after_items_over m o (after_item m e item) (after_item o f item) items above (after_item_over m o e f item above over)

pub entry_over : (m o : Assignment) (k : Clause) → IsAtOrAbove m o → IsOver (at_entry m k) (at_entry o k)
entry_over m o k above =
    all_raised_over (λ v. Any) (λ v. Any) (levels_of m k.head Called) (levels_of o k.head Called) 0 (arguments_of k.head) (λ j. omega arith)
    (λ p. above (name_of k.head) (count_of (arguments_of k.head)) p Called)
