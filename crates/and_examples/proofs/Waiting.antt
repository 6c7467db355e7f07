-- Rows floundered and late-comparison: goals that wait, and comparisons that run.
use Rattle.std.proofs.Common.{ℕ, zero, suc, ◌≡◌, List, [], ◌∷◌, refl, arith, codes}
use Rattle.std.specs.Fmt.{digits}
use Rattle.and_model.specs.Terms.{Path, Term, variable, none, more, Substitution, apply}
use Rattle.and_model.specs.Solutions.{Equation, Solves, MostGeneral, falsehood}
use Rattle.and_model.specs.Arithmetic.{holds}
use Rattle.and_model.specs.Programs.{Arithmetic, clause_weight}
use Rattle.and_model.specs.Closure.{Closes, First, Known, Ready, NoneReady}
use Rattle.and_model.specs.Trees.{QueryTree, done, equate, reckon, Open}
use Rattle.and_model.specs.Lines.{Bytes}
use Rattle.and_model.specs.Listing.{Ends, Outcome, answer, floundered, Exhausted}
use Rattle.and_laws.specs.Fitting.{AllFit}
use Rattle.and_laws.proofs.Listings.{closed_alike, one_outcome, fitting_trees_exhausted}
use Rattle.and_examples.specs.Ending.{CodeEnds}
use Rattle.and_examples.specs.Texts.{own, whole, x_is_x, floundered_text, x_below_3, late_text, not_below}

-- Where no goal is known, nothing is first, and so a closure adds nothing.
none_first : (es : List Equation) (gs : List Arithmetic) (g : Arithmetic) (bs : List Arithmetic) → NoneReady es gs → First es gs g bs → Ready es g → ⊥
none_first es _ g _ n (First.first _ gs) r = n.0 r
none_first es _ g _ n (First.after a gs _ bs _ f) r = none_first es gs g bs n.1 f r

pub only_waits : (es : List Equation) (gs : List Arithmetic) (ds : List Equation) (ws : List Arithmetic) → NoneReady es gs → Closes es gs ds ws
    → (ds ≡ es) × (ws ≡ gs)
only_waits es gs _ _ n (Closes.unsolved _ _ _) = (refl, refl)
only_waits es gs _ _ n (Closes.waiting _ _ _) = (refl, refl)
only_waits es gs ds ws n (Closes.run _ _ g bs ts _ _ _ f k _) = absurd (none_first es gs g bs n f (ts, k))

-- the substitution that gives every variable this number
abbrev all_are : ℕ → Substitution
all_are n r k = whole n

abbrev pub nothing_given : Substitution
nothing_given r k = variable r k

-- With X = 0 the goal X is X + 0 has 0 + 0 on its right side, and with X = 1 it has 1 + 0.
x_is_x_waits : NoneReady [] (x_is_x ∷ [])
x_is_x_waits = ((λ k. let a = k.1.1 (all_are 0) tt in let b = k.1.1 (all_are 1) tt in cc), tt)

pub floundered_closes : Closes [] (x_is_x ∷ []) [] (x_is_x ∷ [])
floundered_closes = Closes.waiting [] (x_is_x ∷ []) x_is_x_waits

pub floundered_only : (es : List Equation) (gs : List Arithmetic) → Closes [] (x_is_x ∷ []) es gs → (es ≡ []) × (gs ≡ x_is_x ∷ [])
floundered_only es gs c = only_waits [] (x_is_x ∷ []) es gs x_is_x_waits c

abbrev floundered_tree : QueryTree floundered_text
floundered_tree = reckon done

floundered_end : Ends floundered_tree (floundered (codes "X = _0 with is(_0,+(_0,0))"))
unfolding digits
floundered_end = (tt, [], x_is_x ∷ [], floundered_closes, nothing_given, (tt, λ t h r k. refl), refl)

pub floundered_ends : CodeEnds floundered_text [] (floundered (codes "X = _0 with is(_0,+(_0,0))"))
floundered_ends = (floundered_tree, refl, floundered_end)

floundered_alone : (t : QueryTree floundered_text) (text : Bytes) → Ends t (answer text) → ⊥
floundered_alone (reckon done) text e = let same =
    one_outcome floundered_tree (answer text) (floundered (codes "X = _0 with is(_0,+(_0,0))")) e floundered_end in cc

pub floundered_no_answer : (text : Bytes) → CodeEnds floundered_text [] (answer text) → ⊥
floundered_no_answer text e = floundered_alone e.0 text e.2

-- The query weighs 1, 1 for X and 2 for its `is`. It has no call.
no_call : (t : QueryTree floundered_text) → Open t → ⊥
no_call (reckon done) o = elim o [ ]

pub floundered_fits : AllFit floundered_text 4
unfolding clause_weight
floundered_fits = (omega arith, λ t reached es gs closed o c candidate. absurd (no_call t o))

pub floundered_exhausted : Exhausted floundered_text 4
floundered_exhausted = fitting_trees_exhausted floundered_text 4 floundered_fits

-- ---- late-comparison: ?- X < 3, X = 2.
x_below_3_waits : NoneReady [] (x_below_3 ∷ [])
x_below_3_waits = ((λ k. let a = k.1.1 (all_are 0) tt in let b = k.1.1 (all_are 1) tt in cc), tt)

pub late_alone : Closes [] (x_below_3 ∷ []) [] (x_below_3 ∷ [])
late_alone = Closes.waiting [] (x_below_3 ∷ []) x_below_3_waits

abbrev x_is_2 : List Equation
x_is_2 = (own 0, whole 2) ∷ []

x_below_3_known : Known x_is_2 x_below_3 (more (whole 2) (more (whole 3) none))
x_below_3_known = (refl, λ s h. let e = h.0 in cc)

-- 2 < 3 holds, and adds nothing.
pub late_closes : Closes x_is_2 (x_below_3 ∷ []) x_is_2 []
unfolding holds
late_closes =
    Closes.run x_is_2 (x_below_3 ∷ []) x_below_3 [] (more (whole 2) (more (whole 3) none)) x_is_2 [] (
      all_are 2,
      (refl, tt),
    ) (First.first x_below_3 []) x_below_3_known
    (Closes.waiting x_is_2 [] tt)

-- the query's X alone has a value
abbrev given : Term → Substitution
given u [] zero = u
given u [] (suc k) = variable [] (suc k)
given u (i ∷ r) k = variable (i ∷ r) k

late_general : MostGeneral (given (whole 2)) x_is_2
late_general = ((refl, tt), through)
  where
    through : (t : Substitution) → Solves t x_is_2 → (r : Path) (k : ℕ) → t r k ≡ apply t (given (whole 2) r k)
    through t h [] zero = h.0
    through t h [] (suc k) = refl
    through t h (i ∷ r) k = refl

abbrev late_tree : QueryTree late_text
late_tree = reckon (equate done)

late_end : Ends late_tree (answer (codes "X = 2"))
unfolding digits
late_end = (tt, x_is_2, [], late_closes, given (whole 2), late_general, refl)

pub late_ends : CodeEnds late_text [] (answer (codes "X = 2"))
late_ends = (late_tree, refl, late_end)

-- nothing solves falsehood
pub never : (s : Substitution) → Solves s (falsehood ∷ []) → ⊥
never s h = let e = h.0 in cc

-- ---- ?- X = 3, X < 3. The comparison does not hold of 3 and 3.
abbrev x_is_3 : List Equation
x_is_3 = (own 0, whole 3) ∷ []

x_below_3_reached : Known x_is_3 x_below_3 (more (whole 3) (more (whole 3) none))
x_below_3_reached = (refl, λ s h. let e = h.0 in cc)

pub refuted_closes : Closes x_is_3 (x_below_3 ∷ []) (falsehood ∷ x_is_3) []
unfolding holds
refuted_closes =
    Closes.run x_is_3 (x_below_3 ∷ []) x_below_3 [] (more (whole 3) (more (whole 3) none)) (falsehood ∷ x_is_3) [] (
      all_are 3,
      (refl, tt),
    ) (First.first x_below_3 []) x_below_3_reached
    (Closes.waiting (falsehood ∷ x_is_3) [] tt)

abbrev not_below_tree : QueryTree not_below
not_below_tree = equate (reckon done)

not_below_ends : (t : QueryTree not_below) (o : Outcome) → Ends t o → ⊥
not_below_ends (equate (reckon done)) o e =
    let alike = closed_alike not_below_tree e.1 (falsehood ∷ x_is_3) e.2 [] e.3 refuted_closes in
    let solves = alike.0 e.4 e.5.0 in
    never e.4 (solves.0, tt)

pub not_below_no_end : (o : Outcome) → CodeEnds not_below [] o → ⊥
not_below_no_end o e = not_below_ends e.0 o e.2
