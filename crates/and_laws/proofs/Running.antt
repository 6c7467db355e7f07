-- What was run stays run along a Step: the goals that were run are known under the larger tree's equations too.
use Rattle.std.proofs.Common.{ℕ, suc, ◌≡◌, List, [], ◌∷◌, ◌++◌, refl, sym, ◌∙◌, subst, inl, inr, append_assoc}
use Rattle.and_model.specs.Terms.{Path}
use Rattle.and_model.specs.Solutions.{Equation, Entails}
use Rattle.and_model.specs.Programs.{Program, Item, call, equal, arithmetic, fail, Arithmetic, arithmetic_in, clause_at, Of}
use Rattle.and_model.specs.Closure.{added, Ran, none_yet, one, Without, here, there}
use Rattle.and_model.specs.Trees.{Agenda, Tree, done, left, by, equate, reckon, equations, arithmetics, Open, path, call_of, fresh, reduce}
use Rattle.and_laws.specs.Weaving.{Woven, none, old, new, body_arithmetic}
use Rattle.and_laws.proofs.Bodies.{fresh_equations}
use Rattle.and_laws.proofs.Closing.{known_more}
use Rattle.and_laws.proofs.Solving.{solves_join, solves_front, solves_back}

-- goals of which one is taken out, with others among them
record Apart (bs news hs : List Arithmetic) (g : Arithmetic) : Type 0 where
  pub rest : List Arithmetic
  pub without : Without hs g rest
  pub woven : Woven bs news rest

taken_out : (olds news hs : List Arithmetic) → Woven olds news hs → (g : Arithmetic) (bs : List Arithmetic) → Without olds g bs → Apart bs news hs g
taken_out olds news hs none g bs w = elim w [ ]
taken_out olds news hs (old a os ns ws r) g bs (here g' gs) = record { rest = ws; without = here a ws; woven = r }
taken_out olds news hs (old a os ns ws r) g bs (there a' gs g' cs w) =
    let i : Apart cs ns ws g' = taken_out os ns ws r g' cs w in
    record { rest = a ∷ i.rest; without = there a ws g' i.rest i.without; woven = old a cs ns i.rest i.woven }
taken_out olds news hs (new a os ns ws r) g bs w =
    let i : Apart bs ns ws g = taken_out os ns ws r g bs w in
    record { rest = a ∷ i.rest; without = there a ws g i.rest i.without; woven = new a bs ns i.rest i.woven }

-- What was run is run again under more equations, and other goals among the old ones wait with those that wait.
pub record Again (es cs : List Equation) (hs news : List Arithmetic) (ds : List Equation) (ws : List Arithmetic) : Type 0 where
  pub gained : List Equation
  pub was : ds ≡ gained ++ es
  pub waits : List Arithmetic
  pub woven : Woven ws news waits
  pub ran : Ran cs hs (gained ++ cs) waits

joined_entail : (xs es cs : List Equation) → Entails cs es → Entails (xs ++ cs) (xs ++ es)
joined_entail xs es cs h s p = solves_join s xs es (solves_front s xs cs p) (h s (solves_back s xs cs p))

pub run_again : (es : List Equation) (gs : List Arithmetic) (ds : List Equation) (ws : List Arithmetic) → Ran es gs ds ws
    → (cs : List Equation) (hs news : List Arithmetic) → Entails cs es → Woven gs news hs → Again es cs hs news ds ws
run_again es gs ds ws (none_yet es' gs') cs hs news h w = record { gained = []; was = refl; waits = hs; woven = w; ran = none_yet cs hs }
run_again es gs ds ws (one es' gs' g bs ts ds' ws' out k r) cs hs news h w =
    let a : Apart bs news hs g = taken_out gs' news hs w g bs out in
    let i : Again (added g ts ++ es') (added g ts ++ cs) a.rest news ds' ws' =
    run_again (added g ts ++ es') bs ds' ws' r (added g ts ++ cs) a.rest news (joined_entail (added g ts) es' cs h) a.woven in
    record {
      gained = i.gained ++ added g ts;
      was = i.was ∙ sym (append_assoc i.gained (added g ts) es');
      waits = i.waits;
      woven = i.woven;
      ran = one cs hs g a.rest ts ((i.gained ++ added g ts) ++ cs) i.waits a.without (known_more es' cs g ts h k)
          (subst (λ xs. Ran (added g ts ++ cs) a.rest xs i.waits) (sym (append_assoc i.gained (added g ts) cs)) i.ran);
    }

-- Nothing among goals
pub all_old : (gs : List Arithmetic) → Woven gs [] gs
all_old [] = none
all_old (g ∷ gs) = old g gs [] gs (all_old gs)

-- A body's goals come among those of the tree that it is put before,
fresh_woven : {P : Program} (q : Path) (i : ℕ) (items : List Item) {rest : Agenda} (t : Tree P rest)
    → Woven (arithmetics t) (body_arithmetic q items) (arithmetics (fresh q i items t))
fresh_woven q i [] t = all_old (arithmetics t)
fresh_woven q i (call g ∷ items) t = fresh_woven q (suc i) items t
fresh_woven q i (equal a b ∷ items) t = fresh_woven q (suc i) items t
fresh_woven q i (arithmetic a ∷ items) t =
    new (arithmetic_in q a) (arithmetics t) (body_arithmetic q items) (arithmetics (fresh q (suc i) items t)) (fresh_woven q (suc i) items t)
fresh_woven q i (fail ∷ items) t = fresh_woven q (suc i) items t

-- and so do those of a clause that takes an open goal.
pub reduce_woven : {P : Program} {ag : Agenda} (t : Tree P ag) (o : Open t) (c : ℕ) (h : Of P (call_of t o) c)
    → Woven (arithmetics t) (body_arithmetic (path t o) (clause_at P c).body) (arithmetics (reduce t o c h))
reduce_woven done o c h = elim o [ ]
reduce_woven {P} (left {q = q} t) (inl u) c h = fresh_woven q 0 (clause_at P c).body t
reduce_woven (left t) (inr o) c h = reduce_woven t o c h
reduce_woven (by d k t) o c h = reduce_woven t o c h
reduce_woven (equate t) o c h = reduce_woven t o c h
reduce_woven {P} (reckon {a = a} t) o c h =
    old a (arithmetics t) (body_arithmetic (path t o) (clause_at P c).body) (arithmetics (reduce t o c h)) (reduce_woven t o c h)

-- The tree's equations are among those of the larger one.
pub reduce_entails : {P : Program} {ag : Agenda} (t : Tree P ag) (o : Open t) (c : ℕ) (h : Of P (call_of t o) c)
    → Entails (equations (reduce t o c h)) (equations t)
reduce_entails done o c h s p = elim o [ ]
reduce_entails {P} (left {q = q} t) (inl u) c h s p = fresh_equations q 0 (clause_at P c).body t s p.1
reduce_entails (left t) (inr o) c h s p = reduce_entails t o c h s p
reduce_entails (by d k t) o c h s p = (p.0, reduce_entails t o c h s p.1)
reduce_entails (equate t) o c h s p = (p.0, reduce_entails t o c h s p.1)
reduce_entails (reckon t) o c h s p = reduce_entails t o c h s p
