-- The cells that a call set, as turns of it list them.
use Rattle.std.proofs.Common.{ℕ, ◌≡◌, ◌≢◌, ◌<◌, List, [], ◌∷◌, ◌++◌, refl, sym, ap, subst, ◌∙◌, inr, append-nil, append_assoc}
use Rattle.std.proofs.lemmas.List.Elements.{All-nil, All-push, All-weaker}
use Rattle.std.proofs.lemmas.List.Quantifiers.{all_pairs_push}
use Rattle.and_laws.proofs.Pairwise.{all_pairs_none}
use Rattle.and_model.specs.declared.reference.Ref.{Ref}
use Rattle.and_cells.specs.Ranges.{NamedProgram}
use Rattle.and_cells.specs.Seen.{Seen, Knows}
use Rattle.and_unify.specs.Turns
use Rattle.and_unify.specs.Turns.{Steps, sets, one_class, joins}
use Rattle.and_unify.specs.Setting.{WasSet, Lists}
use Rattle.and_unify.specs.declared.pairs.Pair.{Pair}

-- nothing was set yet
pub lists_begun : (first : Seen) (began : List ℕ) → Lists first first began began
lists_begun first began = record {
  gained = [];
  listed = sym (append-nil began);
  once = all_pairs_none (λ n m. n ≢ m);
  were_set = All-nil (WasSet first first);
}

-- what was set stays so while more becomes known,
pub later_set : (first old new : Seen) → ((place : ℕ) (r : Ref) → Knows old place r → Knows new place r) → (cell : ℕ) → WasSet first old cell
    → WasSet first new cell
later_set first old new knows cell was = record { below = was.below; not_known = was.not_known; value = was.value; known = knows cell was.value was.known }

-- and so does the list
pub lists_later : (first old new : Seen) (began bound : List ℕ) → ((place : ℕ) (r : Ref) → Knows old place r → Knows new place r)
    → Lists first old began bound → Lists first new began bound
lists_later first old new began bound knows l = record {
  gained = l.gained;
  listed = l.listed;
  once = l.once;
  were_set = All-weaker (WasSet first old) (WasSet first new) (later_set first old new knows) l.gained l.were_set;
}

-- A cell is set that was not known to be.
lists_push : (first old before new : Seen) (began bound : List ℕ) (cell : ℕ) (to : Ref) → ((place : ℕ) (r : Ref) → Knows first place r → Knows old place r)
    → ((place : ℕ) (r : Ref) → Knows old place r → Knows before place r) → (cell < first.words) → ((r : Ref) → Knows before cell r → ⊥)
    → ((place : ℕ) (r : Ref) → Knows old place r → Knows new place r) → Knows new cell to → Lists first old began bound
    → Lists first new began (bound ++ cell ∷ [])
lists_push first old before new began bound cell to earlier leads below free later set l =
    let was : WasSet first new cell = record { below = below; not_known = λ r k. free r (leads cell r (earlier cell r k)); value = to; known = set } in
    let rest = All-weaker (WasSet first old) (WasSet first new) (later_set first old new later) l.gained l.were_set in record {
      gained = l.gained ++ cell ∷ [];
      listed = ap (λ xs. xs ++ cell ∷ []) l.listed ∙ append_assoc began l.gained (cell ∷ []);
      once = all_pairs_push (λ n m. n ≢ m) l.gained cell l.once
          (λ k d h is. let other = l.were_set k d h in free other.value (leads cell other.value (subst (λ n. Knows old n other.value) is other.known)));
      were_set = All-push (WasSet first new) l.gained cell rest was;
    }

-- the same where the list is given by an equation
lists_as : (first now : Seen) (began bound further : List ℕ) → further ≡ bound → Lists first now began bound → Lists first now began further
lists_as first now began bound further is l = subst (Lists first now began) (sym is) l

-- A step keeps the list.
pub lists_steps : (P : NamedProgram) (p : Pair) (old new : Seen) (links more_links : List (Ref × Ref)) (list longer : List Pair) (bound further : List ℕ)
    (first : Seen) (began : List ℕ)
    → Steps P p old new links more_links list longer bound further → ((place : ℕ) (r : Ref) → Knows first place r → Knows old place r)
    → ((place : ℕ) (r : Ref) → Knows old place r → Knows new place r) → old.words ≡ first.words → Lists first old began bound → Lists first new began further
lists_steps P p old new links more_links list longer bound further first began (Turns.alike m e f g) earlier later words l =
    lists_as first new began bound further g (lists_later first old new began bound later l)
lists_steps P p old new links more_links list longer bound further first began (sets own m e f g) earlier later words l =
    lists_as first new began (bound ++ own ∷ []) further g
    (lists_push first old m.before new began bound own m.to earlier m.lead.reads.keeps (subst (λ n. own < n) words m.below) m.sets.not_known
    later ((m.sets.adds own m.to).1 (inr (refl, refl))) l)
lists_steps P p old new links more_links list longer bound further first began (one_class one other m c e f g) earlier later words l =
    lists_as first new began bound further g (lists_later first old new began bound later l)
lists_steps P p old new links more_links list longer bound further first began (joins one other m c f g) earlier later words l =
    lists_as first new began bound further g (lists_later first old new began bound later l)
