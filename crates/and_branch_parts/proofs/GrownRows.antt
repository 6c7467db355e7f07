-- Rows that grow, and what stays asleep in them.
use Rattle.std.proofs.Common.{ℕ, suc, ◌≡◌, ◌≢◌, List, replicate, sym, ◌∙◌, subst, arith}
use Rattle.std.proofs.lemmas.List.{length-append}
use Rattle.and_model.specs.Solutions.{Equation}
use Rattle.and_model.specs.declared.goal.Goal.{Goal}
use Rattle.and_model.specs.declared.reference.Ref.{Ref}
use Rattle.and_model.specs.declared.reference.Ref.TheVariants.{Free}
use Rattle.and_program.specs.Skeletons.{NodeItem}
use Rattle.and_cells.specs.Ranges.{NamedProgram, pair_of}
use Rattle.and_cells.specs.Seen.{word_at}
use Rattle.and_branch_laws.specs.Kept.{node_item_at, HasFreePair}
use Rattle.and_branch_laws.specs.Settling.{widened, Settled}
use Rattle.and_branch_laws.proofs.Rows.{widened_words}
use Rattle.and_reduction.specs.Runs.{HasRun, compared, assigned}
use Rattle.and_cells.specs.Seen.{Grows}
use Rattle.and_branch_parts.specs.Watching.{Watched, IsAsleep}

pub grows_not : (row : List Ref) → Grows row row
grows_not row = record { longer = omega arith; set = λ place r h. h }

grows_on : (one two three : List Ref) → Grows one two → Grows two three → Grows one three
grows_on one two three x y = record {
  longer = let a = x.longer in let b = y.longer in omega arith;
  set = λ place r h. y.set place r (x.set place r h);
}

-- What is asleep stays so, however the row grows.
pub sleeps_on : (P : NamedProgram) (old new : List Ref) (w : Watched) → Grows old new → IsAsleep P old w → IsAsleep P new w
sleeps_on P old new w grows x = record {
  while_free = λ later more sound settled free. x.while_free later (grows_on old new later grows more) sound settled free;
}

-- A row grows where a frame is put behind it, and it is settled;
pub widened_grows : (P : NamedProgram) (old new : List Ref) (by : ℕ) (es : List Equation) → Settled P (widened old by) new es → Grows old new
widened_grows P old new by es s =
    let k = s.keeps in record {
      longer = let same = k.words in let long = length-append old (replicate by Free) in omega arith;
      set = λ place r h. k.knows place r (widened_words old by place ∙ h.0, h.1);
    }

-- and where arithmetic is run.
module _ (P : NamedProgram) (old new : List Ref) (g : Goal) (free : HasFreePair P old g (node_item_at P g)) where
  pub run_grows : HasRun P old new g → Grows old new
  run_grows (compared r a b u v item one other first second is_true same) = subst (λ (row : List Ref). Grows old row) (sym same) (grows_not old)
  run_grows (assigned l r u z left right number written item node read ground valued sound is settled) =
      let pair : ℕ = pair_of P g.clause.0 g.base number in
      let both = subst (λ (n : NodeItem). HasFreePair P old g n) node free in
      let k = settled.keeps in
      record {
        longer = let same = k.words in let long = is.long in omega arith;
        set = λ place r h.
            let other : (at : ℕ) → word_at old at ≡ Free → place ≢ at = λ at empty e.
            h.1 (sym h.0 ∙ subst (λ (p : ℕ). word_at old p ≡ Free) (sym e) empty) in
            k.knows place r (is.others place (other pair both.0) (other (suc pair) both.1) ∙ h.0, h.1);
      }
