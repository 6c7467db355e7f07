-- A number that was written and is settled with a node: what unification is asked.
use Rattle.std.proofs.Common.{ℕ, ℤ, ◌≡◌, List, [], ◌∷◌, ◌++◌, length, refl, sym, subst}
use Rattle.and_model.specs.Terms.{number}
use Rattle.and_model.specs.Solutions.{Equation}
use Rattle.and_model.specs.declared.reference.Ref.{Ref}
use Rattle.and_model.specs.declared.reference.Ref.TheVariants.{Number}
use Rattle.and_program.specs.Skeletons.{node_term}
use Rattle.and_cells.specs.Ranges.{NamedProgram, IsPairInRange}
use Rattle.and_cells.specs.Rows.{IsSound}
use Rattle.and_cells.specs.Parts.{part_at}
use Rattle.and_branch_laws.specs.OwnVariables.{IsLoaded}
use Rattle.and_branch_laws.specs.Settling.{IsWritten}
use Rattle.and_branch_laws.specs.Variables.{placed}
use Rattle.and_unify.specs.declared.pairs.Pair.{Pair}
use Rattle.and_unify.specs.declared.settling.Settled.TheVariants.{Solved, NoSolution}
use Rattle.and_unify.specs.Settling.{Settles}
use Rattle.and_branch_laws.specs.Goals.{CanBeRead}
use Rattle.and_step_laws.specs.Asking.{Ask}
use Rattle.and_step_laws.specs.Assigning.{CanBeAssigned, IsAssigned, IsRefused}
use Rattle.and_step_laws.proofs.AskedPairs.{found_ready}
use Rattle.and_step_laws.proofs.Numbers.{still_reads, part_keeps}
use Rattle.and_step_laws.proofs.ReadyPairs.{IsReady, only_one, number_ready}
use Rattle.and_step_laws.proofs.SettledPairs.{settled_with, unsolved_with}
use Rattle.and_cells.specs.Meaning.{IsSettled}
use Rattle.and_unify.specs.Settling.{AreNewFrom}
use Rattle.and_step_laws.specs.Asking.{AreReady}
use Rattle.and_step_laws.specs.Running.{IsAskedFor}
use Rattle.and_step_laws.proofs.Numbers.{still_settled, nothing_new}

module _ (P : NamedProgram) (loaded : IsLoaded P) (row mid : List Ref) (base node pair : ℕ) (z : ℤ)
    (can : CanBeAssigned P row base node pair) (written : IsWritten row mid pair z) (left : Ref) (found : left ≡ part_at P base node)
    (cleared pairs : List Pair) (none_yet : cleared ≡ []) (pushed : pairs ≡ cleared ++ record { left = left; right = Number pair } ∷ []) where
  abbrev es : List Equation
  es = (placed base (node_term P.skeleton.nodes node), number z) ∷ []

  number_asked : Ask P mid (length mid) pairs ((placed base (node_term P.skeleton.nodes node), number z) ∷ [])
  number_asked =
      let reads : CanBeRead P mid base node = still_reads P row mid pair z can.pair_is_free written base node can in
      let there : IsPairInRange (length mid) pair = subst (λ (n : ℕ). IsPairInRange n pair) (sym written.long) can.pair_is_free.in_range in
      let ready : IsReady P mid (length mid) (record { left = part_at P base node; right = Number pair }) es =
      number_ready P row mid (length mid) base node pair z loaded.skeleton.0 written there reads
      (part_keeps P mid (length mid) base node loaded.skeleton.0 refl reads) in
      only_one P mid (length mid) cleared pairs (record { left = left; right = Number pair }) es none_yet pushed
      (found_ready P mid (length mid) left (Number pair) (part_at P base node) (Number pair) es found refl ready)

  -- The node and the number can be handed to unification.
  pub number_asked_for : IsSound P mid → IsSettled P row → IsAskedFor P row mid base node pair z pairs
  number_asked_for sound settled = record {
    written = written;
    sound = sound;
    settled = still_settled P row mid pair z can.pair_is_free written settled;
    asked = number_asked;
  }

module _ (P : NamedProgram) (row mid : List Ref) (base node pair : ℕ) (z : ℤ) (pairs : List Pair)
    (a : IsAskedFor P row mid base node pair z pairs) where
  abbrev asked_es : List Equation
  asked_es = (placed base (node_term P.skeleton.nodes node), number z) ∷ []

  -- They ask across no floor at the row's end.
  pub number_new : (floor : ℕ) → floor ≡ length mid → AreNewFrom P mid pairs floor
  number_new floor is =
      nothing_new P mid pairs floor is a.sound (subst (λ (n : ℕ). AreReady P mid n pairs) (sym is) a.asked.ready)

  -- Where they were settled the number is assigned,
  pub number_assigned : (new : List Ref) → IsSound P new → Settles P mid new pairs Solved → IsAssigned P row new base node pair z
  number_assigned new sound s = record {
    written = mid;
    sound = a.sound;
    is_written = a.written;
    settled = settled_with P mid new (length mid) pairs asked_es a.asked s sound;
  }

  -- and where they have no solution it is refused.
  pub number_refused : (new : List Ref) → Settles P mid new pairs NoSolution → IsRefused P row base node pair z
  number_refused new s = record {
    written = mid;
    sound = a.sound;
    is_written = a.written;
    unsolved = unsolved_with P mid new (length mid) pairs asked_es a.asked s;
  }
