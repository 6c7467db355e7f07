-- What is known of a term holds wherever so much of the journal is seen.
use Rattle.std.proofs.Common.{ℕ, ℤ, ◌≢◌, List, ◌++◌, Some, sym, ap, subst, ◌∙◌, All, Contains}
use Rattle.std.proofs.lemmas.List.Elements.{All-contains}
use Rattle.std.proofs.lemmas.Option.{same_Some}
use Rattle.and_model.specs.Store.{JournalEntry, Known}
use Rattle.and_model.specs.Terms.{Term, Substitution}
use Rattle.and_model.specs.declared.reference.Ref.{Ref}
use Rattle.and_model.specs.declared.reference.Ref.TheVariants.{Free, Node}
use Rattle.and_program.specs.Skeletons.{AllFall, node_term}
use Rattle.and_laws.proofs.Substitutions.{apply_ground, apply_then}
use Rattle.and_cells.specs.Known.{HasKnown, SolvesKnown}
use Rattle.and_cells.specs.Meaning.{Words}
use Rattle.and_cells.specs.Parts.{part_at}
use Rattle.and_cells.specs.Ranges.{NamedProgram, IsInRange, IsInRangeOrHalf}
use Rattle.and_cells.specs.Seen.{Seen, Knows}
use Rattle.and_cells.proofs.Chains.{held_in_range, or_half}
use Rattle.and_cell_laws.proofs.Structures.{value_of_part}
use Rattle.and_value_laws.specs.Values.{HasValue, Reaches, whole, set, part}
use Rattle.and_arith.proofs.Grounding.{value_ground}
use Rattle.and_arith.proofs.Ranging.{part_in_range}
use Rattle.and_arith.proofs.Solving.{known_solves}
use Rattle.and_branch_laws.specs.Variables.{cells_from}
use Rattle.and_overlay.specs.Overlaid.{IsKnownFit}
use Rattle.and_store.specs.Passes.{PassSeen}
use Rattle.and_store.specs.Worked.{seen_by}
use Rattle.and_store_laws.proofs.Lists.{map_contains}
use Rattle.and_store_laws.specs.Steps.{setting}
use Rattle.and_handed.specs.Handed.{settings_from, HasAll, SolvesAll}
use Rattle.and_workers.specs.Running.{HasNumber}
use Rattle.and_workers.proofs.Quiet.{has_less, solves_less}

-- all that a pass knows stands in what it has seen
abbrev pub KnowsSeen : PassSeen → Type 0
KnowsSeen p = All (λ (k : Known). Contains (settings_from p.store.about.first p.pass.seen) k.setting) p.pass.known

pub stands_in_seen : (p : PassSeen) → KnowsSeen p → (place : ℕ) (r : Ref) → Knows (seen_by p) place r
    → Contains (settings_from p.store.about.first p.pass.seen) (setting place r)
stands_in_seen p known place r knows =
    let k = map_contains (λ (k : Known). k.setting) (setting place r) p.pass.known knows in
    subst (Contains (settings_from p.store.about.first p.pass.seen)) k.2
    (All-contains (λ (k : Known). Contains (settings_from p.store.about.first p.pass.seen) k.setting) p.pass.known k.0 known k.1)

pub words_have_known : (p : PassSeen) (w : Words) → KnowsSeen p → HasAll w p.store.about.first p.pass.seen → HasKnown (seen_by p) w
words_have_known p w known has place r knows = has (setting place r) (stands_in_seen p known place r knows)

pub known_is_solved : (P : NamedProgram) (p : PassSeen) (w : Words) (t : Substitution) → KnowsSeen p → SolvesAll P w p.store.about.first p.pass.seen t
    → SolvesKnown P w (seen_by p) t
known_is_solved P p w t known solves place r knows half = solves (setting place r) (stands_in_seen p known place r knows) half

-- A value under what is known is a value wherever so much is seen.
pub number_is_known : (P : NamedProgram) (p : PassSeen) (base node : ℕ) (z : ℤ) → AllFall 0 P.skeleton.nodes → KnowsSeen p
    → HasValue P (seen_by p) (part_at P base node) z → HasNumber P p.store.about.first p.pass.seen base node z
number_is_known P p base node z fall known value_is =
    let t : Term = value_is.0 in
    let ground = value_ground t z value_is.2 in (
      t,
      record {
        ground = ground;
        term = λ w has u solves.
            let same = known_solves P fall (seen_by p) w u (words_have_known p w known has) (known_is_solved P p w u known solves)
            (part_at P base node) t value_is.1 in
            apply_then (cells_from base) u (node_term P.skeleton.nodes node)
            ∙ same_Some _ t (sym (value_of_part P w u base node fall) ∙ same ∙ ap (λ (x : Term). Some x) (apply_ground u t ground));
      },
      value_is.2,
    )

-- It stays so as more is seen.
pub number_later : (P : NamedProgram) (first : List Ref) (journal since : List JournalEntry) (base node : ℕ) (z : ℤ)
    → HasNumber P first journal base node z → HasNumber P first (journal ++ since) base node z
number_later P first journal since base node z n = (
  n.0,
  record {
    ground = n.1.ground;
    term = λ w has u solves. n.1.term w (has_less w first journal since has) u (solves_less P w first journal since u solves);
  },
  n.2,
)

-- What an expression leads to is in range, where it is and what is known fits.
pub reached_in_range : (P : NamedProgram) (s : Seen) (expression r : Ref) → AllFall 0 P.skeleton.nodes → IsKnownFit P s → IsInRange P s.words expression
    → Reaches P s expression r → r ≢ Free → IsInRangeOrHalf P s.words r
reached_in_range P s expression r fall fit range (whole q is) there = or_half P s.words r (subst (IsInRange P s.words) (sym is) range)
reached_in_range P s expression r fall fit range (set cell q at knows) there =
    let fits = fit cell r knows in held_in_range P s.words cell r fits.0 there fits.1
reached_in_range P s expression r fall fit range (part node base q at among) there =
    let whole_node = reached_in_range P s expression (Node node base) fall fit range at (λ e. cc) in
    or_half P s.words r (part_in_range P fall s.words node base r whole_node among)
