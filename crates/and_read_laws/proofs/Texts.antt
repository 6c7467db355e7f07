-- The laws of SLD resolution, for the programs of texts.
use Rattle.std.proofs.Common.{ℕ, ◌≡◌, ◌≤◌, ◌↔◌, List, Some, map, length, arith, subst, sym}
use Rattle.std.specs.Prelude.{Contains}
use Rattle.and_model.specs.Terms.{Path, Term, apply}
use Rattle.and_model.specs.Programs.{Program, Arithmetic, clause_at}
use Rattle.and_model.specs.OwnVariables.{terms_of_clause, HaveOwnVariables}
use Rattle.and_model.specs.Lines.{Bytes}
use Rattle.and_model.specs.Trees.{QueryTree, HasOutcome, unfold_code}
use Rattle.and_model.specs.Listing.{Outcome, answer, Entry, Listing, Ends}
use Rattle.and_model.specs.Stands.{AreVariants}
use Rattle.and_language.specs.Refusals.{IsLiftedFrom}
use Rattle.and_language.proofs.OwnVariables.{own_variables}
use Rattle.and_sld.specs.Resolution.{moved, Computes, IsRefuted, Shows}
use Rattle.and_sld.specs.Computed.{IsComputed}
use Rattle.and_sld.proofs.Queries.{computed_ends, ends_computed, shows_ends, refuted_answers, answers_refuted}
use Rattle.and_sld.proofs.Computed.{listed_computed}
use Rattle.and_sld.proofs.Variants.{in_frame}
use Rattle.and_read_laws.proofs.Atoms.{of_atoms, has_names}

few : (bytes : Bytes) (P : Program) → IsLiftedFrom bytes P → length P.query.written ≤ P.query.variables
few bytes P r = omega (arith, has_names bytes P r)

pub codes_mean : (bytes : Bytes) (P : Program) (cs : List ℕ) → IsLiftedFrom bytes P
    → ((answer : List Term) × (waiting : List Arithmetic) × Computes P cs answer waiting) ↔ ((t : QueryTree P) × (unfold_code P cs ≡ Some t) × HasOutcome t)
codes_mean bytes P cs r = (computed_ends P cs (of_atoms bytes P r), ends_computed P cs (of_atoms bytes P r))

pub lines_mean : (bytes : Bytes) (P : Program) (cs : List ℕ) (values : List Term) (waits : List Arithmetic) (t : QueryTree P) (o : Outcome)
    → IsLiftedFrom bytes P
    → Computes P cs values waits → unfold_code P cs ≡ Some t → Ends t o ↔ Shows P values waits o
lines_mean bytes P cs values waits t o r c e = shows_ends P cs values waits t o (of_atoms bytes P r) (few bytes P r) c e

pub refutations_mean : (bytes : Bytes) (P : Program) (cs : List ℕ) → IsLiftedFrom bytes P
    → ((values : List Term) × IsRefuted P cs values)
    ↔ ((t : QueryTree P) × (unfold_code P cs ≡ Some t) × ((text : Bytes) × Ends t (answer text)))
refutations_mean bytes P cs r =
    (refuted_answers P cs (of_atoms bytes P r) (few bytes P r), answers_refuted P cs (of_atoms bytes P r) (few bytes P r))

pub listings_mean : (bytes : Bytes) (P : Program) (limit : ℕ) (ls : List Entry) → IsLiftedFrom bytes P → Listing P limit ls
    → (e : Entry) → Contains ls e ↔ IsComputed P limit e
listings_mean bytes P limit ls r listing e = listed_computed P limit ls (of_atoms bytes P r) (few bytes P r) listing e

pub variants_mean : (bytes : Bytes) (P : Program) (c : ℕ) (q : Path) → IsLiftedFrom bytes P
    → AreVariants (terms_of_clause (clause_at P c)) (map (apply (moved q)) (terms_of_clause (clause_at P c)))
variants_mean bytes P c q r = in_frame P c q (subst HaveOwnVariables (sym r.2) (own_variables bytes r.0 r.1) c)
