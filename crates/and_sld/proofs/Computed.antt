-- The entries of a listing are what computations show.
use Rattle.std.proofs.Common.{ℕ, ◌≡◌, ◌≤◌, ◌+◌, ◌↔◌, List, length, refl, ap, sym, ◌∙◌, subst, Some}
use Rattle.std.specs.Prelude.{Contains}
use Rattle.and_model.specs.Programs.{Program, clause_at, clause_weight}
use Rattle.and_model.specs.Trees.{Agenda, Tree, QueryTree, done, left, by, equate, reckon, code, taken_weight, weight, IsWhole, unfold_code}
use Rattle.and_model.specs.Listing.{Entry, Listing, Ends}
use Rattle.and_laws.specs.Entries.{IsWithin}
use Rattle.and_laws.proofs.Members.{listing_entries}
use Rattle.and_laws.proofs.Unfolding.{unfolding_code}
use Rattle.and_sld.specs.Atoms.{HasAtoms}
use Rattle.and_sld.specs.Computed.{clauses_weight, IsComputed}
use Rattle.and_sld.proofs.Queries.{unfolds, ends_outcome, computed_ends, ends_computed, shows_ends}

-- A tree weighs what its clauses do.
taken_clauses : {P : Program} {ag : Agenda} (t : Tree P ag) → IsWhole t → taken_weight t ≡ clauses_weight P (code t)
taken_clauses done w = refl
taken_clauses (left t) w = elim w [ ]
taken_clauses {P} (by c h t) w = ap (λ n. clause_weight (clause_at P c) + n) (taken_clauses t w)
taken_clauses (equate t) w = taken_clauses t w
taken_clauses (reckon t) w = taken_clauses t w

weighs : (P : Program) (t : QueryTree P) (cs : List ℕ) → IsWhole t → code t ≡ cs → weight t ≡ clause_weight P.query + clauses_weight P cs
weighs P t cs w e = ap (λ n. clause_weight P.query + n) (taken_clauses t w ∙ ap (clauses_weight P) e)

within_computed : (P : Program) (limit : ℕ) → HasAtoms P → length P.query.written ≤ P.query.variables → (e : Entry) → IsWithin P limit e
    → IsComputed P limit e
within_computed P limit atoms few e (t, is_code, ends, fits) =
    let unfolded : unfold_code P e.code ≡ Some t = unfolds P e.code t ends.0 is_code in
    let c = ends_computed P e.code atoms (t, unfolded, ends_outcome t e.outcome ends) in
    (c.0, c.1, c.2, (shows_ends P e.code c.0 c.1 t e.outcome atoms few c.2 unfolded).0 ends, subst (λ n. n ≤ limit) (weighs P t e.code ends.0 is_code) fits)

computed_within : (P : Program) (limit : ℕ) → HasAtoms P → length P.query.written ≤ P.query.variables → (e : Entry) → IsComputed P limit e
    → IsWithin P limit e
computed_within P limit atoms few e (answer, waiting, c, shows, fits) =
    let d = computed_ends P e.code atoms (answer, waiting, c) in
    let ends : Ends d.0 e.outcome = (shows_ends P e.code answer waiting d.0 e.outcome atoms few c d.1).1 shows in
    let is_code : code d.0 ≡ e.code = (unfolding_code P e.code d.0 d.1).0 in
    (d.0, is_code, ends, subst (λ n. n ≤ limit) (sym (weighs P d.0 e.code ends.0 is_code)) fits)

-- the law
pub listed_computed : (P : Program) (limit : ℕ) (ls : List Entry) → HasAtoms P → length P.query.written ≤ P.query.variables → Listing P limit ls
    → (e : Entry) → Contains ls e ↔ IsComputed P limit e
listed_computed P limit ls atoms few listing e =
    let all = listing_entries P limit ls listing e in
    (λ i. within_computed P limit atoms few e (all.0 i), λ i. all.1 (computed_within P limit atoms few e i))
