-- References of which a substitution makes one term, and chains that keep that.
use Rattle.std.proofs.Common.{ℕ, ◌≡◌, false, [], Option, Some, None, refl, sym, ap, ◌∙◌, inl, inr}
use Rattle.std.specs.Prelude.{Contains}
use Rattle.std.specs.Option.{option_map}
use Rattle.std.proofs.lemmas.List.Elements.{Contains-append_left, Contains-append_right, Contains-append_cases}
use Rattle.and_model.specs.Terms.{Term, Substitution, apply}
use Rattle.and_model.specs.Solutions.{Solves}
use Rattle.and_model.specs.Store.{is_half}
use Rattle.and_model.specs.declared.reference.Ref.{Ref}
use Rattle.and_model.specs.declared.reference.Ref.TheVariants.{Cell}
use Rattle.and_cells.specs.Ranges.{NamedProgram}
use Rattle.and_cells.specs.Seen.{Seen, LeadsTo, here, onward}
use Rattle.and_cells.specs.Meaning.{Words, shallow_term, shallow_cells, same_terms, equations_between}
use Rattle.and_laws.proofs.Ordered.{contains_first}
use Rattle.and_laws.proofs.Solving.{solves_front}
use Rattle.and_cells.specs.Joined.{value}
use Rattle.and_cells.specs.Known.{HasKnown, SolvesKnown}
use Rattle.and_cell_laws.proofs.Between.{one_value, names_no_half, between_solved}
use Rattle.and_unify.specs.declared.pairs.Pair.{Pair}

-- none of the cells that the reference names is a word of a pair
abbrev pub IsWhole : NamedProgram → Words → Ref → Type 0
IsWhole P w r = (cell : ℕ) → Contains (shallow_cells P r) cell → is_half (w cell) ≡ false

-- The substitution makes one term of the two, and neither names a word of a pair.
pub record Agree (P : NamedProgram) (w : Words) (t : Substitution) (l r : Ref) : Type 0 where
  pub term : Term
  pub left : value P w t l ≡ Some term
  pub right : value P w t r ≡ Some term
  pub left_whole : IsWhole P w l
  pub right_whole : IsWhole P w r

-- both sides of a pair agree
abbrev pub PairAgrees : NamedProgram → Words → Substitution → Pair → Type 0
PairAgrees P w t p = Agree P w t p.left p.right

-- terms whose equation is solved are there
same_terms_there : (t : Substitution) (a b : Option Term) → Solves t (same_terms a b) → (u : Term) × (option_map (apply t) a ≡ Some u)
same_terms_there t None b s = let e = s.0 in absurd (cc)
same_terms_there t (Some u) None s = let e = s.0 in absurd (cc)
same_terms_there t (Some u) (Some v) s = (apply t u, refl)

-- What solves the equations between two makes them agree,
pub agree_from_solves : (P : NamedProgram) (w : Words) (t : Substitution) (l r : Ref) → Solves t (equations_between P w l r) → Agree P w t l r
agree_from_solves P w t l r s =
    let front : Solves t (same_terms (shallow_term P w l) (shallow_term P w r)) = solves_front t (same_terms (shallow_term P w l) (shallow_term P w r)) _ s in
    let (u, is) = same_terms_there t (shallow_term P w l) (shallow_term P w r) front in
    let whole = names_no_half P w t l r s in record {
      term = u;
      left = is;
      right = sym (one_value P w t l r s) ∙ is;
      left_whole = λ cell h. whole cell (Contains-append_left (shallow_cells P l) (shallow_cells P r) cell h);
      right_whole = λ cell h. whole cell (Contains-append_right (shallow_cells P l) (shallow_cells P r) cell h);
    }

-- and the converse.
pub solves_from_agree : (P : NamedProgram) (w : Words) (t : Substitution) (l r : Ref) → Agree P w t l r → Solves t (equations_between P w l r)
solves_from_agree P w t l r a =
    between_solved P w t l r a.term a.left a.right (λ cell h. elim (Contains-append_cases (shallow_cells P l) (shallow_cells P r) cell h) [
      | inl i ↦ a.left_whole cell i
      | inr i ↦ a.right_whole cell i
    ])

-- Two that agree do so the other way round,
pub agree_back : (P : NamedProgram) (w : Words) (t : Substitution) (l r : Ref) → Agree P w t l r → Agree P w t r l
agree_back P w t l r a = record { term = a.term; left = a.right; right = a.left; left_whole = a.right_whole; right_whole = a.left_whole }

-- and in chains.
pub agree_then : (P : NamedProgram) (w : Words) (t : Substitution) (l r q : Ref) → Agree P w t l r → Agree P w t r q → Agree P w t l q
agree_then P w t l r q a b = record {
  term = a.term;
  left = a.left;
  right = b.right ∙ sym b.left ∙ a.right;
  left_whole = a.left_whole;
  right_whole = b.right_whole;
}

-- Where all that is known is solved, a reference agrees with what it leads to.
pub agree_leads : (P : NamedProgram) (w : Words) (t : Substitution) (s : Seen) (l one : Ref) → HasKnown s w → SolvesKnown P w s t → LeadsTo s l one
    → Agree P w t l l → Agree P w t l one
agree_leads P w t s l one has solves (here r) a = a
agree_leads P w t s l one has solves (onward cell r to knows leads) a =
    let whole : is_half r ≡ false = sym (ap is_half (has cell r knows)) ∙ a.left_whole cell (contains_first cell []) in
    let first : Agree P w t (Cell cell) r = agree_from_solves P w t (Cell cell) r (solves cell r knows whole) in
    let second : Agree P w t r r = agree_then P w t r (Cell cell) r (agree_back P w t (Cell cell) r first) first in
    agree_then P w t (Cell cell) r one first (agree_leads P w t s r one has solves leads second)

-- So two that agree lead to two that agree.
pub agree_onward : (P : NamedProgram) (w : Words) (t : Substitution) (s : Seen) (l r one other : Ref) → HasKnown s w → SolvesKnown P w s t
    → LeadsTo s l one → LeadsTo s r other → Agree P w t l r → Agree P w t one other
agree_onward P w t s l r one other has solves left right a =
    let back : Agree P w t r l = agree_back P w t l r a in
    let first : Agree P w t l one = agree_leads P w t s l one has solves left (agree_then P w t l r l a back) in
    let second : Agree P w t r other = agree_leads P w t s r other has solves right (agree_then P w t r l r back a) in
    agree_then P w t one l other (agree_back P w t l one first) (agree_then P w t l r other a second)
