-- What is seen at the ends of chains is so under each solution of the row's equations.
use Rattle.std.proofs.Common.{ℕ, ℤ, suc, ◌+◌, ◌≡◌, ◌<◌, true≢false, true, List, [], length, map, get_or, Some, refl, sym, ap, ◌∙◌, subst, inl, inr, arith}
use Rattle.std.specs.Prelude.{Contains}
use Rattle.std.proofs.lemmas.List.{length-map}
use Rattle.std.proofs.lemmas.List.Elements.{All-contains, Contains-get_or}
use Rattle.std.proofs.lemmas.Option.{same_Some}
use Rattle.and_model.specs.Terms.{Path, Term, number, variables_of, Substitution, apply}
use Rattle.and_model.specs.Solutions.{Solves}
use Rattle.and_model.specs.Store.{is_half}
use Rattle.and_model.specs.declared.numbers.NodeNo.{NodeNo}
use Rattle.and_model.specs.declared.reference.Ref.{Ref}
use Rattle.and_model.specs.declared.reference.Ref.TheVariants as reference
use Rattle.and_model.specs.declared.reference.Ref.TheVariants.{Node}
use Rattle.and_program.specs.Skeletons
use Rattle.and_program.specs.Skeletons.{Shape, term_list, nth, shape_term, terms_behind, node_term, AllFall}
use Rattle.and_program.specs.Loaded.{shape_at, arguments_at}
use Rattle.and_program.specs.Shown.{shown_term, count_of, argument_of, arguments_in}
use Rattle.and_program.specs.declared.node.NodeKind.{NodeKind}
use Rattle.and_program.specs.declared.node.NodeKind.TheVariants.{Variable, Number, Compound}
use Rattle.and_program.proofs.PredicateLemmas.{width-term_list}
use Rattle.and_laws.proofs.Equality.{bool_cases}
use Rattle.and_laws.proofs.Substitutions.{apply_then}
use Rattle.and_cells.specs.Ranges.{NamedProgram, IsNodeInRange}
use Rattle.and_cells.specs.Rows.{plain}
use Rattle.and_cells.specs.Numbers.{number_of}
use Rattle.and_cells.specs.Seen.{Seen, OnlyReads, ReadsNumber, LeadsTo, here, onward, word_at}
use Rattle.and_cells.proofs.Chains.{leads_later}
use Rattle.and_cells.specs.Meaning.{equations_of}
use Rattle.and_cells.specs.Joined.{value}
use Rattle.and_cells.specs.Parts.{part_at}
use Rattle.and_cell_laws.proofs.Between.{set_agrees}
use Rattle.and_cell_laws.proofs.Structures.{node_term_shape, value_of_part}
use Rattle.and_arith.proofs.Ranging.{among_node, argument_below}
use Rattle.and_branch_laws.specs.Variables.{placed, cells_from}
use Rattle.and_branch_laws.proofs.Lists.{all_of}
use Rattle.and_clause_index.specs.Looks.{Fits, Shows, IsGlimpse, IsGlimpseAt, IsSeenIn, MayBe}
use Rattle.and_clause_index.specs.Prints.{mark, marks_at, argument_kind, no_marks, no_print, Tells, MarksTell}
use Rattle.and_clause_index.specs.declared.prints.Marks.{Marks}
use Rattle.and_clause_index.specs.declared.looking.Glimpse.{Glimpse}
use Rattle.and_clause_index.proofs.Differing.{fits_later, fits_shown, argument_placed, count_later}
use Rattle.and_clause_index.proofs.Printing.{argument_there}

-- ---- Chains

half_stays : (s : Seen) (r to : Ref) → LeadsTo s r to → is_half r ≡ true → is_half to ≡ true
half_stays s r to (here q) e = e
half_stays s r to (onward cell q p knows rest) e = absurd (true≢false (sym e))

-- A solution gives the end of a chain the value of its beginning.
leads_value : (P : NamedProgram) (row : List Ref) (s : Substitution) → Solves s (equations_of P row) → (r to : Ref) (t : Term)
    → LeadsTo (plain row) r to → value P (word_at row) s r ≡ Some t → MayBe P row s to t
leads_value P row s solves r to t (here q) e = λ whole. e
leads_value P row s solves r to t (onward cell q p knows rest) e = λ whole. elim (bool_cases (is_half q)) [
  | inl half ↦ absurd (true≢false (sym (half_stays (plain row) q to rest half) ∙ whole))
  | inr ok ↦ leads_value P row s solves q to t rest (sym (set_agrees P row s cell q solves knows ok) ∙ e) whole
]

-- A row that has what is known at last has what was known before.
pub seen_before : (old new : Seen) (row : List Ref) → OnlyReads old new → IsSeenIn new row → IsSeenIn old row
seen_before old new row reads has place r knows = has place r (reads.keeps place r knows)

-- ---- What ends begin with

pub number_kind : (P : NamedProgram) (pair : ℕ) (z given : ℤ) (old new : Seen) → ReadsNumber P pair z old new → given ≡ z
    → (row : List Ref) → IsSeenIn new row → (s : Substitution) (at : Ref) (t : Term) → at ≡ reference.Number pair → MayBe P row s at t
    → Fits (Number given) t
number_kind P pair z given old new reads same row has s at t is may =
    let held : Some (number (number_of (word_at row pair) (word_at row (suc pair)))) ≡ Some t =
    subst (λ (r : Ref). MayBe P row s r t) is may refl in
    let high : word_at row pair ≡ reads.high = (has pair reads.high reads.high_known).0 in
    let low : word_at row (suc pair) ≡ reads.low = (has (suc pair) reads.low reads.low_known).0 in
    let holds : number_of (word_at row pair) (word_at row (suc pair)) ≡ given =
    ap (λ (r : Ref). number_of r (word_at row (suc pair))) high ∙ ap (number_of reads.high) low ∙ sym reads.holds ∙ sym same in
    ap shown_term (sym (same_Some (number (number_of (word_at row pair) (word_at row (suc pair)))) t held)) ∙ ap (λ (y : ℤ). Number y) holds

pub node_kind : (P : NamedProgram) (row : List Ref) (s : Substitution) (node : NodeNo) (base : ℕ) (t : Term)
    → MayBe P row s (Node node base) t → Fits (shown_term (node_term P.skeleton.nodes node.0)) t
node_kind P row s node base t may =
    let own : Term = node_term P.skeleton.nodes node.0 in
    let is : apply s (placed base own) ≡ t = same_Some (apply s (placed base own)) t (may refl) in
    subst (Fits (shown_term own)) is
    (fits_later (shown_term own) (placed base own) s (fits_later (shown_term own) own (cells_from base) (fits_shown own)))

pub fits_tells : (k : NodeKind) (t : Term) → Fits k t → Tells (mark k) (mark (shown_term t))
fits_tells (Variable j) t f = λ some. absurd (some refl)
fits_tells (Number z) t f = λ some. ap mark (sym f)
fits_tells (Compound c n) t f = λ some. ap mark (sym f)

pub nothing_told : (t : Term) (j : ℕ) → IsGlimpseAt (record { kind = Variable 0; marks = no_marks }) t j
nothing_told t j = record {
  kind = tt;
  marks = record { own = λ some. absurd (some refl); first = λ some. absurd (some refl); second = λ some. absurd (some refl) };
}

pub nothing_tells : (m : Marks) → MarksTell no_marks m
nothing_tells m = record { own = λ some. absurd (some refl); first = λ some. absurd (some refl); second = λ some. absurd (some refl) }

-- A first argument alone.
pub first_shown : (k : NodeKind) (call : Term) → Fits k (argument_of call 0) → Shows (record { first = k; print = no_print }) call
first_shown k call f = record {
  first = f;
  print = record {
    first = nothing_tells (marks_at call 0);
    second = nothing_tells (marks_at call 1);
    third = λ some. absurd (some refl);
    fourth = λ some. absurd (some refl);
  };
}

-- ---- Nodes in frames

module _ (P : NamedProgram) (fall : AllFall 0 P.skeleton.nodes) (row : List Ref) where
  -- a node's term, in the frame at the base
  abbrev pub term_in : (base node : ℕ) → Term
  term_in base node = placed base (node_term P.skeleton.nodes node)

  pub node_leads : (s : Substitution) → Solves s (equations_of P row) → (base node : ℕ) (at : Ref) (seen : Seen) → IsSeenIn seen row
      → LeadsTo seen (part_at P base node) at → MayBe P row s at (apply s (placed base (node_term P.skeleton.nodes node)))
  node_leads s solves base node at seen has leads =
      leads_value P row s solves (part_at P base node) at (apply s (term_in base node)) (leads_later seen (plain row) (part_at P base node) at has leads)
      (value_of_part P (word_at row) s base node fall
      ∙ ap (λ (t : Term). Some t) (sym (apply_then (cells_from base) s (node_term P.skeleton.nodes node))))

  shape_count : (ts : List Term) (s : Shape) → count_of (shown_term (shape_term ts s)) ≡ length (arguments_in s)
  shape_count ts (Skeletons.variable k) = refl
  shape_count ts (Skeletons.number z) = refl
  shape_count ts (Skeletons.compound c ns) = width-term_list (map (nth ts) ns) ∙ length-map ns (nth ts)

  pub node_count : (node : ℕ) → count_of (shown_term (node_term P.skeleton.nodes node)) ≡ length (arguments_at P.skeleton node)
  node_count node =
      ap (λ (t : Term). count_of (shown_term t)) (node_term_shape P.skeleton.nodes node fall)
      ∙ shape_count (terms_behind [] P.skeleton.nodes) (shape_at P.skeleton node)

  -- ---- Arguments

  -- An argument of a node in range is in range.
  pub argument_fits : (words base node j m : ℕ) → IsNodeInRange P words node base → j < length (arguments_at P.skeleton node)
      → m ≡ get_or (arguments_at P.skeleton node) j 0 → IsNodeInRange P words m base
  argument_fits words base node j m fits low is =
      let there : Contains (arguments_at P.skeleton node) m =
      subst (λ (x : ℕ). Contains (arguments_at P.skeleton node) x) (sym is) (Contains-get_or (arguments_at P.skeleton node) j 0 low) in
      let below : m < node = argument_below P fall node m fits.there there in
      record {
        there = let t = fits.there in omega arith;
        nameable = let t = fits.nameable in omega arith;
        base_below = fits.base_below;
        cells = all_of (λ (v : Path × ℕ). base + 1 + v.1 < words) (variables_of (node_term P.skeleton.nodes m)) (λ v c.
            All-contains (λ (v : Path × ℕ). base + 1 + v.1 < words) (variables_of (node_term P.skeleton.nodes node)) v fits.cells
            (among_node P fall node m v there c));
      }

  -- The argument at a place, in the frame, is that of the node's term.
  pub argument_is : (s : Substitution) (base node argument j : ℕ) → j < length (arguments_at P.skeleton node)
      → node_term P.skeleton.nodes argument ≡ argument_of (node_term P.skeleton.nodes node) j
      → apply s (placed base (node_term P.skeleton.nodes argument)) ≡ argument_of (apply s (placed base (node_term P.skeleton.nodes node))) j
  argument_is s base node argument j low term =
      let counted : j < count_of (shown_term (node_term P.skeleton.nodes node)) = let c = node_count node in omega arith in
      ap (λ (u : Term). apply s (placed base u)) term ∙ sym (argument_placed s base (node_term P.skeleton.nodes node) j counted)

  -- What it begins with stands at the place.
  kind_at : (s : Substitution) (base node j : ℕ) → j < length (arguments_at P.skeleton node)
      → argument_kind (apply s (placed base (node_term P.skeleton.nodes node))) j
      ≡ shown_term (argument_of (apply s (placed base (node_term P.skeleton.nodes node))) j)
  kind_at s base node j low =
      let own : Term = node_term P.skeleton.nodes node in
      let counted : j < count_of (shown_term own) = let c = node_count node in omega arith in
      argument_there (apply s (placed base own)) j
      (count_later s (placed base own) j (count_later (cells_from base) own j counted))

  pub mark_told : (s : Substitution) (base node argument j : ℕ) (kind : NodeKind) → j < length (arguments_at P.skeleton node)
      → node_term P.skeleton.nodes argument ≡ argument_of (node_term P.skeleton.nodes node) j
      → Fits kind (apply s (placed base (node_term P.skeleton.nodes argument)))
      → Tells (mark kind) (mark (argument_kind (apply s (placed base (node_term P.skeleton.nodes node))) j))
  mark_told s base node argument j kind low term fits =
      let call : Term = apply s (placed base (node_term P.skeleton.nodes node)) in
      subst (λ (k : NodeKind). Tells (mark kind) (mark k)) (sym (kind_at s base node j low))
      (fits_tells kind (argument_of call j) (subst (Fits kind) (argument_is s base node argument j low term) fits))

  pub glimpse_told : (s : Substitution) (base node argument j : ℕ) (glimpse : Glimpse) → j < length (arguments_at P.skeleton node)
      → node_term P.skeleton.nodes argument ≡ argument_of (node_term P.skeleton.nodes node) j
      → IsGlimpse glimpse (apply s (placed base (node_term P.skeleton.nodes argument)))
      → IsGlimpseAt glimpse (apply s (placed base (node_term P.skeleton.nodes node))) j
  glimpse_told s base node argument j glimpse low term is =
      let call : Term = apply s (placed base (node_term P.skeleton.nodes node)) in
      let here_is : IsGlimpse glimpse (argument_of call j) =
      subst (IsGlimpse glimpse) (argument_is s base node argument j low term) is in record {
        kind = here_is.kind;
        marks = record {
          own = subst (λ (k : NodeKind). Tells glimpse.marks.own (mark k)) (sym (kind_at s base node j low)) here_is.own;
          first = here_is.first;
          second = here_is.second;
        };
      }
