-- A call and a clause's head that nothing makes one: terms that begin differently, and variables that are met again in vain.
use Rattle.std.proofs.Common.{ℕ, ◌+◌, ◌≡◌, ◌≢◌, ◌<◌, List, [], ◌∷◌, ◌++◌, length, take, get_or, map}
use Rattle.std.proofs.Common.{refl, sym, ap, ◌∙◌, subst, arith}
use Rattle.std.proofs.lemmas.List.{length-map}
use Rattle.and_model.specs.Terms.{Term, Terms, variable, number, compound, Substitution, apply, apply_all, framed}
use Rattle.and_model.specs.Candidates.{Candidate}
use Rattle.and_model.specs.Programs.{Of, clause_at}
use Rattle.and_model.specs.Solutions.{Equation, Solves}
use Rattle.and_model.specs.declared.numbers.NodeNo.{NodeNo}
use Rattle.and_model.specs.declared.reference.Ref.{Ref}
use Rattle.and_model.specs.declared.reference.Ref.TheVariants.{Free, Node}
use Rattle.and_program.specs.Skeletons
use Rattle.and_program.specs.Skeletons.{Shape, term_list, nth, shape_term, terms_behind, node_term, AllFall}
use Rattle.and_program.specs.Loaded.{shape_at, arguments_at, skeleton_of}
use Rattle.and_program.specs.Shown.{argument_of, arguments_in, count_of, shown, shown_term}
use Rattle.and_program.specs.declared.loaded.Loaded.{Loaded}
use Rattle.and_program.specs.declared.node.NodeKind.TheVariants.{Variable, Compound}
use Rattle.and_program.proofs.PredicateLemmas.{width-term_list}
use Rattle.and_laws.proofs.Solving.{solves_front, solves_back}
use Rattle.and_laws.proofs.Substitutions.{then, apply_then}
use Rattle.and_cells.specs.Ranges.{NamedProgram, IsInRange}
use Rattle.and_cells.specs.Rows.{plain}
use Rattle.and_cells.specs.Seen.{LeadsTo}
use Rattle.and_cells.specs.Meaning.{equations_of}
use Rattle.and_cells.specs.Parts.{named}
use Rattle.and_cell_laws.proofs.Structures.{node_term_shape}
use Rattle.and_branch_laws.specs.Judging.{outside}
use Rattle.and_branch_laws.specs.Variables.{cells_from, placed}
use Rattle.and_clause_index.proofs.Differing.{width_applied, count_later, argument_applied}
use Rattle.and_clause_index.proofs.Glimpses.{node_count}
use Rattle.and_determinacy.specs.Parting.{IsArgument, IsStructureAt, AreApart, ArePartedBy}
use Rattle.and_determinacy.specs.Seeing.{ref_term, argument_pairs, IsPart, Meets}
use Rattle.and_determinacy.proofs.SureParts.{led_now, pairs_front, solved_pairs}
use Rattle.and_determinacy.proofs.SureRefs.{noted_term}
use Rattle.and_determinacy.proofs.SureSteps.{frame}
use Rattle.and_determinacy.proofs.SureCalls.{alike}

-- ---- What terms begin with

-- An instance of what is no variable begins as that does.
begins_alike : (t : Term) (a : Substitution) → ((k : ℕ) → shown_term t ≢ Variable k) → shown_term (apply a t) ≡ shown_term t
begins_alike (variable q k) a solid = absurd (solid k refl)
begins_alike (number z) a solid = refl
begins_alike (compound c ts) a solid = ap (Compound (record { 0 = c })) (width_applied a ts)

term_shown : (ts : List Term) (s : Shape) → shown_term (shape_term ts s) ≡ shown s
term_shown ts (Skeletons.variable k) = refl
term_shown ts (Skeletons.number z) = refl
term_shown ts (Skeletons.compound c ns) = ap (Compound (record { 0 = c })) (width-term_list (map (nth ts) ns) ∙ length-map ns (nth ts))

no_variable_shown : (s : Shape) → ((k : ℕ) → s ≢ Skeletons.variable k) → (k : ℕ) → shown s ≢ Variable k
no_variable_shown (Skeletons.variable j) solid k e = solid j refl
no_variable_shown (Skeletons.number z) solid k e = absurd (cc)
no_variable_shown (Skeletons.compound c ns) solid k e = absurd (cc)

module _ (P : NamedProgram) (fall : AllFall 0 P.skeleton.nodes) where
  node_shown : (n : ℕ) → shown_term (node_term P.skeleton.nodes n) ≡ shown (shape_at P.skeleton n)
  node_shown n = ap shown_term (node_term_shape P.skeleton.nodes n fall) ∙ term_shown (terms_behind [] P.skeleton.nodes) (shape_at P.skeleton n)

  node_begins : (n : ℕ) (a : Substitution) → ((k : ℕ) → shape_at P.skeleton n ≢ Skeletons.variable k)
      → shown_term (apply a (node_term P.skeleton.nodes n)) ≡ shown (shape_at P.skeleton n)
  node_begins n a solid =
      begins_alike (node_term P.skeleton.nodes n) a
      (λ k e. no_variable_shown (shape_at P.skeleton n) solid k (sym (node_shown n) ∙ e)) ∙ node_shown n

  -- Nodes of different kind have no common instance.
  pub kinds_apart : (n m : ℕ) → shown (shape_at P.skeleton n) ≢ shown (shape_at P.skeleton m)
      → ((k : ℕ) → shape_at P.skeleton n ≢ Skeletons.variable k) → ((k : ℕ) → shape_at P.skeleton m ≢ Skeletons.variable k)
      → (a b s : Substitution) → apply s (apply a (node_term P.skeleton.nodes n)) ≡ apply s (apply b (node_term P.skeleton.nodes m)) → ⊥
  kinds_apart n m differ solid firm a b s e =
      differ (sym (node_begins n (then a s) solid) ∙ ap shown_term (sym (apply_then a s (node_term P.skeleton.nodes n)) ∙ e
      ∙ apply_then b s (node_term P.skeleton.nodes m)) ∙ node_begins m (then b s) firm)

  -- ---- Arguments

  -- An argument's node is that in whatever frame.
  pub argument_there : (l : Loaded) → P ≡ named l → (node m place : ℕ) (a : Substitution) → place < length (arguments_at (skeleton_of l) node)
      → node_term (skeleton_of l).nodes m ≡ argument_of (node_term (skeleton_of l).nodes node) place
      → IsArgument (apply a (node_term P.skeleton.nodes m)) (apply a (node_term P.skeleton.nodes node)) place
  argument_there l same node m place a low is =
      let t : Term = node_term P.skeleton.nodes node in
      let within : place < length (arguments_at P.skeleton node) =
      subst (λ (Q : NamedProgram). place < length (arguments_at Q.skeleton node)) (sym same) low in
      let own : node_term P.skeleton.nodes m ≡ argument_of t place =
      subst (λ (Q : NamedProgram). node_term Q.skeleton.nodes m ≡ argument_of (node_term Q.skeleton.nodes node) place) (sym same) is in
      let there : place < count_of (shown_term t) = subst (λ (n : ℕ). place < n) (sym (node_count P fall [] node)) within in
      record {
        there = count_later a t place there;
        is = ap (apply a) own ∙ sym (argument_applied a t place there);
      }

  -- There is an argument at each place.
  pub argument_itself : (l : Loaded) → P ≡ named l → (node place : ℕ) (a : Substitution) → place < length (arguments_at (skeleton_of l) node)
      → (t : Term) × IsArgument t (apply a (node_term P.skeleton.nodes node)) place
  argument_itself l same node place a low =
      let t : Term = node_term P.skeleton.nodes node in
      let within : place < length (arguments_at P.skeleton node) =
      subst (λ (Q : NamedProgram). place < length (arguments_at Q.skeleton node)) (sym same) low in
      let there : place < count_of (shown_term t) = subst (λ (n : ℕ). place < n) (sym (node_count P fall [] node)) within in
      (argument_of (apply a t) place, record { there = count_later a t place there; is = refl })

pub shown_counts : (a b : Shape) → shown a ≡ shown b → length (arguments_in a) ≡ length (arguments_in b)
shown_counts a b e = sym (counted a) ∙ ap count_of e ∙ counted b
  where
    counted : (s : Shape) → count_of (shown s) ≡ length (arguments_in s)
    counted (Skeletons.variable k) = refl
    counted (Skeletons.number z) = refl
    counted (Skeletons.compound c ns) = refl

pub same_argument : (t u x : Term) (place : ℕ) → IsArgument t x place → IsArgument u x place → t ≡ u
same_argument t u x place one other = one.is ∙ sym other.is

-- What makes terms one makes their arguments one.
arguments_one : (s : Substitution) (t u x y : Term) (place : ℕ) → IsArgument t x place → IsArgument u y place → apply s x ≡ apply s y
    → apply s t ≡ apply s u
arguments_one s t u x y place one other e =
    ap (apply s) one.is ∙ sym (argument_applied s x place one.there) ∙ ap (λ (v : Term). argument_of v place) e
    ∙ argument_applied s y place other.there ∙ sym (ap (apply s) other.is)

module _ (P : NamedProgram) (row : List Ref) where
  -- So terms are apart where arguments are.
  pub apart_by_argument : (t u x y : Term) (place : ℕ) → IsArgument t x place → IsArgument u y place → AreApart P row t u → AreApart P row x y
  apart_by_argument t u x y place one other apart s solves e = apart s solves (arguments_one s t u x y place one other e)

  -- What leads to a structure is apart from what that is apart from.
  pub led_apart : (part : Ref) (node : NodeNo) (base : ℕ) (u : Term) → IsStructureAt P row part node base
      → AreApart P row (ref_term P (Node node base)) u → AreApart P row (ref_term P part) u
  led_apart part node base u at apart s solves e = apart s solves (sym (at.same s solves) ∙ e)

  pub apart_back : (t u : Term) → AreApart P row t u → AreApart P row u t
  apart_back t u apart s solves e = apart s solves (sym e)

  -- A part leads to a structure that it then is.
  pub structure_is : (part : Ref) (node : NodeNo) (base : ℕ) → IsPart P (length row) part → IsInRange P (length row) (Node node base)
      → LeadsTo (plain row) part (Node node base) → IsStructureAt P row part node base
  structure_is part node base begins fits leads = record {
    in_range = fits;
    same = λ s solves. led_now P row s solves part (Node node base) begins fits leads;
  }

  -- ---- What is noted

  -- What leads to a reference is parted from what that is parted from.
  pub led_parted : (given : List Ref) (from to : Ref) (x : Term) → IsPart P (length row) from → IsPart P (length row) to
      → LeadsTo (plain row) from to → ArePartedBy P row given ((ref_term P to, x) ∷ []) → ArePartedBy P row given ((ref_term P from, x) ∷ [])
  led_parted given from to x begins ends leads parted s solves noted met =
      parted s solves noted (sym (led_now P row s solves from to begins ends leads) ∙ met.0, tt)

  -- Structures are parted where their arguments are,
  pub parted_so : (given : List Ref) (es ds : List Equation) → ((s : Substitution) → Solves s ds → Solves s es) → ArePartedBy P row given es
      → ArePartedBy P row given ds
  parted_so given es ds follows parted s solves noted met = parted s solves noted (follows s met)

  -- and arguments where one pair of them is after those before it.
  pub pairs_parted : (fall : AllFall 0 P.skeleton.nodes) (base i : ℕ) (ns hs : List ℕ) (pair : Equation) (held has : List ℕ) (given gives : List Ref)
      → argument_pairs P base (take (i + 1) ns) (take (i + 1) hs) ≡ argument_pairs P base (take i ns) (take i hs) ++ pair ∷ []
      → Meets P row held has given gives (argument_pairs P base (take i ns) (take i hs)) → ArePartedBy P row gives (pair ∷ [])
      → ArePartedBy P row given (argument_pairs P base ns hs)
  pairs_parted fall base i ns hs pair held has given gives longer meets parted s solves noted met =
      let before : List Equation = argument_pairs P base (take i ns) (take i hs) in
      let both : Solves s (before ++ pair ∷ []) = subst (Solves s) longer (pairs_front P fall base s (i + 1) ns hs met) in
      parted s solves (meets.noted s solves (solves_front s before (pair ∷ []) both) noted) (solves_back s before (pair ∷ []) both)

  -- A variable is met again in vain where what was noted of it is apart.
  pub noted_parted : (given : List Ref) (part : Ref) (k : ℕ) → k < length given → IsPart P (length row) (get_or given k Free)
      → AreApart P row (ref_term P part) (ref_term P (get_or given k Free)) → ArePartedBy P row given ((ref_term P part, variable outside k) ∷ [])
  noted_parted given part k low fits apart s solves noted met =
      apart s solves (met.0 ∙ sym (noted_term P row s k (get_or given k Free) fits (noted k low)))

  -- No clause is a candidate whose head's arguments are parted from those of the call.
  pub no_candidate : (fall : AllFall 0 P.skeleton.nodes) (base node head clause : ℕ)
      → node_term P.skeleton.nodes head ≡ (clause_at P.program clause).head → Of P.program (node_term P.skeleton.nodes node) clause
      → ArePartedBy P row [] (argument_pairs P base (arguments_at P.skeleton node) (arguments_at P.skeleton head))
      → Candidate P.program (equations_of P row) outside (placed base (node_term P.skeleton.nodes node)) clause → ⊥
  no_candidate fall base node head clause is of parted has =
      let (s, solves) = has.1 in
      let both = alike P fall node head clause is of in
      let ns : List ℕ = arguments_at P.skeleton node in
      let hs : List ℕ = arguments_at P.skeleton head in
      let us : Terms = apply_all s (apply_all (cells_from base) (term_list (map (nth (terms_behind [] P.skeleton.nodes)) ns))) in
      let vs : Terms = apply_all s (apply_all frame (term_list (map (nth (terms_behind [] P.skeleton.nodes)) hs))) in
      let one : compound both.name us ≡ compound both.name vs =
      sym (ap (λ (t : Term). apply s (placed base t)) both.call) ∙ solves.0 ∙ sym (ap (λ (t : Term). apply s (framed outside t)) is)
      ∙ ap (λ (t : Term). apply s (framed outside t)) both.clause in
      parted s solves.1 (λ k low. absurd (omega arith)) (solved_pairs P fall base s ns hs both.counted (cc))
