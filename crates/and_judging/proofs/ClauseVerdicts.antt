-- How a draft is judged as a clause or as a query.
use Rattle.std.proofs.Common.{ℕ, suc, ◌+◌, ◌≡◌, ◌<◌, ◌≤◌, true, false, List, [], ◌∷◌, length, map, get_or, Option, Some, None, IfSome, Result, Ok, Err}
use Rattle.std.proofs.Common.{IfOk, IfErr}
use Rattle.std.proofs.Common.{refl, ap, sym, ◌∙◌, subst, arith}
use Rattle.std.specs.Prelude.{All}
use Rattle.and_model.specs.Lines.{Bytes}
use Rattle.and_model.specs.Terms.{Term}
use Rattle.and_model.specs.OwnVariables.{IsOwn}
use Rattle.and_source.specs.Source.{variables_of_items}
use Rattle.and_syntax.specs.Written.{Written, nodes_of, met_after, term_in}
use Rattle.and_syntax.specs.Clauses.{Parts, is_refused, alternatives_of, head_of, body_of, asked_of, is_named, name_of, arity_of}
use Rattle.and_syntax.specs.Clauses.{is_built_in}
use Rattle.and_syntax.specs.Tables.{Table, Fault, first_of, sizes, names_with, term_with, clause_fault, query_fault, not_pure, redefines}
use Rattle.and_syntax.proofs.OwnVariables.{clause_own, query_own}
use Rattle.and_program.specs.Skeletons.{Shape, node_term}
use Rattle.and_drafts.specs.Drafts.{draft_of}
use Rattle.and_drafts.specs.Parts.{part_shapes, written_at, PartsFall}
use Rattle.and_drafts.specs.Variables.{AllNumbered}
use Rattle.and_drafts.specs.Numbered.{met_by, IsRead}
use Rattle.and_judging.specs.Judged.{sides_at, asked_at, functor_at}
use Rattle.and_judging.specs.Bodies.{bare, body_parts, IsBody}
use Rattle.and_judging.specs.Sorts.{shapes_under, TokensThere}
use Rattle.and_judging.specs.Outlined.{size_of}
use Rattle.and_judging.specs.Verdicts.{IsUnder, IsBodyOf}
use Rattle.and_drafts.specs.declared.draft.ClauseDraft.{ClauseDraft}
use Rattle.and_drafts.specs.declared.draft.DraftPart.{DraftPart}
use Rattle.and_judging.specs.declared.body.Body.{Body}
use Rattle.and_judging.specs.declared.judging.Used.{Used}
use Rattle.and_judging.specs.declared.judging.Sides.{Sides}
use Rattle.and_judging.specs.declared.judging.Functor.{Functor}
use Rattle.and_drafts.proofs.Telling.{all_fall}
use Rattle.and_judging.proofs.Sizes.{written_size}
use Rattle.and_judging.proofs.Sizing.{clause_short, query_short}
use Rattle.and_judging.proofs.Rooted.{read_parts, size_is, met_is, root_written, root_term}
use Rattle.and_judging.proofs.Halving.{halves, asked_parts, IsCalled, called, Stand, stand, asked_stand}
use Rattle.and_judging.proofs.Verdicts as verdicts

-- ---- A result, case by case.
pub ok_then : {A E : Type 0} (P Q : A → Type 0) (r : Result A E) → ((x : A) → P x → Q x) → IfOk r P → IfOk r Q
ok_then P Q (Ok x) f h = f x h
ok_then P Q (Err e) f h = tt

pub err_then : {A E : Type 0} (P Q : E → Type 0) (r : Result A E) → ((e : E) → P e → Q e) → IfErr r P → IfErr r Q
err_then P Q (Ok x) f h = tt
err_then P Q (Err e) f h = f e h

pub some_then : {A : Type 0} (P Q : A → Type 0) (o : Option A) → ((x : A) → P x → Q x) → IfSome o P → IfSome o Q
some_then P Q None f h = tt
some_then P Q (Some x) f h = f x h

-- under its own names
pub under_own : (T : Table) (w : Written) (names : List Bytes) (used : Used) → IsUnder T w names used → IsUnder T w (names_with T w) used
under_own T w names used under =
    record { names_are = refl; nodes = under.nodes; numbers = under.numbers; disjunctions = under.disjunctions }

-- ---- A draft that is one term, as a list of parts.
module _ (d : ClauseDraft) (xs : List DraftPart) (same : xs ≡ d.parts.items) (n : ℕ) (there : n < length d.parts.items)
    (rooted : d.finished.items ≡ n ∷ []) where
  abbrev root : Written
  root = written_at (part_shapes d.parts.items) n

  one : (draft_of d).finished ≡ root ∷ []
  one = ap (map (written_at (part_shapes d.parts.items))) rooted

  pub falls_in : PartsFall 0 (part_shapes xs)
  falls_in = subst (λ ys. PartsFall 0 (part_shapes ys)) (sym same) (all_fall d)

  pub there_in : n < length xs
  there_in = subst (λ (ys : List DraftPart). n < length ys) (sym same) there

  small_in : nodes_of (written_at (part_shapes xs) n) ≤ length xs
  small_in =
      let size : length d.parts.items ≡ nodes_of root = size_is d root one in
      subst (λ (ys : List DraftPart). nodes_of (written_at (part_shapes ys) n) ≤ length ys) (sym same) (omega (arith, size))

  pub read_in : (names : List Bytes) → IsRead (shapes_under names xs) 0 names (part_shapes xs)
  read_in names = read_parts names xs (subst (AllNumbered []) (sym same) d.numbered)

  -- where a head and a body stand
  pub stand_in : (names : List Bytes) (sides : Sides) → sides ≡ sides_at names (part_shapes xs) n → Stand xs sides
  stand_in names sides e = stand names xs n falls_in there_in small_in sides e

  pub asked_in : (part : Option ℕ) → part ≡ asked_at (part_shapes xs) n
      → IfSome part (λ m. m < length xs) × IfSome part (λ m. nodes_of (written_at (part_shapes xs) m) ≤ length xs)
  asked_in part e = asked_stand [] xs n falls_in there_in small_in part e

  -- the root's term
  term_is : (names : List Bytes) → node_term (shapes_under names xs) n ≡ term_in names [] root
  term_is names = ap (λ ys. node_term (shapes_under names ys) n) same ∙ root_term d root one names n rooted

  size_of_term : (names : List Bytes) → size_of (term_in names [] root) ≡ length xs
  size_of_term names = written_size names [] root ∙ sym (size_is d root one) ∙ sym (ap length same)

  -- what body_of is asked and says
  abbrev Says : List Bytes → ℕ → ℕ → Option ℕ → Option Body → Type 0
  Says names clause k part o = (ss : List Shape) → IsRead ss 0 names (part_shapes xs) → IsBody ss clause k (body_parts ss part) o

  pub body_numbered : (names : List Bytes) (clause k : ℕ) (part : Option ℕ) (o : Option Body) (b : Body) → 0 < clause → Says names clause k part o → o ≡ Some b
      → 0 < b.next_clause
  body_numbered names clause k part o b some says is =
      let ss : List Shape = shapes_under names xs in
      let h : IsBody ss clause k (body_parts ss part) (Some b) = subst (IsBody ss clause k (body_parts ss part)) is (says ss (read_in names)) in
      omega (arith, some, h.2)

  body_of_parts : (names : List Bytes) (clause k : ℕ) (part : Option ℕ) (o : Option Body) (b : Body) (ps : Parts)
      → Says names clause k part o → o ≡ Some b → ps ≡ body_parts (shapes_under names xs) part → TokensThere (length xs) b.tokens.items
      → alternatives_of ps ≤ size_of (term_in names [] root)
      → All (IsOwn (length (met_after [] root))) (variables_of_items (bare clause k ps)) → IsBodyOf d.parts.items b
  body_of_parts names clause k part o b ps says is body tokens few own =
      let ss : List Shape = shapes_under names xs in
      let h : IsBody ss clause k (body_parts ss part) (Some b) = subst (IsBody ss clause k (body_parts ss part)) is (says ss (read_in names)) in
      let kept : IsBodyOf xs b = record {
        names = names;
        clause = clause;
        disjunction = k;
        body = ps;
        is = subst (λ qs. IsBody ss clause k qs (Some b)) (sym body) h;
        there = tokens;
        few = omega (arith, few, size_of_term names);
        own = subst (λ m. All (IsOwn m) (variables_of_items (bare clause k ps)))
            (sym (ap (λ ys. length (met_by [] (part_shapes ys))) same ∙ ap length (met_is d root one))) own;
      } in
      subst (λ ys. IsBodyOf ys b) same kept

  -- A clause.
  module _ (names : List Bytes) (sides : Sides) (e : sides ≡ sides_at names (part_shapes xs) n) where
    body_is : body_of (term_in names [] root) ≡ body_parts (shapes_under names xs) sides.body
    body_is = sym (ap body_of (term_is names)) ∙ (halves names xs n falls_in there_in sides e).body

    head_is : head_of (term_in names [] root) ≡ node_term (shapes_under names xs) sides.head
    head_is = sym (ap head_of (term_is names)) ∙ (halves names xs n falls_in there_in sides e).head

    pub clause_body : (clause k : ℕ) (o : Option Body) (b : Body) → Says names clause k sides.body o → o ≡ Some b → TokensThere (length xs) b.tokens.items
        → IsBodyOf d.parts.items b
    clause_body clause k o b says is tokens =
        let t : Term = term_in names [] root in
        body_of_parts names clause k sides.body o b (body_of t) says is body_is tokens (clause_short t) (clause_own names (λ m. m) root 0 0 clause k).1

    module _ (T : Table) (w : Written) (used : Used) (under : IsUnder T w names used) (single : (draft_of d).finished ≡ w ∷ []) where
      root_is : root ≡ w
      root_is = root_written d w single n rooted

      with_is : term_in names [] root ≡ term_with T w
      with_is = ap (term_in names []) root_is ∙ ap (λ ns. term_in ns [] w) under.names_are

      clause_parts : body_of (term_with T w) ≡ body_parts (shapes_under names xs) sides.body
      clause_parts = sym (ap body_of with_is) ∙ body_is

      clause_head : head_of (term_with T w) ≡ node_term (shapes_under names xs) sides.head
      clause_head = sym (ap head_of with_is) ∙ head_is

      pub head_there : (sides.head < length d.parts.items) × (node_term (shapes_under (names_with T w) d.parts.items) sides.head ≡ head_of (term_with T w))
      head_there = (
        subst (λ (ys : List DraftPart). sides.head < length ys) same (stand_in names sides e).head,
        sym (clause_head ∙ ap (λ ns. node_term (shapes_under ns xs) sides.head) under.names_are
            ∙ ap (λ ys. node_term (shapes_under (names_with T w) ys) sides.head) same),
      )

      pub no_name : (o : Option Functor) → o ≡ functor_at names (part_shapes xs) sides.head → o ≡ None → clause_fault T w ≡ Some not_pure
      no_name o at none =
          let h : IsCalled (node_term (shapes_under names xs) sides.head) None =
          subst (IsCalled (node_term (shapes_under names xs) sides.head)) none (called names xs sides.head falls_in (stand_in names sides e).head o at) in
          verdicts.unnamed T w (ap is_named clause_head ∙ h)

      pub no_body : (clause k : ℕ) (o : Option Body) → Says names clause k sides.body o → o ≡ None → clause_fault T w ≡ Some not_pure
      no_body clause k o says none =
          let ss : List Shape = shapes_under names xs in
          let h : is_refused (body_parts ss sides.body) ≡ true = subst (IsBody ss clause k (body_parts ss sides.body)) none (says ss (read_in names)) in
          verdicts.impure T w (ap is_refused clause_parts ∙ h)

      module _ (o : Option Functor) (f : Functor) (at : o ≡ functor_at names (part_shapes xs) sides.head) (some : o ≡ Some f)
          (clause k : ℕ) (p : Option Body) (b : Body) (says : Says names clause k sides.body p) (is : p ≡ Some b) where
        named_so : IsCalled (node_term (shapes_under names xs) sides.head) (Some f)
        named_so = subst (IsCalled (node_term (shapes_under names xs) sides.head)) some (called names xs sides.head falls_in (stand_in names sides e).head o at)

        body_so : IsBody (shapes_under names xs) clause k (body_parts (shapes_under names xs) sides.body) (Some b)
        body_so = subst (IsBody (shapes_under names xs) clause k (body_parts (shapes_under names xs) sides.body)) is
            (says (shapes_under names xs) (read_in names))

        pub means_more : is_built_in f.name f.arity ≡ true → (q : Option Fault) → q ≡ Some (redefines (get_or names f.name []) f.arity)
            → IfSome q (λ g. clause_fault T w ≡ Some g)
        means_more taken q made =
            let made_with : Some (redefines (get_or names f.name []) f.arity) ≡ Some (redefines (get_or (names_with T w) f.name []) f.arity) =
            ap (λ ns. Some (redefines (get_or ns f.name []) f.arity)) under.names_are in
            let h : clause_fault T w ≡ Some (redefines (get_or names f.name []) f.arity) =
            verdicts.built_in T w f.name f.arity (Some (redefines (get_or names f.name []) f.arity)) (ap is_named clause_head ∙ named_so.0)
            (ap name_of clause_head ∙ named_so.1) (ap arity_of clause_head ∙ named_so.2) (ap is_refused clause_parts ∙ body_so.0) taken made_with in
            subst (λ (v : Option Fault). IfSome v (λ g. clause_fault T w ≡ Some g)) (sym made) h

        pub means_this : is_built_in f.name f.arity ≡ false
            → clause_fault T w ≡ first_of (sizes T w (body_of (term_with T w)) (suc (alternatives_of (body_of (term_with T w)))))
        means_this free =
            verdicts.sized T w f.name f.arity (ap is_named clause_head ∙ named_so.0) (ap name_of clause_head ∙ named_so.1)
            (ap arity_of clause_head ∙ named_so.2)
            (ap is_refused clause_parts ∙ body_so.0) free

        pub clause_says : clause ≡ used.numbers + 2 → k ≡ used.disjunctions
            → IsBody (shapes_under (names_with T w) d.parts.items) (suc (suc T.numbers)) T.disjunctions (body_of (term_with T w)) (Some b)
        clause_says first from =
            let numbered_from : clause ≡ suc (suc T.numbers) = omega (arith, first, under.numbers) in
            subst (λ ys. IsBody (shapes_under (names_with T w) ys) (suc (suc T.numbers)) T.disjunctions (body_of (term_with T w)) (Some b)) same
            (subst (λ ns. IsBody (shapes_under ns xs) (suc (suc T.numbers)) T.disjunctions (body_of (term_with T w)) (Some b)) under.names_are
            (subst (λ qs. IsBody (shapes_under names xs) (suc (suc T.numbers)) T.disjunctions qs (Some b)) (sym clause_parts)
            (subst (λ m. IsBody (shapes_under names xs) (suc (suc T.numbers)) m (body_parts (shapes_under names xs) sides.body) (Some b)) (from
            ∙ under.disjunctions)
            (subst (λ m. IsBody (shapes_under names xs) m k (body_parts (shapes_under names xs) sides.body) (Some b)) numbered_from body_so))))

        pub clause_next : clause ≡ used.numbers + 2 → k ≡ used.disjunctions → b.next_clause ≡ suc (T.numbers + suc (alternatives_of (body_of (term_with T w))))
        clause_next first from = let h = clause_says first from in omega (arith, h.2)

  -- A query.
  module _ (names : List Bytes) (part : Option ℕ) (e : part ≡ asked_at (part_shapes xs) n) where
    asked_is : asked_of (term_in names [] root) ≡ body_parts (shapes_under names xs) part
    asked_is = sym (ap asked_of (term_is names)) ∙ asked_parts names xs n falls_in there_in part e

    pub query_body : (clause k : ℕ) (o : Option Body) (b : Body) → Says names clause k part o → o ≡ Some b → TokensThere (length xs) b.tokens.items
        → IsBodyOf d.parts.items b
    query_body clause k o b says is tokens =
        let t : Term = term_in names [] root in
        body_of_parts names clause k part o b (asked_of t) says is asked_is tokens (query_short t) (query_own names (λ m. m) root 0 0 clause k).1

    module _ (T : Table) (w : Written) (used : Used) (under : IsUnder T w names used) (single : (draft_of d).finished ≡ w ∷ []) (unasked : T.asked ≡ None) where
      query_with : term_in names [] root ≡ term_with T w
      query_with = ap (term_in names []) (root_written d w single n rooted) ∙ ap (λ ns. term_in ns [] w) under.names_are

      query_parts : asked_of (term_with T w) ≡ body_parts (shapes_under names xs) part
      query_parts = sym (ap asked_of query_with) ∙ asked_is

      pub no_query : (clause k : ℕ) (o : Option Body) → Says names clause k part o → o ≡ None → query_fault T w ≡ Some not_pure
      no_query clause k o says none =
          let ss : List Shape = shapes_under names xs in
          let h : is_refused (body_parts ss part) ≡ true = subst (IsBody ss clause k (body_parts ss part)) none (says ss (read_in names)) in
          verdicts.impure_query T w unasked (ap is_refused query_parts ∙ h)

      module _ (clause k : ℕ) (p : Option Body) (b : Body) (says : Says names clause k part p) (is : p ≡ Some b) where
        query_so : IsBody (shapes_under names xs) clause k (body_parts (shapes_under names xs) part) (Some b)
        query_so = subst (IsBody (shapes_under names xs) clause k (body_parts (shapes_under names xs) part)) is (says (shapes_under names xs) (read_in names))

        pub query_sized : query_fault T w ≡ first_of (sizes T w (asked_of (term_with T w)) (alternatives_of (asked_of (term_with T w))))
        query_sized = verdicts.sized_query T w unasked (ap is_refused query_parts ∙ query_so.0)

        pub query_says : clause ≡ used.numbers + 1 → k ≡ used.disjunctions
            → IsBody (shapes_under (names_with T w) d.parts.items) (suc T.numbers) T.disjunctions (asked_of (term_with T w)) (Some b)
        query_says first from =
            let numbered_from : clause ≡ suc T.numbers = omega (arith, first, under.numbers) in
            subst (λ ys. IsBody (shapes_under (names_with T w) ys) (suc T.numbers) T.disjunctions (asked_of (term_with T w)) (Some b)) same
            (subst (λ ns. IsBody (shapes_under ns xs) (suc T.numbers) T.disjunctions (asked_of (term_with T w)) (Some b)) under.names_are
            (subst (λ qs. IsBody (shapes_under names xs) (suc T.numbers) T.disjunctions qs (Some b)) (sym query_parts)
            (subst (λ m. IsBody (shapes_under names xs) (suc T.numbers) m (body_parts (shapes_under names xs) part) (Some b)) (from ∙ under.disjunctions)
            (subst (λ m. IsBody (shapes_under names xs) m k (body_parts (shapes_under names xs) part) (Some b)) numbered_from query_so))))

        pub query_next : clause ≡ used.numbers + 1 → k ≡ used.disjunctions → b.next_clause ≡ suc (T.numbers + alternatives_of (asked_of (term_with T w)))
        query_next first from = let h = query_says first from in omega (arith, h.2)
