-- The nodes of a draft are the same under more names.
use Rattle.std.proofs.Common.{ℕ, ◌+◌, ◌≡◌, true, List, [], ◌∷◌, ◌++◌, refl, ap, sym, ◌∙◌, subst}
use Rattle.and_model.specs.Lines.{Bytes}
use Rattle.and_syntax.specs.Written
use Rattle.and_syntax.specs.Written.{Written, Many, has, place, including, named, named_all, nodes_of}
use Rattle.and_syntax.specs.Clauses.{disjunctions_of}
use Rattle.and_syntax.specs.Clauses as clauses
use Rattle.and_syntax.specs.Tables.{Table, names_with, all_names_with}
use Rattle.and_syntax.proofs.Names.{Grows, grows-named_all, grows-disjunctions, including-has}
use Rattle.and_program.specs.Skeletons
use Rattle.and_drafts.specs.Parts.{PartShape, variable, integer, compound, part_shapes, postfix, postfix_all, roots}
use Rattle.and_drafts.specs.Drafts.{draft_of}
use Rattle.and_judging.specs.Sorts.{shapes_under}
use Rattle.and_drafts.specs.declared.draft.ClauseDraft.{ClauseDraft}
use Rattle.and_drafts.specs.declared.draft.DraftPart.{DraftPart}
use Rattle.and_drafts.specs.declared.draft.DraftPart.TheVariants.{Variable, Integer, Compound}
use Rattle.and_judging.proofs.Rooted.{parts_are}

-- the names of parts are some of these
abbrev AllHas : List Bytes → List PartShape → Type 0
AllHas names [] = Unit {0}
AllHas names (variable x ∷ ps) = AllHas names ps
AllHas names (integer z ∷ ps) = AllHas names ps
AllHas names (compound c ns ∷ ps) = (has c names ≡ true) × AllHas names ps

has_both : (names : List Bytes) (ps qs : List PartShape) → AllHas names ps → AllHas names qs → AllHas names (ps ++ qs)
has_both names [] qs a b = b
has_both names (variable x ∷ ps) qs a b = has_both names ps qs a b
has_both names (integer z ∷ ps) qs a b = has_both names ps qs a b
has_both names (compound c ns ∷ ps) qs a b = (a.0, has_both names ps qs a.1 b)

has_more : (xs ys : List Bytes) (ps : List PartShape) → Grows xs ys → AllHas xs ps → AllHas ys ps
has_more xs ys [] g a = tt
has_more xs ys (variable x ∷ ps) g a = has_more xs ys ps g a
has_more xs ys (integer z ∷ ps) g a = has_more xs ys ps g a
has_more xs ys (compound c ns ∷ ps) g a = ((g c a.0).0, has_more xs ys ps g a.1)

mutual
  has_postfix : (n : ℕ) (xs : List Bytes) (w : Written) → AllHas (named xs w) (postfix n w)
  has_postfix n xs (Written.variable x) = tt
  has_postfix n xs (Written.integer z) = tt
  has_postfix n xs (Written.compound c ts) =
      let ys : List Bytes = including xs c in
      let all : List Bytes = named_all ys ts in
      let last : AllHas all (compound c (roots n ts) ∷ []) = ((grows-named_all ys ts c (including-has xs c)).0, tt) in
      has_both all (postfix_all n ts) (compound c (roots n ts) ∷ []) (has_postfix_all n ys ts) last

  has_postfix_all : (n : ℕ) (xs : List Bytes) (ts : Many) → AllHas (named_all xs ts) (postfix_all n ts)
  has_postfix_all n xs Written.none = tt
  has_postfix_all n xs (Written.more t ts) =
      let ys : List Bytes = named xs t in
      let all : List Bytes = named_all ys ts in
      has_both all (postfix n t) (postfix_all (n + nodes_of t) ts) (has_more ys all (postfix n t) (grows-named_all ys ts) (has_postfix n xs t))
      (has_postfix_all (n + nodes_of t) ys ts)

shapes_same : (xs ys : List Bytes) (ps : List DraftPart) → Grows xs ys → AllHas xs (part_shapes ps) → shapes_under ys ps ≡ shapes_under xs ps
shapes_same xs ys [] g a = refl
shapes_same xs ys (Variable x k ∷ ps) g a = ap (λ ss. Skeletons.variable k ∷ ss) (shapes_same xs ys ps g a)
shapes_same xs ys (Integer z ∷ ps) g a = ap (λ ss. Skeletons.number z ∷ ss) (shapes_same xs ys ps g a)
shapes_same xs ys (Compound c ns ∷ ps) g a =
    ap (λ n. Skeletons.compound n ns.items ∷ shapes_under ys ps) (g c a.0).1
    ∙ ap (λ ss. Skeletons.compound (place c xs) ns.items ∷ ss) (shapes_same xs ys ps g a.1)

-- so they are once the names of disjunctions are noted
pub same_shapes : (T : Table) (w : Written) (body : clauses.Parts) (d : ClauseDraft) → (draft_of d).finished ≡ w ∷ []
    → shapes_under (all_names_with T w body) d.parts.items ≡ shapes_under (names_with T w) d.parts.items
same_shapes T w body d one =
    let xs : List Bytes = names_with T w in
    shapes_same xs (all_names_with T w body) d.parts.items (grows-disjunctions T.disjunctions (disjunctions_of body) xs)
    (subst (AllHas xs) (sym (parts_are d w one)) (has_postfix 0 T.names w))
