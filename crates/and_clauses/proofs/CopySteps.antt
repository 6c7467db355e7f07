-- One step of the copying of a term.
use Rattle.std.proofs.Common.{ℕ, zero, suc, ◌+◌, ◌-◌, ◌≡◌, ◌<◌, ◌≤◌, List, [], ◌∷◌, ◌++◌, length, get_or, map, take, drop, All, refl, ap, sym, ◌∙◌}
use Rattle.std.proofs.Common.{true, reverse, arith, subst, inl, inr}
use Rattle.std.proofs.lemmas.List.Elements.{All-nil, All-cons, All-head, All-append}
use Rattle.std.proofs.lemmas.List.{length-append, length-map, map_push, take-append-drop, take-take, take-map, drop-map, append-nil, length-drop}
use Rattle.std.proofs.lemmas.List.{length-take-le}
use Rattle.std.proofs.lemmas.List.{reverse-append}
use Rattle.std.proofs.Math.Seq.{take-length}
use Rattle.and_model.specs.Lines.{Bytes}
use Rattle.and_model.specs.OwnVariables.{IsOwn, AreOwn}
use Rattle.and_model.proofs.OwnVariables.{All-front, All-back, first_own, others_own}
use Rattle.and_syntax.specs.Written.{has, place}
use Rattle.and_syntax.proofs.OwnVariables.{place-below}
use Rattle.and_model.specs.Terms
use Rattle.and_model.specs.Terms.{Path, Term, Terms, variables_of, variables_in, apply_all}
use Rattle.and_source.specs.Lifted.{Numbering, renumbered}
use Rattle.and_program.specs.Skeletons
use Rattle.and_program.specs.Skeletons.{Shape, node_term, shape_term, terms_behind, term_list, Falls, IsFalling, AllFall}
use Rattle.and_program.specs.Kept.{IsWithin, AllWithin}
use Rattle.and_program.proofs.NodeTerms.{node_term_front}
use Rattle.and_drafts.specs.Parts.{part_shape, part_shapes, PartsFall, AllNarrow}
use Rattle.and_judging.specs.Sorts.{shapes_under}
use Rattle.and_judging.specs.Outlined.{size_of}
use Rattle.and_clauses.specs.Copied.{Task, term, name, finish, Fits, tasks_size, tasks_work, tasks_variables, AreTasks, Grown}
use Rattle.and_clauses.specs.Copies.{Copies, IsNode, IsPut, task_in, tasks_in, numbers_in}
use Rattle.and_clauses.specs.Lifts.{IsNamed, AllNamed}
use Rattle.and_clauses.specs.declared.lifting.Copying.{Copying}
use Rattle.and_model.specs.declared.numbers.NodeNo.{NodeNo}
use Rattle.and_drafts.specs.declared.draft.DraftPart.{DraftPart}
use Rattle.and_drafts.specs.declared.draft.DraftPart.TheVariants.{Variable, Integer, Compound}
use Rattle.and_judging.proofs.Noticing.{part_term}
use Rattle.and_drafts.proofs.Drafting.{Falls-more}
use Rattle.and_drafts.proofs.Noting.{Falls-append, part_falls}
use Rattle.and_drafts.proofs.Meeting.{few_arguments}
use Rattle.and_judging.proofs.ConjunctLemmas.{first_part, part_of}
use Rattle.and_clauses.proofs.Copying.{name_next, Fits-name, name_size, name_work, name_variables, name_there, grown_push, pushed_term, found_term}
use Rattle.and_clauses.proofs.Copying.{terms_stay, take-le}

pub grown_again : (m : ℕ) (old mid new : List Shape) (a b : ℕ) → Grown m old mid a → Grown m mid new b → Grown m old new b
grown_again m old mid new a b g h = record {
  kept = sym (take-take (length old) (length mid) new (take-le old mid g.kept)) ∙ ap (take (length old)) h.kept ∙ g.kept;
  falls = h.falls;
  within = h.within;
  few = h.few;
}

pub grown_term : (m : ℕ) (old new : List Shape) (n k : ℕ) → Grown m old new n → k < length old → node_term new k ≡ node_term old k
grown_term m old new n k g lt =
    ap (λ xs. node_term xs k) (sym (take-append-drop (length old) new) ∙ ap (λ xs. xs ++ drop (length old) new) g.kept)
    ∙ node_term_front old (drop (length old) new) k lt

-- a variable has a small number
abbrev IsSmall : Numbering → Path × ℕ → Type 0
IsSmall new v = new v.0 v.1 < 255

-- What holds while a term is copied behind old nodes.
pub record IsCopying (ss : List Shape) (new : Numbering) (parts names : ℕ) (old us : List Shape) (most : ℕ) (finished : List ℕ) (tasks : List Task)
    (whole : Term) : Type 0 where
  pub done : finish ss new tasks (map (node_term us) finished) ≡ whole ∷ []
  pub fits : Fits tasks (length finished)
  pub there : Falls (length us) finished
  pub are : AreTasks parts names tasks
  pub small : All (IsSmall new) (tasks_variables ss tasks)
  pub grown : Grown names old us most
  pub room : length us + tasks_size ss tasks ≤ most

-- a variable or a number: its node is added
pub leaf_copied : (ss : List Shape) (new : Numbering) (parts names : ℕ) (old us vs : List Shape) (most : ℕ) (fs gs : List ℕ) (n : ℕ) (ts : List Task)
    (whole : Term) (s : Shape)
    → IsCopying ss new parts names old us most fs (term n ∷ ts) whole → vs ≡ us ++ s ∷ [] → gs ≡ fs ++ length us ∷ []
    → IsFalling (length us) s → IsWithin names s
    → size_of (node_term ss n) ≡ 1 → shape_term (terms_behind [] us) s ≡ renumbered new (node_term ss n)
    → IsCopying ss new parts names old vs most gs ts whole
leaf_copied ss new parts names old us vs most fs gs n ts whole s c made pushed falls within one same =
    let longer : length vs ≡ length us + 1 = ap length made ∙ length-append us (s ∷ []) in
    let more : length gs ≡ suc (length fs) = omega (arith, ap length pushed, length-append fs (length us ∷ [])) in
    let e : map (node_term vs) gs ≡ map (node_term us) fs ++ renumbered new (node_term ss n) ∷ [] =
    ap (map (node_term vs)) pushed ∙ map_push (node_term vs) fs (length us)
    ∙ ap (λ xs. xs ++ node_term vs (length us) ∷ []) (terms_stay us vs s fs made c.there)
    ∙ ap (λ t. map (node_term us) fs ++ t ∷ []) (pushed_term us vs s made ∙ same) in
    record {
      done = ap (finish ss new ts) e ∙ c.done;
      fits = subst (Fits ts) (sym more) c.fits;
      there = subst (Falls (length vs)) (sym pushed)
          (Falls-append (length vs) fs (length us ∷ []) (Falls-more (length us) (length vs) fs (omega (arith, longer)) c.there) (omega (arith, longer), tt));
      are = c.are.1;
      small = All-back (IsSmall new) (variables_of (node_term ss n)) (tasks_variables ss ts) c.small;
      grown = grown_push names old us vs s most c.grown made falls within (omega (arith, c.room, one));
      room = omega (arith, c.room, one, longer);
    }

-- a variable whose node was there
leaf_found : (ss : List Shape) (new : Numbering) (parts names : ℕ) (old us : List Shape) (most : ℕ) (fs gs : List ℕ) (n m : ℕ) (ts : List Task)
    (whole : Term)
    → IsCopying ss new parts names old us most fs (term n ∷ ts) whole → gs ≡ fs ++ m ∷ [] → m < length us → size_of (node_term ss n) ≡ 1
    → node_term us m ≡ renumbered new (node_term ss n) → IsCopying ss new parts names old us most gs ts whole
leaf_found ss new parts names old us most fs gs n m ts whole c pushed lt one same =
    let more : length gs ≡ suc (length fs) = omega (arith, ap length pushed, length-append fs (m ∷ [])) in
    let e : map (node_term us) gs ≡ map (node_term us) fs ++ renumbered new (node_term ss n) ∷ [] =
    ap (map (node_term us)) pushed ∙ map_push (node_term us) fs m ∙ ap (λ t. map (node_term us) fs ++ t ∷ []) same in
    record {
      done = ap (finish ss new ts) e ∙ c.done;
      fits = subst (Fits ts) (sym more) c.fits;
      there = subst (Falls (length us)) (sym pushed) (Falls-append (length us) fs (m ∷ []) c.there (lt, tt));
      are = c.are.1;
      small = All-back (IsSmall new) (variables_of (node_term ss n)) (tasks_variables ss ts) c.small;
      grown = c.grown;
      room = omega (arith, c.room, one);
    }

-- a name: its arguments come next, and then it
pub name_copied : (ss : List Shape) (new : Numbering) (parts names : ℕ) (old us : List Shape) (most : ℕ) (fs : List ℕ) (n : ℕ) (ts : List Task) (whole : Term)
    (c : ℕ) (ns : List ℕ)
    → IsCopying ss new parts names old us most fs (term n ∷ ts) whole → node_term ss n ≡ Terms.compound c (term_list (map (node_term ss) ns))
    → c < names → length ns ≤ 255 → Falls parts ns
    → IsCopying ss new parts names old us most fs (map term ns ++ name c (length ns) ∷ ts) whole
name_copied ss new parts names old us most fs n ts whole c ns k is lt few falls = record {
  done = name_next ss new c ns (node_term ss n) ts (map (node_term us) fs) is ∙ k.done;
  fits = Fits-name c ns ts (length fs) k.fits;
  there = k.there;
  are = name_there ss c ns parts names ts lt few falls k.are.1;
  small = subst (All (IsSmall new)) (sym (name_variables ss c ns (node_term ss n) ts is)) k.small;
  grown = k.grown;
  room = omega (arith, k.room, name_size ss c ns (node_term ss n) ts is);
}

Falls-take : (n k : ℕ) (ns : List ℕ) → Falls n ns → Falls n (take k ns)
Falls-take n zero ns f = tt
Falls-take n (suc k) [] f = tt
Falls-take n (suc k) (m ∷ ns) f = (f.0, Falls-take n k ns f.1)

Falls-drop : (n k : ℕ) (ns : List ℕ) → Falls n ns → Falls n (drop k ns)
Falls-drop n zero ns f = f
Falls-drop n (suc k) [] f = tt
Falls-drop n (suc k) (m ∷ ns) f = Falls-drop n k ns f.1

-- the name whose arguments were copied
pub name_finished : (ss : List Shape) (new : Numbering) (parts names : ℕ) (old us vs : List Shape) (most : ℕ) (fs gs : List ℕ) (c k : ℕ)
    (ts : List Task) (whole : Term)
    → IsCopying ss new parts names old us most fs (name c k ∷ ts) whole
    → vs ≡ us ++ Skeletons.compound c (drop (length fs - k) fs) ∷ [] → gs ≡ take (length fs - k) fs ++ length us ∷ []
    → IsCopying ss new parts names old vs most gs ts whole
name_finished ss new parts names old us vs most fs gs c k ts whole h made pushed =
    let first : ℕ = length fs - k in
    let args : List ℕ = drop first fs in
    let s : Shape = Skeletons.compound c args in
    let longer : length vs ≡ length us + 1 = ap length made ∙ length-append us (s ∷ []) in
    let fewer : length (take first fs) ≡ first = length-take-le first fs (omega arith) in
    let left : length gs ≡ suc (length fs - k) = omega (arith, ap length pushed, length-append (take first fs) (length us ∷ []), fewer) in
    let n : length (map (node_term us) fs) ≡ length fs = length-map fs (node_term us) in
    let taken : Falls (length us) (take first fs) = Falls-take (length us) first fs h.there in
    let e : map (node_term vs) gs ≡ take first (map (node_term us) fs) ++ Terms.compound c (term_list (drop first (map (node_term us) fs))) ∷ [] =
    ap (map (node_term vs)) pushed ∙ map_push (node_term vs) (take first fs) (length us)
    ∙ ap (λ xs. xs ++ node_term vs (length us) ∷ []) (terms_stay us vs s (take first fs) made taken ∙ sym (take-map (node_term us) first fs))
    ∙ ap (λ t. take first (map (node_term us) fs) ++ t ∷ []) (pushed_term us vs s made
    ∙ ap (λ xs. Terms.compound c (term_list xs)) (sym (drop-map (node_term us) first fs))) in
    let args_few : length args ≤ 255 = omega (arith, length-drop first fs, h.are.1, h.fits.0) in
    record {
      done = ap (finish ss new ts) (e
          ∙ ap (λ m. take (m - k) (map (node_term us) fs) ++ Terms.compound c (term_list (drop (m - k) (map (node_term us) fs))) ∷ []) (sym n)) ∙ h.done;
      fits = subst (Fits ts) (sym left) h.fits.1;
      there = subst (Falls (length vs)) (sym pushed)
          (Falls-append (length vs) (take first fs) (length us ∷ []) (Falls-more (length us) (length vs) (take first fs) (omega (arith, longer)) taken)
          (omega (arith, longer), tt));
      are = h.are.2;
      small = h.small;
      grown = grown_push names old us vs s most h.grown made (Falls-drop (length us) first fs h.there) (h.are.0, args_few) (omega (arith, h.room));
      room = omega (arith, h.room, longer);
    }

-- ---- The beginning.
mutual
  small_of : (new : Numbering) (t : Term) → AreOwn 255 (renumbered new t) → All (IsSmall new) (variables_of t)
  small_of new (Terms.variable q k) a =
      All-cons (IsSmall new) (q, k) [] (All-head (IsOwn 255) ([], new q k) [] a).1 (All-nil (IsSmall new))
  small_of new (Terms.number z) a = All-nil (IsSmall new)
  small_of new (Terms.compound c ts) a = small_in new ts a

  small_in : (new : Numbering) (ts : Terms) → All (IsOwn 255) (variables_in (apply_all (λ q k. Terms.variable [] (new q k)) ts))
      → All (IsSmall new) (variables_in ts)
  small_in new Terms.none a = All-nil (IsSmall new)
  small_in new (Terms.more t ts) a =
      let us : Terms = apply_all (λ q k. Terms.variable [] (new q k)) ts in
      All-append (IsSmall new) (variables_of t) (variables_in ts) (small_of new t (first_own 255 (renumbered new t) us a))
      (small_in new ts (others_own 255 (renumbered new t) us a))

pub first_copied : (ss : List Shape) (new : Numbering) (parts names : ℕ) (old : List Shape) (most root : ℕ) (fs : List ℕ) (ts : List Task) → root < parts
    → AreOwn 255 (renumbered new (node_term ss root)) → AllFall 0 old → AllWithin names old → length old + size_of (node_term ss root) ≤ most
    → fs ≡ [] → ts ≡ term root ∷ []
    → IsCopying ss new parts names old old most fs ts (renumbered new (node_term ss root))
first_copied ss new parts names old most root fs ts lt own falls within room nothing first =
    let whole : Term = renumbered new (node_term ss root) in
    subst (λ xs. IsCopying ss new parts names old old most xs ts whole) (sym nothing)
    (subst (λ xs. IsCopying ss new parts names old old most [] xs whole) (sym first) (record {
      done = refl;
      fits = refl;
      there = tt;
      are = (lt, tt);
      small = subst (All (IsSmall new)) (sym (append-nil (variables_of (node_term ss root)))) (small_of new (node_term ss root) own);
      grown = record { kept = take-length old; falls = falls; within = within; few = omega (arith, room) };
      room = omega (arith, room);
    }))

-- ---- A part.
named_at : (names : List Bytes) (parts : List DraftPart) (n : ℕ) (d : DraftPart) → n < length parts → AllNamed names (part_shapes parts)
    → IsNamed names (part_shape (get_or parts n d))
named_at names [] n d lt a = absurd (omega arith)
named_at names (p ∷ ps) zero d lt a = a.0
named_at names (p ∷ ps) (suc n) d lt a = named_at names ps n d (omega arith) a.1

pub size-some : (t : Term) → 1 ≤ size_of t
size-some (Terms.variable q k) = omega arith
size-some (Terms.number z) = omega arith
size-some (Terms.compound c ts) = omega arith

-- what is left to do is less, and the rest is as before
pub record Copied (ss : List Shape) (new : Numbering) (parts names : ℕ) (old us vs : List Shape) (most : ℕ) (gs : List ℕ) (ts rs : List Task) (whole : Term)
    : Type 0 where
  pub less : tasks_work ss rs < tasks_work ss ts
  pub copying : IsCopying ss new parts names old vs most gs rs whole

module _ (names : List Bytes) (parts : List DraftPart) (new : Numbering) (falls : PartsFall 0 (part_shapes parts)) (narrow : AllNarrow (part_shapes parts))
    (named : AllNamed names (part_shapes parts)) where
  abbrev ss : List Shape
  ss = shapes_under names parts

  module _ (old us vs : List Shape) (most : ℕ) (fs gs : List ℕ) (n : ℕ) (ts rs : List Task) (whole : Term) (lt : n < length parts)
      (c : IsCopying ss new (length parts) (length names) old us most fs (term n ∷ ts) whole) where
    leaf : (s : Shape) → vs ≡ us ++ s ∷ [] → gs ≡ fs ++ length us ∷ [] → rs ≡ ts → IsFalling (length us) s → IsWithin (length names) s
        → size_of (node_term ss n) ≡ 1 → shape_term (terms_behind [] us) s ≡ renumbered new (node_term ss n)
        → Copied ss new (length parts) (length names) old us vs most gs (term n ∷ ts) rs whole
    leaf s made pushed same f w one is =
        subst (λ xs. Copied ss new (length parts) (length names) old us vs most gs (term n ∷ ts) xs whole) (sym same) (record {
          less = omega (arith, one);
          copying = leaf_copied ss new (length parts) (length names) old us vs most fs gs n ts whole s c made pushed f w one is;
        })

    -- a variable, whose node is a new one or one that was there
    variable_copied : (m k : ℕ) → IsPut us vs (Skeletons.variable k) m → gs ≡ fs ++ m ∷ [] → rs ≡ ts → k < 255
        → size_of (node_term ss n) ≡ 1 → Terms.variable [] k ≡ renumbered new (node_term ss n)
        → Copied ss new (length parts) (length names) old us vs most gs (term n ∷ ts) rs whole
    variable_copied m k (inl put) pushed same small one is =
        leaf (Skeletons.variable k) put.0 (pushed ∙ ap (λ j. fs ++ j ∷ []) put.1) same tt small one is
    variable_copied m k (inr found) pushed same small one is =
        let there = found_term us m k found.1 in
        let done : Copied ss new (length parts) (length names) old us us most gs (term n ∷ ts) ts whole = record {
          less = omega (arith, one);
          copying = leaf_found ss new (length parts) (length names) old us most fs gs n m ts whole c pushed there.0 one (there.1 ∙ is);
        } in
        subst (λ xs. Copied ss new (length parts) (length names) old us xs most gs (term n ∷ ts) rs whole) (sym found.0)
        (subst (λ xs. Copied ss new (length parts) (length names) old us us most gs (term n ∷ ts) xs whole) (sym same) done)

    pub part_copied : (p : DraftPart) → p ≡ get_or parts n p → Copies names new p us vs fs gs ts rs
        → Copied ss new (length parts) (length names) old us vs most gs (term n ∷ ts) rs whole
    part_copied (Variable x k) at h =
        let is : node_term ss n ≡ Terms.variable [] k = part_term names parts n (Variable x k) falls lt at in
        let small : All (IsSmall new) (([], k) ∷ []) =
        subst (λ t. All (IsSmall new) (variables_of t)) is (All-front (IsSmall new) (variables_of (node_term ss n)) (tasks_variables ss ts) c.small) in
        variable_copied h.0.node (new [] k) h.0.put h.0.last h.1 (All-head (IsSmall new) ([], k) [] small) (ap size_of is) (sym (ap (renumbered new) is))
    part_copied (Integer z) at h =
        let is : node_term ss n ≡ Terms.number z = part_term names parts n (Integer z) falls lt at in
        leaf (Skeletons.number z) h.0 h.1 h.2 tt tt (ap size_of is) (sym (ap (renumbered new) is))
    part_copied (Compound x ns) at h =
        let is : node_term ss n ≡ Terms.compound (place x names) (term_list (map (node_term ss) ns.items)) =
        part_term names parts n (Compound x ns) falls lt at in
        let there : has x names ≡ true = subst (λ p. IsNamed names (part_shape p)) (sym at) (named_at names parts n (Compound x ns) lt named) in
        let few : length ns.items ≤ 255 = few_arguments parts n (Compound x ns) x ns.items lt narrow at refl in
        let below : Falls (length parts) ns.items = Falls-more n (length parts) ns.items (omega (arith, lt)) (part_falls parts n (Compound x ns) falls lt at) in
        let next = name_copied ss new (length parts) (length names) old us most fs n ts whole (place x names) ns.items c is
        (place-below x names there) few below in
        let work = name_work ss (place x names) ns.items (node_term ss n) ts is in
        subst (λ xs. Copied ss new (length parts) (length names) old us xs most gs (term n ∷ ts) rs whole) (sym h.0)
        (subst (λ xs. Copied ss new (length parts) (length names) old us us most xs (term n ∷ ts) rs whole) (sym h.1)
        (subst (λ xs. Copied ss new (length parts) (length names) old us us most fs (term n ∷ ts) xs whole) (sym h.2)
        (record { less = work; copying = next })))

-- the next task is the last one that is pending
pub last_task : (before rest : List Copying) (t : Copying) → before ≡ rest ++ t ∷ [] → tasks_in (reverse before) ≡ task_in t ∷ tasks_in (reverse rest)
last_task before rest t e = ap (λ xs. tasks_in (reverse xs)) e ∙ ap tasks_in (reverse-append rest (t ∷ []))

-- the term of the one node that is left
pub copied_whole : (ss : List Shape) (new : Numbering) (parts names : ℕ) (old us : List Shape) (most : ℕ) (ns : List NodeNo) (ts : List Task)
    (n : NodeNo) (whole : Term)
    → IsCopying ss new parts names old us most (numbers_in ns) ts whole → ts ≡ [] → n ≡ get_or ns 0 n → IsNode us n.0 whole
copied_whole ss new parts names old us most ns ts n whole c none at =
    by ns (subst (λ xs. IsCopying ss new parts names old us most (numbers_in ns) xs whole) none c) at
  where
    by : (ms : List NodeNo) → IsCopying ss new parts names old us most (numbers_in ms) [] whole → n ≡ get_or ms 0 n → IsNode us n.0 whole
    by [] d e = absurd (omega (arith, d.fits))
    by (m ∷ []) d e =
        let is : n.0 ≡ m.0 = ap (λ (k : NodeNo). k.0) e in
        let same : node_term us m.0 ∷ [] ≡ whole ∷ [] = d.done in
        let t : node_term us m.0 ≡ whole = cc in
        (omega (arith, d.there.0, is), ap (node_term us) is ∙ t)
    by (m ∷ k ∷ ms) d e = absurd (omega (arith, d.fits))

-- ---- What the code does with the nodes that are finished.
pub tail_of : {X : Type 0} (k : ℕ) (xs ys : List X) → ys ≡ xs → take (length ys - k) (drop k ys) ≡ drop k xs
tail_of k xs ys e = ap (λ (n : ℕ). take n (drop k ys)) (sym (length-drop k ys)) ∙ take-length (drop k ys) ∙ ap (drop k) e

pub finished_nodes : (us vs : List Shape) (c : ℕ) (fs args : List NodeNo) (first : ℕ) → args ≡ drop first fs
    → vs ≡ us ++ Skeletons.compound c (numbers_in args) ∷ [] → vs ≡ us ++ Skeletons.compound c (drop first (numbers_in fs)) ∷ []
finished_nodes us vs c fs args first is made =
    made ∙ ap (λ (xs : List ℕ). us ++ Skeletons.compound c xs ∷ []) (ap numbers_in is ∙ sym (drop-map (λ (n : NodeNo). n.0) first fs))

pub finished_rest : (old mid new : List NodeNo) (n : NodeNo) (first k : ℕ) → mid ≡ take first old → new ≡ mid ++ n ∷ [] → n.0 ≡ k
    → numbers_in new ≡ take first (numbers_in old) ++ k ∷ []
finished_rest old mid new n first k cut pushed is =
    ap numbers_in pushed ∙ map_push (λ (m : NodeNo). m.0) mid n
    ∙ ap (λ xs. xs ++ n.0 ∷ []) (ap numbers_in cut ∙ sym (take-map (λ (m : NodeNo). m.0) first old))
    ∙ ap (λ j. take first (numbers_in old) ++ j ∷ []) is

pub first_task : (nothing pending : List Copying) (t : Copying) → nothing ≡ [] → pending ≡ nothing ++ t ∷ [] → tasks_in (reverse pending) ≡ task_in t ∷ []
first_task nothing pending t e f = ap (λ xs. tasks_in (reverse xs)) (f ∙ ap (λ xs. xs ++ t ∷ []) e)

-- ---- A turn of the loop.
pub term_turn : (names : List Bytes) (parts : List DraftPart) (new : Numbering) → PartsFall 0 (part_shapes parts) → AllNarrow (part_shapes parts)
    → AllNamed names (part_shapes parts) → (old us vs : List Shape) (most : ℕ) (fs gs : List ℕ) (n : ℕ) (ts rest rs : List Task) (whole : Term)
    → ts ≡ term n ∷ rest → IsCopying (shapes_under names parts) new (length parts) (length names) old us most fs ts whole
    → ((d : DraftPart) → Copies names new (get_or parts n d) us vs fs gs rest rs)
    → Copied (shapes_under names parts) new (length parts) (length names) old us vs most gs ts rs whole
term_turn names parts new falls narrow named old us vs most fs gs n ts rest rs whole e c copies =
    let ss : List Shape = shapes_under names parts in
    let d : IsCopying ss new (length parts) (length names) old us most fs (term n ∷ rest) whole =
    subst (λ xs. IsCopying ss new (length parts) (length names) old us most fs xs whole) e c in
    subst (λ xs. Copied ss new (length parts) (length names) old us vs most gs xs rs whole) (sym e)
    (part_copied names parts new falls narrow named old us vs most fs gs n rest rs whole d.are.0 d (get_or parts n first_part) (part_of parts n d.are.0)
    (copies first_part))

pub name_turn : (ss : List Shape) (new : Numbering) (parts names : ℕ) (old us vs : List Shape) (most : ℕ) (fs gs : List NodeNo) (c k : ℕ) (ts rest : List Task)
    (whole : Term) → ts ≡ name c k ∷ rest → IsCopying ss new parts names old us most (numbers_in fs) ts whole
    → vs ≡ us ++ Skeletons.compound c (drop (length fs - k) (numbers_in fs)) ∷ []
    → numbers_in gs ≡ take (length fs - k) (numbers_in fs) ++ length us ∷ []
    → IsCopying ss new parts names old vs most (numbers_in gs) rest whole
name_turn ss new parts names old us vs most fs gs c k ts rest whole e h made pushed =
    let n : length (numbers_in fs) ≡ length fs = length-map fs (λ (m : NodeNo). m.0) in
    name_finished ss new parts names old us vs most (numbers_in fs) (numbers_in gs) c k rest whole
    (subst (λ xs. IsCopying ss new parts names old us most (numbers_in fs) xs whole) e h)
    (made ∙ ap (λ m. us ++ Skeletons.compound c (drop (m - k) (numbers_in fs)) ∷ []) (sym n))
    (pushed ∙ ap (λ m. take (m - k) (numbers_in fs) ++ length us ∷ []) (sym n))
