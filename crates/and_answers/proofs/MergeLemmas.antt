-- How runs of entries become one.
use Rattle.std.proofs.Common.{◌≡◌, ◌<◌, ◌+◌, ℕ, List, [], ◌∷◌, ◌++◌, length, reverse, refl, sym, ap, ◌∙◌, subst, append_assoc, append-nil, length-append, arith}
use Rattle.std.specs.Prelude.{Option, Some, None, IfSome, IfNone}
use Rattle.std.specs.Option.{option_to_list}
use Rattle.std.specs.List.Sorted.{IsPermutation}
use Rattle.std.proofs.lemmas.List.{reverse-append, reverse-reverse, length-map}
use Rattle.std.proofs.lemmas.List.Sorted.{IsPermutation-refl, IsPermutation-trans, IsPermutation-to_front, IsPermutation-middle, IsPermutation-append}
use Rattle.std.proofs.lemmas.List.Sorted.{IsPermutation-append_comm, IsPermutation-map, IsPermutation-reverse, length_permutation}
use Rattle.and_answers.specs.Runs.{IsBehind, Rises, entries_of, IsTakenOff}
use Rattle.and_answers.specs.Merged.{all_entries}
use Rattle.and_answers.specs.declared.found.Entry.{Entry}
use Rattle.and_answers.specs.declared.tail.Tail.{Tail}
use Rattle.and_answers.proofs.RunLemmas.{code_of}

pub if_some_at : {X : Type 0} (o : Option X) (x : X) (P : X → Type 0) → o ≡ Some x → IfSome o P → P x
if_some_at o x P is h = subst (λ p. IfSome p P) is h

pub if_none_at : {X : Type 0} (o : Option X) (P : Type 0) → o ≡ None → IfNone o P → P
if_none_at o P is h = subst (λ p. IfNone p P) is h

-- ---- one of two lists, in front of both

front_of_second : {X : Type 0} (xs ys : List X) (x : X) → IsPermutation (xs ++ (ys ++ x ∷ [])) (x ∷ (xs ++ ys))
front_of_second xs ys x =
    subst (λ l. IsPermutation l (x ∷ (xs ++ ys))) (append_assoc xs ys (x ∷ [])) (IsPermutation-to_front (xs ++ ys) x)

pub front_of_first : {X : Type 0} (xs ys : List X) (x : X) → IsPermutation ((xs ++ x ∷ []) ++ ys) (x ∷ (xs ++ ys))
front_of_first xs ys x =
    subst (λ l. IsPermutation l (x ∷ (xs ++ ys))) (sym (append_assoc xs (x ∷ []) ys)) (IsPermutation-middle xs x ys)

pub entries_more : (ts : List Tail) (t : Tail) → entries_of (ts ++ t ∷ []) ≡ entries_of ts ++ t.entry ∷ []
entries_more [] t = refl
entries_more (s ∷ ts) t = ap (λ l. s.entry ∷ l) (entries_more ts t)

-- ---- an entry is taken off two stacks

top_rises : (last : List ℕ) (ts : List Tail) (t : Tail) → Rises last (reverse (ts ++ t ∷ [])) → IsBehind last t × Rises (code_of t) (reverse ts)
top_rises last ts t r = subst (λ l. Rises last l) (reverse-append ts (t ∷ [])) r

pub put_rises : (last : List ℕ) (ts : List Tail) (t : Tail) → IsBehind last t → Rises (code_of t) (reverse ts) → Rises last (reverse (ts ++ t ∷ []))
put_rises last ts t is r = subst (λ l. Rises last l) (sym (reverse-append ts (t ∷ []))) (is, r)

pub taken_of_second : (t : Tail) (old : List Tail) (new : List Tail) → old ≡ new ++ t ∷ [] → IsTakenOff t [] old [] new
taken_of_second t old new is = subst (λ l. IsTakenOff t [] l [] new) (sym is) (record {
  rises = λ last none r. let top = top_rises last new t r in (top.0, tt, top.1);
  same = subst (λ l. IsPermutation l (t.entry ∷ entries_of new)) (sym (entries_more new t)) (IsPermutation-to_front (entries_of new) t.entry);
})

pub taken_of_first : (t : Tail) (old : List Tail) (new : List Tail) → old ≡ new ++ t ∷ [] → IsTakenOff t old [] new []
taken_of_first t old new is = subst (λ l. IsTakenOff t l [] new []) (sym is) (record {
  rises = λ last r none. let top = top_rises last new t r in (top.0, top.1, tt);
  same = subst (λ l. IsPermutation (l ++ []) (t.entry ∷ (entries_of new ++ []))) (sym (entries_more new t))
      (front_of_first (entries_of new) [] t.entry);
})

-- the first of two that met, which is of the first stack, and the other is put back on the second,
pub taken_straight : (f g first second : Tail) (xs ys old others put : List Tail) → old ≡ xs ++ f ∷ [] → others ≡ ys ++ g ∷ []
    → put ≡ ys ++ second ∷ [] → (first.entry ≡ f.entry) × (second.entry ≡ g.entry)
    → ((last : List ℕ) → IsBehind last f → IsBehind last g → IsBehind last first × IsBehind (code_of first) second)
    → IsTakenOff first old others xs put
taken_straight f g first second xs ys old others put is other_is put_is same behind =
    subst (λ l. IsTakenOff first l others xs put) (sym is) (subst (λ l. IsTakenOff first (xs ++ f ∷ []) l xs put) (sym other_is)
    (subst (λ l. IsTakenOff first (xs ++ f ∷ []) (ys ++ g ∷ []) xs l) (sym put_is) (record {
      rises = λ last r q.
          let one = top_rises last xs f r in
          let other = top_rises last ys g q in
          let both = behind last one.0 other.0 in (
            both.0,
            subst (λ (e : Entry). Rises e.code.value (reverse xs)) (sym same.0) one.1,
            put_rises (code_of first) ys second both.1 (subst (λ (e : Entry). Rises e.code.value (reverse ys)) (sym same.1) other.1),
          );
      same = subst (λ l. IsPermutation (l ++ entries_of (ys ++ g ∷ [])) (first.entry ∷ (entries_of xs ++ entries_of (ys ++ second ∷ []))))
          (sym (entries_more xs f))
          (subst (λ (e : Entry). IsPermutation ((entries_of xs ++ f.entry ∷ []) ++ entries_of (ys ++ g ∷ []))
          (e ∷ (entries_of xs ++ entries_of (ys ++ second ∷ [])))) (sym same.0)
          (subst (λ l. IsPermutation ((entries_of xs ++ f.entry ∷ []) ++ entries_of (ys ++ g ∷ [])) (f.entry ∷ (entries_of xs ++ l))) others_same
          (front_of_first (entries_of xs) (entries_of (ys ++ g ∷ [])) f.entry)));
    })))
  where
    others_same : entries_of (ys ++ g ∷ []) ≡ entries_of (ys ++ second ∷ [])
    others_same = entries_more ys g ∙ ap (λ e. entries_of ys ++ e ∷ []) (sym same.1) ∙ sym (entries_more ys second)

-- or of the second, and the other is put back on the first.
pub taken_turned : (f g first second : Tail) (xs ys old others put : List Tail) → old ≡ xs ++ f ∷ [] → others ≡ ys ++ g ∷ []
    → put ≡ xs ++ second ∷ [] → (first.entry ≡ g.entry) × (second.entry ≡ f.entry)
    → ((last : List ℕ) → IsBehind last f → IsBehind last g → IsBehind last first × IsBehind (code_of first) second)
    → IsTakenOff first old others put ys
taken_turned f g first second xs ys old others put is other_is put_is same behind =
    subst (λ l. IsTakenOff first l others put ys) (sym is) (subst (λ l. IsTakenOff first (xs ++ f ∷ []) l put ys) (sym other_is)
    (subst (λ l. IsTakenOff first (xs ++ f ∷ []) (ys ++ g ∷ []) l ys) (sym put_is) (record {
      rises = λ last r q.
          let one = top_rises last xs f r in
          let other = top_rises last ys g q in
          let both = behind last one.0 other.0 in (
            both.0,
            put_rises (code_of first) xs second both.1 (subst (λ (e : Entry). Rises e.code.value (reverse xs)) (sym same.1) one.1),
            subst (λ (e : Entry). Rises e.code.value (reverse ys)) (sym same.0) other.1,
          );
      same = subst (λ l. IsPermutation (entries_of (xs ++ f ∷ []) ++ l) (first.entry ∷ (entries_of (xs ++ second ∷ []) ++ entries_of ys)))
          (sym (entries_more ys g))
          (subst (λ (e : Entry). IsPermutation (entries_of (xs ++ f ∷ []) ++ (entries_of ys ++ g.entry ∷ []))
          (e ∷ (entries_of (xs ++ second ∷ []) ++ entries_of ys))) (sym same.0)
          (subst (λ l. IsPermutation (entries_of (xs ++ f ∷ []) ++ (entries_of ys ++ g.entry ∷ [])) (g.entry ∷ (l ++ entries_of ys))) firsts_same
          (front_of_second (entries_of (xs ++ f ∷ [])) (entries_of ys) g.entry)));
    })))
  where
    firsts_same : entries_of (xs ++ f ∷ []) ≡ entries_of (xs ++ second ∷ [])
    firsts_same = entries_more xs f ∙ ap (λ e. entries_of xs ++ e ∷ []) (sym same.1) ∙ sym (entries_more xs second)

pub taken_other : (r : Option Tail) (one left other new : List Tail) → one ≡ [] → left ≡ [] → other ≡ new ++ option_to_list r
    → IfSome r (λ (t : Tail). IsTakenOff t one other left new)
taken_other None one left other new none none_left is = tt
taken_other (Some t) one left other new none none_left is =
    subst (λ l. IsTakenOff t l other left new) (sym none) (subst (λ l. IsTakenOff t [] other l new) (sym none_left) (taken_of_second t other new is))

pub taken_one : (t : Tail) (old new others rest : List Tail) → old ≡ new ++ t ∷ [] → others ≡ [] → rest ≡ [] → IsTakenOff t old others new rest
taken_one t old new others rest is none none_left =
    subst (λ l. IsTakenOff t old l new rest) (sym none) (subst (λ l. IsTakenOff t old [] new l) (sym none_left) (taken_of_first t old new is))

-- One fewer is left.
pub fewer_left : (t : Tail) (one other new others : List Tail) → IsTakenOff t one other new others
    → length new + length others < length one + length other
fewer_left t one other new others off =
    let moved = length_permutation _ _ off.same in
    let whole = length-append (entries_of one) (entries_of other) in
    let rest = length-append (entries_of new) (entries_of others) in
    let a = long one in
    let b = long other in
    let d = long new in
    let e = long others in
    omega (arith, moved, whole, rest, a, b, d, e)
  where
    long : (ts : List Tail) → length (entries_of ts) ≡ length ts
    long ts = length-map ts (λ (s : Tail). s.entry)

-- ---- what was taken off so far

-- the code of the last of them
abbrev pub code_after : List ℕ → List Tail → List ℕ
code_after last [] = last
code_after last (t ∷ ts) = code_after (code_of t) ts

after_more : (last : List ℕ) (ts : List Tail) (t : Tail) → code_after last (ts ++ t ∷ []) ≡ code_of t
after_more last [] t = refl
after_more last (s ∷ ts) t = after_more (code_of s) ts t

rises_more : (last : List ℕ) (ts : List Tail) (t : Tail) → Rises last ts → IsBehind (code_after last ts) t → Rises last (ts ++ t ∷ [])
rises_more last [] t r is = (is, tt)
rises_more last (s ∷ ts) t r is = (r.0, rises_more (code_of s) ts t r.1 is)

-- These were taken off two stacks, and those are left.
pub record AreTakenOff (one other taken left others : List Tail) : Type 0 where
  pub same : IsPermutation (entries_of one ++ entries_of other) (entries_of taken ++ (entries_of left ++ entries_of others))
  pub rises : Rises [] taken
  pub first_left : Rises (code_after [] taken) (reverse left)
  pub second_left : Rises (code_after [] taken) (reverse others)

none_taken : (one other : List Tail) → Rises [] (reverse one) → Rises [] (reverse other) → AreTakenOff one other [] one other
none_taken one other r q = record {
  same = IsPermutation-refl (entries_of one ++ entries_of other);
  rises = tt;
  first_left = r;
  second_left = q;
}

pub begun_taking : (one other taken left others : List Tail) → left ≡ one → others ≡ other → taken ≡ [] → Rises [] (reverse left)
    → Rises [] (reverse others) → AreTakenOff one other taken left others
begun_taking one other taken left others is other_is none r q =
    subst (λ l. AreTakenOff l other taken left others) is (subst (λ l. AreTakenOff left l taken left others) other_is
    (subst (λ l. AreTakenOff left others l left others) (sym none) (none_taken left others r q)))

pub one_taken : (one other taken more left others new rest : List Tail) (t : Tail) → more ≡ taken ++ t ∷ [] → AreTakenOff one other taken left others
    → IsTakenOff t left others new rest → AreTakenOff one other more new rest
one_taken one other taken more left others new rest t is a off =
    let next = off.rises (code_after [] taken) a.first_left a.second_left in
    let after : code_after [] (taken ++ t ∷ []) ≡ code_of t = after_more [] taken t in
    let both : List Entry = entries_of new ++ entries_of rest in
    let moved : IsPermutation (entries_of taken ++ (entries_of left ++ entries_of others)) (entries_of taken ++ t.entry ∷ both) =
    IsPermutation-append (entries_of taken) (entries_of taken) _ _ (IsPermutation-refl (entries_of taken)) off.same in
    let put : entries_of taken ++ t.entry ∷ both ≡ entries_of (taken ++ t ∷ []) ++ both =
    sym (append_assoc (entries_of taken) (t.entry ∷ []) both) ∙ ap (λ l. l ++ both) (sym (entries_more taken t)) in
    subst (λ l. AreTakenOff one other l new rest) (sym is) (record {
      same = subst (λ l. IsPermutation (entries_of one ++ entries_of other) l) put (IsPermutation-trans _ _ _ a.same moved);
      rises = rises_more [] taken t a.rises next.0;
      first_left = subst (λ c. Rises c (reverse new)) (sym after) next.1;
      second_left = subst (λ c. Rises c (reverse rest)) (sym after) next.2;
    })

-- All were taken off, and turned round.
pub all_taken : (one other taken left others turned : List Tail) → AreTakenOff one other taken left others → (left ≡ []) × (others ≡ [])
    → turned ≡ reverse taken → IsPermutation (entries_of one ++ entries_of other) (entries_of turned)
all_taken one other taken left others turned a none is =
    let whole : entries_of taken ++ (entries_of left ++ entries_of others) ≡ entries_of taken =
    ap (λ (l : List Tail). entries_of taken ++ (entries_of l ++ entries_of others)) none.0
    ∙ ap (λ (l : List Tail). entries_of taken ++ entries_of l) none.1 ∙ append-nil (entries_of taken) in
    subst (λ (l : List Tail). IsPermutation (entries_of one ++ entries_of other) (entries_of l)) (sym is)
    (IsPermutation-trans _ _ _ (subst (λ l. IsPermutation (entries_of one ++ entries_of other) l) whole a.same)
    (IsPermutation-map (λ (t : Tail). t.entry) taken (reverse taken) (IsPermutation-reverse taken)))

pub turned_rises : (taken turned : List Tail) → Rises [] taken → turned ≡ reverse taken → Rises [] (reverse turned)
turned_rises taken turned r is = subst (λ l. Rises [] l) (sym (ap reverse is ∙ reverse-reverse taken)) r

-- ---- runs

pub all_more : (rs : List (List Tail)) (r : List Tail) → all_entries (rs ++ r ∷ []) ≡ all_entries rs ++ entries_of r
all_more [] r = append-nil (entries_of r)
all_more (q ∷ rs) r = ap (λ l. entries_of q ++ l) (all_more rs r) ∙ sym (append_assoc (entries_of q) (all_entries rs) (entries_of r))

-- the last run may as well stand in front
all_turned : (rs : List (List Tail)) (r : List Tail) → IsPermutation (all_entries (rs ++ r ∷ [])) (entries_of r ++ all_entries rs)
all_turned rs r =
    subst (λ l. IsPermutation l (entries_of r ++ all_entries rs)) (sym (all_more rs r)) (IsPermutation-append_comm (all_entries rs) (entries_of r))

-- Two runs became one, the second of them the last of the others.
pub joined_two : (run other both : List Tail) (old rest : List (List Tail)) → old ≡ rest ++ other ∷ []
    → IsPermutation (entries_of run ++ entries_of other) (entries_of both)
    → IsPermutation (entries_of run ++ all_entries old) (entries_of both ++ all_entries rest)
joined_two run other both old rest is merged =
    subst (λ rs. IsPermutation (entries_of run ++ all_entries rs) (entries_of both ++ all_entries rest)) (sym is)
    (IsPermutation-trans _ _ _
    (IsPermutation-append (entries_of run) (entries_of run) _ _ (IsPermutation-refl (entries_of run)) (all_turned rest other))
    (subst (λ l. IsPermutation l (entries_of both ++ all_entries rest)) (append_assoc (entries_of run) (entries_of other) (all_entries rest))
    (IsPermutation-append _ _ (all_entries rest) (all_entries rest) merged (IsPermutation-refl (all_entries rest)))))

-- One turn: the last of the runs was taken, with the next one or alone, and put behind those that are done.
pub one_joined : (all old rest new done more : List (List Tail)) (run both : List Tail) → old ≡ rest ++ run ∷ [] → more ≡ done ++ both ∷ []
    → IsPermutation (all_entries all) (all_entries done ++ all_entries old)
    → IsPermutation (entries_of run ++ all_entries rest) (entries_of both ++ all_entries new)
    → IsPermutation (all_entries all) (all_entries more ++ all_entries new)
one_joined all old rest new done more run both is more_is so_far step =
    let moved : IsPermutation (all_entries done ++ all_entries (rest ++ run ∷ [])) (all_entries done ++ (entries_of both ++ all_entries new)) =
    IsPermutation-append (all_entries done) (all_entries done) _ _ (IsPermutation-refl (all_entries done))
    (IsPermutation-trans _ _ _ (all_turned rest run) step) in
    let put : all_entries done ++ (entries_of both ++ all_entries new) ≡ all_entries more ++ all_entries new =
    sym (append_assoc (all_entries done) (entries_of both) (all_entries new))
    ∙ ap (λ l. l ++ all_entries new) (sym (all_more done both) ∙ ap all_entries (sym more_is)) in
    subst (λ l. IsPermutation (all_entries all) l) put
    (IsPermutation-trans _ _ _ (subst (λ rs. IsPermutation (all_entries all) (all_entries done ++ all_entries rs)) is so_far) moved)
