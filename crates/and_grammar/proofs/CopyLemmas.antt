-- Terms at the end of a draft, and copies of terms.
use Rattle.std.proofs.Common.{ℕ, zero, suc, ◌+◌, ◌-◌, ◌<◌, ◌≤◌, ◌≡◌, Bool, true, false, cond, List, [], ◌∷◌, ◌++◌, length, map, take, drop, get_or}
use Rattle.std.proofs.Common.{reverse, Option, Some, None, codes, refl, sym, ap, ◌∙◌, arith, subst, Result, Ok, Err, OnOk}
use Rattle.std.proofs.lemmas.List.{append_assoc, append-nil, length-append, length-map, reverse-append, take-append-drop, length-take-le, length-drop}
use Rattle.std.proofs.lemmas.List.{drop_more, map_push, take_more}
use Rattle.std.proofs.Math.Seq.{take-append_seam, drop-append_seam, take-length}
use Rattle.std.specs.Option.{option_map}
use Rattle.and_model.specs.Lines.{Bytes}
use Rattle.and_syntax.specs.Written.{Written, Many, compound, none, more, nodes_of, nodes_in}
use Rattle.and_syntax.specs.Written as written
use Rattle.and_program.specs.Skeletons.{Falls}
use Rattle.and_translation.specs.Bodies.{elements}
use Rattle.and_translation.specs.Translation.{list_before, with_states, joined}
use Rattle.and_drafts.specs.Parts.{many}
use Rattle.and_drafts.specs.Drafts.{Draft, draft_of}
use Rattle.and_drafts.specs.declared.draft.ClauseDraft.{ClauseDraft}
use Rattle.and_grammar.specs.declared.copying.Copy.{Copy}
use Rattle.and_grammar.specs.declared.copying.Copy.TheVariants.{Term, Name}
use Rattle.and_grammar.specs.Views.{term_at, arguments_at, Becomes, Adds, is_nil}
use Rattle.and_grammar.specs.Copies.{name_at, taken, copied, AreEnough, AreWithin, chain, are_terms, work, Copies}

-- a draft that is told whole has its line and its terms
pub becomes : (old new : ClauseDraft) (ws : List Written) (n : ℕ) → draft_of new ≡ record { line = (draft_of old).line; finished = ws; parts = n }
    → Becomes old new ws
becomes old new ws n e = record { line = ap (λ (d : Draft). d.line) e; finished = ap (λ (d : Draft). d.finished) e }

pub adds_more : (a b c : ClauseDraft) (ws us : List Written) → Adds a b ws → Adds b c us → Adds a c (ws ++ us)
adds_more a b c ws us f g = record {
  line = g.line ∙ f.line;
  finished = g.finished ∙ ap (λ (vs : List Written). vs ++ us) f.finished ∙ append_assoc (draft_of a).finished ws us;
}

-- the last k of some terms are the arguments of a name
pub taken-is : (c : Bytes) (k : ℕ) (ws us : List Written) → length us ≡ k → taken c k (ws ++ us) ≡ ws ++ compound c (many us) ∷ []
taken-is c k ws us few =
    let at : length (ws ++ us) - k ≡ length ws = omega (arith, length-append ws us) in
    ap (λ (n : ℕ). take n (ws ++ us) ++ compound c (many (drop n (ws ++ us))) ∷ []) at
    ∙ ap (λ (vs : List Written). vs ++ compound c (many (drop (length ws) (ws ++ us))) ∷ []) (take-append_seam ws us)
    ∙ ap (λ (vs : List Written). ws ++ compound c (many vs) ∷ []) (drop-append_seam ws us)

pub compound_becomes : (old new : ClauseDraft) (c : Bytes) (k n : ℕ) (ws us : List Written)
    → draft_of new ≡ record { line = (draft_of old).line; finished = taken c k (draft_of old).finished; parts = n }
    → (draft_of old).finished ≡ ws ++ us → length us ≡ k → Becomes old new (ws ++ compound c (many us) ∷ [])
compound_becomes old new c k n ws us e split few = record {
  line = ap (λ (d : Draft). d.line) e;
  finished = ap (λ (d : Draft). d.finished) e ∙ ap (taken c k) split ∙ taken-is c k ws us few;
}

-- Some terms, the last k behind others and before one more.
pub record Back (ws : List Written) (k : ℕ) : Type 0 where
  pub front : List Written
  pub middle : List Written
  pub last : Written
  pub split : ws ≡ front ++ (middle ++ last ∷ [])
  pub few : length middle ≡ k

record Snoc (ws : List Written) (k : ℕ) : Type 0 where
  front : List Written
  last : Written
  split : ws ≡ front ++ last ∷ []
  few : length front ≡ k

snoc : (ws : List Written) (k : ℕ) → length ws ≡ suc k → Snoc ws k
snoc [] k e = absurd (omega arith)
snoc (w ∷ []) k e = record { front = []; last = w; split = refl; few = omega arith }
snoc (w ∷ u ∷ ws) zero e = absurd (omega arith)
snoc (w ∷ u ∷ ws) (suc k) e =
    let s : Snoc (u ∷ ws) k = snoc (u ∷ ws) k (omega arith) in
    record { front = w ∷ s.front; last = s.last; split = ap (λ (vs : List Written). w ∷ vs) s.split; few = ap suc s.few }

pub back : (ws : List Written) (k : ℕ) → k < length ws → Back ws k
back ws k lt =
    let n : ℕ = length ws - suc k in
    let s : Snoc (drop n ws) k = snoc (drop n ws) k (omega (arith, length-drop n ws)) in
    record {
      front = take n ws;
      middle = s.front;
      last = s.last;
      split = sym (take-append-drop n ws) ∙ ap (λ (vs : List Written). take n ws ++ vs) s.split;
      few = s.few;
    }

pub chained_list : (ts : List Written) (s : Written) → chain (codes ".") ts s ≡ list_before ts s
chained_list [] s = refl
chained_list (t ∷ ts) s = ap (λ (w : Written). compound (codes ".") (more t (more w none))) (chained_list ts s)

pub chained_goals : (gs : List Written) (last : Written) → chain (codes ",") gs last ≡ joined (gs ++ last ∷ [])
chained_goals [] last = refl
chained_goals (g ∷ []) last = refl
chained_goals (g ∷ h ∷ gs) last = ap (λ (w : Written). compound (codes ",") (more g (more w none))) (chained_goals (h ∷ gs) last)

-- two states behind arguments
pub stated : (us : List Written) (s t : Written) → many (us ++ s ∷ t ∷ []) ≡ with_states (many us) s t
stated [] s t = refl
stated (u ∷ us) s t = ap (λ (ts : Many). more u ts) (stated us s t)

-- arguments as a list
abbrev pub listed : Many → List Written
listed none = []
listed (more t ts) = t ∷ listed ts

pub many_listed : (ts : Many) → many (listed ts) ≡ ts
many_listed none = refl
many_listed (more t ts) = ap (λ (us : Many). more t us) (many_listed ts)

pub listed_many : (us : List Written) → listed (many us) ≡ us
listed_many [] = refl
listed_many (u ∷ us) = ap (λ (vs : List Written). u ∷ vs) (listed_many us)

-- One step of a chain, from the back: with n terms before the last, of which one is taken.
pub chain_step : (c : Bytes) (ws us : List Written) (last : Written) (n : ℕ) (d : Written) → suc n ≤ length us
    → take (suc n) us ≡ take n us ++ get_or us n d ∷ [] → drop n us ≡ get_or us n d ∷ drop (suc n) us
    → ws ++ (take (suc n) us ++ chain c (drop (suc n) us) last ∷ []) ≡ (ws ++ take n us) ++ (get_or us n d ∷ chain c (drop (suc n) us) last ∷ [])
chain_step c ws us last n d le front rest =
    let u : Written = get_or us n d in
    let w : Written = chain c (drop (suc n) us) last in
    ap (λ (vs : List Written). ws ++ (vs ++ w ∷ [])) front ∙ ap (λ (vs : List Written). ws ++ vs) (append_assoc (take n us) (u ∷ []) (w ∷ []))
    ∙ sym (append_assoc ws (take n us) (u ∷ w ∷ []))

nodes_some : (w : Written) → 1 ≤ nodes_of w
nodes_some (written.variable x) = omega arith
nodes_some (written.integer z) = omega arith
nodes_some (compound c ts) = omega arith

module _ (d : ClauseDraft) where
  copied-terms : (ns : List ℕ) (todo : List Copy) (ws : List Written) → copied d (are_terms ns ++ todo) ws ≡ copied d todo (ws ++ map (term_at d) ns)
  copied-terms [] todo ws = ap (copied d todo) (sym (append-nil ws))
  copied-terms (n ∷ ns) todo ws =
      copied-terms ns todo (ws ++ term_at d n ∷ []) ∙ ap (copied d todo) (append_assoc ws (term_at d n ∷ []) (map (term_at d) ns))

  enough-terms : (ns : List ℕ) (todo : List Copy) (k : ℕ) → AreEnough d todo (k + length ns) → AreEnough d (are_terms ns ++ todo) k
  enough-terms [] todo k h = let z : k + 0 ≡ k = omega arith in subst (AreEnough d todo) z h
  enough-terms (n ∷ ns) todo k h = let z : k + suc (length ns) ≡ suc k + length ns = omega arith in enough-terms ns todo (suc k) (subst (AreEnough d todo) z h)

  within-terms : (m : ℕ) (ns : List ℕ) (todo : List Copy) → m ≤ (draft_of d).parts → Falls m ns → AreWithin d todo → AreWithin d (are_terms ns ++ todo)
  within-terms m [] todo le f h = h
  within-terms m (n ∷ ns) todo le f h = (omega (arith, f.0), within-terms m ns todo le f.1 h)

  work-terms : (ns : List ℕ) (todo : List Copy) → work d (are_terms ns ++ todo)
      ≡ nodes_in (many (map (term_at d) ns)) + nodes_in (many (map (term_at d) ns)) + work d todo
  work-terms [] todo = omega arith
  work-terms (n ∷ ns) todo = omega (arith, work-terms ns todo)

  module _ (old new : ClauseDraft) (n : ℕ) (todo after : List Copy) (left : after ≡ todo) where
    -- a variable or an integer was copied
    pub leaf_copied : (w : Written) → term_at d n ≡ w → Adds old new (w ∷ []) → AreEnough d (Term n ∷ todo) (length (draft_of old).finished)
        → Copies d old new (Term n ∷ todo) after
    leaf_copied w is adds enough =
        let F : List Written = (draft_of old).finished in
        let size : suc (length F) ≡ length (draft_of new).finished = sym (ap length adds.finished ∙ length-append F (w ∷ []) ∙ omega arith) in
        subst (Copies d old new (Term n ∷ todo)) (sym left) (record {
          line = adds.line;
          same = ap (copied d todo) (adds.finished ∙ ap (λ (u : Written). F ++ u ∷ []) (sym is));
          enough = subst (AreEnough d todo) size enough;
          within = λ h. h.1;
          less = omega (arith, nodes_some (term_at d n));
        })

    -- a name has its arguments
    pub name_copied : (c : Bytes) (k : ℕ) → c ≡ name_at d n → k ≡ length (arguments_at d n) → Becomes old new (taken c k (draft_of old).finished)
        → AreEnough d (Name n ∷ todo) (length (draft_of old).finished) → Copies d old new (Name n ∷ todo) after
    name_copied c k named few b enough =
        let F : List Written = (draft_of old).finished in
        let k' : ℕ = length (arguments_at d n) in
        let here : (draft_of new).finished ≡ taken (name_at d n) k' F =
        b.finished ∙ ap (λ (x : Bytes). taken x k F) named ∙ ap (λ (m : ℕ). taken (name_at d n) m F) few in
        let size : suc (length F - k') ≡ length (draft_of new).finished =
        sym (ap length here ∙ length-append (take (length F - k') F) (compound (name_at d n) (many (drop (length F - k') F)) ∷ [])
        ∙ omega (arith, length-take-le (length F - k') F (omega arith))) in
        subst (Copies d old new (Name n ∷ todo)) (sym left) (record {
          line = b.line;
          same = ap (copied d todo) here;
          enough = subst (AreEnough d todo) size enough.1;
          within = λ h. h.1;
          less = omega arith;
        })

  -- the arguments of a name come next
  pub opened : (old : ClauseDraft) (n : ℕ) (todo after : List Copy) (c : Bytes) → c ≡ name_at d n
      → term_at d n ≡ compound c (many (map (term_at d) (arguments_at d n)))
      → n < (draft_of d).parts → Falls n (arguments_at d n)
      → after ≡ are_terms (arguments_at d n) ++ (Name n ∷ todo) → AreEnough d (Term n ∷ todo) (length (draft_of old).finished)
      → Copies d old old (Term n ∷ todo) after
  opened old n todo after c named is lt falls left enough =
      let F : List Written = (draft_of old).finished in
      let ns : List ℕ = arguments_at d n in
      let us : List Written = map (term_at d) ns in
      let k : ℕ = length ns in
      let few : length us ≡ k = length-map ns (term_at d) in
      let one : taken (name_at d n) k (F ++ us) ≡ F ++ term_at d n ∷ [] =
      taken-is (name_at d n) k F us few ∙ ap (λ (x : Bytes). F ++ compound x (many us) ∷ []) (sym named) ∙ ap (λ (w : Written). F ++ w ∷ []) (sym is) in
      let z : suc (length F) ≡ suc (length F + k - k) = omega arith in
      let size : nodes_of (term_at d n) ≡ suc (nodes_in (many us)) = ap nodes_of is in
      subst (Copies d old old (Term n ∷ todo)) (sym left) (record {
        line = refl;
        same = copied-terms ns (Name n ∷ todo) F ∙ ap (copied d todo) one;
        enough = enough-terms ns (Name n ∷ todo) (length F) (omega arith, subst (AreEnough d todo) z enough);
        within = λ h. within-terms n ns (Name n ∷ todo) (omega arith) falls (lt, h.1);
        less = omega (arith, work-terms ns (Name n ∷ todo));
      })

-- a list with one element less
pub record Cons (t : Written) (rest : Option (List Written)) (ws : List Written) : Type 0 where
  pub others : List Written
  pub listed : rest ≡ Some others
  pub same : ws ≡ t ∷ others

pub cons : (t : Written) (rest : Option (List Written)) (ws : List Written) → option_map (λ (ts : List Written). t ∷ ts) rest ≡ Some ws → Cons t rest ws
cons t None ws e = absurd (cc)
cons t (Some us) ws e = record { others = us; listed = refl; same = cc }

-- what ends a list has no elements
pub ended : (b : Bool) (ws : List Written) → cond b (Some []) None ≡ Some ws → ws ≡ []
ended true ws e = cc
ended false ws e = absurd (cc)

-- A list of which some elements were copied: the others are those of the rest.
pub record Left (d : ClauseDraft) (old new : ClauseDraft) (rest k : ℕ) (ws : List Written) : Type 0 where
  pub front : List Written
  pub others : List Written
  pub split : ws ≡ front ++ others
  pub few : length front ≡ k
  pub listed : elements (term_at d rest) ≡ Some others
  pub copied_front : Adds old new front

-- what follows where a call is handed on
pub on_ok : {T E : Type 0} (r : Result T E) (A B : Type 0) → (A → B) → OnOk r A → OnOk r B
on_ok (Ok x) A B f a = f a
on_ok (Err e) A B f a = tt

pub on_ok_two : {T E : Type 0} (r : Result T E) (A B C : Type 0) → (A → B → C) → OnOk r A → OnOk r B → OnOk r C
on_ok_two (Ok x) A B C f a b = f a b
on_ok_two (Err e) A B C f a b = tt

-- two terms and the name that takes them
pub two_taken : (a b c d : ClauseDraft) (x : Bytes) (t u : Written) → Adds a b (t ∷ []) → Adds b c (u ∷ [])
    → ((ws us : List Written) → (draft_of c).finished ≡ ws ++ us → length us ≡ 2 → Becomes c d (ws ++ compound x (many us) ∷ []))
    → Adds a d (compound x (more t (more u none)) ∷ [])
two_taken a b c d x t u f g h =
    let both : Adds a c (t ∷ u ∷ []) = adds_more a b c (t ∷ []) (u ∷ []) f g in
    let e : Becomes c d ((draft_of a).finished ++ compound x (more t (more u none)) ∷ []) = h (draft_of a).finished (t ∷ u ∷ []) both.finished refl in
    record { line = e.line ∙ both.line; finished = e.finished }

pub two_there : (a b c : ClauseDraft) (t u : Written) → Adds a b (t ∷ []) → Adds b c (u ∷ []) → 2 ≤ length (draft_of c).finished
two_there a b c t u f g =
    let both : Adds a c (t ∷ u ∷ []) = adds_more a b c (t ∷ []) (u ∷ []) f g in
    omega (arith, ap length both.finished, length-append (draft_of a).finished (t ∷ u ∷ []))

-- elements, a rest and the points that make a list of them
pub list_put : (a b c d : ClauseDraft) (items : List Written) (s : Written) (k : ℕ) → length items ≡ k → Adds a b items → Adds b c (s ∷ [])
    → ((ws us : List Written) (last : Written) → (draft_of c).finished ≡ ws ++ (us ++ last ∷ []) → length us ≡ k
    → Becomes c d (ws ++ chain (codes ".") us last ∷ []))
    → Adds a d (list_before items s ∷ [])
list_put a b c d items s k few f g h =
    let both : Adds a c (items ++ s ∷ []) = adds_more a b c items (s ∷ []) f g in
    let e : Becomes c d ((draft_of a).finished ++ chain (codes ".") items s ∷ []) = h (draft_of a).finished items s both.finished few in
    record { line = e.line ∙ both.line; finished = e.finished ∙ ap (λ (w : Written). (draft_of a).finished ++ w ∷ []) (chained_list items s) }

-- a chain before its first step
pub chain_first : (c : Bytes) (ws us : List Written) (last : Written) (k : ℕ) → length us ≡ k
    → ws ++ (us ++ last ∷ []) ≡ ws ++ (take k us ++ chain c (drop k us) last ∷ [])
chain_first c ws us last k few =
    let front : take k us ≡ us = ap (λ (n : ℕ). take n us) (sym few) ∙ take-length us in
    let none : drop k us ≡ [] = ap (λ (n : ℕ). drop n us) (sym few) ∙ drop_all us in
    ap (λ (vs : List Written). ws ++ (vs ++ last ∷ [])) (sym front) ∙ ap (λ (vs : List Written). ws ++ (take k us ++ chain c vs last ∷ [])) (sym none)
  where
    drop_all : (vs : List Written) → drop (length vs) vs ≡ []
    drop_all [] = refl
    drop_all (v ∷ vs) = drop_all vs

pub chain_two : (F ws us : List Written) (w : Written) (n : ℕ) → F ≡ ws ++ (take n us ++ w ∷ []) → 1 ≤ n → n ≤ length us → 2 ≤ length F
chain_two F ws us w n e some le =
    omega (arith, ap length e, length-append ws (take n us ++ w ∷ []), length-append (take n us) (w ∷ []), length-take-le n us le)

-- One of some terms, with those before and behind it.
record At (us : List Written) (n : ℕ) : Type 0 where
  item : Written
  front : take (suc n) us ≡ take n us ++ item ∷ []
  rest : drop n us ≡ item ∷ drop (suc n) us

at : (us : List Written) (n : ℕ) → n < length us → At us n
at [] n lt = absurd (omega arith)
at (u ∷ us) zero lt = record { item = u; front = refl; rest = refl }
at (u ∷ us) (suc n) lt =
    let a : At us n = at us n (omega arith) in
    record { item = a.item; front = ap (λ (vs : List Written). u ∷ vs) a.front; rest = a.rest }

-- a chain after one more step
pub chain_next : (old new : ClauseDraft) (c : Bytes) (ws us : List Written) (last : Written) (left n : ℕ) → left ≡ suc n → left ≤ length us
    → (draft_of old).finished ≡ ws ++ (take left us ++ chain c (drop left us) last ∷ [])
    → ((vs ts : List Written) → (draft_of old).finished ≡ vs ++ ts → length ts ≡ 2 → Becomes old new (vs ++ compound c (many ts) ∷ []))
    → Becomes old new (ws ++ (take n us ++ chain c (drop n us) last ∷ []))
chain_next old new c ws us last left n less le e step =
    let a : At us n = at us n (omega arith) in
    let w : Written = chain c (drop (suc n) us) last in
    let here : (draft_of old).finished ≡ (ws ++ take n us) ++ (a.item ∷ w ∷ []) =
    e ∙ ap (λ (k : ℕ). ws ++ (take k us ++ chain c (drop k us) last ∷ [])) less ∙ ap (λ (vs : List Written). ws ++ (vs ++ w ∷ [])) a.front
    ∙ ap (λ (vs : List Written). ws ++ vs) (append_assoc (take n us) (a.item ∷ []) (w ∷ [])) ∙ sym (append_assoc ws (take n us) (a.item ∷ w ∷ [])) in
    let b : Becomes old new ((ws ++ take n us) ++ compound c (more a.item (more w none)) ∷ []) = step (ws ++ take n us) (a.item ∷ w ∷ []) here refl in
    record {
      line = b.line;
      finished = b.finished ∙ append_assoc ws (take n us) (compound c (more a.item (more w none)) ∷ [])
          ∙ ap (λ (vs : List Written). ws ++ (take n us ++ chain c vs last ∷ [])) (sym a.rest);
    }

pub chain_last : (F ws us : List Written) (c : Bytes) (last : Written) (left : ℕ) → left ≡ 0 → F ≡ ws ++ (take left us ++ chain c (drop left us) last ∷ [])
    → F ≡ ws ++ chain c us last ∷ []
chain_last F ws us c last left zero_left e = e ∙ ap (λ (k : ℕ). ws ++ (take k us ++ chain c (drop k us) last ∷ [])) zero_left

-- a copy that begins
pub copy_begun : (d : ClauseDraft) (ws : List Written) (place : ℕ) (start todo : List Copy) → start ≡ [] → todo ≡ start ++ Term place ∷ []
    → reverse todo ≡ Term place ∷ []
copy_begun d ws place start todo e f = ap reverse (f ∙ ap (λ (cs : List Copy). cs ++ Term place ∷ []) e)

pub last_first : (before rest : List Copy) (c : Copy) → before ≡ rest ++ c ∷ [] → reverse before ≡ c ∷ reverse rest
last_first before rest c e = ap reverse e ∙ reverse-append rest (c ∷ [])

-- the rest of a list after one element more was copied
pub left_more : (d : ClauseDraft) (first old new : ClauseDraft) (rest next k m : ℕ) (t : Written) (ws : List Written)
    → elements (term_at d rest) ≡ option_map (λ (ts : List Written). t ∷ ts) (elements (term_at d next)) → m ≡ k + 1 → Adds old new (t ∷ [])
    → Left d first old rest k ws → Left d first new next m ws
left_more d first old new rest next k m t ws is counted adds l =
    let c : Cons t (elements (term_at d next)) l.others = cons t (elements (term_at d next)) l.others (sym is ∙ l.listed) in
    record {
      front = l.front ++ t ∷ [];
      others = c.others;
      split = l.split ∙ ap (λ (us : List Written). l.front ++ us) c.same ∙ sym (append_assoc l.front (t ∷ []) c.others);
      few = length-append l.front (t ∷ []) ∙ omega (arith, l.few);
      listed = c.listed;
      copied_front = adds_more first old new l.front (t ∷ []) l.copied_front adds;
    }

pub left_first : (d out : ClauseDraft) (list : ℕ) (ws : List Written) → elements (term_at d list) ≡ Some ws → Left d out out list 0 ws
left_first d out list ws e = record {
  front = [];
  others = ws;
  split = refl;
  few = refl;
  listed = e;
  copied_front = record { line = refl; finished = sym (append-nil (draft_of out).finished) };
}

pub left_none : (d first new : ClauseDraft) (rest k : ℕ) (ws : List Written)
    → elements (term_at d rest) ≡ cond {A = Option (List Written)} (is_nil (term_at d rest)) (Some []) None
    → Left d first new rest k ws → (length ws ≡ k) × Adds first new ws
left_none d first new rest k ws e l =
    let none : l.others ≡ [] = ended (is_nil (term_at d rest)) l.others (sym e ∙ l.listed) in
    let all : ws ≡ l.front = l.split ∙ ap (λ (us : List Written). l.front ++ us) none ∙ append-nil l.front in
    (ap length all ∙ l.few, subst (Adds first new) (sym all) l.copied_front)

pub no_more : {X : Type 0} (xs : List X) → length xs ≡ 0 → xs ≡ []
no_more [] e = refl
no_more (x ∷ xs) e = absurd (omega arith)

pub terms_first : (ns : List ℕ) (todo : List Copy) (k : ℕ) → k ≡ length ns → todo ≡ are_terms (drop k ns) ++ todo
terms_first ns todo k e = sym (ap (λ (ms : List ℕ). are_terms ms ++ todo) (ap (λ (m : ℕ). drop m ns) e ∙ drop_all ns))
  where
    drop_all : (ms : List ℕ) → drop (length ms) ms ≡ []
    drop_all [] = refl
    drop_all (m ∷ ms) = drop_all ms

pub terms_next : (ns : List ℕ) (todo before after : List Copy) (n m : ℕ) → n ≡ m + 1 → n ≤ length ns → after ≡ before ++ Term (get_or ns m 0) ∷ []
    → reverse before ≡ are_terms (drop n ns) ++ todo → reverse after ≡ are_terms (drop m ns) ++ todo
terms_next ns todo before after n m less le e same =
    let opened : drop m ns ≡ get_or ns m 0 ∷ drop (m + 1) ns = drop_more ns m 0 (omega arith) in
    last_first after before (Term (get_or ns m 0)) e ∙ ap (λ (cs : List Copy). Term (get_or ns m 0) ∷ cs) same
    ∙ ap (λ (k : ℕ). Term (get_or ns m 0) ∷ (are_terms (drop k ns) ++ todo)) less ∙ sym (ap (λ (ks : List ℕ). are_terms ks ++ todo) opened)

pub terms_last : (ns : List ℕ) (todo before : List Copy) (n : ℕ) → n ≡ 0 → reverse before ≡ are_terms (drop n ns) ++ todo
    → reverse before ≡ are_terms ns ++ todo
terms_last ns todo before n zero_left e = e ∙ ap (λ (k : ℕ). are_terms (drop k ns) ++ todo) zero_left

-- one argument more was copied
pub argument_copied : (f : ℕ → Written) (ns ms : List ℕ) (ws : List Written) (i : ℕ) → ms ≡ ns → i < length ms
    → (ws ++ map f (take i ns)) ++ f (get_or ms i 0) ∷ [] ≡ ws ++ map f (take (i + 1) ns)
argument_copied f ns ms ws i e lt =
    let below : i < length ns = omega (arith, ap length e) in
    let one : f (get_or ms i 0) ≡ f (get_or ns i 0) = ap (λ (ks : List ℕ). f (get_or ks i 0)) e in
    append_assoc ws (map f (take i ns)) (f (get_or ms i 0) ∷ []) ∙ ap (λ (w : Written). ws ++ (map f (take i ns) ++ w ∷ [])) one
    ∙ ap (λ (vs : List Written). ws ++ vs) (sym (map_push f (take i ns) (get_or ns i 0))) ∙ ap (λ (ks : List ℕ). ws ++ map f ks) (sym (take_more ns i 0 below))

take_past : (ns : List ℕ) (i : ℕ) → length ns ≤ i → take i ns ≡ ns
take_past [] zero le = refl
take_past [] (suc i) le = refl
take_past (n ∷ ns) zero le = absurd (omega arith)
take_past (n ∷ ns) (suc i) le = ap (λ (ks : List ℕ). n ∷ ks) (take_past ns i (omega arith))

pub all_copied : (f : ℕ → Written) (ns ms : List ℕ) (ws : List Written) (i : ℕ) → ms ≡ ns → length ms ≤ i → ws ++ map f (take i ns) ≡ ws ++ map f ns
all_copied f ns ms ws i e le = ap (λ (ks : List ℕ). ws ++ map f ks) (take_past ns i (omega (arith, ap length e)))

pub split_there : (ws : List Written) (k : ℕ) → k ≤ length ws
    → (ws ≡ take (length ws - k) ws ++ drop (length ws - k) ws) × (length (drop (length ws - k) ws) ≡ k)
split_there ws k le = (sym (take-append-drop (length ws - k) ws), length-drop (length ws - k) ws ∙ omega arith)

-- a list that is put, where the points may fail
pub list_put_or : {T E : Type 0} (r : Result T E) (a b c d : ClauseDraft) (items : List Written) (s : Written) (k : ℕ) → length items ≡ k
    → Adds a b items → Adds b c (s ∷ [])
    → ((ws us : List Written) (last : Written) → (draft_of c).finished ≡ ws ++ (us ++ last ∷ []) → length us ≡ k
    → OnOk r (Becomes c d (ws ++ chain (codes ".") us last ∷ [])))
    → OnOk r (Adds a d (list_before items s ∷ []))
list_put_or (Ok x) a b c d items s k few f g h = list_put a b c d items s k few f g h
list_put_or (Err e) a b c d items s k few f g h = tt

-- the last terms as one goal
pub whole_joined : {T E : Type 0} (r : Result T E) (old new : ClauseDraft) (before items : List Written) (k : ℕ)
    → (draft_of old).finished ≡ before ++ items → length items ≡ suc k
    → ((ws us : List Written) (last : Written) → (draft_of old).finished ≡ ws ++ (us ++ last ∷ []) → length us ≡ k
    → OnOk r (Becomes old new (ws ++ chain (codes ",") us last ∷ [])))
    → OnOk r (Becomes old new (before ++ joined items ∷ []))
whole_joined r old new before items k e few h =
    let s : Snoc items k = snoc items k few in
    subst (λ (w : Written). OnOk r (Becomes old new (before ++ w ∷ []))) (chained_goals s.front s.last ∙ ap joined (sym s.split))
    (h before s.front s.last (e ∙ ap (λ (ws : List Written). before ++ ws) s.split) s.few)

pub same_count : (x y : Bytes) (us vs : List Written) → compound x (many us) ≡ compound y (many vs) → (x ≡ y) × (length us ≡ length vs)
same_count x y us vs e =
    let names : x ≡ y = cc in
    let parts : many us ≡ many vs = cc in
    (names, ap length (sym (listed_many us) ∙ ap listed parts ∙ listed_many vs))

-- some terms and two more are there
pub three_there : (a b c d : ClauseDraft) (us : List Written) (s t : Written) (k : ℕ) → length us ≡ k → Adds a b us → Adds b c (s ∷ []) → Adds c d (t ∷ [])
    → k + 2 ≤ length (draft_of d).finished
three_there a b c d us s t k few f g h =
    let all : Adds a d ((us ++ s ∷ []) ++ t ∷ []) = adds_more a c d (us ++ s ∷ []) (t ∷ []) (adds_more a b c us (s ∷ []) f g) h in
    omega (
      arith,
      ap length all.finished,
      length-append (draft_of a).finished ((us ++ s ∷ []) ++ t ∷ []),
      length-append (us ++ s ∷ []) (t ∷ []),
      length-append us (s ∷ []),
    )

-- a name with its arguments between two more
pub wider_put : {T E : Type 0} (r : Result T E) (a b c d e : ClauseDraft) (name : Bytes) (ts : Many) (us : List Written) (s t : Written) → many us ≡ ts
    → Adds a b us → Adds b c (s ∷ []) → Adds c d (t ∷ [])
    → ((ws vs : List Written) → (draft_of d).finished ≡ ws ++ vs → length vs ≡ length us + 2 → OnOk r (Becomes d e (ws ++ compound name (many vs) ∷ [])))
    → OnOk r (Adds a e (compound name (with_states ts s t) ∷ []))
wider_put (Ok x) a b c d e name ts us s t same f g h put =
    let all : Adds a d ((us ++ s ∷ []) ++ t ∷ []) = adds_more a c d (us ++ s ∷ []) (t ∷ []) (adds_more a b c us (s ∷ []) f g) h in
    let vs : List Written = us ++ s ∷ t ∷ [] in
    let here : (draft_of d).finished ≡ (draft_of a).finished ++ vs =
    all.finished ∙ ap (λ (ws : List Written). (draft_of a).finished ++ ws) (append_assoc us (s ∷ []) (t ∷ [])) in
    let made = put (draft_of a).finished vs here (length-append us (s ∷ t ∷ [])) in
    record {
      line = made.line ∙ all.line;
      finished = made.finished
          ∙ ap (λ (ms : Many). (draft_of a).finished ++ compound name ms ∷ []) (stated us s t ∙ ap (λ (ms : Many). with_states ms s t) same);
    }
wider_put (Err x) a b c d e name ts us s t same f g h put = tt

-- a name without arguments is an atom
pub atom_read : (d : ClauseDraft) (n : ℕ) (c : Bytes) (ns : List ℕ) (k : ℕ) → term_at d n ≡ compound c (many (map (term_at d) ns)) → length ns ≡ k → k ≡ 0
    → term_at d n ≡ compound c none
atom_read d n c [] k is few none_are = is
atom_read d n c (m ∷ ns) k is few none_are = absurd (omega arith)
