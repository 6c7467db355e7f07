-- Subterms one by one, and items of bodies.
use Rattle.std.proofs.Common.{ℕ, zero, suc, ◌+◌, ◌≡◌, ◌<◌, ◌≤◌, pos, List, [], ◌∷◌, ◌++◌, length, map, get_or, drop, refl, sym, ap, ◌∙◌, arith, subst}
use Rattle.std.specs.List.{flat_map}
use Rattle.std.proofs.lemmas.List.{drop_more, drop_all, reverse-append, append-nil}
use Rattle.std.proofs.lemmas.List.Concat.{flat_map-append}
use Rattle.and_model.specs.Terms.{Term, Terms, variable, number, compound, none, more, width}
use Rattle.and_model.specs.declared.numbers.NodeNo.{NodeNo}
use Rattle.and_program.specs.Skeletons.{Shape, node_term, item_of, IsThere, AllThere, after}
use Rattle.and_program.specs.Shown.{argument_of, count_of, shown_term, term_at}
use Rattle.and_program.specs.Items.{node_item}
use Rattle.and_program.specs.declared.item.ItemNode.{ItemNode}
use Rattle.and_lint.specs.Subterms.{subterms, subterms_in}
use Rattle.and_lint.specs.Kept.{AreThere, ahead, arguments_of, term_list, terms_on}

pub terms_on-push : (ss : List Shape) (ns : List NodeNo) (n : NodeNo) → terms_on ss (ns ++ n ∷ []) ≡ node_term ss n.0 ∷ terms_on ss ns
terms_on-push ss ns n = ap (λ (ms : List NodeNo). map (λ (m : NodeNo). node_term ss m.0) ms) (reverse-append ns (n ∷ []))

pub there_pushed : (m : ℕ) (ns : List NodeNo) (n : NodeNo) → AreThere m ns → n.0 < m → AreThere m (ns ++ n ∷ [])
there_pushed m [] n a lt = (lt, tt)
there_pushed m (k ∷ ns) n a lt = (a.0, there_pushed m ns n a.1 lt)

pub there_popped : (m : ℕ) (ns : List NodeNo) (n : NodeNo) → AreThere m (ns ++ n ∷ []) → AreThere m ns × (n.0 < m)
there_popped m [] n a = (tt, a.0)
there_popped m (k ∷ ns) n a = let rest = there_popped m ns n a.1 in ((a.0, rest.0), rest.1)

pub there_alone : (m : ℕ) (stack : List NodeNo) (n : NodeNo) → stack ≡ n ∷ [] → n.0 < m → AreThere m stack
there_alone m stack n e lt = subst (λ (ns : List NodeNo). AreThere m ns) (sym e) (lt, tt)

subterms_in_list : (ts : Terms) → subterms_in ts ≡ flat_map subterms (term_list ts)
subterms_in_list none = refl
subterms_in_list (more t ts) = ap (λ (us : List Term). subterms t ++ us) (subterms_in_list ts)

subterms_split : (t : Term) → subterms t ≡ t ∷ flat_map subterms (arguments_of t)
subterms_split (variable q k) = refl
subterms_split (number z) = refl
subterms_split (compound c ts) = ap (λ (us : List Term). compound c ts ∷ us) (subterms_in_list ts)

pub length-term_list : (ts : Terms) → length (term_list ts) ≡ width ts
length-term_list none = refl
length-term_list (more t ts) = ap (λ (n : ℕ). suc n) (length-term_list ts)

pub count_shown : (t : Term) → count_of (shown_term t) ≡ length (arguments_of t)
count_shown (variable q k) = refl
count_shown (number z) = refl
count_shown (compound c ts) = sym (length-term_list ts)

term_in_list : (ts : Terms) (i : ℕ) → term_at ts i ≡ get_or (term_list ts) i (number (pos 0))
term_in_list none i = refl
term_in_list (more t ts) zero = refl
term_in_list (more t ts) (suc i) = term_in_list ts i

pub argument_there : (t : Term) (i : ℕ) → argument_of t i ≡ get_or (arguments_of t) i (number (pos 0))
argument_there (variable q k) i = refl
argument_there (number z) i = refl
argument_there (compound c ts) i = term_in_list ts i

-- one more argument was put on the stack
pub one_more_pushed : (ss : List Shape) (first old new : List NodeNo) (t : Term) (i : ℕ) (n : NodeNo) → i < length (arguments_of t)
    → node_term ss n.0 ≡ argument_of t i → terms_on ss old ≡ drop (i + 1) (arguments_of t) ++ terms_on ss first → new ≡ old ++ n ∷ []
    → terms_on ss new ≡ drop i (arguments_of t) ++ terms_on ss first
one_more_pushed ss first old new t i n lt is before e =
    ap (λ (ns : List NodeNo). terms_on ss ns) e
    ∙ terms_on-push ss old n
    ∙ ap (λ (ts : List Term). node_term ss n.0 ∷ ts) before
    ∙ ap (λ (u : Term). u ∷ (drop (i + 1) (arguments_of t) ++ terms_on ss first)) (is ∙ argument_there t i)
    ∙ ap (λ (ts : List Term). ts ++ terms_on ss first) (sym (drop_more (arguments_of t) i (number (pos 0)) lt))

-- before any argument was put on the stack
pub none_pushed : (ss : List Shape) (first : List NodeNo) (t : Term) (i : ℕ) → length (arguments_of t) ≤ i
    → terms_on ss first ≡ drop i (arguments_of t) ++ terms_on ss first
none_pushed ss first t i le = ap (λ (ts : List Term). ts ++ terms_on ss first) (sym (drop_all i (arguments_of t) le))

-- a node came off, and its arguments went on
pub goes_on : (ss : List Shape) (old popped new : List NodeNo) (n : NodeNo) → old ≡ popped ++ n ∷ []
    → terms_on ss new ≡ arguments_of (node_term ss n.0) ++ terms_on ss popped → ahead ss old ≡ node_term ss n.0 ∷ ahead ss new
goes_on ss old popped new n e is =
    let t : Term = node_term ss n.0 in
    ap (λ (ns : List NodeNo). ahead ss ns) e
    ∙ ap (λ (ts : List Term). flat_map subterms ts) (terms_on-push ss popped n)
    ∙ ap (λ (ts : List Term). ts ++ ahead ss popped) (subterms_split t)
    ∙ ap (λ (ts : List Term). t ∷ ts)
    (sym (flat_map-append subterms (arguments_of t) (terms_on ss popped)) ∙ ap (λ (ts : List Term). flat_map subterms ts) (sym is))

pub ahead_alone : (ss : List Shape) (stack : List NodeNo) (n : NodeNo) → stack ≡ n ∷ [] → ahead ss stack ≡ subterms (node_term ss n.0)
ahead_alone ss stack n e = ap (λ (ns : List NodeNo). ahead ss ns) e ∙ append-nil (subterms (node_term ss n.0))

pub fewer_ahead : (all rest : List Term) (t : Term) → all ≡ t ∷ rest → length rest < length all
fewer_ahead all rest t e = let long : length all ≡ suc (length rest) = ap (λ (ts : List Term). length ts) e in omega arith

pub items_drop : (ss : List Shape) (items : List ItemNode) (i : ℕ) (d : ItemNode) → i < length items
    → map (item_of ss) (map node_item (drop i items)) ≡ item_of ss (node_item (get_or items i d)) ∷ map (item_of ss) (map node_item (drop (i + 1) items))
items_drop ss items i d lt = ap (λ (xs : List ItemNode). map (item_of ss) (map node_item xs)) (drop_more items i d lt)

pub items_end : (ss : List Shape) (items : List ItemNode) (i : ℕ) → length items ≤ i → map (item_of ss) (map node_item (drop i items)) ≡ []
items_end ss items i le = ap (λ (xs : List ItemNode). map (item_of ss) (map node_item xs)) (drop_all i items le)

-- each item of a body is there
pub item_there : (ss : List Shape) (k : ℕ) (items : List ItemNode) (i : ℕ) (d : ItemNode) → AllThere ss k (map node_item items) → i < length items
    → (j : ℕ) × IsThere ss j (node_item (get_or items i d))
item_there ss k [] i d there lt = absurd (omega arith)
item_there ss k (item ∷ items) zero d there lt = (k, there.0)
item_there ss k (item ∷ items) (suc i) d there lt = item_there ss (after k (node_item item)) items i d there.1 (omega arith)
