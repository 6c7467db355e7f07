-- What is known of a clause's variables, by the nodes of its terms.
use Rattle.std.proofs.Common.{ℕ, ℤ, zero, suc, ◌+◌, ◌≡◌, ◌<◌, ◌≤◌, List, [], ◌∷◌, ◌++◌, length, map, get_or, drop, replicate, refl, sym, ap, ◌∙◌, arith}
use Rattle.std.proofs.Common.{append_assoc, Bool, cond}
use Rattle.std.proofs.lemmas.List.{drop_more, drop_all, append-nil}
use Rattle.and_model.specs.Terms
use Rattle.and_model.specs.Terms.{Path, Term, Terms, variables_of, width}
use Rattle.and_model.specs.Programs.{Item}
use Rattle.and_model.specs.declared.numbers.NameNo.{NameNo}
use Rattle.and_program.specs.Skeletons.{Shape, node_term, AllFall, item_of}
use Rattle.and_program.specs.Items.{node_item}
use Rattle.and_program.specs.declared.item.ItemNode.{ItemNode}
use Rattle.and_program.specs.Shown.{shown, shown_term, argument_of, term_at}
use Rattle.and_program.specs.declared.node.NodeKind.TheVariants.{Variable, Number, Compound}
use Rattle.and_modes.specs.Modes.{Environment, Assignment, level_in, level_within, raised, all_raised, arguments_of, count_of, after_item, after_items}
use Rattle.and_modes.specs.Asked.{asked_by, asked_by_item, asked_along}
use Rattle.and_modes.specs.Known.{environment, raised_at, all_raised_at, are_ground_at}
use Rattle.and_modes.specs.Walked.{unframed}
use Rattle.and_modes.specs.declared.demands.Demand.{Demand}
use Rattle.and_modes.specs.declared.level.Level.{Level}
use Rattle.and_modes.specs.declared.level.Level.TheVariants.{Any, Ground, Integer}
use Rattle.and_modes.specs.declared.level.Side.{Side}
use Rattle.and_modes.proofs.Raising.{ground_by_variables, raised_by_variables, within_variable}
use Rattle.and_modes.proofs.Walking.{at_node, term_of_variable, term_of_number, term_of_compound, from_place, from_next, from_end, argument_there}

pub level_of_variable : (ss : List Shape) (n k : ℕ) (e : Environment) → AllFall 0 ss → n < length ss → Variable k ≡ shown (at_node ss n)
    → e k ≡ level_in e (node_term ss n)
level_of_variable ss n k e fall lt is = ap (level_in e) (sym (term_of_variable ss n k fall lt is))

pub level_of_number : (ss : List Shape) (n : ℕ) (z : ℤ) (e : Environment) → AllFall 0 ss → n < length ss → Number z ≡ shown (at_node ss n)
    → Integer ≡ level_in e (node_term ss n)
level_of_number ss n z e fall lt is = ap (level_in e) (sym (term_of_number ss n z fall lt is))

pub level_of_compound : (ss : List Shape) (n : ℕ) (c : NameNo) (count : ℕ) (e : Environment) (ks : List ℕ) → AllFall 0 ss → n < length ss
    → Compound c count ≡ shown (at_node ss n)
    → map unframed ks ≡ variables_of (node_term ss n) → cond (are_ground_at e ks) Ground Any ≡ level_in e (node_term ss n)
level_of_compound ss n c count e ks fall lt is found =
    let there = term_of_compound ss n c count fall lt is in
    let term : Term = Terms.compound there.0 there.1 in
    ap (λ (b : Bool). cond b Ground Any) (sym (ground_by_variables e term ks (found ∙ ap variables_of there.2)))
    ∙ ap (level_in e) (sym there.2)

-- a name without arguments is ground, and nothing in it can be raised
pub level_of_atom : (t : Term) (c : NameNo) (count : ℕ) (e : Environment) → Compound c count ≡ shown_term t → count ≡ 0 → Ground ≡ level_in e t
level_of_atom (Terms.variable q k) c count e is empty = absurd (cc)
level_of_atom (Terms.number z) c count e is empty = absurd (cc)
level_of_atom (Terms.compound d Terms.none) c count e is empty = refl
level_of_atom (Terms.compound d (Terms.more t ts)) c count e is empty = let more_of : count ≡ suc (width ts) = cc in absurd (omega arith)

pub raised_atom : (t : Term) (c : NameNo) (count : ℕ) (e : Environment) (l : Level) → Compound c count ≡ shown_term t → count ≤ 0 → e ≡ raised e t l
raised_atom (Terms.variable q k) c count e l is empty = absurd (cc)
raised_atom (Terms.number z) c count e l is empty = absurd (cc)
raised_atom (Terms.compound d Terms.none) c count e l is empty = refl
raised_atom (Terms.compound d (Terms.more t ts)) c count e l is empty = let more_of : count ≡ suc (width ts) = cc in absurd (omega arith)

pub raised_variable : (ss : List Shape) (n k : ℕ) (e f : Environment) (l : Level) → AllFall 0 ss → n < length ss → Variable k ≡ shown (at_node ss n)
    → f ≡ raised_at e k l → f ≡ raised e (node_term ss n) l
raised_variable ss n k e f l fall lt is new =
    let term = term_of_variable ss n k fall lt is in
    new
    ∙ raised_by_variables e (Terms.variable [] k) (k ∷ []) l l refl (within_variable k l)
    ∙ ap (λ (t : Term). raised e t l) (sym term)

pub raised_number : (ss : List Shape) (n : ℕ) (z : ℤ) (e : Environment) (l : Level) → AllFall 0 ss → n < length ss → Number z ≡ shown (at_node ss n)
    → e ≡ raised e (node_term ss n) l
raised_number ss n z e l fall lt is =
    raised_by_variables e (Terms.number z) [] l (level_within (Terms.number z) l) refl refl
    ∙ ap (λ (t : Term). raised e t l) (sym (term_of_number ss n z fall lt is))

pub raised_compound : (ss : List Shape) (n : ℕ) (c : NameNo) (count : ℕ) (e f : Environment) (ks : List ℕ) (l k : Level) → AllFall 0 ss → n < length ss
    → Compound c count ≡ shown (at_node ss n)
    → map unframed ks ≡ variables_of (node_term ss n) → ((name : ℕ) (ts : Terms) → k ≡ level_within (Terms.compound name ts) l)
    → f ≡ all_raised_at e ks k → f ≡ raised e (node_term ss n) l
raised_compound ss n c count e f ks l k fall lt is found within new =
    let there = term_of_compound ss n c count fall lt is in
    let term : Term = Terms.compound there.0 there.1 in
    new
    ∙ raised_by_variables e term ks l k (found ∙ ap variables_of there.2) (within there.0 there.1)
    ∙ ap (λ (t : Term). raised e t l) (sym there.2)

-- one more argument is raised
pub raised_next : (t arg : Term) (place : ℕ) (levels : ℕ → Level) (level : Level) (first e f : Environment) → place < count_of (arguments_of t)
    → all_raised first levels 0 (arguments_of t) ≡ all_raised e levels place (from_place place (arguments_of t))
    → arg ≡ argument_of t place → level ≡ levels place → f ≡ raised e arg level
    → all_raised first levels 0 (arguments_of t) ≡ all_raised f levels (place + 1) (from_place (place + 1) (arguments_of t))
raised_next t arg place levels level first e f lt before is_arg is_level new =
    let rest : Terms = from_place (place + 1) (arguments_of t) in
    let next : suc place ≡ place + 1 = omega arith in
    let now : raised e (term_at (arguments_of t) place) (levels place) ≡ f =
    sym (new ∙ ap (λ (u : Term). raised e u level) (is_arg ∙ argument_there t place)
    ∙ ap (λ (l : Level). raised e (term_at (arguments_of t) place) l) is_level) in
    before
    ∙ ap (λ (ts : Terms). all_raised e levels place ts) (from_next place (arguments_of t) lt)
    ∙ ap (λ (g : Environment). all_raised g levels (suc place) rest) now
    ∙ ap (λ (i : ℕ). all_raised f levels i rest) next

pub raised_end : (t : Term) (place : ℕ) (levels : ℕ → Level) (first e : Environment) → count_of (arguments_of t) ≤ place
    → all_raised first levels 0 (arguments_of t) ≡ all_raised e levels place (from_place place (arguments_of t))
    → e ≡ all_raised first levels 0 (arguments_of t)
raised_end t place levels first e le before = sym (before ∙ ap (λ (ts : Terms). all_raised e levels place ts) (from_end place (arguments_of t) le))

-- one more argument is asked for
pub asked_next : (t arg : Term) (place name count : ℕ) (side : Side) (e : Environment) (all ds new : List Demand) (d : Demand)
    → place < count_of (arguments_of t)
    → all ≡ ds ++ asked_by e name count side place (from_place place (arguments_of t))
    → arg ≡ argument_of t place
    → d ≡ record { place = record { name = record { 0 = name }; arity = count; number = place }; side = side; level = level_in e arg }
    → new ≡ ds ++ d ∷ []
    → all ≡ new ++ asked_by e name count side (place + 1) (from_place (place + 1) (arguments_of t))
asked_next t arg place name count side e all ds new d lt before is_arg is_demand more =
    let rest : Terms = from_place (place + 1) (arguments_of t) in
    let made : Level → Demand = λ l. record { place = record { name = record { 0 = name }; arity = count; number = place }; side = side; level = l } in
    let next : suc place ≡ place + 1 = omega arith in
    before
    ∙ ap (λ (ts : Terms). ds ++ asked_by e name count side place ts) (from_next place (arguments_of t) lt)
    ∙ ap (λ (u : Term). ds ++ made (level_in e u) ∷ asked_by e name count side (suc place) rest) (sym (is_arg ∙ argument_there t place))
    ∙ ap (λ (g : Demand). ds ++ g ∷ asked_by e name count side (suc place) rest) (sym is_demand)
    ∙ sym (append_assoc ds (d ∷ []) (asked_by e name count side (suc place) rest))
    ∙ ap (λ (ns : List Demand). ns ++ asked_by e name count side (suc place) rest) (sym more)
    ∙ ap (λ (i : ℕ). new ++ asked_by e name count side i rest) next

pub asked_end : (t : Term) (place name count : ℕ) (side : Side) (e : Environment) (all ds : List Demand) → count_of (arguments_of t) ≤ place
    → all ≡ ds ++ asked_by e name count side place (from_place place (arguments_of t)) → ds ≡ all
asked_end t place name count side e all ds le before =
    sym (before ∙ ap (λ (ts : Terms). ds ++ asked_by e name count side place ts) (from_end place (arguments_of t) le) ∙ append-nil ds)

-- one more item is gone past
pub item_asked : (m : Assignment) (e f : Environment) (item : Item) (rest : List Item) (all ds new : List Demand)
    → all ≡ ds ++ asked_along m e (item ∷ rest) → new ≡ ds ++ asked_by_item e item → f ≡ after_item m e item → all ≡ new ++ asked_along m f rest
item_asked m e f item rest all ds new before more past =
    before
    ∙ sym (append_assoc ds (asked_by_item e item) (asked_along m (after_item m e item) rest))
    ∙ ap (λ (es : List Demand). es ++ asked_along m (after_item m e item) rest) (sym more)
    ∙ ap (λ (g : Environment). new ++ asked_along m g rest) (sym past)

pub item_past : (m : Assignment) (e f : Environment) (item : Item) (rest : List Item) (last : Environment)
    → last ≡ after_items m e (item ∷ rest) → f ≡ after_item m e item → last ≡ after_items m f rest
item_past m e f item rest last before past = before ∙ ap (λ (g : Environment). after_items m g rest) (sym past)

any_of : (n v : ℕ) → get_or (replicate n Any) v Any ≡ Any
any_of zero v = refl
any_of (suc n) zero = refl
any_of (suc n) (suc v) = any_of n v

pub nothing_known : (n : ℕ) → environment (replicate n Any) ≡ (λ v. Any)
nothing_known n = λ i v. any_of n v i

-- one more item of the code's row
pub items_drop : (ss : List Shape) (items : List ItemNode) (i : ℕ) (d : ItemNode) → i < length items
    → map (item_of ss) (map node_item (drop i items)) ≡ item_of ss (node_item (get_or items i d)) ∷ map (item_of ss) (map node_item (drop (i + 1) items))
items_drop ss items i d lt = ap (λ (xs : List ItemNode). map (item_of ss) (map node_item xs)) (drop_more items i d lt)

pub items_end : (ss : List Shape) (items : List ItemNode) (i : ℕ) → length items ≤ i → map (item_of ss) (map node_item (drop i items)) ≡ []
items_end ss items i le = ap (λ (xs : List ItemNode). map (item_of ss) (map node_item xs)) (drop_all i items le)
