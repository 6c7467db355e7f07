-- A pass of a shared tree goes on, and what holds of the tree is kept.
use Rattle.std.proofs.Common.{ℕ, zero, suc, false, nat_eq, cond, append_assoc, append-nil, ◌+◌, ◌≡◌, ◌≢◌, ◌<◌, ◌⊎◌, inl, inr, List, [], ◌∷◌}
use Rattle.std.proofs.Common.{◌++◌, map, length, get_or, set, refl, sym, ap, subst, ◌∙◌, arith, All, Contains}
use Rattle.std.proofs.lemmas.List.{get_or-set_other, length-set, length-map}
use lib.ListN.{get_or-map}
use Rattle.std.proofs.lemmas.Bool.Decides.{nat_tests}
use Rattle.std.proofs.lemmas.List.Elements.{All-head, All-tail, All-cons, All-push, All-contains, filter-append}
use Rattle.and_histories.specs.PlainTree.{opening, Key, State, with_keys, joined, children}
use Rattle.and_histories.specs.PlainTree.{Cell, Content, free, opened, taking, hand_of, cell_of, Event}
use Rattle.and_histories.specs.PlainTree.{Reply, Does, forks, finds_spent, finds_not_free, publishes, takes, misses, clears, ends, looks, counts}
use Rattle.and_model.specs.Store.{AreDistinct}
use Rattle.and_histories.proofs.Carrying.{carried_in_parts}
use Rattle.and_histories.specs.Histories.{HistoryEntry, Carries, team_of, calls}
use Rattle.and_tree.specs.Few.{IsFew}
use Rattle.and_tree.specs.Sight.{About, Work, at_rest, opening_cell, clearing_cell, Member}
use Rattle.and_tree.proofs.FewKept.{few_forks, few_ends, few_publishes, few_takes, few_clears}
use Rattle.and_tree.specs.AtWork.{team_at, Held, IsAtCell, Works, AtWork, IsModestEvent, Acts, Rests}

-- No call changes the hand of another team, nor a cell that another team has at work.
pub hand_of_others : (s next : State) (event : Event) (reply : Reply) (team : ℕ) → Does s event reply next → team ≢ team_of event
    → hand_of next team ≡ hand_of s team
hand_of_others s next event reply team (forks t key longer clauses holds prefix) other = get_or-set_other s.hands t team _ [] other
hand_of_others s next event reply team (finds_spent t cell key is own holds serial) other = refl
hand_of_others s next event reply team (finds_not_free t cell key is own holds serial content) other = refl
hand_of_others s next event reply team (publishes t cell key is own holds serial content) other = get_or-set_other s.hands t team _ [] other
hand_of_others s next event reply team (takes t cell serial key is open_so) other = get_or-set_other s.hands t team _ [] other
hand_of_others s next event reply team (misses t cell serial is cell_is not_open) other = refl
hand_of_others s next event reply team (clears t cell is) other = refl
hand_of_others s next event reply team (ends t key how holds) other = get_or-set_other s.hands t team _ [] other
hand_of_others s next event reply team (looks t cell is cell_is) other = refl
hand_of_others s next event reply team (counts t is) other = refl

abbrev blank : Cell
blank = record { serial = 0; content = free }

elsewhere : (cells : List Cell) (c i : ℕ) (x v : Cell) → i ≢ c → i < length cells → get_or cells i blank ≡ v
    → (i < length (set cells c x)) × (get_or (set cells c x) i blank ≡ v)
elsewhere cells c i x v other within e = let l = length-set cells c x in (omega (arith, within, l), get_or-set_other cells c i x blank other ∙ e)

abbrev IsFree : Content → Type 0
IsFree free = Unit {0}
IsFree (opened key) = ⊥
IsFree (taking team) = ⊥

abbrev taker : Content → ℕ
taker free = 0
taker (opened key) = 1
taker (taking team) = 2 + team

-- Where two cells hold different things, they are two.
apart : (s : State) (i c : ℕ) (x y : ℕ) → taker (cell_of s i).content ≡ x → taker (cell_of s c).content ≡ y → x ≢ y → i ≢ c
apart s i c x y a b differ same = differ (sym a ∙ ap (λ k. taker (cell_of s k).content) same ∙ b)

taker_of : (c : Cell) (serial : ℕ) (content : Content) → c ≡ record { serial = serial; content = content } → taker c.content ≡ taker content
taker_of c serial content e = ap (λ (d : Cell). taker d.content) e

abbrev place_of : Work → ℕ
place_of at_rest = 0
place_of (opening_cell i n) = i
place_of (clearing_cell i n) = i

abbrev Clears : Work → Type 0
Clears at_rest = ⊥
Clears (opening_cell i n) = ⊥
Clears (clearing_cell i n) = Unit {0}

pub opening_is : (i n k m : ℕ) → opening_cell i n ≡ opening_cell k m → i ≡ k
opening_is i n k m e = ap place_of e

clearing_is : (i n k m : ℕ) → clearing_cell i n ≡ clearing_cell k m → i ≡ k
clearing_is i n k m e = ap place_of e

opening_is_not : (i n k m : ℕ) → opening_cell i n ≡ clearing_cell k m → ⊥
opening_is_not i n k m e = subst Clears (sym e) tt

clearing_is_not : (i n k m : ℕ) → clearing_cell i n ≡ opening_cell k m → ⊥
clearing_is_not i n k m e = subst Clears e tt

cell_untouched : (s : State) (team c : ℕ) (x : Cell) (hands : List (List Key)) (work : Work) → ((i serial : ℕ) → work ≡ opening_cell i serial → i ≢ c)
    → ((i serial : ℕ) → work ≡ clearing_cell i serial → i ≢ c)
    → IsAtCell s team work → IsAtCell (record { hands = hands; cells = set s.cells c x }) team work
cell_untouched s team c x hands at_rest a b at = tt
cell_untouched s team c x hands (opening_cell i serial) a b (within, own, is) =
    let (l, e) = elsewhere s.cells c i x (record { serial = serial; content = free }) (a i serial refl) within is in (l, own, e)
cell_untouched s team c x hands (clearing_cell i serial) a b (within, is) =
    elsewhere s.cells c i x (record { serial = serial; content = taking team }) (b i serial refl) within is

same_cells : (s : State) (team : ℕ) (hands : List (List Key)) (work : Work) → IsAtCell s team work → IsAtCell (record s { hands = hands }) team work
same_cells s team hands at_rest at = at
same_cells s team hands (opening_cell i serial) at = at
same_cells s team hands (clearing_cell i serial) at = at

not_one : (n : ℕ) → 2 + n ≢ 1
not_one n e = absurd (omega (arith, e))

not_none : (n : ℕ) → 2 + n ≢ 0
not_none n e = absurd (omega (arith, e))

none_is_not : (n : ℕ) → 0 ≢ 2 + n
none_is_not n e = absurd (omega (arith, e))

same_team : (n k : ℕ) → n ≢ k → 2 + n ≢ 2 + k
same_team n k differ e = differ (omega (arith, e))

zero_one : taker free ≡ taker (opened []) → ⊥
zero_one e = absurd (omega (arith, e))

pub cell_of_others : (s next : State) (event : Event) (reply : Reply) (team : ℕ) (work : Work) → Does s event reply next → team ≢ team_of event
    → IsAtCell s team work → IsAtCell next team work
cell_of_others s next event reply team work (forks t key longer clauses holds prefix) other at =
    same_cells s team ((with_keys s t key (children longer clauses)).hands) work at
cell_of_others s next event reply team work (finds_spent t cell key is own holds serial) other at = at
cell_of_others s next event reply team work (finds_not_free t cell key is own holds serial content) other at = at
cell_of_others s next event reply team at_rest (publishes t cell key is own holds serial content) other at = tt
cell_of_others s next event reply team (opening_cell i n) (publishes t cell key is own holds serial content) other at =
    cell_untouched s team cell _ ((with_keys s t key []).hands) (opening_cell i n) (λ k m e f. let here = at.1.0 in let to = at.1.1 in let low = own.0 in
    let high = own.1 in let same = opening_is i n k m e in other (omega (arith, here, to, low, high, same, f)))
    (λ k m e. absurd (opening_is_not i n k m e)) at
cell_of_others s next event reply team (clearing_cell i n) (publishes t cell key is own holds serial content) other at =
    cell_untouched s team cell _ ((with_keys s t key []).hands) (clearing_cell i n) (λ k m e. absurd (clearing_is_not i n k m e))
    (λ k m e. subst (λ j. j ≢ cell) (clearing_is i n k m e) (apart s i cell (2 + team) 0 (taker_of _ n (taking team) at.1) (ap taker content) (not_none team)))
    at
cell_of_others s next event reply team at_rest (takes t cell serial key is open_so) other at = tt
cell_of_others s next event reply team (opening_cell i n) (takes t cell serial key is open_so) other at =
    cell_untouched s team cell _ ((joined s t key).hands) (opening_cell i n)
    (λ k m e. subst (λ j. j ≢ cell) (opening_is i n k m e) (apart s i cell 0 1 (taker_of _ n free at.2) (taker_of _ serial (opened key) open_so) zero_one))
    (λ k m e. absurd (opening_is_not i n k m e)) at
cell_of_others s next event reply team (clearing_cell i n) (takes t cell serial key is open_so) other at =
    cell_untouched s team cell _ ((joined s t key).hands) (clearing_cell i n) (λ k m e. absurd (clearing_is_not i n k m e))
    (λ k m e. subst (λ j. j ≢ cell) (clearing_is i n k m e)
    (apart s i cell (2 + team) 1 (taker_of _ n (taking team) at.1) (taker_of _ serial (opened key) open_so) (not_one team))) at
cell_of_others s next event reply team work (misses t cell serial is cell_is not_open) other at = at
cell_of_others s next event reply team at_rest (clears t cell is) other at = tt
cell_of_others s next event reply team (opening_cell i n) (clears t cell is) other at =
    cell_untouched s team cell _ s.hands (opening_cell i n)
    (λ k m e. subst (λ j. j ≢ cell) (opening_is i n k m e) (apart s i cell 0 (2 + t) (taker_of _ n free at.2) (ap taker is) (none_is_not t)))
    (λ k m e. absurd (opening_is_not i n k m e)) at
cell_of_others s next event reply team (clearing_cell i n) (clears t cell is) other at =
    cell_untouched s team cell _ s.hands (clearing_cell i n) (λ k m e. absurd (clearing_is_not i n k m e))
    (λ k m e. subst (λ j. j ≢ cell) (clearing_is i n k m e)
    (apart s i cell (2 + team) (2 + t) (taker_of _ n (taking team) at.1) (ap taker is) (same_team team t other))) at
cell_of_others s next event reply team work (ends t key how holds) other at = same_cells s team ((with_keys s t key []).hands) work at
cell_of_others s next event reply team work (looks t cell is cell_is) other at = at
cell_of_others s next event reply team work (counts t is) other at = at

-- The tree keeps few keys.
pub few_kept : (teams : ℕ) (s next : State) (event : Event) (reply : Reply) → IsFew teams s → team_of event < teams → IsModestEvent s event
    → Does s event reply next → IsFew teams next
few_kept teams s next event reply few team modest (forks t key longer clauses holds prefix) = few_forks teams s t key longer clauses few holds modest
few_kept teams s next event reply few team modest (finds_spent t cell key is own holds serial) = few
few_kept teams s next event reply few team modest (finds_not_free t cell key is own holds serial content) = few
few_kept teams s next event reply few team modest (publishes t cell key is own holds serial content) =
    few_publishes teams s t cell key few holds is serial content
few_kept teams s next event reply few team modest (takes t cell serial key is open_so) = few_takes teams s t cell serial key few team is open_so
few_kept teams s next event reply few team modest (misses t cell serial is cell_is is_not_open) = few
few_kept teams s next event reply few team modest (clears t cell is) = few_clears teams s t cell few is
few_kept teams s next event reply few team modest (ends t key how holds) = few_ends teams s t key few holds
few_kept teams s next event reply few team modest (looks t cell is cell_is) = few
few_kept teams s next event reply few team modest (counts t is) = few

pub differs : (c k : ℕ) → (c ≡ k → ⊥) → nat_eq c k ≡ false
differs c k apart_from = grind (arith, nat_tests, apart_from)

-- An entry of another team is none of this team's calls.
calls_of_others : (history : List HistoryEntry) (e : HistoryEntry) (team : ℕ) → (team_of e.event ≡ team → ⊥)
    → calls (history ++ e ∷ []) team ≡ calls history team
calls_of_others history e team other =
    filter-append (λ (f : HistoryEntry). nat_eq (team_of f.event) team) history (e ∷ [])
    ∙ ap (λ b. calls history team ++ cond b (e ∷ []) []) (differs (team_of e.event) team other)
    ∙ append-nil (calls history team)

works_on : (a : About) (h k : Held) (m n o : Member) (e : HistoryEntry) → Acts h k m n e → o.team ≢ m.team → Works a h o → Works a k o
works_on a h k m n o e acts other w =
    let not_its : o.team ≢ team_of e.event = λ same. other (same ∙ acts.of_team) in record {
      team = w.team;
      seen = (w.seen.0 ++ e ∷ [], acts.history ∙ ap (λ l. l ++ e ∷ []) w.seen.1 ∙ append_assoc o.seen w.seen.0 (e ∷ []));
      own = w.own ∙ sym (ap (λ l. calls l o.team) acts.history ∙ calls_of_others h.history e o.team (λ same. not_its (sym same)));
      hand = w.hand ∙ sym (hand_of_others h.now k.now e.event e.reply o.team acts.does not_its);
      at_cell = cell_of_others h.now k.now e.event e.reply o.team o.work acts.does not_its w.at_cell;
    }

pub all_middle : {X : Type 0} (Q : X → Type 0) (front : List X) (x : X) (back : List X) → All Q (front ++ x ∷ back) → Q x
all_middle Q [] x back h = All-head Q x back h
all_middle Q (y ∷ front) x back h = all_middle Q front x back (All-tail Q y (front ++ x ∷ back) h)

pub contains_middle : {X : Type 0} (front : List X) (x : X) (back : List X) → Contains (front ++ x ∷ back) x
contains_middle [] x back = (0, omega arith, refl)
contains_middle (y ∷ front) x back = let (i, within, e) = contains_middle front x back in (suc i, omega (arith, within), e)

same_teams : (front back : List Member) (m n : Member) → n.team ≡ m.team → map team_at (front ++ n ∷ back) ≡ map team_at (front ++ m ∷ back)
same_teams [] back m n e = ap (λ t. t ∷ map team_at back) e
same_teams (y ∷ front) back m n e = ap (λ l. y.team ∷ l) (same_teams front back m n e)

same_length : (front back : List Member) (m n : Member) → length (front ++ n ∷ back) ≡ length (front ++ m ∷ back)
same_length [] back m n = refl
same_length (y ∷ front) back m n = ap suc (same_length front back m n)

later : (m : Member) (back : List Member) → AreDistinct (map team_at (m ∷ back)) → All (λ (o : Member). m.team ≢ o.team) back
later m back distinct i d within =
    let l : length (map team_at back) ≡ length back = length-map back team_at in
    λ e. distinct 0 (suc i) (team_at d) (omega arith) (omega (arith, within, l)) (e ∙ sym (get_or-map team_at back i d))

distinct_rest : (m : Member) (back : List Member) → AreDistinct (map team_at (m ∷ back)) → AreDistinct (map team_at back)
distinct_rest m back distinct i j d before within = distinct (suc i) (suc j) d (omega arith) (omega (arith, within))

each_on : (a : About) (front back : List Member) (m n : Member) (h k : Held) → (work : (o : Member) → o.team ≢ m.team → Works a h o → Works a k o)
    → Works a k n
    → AreDistinct (map team_at (front ++ m ∷ back)) → All (Works a h) (front ++ m ∷ back) → All (Works a k) (front ++ n ∷ back)
each_on a [] back m n h k work now distinct each =
    All-cons (Works a k) n back now
    (λ i d within. work (get_or back i d) (λ e. later m back distinct i d within (sym e)) (All-tail (Works a h) m back each i d within))
each_on a (y ∷ front) back m n h k work now distinct each =
    All-cons (Works a k) y (front ++ n ∷ back)
    (work y (all_middle (λ (o : Member). y.team ≢ o.team) front m back (later y (front ++ m ∷ back) distinct))
    (All-head (Works a h) y (front ++ m ∷ back) each))
    (each_on a front back m n h k work now (distinct_rest y (front ++ m ∷ back) distinct) (All-tail (Works a h) y (front ++ m ∷ back) each))

-- The pass that acts has all calls of its team, as before.
acts_own : (a : About) (h k : Held) (m n : Member) (e : HistoryEntry) → Acts h k m n e → Works a h m → Works a k n
acts_own a h k m n e acts w =
    let team : n.team ≡ m.team = ap (λ (x : Member). x.team) acts.becomes in
    let seen : n.seen ≡ k.history = ap (λ (x : Member). x.seen) acts.becomes in record {
      team = subst (λ t. t < a.teams) (sym team) w.team;
      seen = ([], sym (append-nil n.seen ∙ seen));
      own = ap (λ l. calls l n.team) seen;
      hand = ap (λ (x : Member). x.hand) acts.becomes ∙ ap (hand_of k.now) (sym team);
      at_cell = subst (λ t. IsAtCell k.now t n.work) (sym team) acts.at_cell;
    }

pub acts_on : (a : About) (front back : List Member) (m n : Member) (e : HistoryEntry) (h k : Held)
    → AtWork a (front ++ m ∷ back) h → Acts h k m n e → AtWork a (front ++ n ∷ back) k
acts_on a front back m n e h k was acts =
    let wm = all_middle (Works a h) front m back was.each in
    let team : n.team ≡ m.team = ap (λ (x : Member). x.team) acts.becomes in
    let below : team_of e.event < a.teams = subst (λ t. t < a.teams) (sym acts.of_team) wm.team in record {
      carried = subst (λ l. Carries (opening a.teams) l k.now) (sym acts.history)
          ((carried_in_parts (opening a.teams) k.now h.history (e ∷ [])).1 (h.now, was.carried, (k.now, acts.does, refl)));
      few = few_kept a.teams h.now k.now e.event e.reply was.few below acts.modest acts.does;
      by_teams = subst (All (λ (f : HistoryEntry). team_of f.event < a.teams)) (sym acts.history)
          (All-push (λ (f : HistoryEntry). team_of f.event < a.teams) h.history e was.by_teams below);
      each = each_on a front back m n h k (λ o other w. works_on a h k m n o e acts other w) (acts_own a h k m n e acts wm) was.distinct was.each;
      distinct = subst AreDistinct (sym (same_teams front back m n team)) was.distinct;
      all_teams = same_length front back m n ∙ was.all_teams;
      seen = (n, contains_middle front n back, ap (λ (x : Member). x.seen) acts.becomes);
    }

-- What stands in a list but for one place stands there too when that place changes.
pub turned_over : {X : Type 0} (front back : List X) (m n o : X) → Contains (front ++ m ∷ back) o → (o ≡ m) ⊎ Contains (front ++ n ∷ back) o
turned_over [] back m n o (zero, within, is) = inl (sym is)
turned_over [] back m n o (suc i, within, is) = inr (suc i, omega (arith, within), is)
turned_over (y ∷ front) back m n o (zero, within, is) = inr (zero, omega arith, is)
turned_over (y ∷ front) back m n o (suc i, within, is) = further (turned_over front back m n o (i, omega (arith, within), is))
  where
    further : (o ≡ m) ⊎ Contains (front ++ n ∷ back) o → (o ≡ m) ⊎ Contains (y ∷ front ++ n ∷ back) o
    further (inl e) = inl e
    further (inr (j, below, e)) = inr (suc j, omega (arith, below), e)

turned : (front back : List Member) (m n : Member) → n.seen ≡ m.seen → (o : Member) → Contains (front ++ m ∷ back) o
    → (x : Member) × Contains (front ++ n ∷ back) x × (x.seen ≡ o.seen)
turned front back m n same o there = elim (turned_over front back m n o there) [
  | inl e ↦ (n, contains_middle front n back, same ∙ ap (λ (x : Member). x.seen) (sym e))
  | inr c ↦ (o, c, refl)
]

-- A team has one pass.
pub one_of_team : (front back : List Member) (m o : Member) → AreDistinct (map team_at (front ++ m ∷ back)) → Contains (front ++ m ∷ back) o
    → o.team ≡ m.team → o ≡ m
one_of_team [] back m o distinct (zero, within, is) e = sym is
one_of_team [] back m o distinct (suc i, within, is) e =
    absurd (All-contains (λ (x : Member). m.team ≢ x.team) back o (later m back distinct) (i, omega (arith, within), is) (sym e))
one_of_team (y ∷ front) back m o distinct (zero, within, is) e =
    absurd (all_middle (λ (x : Member). y.team ≢ x.team) front m back (later y (front ++ m ∷ back) distinct) (ap (λ (x : Member). x.team) is ∙ e))
one_of_team (y ∷ front) back m o distinct (suc i, within, is) e =
    one_of_team front back m o (distinct_rest y (front ++ m ∷ back) distinct) (i, omega (arith, within), is) e

rests_own : (a : About) (h k : Held) (m n : Member) → Rests h k m n → Works a h m → Works a h n
rests_own a h k m n rests w =
    let team : n.team ≡ m.team = ap (λ (x : Member). x.team) rests.becomes in
    let seen : n.seen ≡ m.seen = ap (λ (x : Member). x.seen) rests.becomes in record {
      team = subst (λ t. t < a.teams) (sym team) w.team;
      seen = (w.seen.0, w.seen.1 ∙ ap (λ l. l ++ w.seen.0) (sym seen));
      own = ap (λ l. calls l n.team) seen ∙ ap (calls m.seen) team ∙ w.own ∙ ap (calls h.history) (sym team);
      hand = ap (λ (x : Member). x.hand) rests.becomes ∙ w.hand ∙ ap (hand_of h.now) (sym team);
      at_cell = subst (λ t. IsAtCell h.now t n.work) (sym team) rests.at_cell;
    }

pub rests_on : (a : About) (front back : List Member) (m n : Member) (h k : Held) → AtWork a (front ++ m ∷ back) h → Rests h k m n
    → AtWork a (front ++ n ∷ back) k
rests_on a front back m n h k was rests =
    let wm = all_middle (Works a h) front m back was.each in
    let team : n.team ≡ m.team = ap (λ (x : Member). x.team) rests.becomes in
    let (x, there, same) = turned front back m n (ap (λ (x : Member). x.seen) rests.becomes) was.seen.0 was.seen.1 in
    subst (AtWork a (front ++ n ∷ back)) (sym rests.same) (record {
      carried = was.carried;
      few = was.few;
      by_teams = was.by_teams;
      each = each_on a front back m n h h (λ o other w. w) (rests_own a h k m n rests wm) was.distinct was.each;
      distinct = subst AreDistinct (sym (same_teams front back m n team)) was.distinct;
      all_teams = same_length front back m n ∙ was.all_teams;
      seen = (x, there, same ∙ was.seen.2);
    })

-- A pass sees all that was done.
hears_own : (a : About) (h : Held) (m : Member) → Works a h m → Works a h (record m { seen = h.history })
hears_own a h m w = record { team = w.team; seen = ([], sym (append-nil h.history)); own = refl; hand = w.hand; at_cell = w.at_cell }

pub hears_on : (a : About) (front back : List Member) (m : Member) (h : Held) → AtWork a (front ++ m ∷ back) h
    → AtWork a (front ++ record m { seen = h.history } ∷ back) h
hears_on a front back m h was =
    let n : Member = record m { seen = h.history } in record {
      carried = was.carried;
      few = was.few;
      by_teams = was.by_teams;
      each = each_on a front back m n h h (λ o other w. w) (hears_own a h m (all_middle (Works a h) front m back was.each)) was.distinct was.each;
      distinct = subst AreDistinct (sym (same_teams front back m n refl)) was.distinct;
      all_teams = same_length front back m n ∙ was.all_teams;
      seen = (n, contains_middle front n back, refl);
    }
