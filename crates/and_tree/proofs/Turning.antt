-- What the calls of a plain tree make of it, told by what they make of its places and counts.
use Rattle.std.proofs.Common.{ℕ, suc, ◌+◌, ◌-◌, ◌*◌, ◌≡◌, ◌≢◌, ◌<◌, Bool, List, [], ◌∷◌, get_or, set, refl, sym, subst, ap, ◌∙◌}
use Rattle.std.proofs.Common.{get_or-set_same, set-set, arith}
use Rattle.std.specs.Prelude.{nat_eq, length}
use Rattle.and_model.specs.Prefixes.{IsPrefix}
use Rattle.and_histories.specs.PlainTree.{Key, State, Cell, Content, free, opened, taking, Event, Reply, Ending, Does, Seen, seen_free, seen_open}
use Rattle.and_histories.specs.PlainTree.{seen_taking, seen_in, Holds, IsTeam, IsCell, Owns, cell_of, children, with_keys, with_cell, joined}
use Rattle.and_histories.specs.PlainTree.{left_of, opening, last_serial}
use Rattle.and_histories.proofs.CoveringForks.{left_is_counted, opening_keys}
use Rattle.and_tree.specs.Plain.{Plain, Placed, Tally, Turns, Takes, ended_so, one_more}
use Rattle.and_tree.specs.Replies.{seen_of}
use Rattle.and_tree.specs.declared.replies.CellSeen.{CellSeen}
use Rattle.and_tree.specs.declared.replies.CellSeen.TheVariants.{Free, Open, Taking}

abbrev pub plain_of : Placed → Tally → Plain
plain_of placed tally = record { limit = placed.limit; state = placed.state; tally = tally }

state_is : (p : Plain) (was : Placed) (t : Tally) → plain_of was t ≡ p → was.state ≡ p.state
state_is p was t view = ap (λ (x : Plain). x.state) view

pub turn_left : (p : Plain) (was : Placed) (t : Tally) (n team : ℕ) → plain_of was t ≡ p → n ≡ left_of was.state → IsTeam p.state team
    → Turns (Event.left team) (Reply.number n) p p
turn_left p was t n team view number is = record {
  does = subst (λ m. Does p.state (Event.left team) (Reply.number m) p.state) (sym (number ∙ ap left_of (state_is p was t view)))
      (Does.counts team is);
  limit = refl;
  tally = refl;
}

pub turn_look : (p : Plain) (was : Placed) (t : Tally) (seen : Seen) (team cell : ℕ) → plain_of was t ≡ p → seen ≡ seen_in (cell_of was.state cell)
    → IsTeam p.state team → IsCell p.state cell → Turns (Event.look team cell) (Reply.seen seen) p p
turn_look p was t seen team cell view is is_team is_cell = record {
  does = subst (λ m. Does p.state (Event.look team cell) (Reply.seen m) p.state)
      (sym (is ∙ ap (λ s. seen_in (cell_of s cell)) (state_is p was t view))) (Does.looks team cell is_team is_cell);
  limit = refl;
  tally = refl;
}

pub one_less : (s : State) (team : ℕ) (key : Key) → Holds s team key → left_of (with_keys s team key []) + 1 ≡ left_of s
one_less s team key holds =
    let counted = left_is_counted s _ _ _ (Does.ends team key Ending.retired holds) in
    omega arith

pub turn_end : (p : Plain) (was placed : Placed) (t u : Tally) (left team : ℕ) (key : Key) (how : Ending) (last : Bool) → plain_of was t ≡ p
    → left ≡ left_of was.state → Holds p.state team key → placed ≡ record was { state = with_keys was.state team key [] } → u ≡ ended_so how t
    → last ≡ nat_eq (left - 1) 0 → Turns (Event.end team key how) (Reply.last last) p (plain_of placed u)
turn_end p was placed t u left team key how last view number holds is counted tells =
    let same = state_is p was t view in
    let next : State = with_keys p.state team key [] in
    let less = one_less p.state team key holds in
    let there : left ≡ left_of p.state = number ∙ ap left_of same in
    let after : left - 1 ≡ left_of next = omega arith in record {
      does = subst (λ s. Does p.state (Event.end team key how) (Reply.last last) s)
          (sym (ap (λ (x : Placed). x.state) is ∙ ap (λ s. with_keys s team key []) same))
          (subst (λ b. Does p.state (Event.end team key how) (Reply.last b) next) (sym (tells ∙ ap (λ n. nat_eq n 0) after))
          (Does.ends team key how holds));
      limit = ap (λ (x : Placed). x.limit) is ∙ ap (λ (x : Plain). x.limit) view;
      tally = counted ∙ ap (λ (x : Plain). ended_so how x.tally) view;
    }

pub less_left : (was placed : Placed) (left team : ℕ) (key : Key) → left ≡ left_of was.state → Holds was.state team key
    → placed ≡ record was { state = with_keys was.state team key [] } → left - 1 ≡ left_of placed.state
less_left was placed left team key number holds is =
    let less = one_less was.state team key holds in
    let here : left - 1 ≡ left_of (with_keys was.state team key []) = omega arith in
    here ∙ sym (ap (λ (x : Placed). left_of x.state) is)

-- a fork
pub turn_fork : (p : Plain) (was placed : Placed) (t u : Tally) (team : ℕ) (key longer found : Key) (clauses : List ℕ) (others : List Key)
    → plain_of was t ≡ p → Holds p.state team key → IsPrefix key longer → found ≡ key → others ≡ children longer clauses
    → placed ≡ record was { state = with_keys was.state team found others } → u ≡ record t { forks = one_more t.forks }
    → Turns (Event.fork team key longer clauses) Reply.forked p (plain_of placed u)
turn_fork p was placed t u team key longer found clauses others view holds prefix key_is others_are is counted =
    let moved = ap (λ (x : Placed). x.state) is ∙ ap (λ s. with_keys s team found others) (state_is p was t view) in
    let ends : placed.state ≡ with_keys p.state team key (children longer clauses) =
    moved ∙ ap (λ k. with_keys p.state team k others) key_is ∙ ap (with_keys p.state team key) others_are in record {
      does = subst (λ s. Does p.state (Event.fork team key longer clauses) Reply.forked s) (sym ends)
          (Does.forks team key longer clauses holds prefix);
      limit = ap (λ (x : Placed). x.limit) is ∙ ap (λ (x : Plain). x.limit) view;
      tally = counted ∙ ap (λ (x : Plain). record x.tally { forks = one_more x.tally.forks }) view;
    }

-- a publish
pub turn_spent : (p : Plain) (was : Placed) (t : Tally) (team cell serial : ℕ) (key : Key) → plain_of was t ≡ p → IsCell p.state cell → Owns team cell
    → Holds p.state team key → serial ≡ (cell_of was.state cell).serial → serial ≡ last_serial → Turns (Event.publish team cell key) Reply.spent p p
turn_spent p was t team cell serial key view is_cell owns holds here is = record {
  does = Does.finds_spent team cell key is_cell owns holds (sym (here ∙ ap (λ s. (cell_of s cell).serial) (state_is p was t view)) ∙ is);
  limit = refl;
  tally = refl;
}

cell_same : (p : Plain) (was : Placed) (t : Tally) (cell : ℕ) → plain_of was t ≡ p → cell_of was.state cell ≡ cell_of p.state cell
cell_same p was t cell view = ap (λ s. cell_of s cell) (state_is p was t view)

seen_when_free : (c : Cell) → c.content ≡ free → seen_in c ≡ seen_free
seen_when_free c e = ap (λ x. seen_in (record { serial = c.serial; content = x })) e

free_when_seen : (n : ℕ) (x : Content) → seen_in (record { serial = n; content = x }) ≡ seen_free → x ≡ free
free_when_seen n free e = refl
free_when_seen n (opened key) e = absurd (apart n e)
  where
    apart : (n : ℕ) → seen_open n ≡ seen_free → ⊥
    apart n e = cc
free_when_seen n (taking team) e = absurd (apart team n e)
  where
    apart : (team n : ℕ) → seen_taking team n ≡ seen_free → ⊥
    apart team n e = cc

open_when_seen : (n serial : ℕ) (x : Content) → seen_in (record { serial = n; content = x }) ≡ seen_open serial
    → (key : Key) × ◌≡◌ {A = Cell} (record { serial = n; content = x }) (record { serial = serial; content = opened key })
open_when_seen n serial free e = absurd (apart serial e)
  where
    apart : (serial : ℕ) → seen_free ≡ seen_open serial → ⊥
    apart serial e = cc
open_when_seen n serial (opened key) e = (key, ap (λ m. record { serial = m; content = opened key }) (same n serial e))
  where
    same : (n serial : ℕ) → seen_open n ≡ seen_open serial → n ≡ serial
    same n serial e = cc
open_when_seen n serial (taking team) e = absurd (apart team n serial e)
  where
    apart : (team n serial : ℕ) → seen_taking team n ≡ seen_open serial → ⊥
    apart team n serial e = cc

pub turn_not_free : (p : Plain) (was : Placed) (t : Tally) (team cell serial : ℕ) (key : Key) (seen : Seen) → plain_of was t ≡ p → IsCell p.state cell
    → Owns team cell → Holds p.state team key → serial ≡ (cell_of was.state cell).serial → serial ≢ last_serial
    → seen ≡ seen_in (cell_of was.state cell) → seen ≢ seen_free → Turns (Event.publish team cell key) (Reply.not_free seen) p p
turn_not_free p was t team cell serial key seen view is_cell owns holds here other tells not_free =
    let same = cell_same p was t cell view in
    let is : seen ≡ seen_in (cell_of p.state cell) = tells ∙ ap seen_in same in record {
      does = subst (λ m. Does p.state (Event.publish team cell key) (Reply.not_free m) p.state) (sym is)
          (Does.finds_not_free team cell key is_cell owns holds (λ e. other (here ∙ ap (λ (c : Cell). c.serial) same ∙ e))
          (λ e. not_free (is ∙ seen_when_free (cell_of p.state cell) e)));
      limit = refl;
      tally = refl;
    }

pub turn_publish : (p : Plain) (was mid placed : Placed) (t : Tally) (team cell serial : ℕ) (key found : Key) (seen : Seen) → plain_of was t ≡ p
    → IsCell p.state cell → Owns team cell → Holds p.state team key → serial ≡ (cell_of was.state cell).serial → serial ≢ last_serial
    → seen ≡ seen_in (cell_of was.state cell) → seen ≡ seen_free → found ≡ key → mid ≡ record was { state = with_keys was.state team found [] }
    → placed ≡ record mid { state = with_cell mid.state cell (suc (cell_of mid.state cell).serial) (opened key) }
    → Turns (Event.publish team cell key) Reply.done p (plain_of placed t)
turn_publish p was mid placed t team cell serial key found seen view is_cell owns holds here other tells is_free key_is out is =
    let same = cell_same p was t cell view in
    let c = cell_of p.state cell in
    let none : c.content ≡ free = free_when_seen c.serial c.content (sym (tells ∙ ap seen_in same) ∙ is_free) in
    let moved = ap (λ (x : Placed). x.state) out ∙ ap (λ s. with_keys s team found []) (state_is p was t view) in
    let middle : mid.state ≡ with_keys p.state team key [] = moved ∙ ap (λ k. with_keys p.state team k []) key_is in record {
      does = subst (λ s. Does p.state (Event.publish team cell key) Reply.done s)
          (sym (ap (λ (x : Placed). x.state) is ∙ ap (λ s. with_cell s cell (suc (cell_of s cell).serial) (opened key)) middle))
          (Does.publishes team cell key is_cell owns holds (λ e. other (here ∙ ap (λ (c : Cell). c.serial) same ∙ e)) none);
      limit = ap (λ (x : Placed). x.limit) is ∙ ap (λ (x : Placed). x.limit) out ∙ ap (λ (x : Plain). x.limit) view;
      tally = ap (λ (x : Plain). x.tally) view;
    }

pub turn_miss : (p : Plain) (was : Placed) (t : Tally) (team cell serial : ℕ) (seen : Seen) → plain_of was t ≡ p → IsTeam p.state team
    → IsCell p.state cell → seen ≡ seen_in (cell_of was.state cell) → seen ≢ seen_open serial
    → Turns (Event.claim team cell serial) (Reply.moved seen) p p
turn_miss p was t team cell serial seen view is_team is_cell tells other =
    let is : seen ≡ seen_in (cell_of p.state cell) = tells ∙ ap seen_in (cell_same p was t cell view) in record {
      does = subst (λ m. Does p.state (Event.claim team cell serial) (Reply.moved m) p.state) (sym is)
          (Does.misses team cell serial is_team is_cell (λ key e. other (is ∙ ap seen_in e)));
      limit = refl;
      tally = refl;
    }

pub turn_take : (p : Plain) (was mid placed : Placed) (t : Tally) (team cell serial : ℕ) (key found : Key) (seen : Seen) → plain_of was t ≡ p
    → IsTeam p.state team → IsCell p.state cell → seen ≡ seen_in (cell_of was.state cell) → seen ≡ seen_open serial
    → (cell_of was.state cell).content ≡ opened found → mid ≡ record was { state = joined was.state team found }
    → (cell_of mid.state cell).content ≡ opened key → placed ≡ record mid { state = with_cell mid.state cell (cell_of mid.state cell).serial free }
    → Takes team cell serial key p (plain_of placed t)
turn_take p was mid placed t team cell serial key found seen view is_team is_cell tells is_open there joins here is =
    let same = cell_same p was t cell view in
    let s = p.state in
    let c = cell_of s cell in
    let (k, open_so) = open_when_seen c.serial serial c.content (sym (tells ∙ ap seen_in same) ∙ is_open) in
    let of_found : opened found ≡ c.content = sym there ∙ ap (λ (x : Cell). x.content) same in
    let middle : mid.state ≡ joined s team found = ap (λ (x : Placed). x.state) joins ∙ ap (λ x. joined x team found) (state_is p was t view) in
    let of_key : opened key ≡ c.content = sym here ∙ ap (λ x. (cell_of x cell).content) middle in
    let keys : key ≡ found = same_key (of_key ∙ sym of_found) in
    let at_serial : c ≡ record { serial = serial; content = c.content } =
    ap (λ n. record { serial = n; content = c.content }) (ap (λ (x : Cell). x.serial) open_so) in
    let is_key : c ≡ record { serial = serial; content = opened key } =
    at_serial ∙ ap (λ x. record { serial = serial; content = x }) (sym of_key) in
    let taken : Cell = record { serial = serial; content = taking team } in
    let held : get_or (set s.cells cell taken) cell (record { serial = 0; content = free }) ≡ taken = get_or-set_same s.cells cell taken _ is_cell in
    let between : Plain = record { limit = p.limit; state = with_cell (joined s team key) cell serial (taking team); tally = p.tally } in
    let after : Cell = record { serial = (cell_of between.state cell).serial; content = free } in
    let moved = ap (λ (x : Placed). x.state) is ∙ ap (λ x. with_cell x cell (cell_of x cell).serial free) (middle ∙ ap (joined s team) (sym keys)) in
    let ends : placed.state ≡ with_cell between.state cell (cell_of between.state cell).serial free =
    moved ∙ ap (λ n. with_cell (joined s team key) cell n free) (ap (λ (x : Cell). x.serial) is_key ∙ sym (ap (λ (x : Cell). x.serial) held))
    ∙ ap (λ l. record (joined s team key) { cells = l }) (sym (set-set s.cells cell taken after)) in record {
      between = between;
      claims = record { does = Does.takes team cell serial key is_team is_key; limit = refl; tally = refl };
      clears = record {
        does = subst (λ x. Does between.state (Event.clear team cell) Reply.cleared x) (sym ends)
            (Does.clears team cell (ap (λ (x : Cell). x.content) held));
        limit = ap (λ (x : Placed). x.limit) is ∙ ap (λ (x : Placed). x.limit) joins ∙ ap (λ (x : Plain). x.limit) view;
        tally = ap (λ (x : Plain). x.tally) view;
      };
    }
  where
    same_key : {k l : Key} → opened k ≡ opened l → k ≡ l
    same_key e = cc

-- What holds of the tree's state holds of that of its places.
pub held_before : (p : Plain) (was : Placed) (t : Tally) (P : State → Type 0) → plain_of was t ≡ p → P p.state → P was.state
held_before p was t P view holds = subst P (sym (state_is p was t view)) holds

pub holds_found : (p : Plain) (was : Placed) (t : Tally) (team : ℕ) (key found : Key) → plain_of was t ≡ p → found ≡ key → Holds p.state team key
    → Holds was.state team found
holds_found p was t team key found view is holds = subst (Holds was.state team) (sym is) (held_before p was t (λ s. Holds s team key) view holds)

pub same_limit : (p : Plain) (was : Placed) (t : Tally) → plain_of was t ≡ p → was.limit ≡ p.limit
same_limit p was t view = ap (λ (x : Plain). x.limit) view

pub free_or_not : (x : CellSeen) → seen_of x ≡ seen_free → x ≡ Free
free_or_not Free e = refl
free_or_not (Open serial) e = absurd (apart serial e)
  where
    apart : (serial : ℕ) → seen_open serial ≡ seen_free → ⊥
    apart serial e = cc
free_or_not (Taking team serial) e = absurd (apart team serial e)
  where
    apart : (team serial : ℕ) → seen_taking team serial ≡ seen_free → ⊥
    apart team serial e = cc

pub open_or_not : (x : CellSeen) (serial : ℕ) → seen_of x ≡ seen_open serial → x ≡ Open serial
open_or_not Free serial e = absurd (apart serial e)
  where
    apart : (serial : ℕ) → seen_free ≡ seen_open serial → ⊥
    apart serial e = cc
open_or_not (Open n) serial e = ap (λ m. Open m) (same n serial e)
  where
    same : (n serial : ℕ) → seen_open n ≡ seen_open serial → n ≡ serial
    same n serial e = cc
open_or_not (Taking team n) serial e = absurd (apart team n serial e)
  where
    apart : (team n serial : ℕ) → seen_taking team n ≡ seen_open serial → ⊥
    apart team n serial e = cc

-- How many keys are left after each call.
pub forked_left : (p : Plain) (was placed : Placed) (t u : Tally) (left sum team : ℕ) (key longer : Key) (clauses : List ℕ) (others : List Key)
    → plain_of was t ≡ p → left ≡ left_of was.state → sum ≡ left + length others → others ≡ children longer clauses
    → Turns (Event.fork team key longer clauses) Reply.forked p (plain_of placed u) → sum ≡ left_of placed.state + 1
forked_left p was placed t u left sum team key longer clauses others view number sum_is others_are turns =
    let same = ap left_of (state_is p was t view) in
    let counted = left_is_counted p.state placed.state (Event.fork team key longer clauses) Reply.forked turns.does in
    let many = ap length others_are in
    omega arith

pub published_left : (p : Plain) (was placed : Placed) (t u : Tally) (left team cell : ℕ) (key : Key) → plain_of was t ≡ p → left ≡ left_of was.state
    → Turns (Event.publish team cell key) Reply.done p (plain_of placed u) → left ≡ left_of placed.state
published_left p was placed t u left team cell key view number turns =
    let same = ap left_of (state_is p was t view) in
    let counted = left_is_counted p.state placed.state (Event.publish team cell key) Reply.done turns.does in
    omega arith

pub taken_left : (p : Plain) (was placed : Placed) (t u : Tally) (left team cell serial : ℕ) (key : Key) → plain_of was t ≡ p
    → left ≡ left_of was.state → Takes team cell serial key p (plain_of placed u) → left ≡ left_of placed.state
taken_left p was placed t u left team cell serial key view number takes =
    let same = ap left_of (state_is p was t view) in
    let one = left_is_counted p.state takes.between.state (Event.claim team cell serial) (Reply.taken key) takes.claims.does in
    let two = left_is_counted takes.between.state placed.state (Event.clear team cell) Reply.cleared takes.clears.does in
    omega arith

-- A tree that was opened has one key left.
pub opened_left : (placed : Placed) (limit teams : ℕ) → 0 < teams → placed ≡ record { limit = limit; state = opening teams }
    → 1 ≡ left_of placed.state
opened_left placed limit teams some is = sym (ap (λ (x : Placed). left_of x.state) is ∙ ap length (opening_keys teams some))

pub cell_before : (p : Plain) (was : Placed) (t : Tally) (cell : ℕ) → plain_of was t ≡ p → IsCell was.state cell → IsCell p.state cell
cell_before p was t cell view is_cell = subst (λ (s : State). IsCell s cell) (state_is p was t view) is_cell
