-- What the events of a whole history did is a walk of the query, in some order.
use Rattle.std.proofs.Common.{ℕ, ◌+◌, ◌≡◌, ◌<◌, ◌≤◌, Bool, true, false, cond, ◌||◌, List, [], ◌∷◌, ◌++◌, length}
use Rattle.std.proofs.Common.{append_assoc, append-nil, refl, sym, ap, ◌∙◌, subst, arith, Contains}
use Rattle.std.specs.Prelude.{sum_by, nat_eq}
use Rattle.std.specs.Cmp.Lexicographic.{pointwise, bytes_decides}
use Rattle.std.proofs.lemmas.List.Sums.{sum_by-append, sum_by-cons}
use Rattle.and_model.specs.Programs.{Program}
use Rattle.and_model.specs.Trees.{QueryTree, query_agenda, blank, decided}
use Rattle.and_model.specs.Reached.{Split, Steps, ReachedBy}
use Rattle.and_model.specs.Listing.{Entry}
use Rattle.and_histories.specs.PlainTree.{Key, State, Event, fork, publish, claim, clear, end, look, left, answered, retired, Reply, Does}
use Rattle.and_histories.specs.PlainTree.{Holds, opening, children, keys_left, left_of}
use Rattle.and_histories.specs.Histories.{HistoryEntry, Carries}
use Rattle.and_histories.proofs.CoveringForks.{opening_keys, length_sum}
use Rattle.and_histories.proofs.KeptKeys.{keys_are_kept, total_keys}
use Rattle.and_laws.proofs.Ordered.{contains_first, contains_more}
use Rattle.and_walk_laws.specs.Walks.{Walks, SplitsBy}
use Rattle.and_team_laws.specs.Owed.{SameItems, OwesAnyhow}
use Rattle.and_team_laws.specs.Done.{IsPassing, Did, DidAll}
use Rattle.and_team_laws.proofs.Bools.{or_assoc, or_false}
use Rattle.and_team_laws.proofs.Roots.{from_query, from_split}
use Rattle.and_team_laws.proofs.Owing.{any_root, any_walked, any_forked, any_none}

-- The key that a fork or an end takes is in hand.
abbrev pub IsHeld : State → Event → Type 0
IsHeld s (fork team key longer clauses) = Holds s team key
IsHeld s (publish team cell key) = Unit {0}
IsHeld s (claim team cell serial) = Unit {0}
IsHeld s (clear team cell) = Unit {0}
IsHeld s (end team key how) = Holds s team key
IsHeld s (look team cell) = Unit {0}
IsHeld s (left team) = Unit {0}

pub is_held : (s next : State) (event : Event) (reply : Reply) → Does s event reply next → IsHeld s event
is_held s next event reply (Does.forks team key longer clauses held is_prefix) = held
is_held s next event reply (Does.finds_spent team cell key is_cell owns held is) = tt
is_held s next event reply (Does.finds_not_free team cell key is_cell owns held is other) = tt
is_held s next event reply (Does.publishes team cell key is_cell owns held is is_free) = tt
is_held s next event reply (Does.takes team cell serial key is_team is_open) = tt
is_held s next event reply (Does.misses team cell serial is_team is_cell other) = tt
is_held s next event reply (Does.clears team cell is_taking) = tt
is_held s next event reply (Does.ends team key how held) = held
is_held s next event reply (Does.looks team cell is_team is_cell) = tt
is_held s next event reply (Does.counts team is_team) = tt

-- An event that only moves a key, or asks, changes no sum over the keys.
pub moves_none : (f : Key → ℕ) (s next : State) (event : Event) (reply : Reply) → IsPassing event → Does s event reply next
    → sum_by f (keys_left next) ≡ sum_by f (keys_left s)
moves_none f s next (fork team key longer clauses) reply is does = absurd is
moves_none f s next (publish team cell key) reply is does = let kept = keys_are_kept f s next (publish team cell key) reply does in omega arith
moves_none f s next (claim team cell serial) reply is does = let kept = keys_are_kept f s next (claim team cell serial) reply does in omega arith
moves_none f s next (clear team cell) reply is does = let kept = keys_are_kept f s next (clear team cell) reply does in omega arith
moves_none f s next (end team key how) reply is does = absurd is
moves_none f s next (look team cell) reply is does = let kept = keys_are_kept f s next (look team cell) reply does in omega arith
moves_none f s next (left team) reply is does = let kept = keys_are_kept f s next (left team) reply does in omega arith

-- 1 at the key
abbrev pub at_key : Key → Key → ℕ
at_key key k = cond (pointwise nat_eq key k) 1 0

-- A key in hand is among those that are left.
pub held_counts : (s : State) (team : ℕ) (key : Key) → Holds s team key → 1 ≤ sum_by (at_key key) (keys_left s)
held_counts s team key held =
    let one : at_key key key ≡ 1 = ap (λ b. cond b 1 0) ((bytes_decides key key).1 refl) in
    let kept = total_keys (at_key key) s team key [] held in
    omega arith

module _ (P : Program) (limit : ℕ) where
  abbrev query : QueryTree P
  query = blank (query_agenda P)

  -- All trees that are reached by the key come by Steps from the tree.
  abbrev IsRoot : Key → QueryTree P → Type 0
  IsRoot key r = (t : QueryTree P) → ReachedBy P limit key t → Steps r t

  abbrev AreRoots : List Key → List (QueryTree P) → Type 0
  AreRoots [] [] = Unit {0}
  AreRoots [] (t ∷ trees) = ⊥
  AreRoots (k ∷ keys) [] = ⊥
  AreRoots (k ∷ keys) (t ∷ trees) = IsRoot k t × AreRoots keys trees

  roots_join : (keys others : List Key) (trees more : List (QueryTree P)) → AreRoots keys trees → AreRoots others more
      → AreRoots (keys ++ others) (trees ++ more)
  roots_join [] others [] more a b = b
  roots_join [] others (t ∷ trees) more a b = absurd a
  roots_join (k ∷ keys) others [] more a b = absurd a
  roots_join (k ∷ keys) others (t ∷ trees) more a b = (a.0, roots_join keys others trees more a.1 b)

  -- the key among the keys, and its tree among the trees
  record Amid (key : Key) (keys : List Key) (trees : List (QueryTree P)) : Type 0 where
    pub keys_before : List Key
    pub keys_behind : List Key
    pub keys_are : keys ≡ keys_before ++ key ∷ keys_behind
    pub before : List (QueryTree P)
    pub root : QueryTree P
    pub behind : List (QueryTree P)
    pub trees_are : trees ≡ before ++ root ∷ behind
    pub roots_before : AreRoots keys_before before
    pub is_root : IsRoot key root
    pub roots_behind : AreRoots keys_behind behind

  amid : (key : Key) (keys : List Key) (trees : List (QueryTree P)) → AreRoots keys trees → 1 ≤ sum_by (at_key key) keys → Amid key keys trees
  amid key [] trees roots some = absurd (omega arith)
  amid key (k ∷ keys) [] roots some = absurd roots
  amid key (k ∷ keys) (t ∷ trees) roots some = by_test (pointwise nat_eq key k) refl (amid key keys trees roots.1)
    where
      by_test : (b : Bool) → pointwise nat_eq key k ≡ b → (1 ≤ sum_by (at_key key) keys → Amid key keys trees)
          → Amid key (k ∷ keys) (t ∷ trees)
      by_test true is rest =
          let same : key ≡ k = (bytes_decides key k).0 is in
          record {
            keys_before = [];
            keys_behind = keys;
            keys_are = ap (λ z. z ∷ keys) (sym same);
            before = [];
            root = t;
            behind = trees;
            trees_are = refl;
            roots_before = tt;
            is_root = subst (λ z. IsRoot z t) (sym same) roots.0;
            roots_behind = roots.1;
          }
      by_test false is rest =
          let none : at_key key k ≡ 0 = ap (λ b. cond b 1 0) is in
          let whole = sum_by-cons (at_key key) k keys in
          let a : Amid key keys trees = rest (omega arith) in
          record {
            keys_before = k ∷ a.keys_before;
            keys_behind = a.keys_behind;
            keys_are = ap (λ z. k ∷ z) a.keys_are;
            before = t ∷ a.before;
            root = a.root;
            behind = a.behind;
            trees_are = ap (λ z. t ∷ z) a.trees_are;
            roots_before = (roots.0, a.roots_before);
            is_root = a.is_root;
            roots_behind = a.roots_behind;
          }

  -- The splits by these clauses are the roots of the children's keys.
  record Children (t : QueryTree P) (cs : List ℕ) : Type 0 where
    pub trees : List (QueryTree P)
    pub splits : SplitsBy t cs trees
    pub roots : AreRoots (children (decided t) cs) trees

  children_of : (key : Key) (t : QueryTree P) → ReachedBy P limit key t → (cs : List ℕ)
      → ((c : ℕ) → Contains cs c → (next : QueryTree P) × Split t c next) → Children t cs
  children_of key t reached [] each = record { trees = []; splits = SplitsBy.no_more t; roots = tt }
  children_of key t reached (c ∷ cs) each =
      let (next, split) = each c (contains_first c cs) in
      let rest : Children t cs = children_of key t reached cs (λ d i. each d (contains_more c d cs i)) in
      record {
        trees = next ∷ rest.trees;
        splits = SplitsBy.one_more t next c cs rest.trees split rest.splits;
        roots = (λ v h. from_split P limit key t reached c next v split h, rest.roots);
      }

  -- What was done leaves a tree to walk for each key that is left.
  record Owing (s : State) (es : List Entry) (f m : ℕ) (b : Bool) : Type 0 where
    pub keys : List Key
    pub trees : List (QueryTree P)
    pub roots : AreRoots keys trees
    pub same : SameItems keys (keys_left s)
    pub owes : OwesAnyhow P limit query trees es f m b

  -- (one key in the place of others)
  replaced_sums : (g : Key → ℕ) (key : Key) (before behind keys : List Key) (old now new sum : ℕ) → keys ≡ before ++ key ∷ behind
      → sum_by g keys ≡ old → now + g key ≡ old + new → sum ≡ (sum_by g before + new) + sum_by g behind → sum ≡ now
  replaced_sums g key before behind keys old now new sum are is change whole =
      let one = ap (sum_by g) are in
      let two = sum_by-append g before (key ∷ behind) in
      let three = sum_by-cons g key behind in
      omega arith

  -- A key that ends, with a walk of a tree that is reached by it.
  gone : (s next : State) (team : ℕ) (key : Key) → Holds s team key → (es ks : List Entry) (f m g n : ℕ) (b d : Bool) → Owing s es f m b
      → (t : QueryTree P) → ReachedBy P limit key t → Walks P limit t ks g n d
      → ((q : Key → ℕ) → sum_by q (keys_left next) + q key ≡ sum_by q (keys_left s)) → Owing next (es ++ ks) (f + g) (m + n) (b || d)
  gone s next team key held es ks f m g n b d o t reached walks kept =
      let a : Amid key o.keys o.trees = amid key o.keys o.trees o.roots
      (let some = held_counts s team key held in omega (arith, some, o.same (at_key key))) in
      let owes : OwesAnyhow P limit query (a.before ++ a.root ∷ a.behind) es f m b = subst (λ z. OwesAnyhow P limit query z es f m b) a.trees_are o.owes in
      record {
        keys = a.keys_before ++ a.keys_behind;
        trees = a.before ++ a.behind;
        roots = roots_join a.keys_before a.keys_behind a.before a.behind a.roots_before a.roots_behind;
        same = λ q. replaced_sums q key a.keys_before a.keys_behind o.keys (sum_by q (keys_left s)) (sum_by q (keys_left next)) 0
            (sum_by q (a.keys_before ++ a.keys_behind)) a.keys_are (o.same q) (let k = kept q in omega arith)
            (omega (arith, sum_by-append q a.keys_before a.keys_behind));
        owes = any_walked P limit query a.root t a.before a.behind es ks f m g n b d owes (a.is_root t reached) walks;
      }

  step : (s next : State) (event : Event) (reply : Reply) → Does s event reply next → (es ks : List Entry) (f m g n : ℕ) (b d : Bool)
      → Owing s es f m b → Did P limit event ks g n d → Owing next (es ++ ks) (f + g) (m + n) (b || d)
  step s next event reply does es ks f m g n b d o (Did.forked team key cs t c reached fork_is) =
      let a : Amid key o.keys o.trees = amid key o.keys o.trees o.roots
      (let some = held_counts s team key (is_held s next (fork team key (decided t) cs) reply does) in omega (arith, some, o.same (at_key key))) in
      let new : Children t cs = children_of key t reached cs (λ e i. let k = (fork_is.fitting e).0 i in (k.0, k.1)) in
      let owes : OwesAnyhow P limit query (a.before ++ a.root ∷ a.behind) es f m b = subst (λ z. OwesAnyhow P limit query z es f m b) a.trees_are o.owes in
      let now : OwesAnyhow P limit query ((a.before ++ new.trees) ++ a.behind) es (f + 1) m (b || c) =
      any_forked P limit query a.root t a.before a.behind new.trees es f m b c cs owes (a.is_root t reached) fork_is new.splits in
      record {
        keys = (a.keys_before ++ children (decided t) cs) ++ a.keys_behind;
        trees = (a.before ++ new.trees) ++ a.behind;
        roots = roots_join (a.keys_before ++ children (decided t) cs) a.keys_behind (a.before ++ new.trees) a.behind
            (roots_join a.keys_before (children (decided t) cs) a.before new.trees a.roots_before new.roots) a.roots_behind;
        same = λ q. replaced_sums q key a.keys_before a.keys_behind o.keys (sum_by q (keys_left s)) (sum_by q (keys_left next))
            (sum_by q (children (decided t) cs)) (sum_by q ((a.keys_before ++ children (decided t) cs) ++ a.keys_behind))
            a.keys_are (o.same q)
            (let kept = keys_are_kept q s next (fork team key (decided t) cs) reply does in omega arith)
            (omega (
              arith,
              sum_by-append q (a.keys_before ++ children (decided t) cs) a.keys_behind,
              sum_by-append q a.keys_before (children (decided t) cs),
            ));
        owes = subst (λ z. OwesAnyhow P limit query ((a.before ++ new.trees) ++ a.behind) z (f + 1) (m + 0) (b || c)) (sym (append-nil es))
            (subst (λ z. OwesAnyhow P limit query ((a.before ++ new.trees) ++ a.behind) es (f + 1) z (b || c)) (omega arith) now);
      }
  step s next event reply does es ks f m g n b d o (Did.told team key t entry reached walks) =
      gone s next team key (is_held s next (end team key answered) reply does) es ks f m g n b d o t reached walks
      (λ q. let kept = keys_are_kept q s next (end team key answered) reply does in omega arith)
  step s next event reply does es ks f m g n b d o (Did.ended team key t forks failed is_cut reached walks none) =
      gone s next team key (is_held s next (end team key retired) reply does) es ks f m g n b d o t reached walks
      (λ q. let kept = keys_are_kept q s next (end team key retired) reply does in omega arith)
  step s next event reply does es ks f m g n b d o (Did.passed event' is) = record {
    keys = o.keys;
    trees = o.trees;
    roots = o.roots;
    same = λ q. o.same q ∙ sym (moves_none q s next event reply is does);
    owes = subst (λ z. OwesAnyhow P limit query o.trees z (f + 0) (m + 0) (b || false)) (sym (append-nil es))
        (subst (λ z. OwesAnyhow P limit query o.trees es z (m + 0) (b || false)) (omega arith)
        (subst (λ z. OwesAnyhow P limit query o.trees es f z (b || false)) (omega arith)
        (subst (λ z. OwesAnyhow P limit query o.trees es f m z) (sym (or_false b)) o.owes)));
  }

  -- ---- the whole

  abbrev IsWalked : List Entry → (forks failed : ℕ) → (is_cut : Bool) → Type 0
  IsWalked es f m b = (all : List Entry) × Walks P limit query all f m b × SameItems all es

  no_trees : (keys : List Key) (trees : List (QueryTree P)) → AreRoots keys trees → length keys ≡ 0 → trees ≡ []
  no_trees [] [] roots none = refl
  no_trees [] (t ∷ trees) roots none = absurd roots
  no_trees (k ∷ keys) trees roots none = absurd (omega arith)

  over : (s : State) (es : List Entry) (f m : ℕ) (b : Bool) → Owing s es f m b → left_of s ≡ 0 → IsWalked es f m b
  over s es f m b o none =
      let one = length_sum o.keys in
      let two = length_sum (keys_left s) in
      let three = o.same (λ _. 1) in
      let empty : o.trees ≡ [] = no_trees o.keys o.trees o.roots (omega arith) in
      any_none P limit query es f m b (subst (λ z. OwesAnyhow P limit query z es f m b) empty o.owes)

  walked_alike : (es ks : List Entry) (f g m n : ℕ) (b d : Bool) → IsWalked es f m b → es ≡ ks → f ≡ g → m ≡ n → b ≡ d → IsWalked ks g n d
  walked_alike es ks f g m n b d w p q r s =
      subst (λ z. IsWalked z g n d) p (subst (λ z. IsWalked es z n d) q (subst (λ z. IsWalked es f z d) r (subst (λ z. IsWalked es f m z) s w)))

  walk_on : (s after : State) (history : List HistoryEntry) → Carries s history after → left_of after ≡ 0
      → (es ks : List Entry) (f m g n : ℕ) (b d : Bool) → Owing s es f m b → DidAll P limit history ks g n d
      → IsWalked (es ++ ks) (f + g) (m + n) (b || d)
  walk_on s after history carried none es ks f m g n b d o DidAll.none =
      let here : left_of s ≡ 0 = ap left_of carried ∙ none in
      walked_alike es (es ++ []) f (f + 0) m (m + 0) b (b || false) (over s es f m b o here) (sym (append-nil es)) (omega arith) (omega arith)
      (sym (or_false b))
  walk_on s after history carried none es ks f m g n b d o (DidAll.more e rest js others f1 m1 f2 m2 b1 b2 did x) =
      let (next, does, on) = carried in
      let now : Owing next (es ++ js) (f + f1) (m + m1) (b || b1) = step s next e.event e.reply does es js f m f1 m1 b b1 o did in
      walked_alike ((es ++ js) ++ others) (es ++ (js ++ others)) ((f + f1) + f2) (f + (f1 + f2)) ((m + m1) + m2) (m + (m1 + m2))
      ((b || b1) || b2) (b || (b1 || b2))
      (walk_on next after rest on none (es ++ js) others (f + f1) (m + m1) f2 m2 (b || b1) b2 now x)
      (append_assoc es js others) (omega arith) (omega arith) (sym (or_assoc b b1 b2))

  pub history_walked : (teams : ℕ) (history : List HistoryEntry) (s : State) (es : List Entry) (f m : ℕ) (b : Bool) → 0 < teams
      → Carries (opening teams) history s → left_of s ≡ 0 → DidAll P limit history es f m b → IsWalked es f m b
  history_walked teams history s es f m b some carried none did =
      let start : Owing (opening teams) [] 0 0 false = record {
        keys = [] ∷ [];
        trees = query ∷ [];
        roots = (from_query P limit, tt);
        same = λ q. ap (sum_by q) (sym (opening_keys teams some));
        owes = any_root P limit query;
      } in
      walked_alike es es (0 + f) f (0 + m) m b b (walk_on (opening teams) s history carried none [] es 0 0 f m false b start did) refl
      (omega arith) (omega arith) refl
