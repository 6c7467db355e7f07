-- What keeps the keys in a team's hand and its tasks together: tasks in another order, a task that ends, joins, leaves or is forked, and a
-- child that is parted from the others. The hand is told by sums, so no order of keys matters.
use Rattle.std.proofs.Common.{ℕ, ◌+◌, ◌*◌, ◌^◌, ◌≡◌, ◌≢◌, ◌<◌, ◌≤◌, Bool, get_or, drop, List, [], ◌∷◌, ◌++◌, length, refl, sym, ap, subst}
use Rattle.std.proofs.Common.{◌∙◌, arith, Contains, Vec, append-nil}
use Rattle.std.specs.Prelude.{sum_by, flat_map}
use Rattle.std.specs.List.{remove}
use Rattle.std.specs.declared.alloc.Global.{Global}
use Rattle.std.proofs.lemmas.List.{length-map, drop_all, nil_from_length}
use Rattle.std.proofs.lemmas.List.Elements.{Contains-append_left, Contains-append_right}
use Rattle.std.proofs.lemmas.List.Sums.{sum_by-append, sum_by-cons}
use Rattle.std.proofs.lemmas.List.Concat.{flat_map-append}
use Rattle.and_model.specs.Trees.{QueryTree}
use Rattle.and_laws.proofs.Ordered.{contains_first}
use Rattle.and_cells.specs.Ranges.{NamedProgram}
use Rattle.and_branch_laws.specs.States.{StateOf, fork}
use Rattle.and_code.specs.Telling.{IsTold}
use Rattle.and_code.specs.declared.telling.CodeSoFar.{CodeSoFar}
use Rattle.and_branch.specs.Branches.{Held}
use Rattle.and_branch.specs.Children.{Fork, AreChildren, IsChild}
use Rattle.and_branch.proofs.OtherChildren.{others_stand}
use Rattle.and_histories.specs.PlainTree as plain
use Rattle.and_histories.specs.PlainTree.{Key, Ending, children}
use Rattle.and_tree.specs.Passes.{TreeId, PassSeen, Makes, Takes}
use Rattle.and_tree.proofs.Hands.{taken_hand}
use Rattle.and_search_laws.proofs.Splitting.{candidate_splits}
use Rattle.and_team_laws.specs.Owed.{SameItems}
use Rattle.and_tasks.specs.Placed.{StandsWithin}
use Rattle.and_tasks.specs.Working.{keys_of, AreToCome, IsTask, AreTasks, Has}
use Rattle.and_tasks.specs.declared.stack.Level.{Level}
use Rattle.and_tasks.specs.declared.stack.Task.{Task}
use Rattle.and_tasks.specs.declared.stack.Task.TheVariants.{One, Children, Left}
use Rattle.and_tasks.proofs.Calls.{ended_sum, forked_sum, published_sum, taken_sum, same_keys}

-- ---- the keys of tasks

-- the keys of all tasks
abbrev pub all_keys : {N : Type 0} → List (Task N) → List Key
all_keys {N} tasks = flat_map (λ (x : Task N). keys_of x) tasks

module _ {N : Type 0} (f : Key → ℕ) where
  pub sum_joined : (xs ys : List (Task N)) → sum_by f (all_keys (xs ++ ys)) ≡ sum_by f (all_keys xs) + sum_by f (all_keys ys)
  sum_joined xs ys = ap (sum_by f) (flat_map-append (λ (x : Task N). keys_of x) xs ys) ∙ sum_by-append f (all_keys xs) (all_keys ys)

  pub sum_first : (x : Task N) (xs : List (Task N)) → sum_by f (all_keys (x ∷ xs)) ≡ sum_by f (keys_of x) + sum_by f (all_keys xs)
  sum_first x xs = sum_by-append f (keys_of x) (all_keys xs)

count_is : (keys : List Key) → sum_by (λ (key : Key). 1) keys ≡ length keys
count_is [] = refl
count_is (k ∷ keys) = let one = sum_by-cons (λ (key : Key). 1) k keys in let rest = count_is keys in omega (arith, one, rest)

-- ---- tasks that stand for trees

module _ {N : Type 0} (P : NamedProgram) (limit : ℕ) where
  pub tasks_joined : (xs ys : List (Task N)) → AreTasks P limit xs → AreTasks P limit ys → AreTasks P limit (xs ++ ys)
  tasks_joined [] ys are others = others
  tasks_joined (x ∷ xs) ys are others = (are.0, tasks_joined xs ys are.1 others)

  pub tasks_front : (xs ys : List (Task N)) → AreTasks P limit (xs ++ ys) → AreTasks P limit xs
  tasks_front [] ys are = tt
  tasks_front (x ∷ xs) ys are = (are.0, tasks_front xs ys are.1)

  pub tasks_behind : (xs ys : List (Task N)) → AreTasks P limit (xs ++ ys) → AreTasks P limit ys
  tasks_behind [] ys are = are
  tasks_behind (x ∷ xs) ys are = tasks_behind xs ys are.1

  few_keys : (x : Task N) → IsTask P limit x → length (keys_of x) ≤ 2 ^ 16
  few_keys (One b) is = omega arith
  few_keys (Left b) is = omega arith
  few_keys (Children l) is =
      let mapped = length-map l.point.clauses (λ (c : ℕ). l.point.longer ++ c ∷ []) in
      let few = is.few in
      omega (arith, mapped, few)

  few_sums : (xs : List (Task N)) → AreTasks P limit xs → sum_by (λ (key : Key). 1) (all_keys xs) ≤ length xs * 2 ^ 16
  few_sums [] are = omega arith
  few_sums (x ∷ xs) are =
      let whole = sum_first (λ (key : Key). 1) x xs in
      let one = count_is (keys_of x) in
      let few = few_keys x are.0 in
      let rest = few_sums xs are.1 in
      omega (arith, whole, one, few, rest)

module _ (P : NamedProgram) (limit : ℕ) where
  -- The branch is the next child of the fork: it stands for a tree.
  child_stands : (f g : Fork) (b : Held) (t : QueryTree P.program) → IsChild P f g b → AreChildren P f t → f.parent.limit ≡ limit
      → StandsWithin P limit b
  child_stands f g b t is x limited =
      let s : StateOf P.program f.parent.limit t (fork x.open_goal (x.made ++ f.clauses) x.cut) = x.state in
      let there : Contains (x.made ++ f.clauses) is.clause =
      Contains-append_right x.made f.clauses is.clause
      (subst (λ cs. Contains cs is.clause) (sym is.next) (contains_first is.clause g.clauses)) in
      let k = (s.5 is.clause).0 there in
      let (next, split) = candidate_splits t x.open_goal s.0 s.1 s.2 is.clause k.0 in
      record { tree = next; branch = is.stands t next x split; limited = is.limit ∙ limited }

  -- What is told of the others stays.
  pub others_come : {N : Type 0} (l m : Level N) (b : Held) → IsChild P l.point m.point b → m.told ≡ l.told → m.longer.value ≡ l.longer.value
      → m.point.clauses ≢ [] → AreToCome P limit l → AreToCome P limit m
  others_come l m b is told longer some x =
      let fewer = ap (λ (cs : List ℕ). length cs) is.next in
      let few = x.few in record {
        tree = x.tree;
        children = others_stand P l.point m.point b x.tree is x.children;
        limited = ap (λ (d : Held). d.limit) is.parent ∙ x.limited;
        some = some;
        few = omega (arith, few, fewer);
        told = subst (λ (u : CodeSoFar). IsTold P.program m.point.parent.reductions u m.point.longer) (sym told)
            (subst (λ (key : Key). IsTold P.program m.point.parent.reductions l.told key) (sym is.longer)
            (subst (λ (d : Held). IsTold P.program d.reductions l.told l.point.longer) (sym is.parent) x.told));
        long = ap (λ (u : CodeSoFar). u.length) told ∙ x.long ∙ ap (λ (key : Key). length key) (sym is.longer);
        longer = longer ∙ x.longer ∙ sym is.longer;
      }

-- ---- lists

pub some_long : {A : Type 0} (xs : List A) → xs ≢ [] → 0 < length xs
some_long [] some = absurd (some refl)
some_long (x ∷ xs) some = omega arith

pub some_left : (cs : List ℕ) → length cs ≢ 0 → cs ≢ []
some_left cs more none = more (ap (λ (ds : List ℕ). length ds) none)

pub first_removed : {A : Type 0} (xs others : List A) (x : A) → xs ≢ [] → x ≡ get_or xs 0 x → others ≡ remove xs 0 → xs ≡ x ∷ others
first_removed [] others x some is rest = absurd (some refl)
first_removed (y ∷ ys) others x some is rest = ap (λ z. z ∷ ys) (sym is) ∙ ap (λ zs. x ∷ zs) (sym rest)

-- what a list has that is the same as one that has this
pub items_still : {A : Type 0} (v w : Vec A Global) (xs : List A) → v ≡ w → w.items ≡ xs → v.items ≡ xs
items_still {A} v w xs same is = ap (λ (z : Vec A Global). z.items) same ∙ is

-- ---- the keys of children

-- The key of the next child stands before those of the others.
children_parted : {P : NamedProgram} (f g : Fork) (b : Held) → IsChild P f g b
    → children f.longer f.clauses ≡ b.key ∷ children g.longer g.clauses
children_parted f g b is =
    ap (children f.longer) is.next ∙ ap (λ k. k ∷ children f.longer g.clauses) (sym is.key)
    ∙ ap (λ l. b.key ∷ children l g.clauses) (sym is.longer)

-- The key of a child that is still to come is in the hand,
pub child_in_hand : (hand others : List Key) (key longer : Key) (clauses rest : List ℕ) (c : ℕ) → clauses ≡ c ∷ rest
    → key ≡ longer ++ c ∷ [] → SameItems hand (children longer clauses ++ others) → Contains hand key
child_in_hand hand others key longer clauses rest c is key_is same =
    same_keys hand (children longer clauses ++ others) same key
    (subst (λ k. Contains (children longer clauses ++ others) k) (sym key_is)
    (subst (λ cs. Contains (children longer cs ++ others) (longer ++ c ∷ [])) (sym is)
    (contains_first (longer ++ c ∷ []) (children longer rest ++ others))))

-- and where it ended the others are.
pub child_ended : (others : List Key) (key longer : Key) (clauses rest : List ℕ) (c : ℕ) (how : Ending) (is_last : Bool) (p q : PassSeen)
    → clauses ≡ c ∷ rest → key ≡ longer ++ c ∷ [] → Makes (plain.end p.team key how) (plain.last is_last) p q
    → SameItems p.hand (children longer clauses ++ others) → SameItems q.hand (children longer rest ++ others)
child_ended others key longer clauses rest c how is_last p q is key_is m same = λ f.
    let ended = ended_sum f key how is_last p q m in
    let all = same f in
    let whole = ap (λ cs. sum_by f (children longer cs ++ others)) is in
    let one = sum_by-cons f (longer ++ c ∷ []) (children longer rest ++ others) in
    let of = ap f key_is in
    omega (arith, ended, all, whole, one, of)

-- A hand with the keys of no task is empty.
nothing_in_hand : (hand : List Key) → SameItems hand [] → hand ≡ []
nothing_in_hand [] same = refl
nothing_in_hand (k ∷ keys) same =
    let one = same (λ (key : Key). 1) in
    let whole = sum_by-cons (λ (key : Key). 1) k keys in
    absurd (omega (arith, one, whole))

-- ---- what a team has

module _ {N : Type 0} (P : NamedProgram) (tree : TreeId) where
  -- A team without tasks has no key in its hand.
  pub has_nothing : (pass : PassSeen) (tasks : List (Task N)) → tasks ≡ [] → Has P tree pass tasks → pass.hand ≡ []
  has_nothing pass tasks none h =
      nothing_in_hand pass.hand (subst (λ (ts : List (Task N)). Has P tree pass ts) none h).hand

  -- What was left of a branch has no key.
  pub has_unleft : (pass : PassSeen) (b : Held) (xs : List (Task N)) → Has P tree pass (Left b ∷ xs) → Has P tree pass xs
  has_unleft pass b xs h = record { of_tree = h.of_tree; hand = h.hand; tasks_are = h.tasks_are.1 }

  -- other tasks of the same keys
  pub has_others : (pass : PassSeen) (tasks others : List (Task N)) → Has P tree pass tasks → AreTasks P tree.about.limit others
      → SameItems (all_keys tasks) (all_keys others) → Has P tree pass others
  has_others pass tasks others h are same = record { of_tree = h.of_tree; hand = λ f. h.hand f ∙ same f; tasks_are = are }

  -- tasks in another order: those behind in front,
  pub has_turned : (pass : PassSeen) (xs ys : List (Task N)) → Has P tree pass (xs ++ ys) → Has P tree pass (ys ++ xs)
  has_turned pass xs ys h =
      has_others pass (xs ++ ys) (ys ++ xs) h
      (tasks_joined P tree.about.limit ys xs (tasks_behind P tree.about.limit xs ys h.tasks_are) (tasks_front P tree.about.limit xs ys h.tasks_are))
      (λ f. let one = sum_joined f xs ys in let other = sum_joined f ys xs in omega (arith, one, other))

  -- the last in front,
  pub has_popped : (pass : PassSeen) (xs : List (Task N)) (x : Task N) → Has P tree pass (xs ++ x ∷ []) → Has P tree pass (x ∷ xs)
  has_popped pass xs x h = has_turned pass xs (x ∷ []) h

  -- the first behind all others,
  pub has_pushed : (pass : PassSeen) (xs : List (Task N)) (x : Task N) → Has P tree pass (x ∷ xs) → Has P tree pass (xs ++ x ∷ [])
  has_pushed pass xs x h = has_turned pass (x ∷ []) xs h

  -- the second in front.
  pub has_swapped : (pass : PassSeen) (x y : Task N) (xs : List (Task N)) → Has P tree pass (x ∷ y ∷ xs) → Has P tree pass (y ∷ x ∷ xs)
  has_swapped pass x y xs h =
      has_others pass (x ∷ y ∷ xs) (y ∷ x ∷ xs) h (h.tasks_are.1.0, (h.tasks_are.0, h.tasks_are.1.1))
      (λ f.
      let one = sum_first f x (y ∷ xs) in
      let two = sum_first f y xs in
      let three = sum_first f y (x ∷ xs) in
      let four = sum_first f x xs in
      omega (arith, one, two, three, four))

  -- The first of the tasks was taken off, and is this one,
  pub has_removed : (pass : PassSeen) (xs rest : List (Task N)) (x y : Task N) → xs ≢ [] → x ≡ get_or xs 0 x → rest ≡ remove xs 0 → x ≡ y
      → Has P tree pass xs → Has P tree pass (y ∷ rest)
  has_removed pass xs rest x y some is others same h =
      subst (λ (t : Task N). Has P tree pass (t ∷ rest)) same
      (subst (λ (ts : List (Task N)). Has P tree pass ts) (first_removed xs rest x some is others) h)

  -- or the last;
  pub has_last_off : (pass : PassSeen) (xs rest : List (Task N)) (x : Task N) → xs ≡ rest ++ x ∷ [] → Has P tree pass xs
      → Has P tree pass (x ∷ rest)
  has_last_off pass xs rest x is h = has_popped pass rest x (subst (λ (ts : List (Task N)). Has P tree pass ts) is h)

  -- or none.
  pub has_none_off : (pass : PassSeen) (xs rest : List (Task N)) → xs ≡ rest ++ [] → Has P tree pass xs → Has P tree pass rest
  has_none_off pass xs rest is h = subst (λ (ts : List (Task N)). Has P tree pass ts) (is ∙ append-nil rest) h

  -- The keys of the first task are in the hand,
  pub first_in_hand : (pass : PassSeen) (x : Task N) (xs : List (Task N)) → Has P tree pass (x ∷ xs) → (key : Key) → Contains (keys_of x) key
      → Contains pass.hand key
  first_in_hand pass x xs h key i =
      same_keys pass.hand (all_keys (x ∷ xs)) h.hand key (Contains-append_left (keys_of x) (all_keys xs) key i)

  -- that of a branch, too.
  pub key_in_hand : (pass : PassSeen) (b : Held) (xs : List (Task N)) → Has P tree pass (One b ∷ xs) → Contains pass.hand b.key
  key_in_hand pass b xs h = first_in_hand pass (One b) xs h b.key (contains_first b.key [])

  -- The hand has few keys, where the tasks are few.
  pub hand_bounded : (pass : PassSeen) (xs : List (Task N)) → Has P tree pass xs → length pass.hand ≤ length xs * 2 ^ 16
  hand_bounded pass xs h =
      let few = few_sums P tree.about.limit xs h.tasks_are in
      let all = count_is pass.hand in
      let same = h.hand (λ (key : Key). 1) in
      omega (arith, few, all, same)

  -- ---- after a call

  -- The hand is the same.
  pub has_still : (p q : PassSeen) (xs : List (Task N)) → q.hand ≡ p.hand → q.tree ≡ p.tree → Has P tree p xs → Has P tree q xs
  has_still p q xs same of h = record {
    of_tree = of ∙ h.of_tree;
    hand = λ f. ap (sum_by f) same ∙ h.hand f;
    tasks_are = h.tasks_are;
  }

  -- The branch in front ended.
  pub has_ended : (b : Held) (xs : List (Task N)) (how : Ending) (is_last : Bool) (p q : PassSeen)
      → Makes (plain.end p.team b.key how) (plain.last is_last) p q → Has P tree p (One b ∷ xs) → Has P tree q xs
  has_ended b xs how is_last p q m h = record {
    of_tree = m.tree ∙ h.of_tree;
    hand = λ f.
        let ended = ended_sum f b.key how is_last p q m in
        let all = h.hand f in
        let one = sum_by-cons f b.key (all_keys xs) in
        omega (arith, ended, all, one);
    tasks_are = h.tasks_are.1;
  }

  -- (under the key that the branch tells)
  pub key_there : (pass : PassSeen) (b : Held) (xs : List (Task N)) (key : Key) → key ≡ b.key → Has P tree pass (One b ∷ xs)
      → Contains pass.hand key
  key_there pass b xs key is h = subst (λ k. Contains pass.hand k) (sym is) (key_in_hand pass b xs h)

  pub has_ended_under : (key : Key) (b : Held) (xs : List (Task N)) (how : Ending) (is_last : Bool) (p q : PassSeen) → key ≡ b.key
      → Makes (plain.end p.team key how) (plain.last is_last) p q → Has P tree p (One b ∷ xs) → Has P tree q xs
  has_ended_under key b xs how is_last p q is m h =
      has_ended b xs how is_last p q (subst (λ k. Makes (plain.end p.team k how) (plain.last is_last) p q) is m) h

  -- It was published.
  pub has_published : (b : Held) (xs : List (Task N)) (cell : ℕ) (p q : PassSeen)
      → Makes (plain.publish p.team cell b.key) plain.done p q → Has P tree p (One b ∷ xs) → Has P tree q xs
  has_published b xs cell p q m h = record {
    of_tree = m.tree ∙ h.of_tree;
    hand = λ f.
        let published = published_sum f cell b.key p q m in
        let all = h.hand f in
        let one = sum_by-cons f b.key (all_keys xs) in
        omega (arith, published, all, one);
    tasks_are = h.tasks_are.1;
  }

  -- A branch was claimed.
  pub has_taken : (b : Held) (xs : List (Task N)) (cell serial : ℕ) (p q : PassSeen) → Takes cell serial b.key p q
      → StandsWithin P tree.about.limit b → Has P tree p xs → Has P tree q (One b ∷ xs)
  has_taken b xs cell serial p q t stands h = record {
    of_tree = (taken_hand cell serial b.key p q t).1 ∙ h.of_tree;
    hand = λ f.
        let taken = taken_sum f cell serial b.key p q t in
        let all = h.hand f in
        let one = sum_by-cons f b.key (all_keys xs) in
        omega (arith, taken, all, one);
    tasks_are = (stands, h.tasks_are);
  }

  -- The branch in front was forked: its children are in its place.
  pub has_forked : (l : Level N) (xs : List (Task N)) (p q : PassSeen)
      → Makes (plain.fork p.team l.point.parent.key l.point.longer l.point.clauses) plain.forked p q → AreToCome P tree.about.limit l
      → Has P tree p (One l.point.parent ∷ xs) → Has P tree q (Children l ∷ xs)
  has_forked l xs p q m task h =
      let f : Fork = l.point in record {
        of_tree = m.tree ∙ h.of_tree;
        hand = λ g.
            let forked = forked_sum g f.parent.key f.longer f.clauses p q m in
            let all = h.hand g in
            let one = sum_by-cons g f.parent.key (all_keys xs) in
            let new = sum_first g (Children l) xs in
            omega (arith, forked, all, one, new);
        tasks_are = (task, h.tasks_are.1);
      }

  -- ---- the children of a fork

  -- The next child is parted from the others.
  pub child_parted : (l m : Level N) (b : Held) (xs : List (Task N)) (pass : PassSeen) → IsChild P l.point m.point b → m.told ≡ l.told
      → m.longer.value ≡ l.longer.value → m.point.clauses ≢ [] → Has P tree pass (Children l ∷ xs) → Has P tree pass (One b ∷ Children m ∷ xs)
  child_parted l m b xs pass is told longer some h =
      let x : AreToCome P tree.about.limit l = h.tasks_are.0 in
      has_others pass (Children l ∷ xs) (One b ∷ Children m ∷ xs) h (
        child_stands P tree.about.limit l.point m.point b x.tree is x.children x.limited,
        (others_come P tree.about.limit l m b is told longer some x, h.tasks_are.1),
      )
      (λ s.
      ap (λ keys. sum_by s (keys ++ all_keys xs)) (children_parted l.point m.point b is))

  -- The last child is left.
  pub last_parted : (l : Level N) (g : Fork) (b : Held) (xs : List (Task N)) (pass : PassSeen) → IsChild P l.point g b
      → length l.point.clauses ≡ 1 → Has P tree pass (Children l ∷ xs) → Has P tree pass (One b ∷ xs)
  last_parted l g b xs pass is last h =
      let x : AreToCome P tree.about.limit l = h.tasks_are.0 in
      let whole = ap (λ (cs : List ℕ). length cs) is.next in
      let none : g.clauses ≡ [] = nil_from_length g.clauses (omega (arith, last, whole)) in
      has_others pass (Children l ∷ xs) (One b ∷ xs) h
      (child_stands P tree.about.limit l.point g b x.tree is x.children x.limited, h.tasks_are.1)
      (λ s. ap (λ keys. sum_by s (keys ++ all_keys xs)) (children_parted l.point g b is ∙ ap (λ cs. b.key ∷ children g.longer cs) none))

  -- (those that are still to come behind it first)
  pub rest_parted : (l m : Level N) (b : Held) (xs : List (Task N)) (pass : PassSeen) → IsChild P l.point m.point b
      → m ≡ record l { point = m.point } → m.point.clauses ≢ [] → Has P tree pass (Children l ∷ xs) → Has P tree pass (Children m ∷ One b ∷ xs)
  rest_parted l m b xs pass is same some h =
      has_swapped pass (One b) (Children m) xs
      (child_parted l m b xs pass is (ap (λ (k : Level N). k.told) same) (ap (λ (k : Level N). k.longer.value) same) some h)

  -- No child is left behind it.
  pub only_parted : (l m : Level N) (b : Held) (xs : List (Task N)) (pass : PassSeen) → IsChild P l.point m.point b
      → length m.point.clauses ≡ 0 → Has P tree pass (Children l ∷ xs) → Has P tree pass (One b ∷ xs)
  only_parted l m b xs pass is none h =
      let whole = ap (λ (cs : List ℕ). length cs) is.next in
      last_parted l m.point b xs pass is (omega (arith, whole, none)) h

  -- (there is a tree of which they are the children)
  pub children_there : (l : Level N) (xs : List (Task N)) (pass : PassSeen) → Has P tree pass (Children l ∷ xs)
      → (t : QueryTree P.program) × AreChildren P l.point t
  children_there l xs pass h = (h.tasks_are.0.tree, h.tasks_are.0.children)

  -- They are given up.
  pub has_given_up : (l : Level N) (xs : List (Task N)) (p q : PassSeen) → q.tree ≡ p.tree
      → SameItems q.hand (all_keys xs) → Has P tree p (Children l ∷ xs) → Has P tree q xs
  has_given_up l xs p q of same h = record { of_tree = of ∙ h.of_tree; hand = same; tasks_are = h.tasks_are.1 }

  -- The only one that was left is given up.
  pub has_last_given_up : (l : Level N) (key : Key) (c : ℕ) (xs : List (Task N)) (is_last : Bool) (p q : PassSeen) → length l.point.clauses ≡ 1
      → drop 0 l.point.clauses ≡ c ∷ drop 1 l.point.clauses → key ≡ l.point.longer ++ c ∷ []
      → Makes (plain.end p.team key plain.given_up) (plain.last is_last) p q → Has P tree p (Children l ∷ xs) → Has P tree q xs
  has_last_given_up l key c xs is_last p q one next is m h =
      let f : Fork = l.point in
      let none : drop 1 f.clauses ≡ [] = drop_all 1 f.clauses (omega (arith, one)) in
      has_given_up l xs p q m.tree
      (child_ended (all_keys xs) key f.longer f.clauses [] c plain.given_up is_last p q (next ∙ ap (λ cs. c ∷ cs) none) is m h.hand) h
