-- Facts by cases that have one proof at most.
use Rattle.std.specs.Prelude.{ℕ, suc, List, [], ◌∷◌, length, map}
use Rattle.std.specs.Coded.{×_prop, Unit-prop}
use Rattle.std.proofs.Props.{props}
use Rattle.and_program.specs.Skeletons.{Shape, variable, number, compound, NodeItem, call, equal, is, compare, fail}
use Rattle.and_program.specs.Skeletons.{Falls, IsFalling, AllFall, IsThere, AllThere, after}
use Rattle.and_program.specs.Items.{node_item}
use Rattle.and_program.specs.Kept.{IsWithin, AllWithin, IsEntry, AllEntries, IsProgram}
use Rattle.and_model.specs.Lines.{Bytes}
use Rattle.and_program.specs.declared.entry.ClauseEntry.{ClauseEntry}

pub Falls-prop : (n : ℕ) (ms : List ℕ) → IsProp (Falls n ms)
Falls-prop n [] = Unit-prop
Falls-prop n (m ∷ ms) = ×_prop (hlevel props) (Falls-prop n ms)

pub IsFalling-prop : (n : ℕ) (s : Shape) → IsProp (IsFalling n s)
IsFalling-prop n (variable k) = Unit-prop
IsFalling-prop n (number z) = Unit-prop
IsFalling-prop n (compound c ms) = Falls-prop n ms

pub AllFall-prop : (n : ℕ) (ss : List Shape) → IsProp (AllFall n ss)
AllFall-prop n [] = Unit-prop
AllFall-prop n (s ∷ ss) = ×_prop (IsFalling-prop n s) (AllFall-prop (suc n) ss)

pub IsThere-prop : (ss : List Shape) (k : ℕ) (i : NodeItem) → IsProp (IsThere ss k i)
IsThere-prop ss k (call n) = hlevel props
IsThere-prop ss k (equal n m) = hlevel props
IsThere-prop ss k (is n m pair) = hlevel props
IsThere-prop ss k (compare r n m) = hlevel props
IsThere-prop ss k fail = Unit-prop

pub AllThere-prop : (ss : List Shape) (k : ℕ) (items : List NodeItem) → IsProp (AllThere ss k items)
AllThere-prop ss k [] = Unit-prop
AllThere-prop ss k (i ∷ items) = ×_prop (IsThere-prop ss k i) (AllThere-prop ss (after k i) items)

pub IsWithin-prop : (m : ℕ) (s : Shape) → IsProp (IsWithin m s)
IsWithin-prop m (variable k) = hlevel props
IsWithin-prop m (number z) = Unit-prop
IsWithin-prop m (compound c ns) = hlevel props

pub AllWithin-prop : (m : ℕ) (ss : List Shape) → IsProp (AllWithin m ss)
AllWithin-prop m [] = Unit-prop
AllWithin-prop m (s ∷ ss) = ×_prop (IsWithin-prop m s) (AllWithin-prop m ss)

pub IsEntry-prop : (ss : List Shape) (e : ClauseEntry) → IsProp (IsEntry ss e)
IsEntry-prop ss e = hlevel (AllThere-prop ss 0 (map node_item e.items.items), props)

pub AllEntries-prop : (ss : List Shape) (es : List ClauseEntry) → IsProp (AllEntries ss es)
AllEntries-prop ss [] = Unit-prop
AllEntries-prop ss (e ∷ es) = ×_prop (IsEntry-prop ss e) (AllEntries-prop ss es)

pub IsProgram-prop : (ss : List Shape) (query : ClauseEntry) (es : List ClauseEntry) (names : List Bytes)
    → IsProp (IsProgram ss query es names)
IsProgram-prop ss query es names =
    hlevel (AllFall-prop 0 ss, AllWithin-prop (length names) ss, AllEntries-prop ss es, IsEntry-prop ss query, props)
