-- What one turn of unification does to what is still to be done.
use Rattle.std.specs.Prelude.{ℕ, suc, ◌≡◌, ◌⊎◌, ◌+◌, ◌-◌, ◌*◌, ◌^◌, List, [], ◌∷◌, ◌++◌, length, Contains}
use Rattle.and_model.specs.declared.reference.Ref.{Ref}
use Rattle.and_cells.specs.Ranges.{NamedProgram}
use Rattle.and_cells.specs.Seen.{Seen, OnlyReads, LeadsTo}
use Rattle.and_cells.specs.Parts.{parts_of}
use Rattle.and_unify.specs.declared.pairs.Pair.{Pair}
use Rattle.and_unify.specs.declared.turning.Work.{Work}
use Rattle.and_unify.specs.Meeting.{MeetAlike, MeetFree, MeetStructures, MeetApart}
use Rattle.and_unify.specs.Classes.{InOneClass, Joins}

-- the pairs of two lists, in order
abbrev pub pairs_of : List Ref → List Ref → List Pair
pairs_of [] qs = []
pairs_of (r ∷ rs) [] = []
pairs_of (r ∷ rs) (q ∷ qs) = record { left = r; right = q } ∷ pairs_of rs qs

-- What becomes of a pair: what is seen, the links, a list that takes the pairs of arguments, and the cells that were
-- set. Its sides are alike, or one is set to the other; or they are structures of one class, or of two that are
-- joined.
pub data Steps (P : NamedProgram) (p : Pair) (old new : Seen) (links links' : List (Ref × Ref))
    (list list' : List Pair) (bound bound' : List ℕ) : Type 0 where
  alike : MeetAlike P p.left p.right old new → links' ≡ links → list' ≡ list → bound' ≡ bound
      → Steps P p old new links links' list list' bound bound'
  sets : (cell : ℕ) → MeetFree P p.left p.right cell old new → links' ≡ links → list' ≡ list
      → bound' ≡ bound ++ cell ∷ []
      → Steps P p old new links links' list list' bound bound'
  one_class : (one other : Ref) → MeetStructures P p.left p.right old new one other → InOneClass links one other
      → links' ≡ links → list' ≡ list → bound' ≡ bound
      → Steps P p old new links links' list list' bound bound'
  joins : (one other : Ref) → MeetStructures P p.left p.right old new one other → Joins one other links links'
      → list' ≡ list ++ pairs_of (parts_of P one) (parts_of P other) → bound' ≡ bound
      → Steps P p old new links links' list list' bound bound'

-- Where unification stands: what is seen, the pairs that are to do, the pairs to do that cost nothing, the places
-- that were taken, the links and the fuel.
pub record Stand : Type 0 where
  pub seen : Seen
  pub pairs : List Pair
  pub rights : List Pair
  pub taken : List Ref
  pub links : List (Ref × Ref)
  pub fuel : ℕ

-- where unification stands with this work
abbrev pub stand : Seen → (pairs : List Pair) → Work → (fuel : ℕ) → Stand
stand seen pairs work fuel = record {
  seen = seen;
  pairs = pairs;
  rights = work.rights;
  taken = work.taken.keys;
  links = work.classes;
  fuel = fuel;
}

-- A pair that costs nothing was taken out.
pub record PicksOld (p : Pair) (old new : Stand) : Type 0 where
  pub reads : OnlyReads old.seen new.seen
  pub out : ((old.rights ≡ new.rights ++ p ∷ []) × (new.pairs ≡ old.pairs))
      ⊎ ((old.pairs ≡ new.pairs ++ p ∷ []) × (new.rights ≡ old.rights))
  pub taken : new.taken ≡ old.taken
  pub links : new.links ≡ old.links
  pub fuel : new.fuel ≡ old.fuel

-- A pair was taken out, to whose place none led before. The place is taken now, for 1 of the fuel.
pub record PicksNew (p : Pair) (old new : Stand) : Type 0 where
  pub place : Ref
  pub reads : OnlyReads old.seen new.seen
  pub leads : LeadsTo new.seen p.left place
  pub fresh : Contains old.taken place → ⊥
  pub out : old.pairs ≡ new.pairs ++ p ∷ []
  pub rights : new.rights ≡ old.rights
  pub taken : new.taken ≡ old.taken ++ place ∷ []
  pub links : new.links ≡ old.links
  pub fuel : old.fuel ≡ suc new.fuel

-- Nothing is left to do.
pub record Finishes (old new : Stand) : Type 0 where
  pub reads : OnlyReads old.seen new.seen
  pub done : (old.pairs ≡ []) × (old.rights ≡ []) × (new.pairs ≡ [])
  pub fuel : new.fuel ≡ old.fuel

-- No fuel is left for the place of the last pair, to which none led before.
pub record PutsOff (old new : Stand) : Type 0 where
  pub p : Pair
  pub rest : List Pair
  pub place : Ref
  pub reads : OnlyReads old.seen new.seen
  pub leads : LeadsTo new.seen p.left place
  pub fresh : Contains old.taken place → ⊥
  pub last : old.pairs ≡ rest ++ p ∷ []
  pub stays : (new.pairs ≡ old.pairs) × (old.rights ≡ [])
  pub fuel : (old.fuel ≡ 0) × (new.fuel ≡ 0)

-- A pair is taken out, and its arguments go on the list that it costs as much to take from.
pub data Turns (P : NamedProgram) (old new : Stand) (bound bound' : List ℕ) : Type 0 where
  on_old : (p : Pair) (mid : Stand) → PicksOld p old mid
      → Steps P p mid.seen new.seen mid.links new.links mid.rights new.rights bound bound'
      → new.pairs ≡ mid.pairs → new.taken ≡ mid.taken → new.fuel ≡ mid.fuel → Turns P old new bound bound'
  on_new : (p : Pair) (mid : Stand) → PicksNew p old mid
      → Steps P p mid.seen new.seen mid.links new.links mid.pairs new.pairs bound bound'
      → new.rights ≡ mid.rights → new.taken ≡ mid.taken → new.fuel ≡ mid.fuel → Turns P old new bound bound'

-- A pair is taken out, and its sides led to two that are apart.
pub record Breaks (P : NamedProgram) (old new : Stand) (one other : Ref) : Type 0 where
  pub p : Pair
  pub mid : Stand
  pub picks : PicksOld p old mid ⊎ PicksNew p old mid
  pub meets : MeetApart P p.left p.right mid.seen new.seen one other
  pub fuel : new.fuel ≡ mid.fuel

-- What gets less with each turn: a link that is made counts for more than the arguments of a structure can.
abbrev pub weight : List (Ref × Ref) → List Pair → ℕ
weight links list = 256 * (2 ^ 64 - length links) + length list
