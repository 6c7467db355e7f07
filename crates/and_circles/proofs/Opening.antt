-- A structure is opened part by part.
use Rattle.std.proofs.Common.{ℕ, ◌≡◌, ◌<◌, ◌+◌, List, [], ◌∷◌, ◌++◌, map, length, get_or, take, refl, ap, sym, ◌∙◌, arith, append_assoc}
use Rattle.std.proofs.lemmas.List.{take_more, map-append, length-take-le, length-map, get_or-map}
use Rattle.std.specs.Prelude.{vec_len}
use Rattle.std.specs.declared.vec.Vec.{Vec}
use Rattle.std.specs.declared.alloc.Global.{Global}
use Rattle.and_model.specs.declared.numbers.NodeNo.{NodeNo}
use Rattle.and_model.specs.declared.reference.Ref.{Ref}
use Rattle.and_model.specs.declared.reference.Ref.TheVariants.{Node}
use Rattle.and_program.specs.Loaded.{arguments_at}
use Rattle.and_cells.specs.Ranges.{NamedProgram}
use Rattle.and_cells.specs.Parts.{part_at, parts_of}
use Rattle.and_circles.specs.Walks.{Opens}
use Rattle.and_circles.specs.declared.walk.Visit.{Visit}
use Rattle.and_circles.specs.declared.walk.Visit.TheVariants.{Enter, Leave}
use Rattle.and_circles.specs.declared.walk.Walk.{Walk}

-- one part more of those of a structure
taken : (P : NamedProgram) (node : NodeNo) (base i : ℕ) (part : Ref) → i < length (arguments_at P.skeleton node.0)
    → part ≡ part_at P base (get_or (arguments_at P.skeleton node.0) i 0)
    → take (i + 1) (parts_of P (Node node base)) ≡ take i (parts_of P (Node node base)) ++ part ∷ []
taken P node base i part there is =
    let arguments : List ℕ = arguments_at P.skeleton node.0 in
    let below : i < length (map (part_at P base) arguments) = omega (arith, length-map arguments (part_at P base)) in
    take_more (map (part_at P base) arguments) i part below
    ∙ ap (λ (r : Ref). take i (map (part_at P base) arguments) ++ r ∷ []) (get_or-map (part_at P base) arguments i 0 part there ∙ sym is)

-- the visits with one part more
pushed_part : (old mid new : List Visit) (at part : Ref) (some more : List Ref) → more ≡ some ++ part ∷ [] → mid ≡ old ++ Leave at ∷ map Enter some
    → new ≡ mid ++ Enter part ∷ [] → new ≡ old ++ Leave at ∷ map Enter more
pushed_part old mid new at part some more taken before pushed =
    pushed ∙ ap (λ vs. vs ++ Enter part ∷ []) before ∙ append_assoc old (Leave at ∷ map Enter some) (Enter part ∷ [])
    ∙ ap (λ vs. old ++ Leave at ∷ vs) (sym (ap (map Enter) taken ∙ map-append Enter some (part ∷ [])))

-- one more part is to be entered
pub opens_more : (P : NamedProgram) (node : NodeNo) (base i : ℕ) (part : Ref) (old mid : Walk) (visits : Vec Visit Global)
    → Opens (Node node base) (take i (parts_of P (Node node base))) old mid → i < length (arguments_at P.skeleton node.0) → i < 255
    → part ≡ part_at P base (get_or (arguments_at P.skeleton node.0) i 0)
    → visits.items ≡ mid.visits.items ++ Enter part ∷ []
    → Opens (Node node base) (take (i + 1) (parts_of P (Node node base))) old (record mid { visits = visits })
opens_more P node base i part old mid visits opens there short is pushed =
    let parts : List Ref = parts_of P (Node node base) in
    let t : take (i + 1) (parts_of P (Node node base)) ≡ take i (parts_of P (Node node base)) ++ part ∷ [] = taken P node base i part there is in
    record {
      visits = pushed_part old.visits.items mid.visits.items visits.items (Node node base) part (take i (parts_of P (Node node base)))
          (take (i + 1) (parts_of P (Node node base))) t opens.visits pushed;
      short = omega (arith, length-take-le (i + 1) (parts_of P (Node node base)) (omega (arith, length-map (arguments_at P.skeleton node.0) (part_at P base))));
      stays = opens.stays;
    }

-- a list of visits without one
pub emptied : (visits : Vec Visit Global) → vec_len visits ≡ 0 → visits.items ≡ []
emptied visits none = no_items visits.items (omega (arith, visits.ok.0))
  where
    no_items : (vs : List Visit) → length vs ≡ 0 → vs ≡ []
    no_items [] e = refl
    no_items (v ∷ vs) e = absurd (omega arith)
