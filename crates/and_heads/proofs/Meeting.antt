-- What comes of pairs that lead to others, and of the first of pairs.
use Rattle.std.proofs.Common.{ℕ, ◌≡◌, List, ◌∷◌, ◌++◌, sym, ap, subst, ◌∙◌, append_assoc}
use Rattle.std.specs.Prelude.{All}
use Rattle.std.proofs.lemmas.List.Concat.{flat_map-append}
use Rattle.and_model.specs.declared.reference.Ref.{Ref}
use Rattle.and_cells.specs.Ranges.{NamedProgram}
use Rattle.and_cells.specs.Seen.{Seen}
use Rattle.and_cells.proofs.Chains.{reads_more}
use Rattle.and_unify.specs.declared.pairs.Pair.{Pair}
use Rattle.and_unify.specs.Meeting.{Lead}
use Rattle.and_unify.specs.Turns.{Steps, alike, sets, one_class, joins}
use Rattle.and_unify.specs.Running.{Runs, looked, stepped, arguments_of_both}
use Rattle.and_unify.proofs.MeetingSteps.{alike_on, free_on, structures_on, apart_on}
use Rattle.and_unify.proofs.DescentRuns.{runs_then}
use Rattle.and_heads.specs.declared.parts.Part.{Part}
use Rattle.and_heads.specs.declared.entering.Entered.{Entered}
use Rattle.and_heads.specs.declared.entering.Entered.TheVariants.{Done, Apart, GivenUp}
use Rattle.and_heads.specs.Parts.{HasShape, both_of, arguments_of_parts}
use Rattle.and_heads.specs.Entering.{Meets, ComesToParts}

-- A step of what two sides lead to is a step of these.
steps_led : (P : NamedProgram) (left right one other : Ref) (old mid new : Seen) (links more_links : List (Ref × Ref)) (list longer : List Pair)
    (bound further : List ℕ) → Lead left right old mid one other
    → Steps P (record { left = one; right = other }) mid new links more_links list longer bound further
    → Steps P (record { left = left; right = right }) old new links more_links list longer bound further
steps_led P left right one other old mid new links more_links list longer bound further lead (alike met a b c) =
    alike (alike_on P left right one other old mid new lead met) a b c
steps_led P left right one other old mid new links more_links list longer bound further lead (sets cell met a b c) =
    sets cell (free_on P left right one other cell old mid new lead met) a b c
steps_led P left right one other old mid new links more_links list longer bound further lead (one_class p q met class a b c) =
    one_class p q (structures_on P left right one other p q old mid new lead met) class a b c
steps_led P left right one other old mid new links more_links list longer bound further lead (joins p q met joined a b) =
    joins p q (structures_on P left right one other p q old mid new lead met) joined a b

-- So is what comes of them.
pub meets_led : (P : NamedProgram) (left right one other : Ref) (old mid new : Seen) (parts longer : List Part) (bound further : List ℕ) (r : Entered)
    → Lead left right old mid one other
    → Meets P (record { left = one; right = other }) mid new parts longer bound further r
    → Meets P (record { left = left; right = right }) old new parts longer bound further r
meets_led P left right one other old mid new parts longer bound further Done lead meets = record {
  more = meets.more;
  gains = meets.gains;
  shapes = subst (λ n. All (HasShape P n) meets.more) lead.reads.words meets.shapes;
  steps = λ list links.
      let (more_links, step) = meets.steps list links in
      (more_links, steps_led P left right one other old mid new links more_links list (list ++ arguments_of_parts P meets.more) bound further lead step);
}
meets_led P left right one other old mid new parts longer bound further Apart lead meets =
    ((meets.0.0, meets.0.1, apart_on P left right one other meets.0.0 meets.0.1 old mid new lead meets.0.2), meets.1)
meets_led P left right one other old mid new parts longer bound further GivenUp lead meets = (reads_more old mid new lead.reads meets.0, meets.1)

module _ (P : NamedProgram) (old mid new : Seen) (todo : List Pair) (began further last : List ℕ) (p : Pair) (ds : List Pair) (parts longer : List Part)
    (runs : Runs P old todo began mid (p ∷ (ds ++ arguments_of_parts P parts)) further) where
  -- The first of the pairs is stepped,
  pub first_steps : Meets P p mid new parts longer further last Done → Runs P old todo began new (ds ++ arguments_of_parts P longer) last
  first_steps meets =
      let rest : List Pair = ds ++ arguments_of_parts P parts in
      let gained : List Pair = arguments_of_parts P meets.more in
      let all : rest ++ gained ≡ ds ++ arguments_of_parts P longer =
      append_assoc ds (arguments_of_parts P parts) gained
      ∙ ap (λ xs. ds ++ xs) (sym (flat_map-append (λ (part : Part). arguments_of_both P (both_of part)) parts meets.more)
      ∙ ap (arguments_of_parts P) (sym meets.gains)) in
      subst (λ xs. Runs P old todo began new xs last) all
      (stepped mid new p rest (rest ++ gained) further last runs (meets.steps rest))

  -- or two are apart,
  pub first_breaks : Meets P p mid new parts longer further last Apart → ComesToParts P old new todo longer began last Apart
  first_breaks meets = (
    meets.0.0,
    meets.0.1,
    record {
      p = p;
      rest = ds ++ arguments_of_parts P parts;
      mid = mid;
      runs = subst (Runs P old todo began mid (p ∷ (ds ++ arguments_of_parts P parts))) (sym meets.1) runs;
      meets = meets.0.2;
    },
  )

  -- or it is given up.
  pub first_given_up : Meets P p mid new parts longer further last GivenUp → ComesToParts P old new todo longer began last GivenUp
  first_given_up meets = (
    p ∷ (ds ++ arguments_of_parts P parts),
    looked mid new (p ∷ (ds ++ arguments_of_parts P parts)) last
        (subst (Runs P old todo began mid (p ∷ (ds ++ arguments_of_parts P parts))) (sym meets.1) runs) meets.0,
  )

-- What comes of runs, after which this comes.
pub parts_after : (P : NamedProgram) (old mid new : Seen) (todo list : List Pair) (parts : List Part) (bound further last : List ℕ) (r : Entered)
    → Runs P old todo bound mid list further → ComesToParts P mid new list parts further last r → ComesToParts P old new todo parts bound last r
parts_after P old mid new todo list parts bound further last Done first comes =
    runs_then P old mid todo list bound further new (arguments_of_parts P parts) last first comes
parts_after P old mid new todo list parts bound further last Apart first comes =
    let breaks = comes.2 in (
      comes.0,
      comes.1,
      record {
        p = breaks.p;
        rest = breaks.rest;
        mid = breaks.mid;
        runs = runs_then P old mid todo list bound further breaks.mid (breaks.p ∷ breaks.rest) last first breaks.runs;
        meets = breaks.meets;
      },
    )
parts_after P old mid new todo list parts bound further last GivenUp first comes =
    (comes.0, runs_then P old mid todo list bound further new comes.0 last first comes.1)
