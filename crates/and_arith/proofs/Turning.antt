-- What a turn of a walk keeps, what it takes of the fuel, and that it leaves less to do.
use Rattle.std.proofs.Common.{ℕ, ℤ, suc, ◌≡◌, ◌<◌, ◌+◌, ◌-◌, ◌*◌, ◌^◌, List, [], ◌∷◌, ◌++◌, map, length, reverse, Option, Some, None, refl, ap, sym, ◌∙◌}
use Rattle.std.proofs.Common.{subst, arith}
use Rattle.std.specs.Prelude.{Contains}
use Rattle.std.proofs.lemmas.List.{length-map, length_push}
use Rattle.and_model.specs.Arithmetic.{operated}
use Rattle.and_model.specs.Store.{Setting}
use Rattle.and_model.specs.declared.numbers.NodeNo.{NodeNo}
use Rattle.and_model.specs.declared.reference.Ref.{Ref}
use Rattle.and_model.specs.declared.reference.Ref.TheVariants.{Cell, Node}
use Rattle.and_program.specs.Skeletons.{AllFall}
use Rattle.and_cells.specs.Ranges.{NamedProgram, IsInRange, IsInRangeOrHalf}
use Rattle.and_cells.specs.Seen.{Seen, LeadsTo}
use Rattle.and_cells.specs.Parts.{parts_of}
use Rattle.and_cells.proofs.Chains.{leads_later}
use Rattle.and_arith.specs.Sizes.{size_of, parts_with}
use Rattle.and_arith.specs.Taken.{Listed, cells_of, IsNew}
use Rattle.and_arith.specs.Turns.{Stand, IsStructureAt, IsEnd, of_pair, of_half, of_literal, IsComeTo, tasks_of, undone_at, Comes, ends, again, opens, takes}
use Rattle.and_arith.specs.Turns.{Enters, Turns, enters, leaves, keeps}
use Rattle.and_arith.specs.declared.walk.Task.{Task}
use Rattle.and_arith.specs.declared.walk.Task.TheVariants.{Enter, Leave, Keep}
use Rattle.and_value_laws.proofs.KnownTerms.{IsOnce}
use Rattle.and_arith.proofs.Yielding.{same_yields, come_same, come_later, leads_same, end_yields, end_later}
use Rattle.and_arith.proofs.Owing.{passes, recalled}
use Rattle.and_arith.proofs.Covering.{Covered, on_taken, chain_covered, end_covered, end_passed, leads_from_cell}
use Rattle.and_arith.proofs.Counting.{sizes_of, parts_left, parts_left_behind, opened_size, literal_size, parts_push, most_parts, size_of_bounded}
use Rattle.and_arith.proofs.Counting.{tasks_weight, tasks_weight_behind, weight, lighter_by_cell}
use Rattle.and_arith.proofs.Standing.{Stands, stands_later, passed_stands, opened_stands, taken_stands, left_stands, kept_stands, cell_of_entry}

-- What a turn comes to.
pub record Goes (P : NamedProgram) (first : Seen) (root : Ref) (settings : List Setting) (old new : Stand) : Type 0 where
  pub more : List Setting
  pub stands : Stands P first root more new.seen new.tasks new.values new.taken
  -- Less is left to do,
  pub lighter : weight P new.taken new.tasks < weight P old.taken old.tasks
  -- and each part that was entered cost 1.
  pub took : ℕ
  pub fuel : old.fuel ≡ new.fuel + took
  pub balance : took + parts_left P new.tasks + parts_with P root settings ≡ parts_left P old.tasks + parts_with P root more

-- tasks that weigh less, with the same cells
lighter_tasks : (P : NamedProgram) (taken : Listed) (olds news : List Task) → tasks_weight P news < tasks_weight P olds
    → weight P taken news < weight P taken olds
lighter_tasks P taken olds news less = omega (arith, less)

-- what comes of a turn, by equations for its parts
goes_by : (P : NamedProgram) (first : Seen) (root : Ref) (settings more : List Setting) (old new : Stand) (olds tasks : List Task) (values : List (Option ℤ))
    (taken : Listed) (took : ℕ)
    → old.tasks ≡ olds → new.tasks ≡ tasks → new.values ≡ values → new.taken ≡ taken → Stands P first root more new.seen tasks values taken
    → weight P taken tasks < weight P old.taken olds → old.fuel ≡ new.fuel + took
    → took + parts_left P tasks + parts_with P root settings ≡ parts_left P olds + parts_with P root more
    → Goes P first root settings old new
goes_by P first root settings more old new olds tasks values taken took is a b c stands lighter fuel balance = record {
  more = more;
  stands =
      subst (λ x. Stands P first root more new.seen x new.values new.taken) (sym a)
      (subst (λ x. Stands P first root more new.seen tasks x new.taken) (sym b)
      (subst (λ x. Stands P first root more new.seen tasks values x) (sym c) stands));
  lighter =
      subst (λ x. weight P new.taken x < weight P old.taken old.tasks) (sym a)
      (subst (λ x. weight P x tasks < weight P old.taken old.tasks) (sym c)
      (subst (λ x. weight P taken tasks < weight P old.taken x) (sym is) lighter));
  took = took;
  fuel = fuel;
  balance =
      subst (λ x. took + parts_left P x + parts_with P root settings ≡ parts_left P old.tasks + parts_with P root more) (sym a)
      (subst (λ x. took + parts_left P tasks + parts_with P root settings ≡ parts_left P x + parts_with P root more) (sym is) balance);
}

-- a part that is a cell has one part
one_if_cell : (P : NamedProgram) (s : Seen) (p : Ref) (cell : ℕ) → LeadsTo s p (Cell cell) → size_of P p ≡ 1
one_if_cell P s p cell leads = let w = leads_from_cell P s p cell leads in ap (size_of P) w.1

-- and so has a reference without parts
one_if_end : (P : NamedProgram) (s : Seen) (place : Ref) (v : Option ℤ) → AllFall 0 P.skeleton.nodes → IsEnd P s place v → size_of P place ≡ 1
one_if_end P s place v fall (of_pair pair high low a b fits) = refl
one_if_end P s place v fall (of_half bits) = refl
one_if_end P s place v fall (of_literal node base z fits at) = literal_size P node base z fall at

module _ (P : NamedProgram) (fall : AllFall 0 P.skeleton.nodes) (first : Seen) (root : Ref) (settings : List Setting) (old new : Stand)
    (once : IsOnce new.seen) where
  module _ (p : Ref) (rest : List Task) (next : old.tasks ≡ Enter p ∷ rest) (e : Enters P p (record old { tasks = rest }) new)
      (h : Stands P first root settings old.seen old.tasks old.values old.taken) where
    stood : Stands P first root settings new.seen (Enter p ∷ rest) old.values old.taken
    stood = stands_later P fall first root settings old.seen new.seen (Enter p ∷ rest) old.values old.taken e.reads once
        (subst (λ x. Stands P first root settings old.seen x old.values old.taken) next h)

    one : old.fuel ≡ new.fuel + 1
    one = let f = e.fuel in omega arith

    ends_covered : (by : Option ℕ) (place : Ref) (v : Option ℤ) → IsComeTo new.seen p by place → IsEnd P new.seen place v
        → Covered P new.seen rest (cells_of old.taken) p × (size_of P p ≡ 1)
    ends_covered None place v come end = (
      subst (λ q. Covered P new.seen rest (cells_of old.taken) q) come (end_covered P new.seen rest (cells_of old.taken) place v end),
      ap (size_of P) (sym come) ∙ one_if_end P new.seen place v fall end,
    )
    ends_covered (Some cell) place v come end = (
      chain_covered P new.seen rest (cells_of old.taken) p cell come.0 (end_passed P new.seen (cells_of old.taken) place v cell come.1 end),
      one_if_cell P new.seen p cell come.0,
    )

    ends_go : (v : Option ℤ) → IsEnd P new.seen e.place v → new.tasks ≡ rest → new.values ≡ v ∷ old.values → new.taken ≡ old.taken
        → Goes P first root settings old new
    ends_go v end tasks values taken =
        let (covered, size) = ends_covered e.by e.place v e.come_to end in
        goes_by P first root settings settings old new (Enter p ∷ rest) rest (v ∷ old.values) old.taken 1 next tasks values taken
        (passed_stands P fall first root settings new.seen p v rest old.values old.taken covered
        (λ t more st. passes P t more.once root p v rest old.values old.taken
        (same_yields P t p e.place v (come_same P t more.once p e.by e.place (come_later new.seen t p e.by e.place more.knows e.come_to))
        (end_yields P t more.once e.place v (end_later P new.seen t e.place v more.knows end))) st) stood)
        (lighter_tasks P old.taken (Enter p ∷ rest) rest (omega (arith, size))) one (omega (arith, size))

    again_goes : (cell : ℕ) (v : Option ℤ) (node : NodeNo) (base : ℕ) → e.by ≡ Some cell → e.place ≡ Node node base → Contains old.taken (cell, v)
        → new.tasks ≡ rest → new.values ≡ v ∷ old.values → new.taken ≡ old.taken
        → Goes P first root settings old new
    again_goes cell v node base by at among tasks values taken =
        let come : IsComeTo new.seen p (Some cell) (Node node base) =
        subst (λ x. IsComeTo new.seen p x (Node node base)) by (subst (λ x. IsComeTo new.seen p e.by x) at e.come_to) in
        let size = one_if_cell P new.seen p cell come.0 in
        goes_by P first root settings settings old new (Enter p ∷ rest) rest (v ∷ old.values) old.taken 1 next tasks values taken
        (passed_stands P fall first root settings new.seen p v rest old.values old.taken
        (chain_covered P new.seen rest (cells_of old.taken) p cell come.0 (on_taken cell node base come.1 (cell_of_entry old.taken cell v among)))
        (λ t more st. passes P t more.once root p v rest old.values old.taken
        (recalled P t more.once root p cell v rest old.values old.taken
        (leads_same P t more.once p (Cell cell) (leads_later new.seen t p (Cell cell) more.knows come.0)) among st) st) stood)
        (lighter_tasks P old.taken (Enter p ∷ rest) rest (omega (arith, size))) one (omega (arith, size))

    opens_go : (node : NodeNo) (base : ℕ) (is : IsStructureAt P node) → e.by ≡ None → e.place ≡ Node node base
        → new.tasks ≡ tasks_of P node base is.name (length is.arguments) rest → new.values ≡ old.values → new.taken ≡ old.taken
        → Goes P first root settings old new
    opens_go node base is by at tasks values taken =
        let come : IsComeTo new.seen p None (Node node base) =
        subst (λ x. IsComeTo new.seen p x (Node node base)) by (subst (λ x. IsComeTo new.seen p e.by x) at e.come_to) in
        let leave : Task = Leave (record { 0 = is.name }) (length is.arguments) in
        let parts : List Ref = parts_of P (Node node base) in
        let size : size_of P p ≡ 1 + sizes_of P parts = ap (size_of P) (sym come) ∙ opened_size P node base is fall in
        let weighs : tasks_weight P (map Enter parts ++ leave ∷ rest) ≡ 2 * sizes_of P parts + suc (tasks_weight P rest) =
        tasks_weight_behind P parts (leave ∷ rest) in
        let has : parts_left P (map Enter parts ++ leave ∷ rest) ≡ sizes_of P parts + parts_left P rest = parts_left_behind P parts (leave ∷ rest) in
        goes_by P first root settings settings old new (Enter p ∷ rest) (tasks_of P node base is.name (length is.arguments) rest) old.values old.taken 1
        next tasks values taken
        (opened_stands P fall first root settings new.seen node base is rest old.values old.taken
        (subst (λ q. Stands P first root settings new.seen (Enter q ∷ rest) old.values old.taken) (sym come) stood))
        (lighter_tasks P old.taken (Enter p ∷ rest) (tasks_of P node base is.name (length is.arguments) rest) (omega (arith, size, weighs))) one
        (omega (arith, size, has))

    takes_go : (cell : ℕ) (node : NodeNo) (base : ℕ) (is : IsStructureAt P node) → e.by ≡ Some cell → e.place ≡ Node node base → IsNew old.taken cell
        → new.tasks ≡ tasks_of P node base is.name (length is.arguments) (Keep cell ∷ rest) → new.values ≡ old.values
        → new.taken ≡ old.taken ++ (cell, None) ∷ [] → length new.taken < 2 ^ 63
        → Goes P first root settings old new
    takes_go cell node base is by at fresh tasks values taken few =
        let come : IsComeTo new.seen p (Some cell) (Node node base) =
        subst (λ x. IsComeTo new.seen p x (Node node base)) by (subst (λ x. IsComeTo new.seen p e.by x) at e.come_to) in
        let fits : IsInRange P new.seen.words (Node node base) = subst (IsInRangeOrHalf P new.seen.words) at e.in_range in
        let leave : Task = Leave (record { 0 = is.name }) (length is.arguments) in
        let parts : List Ref = parts_of P (Node node base) in
        let own : Setting = record { place = cell; value = Node node base } in
        let size : size_of P p ≡ 1 = one_if_cell P new.seen p cell come.0 in
        let whole : size_of P (Node node base) ≡ 1 + sizes_of P parts = opened_size P node base is fall in
        let most = size_of_bounded P (Node node base) in
        let weighs : tasks_weight P (map Enter parts ++ leave ∷ Keep cell ∷ rest) ≡ 2 * sizes_of P parts + suc (suc (tasks_weight P rest)) =
        tasks_weight_behind P parts (leave ∷ Keep cell ∷ rest) in
        let has : parts_left P (map Enter parts ++ leave ∷ Keep cell ∷ rest) ≡ sizes_of P parts + parts_left P rest =
        parts_left_behind P parts (leave ∷ Keep cell ∷ rest) in
        let pushed = parts_push P settings own in
        let longer : length (old.taken ++ (cell, None) ∷ []) ≡ length old.taken + 1 = length_push old.taken (cell, None) in
        let short : length (old.taken ++ (cell, None) ∷ []) < 2 ^ 63 = subst (λ (l : Listed). length l < 2 ^ 63) taken few in
        let room : 2 ^ 63 - length old.taken ≡ suc (2 ^ 63 - length (old.taken ++ (cell, None) ∷ [])) = omega (arith, longer, short) in
        goes_by P first root settings (settings ++ own ∷ []) old new (Enter p ∷ rest) (tasks_of P node base is.name (length is.arguments) (Keep cell ∷ rest))
        old.values (old.taken ++ (cell, None) ∷ []) 1 next tasks values taken
        (taken_stands P fall first root settings new.seen p cell node base is rest old.values old.taken come.0 come.1 fits fresh stood)
        (lighter_by_cell (2 * most_parts P + 1) (2 ^ 63 - length old.taken) (2 ^ 63 - length (old.taken ++ (cell, None) ∷ []))
        (tasks_weight P (Enter p ∷ rest)) (tasks_weight P (map Enter parts ++ leave ∷ Keep cell ∷ rest)) room
        (omega (arith, size, whole, most, weighs))) one (omega (arith, size, has, pushed, whole))

    entered : Comes P e.by e.place new.seen (undone_at (record old { tasks = rest })) (undone_at new) → Goes P first root settings old new
    entered (ends v end tasks values taken) = ends_go v end tasks values taken
    entered (again cell v node base by at among tasks values taken) = again_goes cell v node base by at among tasks values taken
    entered (opens node base is by at tasks values taken) = opens_go node base is by at tasks values taken
    entered (takes cell node base is by at fresh tasks values taken few) = takes_go cell node base is by at fresh tasks values taken few

  -- All that holds does so after a turn.
  pub turn_goes : Turns P old new → Stands P first root settings old.seen old.tasks old.values old.taken → Goes P first root settings old new
  turn_goes (enters p rest next e) h = entered p rest next e h e.comes
  turn_goes (leaves name count rest next l) h =
      let leave : Task = Leave (record { 0 = name }) count in
      let stood = subst (λ x. Stands P first root settings old.seen x old.values old.taken) next h in
      let gone = left_stands P fall first root settings old.seen name count rest old.values l.last l.others old.taken l.given l.counted stood in
      goes_by P first root settings settings old new (leave ∷ rest) rest (operated name (reverse l.last) ∷ l.others) old.taken 0 next l.tasks l.values l.taken
      (subst (λ x. Stands P first root settings x rest (operated name (reverse l.last) ∷ l.others) old.taken) (sym l.seen) gone)
      (lighter_tasks P old.taken (leave ∷ rest) rest (omega arith)) (let f = l.fuel in omega arith) (omega arith)
  turn_goes (keeps cell rest next k) h =
      let stood = subst (λ x. Stands P first root settings old.seen x old.values old.taken) next h in
      let gone = kept_stands P fall first root settings old.seen cell rest old.values k.others k.value old.taken new.taken k.last k.taken stood in
      let long : length new.taken ≡ length old.taken = sym (length-map new.taken (λ (x : ℕ × Option ℤ). x.0)) ∙ ap length k.taken.cells
      ∙ length-map old.taken (λ (x : ℕ × Option ℤ). x.0) in
      goes_by P first root settings settings old new (Keep cell ∷ rest) rest old.values new.taken 0 next k.tasks k.values refl
      (subst (λ x. Stands P first root settings x rest old.values new.taken) (sym k.seen) gone)
      (subst (λ n. (2 ^ 63 - n) * (2 * most_parts P + 1) + tasks_weight P rest < weight P old.taken (Keep cell ∷ rest)) (sym long)
      (lighter_tasks P old.taken (Keep cell ∷ rest) rest (omega arith)))
      (let f = k.fuel in omega arith) (omega arith)
