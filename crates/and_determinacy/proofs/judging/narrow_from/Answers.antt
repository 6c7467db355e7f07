use Rattle.std.proofs.Common.{◌+◌, ◌≡◌, Ok, List, length, get_or, true≢false, refl, sym, ap, ◌∙◌, subst, arith}
use Rattle.std.specs.Prelude.{IfSome}
use Rattle.std.proofs.lemmas.List.{get_or_default}
use Rattle.std.proofs.lemmas.List.Elements.{All-contains}
use Rattle.and_model.specs.Programs.{Of}
use Rattle.and_model.specs.declared.numbers.ClauseNo.{ClauseNo}
use Rattle.and_model.specs.declared.reference.Ref.{Ref}
use Rattle.and_program.specs.Skeletons.{node_term}
use Rattle.and_clause_index.specs.Looks.{IsLook}
use Rattle.and_clause_index.specs.Served.{NodeHas}
use Rattle.and_determinacy.specs.Candidates.{IsNarrowed, narrowed_as}
use Rattle.and_determinacy.specs.Searches.{NodeKeeps, IsCount, IsNextOf, NoneFrom}
use Rattle.and_determinacy.specs.Watching.{StaysWhile}
use Rattle.and_determinacy.specs.declared.judging.Found.{Found}
use Rattle.and_determinacy.specs.declared.judging.Judged.{Judged}
use Rattle.and_determinacy.specs.declared.judging.Judged.TheVariants.{Nothing, One, Several}
use Rattle.and_determinacy.specs.declared.judging.Narrowed.TheVariants as narrowed
use Rattle.and_determinacy.proofs.Searching.{next_found, none_more, none_joined, none_seen, served_printed, one_left, counted, as_judged}
use Rattle.and_determinacy.proofs.Told.{two_stay}
use Rattle.and_determinacy.proofs.judging.narrow_from.Goals as goal

-- what is told to have two was judged so
narrowed_several : (judged : Judged) → narrowed_as judged ≡ narrowed.Several → judged ≡ Several
narrowed_several Nothing e = absurd (cc)
narrowed_several (One clause) e = absurd (cc)
narrowed_several Several e = refl

pub clauses-init : goal.clauses-init
clauses-init g c = record {
  same = refl;
  look = refl;
  there = c.requires.there;
  before = c.requires.before;
}

pub next_left-requires : goal.next_left-requires
next_left-requires g c =
    served_printed g.N.Naming.program c.args.table.now c.requires.table c.args.cells.now c.args.node.0 c.args.goal.base c.args.clauses.now c.requires.served

pub returns-in-None-clause-narrowed : goal.returns-in-None-clause-narrowed
returns-in-None-clause-narrowed g c =
    let P = g.N.Naming.program in
    let row = c.args.cells.now in
    let node = c.args.node.0 in
    let base = c.args.goal.base in
    let clauses = c.args.clauses.now in
    let last = c.clauses.last in
    let clause : ClauseNo = get_or clauses last (record { 0 = 0 }) in
    let i = c.clauses.invariant in
    let is_look = subst (IsLook P row node base) (sym i.look) c.requires.look in
    one_left P row c.args.goal node c.requires.node clauses c.requires.served last clause i.there
    (get_or_default clauses last (record { 0 = 0 }) clause i.there) i.before
    (none_seen P c.args.table.now c.requires.table row node base c.clauses.trials.look is_look clauses (last + 1) (length clauses)
    (c.next_left.ensures.none c.in-None.is))

pub fits_left-requires-clause-of : goal.fits_left-requires-clause-of
fits_left-requires-clause-of g c =
    let P = g.N.Naming.program in
    let clauses = c.args.clauses.now in
    let last = c.clauses.last in
    let clause : ClauseNo = get_or clauses last (record { 0 = 0 }) in
    All-contains (λ (d : ClauseNo). Of P.program (node_term P.skeleton.nodes c.args.node.0) d.0) clauses clause c.requires.served.of
    (last, c.clauses.invariant.there, sym (get_or_default clauses last (record { 0 = 0 }) clause c.clauses.invariant.there))

pub judge_besides-requires-clause-one : goal.judge_besides-requires-clause-one
judge_besides-requires-clause-one g c =
    let P = g.N.Naming.program in
    let row = c.args.cells.now in
    let node = c.args.node.0 in
    let base = c.args.goal.base in
    let clauses = c.args.clauses.now in
    let last = c.clauses.last in
    let clause : ClauseNo = get_or clauses last (record { 0 = 0 }) in
    let i = c.clauses.invariant in
    let made : Found = record { clause = clause; behind = last + 1 } in
    let tells = c.in_ok-fits_left-in-Some.ensures.fits c.in_ok-fits_left-in-Some.field-0 (refl {a = Ok c.in_ok-fits_left-in-Some.field-0}) in
    let is : NodeHas P row node base clause = subst (λ r. NodeHas P r node base clause) i.same (tells.0 c.if-branch.true) in
    subst (λ r. IsNextOf (NodeHas P r node base) clauses 0 made) (sym (c.fits_left.ensures.unchanged ∙ i.same))
    (next_found (NodeHas P row node base) clauses 0 last clause (omega arith) i.there (get_or_default clauses last (record { 0 = 0 }) clause i.there)
    is i.before)

pub judge_besides-requires-clause-stays : goal.judge_besides-requires-clause-stays
judge_besides-requires-clause-stays g c =
    let P = g.N.Naming.program in
    let clause : ClauseNo = get_or c.args.clauses.now c.clauses.last (record { 0 = 0 }) in
    subst (λ (r : List Ref). IfSome c.fits_left.new.self.rests (λ has.
    StaysWhile P r c.args.goal.base (node_term P.skeleton.nodes c.args.node.0) has clause.0)) (sym c.fits_left.ensures.unchanged)
    (c.in_ok-fits_left-in-Some.ensures.stays (ap (λ b. Ok b) c.if-branch.true))

pub judge_besides-requires-clause-behind : goal.judge_besides-requires-clause-behind
judge_besides-requires-clause-behind g c = c.next_left.ensures.after c.in-Some.next c.in-Some.is

pub judge_besides-requires-clause-between : goal.judge_besides-requires-clause-between
judge_besides-requires-clause-between g c =
    let P = g.N.Naming.program in
    let row = c.args.cells.now in
    let node = c.args.node.0 in
    let base = c.args.goal.base in
    let clauses = c.args.clauses.now in
    let last = c.clauses.last in
    let i = c.clauses.invariant in
    let next = c.in-Some.next in
    let is_look = subst (IsLook P row node base) (sym i.look) c.requires.look in
    subst (λ r. NoneFrom (NodeHas P r node base) clauses (last + 1) next) (sym (c.fits_left.ensures.unchanged ∙ i.same))
    (none_seen P c.args.table.now c.requires.table row node base c.clauses.trials.look is_look clauses (last + 1) next
    (c.next_left.ensures.first next c.in-Some.is))

pub returns-then-branch-clause-narrowed : goal.returns-then-branch-clause-narrowed
returns-then-branch-clause-narrowed g c =
    let P = g.N.Naming.program in
    let row = c.args.cells.now in
    let node = c.args.node.0 in
    let base = c.args.goal.base in
    let clauses = c.args.clauses.now in
    let served = c.requires.served in
    let judged = c.in_ok-judged-in-Some.judged in
    let same = c.fits_left.ensures.unchanged ∙ c.clauses.invariant.same in
    let count : IsCount (NodeHas P row node base) clauses 0 judged =
    subst (λ r. IsCount (NodeHas P r node base) clauses 0 judged) same c.in_ok-judged-in-Some.ensures.count in
    subst (IsNarrowed P row c.args.goal) (sym c.narrowed_from.ensures)
    (as_judged P row c.args.goal node c.requires.node clauses served judged
    (counted P row c.args.goal node c.requires.node clauses served judged count))

pub returns-then-branch-clause-told : goal.returns-then-branch-clause-told
returns-then-branch-clause-told g c = λ e.
    let P = g.N.Naming.program in
    let row = c.args.cells.now in
    let node = c.args.node.0 in
    let base = c.args.goal.base in
    let clauses = c.args.clauses.now in
    let judged = c.in_ok-judged-in-Some.judged in
    let same = c.fits_left.ensures.unchanged ∙ c.clauses.invariant.same in
    let told = c.judge_besides.new.trials.rests in
    let several : judged ≡ Several = narrowed_several judged (sym c.narrowed_from.ensures ∙ cc) in
    two_stay P row c.args.goal node c.requires.node clauses c.requires.served 0 told
    (subst (λ r. IfSome told (λ has. IsCount (NodeKeeps P r node base has) clauses 0 Several)) same
    (c.in_ok-judged-in-Some.ensures.stay (ap (λ j. Ok j) several)))

pub clauses-preserved : goal.clauses-preserved
clauses-preserved g c =
    let P = g.N.Naming.program in
    let row = c.args.cells.now in
    let node = c.args.node.0 in
    let base = c.args.goal.base in
    let clauses = c.args.clauses.now in
    let last = c.clauses.last in
    let clause : ClauseNo = get_or clauses last (record { 0 = 0 }) in
    let i = c.clauses.invariant in
    let next = c.in-Some.next in
    let Q = NodeHas P row node base in
    let is_look = subst (IsLook P row node base) (sym i.look) c.requires.look in
    let tells = c.in_ok-fits_left-in-Some.ensures.fits c.in_ok-fits_left-in-Some.field-0 (refl {a = Ok c.in_ok-fits_left-in-Some.field-0}) in
    let fails : Q clause → ⊥ = λ q.
    true≢false (sym (tells.1 (subst (λ r. NodeHas P r node base clause) (sym i.same) q)) ∙ c.if-branch.false) in
    let read = get_or_default clauses last (record { 0 = 0 }) clause i.there in
    let none = none_more Q clauses 0 last clause read fails i.before in
    let between = none_seen P c.args.table.now c.requires.table row node base c.clauses.trials.look is_look clauses (last + 1) next
    (c.next_left.ensures.first next c.in-Some.is) in
    record {
      same = c.fits_left.ensures.unchanged ∙ i.same;
      look = c.fits_left.ensures.look ∙ i.look;
      there = c.next_left.ensures.there next c.in-Some.is;
      before = none_joined Q clauses 0 (last + 1) none next between;
    }

pub clauses-smaller : goal.clauses-smaller
clauses-smaller g c =
    let after = c.next_left.ensures.after c.in-Some.next c.in-Some.is in
    let low = c.next_left.ensures.there c.in-Some.next c.in-Some.is in
    omega arith
