use Rattle.std.proofs.Common.{ℕ, suc, rules, ◌≡◌, ◌+◌, ◌*◌, ◌<◌, ◌++◌, ◌∷◌, [], inl, inr, length, refl, sym, subst, ap, ◌∙◌}
use Rattle.and_model.specs.declared.reference.Ref.TheVariants.{Number}
use Rattle.and_model.specs.Programs.{clause_at}
use Rattle.and_cells.specs.Parts.{part_at}
use Rattle.and_cells.specs.Ranges.{NamedProgram, IsPairInRange}
use Rattle.and_cells.specs.Meaning.{Words}
use Rattle.and_unify.specs.Pairs.{NameNoHalf}
use Rattle.and_unify.specs.declared.pairs.Pair.{Pair}
use Rattle.and_branch_laws.proofs.Loading.{loaded_is, resolved_is}
use Rattle.and_store.specs.Passes.{PassSeen, StoreId}
use Rattle.and_workers.specs.AtWork.{IsAtWork}
use Rattle.and_handed.specs.Handed.{FitsSeen}
use Rattle.and_workers.specs.Running.{MayRun, NotesRun, HasNumber}
use Rattle.and_workers.proofs.Comparing.{of_no_error}
use Rattle.and_workers.proofs.Values.{number_later}
use Rattle.and_workers.proofs.Writing.{written_at_work, seen_since}
use Rattle.and_workers.proofs.Assigning.{work_assigned, whole_assigned}
use Rattle.and_workers.proofs.running.Reducer+StoreCells+N.assign.Given.{Over}
use Rattle.and_workers.proofs.running.Reducer+StoreCells+N.assign.Goals as goal

abbrev asked : (g : Over) → goal.After-solve-arg-1 g → Pair
asked g c = record {
  left = part_at g.N.Naming.program c.args.goal.base c.args.left.0;
  right = Number
      (c.args.goal.base + 1 + c.from-variables.result + 2 * c.args.number);
}

pair_there : (g : Over) (c : goal.After-solve-arg-1 g) → IsPairInRange c.args.shared.now.words
    (c.args.goal.base + 1 + c.from-variables.result + 2 * c.args.number)
pair_there g c =
    let P = g.N.Naming.program in
    let range : suc (c.args.goal.base + 1 +
    (clause_at P.program c.args.goal.clause.0).variables + 2 * c.args.number) < c.args.shared.now.words = c.requires.goal.item_in_range.2 in
    let count : c.from-variables.result ≡ (clause_at P.program c.args.goal.clause.0).variables =
    subst (λ (Q : NamedProgram). c.from-variables.result ≡ (clause_at Q.program c.args.goal.clause.0).variables) (sym c.requires.program)
    (c.from-variables.ensures ∙ c.variables.ensures) in
    subst (λ n. suc (c.args.goal.base + 1 + n + 2 * c.args.number) < c.args.shared.now.words) (sym count) range

value_written : (g : Over) (c : goal.After-solve-arg-1 g) → c.write_number.result ≡ c.args.value
value_written g c = search rules

both : (g : Over) (c : goal.After-solve-arg-1 g)
    → IsAtWork g.N.Naming.program c.note_run-cells.new.self.told (asked g c ∷ []) c.args.self.now.suspended c.write_number.new.self.pass
    × ((w : Words) → FitsSeen g.N.Naming.program c.note_run-cells.new.self.told c.write_number.new.self.pass w
    → NameNoHalf g.N.Naming.program w (asked g c ∷ []))
both g c =
    let P = g.N.Naming.program in
    let p = c.args.cells.pass in
    let q = c.write_number.new.self.pass in
    let told = c.args.self.now.told in
    let new = c.note_run-cells.new.self.told in
    let waiting = c.args.self.now.suspended in
    let w = c.write_number.ensures.written in
    let used = c.write_number.ensures.grew in
    let work : IsAtWork P told [] waiting q = written_at_work P p q _ _ c.write_number.result used w c.requires.at_work.known told [] waiting
    c.requires.at_work in
    let since = seen_since P p q _ _ c.write_number.result used w c.requires.at_work.known in
    let s = c.skeleton_is_of_the_program.ensures in
    let loaded = loaded_is P c.args.shared.now.loaded.now c.requires.program s.skeleton s.own_variables s.few in
    let n = of_no_error c.note_run-cells.result.1 (NotesRun c.args.goal q told new) c.note_run-cells.ensures.noted (sym c.if-is_err.ensures.value) in
    let stored : q.store ≡ c.args.shared.now.store.now = used.store ∙ c.requires.store in
    let may : MayRun (length q.store.about.first) told.made.items c.args.goal =
    subst (λ m. MayRun m told.made.items c.args.goal) (c.args.shared.now.opening_is ∙ ap (λ s. length s.about.first) (sym stored)) c.requires.may in
    let number : HasNumber P q.store.about.first q.pass.seen c.args.goal.base c.args.right.0 c.args.value =
    subst (λ (s : StoreId). HasNumber P s.about.first q.pass.seen c.args.goal.base c.args.right.0 c.args.value) (sym used.store)
    (subst (λ j. HasNumber P p.store.about.first j c.args.goal.base c.args.right.0 c.args.value) (sym since.1)
    (number_later P p.store.about.first p.pass.seen since.0 c.args.goal.base c.args.right.0 c.args.value c.requires.number)) in
    let of_words : c.args.shared.now.words ≡ q.store.about.words = c.args.shared.now.words_are ∙ ap (λ s. s.about.words) (sym stored) in
    let pair : ℕ = c.args.goal.base + 1 + c.from-variables.result + 2 * c.args.number in
    let there = pair_there g c in
    let value_is = value_written g c in
    let high_known = (w.knows pair w.high).1 (inr (inl (refl, refl))) in
    let low_known = (w.knows _ w.low).1 (inr (inr (refl, refl))) in
    let holds = sym w.holds ∙ value_is in (
      work_assigned P loaded c.args.shared.now.words q of_words c.args.goal c.args.left.0 c.args.right.0 c.args.number pair c.args.value
          c.requires.goal number work.known
          w.high w.low high_known low_known holds there told new n may waiting work,
      whole_assigned P loaded c.args.shared.now.words q of_words c.args.goal c.args.left.0 c.args.right.0 c.args.number pair c.args.value
          c.requires.goal number work.known
          w.high w.low high_known low_known holds there told new n may,
    )

pairs_are : (g : Over) (c : goal.After-solve-arg-1 g) → c.push.new.self ≡ asked g c ∷ []
pairs_are g c =
    let P = g.N.Naming.program in
    of_no_error c.push.result _ c.push.ensures.ok (sym c.if-is_err-2.ensures.value)
    ∙ ap (λ l. l ++ record {
      left = c.resolve-left.result;
      right = Number
          (c.args.goal.base + 1 + c.from-variables.result + 2 * c.args.number);
    } ∷ []) c.clear.ensures
    ∙ ap (λ r. record { left = r; right = Number (c.args.goal.base + 1 + c.from-variables.result + 2 * c.args.number) } ∷ [])
    (resolved_is P c.args.shared.now.loaded.now c.args.left c.args.goal.base c.resolve-left.result c.requires.program c.resolve-left.ensures)

pub solve-requires-clause-at_work : goal.solve-requires-clause-at_work
solve-requires-clause-at_work g c κs within =
    let P = g.N.Naming.program in
    let new = c.note_run-cells.new.self.told in
    subst (λ ps. IsAtWork P new ps c.note_run-cells.new.self.suspended c.note_run-cells.result.0.pass) (sym (pairs_are g c))
    (subst (λ ws. IsAtWork P new (asked g c ∷ []) ws c.note_run-cells.result.0.pass) (sym c.note_run-cells.ensures.kept)
    (subst (λ (q : PassSeen). IsAtWork P new (asked g c ∷ []) c.args.self.now.suspended q) (sym c.note_run-cells.ensures.same) (both g c).0))

pub solve-requires-clause-whole : goal.solve-requires-clause-whole
solve-requires-clause-whole g c κs within =
    let P = g.N.Naming.program in
    let new = c.note_run-cells.new.self.told in
    subst (λ ps. (w : Words) → FitsSeen P new c.note_run-cells.result.0.pass w → NameNoHalf P w ps) (sym (pairs_are g c))
    (subst (λ (q : PassSeen). (w : Words) → FitsSeen P new q w → NameNoHalf P w (asked g c ∷ [])) (sym c.note_run-cells.ensures.same) (both g c).1)
