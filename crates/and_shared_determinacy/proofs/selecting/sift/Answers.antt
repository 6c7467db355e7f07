use Rattle.std.proofs.Common.{◌+◌, ◌≡◌, ◌<◌, ◌++◌, ◌∷◌, [], length, take, get_or, refl, sym, subst, arith, ◌∙◌}
use Rattle.std.proofs.lemmas.List.{take_more}
use Rattle.and_model.specs.declared.numbers.ClauseNo.{ClauseNo}
use Rattle.and_arith.proofs.Concluding.{begun}
use Rattle.and_cells.proofs.Chains.{reads_more, reads_nothing}
use Rattle.and_clause_index.specs.Selecting.{IsNoCandidate}
use Rattle.and_shared_determinacy.specs.Sifting.{AreSifted, nothing, kept, dropped}
use Rattle.and_shared_determinacy.proofs.Looked.{look_later}
use Rattle.and_shared_determinacy.proofs.Sifted.{sifted_later, no_candidate_later, stays_some, falls_some}
use Rattle.and_shared_determinacy.proofs.selecting.sift.Goals as goal
use Rattle.and_shared_determinacy.proofs.selecting.sift.Goals.{in-Stays+else-is_err, in-Falls}

pub loop-clause-init : goal.loop-clause-init
loop-clause-init g c =
    let Out = IsNoCandidate g.C.Cells.program (g.C.Cells.seen c.args.overlay.now.cells.now) c.args.node.0 c.args.base in record {
      cells_name = refl;
      scratch_name = refl;
      below = refl;
      room = refl;
      over = refl;
      grew = g.met.C.Cells.grew_nothing c.args.overlay.now.cells.now;
      reads = reads_nothing (g.C.Cells.seen c.args.overlay.now.cells.now);
      sifted = subst (λ out. AreSifted Out [] out) (sym c.requires.empty) nothing;
      fuel = omega arith;
    }

pub try_clause-requires-clause-look : goal.try_clause-requires-clause-look
try_clause-requires-clause-look g c =
    look_later g.C.Cells.program (g.C.Cells.seen c.args.overlay.now.cells.now) (g.C.Cells.seen c.loop-clause.overlay.cells.now) c.args.node.0 c.args.base
    c.args.look.now c.loop-clause.invariant.reads c.requires.look

pub returns-then-is_err-clause-reads : goal.returns-then-is_err-clause-reads
returns-then-is_err-clause-reads g c =
    reads_more (g.C.Cells.seen c.args.overlay.now.cells.now) (g.C.Cells.seen c.loop-clause.overlay.cells.now)
    (g.C.Cells.seen c.try_clause.new.overlay.cells.now)
    c.loop-clause.invariant.reads c.try_clause.ensures.reads

pub returns-in-PutOff-clause-reads : goal.returns-in-PutOff-clause-reads
returns-in-PutOff-clause-reads g c =
    reads_more (g.C.Cells.seen c.args.overlay.now.cells.now) (g.C.Cells.seen c.loop-clause.overlay.cells.now)
    (g.C.Cells.seen c.try_clause.new.overlay.cells.now)
    c.loop-clause.invariant.reads c.try_clause.ensures.reads

pub returns-in-Memory-clause-reads : goal.returns-in-Memory-clause-reads
returns-in-Memory-clause-reads g c =
    reads_more (g.C.Cells.seen c.args.overlay.now.cells.now) (g.C.Cells.seen c.loop-clause.overlay.cells.now)
    (g.C.Cells.seen c.try_clause.new.overlay.cells.now)
    c.loop-clause.invariant.reads c.try_clause.ensures.reads

pub loop-clause-preserved : goal.loop-clause-preserved
loop-clause-preserved g c =
    let P = g.C.Cells.program in
    let node = c.args.node.0 in
    let base = c.args.base in
    let says = c.try_clause.ensures in
    let i = c.loop-clause.invariant in
    let was = g.C.Cells.seen c.loop-clause.overlay.cells.now in
    let new = g.C.Cells.seen c.try_clause.new.overlay.cells.now in
    let Out = IsNoCandidate P new node base in
    let clauses = c.args.clauses.now in
    let k = c.loop-clause.clause-index in
    let clause : ClauseNo = get_or clauses k (record { 0 = 0 }) in
    let low : k < length clauses = omega (arith, c.loop-clause-test.true) in
    let more : take (k + 1) clauses ≡ take k clauses ++ clause ∷ [] = take_more clauses k (record { 0 = 0 }) low in
    let before : AreSifted Out (take k clauses) c.loop-clause.out =
    sifted_later (IsNoCandidate P was node base) Out (λ x fell. no_candidate_later P was new node base x says.reads fell) (take k clauses)
    c.loop-clause.out i.sifted in
    record {
      cells_name = says.cells_name ∙ i.cells_name;
      scratch_name = says.scratch_name ∙ i.scratch_name;
      below = says.below ∙ i.below;
      room = says.room ∙ i.room;
      over = says.over ∙ i.over;
      grew = g.met.C.Cells.grew_on c.args.overlay.now.cells.now c.loop-clause.overlay.cells.now c.try_clause.new.overlay.cells.now i.grew says.grew;
      reads = reads_more (g.C.Cells.seen c.args.overlay.now.cells.now) was new i.reads says.reads;
      sifted = subst (λ ks. AreSifted Out ks c.match-try_clause.out) (sym more) (elim c.match-try_clause.branch [
        | in-Stays+else-is_err w ↦
            subst (AreSifted Out (take k clauses ++ clause ∷ []))
            (sym (begun w.put.result _ (sym w.is_err.ensures.value ∙ w.if-is_err.false) w.put.ensures) ∙ sym w.out-is)
            (kept (take k clauses) c.loop-clause.out clause before)
        | in-Falls w ↦
            subst (AreSifted Out (take k clauses ++ clause ∷ [])) (sym w.out-is)
            (dropped (take k clauses) c.loop-clause.out clause (says.falls w.in-Falls.is) before)
      ]);
      fuel = elim c.match-try_clause.branch [
        | in-Stays+else-is_err w ↦ (let less = says.fuel (stays_some c.try_clause.result w.in-Stays.is) in omega (arith, less, i.fuel))
        | in-Falls w ↦ (let less = says.fuel (falls_some c.try_clause.result w.in-Falls.is) in omega (arith, less, i.fuel))
      ];
    }
