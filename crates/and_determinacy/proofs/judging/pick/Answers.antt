use Rattle.std.proofs.Common.{◌+◌, ◌≡◌, ◌<◌, ◌++◌, ◌∷◌, [], length, take, get_or, true≢false, refl, sym, subst, arith, ◌∙◌}
use Rattle.std.proofs.lemmas.List.{take_more, take_all}
use Rattle.and_model.specs.declared.numbers.ClauseNo.{ClauseNo}
use Rattle.and_clause_index.specs.Looks.{IsLook}
use Rattle.and_clause_index.specs.Served.{NodeHas}
use Rattle.and_determinacy.proofs.Picking.{Picks, nothing, picked, passed}
use Rattle.and_determinacy.proofs.Searching.{picked_are}
use Rattle.and_determinacy.proofs.judging.pick.Goals as goal
use Rattle.and_determinacy.proofs.judging.pick.Goals.{then-branch+in_ok-put, else-branch}

pub loop-clause-init : goal.loop-clause-init
loop-clause-init g c =
    let Q = NodeHas g.N.Naming.program c.args.cells.now c.args.node.0 c.args.goal.base in
    record {
      same = refl;
      look = c.requires.look;
      picks = subst (λ out. Picks Q [] out) (sym c.requires.empty) nothing;
    }

pub loop-clause-preserved : goal.loop-clause-preserved
loop-clause-preserved g c =
    let P = g.N.Naming.program in
    let node = c.args.node.0 in
    let base = c.args.goal.base in
    let Q = NodeHas P c.args.cells.now node base in
    let clauses = c.args.clauses.now in
    let i = c.loop-clause.clause-index in
    let clause : ClauseNo = get_or clauses i (record { 0 = 0 }) in
    let low : i < length clauses = omega arith in
    let more : take (i + 1) clauses ≡ take i clauses ++ clause ∷ [] = take_more clauses i (record { 0 = 0 }) low in
    let tells = c.in_ok-fits.ensures.fits c.in_ok-fits.field-0 refl in
    let same = c.loop-clause.invariant.same in
    let picks = c.loop-clause.invariant.picks in
    record {
      same = c.fits.ensures.unchanged ∙ same;
      look = subst (IsLook P c.args.cells.now node base) (sym c.fits.ensures.look) c.loop-clause.invariant.look;
      picks = subst (λ ks. Picks Q ks c.if-branch.out) (sym more) (elim c.if-branch.branch [
        | then-branch+in_ok-put w ↦
            let is : Q clause = subst (λ r. NodeHas P r node base clause) same (tells.0 w.if-branch.true) in
            subst (Picks Q (take i clauses ++ clause ∷ [])) (sym w.in_ok-put.ensures ∙ sym w.out-is)
            (picked (take i clauses) c.loop-clause.out clause is picks)
        | else-branch w ↦
            let fails : Q clause → ⊥ = λ q.
            true≢false (sym (tells.1 (subst (λ r. NodeHas P r node base clause) (sym same) q)) ∙ w.if-branch.false) in
            subst (Picks Q (take i clauses ++ clause ∷ [])) (sym w.out-is) (passed (take i clauses) c.loop-clause.out clause fails picks)
      ]);
    }

pub returns-clause-candidates : goal.returns-clause-candidates
returns-clause-candidates g c =
    let P = g.N.Naming.program in
    let row = c.args.cells.now in
    let node = c.args.node.0 in
    let base = c.args.goal.base in
    let clauses = c.args.clauses.now in
    let all : take c.loop-clause.clause-index clauses ≡ clauses = take_all c.loop-clause.clause-index clauses (omega arith) in
    picked_are P row c.args.goal node c.requires.node clauses c.requires.served c.loop-clause.out
    (subst (λ ks. Picks (NodeHas P row node base) ks c.loop-clause.out) all c.loop-clause.invariant.picks)
