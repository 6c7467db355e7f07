use Rattle.std.proofs.Common.{◌≡◌, ◌^◌, ◌<◌, ◌++◌, ◌∷◌, [], List, length, refl, sym, ap, subst, arith}
use Rattle.and_model.specs.Terms.{Term, variables_of}
use Rattle.and_model.specs.Lines.{shown}
use Rattle.and_cells.specs.Parts.{named}
use Rattle.and_cells.proofs.OneTerm.{one_term}
use Rattle.and_print.specs.Writing.{Writes}
use Rattle.and_print.specs.Tasks.{Piece, whole, AllMean, Owes}
use Rattle.and_print.specs.declared.tasks.Task.{Task}
use Rattle.and_print.specs.declared.tasks.Task.TheVariants.{Whole}
use Rattle.and_print.proofs.Owing.{owes_all, owes_on, owes_none, tops, no_pieces, all_mean_append}
use Rattle.and_print.proofs.Doing.{less_left}
use Rattle.and_print.proofs.printer.Printer.write_term.Goals as goal

pub loop-task-init : goal.loop-task-init
loop-task-init g c =
    let P = named c.args.self.now.loaded.now in
    let row = c.args.self.now.cells.now in
    let (t, m) = c.requires.means in
    let one : c.new-work.result.items ++ Whole c.args.term ∷ [] ≡ Whole c.args.term ∷ [] =
    ap (λ (ks : List Task). ks ++ Whole c.args.term ∷ []) c.new-work.ensures.items in
    record {
      value = t;
      means = m;
      pieces = whole t ∷ [];
      mean = subst (λ (ks : List Task). AllMean P row ks (whole t ∷ [])) (sym one) ((t, refl, m), tt);
      owes = owes_all P.program.names (whole t) c.args.names.now c.args.out.now;
    }

pub write_task-requires-clause-means : goal.write_task-requires-clause-means
write_task-requires-clause-means g c =
    let P = named c.args.self.now.loaded.now in
    let row = c.args.self.now.cells.now in
    let i = c.loop-task.invariant in
    let mean = subst (λ (ks : List Task). AllMean P row ks i.pieces) c.in-Some.ensures.some i.mean in
    let top = tops P row c.next_of.new.work.items c.in-Some.task i.pieces mean in
    (top.piece, top.top_means)

pub loop-task-smaller : goal.loop-task-smaller
loop-task-smaller g c =
    let P = named c.args.self.now.loaded.now in
    let row = c.args.self.now.cells.now in
    let i = c.loop-task.invariant in
    let mean = subst (λ (ks : List Task). AllMean P row ks i.pieces) c.in-Some.ensures.some i.mean in
    let top = tops P row c.next_of.new.work.items c.in-Some.task i.pieces mean in
    let short : length c.write_task.new.out < 2 ^ 64 = let e = c.len-length.ensures in omega arith in
    less_left P row _ _ _ _ _ _ _ _ _ _ (c.in_ok-hand.ensures top.piece top.top_means) c.in-Some.ensures.some short

pub loop-task-preserved : goal.loop-task-preserved
loop-task-preserved g c =
    let P = named c.args.self.now.loaded.now in
    let row = c.args.self.now.cells.now in
    let i = c.loop-task.invariant in
    let mean = subst (λ (ks : List Task). AllMean P row ks i.pieces) c.in-Some.ensures.some i.mean in
    let top = tops P row c.next_of.new.work.items c.in-Some.task i.pieces mean in
    let d = c.in_ok-hand.ensures top.piece top.top_means in
    let owed = subst (λ (ps : List Piece). Owes P.program.names ps (variables_of i.value) (λ vs. shown P.program.names vs i.value) c.args.names.now
    c.loop-task.names c.args.out.now c.loop-task.out) top.are i.owes in
    record {
      value = i.value;
      means = i.means;
      pieces = top.others ++ d.pieces;
      mean = subst (λ (ks : List Task). AllMean P row ks (top.others ++ d.pieces)) (sym d.pushed)
          (all_mean_append P row c.next_of.new.work.items d.tasks top.others d.pieces top.below_mean d.mean);
      owes = owes_on P.program.names top.others d.pieces top.piece _ _ _ _ _ _ _ _ owed d.owes;
    }

pub returns : goal.returns
returns g c = λ t m.
    let P = named c.args.self.now.loaded.now in
    let row = c.args.self.now.cells.now in
    let i = c.loop-task.invariant in
    let same : i.value ≡ t = one_term P row c.args.term i.value t i.means.stands m.stands in
    let none = no_pieces P row i.pieces (subst (λ (ks : List Task). AllMean P row ks i.pieces) c.in_default.ensures.none i.mean) in
    let owed = subst (λ (ps : List Piece). Owes P.program.names ps (variables_of i.value) (λ vs. shown P.program.names vs i.value) c.args.names.now
    c.loop-task.names c.args.out.now c.loop-task.out) none i.owes in
    subst (λ (u : Term). Writes (variables_of u) (λ vs. shown P.program.names vs u) c.args.names.now c.loop-task.names c.args.out.now c.loop-task.out) same
    (owes_none P.program.names _ _ _ _ _ _ owed)
