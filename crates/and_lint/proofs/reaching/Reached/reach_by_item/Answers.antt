use Rattle.std.proofs.Common.{◌∙◌, ◌||◌, ap, sym, List}
use Rattle.std.proofs.lemmas.Result.{on_ok_weaker}
use Rattle.and_model.specs.Programs.{Program}
use Rattle.and_program.specs.Items.{node_item}
use Rattle.and_program.specs.Loaded.{program_of, skeleton_of}
use Rattle.and_program.specs.Skeletons.{Shape, item_of, node_term}
use Rattle.and_program.specs.declared.item.ItemNode.{ItemNode}
use Rattle.and_lint.specs.Marked.{calls, marked}
use Rattle.and_lint.proofs.Marking.{even_after, grows_same, or_false}
use Rattle.and_lint.proofs.reaching.Reached.reach_by_item.Goals as goal

pub returns-in-Call : goal.returns-in-Call
returns-in-Call c =
    let P : Program = program_of c.args.loaded.now in
    let ss : List Shape = (skeleton_of c.args.loaded.now).nodes in
    record {
      marked = on_ok_weaker c.reach_called.result
          (λ here d. here d ∙ ap (λ (i : ItemNode). marked c.args.self.now.marks.items d || calls P (item_of ss (node_item i)) d) (sym c.in-Call.is))
          c.reach_called.ensures.marked;
      grows = c.reach_called.ensures.grows;
      even = on_ok_weaker c.reach_called.result
          (λ here. even_after P c.args.self.now.marks.items c.reach_called.new.self.marks.items (node_term ss c.in-Call.goal.0) c.requires.even here)
          c.reach_called.ensures.marked;
    }

pub returns-in-Equal : goal.returns-in-Equal
returns-in-Equal c =
    let P : Program = program_of c.args.loaded.now in
    let ss : List Shape = (skeleton_of c.args.loaded.now).nodes in
    record {
      marked = λ d. or_false (marked c.args.self.now.marks.items d) (calls P (item_of ss (node_item c.args.item)) d)
          (ap (λ (i : ItemNode). calls P (item_of ss (node_item i)) d) c.in-Equal.is);
      grows = grows_same c.args.self.now.marks.items c.args.self.now.work.items;
      even = c.requires.even;
    }

pub returns-in-Is : goal.returns-in-Is
returns-in-Is c =
    let P : Program = program_of c.args.loaded.now in
    let ss : List Shape = (skeleton_of c.args.loaded.now).nodes in
    record {
      marked = λ d. or_false (marked c.args.self.now.marks.items d) (calls P (item_of ss (node_item c.args.item)) d)
          (ap (λ (i : ItemNode). calls P (item_of ss (node_item i)) d) c.in-Is.is);
      grows = grows_same c.args.self.now.marks.items c.args.self.now.work.items;
      even = c.requires.even;
    }

pub returns-in-Compare : goal.returns-in-Compare
returns-in-Compare c =
    let P : Program = program_of c.args.loaded.now in
    let ss : List Shape = (skeleton_of c.args.loaded.now).nodes in
    record {
      marked = λ d. or_false (marked c.args.self.now.marks.items d) (calls P (item_of ss (node_item c.args.item)) d)
          (ap (λ (i : ItemNode). calls P (item_of ss (node_item i)) d) c.in-Compare.is);
      grows = grows_same c.args.self.now.marks.items c.args.self.now.work.items;
      even = c.requires.even;
    }

pub returns-in-Fail : goal.returns-in-Fail
returns-in-Fail c =
    let P : Program = program_of c.args.loaded.now in
    let ss : List Shape = (skeleton_of c.args.loaded.now).nodes in
    record {
      marked = λ d. or_false (marked c.args.self.now.marks.items d) (calls P (item_of ss (node_item c.args.item)) d)
          (ap (λ (i : ItemNode). calls P (item_of ss (node_item i)) d) c.in-Fail.is);
      grows = grows_same c.args.self.now.marks.items c.args.self.now.work.items;
      even = c.requires.even;
    }
