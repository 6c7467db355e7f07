use Rattle.std.proofs.Common.{◌≡◌, ◌∙◌, ◌||◌, Bool, ap, sym, ℕ}
use Rattle.std.proofs.lemmas.Result.{on_ok_weaker}
use Rattle.and_model.specs.Terms.{Term}
use Rattle.and_model.specs.Programs.{Program, is_of}
use Rattle.and_program.specs.Loaded.{program_of, skeleton_of}
use Rattle.and_program.specs.Skeletons.{node_term}
use Rattle.and_lint.specs.Marked.{is_among, marked}
use Rattle.and_lint.proofs.Marking.{clauses_below, clauses_even, grows_same, none_called, no_number, no_variable}
use Rattle.and_lint.proofs.Tasks.{term_of_compound}
use Rattle.and_lint.proofs.reaching.Reached.reach_called.Goals as goal

pub returns-in-Variable : goal.returns-in-Variable
returns-in-Variable c =
    let P : Program = program_of c.args.loaded.now in
    let t : Term = node_term (skeleton_of c.args.loaded.now).nodes c.args.goal.0 in
    record {
      marked = none_called P c.args.self.now.marks.items t (no_variable t c.in-Variable.ensures.term);
      grows = grows_same c.args.self.now.marks.items c.args.self.now.work.items;
    }

pub returns-in-Number : goal.returns-in-Number
returns-in-Number c =
    let P : Program = program_of c.args.loaded.now in
    let t : Term = node_term (skeleton_of c.args.loaded.now).nodes c.args.goal.0 in
    record {
      marked = none_called P c.args.self.now.marks.items t (no_number t c.in-Number.ensures.term);
      grows = grows_same c.args.self.now.marks.items c.args.self.now.work.items;
    }

pub reach_all-requires : goal.reach_all-requires
reach_all-requires c =
    let P : Program = program_of c.args.loaded.now in
    let t : Term = node_term (skeleton_of c.args.loaded.now).nodes c.args.goal.0 in
    let s = term_of_compound t c.in-Compound.name c.in-Compound.count c.in-Compound.ensures.term in
    let are : (d : ℕ) → is_among c.clauses_of.result.now d ≡ is_of P t d = λ d.
    c.clauses_of.ensures.members s.terms d s.width_is ∙ ap (λ (u : Term). is_of P u d) (sym s.term_is) in
    record {
      below = clauses_below P c.args.self.now.marks.items c.clauses_of.result.now t c.requires.long are;
      even = clauses_even P c.args.self.now.marks.items c.clauses_of.result.now t c.requires.even are;
    }

pub returns-in-Compound : goal.returns-in-Compound
returns-in-Compound c =
    let P : Program = program_of c.args.loaded.now in
    let t : Term = node_term (skeleton_of c.args.loaded.now).nodes c.args.goal.0 in
    let s = term_of_compound t c.in-Compound.name c.in-Compound.count c.in-Compound.ensures.term in
    let are : (d : ℕ) → is_among c.clauses_of.result.now d ≡ is_of P t d = λ d.
    c.clauses_of.ensures.members s.terms d s.width_is ∙ ap (λ (u : Term). is_of P u d) (sym s.term_is) in
    record {
      marked = on_ok_weaker c.reach_all.result (λ all d. all d ∙ ap (λ (b : Bool). marked c.args.self.now.marks.items d || b) (are d))
          c.reach_all.ensures.marked;
      grows = c.reach_all.ensures.grows;
    }
