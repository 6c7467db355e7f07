use Rattle.std.specs.Prelude.{filter, IsSome}
use Rattle.std.proofs.Common.{◌≡◌, ◌≤◌, false, List, sym, subst, refl, Option, length}
use Rattle.and_model.specs.declared.goal.Cut.{Cut}
use Rattle.and_model.specs.declared.reference.Ref.{Ref}
use Rattle.and_branch_parts.specs.Branches.{Held, IsBranch, IsBranchOf}
use Rattle.and_branch_parts.specs.Finding.{IsSeveral}
use Rattle.and_branch_parts.specs.Forking.{fits_in, first_other}
use Rattle.and_branch_parts.specs.Resting.{IsResting}
use Rattle.and_branch.specs.States.{IsState}
use Rattle.and_branch_parts.proofs.LoadedPrograms.{is_loaded}
use Rattle.and_branch_parts.proofs.ArithmeticRuns.{row_short, row_fits}
use Rattle.and_branch.proofs.StatesFound.{there_judged, two_there, candidates_there, some_cut, told_fork}
use Rattle.and_branch.proofs.branch.Branch.forked.Goals as goal

pub candidates_of_several-requires-clause-short : goal.candidates_of_several-requires-clause-short
candidates_of_several-requires-clause-short g c =
    let P = g.N.Naming.program in
    let says = c.skeleton_is_of_the_program.ensures in
    let loaded = is_loaded P c.args.loaded.now c.requires.program says.skeleton says.own_variables says.few in
    let branch = subst (λ (b : Held). IsBranch P b) (sym c.self.view_is) c.requires.branch in
    let live = subst (λ (b : Held). b.is_failed ≡ false) (sym c.self.view_is) c.requires.live in
    row_short P loaded _ branch.0 branch.1 live

pub candidates_of_several-requires-clause-goal : goal.candidates_of_several-requires-clause-goal
candidates_of_several-requires-clause-goal g c =
    let P = g.N.Naming.program in
    let says = c.skeleton_is_of_the_program.ensures in
    let loaded = is_loaded P c.args.loaded.now c.requires.program says.skeleton says.own_variables says.few in
    let branch = subst (λ (b : Held). IsBranch P b) (sym c.self.view_is) c.requires.branch in
    let live = subst (λ (b : Held). b.is_failed ≡ false) (sym c.self.view_is) c.requires.live in
    let several = subst (λ (b : Held). IsSeveral P b.row b.left c.args.goal) (sym c.self.view_is) c.requires.several in
    there_judged P loaded _ branch.0 branch.1 live c.args.goal several.among

pub candidates_of_several-requires-clause-several : goal.candidates_of_several-requires-clause-several
candidates_of_several-requires-clause-several g c =
    let P = g.N.Naming.program in
    let several = subst (λ (b : Held). IsSeveral P b.row b.left c.args.goal) (sym c.self.view_is) c.requires.several in
    two_there P _ _ c.args.goal several

pub part_list-requires-clause-clauses : goal.part_list-requires-clause-clauses
part_list-requires-clause-clauses g c =
    candidates_there g.N.Naming.program c.self.inside.cells c.args.goal c.candidates_of_several.new.out c.in_ok-candidates_of_several.ensures.candidates

pub part_list-requires-clause-room : goal.part_list-requires-clause-room
part_list-requires-clause-room g c =
    let P = g.N.Naming.program in
    let says = c.skeleton_is_of_the_program.ensures in
    let loaded = is_loaded P c.args.loaded.now c.requires.program says.skeleton says.own_variables says.few in
    let branch = subst (λ (b : Held). IsBranch P b) (sym c.self.view_is) c.requires.branch in
    let live = subst (λ (b : Held). b.is_failed ≡ false) (sym c.self.view_is) c.requires.live in
    subst (λ (row : List Ref). length row ≤ c.self.inside.limit) (sym c.in_ok-candidates_of_several.ensures.unchanged)
    (row_fits P loaded _ branch.0 branch.1 live)

pub fork_of-requires : goal.fork_of-requires
fork_of-requires g c = λ none.
    let P = g.N.Naming.program in
    let says = c.skeleton_is_of_the_program.ensures in
    let loaded = is_loaded P c.args.loaded.now c.requires.program says.skeleton says.own_variables says.few in
    let branch = subst (λ (b : Held). IsBranch P b) (sym c.self.view_is) c.requires.branch in
    let live = subst (λ (b : Held). b.is_failed ≡ false) (sym c.self.view_is) c.requires.live in
    let rests = subst (λ (b : Held). IsResting P b) (sym c.self.view_is) c.requires.rests in
    let several = subst (λ (b : Held). IsSeveral P b.row b.left c.args.goal) (sym c.self.view_is) c.requires.several in
    let cs = c.candidates_of_several.new.out in
    let same = c.in_ok-candidates_of_several.ensures.unchanged in
    let fitting = subst (λ (row : List Ref). c.in_ok-parted.parted.fitting ≡ filter (fits_in P c.self.inside.limit row) cs) same
    c.in_ok-parted.ensures.fitting in
    let heavy = subst (λ (row : List Ref). c.in_ok-parted.parted.heavy ≡ first_other (fits_in P c.self.inside.limit row) cs) same
    c.in_ok-parted.ensures.heavy in
    let some = some_cut P loaded _ branch.0 branch.1 live rests c.args.goal several cs c.in_ok-candidates_of_several.ensures.candidates
    c.in_ok-parted.parted.fitting fitting c.in_ok-parted.parted.heavy heavy c.in_ok-cut.cut c.in_ok-cut.ensures none in
    subst (λ (o : Option Cut). IsSome o) (sym some.1) refl

pub returns-clause-judged : goal.returns-clause-judged
returns-clause-judged g c = λ t x.
    let P = g.N.Naming.program in
    let says = c.skeleton_is_of_the_program.ensures in
    let loaded = is_loaded P c.args.loaded.now c.requires.program says.skeleton says.own_variables says.few in
    let branch = subst (λ (b : Held). IsBranchOf P b t) (sym c.self.view_is) x in
    let live = subst (λ (b : Held). b.is_failed ≡ false) (sym c.self.view_is) c.requires.live in
    let rests = subst (λ (b : Held). IsResting P b) (sym c.self.view_is) c.requires.rests in
    let several = subst (λ (b : Held). IsSeveral P b.row b.left c.args.goal) (sym c.self.view_is) c.requires.several in
    let cs = c.candidates_of_several.new.out in
    let same = c.in_ok-candidates_of_several.ensures.unchanged in
    let fitting = subst (λ (row : List Ref). c.in_ok-parted.parted.fitting ≡ filter (fits_in P c.self.inside.limit row) cs) same
    c.in_ok-parted.ensures.fitting in
    let heavy = subst (λ (row : List Ref). c.in_ok-parted.parted.heavy ≡ first_other (fits_in P c.self.inside.limit row) cs) same
    c.in_ok-parted.ensures.heavy in
    subst (λ (b : Held). IsState P b t c.fork_of.result) c.self.view_is
    (told_fork P loaded _ t branch live rests c.args.goal several cs c.in_ok-candidates_of_several.ensures.candidates
    c.in_ok-parted.parted.fitting fitting c.in_ok-parted.parted.heavy heavy c.in_ok-cut.cut c.in_ok-cut.ensures c.fork_of.result
    c.fork_of.ensures.fork c.fork_of.ensures.over)
