use Rattle.std.proofs.Common.{ℕ, ◌≡◌, ◌≤◌, [], List, length, sym, subst}
use Rattle.std.specs.Prelude.{All}
use Rattle.std.proofs.lemmas.List.Elements.{All-nil}
use Rattle.and_model.specs.Programs.{clause_at}
use Rattle.and_model.specs.declared.reference.Ref.{Ref}
use Rattle.and_model.specs.declared.reference.Ref.TheVariants.{Free}
use Rattle.and_program.specs.Loaded.{arguments_at}
use Rattle.and_program.specs.Skeletons.{node_term}
use Rattle.and_cells.specs.Ranges.{NamedProgram}
use Rattle.and_cells.specs.Seen.{word_at, AreFree}
use Rattle.and_clause_index.proofs.ClauseLists.{clause_there}
use Rattle.and_guards.proofs.Nodes.{loaded_is}
use Rattle.and_determinacy.specs.Seeing.{IsUsable, Meets, argument_pairs}
use Rattle.and_determinacy.proofs.FreeCalls.{call_no_variable, unguarded_by}
use Rattle.and_determinacy.specs.Parting.{ArePartedBy}
use Rattle.and_determinacy.proofs.Parted.{no_candidate}
use Rattle.and_determinacy.proofs.SureCalls.{alike, seen_stays, stays_now}
use Rattle.and_determinacy.proofs.seeing.is_seen.Goals as goal

pub guard-guard-requires : goal.guard-guard-requires
guard-guard-requires g c =
    let P = g.N.Naming.program in
    subst (λ (Q : NamedProgram). c.args.clause.0 ≤ length Q.program.clauses) c.requires.program
    (clause_there P.program (node_term P.skeleton.nodes c.args.node.0) c.args.clause.0 c.requires.of)

pub head-head-requires : goal.head-head-requires
head-head-requires g c =
    let P = g.N.Naming.program in
    subst (λ (Q : NamedProgram). c.args.clause.0 ≤ length Q.program.clauses) c.requires.program
    (clause_there P.program (node_term P.skeleton.nodes c.args.node.0) c.args.clause.0 c.requires.of)

pub arguments_meet-requires-clause-falls : goal.arguments_meet-requires-clause-falls
arguments_meet-requires-clause-falls g c =
    let facts = loaded_is g.N.Naming.program c.args.loaded.now c.requires.program c.skeleton_is_of_the_program.ensures.skeleton
    c.skeleton_is_of_the_program.ensures.own_variables c.skeleton_is_of_the_program.ensures.few in
    facts.skeleton.0

pub arguments_meet-requires-clause-in_range : goal.arguments_meet-requires-clause-in_range
arguments_meet-requires-clause-in_range g c =
    let P = g.N.Naming.program in
    let facts = loaded_is P c.args.loaded.now c.requires.program c.skeleton_is_of_the_program.ensures.skeleton
    c.skeleton_is_of_the_program.ensures.own_variables c.skeleton_is_of_the_program.ensures.few in
    (c.requires.node.in_range, call_no_variable P facts.skeleton.0 c.args.base c.args.node.0 c.args.clause.0 c.requires.of)

pub arguments_meet-requires-clause-as_many : goal.arguments_meet-requires-clause-as_many
arguments_meet-requires-clause-as_many g c =
    let P = g.N.Naming.program in
    let facts = loaded_is P c.args.loaded.now c.requires.program c.skeleton_is_of_the_program.ensures.skeleton
    c.skeleton_is_of_the_program.ensures.own_variables c.skeleton_is_of_the_program.ensures.few in
    let clause = c.args.clause.0 in
    let head = c.head-head.result.0 in
    let is = subst (λ (Q : NamedProgram). node_term Q.skeleton.nodes head ≡ (clause_at Q.program clause).head) (sym c.requires.program)
    c.head-head.ensures.term in
    subst (λ (Q : NamedProgram). length (arguments_at Q.skeleton c.args.node.0) ≡ length (arguments_at Q.skeleton head)) c.requires.program
    (alike P facts.skeleton.0 c.args.node.0 head clause is c.requires.of).counted

pub arguments_meet-requires-clause-usable : goal.arguments_meet-requires-clause-usable
arguments_meet-requires-clause-usable g c =
    let usable = IsUsable g.N.Naming.program (length c.args.cells.now) in
    subst (All usable) (sym c.requires.nothing_given) (All-nil usable)

pub returns-clause-stays : goal.returns-clause-stays
returns-clause-stays g c = λ e.
    let P = g.N.Naming.program in
    let row = c.args.cells.now in
    let base = c.args.base in
    let node = c.args.node.0 in
    let clause = c.args.clause.0 in
    let head = c.head-head.result.0 in
    let has = c.arguments_meet.new.held.items in
    let gives = c.arguments_meet.new.given.items in
    let facts = loaded_is P c.args.loaded.now c.requires.program c.skeleton_is_of_the_program.ensures.skeleton
    c.skeleton_is_of_the_program.ensures.own_variables c.skeleton_is_of_the_program.ensures.few in
    let is = subst (λ (Q : NamedProgram). node_term Q.skeleton.nodes head ≡ (clause_at Q.program clause).head) (sym c.requires.program)
    c.head-head.ensures.term in
    let none = unguarded_by P c.args.loaded.now c.requires.program c.args.clause c.guard-guard.result c.guard-guard.ensures c.if-guard-gt0.false in
    let pairs = argument_pairs P base (arguments_at P.skeleton node) (arguments_at P.skeleton head) in
    seen_stays P facts.skeleton.0 row base node head clause has gives is c.requires.of none
    (subst (λ (rs : List Ref). Meets P row [] has rs gives pairs) c.requires.nothing_given
    (subst (λ (cs : List ℕ). Meets P row cs has c.args.given.now.items gives pairs) c.requires.nothing_held (c.arguments_meet.ensures.meets e)))

pub returns-clause-fits : goal.returns-clause-fits
returns-clause-fits g c = λ e.
    let P = g.N.Naming.program in
    let row = c.args.cells.now in
    let has = c.arguments_meet.new.held.items in
    let begins : AreFree row c.args.held.now.items =
    subst (AreFree row) (sym c.requires.nothing_held) (All-nil (λ (cell : ℕ). word_at row cell ≡ Free)) in
    stays_now P row c.args.base (node_term P.skeleton.nodes c.args.node.0) has c.args.clause.0 c.len-words.ensures.sound c.requires.settled
    ((c.arguments_meet.ensures.meets e).free begins) (returns-clause-stays g c e)

pub returns-clause-apart : goal.returns-clause-apart
returns-clause-apart g c = λ e.
    let P = g.N.Naming.program in
    let row = c.args.cells.now in
    let base = c.args.base in
    let node = c.args.node.0 in
    let clause = c.args.clause.0 in
    let head = c.head-head.result.0 in
    let facts = loaded_is P c.args.loaded.now c.requires.program c.skeleton_is_of_the_program.ensures.skeleton
    c.skeleton_is_of_the_program.ensures.own_variables c.skeleton_is_of_the_program.ensures.few in
    let is = subst (λ (Q : NamedProgram). node_term Q.skeleton.nodes head ≡ (clause_at Q.program clause).head) (sym c.requires.program)
    c.head-head.ensures.term in
    let pairs = argument_pairs P base (arguments_at P.skeleton node) (arguments_at P.skeleton head) in
    no_candidate P row facts.skeleton.0 base node head clause is c.requires.of
    (subst (λ (rs : List Ref). ArePartedBy P row rs pairs) c.requires.nothing_given (c.arguments_meet.ensures.apart e))
