use Rattle.std.proofs.Common.{List, sym, subst}
use Rattle.and_cells.specs.Parts.{named}
use Rattle.and_cells.specs.Ranges.{NamedProgram}
use Rattle.and_handed.specs.declared.told.HandedOn.{HandedOn}
use Rattle.and_branch.specs.Parts.{held_of}
use Rattle.and_closing_laws.specs.Phases.{HasPhased}
use Rattle.and_phase.proofs.JoinedBranches.{joined}
use Rattle.and_phase.proofs.Later.{used_fits}
use Rattle.and_phase.proofs.phasing.reduced.Goals as goal

pub words_of-words-requires : goal.words_of-words-requires
words_of-words-requires g c = (used_fits g.N.Naming.program (held_of c.args.parts.now) c.requires.branch c.requires.live).0

pub join-requires-clause-phased : goal.join-requires-clause-phased
join-requires-clause-phased g c =
    let tolds = c.as_slice.result.now in
    let phased = subst (λ (ts : List HandedOn). HasPhased g.N.Naming.program c.args.parts.now.cells c.in_ok-cells.cells ts) (sym c.as_slice.ensures.value)
    c.in_ok-cells.ensures in (
      c.args.parts.now.cells,
      subst (λ (P : NamedProgram). HasPhased P c.args.parts.now.cells c.in_ok-cells.cells tolds) c.requires.program phased,
    )

pub returns : goal.returns
returns g c =
    let says = c.in_ok-joined.ensures in
    let phased = subst (λ (ts : List HandedOn). HasPhased g.N.Naming.program c.args.parts.now.cells c.in_ok-cells.cells ts) (sym c.as_slice.ensures.value)
    c.in_ok-cells.ensures in
    joined g.N.Naming.program (named c.args.loaded.now) c.requires.program c.args.parts.now c.in_ok-cells.cells c.as_slice.result.now
    c.as_slice-goals.result.now phased c.as_slice-goals.ensures.value c.in_ok-joined.joined says.cells says.gathered says.whole
