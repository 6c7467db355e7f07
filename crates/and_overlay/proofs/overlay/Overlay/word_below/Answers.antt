use Rattle.std.proofs.Common.{◌<◌, ◌∙◌, refl, sym, subst}
use Rattle.and_overlay.specs.Settings.{own_in}
use Rattle.and_overlay.proofs.Looking.{WordRead, asked_below, word_read}
use Rattle.and_overlay.proofs.overlay.Overlay.word_below.Goals as goal
use Rattle.and_overlay.proofs.overlay.Overlay.word_below.Goals.{After-look}
use Rattle.and_cells.proofs.Chains.{reads_more}

pub number-requires-clause-pair : goal.number-requires-clause-pair
number-requires-clause-pair g c =
    let now = c.args.self.now in
    (asked_below g.C.Cells.program (g.C.Cells.seen now.cells.now) now.frame (own_in g.C.Cells.seen now.scratch.now.settings.items)
    now.scratch.now.looked.listed c.args.pair c.args.place
    now.kept (g.met.C.Cells.coherent now.cells.now) c.requires.written c.requires.word c.requires.unknown).0

pub number-requires-clause-written : goal.number-requires-clause-written
number-requires-clause-written g c =
    let now = c.args.self.now in
    (asked_below g.C.Cells.program (g.C.Cells.seen now.cells.now) now.frame (own_in g.C.Cells.seen now.scratch.now.settings.items)
    now.scratch.now.looked.listed c.args.pair c.args.place
    now.kept (g.met.C.Cells.coherent now.cells.now) c.requires.written c.requires.word c.requires.unknown).1

pub look-requires : goal.look-requires
look-requires g c =
    let now = c.args.self.now in
    subst (λ n. c.args.place < n) (sym c.number.ensures.only_reads.words)
    (asked_below g.C.Cells.program (g.C.Cells.seen now.cells.now) now.frame (own_in g.C.Cells.seen now.scratch.now.settings.items)
    now.scratch.now.looked.listed c.args.pair c.args.place
    now.kept (g.met.C.Cells.coherent now.cells.now) c.requires.written c.requires.word c.requires.unknown).2

is_read : (g : _) (c : After-look g) → WordRead g.C.Cells.program (g.C.Cells.seen c.args.self.now.cells.now)
    (g.C.Cells.seen c.look.new.self) c.args.self.now.frame
    (own_in g.C.Cells.seen c.args.self.now.scratch.now.settings.items) c.args.self.now.scratch.now.looked.listed c.args.pair c.args.place
    c.look.result
is_read g c =
    let now = c.args.self.now in
    word_read g.C.Cells.program (g.C.Cells.seen now.cells.now) (g.C.Cells.seen c.number.new.self) (g.C.Cells.seen c.look.new.self) now.frame
    (own_in g.C.Cells.seen now.scratch.now.settings.items) now.scratch.now.looked.listed c.args.pair c.args.place _ _ c.look.result now.kept
    (g.met.C.Cells.coherent now.cells.now) (g.met.C.Cells.coherent c.number.new.self) (g.met.C.Cells.coherent c.look.new.self)
    c.number.ensures.only_reads c.number.ensures.read c.look.ensures.only_reads c.look.ensures.found c.look.ensures.free
    c.requires.written c.requires.word c.requires.unknown

pub invariant_of-self : goal.invariant_of-self
invariant_of-self g c =
    let now = c.args.self.now in
    let read = is_read g c in record {
      words = now.words ∙ sym (c.look.ensures.only_reads.words ∙ c.number.ensures.only_reads.words);
      few = now.few;
      room = now.room;
      kept = read.over;
    }

pub returns-clause-grew : goal.returns-clause-grew
returns-clause-grew g c = record {
  cells_name = refl;
  scratch_name = refl;
  below = refl;
  frame = refl;
  over = c.look.ensures.over ∙ c.number.ensures.over;
  grew = g.met.C.Cells.grew_on c.args.self.now.cells.now c.number.new.self c.look.new.self c.number.ensures.grew c.look.ensures.grew;
  only_reads = reads_more _ _ _ c.number.ensures.only_reads c.look.ensures.only_reads;
  room = (refl, refl);
}

pub returns-clause-only_reads : goal.returns-clause-only_reads
returns-clause-only_reads g c = let read = is_read g c.before in read.reads

pub returns-clause-known : goal.returns-clause-known
returns-clause-known g c = let read = is_read g c.before in read.known

pub returns-clause-fits : goal.returns-clause-fits
returns-clause-fits g c = let read = is_read g c.before in read.fits

pub returns-clause-only : goal.returns-clause-only
returns-clause-only g c = let read = is_read g c.before in read.only
