use Rattle.std.proofs.Common.{refl, sym, ap, ◌∙◌, arith}
use Rattle.and_overlay.specs.Settings.{own_in}
use Rattle.and_overlay.proofs.Kept.{not_kept}
use Rattle.and_overlay.proofs.Looking.{Looked, looked_over}
use Rattle.and_overlay.proofs.Stepping.{misses_frame}
use Rattle.and_overlay.proofs.overlay.Overlay.look_below.Goals as goal
use Rattle.and_overlay.proofs.overlay.Overlay.look_below.Goals.{After-note_if_free}

pub returns-then-place-self-clause-free : goal.returns-then-place-self-clause-free
returns-then-place-self-clause-free g c = λ free.
    let now = c.args.self.now in
    misses_frame g.C.Cells.program now.frame (own_in g.C.Cells.seen now.scratch.now.settings.items) (g.C.Cells.seen now.cells.now)
    now.scratch.now.looked.listed c.args.place now.below
    now.kept (g.met.C.Cells.coherent now.cells.now) now.words (let past = c.if-place-self.true in omega arith)
    (not_kept g.C.Cells.seen now.scratch.now.settings.items c.args.place c.requires.other)

is_looked : (g : _) (c : After-note_if_free g) → Looked g.C.Cells.program (g.C.Cells.seen c.args.self.now.cells.now)
    (g.C.Cells.seen c.look-word.new.self) c.args.self.now.frame
    (own_in g.C.Cells.seen c.args.self.now.scratch.now.settings.items) (own_in g.C.Cells.seen c.note_if_free.new.self.settings.items)
    c.args.self.now.scratch.now.looked.listed
    c.note_if_free.new.self.looked.listed c.args.place c.args.self.now.below c.look-word.result
is_looked g c =
    let now = c.args.self.now in
    looked_over g.C.Cells.program (g.C.Cells.seen now.cells.now) (g.C.Cells.seen c.look-word.new.self) now.frame
    (own_in g.C.Cells.seen now.scratch.now.settings.items)
    (own_in g.C.Cells.seen c.note_if_free.new.self.settings.items) now.scratch.now.looked.listed c.note_if_free.new.self.looked.listed
    c.args.place _ now.below c.look-word.result
    now.kept (g.met.C.Cells.coherent now.cells.now) (g.met.C.Cells.coherent c.look-word.new.self) c.look-word.ensures.only_reads
    c.look-word.ensures.found c.look-word.ensures.free
    (let low = c.if-place-self.false in let words = now.words in omega arith)
    (not_kept g.C.Cells.seen now.scratch.now.settings.items c.args.place c.requires.other)
    (ap (own_in g.C.Cells.seen) c.note_if_free.ensures.settings)
    c.note_if_free.ensures.set c.note_if_free.ensures.free

pub invariant_of-self : goal.invariant_of-self
invariant_of-self g c =
    let now = c.args.self.now in
    let looked = is_looked g c in
    let room = now.room in
    let same = c.note_if_free.ensures.room in record {
      words = now.words ∙ sym c.look-word.ensures.only_reads.words;
      few = now.few;
      room = (omega arith, omega arith);
      kept = looked.over;
    }

pub returns-clause-grew : goal.returns-clause-grew
returns-clause-grew g c = record {
  cells_name = refl;
  scratch_name = refl;
  below = refl;
  frame = refl;
  over = c.look-word.ensures.over;
  grew = c.look-word.ensures.grew;
  only_reads = c.look-word.ensures.only_reads;
  room = c.note_if_free.ensures.room;
}

pub returns-clause-only_reads : goal.returns-clause-only_reads
returns-clause-only_reads g c = let looked = is_looked g c.before in looked.reads

pub returns-clause-found : goal.returns-clause-found
returns-clause-found g c = let looked = is_looked g c.before in looked.found

pub returns-clause-free : goal.returns-clause-free
returns-clause-free g c = let looked = is_looked g c.before in looked.free
