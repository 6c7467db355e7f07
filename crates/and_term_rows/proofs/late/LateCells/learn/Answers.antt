use Rattle.std.proofs.Common.{◌<◌, length, arith}
use Rattle.and_term_rows.proofs.Glimpses.{push_kept, few_known}
use Rattle.and_term_rows.proofs.late.LateCells.learn.Goals as goal

pub put-requires : goal.put-requires
put-requires g c =
    let old = c.args.self.now in
    let few : length old.known.items < length old.words =
    few_known old.words old.known.items old.missed.items c.args.place old.once old.so c.requires.place c.requires.unknown in
    let many = old.known.ok.0 in
    let room = old.room in
    omega arith

pub invariant_of-self : goal.invariant_of-self
invariant_of-self g c =
    let old = c.args.self.now in
    let kept = push_kept old.words old.known.items c.put.new.known.items (
      c.args.place,
      c.args.value,
      c.args.is_own,
    ) c.put.ensures.items old.once old.so c.requires.so c.requires.unknown in
    let room = old.room in record {
      once = kept.0;
      so = kept.1;
      room = omega arith;
    }
