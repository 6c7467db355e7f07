use Rattle.std.proofs.Common.{length, subst, false}
use Rattle.and_cells.specs.Ends.{Ends}
use Rattle.and_circles.specs.Following.{LeadsOn}
use Rattle.and_circles.specs.declared.following.Step.{Step}
use Rattle.and_circles.proofs.Sufficing.{all_noted, suffice_with, suffice_taken}
use Rattle.and_circles.proofs.following.ends_soon.Goals as goal

pub loop-most-preserved-in-Some : goal.loop-most-preserved-in-Some
loop-most-preserved-in-Some g c =
    let P = g.N.Naming.program in
    let row = c.args.cells.now in
    let floor = c.args.floor in
    let led = subst (λ (s : Step). LeadsOn P row floor c.loop-most.at c.loop-most.visits.items c.go_on.new.visits.items s) c.in-Ended.is
    c.in_ok-go_on.ensures.leads in
    let taken = suffice_taken P row floor (Ends P row floor false c.args.root) c.go_on.new.visits.items c.pop.new.self.items c.in-Some.next
    (suffice_with P row floor (Ends P row floor false c.loop-most.at
    → Ends P row floor false c.args.root) (Ends P row floor false c.loop-most.at) (Ends P row floor false c.args.root)
    c.loop-most.visits.items c.go_on.new.visits.items c.loop-most.invariant.rest led (λ owes ends. owes ends)) c.in-Some.ensures.items in
    record {
      in_range = taken.0;
      met = λ given. all_noted P (length row) c.loop-most.at c.loop-most.met.items c.go_on.new.met.items (c.loop-most.invariant.met given)
          c.loop-most.invariant.in_range c.in_ok-go_on.ensures.met;
      rest = taken.1;
    }

pub loop-most-preserved : goal.loop-most-preserved
loop-most-preserved g c =
    let P = g.N.Naming.program in
    let row = c.args.cells.now in
    let floor = c.args.floor in
    let led = subst (λ (s : Step). LeadsOn P row floor c.loop-most.at c.loop-most.visits.items c.go_on.new.visits.items s) c.in-Onward.is
    c.in_ok-go_on.ensures.leads in
    record {
      in_range = led.0;
      met = λ given. all_noted P (length row) c.loop-most.at c.loop-most.met.items c.go_on.new.met.items (c.loop-most.invariant.met given)
          c.loop-most.invariant.in_range c.in_ok-go_on.ensures.met;
      rest = suffice_with P row floor (Ends P row floor false c.loop-most.at → Ends P row floor false c.args.root) (Ends P row floor false c.in-Onward.next
          → Ends P row floor false c.loop-most.at)
          (Ends P row floor false c.in-Onward.next → Ends P row floor false c.args.root) c.loop-most.visits.items c.go_on.new.visits.items
          c.loop-most.invariant.rest led.1 (λ owes leads ends. owes (leads ends));
    }
