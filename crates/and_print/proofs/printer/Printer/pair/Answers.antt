use Rattle.and_cells.specs.Parts.{named}
use Rattle.and_print.proofs.Parting.{no_pair, one_alone, two_alone, three_or_more}
use Rattle.and_print.proofs.printer.Printer.pair.Goals as goal

pub returns-in_default : goal.returns-in_default
returns-in_default g c = λ ts m. no_pair ts (c.in_default.ensures ts m)

pub split_first-requires-2 : goal.split_first-requires-2
split_first-requires-2 g c =
    let (ts, m) = c.requires in
    let s = c.in-Some.ensures ts m in
    (s.terms, s.rest_means)

pub returns-in_default-split_first : goal.returns-in_default-split_first
returns-in_default-split_first g c = λ ts m.
    let s = c.in-Some.ensures ts m in
    one_alone (named c.args.self.now.loaded.now) c.args.self.now.cells.now c.in-Some.first c.in-Some.first c.in-Some.rest c.in-Some.rest ts s
    (c.in_default-split_first.ensures s.terms s.rest_means)

pub split_first-requires-3 : goal.split_first-requires-3
split_first-requires-3 g c =
    let (ts, m) = c.requires in
    let s = c.in-Some.ensures ts m in
    let z = c.in-Some-split_first.ensures s.terms s.rest_means in
    (z.terms, z.rest_means)

pub returns-in-None : goal.returns-in-None
returns-in-None g c = λ ts m.
    let s = c.in-Some.ensures ts m in
    let z = c.in-Some-split_first.ensures s.terms s.rest_means in
    two_alone (named c.args.self.now.loaded.now) c.args.self.now.cells.now c.in-Some.first c.in-Some-split_first.second c.in-Some.rest
    c.in-Some-split_first.last ts s z (c.in-None.ensures z.terms z.rest_means)

pub returns-in-Some-split_first-2 : goal.returns-in-Some-split_first-2
returns-in-Some-split_first-2 g c = λ ts m.
    let s = c.in-Some.ensures ts m in
    let z = c.in-Some-split_first.ensures s.terms s.rest_means in
    let y = c.in-Some-split_first-2.ensures z.terms z.rest_means in
    three_or_more (named c.args.self.now.loaded.now) c.args.self.now.cells.now c.in-Some.first c.in-Some-split_first.second c.in-Some.rest
    c.in-Some-split_first.last ts s z _ _ y
