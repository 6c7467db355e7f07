use Rattle.and_code.proofs.Linking.{none_anywhere}
use Rattle.and_code.proofs.places.anywhere.Goals as goal

pub returns-clause-none : goal.returns-clause-none
returns-clause-none c = λ e.
    none_anywhere c.args.reductions.now c.args.node c.args.item c.len.result c.len.ensures (c.among.ensures.none e)
