use Rattle.and_drafts.proofs.Naming.{number_is}
use Rattle.and_judging.proofs.numbering.find_number.Goals as goal

pub returns : goal.returns
returns c = number_is c.args.name.now c.args.names.now.keys c.get_index_of.result c.unwrap_or.result c.len.result c.get_index_of.ensures.index
    c.unwrap_or.ensures c.len.ensures.len
