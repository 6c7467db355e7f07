use Rattle.and_replies.proofs.VerifyLemmas.{is_divided}
use Rattle.and_replies.proofs.verifying.divided.Goals as goal

pub returns : goal.returns
returns c =
    is_divided c.args.bytes.now c.split_document.result c.split_document.ensures.mark c.split_document.ensures.last c.split_document.ensures.none
