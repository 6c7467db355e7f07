use Rattle.and_read_laws.proofs.Texts.{codes_mean, lines_mean, refutations_mean, listings_mean, variants_mean}
use Rattle.and_read_laws.proofs.texts_mean_sld.Goals as goal

pub returns-clause-codes : goal.returns-clause-codes
returns-clause-codes c = codes_mean

pub returns-clause-lines : goal.returns-clause-lines
returns-clause-lines c = lines_mean

pub returns-clause-refutations : goal.returns-clause-refutations
returns-clause-refutations c = refutations_mean

pub returns-clause-listings : goal.returns-clause-listings
returns-clause-listings c = listings_mean

pub returns-clause-variants : goal.returns-clause-variants
returns-clause-variants c = variants_mean
