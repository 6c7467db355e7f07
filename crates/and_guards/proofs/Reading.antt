-- What terms read as.
pub use Rattle.and_branch_laws.proofs.Readings.{general_alike, one_reading, AreWhole, read_term, read_known, known_read}
