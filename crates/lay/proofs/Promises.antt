-- What laying a block promises.
-- Assumes nothing.
-- a block's bytes are those of `block_of`; a list that is no block stays, and so does a block for which the values are
-- too many, or numbers and marks not as many; either way it is as long as it was
pub use Rattle.lay.proofs.Laid.{block-laid, no-block-stays, too-many-stays, uneven-stays, laid-length}
-- the contract gives the list itself, and so leaves one
pub use Rattle.little.proofs.Unique.{value-unique}
