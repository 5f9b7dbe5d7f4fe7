-- What the sum for a block's check promises: it is document 01's sum for every block, and 0 for a list that is none.
-- Assumes nothing.
pub use Rattle.checksum.proofs.Sums.{sum-of-block, sum-of-no-block}
pub use Rattle.layout.proofs.Promises.{check-below-2^32}
-- the contract gives the number itself, and so leaves one
pub use Rattle.little.proofs.Unique.{value-unique}
