-- What numbers as bytes promise.
-- Assumes nothing.
-- there and back: a number from its bytes, and bytes from their number
pub use Rattle.little.proofs.Little.{little-bytes, bytes-little, little-below, length-bytes, bytes-below}
-- the functions' contracts give the number or the byte itself, and so leave one
pub use Rattle.little.proofs.Unique.{value-unique}
