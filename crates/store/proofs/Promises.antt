-- What storing in a lent list promises.
-- Assumes nothing.
-- what a list holds once bytes are stored in it, and that one without room for them stays; either way it is as long as
-- it was
pub use Rattle.little.proofs.Stored.{put-there, put-stored, put-nowhere, put-keeps-length}
-- how long what is stored is
pub use Rattle.little.proofs.Little.{length-bytes}
pub use Rattle.little.proofs.Longs.{length-longs}
-- the functions' contracts give the list itself, and so leave one
pub use Rattle.little.proofs.Unique.{value-unique}
