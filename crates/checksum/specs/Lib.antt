-- The definitions of this crate: the sum for a block's check, and, for its helpers, the sum by rows.
pub mod Sum
pub mod Rows
