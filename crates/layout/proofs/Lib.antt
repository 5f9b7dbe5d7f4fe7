-- Laws on the layout: `Check` on the check's sum and `Changed` on one byte changed; `Unused` on unused numbers and marks; `Faults` on which refusal a block
-- gets; `Layouts` that a block is sound exactly when the sentences of `Told` hold of it; `Promises` what reading promises; `Runs` on runs of blocks;
-- `Examples` computes three checks.
pub mod Check
pub mod Unused
pub mod Changed
pub mod Faults
pub mod Layouts
pub mod Promises
pub mod Runs
pub mod Examples
