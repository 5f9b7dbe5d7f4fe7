-- Laws on a mark and its number, on a place's fault, on the walk to the earliest bad mark, on the least and the
-- greatest, on the packing width, on the scan's stages, and on the turns of the loops. `Promises` states what the
-- functions promise, and `Unique` that the contract leaves one answer.
pub mod Marks
pub mod Faults
pub mod BadMarks
pub mod Ranges
pub mod Widths
pub mod Scans
pub mod Turns
pub mod Promises
pub mod Unique
pub mod Examples
