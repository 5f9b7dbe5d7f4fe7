-- Laws on whole floats and the test for them, on a place's faults and the earliest, and the promises of a level turned
-- into a field.
pub mod Values
pub mod Rounding
pub mod Casts
pub mod Together
pub mod Standing
pub mod Stages
pub mod Unique
pub mod Promises
pub mod Agreement
