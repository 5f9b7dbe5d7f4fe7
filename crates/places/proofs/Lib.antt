-- Laws on the first place, on every place, on sums over places, on lists written place by place, on lists one after
-- the other, on a list laid over another, and on the earliest fault.
pub mod First
pub mod Every
pub mod Totals
pub mod Tables
pub mod Copies
pub mod Stores
pub mod Chains
pub mod Overlaid
pub mod Faults
