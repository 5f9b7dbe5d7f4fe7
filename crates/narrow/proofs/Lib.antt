-- Upstream's clauses at the three widths.
pub mod Overflow
