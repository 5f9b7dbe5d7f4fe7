-- The definitions of this crate: a field's marks, its faults place by place, its range and packing width, and what the functions answer in numbers.
pub mod Field
pub mod Range
pub mod Answers
