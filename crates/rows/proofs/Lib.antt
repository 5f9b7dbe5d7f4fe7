-- Laws on what an operation of a row comes to, on the lengths of its lists, on the loop that fills them and on what
-- they hold afterwards; a list that is lent again; and the promises of a row.
pub mod Elements
pub mod Lengths
pub mod Turns
pub mod Noted
pub mod Filling
pub mod Fields
pub mod After
pub mod Unique
pub mod Promises
