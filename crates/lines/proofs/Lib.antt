-- Laws on what is put into a line, and on how many digits a number has. `Promises` states what the functions promise.
pub mod Rooms
pub mod Lengths
pub mod Promises
