-- The laws on the run, each file standing on those above it. `Promises` states what the runner promises.
pub mod Places
pub mod Hands
pub mod Going
pub mod Landing
pub mod Entering
pub mod Further
pub mod Driving
pub mod Shaped
pub mod Courses
pub mod Unique
pub mod Examples
pub mod Promises
