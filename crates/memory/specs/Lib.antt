-- What the contracts of memory modules cite, from sets of lines to the kinds of module.
pub mod Sets
pub mod Model
pub mod Post
pub mod Refusals
pub mod Calls
pub mod Conduct
pub mod Held
pub mod Moves
pub mod Kinds
pub mod Worked
