-- Every finished run of the definition keeps its account (Kept), and what holds of every state of a run.
-- lists and triangles
pub mod Triangles
-- components
pub mod Even
pub mod Classes
-- meshes, and the steps that change them
pub mod Flips
pub mod Ends
pub mod Valid
pub mod Found
pub mod Rated
-- the walk through an attempt and through a run, for any invariant
pub mod Steps
pub mod Locks
pub mod Fronts
pub mod Run
pub mod Start
-- what a run keeps
pub mod Counting
pub mod Parity
pub mod Rooms
pub mod Quads
pub mod Geometry
pub mod Locked
pub mod Births
pub mod Placed
pub mod SameRound
-- a finished call
pub mod Finished
pub mod Joints
-- areas on the grid
pub mod Weights
pub mod Areas
pub mod Gridded
-- edges that were refused
pub mod Roles
pub mod Refused
pub mod Tracked
pub mod Pairs
pub mod Grown
pub mod Owners
-- for the proofs of the code
pub mod Floods
pub mod Rounds
pub mod Walks
pub mod Trials
pub mod Smaller
pub mod Jobs
pub mod Previews
pub mod Listed
pub mod Meshes
pub mod Reach
-- a trace and its replay
pub mod Redo
pub mod Attempts
