-- What follows for every run of the definition, for whoever reads it; no code needs it.
-- the walk over edges, loops and rounds
pub mod ValidWalks
-- attempts in turn, and edges never flipped
pub mod InTurn
pub mod NeverFlipped
-- the refusals in their order, and where 8 and 9 come up
pub mod RefusalOrder
pub mod NoRoom
-- the grid profile, and room for a preview
pub mod GridEnds
pub mod Profile
pub mod PreviewRoom
-- the replay of a trace
pub mod ReplayOrder
pub mod Doubles
pub mod Played
pub mod Replays
pub mod Stages
-- a run without its trace
pub mod Quiet
pub mod Untraced
pub mod Traceless
pub mod NoTrace
