-- Refused edges in lent memory. A caller cites `Framing` and `Room`.
pub mod Edges
pub mod Walks
pub mod Standing
pub mod Framing
pub mod Opening
pub mod Blocking
pub mod Freeing
pub mod Room
