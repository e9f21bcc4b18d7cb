pub mod FigureWays
pub mod MoveWays
pub mod NarrowWays
pub mod MakerWays
