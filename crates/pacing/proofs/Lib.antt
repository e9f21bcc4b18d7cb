pub mod HalfWindows
